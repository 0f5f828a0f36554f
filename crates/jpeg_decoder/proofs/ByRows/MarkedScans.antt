-- A scan of all components of a frame, which codes all coefficients: what it marks, and the planes that it decides.
use Rattle.std.proofs.Common.{◌≡◌, ℕ, zero, suc, ◌+◌, ◌-◌, ◌<◌, ◌≤◌, List, [], ◌∷◌, ◌++◌, map, take, drop, length}
use Rattle.std.proofs.Common.{replicate, Bool, true, false, true≢false, Option, Some, None, get_or, refl, sym, ap, ap₂}
use Rattle.std.proofs.Common.{◌∙◌, subst, arith, append_assoc, length-append}
use Rattle.std.proofs.Math.Seq.{get_or-append_seam, set-append_seam, take-append_seam}
use Rattle.std.proofs.lemmas.Bool.{eq-eqb, eqb-true}
use Rattle.std.proofs.lemmas.List.{drop_all, get_or-set_other, get_or-set_same, length-map, length-set}
use Rattle.std.proofs.lemmas.List.Elements.{All-map}
use Rattle.std.specs.Prelude.{◌==◌, All, slice_index_or, slice_set}
use Rattle.std.specs.List.{AllByRecursion, list_all}
use Rattle.jpeg_bits.specs.Passes.{Pass}
use Rattle.jpeg_segments.specs.Frame.{Component, Frame}
use Rattle.jpeg_segments.specs.ScanHeader.{IsRising}
use Rattle.jpeg_meaning.specs.Found.{Found, none_finished}
use Rattle.jpeg_meaning.specs.Scans.{Arrays}
use Rattle.jpeg_meaning.specs.ScanSegments.{Coding, components_of, with_arrays, with_blocks}
use Rattle.jpeg_meaning.proofs.Order.Apart.{At}
use Rattle.jpeg_meaning.proofs.Order.McuRows.{IsOf}
use Rattle.jpeg_decoder.specs.ByRows.{without_planes}
use Rattle.jpeg_decoder.specs.PlanesView.{planes_in}
use Rattle.jpeg_decoder.specs.Scanning.{arrays_in}
use Rattle.jpeg_decoder.specs.declared.scan.decoded.Decoded.{Decoded}
use Rattle.jpeg_decoder.proofs.Kept.BlockArrays.{Held}
use Rattle.std.specs.declared.alloc.Global.{Global}
use Rattle.std.specs.declared.vec.Vec.{Vec}
use Rattle.jpeg_decoder.specs.Givers.{AreFound}
use Rattle.jpeg_decoder.specs.Steps.{coding_in, decided_planes, marks_after, with_decoded, with_its_plane, with_planes}
use Rattle.jpeg_decoder.specs.declared.scan.coded.Coded.{Coded}
use Rattle.jpeg_decoder.proofs.PutLoops.{seen-at}
use Rattle.jpeg_decoder.proofs.Scans.DecidedScans.{so-far-next}

-- ---- what is found, but for the planes

-- the marks after a scan of these components
pub marks_of : Pass → List Coding → List (List Bool) → List (List Bool)
marks_of p [] marks = marks
marks_of p (c ∷ codings) marks = marks_of p codings (slice_set marks c.index (marks_after p marks c.index))

pub arrays-without : (p : Pass) (codings : List Coding) (arrays : Arrays) (found : Found)
    → length arrays ≡ length codings
    → without_planes (with_arrays p codings arrays found)
    ≡ record (without_planes found) { finished = marks_of p codings found.finished }
unfolding with_arrays with_blocks marks_of
arrays-without p [] [] found e = refl
arrays-without p (c ∷ codings) (a ∷ arrays) found e =
    arrays-without p codings arrays (with_blocks p c a found) (omega arith)
arrays-without p [] (a ∷ arrays) found e = absurd (omega arith)
arrays-without p (c ∷ codings) [] found e = absurd (omega arith)

pub planes-without : (p : Pass) (codings : List Coding) (planes : List (List ℕ)) (found : Found)
    → length planes ≡ length codings
    → without_planes (with_planes p codings planes found)
    ≡ record (without_planes found) { finished = marks_of p codings found.finished }
unfolding with_planes with_its_plane marks_of
planes-without p [] [] found e = refl
planes-without p (c ∷ codings) (x ∷ planes) found e =
    planes-without p codings planes (with_its_plane p c.index x found) (omega arith)
planes-without p [] (x ∷ planes) found e = absurd (omega arith)
planes-without p (c ∷ codings) [] found e = absurd (omega arith)

-- ---- a loop over the components

pub marks-step : (p : Pass) (cs : List Coded) (i : ℕ) (c : Coded) (finished : List (List Bool)) (marks : List Bool)
    → i < length cs → c ≡ get_or cs i c → marks ≡ marks_after p finished c.index
    → marks_of p (drop (i + 1) (map coding_in cs)) (slice_set finished c.index marks)
    ≡ marks_of p (drop i (map coding_in cs)) finished
unfolding marks_of
marks-step p cs i c finished marks lt is e =
    ap (λ (m : List Bool). marks_of p (drop (i + 1) (map coding_in cs)) (slice_set finished c.index m)) e
    ∙ ap (λ (l : List Coding). marks_of p l finished) (sym (seen-at coding_in cs i c lt is))

pub marks-none : (p : Pass) (cs : List Coded) (i : ℕ) (finished : List (List Bool)) → length cs ≤ i
    → marks_of p (drop i (map coding_in cs)) finished ≡ finished
unfolding marks_of
marks-none p cs i finished le =
    ap (λ (l : List Coding). marks_of p l finished)
    (drop_all i (map coding_in cs) (omega (arith, le, length-map cs coding_in)))

-- marks that are all there stay so
set-keeps : (finished : List (List Bool)) (marks : List Bool) (i j : ℕ) → i < length finished
    → list_all (λ mark. mark) marks ≡ true → list_all (λ mark. mark) (slice_index_or finished j none_finished) ≡ true
    → list_all (λ mark. mark) (slice_index_or (slice_set finished i marks) j none_finished) ≡ true
set-keeps finished marks i j lt all before = go (j == i) refl
  where
    go : (b : Bool) → (j == i) ≡ b
        → list_all (λ mark. mark) (slice_index_or (slice_set finished i marks) j none_finished) ≡ true
    go true e =
        let same : j ≡ i = eqb-true j i e in
        ap (list_all (λ mark. mark)) (ap (λ (k : ℕ). slice_index_or (slice_set finished i marks) k none_finished) same
        ∙ get_or-set_same finished i marks none_finished lt) ∙ all
    go false e =
        ap (list_all (λ mark. mark)) (get_or-set_other finished i j marks none_finished
        (λ same. true≢false (sym (eq-eqb j i same) ∙ e))) ∙ before

-- all coefficients of the first components are marked
abbrev pub AreMarkedTo : List (List Bool) → List Coded → ℕ → Type 0
AreMarkedTo finished cs i = (k : ℕ) (d : Coded) → k < i
    → list_all (λ mark. mark) (slice_index_or finished (get_or cs k d).index none_finished) ≡ true

pub marked-next : (cs : List Coded) (i : ℕ) (c : Coded) (finished : List (List Bool)) (marks : List Bool)
    → i < length cs → c ≡ get_or cs i c → c.index < length finished → list_all (λ mark. mark) marks ≡ true
    → AreMarkedTo finished cs i → AreMarkedTo (slice_set finished c.index marks) cs (i + 1)
marked-next cs i c finished marks lt is within all before =
    let next = slice_set finished c.index marks in
    so-far-next (λ (x : Coded). list_all (λ mark. mark) (slice_index_or next x.index none_finished) ≡ true) cs i c is lt
    (ap (list_all (λ mark. mark)) (get_or-set_same finished c.index marks none_finished within) ∙ all)
    (λ k d h. set-keeps finished marks c.index (get_or cs k d).index within all (before k d h))

pub marked-ended : (cs : List Coded) (codings : List Coding) (i : ℕ) (finished : List (List Bool)) → length cs ≤ i
    → map coding_in cs ≡ codings → AreMarkedTo finished cs i
    → All (λ c. list_all (λ mark. mark) (slice_index_or finished c.index none_finished) ≡ true) codings
marked-ended cs codings i finished le same marked =
    subst (All (λ (c : Coding). list_all (λ mark. mark) (slice_index_or finished c.index none_finished) ≡ true)) same
    (All-map (λ (c : Coding). list_all (λ mark. mark) (slice_index_or finished c.index none_finished)
    ≡ true) coding_in cs
    (λ k d lt. marked k d (omega arith)))

-- what is found after all of them
pub marked-all : (p : Pass) (codings : List Coding) (arrays : Arrays) (base : Found) (old new : Decoded)
    → new.kept ≡ old.kept → new.samples ≡ old.samples → new.finished ≡ marks_of p codings old.finished
    → length arrays ≡ length codings
    → without_planes (with_decoded base new) ≡ without_planes (with_arrays p codings arrays (with_decoded base old))
marked-all p codings arrays base old new kept samples finished count =
    ap (λ (k : Vec Held Global). record base {
      kept = arrays_in k.items;
      finished = new.finished;
      planes = [];
      samples = planes_in new.samples;
    }) kept
    ∙ ap (λ (s : List (Option (Vec ℕ Global))). record base {
      kept = arrays_in old.kept.items;
      finished = new.finished;
      planes = [];
      samples = planes_in s;
    }) samples
    ∙ ap (λ (m : List (List Bool)). record base {
      kept = arrays_in old.kept.items;
      finished = m;
      planes = [];
      samples = planes_in old.samples;
    }) finished
    ∙ sym (arrays-without p codings arrays (with_decoded base old) count)

-- ---- all components, in their order

-- the components of a scan are those of a frame from one on
pub IsInOrderFrom : ℕ → List Coding → Type 0
IsInOrderFrom k [] = Unit {0}
IsInOrderFrom k (c ∷ codings) = (c.index ≡ k) × IsInOrderFrom (suc k) codings

-- rising indices below a number are no more than it
rising-room : (least n : ℕ) (indices : List ℕ) → least ≤ n → IsRising least indices → All (λ index. index < n) indices
    → least + length indices ≤ n
unfolding IsRising
rising-room least n [] le r below = omega arith
rising-room least n (i ∷ more) le r below =
    let lt : i < n = below 0 0 (omega arith) in
    let low = r.0 in
    let rest = rising-room (i + 1) n more (omega arith) r.1 (λ k d h. below (suc k) d (omega arith)) in
    omega arith

pub rising-order : (k n : ℕ) (codings : List Coding) → IsRising k (map (λ (c : Coding). c.index) codings)
    → All (λ index. index < n) (map (λ (c : Coding). c.index) codings) → k + length codings ≡ n
    → IsInOrderFrom k codings
unfolding IsRising IsInOrderFrom
rising-order k n [] r below e = tt
rising-order k n (c ∷ codings) r below e =
    let indices = map (λ (c : Coding). c.index) codings in
    let lt : c.index < n = below 0 0 (omega arith) in
    let low = r.0 in
    let long = length-map codings (λ (c : Coding). c.index) in
    let rest : All (λ index. index < n) indices = λ i d h. below (suc i) d (omega arith) in
    let room = rising-room (c.index + 1) n indices (omega arith) r.1 rest in
    let is : c.index ≡ k = omega arith in
    let next : c.index + 1 ≡ suc k = omega arith in
    (is, rising-order (suc k) n codings (subst (λ (j : ℕ). IsRising j indices) next r.1) rest (omega arith))

at-drop : (k : ℕ) (cs : List Component) (c : Component) → At k cs c → drop k cs ≡ c ∷ drop (suc k) cs
at-drop k [] c h = absurd h
at-drop zero (x ∷ cs) c h = ap (λ (y : Component). y ∷ cs) h
at-drop (suc k) (x ∷ cs) c h = at-drop k cs c h

pub order-components : (frame : Frame) (k : ℕ) (codings : List Coding) → IsInOrderFrom k codings
    → AllByRecursion (IsOf frame) codings → k + length codings ≡ length frame.components
    → components_of codings ≡ drop k frame.components
unfolding IsInOrderFrom
order-components frame k [] o of e = sym (drop_all k frame.components (omega arith))
order-components frame k (c ∷ codings) o of e =
    ap (λ (l : List Component). c.component ∷ l) (order-components frame (suc k) codings o.1 of.1 (omega arith))
    ∙ sym (at-drop k frame.components c.component
    (subst (λ (j : ℕ). At j frame.components c.component) o.0 of.0.here))

-- ---- the planes

-- all coefficients of these components are marked
abbrev pub AreMarked : List (List Bool) → List Coding → Type 0
AreMarked finished codings =
    AllByRecursion (λ c. list_all (λ mark. mark) (slice_index_or finished c.index none_finished) ≡ true) codings

-- Components from one on leave the marks of those before it.
marks-kept : (p : Pass) (k j : ℕ) (codings : List Coding) (finished : List (List Bool)) → j < k
    → IsInOrderFrom k codings
    → slice_index_or (marks_of p codings finished) j none_finished ≡ slice_index_or finished j none_finished
unfolding marks_of IsInOrderFrom
marks-kept p k j [] finished lt o = refl
marks-kept p k j (c ∷ codings) finished lt o =
    let at = o.0 in
    let marks = marks_after p finished c.index in
    marks-kept p (suc k) j codings (slice_set finished c.index marks) (omega arith) o.1
    ∙ get_or-set_other finished c.index j marks none_finished (λ e. omega arith)

-- a plane that is decided
plane-put : (p : Pass) (found : Found) (front rest : List (Option (List ℕ))) (index k : ℕ) (plane : List ℕ)
    → list_all (λ mark. mark) (marks_after p found.finished index) ≡ true → index ≡ k → length front ≡ k
    → found.planes ≡ front ++ None ∷ rest
    → (with_its_plane p index plane found).planes ≡ front ++ Some plane ∷ rest
unfolding with_its_plane decided_planes
plane-put p found front rest index k plane all at long is =
    let here : index ≡ length front = at ∙ sym long in
    let none : slice_index_or found.planes index None ≡ None =
    ap₂ (λ (ps : List (Option (List ℕ))) (j : ℕ). slice_index_or ps j None) is here
    ∙ get_or-append_seam front None rest None in
    let put : slice_set found.planes index (Some plane) ≡ front ++ Some plane ∷ rest =
    ap₂ (λ (ps : List (Option (List ℕ))) (j : ℕ). slice_set ps j (Some plane)) is here
    ∙ set-append_seam front None rest (Some plane) in
    rw (all, none) put

-- the marks of the first component, which the others leave
first-marked : (p : Pass) (k : ℕ) (c : Coding) (codings : List Coding) (found : Found) (plane : List ℕ)
    (final : List (List Bool)) → c.index ≡ k → IsInOrderFrom (suc k) codings → k < length found.finished
    → marks_of p codings (with_its_plane p c.index plane found).finished ≡ final
    → list_all (λ mark. mark) (slice_index_or final c.index none_finished) ≡ true
    → list_all (λ mark. mark) (marks_after p found.finished c.index) ≡ true
unfolding with_its_plane
first-marked p k c codings found plane final at order lt is marked =
    let marks = marks_after p found.finished c.index in
    let next = slice_set found.finished c.index marks in
    let here : slice_index_or final c.index none_finished ≡ marks =
    ap (λ (m : List (List Bool)). slice_index_or m c.index none_finished) (sym is)
    ∙ marks-kept p (suc k) c.index codings next (omega arith) order
    ∙ get_or-set_same found.finished c.index marks none_finished (omega arith) in
    ap (list_all (λ mark. mark)) (sym here) ∙ marked

finished-long : (p : Pass) (index : ℕ) (plane : List ℕ) (found : Found)
    → length (with_its_plane p index plane found).finished ≡ length found.finished
unfolding with_its_plane
finished-long p index plane found =
    length-set found.finished index (marks_after p found.finished index)

planes-from : (p : Pass) (k n : ℕ) (codings : List Coding) (planes : List (List ℕ)) (front : List (Option (List ℕ)))
    (found : Found) (final : List (List Bool)) → IsInOrderFrom k codings → length planes ≡ length codings
    → length front ≡ k → k + length codings + n ≡ 4 → length found.finished ≡ 4
    → marks_of p codings found.finished ≡ final → AreMarked final codings
    → found.planes ≡ front ++ replicate (length codings + n) None
    → (with_planes p codings planes found).planes ≡ front ++ (map Some planes ++ replicate n None)
unfolding with_planes with_its_plane IsInOrderFrom marks_of
planes-from p k n [] [] front found final o e long four size all marked is =
    let none : 0 + n ≡ n = omega arith in is ∙ ap (λ (m : ℕ). front ++ replicate m None) none
planes-from p k n (c ∷ codings) (x ∷ planes) front found final o e long four size all marked is =
    let next = with_its_plane p c.index x found in
    let rest : List (Option (List ℕ)) = replicate (length codings + n) None in
    let count : suc (length codings) + n ≡ suc (length codings + n) = omega arith in
    let put = plane-put p found front rest c.index k x
    (first-marked p k c codings found x final o.0 o.1 (omega arith) all marked.0) o.0 long
    (is ∙ ap (λ (m : ℕ). front ++ replicate m None) count) in
    let joined = length-append front (Some x ∷ []) in
    planes-from p (suc k) n codings planes (front ++ Some x ∷ []) next final o.1 (omega arith) (omega arith)
    (omega arith)
    (finished-long p c.index x found ∙ size) all marked.1 (put ∙ sym (append_assoc front (Some x ∷ []) rest))
    ∙ append_assoc front (Some x ∷ []) (map Some planes ++ replicate n None)
planes-from p k n [] (x ∷ planes) front found final o e long four size all marked is = absurd (omega arith)
planes-from p k n (c ∷ codings) [] front found final o e long four size all marked is = absurd (omega arith)

-- The planes of a scan of all components are found, where none was decided and it finishes all coefficients.
pub planes-found : (p : Pass) (codings : List Coding) (planes : List (List ℕ)) (found : Found)
    → IsInOrderFrom 0 codings → length planes ≡ length codings → length codings ≤ 4 → length found.finished ≡ 4
    → AreMarked (marks_of p codings found.finished) codings → found.planes ≡ replicate 4 None
    → AreFound planes (with_planes p codings planes found).planes
planes-found p codings planes found order count few size marked none =
    let n = 4 - length codings in
    let four : length codings + n ≡ 4 = omega arith in
    let found-planes = planes-from p 0 n codings planes [] found (marks_of p codings found.finished) order count refl
    (omega arith) size refl marked (none ∙ ap (λ (m : ℕ). replicate m None) (sym four)) in
    let long : length planes ≡ length (map Some planes) = sym (length-map planes Some) in
    ap (take (length planes)) found-planes
    ∙ ap (λ (m : ℕ). take m (map Some planes ++ replicate n None)) long
    ∙ take-append_seam (map Some planes) (replicate n None)
