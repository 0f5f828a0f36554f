-- Scans of a sequential frame of whose components the last ones have planes already: what is made
-- of their blocks decides nothing.
use Rattle.std.proofs.Common.{rules, ◌≡◌, ℕ, zero, suc, Bool, true, List, [], ◌∷◌, ◌+◌, ◌<◌, ◌≤◌, length}
use Rattle.std.proofs.Common.{Option, None, Result, Ok, Err, refl, sym, ap, ap₂, ◌∙◌, subst, arith, drop, map, take, get_or}
use Rattle.std.proofs.lemmas.Bool.{cases_lt}
use Rattle.std.proofs.lemmas.List.{drop_all, drop-map, get_or_default, get_or-drop, length-drop, length-map}
use Rattle.std.proofs.lemmas.List.Elements.{All-map, All-weaker, recursion_from_All}
use Rattle.std.specs.Prelude.{All, is_some, slice_set, slice_index_or}
use Rattle.std.specs.List.{AllByRecursion, AllWithin}
use Rattle.jpeg_bits.specs.Reading.{Outcome, Fault}
use Rattle.jpeg_bits.specs.Entropy.{Text}
use Rattle.jpeg_bits.specs.Readers.{Reads, read_on}
use Rattle.jpeg_bits.specs.declared.marker.Marker.{Marker}
use Rattle.jpeg_bits.specs.Passes.{Pass, Via}
use Rattle.jpeg_segments.specs.Frame.{Frame, Component}
use Rattle.jpeg_meaning.specs.Found.{Found}
use Rattle.jpeg_meaning.specs.InTurn.{Counted, blocks_from}
use Rattle.jpeg_meaning.specs.McuRows.{on_arrays, zero_rows}
use Rattle.jpeg_meaning.specs.Order.{Spot}
use Rattle.jpeg_meaning.specs.ScanSegments.{Coding, components_of}
use Rattle.jpeg_meaning.proofs.Order.McuRows.{AreRows, KeepsCounted, blocks-any, rows-count, rows-kept}
use Rattle.jpeg_meaning.proofs.Order.McuRows.{zero-rows}
use Rattle.jpeg_decoder.specs.Steps.{coding_in, decided_planes, marks_after, with_first_planes, with_its_plane}
use Rattle.jpeg_decoder.specs.Steps.{with_planes, AreDecidedFrom, IsDecided}
use Rattle.jpeg_decoder.specs.Strips.{no_samples, planes_by_rows, strips_from, with_strips}
use Rattle.jpeg_decoder.proofs.Scans.DecidedPlanes.{planes_kept}
use Rattle.jpeg_decoder.proofs.PutLoops.{seen-any, seen-at}
use Rattle.jpeg_decoder.proofs.Strips.FirstPlanes.{none-long}
use Rattle.jpeg_decoder.proofs.Strips.StripRows.{strips-first, strips-length}
use Rattle.jpeg_decoder.specs.declared.scan.coded.Coded.{Coded}
use Rattle.jpeg_decoder.proofs.Strips.StripScans.{Planes, ended, marked}
use Rattle.std.proofs.lemmas.Grind.{common_steps}

-- ---- with the planes of all components, and of the first ones

-- outcomes of one reading with n planes and with the first k of them
unfoldable Alike : ℕ → ℕ → Result (Planes × Text) Fault → Result (Planes × Text) Fault → Type 0
Alike k n (Ok r) (Ok q) = (r.1 ≡ q.1) × ((length r.0 ≡ n) × (q.0 ≡ take k r.0))
Alike k n (Err f) (Err g) = f ≡ g
Alike k n _ _ = ⊥

abbrev After : Type 0
After = Result (Counted × Text) Fault

abbrev step : Pass → List Via → ℕ → List Coding → List (List Spot) → Planes → Counted → Reads Planes
step p vias n codings rows planes r = strips_from p vias n codings rows
    (with_strips codings r.reached.arrays planes) (on_arrays [] r)

alike-strips : (k : ℕ) (p : Pass) (vias : List Via) (n : ℕ) (codings : List Coding) (rows : List (List Spot))
    (planes : Planes) (old : Counted) (t : Text) → length planes ≡ length codings
    → Alike k (length codings) (strips_from p vias n codings rows planes old t)
    (strips_from p vias n codings rows (take k planes) old t)
unfolding strips_from Alike
alike-strips k p vias n codings [] planes old t e = (refl, (e, refl))
alike-strips k p vias n codings (spots ∷ rows) planes old t e =
    go (λ qs r u long. alike-strips k p vias n codings rows qs r u long) (blocks_from p vias n spots start t)
    (blocks-any (AreRows 1 cs) (rows-kept 1 cs) p vias n spots start t (zero-rows 1 cs))
  where
    cs : List Component
    cs = components_of codings

    start : Counted
    start = on_arrays (zero_rows 1 cs) old

    go : ((qs : Planes) (r : Counted) (u : Text) → length qs ≡ length codings
        → Alike k (length codings) (strips_from p vias n codings rows qs r u)
        (strips_from p vias n codings rows (take k qs) r u))
        → (o : After) → KeepsCounted (AreRows 1 cs) o
        → Alike k (length codings) (read_on (step p vias n codings rows planes) o)
        (read_on (step p vias n codings rows (take k planes)) o)
    go more (Err f) kept = refl
    go more (Ok r) kept =
        let arrays = r.0.reached.arrays in
        let long = rows-count 1 cs arrays kept ∙ length-map codings (λ (c : Coding). c.component) in
        subst (λ (l : Planes). Alike k (length codings) (step p vias n codings rows planes r.0 r.1)
        (strips_from p vias n codings rows l (on_arrays [] r.0) r.1)) (sym (strips-first k codings arrays planes))
        (more (with_strips codings arrays planes) (on_arrays [] r.0) r.1
        (strips-length codings arrays planes long (omega (arith, e)) ∙ e))

-- the same of a scan with the marker after it
unfoldable AlikeEnds : ℕ → ℕ → Outcome (Planes × Option Marker) → Outcome (Planes × Option Marker) → Type 0
AlikeEnds k n (Ok r) (Ok q) = (r.0.1 ≡ q.0.1) × ((r.1 ≡ q.1) × ((length r.0.0 ≡ n) × (q.0.0 ≡ take k r.0.0)))
AlikeEnds k n (Err f) (Err g) = f ≡ g
AlikeEnds k n _ _ = ⊥

alike-ended : (k n : ℕ) (o q : Result (Planes × Text) Fault) → Alike k n o q → AlikeEnds k n (ended o) (ended q)
unfolding Alike AlikeEnds ended
alike-ended k n o q h = grind (arith, common_steps, marked)

module _ (k : ℕ) (p : Pass) (vias : List Via) (n : ℕ) (frame : Frame) (codings : List Coding) (bytes : List ℕ) where
  abbrev by_rows : Planes → Outcome (Planes × Option Marker)
  by_rows start = planes_by_rows p vias n frame codings start bytes

  -- all planes before the scan, and the first ones
  abbrev all : Planes
  all = no_samples codings

  abbrev first : Planes
  first = take k (no_samples codings)

  alike-scans : AlikeEnds k (length codings) (by_rows all) (by_rows first)
  unfolding planes_by_rows ended
  alike-scans = search (rules, arith, alike-ended, alike-strips, length-map)

  pub first-refused : (fault : Fault) → by_rows first ≡ Err fault → by_rows all ≡ Err fault
  unfolding AlikeEnds
  first-refused fault h = grind (arith, common_steps, alike-scans)

  -- the planes that would have been made of all components
  pub record ReadAll (made : Planes) (met : Option Marker) (rest : List ℕ) : Type 0 where
    pub planes : Planes
    pub count : length planes ≡ length codings
    pub begins : made ≡ take k planes
    pub read : by_rows all ≡ Ok ((planes, met), rest)

  pub first-read : (made : Planes) (met : Option Marker) (rest : List ℕ) → by_rows first ≡ Ok ((made, met), rest)
      → ReadAll made met rest
  unfolding AlikeEnds
  first-read made met rest h = go (by_rows all) refl (by_rows first) alike-scans h
    where
      go : (o : Outcome (Planes × Option Marker)) → by_rows all ≡ o
          → (q : Outcome (Planes × Option Marker))
          → AlikeEnds k (length codings) o q → q ≡ Ok ((made, met), rest) → ReadAll made met rest
      go (Err f) e (Ok q) l h = absurd l
      go (Err f) e (Err g) l h = absurd cc
      go (Ok r) e (Err g) l h = absurd l
      go (Ok r) e (Ok q) l h =
          let same : q ≡ ((made, met), rest) = cc in
          record {
            planes = r.0.0;
            count = l.1.1.0;
            begins = sym (ap (λ x. x.0.0) same) ∙ l.1.1.1;
            read = e ∙ ap₂ (λ (m : Option Marker) (l : List ℕ). Ok ((r.0.0, m), l)) (l.0 ∙ ap (λ x. x.0.1) same)
                (l.1.0 ∙ ap (λ x. x.1) same);
          }

-- ---- what is found after them

finished_after : Pass → List Coding → List (List Bool) → List (List Bool)
finished_after p [] marks = marks
finished_after p (c ∷ codings) marks =
    finished_after p codings (slice_set marks c.index (marks_after p marks c.index))

its-plane-decided : (p : Pass) (index : ℕ) (plane : List ℕ) (found : Found)
    → is_some (slice_index_or found.planes index None) ≡ true
    → with_its_plane p index plane found
    ≡ record found {
      finished = slice_set found.finished index (marks_after p found.finished index);
    }
unfolding with_its_plane
its-plane-decided p index plane found h = grind (arith, common_steps, planes_kept)

planes-decided : (p : Pass) (codings : List Coding) (planes : Planes) (found : Found)
    → AllByRecursion (IsDecided found.planes) codings → length planes ≡ length codings
    → with_planes p codings planes found ≡ record found { finished = finished_after p codings found.finished }
unfolding with_planes finished_after
planes-decided p [] [] found h e = refl
planes-decided p (c ∷ codings) (x ∷ planes) found h e =
    grind (arith, common_steps, its-plane-decided, planes-decided p codings planes)
planes-decided p _ _ found h e = absurd (omega arith)

-- What is decided stays so.
its-plane-stays : (p : Pass) (index : ℕ) (plane : List ℕ) (found : Found) (c : Coding) → IsDecided found.planes c
    → IsDecided (with_its_plane p index plane found).planes c
unfolding with_its_plane decided_planes
its-plane-stays p index plane found c h = grind (arith, common_steps)

planes-stay : (p : Pass) (codings : List Coding) (planes : Planes) (found : Found) (c : Coding)
    → IsDecided found.planes c → IsDecided (with_planes p codings planes found).planes c
unfolding with_planes
planes-stay p (d ∷ codings) (x ∷ planes) found c h =
    planes-stay p codings planes (with_its_plane p d.index x found) c (its-plane-stays p d.index x found c h)
planes-stay p _ _ found c h = h

pub stay-decided : (p : Pass) (k : ℕ) (codings : List Coding) (planes : Planes) (found : Found)
    → AreDecidedFrom k found.planes codings → AreDecidedFrom k (with_planes p codings planes found).planes codings
stay-decided p k codings planes found h =
    All-weaker (IsDecided found.planes) (IsDecided (with_planes p codings planes found).planes)
    (planes-stay p codings planes found) (drop k codings) h

pub none-added : (p : Pass) (codings : List Coding) (found : Found) → with_planes p codings [] found ≡ found
unfolding with_planes
none-added p [] found = refl
none-added p (c ∷ codings) found = refl

-- Where the planes of all components after the first k are decided, it doesn't matter what others these would have.
rest-decided : (p : Pass) (k : ℕ) (codings : List Coding) (all : Planes) (found : Found)
    → length all ≡ length codings → AreDecidedFrom k found.planes codings
    → with_planes p (drop k codings) (no_samples (drop k codings)) (with_planes p codings (take k all) found)
    ≡ with_planes p codings all found
unfolding with_planes
rest-decided p zero codings all found e h =
    let decided = recursion_from_All (IsDecided found.planes) codings h in
    ap (with_planes p codings (no_samples codings)) (none-added p codings found)
    ∙ planes-decided p codings (no_samples codings) found decided (none-long codings)
    ∙ sym (planes-decided p codings all found decided e)
rest-decided p (suc k) [] [] found e h = refl
rest-decided p (suc k) (c ∷ codings) (x ∷ all) found e h =
    let next = with_its_plane p c.index x found in
    rest-decided p k codings all next (omega (arith, e))
    (All-weaker (IsDecided found.planes) (IsDecided next.planes) (its-plane-stays p c.index x found) (drop k codings) h)
rest-decided p (suc k) _ _ found e h = absurd (omega (arith, e))

pub first-planes : (p : Pass) (codings : List Coding) (made all : Planes) (found : Found)
    → length all ≡ length codings → made ≡ take (length made) all → AreDecidedFrom (length made) found.planes codings
    → with_first_planes p codings made found ≡ with_planes p codings all found
first-planes p codings made all found e is h =
    let others = drop (length made) codings in
    ap (λ (l : Planes). with_planes p others (no_samples others) (with_planes p codings l found)) is
    ∙ rest-decided p (length made) codings all found e h

-- The others keep their planes.
pub others-kept : (p : Pass) (codings : List Coding) (made : Planes) (found : Found)
    → AreDecidedFrom (length made) found.planes codings
    → (with_first_planes p codings made found).planes ≡ (with_planes p codings made found).planes
others-kept p codings made found h =
    let others = drop (length made) codings in
    let next = with_planes p codings made found in
    ap (λ (f : Found). f.planes) (planes-decided p others (no_samples others) next
    (recursion_from_All (IsDecided next.planes) others (stay-decided p (length made) codings made found h))
    (none-long others))

-- There are no others.
pub none-after : (planes : List (Option (List ℕ))) (k : ℕ) (codings : List Coding) → length codings ≤ k
    → AreDecidedFrom k planes codings
none-after planes k codings h i d lt = absurd (omega (arith, lt, h, length-drop k codings))

pub all-first : (p : Pass) (codings : List Coding) (made : Planes) (found : Found) → length made ≡ length codings
    → with_first_planes p codings made found ≡ with_planes p codings made found
all-first p codings made found e =
    let none : drop (length made) codings ≡ [] = drop_all (length made) codings (omega (arith, e)) in
    ap (λ (l : List Coding). with_planes p l (no_samples l) (with_planes p codings made found)) none
    ∙ none-added p [] (with_planes p codings made found)

-- ---- a loop over the components

-- one component more, whose plane stays
pub mark-step : (p : Pass) (cs : List Coded) (i : ℕ) (c : Coded) (found : Found) (marks : List Bool)
    → i < length cs → c ≡ get_or cs i c → is_some (slice_index_or found.planes c.index None) ≡ true
    → marks ≡ marks_after p found.finished c.index
    → with_planes p (drop (i + 1) (map coding_in cs)) (drop (i + 1) (no_samples (map coding_in cs)))
    (record found { finished = slice_set found.finished c.index marks })
    ≡ with_planes p (drop i (map coding_in cs)) (drop i (no_samples (map coding_in cs))) found
unfolding with_planes
mark-step p cs i c found marks h is decided e =
    let codings = map coding_in cs in
    let empty = no_samples codings in
    let none : drop i empty ≡ [] ∷ drop (i + 1) empty =
    seen-any {A = Coding} {B = List ℕ} (λ d. []) codings i (coding_in c) (omega (arith, length-map cs coding_in)) in
    let one : record found { finished = slice_set found.finished c.index marks } ≡ with_its_plane p c.index [] found =
    rw e (sym (its-plane-decided p c.index [] found decided)) in
    rw (seen-at coding_in cs i c h is, none)
    (ap (λ (f : Found). with_planes p (drop (i + 1) codings) (drop (i + 1) empty) f) one)

-- what holds from a place on, of a list that is seen by a function
pub all-from : {X Y : Type 0} (P : Y → Type 0) (f : X → Y) (xs : List X) (k n : ℕ) → length xs ≤ n
    → AllWithin (λ (x : X). P (f x)) xs k n → All P (drop k (map f xs))
all-from P f xs k n all h =
    subst (All P) (sym (drop-map f k xs)) (All-map P f (drop k xs) (λ i d lt.
    subst (λ x. P (f x)) (sym (get_or-drop k xs i d)) (h (k + i) d (omega arith) (omega (arith, lt, all, length-drop k xs)))))

pub so-far-next : {X : Type 0} (P : X → Type 0) (xs : List X) (i : ℕ) (x : X) → x ≡ get_or xs i x → i < length xs → P x
    → ((k : ℕ) (d : X) → k < i → P (get_or xs k d)) → (k : ℕ) (d : X) → k < i + 1 → P (get_or xs k d)
so-far-next P xs i x is h px before k d lt = grind (arith, common_steps, cases_lt, get_or_default)
