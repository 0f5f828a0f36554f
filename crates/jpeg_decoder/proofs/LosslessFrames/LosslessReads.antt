-- A lossless scan as it is read: its tables, its samples and where they are put.
use Rattle.std.proofs.Common.{rules, ◌≡◌, ℕ, zero, suc, ◌+◌, ◌*◌, ◌<◌, ◌≤◌, ◌==◌, Bool, false, List}
use Rattle.std.proofs.Common.{[], ◌∷◌, ◌++◌, All, length, map, drop, get_or, set, Option, Some}
use Rattle.std.proofs.Common.{None, Result, Ok, Err, refl, sym, ap, ◌∙◌, subst, arith}
use Rattle.std.specs.Prelude.{IfErr, IfOk, MatchResult, OnOk, slice_get, slice_index_or, slice_set}
use Rattle.std.proofs.lemmas.Option.{get_or_from_slice_get, slice_get-get_or}
use Rattle.std.specs.declared.alloc.Global.{Global}
use Rattle.std.specs.declared.vec.Vec.{Vec}
use Rattle.std.proofs.lemmas.List.{get_or-map, length-map, map-set, append-nil, drop-set-lt, drop_all}
use Rattle.std.proofs.lemmas.List.{drop_more}
use Rattle.std.specs.List.{AllByRecursion, enumerate_from}
use Rattle.std.proofs.lemmas.List.Elements.{All-from_recursion, recursion_from_All}
use Rattle.jpeg_bits.specs.Codes.{Table}
use Rattle.jpeg_bits.specs.Reading.{Answers, Fault, Names, Outcome, ◌>>=◌}
use Rattle.jpeg_bits.specs.Stream.{Stream}
use Rattle.jpeg_bits.specs.declared.error.Error.{Error}
use Rattle.jpeg_bits.specs.declared.marker.Marker.{Marker}
use Rattle.jpeg_bits.proofs.Loops.{Names-through, bind_at, bind_err}
use Rattle.jpeg_segments.specs.Frame.{Component, Frame, ceiling, most_across, most_down}
use Rattle.jpeg_segments.specs.FrameView.{component_in}
use Rattle.jpeg_segments.specs.declared.frame.Component as declared
use Rattle.jpeg_segments.specs.ScanHeader.{Scan}
use Rattle.jpeg_segments.specs.declared.frame.CodingProcess.TheVariants.{Lossless}
use Rattle.jpeg_lossless.specs.Codings.{AreWholeSamples, IsCovered, way_by}
use Rattle.jpeg_lossless.specs.Differences.{Part}
use Rattle.jpeg_lossless.specs.declared.scan.Coding.{Coding}
use Rattle.jpeg_lossless.specs.Pictures.{ArePlanesOf, lossless_picture}
use Rattle.jpeg_lossless.specs.Scans.{scan_at}
use Rattle.jpeg_meaning.specs.LosslessScans.{LosslessCoding, lossless_coding, lossless_codings}
use Rattle.jpeg_meaning.specs.LosslessScans.{mcus_across, mcus_down, part_of, parts_of, tables_in}
use Rattle.jpeg_meaning.specs.LosslessScans.{with_samples}
use Rattle.jpeg_decoder.specs.LosslessParts.{mcus_high, mcus_wide, no_component, part_by, parts_at}
use Rattle.jpeg_segments.specs.Checks.{gathered, needed}
use Rattle.jpeg_decoder.specs.declared.scan.decoded.Decoded.{Decoded}
use Rattle.jpeg_meaning.specs.Sound.{AreSampled, IsDecodedFrame, IsSound}
use Rattle.jpeg_decoder.specs.Steps.{IsRefusal, after_all, samples_read, with_decoded}
use Rattle.jpeg_meaning.specs.FoundPictures.{samples_picture}
use Rattle.jpeg_meaning.specs.ScanSegments.{after_samples, arrays_before, scan_samples}
use Rattle.jpeg_meaning.specs.ScanSegments.{once_scanned}
use Rattle.jpeg_meaning.specs.Found.{Found}
use Rattle.jpeg_meaning.proofs.Written.ReadTurns.{bind-ok, ok-same, then-ok}
use Rattle.jpeg_meaning.proofs.Pictures.LosslessSizes.{IsMade, across-some, all-at, all-covered}
use Rattle.jpeg_meaning.proofs.Pictures.LosslessSizes.{decoded-made, down-some}
use Rattle.jpeg_decoder.specs.PlanesView.{planes_in}
use Rattle.jpeg_decoder.proofs.PutLoops.{seen-at}
use Rattle.jpeg_decoder.proofs.Scans.ScanReads.{HasRead}
use Rattle.jpeg_meaning.proofs.Soundness.{count-few, decoded-count, decoded-some}
use Rattle.std.proofs.lemmas.Bool.Decides.{nat_tests}
use Rattle.jpeg_bits.specs.declared.error.Error.TheVariants.{OutOfMemory}
use Rattle.std.proofs.lemmas.Grind.{common_steps}

-- ---- the components of a scan, by its tables

-- Components by their indices and their tables.
unfoldable pub AreOf : List Component → List LosslessCoding → List ℕ → List Table → Type 0
AreOf cs [] [] [] = Unit {0}
AreOf cs (k ∷ codings) (p ∷ indices) (t ∷ ts) =
    ((slice_get cs p ≡ Some k.component) × (k.table ≡ t)) × AreOf cs codings indices ts
AreOf cs _ _ _ = ⊥

pub record AreCodings (tables : List (Option Table)) (frame : Frame) (indices ds : List ℕ) (ts :
    List Table) : Type
    0 where
  pub codings : List LosslessCoding
  pub are : lossless_codings tables frame indices ds ≡ Ok codings
  pub indices_are : map (λ k. k.index) codings ≡ indices
  pub tables_are : map (λ k. k.table) codings ≡ ts
  pub of : AreOf frame.components codings indices ts

pub codings-by-tables : (tables : List (Option Table)) (frame : Frame) (indices ds : List ℕ) (ts :
    List Table)
    → AllByRecursion (λ index. index < length frame.components) indices → length ds ≡ length indices
    → tables_in tables ds ≡ Ok ts → AreCodings tables frame indices ds ts
unfolding AreOf gathered lossless_coding lossless_codings
codings-by-tables tables frame [] [] ts within long e = grind (arith, common_steps, ok-same)
codings-by-tables tables frame (p ∷ indices) (d ∷ ds) ts within long e =
    let one = bind-ok (needed (slice_index_or tables d None)) _ ts e in
    let more = bind-ok (tables_in tables ds) _ ts one.2 in
    let rest = codings-by-tables tables frame indices ds more.0 within.1 (omega arith) more.1 in
    let c : Component = get_or frame.components p no_component in
    let at = slice_get-get_or frame.components p no_component within.0 in
    let k : LosslessCoding = record { index = p; component = c; table = one.0 } in
    record {
      codings = k ∷ rest.codings;
      are = grind (arith, common_steps, then-ok);
      indices_are = ap (λ (l : List ℕ). p ∷ l) rest.indices_are;
      tables_are = ap (λ (l : List Table). one.0 ∷ l) rest.tables_are ∙ ok-same (one.0 ∷ more.0) ts more.2;
      of = grind (arith, common_steps, ok-same);
    }
codings-by-tables tables frame _ _ ts within long e = absurd (omega arith)

pub codings-lacking : (tables : List (Option Table)) (frame : Frame) (indices ds : List ℕ) (f :
    Fault)
    → AllByRecursion (λ index. index < length frame.components) indices → length ds ≡ length indices
    → tables_in tables ds ≡ Err f → lossless_codings tables frame indices ds ≡ Err f
unfolding gathered lossless_coding lossless_codings
codings-lacking tables frame [] [] f within long e = absurd (let n : ⊥ = cc in n)
codings-lacking tables frame (p ∷ indices) (d ∷ ds) f within long e =
    let at = slice_get-get_or frame.components p no_component within.0 in
    go (slice_get frame.components p) (ap needed at) (slice_index_or tables d None) (tables_in tables ds)
    (lossless_codings tables frame indices ds) e (λ h. codings-lacking tables frame indices ds f
    within.1 (omega arith) h)
  where
    go : (c : Option Component) {x : Component} → needed c ≡ Ok x → (t : Option Table) (o : Result (List Table) Fault)
        (r : Result (List LosslessCoding) Fault)
        → (needed t >>= (λ (table : Table). o >>= (λ (others : List Table). Ok (table ∷ others)))) ≡ Err f
        → (o ≡ Err f → r ≡ Err f)
        → ((needed c >>= (λ (component : Component). needed t >>= (λ (table : Table).
        Ok (record { index = p; component = component; table = table }))))
        >>= (λ (k : LosslessCoding). r >>= (λ (others : List LosslessCoding). Ok (k ∷ others)))) ≡ Err f
    go (Some x) h None o r e k = cc
    go (Some x) h (Some table) (Err g) r e k = rw (k e) refl
    go _ h _ _ r e k = absurd (let n : ⊥ = cc in n)
codings-lacking tables frame _ _ f within long e = absurd (omega arith)

-- ---- the MCUs of a scan

several : (cs : List Component) (codings : List LosslessCoding) (indices : List ℕ) (ts : List Table)
    → AreOf cs codings indices ts
    → map (λ k. part_of k.component.factors.horizontal k.component.factors.vertical k) codings
    ≡ parts_at false cs indices ts
unfolding AreOf parts_at
several cs [] [] [] h = refl
several cs (k ∷ codings) (p ∷ indices) (t ∷ ts) h =
    grind (arith, common_steps, get_or_from_slice_get, several cs codings indices ts h.1)
several cs _ _ _ h = absurd h

two : (n : ℕ) → (suc (suc n) == 1) ≡ false
two n = grind (arith, nat_tests)

pub parts-are : (cs : List Component) (codings : List LosslessCoding) (indices : List ℕ) (ts : List
    Table)
    → AreOf cs codings indices ts → parts_of codings ≡ parts_at (length indices == 1) cs indices ts
unfolding AreOf parts_of parts_at
parts-are cs codings indices ts h = grind (arith, common_steps, get_or_from_slice_get, several, two)

-- as many MCUs across and down
pub mcus-are : (frame : Frame) (codings : List LosslessCoding) (indices : List ℕ) (ts : List Table)
    → AreOf frame.components codings indices ts
    → (mcus_across frame codings ≡ mcus_wide frame indices) × (mcus_down frame codings ≡ mcus_high
    frame indices)
unfolding AreOf mcus_across mcus_down mcus_wide mcus_high
mcus-are frame codings indices ts h = grind (arith, common_steps, get_or_from_slice_get)

codings-made : (frame : Frame) (cs : List Component) (codings : List LosslessCoding)
    (indices : List ℕ) (ts : List Table) → AllByRecursion (IsMade frame) cs
    → AreOf cs codings indices ts → AllByRecursion (λ k. IsMade frame k.component) codings
unfolding AreOf
codings-made frame cs [] indices ts made h = tt
codings-made frame cs (k ∷ codings) (p ∷ indices) (t ∷ ts) made h =
    grind (arith, common_steps, all-at, codings-made frame cs codings indices ts made h.1)
codings-made frame cs _ _ _ made h = absurd h

-- ---- MCUs by indices

pub component-at : (cs : List declared.Component) (index : ℕ) (r : declared.Component) → index <
    length cs
    → r ≡ get_or cs index r → component_in r ≡ get_or (map component_in cs) index no_component
component-at cs index r h e = grind (arith, common_steps, get_or-map)

-- those of a component alone, and of several
pub alone : (frame : Frame) (indices : List ℕ) → length indices ≡ 1
    → let c = get_or frame.components (get_or indices 0 0) no_component in
    (mcus_wide frame indices ≡ c.width) × (mcus_high frame indices ≡ c.height)
unfolding mcus_wide mcus_high
alone frame indices e = grind (arith, common_steps)

pub not-alone : (frame : Frame) (indices : List ℕ) → (length indices == 1) ≡ false
    → (mcus_wide frame indices ≡ ceiling frame.width (most_across frame.components))
    × (mcus_high frame indices ≡ ceiling frame.height (most_down frame.components))
unfolding mcus_wide mcus_high
not-alone frame indices e = grind (arith, common_steps)

-- a part more
pub parts_step : (is_alone : Bool) (cs : List Component) (indices : List ℕ) (ts : List Table)
    (slot p : ℕ) (t : Table) (c : Component) (front new : List Part) → slot < length indices
    → slot < length ts → p ≡ get_or indices slot p → get_or ts slot t ≡ t → c
    ≡ get_or cs p no_component → new ≡ front ++ part_by is_alone c t ∷ [] → front
    ++ parts_at is_alone cs (drop slot indices) (drop slot ts) ≡ new
    ++ parts_at is_alone cs (drop (slot + 1) indices) (drop (slot + 1) ts)
unfolding parts_at
parts_step is_alone cs indices ts slot p t c front new h k e f g n = grind (arith, common_steps)

no-parts : (is_alone : Bool) (cs : List Component) (ts : List Table) → parts_at is_alone cs [] ts ≡ []
unfolding parts_at
no-parts is_alone cs ts = grind (arith, common_steps)

pub parts_none : (is_alone : Bool) (cs : List Component) (indices : List ℕ) (ts : List Table)
    (slot : ℕ) (front : List Part) → length indices ≤ slot → front
    ++ parts_at is_alone cs (drop slot indices) (drop slot ts) ≡ front
parts_none is_alone cs indices ts slot front h = search (rules, drop_all, no-parts, append-nil)

pub parts-count : (is_alone : Bool) (cs : List Component) (indices : List ℕ) (ts : List Table)
    → length ts ≡ length indices → length (parts_at is_alone cs indices ts) ≡ length indices
unfolding parts_at
parts-count is_alone cs [] ts h = ap (λ (l : List Part). length l) (no-parts is_alone cs ts)
parts-count is_alone cs (p ∷ indices) [] h = absurd (omega arith)
parts-count is_alone cs (p ∷ indices) (t ∷ ts) h = ap suc (parts-count is_alone cs indices ts
    (omega arith))

-- what a call needs of MCUs
pub record HasMcus (wide high : ℕ) (parts : List Part) : Type 0 where
  pub some_wide : 0 < wide
  pub some_high : 0 < high
  pub covered : AllByRecursion (IsCovered wide high) parts

pub has-mcus : (tables : List (Option Table)) (frame : Frame) (indices ds : List ℕ)
    (ts : List Table) → AreCodings tables frame indices ds ts → IsDecodedFrame frame → frame.process
    ≡ Lossless → HasMcus (mcus_wide frame indices) (mcus_high frame indices)
    (parts_at (length indices == 1) frame.components indices ts)
has-mcus tables frame indices ds ts a decoded lossless =
    let made = codings-made frame frame.components a.codings indices ts (decoded-made frame decoded
    lossless) a.of in
    let some = decoded-some frame decoded in
    let mcus = mcus-are frame a.codings indices ts a.of in
    let parts = parts-are frame.components a.codings indices ts a.of in
    search (rules, across-some, down-some, all-covered)

-- ---- steps of a scan

pub samples-lacking : (found : Found) (frame : Frame) (scan : Scan) (bytes : List ℕ) (f : Fault)
    → lossless_codings found.said.huffman.dc frame scan.components scan.dc_destinations ≡ Err f
    → samples_read found frame scan bytes ≡ Err f
unfolding samples_read
samples-lacking found frame scan bytes f e = bind_err _ _ f e

-- what is found after planes, and the marker after them and after restart markers
abbrev pub after_planes : Found → List LosslessCoding → (List (List ℕ) × Option Marker) × List ℕ
    → Outcome (Found × Option Marker)
after_planes found codings r =
    after_all r.0.1 r.1 >>= (λ (met : Option Marker × List ℕ). Ok ((after_samples found codings r.0.0, met.0), met.1))

pub samples-then : (found : Found) (frame : Frame) (scan : Scan) (codings : List LosslessCoding) (bytes : List ℕ)
    → lossless_codings found.said.huffman.dc frame scan.components scan.dc_destinations ≡ Ok codings
    → samples_read found frame scan bytes ≡ (scan_samples found frame scan codings bytes >>= after_planes found codings)
unfolding samples_read
samples-then found frame scan codings bytes e = then-ok _ _ codings _ e refl

-- The data of a scan are refused.
pub samples-fail : (found : Found) (frame : Frame) (scan : Scan) (codings : List LosslessCoding)
    (o : Outcome (List (List ℕ) × Option Marker)) (old new : Stream) (e : Error)
    → samples_read found frame scan old.bytes ≡ (o >>= after_planes found codings)
    → Answers (λ (r : List (List ℕ) × Option Marker). r) (λ bytes. o) old (Err e) new
    → Answers (λ (m : Option Marker). (found, m)) (samples_read found frame scan) old (Err e) new
samples-fail found frame scan codings o old new e is refused = grind (arith, common_steps, bind_err)

-- The data are read, and the restart markers after them are passed over.
pub samples-end : (found next : Found) (frame : Frame) (scan : Scan) (codings : List LosslessCoding)
    (o : Outcome (List (List ℕ) × Option Marker)) (planes : List (List ℕ)) (met : Option Marker)
    (old mid new : Stream) (r : Result (Option Marker) Error)
    → samples_read found frame scan old.bytes ≡ (o >>= after_planes found codings)
    → next ≡ after_samples found codings planes
    → HasRead (λ bytes. o) old (planes, met) mid → Answers (λ (m : Option Marker). m) (after_all met) mid r new
    → Answers (λ (m : Option Marker). (next, m)) (samples_read found frame scan) old r new
samples-end found next frame scan codings o planes met old mid new r is made has after =
    grind (arith, common_steps, bind_at, bind_err)

-- ---- what is found after it

set-sampled : (cs : List Component) (samples : List (Option (List ℕ))) (index : ℕ) (plane : List ℕ)
    → length plane ≡ (get_or cs index no_component).width * (get_or cs index no_component).height
    → AreSampled cs samples → AreSampled cs (set samples index (Some plane))
unfolding AreSampled
set-sampled [] samples index plane e h = tt
set-sampled (c ∷ cs) [] index plane e h = absurd h
set-sampled (c ∷ cs) (x ∷ samples) zero plane e h = (e, h.1)
set-sampled (c ∷ cs) (x ∷ samples) (suc index) plane e h =
    grind (arith, common_steps, set-sampled cs samples index plane e h.1)

with-sampled : (is_alone : Bool) (cs : List Component) (indices : List ℕ) (ts : List Table) (planes
    : List (List ℕ))
    (samples : List (Option (List ℕ))) → AreWholeSamples (parts_at is_alone cs indices ts) planes
    → AreSampled cs samples → AreSampled cs (with_samples indices planes samples)
unfolding with_samples AreWholeSamples parts_at
with-sampled is_alone cs (p ∷ indices) [] (plane ∷ planes) samples w h = absurd w
with-sampled is_alone cs (p ∷ indices) (t ∷ ts) (plane ∷ planes) samples w h =
    with-sampled is_alone cs indices ts planes (slice_set samples p (Some plane)) w.1
    (set-sampled cs samples p plane w.0 h)
with-sampled is_alone cs _ ts _ samples w h = h

-- The samples of a scan are those of its components.
pub scan-sampled : (is_alone : Bool) (found : Found) (frame : Frame) (indices : List ℕ)
    (ts : List Table) (planes : List (List ℕ)) → IsSound found → found.said.frame ≡ Some frame
    → AreWholeSamples (parts_at is_alone frame.components indices ts) planes
    → AreSampled frame.components (with_samples indices planes found.samples)
scan-sampled is_alone found frame indices ts planes sound e w = search (rules, with-sampled)

-- A lossless scan leaves a sound state.
pub samples-sound : (found next : Found) (frame : Frame) (indices : List ℕ) (planes : List (List ℕ))
    → IsSound found → found.said.frame ≡ Some frame → frame.process ≡ Lossless
    → AreSampled frame.components (with_samples indices planes found.samples)
    → next ≡ record (once_scanned found) { samples = with_samples indices planes found.samples } →
    IsSound next
unfolding arrays_before
samples-sound found next frame indices planes sound e lossless whole is = search rules

-- ---- where samples are put

-- a slot more
pub put-step : (indices : List ℕ) (i : ℕ) (planes : List (Vec ℕ Global))
    (empty plane : Vec ℕ Global) (before : List (Option (Vec ℕ Global))) → i < length indices
    → length planes ≡ length indices → plane ≡ get_or planes i plane
    → with_samples (drop (i + 1) indices)
    (drop (i + 1) (map (λ (v : Vec ℕ Global). v.items) (set planes i empty)))
    (planes_in (slice_set before (slice_index_or indices i 0) (Some plane)))
    ≡ with_samples (drop i indices) (drop i (map (λ (v : Vec ℕ Global). v.items) planes))
    (planes_in before)
unfolding with_samples
put-step indices i planes empty plane before h e is =
    grind (arith, common_steps, seen-at, map-set, drop-set-lt, drop_more)

-- all slots
pub put-all : (indices : List ℕ) (i : ℕ) (planes : List (List ℕ)) (samples whole : List (Option
    (List ℕ)))
    → length indices ≤ i → with_samples (drop i indices) planes samples ≡ whole → samples ≡ whole
unfolding with_samples
put-all indices i planes samples whole h w = grind (arith, common_steps, drop_all)

-- ---- samples at the end of an image

-- the plane of a component with its index in the frame
abbrev pub sample_plane : List (Option (List ℕ)) → ℕ × Component → Result (List ℕ) Fault
sample_plane samples c = needed (slice_index_or samples c.0 None)

drop-there : (samples : List (Option (List ℕ))) (index : ℕ) (plane : List ℕ)
    → slice_index_or samples index None ≡ Some plane → drop index samples ≡ Some plane ∷ drop
    (index + 1) samples
drop-there [] index plane e = absurd (let n : ⊥ = cc in n)
drop-there (x ∷ samples) zero plane e = grind (arith, common_steps)
drop-there (x ∷ samples) (suc index) plane e = search (rules, drop-there samples index plane e)

-- The planes are those of the components.
samples-from : (samples : List (Option (List ℕ))) (index : ℕ) (cs : List Component)
    (planes : List (List ℕ)) → AreSampled cs (drop index samples) → gathered (sample_plane samples)
    (enumerate_from index cs) ≡ Ok planes → ArePlanesOf cs planes
unfolding gathered AreSampled ArePlanesOf
samples-from samples index [] planes h e = subst (ArePlanesOf []) (ok-same [] planes e) tt
samples-from samples index (c ∷ cs) planes h e =
    let one = bind-ok (needed (slice_index_or samples index None)) _ planes e in
    let more = bind-ok (gathered (sample_plane samples) (enumerate_from (index + 1) cs)) _ planes one.2 in
    let is : AreSampled (c ∷ cs) (Some one.0 ∷ drop (index + 1) samples)
    = search (rules, drop-there) in
    grind (arith, common_steps, ok-same, samples-from samples (index + 1) cs more.0 is.1 more.1)

pub samples-whole : (samples : List (Option (List ℕ))) (cs : List Component) (planes : List (List ℕ))
    → AreSampled cs samples → gathered (sample_plane samples) (enumerate_from 0 cs) ≡ Ok planes → ArePlanesOf cs planes
samples-whole samples cs planes h e = samples-from samples 0 cs planes h e

-- ---- what a call knows

pub on-ok : {X P : Type 0} (r : Result X Error) → P → OnOk r P
on-ok r p = grind (arith, common_steps)

abbrev pub coding_found : Found → Frame → Scan → Coding
coding_found found frame scan = record {
  wide = mcus_wide frame scan.components;
  high = mcus_high frame scan.components;
  precision = frame.precision;
  predictor = scan.predictor;
  point_transform = scan.point_transform;
  restart_interval = found.said.restart;
}

-- The samples of a scan by how it is coded.
pub coded-by : (found : Found) (frame : Frame) (scan : Scan) (ts : List Table)
    (a : AreCodings found.said.huffman.dc frame scan.components scan.dc_destinations ts) (k : Coding)
    (parts : List Part)
    → k ≡ coding_found found frame scan
    → parts ≡ parts_at (length scan.components == 1) frame.components scan.components ts
    → scan_samples found frame scan a.codings
    ≡ scan_at (way_by k parts) k.high k.restart_interval k.point_transform
coded-by found frame scan ts a k parts e is = grind (arith, common_steps, mcus-are, parts-are)

-- The scan, by what is read of its samples.
pub samples-read : (found : Found) (frame : Frame) (scan : Scan) (ts : List Table)
    (a : AreCodings found.said.huffman.dc frame scan.components scan.dc_destinations ts) (k : Coding) (parts : List Part)
    (bytes : List ℕ)
    → k ≡ coding_found found frame scan
    → parts ≡ parts_at (length scan.components == 1) frame.components scan.components ts
    → samples_read found frame scan bytes
    ≡ (scan_at (way_by k parts) k.high k.restart_interval k.point_transform bytes >>= after_planes found a.codings)
samples-read found frame scan ts a k parts bytes e is =
    samples-then found frame scan a.codings bytes a.are
    ∙ ap (λ (r : List ℕ → Outcome (List (List ℕ) × Option Marker)). r bytes >>= after_planes found a.codings)
    (coded-by found frame scan ts a k parts e is)

-- What is found after samples are put.
pub put-made : (base : Found) (old new : Decoded) (samples : List (Option (List ℕ))) → new.kept ≡
    old.kept
    → new.finished ≡ old.finished → new.planes ≡ old.planes → planes_in new.samples ≡ samples
    → ◌≡◌ {A = Found} (once_scanned (with_decoded base new))
    (record (once_scanned (with_decoded base old)) { samples = samples })
put-made base old new samples h f p s = grind (arith, common_steps)

-- as many tables as indices
pub codings-count : (tables : List (Option Table)) (frame : Frame) (indices ds : List ℕ)
    (ts : List Table) → AreCodings tables frame indices ds ts → length ts ≡ length indices
codings-count tables frame indices ds ts a = grind (arith, common_steps, length-map)

pub all-below : (n m : ℕ) (indices : List ℕ) → n ≤ m → AllByRecursion (λ index. index < n) indices
    → AllByRecursion (λ index. index < m) indices
all-below n m [] most h = tt
all-below n m (p ∷ indices) most h = grind (arith, common_steps, all-below n m indices most h.1)

-- Places of a frame's components are below 4.
pub four-indices : (frame : Frame) (indices : List ℕ) → IsDecodedFrame frame
    → All (λ index. index < length frame.components) indices → All (λ index. index < 4) indices
four-indices frame indices decoded h =
    All-from_recursion (λ index. index < 4) indices
    (all-below (length frame.components) 4 indices (count-few (length frame.components)
    (decoded-count frame decoded)).1
    (recursion_from_All (λ index. index < length frame.components) indices h))

-- ---- the picture

pub picture-lacks : (found : Found) (frame : Frame) (e : Error)
    → Names e (gathered (sample_plane found.samples) (enumerate_from 0 frame.components))
    → Names e (samples_picture found frame)
unfolding samples_picture
picture-lacks found frame e n = grind (arith, common_steps, Names-through, bind_err)

pub picture-made : (found : Found) (frame : Frame) (planes : List (List ℕ))
    → gathered (sample_plane found.samples) (enumerate_from 0 frame.components) ≡ Ok planes
    → samples_picture found frame ≡ Ok (lossless_picture frame planes)
unfolding samples_picture
picture-made found frame planes h = then-ok _ _ planes _ h refl

memory-names : (e : Error) (o : Result (List ℕ) Fault) → e ≡ OutOfMemory → IsRefusal e × Names e o
memory-names e o h = subst (λ (x : Error). IsRefusal x × Names x o) (sym h) (tt, tt)

-- What is given is the picture, or memory is out.
pub picture-given : {X : Type 0} (view : X → List ℕ) (r : Result X Error) (o : Result (List ℕ) Fault)
    (picture : List ℕ)
    → o ≡ Ok picture → IfOk r (λ v. view v ≡ picture) → IfErr r (λ e. e ≡ OutOfMemory)
    → MatchResult r (λ v. o ≡ Ok (view v)) (λ e. IsRefusal e × Names e o)
picture-given view r o picture e h m = grind (arith, common_steps, memory-names)
