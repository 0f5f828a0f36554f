-- The data of a scan, of what is read of its blocks, and the planes that it decides.
use Rattle.std.proofs.Common.{◌≡◌, ◌<◌, Bool, ℕ, zero, suc, ◌*◌, true, false, Option, None}
use Rattle.std.proofs.Common.{Ok, Err, List, [], ◌∷◌, refl, sym, ap, subst, ◌∙◌, length, get_or}
use Rattle.std.proofs.Common.{set, map, drop, take, arith, rules}
use Rattle.std.proofs.Math.Logic.{inl, inr}
use Rattle.std.specs.Prelude.{All}
use Rattle.std.specs.List.{AllByRecursion}
use Rattle.std.proofs.lemmas.List.{length-map}
use Rattle.jpeg_bits.specs.Stream.{Stream}
use Rattle.jpeg_bits.specs.Reading.{Outcome, Fault, Answers, ◌>>=◌}
use Rattle.jpeg_bits.specs.declared.error.Error.{Error}
use Rattle.jpeg_bits.proofs.Loops.{Names-through}
use Rattle.jpeg_bits.specs.declared.marker.Marker.{Marker}
use Rattle.jpeg_bits.specs.Passes.{Pass, Via}
use Rattle.jpeg_segments.specs.Frame.{Frame, Component}
use Rattle.jpeg_decoder.specs.declared.scan.coded.Coded.{Coded}
use Rattle.jpeg_decoder.specs.declared.scan.decoded.Decoded.{Decoded}
use Rattle.jpeg_meaning.specs.InTurn.{AreApart, AreArrays, IsIn}
use Rattle.jpeg_meaning.specs.Order.{spots_of, mcu_size}
use Rattle.jpeg_meaning.specs.Scans.{Arrays, zero_arrays, arrays_at}
use Rattle.jpeg_decoder.specs.Scanning.{arrays_in, sizes_of}
use Rattle.jpeg_decoder.specs.PlanesView.{planes_in}
use Rattle.jpeg_meaning.specs.Sound.{IsPlaneOf, ArePlanes}
use Rattle.jpeg_decoder.specs.Steps.{blocks_at, blocks_before, coding_in, decided_planes, scan_data}
use Rattle.jpeg_decoder.specs.Steps.{with_decoded}
use Rattle.jpeg_decoder.specs.Steps.{with_its_plane, with_planes, IsCodingOf, AreRising}
use Rattle.jpeg_meaning.specs.Rasters.{plane_by}
use Rattle.jpeg_meaning.specs.ScanSegments.{components_of, blocks_after, arrays_before}
use Rattle.jpeg_meaning.specs.ScanSegments.{once_scanned, Coding, is_progressive, put_arrays}
use Rattle.jpeg_meaning.specs.ScanSegments.{with_arrays, with_blocks, vias_from}
use Rattle.jpeg_meaning.specs.Found.{Found}
use Rattle.jpeg_decoder.specs.Strips.{planes_by, planes_at}
use Rattle.jpeg_meaning.proofs.Order.Apart.{At, get-at}
use Rattle.jpeg_meaning.proofs.Written.BroughtLevels.{sequential-arrays}
use Rattle.jpeg_decoder.proofs.Scans.BlocksBefore.{plane_by-length}
use Rattle.jpeg_decoder.proofs.Kept.BlockArrays.{Held}
use Rattle.jpeg_decoder.proofs.PutLoops.{blocks-are}
use Rattle.jpeg_meaning.proofs.Order.McuRows.{IsOf, zeros-of}
use Rattle.std.proofs.lemmas.Grind.{common_steps}

-- ---- the scan's components

pub of-frame : (frame : Frame) (codings : List Coding) → AllByRecursion (IsCodingOf frame) codings
    → AllByRecursion (IsOf frame) codings
of-frame frame [] h = tt
of-frame frame (c ∷ codings) h = grind (arith, common_steps, get-at, of-frame frame codings h.1)

pub arrays-by-sizes : (cs : List Component) (old new : List Held) → AreArrays cs (arrays_in old)
    → sizes_of new ≡ sizes_of old → AreArrays cs (arrays_in new)
unfolding AreArrays
arrays-by-sizes [] old new h e = tt
arrays-by-sizes (c ∷ cs) [] new h e = absurd h
arrays-by-sizes (c ∷ cs) (o ∷ old) [] h e = grind (arith, common_steps)
arrays-by-sizes (c ∷ cs) (o ∷ old) (n ∷ new) h e =
    grind (arith, common_steps, length-map, arrays-by-sizes cs old new h.1)

-- ---- what scans give

pub kept-kept : (p : Pass) (codings : List Coding) (arrays : Arrays) (found : Found) (h : Arrays)
    → record (with_arrays p codings arrays found) { kept = h } ≡ with_arrays p codings arrays
    (record found { kept = h })
unfolding with_arrays with_blocks
kept-kept p (c ∷ codings) (blocks ∷ arrays) found h = kept-kept p codings arrays (with_blocks p c
    blocks found) h
kept-kept p _ _ found h = refl

pub arrays-by-planes : (p : Pass) (codings : List Coding) (arrays : Arrays) (found : Found)
    → with_arrays p codings arrays found ≡ with_planes p codings (planes_by codings arrays) found
unfolding with_arrays with_planes planes_by
arrays-by-planes p (c ∷ codings) (blocks ∷ arrays) found =
    grind (
      arith,
      common_steps,
      blocks-are,
      arrays-by-planes p codings arrays (with_its_plane p c.index (plane_by c.component c.quantization blocks) found),
    )
arrays-by-planes p _ _ found = refl

-- the blocks at their indices, of those of the frame
abbrev pub read_at : Found → Frame → Pass → List Coding → Arrays → List ℕ → Outcome (Arrays × Option Marker)
read_at f frame p codings arrays bytes =
    arrays_at p (f.said.restart * mcu_size (components_of codings)) (vias_from 0 codings)
    (spots_of frame (components_of codings)) arrays bytes

abbrev after_read : Found → Frame → Pass → List Coding → (Arrays × Option Marker) × List ℕ
    → Outcome (Found × Option Marker)
after_read f frame p codings r = Ok (
  (
    with_arrays p codings r.0.0 (record (once_scanned f) {
      kept = blocks_after f frame codings r.0.0;
    }),
    r.0.1,
  ),
  r.1,
)

data-is : (f : Found) (frame : Frame) (p : Pass) (codings : List Coding) (bytes : List ℕ)
    → scan_data f frame p codings bytes ≡ (read_at f frame p codings (blocks_at codings (arrays_before f frame)) bytes
    >>= after_read f frame p codings)
unfolding scan_data
data-is f frame p codings bytes = refl

-- what was found, with other blocks
pub same-found : (f : Found) (one : Decoded) (kept : Arrays)
    → one.finished ≡ f.finished → one.planes ≡ f.planes → planes_in one.samples ≡ f.samples
    → ◌≡◌ {A = Found} (record (with_decoded (once_scanned f) one) { kept = kept })
    (record (once_scanned f) { kept = kept })
same-found f one kept fin pl sa = grind (arith, common_steps)

-- A scan of a progressive frame: of what is read and added, and of the blocks that are put back.
pub data-kept : (f : Found) (frame : Frame) (p : Pass) (codings : List Coding) (arrays : Arrays)
    (met : Option Marker)
    (bytes rest : List ℕ) (one two : Decoded) (kept : Arrays)
    → is_progressive frame.process ≡ true
    → read_at f frame p codings (blocks_at codings (arrays_before f frame)) bytes ≡ Ok ((arrays, met), rest)
    → ((base : Found) → with_decoded base two ≡ with_arrays p codings arrays (with_decoded base one))
    → one.finished ≡ f.finished → one.planes ≡ f.planes → planes_in one.samples ≡ f.samples
    → kept ≡ put_arrays codings arrays (arrays_before f frame)
    → scan_data f frame p codings bytes
    ≡ Ok (
      (
        record (once_scanned f) {
          kept = kept;
          finished = two.finished;
          planes = two.planes;
          samples = planes_in two.samples;
        },
        met,
      ),
      rest,
    )
data-kept f frame p codings arrays met bytes rest one two kept e r added fin pl sa h =
    let same = same-found f one kept fin pl sa in
    let after = added (once_scanned f) in
    let away = kept-kept p codings arrays (with_decoded (once_scanned f) one) kept in
    grind (arith, common_steps, data-is)

pub data-kept-refused : (f : Found) (frame : Frame) (p : Pass) (codings : List Coding) (bytes :
    List ℕ) (fault : Fault)
    → read_at f frame p codings (blocks_at codings (arrays_before f frame)) bytes ≡ Err fault
    → scan_data f frame p codings bytes ≡ Err fault
unfolding scan_data
data-kept-refused f frame p codings bytes fault r = search (rules)

-- A scan of a sequential frame.

abbrev planes_after : List Coding → (Arrays × Option Marker) × List ℕ → Outcome (List (List ℕ) × Option Marker)
planes_after codings r = Ok ((planes_by codings r.0.0, r.0.1), r.1)

pub zeros-read : (f : Found) (frame : Frame) (codings : List Coding) → is_progressive frame.process ≡ false
    → AllByRecursion (IsOf frame) codings
    → blocks_at codings (arrays_before f frame) ≡ zero_arrays (components_of codings)
zeros-read f frame codings e of = ap (blocks_at codings) (sequential-arrays f frame e) ∙ zeros-of frame codings of

planes-are : (n : ℕ) (frame : Frame) (p : Pass) (codings : List Coding) (vias : List Via) (bytes : List ℕ)
    → planes_at p n vias frame codings bytes
    ≡ (arrays_at p (n * mcu_size (components_of codings)) vias (spots_of frame (components_of codings))
    (zero_arrays (components_of codings)) bytes >>= planes_after codings)
unfolding planes_at
planes-are n frame p codings vias bytes = refl

pub data-planes : (f : Found) (frame : Frame) (p : Pass) (codings : List Coding) (planes : List (List ℕ))
    (met : Option Marker) (bytes rest : List ℕ) (one two : Decoded)
    → is_progressive frame.process ≡ false → AllByRecursion (IsOf frame) codings
    → planes_at p f.said.restart (vias_from 0 codings) frame codings bytes ≡ Ok ((planes, met), rest)
    → ((base : Found) → with_decoded base two ≡ with_planes p codings planes (with_decoded base one))
    → one.finished ≡ f.finished → one.planes ≡ f.planes → planes_in one.samples ≡ f.samples
    → arrays_in one.kept.items ≡ []
    → scan_data f frame p codings bytes ≡ Ok ((once_scanned (with_decoded f two), met), rest)
data-planes f frame p codings planes met bytes rest one two e of r added fin pl sa none =
    let same = same-found f one [] fin pl sa in
    let after = added (once_scanned f) in
    grind (arith, common_steps, data-is, zeros-read, planes-are, arrays-by-planes)

pub data-planes-refused : (f : Found) (frame : Frame) (p : Pass) (codings : List Coding) (bytes : List ℕ)
    (fault : Fault)
    → is_progressive frame.process ≡ false → AllByRecursion (IsOf frame) codings
    → planes_at p f.said.restart (vias_from 0 codings) frame codings bytes ≡ Err fault
    → scan_data f frame p codings bytes ≡ Err fault
data-planes-refused f frame p codings bytes fault e of r =
    grind (arith, common_steps, data-is, zeros-read, planes-are)

-- ---- planes of all blocks

plane-at : (cs : List Component) (planes : List (Option (List ℕ))) (index : ℕ) (c : Component)
    → ArePlanes cs planes → At index cs c → IsPlaneOf c (get_or planes index None)
unfolding ArePlanes
plane-at [] planes index c h at = absurd at
plane-at (d ∷ cs) [] index c h at = absurd h
plane-at (d ∷ cs) (q ∷ planes) zero c h at = subst (λ (x : Component). IsPlaneOf x q) (at) h.0
plane-at (d ∷ cs) (q ∷ planes) (suc index) c h at = plane-at cs planes index c h.1 at

plane-set : (cs : List Component) (planes : List (Option (List ℕ))) (index : ℕ) (c : Component) (q
    : Option (List ℕ))
    → ArePlanes cs planes → At index cs c → IsPlaneOf c q → ArePlanes cs (set planes index q)
unfolding ArePlanes
plane-set [] planes index c q h at k = tt
plane-set (d ∷ cs) [] index c q h at k = absurd h
plane-set (d ∷ cs) (x ∷ planes) zero c q h at k = (subst (λ (y : Component). IsPlaneOf y q) (sym (at)) k, h.1)
plane-set (d ∷ cs) (x ∷ planes) (suc index) c q h at k =
    grind (arith, common_steps, plane-set cs planes index c q h.1 at k)

one-whole : (cs : List Component) (p : Pass) (index : ℕ) (c : Component) (plane : List ℕ)
    (found : Found) → At index cs c → length plane
    ≡ (c.blocks_high * c.scale) * (c.blocks_wide * c.scale) → ArePlanes cs found.planes
    → ArePlanes cs (with_its_plane p index plane found).planes
unfolding with_its_plane decided_planes
one-whole cs p index c plane found at k h = search (rules, arith, plane-set, plane-at)

pub planes-whole : (frame : Frame) (p : Pass) (codings : List Coding) (planes : List (List ℕ)) (found : Found)
    → AllByRecursion (IsOf frame) codings
    → map length planes
    ≡ take (length planes) (map (λ (c : Component). (c.blocks_high * c.scale) * (c.blocks_wide * c.scale))
    (components_of codings))
    → ArePlanes frame.components found.planes → ArePlanes frame.components (with_planes p codings planes found).planes
unfolding with_planes
planes-whole frame p (c ∷ codings) (plane ∷ planes) found of k h =
    let a : length plane ≡ (c.component.blocks_high * c.component.scale)
    * (c.component.blocks_wide * c.component.scale) = ap (λ (l : List ℕ). get_or l 0 0) k in
    planes-whole frame p codings planes (with_its_plane p c.index plane found) of.1 (ap (λ (l :
    List ℕ). drop 1 l) k)
    (one-whole frame.components p c.index c.component plane found of.0.here a h)
planes-whole frame p _ _ found of k h = h

pub arrays-whole : (frame : Frame) (p : Pass) (codings : List Coding) (arrays : Arrays) (found : Found)
    → AllByRecursion (IsOf frame) codings
    → ArePlanes frame.components found.planes → ArePlanes frame.components (with_arrays p codings arrays found).planes
unfolding with_arrays
arrays-whole frame p (c ∷ codings) (blocks ∷ arrays) found of h =
    arrays-whole frame p codings arrays (with_blocks p c blocks found) of.1
    (subst (λ (x : Found). ArePlanes frame.components x.planes) (sym (blocks-are p c blocks found))
    (one-whole frame.components p c.index c.component (plane_by c.component c.quantization blocks)
    found of.0.here
    (plane_by-length c.component c.quantization blocks) h))
arrays-whole frame p _ _ found of h = h

-- ---- refusals

pub answers-err : {X Y Z W : Type 0} (v : X → Y) (view : Z → W) (read : List ℕ → Outcome Y) (whole : List ℕ
    → Outcome W) (old new : Stream) (e : Error)
    → ((f : Fault) → read old.bytes ≡ Err f → whole old.bytes ≡ Err f) → Answers v read old (Err e) new
    → Answers view whole old (Err e) new
answers-err v view read whole old new e h p = (p.0, (λ k l. Names-through e _ _ h (p.1 k l)), p.2)

-- ---- scans on kept blocks

held-long : (components : List Component) (vs : List Held) → AreArrays components (arrays_in vs)
    → (index : ℕ) (c : Component) → At index components c → index < length vs
unfolding AreArrays
held-long [] vs a index c at = absurd at
held-long (x ∷ components) [] a index c at = absurd a
held-long (x ∷ components) (v ∷ vs) a zero c at = omega arith
held-long (x ∷ components) (v ∷ vs) a (suc index) c at = let r = held-long components vs a.1 index c at in omega arith

-- the indices of a scan's components are indices of the arrays
pub coded-within-kept : (frame : Frame) (cs : List Coded) (kept : List Held) (n : ℕ) → n ≡ length kept
    → AllByRecursion (IsCodingOf frame) (map coding_in cs) → AreArrays frame.components (arrays_in kept)
    → All (λ (x : Coded). x.index < n) cs
coded-within-kept frame (c ∷ cs) kept n e of a zero d h =
    let r = held-long frame.components kept a c.index (coding_in c).component
    (get-at c.index frame.components (coding_in c).component of.0) in omega arith
coded-within-kept frame (c ∷ cs) kept n e of a (suc k) d h = coded-within-kept frame cs kept n e of.1 a k d (omega arith)
coded-within-kept frame [] kept n e of a k d h = absurd (omega arith)

-- indices that rise are apart
pub rising-codings : (cs : List Coded) → AreRising (map coding_in cs) → AreApart (map (λ (x :
    Coded). x.index) cs)
rising-codings [] h = tt
rising-codings (c ∷ []) h = ((λ n. n), tt)
rising-codings (c ∷ d ∷ cs) h = (λ n. below c.index d cs h.0 h.1 n, rising-codings (d ∷ cs) h.1)
  where
    below : (p : ℕ) (d : Coded) (cs : List Coded) → p < d.index → AreRising (map coding_in (d ∷ cs))
        → IsIn p (map (λ (x : Coded). x.index) (d ∷ cs)) → ⊥
    below p d cs lt r (inl e) = omega (arith, e)
    below p d [] lt r (inr n) = n
    below p d (x ∷ cs) lt r (inr n) = below p x cs (let q = r.0 in omega (arith, q)) r.1 n

-- ---- what is kept after a scan

-- the blocks before a scan, by what was found
pub before-as : (base : Found) (d : Decoded) (frame : Frame) (scanned : Bool) → base.said.scanned ≡ scanned
    → arrays_before (with_decoded base d) frame ≡ blocks_before scanned d frame
unfolding arrays_before
before-as base d frame scanned e = rw e refl
