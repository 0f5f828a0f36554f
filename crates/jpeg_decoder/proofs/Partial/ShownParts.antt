-- What the picture of a stream needs of each component of its frame, and what a component is given that lacks it.
use Rattle.std.proofs.Common.{◌≡◌, ◌<◌, ◌≤◌, ◌+◌, ◌*◌, ◌-◌, ◌^◌, ◌∙◌, ℕ, zero, suc, List, [], ◌∷◌, ◌++◌, Global, Vec}
use Rattle.std.proofs.Common.{OnOk, Option, Some, None, Result}
use Rattle.std.proofs.Common.{Ok, Err, Bool, ap, arith, drop, drop_of_length-le, get_or, length, map, refl, replicate}
use Rattle.std.proofs.Common.{rules, subst, sym, true, false}
use Rattle.std.specs.Prelude.{◌&&◌, ◌||◌, is_some, option_map, slice_index_or, slice_set}
use Rattle.std.specs.List.{enumerate_from, fold}
use Rattle.std.proofs.lemmas.Bool.{and_parts, leb-true}
use Rattle.std.proofs.lemmas.Grind.{common_steps}
use Rattle.std.proofs.lemmas.List.{at_drop_more, length-map, length-replicate, set-get_or}
use Rattle.std.proofs.lemmas.List.FromFn.{length-enumerate_from}
use Rattle.jpeg_bits.specs.Passes.{Block}
use Rattle.jpeg_bits.specs.Reading.{Fault, Malformed, Names, NamesFormat}
use Rattle.jpeg_bits.specs.declared.error.Error.{Error}
use Rattle.jpeg_segments.proofs.Gathered.{Gathers, gathers-all, gathers-err, gathers-more, gathers-none, numbered}
use Rattle.jpeg_segments.specs.Checks.{gathered, needed}
use Rattle.jpeg_segments.specs.Frame.{Component, Frame}
use Rattle.jpeg_segments.specs.declared.frame.CodingProcess.{CodingProcess}
use Rattle.jpeg_segments.specs.declared.frame.CodingProcess.TheVariants.{DctProgressive, DctSequential, Lossless}
use Rattle.jpeg_meaning.specs.Found.{Found}
use Rattle.jpeg_meaning.specs.FoundPictures.{plane_at_end}
use Rattle.jpeg_meaning.specs.Rasters.{plane_by}
use Rattle.jpeg_meaning.specs.ScanSegments.{arrays_before, decided}
use Rattle.jpeg_meaning.specs.Shown.{blocks_held, completed, planes_by, shown_by, table_held, with_plane_shown}
use Rattle.jpeg_meaning.specs.Shown.{fault_in, with_samples_shown}
use Rattle.jpeg_meaning.specs.Sound.{ArePlanes, AreSampled, IsDecodedFrame, IsPlaneOf, IsSampled, IsSound}
use Rattle.jpeg_pixels.specs.Scaled.{IsScale}
use Rattle.jpeg_meaning.specs.EndPlanes.{AreBlocksOf, blocks_if, is_kept, plane_or}
use Rattle.jpeg_meaning.specs.Scans.{Arrays}
use Rattle.jpeg_segments.specs.Scales.{frame_at}
use Rattle.jpeg_meaning.proofs.Soundness.{accepted-precision}
use Rattle.jpeg_decoder.specs.PlanesView.{planes_in}
use Rattle.jpeg_decoder.specs.Reaching.{NamesFault}
use Rattle.jpeg_decoder.specs.Scanning.{blocks_in}
use Rattle.jpeg_decoder.specs.Shows.{is_there}
use Rattle.jpeg_decoder.specs.declared.scan.block_array.BlockArray.{BlockArray}
use Rattle.jpeg_decoder.proofs.Scans.BlocksBefore.{plane_by-length}
use Rattle.jpeg_decoder.proofs.Pictures.EndedPlanes.{decoded-scales, element, kept-blocks, mapped-or, plane-at, reached-kept}

-- ---- a component of a frame

module _ {found : Found} {frame : Frame} {index : ℕ} {c : Component} (s : IsSound found)
    (f : found.said.frame ≡ Some frame)
    (h : index < length frame.components) (e : c ≡ get_or frame.components index c) where
  pub scale-at : IsScale c.scale
  scale-at =
      subst (λ (x : Component). IsScale x.scale) (sym e)
      (element (λ x. IsScale x.scale) frame.components index c (decoded-scales frame (s.frames frame f)) h)

  pub held-blocks : AreBlocksOf c (blocks_if (is_kept found frame) found.kept index)
  held-blocks =
      subst (λ (x : Component). AreBlocksOf x (blocks_if (is_kept found frame) found.kept index)) (sym e)
      (kept-blocks found frame index c (s.kept frame f) h)

pub held-within : (found : Found) (frame : Frame) (index : ℕ) (kept : List BlockArray) → IsSound found
    → found.said.frame ≡ Some frame → index < length frame.components → found.kept ≡ map blocks_in kept
    → is_kept found frame ≡ true → index < length kept
held-within found frame index kept s f h e k =
    omega (arith, reached-kept found frame index found.kept s f h refl k, ap length e, length-map kept blocks_in)

-- ---- blocks that are kept

pub kept-length : (b : Bool) (kept : List BlockArray) (index : ℕ) (a d : BlockArray) (c : Component) → b ≡ true
    → index < length kept → a ≡ get_or kept index d → AreBlocksOf c (blocks_if b (map blocks_in kept) index)
    → length (blocks_in a) ≡ c.blocks_high * c.blocks_wide
kept-length true kept index a d c k h e l = ap length (mapped-or blocks_in kept index a d [] h e) ∙ l
kept-length false kept index a d c k h e l = absurd (let n : ⊥ = cc in n)

-- ---- a plane

pub plane-there : (frame : Frame) (found : Found) (index : ℕ) (c : Component)
    → is_some (slice_index_or found.planes index None) ≡ true → found ≡ with_plane_shown frame found (index, c)
unfolding with_plane_shown
plane-there frame found index c h = grind (arith, common_steps, set-get_or)

pub plane-put : (frame : Frame) (found new : Found) (index : ℕ) (c : Component) (table : List ℕ) (blocks : List Block)
    (plane : List ℕ) → is_some (slice_index_or found.planes index None) ≡ false → table ≡ table_held found c
    → blocks ≡ blocks_held found frame (index, c) → plane ≡ plane_by c table blocks
    → new ≡ record found { planes = slice_set found.planes index (Some plane) }
    → new ≡ with_plane_shown frame found (index, c)
unfolding with_plane_shown
plane-put frame found new index c table blocks plane none t b p is = grind (arith, common_steps)

-- ---- samples

pub samples-there : (frame : Frame) (found : Found) (index : ℕ) (c : Component)
    → is_some (slice_index_or found.samples index None) ≡ true → found ≡ with_samples_shown frame found (index, c)
unfolding with_samples_shown
samples-there frame found index c h = grind (arith, common_steps, set-get_or)

pub samples-put : (frame : Frame) (found new : Found) (index : ℕ) (c : Component) (samples : List ℕ)
    → is_some (slice_index_or found.samples index None) ≡ false
    → samples ≡ replicate (c.width * c.height) (2 ^ (frame.precision - 1))
    → new ≡ record found { samples = slice_set found.samples index (Some samples) }
    → new ≡ with_samples_shown frame found (index, c)
unfolding with_samples_shown
samples-put frame found new index c samples none s is = grind (arith, common_steps)

-- whether there are samples
pub samples-seen : (samples : List (Option (Vec ℕ Global))) (index : ℕ) (o d : Option (Vec ℕ Global)) (b : Bool)
    → index < length samples → o ≡ get_or samples index d → is_some o ≡ b
    → is_some (slice_index_or (planes_in samples) index None) ≡ b
samples-seen samples index o d b h e is =
    let at = mapped-or (λ (p : Option (Vec ℕ Global)). option_map (λ v. v.items) p) samples index o d None h e in
    seen o (slice_index_or (planes_in samples) index None) b at is
  where
    seen : (o : Option (Vec ℕ Global)) (p : Option (List ℕ)) (b : Bool) → option_map (λ v. v.items) o ≡ p
        → is_some o ≡ b → is_some p ≡ b
    seen None p b e is = ap is_some (sym e) ∙ is
    seen (Some v) p b e is = ap is_some (sym e) ∙ is

-- ---- one component after the other

pub shown-first : (frame : Frame) (found : Found)
    → fold (shown_by frame.process frame) found (drop 0 (enumerate_from 0 frame.components)) ≡ completed found frame
unfolding completed
shown-first frame found = refl

pub shown-more : (frame : Frame) (found before after : Found) (index : ℕ) (c : Component)
    → index < length frame.components
    → c ≡ get_or frame.components index c → after ≡ shown_by frame.process frame before (index, c)
    → fold (shown_by frame.process frame) before (drop index
    (enumerate_from 0 frame.components)) ≡ completed found frame
    → fold (shown_by frame.process frame) after (drop (index + 1) (enumerate_from 0 frame.components))
    ≡ completed found frame
shown-more frame found before after index c h e is old =
    let es = enumerate_from 0 frame.components in
    let f = shown_by frame.process frame in
    let within : index < length es = rw (length-enumerate_from 0 frame.components) h in
    let at = numbered frame.components index c c h e in
    ap (λ (x : Found). fold f x (drop (index + 1) es)) (is ∙ ap (f before) (sym at))
    ∙ sym (at_drop_more (λ (l : List (ℕ × Component)). fold f before l) es index (0, c) within) ∙ old

pub shown-all : (frame : Frame) (found after : Found) (index : ℕ) → length frame.components ≤ index
    → fold (shown_by frame.process frame) after (drop index (enumerate_from 0 frame.components)) ≡ completed found frame
    → after ≡ completed found frame
shown-all frame found after index h old =
    let es = enumerate_from 0 frame.components in
    let none : drop index es ≡ [] = drop_of_length-le es (omega (arith, h, length-enumerate_from 0 frame.components)) in
    sym (ap (λ (l : List (ℕ × Component)). fold (shown_by frame.process frame) after l) none) ∙ old

-- ---- what holds of them

planes-set : (cs : List Component) (planes : List (Option (List ℕ))) (index : ℕ) (c : Component) (plane : Option
    (List ℕ))
    → ArePlanes cs planes → index < length cs → c ≡ get_or cs index c → IsPlaneOf c plane
    → ArePlanes cs (slice_set planes index plane)
unfolding ArePlanes
planes-set [] planes index c plane h l e p = absurd (omega arith)
planes-set (d ∷ cs) [] index c plane h l e p = absurd h
planes-set (d ∷ cs) (x ∷ planes) zero c plane h l e p = (subst (λ (y : Component). IsPlaneOf y plane) e p, h.1)
planes-set (d ∷ cs) (x ∷ planes) (suc index) c plane h l e p =
    (h.0, planes-set cs planes index c plane h.1 (omega arith) e p)

samples-set : (cs : List Component) (samples : List (Option (List ℕ))) (index : ℕ) (c : Component)
    (plane : Option (List ℕ)) → AreSampled cs samples → index < length cs → c ≡ get_or cs index c → IsSampled c plane
    → AreSampled cs (slice_set samples index plane)
unfolding AreSampled
samples-set [] samples index c plane h l e p = absurd (omega arith)
samples-set (d ∷ cs) [] index c plane h l e p = absurd h
samples-set (d ∷ cs) (x ∷ samples) zero c plane h l e p = (subst (λ (y : Component). IsSampled y plane) e p, h.1)
samples-set (d ∷ cs) (x ∷ samples) (suc index) c plane h l e p =
    (h.0, samples-set cs samples index c plane h.1 (omega arith) e p)

pub samples-at : (cs : List Component) (samples : List (Option (List ℕ))) (i : ℕ) (d : Component)
    → AreSampled cs samples → i < length cs → IsSampled (get_or cs i d) (get_or samples i None)
unfolding AreSampled
samples-at [] samples i d p h = absurd (omega arith)
samples-at (c ∷ cs) [] i d p h = absurd p
samples-at (c ∷ cs) (x ∷ samples) zero d p h = p.0
samples-at (c ∷ cs) (x ∷ samples) (suc i) d p h = samples-at cs samples i d p.1 (omega arith)

plane-or : (c : Component) (old : Option (List ℕ)) (plane : List ℕ) → IsPlaneOf c old → IsPlaneOf c (Some plane)
    → IsPlaneOf c (decided old plane)
plane-or c None plane h p = p
plane-or c (Some x) plane h p = h

samples-or : (c : Component) (old : Option (List ℕ)) (samples : List ℕ) → IsSampled c old → IsSampled c (Some samples)
    → IsSampled c (decided old samples)
samples-or c None samples h p = p
samples-or c (Some x) samples h p = h

same-frame : {f g : Frame} {o : Option Frame} → o ≡ Some f → o ≡ Some g → f ≡ g
same-frame h k = cc

pub plane-sound : (frame : Frame) (found : Found) (index : ℕ) (c : Component) → IsSound found
    → found.said.frame ≡ Some frame → index < length frame.components → c ≡ get_or frame.components index c
    → IsSound (with_plane_shown frame found (index, c))
unfolding with_plane_shown arrays_before
plane-sound frame found index c s f h e = record {
  frames = s.frames;
  kept = s.kept;
  planes = λ other g.
      subst (λ (x : Frame). ArePlanes x.components (with_plane_shown frame found (index, c)).planes) (same-frame f g)
      (planes-set frame.components found.planes index c (decided (slice_index_or found.planes index None)
      (plane_by c (table_held found c) (blocks_held found frame (index, c)))) (s.planes frame f) h e
      (plane-or c (slice_index_or found.planes index None)
      (plane_by c (table_held found c) (blocks_held found frame (index, c)))
      (subst (λ (x : Component). IsPlaneOf x (slice_index_or found.planes index None)) (sym e)
      (plane-at frame.components found.planes index c (s.planes frame f) h))
      (plane_by-length c (table_held found c) (blocks_held found frame (index, c)))));
  samples = s.samples;
  unread = λ n. absurd (let b : ⊥ = cc in b);
}

pub samples-sound : (frame : Frame) (found : Found) (index : ℕ) (c : Component) → IsSound found
    → found.said.frame ≡ Some frame → index < length frame.components → c ≡ get_or frame.components index c
    → IsSound (with_samples_shown frame found (index, c))
unfolding with_samples_shown arrays_before
samples-sound frame found index c s f h e = record {
  frames = s.frames;
  kept = s.kept;
  planes = s.planes;
  samples = λ other g.
      subst (λ (x : Frame). AreSampled x.components (with_samples_shown frame found (index, c)).samples)
      (same-frame f g)
      (samples-set frame.components found.samples index c (decided (slice_index_or found.samples index None)
      (replicate (c.width * c.height) (2 ^ (frame.precision - 1)))) (s.samples frame f) h e
      (samples-or c (slice_index_or found.samples index None)
      (replicate (c.width * c.height) (2 ^ (frame.precision - 1)))
      (subst (λ (x : Component). IsSampled x (slice_index_or found.samples index None)) (sym e)
      (samples-at frame.components found.samples index c (s.samples frame f) h))
      (length-replicate (c.width * c.height) (2 ^ (frame.precision - 1)))));
  unread = λ n. absurd (let b : ⊥ = cc in b);
}

by-process : (p : CodingProcess) (frame : Frame) (found : Found) (index : ℕ) (c : Component) → IsSound found
    → found.said.frame ≡ Some frame → index < length frame.components → c ≡ get_or frame.components index c
    → IsSound (shown_by p frame found (index, c))
by-process Lossless frame found index c s f h e = samples-sound frame found index c s f h e
by-process DctSequential frame found index c s f h e = plane-sound frame found index c s f h e
by-process DctProgressive frame found index c s f h e = plane-sound frame found index c s f h e

pub shown-sound : (frame : Frame) (found after : Found) (index : ℕ) (c : Component) → IsSound found
    → found.said.frame ≡ Some frame → index < length frame.components → c ≡ get_or frame.components index c
    → after ≡ shown_by frame.process frame found (index, c) → IsSound after
shown-sound frame found after index c s f h e is =
    subst IsSound (sym is) (by-process frame.process frame found index c s f h e)

-- ---- whether it is there

-- what the picture needs of a component
abbrev pub part_by : CodingProcess → Found → Frame → ℕ × Component → Result (List ℕ) Fault
part_by Lossless found frame = λ c. needed (slice_index_or found.samples c.0 None)
part_by _ found frame = plane_at_end found frame

pub parts-are : (p : CodingProcess) (found : Found) (frame : Frame)
    → planes_by p found frame ≡ gathered (part_by p found frame) (enumerate_from 0 frame.components)
parts-are p found frame = grind (arith, common_steps)

plane-is : (found : Found) (frame : Frame) (index : ℕ) (c : Component)
    → plane_at_end found frame (index, c) ≡ plane_or c (slice_index_or found.said.quantization
    c.factors.quantization None)
    (slice_index_or found.planes index None) (blocks_if (is_kept found frame) found.kept index)
unfolding plane_at_end
plane-is found frame index c = grind (arith, common_steps)

plane-given : (c : Component) (t o : Option (List ℕ)) (b : Bool) (kept : Arrays) (index : ℕ)
    → (is_some o || (b && is_some t)) ≡ true → (x : List ℕ) × (plane_or c t o (blocks_if b kept index) ≡ Ok x)
plane-given c t (Some x) b kept index h = (x, refl)
plane-given c (Some t) None true kept index h = (plane_by c t (get_or kept index []), refl)
plane-given c None None true kept index h = absurd (let n : ⊥ = cc in n)
plane-given c t None false kept index h = absurd (let n : ⊥ = cc in n)

plane-lacks : (c : Component) (t o : Option (List ℕ)) (b : Bool) (kept : Arrays) (index : ℕ)
    → (is_some o || (b && is_some t)) ≡ false → plane_or c t o (blocks_if b kept index) ≡ Err Malformed
plane-lacks c t (Some x) b kept index h = absurd (let n : ⊥ = cc in n)
plane-lacks c (Some t) None true kept index h = absurd (let n : ⊥ = cc in n)
plane-lacks c None None true kept index h = refl
plane-lacks c t None false kept index h = refl

samples-given : (o : Option (List ℕ)) → is_some o ≡ true → (x : List ℕ) × (needed o ≡ Ok x)
samples-given (Some x) h = (x, refl)
samples-given None h = absurd (let n : ⊥ = cc in n)

samples-lack : (o : Option (List ℕ)) → is_some o ≡ false → needed o ≡ Err Malformed
samples-lack (Some x) h = absurd (let n : ⊥ = cc in n)
samples-lack None h = refl

plane-there-at : (found : Found) (frame : Frame) (c : ℕ × Component) → is_there DctSequential found frame c ≡ true
    → (x : List ℕ) × (plane_at_end found frame c ≡ Ok x)
plane-there-at found frame c h =
    let p = plane-given c.1 (slice_index_or found.said.quantization c.1.factors.quantization None)
    (slice_index_or found.planes c.0 None) (is_kept found frame) found.kept c.0 h in
    (p.0, plane-is found frame c.0 c.1 ∙ p.1)

plane-lacks-at : (found : Found) (frame : Frame) (c : ℕ × Component) → is_there DctSequential found frame c ≡ false
    → plane_at_end found frame c ≡ Err Malformed
plane-lacks-at found frame c h =
    plane-is found frame c.0 c.1
    ∙ plane-lacks c.1 (slice_index_or found.said.quantization c.1.factors.quantization None)
    (slice_index_or found.planes c.0 None) (is_kept found frame) found.kept c.0 h

pub there : (p : CodingProcess) (found : Found) (frame : Frame) (c : ℕ × Component) → is_there p found frame c ≡ true
    → (x : List ℕ) × (part_by p found frame c ≡ Ok x)
there Lossless found frame c h = samples-given (slice_index_or found.samples c.0 None) h
there DctSequential found frame c h = plane-there-at found frame c h
there DctProgressive found frame c h = plane-there-at found frame c h

pub not-there : (p : CodingProcess) (found : Found) (frame : Frame) (c : ℕ × Component)
    → is_there p found frame c ≡ false → part_by p found frame c ≡ Err Malformed
not-there Lossless found frame c h = samples-lack (slice_index_or found.samples c.0 None) h
not-there DctSequential found frame c h = plane-lacks-at found frame c h
not-there DctProgressive found frame c h = plane-lacks-at found frame c h

-- ---- one component after the other is there

part-at : (p : CodingProcess) (found : Found) (frame : Frame) (index : ℕ) (c : Component)
    → index < length frame.components
    → c ≡ get_or frame.components index c
    → part_by p found frame (get_or (enumerate_from 0 frame.components) index (0, c)) ≡ part_by p found frame (index, c)
part-at p found frame index c h e = ap (part_by p found frame) (numbered frame.components index c c h e)

-- the parts of the first components
abbrev pub Given : Found → Frame → ℕ → Type 0
Given found frame index = (front : List (List ℕ))
    × Gathers (part_by frame.process found frame) (enumerate_from 0 frame.components) index front

pub given-none : (found : Found) (frame : Frame) → Given found frame 0
given-none found frame = ([], gathers-none (part_by frame.process found frame) (enumerate_from 0 frame.components))

pub given-more : (found : Found) (frame : Frame) (index : ℕ) (c : Component) → index < length frame.components
    → c ≡ get_or frame.components index c → is_there frame.process found frame (index, c) ≡ true
    → Given found frame index
    → Given found frame (index + 1)
given-more found frame index c h e is g =
    let x = there frame.process found frame (index, c) is in (
      g.0 ++ x.0 ∷ [],
      gathers-more (part_by frame.process found frame) (enumerate_from 0 frame.components) index (0, c) x.0 g.0
          (g.0 ++ x.0 ∷ []) (rw (length-enumerate_from 0 frame.components) h)
          (part-at frame.process found frame index c h e ∙ x.1) refl g.1,
    )

fault-is : (p : CodingProcess) (found : Found) (frame : Frame) (o : Option Error) (r : Result (List (List ℕ)) Fault)
    → gathered (part_by p found frame) (enumerate_from 0 frame.components) ≡ r → NamesFault o (fault_in r)
    → NamesFault o (fault_in (planes_by p found frame))
fault-is p found frame o r e n =
    subst (λ (r : Result (List (List ℕ)) Fault). NamesFault o (fault_in r)) (sym (parts-are p found frame ∙ e)) n

malformed : (e : Error) → NamesFormat e → Names {Y = Unit {0}} e (Err Malformed)
malformed e k = grind (arith, common_steps)

pub missing-at : (found : Found) (frame : Frame) (index : ℕ) (c : Component) (e : Error)
    → index < length frame.components
    → c ≡ get_or frame.components index c → is_there frame.process found frame (index, c) ≡ false
    → Given found frame index → NamesFormat e → NamesFault (Some e) (fault_in (planes_by frame.process found frame))
missing-at found frame index c e h is none g k =
    fault-is frame.process found frame (Some e) (Err Malformed)
    (gathers-err (part_by frame.process found frame) (enumerate_from 0 frame.components) index (0, c) Malformed g.0
    (rw (length-enumerate_from 0 frame.components) h)
    (part-at frame.process found frame index c h is ∙ not-there frame.process found frame (index, c) none) g.1)
    (malformed e k)

pub missing-none : (found : Found) (frame : Frame) (index : ℕ) → length frame.components ≤ index
    → Given found frame index → NamesFault None (fault_in (planes_by frame.process found frame))
missing-none found frame index h g =
    fault-is frame.process found frame None (Ok g.0)
    (gathers-all (part_by frame.process found frame) (enumerate_from 0 frame.components) index g.0
    (rw (length-enumerate_from 0 frame.components) h) g.1) tt

-- ---- the precision of samples

pub precision-some : (f : Frame) → IsDecodedFrame f → f.process ≡ Lossless → 2 ≤ f.precision
unfolding frame_at
precision-some f p e = search (rules, accepted-precision, leb-true, and_parts)

-- ---- a lossless component

pub lossless-shown : {X : Type 0} {E : Type 0} (r : Result X E) (frame : Frame) (before after : Found)
    (c : ℕ × Component)
    → frame.process ≡ Lossless → OnOk r (after ≡ with_samples_shown frame before c)
    → OnOk r (after ≡ shown_by frame.process frame before c)
lossless-shown (Ok x) frame before after c e h = h ∙ ap (λ (p : CodingProcess). shown_by p frame before c) (sym e)
lossless-shown (Err x) frame before after c e h = h
