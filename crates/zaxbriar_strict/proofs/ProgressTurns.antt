-- What was read of a scan of a progressive frame is what a writer sends of an array.
use Rattle.std.proofs.Common.{◌≡◌, ℕ, ◌+◌, ◌-◌, ◌*◌, ◌/◌, ◌%◌, ◌<◌, ◌==◌, true, List, [], ◌∷◌, map}
use Rattle.std.proofs.Common.{refl, sym, ap, ◌∙◌, subst, arith, Option, Some, None}
use Rattle.std.proofs.lemmas.Bool.{false≢true}
use Rattle.std.specs.List.{AllByRecursion}
use Rattle.std.specs.Prelude.{slice_get}
use Rattle.jpeg_bits.specs.Passes.{Block, Pass, Via, zero_block}
use Rattle.jpeg_segments.specs.declared.frame.CodingProcess.{CodingProcess}
use Rattle.jpeg_segments.specs.declared.frame.CodingProcess.TheVariants.{DctProgressive}
use Rattle.jpeg_segments.specs.Frame.{Frame as WrittenFrame, frame_of, process_of}
use Rattle.jpeg_segments.specs.ScanHeader.{after_of, scan_of}
use Rattle.jpeg_segments.specs.ScanHeaders.{ScanHeader, scan_written}
use Rattle.jpeg_segments.specs.WrittenSegments.{nibbles}
use Rattle.jpeg_meaning.specs.Levels.{Is8Bit, numbers_at}
use Rattle.jpeg_meaning.specs.Order.{Spot, mcu_size, spots_of}
use Rattle.jpeg_meaning.specs.ScanSegments.{Coding, components_of, pass_of, vias_from}
use Rattle.jpeg_meaning.specs.Scans.{turns_of, via_at}
use Rattle.jpeg_meaning.specs.WrittenScans.{Coefficients, WritesScan}
use Rattle.zaxbriar_strict.specs.Changes.{Change, Place, sent_by}
use Rattle.zaxbriar_strict.specs.Heads.{is_progressive_process, number_of, written_frame}
use Rattle.zaxbriar_strict.specs.Runs.{WritesGroups, WritesPassBlocks, turns_by}
use Rattle.zaxbriar_strict.specs.ScanData.{AreAlike, IsAtSpot, ways_of}
use Rattle.zaxbriar_strict.specs.declared.frame.Frame.{Frame}
use Rattle.zaxbriar_strict.specs.declared.frame.Process.{Process}
use Rattle.zaxbriar_strict.specs.declared.frame.Process.TheVariants.{Baseline, Extended, Lossless, Progressive}
use Rattle.zaxbriar_strict.proofs.AlikeTurns.{IsSameTurn, turns-alike}
use Rattle.zaxbriar_strict.proofs.CutBlocks.{IsSameBand}
use Rattle.zaxbriar_strict.proofs.Extended.{block_at}
use Rattle.zaxbriar_strict.proofs.ScanTurns.{zero-in-range}

-- ---- the block at a spot

-- the block of an array at a spot of a component, if there is one
abbrev of_coding : Coefficients → Spot → Option Coding → Block
of_coding array s None = zero_block
of_coding array s (Some k) =
    array k.index (s.index / k.component.blocks_wide) (s.index % k.component.blocks_wide)

abbrev sent_at : List Coding → Coefficients → Spot → Block
sent_at codings array s = of_coding array s (slice_get codings s.slot)

sent-in-range : (array : Coefficients) (s : Spot) (k : Option Coding)
    → ((index row column : ℕ) → Is8Bit (array index row column)) → Is8Bit (of_coding array s k)
sent-in-range array s None full = zero-in-range
sent-in-range array s (Some k) full = full k.index _ _

sent-place : (codings : List Coding) (array : Coefficients) (s : Spot) (q : Place) → IsAtSpot codings s q
    → sent_at codings array s ≡ block_at array q
sent-place codings array s q a =
    ap (of_coding array s) a.here ∙ λ i. array (a.index i) (a.row i) (a.column i)

same-turns : (p : Pass) (codings : List Coding) (array : Coefficients) (vias : List Via) (spots : List Spot)
    (cs : List Change) → AreAlike (IsAtSpot codings) spots (map (λ (c : Change). c.place) cs)
    → AllByRecursion (λ c. IsSameBand p (sent_by p c) (numbers_at p.al (block_at array c.place))) cs
    → AreAlike (IsSameTurn p) (turns_by p (map (λ s. via_at vias s.slot) spots) cs)
    (map (λ s. (via_at vias s.slot, numbers_at p.al (sent_at codings array s))) spots)
unfolding AreAlike
same-turns p codings array vias [] [] at all = tt
same-turns p codings array vias [] (c ∷ cs) at all = absurd at
same-turns p codings array vias (s ∷ spots) [] at all = absurd at
same-turns p codings array vias (s ∷ spots) (c ∷ cs) at all = (
  record {
    via = refl;
    band = subst (λ (u : Block). IsSameBand p (sent_by p c) (numbers_at p.al u))
        (sym (sent-place codings array s c.place at.0)) all.0;
  },
  same-turns p codings array vias spots cs at.1 all.1,
)

-- The data of a scan are those of an array, where what is sent of each block is.
pub progress-written : (frame : WrittenFrame) (p : Pass) (codings : List Coding) (array : Coefficients) (restart : ℕ)
    (cs : List Change) (bytes : List ℕ)
    → AreAlike (IsAtSpot codings) (spots_of frame (components_of codings)) (map (λ (c : Change). c.place) cs)
    → AllByRecursion (λ c. IsSameBand p (sent_by p c) (numbers_at p.al (block_at array c.place))) cs
    → ((index row column : ℕ) → Is8Bit (array index row column))
    → WritesGroups (WritesPassBlocks p) (restart * mcu_size (components_of codings)) 0
    (turns_by p (ways_of frame codings) cs) bytes → WritesScan frame restart p codings array bytes
unfolding turns_of
progress-written frame p codings array restart cs bytes at all full w = record {
  sent = sent_at codings array;
  in_range = λ s. sent-in-range array s (slice_get codings s.slot) full;
  is_own = λ s k e own. ap (of_coding array s) e;
  coded = turns-alike p (restart * mcu_size (components_of codings)) (turns_by p (ways_of frame codings) cs) _ bytes
      (same-turns p codings array (vias_from 0 codings) (spots_of frame (components_of codings)) cs at all) w;
}

-- ---- its pass

process-by : (p : Process) → is_progressive_process p ≡ true → process_of (number_of p) ≡ DctProgressive
process-by Progressive e = refl
process-by Baseline e = absurd (false≢true e)
process-by Extended e = absurd (false≢true e)
process-by Lossless e = absurd (false≢true e)

pub process-progressive : (f : Frame) → is_progressive_process f.process ≡ true
    → (written_frame f).process ≡ DctProgressive
unfolding frame_of
process-progressive f e = process-by f.process e

pub pass-part : (frame : WrittenFrame) (h : ScanHeader) → frame.process ≡ DctProgressive → h.low < 16
    → pass_of (scan_written frame h) ≡ record { is_first = h.high == 0; ss = h.first; se = h.last; al = h.low }
unfolding pass_of scan_of
pass-part frame h e narrow =
    let high : nibbles h.high h.low / 16 ≡ h.high = omega (arith, narrow) in
    let low : nibbles h.high h.low % 16 ≡ h.low = omega (arith, narrow) in
    let end : h.last + 1 - 1 ≡ h.last = omega arith in
    let se : after_of frame.process h.last - 1 ≡ h.last =
    ap (λ (p : CodingProcess). after_of p h.last - 1) e ∙ end in
    λ i. record { is_first = high i == 0; ss = h.first; se = se i; al = low i }
