use Rattle.std.proofs.Common.{rules, ◌≡◌, ◌+◌, ◌<◌, ◌++◌, ◌∙◌, ap, ap₂, arith, drop, get_or, length, map, refl, take}
use Rattle.std.proofs.Common.{List, None, ℕ}
use Rattle.std.specs.Prelude.{option_map, slice_index_or, unwrap_or}
use Rattle.std.proofs.lemmas.List.{length-map, map-set}
use Rattle.jpeg_segments.specs.Frame.{Component}
use Rattle.jpeg_segments.specs.FrameView.{component_in, frame_in}
use Rattle.jpeg_meaning.specs.Brought.{grey_samples}
use Rattle.jpeg_decoder.specs.PlanesView.{planes_in}
use Rattle.jpeg_decoder.specs.Reaching.{over, planes_over, samples_or_grey}
use Rattle.jpeg_decoder.proofs.Pictures.EndedPlanes.{mapped-or}
use Rattle.jpeg_decoder.proofs.LosslessFrames.LosslessReads.{component-at}
use Rattle.jpeg_decoder.proofs.LosslessFrames.SampleScans.{over-none, over-step}
use Rattle.jpeg_decoder.proofs.scan.samples.complete_all.Goals as goal

pub loop-slot-preserved : goal.loop-slot-preserved
loop-slot-preserved c =
    let l = c.loop-slot in
    let frame = frame_in c.args.frame.now in
    let cs = c.args.frame.now.components.items in
    let indices = c.args.indices.now in
    let samples = planes_in c.args.earlier.now in
    let planes = map (λ v. v.items) l.planes.items in
    let slot = l.slot in
    let index = get_or indices slot 0 in
    let within : slot < length indices = search rules in
    let same : index ≡ get_or indices slot index = search rules in
    let inside : index < length cs = omega (arith, c.requires.within slot 0 within, length-map cs component_in) in
    let r = c.index.result.now in
    let at : r ≡ slice_index_or cs index r = search rules in
    let component = component-at cs index r inside at in
    let earlier = get_or c.args.earlier.now index c.index-earlier-index.result in
    let there : option_map (λ v. v.items) earlier ≡ slice_index_or samples index None
    = mapped-or (λ p. option_map (λ v. v.items) p) c.args.earlier.now index earlier c.index-earlier-index.result None
    (search rules) refl in
    let old = c.index_mut.result.now in
    let is : c.complete.new.samples.items ≡ over (samples_or_grey frame samples index) old.items
    = c.in_ok-complete.ensures
    ∙ ap₂ (λ o (d : Component). over (unwrap_or o (grey_samples frame d)) old.items) there component in
    let was : old.items ≡ get_or planes slot old.items
    = mapped-or (λ v. v.items) l.planes.items slot old old old.items (omega (arith, within, l.invariant.count))
    c.index_mut.ensures.value in
    record {
      count = search rules;
      planes =
          ap (λ (p : List (List ℕ)). take (slot + 1) p
          ++ planes_over frame samples (drop (slot + 1) indices) (drop (slot + 1) p))
          (map-set (λ v. v.items) l.planes.items slot c.complete.new.samples)
          ∙ over-step frame samples indices slot index planes old.items c.complete.new.samples.items within
          (length-map l.planes.items (λ v. v.items) ∙ l.invariant.count) same was is
          ∙ l.invariant.planes;
    }

pub returns-clause-planes : goal.returns-clause-planes
returns-clause-planes c =
    let l = c.loop-slot in
    let planes = map (λ v. v.items) l.planes.items in
    over-none (frame_in c.args.frame.now) (planes_in c.args.earlier.now) c.args.indices.now l.slot planes
    (search rules) (length-map l.planes.items (λ v. v.items) ∙ l.invariant.count) ∙ l.invariant.planes
