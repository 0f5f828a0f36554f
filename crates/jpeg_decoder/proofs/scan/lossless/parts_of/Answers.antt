use Rattle.std.proofs.Common.{◌≡◌, ◌<◌, ◌∷◌, ◌++◌, ◌∙◌, ◌==◌, [], ap, sym, arith, get_or, length}
use Rattle.std.proofs.Common.{map, rules}
use Rattle.std.proofs.Math.ListN as lists
use Rattle.std.specs.Prelude.{slice_index_or}
use Rattle.std.proofs.lemmas.List.{length-map, map-append}
use Rattle.jpeg_segments.specs.FrameView.{component_in, frame_in}
use Rattle.jpeg_lossless.specs.Codings.{part_in}
use Rattle.jpeg_decoder.proofs.LosslessFrames.LosslessReads.{component-at, parts_none, parts_step}
use Rattle.jpeg_decoder.proofs.scan.lossless.parts_of.Goals as goal
use Rattle.std.proofs.lemmas.Grind.{common_steps}

pub loop-slot-preserved : goal.loop-slot-preserved
loop-slot-preserved c =
    let cs = c.args.frame.now.components.items in
    let indices = c.args.indices.now in
    let tables = c.args.tables.now in
    let slot = c.loop-slot.slot in
    let r = c.index-component.result.now in
    let t = c.index-tables-slot.result in
    let index = get_or indices slot 0 in
    let within : slot < length indices = search rules in
    let inside : index < length cs = omega (
      arith,
      c.requires.within slot 0 within,
      length-map cs
          component_in,
    ) in
    let at : r ≡ slice_index_or cs index r = search rules in
    let there : get_or (map (λ t. t.now) tables) slot t.now ≡ t.now =
    lists.get_or-map (λ t. t.now) tables slot t ∙ ap (λ t. t.now) (sym c.index-tables-slot.is) in
    let pushed : c.push.new.self.items ≡ c.loop-slot.parts.items ++ c.part_of.result ∷ [] = search rules in
    let same : index ≡ get_or indices slot index = search rules in
    sym (parts_step (length indices == 1) (frame_in c.args.frame.now).components indices (map (λ t.
    t.now) tables) slot
    index t.now (component_in r) (map part_in c.loop-slot.parts.items) (map part_in
    c.push.new.self.items) within
    (omega (arith, within, length-map tables (λ t. t.now), c.requires.count)) same there
    (component-at cs index r inside at)
    (ap (map part_in) pushed ∙ map-append part_in c.loop-slot.parts.items (c.part_of.result ∷ [])
    ∙ ap (λ x. map part_in c.loop-slot.parts.items ++ x ∷ []) c.part_of.ensures))
    ∙ c.loop-slot.invariant

pub returns : goal.returns
returns c = grind (arith, common_steps, parts_none)
