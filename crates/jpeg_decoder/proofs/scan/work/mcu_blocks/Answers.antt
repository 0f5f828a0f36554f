use Rattle.std.proofs.Common.{◌≤◌, ◌<◌, ◌*◌, ◌∙◌, ap₂, sym, arith, get_or, length, rules, ℕ}
use Rattle.std.proofs.lemmas.List.{length-map}
use Rattle.jpeg_segments.specs.FrameView.{component_in, frame_in}
use Rattle.jpeg_decoder.proofs.LosslessFrames.LosslessReads.{component-at}
use Rattle.jpeg_decoder.proofs.Scans.CountedWork.{alone-size, part-few, several-size, size-next, size-none}
use Rattle.jpeg_decoder.proofs.scan.work.mcu_blocks.Goals.{After-from-in-loop-slot}
use Rattle.jpeg_decoder.proofs.scan.work.mcu_blocks.Goals as goal

pub returns-then-indices-eq1-clause-blocks : goal.returns-then-indices-eq1-clause-blocks
returns-then-indices-eq1-clause-blocks c =
    sym (alone-size (frame_in c.args.frame.now) c.args.indices.now c.if-indices-eq1.true c.requires.within)

pub loop-slot-init : goal.loop-slot-init
loop-slot-init c = record { most = omega arith; sum = omega arith; few = omega arith }

-- the blocks of the component in the slot
one-few : (c : After-from-in-loop-slot) → c.from.result * c.from-in-loop-slot.result ≤ 65025
one-few c = part-few c.from.result c.from-in-loop-slot.result (search rules) (search rules)

pub overflow_add-blocks : goal.overflow_add-blocks
overflow_add-blocks c =
    let few = one-few (goal.at.overflow_add-blocks c).After-from-in-loop-slot in
    omega (arith, few, c.loop-slot.invariant.few, c.loop-slot.invariant.most, c.requires.most)

pub loop-slot-preserved : goal.loop-slot-preserved
loop-slot-preserved c =
    let frame = frame_in c.args.frame.now in
    let indices = c.args.indices.now in
    let items = c.args.frame.now.components.items in
    let slot = c.loop-slot.slot in
    let index = get_or indices slot 0 in
    let r = c.index-component.result.now in
    let within : slot < length indices = c.loop-slot-test.true in
    let inside : index < length items = omega (arith, c.requires.within slot 0 within, length-map items component_in) in
    let at = component-at items index r inside c.index-component.ensures in
    let next = size-next frame indices slot (component_in r) c.requires.within within at in
    let size = ap₂ (λ (h v : ℕ). h * v) c.from.ensures c.from-in-loop-slot.ensures in
    record {
      most = omega (arith, within);
      sum = omega (arith, next, size, c.loop-slot.invariant.sum);
      few = omega (arith, one-few (goal.at.loop-slot-preserved c).After-from-in-loop-slot, c.loop-slot.invariant.few);
    }

pub returns-clause-blocks : goal.returns-clause-blocks
returns-clause-blocks c =
    let frame = frame_in c.args.frame.now in
    let indices = c.args.indices.now in
    let none = size-none frame indices c.loop-slot.slot (omega (arith, c.loop-slot-test.false)) in
    omega (arith, none, c.loop-slot.invariant.sum)
    ∙ several-size frame indices c.if-indices-eq1.false c.requires.within

pub returns-clause-few : goal.returns-clause-few
returns-clause-few c = omega (arith, c.loop-slot.invariant.few, c.loop-slot.invariant.most, c.requires.most)
