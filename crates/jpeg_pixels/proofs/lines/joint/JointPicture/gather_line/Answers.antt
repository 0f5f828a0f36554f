use Rattle.std.proofs.Common.{refl, arith, rules}
use Rattle.jpeg_pixels.proofs.JointPictures.{joined-put, strip_line}
use Rattle.jpeg_pixels.proofs.lines.joint.JointPicture.gather_line.Goals as goal

pub loop-slot-preserved : goal.loop-slot-preserved
loop-slot-preserved c =
    let shape = c.args.self.now.shape in
    joined-put (strip_line shape c.args.self.now.width c.args.strips.now c.args.line)
    c.loop-slot.slot _ c.args.self.now.width _ _ c.loop-slot.lines c.copy_from_slice.new.self
    c.loop-slot-test.true refl (omega arith) (omega arith) (search rules) c.loop-slot.invariant
