use Rattle.jpeg_segments.specs.FrameView.{frame_in}
use Rattle.std.proofs.lemmas.List.{with_items_is}
use Rattle.jpeg_segments.proofs.ScaleLemmas.{at-scale, factors-seen, scaled_frames_are_sized, sized_frames_have_factors}
use Rattle.jpeg_segments.proofs.sizes.scale_frame.Goals as goal
use Rattle.std.proofs.lemmas.Grind.{common_steps}
use Rattle.std.proofs.Common.{arith}

pub greatest_of-horizontal-requires : goal.greatest_of-horizontal-requires
greatest_of-horizontal-requires c =
    rw c.deref.ensures.value (sized_frames_have_factors (frame_in c.args.frame.now) c.requires.sized)

pub returns-clause-frame : goal.returns-clause-frame
returns-clause-frame c = grind (arith, common_steps, with_items_is, at-scale, factors-seen)

pub returns-clause-sized : goal.returns-clause-sized
returns-clause-sized c = grind (arith, common_steps, returns-clause-frame, scaled_frames_are_sized)
