use Rattle.jpeg_segments.specs.FrameView.{frame_in}
use Rattle.jpeg_decoder.proofs.Pictures.JointEnds.{joint-meant}
use Rattle.jpeg_decoder.proofs.Pictures.PicturesOfPlanes.{decoded-factors}
use Rattle.jpeg_decoder.proofs.picture.whole.blocks_picture.Goals as goal

pub joint_shape_of-requires : goal.joint_shape_of-requires
joint_shape_of-requires c = decoded-factors _ (c.requires.sound.frames _ c.requires.frame)

pub returns-in-Some-clause-meant : goal.returns-in-Some-clause-meant
returns-in-Some-clause-meant c =
    let shape = rw c.in-Some.ensures.taken.1 at c.joint_shape_of.ensures in
    rw (joint-meant _ (frame_in c.args.frame.now) _ _ c.in-Some.planes c.requires.sound c.requires.frame shape
    c.in-Some.ensures.taken.2 c.args.settings) c.joint_picture.ensures.meant
