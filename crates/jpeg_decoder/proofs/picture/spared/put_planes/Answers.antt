use Rattle.jpeg_segments.specs.FrameView.{frame_in}
use Rattle.jpeg_decoder.proofs.Pictures.PicturesOfPlanes.{decoded-few}
use Rattle.jpeg_decoder.proofs.Pictures.SparedPlanes.{planes-put}
use Rattle.jpeg_decoder.proofs.picture.spared.put_planes.Goals as goal

pub returns-clause-planes : goal.returns-clause-planes
returns-clause-planes c =
    planes-put (frame_in c.args.frame.now).components c.args.decoded.now.planes _ _ _ _ _ _
    (decoded-few (frame_in c.args.frame.now) c.requires.frame) c.requires.none.none c.put.ensures c.put-2.ensures
    c.put-3.ensures c.in_ok-second.ensures c.in_ok-third.ensures c.in_ok-fourth.ensures
