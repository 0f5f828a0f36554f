use Rattle.std.proofs.Common.{rules}
use Rattle.jpeg_segments.specs.FrameView.{frame_in}
use Rattle.jpeg_decoder.proofs.Pictures.SparedPlanes.{scale-at}
use Rattle.jpeg_decoder.proofs.picture.spared.plane_or_none.Goals as goal

pub zero_plane-requires : goal.zero_plane-requires
zero_plane-requires c =
    search (
      rules,
      scale-at c.args.frame.now.components.items (frame_in c.args.frame.now) c.args.index c.index.result.now,
    )
