use Rattle.std.proofs.Common.{ap}
use Rattle.zaxbriar_calls.specs.declared.picture.Picture.{Picture}
use Rattle.test_zaxbriar_callers.proofs.calls.described_planes.Goals as goal

pub returns : goal.returns
returns c ok =
    let described = (c.read_info.ensures.describes ok).0 in (
      described,
      ap (λ (p : Picture). p.plane_width) described.picture_is,
      ap (λ (p : Picture). p.plane_height) described.picture_is,
      ap (λ (p : Picture). p.planes_size) described.picture_is,
    )
