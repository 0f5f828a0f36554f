use Rattle.std.proofs.Common.{◌∙◌, Some, ap, arith, map, refl, sym}
use Rattle.std.specs.List.{concat}
use Rattle.jpeg_segments.specs.FrameView.{component_in, frame_in}
use Rattle.jpeg_decoder.proofs.Pictures.JointEnds.{not-one}
use Rattle.jpeg_decoder.proofs.Pictures.LumaPictures.{joint-covers, joint-first, luma-given}
use Rattle.jpeg_decoder.proofs.Pictures.PictureSizes.{if-block_lines, if-luma_lines}
use Rattle.jpeg_decoder.proofs.Pictures.PicturesOfPlanes.{decoded-factors, several-given}
use Rattle.jpeg_decoder.proofs.picture.whole.joint_picture.Goals as goal

-- ---- the luma

pub plane-requires : goal.plane-requires
plane-requires c = record {
  small = c.requires.shape.small;
  slot = omega (arith, c.requires.shape.some);
  full = c.requires.full.full;
}

pub luma_lines-requires : goal.luma_lines-requires
luma_lines-requires c = record {
  frame = c.requires.frame;
  process = c.requires.process;
  covers = joint-covers (frame_in c.args.frame.now) _ _ _ c.requires.shape c.requires.full.full c.in_ok-plane.ensures;
}

pub returns-then-settings-clause-meant : goal.returns-then-settings-clause-meant
returns-then-settings-clause-meant c =
    luma-given concat _ _ (frame_in c.args.frame.now) _ _ c.luma_lines.result c.if-settings.true
    (not-one _ _ _ _ c.requires.shape) c.transform_of-transform.ensures
    (c.luma_lines.ensures.meant _ (joint-first _ _ (omega (arith, c.requires.shape.some))
    ∙ ap (λ p. Some p) (sym c.in_ok-plane.ensures)))

pub returns-then-settings-clause-lines : goal.returns-then-settings-clause-lines
returns-then-settings-clause-lines c =
    if-luma_lines c.args.settings (frame_in c.args.frame.now) c.luma_lines.result c.if-settings.true c.requires.process
    c.luma_lines.ensures.lines

-- ---- the colours

pub joint_lines-requires-clause-factors : goal.joint_lines-requires-clause-factors
joint_lines-requires-clause-factors c = rw c.deref.ensures.value (decoded-factors _ c.requires.frame)

pub returns-clause-meant : goal.returns-clause-meant
returns-clause-meant c =
    several-given concat _ _ (frame_in c.args.frame.now) _ _ _ _ c.joint_lines.result c.if-settings.false
    c.requires.frame
    (not-one _ _ _ _ c.requires.shape) (ap (map component_in) c.deref.ensures.value) refl
    c.transform_of-transform.ensures c.joint_lines.ensures.picture

pub returns-clause-lines : goal.returns-clause-lines
returns-clause-lines c =
    if-block_lines c.args.settings (frame_in c.args.frame.now) _ c.joint_lines.result c.if-settings.false c.requires.frame c.requires.process
    (ap (map component_in) c.deref.ensures.value) c.joint_lines.ensures.lines
