use Rattle.std.proofs.Common.{ap, map, refl, rules}
use Rattle.std.specs.List.{concat}
use Rattle.jpeg_segments.specs.FrameView.{component_in, frame_in}
use Rattle.jpeg_decoder.proofs.Pictures.LumaPictures.{first-plane, luma-given, plane-covers, planes-some}
use Rattle.jpeg_decoder.proofs.Pictures.PictureSizes.{if-block_lines, if-luma_lines}
use Rattle.jpeg_decoder.proofs.Pictures.PicturesOfPlanes.{lines-first, picture-first, scale-first, several-given, several-ready}
use Rattle.jpeg_decoder.proofs.Pictures.PicturesOfPlanes.{several-seen}
use Rattle.jpeg_decoder.proofs.picture.whole.picture_by.Goals as goal

pub lines_within-requires : goal.lines_within-requires
lines_within-requires c = search (rules, scale-first)

pub returns-then-components-eq1-clause-meant : goal.returns-then-components-eq1-clause-meant
returns-then-components-eq1-clause-meant c =
    picture-first _ _ (frame_in c.args.frame.now) _ _ _ _ _ _ _ _ c.as_slice-components.ensures.value
    c.if-components-eq1.true c.requires.count c.pop.ensures.items c.in_ok-plane.ensures c.lines_within.ensures.cropped

pub returns-then-components-eq1-clause-lines : goal.returns-then-components-eq1-clause-lines
returns-then-components-eq1-clause-lines c =
    lines-first c.args.settings (frame_in c.args.frame.now) _ _ _ _ _ _ _ _ c.requires.frame c.requires.process refl
    c.as_slice-components.ensures.value c.if-components-eq1.true c.requires.count c.pop.ensures.items
    c.in_ok-plane.ensures c.requires.planes c.lines_within.ensures.height c.lines_within.ensures.width

pub swap_remove-requires : goal.swap_remove-requires
swap_remove-requires c =
    let some = planes-some (frame_in c.args.frame.now) _ c.requires.frame c.requires.count in
    search rules

pub luma_lines-requires : goal.luma_lines-requires
luma_lines-requires c = record {
  frame = c.requires.frame;
  process = c.requires.process;
  covers = plane-covers (frame_in c.args.frame.now) _ _ c.requires.frame c.requires.planes
      (planes-some (frame_in c.args.frame.now) _ c.requires.frame c.requires.count) c.swap_remove.ensures.value;
}

pub returns-then-settings-clause-meant : goal.returns-then-settings-clause-meant
returns-then-settings-clause-meant c =
    let same = c.as_slice-components.ensures.value in
    let other = several-seen _ _ (frame_in c.args.frame.now) refl same c.requires.frame c.if-components-eq1.false in
    luma-given concat _ _ (frame_in c.args.frame.now) _ _ c.luma_lines.result c.if-settings.true other.0
    c.transform_of-transform.ensures
    (c.luma_lines.ensures.meant _ (first-plane _ _
    (planes-some (frame_in c.args.frame.now) _ c.requires.frame c.requires.count) c.swap_remove.ensures.value))

pub returns-then-settings-clause-lines : goal.returns-then-settings-clause-lines
returns-then-settings-clause-lines c =
    if-luma_lines c.args.settings (frame_in c.args.frame.now) c.luma_lines.result c.if-settings.true c.requires.process
    c.luma_lines.ensures.lines

pub plane_lines-requires : goal.plane_lines-requires
plane_lines-requires c =
    let r = several-ready (frame_in c.args.frame.now) _ _ _ _ c.requires.frame refl
    c.as_slice-components.ensures.value refl c.if-components-eq1.false c.requires.count c.requires.planes in
    record { some = r.0.0; most = r.0.1; planes = r.1.0; factors = r.1.1.0; cover = r.1.1.1 }

pub returns-clause-meant : goal.returns-clause-meant
returns-clause-meant c =
    let same = c.as_slice-components.ensures.value in
    let other = several-seen _ _ (frame_in c.args.frame.now) refl same c.requires.frame c.if-components-eq1.false in
    several-given concat _ _ (frame_in c.args.frame.now) _ _ _ _ c.plane_lines.result c.if-settings.false
    c.requires.frame
    other.0 (ap (map component_in) same) refl c.transform_of-transform.ensures c.plane_lines.ensures.picture

pub returns-clause-lines : goal.returns-clause-lines
returns-clause-lines c =
    if-block_lines c.args.settings (frame_in c.args.frame.now) _ c.plane_lines.result c.if-settings.false c.requires.frame
    c.requires.process
    (ap (map component_in) c.as_slice-components.ensures.value) c.plane_lines.ensures.lines
