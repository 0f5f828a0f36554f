use Rattle.std.proofs.Common.{◌∙◌, ap, refl}
use Rattle.jpeg_meaning.specs.DecodedImages.{at_size}
use Rattle.zaxbriar_calls.proofs.CropPixels.{part-height, part-width}
use Rattle.zaxbriar_calls.specs.Crops.{is_cropped}
use Rattle.zaxbriar_calls.specs.Meanings.{orientation_by, size_wanted}
use Rattle.zaxbriar_calls.specs.declared.picture.Picture.{Picture}
use Rattle.test_zaxbriar_callers.proofs.calls.described_part.Goals as goal

pub returns-clause-wide : goal.returns-clause-wide
returns-clause-wide c ok =
    let described = (c.read_info.ensures.describes ok).0 in
    ap (λ (p : Picture). p.width) described.picture_is
    ∙ part-width c.args.options.now described.info
    (orientation_by (at_size (size_wanted c.args.options.now) described.header.said).metadata.exif)
    (is_cropped c.args.options.now) refl c.requires.asked c.requires.own

pub returns-clause-high : goal.returns-clause-high
returns-clause-high c ok =
    let described = (c.read_info.ensures.describes ok).0 in
    ap (λ (p : Picture). p.height) described.picture_is
    ∙ part-height c.args.options.now described.info
    (orientation_by (at_size (size_wanted c.args.options.now) described.header.said).metadata.exif)
    (is_cropped c.args.options.now) refl c.requires.asked c.requires.own
