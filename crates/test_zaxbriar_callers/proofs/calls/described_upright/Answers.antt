use Rattle.std.proofs.Common.{◌≡◌, ◌∙◌, ◌==◌, ap, refl, sym}
use Rattle.std.specs.Prelude.{if◌then◌else◌, nat_lt}
use Rattle.jpeg_meaning.specs.DecodedImages.{at_size}
use Rattle.zaxbriar_calls.proofs.CropPixels.{whole-width}
use Rattle.zaxbriar_calls.specs.Meanings.{orientation_by, size_wanted}
use Rattle.zaxbriar_calls.specs.Crops.{is_cropped}
use Rattle.zaxbriar_calls.specs.declared.picture.Picture.{Picture}
use Rattle.test_zaxbriar_callers.proofs.calls.described_upright.Goals as goal

pub returns : goal.returns
returns c ok right =
    let described = (c.read_info.ensures.describes ok).0 in
    let turned : orientation_by (at_size (size_wanted c.args.options.now) described.header.said).metadata.exif ≡ 6 =
    sym (ap (λ (p : Picture). p.orientation) described.picture_is) ∙ right in
    let asked = c.requires.asked in (
      described,
      ap (λ (p : Picture). p.width) described.picture_is
          ∙ whole-width c.args.options.now described.info
          (orientation_by (at_size (size_wanted c.args.options.now) described.header.said).metadata.exif)
          (is_cropped c.args.options.now) refl c.requires.whole c.requires.own
          ∙ (λ i. if nat_lt 4 (if asked i == 1 then turned i else 1) then described.info.height else described.info.width),
    )
