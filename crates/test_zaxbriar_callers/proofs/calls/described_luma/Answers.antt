use Rattle.std.proofs.Common.{arith, ◌≡◌, ◌∙◌, ℕ, Bool, Option, Some, None, ap, false, length, refl, sym, true}
use Rattle.std.specs.Prelude.{if◌then◌else◌, nat_le, option_map, ◌==◌}
use Rattle.jpeg_decoder.specs.Bytes.{samples_a_pixel}
use Rattle.jpeg_meaning.specs.DecodedImages.{at_size}
use Rattle.jpeg_meaning.specs.Pixels.{format_of, info_by, luma_samples}
use Rattle.jpeg_meaning.specs.declared.images.ImageInfo.{ImageInfo}
use Rattle.jpeg_meaning.specs.declared.images.PixelFormat.TheVariants.{L8, L16}
use Rattle.jpeg_meaning.specs.declared.settings.Settings.{Settings}
use Rattle.jpeg_segments.specs.Frame.{Frame}
use Rattle.jpeg_segments.specs.declared.frame.CodingProcess.{CodingProcess}
use Rattle.jpeg_segments.specs.declared.frame.CodingProcess.TheVariants.{DctSequential, DctProgressive, Lossless}
use Rattle.zaxbriar_calls.specs.Lines.{process_number}
use Rattle.zaxbriar_calls.specs.Meanings.{settings_of, size_wanted}
use Rattle.zaxbriar_calls.specs.declared.picture.Picture.{Picture}
use Rattle.test_zaxbriar_callers.proofs.calls.described_luma.Goals as goal

grey : (precision : ℕ) → samples_a_pixel (format_of 1 precision) ≡ 1
grey precision = go (nat_le precision 8)
  where
    go : (low : Bool) → samples_a_pixel (if low then L8 else L16) ≡ 1
    go true = refl
    go false = refl

luma-alone : (luma : Bool) (process : CodingProcess) (count : ℕ) → luma ≡ true → process_number process ≡ 1
    → (if luma then luma_samples process count else count) ≡ 1
luma-alone true DctSequential count asked is = refl
luma-alone true DctProgressive count asked is = absurd (omega (arith, is))
luma-alone true Lossless count asked is = absurd (omega (arith, is))
luma-alone false process count asked is = absurd cc

one-sample : (settings : Settings) (frame : Option Frame) (info : ImageInfo) → settings.luma ≡ true
    → option_map (info_by settings) frame ≡ Some info → process_number info.coding_process ≡ 1
    → samples_a_pixel info.pixel_format ≡ 1
one-sample settings None info asked is process = absurd cc
one-sample settings (Some f) info asked is process =
    let same : info_by settings f ≡ info = cc in
    let sequential : process_number f.process ≡ 1 =
    ap (λ (i : ImageInfo). process_number i.coding_process) same ∙ process in
    ap (λ (i : ImageInfo). samples_a_pixel i.pixel_format) (sym same)
    ∙ ap (λ (n : ℕ). samples_a_pixel (format_of n f.precision))
    (luma-alone settings.luma f.process (length f.components) asked sequential)
    ∙ grey f.precision

pub returns : goal.returns
returns c ok sequential =
    let described = (c.read_info.ensures.describes ok).0 in
    let process : process_number described.info.coding_process ≡ 1 =
    sym (ap (λ (p : Picture). p.process) described.picture_is) ∙ sequential in
    let asked = c.requires.asked in
    ap (λ (p : Picture). p.components) described.picture_is
    ∙ one-sample (settings_of c.args.options.now)
    (at_size (size_wanted c.args.options.now) described.header.said).frame described.info (λ i. asked i == 1)
    described.info_is process
