-- The lines of a decoder's picture are those of a file.
use Rattle.std.proofs.Common.{◌≡◌, ◌∙◌, ℕ, ◌*◌, ◌<◌, ◌≤◌, List, [], Option, Some, None}
use Rattle.std.proofs.Common.{length, option_map, refl, sym, subst}
use Rattle.std.proofs.Common.{mul_assoc, if◌then◌else◌, nat_le, nat_lt, ◌⊎◌, inl, inr}
use Rattle.std.proofs.lemmas.Bool.{cases_lt, le-leb, le-ltb, lt-leb, lt-ltb}
use Rattle.std.specs.List.{concat}
use Rattle.std.specs.Prelude.{slice_index_or}
use Rattle.jpeg_segments.specs.Frame.{Frame}
use Rattle.jpeg_meaning.specs.Pixels.{info_by, samples_shown}
use Rattle.jpeg_meaning.specs.declared.settings.Settings.{Settings}
use Rattle.jpeg_meaning.specs.States.{Decoding}
use Rattle.jpeg_meaning.specs.declared.images.ImageInfo.{ImageInfo}
use Rattle.jpeg_meaning.specs.declared.images.PixelFormat.{PixelFormat}
use Rattle.jpeg_meaning.specs.declared.images.PixelFormat.TheVariants.{L8, L16, RGB24, CMYK32}
use Rattle.jpeg_decoder.specs.Bytes.{AreLinesOf, HaveBytes, IsCounted, bytes_a_sample}
use Rattle.jpeg_decoder.specs.Bytes.{samples_a_pixel, shape_in, shape_of}
use Rattle.zaxbriar_samples.specs.Boxes.{components_a_pixel}
use Rattle.zaxbriar_samples.specs.Png.{line_bytes}
use Rattle.zaxbriar_samples.specs.Samples.{is_wide}
use Rattle.zaxbriar_samples.proofs.LinesTogether.{line-at}
use Rattle.zaxbriar_samples.proofs.PngSteps.{cut_line}
use Rattle.jpeg_decoder.specs.Bytes as shape

pub line-cut : (info : ImageInfo) (precision y : ℕ) (lines : List (List ℕ))
    → HaveBytes (line_bytes info precision) lines → y < length lines
    → slice_index_or lines y [] ≡ cut_line info precision (concat lines) y
line-cut info precision y lines all low = line-at (line_bytes info precision) y lines all low

-- ---- what a frame says of its lines

same-samples : (format : PixelFormat) → samples_a_pixel format ≡ components_a_pixel format
same-samples L8 = refl
same-samples L16 = refl
same-samples RGB24 = refl
same-samples CMYK32 = refl

some-same : {A : Type 0} (x y : A) → ◌≡◌ {A = Option A} (Some x) (Some y) → x ≡ y
some-same x y e = cc

-- what is known of the lines of a picture by what is said of it
pub record HasLinesOf (info : ImageInfo) (precision : ℕ) (lines : List (List ℕ)) : Type 0 where
  pub height : length lines ≡ info.height
  pub bytes : HaveBytes (line_bytes info precision) lines

sample-size : (precision : ℕ) → ◌≡◌ {A = ℕ} (bytes_a_sample precision) (if is_wide precision then 2 else 1)
sample-size precision = go (cases_lt 8 precision)
  where
    go : (8 < precision) ⊎ (precision ≤ 8)
        → ◌≡◌ {A = ℕ} (if nat_le precision 8 then 1 else 2) (if nat_lt 8 precision then 2 else 1)
    go (inl wide) = rw (lt-leb precision 8 wide, lt-ltb 8 precision wide) refl
    go (inr narrow) = rw (le-leb precision 8 narrow, le-ltb 8 precision narrow) refl

same-size : (info : ImageInfo) (samples precision : ℕ) → samples ≡ samples_a_pixel info.pixel_format
    → info.width * (samples * bytes_a_sample precision) ≡ line_bytes info precision
same-size info samples precision counted =
    let count : samples ≡ components_a_pixel info.pixel_format = counted ∙ same-samples info.pixel_format in
    rw (count, sample-size precision)
    (sym (mul_assoc info.width (components_a_pixel info.pixel_format) (if is_wide precision then 2 else 1)))

of-frame : (settings : Settings) (f : Frame) (lines : List (List ℕ)) → AreLinesOf (Some (shape_of settings f)) lines
    → IsCounted (Some (shape_of settings f)) → HasLinesOf (info_by settings f) f.precision lines
unfolding shape.line_bytes
of-frame settings f lines are counted = record {
  height = are.0;
  bytes = subst (λ (n : ℕ). HaveBytes n lines)
      (same-size (info_by settings f) (samples_shown settings f) f.precision counted) are.1;
}

pub lines-of-frame : (d : Decoding) (info : ImageInfo) (precision : ℕ) (lines : List (List ℕ))
    → AreLinesOf (shape_in d) lines → IsCounted (shape_in d)
    → option_map (info_by d.settings) d.found.said.frame ≡ Some info
    → option_map (λ f. f.precision) d.found.said.frame ≡ Some precision → HasLinesOf info precision lines
lines-of-frame d info precision lines are counted i p = go d.found.said.frame are counted i p
  where
    go : (frame : Option Frame) → AreLinesOf (option_map (shape_of d.settings) frame) lines
        → IsCounted (option_map (shape_of d.settings) frame) → option_map (info_by d.settings) frame ≡ Some info
        → option_map (λ f. f.precision) frame ≡ Some precision → HasLinesOf info precision lines
    go None are counted i p = absurd (let n : ⊥ = cc in n)
    go (Some f) are counted i p =
        subst (λ (k : ImageInfo). HasLinesOf k precision lines) (some-same (info_by d.settings f) info i)
        (subst (λ (k : ℕ). HasLinesOf (info_by d.settings f) k lines) (some-same f.precision precision p)
        (of-frame d.settings f lines are counted))
