-- For callers that prove contracts of their own: a new decoder knows the bytes that its reader tells, and a picture
-- has the bytes that its size, format and precision say.
use Rattle.std.proofs.Common.{◌≡◌, ◌*◌, ◌^◌, ℕ, List, length, Option, Some, true, false, refl}
use Rattle.std.proofs.Common.{option_map, arith, ap, None, subst, sym, ◌∙◌, ◌≤◌}
use Rattle.std.proofs.lemmas.Bool.{lt-ltb}
use Rattle.jpeg_bits.specs.Stream.{stream_of}
use Rattle.jpeg_segments.specs.Frame.{Frame}
use Rattle.jpeg_segments.specs.declared.frame.CodingProcess.TheVariants.{Lossless}
use Rattle.jpeg_meaning.specs.Output.{Tells}
use Rattle.jpeg_meaning.specs.Pixels.{info_by, info_with, samples_shown}
use Rattle.jpeg_meaning.specs.declared.images.PixelFormat.TheVariants.{L8}
use Rattle.jpeg_meaning.specs.declared.images.ImageInfo.{ImageInfo}
use Rattle.jpeg_decoder.specs.Bytes.{IsCounted, IsWhole, bytes_a_sample, picture_size}
use Rattle.jpeg_decoder.specs.Bytes.{samples_a_pixel, shape_of, shape_with}
use Rattle.jpeg_meaning.specs.declared.settings.Settings.{Settings}
use Rattle.jpeg_decoder.proofs.Pictures.PictureSizes.{shown-luma}
use Rattle.std.proofs.lemmas.Grind.{common_steps}

-- its bytes are known
pub bytes_are_known : (remaining : Option (List ℕ)) (bytes : List ℕ) → Tells remaining bytes
    → (stream_of remaining false false).known ≡ true
bytes_are_known remaining bytes tells = rw (tells.told, lt-ltb (length bytes) (2 ^ 64) tells.few) refl

-- and they are these
pub known_bytes_are_told : (remaining : Option (List ℕ)) (bytes : List ℕ) → Tells remaining bytes
    → (stream_of remaining false false).bytes ≡ bytes
known_bytes_are_told remaining bytes tells = rw tells.told refl

-- the bytes of a picture by `info` and `precision`
pub picture_is_counted : (settings : Settings) (frame : Option Frame) (info : ImageInfo) (precision : ℕ)
    (pixels : List ℕ) → IsWhole (option_map (shape_of settings) frame) pixels
    → IsCounted (option_map (shape_of settings) frame) → option_map (info_by settings) frame ≡ Some info
    → option_map (λ f. f.precision) frame ≡ Some precision
    → length pixels ≡ info.width * info.height * (samples_a_pixel info.pixel_format * bytes_a_sample precision)
unfolding picture_size
picture_is_counted settings frame info precision pixels whole counted i p = grind (arith, common_steps)

-- where the luma alone is shown
one-sample : (n : ℕ) (f : Frame) (pixels : List ℕ) → n ≡ 1 → f.precision ≤ 8
    → length pixels ≡ picture_size (shape_with n f)
    → ((info_with n f).pixel_format ≡ L8) × (length pixels ≡ f.output_width * f.output_height)
unfolding picture_size
one-sample n f pixels one few whole = grind (arith, common_steps)

-- A picture of luma has a byte for each pixel.
pub luma_is_counted : (settings : Settings) (frame : Option Frame) (info : ImageInfo) (precision : ℕ)
    (pixels : List ℕ) → settings.luma ≡ true → IsWhole (option_map (shape_of settings) frame) pixels
    → option_map (info_by settings) frame ≡ Some info → option_map (λ f. f.precision) frame ≡ Some precision
    → (info.coding_process ≡ Lossless → ⊥) → precision ≤ 8
    → (info.pixel_format ≡ L8) × (length pixels ≡ info.width * info.height)
luma_is_counted settings None info precision pixels luma whole i p blocks few = absurd (let n : ⊥ = cc in n)
luma_is_counted settings (Some f) info precision pixels luma whole i p blocks few =
    let is : info_by settings f ≡ info = cc in
    let bits : f.precision ≡ precision = cc in
    let one = shown-luma settings f luma (λ e. blocks (ap (λ (k : ImageInfo). k.coding_process) (sym is) ∙ e)) in
    subst (λ (k : ImageInfo). (k.pixel_format ≡ L8) × (length pixels ≡ k.width * k.height)) is
    (one-sample (samples_shown settings f) f pixels one (rw bits few) whole.0)
