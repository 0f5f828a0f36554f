-- Where all components have the same factors, the picture of samples shows them one by one.
use Rattle.std.proofs.Common.{◌≡◌, ℕ, ◌+◌, ◌*◌, ◌/◌, ◌<◌, List, [], ◌∷◌, map, length, refl, arith, rules}
use Rattle.std.specs.List.{AllByRecursion, concat, enumerate_from, range_with_len}
use Rattle.std.proofs.lemmas.Nat.{div-mul-add}
use Rattle.jpeg_segments.specs.Frame.{Component, Frame, most_across, most_down}
use Rattle.jpeg_lossless.specs.Pictures.{picture_by_samples, pixel_of, sample_bytes}
use Rattle.jpeg_lossless.specs.Positions.{at_position}
use Rattle.jpeg_meaning.specs.PlainSamples.{HasEqualFactors, plain_picture}
use Rattle.jpeg_meaning.specs.WrittenLossless.{Samples, picture_of_samples}
use Rattle.jpeg_meaning.proofs.Pictures.LosslessSizes.{some-across, some-down}
use Rattle.jpeg_meaning.proofs.Pictures.PaddingUnseen.{component_bytes}
use Rattle.std.proofs.lemmas.Grind.{common_steps}

through : (x factor most : ℕ) → 0 < most → factor ≡ most → x * factor / most ≡ x
through x factor most h e = grind (arith, common_steps, div-mul-add)

pixel-plain : (frame : Frame) (samples : Samples) (y x index : ℕ) (cs : List Component)
    → AllByRecursion (λ c. (c.factors.horizontal ≡ most_across frame.components)
    × (c.factors.vertical ≡ most_down frame.components)) cs
    → concat (map (component_bytes frame (λ c. at_position (samples c.0)) y x) (enumerate_from index cs))
    ≡ concat (map (λ k. sample_bytes frame.precision (at_position (samples k) x y)) (range_with_len
    index (length cs)))
pixel-plain frame samples y x index [] h = refl
pixel-plain frame samples y x index (c ∷ cs) h =
    let rest = pixel-plain frame samples y x (index + 1) cs h.1 in
    grind (arith, common_steps, through, some-across, some-down)

pub picture-plain : (frame : Frame) (samples : Samples) → HasEqualFactors frame
    → picture_of_samples frame samples ≡ plain_picture frame samples
unfolding picture_of_samples picture_by_samples pixel_of plain_picture
picture-plain frame samples h = search (rules, pixel-plain)
