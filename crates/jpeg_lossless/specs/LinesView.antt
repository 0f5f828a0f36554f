-- What a caller sees of the lines of a picture, and what holds of them.
use Rattle.std.specs.Prelude.{◌≡◌, ◌≤◌, ◌<◌, ℕ, List, length, map, true, false}
use Rattle.std.specs.List.{AllByRecursion, range_with_len}
use Rattle.jpeg_lossless.specs.Pictures.{AreWide, Layer, sample_line}
use Rattle.jpeg_lossless.specs.Samplings.{HasLine, layers_in}
use Rattle.jpeg_lossless.specs.declared.picture.SampleLines.TheInside.{Inside}

abbrev pub layers_kept : Inside → List Layer
layers_kept s = layers_in s.samplings.items (map (λ v. v.items) s.planes.items)

-- the lines from the top, of each its bytes
abbrev pub lines_kept : Inside → List (List ℕ)
lines_kept s =
    map (sample_line s.precision s.picture.horizontal s.picture.vertical s.picture.width
    (layers_kept s)) (range_with_len 0 s.height)

pub record AreKept (s : Inside) : Type 0 where
  pub across : 1 ≤ s.picture.horizontal
  pub down : 1 ≤ s.picture.vertical
  pub count : length s.samplings.items ≡ length s.planes.items
  pub own : (y : ℕ) → y < s.height → AllByRecursion (HasLine s.picture y) (layers_kept s)
  pub plain : s.is_plain ≡ true → AllByRecursion (λ c. c ≡ s.picture) s.samplings.items
  pub stretched : s.is_plain ≡ false → length s.stretched.items ≡ length s.planes.items
  pub wide : AreWide s.picture.width (map (λ v. v.items) s.stretched.items)
