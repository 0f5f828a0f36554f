-- Lines of colours, by their indices, colours by products of 16 bits, and greys.
use Rattle.std.proofs.Common.{◌≡◌, ℕ, ◌+◌, ◌-◌, ◌*◌, ◌<◌, List, [], length, get_or, map, take, sym}
use Rattle.std.proofs.Common.{ap, ◌∙◌, refl, arith, ◌^◌, ◌/◌, ℤ, pos, negsuc, ◌+ℤ◌, ◌-ℤ◌, ◌*ℤ◌}
use Rattle.std.proofs.Common.{Bool, true, ◌==◌, unsigned_abs, rules, ◌∷◌}
use Rattle.std.proofs.lemmas.List.{ext_get_or, length-map, get_or-map}
use Rattle.std.proofs.Math.Seq.{take-length}
use Rattle.std.specs.List.{concat, list_all, range_with_len}
use Rattle.jpeg_pixels.specs.Colour.{red_of, green_of, blue_of, colour_of, line_bytes, centred_of}
use Rattle.jpeg_pixels.specs.JointPlanes.{HaveWidth}
use Rattle.jpeg_pixels.proofs.JoinedLines.{by_pixels, sample-at}
use Rattle.std.proofs.lemmas.Bool.Decides.{nat_tests}
use Rattle.std.proofs.lemmas.Grind.{common_steps}
use Rattle.std.proofs.lemmas.Int.{ints, to_z-of_z}
use Rattle.std.proofs.lemmas.Bool.{cases_lt}
use Rattle.std.specs.Int.{int_shr}
use Rattle.jpeg_bits.proofs.Ranges.{each_passes}
use Rattle.jpeg_pixels.specs.Samples.{clamped}
use Rattle.jpeg_pixels.proofs.ZeroCases.{none_of}
use Rattle.jpeg_pixels.specs.declared.color_convert.ColorConvert.TheVariants.{YCbCr}
use Rattle.jpeg_pixels.specs.declared.color_convert.ColorConvert.TheVariants as converts

abbrev samples : List (List ℕ) → ℕ → List ℕ
samples lines x = map (λ (l : List ℕ). get_or l x 0) lines

pub line-none : (width : ℕ) (lines : List (List ℕ)) → HaveWidth width lines
    → concat lines ≡ line_bytes converts.None width lines
unfolding line_bytes
line-none width lines long = ap concat (ext_get_or [] lines (map (take width) lines)
    (sym (length-map lines (take width)))
    (λ k h.
    let own : length (get_or lines k []) ≡ width = long.each k h in
    sym (get_or-map (take width) lines k [] [] h ∙ ap (λ n. take n (get_or lines k [])) (sym own)
    ∙ take-length (get_or lines k []))))

module _ (width : ℕ) (lines : List (List ℕ)) (out : List ℕ) (long : HaveWidth width lines) where
  -- the number at an index of the lines in a row
  abbrev pub in_lines : ℕ → ℕ
  in_lines i = get_or (concat lines) i 0

  -- at the index of each pixel stands its value
  abbrev pub Puts : (ℕ → ℕ) → (ℕ → ℕ) → Type 0
  Puts index value = (x : ℕ) → x < width → get_or out (index x) 0 ≡ value x

  -- a sample of a pixel, by its index in the lines, and what it lacks to 255
  sample : (k x : ℕ) → x < width → k < length lines → get_or (samples lines x) k 0 ≡ in_lines (k * width + x)
  sample k x lt h = sample-at width lines k x long h lt

  inverse : (k x : ℕ) → x < width → k < length lines
      → get_or (map (λ s. 255 - s) (samples lines x)) k 0 ≡ 255 - in_lines (k * width + x)
  inverse k x lt h = get_or-map (λ s. 255 - s) (samples lines x) k 0 0
      (omega (arith, length-map lines (λ (l : List ℕ). get_or l x 0))) ∙ ap (λ v. 255 - v) (sample k x lt h)

  pub line-rgb : length lines ≡ 3 → length out ≡ 3 * width → Puts (λ x. 3 * x) in_lines
      → Puts (λ x. 3 * x + 1) (λ x. in_lines (width + x))
      → Puts (λ x. 3 * x + 2) (λ x. in_lines (2 * width + x))
      → out ≡ line_bytes converts.Rgb width lines
  unfolding line_bytes colour_of
  line-rgb three size red green blue =
      by_pixels 3 width (samples lines) out (omega arith) (λ x. length-map lines (λ (l : List ℕ). get_or l x 0) ∙ three)
      size (λ x k h lt. grind (arith, nat_tests, red x h, green x h, blue x h, sample k x h))

  pub line-cmyk : length lines ≡ 4 → length out ≡ 4 * width
      → Puts (λ x. 4 * x) (λ x. 255 - in_lines x)
      → Puts (λ x. 4 * x + 1) (λ x. 255 - in_lines (width + x))
      → Puts (λ x. 4 * x + 2) (λ x. 255 - in_lines (2 * width + x))
      → Puts (λ x. 4 * x + 3) (λ x. 255 - in_lines (3 * width + x))
      → out ≡ line_bytes converts.Cmyk width lines
  unfolding line_bytes colour_of
  line-cmyk four size cyan magenta yellow black =
      by_pixels 4 width (λ x. map (λ s. 255 - s) (samples lines x)) out (omega arith)
      (λ x. length-map (samples lines x) (λ s. 255 - s) ∙ length-map lines (λ (l : List ℕ). get_or l x 0) ∙ four) size
      (λ x k h lt. grind (arith, nat_tests, cyan x h, magenta x h, yellow x h, black x h, inverse k x h))

  -- the colours of a pixel, by the indices of its samples
  abbrev pub red_at : ℕ → ℕ
  red_at x = red_of (in_lines x) (in_lines (2 * width + x))

  abbrev pub green_at : ℕ → ℕ
  green_at x = green_of (in_lines x) (in_lines (width + x)) (in_lines (2 * width + x))

  abbrev pub blue_at : ℕ → ℕ
  blue_at x = blue_of (in_lines x) (in_lines (width + x))

  pub line-ycbcr : length lines ≡ 3 → length out ≡ 3 * width → Puts (λ x. 3 * x) red_at
      → Puts (λ x. 3 * x + 1) green_at → Puts (λ x. 3 * x + 2) blue_at
      → out ≡ line_bytes converts.YCbCr width lines
  unfolding line_bytes colour_of
  line-ycbcr three size red green blue =
      by_pixels 3 width (λ x. colour_of converts.YCbCr (samples lines x)) out (omega arith) (λ x. refl) size
      (λ x k h lt. grind (arith, nat_tests, red x h, green x h, blue x h, sample 0 x h, sample 1 x h, sample 2 x h))

  pub line-ycck : length lines ≡ 4 → length out ≡ 4 * width → Puts (λ x. 4 * x) red_at
      → Puts (λ x. 4 * x + 1) green_at → Puts (λ x. 4 * x + 2) blue_at
      → Puts (λ x. 4 * x + 3) (λ x. 255 - in_lines (3 * width + x))
      → out ≡ line_bytes converts.Ycck width lines
  unfolding line_bytes colour_of
  line-ycck four size red green blue black =
      by_pixels 4 width (λ x. colour_of converts.Ycck (samples lines x)) out (omega arith) (λ x. refl) size
      (λ x k h lt. grind (
        arith,
        nat_tests,
        red x h,
        green x h,
        blue x h,
        black x h,
        sample 0 x h,
        sample 1 x h,
        sample 2 x h,
        sample 3 x h,
      ))

pub ruleset conversions = (line-none, line-rgb, line-ycbcr, line-cmyk, line-ycck)

-- a brightness of y units may be added before a shift by 20 bits, or after it
shifted : (y : ℕ) (z sum : ℤ) → sum ≡ pos (y * 2 ^ 20) +ℤ z
    → int_shr sum 20 ≡ pos y +ℤ int_shr z 20
shifted y (pos n) sum e = rw e (search rules)
shifted y (negsuc n) sum e = rw e (search (rules, cases_lt))

-- what a colour differs from the brightness, by a factor in units of 1 / 2^20
abbrev difference : ℕ → ℕ → ℤ
difference factor c = int_shr (pos 524288 +ℤ pos factor *ℤ centred_of c) 20

-- the same by a factor of 16 bits, in units of 1 / 2^14
abbrev pub short_difference : ℕ → ℕ → ℤ
short_difference factor c = int_shr (int_shr (pos 8 *ℤ centred_of c *ℤ pos factor) 16 +ℤ pos 1) 1

-- whether the two factors give the same at a byte
abbrev is_same : ℕ → ℕ → ℕ → Bool
is_same factor short c = unsigned_abs (difference factor c -ℤ short_difference short c) == 0

-- if they do at each byte, they do so with a brightness
by_short : (factor short : ℕ) → list_all (is_same factor short) (range_with_len 0 256) ≡ true
    → (y c : ℕ) → c < 256 → int_shr (pos (y * 2 ^ 20 + 2 ^ 19) +ℤ pos factor *ℤ centred_of c) 20
    ≡ pos y +ℤ short_difference short c
by_short factor short same y c h =
    let none = none_of (difference factor c -ℤ short_difference short c)
    (each_passes (is_same factor short) 0 256 c same (omega arith) h) in
    let equal : difference factor c ≡ short_difference short c = omega (arith, ints, none) in
    shifted y (pos 524288 +ℤ pos factor *ℤ centred_of c) _ (omega (arith, ints))
    ∙ ap (λ z. pos y +ℤ z) equal

-- red, by its factor of 16 bits: computed for each byte
pub red_by_short : (y cr : ℕ) → cr < 256
    → red_of y cr ≡ clamped (pos y +ℤ short_difference 22971 cr)
unfolding red_of
red_by_short y cr h = ap clamped (by_short 1470104 22971 refl y cr h)

-- blue, likewise
pub blue_by_short : (y cb : ℕ) → cb < 256
    → blue_of y cb ≡ clamped (pos y +ℤ short_difference 29033 cb)
unfolding blue_of
blue_by_short y cb h = ap clamped (by_short 1858077 29033 refl y cb h)

-- green, by the sum that is shifted
green_by_sum : (y cb cr : ℕ) → green_of y cb cr ≡ clamped (pos y +ℤ int_shr
    (pos 524288 -ℤ pos 360857 *ℤ centred_of cb -ℤ pos 748830 *ℤ centred_of cr) 20)
unfolding green_of
green_by_sum y cb cr = grind (arith, ints, common_steps, shifted)

-- green, by a sum that isn't negative
pub green_by_parts : (y cb cr : ℕ) → cb < 256 → cr < 256 → green_of y cb cr ≡ clamped (pos y +ℤ
    (pos ((360857 * (255 - cb) + 748830 * (255 - cr) + 103223) / 1048576) -ℤ pos 134))
green_by_parts y cb cr hb hr =
    let n = 360857 * (255 - cb) + 748830 * (255 - cr) + 103223 in
    let z = pos 524288 -ℤ pos 360857 *ℤ centred_of cb -ℤ pos 748830 *ℤ centred_of cr in
    let above : int_shr (pos n) 20 ≡ pos 134 +ℤ int_shr z 20 = shifted 134 z (pos n) (omega (arith, ints)) in
    let same : int_shr z 20 ≡ pos (n / 1048576) -ℤ pos 134 = grind (arith, ints, above) in
    green_by_sum y cb cr ∙ ap (λ v. clamped (pos y +ℤ v)) same

pub ruleset reds = (red_by_short, to_z-of_z)

pub ruleset blues = (blue_by_short, to_z-of_z)

pub grey : (y : ℕ) → y < 256 → colour_of YCbCr (y ∷ 128 ∷ 128 ∷ []) ≡ y ∷ y ∷ y ∷ []
unfolding colour_of red_of green_of blue_of
grey y h =
    let red : red_of y 128 ≡ y = omega arith in
    let green : green_of y 128 128 ≡ y = omega arith in
    let blue : blue_of y 128 ≡ y = omega arith in
    λ i. red i ∷ green i ∷ blue i ∷ []
