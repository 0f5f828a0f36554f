-- Samples on the scale of a layout.
use Rattle.std.proofs.Common.{◌≡◌, ◌∙◌, ℕ, ◌+◌, ◌-◌, ◌*◌, ◌/◌, ◌<◌, ◌≤◌, List, ap, arith, refl, subst, sym}
use Rattle.std.proofs.Math.Nat.{div-mul-le_self, mul-le-mul}
use Rattle.std.proofs.lemmas.Nat.{div-mul-add, le-div}
use Rattle.std.specs.Prelude.{min}
use Rattle.zaxbriar_calls.specs.Layouts.{full_of, greatest, level, light, sample_at, scaled}
use Rattle.zaxbriar_calls.specs.declared.layouts.Layout.{Layout}
use Rattle.zaxbriar_calls.specs.declared.layouts.Layout.TheVariants.{Grey, Rgb, Rgba, Bgra, Bgr, Xrgb, Abgr, Rgb565}
use Rattle.zaxbriar_calls.specs.declared.layouts.Layout.TheVariants.{Grey16, Rgb16}

-- products of numbers of 16 bits fit in 32
pub product-fits : (a b : ℕ) → a ≤ 65535 → b ≤ 65535 → a * b ≤ 4294836225
product-fits a b ha hb = mul-le-mul ha hb

-- a sample on its own scale stays as it is
pub same-scale : (full sample : ℕ) → 1 ≤ full → (sample * full + full / 2) / full ≡ sample
same-scale full sample some =
    let half : full / 2 < full = omega (arith, some) in div-mul-add sample full (full / 2) half

pub level-kept : (full precision k : ℕ) (pixel : List ℕ) → 1 ≤ full → greatest precision ≡ full
    → min full (sample_at precision pixel k) ≡ level full precision pixel k
unfolding level
level-kept full precision k pixel some e =
    ap (λ n. min full n) (sym (same-scale full (sample_at precision pixel k) some))
    ∙ ap (λ most. scaled full most (sample_at precision pixel k)) (sym e)

lifted : (q p s h : ℕ) → q ≤ p + h → p ≤ s → q ≤ s + h
lifted q p s h a b = omega (arith, a, b)

-- light is at most all light
pub light-most : (full ink black : ℕ) → 1 ≤ full → light full ink black ≤ full
light-most full ink black some =
    let a : full - ink ≤ full = omega arith in
    let b : full - black ≤ full = omega arith in
    let product : (full - ink) * (full - black) ≤ full * full = mul-le-mul a b in
    let down : light full ink black * full ≤ (full - ink) * (full - black) + full / 2 =
    div-mul-le_self ((full - ink) * (full - black) + full / 2) full in
    let up : light full ink black * full ≤ full * full + full / 2 =
    lifted (light full ink black * full) ((full - ink) * (full - black)) (full * full) (full / 2) down product in
    subst (λ n. light full ink black ≤ n) (same-scale full full some)
    (le-div (light full ink black) (full * full + full / 2) full (omega (arith, some)) up)

-- the samples of most layouts have 8 bits
pub byte-scale : (layout : Layout) → (layout ≡ Grey16 → ⊥) → (layout ≡ Rgb16 → ⊥) → full_of layout ≡ 255
byte-scale Grey not_grey not_rgb = refl
byte-scale Rgb not_grey not_rgb = refl
byte-scale Rgba not_grey not_rgb = refl
byte-scale Bgra not_grey not_rgb = refl
byte-scale Bgr not_grey not_rgb = refl
byte-scale Xrgb not_grey not_rgb = refl
byte-scale Abgr not_grey not_rgb = refl
byte-scale Rgb565 not_grey not_rgb = refl
byte-scale Grey16 not_grey not_rgb = absurd (not_grey refl)
byte-scale Rgb16 not_grey not_rgb = absurd (not_rgb refl)

pub byte-part : (layout : Layout) (part : ℕ) → (layout ≡ Grey16 → ⊥) → (layout ≡ Rgb16 → ⊥)
    → part ≤ full_of layout → part ≤ 255
byte-part layout part not_grey not_rgb le = subst (λ n. part ≤ n) (byte-scale layout not_grey not_rgb) le
