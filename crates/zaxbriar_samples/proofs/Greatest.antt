-- The greatest of the samples of a picture.
use Rattle.std.proofs.Common.{◌≡◌, ℕ, zero, suc, ◌+◌, ◌/◌, ◌≤◌, List, [], ◌∷◌, refl, arith}
use Rattle.std.proofs.Common.{max, All, length}
use Rattle.std.proofs.Common.{Bool, true, false, if◌then◌else◌}
use Rattle.std.proofs.lemmas.List.Elements.{All-append, All-nil}
use Rattle.zaxbriar_samples.specs.Samples.{byte_at, greatest_below, greatest_sample, is_wide, pair_at}
use Rattle.zaxbriar_samples.specs.Samples.{samples_of, tabulate}

pub greatest-none : (f : ℕ → ℕ) → greatest_below 0 f ≡ 0
unfolding greatest_below
greatest-none f = refl

pub greatest-more : (count : ℕ) (f : ℕ → ℕ) → greatest_below (count + 1) f ≡ max (greatest_below count f) (f count)
unfolding greatest_below
greatest-more count f =
    let next : count + 1 ≡ suc count = omega arith in
    rw next refl

most-left : (a b most : ℕ) → max a b ≤ most → a ≤ most
most-left a b most h = omega arith

most-right : (a b most : ℕ) → max a b ≤ most → b ≤ most
most-right a b most h = omega arith

one : (x most : ℕ) → x ≤ most → All (λ (s : ℕ). s ≤ most) (x ∷ [])
one x most h zero d k = h
one x most h (suc i) d k = absurd (let n : ⊥ = omega arith in n)

-- where the greatest is at most a number all are
below-most : (count : ℕ) (f : ℕ → ℕ) (most : ℕ) → greatest_below count f ≤ most
    → All (λ (s : ℕ). s ≤ most) (tabulate count f)
unfolding greatest_below tabulate
below-most zero f most h = All-nil (λ (s : ℕ). s ≤ most)
below-most (suc count) f most h =
    All-append (λ (s : ℕ). s ≤ most) (tabulate count f) (f count ∷ [])
    (below-most count f most (most-left (greatest_below count f) (f count) most h))
    (one (f count) most (most-right (greatest_below count f) (f count) most h))

pub samples-most : (precision : ℕ) (pixels : List ℕ) (most : ℕ) → greatest_sample precision pixels ≤ most
    → All (λ (s : ℕ). s ≤ most) (samples_of precision pixels)
samples-most precision pixels most h = go (is_wide precision) h
  where
    go : (wide : Bool)
        → (if wide then greatest_below (length pixels / 2) (pair_at pixels) else greatest_below (length pixels) (byte_at pixels)) ≤ most
        → All (λ (s : ℕ). s ≤ most)
        (if wide then tabulate (length pixels / 2) (pair_at pixels) else tabulate (length pixels) (byte_at pixels))
    go true h = below-most (length pixels / 2) (pair_at pixels) most h
    go false h = below-most (length pixels) (byte_at pixels) most h

-- the greatest sample is at most the greatest of its bytes
pub bytes-most : (wide : Bool) (greatest : ℕ) → greatest ≤ 65535 → (wide ≡ false → greatest ≤ 255)
    → greatest ≤ (if wide then 65535 else 255)
bytes-most true greatest h narrow = h
bytes-most false greatest h narrow = narrow refl
