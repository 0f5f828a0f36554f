-- Whether the frame of a header has a picture.
use Rattle.std.proofs.Common.{◌≡◌, ℕ, ◌*◌, ◌%◌, ◌≤◌, ◌⊎◌, inl, inr, eqb, leb, List, [], ◌∷◌, length, sym, ◌∙◌}
use Rattle.std.specs.List.{AllByRecursion}
use Rattle.std.proofs.lemmas.Bool.{eq-eqb, eqb-true, false≢true, le-leb, leb-true}
use Rattle.jpeg_bits.proofs.PieceWalks.{by_bool}
use Rattle.jpeg_segments.specs.Frame.{Factors, greatest}
use Rattle.jpeg_segments.specs.WrittenSegments.{FrameHeader}
use Rattle.jpeg_meaning.specs.AcceptedFrames.{HasPicture, HasSamples, IsNear, IsUpsampled}
use Rattle.zaxbriar_strict.specs.Exact.{HasProgressivePicture, HasSequentialPicture}

-- ---- what is decided

-- it holds, or it doesn't
abbrev pub Decision : Type 0 → Type 0
Decision P = P ⊎ (P → ⊥)

both : (A B : Type 0) → Decision A → Decision B → Decision (A × B)
both A B (inl a) (inl b) = inl (a, b)
both A B (inl a) (inr not_b) = inr (λ p. not_b p.1)
both A B (inr not_a) b = inr (λ p. not_a p.0)

either : (A B : Type 0) → Decision A → Decision B → Decision (A ⊎ B)
either A B (inl a) b = inl (inl a)
either A B (inr not_a) (inl b) = inl (inr b)
either A B (inr not_a) (inr not_b) = inr (neither A B not_a not_b)
  where
    neither : (A B : Type 0) → (A → ⊥) → (B → ⊥) → A ⊎ B → ⊥
    neither A B f g (inl a) = f a
    neither A B f g (inr b) = g b

all : {A : Type 0} (P : A → Type 0) → ((x : A) → Decision (P x)) → (xs : List A) → Decision (AllByRecursion P xs)
all P decide [] = inl tt
all P decide (x ∷ xs) = both (P x) (AllByRecursion P xs) (decide x) (all P decide xs)

pub equal : (m n : ℕ) → Decision (m ≡ n)
equal m n =
    by_bool (eqb m n) (λ t. inl (eqb-true m n t)) (λ f. inr (λ e. false≢true (sym f ∙ eq-eqb m n e)))

pub at-most : (m n : ℕ) → Decision (m ≤ n)
at-most m n =
    by_bool (leb m n) (λ t. inl (leb-true m n t)) (λ f. inr (λ h. false≢true (sym f ∙ le-leb m n h)))

-- ---- pictures

near : (factor most size : ℕ) → Decision (IsNear factor most size)
near factor most size =
    either (factor ≡ most) ((2 * factor ≡ most) ⊎ (size ≡ 1)) (equal factor most)
    (either (2 * factor ≡ most) (size ≡ 1) (equal (2 * factor) most) (equal size 1))

upsampled : (h : FrameHeader) (c : Factors) → Decision (IsUpsampled h c)
upsampled h c =
    let across = greatest (λ (f : Factors). f.horizontal) h.components in
    let down = greatest (λ (f : Factors). f.vertical) h.components in
    either (IsNear c.horizontal across h.width × IsNear c.vertical down h.height)
    ((across % c.horizontal ≡ 0) × (down % c.vertical ≡ 0))
    (both (IsNear c.horizontal across h.width) (IsNear c.vertical down h.height)
    (near c.horizontal across h.width) (near c.vertical down h.height))
    (both (across % c.horizontal ≡ 0) (down % c.vertical ≡ 0) (equal (across % c.horizontal) 0)
    (equal (down % c.vertical) 0))

abbrev HasCount : ℕ → Type 0
HasCount n = (n ≡ 1) ⊎ ((n ≡ 3) ⊎ (n ≡ 4))

counted : (n : ℕ) → Decision (HasCount n)
counted n =
    either (n ≡ 1) ((n ≡ 3) ⊎ (n ≡ 4)) (equal n 1) (either (n ≡ 3) (n ≡ 4) (equal n 3) (equal n 4))

picture : (h : FrameHeader) → Decision (h.precision ≡ 8) → Decision (HasCount (length h.components))
    → Decision (AllByRecursion (IsUpsampled h) h.components) → Decision (HasPicture h)
picture h (inl p) (inl n) (inl u) = inl (record { precise = p; counted = n; upsampled = u })
picture h (inr f) n u = inr (λ x. f x.precise)
picture h (inl p) (inr f) u = inr (λ x. f x.counted)
picture h (inl p) (inl n) (inr f) = inr (λ x. f x.upsampled)

sequential : (number : ℕ) (h : FrameHeader) → Decision (number ≤ 1) → Decision (HasPicture h)
    → Decision (HasSequentialPicture number h)
sequential number h (inl few) (inl p) = inl (record { sequential = few; picture = p })
sequential number h (inr f) p = inr (λ x. f x.sequential)
sequential number h (inl few) (inr f) = inr (λ x. f x.picture)

pub picture-or-not : (number : ℕ) (h : FrameHeader) → Decision (HasSequentialPicture number h)
picture-or-not number h =
    sequential number h (at-most number 1) (picture h (equal h.precision 8) (counted (length h.components))
    (all (IsUpsampled h) (upsampled h) h.components))

progressive : (number : ℕ) (h : FrameHeader) → Decision (number ≡ 2) → Decision (HasPicture h)
    → Decision (HasProgressivePicture number h)
progressive number h (inl two) (inl p) = inl (record { progressive = two; picture = p })
progressive number h (inr f) p = inr (λ x. f x.progressive)
progressive number h (inl two) (inr f) = inr (λ x. f x.picture)

pub progressive-or-not : (number : ℕ) (h : FrameHeader) → Decision (HasProgressivePicture number h)
progressive-or-not number h =
    progressive number h (equal number 2) (picture h (equal h.precision 8) (counted (length h.components))
    (all (IsUpsampled h) (upsampled h) h.components))

-- ---- samples

samples : (number : ℕ) (h : FrameHeader) → Decision (number ≡ 3) → Decision (2 ≤ h.precision)
    → Decision (h.precision ≤ 16) → Decision (HasCount (length h.components))
    → Decision (AllByRecursion (IsUpsampled h) h.components) → Decision (HasSamples number h)
samples number h (inl l) (inl a) (inl b) (inl n) (inl u) =
    inl (record { lossless = l; least = a; most = b; counted = n; upsampled = u })
samples number h (inr f) a b n u = inr (λ x. f x.lossless)
samples number h (inl l) (inr f) b n u = inr (λ x. f x.least)
samples number h (inl l) (inl a) (inr f) n u = inr (λ x. f x.most)
samples number h (inl l) (inl a) (inl b) (inr f) u = inr (λ x. f x.counted)
samples number h (inl l) (inl a) (inl b) (inl n) (inr f) = inr (λ x. f x.upsampled)

pub samples-or-not : (number : ℕ) (h : FrameHeader) → Decision (HasSamples number h)
samples-or-not number h =
    samples number h (equal number 3) (at-most 2 h.precision) (at-most h.precision 16) (counted (length h.components))
    (all (IsUpsampled h) (upsampled h) h.components)
