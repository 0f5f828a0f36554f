-- The frames that are accepted, by the parameters of their headers (T.81, B.2.2 and A.1.1).
use Rattle.std.specs.Prelude.{◌≡◌, ◌⊎◌, ℕ, ◌*◌, ◌%◌, ◌≤◌, length}
use Rattle.std.specs.List.{AllByRecursion}
use Rattle.jpeg_segments.specs.Frame.{Factors, greatest}
use Rattle.jpeg_segments.specs.WrittenSegments.{FrameHeader}

-- A sampling factor is the greatest of its direction or half of that, or the picture has one sample
-- in that direction.
abbrev pub IsNear : ℕ → ℕ → ℕ → Type 0
IsNear factor most size = (factor ≡ most) ⊎ ((2 * factor ≡ most) ⊎ (size ≡ 1))

-- A component can be upsampled: its sampling factors are both near the greatest, or both divide the
-- greatest.
abbrev pub IsUpsampled : FrameHeader → Factors → Type 0
IsUpsampled h c =
    let most_h = greatest (λ f. f.horizontal) h.components in
    let most_v = greatest (λ f. f.vertical) h.components in
    (IsNear c.horizontal most_h h.width × IsNear c.vertical most_v h.height)
    ⊎ ((most_h % c.horizontal ≡ 0) × (most_v % c.vertical ≡ 0))

-- A frame of 8 bits, with one, three or four components that can be upsampled.
pub record HasPicture (h : FrameHeader) : Type 0 where
  pub precise : h.precision ≡ 8
  pub counted : (length h.components ≡ 1) ⊎ ((length h.components ≡ 3) ⊎ (length h.components ≡ 4))
  pub upsampled : AllByRecursion (IsUpsampled h) h.components

-- A frame header SOF3 of 2 to 16 bits, with one, three or four components that can be upsampled.
pub record HasSamples (number : ℕ) (h : FrameHeader) : Type 0 where
  pub lossless : number ≡ 3
  pub least : 2 ≤ h.precision
  pub most : h.precision ≤ 16
  pub counted : (length h.components ≡ 1) ⊎ ((length h.components ≡ 3) ⊎ (length h.components ≡ 4))
  pub upsampled : AllByRecursion (IsUpsampled h) h.components
