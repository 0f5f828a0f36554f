-- The picture of the coefficients of an image themselves, every bit of them (T.81, A.3.3).
use Rattle.std.specs.Prelude.{ℕ, List, length, Ok}
use Rattle.std.specs.List.{AllByRecursion, range_with_len}
use Rattle.jpeg_bits.specs.Reading.{Outcome, ◌>>=◌}
use Rattle.jpeg_segments.specs.Frame.{Frame}
use Rattle.jpeg_meaning.specs.declared.settings.Settings.{Settings}
use Rattle.jpeg_meaning.specs.ArrayPictures.{picture_of_blocks}
use Rattle.jpeg_meaning.specs.Levels.{Levels}
use Rattle.jpeg_meaning.specs.Stream.{Told, told_of}
use Rattle.jpeg_meaning.specs.Found.{Said}
use Rattle.jpeg_meaning.specs.WrittenScans.{Coefficients, IsComplete}

-- Every bit of each coefficient of a frame was sent.
abbrev pub AllComplete : Frame → (ℕ → Levels) → Type 0
AllComplete frame levels =
    AllByRecursion (λ k. IsComplete (levels k)) (range_with_len 0 (length frame.components))

-- The meaning of a stream that says this: what a caller is given, the picture, and the
-- bytes after the image.
abbrev pub whole_meaning : Settings → Said → Coefficients → List ℕ → Outcome (Told × List ℕ)
whole_meaning settings said array tail =
    picture_of_blocks settings said array >>= (λ picture. Ok ((told_of said, picture), tail))
