-- The lines that are given of a picture: those of a decoder, or of a picture that was made smaller.
use Rattle.std.specs.Prelude.{◌≡◌, ◌*◌, ℕ, zero, suc, List, [], ◌∷◌, drop, length, take}
use Rattle.zaxbriar_calls.specs.declared.boxed.LineSource.{LineSource}
use Rattle.zaxbriar_calls.specs.declared.boxed.LineSource.TheVariants.{Decoded, Smaller}

-- so many lines of this many bytes each
unfoldable pub cut_in_lines : ℕ → ℕ → List ℕ → List (List ℕ)
cut_in_lines bytes zero samples = []
cut_in_lines bytes (suc height) samples =
    take bytes samples ∷ cut_in_lines bytes height (drop bytes samples)

-- the lines of what they are taken from
abbrev pub lines_from : LineSource → List (List ℕ)
lines_from (Decoded lines) = lines
lines_from (Smaller p) = cut_in_lines p.line_bytes p.height p.pixels.items

-- A picture in memory is as long as its lines.
abbrev pub IsWhole : LineSource → Type 0
IsWhole (Decoded lines) = Unit {0}
IsWhole (Smaller p) = length p.pixels.items ≡ p.height * p.line_bytes
