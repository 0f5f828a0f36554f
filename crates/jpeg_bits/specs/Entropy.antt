-- Entropy-coded data (F.1.2.3, B.1.1.5): the bits that come, and how they end.
use Rattle.std.specs.Prelude.{◌≡◌, ℕ, ℤ, pos, ◌-ℤ◌, ◌-◌, nat_lt, ◌+◌, ◌*◌, ◌/◌, ◌%◌, ◌^◌, ◌≤◌, List}
use Rattle.std.specs.Prelude.{[], ◌∷◌, ◌++◌, length, take, drop, replicate, Bool, true, false}
use Rattle.std.specs.Prelude.{Option, Some, None, Result, Ok, Err, nat_le, ◌==◌, if◌then◌else◌}
use Rattle.std.specs.Prelude.{fold}
use Rattle.jpeg_bits.specs.Reading.{Outcome, Fault, Malformed, End, Names, MayFail, IsGivenUp}
use Rattle.jpeg_bits.specs.Reading.{◌>>=◌}
use Rattle.jpeg_bits.specs.Marker.{marker_of}
use Rattle.jpeg_bits.specs.Stream.{Stream}
use Rattle.jpeg_bits.specs.declared.beyond.Beyond.{Beyond}
use Rattle.jpeg_bits.specs.declared.beyond.Beyond.TheVariants.{Nothing, Zeros}
use Rattle.jpeg_bits.specs.declared.marker.Marker.{Marker}
use Rattle.jpeg_bits.specs.declared.error.Error.{Error}
use Rattle.jpeg_bits.specs.declared.huffman.ahead.Piece.{Piece}
use Rattle.jpeg_bits.specs.declared.huffman.ahead.Piece.TheVariants.{Byte, Data}
use Rattle.jpeg_bits.specs.declared.huffman.ahead.DataEnd.{DataEnd}
use Rattle.jpeg_bits.specs.declared.huffman.ahead.DataEnd.TheVariants as ends

-- How a text ends: with a marker, and the bytes after it, where zeros without end follow the bits
-- (`Found`) or nothing does (`Stops`), or with a fault.
pub data Ending : Type 0 where
  Found : Marker → List ℕ → Ending
  Stops : Marker → List ℕ → Ending
  Broken : Fault → Ending

-- the bits of a text, for each of them the bytes after the byte that has it, and the end
pub record Text : Type 0 where
  pub bits : List Bool
  pub following : List (List ℕ)
  pub ending : Ending

-- a byte as eight bits, the highest first
abbrev pub bits_of : ℕ → List Bool
bits_of b = (b / 128 % 2 == 1) ∷ (b / 64 % 2 == 1) ∷ (b / 32 % 2 == 1) ∷ (b / 16 % 2 == 1)
    ∷ (b / 8 % 2 == 1) ∷ (b / 4 % 2 == 1) ∷ (b / 2 % 2 == 1) ∷ (b % 2 == 1) ∷ []

abbrev pub no_bits : Ending → Text
no_bits e = record { bits = []; following = []; ending = e }

-- a byte in front of a text, where rest stands after the byte
abbrev pub add_byte : ℕ → List ℕ → Text → Text
add_byte b rest t =
    record t { bits = bits_of b ++ t.bits; following = replicate 8 rest ++ t.following }

-- the end that a byte after FF makes, where rest stands after it
abbrev pub ended_by : Option Marker → List ℕ → Ending
ended_by None rest = Broken Malformed
ended_by (Some m) rest = Found m rest

-- after FF, where no stuffing stands: any more FF, and a marker
unfoldable pub ending_at : List ℕ → Ending
ending_at [] = Broken End
ending_at (c ∷ rest) = if c == 255 then ending_at rest else ended_by (marker_of c) rest

-- the text from a byte on
unfoldable pub text_at : List ℕ → Text
text_at [] = no_bits (Broken End)
text_at (b ∷ []) = if b == 255 then no_bits (Broken End) else add_byte b [] (no_bits (Broken End))
text_at (b ∷ c ∷ rest) =
    if b == 255 then (if c == 0 then add_byte 255 rest (text_at rest)
    else no_bits (ending_at (c ∷ rest)))
    else add_byte b (c ∷ rest) (text_at (c ∷ rest))

-- how a text ends by what follows the bits where a marker ends them
abbrev pub closed : Beyond → Ending → Ending
closed Zeros e = e
closed Nothing (Found m rest) = Stops m rest
closed Nothing e = e

-- the text after its first n bits
abbrev pub advance : ℕ → Text → Text
advance n t = record { bits = drop n t.bits; following = drop n t.following; ending = t.ending }

-- a number by its bits, the highest first
abbrev pub number_of : List Bool → ℕ
number_of bits = fold (λ n b. 2 * n + (if b then 1 else 0)) 0 bits

-- n bits can be taken: after a marker zeros come without end, unless the bits stop there
abbrev pub has_bits : ℕ → List Bool → Ending → Result (Unit {0}) Fault
has_bits n bits (Found m rest) = Ok tt
has_bits n bits (Stops m rest) = if nat_le n (length bits) then Ok tt else Err Malformed
has_bits n bits (Broken f) = if nat_le n (length bits) then Ok tt else Err f

-- the first n bits as a number
unfoldable pub bits_from : ℕ → Text → Result (ℕ × Text) Fault
bits_from n t = do
  _ ← has_bits n t.bits t.ending
  Ok (number_of (take n (t.bits ++ replicate n false)), advance n t)

-- ---- a text that is partly buffered, which the meaning doesn't speak of

-- how the data ended, where rest stands after it
abbrev pub ending_of : DataEnd → List ℕ → Ending
ending_of (ends.Marker m) rest = Found m rest
ending_of (ends.Stop m) rest = Stops m rest
ending_of ends.Malformed rest = Broken Malformed
ending_of ends.Ended rest = Broken End

-- the end that a byte after FF makes
abbrev pub end_by : Option Marker → DataEnd
end_by None = ends.Malformed
end_by (Some m) = ends.Marker m

-- the same by what follows the bits where a marker ends them
abbrev pub closed_end : Beyond → DataEnd → DataEnd
closed_end Zeros e = e
closed_end Nothing (ends.Marker m) = ends.Stop m
closed_end Nothing e = e

-- after FF, where no stuffing stands: any more FF, and a marker; and what stands after it
unfoldable pub filled_end : List ℕ → DataEnd × List ℕ
filled_end [] = (ends.Ended, [])
filled_end (c ∷ rest) = if c == 255 then filled_end rest else (end_by (marker_of c), rest)

-- Whether a decoder has met the end of the data: not yet, and what follows the bits where a marker
-- ends them; or how they ended.
pub data Met : Type 0 where
  Unmet : Beyond → Met
  At : DataEnd → Met

abbrev pub met_of : Beyond → Option DataEnd → Met
met_of beyond None = Unmet beyond
met_of beyond (Some e) = At e

-- no end was met
abbrev pub IsUnmet : Met → Type 0
IsUnmet (Unmet beyond) = Unit {0}
IsUnmet (At e) = ⊥

-- What a decoder holds: the bits read ahead, and the end of the data where that was met and not
-- taken.
pub record Ahead : Type 0 where
  pub bits : List Bool
  pub met : Met

-- nothing is buffered
abbrev pub fresh_before : Beyond → Ahead
fresh_before beyond = record { bits = []; met = Unmet beyond }

abbrev pub fresh : Ahead
fresh = fresh_before Zeros

-- The text that buffered bits, a marker that was met and the bytes after them stand for. Up to 56
-- bits are read ahead, so what follows is given of the bits from the 57th on: only there can
-- reading go on before the end is met.
abbrev pub upcoming_by : List Bool → Met → List ℕ → Text
upcoming_by bits (Unmet beyond) bytes =
    record {
      bits = bits ++ (text_at bytes).bits;
      following = drop 56 (replicate (length bits) bytes ++ (text_at bytes).following);
      ending = closed beyond (text_at bytes).ending;
    }
upcoming_by bits (At e) bytes =
    record {
      bits = bits;
      following = drop 56 (replicate (length bits) bytes);
      ending = ending_of e bytes;
    }

-- the text that a decoder and the bytes after it stand for
unfoldable pub upcoming : Ahead → List ℕ → Text
upcoming a bytes = upcoming_by a.bits a.met bytes

-- the end, where it is met, and otherwise what reading goes on with
abbrev pub marker_by : List (List ℕ) → Ending → Outcome (Option Marker)
marker_by (rest ∷ rests) e = Ok (None, rest)
marker_by [] (Found m rest) = Ok (Some m, rest)
marker_by [] (Stops m rest) = Ok (Some m, rest)
marker_by [] (Broken f) = Err f

abbrev pub marker_from : Text → Outcome (Option Marker)
marker_from t = marker_by t.following t.ending

-- A call on a decoder and a source, from a and old to b and new, answered what reading the text
-- that they stand for gives.
abbrev pub Takes : {X Y : Type 0} → (X → Y) → (Text → Result (Y × Text) Fault) → Ahead → Stream
    → Result X Error → Ahead → Stream → Type 0
Takes view read a old (Ok x) b new =
    (new.failed ≡ old.failed) × (old.known ≡ true → (new.known ≡ true)
    × (read (upcoming a old.bytes) ≡ Ok (view x, upcoming b new.bytes)))
Takes view read a old (Err e) b new =
    MayFail e old.failed new.failed
    × (old.known ≡ true → new.known ≡ true → Names e (read (upcoming a old.bytes)))
    × (old.known ≡ true → new.known ≡ false → IsGivenUp e new.failed)

-- how many bits are buffered
abbrev pub IsWithin : ℕ → Met → Type 0
IsWithin n (Unmet beyond) = n ≤ 64
IsWithin n (At e) = n ≤ 56

-- at least n bits are buffered, or the end was met
abbrev pub IsFilled : ℕ → List Bool → Met → Type 0
IsFilled n bits (Unmet beyond) = n ≤ length bits
IsFilled n bits (At e) = length bits ≤ 56

abbrev pub same_text : Text → Result (ℕ × Text) Fault
same_text t = Ok (0, t)

-- what comes next: a byte with its stuffing taken out, or the end
abbrev pub after_ff : List ℕ → Piece × List ℕ
after_ff [] = (Data ends.Ended, [])
after_ff (c ∷ rest) = if c == 0 then (Byte 255, rest) else (
  Data (filled_end (c ∷ rest)).0,
  (filled_end (c ∷ rest)).1,
)

abbrev pub piece_of : List ℕ → Piece × List ℕ
piece_of [] = (Data ends.Ended, [])
piece_of (b ∷ rest) = if b == 255 then after_ff rest else (Byte b, rest)

unfoldable pub piece_at : List ℕ → Outcome Piece
piece_at bytes = Ok (piece_of bytes)

-- the next byte, or none at the end
abbrev pub byte_or_end : List ℕ → Outcome (Option ℕ)
byte_or_end [] = Ok (None, [])
byte_or_end (b ∷ bs) = Ok (Some b, bs)

-- whether n bits can be taken of those buffered
abbrev pub has_buffered : ℕ → List Bool → Met → Result (Unit {0}) Fault
has_buffered n bits (Unmet beyond) = Ok tt
has_buffered n bits (At e) = has_bits n bits (ending_of e [])

-- the marker of an end
abbrev pub marker_at_end : Met → Result (Option Marker) Fault
marker_at_end (Unmet beyond) = Ok None
marker_at_end (At (ends.Marker m)) = Ok (Some m)
marker_at_end (At (ends.Stop m)) = Ok (Some m)
marker_at_end (At ends.Malformed) = Err Malformed
marker_at_end (At ends.Ended) = Err End

-- a value of s bits as a signed number (F.2.2.1)
unfoldable pub extended : ℕ → ℕ → ℤ
extended v s = if nat_lt v (2 ^ (s - 1)) then pos v -ℤ pos (2 ^ s - 1) else pos v
