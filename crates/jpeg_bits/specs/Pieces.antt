-- A refinement of a band, token by token, as it is read (T.81, G.1.2.3).
use Rattle.std.specs.Prelude.{ℕ, zero, suc, ◌+◌, ◌-◌, ◌/◌, ◌%◌, ◌^◌, ◌*◌, ◌==◌, if◌then◌else◌, List}
use Rattle.std.specs.Prelude.{[], ◌∷◌, ◌++◌, length, take, drop, ℤ, Result, Ok, Err}
use Rattle.jpeg_bits.specs.Reading.{Fault, Malformed, ◌>>=◌}
use Rattle.jpeg_bits.specs.Entropy.{Text, bits_from}
use Rattle.jpeg_bits.specs.Codes.{Table, symbol_from}
use Rattle.jpeg_bits.specs.Bands.{Band}
use Rattle.jpeg_bits.specs.Refinement.{is_zero, bit_of, corrected, corrected_by, moved, fits_i16}
use Rattle.jpeg_bits.specs.Refinement.{new_number, through_zero, with_last}
use Rattle.jpeg_bits.specs.Readers.{Reads, gives, read_on}
use Rattle.jpeg_bits.specs.declared.blocks.refinement.Refinement.{Refinement}
use Rattle.jpeg_bits.specs.declared.blocks.refinement.Refinement.TheVariants.{Zeros, New, End}

abbrev pub ReadsBand : Type 0
ReadsBand = List ℤ → Text → Result (Band × Text) Fault

-- some coefficients, and what the others give
abbrev pub before : List ℤ → Result (Band × Text) Fault → Result (Band × Text) Fault
before front more = more >>= λ m. Ok ((front ++ m.0.0, m.0.1), m.1)

-- How many blocks after this one have no tokens: r bits e say 2 ^ r - 1 + e.
unfoldable pub run_from : ℕ → Text → Result (ℕ × Text) Fault
run_from r t = do
  e ← bits_from r t
  Ok (2 ^ r - 1 + e.0, e.1)

abbrev pub moved_within : ℕ → ℤ → Result ℤ Fault
moved_within by z = if fits_i16 (moved by z) then Ok (moved by z) else Err Malformed

-- How far a correction bit moves a number that isn't 0.
abbrev pub distance_of : ℕ → ℤ → ℕ → ℕ
distance_of al z b = b * (1 - bit_of al z) * 2 ^ al

-- A coefficient of a piece: where it isn't zero it has a correction bit.
unfoldable pub corrected_from : ℕ → ℤ → Reads ℤ
corrected_from al z =
    if is_zero z then gives z else (λ t. read_on (corrected_by al z) (bits_from 1 t))

-- A token of run r and size s, and its sign bit or the bits of its run.
abbrev pub refinement_by : ℕ → ℕ → ℕ → Text → Result (Refinement × Text) Fault
refinement_by al r s t = if s == 0 then (if r == 15 then Ok (Zeros, t) else (do
  e ← run_from r t
  Ok (End e.0, e.1)))
    else (if s == 1 then (do
      sign ← bits_from 1 t
      Ok (New r (new_number al sign.0), sign.1))
    else Err Malformed)

unfoldable pub refinement_from : Table → ℕ → Text → Result (Refinement × Text) Fault
refinement_from table al t = symbol_from table t >>= λ c. refinement_by al (c.0 / 16) (c.0 % 16) c.1

-- The piece of a token; `others` reads what is after it.
unfoldable pub refined_piece_at : ℕ → ReadsBand → List ℤ → Refinement → Text
    → Result (Band × Text) Fault
refined_piece_at al others rest Zeros t =
    corrected al (take (through_zero 15 rest) rest) t >>= λ front.
    before front.0 (others (drop (through_zero 15 rest) rest) front.1)
refined_piece_at al others rest (New r v) t =
    corrected al (take (through_zero r rest) rest) t >>= λ front.
    before (with_last v front.0) (others (drop (through_zero r rest) rest) front.1)
refined_piece_at al others rest (End run) t = corrected al rest t >>= λ all. Ok (
  (all.0, run),
  all.1,
)

-- The rest of a band, of at most n coefficients, cut into pieces, one a token.
unfoldable pub refined_ac_at : Table → ℕ → ℕ → ReadsBand
refined_ac_at table al n [] t = Ok (([], 0), t)
refined_ac_at table al zero (x ∷ rest) t = Err Malformed
refined_ac_at table al (suc n) (x ∷ rest) t =
    refinement_from table al t >>= λ k. refined_piece_at al (refined_ac_at table al n) (x ∷ rest)
    k.0 k.1

-- A band of a refinement.
unfoldable pub refined_band_from : Table → ℕ → List ℤ → Text → Result (Band × Text) Fault
refined_band_from table al band t = refined_ac_at table al (length band) band t

-- How many coefficients the piece up to zero number r has, and the rest of the band with the piece
-- corrected.
unfoldable pub piece_from : ℕ → ℕ → List ℤ → Text → Result ((ℕ × List ℤ) × Text) Fault
piece_from al r rest t = corrected al (take (through_zero r rest) rest) t >>= λ front.
    Ok ((through_zero r rest, front.0 ++ drop (through_zero r rest) rest), front.1)
