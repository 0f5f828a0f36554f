-- What is read of the bits of an interval alone, and what bits stand for what was read.
use Rattle.std.specs.Prelude.{◌≡◌, ◌≢◌, ℕ, ℤ, suc, ◌<◌, ◌+◌, ◌-◌, ◌*◌, ◌^◌, ◌++◌, Bool, List, []}
use Rattle.std.specs.Prelude.{Some, Ok, map, pos, ◌*ℤ◌, ◌≤◌, unsigned_abs, slice_index, ◌-ℤ◌}
use Rattle.std.specs.Prelude.{filter, true, false, length, ◌+ℤ◌, ◌∷◌, get_or, set, take, drop}
use Rattle.std.specs.List.{AllByRecursion}
use Rattle.jpeg_bits.specs.Refinement.{corrected, is_zero, through_zero}
use Rattle.jpeg_bits.specs.Bands.{difference, token_from, wrapped}
use Rattle.jpeg_meaning.specs.Levels.{cut_by, floor_at, numbers_at, toward_zero}
use Rattle.jpeg_meaning.specs.WrittenData.{WritesBand, WritesDifference, WritesAc, WritesDc}
use Rattle.jpeg_meaning.specs.WrittenData.{no_numbers, WritesBlocks}
use Rattle.jpeg_bits.specs.Written.{WritesInterval, WritesIntervals, low_bits, number_for}
use Rattle.jpeg_bits.specs.Written.{IsCategory, IsCoded, stuffed, marker, bits_of_bytes}
use Rattle.jpeg_bits.specs.Passes.{Block, Pass, Via, band_of, block_from, blocks_of, dc_part}
use Rattle.jpeg_bits.specs.Entropy.{Broken, Found, Text, bits_from, text_at}
use Rattle.jpeg_bits.specs.Passes.{predictors_at_start}
use Rattle.jpeg_bits.specs.Marker.{marker_of}
use Rattle.jpeg_bits.specs.Reading.{End}
use Rattle.jpeg_bits.specs.Readers.{text}
use Rattle.jpeg_bits.specs.Codes.{IsTable, Table, symbol_from}
use Rattle.jpeg_bits.specs.declared.marker.Marker.{Marker}
use Rattle.jpeg_bits.specs.declared.blocks.tokens.Token.{Token}
use Rattle.jpeg_bits.specs.declared.blocks.tokens.Token.TheVariants.{Value, Sixteen, Rest, Overlong}

-- Bits that nothing follows: no marker after which zeros would come without end.
abbrev pub alone : List Bool → Text
alone bits = text bits [] (Broken End)

-- Of some bits these were taken, of which P holds, and the others are left.
pub record IsCut (P : List Bool → Type 0) (bits : List Bool) (left : Text) : Type 0 where
  pub own : List Bool
  pub parts : bits ≡ own ++ left.bits
  pub rest : left ≡ alone left.bits
  pub holds : P own

-- a number that n bits can have, and its bits
pub record IsNumber (n v : ℕ) (own : List Bool) : Type 0 where
  pub below : v < 2 ^ n
  pub are : low_bits n v ≡ own

-- a value of category s, and the bits after the category
pub record IsValue (s : ℕ) (u : ℤ) (own : List Bool) : Type 0 where
  pub category : IsCategory u s
  pub are : low_bits s (number_for u s) ≡ own

-- Bytes that begin with data of these bits, stuffed, up to a marker, and go on with the rest.
pub record IsData (bytes : List ℕ) (bits : List Bool) (m : Marker) (rest : List ℕ) : Type 0 where
  pub data_bytes : List ℕ
  pub fill : ℕ
  pub code : ℕ
  pub parts : bytes ≡ stuffed data_bytes ++ marker fill code rest
  pub names : marker_of code ≡ Some m
  pub has_bits : bits_of_bytes data_bytes ≡ bits

-- What follows the code of run r and size s of a token: nothing, or the bits of its value, or of
-- the number that an end of bands has. A value that is longer than its band is none that is
-- written: this decoder takes its code, and its bits or none of them.
pub data Follows : ℕ → ℕ → Token → List Bool → Type 0 where
  value : (r s : ℕ) (u : ℤ) (own : List Bool)
      → IsValue (suc s) u own → Follows r (suc s) (Value r u) own
  sixteen : (r : ℕ) → r ≡ 15 → Follows r 0 Sixteen []
  ended : (r e : ℕ) (own : List Bool)
      → r ≢ 15 → IsNumber r e own → Follows r 0 (Rest (2 ^ r - 1 + e)) own
  overlong : (r s : ℕ) (own : List Bool) → Follows r (suc s) Overlong own

-- the bits of a token: a code RRRRSSSS, and what follows it
pub record IsToken (table : Table) (x : Token) (own : List Bool) : Type 0 where
  pub r : ℕ
  pub s : ℕ
  pub code : List Bool
  pub after : List Bool
  pub coded : IsCoded table (16 * r + s) code
  pub follows : Follows r s x after
  pub whole : code ++ after ≡ own

-- ---- a band in its first scan

-- A token that stands for coefficients that the rest of its band has, and whose value fits 16 bits.
abbrev pub IsTokenWithin : ℕ → ℕ → Token → Type 0
IsTokenWithin al room (Value r u) = (r < room) × (unsigned_abs u * 2 ^ al < 2 ^ 15)
IsTokenWithin al room Sixteen = 16 ≤ room
IsTokenWithin al room (Rest run) = Unit {0}
IsTokenWithin al room Overlong = ⊥

-- how many coefficients are left after it
abbrev pub room_after : ℕ → Token → ℕ
room_after room (Value r u) = room - (r + 1)
room_after room Sixteen = room - 16
room_after room (Rest run) = 0
room_after room Overlong = 0

-- The tokens of a band of this many coefficients fit, one after the other.
pub data TokensFit (table : Table) (al : ℕ) : ℕ → List Bool → Type 0 where
  filled : (bits : List Bool) → TokensFit table al 0 bits
  token : (room : ℕ) (x : Token) (bits more : List Bool)
      → token_from table (suc room) (alone bits) ≡ Ok (x, alone more) → IsTokenWithin al (suc room)
      x
      → TokensFit table al (room_after (suc room) x) more → TokensFit table al (suc room) bits

-- the symbols are bytes
pub record HasByteSymbols (table : Table) : Type 0 where
  pub each : (i : ℕ) → slice_index table.symbols i < 256

-- A band of these coefficients at level al, the run after it, and bits that are written for them.
pub record IsBand (table : Table) (al : ℕ) (band : List ℤ) (run : ℕ) (own : List Bool)
    : Type 0 where
  pub numbers : List ℤ
  pub are : map (λ u. u *ℤ pos (2 ^ al)) numbers ≡ band
  pub written : WritesBand table numbers own run

-- ---- a band in a refinement

-- how many coefficients are zero
unfoldable pub count_zeros : List ℤ → ℕ
count_zeros numbers = length (filter is_zero numbers)

-- The pieces of a band fit, one after the other: each that goes through a zero has it.
pub data PiecesFit (table : Table) (al : ℕ) : List ℤ → List Bool → Type 0 where
  covered : (bits : List Bool) → PiecesFit table al [] bits
  new : (r sign : ℕ) (z : ℤ) (rest front : List ℤ) (bits one two more : List Bool)
      → symbol_from table (alone bits) ≡ Ok (16 * r + 1, alone one) → r < count_zeros (z ∷ rest)
      → bits_from 1 (alone one) ≡ Ok (sign, alone two)
      → corrected al (take (through_zero r (z ∷ rest)) (z ∷ rest)) (alone two)
      ≡ Ok (front, alone more)
      → PiecesFit table al (drop (through_zero r (z ∷ rest)) (z ∷ rest)) more
      → PiecesFit table al (z ∷ rest) bits
  zeros : (z : ℤ) (rest front : List ℤ) (bits one more : List Bool)
      → symbol_from table (alone bits) ≡ Ok (16 * 15 + 0, alone one) → 15 < count_zeros (z ∷ rest)
      → corrected al (take (through_zero 15 (z ∷ rest)) (z ∷ rest)) (alone one)
      ≡ Ok (front, alone more)
      → PiecesFit table al (drop (through_zero 15 (z ∷ rest)) (z ∷ rest)) more
      → PiecesFit table al (z ∷ rest) bits
  last : (r : ℕ) (z : ℤ) (rest : List ℤ) (bits one : List Bool)
      → symbol_from table (alone bits) ≡ Ok (16 * r + 0, alone one) → r ≢ 15
      → PiecesFit table al (z ∷ rest) bits

-- ---- a block

-- the tables that a pass reads with
pub record HasTables (p : Pass) (via : Via) : Type 0 where
  pub dc_is : p.ss ≡ 0 → p.is_first ≡ true → IsTable via.dc
  pub ac_is : p.se ≢ 0 → IsTable via.ac
  pub ac_bytes : p.se ≢ 0 → HasByteSymbols via.ac

-- A block that these bits begin with fits. In a first pass none of its band was sent before, DC
-- that is read has its number in 16 bits, and the tokens of the band fit it. In a refinement what
-- is kept was sent at the level above, and the pieces of the band fit it.
pub record BlockFits (p : Pass) (via : Via) (predictor : ℤ) (run : ℕ) (old : Block)
    (bits : List Bool) : Type 0 where
  pub unsent : p.is_first ≡ true → band_of p old.acs ≡ no_numbers (length (band_of p old.acs))
  pub dc_fits : p.ss ≡ 0 → p.is_first ≡ true → (d : ℤ) (more : List Bool)
      → difference via.dc (alone bits) ≡ Ok (d, alone more)
      → unsigned_abs (predictor +ℤ d) * 2 ^ p.al < 2 ^ 15
  pub tokens_fit : p.is_first ≡ true → run ≡ 0 → (d : ℤ × ℤ) (more : List Bool)
      → dc_part p via.dc old.dc predictor (alone bits) ≡ Ok (d, alone more)
      → TokensFit via.ac p.al (length (band_of p old.acs)) more
  pub dc_sent : p.ss ≡ 0 → p.is_first ≡ false → cut_by floor_at old.dc (Some (suc p.al)) ≡ old.dc
  pub acs_sent : p.is_first ≡ false
      → AllByRecursion (λ z. cut_by toward_zero z (Some (suc p.al)) ≡ z) (band_of p old.acs)
  pub pieces_fit : p.is_first ≡ false → run ≡ 0 → (d : ℤ × ℤ) (more : List Bool)
      → dc_part p via.dc old.dc predictor (alone bits) ≡ Ok (d, alone more)
      → PiecesFit via.ac p.al (band_of p old.acs) more

-- A block that was read, the next predictor and the run after the block, and bits that are written
-- for the block's numbers at the level of the pass: those of DC and those of the band.
pub record IsBlock (p : Pass) (via : Via) (predictor : ℤ) (run : ℕ) (r : Block × ℤ × ℕ)
    (own : List Bool) : Type 0 where
  pub dc : List Bool
  pub ac : List Bool
  pub writes_dc : WritesDc p via.dc (numbers_at p.al r.0).dc predictor dc r.1
  pub writes_ac : WritesAc p via.ac (band_of p (numbers_at p.al r.0).acs) run ac r.2
  pub whole : dc ++ ac ≡ own

-- ---- the blocks of an interval

-- The blocks that these bits begin with fit, one after the other, by the predictors of the
-- components and the run that reaches them. No run goes beyond the last.
pub data BlocksFit (p : Pass) : List ℤ → ℕ → List (Via × Block) → List Bool → Type 0 where
  finished : (predictors : List ℤ) (bits : List Bool) → BlocksFit p predictors 0 [] bits
  next : (predictors : List ℤ) (run : ℕ) (t : Via × Block) (turns : List (Via × Block))
      (bits more : List Bool) (r : Block × ℤ × ℕ)
      → block_from p t.0.dc t.0.ac (get_or predictors t.0.component (pos 0)) run t.1 (alone bits)
      ≡ Ok (r, alone more)
      → HasTables p t.0 → BlockFits p t.0 (get_or predictors t.0.component (pos 0)) run t.1 bits
      → BlocksFit p (set predictors t.0.component r.1) r.2 turns more
      → BlocksFit p predictors run (t ∷ turns) bits

-- What a writer codes of blocks that were read: each by its path, in numbers at the level of the
-- pass.
unfoldable pub numbers_read : Pass → List (Via × Block) → List Block → List (Via × Block)
numbers_read p [] blocks = []
numbers_read p (t ∷ turns) [] = []
numbers_read p (t ∷ turns) (b ∷ blocks) = (t.0, numbers_at p.al b) ∷ numbers_read p turns blocks

-- ---- an interval

-- Bytes that begin with an interval that is written, up to a marker, and go on with the rest.
pub record IsInterval (p : Pass) (turns : List (Via × Block)) (bytes : List ℕ) (m : Marker)
    (rest : List ℕ) : Type 0 where
  pub front : List ℕ
  pub fill : ℕ
  pub code : ℕ
  pub parts : bytes ≡ front ++ marker fill code rest
  pub names : marker_of code ≡ Some m
  pub written : WritesInterval (WritesBlocks p predictors_at_start 0 turns) front

-- A DC coefficient u at level al in its first scan: what is read, which goes round at 16 bits, and
-- bits that are written for its difference from the predictor.
pub record IsDc (table : Table) (al : ℕ) (predictor : ℤ) (y : ℤ × ℤ) (own : List Bool)
    : Type 0 where
  pub u : ℤ
  pub written : WritesDifference table (u -ℤ predictor) own
  pub next : y.1 ≡ wrapped u
  pub are : y.0 ≡ wrapped (wrapped u *ℤ pos (2 ^ al))

-- ---- the intervals of a scan

-- Bytes that begin with intervals that are written, from number k on, up to a marker, and go on
-- with the rest.
pub record IsIntervals (p : Pass) (k : ℕ) (turns : List (Via × Block))
    (more : List (List (Via × Block))) (bytes : List ℕ) (m : Marker) (rest : List ℕ) : Type 0 where
  pub front : List ℕ
  pub fill : ℕ
  pub code : ℕ
  pub parts : bytes ≡ front ++ marker fill code rest
  pub names : marker_of code ≡ Some m
  pub written : WritesIntervals (WritesBlocks p predictors_at_start 0) k turns more front

-- ---- what is read of a scan

-- An interval whose blocks fit its bits, up to a marker, and leave at most 7 of them.
pub record IntervalFits (p : Pass) (turns : List (Via × Block)) (bytes : List ℕ) (m : Marker)
    (rest : List ℕ) : Type 0 where
  pub blocks : List Block
  pub left : List Bool
  pub ends : (text_at bytes).ending ≡ Found m rest
  pub fit : BlocksFit p predictors_at_start 0 turns (text_at bytes).bits
  pub are_read : blocks_of p predictors_at_start 0 turns (alone (text_at bytes).bits)
      ≡ Ok (blocks, alone left)
  pub is_short : length left ≤ 7

-- The intervals of a scan fit, one after the other.
pub data IntervalsFit (p : Pass)
    : List (Via × Block) → List (List (Via × Block)) → List ℕ → Type 0 where
  last : (turns : List (Via × Block)) (bytes rest : List ℕ) (m : Marker)
      → IntervalFits p turns bytes m rest → IntervalsFit p turns [] bytes
  another : (turns following : List (Via × Block)) (more : List (List (Via × Block)))
      (bytes rest : List ℕ) (m : Marker)
      → IntervalFits p turns bytes m rest → IntervalsFit p following more rest
      → IntervalsFit p turns (following ∷ more) bytes

-- What a writer codes of the intervals after the first, where these blocks were read of all.
unfoldable pub others_read : Pass → List (Via × Block) → List (List (Via × Block)) → List Block
    → List (List (Via × Block))
others_read p turns [] blocks = []
others_read p turns (following ∷ more) blocks =
    numbers_read p following (drop (length turns) blocks)
    ∷ others_read p following more (drop (length turns) blocks)
