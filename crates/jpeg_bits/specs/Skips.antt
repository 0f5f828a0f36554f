-- A band of a first pass of which nothing is kept but the run that follows, and the tokens that
-- some bits begin with, which are then passed over at once.
use Rattle.std.specs.Prelude.{◌≡◌, ℕ, zero, suc, ◌+◌, ◌-◌, ◌<◌, ◌≤◌, List, length, Bool, true}
use Rattle.std.specs.Prelude.{false, ℤ, pos, map, Ok, slice_index_or}
use Rattle.jpeg_bits.specs.Entropy.{Text, advance, has_bits}
use Rattle.jpeg_bits.specs.Readers.{Reads, ◌>>=◌, gives, refused}
use Rattle.jpeg_bits.specs.Codes.{Table}
use Rattle.jpeg_bits.specs.ShortCodes.{next_bits}
use Rattle.jpeg_bits.specs.Written.{low_bits}
use Rattle.jpeg_bits.specs.Bands.{token_from}
use Rattle.jpeg_bits.specs.Passes.{Block}
use Rattle.jpeg_bits.specs.declared.blocks.tokens.Token.{Token}
use Rattle.jpeg_bits.specs.declared.blocks.tokens.Token.TheVariants.{Value, Sixteen, Rest, Overlong}

-- ---- a band of which nothing is kept

-- The blocks of the run that follows, after a token of a band with this room; `others` reads them
-- where there is room left.
abbrev pub run_after : (ℕ → Reads ℕ) → ℕ → Token → Reads ℕ
run_after others room (Value r v) = others (room - (r + 1))
run_after others room Sixteen = others (room - 16)
run_after others room (Rest run) = gives run
run_after others room Overlong = gives 0

-- those after at most n tokens
unfoldable pub run_within : Table → ℕ → ℕ → Reads ℕ
run_within table n zero = gives 0
run_within table zero (suc room) = refused
run_within table (suc n) (suc room) =
    token_from table (suc room) >>= run_after (run_within table n) (suc room)

-- The blocks of the run that follows a band of this many coefficients: a token takes one at least.
unfoldable pub run_of : Table → ℕ → Reads ℕ
run_of table room = run_within table room room

-- those of a block in a run of this many
abbrev pub run_part : Table → ℕ → ℕ → Reads ℕ
run_part table zero run = gives run
run_part table (suc room) zero = run_of table (suc room)
run_part table (suc room) (suc run) = gives run

-- ---- tokens that some bits begin with

-- how many bits they take, how many coefficients of the band they stand for, and whether the last
-- of them is the end of the band in this block alone
abbrev pub Skip : Type 0
Skip = ℕ × ℕ × Bool

-- none: no band has room for this many coefficients and one more
abbrev pub no_skip : Skip
no_skip = (0, 63, false)

abbrev pub after_skip : Table → ℕ → Skip → Reads ℕ
after_skip table room (n, passed, true) t = Ok (0, advance n t)
after_skip table room (n, passed, false) t = run_of table (room - passed) (advance n t)

-- the bits can be taken of a text that begins with these 12, or with some of them before zeros
abbrev pub BeginsText : List Bool → ℕ → Text → Type 0
BeginsText bits n t = (next_bits 12 t.bits ≡ bits) × (has_bits n t.bits t.ending ≡ Ok tt)

-- These 12 bits begin with tokens that take n bits, and stand for this many coefficients: where
-- there is room for one more, the band goes on after them.
abbrev pub PassesOver : Table → List Bool → Skip → Type 0
PassesOver table bits s = (room : ℕ) → s.1 < room → room ≤ 63 → (t : Text) → BeginsText bits s.0 t
    → run_of table room t ≡ after_skip table room s t

pub record IsSkip (table : Table) (bits : List Bool) (s : Skip) : Type 0 where
  pub few : s.0 ≤ 12
  pub some : s.2 ≡ false → 0 < s.1
  pub passes : PassesOver table bits s

-- the tokens that 12 bits begin with, at the index of each, where the table is filled
abbrev pub HoldsSkips : Table → List Skip → Type 0
HoldsSkips table skips = (b : ℕ) → b < length skips
    → IsSkip table (low_bits 12 b) (slice_index_or skips b no_skip)

-- ---- a block of which DC alone is kept

-- its AC coefficients as zeros
abbrev pub dc_alone : Block → Block
dc_alone b = record { dc = b.dc; acs = map (λ ac. pos 0) b.acs }

-- what is kept of a block, where its AC coefficients are or aren't
abbrev pub kept : Bool → Block → Block
kept true b = b
kept false b = dc_alone b

-- what is kept of a turn: of its block, and the next predictor and run
abbrev pub kept_turn : Bool → Block × ℤ × ℕ → Reads (Block × ℤ × ℕ)
kept_turn keeps r = gives (kept keeps r.0, r.1, r.2)

abbrev pub kept_from : Bool → Reads (Block × ℤ × ℕ) → Reads (Block × ℤ × ℕ)
kept_from keeps read = read >>= kept_turn keeps
