-- Lemmas that the proofs of functions use, by what they are about.
use Rattle.jpeg_bits.proofs.WrittenBits.{takes-number}
use Rattle.jpeg_bits.proofs.BandSteps.{no_bits_taken}
use Rattle.jpeg_bits.proofs.Fast.{no_difference, tokens-same}
use Rattle.jpeg_bits.proofs.ShortLemmas.{Code-buffered, Code-none, run-most, run-same, run-byte, fast-not, fast-refused}
use Rattle.jpeg_bits.proofs.ShortLemmas.{fast-taken, value_below, value_number}
use Rattle.std.proofs.Common.{div-le_self, pow_mono}
use Rattle.std.proofs.lemmas.Grind.{common_steps}
use Rattle.std.proofs.lemmas.Result.{err_from_is_err_and}
use Rattle.std.proofs.lemmas.List.{get_or_default}
use Rattle.jpeg_bits.proofs.PieceWalks.{at-start, at-end, clear_from, set_after, marks-later, gap-some}
use Rattle.jpeg_bits.proofs.CodeLemmas.{first_le, index_within, row_found, row_missed, above_more, none_found}
use Rattle.jpeg_bits.proofs.Filled.{skip-refused as bytes-refused, skip-goes, skip-none, filled-err}
use Rattle.jpeg_bits.proofs.Filled.{filled-all, reads_some, answers-after, answered-later}
use Rattle.std.proofs.KnownBytes.{Keeps-refl, Keeps-trans}
use Rattle.jpeg_bits.proofs.Reservoirs.{front_number, front_below}
use Rattle.jpeg_bits.proofs.WideTokens.{none_left, skip-refused, skip-overlong, skip-all}
use Rattle.jpeg_bits.proofs.ZigzagIndices.{kept-same}
use Rattle.jpeg_bits.proofs.BufferedBits.{filled-less, filled-long}
use Rattle.std.proofs.lemmas.Int.{wraps}
use Rattle.jpeg_bits.proofs.Tables.{exist-tested, tested-exist, good-table, takes-symbol}
use Rattle.jpeg_bits.proofs.EndLemmas.{ends-so, is-found, only-found, none-found, none-there}
use Rattle.jpeg_bits.proofs.DefaultTables.{luminance-dc-codes, chrominance-dc-codes, luminance-ac-codes}
use Rattle.jpeg_bits.proofs.DefaultTables.{chrominance-ac-codes, untouched, done}
use Rattle.jpeg_bits.proofs.TakenBytes.{takes-first}

-- when enough bits are buffered
pub ruleset filled = (filled-less, filled-long)

-- `read_exact`
pub ruleset exact = (err_from_is_err_and, filled-err, filled-all)

-- `skip_by`
pub ruleset passed = (common_steps, err_from_is_err_and, bytes-refused, skip-goes, skip-none)

-- a code that is longer than 8 bits, in the rows of codes
pub ruleset rows = (first_le, index_within, row_found, row_missed, above_more, none_found, get_or_default)

-- zeros of a mask
pub ruleset gaps = (div-le_self, clear_from, set_after)

-- a piece of a band that is walked by its mask
pub ruleset pieces = (at-start, at-end, kept-same, marks-later, gap-some)

-- a band that is passed over
pub ruleset runs = (skip-refused, skip-overlong, skip-all)

-- the front of a reservoir
pub ruleset fronts = (front_number, front_below, pow_mono)

-- a run of codes
pub ruleset ends = (run-most, run-same, run-byte)

-- the laws of codes
pub ruleset codes = (exist-tested, tested-exist, good-table, takes-symbol)

-- the laws of markers
pub ruleset markers = (is-found, only-found, none-found, none-there)

-- reads that are repeated
pub ruleset later = (reads_some, answers-after, answered-later, Keeps-refl, Keeps-trans)

-- the default tables
pub ruleset luminance = (luminance-dc-codes, luminance-ac-codes)

pub ruleset chrominance = (chrominance-dc-codes, chrominance-ac-codes)

pub ruleset defaults = (luminance, chrominance, untouched, done, err_from_is_err_and)

-- no bits after a code
pub ruleset no_bits = (no_difference, none_left, no_bits_taken)

-- a short value
pub ruleset fast = (wraps, fast-not, fast-refused, fast-taken)

-- a value of some bits
pub ruleset values = (wraps, value_below, value_number)

-- what is read of a slice
pub ruleset taken = (takes-first)

-- the laws of what is written, and of what is looked up
pub ruleset laws = (ends-so, takes-number, tokens-same)

-- a code of bits that are buffered
pub ruleset buffered = (Code-buffered, Code-none)
