-- The first blocks of a scan whose data stand whole in some bytes: their bits as a writer emits
-- them, in whole bytes, and the restart markers between them (T.81, B.1.1.5, E.1.4, F.1.2 and
-- G.1.2). Nothing here reads bytes.
use Rattle.std.specs.Prelude.{◌≡◌, ℕ, suc, ◌+◌, ◌*◌, ◌%◌, ◌≤◌, Bool, List, [], ◌∷◌, ◌++◌, length}
use Rattle.std.specs.Prelude.{take, get_or, set, ℤ, pos}
use Rattle.jpeg_bits.specs.Intervals.{first_group, other_groups}
use Rattle.jpeg_bits.specs.Passes.{Block, Pass, Via, band_of, predictors_at_start}
use Rattle.jpeg_bits.specs.Written.{WritesInterval, bits_of_bytes, marker, stuffed}
use Rattle.jpeg_segments.specs.Frame.{Frame}
use Rattle.jpeg_meaning.specs.Levels.{numbers_at}
use Rattle.jpeg_meaning.specs.Order.{Spot, mcu_size, spots_of}
use Rattle.jpeg_meaning.specs.Scans.{turns_of}
use Rattle.jpeg_meaning.specs.ScanSegments.{Coding, components_of, vias_from}
use Rattle.jpeg_meaning.specs.WrittenData.{WritesAc, WritesBlocks, WritesDc}

-- The bits of the first of an interval's blocks, as `WritesBlocks` has those of all of them: here a
-- run may go beyond the last.
pub data WritesFirst (p : Pass) : List ℤ → ℕ → List (Via × Block) → List Bool → Type 0 where
  no_more : (predictors : List ℤ) (run : ℕ) → WritesFirst p predictors run [] []
  next_block : (predictors : List ℤ) (run after : ℕ) (via : Via) (u : Block)
      (turns : List (Via × Block)) (dc ac bits : List Bool) (next : ℤ)
      → WritesDc p via.dc u.dc (get_or predictors via.component (pos 0)) dc next
      → WritesAc p via.ac (band_of p u.acs) run ac after
      → WritesFirst p (set predictors via.component next) after turns bits
      → WritesFirst p predictors run ((via, u) ∷ turns) (dc ++ (ac ++ bits))

-- These bytes begin with the data of the first blocks of an interval, so many: with whole bytes,
-- stuffed, that have all bits of these blocks.
pub record BeginsInterval (p : Pass) (turns : List (Via × Block)) (count : ℕ) (bytes : List ℕ)
    : Type 0 where
  pub bits : List Bool
  pub more_bits : List Bool
  pub data_bytes : List ℕ
  pub more_bytes : List ℕ
  pub are_there : count ≤ length turns
  pub coded : WritesFirst p predictors_at_start 0 (take count turns) bits
  pub whole : bits_of_bytes data_bytes ≡ bits ++ more_bits
  pub begins : bytes ≡ stuffed data_bytes ++ more_bytes

-- These bytes begin with the data of the first blocks of one interval and more, so many: they are
-- blocks of the first interval, or it is whole, the marker RST k after it too, and the others begin
-- so. The intervals are numbered from k on.
pub data BeginsIntervals (p : Pass)
    : ℕ → List (Via × Block) → List (List (Via × Block)) → ℕ → List ℕ → Type 0 where
  within : (k : ℕ) (one : List (Via × Block)) (more : List (List (Via × Block))) (count : ℕ)
      (bytes : List ℕ)
      → BeginsInterval p one count bytes → BeginsIntervals p k one more count bytes
  beyond : (k fill : ℕ) (one next : List (Via × Block)) (more : List (List (Via × Block)))
      (count : ℕ) (bytes others : List ℕ)
      → WritesInterval (WritesBlocks p predictors_at_start 0 one) bytes
      → BeginsIntervals p (suc k) next more count others
      → BeginsIntervals p k one (next ∷ more) (length one + count)
      (bytes ++ marker fill (0xD0 + k % 8) others)

-- The data of the first blocks of a scan, so many, stand whole in these bytes, where these blocks
-- are sent in restart intervals of `restart` MCUs, or in one interval where that is 0.
abbrev pub StandWhole :
    Frame → ℕ → Pass → List Coding → (Spot → Block) → ℕ → List ℕ → Type 0
StandWhole frame restart p codings sent count bytes =
    let n = restart * mcu_size (components_of codings) in
    let turns = turns_of (vias_from 0 codings) (spots_of frame (components_of codings))
    (λ s. numbers_at p.al (sent s)) in
    BeginsIntervals p 0 (first_group n turns) (other_groups n turns) count bytes
