-- The blocks of a scan one after the other, as they are read on what is kept of them and put back.
use Rattle.std.specs.Prelude.{◌≡◌, ◌⊎◌, ◌<◌, ◌≤◌, ◌+◌, ◌*◌, ◌-◌, ◌%◌, ◌==◌, ◌&&◌, nat_lt, ℕ, suc}
use Rattle.std.specs.Prelude.{true, false, List, [], ◌∷◌, length, set, get_or, ℤ, pos, Option}
use Rattle.std.specs.Prelude.{Ok, Err}
use Rattle.jpeg_bits.specs.Reading as reading
use Rattle.jpeg_bits.specs.Reading.{Outcome, Malformed}
use Rattle.jpeg_bits.specs.Entropy.{upcoming, fresh, fresh_before, marker_from}
use Rattle.jpeg_bits.specs.Readers.{Reads, ◌>>=◌, gives}
use Rattle.jpeg_bits.specs.declared.beyond.Beyond.{Beyond}
use Rattle.jpeg_bits.specs.declared.beyond.Beyond.TheVariants.{Zeros}
use Rattle.jpeg_bits.specs.declared.marker.Marker.{Marker}
use Rattle.jpeg_bits.specs.Passes.{Pass, Via, block_from, predictors_at_start}
use Rattle.jpeg_bits.specs.Intervals.{is_restart}
use Rattle.jpeg_segments.specs.Frame.{Frame, Component}
use Rattle.jpeg_meaning.specs.Order.{Spot, grid_of}
use Rattle.jpeg_meaning.specs.Scans.{Arrays, block_at, put_block, via_at}

-- What is kept inside an interval: the blocks, the predictors and the blocks of a run that follow.
pub record Reached : Type 0 where
  pub arrays : Arrays
  pub predictors : List ℤ
  pub run : ℕ

-- the next block
unfoldable pub turn_from : Pass → List Via → Spot → Reached → Reads Reached
turn_from p vias s old =
    block_from p (via_at vias s.slot).dc (via_at vias s.slot).ac
    (get_or old.predictors (via_at vias s.slot).component (pos 0)) old.run
    (block_at old.arrays s) >>= (λ r.
    gives (record {
      arrays = put_block s r.0 old.arrays;
      predictors = set old.predictors (via_at vias s.slot).component r.1;
      run = r.2;
    }))

-- this many blocks more
unfoldable pub turns_from : Pass → List Via → List Spot → Reached → Reads Reached
turns_from p vias [] old = gives old
turns_from p vias (s ∷ spots) old = turn_from p vias s old >>= turns_from p vias spots

abbrev pub at_start : Arrays → Reached
at_start arrays = record { arrays = arrays; predictors = predictors_at_start; run = 0 }

-- the blocks after the interval that begins these bytes, and the marker after it, if it is met
unfoldable pub interval_from : Pass → List Via → List Spot → Arrays → List ℕ
    → Outcome (Arrays × Option Marker)
interval_from p vias spots arrays bytes =
    reading.◌>>=◌ (turns_from p vias spots (at_start arrays) (upcoming fresh bytes)) (λ r.
    reading.◌>>=◌ (marker_from r.1) (λ m. Ok ((r.0.arrays, m.0), m.1)))

-- after an interval: the others on its blocks, where it ends with RST k
abbrev pub next_interval : ℕ → (Arrays → List ℕ → Outcome (Arrays × Option Marker))
    → (Arrays × Option Marker) × List ℕ → Outcome (Arrays × Option Marker)
next_interval k others r =
    elim (is_restart k r.0.1) [ true ↦ others r.0.0 r.1 | false ↦ Err Malformed ]

-- one interval and more, between which RST stand in turn from number k on
unfoldable pub intervals_from : Pass → List Via → ℕ → List Spot → List (List Spot) → Arrays → List ℕ
    → Outcome (Arrays × Option Marker)
intervals_from p vias k spots [] arrays bytes = interval_from p vias spots arrays bytes
intervals_from p vias k spots (next ∷ more) arrays bytes =
    reading.◌>>=◌ (interval_from p vias spots arrays bytes)
    (next_interval k (intervals_from p vias (suc k) next more))

-- ---- block by block

-- After an interval RST k has to be met, and the next begins, by what follows the marker that ends
-- its data.
unfoldable pub restart_from : Beyond → ℕ → Reads (Unit {0})
restart_from beyond k t = reading.◌>>=◌ (marker_from t) (λ m. elim (is_restart k m.0) [
  | true ↦ Ok (tt, upcoming (fresh_before beyond) m.1)
  | false ↦ Err Malformed
])

-- What is kept between blocks: what is reached in an interval, how many blocks are left of it, the
-- number of the restart marker after it, which counts modulo 8, and what follows the markers that
-- end data.
pub record Counted : Type 0 where
  pub reached : Reached
  pub left : ℕ
  pub number : ℕ
  pub beyond : Beyond

-- where no block is left of an interval of n, the next interval; where n is 0 there is one interval
unfoldable pub begun_from : ℕ → Counted → Reads Counted
begun_from n old =
    elim (nat_lt 0 n && old.left == 0) [
      | true ↦ restart_from old.beyond old.number >>= (λ u. gives (record {
        reached = at_start old.reached.arrays;
        left = n;
        number = (old.number + 1) % 8;
        beyond = old.beyond;
      }))
      | false ↦ gives old
    ]

-- the next block, and before it the next interval, where it is due
unfoldable pub next_from : Pass → List Via → ℕ → Spot → Counted → Reads Counted
next_from p vias n s old =
    begun_from n old >>= (λ now.
    turn_from p vias s now.reached >>= (λ r.
    gives (record {
      reached = r;
      left = now.left - 1;
      number = now.number;
      beyond = now.beyond;
    })))

-- the blocks at these spots
unfoldable pub blocks_from : Pass → List Via → ℕ → List Spot → Counted → Reads Counted
blocks_from p vias n [] old = gives old
blocks_from p vias n (s ∷ spots) old = next_from p vias n s old >>= blocks_from p vias n spots

abbrev pub counted_before : Beyond → ℕ → Arrays → Counted
counted_before beyond n arrays =
    record { reached = at_start arrays; left = n; number = 0; beyond = beyond }

abbrev pub counted_at_start : ℕ → Arrays → Counted
counted_at_start n arrays = counted_before Zeros n arrays

-- a scan of the blocks at these spots: the blocks after it, and the marker after it, if it is met
unfoldable pub scan_from : Pass → List Via → ℕ → List Spot → Arrays → List ℕ
    → Outcome (Arrays × Option Marker)
scan_from p vias n spots arrays bytes =
    reading.◌>>=◌ (blocks_from p vias n spots (counted_at_start n arrays) (upcoming fresh bytes))
    (λ r.
    reading.◌>>=◌ (marker_from r.1) (λ m. Ok ((r.0.reached.arrays, m.0), m.1)))

-- ---- spots that are apart

-- x is an element of the list
abbrev pub IsIn : {A : Type 0} → A → List A → Type 0
IsIn x [] = ⊥
IsIn x (y ∷ ys) = (y ≡ x) ⊎ IsIn x ys

-- no element stands twice
abbrev pub AreApart : {A : Type 0} → List A → Type 0
AreApart [] = Unit {0}
AreApart (x ∷ xs) = (IsIn x xs → ⊥) × AreApart xs

-- the spot is one of the arrays
pub record IsInside (arrays : Arrays) (s : Spot) : Type 0 where
  pub slot : s.slot < length arrays
  pub index : s.index < length (get_or arrays s.slot [])

-- A component's blocks fill its part of all MCUs of the frame, and its own blocks are among them.
pub record Fits (frame : Frame) (c : Component) : Type 0 where
  pub horizontal : 0 < c.factors.horizontal
  pub vertical : 0 < c.factors.vertical
  pub wide : c.blocks_wide ≡ frame.mcus_wide * c.factors.horizontal
  pub high : c.blocks_high ≡ frame.mcus_high * c.factors.vertical
  pub own_wide : (grid_of c).own_wide ≤ c.blocks_wide
  pub own_high : (grid_of c).own_high ≤ c.blocks_high

-- an array of all blocks of each of these components
unfoldable pub AreArrays : List Component → Arrays → Type 0
AreArrays [] arrays = Unit {0}
AreArrays (c ∷ more) [] = ⊥
AreArrays (c ∷ more) (blocks ∷ arrays) =
    (length blocks ≡ c.blocks_high * c.blocks_wide) × AreArrays more arrays
