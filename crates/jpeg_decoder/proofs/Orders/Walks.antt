-- Steps of a walk.
use Rattle.std.proofs.Common.{◌≡◌, ℕ, zero, suc, ◌+◌, ◌-◌, ◌<◌, List, [], ◌∷◌, length, refl, arith}
use Rattle.std.proofs.Common.{get_or}
use Rattle.std.proofs.lemmas.List.{drop_all}
use Rattle.jpeg_decoder.specs.declared.scan.spots.Member.{Member}
use Rattle.jpeg_decoder.proofs.ReadLists.{dropped}
use Rattle.jpeg_decoder.specs.Walk.{row_positions, raster_left, spot_at, spots_left}
use Rattle.std.proofs.lemmas.Grind.{common_steps}

-- ---- a raster

pub position-next : (wide row column columns below rows : ℕ) → 0 < columns
    → raster_left wide row column columns below rows
    ≡ (row, column) ∷ raster_left wide row (column + 1) (columns - 1) below rows
position-next wide row column columns below rows h = grind (arith, common_steps)

pub row-next : (wide row column columns below rows : ℕ) → columns ≡ 0 → 0 < rows
    → raster_left wide row column columns below rows ≡ raster_left wide below 0 wide (below + 1) (rows - 1)
row-next wide row column columns below rows e h = grind (arith, common_steps)

pub rows-none : (wide row column columns below rows : ℕ) → columns ≡ 0 → rows ≡ 0
    → raster_left wide row column columns below rows ≡ []
rows-none wide row column columns below rows e f = grind (arith, common_steps)

no-rows : (below rows : ℕ) → row_positions 0 below rows ≡ []
no-rows below zero = refl
no-rows below (suc n) = no-rows (below + 1) n

pub wide-none : (wide row column columns below rows : ℕ) → columns ≡ 0 → wide ≡ 0
    → raster_left wide row column columns below rows ≡ []
wide-none wide row column columns below rows e f = grind (arith, common_steps, no-rows)

pub raster-more : (wide row column columns below rows : ℕ) → columns ≡ 0 → 0 < rows → 0 < wide
    → 0 < length (raster_left wide row column columns below rows)
raster-more wide row column columns below rows e h w = rw (
  row-next wide row column columns below rows e h,
  position-next wide below 0 wide (below + 1) (rows - 1) w,
) (omega arith)

pub ruleset raster_rules = (position-next, row-next, rows-none, wide-none)

-- ---- the blocks of a scan

pub block-next : (members : List Member) (number : ℕ) (mcu : ℕ × ℕ) (mcus : List (ℕ × ℕ)) (m : Member)
    → number < length members → m ≡ get_or members number m
    → spots_left members number mcu mcus ≡ spot_at mcu m ∷ spots_left members (number + 1) mcu mcus
block-next members number mcu mcus m h e = grind (arith, common_steps, dropped)

pub mcu-next : (members : List Member) (number : ℕ) (mcu next : ℕ × ℕ) (mcus more : List (ℕ × ℕ))
    → number ≡ length members → mcus ≡ next ∷ more
    → spots_left members number mcu mcus ≡ spots_left members 0 next more
mcu-next members number mcu next mcus more e f = grind (arith, common_steps, drop_all)

pub mcus-none : (members : List Member) (number : ℕ) (mcu : ℕ × ℕ) (mcus : List (ℕ × ℕ))
    → number ≡ length members → mcus ≡ [] → spots_left members number mcu mcus ≡ []
mcus-none members number mcu mcus e f = grind (arith, common_steps, drop_all)

pub spots-more : (members : List Member) (number : ℕ) (mcu : ℕ × ℕ) (mcus : List (ℕ × ℕ))
    → number ≡ length members → 0 < length members → 0 < length mcus
    → 0 < length (spots_left members number mcu mcus)
spots-more [] number mcu mcus e h k = absurd (omega arith)
spots-more (m ∷ members) number mcu [] e h k = absurd (omega arith)
spots-more (m ∷ members) number mcu (x ∷ mcus) e h k =
    rw (mcu-next (m ∷ members) number mcu x (x ∷ mcus) mcus e refl) (omega arith)

pub ruleset spots_rules = (block-next, mcu-next, mcus-none)
