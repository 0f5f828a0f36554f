-- The blocks that a scan lacks are in no row of MCUs above the first of them.
use Rattle.std.proofs.Common.{◌≡◌, ◌⊎◌, inl, inr, ℕ, zero, suc, ◌+◌, ◌*◌, ◌/◌, ◌<◌, ◌≤◌, List, [], ◌∷◌, ◌++◌}
use Rattle.std.proofs.Common.{map, slice_get, Option, Some, None, refl, sym, ap, ap₂, ◌∙◌, subst, arith}
use Rattle.std.proofs.lemmas.Nat.{div-mul-add}
use Rattle.std.specs.List.{AllByRecursion, range_with_len, flat_map}
use Rattle.jpeg_segments.specs.Frame.{Component, Frame}
use Rattle.jpeg_meaning.specs.InTurn.{Fits, IsIn}
use Rattle.jpeg_meaning.specs.Order.{Spot, all_spots, grid_of, mcu_spots, own_spots, spots_of}
use Rattle.jpeg_meaning.specs.Scans.{Arrays, block_at}
use Rattle.jpeg_meaning.proofs.Order.Apart.{At, Between, at-got, in-either, in-flat-back, in-line-back, mcu-tells}
use Rattle.jpeg_meaning.proofs.Order.Apart.{placed}
use Rattle.jpeg_meaning.proofs.Order.CountedScans.{in-back, in-front}
use Rattle.jpeg_meaning.specs.LongerStreams.{ReadsOn}
use Rattle.jpeg_meaning.proofs.Longer.LongerBlocks.{puts-elsewhere}

-- ---- rows one after the other

-- where an element of two lists stands
abbrev Where : List Spot → List Spot → List Spot → Spot → List Spot → Type 0
Where xs ys front s others =
    ((more : List Spot) × (ys ≡ more ++ s ∷ others))
    ⊎ ((more : List Spot) × (xs ≡ front ++ s ∷ more) × (others ≡ more ++ ys))

place : (xs ys front : List Spot) (s : Spot) (others : List Spot) → xs ++ ys ≡ front ++ s ∷ others
    → Where xs ys front s others
place [] ys front s others e = inl (front, e)
place (x ∷ xs) ys [] s others e =
    let same : x ≡ s = cc in inr (xs, ap (λ (a : Spot). a ∷ xs) same, cc)
place (x ∷ xs) ys (z ∷ front) s others e = go (place xs ys front s others cc)
  where
    same : x ≡ z
    same = cc

    go : Where xs ys front s others → Where (x ∷ xs) ys (z ∷ front) s others
    go (inl more) = inl more
    go (inr more) = inr (more.0, ap₂ (λ (a : Spot) (l : List Spot). a ∷ l) same more.1, more.2)

-- what stands after an element of some rows is in no row above
rows-rise : (row : Spot → ℕ) (f : ℕ → List Spot) (a n : ℕ)
    → ((k : ℕ) → Between a n k → (t : Spot) → IsIn t (f k) → row t ≡ k)
    → (front : List Spot) (s : Spot) (others : List Spot)
    → flat_map f (range_with_len a n) ≡ front ++ s ∷ others → (t : Spot) → IsIn t others → row s ≤ row t
rows-rise row f a zero tells [] s others e t h = absurd cc
rows-rise row f a zero tells (z ∷ front) s others e t h = absurd cc
rows-rise row f a (suc n) tells front s others e t h =
    go (place (f a) (flat_map f (range_with_len (a + 1) n)) front s others e)
    (λ front e. rows-rise row f (a + 1) n (λ k b. tells k (wider k b)) front s others e t h)
  where
    rest : List Spot
    rest = flat_map f (range_with_len (a + 1) n)

    here : Between a (suc n) a
    here = record { low = omega arith; high = omega arith }

    wider : (k : ℕ) → Between (a + 1) n k → Between a (suc n) k
    wider k b = record { low = let l = b.low in omega arith; high = let u = b.high in omega arith }

    later : IsIn t rest → row s ≡ a → row s ≤ row t
    later h r =
        let g = in-flat-back f t (a + 1) n h in
        let k = tells g.at (wider g.at g.between) t g.gives in
        let l = g.between.low in omega arith

    either : (more : List Spot) → row s ≡ a → IsIn t (f a) ⊎ IsIn t rest → row s ≤ row t
    either more r (inl i) = let k = tells a here t i in omega arith
    either more r (inr i) = later i r

    go : Where (f a) rest front s others
        → ((front : List Spot) → rest ≡ front ++ s ∷ others → row s ≤ row t) → row s ≤ row t
    go (inl more) again = again more.0 more.1
    go (inr more) again =
        let first : IsIn s (f a) =
        subst (λ (l : List Spot). IsIn s l) (sym more.1) (in-back s front (s ∷ more.0) (inl refl)) in
        either more.0 (tells a here s first) (by (in-either t more.0 rest
        (subst (λ (l : List Spot). IsIn t l) more.2 h)))
      where
        by : IsIn t more.0 ⊎ IsIn t rest → IsIn t (f a) ⊎ IsIn t rest
        by (inl i) = inl (subst (λ (l : List Spot). IsIn t l) (sym more.1)
            (in-back t front (s ∷ more.0) (inr i)))
        by (inr i) = inr i

-- ---- the rows of a scan

-- the row of MCUs of a spot
abbrev pub mcu_row : List Component → Spot → ℕ
mcu_row components s = elim (slice_get components s.slot) [
  | Some c ↦ s.index / c.blocks_wide / c.factors.vertical
  | None ↦ 0
]

pub mcu-at : (components : List Component) (t : Spot) (c : Component) → At t.slot components c
    → mcu_row components t ≡ t.index / c.blocks_wide / c.factors.vertical
mcu-at components t c h =
    ap (λ (o : Option Component). elim o as (λ _. ℕ) [
      | Some c ↦ t.index / c.blocks_wide / c.factors.vertical
      | None ↦ 0
    ]) (at-got t.slot components c h)

no-place : (front : List Spot) (s : Spot) (others : List Spot) → [] ≡ front ++ s ∷ others → ⊥
no-place [] s others e = absurd cc
no-place (z ∷ front) s others e = absurd cc

-- the row of MCUs of a spot of several components, and the row of blocks of a spot of one
abbrev pub row_of : List Component → Spot → ℕ
row_of (c ∷ []) s = s.index / c.blocks_wide
row_of components s = mcu_row components s

own-rise : (c : Component) (front : List Spot) (s : Spot) (others : List Spot) (t : Spot)
    → own_spots (grid_of c) ≡ front ++ s ∷ others → (grid_of c).own_wide ≤ c.blocks_wide → IsIn t others
    → s.index / c.blocks_wide ≤ t.index / c.blocks_wide
unfolding own_spots
own-rise c front s others t e wide h =
    let g = grid_of c in
    let line : ℕ → ℕ → Spot = λ row column. record { slot = 0; index = row * g.wide + column } in
    rows-rise (λ s. s.index / c.blocks_wide) (λ row. map (line row) (range_with_len 0 g.own_wide)) 0 g.own_high
    (λ row b t i.
    let x = in-line-back (line row) t 0 g.own_wide i in
    let column : x.at < g.wide = let k = x.between.high in omega arith in
    ap (λ (z : Spot). z.index / c.blocks_wide) (sym x.equal) ∙ div-mul-add row g.wide x.at column) front s others e t h

several-rise : (frame : Frame) (components : List Component) (front : List Spot) (s : Spot) (others : List Spot)
    (t : Spot) → all_spots frame.mcus_wide frame.mcus_high components ≡ front ++ s ∷ others
    → AllByRecursion (Fits frame) components → IsIn t others
    → mcu_row components s ≤ mcu_row components t
unfolding all_spots
several-rise frame components front s others t e fits h =
    let mcu : ℕ → ℕ → List Spot = λ row column. mcu_spots row column 0 components in
    rows-rise (mcu_row components) (λ row. flat_map (mcu row) (range_with_len 0 frame.mcus_wide)) 0 frame.mcus_high
    (λ row b t i.
    let g = in-flat-back (mcu row) t 0 frame.mcus_wide i in
    let column : g.at < frame.mcus_wide = let k = g.between.high in omega arith in
    let x = mcu-tells frame row g.at column components 0 t fits g.gives in
    mcu-at components t x.component (placed frame components row g.at t x) ∙ x.tells.row_of) front s others e t h

-- No block that a scan lacks is in a row above that of the first.
pub unread-rise : (frame : Frame) (components : List Component) (front : List Spot) (s : Spot) (others : List Spot)
    (t : Spot) → spots_of frame components ≡ front ++ s ∷ others → AllByRecursion (Fits frame) components
    → IsIn t others → row_of components s ≤ row_of components t
unfolding spots_of
unread-rise frame [] front s others t e fits h = absurd (no-place front s others e)
unread-rise frame (c ∷ []) front s others t e fits h =
    own-rise c front s others t e fits.0.own_wide h
unread-rise frame (c ∷ d ∷ more) front s others t e fits h =
    several-rise frame (c ∷ d ∷ more) front s others t e fits h

-- A block in a row above the first that shorter data lack is the same in longer data.
pub blocks-above : (frame : Frame) (components : List Component) (before shorter longer : Arrays)
    (r : ReadsOn (spots_of frame components) before shorter longer) (s : Spot) (others : List Spot) (t : Spot)
    → AllByRecursion (Fits frame) components → r.others ≡ s ∷ others
    → row_of components t < row_of components s → block_at shorter t ≡ block_at longer t
blocks-above frame components before shorter longer r s others t fits e above =
    sym (puts-elsewhere t r.further.done shorter longer r.further.puts (λ h.
    by (subst (λ (l : List Spot). IsIn t l) (sym r.further.parts ∙ e)
    (in-front t r.further.done r.further.others h))))
  where
    parts : spots_of frame components ≡ r.done ++ s ∷ others
    parts = r.parts ∙ ap (λ (l : List Spot). r.done ++ l) e

    by : IsIn t (s ∷ others) → ⊥
    by (inl same) = let k = ap (row_of components) same in absurd (omega arith)
    by (inr h) = let k = unread-rise frame components r.done s others t parts fits h in absurd (omega arith)
