-- How many blocks a scan has, by the sizes of the frame.
use Rattle.std.proofs.Common.{◌≡◌, ℕ, suc, ◌+◌, ◌*◌, List, [], ◌∷◌, length, refl, sym, ap, ap₂, ◌∙◌, arith}
use Rattle.std.proofs.Common.{length-append, mul_comm, add-mul}
use Rattle.std.proofs.lemmas.Grind.{common_steps}
use Rattle.std.proofs.lemmas.List.Sums.{sum_by-cons}
use Rattle.std.proofs.lemmas.List.Concat.{flat_map-cons}
use Rattle.std.proofs.lemmas.List.FromFn.{length-map-range_with_len, length-range_with_len}
use Rattle.std.specs.Prelude.{sum_by}
use Rattle.std.specs.List.{flat_map, range_with_len}
use Rattle.jpeg_segments.specs.Frame.{Component, Frame}
use Rattle.jpeg_meaning.specs.declared.grids.Grid.{Grid}
use Rattle.jpeg_meaning.specs.Order.{all_spots, grid_of, mcu_size, mcu_spots, own_spots, part_spots}
use Rattle.jpeg_meaning.specs.Order.{spots_of}

one-more : (n k : ℕ) → k + n * k ≡ suc n * k
one-more n k = grind (arith, common_steps, mul_comm, add-mul)

-- ---- lists that are joined

-- lists of one length
flat-count : {X A : Type 0} (f : X → List A) (k : ℕ) → ((x : X) → length (f x) ≡ k) → (xs : List X)
    → length (flat_map f xs) ≡ length xs * k
flat-count f k each [] = grind (arith, common_steps, mul_comm)
flat-count f k each (x ∷ xs) =
    ap length (flat_map-cons f x xs) ∙ (length-append (f x) (flat_map f xs)
    ∙ (ap₂ (λ (a b : ℕ). a + b) (each x) (flat-count f k each xs) ∙ one-more (length xs) k))

-- as many lists of one length as a range has numbers
range-count : {A : Type 0} (f : ℕ → List A) (k n : ℕ) → ((x : ℕ) → length (f x) ≡ k)
    → length (flat_map f (range_with_len 0 n)) ≡ n * k
range-count f k n each = flat-count f k each (range_with_len 0 n) ∙ ap (λ (m : ℕ). m * k) (length-range_with_len 0 n)

-- ---- the blocks of a component alone

own-count : (g : Grid) → length (own_spots g) ≡ g.own_high * g.own_wide
unfolding own_spots
own-count g = range-count _ g.own_wide g.own_high (λ row. length-map-range_with_len _ 0 g.own_wide)

-- ---- the blocks of several

part-count : (row column slot : ℕ) (c : Component)
    → length (part_spots row column slot c) ≡ c.factors.vertical * c.factors.horizontal
unfolding part_spots
part-count row column slot c =
    range-count _ c.factors.horizontal c.factors.vertical (λ v. length-map-range_with_len _ 0 c.factors.horizontal)

-- the blocks of a component in an MCU
abbrev pub part_size : Component → ℕ
part_size c = c.factors.horizontal * c.factors.vertical

mcu-count : (row column slot : ℕ) (cs : List Component)
    → length (mcu_spots row column slot cs) ≡ sum_by part_size cs
unfolding mcu_spots
mcu-count row column slot [] = refl
mcu-count row column slot (c ∷ more) =
    length-append (part_spots row column slot c) (mcu_spots row column (slot + 1) more)
    ∙ ap₂ (λ (a b : ℕ). a + b) (part-count row column slot c ∙ mul_comm c.factors.vertical c.factors.horizontal)
    (mcu-count row column (slot + 1) more)
    ∙ sym (sum_by-cons part_size c more)

all-count : (wide high : ℕ) (cs : List Component)
    → length (all_spots wide high cs) ≡ high * (wide * sum_by part_size cs)
unfolding all_spots
all-count wide high cs =
    range-count _ (wide * sum_by part_size cs) high
    (λ row. range-count _ (sum_by part_size cs) wide (λ column. mcu-count row column 0 cs))

-- ---- the blocks of a scan

-- those of a component alone
pub alone-spots : (frame : Frame) (c : Component)
    → length (spots_of frame (c ∷ [])) ≡ (grid_of c).own_high * (grid_of c).own_wide
unfolding spots_of
alone-spots frame c = own-count (grid_of c)

-- those of several are those of all MCUs
pub several-spots : (frame : Frame) (c d : Component) (more : List Component)
    → length (spots_of frame (c ∷ d ∷ more))
    ≡ frame.mcus_high * (frame.mcus_wide * mcu_size (c ∷ d ∷ more))
unfolding spots_of mcu_size
several-spots frame c d more = all-count frame.mcus_wide frame.mcus_high (c ∷ d ∷ more)
