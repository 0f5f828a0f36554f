-- The order of a scan is that of its blocks.
use Rattle.std.proofs.Common.{◌≡◌, ℕ, zero, suc, ◌+◌, ◌*◌, ◌<◌, List, [], ◌∷◌, map, length, get_or}
use Rattle.std.proofs.Common.{refl, subst, ap, ap₂, ◌∙◌, arith, add-mul, length-append}
use Rattle.std.proofs.Math.Nat.{mul_comm}
use Rattle.std.proofs.lemmas.List.FromFn.{length-map-range_with_len}
use Rattle.std.proofs.lemmas.List.Sums.{sum_by-cons}
use Rattle.std.specs.Prelude.{sum_by}
use Rattle.std.specs.List.{AllByRecursion, range_with_len, flat_map}
use Rattle.jpeg_segments.specs.Frame.{Frame, Component}
use Rattle.jpeg_meaning.specs.Order.{Spot, grid_of, mcu_size, own_spots, spots_of}
use Rattle.jpeg_meaning.specs.InTurn.{Fits}
use Rattle.jpeg_meaning.specs.McuRows.{mcu_row, rows_of}
use Rattle.jpeg_meaning.proofs.Order.CountedScans.{some-product}
use Rattle.jpeg_decoder.specs.declared.scan.order.ScanOrder.{ScanOrder}
use Rattle.jpeg_meaning.specs.ScanSegments.{Coding, components_of}
use Rattle.jpeg_decoder.specs.declared.scan.spots.Member.{Member}
use Rattle.jpeg_decoder.specs.Walk.{IsOrderOf, walks_of_rows, spots_at, raster, members_from}
use Rattle.jpeg_decoder.specs.Walk.{line_members, own_member}
use Rattle.jpeg_decoder.proofs.Orders.OrderedWalks.{all_walked, own_walked}
use Rattle.std.proofs.lemmas.Grind.{common_steps}

-- ---- the number of members

length-lines : (slot : ℕ) (c : Component) (a n : ℕ)
    → length (flat_map (line_members slot c) (range_with_len a n)) ≡ n * c.factors.horizontal
length-lines slot c a zero = omega arith
length-lines slot c a (suc n) =
    grind (arith, common_steps, length-append, length-map-range_with_len, add-mul, length-lines slot c (a + 1) n)

abbrev size_of : List Component → ℕ
size_of cs = sum_by (λ (c : Component). c.factors.horizontal * c.factors.vertical) cs

length-members : (slot : ℕ) (cs : List Component) → length (members_from slot cs) ≡ size_of cs
unfolding members_from
length-members slot [] = refl
length-members slot (c ∷ cs) =
    grind (arith, common_steps, length-append, length-lines, mul_comm, sum_by-cons, length-members (slot + 1) cs)

-- ---- several components

pub several-order : (frame : Frame) (cs : List Component) (n : ℕ) (o : ScanOrder) → 1 < length cs
    → AllByRecursion (Fits frame) cs → o.members.items ≡ members_from 0 cs → o.wide ≡ frame.mcus_wide
    → o.high ≡ frame.mcus_high → o.lines ≡ 1 → o.rows ≡ frame.mcus_high → o.interval ≡ n * length o.members.items
    → IsOrderOf frame cs n o
unfolding mcu_size spots_of mcu_row
several-order frame (c ∷ d ∷ more) n o h fits members wide high lines rows interval =
    grind (arith, common_steps, length-members, all_walked, sum_by-cons, some-product)
several-order frame _ n o h fits members wide high lines rows interval = absurd (omega arith)

-- ---- a component that is alone

pub alone-order : (frame : Frame) (c : Component) (n : ℕ) (o : ScanOrder)
    → o.members.items ≡ own_member (grid_of c) ∷ [] → o.wide ≡ (grid_of c).own_wide
    → o.high ≡ (grid_of c).own_high → o.lines ≡ c.factors.vertical → o.rows ≡ frame.mcus_high → o.interval ≡ n
    → IsOrderOf frame (c ∷ []) n o
unfolding mcu_size spots_of mcu_row
alone-order frame c n o members wide high lines rows interval =
    let g = grid_of c in
    let walked : (k : ℕ) → spots_at o.members.items (raster o.wide k) ≡ own_spots (record g { own_high = k })
    = λ k. ap₂ (λ (l : List Member) (w : ℕ). spots_at l (raster w k)) members wide
    ∙ own_walked (record g { own_high = k }) in
    record {
      some = let e = ap (λ (l : List Member). length l) members in omega arith;
      interval = interval ∙ (let z : n ≡ n * 1 = omega arith in z);
      rows = rows;
      all = walked o.high ∙ ap (λ (k : ℕ). own_spots (record g { own_high = k })) high;
      each = grind (arith, common_steps);
    }

pub alone-of : (frame : Frame) (cs : List Coding) (c : Component) (n : ℕ) (o : ScanOrder) → length cs ≡ 1
    → c ≡ get_or (components_of cs) 0 c → o.members.items ≡ own_member (grid_of c) ∷ []
    → o.wide ≡ (grid_of c).own_wide
    → o.high ≡ (grid_of c).own_high
    → o.lines ≡ c.factors.vertical → o.rows ≡ frame.mcus_high → o.interval ≡ n
    → IsOrderOf frame (components_of cs) n o
alone-of frame (x ∷ []) c n o one is members wide high lines rows interval =
    subst (λ (y : Component). IsOrderOf frame (y ∷ []) n o) is
    (alone-order frame c n o members wide high lines rows interval)
alone-of frame _ c n o one is members wide high lines rows interval = absurd (omega arith)

-- ---- the rows

pub range-same : (f g : ℕ → List Spot) (a n : ℕ) → ((k : ℕ) → k < a + n → f k ≡ g k)
    → map f (range_with_len a n) ≡ map g (range_with_len a n)
range-same f g a zero h = refl
range-same f g a (suc n) h = grind (arith, common_steps, range-same f g (a + 1) n (λ k lt. h k (omega arith)))

pub rows-walked : (frame : Frame) (cs : List Component) (n : ℕ) (o : ScanOrder) → IsOrderOf frame cs n o
    → walks_of_rows o ≡ rows_of frame cs
rows-walked frame cs n o is = grind (arith, common_steps, range-same)
