-- The blocks of a scan in order are those that are walked.
use Rattle.std.proofs.Common.{◌≡◌, ℕ, ◌+◌, ◌-◌, ◌*◌, ◌<◌, ◌≤◌, List, [], ◌∷◌, ◌++◌, map, drop}
use Rattle.std.proofs.Common.{length, refl, ap, ap₂, arith, add-mul, mul_assoc, append-nil}
use Rattle.std.proofs.Common.{append_assoc, get_or}
use Rattle.std.specs.List.{range_with_len, flat_map}
use Rattle.std.proofs.lemmas.List.{drop_all}
use Rattle.jpeg_decoder.proofs.ReadLists.{dropped}
use Rattle.jpeg_segments.specs.Frame.{Component}
use Rattle.jpeg_meaning.specs.declared.grids.Grid.{Grid}
use Rattle.jpeg_meaning.specs.Order.{Spot, part_spot, part_spots, mcu_spots, all_spots, own_spots}
use Rattle.jpeg_segments.specs.FrameView.{component_in}
use Rattle.jpeg_decoder.specs.declared.scan.coded.Coded.{Coded}
use Rattle.jpeg_decoder.specs.declared.scan.spots.Member.{Member}
use Rattle.jpeg_decoder.specs.Steps.{coding_in}
use Rattle.jpeg_meaning.specs.ScanSegments.{components_of}
use Rattle.jpeg_decoder.specs.Walk.{spot_at, mcu_at, spots_at, raster, positions_of, member_of}
use Rattle.jpeg_decoder.specs.Walk.{line_members, part_members, members_from, own_member}
use Rattle.std.proofs.lemmas.Grind.{common_steps}

line-is : (row column slot : ℕ) (c : Component) (v : ℕ) (hs : List ℕ)
    → mcu_at (map (member_of slot c v) hs) (row, column) ≡ map (part_spot row column slot c v) hs
line-is row column slot c v [] = refl
line-is row column slot c v (h ∷ hs) = grind (arith, common_steps, add-mul, mul_assoc, line-is row column slot c v hs)

pub mcu-append : (xs ys : List Member) (p : ℕ × ℕ) → mcu_at (xs ++ ys) p ≡ mcu_at xs p ++ mcu_at ys p
mcu-append [] ys p = refl
mcu-append (x ∷ xs) ys p = ap (λ (l : List Spot). spot_at p x ∷ l) (mcu-append xs ys p)

part-is : (row column slot : ℕ) (c : Component) (vs : List ℕ)
    → mcu_at (flat_map (line_members slot c) vs) (row, column)
    ≡ flat_map (λ v. map (part_spot row column slot c v) (range_with_len 0 c.factors.horizontal)) vs
part-is row column slot c [] = refl
part-is row column slot c (v ∷ vs) = grind (arith, common_steps, mcu-append, line-is, part-is row column slot c vs)

pub mcu-is : (row column slot : ℕ) (cs : List Component)
    → mcu_at (members_from slot cs) (row, column) ≡ mcu_spots row column slot cs
unfolding members_from mcu_spots part_spots
mcu-is row column slot [] = refl
mcu-is row column slot (c ∷ cs) = grind (arith, common_steps, mcu-append, part-is, mcu-is row column (slot + 1) cs)

spots-append : (ms : List Member) (xs ys : List (ℕ × ℕ)) → spots_at ms (xs ++ ys) ≡ spots_at ms xs ++ spots_at ms ys
spots-append ms [] ys = refl
spots-append ms (x ∷ xs) ys = grind (arith, common_steps, append_assoc, spots-append ms xs ys)

-- ---- several components

columns-are : (cs : List Component) (row : ℕ) (ks : List ℕ)
    → spots_at (members_from 0 cs) (map (λ c. (row, c)) ks) ≡ flat_map (λ k. mcu_spots row k 0 cs) ks
columns-are cs row [] = refl
columns-are cs row (k ∷ ks) = ap₂ (λ (x y : List Spot). x ++ y) (mcu-is row k 0 cs) (columns-are cs row ks)

rows-are : (cs : List Component) (wide : ℕ) (rs : List ℕ)
    → spots_at (members_from 0 cs) (flat_map (λ r. positions_of r 0 wide) rs)
    ≡ flat_map (λ row. flat_map (λ k. mcu_spots row k 0 cs) (range_with_len 0 wide)) rs
rows-are cs wide [] = refl
rows-are cs wide (r ∷ rs) = grind (arith, common_steps, spots-append, columns-are, rows-are cs wide rs)

pub all_walked : (wide high : ℕ) (cs : List Component)
    → spots_at (members_from 0 cs) (raster wide high) ≡ all_spots wide high cs
unfolding all_spots
all_walked wide high cs = rows-are cs wide (range_with_len 0 high)

-- ---- a component that is alone

own-spot : (g : Grid) (row k : ℕ) → spot_at (row, k) (own_member g) ≡ record { slot = 0; index = row * g.wide + k }
own-spot g row k = grind (arith, common_steps)

own-columns : (g : Grid) (row : ℕ) (ks : List ℕ)
    → spots_at (own_member g ∷ []) (map (λ c. (row, c)) ks)
    ≡ map (λ k. record { slot = 0; index = row * g.wide + k }) ks
own-columns g row [] = refl
own-columns g row (k ∷ ks) = ap₂ (λ (x : Spot) (y : List Spot). x ∷ y) (own-spot g row k) (own-columns g row ks)

own-rows : (g : Grid) (rs : List ℕ)
    → spots_at (own_member g ∷ []) (flat_map (λ r. positions_of r 0 g.own_wide) rs)
    ≡ flat_map (λ row. map (λ k. record { slot = 0; index = row * g.wide + k }) (range_with_len 0 g.own_wide)) rs
own-rows g [] = refl
own-rows g (r ∷ rs) = grind (arith, common_steps, spots-append, own-columns, own-rows g rs)

pub own_walked : (g : Grid) → spots_at (own_member g ∷ []) (raster g.own_wide g.own_high) ≡ own_spots g
unfolding own_spots
own_walked g = own-rows g (range_with_len 0 g.own_high)

-- ---- the members, one after the other

pub one-less : (k n : ℕ) → k < n → range_with_len k (n - k) ≡ k ∷ range_with_len (k + 1) (n - (k + 1))
one-less k n h = grind (arith, common_steps)

pub more_members : (f : ℕ → Member) (xs : List Member) (h n : ℕ) → h < n
    → (xs ++ f h ∷ []) ++ map f (range_with_len (h + 1) (n - (h + 1))) ≡ xs ++ map f (range_with_len h (n - h))
more_members f xs h n l = grind (arith, common_steps, append_assoc, one-less)

pub more_lines : (g : ℕ → List Member) (xs : List Member) (v n : ℕ) → v < n
    → (xs ++ g v) ++ flat_map g (range_with_len (v + 1) (n - (v + 1))) ≡ xs ++ flat_map g (range_with_len v (n - v))
more_lines g xs v n l = grind (arith, common_steps, append_assoc, one-less)

pub no_members : (f : ℕ → Member) (xs : List Member) (h n : ℕ) → n ≤ h → xs ++ map f (range_with_len h (n - h)) ≡ xs
no_members f xs h n l = grind (arith, common_steps, append-nil)

pub no_lines : (g : ℕ → List Member) (xs : List Member) (v n : ℕ) → n ≤ v → xs ++ flat_map g (range_with_len v (n - v)) ≡ xs
no_lines g xs v n l = grind (arith, common_steps, append-nil)

pub ruleset order_rules = (all_walked, own_walked)

pub ruleset line_rules = (more_members, no_members)

pub ruleset part_rules = (more_lines, no_lines)

abbrev pub slots_left : ℕ → List Coded → List Member
slots_left slot cs = members_from slot (components_of (map coding_in (drop slot cs)))

pub slot_next : (xs : List Member) (slot : ℕ) (cs : List Coded) (c : Coded) → slot < length cs → c ≡ get_or cs slot c
    → (xs ++ part_members slot (component_in c.component.now)) ++ slots_left (slot + 1) cs ≡ xs ++ slots_left slot cs
unfolding members_from
slot_next xs slot cs c h e = grind (arith, common_steps, append_assoc, dropped)

pub slot_none : (xs : List Member) (slot : ℕ) (cs : List Coded) → length cs ≤ slot → xs ++ slots_left slot cs ≡ xs
unfolding members_from
slot_none xs slot cs h = grind (arith, common_steps, drop_all, append-nil)

pub ruleset slot_rules = (slot_next, slot_none)
