-- The indices of the zigzag order.
use Rattle.std.proofs.Common.{◌≡◌, ℕ, ◌<◌, List, ◌∷◌, length, get_or, map, set, drop, ℤ, pos, refl, sym, ap, ◌∙◌, arith}
use Rattle.std.proofs.Common.{true, length-set, ◌+◌, ◌-◌, ◌≤◌, ◌++◌, take, length-drop}
use Rattle.std.proofs.lemmas.List.{ext_get_or, get_or-map, length-map, get_or-set_same, get_or-set_other}
use Rattle.std.proofs.lemmas.List.{length-take-le, take-set-le, drop-set-lt, drop-set-add, drop-take, drop-drop}
use Rattle.std.proofs.lemmas.List.{take-take, take-append-drop, get_or-take, get_or-drop}
use Rattle.std.proofs.lemmas.List.Folds.{list_all_at}
use Rattle.std.proofs.lemmas.List.FromFn.{get_or-range_with_len}
use Rattle.std.proofs.lemmas.Bool.{cases_eq, cases_lt, ltb-true, false_from_ne_true, false≢true}
use Rattle.std.proofs.Math.Dec.{ltb}
use Rattle.std.specs.List.{list_all, range_with_len}
use Rattle.jpeg_bits.specs.Zigzag.{zigzag, zigzag_indices, coefficients_in_zigzag, coefficients_in_block_order}
use Rattle.std.proofs.lemmas.Grind.{common_steps}
use Rattle.std.proofs.lemmas.Bool.Decides.{nat_tests}
use Rattle.std.proofs.Math.Seq.{take-set-lt}
use Rattle.jpeg_bits.specs.Passes.{Pass, before_band, band_size, band_of, with_band}
use Rattle.jpeg_bits.specs.ZigzagParts.{zigzag_part, IsKeptAround, band_start, band_end, band_in}
use Rattle.jpeg_bits.specs.BlockView.{IsPass, to_block}

length_zigzag : length zigzag ≡ 64
length_zigzag = refl

length_indices : length zigzag_indices ≡ 64
unfolding zigzag_indices
length_indices = refl

each_below : (xs : List ℕ) (n : ℕ) → list_all (λ x. ltb x n) xs ≡ true → (i : ℕ) → i < length xs → get_or xs i 0 < n
each_below xs n all i h = grind (arith, false≢true, list_all_at, false_from_ne_true, ltb-true, cases_lt)

-- each index in zigzag order is an index of the block
pub zigzag_lt : (k : ℕ) → k < 64 → get_or zigzag k 0 < 64
zigzag_lt k h = each_below zigzag 64 refl k h

-- and each index of the block one in zigzag order
pub indices_lt : (k : ℕ) → k < 64 → get_or zigzag_indices k 0 < 64
unfolding zigzag_indices
indices_lt k h = each_below zigzag_indices 64 refl k h

zigzag_then_indices : map (λ index. get_or zigzag_indices index 0) zigzag ≡ range_with_len 0 64
unfolding zigzag_indices
zigzag_then_indices = refl

indices_then_zigzag : map (λ index. get_or zigzag index 0) zigzag_indices ≡ range_with_len 0 64
unfolding zigzag_indices
indices_then_zigzag = refl

-- the two tables are inverse to one another
pub indices-zigzag : (k : ℕ) → k < 64 → get_or zigzag_indices (get_or zigzag k 0) 0 ≡ k
indices-zigzag k h =
    sym (get_or-map (λ index. get_or zigzag_indices index 0) zigzag k 0 0 (omega (arith, length_zigzag)))
    ∙ ap (λ (xs : List ℕ). get_or xs k 0) zigzag_then_indices ∙ get_or-range_with_len 0 64 k 0 h ∙ omega arith

pub zigzag-indices : (k : ℕ) → k < 64 → get_or zigzag (get_or zigzag_indices k 0) 0 ≡ k
zigzag-indices k h =
    sym (get_or-map (λ index. get_or zigzag index 0) zigzag_indices k 0 0 (omega (arith, length_indices)))
    ∙ ap (λ (xs : List ℕ). get_or xs k 0) indices_then_zigzag ∙ get_or-range_with_len 0 64 k 0 h ∙ omega arith

pub length-in_zigzag : (l : List ℤ) → length (coefficients_in_zigzag l) ≡ 64
unfolding coefficients_in_zigzag
length-in_zigzag l = length-map zigzag (λ index. get_or l index (pos 0)) ∙ length_zigzag

pub length-in_block_order : (l : List ℤ) → length (coefficients_in_block_order l) ≡ 64
unfolding coefficients_in_block_order
length-in_block_order l = length-map zigzag_indices (λ index. get_or l index (pos 0)) ∙ length_indices

-- a coefficient is read at its index in the block
pub get_or-in_zigzag : (l : List ℤ) (k : ℕ) (d : ℤ) → k < 64
    → get_or (coefficients_in_zigzag l) k d ≡ get_or l (get_or zigzag k 0) (pos 0)
unfolding coefficients_in_zigzag
get_or-in_zigzag l k d h =
    get_or-map (λ index. get_or l index (pos 0)) zigzag k 0 d (omega (arith, length_zigzag))

pub get_or-in_block_order : (l : List ℤ) (k : ℕ) (d : ℤ) → k < 64
    → get_or (coefficients_in_block_order l) k d ≡ get_or l (get_or zigzag_indices k 0) (pos 0)
unfolding coefficients_in_block_order
get_or-in_block_order l k d h = grind (arith, get_or-map, length_indices)

-- and written there
pub in_zigzag-set : (l : List ℤ) (k : ℕ) (v : ℤ) → length l ≡ 64 → k < 64
    → coefficients_in_zigzag (set l (get_or zigzag k 0) v) ≡ set (coefficients_in_zigzag l) k v
in_zigzag-set l k v n h =
    let p = get_or zigzag k 0 in
    let lt : p < 64 = zigzag_lt k h in
    ext_get_or (pos 0) (coefficients_in_zigzag (set l p v)) (set (coefficients_in_zigzag l) k v)
    (length-in_zigzag (set l p v) ∙ sym (length-set (coefficients_in_zigzag l) k v ∙ length-in_zigzag l))
    (grind (arith, length-in_zigzag, get_or-in_zigzag, at_same, at_other, cases_eq))
  where
    at_same : (i : ℕ) → i ≡ k → get_or (set l (get_or zigzag k 0) v) (get_or zigzag i 0) (pos 0)
        ≡ get_or (set (coefficients_in_zigzag l) k v) i (pos 0)
    at_same i e = grind (arith, length-in_zigzag, zigzag_lt, get_or-set_same)

    at_other : (i : ℕ) → i < 64 → (i ≡ k → ⊥) → get_or (set l (get_or zigzag k 0) v) (get_or zigzag i 0) (pos 0)
        ≡ get_or (set (coefficients_in_zigzag l) k v) i (pos 0)
    at_other i lt ne =
        get_or-set_other l (get_or zigzag k 0) (get_or zigzag i 0) v (pos 0) (λ e. ne (sym
        (indices-zigzag i lt)
        ∙ ap (λ (index : ℕ). get_or zigzag_indices index 0) e ∙ indices-zigzag k h))
        ∙ sym (get_or-in_zigzag l i (pos 0) lt)
        ∙ sym (get_or-set_other (coefficients_in_zigzag l) k i v (pos 0) ne)

ruleset orders = (length-in_block_order, get_or-in_block_order, get_or-in_zigzag, indices_lt, zigzag-indices)

-- the two orders of a block's coefficients
pub block_order-of-zigzag : (l : List ℤ) → length l ≡ 64
    → coefficients_in_block_order (coefficients_in_zigzag l) ≡ l
block_order-of-zigzag l n =
    ext_get_or (pos 0) (coefficients_in_block_order (coefficients_in_zigzag l)) l
    (length-in_block_order (coefficients_in_zigzag l) ∙ sym n) (grind (arith, orders))

-- DC is first in both orders
pub with_dc-in_zigzag : (l : List ℤ) → get_or l 0 (pos 0) ∷ drop 1 (coefficients_in_zigzag l)
    ≡ coefficients_in_zigzag l
unfolding coefficients_in_zigzag
with_dc-in_zigzag l = refl

pub ordered-block : (l : List ℤ) → length l ≡ 64
    → coefficients_in_block_order (get_or l 0 (pos 0) ∷ drop 1 (coefficients_in_zigzag l)) ≡ l
ordered-block l n = ap coefficients_in_block_order (with_dc-in_zigzag l) ∙ block_order-of-zigzag l n

-- ---- parts of a block in block order, by their indices in zigzag order

pub part-length : (start end : ℕ) (block : List ℤ) → end ≤ 64 → length (zigzag_part start end block) ≡ end - start
unfolding zigzag_part
part-length start end block within = grind (arith, length-drop, length-take-le, length-in_zigzag)

-- an index of a part, as it is read
pub part-get : (start end k : ℕ) (block : List ℤ) (d : ℤ) → start ≤ k → k < end → end ≤ 64
    → get_or (zigzag_part start end block) (k - start) d ≡ get_or block (get_or zigzag k 0) (pos 0)
unfolding zigzag_part
part-get start end k block d from before within =
    let at : start + (k - start) ≡ k = omega arith in
    grind (arith, get_or-take, get_or-drop, get_or-in_zigzag)

-- and as it is written
pub part-set : (start end k : ℕ) (block : List ℤ) (v : ℤ) → length block ≡ 64 → start ≤ k → k < end → end ≤ 64
    → zigzag_part start end (set block (get_or zigzag k 0) v) ≡ set (zigzag_part start end block) (k - start) v
unfolding zigzag_part
part-set start end k block v n from before within =
    let z = coefficients_in_zigzag block in
    let at : k ≡ start + (k - start) = omega arith in
    ap (λ (xs : List ℤ). take (end - start) (drop start xs)) (in_zigzag-set _ _ _ n (omega arith)
    ∙ ap (λ (i : ℕ). set z i v) at)
    ∙ ap (take (end - start)) (drop-set-add start z (k - start) v)
    ∙ take-set-lt (end - start) (drop start z) (k - start) v (omega arith)

-- the rest of a part
pub part-rest : (start from end : ℕ) (block : List ℤ) → start ≤ from → from ≤ end
    → drop (from - start) (zigzag_part start end block) ≡ zigzag_part from end block
unfolding zigzag_part
part-rest start from end block after within =
    let all : end - start ≡ from - start + (end - from) = omega arith in
    let at : start + (from - start) ≡ from = omega arith in
    grind (arith, drop-take, drop-drop)

pub kept-same : (start end : ℕ) (block : List ℤ) → IsKeptAround start end block block
kept-same start end block = record { front = refl; back = refl }

-- an index of a part is written
pub kept-set : (start end k : ℕ) (old block : List ℤ) (v : ℤ) → length block ≡ 64 → start ≤ k → k < end → end ≤ 64
    → IsKeptAround start end old block → IsKeptAround start end old (set block (get_or zigzag k 0) v)
kept-set start end k old block v n from before within h =
    let z = coefficients_in_zigzag block in
    let is = in_zigzag-set block k v n (omega arith) in grind (arith, common_steps, nat_tests, take-set-le, drop-set-lt)

-- a part of a part is written
pub kept-rest : (start from end : ℕ) (old block new : List ℤ) → start ≤ from → IsKeptAround start end old block
    → IsKeptAround from end block new → IsKeptAround start end old new
kept-rest start from end old block new after h k =
    record {
      front = sym (take-take start from (coefficients_in_zigzag new) after) ∙ ap (take start) k.front
          ∙ take-take start from (coefficients_in_zigzag block) after ∙ h.front;
      back = k.back ∙ h.back;
    }

part-front : (start from end : ℕ) (block : List ℤ) → start ≤ from → from ≤ end
    → take (from - start) (zigzag_part start end block) ≡ drop start (take from (coefficients_in_zigzag block))
unfolding zigzag_part
part-front start from end block after within =
    let at : start + (from - start) ≡ from = omega arith in
    grind (arith, take-take, drop-take)

pub part-put : (start from end : ℕ) (block new : List ℤ) → start ≤ from → from ≤ end
    → IsKeptAround from end block new
    → zigzag_part start end new ≡ take (from - start) (zigzag_part start end block) ++ zigzag_part from end new
part-put start from end block new after within k =
    sym (take-append-drop (from - start) (zigzag_part start end new))
    ∙ ap (λ (xs : List ℤ). xs ++ drop (from - start) (zigzag_part start end new)) (part-front _ _ _ _ after
    within ∙ ap (drop start) k.front ∙ sym (part-front _ _ _ _ after within))
    ∙ ap (λ (xs : List ℤ). take (from - start) (zigzag_part start end block) ++ xs) (part-rest _ _ _ _ after
    within)

-- ---- the band of a pass

pub band-length : (p : Pass) (block : List ℤ) → IsPass p → length (band_in p block) ≡ band_size p
band-length p block is = grind (arith, part-length)

pub band-is : (p : Pass) (block : List ℤ) → band_in p block ≡ band_of p (to_block block).acs
unfolding zigzag_part
band-is p block = grind (arith, common_steps, nat_tests, drop-drop)

-- DC is written
pub dc-put : (block : List ℤ) (y : ℤ) → length block ≡ 64
    → to_block (set block 0 y) ≡ record { dc = y; acs = (to_block block).acs }
dc-put block y n =
    let z = coefficients_in_zigzag block in
    let first : get_or (set block 0 y) 0 (pos 0) ≡ y = get_or-set_same block 0 y (pos 0) (omega arith) in
    let others : drop 1 (coefficients_in_zigzag (set block 0 y)) ≡ drop 1 z =
    ap (drop 1) (in_zigzag-set block 0 y n (omega arith)) ∙ drop-set-lt 1 z 0 y (omega arith) in
    rw (first, others) refl

-- the band is written
pub band-put : (p : Pass) (block new : List ℤ) → IsPass p → IsKeptAround (band_start p) (band_end p) block new
    → to_block new ≡ record {
      dc = (to_block block).dc;
      acs = with_band p (to_block block).acs (band_in p new);
    }
unfolding zigzag_part
band-put p block new is k =
    let s = band_start p in
    let o = coefficients_in_zigzag block in
    let z = coefficients_in_zigzag new in
    let zero : 0 < 64 = omega arith in
    let order = is.order in
    let size = band_end p - s in
    let first : get_or new 0 (pos 0) ≡ get_or block 0 (pos 0) =
    sym (get_or-in_zigzag new 0 (pos 0) zero) ∙ sym (get_or-take s z 0 (pos 0) (omega arith))
    ∙ ap (λ (xs : List ℤ). get_or xs 0 (pos 0)) k.front ∙ get_or-take s o 0 (pos 0) (omega arith)
    ∙ get_or-in_zigzag block 0 (pos 0) zero in
    let start : 1 + before_band p ≡ s = omega arith in
    let end : s + size ≡ band_end p = omega arith in
    let last : band_end p ≡ 1 + (before_band p + band_size p) = omega arith in
    let front : (xs : List ℤ) → take (before_band p) (drop 1 xs) ≡ drop 1 (take s xs) =
    λ xs. sym (drop-take 1 (before_band p) xs) ∙ ap (λ (i : ℕ). drop 1 (take i xs)) start in
    let others : drop 1 z ≡ with_band p (drop 1 o) (band_in p new) =
    sym (take-append-drop (before_band p) (drop 1 z))
    ∙ ap (λ (xs : List ℤ). xs ++ drop (before_band p) (drop 1 z)) (front z ∙ ap (drop 1) k.front ∙ sym (front o))
    ∙ ap (λ (xs : List ℤ). take (before_band p) (drop 1 o) ++ xs) (drop-drop (before_band p) 1 z
    ∙ ap (λ (i : ℕ). drop i z) start ∙ sym (take-append-drop size (drop s z))
    ∙ ap (λ (xs : List ℤ). take size (drop s z) ++ xs) (drop-drop size s z ∙ ap (λ (i : ℕ). drop i z) end ∙ k.back
    ∙ ap (λ (i : ℕ). drop i o) last ∙ sym (drop-drop (before_band p + band_size p) 1 o))) in
    rw (first, others) refl
