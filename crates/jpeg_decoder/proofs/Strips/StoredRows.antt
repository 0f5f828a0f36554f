-- Rows of blocks of which the first are stored, and the others are zeros.
use Rattle.std.proofs.Common.{◌≡◌, ◌∙◌, ℕ, zero, suc, inl, inr, ◌+◌, ◌*◌, ◌-◌, ◌<◌, ◌≤◌, ℤ, pos, List, []}
use Rattle.std.proofs.Common.{◌∷◌, ◌++◌, ap, arith, drop, get_or, length, map, refl, replicate, subst, sym}
use Rattle.std.proofs.Common.{append_assoc, take}
use Rattle.std.specs.Prelude.{min}
use Rattle.std.proofs.lemmas.Bool.{cases_lt}
use Rattle.std.proofs.Math.Seq.{get_or-append_right}
use Rattle.std.proofs.lemmas.List.{drop-replicate, drop_min, get_or-replicate, get_or_append_left}
use Rattle.std.proofs.lemmas.List.{length-append, length-replicate, map-append, take-replicate, take_min}
use Rattle.jpeg_bits.specs.BlockView.{to_block}
use Rattle.jpeg_bits.specs.Passes.{Block, zero_block}
use Rattle.jpeg_pixels.specs.Planes.{plane_of, strip_of}
use Rattle.jpeg_meaning.specs.Rasters.{in_raster}
use Rattle.jpeg_decoder.specs.Scanning.{blocks_in, filled}
use Rattle.jpeg_decoder.proofs.Kept.BlockArrays.{Held, seen-is, seen-count}
use Rattle.jpeg_decoder.proofs.Scans.BlocksBefore.{zero-blocks}
use Rattle.jpeg_decoder.proofs.Strips.StripRows.{block_in, drop-next, raster-rows, strip-next}

abbrev zero_array : List ℤ
zero_array = replicate 64 (pos 0)

-- ---- parts of blocks

filled-none : (n : ℕ) → filled n [] ≡ replicate n zero_array
filled-none n = ap (λ (k : ℕ). replicate k zero_array) (omega arith)

filled-more : (n : ℕ) (x : List ℤ) (xs : List (List ℤ)) → filled (suc n) (x ∷ xs) ≡ x ∷ filled n xs
filled-more n x xs = ap (λ (k : ℕ). x ∷ (xs ++ replicate k zero_array)) (omega arith)

drop-filled : (k n : ℕ) (xs : List (List ℤ)) → k ≤ n → drop k (filled n xs) ≡ filled (n - k) (drop k xs)
drop-filled zero n xs h = ap (λ (k : ℕ). filled k xs) (omega arith)
drop-filled (suc k) n [] h =
    ap (drop (suc k)) (filled-none n) ∙ drop-replicate (suc k) n zero_array ∙ sym (filled-none (n - suc k))
drop-filled (suc k) zero (x ∷ xs) h = absurd (omega (arith, h))
drop-filled (suc k) (suc n) (x ∷ xs) h =
    ap (drop (suc k)) (filled-more n x xs)
    ∙ drop-filled k n xs (omega (arith, h))
    ∙ ap (λ (m : ℕ). filled m (drop k xs)) (omega arith)

take-filled : (k n : ℕ) (xs : List (List ℤ)) → k ≤ n → take k (filled n xs) ≡ filled k (take k xs)
take-filled zero n xs h = refl
take-filled (suc k) n [] h =
    ap (take (suc k)) (filled-none n) ∙ take-replicate (suc k) n zero_array h ∙ sym (filled-none (suc k))
take-filled (suc k) zero (x ∷ xs) h = absurd (omega (arith, h))
take-filled (suc k) (suc n) (x ∷ xs) h =
    ap (take (suc k)) (filled-more n x xs)
    ∙ ap (λ (l : List (List ℤ)). x ∷ l) (take-filled k n xs (omega (arith, h)))
    ∙ sym (filled-more k x (take k xs))

pub filled-long : (n : ℕ) (xs : List (List ℤ)) → length xs ≤ n → length (filled n xs) ≡ n
filled-long n xs h =
    omega (arith, h, length-append xs (replicate (n - length xs) zero_array), length-replicate (n - length xs) zero_array)

-- ---- the row of blocks that is next

-- The stored blocks of a row, filled up, are the row of all blocks.
pub row-filled : (wide v n : ℕ) (stored rest row : List (List ℤ)) → v * wide + wide ≤ n
    → rest ≡ drop (v * wide) stored → row ≡ take (min wide (length rest)) rest
    → filled wide row ≡ take wide (drop (v * wide) (filled n stored))
row-filled wide v n stored rest row h r is =
    ap (filled wide) (is ∙ take_min wide rest ∙ ap (take wide) r)
    ∙ sym (ap (take wide) (drop-filled (v * wide) n stored (omega (arith, h)))
    ∙ take-filled wide (n - v * wide) (drop (v * wide) stored) (omega (arith, h)))

pub rest-next : (wide v : ℕ) (stored rest others : List (List ℤ)) → rest ≡ drop (v * wide) stored
    → others ≡ drop (min wide (length rest)) rest → others ≡ drop ((v + 1) * wide) stored
rest-next wide v stored rest others r is =
    is ∙ drop_min wide rest ∙ ap (drop wide) r ∙ drop-next wide v stored

-- ---- all of them

pub all-stored-long : (a : Held) (n : ℕ) → length (blocks_in a) ≡ n → length a.blocks.items ≤ n
all-stored-long a n e = omega (arith, e, seen-count a)

-- Seen as blocks, they are those of the array.
pub filled-seen : (a : Held) (n : ℕ) → length (blocks_in a) ≡ n → map to_block (filled n a.blocks.items) ≡ blocks_in a
filled-seen a n e =
    let left : n - length a.blocks.items ≡ a.count - length a.blocks.items = omega (arith, e, seen-count a) in
    map-append to_block a.blocks.items (replicate (n - length a.blocks.items) zero_array)
    ∙ ap (λ (l : List Block). map to_block a.blocks.items ++ l) (zero-blocks (n - length a.blocks.items))
    ∙ ap (λ (k : ℕ). map to_block a.blocks.items ++ replicate k zero_block) left
    ∙ sym (seen-is a)

-- Each block has 64 coefficients.
pub filled-sized : (n : ℕ) (xs : List (List ℤ)) → ((i : ℕ) → i < length xs → length (get_or xs i []) ≡ 64)
    → (i : ℕ) → i < length (filled n xs) → length (get_or (filled n xs) i []) ≡ 64
filled-sized n xs sized i h = elim (cases_lt i (length xs)) [
  | inl l ↦ ap length (get_or_append_left xs (replicate (n - length xs) zero_array) [] i l) ∙ sized i l
  | inr l ↦ ap length (get_or-append_right xs (replicate (n - length xs) zero_array) i [] l
      ∙ get_or-replicate (n - length xs) (i - length xs) zero_array [] (omega (
        arith,
        h,
        l,
        length-append xs
            (replicate (n - length xs) zero_array),
        length-replicate (n - length xs) zero_array,
      )))
      ∙ length-replicate 64 (pos 0)
]

-- ---- the loop over the rows

-- one row more
pub row-appended : (s wide v n : ℕ) (table : List ℕ) (stored rest row : List (List ℤ)) (start before after : List ℕ)
    → v * wide + wide ≤ n → length stored ≤ n → rest ≡ drop (v * wide) stored
    → row ≡ take (min wide (length rest)) rest
    → before ≡ start ++ plane_of s table wide v (block_in wide (filled n stored))
    → after ≡ before ++ strip_of s table (filled wide row)
    → after ≡ start ++ plane_of s table wide (v + 1) (block_in wide (filled n stored))
row-appended s wide v n table stored rest row start before after h few r is b a =
    let all = filled n stored in
    let long : v * wide + wide ≤ length all = omega (arith, h, filled-long n stored few) in
    a
    ∙ ap (λ (l : List ℕ). l ++ strip_of s table (filled wide row)) b
    ∙ append_assoc start (plane_of s table wide v (block_in wide all)) (strip_of s table (filled wide row))
    ∙ ap (λ (l : List ℕ). start ++ l)
    (ap (λ (l : List (List ℤ)). plane_of s table wide v (block_in wide all) ++ strip_of s table l)
    (row-filled wide v n stored rest row h r is)
    ∙ strip-next s table wide v all long)

-- all rows
pub rows-appended : (s wide width high counter : ℕ) (table : List ℕ) (stored : List (List ℤ)) (start after : List ℕ)
    → wide ≡ width → counter ≡ high → length stored ≤ high * width
    → ((i : ℕ) → i < length stored → length (get_or stored i []) ≡ 64)
    → after ≡ start ++ plane_of s table wide counter (block_in wide (filled (high * wide) stored))
    → after ≡ start ++ plane_of s table width high (in_raster width (map to_block (filled (high * width) stored)))
rows-appended s wide width high counter table stored start after w h few sized done =
    let n = high * wide in
    let same = ap (λ (k : ℕ). high * k) w in
    raster-rows s table wide width high counter (filled n stored) start after w h
    (filled-long n stored (subst (λ (k : ℕ). length stored ≤ k) (sym same) few) ∙ same)
    (filled-sized n stored sized) done
    ∙ ap (λ (k : ℕ). start ++ plane_of s table width high (in_raster width (map to_block (filled k stored)))) same
