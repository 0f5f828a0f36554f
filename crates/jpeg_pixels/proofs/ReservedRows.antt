-- A row of blocks that is given as coefficients one after the other.
use Rattle.std.proofs.Common.{◌≡◌, ℕ, zero, suc, ◌+◌, ◌*◌, ◌/◌, ◌<◌, ◌≤◌, ℤ, List, length, get_or, take, drop}
use Rattle.std.proofs.Common.{slice_index_or, ap, ◌∙◌, ◌++◌, arith, rules, length-append, Ok, Err}
use Rattle.std.specs.Prelude.{Result, OnOk, OnErr, vec_capacity}
use Rattle.std.specs.declared.vec.Vec.{Vec}
use Rattle.std.specs.declared.alloc.Global.{Global}
use Rattle.std.proofs.Math.Nat.{mul-le-mul_right}
use Rattle.std.proofs.lemmas.List.{drop-drop}
use Rattle.std.specs.Simd.{first_chunks}
use Rattle.jpeg_pixels.specs.Planes.{plane_of, zero_coefficients}
use Rattle.jpeg_pixels.specs.Workers.{Work, IsRowOf, block_in, grown}
use Rattle.jpeg_pixels.specs.ReservedView.{work_in, IsReserved}
use Rattle.jpeg_pixels.specs.declared.reserved_plane.ReservedPlane.TheInside.{Inside}
use Rattle.jpeg_pixels.proofs.PlaneRows.{plane-same, length_plane_of}

-- a block among the coefficients that are given
chunk_at : (count i : ℕ) (coefficients d : List ℤ) → i < count → get_or (first_chunks 64 count coefficients) i d
    ≡ take 64 (drop (64 * i) coefficients)
chunk_at zero i coefficients d h = absurd (omega arith)
chunk_at (suc count) zero coefficients d h = search rules
chunk_at (suc count) (suc i) coefficients d h =
    let more : 64 + 64 * i ≡ 64 * suc i = omega arith in
    chunk_at count i (drop 64 coefficients) d (omega arith)
    ∙ ap (take 64) (drop-drop (64 * i) 64 coefficients ∙ ap (λ (n : ℕ). drop n coefficients) more)

-- the plane of the blocks that are given
pub row_of_chunks : (s : ℕ) (table : List ℕ) (wide rows count : ℕ) (coefficients : List ℤ) (blocks : List (List ℤ))
    → blocks ≡ first_chunks 64 count coefficients → count ≡ wide * rows
    → plane_of s table wide rows (λ row column. slice_index_or blocks (row * wide + column) zero_coefficients)
    ≡ plane_of s table wide rows (block_in coefficients wide)
row_of_chunks s table wide rows count coefficients blocks is e =
    plane-same s table wide rows (λ row column. slice_index_or blocks (row * wide + column) zero_coefficients)
    (block_in coefficients wide) (λ row column hr hc.
    let inside : row * wide + wide ≤ rows * wide = omega (arith, mul-le-mul_right wide hr) in
    ap (λ (l : List (List ℤ)). slice_index_or l (row * wide + column) zero_coefficients) is
    ∙ chunk_at count (row * wide + column) coefficients zero_coefficients (omega (arith, inside)))

-- what has room doesn't fail
pub done : {A E : Type 0} (r : Result A E) (P : Type 0) (cap size : ℕ) → OnErr r (cap < size) → size ≤ cap → OnOk r P → P
done (Ok x) P cap size full room ok = ok
done (Err e) P cap size full room ok = absurd (omega (arith, full, room))

-- a row has room, and as many blocks as it should
pub row_fits : (p : Inside) (w : Work) (coefficients : List ℤ) → work_in p ≡ w → IsRowOf w coefficients
    → (length p.samples.items + p.scale * p.blocks_wide * (p.scale * p.rows) ≤ p.room) ×
    (length coefficients / 64 ≡ p.blocks_wide * p.rows)
row_fits p w coefficients seen row = search rules

-- what is seen of a plane with one more row
pub grown_is : (p : Inside) (w : Work) (coefficients : List ℤ) (n : Vec ℕ Global) → work_in p ≡ w
    → n.items ≡ p.samples.items ++ plane_of p.scale p.table p.blocks_wide p.rows (block_in coefficients p.blocks_wide)
    → work_in (record p { samples = n }) ≡ grown coefficients w
grown_is p w coefficients n seen e = search rules

-- the memory that is reserved is kept
pub still_reserved : (p : Inside) (coefficients : List ℤ) (n : Vec ℕ Global) → IsReserved p
    → length p.samples.items + p.scale * p.blocks_wide * (p.scale * p.rows) ≤ p.room
    → n.items ≡ p.samples.items ++ plane_of p.scale p.table p.blocks_wide p.rows (block_in coefficients p.blocks_wide)
    → vec_capacity p.samples ≤ vec_capacity n
    → IsReserved (record p { samples = n })
still_reserved p coefficients n is room e cap = search (rules, length-append, length_plane_of)
