-- The samples of a component's blocks, row by row of blocks.
use Rattle.std.proofs.Common.{◌≡◌, ℕ, zero, suc, ◌+◌, ◌*◌, ◌<◌, ◌≤◌, List, [], ◌∷◌, ◌++◌, map, take}
use Rattle.std.proofs.Common.{drop, length, get_or, slice_index_or, ℤ, refl, sym, ap, ◌∙◌, arith}
use Rattle.std.proofs.Common.{append-nil, suc-mul, length-take, length-drop, rules, subst}
use Rattle.std.proofs.Math.Nat.{mul-le-mul_right}
use Rattle.std.proofs.lemmas.List.{drop-drop, ext_get_or, get_or-map, get_or-take, get_or-drop}
use Rattle.std.proofs.lemmas.List.{get_or_default}
use Rattle.std.proofs.lemmas.List.FromFn.{length-map-range_with_len, get_or-map-range_with_len}
use Rattle.std.specs.List.{range_with_len}
use Rattle.jpeg_bits.specs.BlockView.{to_block}
use Rattle.jpeg_bits.proofs.ZigzagIndices.{ordered-block}
use Rattle.jpeg_pixels.specs.Planes.{plane_of, strip_of, zero_coefficients}
use Rattle.jpeg_pixels.proofs.PlaneRows.{plane-more, plane-same, plane-none}
use Rattle.jpeg_meaning.specs.Scans.{Arrays}
use Rattle.jpeg_meaning.specs.Rasters.{in_raster}
use Rattle.jpeg_meaning.specs.ScanSegments.{Coding}
use Rattle.jpeg_decoder.specs.Strips.{samples_of, strips_of, with_strips}
use Rattle.std.proofs.lemmas.Grind.{common_steps}

-- ---- a row of blocks

-- the block in a row and a column of blocks in raster order, this many wide
abbrev pub block_in : ℕ → List (List ℤ) → ℕ → ℕ → List ℤ
block_in wide blocks row column = slice_index_or blocks (row * wide + column) zero_coefficients

pub rows-fit : (v down wide size : ℕ) → v < down → size ≡ down * wide → v * wide + wide ≤ size
rows-fit v down wide size h e = grind (arith, common_steps, mul-le-mul_right, suc-mul)

row-of : (wide v : ℕ) (blocks : List (List ℤ)) → v * wide + wide ≤ length blocks
    → map (block_in wide blocks v) (range_with_len 0 wide) ≡ take wide (drop (v * wide) blocks)
row-of wide v blocks h =
    let l = length-map-range_with_len (block_in wide blocks v) 0 wide in
    let d = length-drop (v * wide) blocks in
    let t = length-take wide (drop (v * wide) blocks) in
    ext_get_or [] (map (block_in wide blocks v) (range_with_len 0 wide)) (take wide (drop (v * wide) blocks))
    (omega arith)
    (λ i k.
    let lt : i < wide = omega arith in
    get_or-map-range_with_len (block_in wide blocks v) 0 wide i i [] lt (omega arith)
    ∙ sym (get_or_default blocks (v * wide + i) [] zero_coefficients (omega arith))
    ∙ sym (get_or-take wide (drop (v * wide) blocks) i [] lt ∙ get_or-drop (v * wide) blocks i []))

pub strip-next : (s : ℕ) (table : List ℕ) (wide v : ℕ) (blocks : List (List ℤ)) → v * wide + wide ≤ length blocks
    → plane_of s table wide v (block_in wide blocks) ++ strip_of s table (take wide (drop (v * wide) blocks))
    ≡ plane_of s table wide (v + 1) (block_in wide blocks)
strip-next s table wide v blocks h = grind (arith, common_steps, row-of, plane-more)

-- ---- all rows

-- The arrays stand in block order already, as `ordered` puts the coefficients of a block.
in-raster : (wide high : ℕ) (blocks : List (List ℤ)) (r k : ℕ) → length blocks ≡ high * wide
    → ((i : ℕ) → i < length blocks → length (get_or blocks i []) ≡ 64) → r < high → k < wide
    → block_in wide blocks r k ≡ in_raster wide (map to_block blocks) r k
in-raster wide high blocks r k e sized h i = search (rules, arith, rows-fit, get_or-map, ordered-block, get_or_default)

pub raster-rows : (s : ℕ) (table : List ℕ) (wide width high counter : ℕ) (blocks : List (List ℤ)) (old new : List ℕ)
    → wide ≡ width → counter ≡ high → length blocks ≡ high * width
    → ((i : ℕ) → i < length blocks → length (get_or blocks i []) ≡ 64)
    → new ≡ old ++ plane_of s table wide counter (block_in wide blocks)
    → new ≡ old ++ plane_of s table width high (in_raster width (map to_block blocks))
raster-rows s table wide width high counter blocks old new w h e sized done =
    search (rules, plane-same, in-raster)

-- ---- the planes

pub strips-none : (codings : List Coding) (arrays : Arrays) → with_strips codings arrays [] ≡ []
unfolding with_strips
strips-none [] arrays = refl
strips-none (c ∷ codings) [] = refl
strips-none (c ∷ codings) (a ∷ arrays) = refl

pub some-before : (codings : List Coding) (arrays : Arrays) (planes : List (List ℕ))
    → 0 < length (with_strips codings arrays planes) → 0 < length planes
some-before codings arrays [] h = subst (λ (l : List (List ℕ)). 0 < length l) (strips-none codings arrays) h
some-before codings arrays (plane ∷ planes) h = omega arith

pub strips-length : (codings : List Coding) (arrays : Arrays) (planes : List (List ℕ))
    → length arrays ≡ length codings → length planes ≤ length codings
    → length (with_strips codings arrays planes) ≡ length planes
unfolding with_strips
strips-length codings arrays [] e f = ap (λ (l : List (List ℕ)). length l) (strips-none codings arrays)
strips-length (c ∷ codings) (a ∷ arrays) (x ∷ planes) e f = ap (λ (n : ℕ). suc n)
    (strips-length codings arrays planes (omega arith) (omega arith))
strips-length _ _ _ e f = absurd (omega arith)

-- The first planes grow as they do among all.
pub strips-first : (k : ℕ) (codings : List Coding) (arrays : Arrays) (planes : List (List ℕ))
    → with_strips codings arrays (take k planes) ≡ take k (with_strips codings arrays planes)
unfolding with_strips
strips-first zero codings arrays planes = strips-none codings arrays
strips-first (suc k) (c ∷ codings) (a ∷ arrays) (x ∷ planes) =
    ap (λ (l : List (List ℕ)). (x ++ samples_of c.component.factors.vertical c a) ∷ l)
    (strips-first k codings arrays planes)
strips-first (suc k) (c ∷ codings) (a ∷ arrays) [] = refl
strips-first (suc k) (c ∷ codings) [] [] = refl
strips-first (suc k) (c ∷ codings) [] (x ∷ planes) = refl
strips-first (suc k) [] arrays [] = refl
strips-first (suc k) [] arrays (x ∷ planes) = refl

-- each plane has its strip
pub strips-at : (codings : List Coding) (arrays : Arrays) (planes : List (List ℕ)) (slot : ℕ)
    → length arrays ≡ length codings → length planes ≤ length codings → slot < length planes
    → get_or (with_strips codings arrays planes) slot []
    ≡ get_or planes slot [] ++ get_or (strips_of codings arrays) slot []
unfolding with_strips strips_of
strips-at (d ∷ codings) (a ∷ arrays) (x ∷ planes) zero e f h = refl
strips-at (d ∷ codings) (a ∷ arrays) (x ∷ planes) (suc slot) e f h =
    strips-at codings arrays planes slot (omega arith) (omega arith) (omega arith)
strips-at _ _ _ slot e f h = absurd (omega arith)

pub strips_of-length : (codings : List Coding) (arrays : Arrays) → length arrays ≡ length codings
    → length (strips_of codings arrays) ≡ length codings
unfolding strips_of
strips_of-length [] [] e = refl
strips_of-length (c ∷ codings) (a ∷ arrays) e =
    ap (λ (n : ℕ). suc n) (strips_of-length codings arrays (omega arith))
strips_of-length _ _ e = absurd (omega arith)

-- the strip of a component's blocks
pub strip-of : (codings : List Coding) (arrays : Arrays) (slot : ℕ) (c : Coding)
    → length arrays ≡ length codings → slot < length codings → c ≡ get_or codings slot c
    → get_or (strips_of codings arrays) slot []
    ≡ samples_of c.component.factors.vertical c (get_or arrays slot [])
unfolding strips_of
strip-of (d ∷ codings) (a ∷ arrays) zero c e h is = grind (arith, common_steps)
strip-of (d ∷ codings) (a ∷ arrays) (suc slot) c e h is =
    strip-of codings arrays slot c (omega arith) (omega arith) is
strip-of _ _ slot c e h is = absurd (omega arith)

-- ---- the loop over the rows

pub none-yet : (s : ℕ) (table : List ℕ) (wide : ℕ) (block_at : ℕ → ℕ → List ℤ) (plane : List ℕ) → plane
    ≡ plane ++ plane_of s table wide 0 block_at
none-yet s table wide block_at plane = grind (arith, common_steps, plane-none, append-nil)

pub drop-none : (wide : ℕ) (blocks : List (List ℤ)) → blocks ≡ drop (0 * wide) blocks
drop-none wide blocks = let e : 0 ≡ 0 * wide = omega arith in ap (λ (k : ℕ). drop k blocks) e

pub drop-next : (wide v : ℕ) (blocks : List (List ℤ)) → drop wide (drop (v * wide) blocks)
    ≡ drop ((v + 1) * wide) blocks
drop-next wide v blocks = grind (arith, common_steps, drop-drop, suc-mul)
