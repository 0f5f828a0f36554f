-- The first lines of a plane are made of its first rows of blocks.
use Rattle.std.proofs.Common.{◌≡◌, ℕ, zero, suc, ◌+◌, ◌*◌, ◌/◌, ◌%◌, ◌<◌, List}
use Rattle.std.proofs.Common.{take, sym, ap, ◌∙◌, subst, arith, get_or}
use Rattle.std.proofs.Math.Nat.{div-lt_iff_lt-mul, mod-lt, mul_comm}
use Rattle.std.proofs.lemmas.Nat.{div-mul-add}
use Rattle.std.proofs.lemmas.List.{get_or-take}
use Rattle.jpeg_bits.specs.Passes.{Block, listed, zero_block}
use Rattle.jpeg_bits.specs.Zigzag.{coefficients_in_block_order, values_in_block_order}
use Rattle.jpeg_segments.specs.Frame.{Component}
use Rattle.jpeg_pixels.specs.Planes.{plane_of, plane_sample}
use Rattle.jpeg_pixels.specs.Scaled.{sample_at}
use Rattle.jpeg_meaning.specs.Rasters.{plane_by, plane_of_blocks}
use Rattle.jpeg_evidence.specs.CompleteRows.{first_lines}
use Rattle.jpeg_evidence.proofs.Rows.FirstRows.{take-first}

-- blocks that are the same in the first rows, this many blocks wide
abbrev pub RowsSame : ℕ → ℕ → List Block → List Block → Type 0
RowsSame rows wide xs ys = (i : ℕ) → i < rows * wide → get_or xs i zero_block ≡ get_or ys i zero_block

-- the index of a block in the first rows
in-rows : (rows wide row column : ℕ) → row < rows → column < wide → row * wide + column < rows * wide
in-rows rows wide row column a b =
    let e = div-mul-add row wide column b in (div-lt_iff_lt-mul (omega arith)).0 (omega arith)

-- where a sample of the first lines stands in its plane
pub in-lines : (i lines stride : ℕ) → i < lines * stride → (0 < stride) × (i / stride < lines)
in-lines i lines zero lt = let none : lines * 0 ≡ 0 = omega arith in absurd (omega arith)
in-lines i lines (suc n) lt =
    let some : 0 < suc n = omega arith in (some, (div-lt_iff_lt-mul some).1 lt)

-- The first lines of the plane of a component.
pub planes-first : (c : Component) (table : List ℕ) (rows : ℕ) (xs ys : List Block)
    → RowsSame rows c.blocks_wide xs ys
    → first_lines c (rows * c.scale) (plane_by c table xs) ≡ first_lines c (rows * c.scale) (plane_by c table ys)
unfolding plane_by plane_of_blocks plane_of
planes-first c table rows xs ys same =
    take-first _ _ 0 (c.scale * c.blocks_wide * (c.scale * c.blocks_high)) (rows * c.scale * (c.blocks_wide * c.scale))
    (λ i low high. sample i (omega arith))
  where
    sample : (i : ℕ) → i < rows * c.scale * (c.blocks_wide * c.scale)
        → plane_sample c.scale (values_in_block_order table)
        (λ row column. coefficients_in_block_order (listed (get_or xs (row * c.blocks_wide + column) zero_block)))
        (i % (c.scale * c.blocks_wide)) (i / (c.scale * c.blocks_wide))
        ≡ plane_sample c.scale (values_in_block_order table)
        (λ row column. coefficients_in_block_order (listed (get_or ys (row * c.blocks_wide + column) zero_block)))
        (i % (c.scale * c.blocks_wide)) (i / (c.scale * c.blocks_wide))
    sample i lt =
        let stride = c.scale * c.blocks_wide in
        let turn : c.blocks_wide * c.scale ≡ stride = mul_comm c.blocks_wide c.scale in
        let place = in-lines i (rows * c.scale) stride
        (subst (λ (n : ℕ). i < rows * c.scale * n) turn lt) in
        let line = in-lines (i / stride) rows c.scale place.1 in
        let across : i % stride < c.blocks_wide * c.scale = let k = mod-lt i place.0 in omega arith in
        let column = (div-lt_iff_lt-mul line.0).1 across in
        ap (λ (b : Block). sample_at c.scale (coefficients_in_block_order (listed b)) (values_in_block_order table)
        (i % stride % c.scale) (i / stride % c.scale))
        (same (i / stride / c.scale * c.blocks_wide + i % stride / c.scale)
        (in-rows rows c.blocks_wide (i / stride / c.scale) (i % stride / c.scale) line.1 column))

-- blocks of which the first are the same
pub rows-same : (rows wide : ℕ) (xs ys : List Block) → take (rows * wide) xs ≡ take (rows * wide) ys
    → RowsSame rows wide xs ys
rows-same rows wide xs ys e i lt =
    sym (get_or-take (rows * wide) xs i zero_block lt) ∙ ap (λ (l : List Block). get_or l i zero_block) e
    ∙ get_or-take (rows * wide) ys i zero_block lt

-- The first lines of a plane are made of its first blocks.
pub lines_of_first_blocks : (c : Component) (table : List ℕ) (rows : ℕ) (xs ys : List Block)
    → take (rows * c.blocks_wide) xs ≡ take (rows * c.blocks_wide) ys
    → first_lines c (rows * c.scale) (plane_by c table xs) ≡ first_lines c (rows * c.scale) (plane_by c table ys)
lines_of_first_blocks c table rows xs ys e = planes-first c table rows xs ys (rows-same rows c.blocks_wide xs ys e)
