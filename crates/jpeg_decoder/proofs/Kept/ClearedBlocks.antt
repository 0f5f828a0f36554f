-- Arrays of which one block becomes zeros: a block that isn't stored is zeros already.
use Rattle.std.proofs.Common.{◌≡◌, ℕ, zero, suc, ◌-◌, ◌<◌, ◌≤◌, List, [], length, get_or, map, set, replicate}
use Rattle.std.proofs.Common.{pos, Some, refl, subst, sym, ap, ◌∙◌, arith}
use Rattle.std.proofs.lemmas.List.{get_or-append_right, get_or_default, length-map, set-get_or, set_past}
use Rattle.jpeg_bits.specs.BlockView.{to_block}
use Rattle.jpeg_bits.specs.Passes.{Block, zero_block}
use Rattle.jpeg_meaning.specs.Scans.{put_block}
use Rattle.jpeg_decoder.specs.Scanning.{arrays_in, blocks_in}
use Rattle.jpeg_decoder.specs.Through.{cleared}
use Rattle.jpeg_decoder.proofs.Kept.BlockArrays.{Held, seen-is, with_block}
use Rattle.jpeg_decoder.proofs.Kept.KeptBlocks.{array-there, arrays-set, spot}
use Rattle.jpeg_decoder.proofs.Scans.BlocksBefore.{zero-blocks}

zeros-at : (n i : ℕ) → get_or (replicate n zero_block) i zero_block ≡ zero_block
zeros-at zero i = refl
zeros-at (suc n) zero = refl
zeros-at (suc n) (suc i) = zeros-at n i

not-stored : (v : Held) (index : ℕ) → length v.blocks.items ≤ index
    → get_or (blocks_in v) index zero_block ≡ zero_block
not-stored v index h =
    let more = v.count - length v.blocks.items in
    ap (λ (l : List Block). get_or l index zero_block) (seen-is v)
    ∙ get_or-append_right (map to_block v.blocks.items) (replicate more zero_block) (length v.blocks.items) index
    zero_block (length-map v.blocks.items to_block) h
    ∙ zeros-at more (index - length v.blocks.items)

-- There is no array in this slot.
pub clear-past : (vs : List Held) (slot index : ℕ) → length vs ≤ slot
    → cleared (Some (spot slot index)) (arrays_in vs) ≡ arrays_in vs
clear-past vs slot index h =
    set_past (arrays_in vs) slot (set (get_or (arrays_in vs) slot []) index zero_block)
    (omega (arith, h, length-map vs blocks_in))

-- The block isn't stored.
pub clear-unstored : (vs : List Held) (slot index : ℕ) (v : Held) → slot < length vs → v ≡ get_or vs slot v
    → length v.blocks.items ≤ index
    → cleared (Some (spot slot index)) (arrays_in vs) ≡ arrays_in vs
clear-unstored vs slot index v h e i =
    let there = array-there vs slot v h e in
    ap (λ (l : List Block). set (arrays_in vs) slot (set l index zero_block)) there
    ∙ ap (λ (b : Block). set (arrays_in vs) slot (set (blocks_in v) index b)) (sym (not-stored v index i))
    ∙ ap (λ (l : List Block). set (arrays_in vs) slot l) (set-get_or (blocks_in v) index zero_block ∙ sym there)
    ∙ set-get_or (arrays_in vs) slot []

zero-is : to_block (replicate 64 (pos 0)) ≡ zero_block
zero-is = ap (λ (l : List Block). get_or l 0 zero_block) (zero-blocks 1)

-- The block is stored, as it was seen, and zeros are put there.
pub clear-stored : (vs : List Held) (slot index : ℕ) (v seen : Held) → slot < length vs → v ≡ get_or vs slot v
    → seen ≡ get_or vs slot seen → index < length seen.blocks.items
    → arrays_in (set vs slot (with_block v index (replicate 64 (pos 0))))
    ≡ cleared (Some (spot slot index)) (arrays_in vs)
clear-stored vs slot index v seen h e is i =
    let same : v ≡ seen = e ∙ get_or_default vs slot v seen h ∙ sym is in
    arrays-set vs slot index v (replicate 64 (pos 0)) h e
    (subst (λ (a : Held). index < length a.blocks.items) (sym same) i)
    ∙ ap (λ (b : Block). put_block (spot slot index) b (arrays_in vs)) zero-is
