-- The blocks of a row of MCUs, as they are cleared and as their samples are appended.
use Rattle.std.proofs.Common.{rules, ◌≡◌, ℕ, ◌+◌, ◌*◌, ◌<◌, ◌≤◌, List, [], ◌++◌}
use Rattle.std.proofs.Common.{refl, map, length, get_or, set, replicate, pos, sym, ap, ◌∙◌, arith}
use Rattle.std.proofs.Common.{take, append_assoc, append-nil}
use Rattle.std.proofs.lemmas.Grind.{common_steps}
use Rattle.std.proofs.lemmas.List.{length-map, map-set, length-replicate, get_or-map, take_all}
use Rattle.std.proofs.lemmas.List.Folds.{concat-append}
use Rattle.std.specs.List.{concat}
use Rattle.std.specs.Prelude.{All}
use Rattle.std.specs.declared.alloc.Global.{Global}
use Rattle.std.specs.declared.vec.Vec.{Vec}
use Rattle.jpeg_bits.specs.BlockView.{to_block}
use Rattle.jpeg_meaning.specs.ScanSegments.{Coding}
use Rattle.jpeg_decoder.specs.Steps.{coding_in}
use Rattle.jpeg_decoder.specs.Scanning.{arrays_in, blocks_in, sizes_of, down_in, wide_in, IsFull}
use Rattle.jpeg_bits.specs.Passes.{Block, zero_block}
use Rattle.jpeg_decoder.specs.Strips.{plane_lists, row_sizes, zeros_of, samples_of, strips_of}
use Rattle.jpeg_decoder.specs.Strips.{tables_of, with_strips}
use Rattle.jpeg_bits.specs.Zigzag.{values_in_block_order}
use Rattle.jpeg_decoder.specs.declared.scan.coded.Coded.{Coded}
use Rattle.jpeg_decoder.proofs.Kept.BlockArrays.{Held, cleared, full-count, full-there, sizes-long, sizes-put, size-at}
use Rattle.jpeg_meaning.proofs.InPlace.{patched, patched-next, patched-at, patched-all}
use Rattle.jpeg_meaning.proofs.InPlace.{patched-length}
use Rattle.jpeg_decoder.proofs.Scans.PlacedCodings.{coding-at}
use Rattle.jpeg_decoder.proofs.Strips.StripRows.{strip-of, strips-at, strips-length}
use Rattle.jpeg_decoder.proofs.Strips.StripRows.{strips_of-length}

abbrev pub Plane : Type 0
Plane = Vec ℕ Global

-- ---- rows that are cleared

pub cleared-next : (old items : List Held) (i : ℕ) (v w : Held) → i < length items → sizes_of items ≡ sizes_of old
    → arrays_in items ≡ patched i (zeros_of (sizes_of old)) (arrays_in old) → v ≡ get_or items i v → w.count ≡ v.count
    → w.blocks.items ≡ replicate (length v.blocks.items) (replicate 64 (pos 0))
    → (sizes_of (set items i w) ≡ sizes_of old) × (arrays_in (set items i w)
    ≡ patched (i + 1) (zeros_of (sizes_of old)) (arrays_in old))
cleared-next old items i v w h sizes arrays is count new =
    let size = size-at items i v (omega (arith, sizes-long items)) is in
    let zeros = cleared v w count new in
    let put = sizes-put items i v w
    (ap (λ (l : List Block). length l) zeros ∙ length-replicate (length (blocks_in v)) zero_block) is in
    let next = patched-next (zeros_of (sizes_of old)) (arrays_in old) i (blocks_in w) []
    (grind (arith, common_steps, length-map, sizes-long)) (grind (arith, common_steps, length-map, sizes-long))
    (grind (arith, common_steps, zeros, get_or-map, sizes-long)) in
    (put ∙ sizes, grind (arith, common_steps, map-set))

-- ---- the tables of the components

pub tables-long : (cs : List Coded) (tables : List (List ℕ)) → tables ≡ tables_of (map coding_in cs) → length tables ≡ length cs
tables-long cs tables e = ap (λ (t : List (List ℕ)). length t) e ∙ length-map (map coding_in cs) _ ∙ length-map cs coding_in

pub table-here : (cs : List Coded) (tables : List (List ℕ)) (slot : ℕ) (c : Coded) (t : List ℕ)
    → tables ≡ tables_of (map coding_in cs) → slot < length cs → c ≡ get_or cs slot c → t ≡ get_or tables slot t
    → t ≡ values_in_block_order c.quantization.now
table-here cs tables slot c t e h is at =
    at ∙ ap (λ (l : List (List ℕ)). get_or l slot t) e
    ∙ get_or-map (λ (d : Coding). values_in_block_order d.quantization) (map coding_in cs) slot (coding_in c) t
    (omega (arith, length-map cs coding_in))
    ∙ ap (λ (d : Coding). values_in_block_order d.quantization) (coding-at cs (map coding_in cs) slot c refl h is)

-- ---- samples that are appended

module _ (cs : List Coded) (old : List Held) (sizes : sizes_of old ≡ row_sizes (map coding_in cs)) where
  abbrev codings : List Coding
  codings = map coding_in cs

  abbrev strips : List (List ℕ)
  strips = strips_of codings (arrays_in old)

  old-long : length old ≡ length cs
  old-long = grind (arith, common_steps, sizes-long, length-map)

  arrays-long : length (arrays_in old) ≡ length codings
  arrays-long = length-map old blocks_in ∙ old-long ∙ sym (length-map cs coding_in)

  strips-long : length strips ≡ length cs
  strips-long = strips_of-length codings (arrays_in old) arrays-long ∙ length-map cs coding_in

  pub row-full : (slot : ℕ) (v : Held) → All IsFull old → slot < length cs → v ≡ get_or old slot v → IsFull v
  row-full slot v full h is = full-there old slot v full (omega (arith, h, old-long)) is

  -- the next component's blocks are those of a row of MCUs
  pub row-size : (slot : ℕ) (c : Coded) (v : Held) → slot < length cs → c ≡ get_or cs slot c
      → v ≡ get_or old slot v → IsFull v → length v.blocks.items ≡ down_in (coding_in c) * wide_in (coding_in c)
  row-size slot c v h is kept full =
      let inside : slot < length codings = omega (arith, length-map cs coding_in) in
      full-count v full
      ∙ sym (size-at old slot v (omega (arith, sizes-long old, old-long)) kept)
      ∙ ap (λ (l : List ℕ). get_or l slot 0) sizes
      ∙ get_or-map (λ (d : Coding). down_in d * wide_in d) codings slot (coding_in c) 0 inside
      ∙ ap (λ (d : Coding). down_in d * wide_in d) (coding-at cs codings slot c refl h is)

  -- and these are its samples
  strip-here : (slot : ℕ) (c : Coded) (v : Held) → slot < length cs → c ≡ get_or cs slot c
      → v ≡ get_or old slot v
      → get_or strips slot [] ≡ samples_of (down_in (coding_in c)) (coding_in c) (blocks_in v)
  strip-here slot c v h is kept =
      let strip = strip-of codings (arrays_in old) slot (coding_in c) arrays-long
      (omega (arith, length-map cs coding_in)) in
      grind (arith, common_steps, get_or-map, old-long)

  -- the strips so far, in one room
  pub room-next : (slot : ℕ) (c : Coded) (v : Held) (start samples new : List ℕ) → slot < length cs
      → c ≡ get_or cs slot c → v ≡ get_or old slot v → samples ≡ start ++ concat (take slot strips)
      → new ≡ samples ++ samples_of (down_in (coding_in c)) (coding_in c) (map to_block v.blocks.items) → IsFull v
      → new ≡ start ++ concat (take (slot + 1) strips)
  room-next slot c v start samples new h is kept inv more full =
      let here = strip-here slot c v h is kept in
      grind (arith, common_steps, here, concat-append, append_assoc, append-nil)

  pub room-all : (slot : ℕ) (start samples : List ℕ) → length cs ≤ slot
      → samples ≡ start ++ concat (take slot strips) → samples ≡ start ++ concat strips
  room-all slot start samples h inv = grind (arith, common_steps, take_all, strips-long)

-- of the first components
module _ (cs : List Coded) (old : List Held) (start : List Plane) (sizes : sizes_of old
    ≡ row_sizes (map coding_in cs)) (long : length start ≤ length cs) where
  abbrev all : List (List ℕ)
  all = with_strips (map coding_in cs) (arrays_in old) (plane_lists start)

  lists-long : length (plane_lists start) ≡ length start
  lists-long = length-map start (λ (v : Plane). v.items)

  start-long : length (plane_lists start) ≤ length (map coding_in cs)
  start-long = omega (arith, long, lists-long, length-map cs coding_in)

  all-long : length all ≡ length (plane_lists start)
  all-long = grind (arith, common_steps, strips-length, arrays-long, start-long)

  pub planes-long : (planes : List Plane) (slot : ℕ) → plane_lists planes
      ≡ patched slot all (plane_lists start) → length planes ≡ length start
  planes-long planes slot e = grind (arith, common_steps, length-map, patched-length, all-long)

  pub planes-next : (planes : List Plane) (slot : ℕ) (c : Coded) (v : Held) (p q : Plane)
      → slot < length start → c ≡ get_or cs slot c → v ≡ get_or old slot v → plane_lists planes
      ≡ patched slot all (plane_lists start) → p ≡ get_or planes slot p → q.items ≡ p.items
      ++ samples_of (down_in (coding_in c)) (coding_in c) (map to_block v.blocks.items) → IsFull v
      → plane_lists (set planes slot q) ≡ patched (slot + 1) all (plane_lists start)
  planes-next planes slot c v p q h is kept inv at new full =
      let inside : slot < length (plane_lists start) = omega (arith, h, lists-long) in
      let next = patched-next all (plane_lists start) slot q.items [] all-long inside in
      let strip = strips-at (map coding_in cs) (arrays_in old) (plane_lists start) slot (arrays-long cs old sizes)
      start-long inside in
      let here = strip-here cs old sizes slot c v (omega (arith, h, long)) is kept in
      let before = patched-at all (plane_lists start) slot [] all-long in
      let count = planes-long planes slot inv in
      grind (arith, common_steps, map-set, get_or-map)

  pub planes-all : (planes : List Plane) (slot : ℕ) → length start ≤ slot → plane_lists planes
      ≡ patched slot all (plane_lists start) → plane_lists planes ≡ all
  planes-all planes slot h e = search (rules, arith, patched-all, all-long, lists-long)
