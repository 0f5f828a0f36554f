-- Steps of the loops over blocks that are coded one after the other.
use Rattle.std.proofs.Common.{◌≡◌, ℕ, suc, ◌+◌, ◌-◌, ◌<◌, ◌≤◌, List, length, get_or, set, map, ℤ, pos}
use Rattle.std.proofs.Common.{Ok, Err, true, false, refl, sym, ap, ap₂, ◌∙◌, arith, Bool, Option}
use Rattle.std.proofs.lemmas.List.{get_or-map, length-set, map-set, set-get_or}
use Rattle.std.specs.List.{range_with_len}
use Rattle.jpeg_bits.specs.Stream.{Stream}
use Rattle.jpeg_bits.specs.Refusals.{outcome_of, kept_refusal}
use Rattle.jpeg_bits.specs.Entropy.{Text, Ahead, Takes}
use Rattle.jpeg_bits.specs.Codes.{Table}
use Rattle.jpeg_bits.specs.declared.error.Error.{Error}
use Rattle.jpeg_bits.specs.Readers.{Reads, read_on}
use Rattle.jpeg_bits.specs.Passes.{Pass, Block, band_part, block_from, zero_block}
use Rattle.jpeg_bits.specs.BlockLines.{Line, blocks_at}
use Rattle.jpeg_bits.specs.BlockView.{IsPass, dc_in, to_block}
use Rattle.jpeg_bits.specs.ZigzagParts.{band_in, KeepsOthers}
use Rattle.jpeg_bits.proofs.BandLoop.{Leaves}
use Rattle.jpeg_bits.proofs.BandSteps.{Leaves-end, Leaves-ok}
use Rattle.jpeg_bits.proofs.BlockParts.{block_read, dc_kept, dc_step}
use Rattle.jpeg_bits.proofs.WholeBlocks.{refused_after}

-- a block of a pass after DC, whose band is read
own-band : (p : Pass) (dc ac : Table) (z : ℤ) (run more : ℕ) (block blk : List ℤ) (b d : Ahead) (cur new : Stream)
    (refusal : Option Error) (done : Bool) → 0 < p.ss → IsPass p → length block ≡ 64 → KeepsOthers p block blk
    → Takes (λ (u : Unit {0}). (band_in p blk, more)) (band_part p ac (band_in p block) run) b cur
    (outcome_of done refusal) d new
    → Takes (λ (u : Unit {0}). (to_block blk, z, more)) (block_from p dc ac z run (to_block block)) b cur
    (outcome_of done refusal) d new
own-band p dc ac z run more block blk b d cur new refusal done some is n others band =
    let same = set-get_or block 0 (pos 0) in
    block_read p ac (dc_in block) z run more block blk (block_from p dc ac z run (to_block block)) b b d cur cur new
    refusal done n is (rw same others) (
      refl,
      λ known. (
        known,
        dc_step p dc ac z (dc_in block) z (dc_in block) run block _ _ refl
            (dc_kept p dc (dc_in block) z _ some),
      ),
    )
    (rw same band)

-- what is left to read of some blocks, from an index on
abbrev pub left_at : Pass → Table → Table → ℤ → ℕ → List (List ℤ) → ℕ → Reads Line
left_at p dc ac z i bs run = blocks_at p dc ac (range_with_len i (length bs - i)) (map to_block bs, z, run)

abbrev after_block : Pass → Table → Table → ℕ → List Block → ℕ → Block × ℤ × ℕ → Reads Line
after_block p dc ac i bs n r = blocks_at p dc ac (range_with_len (i + 1) n) (set bs i r.0, r.1, r.2)

block-first : (p : Pass) (dc ac : Table) (z : ℤ) (i n : ℕ) (bs : List Block) (run : ℕ) (t : Text)
    → blocks_at p dc ac (range_with_len i (suc n)) (bs, z, run) t
    ≡ read_on (after_block p dc ac i bs n) (block_from p dc ac z run (get_or bs i zero_block) t)
unfolding blocks_at
block-first p dc ac z i n bs run t = refl

block-next : (p : Pass) (dc ac : Table) (z : ℤ) (i : ℕ) (bs : List (List ℤ)) (run : ℕ) (e : List ℤ) (t : Text)
    → i < length bs
    → left_at p dc ac z i bs run t
    ≡ read_on (after_block p dc ac i (map to_block bs) (length bs - (i + 1)))
    (block_from p dc ac z run (to_block (get_or bs i e)) t)
block-next p dc ac z i bs run e t h =
    let n : length bs - i ≡ suc (length bs - (i + 1)) = omega (arith, h) in
    ap (λ (k : ℕ). blocks_at p dc ac (range_with_len i k) (map to_block bs, z, run) t) n
    ∙ block-first p dc ac z i (length bs - (i + 1)) (map to_block bs) run t
    ∙ ap (λ (b : Block). read_on (after_block p dc ac i (map to_block bs) (length bs - (i + 1)))
    (block_from p dc ac z run b t)) (get_or-map to_block bs i e zero_block h)

block-put : (p : Pass) (dc ac : Table) (z : ℤ) (i : ℕ) (bs : List (List ℤ)) (run : ℕ) (y : List ℤ) (t : Text)
    → after_block p dc ac i (map to_block bs) (length bs - (i + 1)) (to_block y, z, run) t
    ≡ left_at p dc ac z (i + 1) (set bs i y) run t
block-put p dc ac z i bs run y t =
    ap₂ (λ (n : ℕ) (l : List Block). blocks_at p dc ac (range_with_len (i + 1) (n - (i + 1))) (l, z, run) t)
    (sym (length-set bs i y)) (sym (map-set to_block bs i y))

module _ (p : Pass) (dc ac : Table) (whole : ℤ → Reads Line) (i : ℕ) (bs : List (List ℤ)) (run more : ℕ)
    (e y : List ℤ) (a b d : Ahead) (old cur new : Stream) (refusal : Option Error) (some : 0 < p.ss) (is : IsPass p)
    (within : i < length bs) (long : length (get_or bs i e) ≡ 64) (others : KeepsOthers p (get_or bs i e) y)
    (left : (z : ℤ) → Leaves (whole z) a old (left_at p dc ac z i bs run) b cur) where
  abbrev Gives : Bool → Type 0
  Gives done = Takes (λ (u : Unit {0}). (band_in p y, more)) (band_part p ac (band_in p (get_or bs i e)) run) b cur
      (outcome_of done refusal) d new

  pub line-next : Gives true → (z : ℤ) → Leaves (whole z) a old (left_at p dc ac z (i + 1) (set bs i y) more) d new
  line-next q z =
      Leaves-ok (λ (u : Unit {0}). (to_block y, z, more)) (whole z) (left_at p dc ac z i bs run)
      (left_at p dc ac z (i + 1) (set bs i y) more) (block_from p dc ac z run (to_block (get_or bs i e)))
      a b d old cur new tt
      (λ t u h. block-next p dc ac z i bs run e t within
      ∙ ap (read_on (after_block p dc ac i (map to_block bs) (length bs - (i + 1)))) h
      ∙ block-put p dc ac z i bs more y u) (left z)
      (own-band p dc ac z run more (get_or bs i e) y b d cur new refusal true some is long others q)

  pub line-refused : Gives false → {X : Type 0} (view : X → Line) (z : ℤ)
      → Takes view (whole z) a old (Err (kept_refusal refusal)) d new
  line-refused q view z =
      refused_after view (λ (u : Unit {0}). (to_block y, z, more)) (whole z) (left_at p dc ac z i bs run)
      (block_from p dc ac z run (to_block (get_or bs i e))) a b d old cur new (kept_refusal refusal)
      (λ t f h. block-next p dc ac z i bs run e t within
      ∙ ap (read_on (after_block p dc ac i (map to_block bs) (length bs - (i + 1)))) h) (left z)
      (own-band p dc ac z run more (get_or bs i e) y b d cur new refusal false some is long others q)

-- all blocks are read
pub line-end : (p : Pass) (dc ac : Table) (z : ℤ) (whole : Reads Line) (i : ℕ) (bs : List (List ℤ)) (run : ℕ)
    (a b : Ahead) (old new : Stream) → length bs ≤ i → Leaves whole a old (left_at p dc ac z i bs run) b new
    → Takes (λ (u : Unit {0}). (map to_block bs, z, run)) whole a old (Ok tt) b new
unfolding blocks_at
line-end p dc ac z whole i bs run a b old new h left =
    let none : length bs - i ≡ 0 = omega (arith, h) in
    Leaves-end (λ (u : Unit {0}). (map to_block bs, z, run)) whole (left_at p dc ac z i bs run) a b old new tt
    (λ t. ap (λ (n : ℕ). blocks_at p dc ac (range_with_len i n) (map to_block bs, z, run) t) none) left
