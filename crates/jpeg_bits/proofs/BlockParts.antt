-- The parts of a block, of any pass.
use Rattle.std.proofs.Common.{◌≡◌, ℕ, ◌+◌, ◌-◌, ◌^◌, ◌<◌, ◌≤◌, List, length, take, drop, get_or, set, ℤ, pos, ◌*ℤ◌}
use Rattle.std.proofs.Common.{Result, Ok, Err, ap, ◌∙◌, arith, true, false, slice_index_or, ◌+ℤ◌, refl, Bool, Option}
use Rattle.jpeg_bits.specs.Stream.{Stream}
use Rattle.jpeg_bits.specs.Entropy.{Ahead, Takes, same_text, Text, bits_from}
use Rattle.jpeg_bits.specs.Codes.{Table}
use Rattle.jpeg_bits.specs.declared.error.Error.{Error}
use Rattle.jpeg_bits.specs.Readers.{Reads, gives, read_on}
use Rattle.jpeg_bits.specs.Bands.{Band, wrapped, token_from, first_ac, difference, first_dc}
use Rattle.jpeg_bits.specs.Passes.{Pass, Block, or_bit, band_of, with_band, dc_part, band_part, block_from}
use Rattle.jpeg_bits.specs.Zigzag.{zigzag}
use Rattle.jpeg_bits.specs.BlockView.{IsPass, to_block}
use Rattle.jpeg_bits.specs.ZigzagParts.{band_start, band_end, band_in, zigzag_part, KeepsOthers}
use Rattle.jpeg_bits.specs.declared.blocks.tokens.Token.{Token}
use Rattle.jpeg_bits.specs.declared.blocks.tokens.Token.TheVariants.{Value, Sixteen, Rest}
use Rattle.jpeg_bits.proofs.BandLoop.{IsAt, IsLast, IsAt-value, IsAt-sixteen, IsAt-all, IsAt-last}
use Rattle.jpeg_bits.proofs.BandLoop.{IsAt-refused, IsAt-none, IsAt-end, after_front, Leaves}
use Rattle.jpeg_bits.proofs.BandSteps.{Leaves-buffered, pos-of-ne}
use Rattle.jpeg_bits.proofs.ZigzagIndices.{band-length, part-set, part-length, band-is, dc-put, band-put}
use Rattle.std.proofs.lemmas.Bool.{ne_eqb}
use Rattle.jpeg_bits.specs.Reading.{Fault}
use Rattle.jpeg_bits.specs.Refusals.{outcome_of}
use Rattle.jpeg_bits.specs.Pieces.{refined_band_from}
use Rattle.jpeg_bits.specs.Refinement.{corrected}
use Rattle.jpeg_bits.proofs.RefinedBands.{refined-same}

-- the band of a block, as it is read
abbrev pub band_from : Table → Pass → List ℤ → Reads Band
band_from table p first = first_ac table p.al (length (band_in p first)) (band_in p first)

-- the band of a block is written up to a zigzag index
abbrev pub IsAtIndex : Table → Pass → List ℤ → Ahead → Stream → List ℤ → ℕ → Ahead → Stream → Type 0
IsAtIndex table p first a old block at b cur =
    IsAt table p.al (band_from table p first) a old (band_in p block) (at - band_start p) b cur

-- after bits were buffered
module _ (table : Table) (p : Pass) (first : List ℤ) (a b m d : Ahead) (old cur mid new : Stream) (block : List ℤ)
    (at end : ℕ) (is : IsPass p) (e : end ≡ band_end p) (from : band_start p ≤ at) (lt : at < end)
    (before : IsAtIndex table p first a old block at b cur)
    (buffered : Takes (λ (u : Unit {0}). 0) same_text b cur (Ok tt) m mid) where
  here : IsAtIndex table p first a old block at m mid
  here =
      let n = at - band_start p in (
        before.0,
        before.1,
        Leaves-buffered (band_from table p first) (after_front (take n (band_in p block)) (first_ac table p.al before.0
            (drop n (band_in p block)))) a b _ old cur _ before.2 buffered,
      )

  abbrev index : ℕ
  index = at - band_start p

  within : index < length (band_in p block)
  within = let h = band-length p block is in let order = is.order in omega arith

  room : end - at ≡ length (band_in p block) - index
  room = let h = band-length p block is in let order = is.order in omega arith

  abbrev Gives : Result Token Error → Type 0
  Gives r = Takes (λ (t : Token). t) (token_from table (end - at)) m mid r d new

  token : (r : Result Token Error) → Gives r
      → Takes (λ (t : Token). t) (token_from table (length (band_in p block) - index)) m mid r d new
  token r q = rw room at q

  pub index-value : (k : Token) (r : ℕ) (v w : ℤ) → length block ≡ 64 → r < end - at → w ≡ wrapped (v *ℤ pos (2 ^ p.al))
      → Gives (Ok k) → k ≡ Value r v
      → IsAtIndex table p first a old (set block (get_or zigzag (at + r) 0) w) (at + r + 1) d new
  index-value k r v w n few same q here-is =
      let last = is.end in
      let next : at + r + 1 - band_start p ≡ index + r + 1 = omega arith in
      let here' : at + r - band_start p ≡ index + r = omega arith in
      let put : band_in p (set block (get_or zigzag (at + r) 0) w) ≡ set (band_in p block) (index + r) w =
      part-set _ _ _ _ _ n (omega arith) (omega arith) (omega arith)
      ∙ ap (λ (k : ℕ). set (band_in p block) k w) here' in
      rw (next, put) (IsAt-value _ _ (band_from table p first) a _ _ old _ _ _ _ within
      here _ _ _ (omega (arith, room)) same (token (Ok (Value r v)) (rw here-is at q)))

  pub index-sixteen : (k : Token) → Gives (Ok k) → k ≡ Sixteen → IsAtIndex table p first a old block (at + 16) d new
  index-sixteen k q here-is =
      let next : at + 16 - band_start p ≡ index + 16 = omega arith in
      rw next (IsAt-sixteen _ _ (band_from table p first) a _ _ old _ _ _ _ within here
      (token (Ok Sixteen) (rw here-is at q)))

  pub index-all : end - at ≤ 16 → (k : Token) → Gives (Ok k) → k ≡ Sixteen
      → IsAtIndex table p first a old block end d new
  index-all few k q here-is =
      let all = band-length p block is in
      let order = is.order in
      let next : end - band_start p ≡ length (band_in p block) = omega arith in
      rw next (IsAt-all _ _ (band_from table p first) a _ _ old _ _ _ _ within here
      (omega (arith, room)) (token (Ok Sixteen) (rw here-is at q)))

  pub index-last : (k : Token) (run : ℕ) → Gives (Ok k) → IsLast k run
      → Takes (λ (run : ℕ). (band_in p block, run)) (band_from table p first) a old (Ok run) d new
  index-last k run q last =
      IsAt-last _ p.al (band_from table p first) a _ _ old _ _ _ _ within here _ _ last (token (Ok k) q)

  -- the end of the band, wherever it is said that it is
  pub index-end : (to : ℕ) → end ≤ to → Gives (Ok (Rest 0)) → IsAtIndex table p first a old block to d new
  index-end to all q =
      let long = band-length p block in
      let order = is.order in
      IsAt-end _ p.al (band_from table p first) a _ _ old _ _ _ _ within here (to - band_start p)
      (omega arith) (token (Ok (Rest 0)) q)

  pub index-refused : (x : Error) → Gives (Err x) → Takes (λ (run : ℕ). (band_in p block, run))
      (band_from table p first) a old (Err x) d new
  index-refused x q =
      IsAt-refused _ p.al (band_from table p first) a _ d old _ new _ _ within here
      (λ (run : ℕ). (band_in p block, run)) _ (token (Err x) q)

pub index-none : (table : Table) (p : Pass) (first : List ℤ) (a b : Ahead) (old new : Stream)
    (block : List ℤ)
    (at : ℕ) → IsPass p → band_end p ≤ at → IsAtIndex table p first a old block at b new
    → Takes (λ (run : ℕ). (band_in p block, run)) (band_from table p first) a old (Ok 0) b new
index-none table p first a b old new block at is end h =
    IsAt-none table p.al (band_from table p first) a b old new (band_in p block) (at - band_start p)
    (let l = band-length p block is in let order = is.order in omega arith) h

-- ---- the parts of a block, of any pass

-- ---- the band

pub band_none : (p : Pass) (table : Table) (band : List ℤ) (run : ℕ) (t : Text) → length band ≡ 0
    → band_part p table band run t ≡ Ok ((band, run), t)
unfolding band_part
band_none p table band run t e = grind arith

pub band_run : (p : Pass) (table : Table) (band : List ℤ) (run : ℕ) (t : Text) → p.is_first ≡ true → 0 < length band
    → 0 < run
    → band_part p table band run t ≡ Ok ((band, run - 1), t)
unfolding band_part
band_run p table band run t f some h = grind arith

pub band_first : (p : Pass) (table : Table) (band : List ℤ) (run : ℕ) (t : Text) → p.is_first ≡ true → 0 < length band
    → run ≡ 0
    → band_part p table band run t ≡ first_ac table p.al (length band) band t
unfolding band_part
band_first p table band run t f some e = grind arith

pub band_refined : (p : Pass) (table : Table) (band : List ℤ) (run : ℕ) (t : Text) → p.is_first ≡ false
    → 0 < length band → run ≡ 0
    → band_part p table band run t ≡ refined_band_from table p.al band t
unfolding band_part refined_band_from
band_refined p table band run t f some e = grind (arith, refined-same)

abbrev with_run : ℕ → Result (List ℤ × Text) Fault → Result (Band × Text) Fault
with_run run o = read_on (λ (all : List ℤ). gives (all, run)) o

corrected-part : (p : Pass) (table : Table) (band : List ℤ) (run : ℕ) (t : Text) → p.is_first ≡ false → 0 < length band
    → 0 < run
    → band_part p table band run t ≡ with_run (run - 1) (corrected p.al band t)
unfolding band_part
corrected-part p table band run t f some h = grind arith

pub band_corrected : (p : Pass) (table : Table) (band all : List ℤ) (run : ℕ) (t u : Text) → p.is_first ≡ false
    → 0 < length band → 0 < run
    → corrected p.al band t ≡ Ok (all, u) → band_part p table band run t ≡ Ok ((all, run - 1), u)
band_corrected p table band all run t u f some h e = grind (arith, corrected-part)

pub band_refused : (p : Pass) (table : Table) (band : List ℤ) (run : ℕ) (t : Text) (fault : Fault) → p.is_first ≡ false
    → 0 < length band → 0 < run
    → corrected p.al band t ≡ Err fault → band_part p table band run t ≡ Err fault
band_refused p table band run t fault f some h e = grind (arith, corrected-part)

-- a pass has no band where it is of DC alone
pub no_indices : (ss se : ℕ) (block : List ℤ) → ss ≤ se → se ≤ 63 → se ≡ 0
    → length (zigzag_part (ss - 1 + 1) (se + 1) block) ≡ 0
no_indices ss se block order end none = omega (arith, part-length (ss - 1 + 1) (se + 1) block (omega arith))

pub some_indices : (ss se : ℕ) (block : List ℤ) → ss ≤ se → se ≤ 63 → (se ≡ 0 → ⊥)
    → 0 < length (zigzag_part (ss - 1 + 1) (se + 1) block)
some_indices ss se block order end some = omega (arith, pos-of-ne, part-length)

pub ruleset band_steps = (band_none, band_run, band_first, band_refined, band_corrected, band_refused)

pub ruleset band_rules = (no_indices, some_indices, band_steps)

-- ---- DC

pub dc_kept : (p : Pass) (table : Table) (z predictor : ℤ) (t : Text) → 0 < p.ss
    → dc_part p table z predictor t ≡ Ok ((z, predictor), t)
unfolding dc_part
dc_kept p table z predictor t h = rw (ne_eqb p.ss 0 (λ e. omega (arith, h, e)), dc_part) refl

first-part : (p : Pass) (table : Table) (z predictor : ℤ) (t : Text) → p.ss ≡ 0 → p.is_first ≡ true
    → dc_part p table z predictor t ≡ first_dc table p.al predictor t
unfolding dc_part
first-part p table z predictor t h f = rw (h, f, dc_part) refl

abbrev scaled : ℕ → ℤ → ℤ → Reads (ℤ × ℤ)
scaled al predictor d = gives (wrapped (wrapped (predictor +ℤ d) *ℤ pos (2 ^ al)), wrapped (predictor +ℤ d))

first-whole : (table : Table) (al : ℕ) (predictor : ℤ) (t : Text) → first_dc table al predictor t ≡ read_on {B = ℤ
    × ℤ} (λ (d : ℤ). scaled al predictor d) (difference table t)
unfolding first_dc
first-whole table al predictor t = refl

pub dc_first : (p : Pass) (table : Table) (z predictor d next value : ℤ) (t u : Text) → p.ss ≡ 0 → p.is_first ≡ true
    → next ≡ wrapped (predictor +ℤ d) → value ≡ wrapped (next *ℤ pos (2 ^ p.al)) → difference table t ≡ Ok (d, u)
    → dc_part p table z predictor t ≡ Ok ((value, next), u)
dc_first p table z predictor d next value t u h f n v e = grind (arith, first-part, first-whole)

pub dc_first_refused : (p : Pass) (table : Table) (z predictor : ℤ) (t : Text) (fault : Fault) → p.ss ≡ 0
    → p.is_first ≡ true
    → difference table t ≡ Err fault → dc_part p table z predictor t ≡ Err fault
dc_first_refused p table z predictor t fault h f e = grind (arith, first-part, first-whole)

bit-part : (p : Pass) (table : Table) (z predictor : ℤ) (t : Text) → p.ss ≡ 0 → p.is_first ≡ false
    → dc_part p table z predictor t ≡ read_on {B = ℤ × ℤ} (λ (b : ℕ). gives (or_bit p.al z b, predictor))
    (bits_from 1 t)
unfolding dc_part
bit-part p table z predictor t h f = rw (h, f, dc_part) refl

pub dc_refined : (p : Pass) (table : Table) (z predictor value : ℤ) (b : ℕ) (t u : Text) → p.ss ≡ 0 → p.is_first ≡ false
    → value ≡ or_bit p.al z b → bits_from 1 t ≡ Ok (b, u) → dc_part p table z predictor t ≡ Ok ((value, predictor), u)
dc_refined p table z predictor value b t u h f v e = grind (arith, bit-part)

pub dc_refined_refused : (p : Pass) (table : Table) (z predictor : ℤ) (t : Text) (fault : Fault) → p.ss ≡ 0
    → p.is_first ≡ false
    → bits_from 1 t ≡ Err fault → dc_part p table z predictor t ≡ Err fault
dc_refined_refused p table z predictor t fault h f e = grind (arith, bit-part)

pub ruleset dc_rules = (dc_kept, dc_first, dc_first_refused, dc_refined, dc_refined_refused)

-- ---- both

abbrev with_dc : Pass → ℤ × ℤ → List ℤ → Band → Reads (Block × ℤ × ℕ)
with_dc p d acs b = gives (record { dc = d.0; acs = with_band p acs b.0 }, d.1, b.1)

-- what stands after DC
unfoldable pub after_dc : Pass → Table → ℕ → List ℤ → ℤ × ℤ → Reads (Block × ℤ × ℕ)
after_dc p ac run block d t =
    read_on (with_dc p d (to_block block).acs) (band_part p ac (band_of p (to_block block).acs) run t)

block-whole : (p : Pass) (dc ac : Table) (predictor : ℤ) (run : ℕ) (block : List ℤ) (t : Text)
    → block_from p dc ac predictor run (to_block block) t ≡ read_on (after_dc p ac run block)
    (dc_part p dc (slice_index_or block 0 (pos 0)) predictor t)
unfolding block_from after_dc
block-whole p dc ac predictor run block t = refl

pub dc_step : (p : Pass) (dc ac : Table) (predictor z next value : ℤ) (run : ℕ) (block : List ℤ) (t u : Text)
    → z ≡ slice_index_or block 0 (pos 0)
    → dc_part p dc z predictor t ≡ Ok ((value, next), u)
    → block_from p dc ac predictor run (to_block block) t ≡ after_dc p ac run block (value, next) u
dc_step p dc ac predictor z next value run block t u s e = grind (arith, block-whole)

pub dc_refused : (p : Pass) (dc ac : Table) (predictor z : ℤ) (run : ℕ) (block : List ℤ) (t : Text) (f : Fault)
    → z ≡ slice_index_or block 0 (pos 0)
    → dc_part p dc z predictor t ≡ Err f → block_from p dc ac predictor run (to_block block) t ≡ Err f
dc_refused p dc ac predictor z run block t f s e = grind (arith, block-whole)

pub band_step : (p : Pass) (ac : Table) (value next : ℤ) (run more : ℕ) (block part band blk : List ℤ) (t u : Text)
    → part ≡ band_of p (to_block block).acs
    → to_block blk ≡ record { dc = value; acs = with_band p (to_block block).acs band }
    → band_part p ac part run t ≡ Ok ((band, more), u)
    → after_dc p ac run block (value, next) t ≡ Ok ((to_block blk, next, more), u)
unfolding after_dc
band_step p ac value next run more block part band blk t u e b h = grind arith

pub band_fails : (p : Pass) (ac : Table) (value next : ℤ) (run : ℕ) (block part : List ℤ) (t : Text) (f : Fault)
    → part ≡ band_of p (to_block block).acs
    → band_part p ac part run t ≡ Err f → after_dc p ac run block (value, next) t ≡ Err f
unfolding after_dc
band_fails p ac value next run block part t f e h = grind arith

-- the band of a block whose DC is written
pub block_part : (p : Pass) (block : List ℤ) (y : ℤ) → length block ≡ 64
    → band_in p (set block 0 y) ≡ band_of p (to_block block).acs
block_part p block y n = band-is p (set block 0 y) ∙ ap (λ (b : Block). band_of p b.acs) (dc-put block y n)

pub block_put : (p : Pass) (block new : List ℤ) (y : ℤ) → length block ≡ 64 → IsPass p
    → KeepsOthers p (set block 0 y) new
    → to_block new ≡ record { dc = y; acs = with_band p (to_block block).acs (band_in p new) }
block_put p block new y n is others =
    band-put p _ _ is others
    ∙ ap (λ (b : Block). record { dc = b.dc; acs = with_band p b.acs (band_in p new) }) (dc-put block y n)

-- the band is read, after DC
pub block_read : (p : Pass) (ac : Table) (value next : ℤ) (run more : ℕ) (block blk : List ℤ)
    (whole : Reads (Block × ℤ × ℕ)) (a b d : Ahead) (old cur new : Stream) (refusal : Option Error) (done : Bool)
    → length block ≡ 64 → IsPass p → KeepsOthers p (set block 0 value) blk
    → Leaves whole a old (after_dc p ac run block (value, next)) b cur
    → Takes (λ (u : Unit {0}). (band_in p blk, more)) (band_part p ac (band_in p (set block 0 value)) run) b cur
    (outcome_of done refusal) d new
    → Takes (λ (u : Unit {0}). (to_block blk, next, more)) whole a old (outcome_of done refusal) d new
block_read p ac value next run more block blk whole a b d old cur new refusal done n is others h q =
    grind (arith, band_step, block_part, block_put, band_fails)
