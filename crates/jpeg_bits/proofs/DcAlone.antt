-- Blocks of a first pass of which DC alone is kept.
use Rattle.std.proofs.Common.{◌≡◌, ℕ, ℤ, zero, suc, Bool, true, false, List, [], ◌∷◌, length, map}
use Rattle.std.proofs.Common.{pos, set, Result, Ok, Err, refl, sym, ap, ap₂, subst, ◌∙◌, arith}
use Rattle.std.proofs.Common.{length-append, length-take, length-drop, Option}
use Rattle.std.proofs.lemmas.List.{length-map}
use Rattle.std.proofs.lemmas.Bool.{false≢true}
use Rattle.jpeg_bits.specs.Reading.{Fault}
use Rattle.jpeg_bits.specs.Stream.{Stream}
use Rattle.jpeg_bits.specs.Entropy.{Text, Ahead, Takes}
use Rattle.jpeg_bits.specs.Codes.{Table}
use Rattle.jpeg_bits.specs.Readers.{Reads, read_on, gives}
use Rattle.jpeg_bits.specs.Bands.{Band}
use Rattle.jpeg_bits.specs.Passes.{Pass, Block, band_of, band_size, with_band, dc_part, band_part, block_from}
use Rattle.jpeg_bits.specs.Refusals.{outcome_of}
use Rattle.jpeg_bits.specs.BlockView.{to_block, IsPass}
use Rattle.jpeg_bits.specs.Skips.{run_of, run_part, dc_alone, kept, kept_turn}
use Rattle.jpeg_bits.specs.declared.error.Error.{Error}
use Rattle.jpeg_bits.proofs.BandLoop.{Leaves}
use Rattle.jpeg_bits.proofs.WideTokens.{first-measured, measured, of_length}
use Rattle.jpeg_bits.proofs.ZigzagIndices.{band-is, band-length, dc-put}

-- what is made of what a call reads
pub Takes-map : {X Y Z : Type 0} (f : Y → Z) (view : X → Y) (read : Reads Y) (a b : Ahead) (old new : Stream)
    (r : Result X Error) → Takes view read a old r b new
    → Takes (λ (x : X). f (view x)) (λ (t : Text). read_on (λ (y : Y). gives (f y)) (read t)) a old r b new
Takes-map {X} {Y} {Z} f view read a b old new (Ok x) h = grind arith
Takes-map {X} {Y} {Z} f view read a b old new (Err e) h = grind arith

abbrev zeros_of : List ℤ → List ℤ
zeros_of xs = map (λ (x : ℤ). pos 0) xs

same-zeros : (xs ys : List ℤ) → length xs ≡ length ys → zeros_of xs ≡ zeros_of ys
same-zeros [] [] h = refl
same-zeros (x ∷ xs) (y ∷ ys) h = ap (λ (l : List ℤ). pos 0 ∷ l) (same-zeros xs ys (omega arith))
same-zeros [] (y ∷ ys) h = absurd (omega arith)
same-zeros (x ∷ xs) [] h = absurd (omega arith)

band-zeros : (p : Pass) (acs band : List ℤ) → length band ≡ length (band_of p acs)
    → zeros_of (with_band p acs band) ≡ zeros_of acs
band-zeros p acs band h = grind (arith, same-zeros, length-append, length-take, length-drop)

-- the band of a first pass, whose coefficients are not kept
band-measured : (p : Pass) (ac : Table) (band : List ℤ) (run : ℕ) (t : Text) → p.is_first ≡ true
    → read_on measured (band_part p ac band run t)
    ≡ read_on (of_length (length band)) (run_part ac (length band) run t)
unfolding band_part run_of
band-measured p ac [] run t f = refl
band-measured p ac (x ∷ band) zero t f = rw (f, band_part) (first-measured ac p.al (length (x ∷ band)) (x ∷ band) t)
band-measured p ac (x ∷ band) (suc run) t f = rw (f, band_part) refl

-- what stands after DC, of a block with these AC coefficients
abbrev pub dc_turn : Pass → Table → ℕ → List ℤ → ℤ × ℤ → Reads (Block × ℤ × ℕ)
dc_turn p ac run acs d t = read_on (λ (more : ℕ). gives (record { dc = d.0; acs = zeros_of acs }, d.1, more))
    (run_part ac (length (band_of p acs)) run t)

turn-measured : (p : Pass) (acs : List ℤ) (d : ℤ × ℤ) (n : ℕ) (o : Result (Band × Text) Fault)
    (q : Result (ℕ × Text) Fault) → n ≡ length (band_of p acs)
    → read_on measured o ≡ read_on (of_length n) q
    → read_on (kept_turn false) (read_on {B = Block × ℤ × ℕ} (λ (b : Band).
    gives (record { dc = d.0; acs = with_band p acs b.0 }, d.1, b.1)) o)
    ≡ read_on (λ (more : ℕ). gives (record { dc = d.0; acs = zeros_of acs }, d.1, more)) q
turn-measured p acs d n o q e h = grind (arith, band-zeros, false≢true)

turn-alone : (p : Pass) (ac : Table) (run : ℕ) (acs : List ℤ) (d : ℤ × ℤ) (t : Text) → p.is_first ≡ true
    → read_on (kept_turn false) (read_on {B = Block × ℤ × ℕ} (λ (b : Band).
    gives (record { dc = d.0; acs = with_band p acs b.0 }, d.1, b.1)) (band_part p ac (band_of p acs) run t))
    ≡ dc_turn p ac run acs d t
turn-alone p ac run acs d t f =
    turn-measured p _ _ _ _ _ refl (band-measured _ _ _ _ _ f)

-- of a block in a first pass DC alone is read by DC alone, and by how many the others are
pub block-alone : (p : Pass) (dc ac : Table) (predictor : ℤ) (run : ℕ) (b : Block) (t : Text) → p.is_first ≡ true
    → read_on (kept_turn false) (block_from p dc ac predictor run b t)
    ≡ read_on (dc_turn p ac run b.acs) (dc_part p dc b.dc predictor t)
unfolding block_from
block-alone p dc ac predictor run b t f = go (dc_part p dc b.dc predictor t)
  where
    go : (o : Result ((ℤ × ℤ) × Text) Fault)
        → read_on (kept_turn false) (read_on (λ (d : ℤ × ℤ) (u : Text). read_on {B = Block × ℤ × ℕ} (λ (x : Band).
        gives (record { dc = d.0; acs = with_band p b.acs x.0 }, d.1, x.1)) (band_part p ac (band_of p b.acs) run u)) o)
        ≡ read_on (dc_turn p ac run b.acs) o
    go (Err e) = refl
    go (Ok (d, u)) = turn-alone _ _ _ _ _ _ f

-- ---- the call

module _ (p : Pass) (dc ac : Table) (predictor : ℤ) (run : ℕ) (block : List ℤ) (f : p.is_first ≡ true)
    (n : length block ≡ 64) where
  abbrev whole : Reads (Block × ℤ × ℕ)
  whole t = read_on (kept_turn false) (block_from p dc ac predictor run (to_block block) t)

  pub dc-read : (value next : ℤ) (a b : Ahead) (old new : Stream)
      → Takes (λ (u : Unit {0}). (value, next)) (dc_part p dc (to_block block).dc predictor) a old (Ok tt) b new
      → Leaves whole a old (dc_turn p ac run (to_block block).acs (value, next)) b new
  dc-read value next a b old new h = grind (arith, block-alone)

  pub dc-alone-read : (value next : ℤ) (more : ℕ) (a b d : Ahead) (old cur new : Stream) (refusal : Option Error)
      (done : Bool) → IsPass p → Leaves whole a old (dc_turn p ac run (to_block block).acs (value, next)) b cur
      → Takes (λ (u : Unit {0}). more) (run_part ac (band_size p) run) b cur (outcome_of done refusal) d new
      → Takes (λ (u : Unit {0}). (kept false (to_block (set block 0 value)), next, more)) whole a old
      (outcome_of done refusal) d new
  dc-alone-read value next more a b d old cur new refusal done is left h =
      go (outcome_of done refusal) (subst (λ (k : ℕ). Takes (λ (u : Unit {0}). more) (run_part ac k run) b cur
      (outcome_of done refusal) d new) (sym size) h)
    where
      acs : List ℤ
      acs = (to_block block).acs

      size : length (band_of p acs) ≡ band_size p
      size = ap (λ (l : List ℤ). length l) (sym (band-is p block)) ∙ band-length p block is

      put : kept false (to_block (set block 0 value)) ≡ record { dc = value; acs = zeros_of acs }
      put = ap (kept false) (dc-put block value n)

      go : (r : Result (Unit {0}) Error)
          → Takes (λ (u : Unit {0}). more) (run_part ac (length (band_of p acs)) run) b cur r d new
          → Takes (λ (u : Unit {0}). (kept false (to_block (set block 0 value)), next, more)) whole a old r d new
      go (Ok u) q = grind (arith, put)
      go (Err e) q =
          grind arith

-- a block of the same DC, and of as many others, is read alike
pub blocks-alike : (p : Pass) (dc ac : Table) (predictor : ℤ) (run : ℕ) (b c : Block) (t : Text) → p.is_first ≡ true
    → dc_alone b ≡ dc_alone c
    → read_on (kept_turn false) (block_from p dc ac predictor run b t)
    ≡ read_on (kept_turn false) (block_from p dc ac predictor run c t)
blocks-alike p dc ac predictor run b c t f e =
    block-alone _ _ _ _ _ _ _ f
    ∙ go (ap (λ (x : Block). x.dc) e) (ap (λ (x : Block). x.acs) e)
    ∙ sym (block-alone _ _ _ _ _ _ _ f)
  where
    long : (xs : List ℤ) → length (zeros_of xs) ≡ length xs
    long xs = grind (arith, length-map)

    same-size : zeros_of b.acs ≡ zeros_of c.acs → length (band_of p b.acs) ≡ length (band_of p c.acs)
    same-size h = let e = ap (λ (l : List ℤ). length l) h in grind (arith, long, length-take, length-drop)

    go : b.dc ≡ c.dc → zeros_of b.acs ≡ zeros_of c.acs
        → read_on (dc_turn p ac run b.acs) (dc_part p dc b.dc predictor t)
        ≡ read_on (dc_turn p ac run c.acs) (dc_part p dc c.dc predictor t)
    go d h =
        ap (λ (z : ℤ). read_on (dc_turn p ac run b.acs) (dc_part p dc z predictor t)) d
        ∙ ap₂ (λ (k : ℕ) (l : List ℤ). read_on (λ (d : ℤ × ℤ) (u : Text). read_on {B = Block × ℤ × ℕ} (λ (more : ℕ).
        gives (record { dc = d.0; acs = l }, d.1, more)) (run_part ac k run u)) (dc_part p dc c.dc predictor t))
        (same-size h) h

abbrev pub keep : Bool → Block × ℤ × ℕ → Block × ℤ × ℕ
keep keeps r = (kept keeps r.0, r.1, r.2)
