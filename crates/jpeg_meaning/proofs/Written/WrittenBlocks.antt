-- The blocks of an interval that were written are read again.
use Rattle.std.proofs.Common.{rules, ◌≡◌, ℕ, zero, suc, ◌*◌, ◌^◌, ◌<◌, ◌≤◌, Bool, true, false, List, [], ◌∷◌, ◌++◌, map}
use Rattle.std.proofs.Common.{length, get_or, set, ℤ, pos, negsuc, ◌+ℤ◌, ◌-ℤ◌, unsigned_abs, nat_le, refl, sym, ap, ◌∙◌}
use Rattle.std.proofs.Common.{append_assoc, append-nil, arith, pow_pos, le_refl, slice_index, mul_assoc, if◌then◌else◌}
use Rattle.std.proofs.lemmas.Grind.{common_steps}
use Rattle.std.proofs.lemmas.Int.{ints, int_wrap_fits}
use Rattle.std.proofs.lemmas.Bool.{eq-eqb, le-leb, ne_eqb}
use Rattle.std.specs.List.{AllByRecursion}
use Rattle.std.proofs.lemmas.Bool.Decides.{nat_tests}
use Rattle.jpeg_bits.specs.Codes.{Table}
use Rattle.jpeg_bits.specs.Readers.{refused, signed_from, ReadsJust}
use Rattle.jpeg_bits.proofs.Fast.{no-number}
use Rattle.std.proofs.lemmas.List.{length-replicate}
use Rattle.std.proofs.Math.Nat.{add-mul}
use Rattle.jpeg_bits.specs.Bands.{wrapped, first_dc, difference}
use Rattle.jpeg_bits.specs.Refinement.{bit_of}
use Rattle.jpeg_bits.specs.Passes.{Pass, Via, Block, band_of, with_band, or_bit, dc_part, band_part, block_from}
use Rattle.jpeg_bits.specs.Passes.{blocks_of}
use Rattle.jpeg_bits.specs.Written.{bit, low_bits, code_bits, IsCategory}
use Rattle.jpeg_meaning.specs.WrittenData.{WritesDifference, bits_for, no_numbers, low_bit, WritesDc, WritesAc}
use Rattle.jpeg_meaning.specs.WrittenData.{WritesBlocks}
use Rattle.jpeg_meaning.specs.WrittenData.WritesDc.{other_band, whole, one_bit}
use Rattle.jpeg_meaning.specs.WrittenData.WritesAc.{no_band, first, first_run, again, again_run}
use Rattle.jpeg_meaning.specs.WrittenData.WritesBlocks.{done, block}
use Rattle.jpeg_bits.proofs.WrittenBits.{takes-gives, takes-bind, takes-bit, takes-map, takes-as}
use Rattle.jpeg_bits.proofs.Tables.{IsGood, takes-symbol}
use Rattle.jpeg_meaning.proofs.Written.SentBlocks.{scaled, kept, InRange, InDcRange, dc_kept, Suits, after_pass, reads_of}
use Rattle.jpeg_meaning.proofs.Written.SentBlocks.{numbers_of}
use Rattle.jpeg_lossless.proofs.ReadBack.{takes-signed}
use Rattle.jpeg_meaning.proofs.Written.WrittenBands.{takes-band, map-no_numbers, abs-zero}
use Rattle.jpeg_meaning.proofs.Written.WrittenRefinements.{even-bit, even-bit_neg, times-two_power, spread, takes-corrected}
use Rattle.jpeg_meaning.proofs.Written.WrittenRefinements.{takes-refinement}

-- ---- DC

takes-category : (d : ℤ) (s : ℕ) → IsCategory d s → ReadsJust (signed_from s) (bits_for d s) d
unfolding low_bits
takes-category d zero cat = search (rules, abs-zero, no-number)
takes-category d (suc t) cat = search (rules, nat_tests, takes-signed d (suc t) cat)

takes-listed : (k s : ℕ) (bits : List Bool) (d : ℤ) → k ≡ s → s ≤ 11 → ReadsJust (signed_from s) bits d
    → ReadsJust (if nat_le k 11 then signed_from k else refused) bits d
takes-listed k s bits d e h w = search (rules, nat_le, le-leb)

pub takes-difference : (table : Table) (d : ℤ) (bits : List Bool) → IsGood table → unsigned_abs d < 2 ^ 11
    → WritesDifference table d bits → ReadsJust (difference table) bits d
unfolding difference
takes-difference table d bits good small w =
    let i = w.coded.index in
    let symbol = slice_index table.symbols i in
    let body = takes-listed symbol w.s (bits_for d w.s) d w.coded.is_for (w.category.is_least 11 small)
    (takes-category d w.s w.category) in
    takes-as _ (code_bits table i ++ bits_for d w.s) bits d d
    (ap (λ (b : List Bool). b ++ bits_for d w.s) w.coded.has_bits ∙ w.has_bits) refl
    (search (rules, takes-bind, takes-symbol))

pub difference-range : (u v : ℤ) → InDcRange u → InDcRange v → unsigned_abs (u -ℤ v) < 2 ^ 11
difference-range u v h k = let a = h.low in let b = h.high in let c = k.low in let d = k.high in omega (arith, ints)

pub takes-first_dc : (table : Table) (al : ℕ) (u predictor : ℤ) (bits : List Bool) → IsGood table → InDcRange u
    → InDcRange predictor → wrapped (scaled al u) ≡ scaled al u
    → WritesDifference table (u -ℤ predictor) bits → ReadsJust (first_dc table al predictor) bits (scaled al u, u)
unfolding first_dc
takes-first_dc table al u predictor bits good range before fits w =
    let sum : predictor +ℤ (u -ℤ predictor) ≡ u = omega (arith, ints) in
    let dc : wrapped (predictor +ℤ (u -ℤ predictor)) ≡ u = ap wrapped sum ∙ (search (rules, int_wrap_fits, ints)) in
    grind (arith, takes-difference table (u -ℤ predictor) bits good (difference-range u predictor range before) w)

or-even : (al b : ℕ) (z w : ℤ) → bit_of al z ≡ 0 → z +ℤ pos (b * 2 ^ al) ≡ w → or_bit al z b ≡ w
or-even al b z w bit e = rw (eq-eqb (bit_of al z) 0 bit, or_bit) e

pub dc-refined : (al : ℕ) (u : ℤ) → or_bit al (dc_kept al u) (low_bit u) ≡ scaled al u
dc-refined al (pos n) = search (rules, or-even, even-bit, times-two_power, spread)
dc-refined al (negsuc n) =
    grind (arith, common_steps, pow_pos, even-bit_neg, times-two_power, mul_assoc, add-mul)

-- ---- blocks

low-small : (u : ℤ) → low_bit u < 2
low-small (pos n) = omega arith
low-small (negsuc n) = omega arith

pub takes-dc_part : (p : Pass) (table : Table) (old u : Block) (predictor next : ℤ) (bits : List Bool) → IsGood table
    → Suits p old u → InDcRange predictor → WritesDc p table u.dc predictor bits next
    → ReadsJust (dc_part p table old.dc predictor) bits ((after_pass p old u).dc, next)
unfolding dc_part
takes-dc_part p table old u predictor next bits good suits before (other_band v predictor' n) =
    rw (ne_eqb p.ss 0 n, dc_part, after_pass) (takes-gives (old.dc, predictor))
takes-dc_part p table old u predictor next bits good suits before (whole v predictor' bits' e f w) =
    search (rules, eq-eqb, takes-first_dc)
takes-dc_part p table old u predictor next bits good suits before (one_bit v predictor' e f) =
    grind (arith, eq-eqb p.ss 0 e, takes-bit (low_bit u.dc) (low-small u.dc))

pub next-range : (p : Pass) (table : Table) (u predictor next : ℤ) (bits : List Bool) → InDcRange u
    → InDcRange predictor → WritesDc p table u predictor bits next → InDcRange next
next-range p table u predictor next bits h k (whole v w bits' e f d) = h
next-range p table u predictor next bits h k i = k

pub takes-band_part : (p : Pass) (table : Table) (band us : List ℤ) (run after : ℕ) (bits : List Bool) → IsGood table
    → (p.is_first ≡ true → band ≡ no_numbers (length us)) → (p.is_first ≡ false → band ≡ map (kept
    p.al) us)
    → AllByRecursion (InRange p.al) us
    → WritesAc p table us run bits after → ReadsJust (band_part p table band run) bits (map (scaled p.al) us, after)
unfolding band_part
takes-band_part p table band us run after bits good unsent sent range (no_band run') = search (rules, takes-gives)
takes-band_part p table band us run after bits good unsent sent range (first u more bits' run' f w) =
    rw (unsent f) (rw (f, band_part) (takes-band table p.al (u ∷ more) bits' run' good range w
    (length (no_numbers (suc (length more))))
    (let size = length-replicate (suc (length more)) (pos 0) in omega arith)))
takes-band_part p table band us run after bits good unsent sent range (first_run n run' f) =
    let same : band ≡ no_numbers (suc n) = unsent f ∙ ap no_numbers (length-replicate (suc n) (pos 0)) in
    let numbers : no_numbers (suc n) ≡ map (scaled p.al) (no_numbers (suc n))
    = sym (append-nil (no_numbers (suc n))) ∙ sym (map-no_numbers p.al (suc n) [])
    ∙ ap (map (scaled p.al)) (append-nil (no_numbers (suc n))) in
    search (rules, scaled, takes-as, takes-gives)
takes-band_part p table band us run after bits good unsent sent range (again u more bits' run' f w) =
    rw (sent f) (rw (f, band_part) (takes-refinement table p.al (u ∷ more) bits' run' good range w
    (length (map (kept p.al) (u ∷ more))) (le_refl _)))
takes-band_part p table band us run after bits good unsent sent range (again_run u more run' f none) =
    grind (arith, scaled p.al, takes-corrected p.al (u ∷ more) none range)

pub record Predicts (predictors : List ℤ) : Type 0 where
  pub each : (k : ℕ) → InDcRange (get_or predictors k (pos 0))

pub predicts-set : (predictors : List ℤ) (k : ℕ) (v : ℤ) → Predicts predictors → InDcRange v → Predicts (set predictors k v)
predicts-set predictors k v h r = grind (arith, common_steps)

-- each block suits the pass, and the codes of its tables are read
pub record IsReady (p : Pass) (t : Via × Block × Block) : Type 0 where
  pub dc_good : IsGood t.0.dc
  pub ac_good : IsGood t.0.ac
  pub suits : Suits p t.1 t.2

-- A block that was written is read as the block after the pass.
pub takes-block : (p : Pass) (via : Via) (old u : Block) (predictor next : ℤ) (run after : ℕ) (dc ac : List Bool)
    → IsReady p (via, old, u) → InDcRange predictor
    → WritesDc p via.dc u.dc predictor dc next → WritesAc p via.ac (band_of p u.acs) run ac after
    → ReadsJust (block_from p via.dc via.ac predictor run old) (dc ++ ac) (after_pass p old u, next, after)
unfolding block_from
takes-block p via old u predictor next run after dc ac good before wd wa =
    takes-bind (dc_part p via.dc old.dc predictor) _ dc ac ((after_pass p old u).dc, next) _
    (takes-dc_part p via.dc old u predictor next dc good.dc_good good.suits before wd)
    (takes-map (band_part p via.ac (band_of p old.acs) run)
    (λ (b : List ℤ × ℕ). (record { dc = (after_pass p old u).dc; acs = with_band p old.acs b.0 }, next, b.1)) ac
    (map (scaled p.al) (band_of p u.acs), after)
    (search (rules, takes-band_part)))

-- A block that was written is read before others that are read.
pub takes-next : (p : Pass) (t : Via × Block × Block) (turns : List (Via × Block × Block)) (predictors : List ℤ)
    (next : ℤ) (run after : ℕ) (dc ac more : List Bool) → Predicts predictors → IsReady p t
    → WritesDc p t.0.dc t.2.dc (get_or predictors t.0.component (pos 0)) dc next
    → WritesAc p t.0.ac (band_of p t.2.acs) run ac after
    → (Predicts (set predictors t.0.component next)
    → ReadsJust (blocks_of p (set predictors t.0.component next) after (reads_of turns)) more
    (map (λ t. after_pass p t.1 t.2) turns))
    → ReadsJust (blocks_of p predictors run (reads_of (t ∷ turns))) (dc ++ (ac ++ more))
    (map (λ t. after_pass p t.1 t.2) (t ∷ turns))
unfolding blocks_of
takes-next p t turns predictors next run after dc ac more predict good wd wa others =
    let old = get_or predictors t.0.component (pos 0) in
    let before = predict.each t.0.component in
    let range = next-range p t.0.dc t.2.dc old next dc good.suits.dc_range before wd in
    takes-as _ ((dc ++ ac) ++ more) (dc ++ (ac ++ more)) _ _ (append_assoc dc ac more) refl
    (takes-bind (block_from p t.0.dc t.0.ac old run t.1) _ (dc ++ ac) more (after_pass p t.1 t.2, next, after) _
    (takes-block p t.0 t.1 t.2 old next run after dc ac good before wd wa)
    (takes-map (blocks_of p (set predictors t.0.component next) after (reads_of turns))
    (λ (l : List Block). after_pass p t.1 t.2 ∷ l) more _
    (others (predicts-set predictors t.0.component next predict range))))

-- The blocks of an interval that were written are read as the blocks after the pass.
pub takes-blocks : (p : Pass) (turns : List (Via × Block × Block)) (predictors : List ℤ) (run : ℕ) (bits : List Bool)
    → Predicts predictors
    → AllByRecursion (IsReady p) turns → WritesBlocks p predictors run (numbers_of turns) bits
    → ReadsJust (blocks_of p predictors run (reads_of turns)) bits (map (λ t. after_pass p t.1 t.2) turns)
unfolding blocks_of
takes-blocks p [] predictors run bits predict ready (done preds) = takes-gives []
takes-blocks p (t ∷ turns) predictors run bits predict ready
    (block preds run' after via u turns' dc ac more next wd wa w) =
    takes-next p t turns predictors next run after dc ac more predict ready.0 wd wa
    (λ range. takes-blocks p turns (set predictors t.0.component next) after more range ready.1 w)
