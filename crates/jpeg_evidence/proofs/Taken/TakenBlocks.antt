-- The bits that were taken of a block are those that are written for it.
use Rattle.std.proofs.Common.{length-take, rules, ◌≡◌, ℕ, zero, suc, ◌+◌, ◌-◌, ◌*◌, ◌^◌, ◌<◌, Bool, true, false}
use Rattle.std.proofs.Common.{List, [], ◌∷◌, ◌++◌, map, length, refl, sym, ap, ◌∙◌, subst, arith, Ok, ℤ, pos, ◌+ℤ◌}
use Rattle.std.proofs.Common.{unsigned_abs, le_refl, append-nil, ap₂, negsuc}
use Rattle.std.proofs.lemmas.Bool.{eqb-true, eqb-false}
use Rattle.std.proofs.lemmas.Int.{int_wrap_fits}
use Rattle.std.proofs.lemmas.List.{length-map, length-replicate}
use Rattle.jpeg_bits.specs.Entropy.{Text, bits_from}
use Rattle.jpeg_bits.specs.Codes.{Table, IsTable}
use Rattle.jpeg_bits.specs.Readers.{gives, ◌>>=◌}
use Rattle.jpeg_bits.specs.Bands.{Band, difference, first_dc, wrapped, first_ac}
use Rattle.jpeg_bits.specs.Refinement.{corrected, refined_ac}
use Rattle.jpeg_bits.specs.Passes.{Block, Pass, Via, band_of, with_band, or_bit, dc_part, band_part, block_from}
use Rattle.jpeg_meaning.specs.Levels.{floor_at, toward_zero}
use Rattle.jpeg_meaning.specs.WrittenData.{no_numbers, WritesAc, WritesBand, WritesDc, WritesDifference, NoneNew}
use Rattle.jpeg_meaning.specs.WrittenData.{corrections, low_bit, WritesRefinement}
use Rattle.jpeg_meaning.specs.WrittenData.WritesDc.{other_band, whole as a_whole, one_bit}
use Rattle.jpeg_meaning.specs.WrittenData.WritesAc.{no_band, first as a_first, first_run, again as a_refinement}
use Rattle.jpeg_meaning.specs.WrittenData.WritesAc.{again_run}
use Rattle.jpeg_meaning.proofs.Written.SentBlocks.{scaled, InRange, dc_kept, floor_half}
use Rattle.jpeg_meaning.proofs.Written.WrittenBands.{map-no_numbers, scaled-fits, range-below, mag-le}
use Rattle.jpeg_meaning.proofs.Written.CutLevels.{band-map}
use Rattle.jpeg_evidence.specs.Strict.{alone, IsCut, HasByteSymbols, TokensFit, IsBlock, BlockFits, HasTables}
use Rattle.jpeg_evidence.specs.Strict.{IsNumber, PiecesFit}
use Rattle.jpeg_evidence.proofs.Taken.TakenBits.{bind-cut, gives-taken, map-taken, cut-map, After, if-read, number_taken}
use Rattle.jpeg_evidence.proofs.Taken.TakenRefinements.{IsKept, IsCorrected, IsRefined, alike-long, one-bit}
use Rattle.jpeg_evidence.proofs.Taken.TakenRefinements.{corrected-taken, refined-taken}
use Rattle.jpeg_evidence.proofs.Taken.TakenValues.{difference_taken}
use Rattle.std.specs.List.{AllByRecursion}
use Rattle.jpeg_bits.specs.Written.{bit}
use Rattle.jpeg_meaning.proofs.Written.WrittenBlocks.{dc-refined}
use Rattle.jpeg_evidence.proofs.Taken.TakenBands.{IsLong, long-taken}
use Rattle.jpeg_evidence.proofs.Taken.TakenLevels.{floor-scaled, all-toward, band-put}

-- ---- DC

-- the bits of DC for what was read, and for the next predictor
abbrev pub WritesRead : Pass → Table → ℤ → ℤ × ℤ → List Bool → Type 0
WritesRead p table predictor y own = WritesDc p table (floor_at p.al y.0) predictor own y.1

abbrev DcFits : Pass → Table → ℤ → List Bool → Type 0
DcFits p table predictor bits = (d : ℤ) (more : List Bool) → difference table (alone bits) ≡ Ok (d, alone more)
    → unsigned_abs (predictor +ℤ d) * 2 ^ p.al < 2 ^ 15

first-written : (p : Pass) (table : Table) (predictor d : ℤ) (own : List Bool) → p.ss ≡ 0 → p.is_first ≡ true
    → InRange p.al (predictor +ℤ d) → WritesDifference table d own
    → WritesRead p table predictor (wrapped (scaled p.al (wrapped (predictor +ℤ d))), wrapped (predictor +ℤ d)) own
first-written p table predictor d own s f range w =
    search (rules, int_wrap_fits, mag-le, range-below, scaled-fits, floor-scaled, a_whole)

dc-first : (p : Pass) (table : Table) (predictor : ℤ) (bits : List Bool) (y : ℤ × ℤ) (t : Text) → p.ss ≡ 0
    → p.is_first ≡ true → IsTable table → DcFits p table predictor bits
    → first_dc table p.al predictor (alone bits) ≡ Ok (y, t) → IsCut (WritesRead p table predictor y) bits t
unfolding first_dc
dc-first p table predictor bits y t s f is fits =
    map-taken (difference table)
    (λ (d : ℤ). (wrapped (scaled p.al (wrapped (predictor +ℤ d))), wrapped (predictor +ℤ d)))
    (λ (d : ℤ) (own : List Bool). InRange p.al (predictor +ℤ d) × WritesDifference table d own)
    (WritesRead p table predictor)
    (λ d k.
    let c : IsCut (WritesDifference table d) bits t = difference_taken is k in
    let range = fits d t.bits (k ∙ ap (λ (u : Text). Ok (d, u)) c.rest) in
    cut-map (λ own w. (record { within = range }, w)) c)
    (λ d own w. first-written p table predictor d own s f w.0 w.1)

-- a number of the level above, with its bit
pushed : ℤ → ℕ → ℤ
pushed (pos n) b = pos (2 * n + b)
pushed (negsuc n) b = negsuc (2 * n + (1 - b))

pushed-half : (v : ℤ) (b : ℕ) → b < 2 → floor_half (pushed v b) ≡ v
unfolding pushed
pushed-half x b h = grind arith

pushed-low : (v : ℤ) (b : ℕ) → b < 2 → low_bit (pushed v b) ≡ b
unfolding pushed
pushed-low x b h = grind arith

pushed-or : (al b : ℕ) (z : ℤ) → b < 2 → scaled (suc al) (floor_at (suc al) z) ≡ z
    → or_bit al z b ≡ scaled al (pushed (floor_at (suc al) z) b)
pushed-or al b z h kept =
    let v = floor_at (suc al) z in
    let before : z ≡ dc_kept al (pushed v b) = sym kept ∙ ap (scaled (suc al)) (sym (pushed-half v
    b h)) in
    ap₂ (λ (x : ℤ) (k : ℕ). or_bit al x k) before (sym (pushed-low v b h)) ∙ dc-refined al (pushed v b)

dc-again : (p : Pass) (table : Table) (z predictor : ℤ) (bits : List Bool) (y : ℤ × ℤ) (t : Text) → p.ss ≡ 0
    → p.is_first ≡ false → scaled (suc p.al) (floor_at (suc p.al) z) ≡ z
    → (bits_from 1 >>= (λ b. gives (or_bit p.al z b, predictor))) (alone bits) ≡ Ok (y, t)
    → IsCut (WritesRead p table predictor y) bits t
dc-again p table z predictor bits y t s f kept e =
    let al = p.al in
    map-taken (bits_from 1) (λ (b : ℕ). (or_bit al z b, predictor)) (IsNumber 1) (WritesRead p table predictor)
    (λ b. number_taken)
    (λ b own w.
    let u = pushed (floor_at (suc al) z) b in
    let one : WritesDc p table u predictor (bit (low_bit u) ∷ []) predictor = one_bit u predictor s f in
    rw (pushed-or al b z w.below kept, floor-scaled al u, ← one-bit b own w)
    (rw (pushed-low (floor_at (suc al) z) b w.below) at one)) e

pub dc-taken-part : (p : Pass) (table : Table) (z predictor : ℤ) (bits : List Bool) (y : ℤ × ℤ) (t : Text)
    → (p.ss ≡ 0 → p.is_first ≡ true → IsTable table)
    → (p.ss ≡ 0 → p.is_first ≡ true → DcFits p table predictor bits)
    → (p.ss ≡ 0 → p.is_first ≡ false → scaled (suc p.al) (floor_at (suc p.al) z) ≡ z)
    → dc_part p table z predictor (alone bits) ≡ Ok (y, t) → IsCut (WritesRead p table predictor y) bits t
unfolding dc_part
dc-taken-part p table z predictor bits y t is fits sent e = grind (arith, eqb-true, dc-first, dc-again, gives-taken, other_band, eqb-false)

-- ---- bands

-- the bits of a band for what was read, which is as long as what was there, and the run after it
pub record IsRead (p : Pass) (table : Table) (band : List ℤ) (run : ℕ) (y : Band) (own : List Bool) : Type 0 where
  pub long : length y.0 ≡ length band
  pub written : WritesAc p table (map (toward_zero p.al) y.0) run own y.1

-- the tables of a band that has coefficients
abbrev pub Tabled : Table → List ℤ → Type 0
Tabled table band = 0 < length band → IsTable table × HasByteSymbols table

zeros-toward : (al n : ℕ) → map (toward_zero al) (no_numbers n) ≡ no_numbers n
zeros-toward al n =
    let same : no_numbers n ≡ map (scaled al) (no_numbers n)
    = sym (append-nil (no_numbers n)) ∙ sym (map-no_numbers al n []) ∙ ap (map (scaled al)) (append-nil (no_numbers n)) in
    ap (map (toward_zero al)) same ∙ all-toward al (no_numbers n)

written-first : (p : Pass) (table : Table) (numbers : List ℤ) (own : List Bool) (run : ℕ) → p.is_first ≡ true
    → 0 < length numbers → WritesBand table numbers own run → WritesAc p table numbers 0 own run
written-first p table [] own run f some w = absurd (omega arith)
written-first p table (u ∷ us) own run f some w = a_first u us own run f w

new-band : (p : Pass) (table : Table) (k : ℕ) (bits : List Bool) (y : Band) (t : Text) → p.is_first ≡ true → 0 < k
    → IsTable table → HasByteSymbols table → TokensFit table p.al k bits
    → first_ac table p.al k (no_numbers k) (alone bits) ≡ Ok (y, t)
    → IsCut (IsRead p table (no_numbers k) 0 y) bits t
new-band p table k bits y t f some is bytes fits e =
    cut-map {P = IsLong table p.al k y} (grind (arith, all-toward, length-map, length-replicate, written-first))
    (long-taken is bytes fits (le_refl k) e)

written-again : (p : Pass) (table : Table) (numbers : List ℤ) (own : List Bool) (run : ℕ) → p.is_first ≡ false
    → 0 < length numbers → WritesRefinement table numbers own run → WritesAc p table numbers 0 own run
written-again p table [] own run f some w = absurd (omega arith)
written-again p table (u ∷ us) own run f some w = a_refinement u us own run f w

written-run : (p : Pass) (table : Table) (numbers : List ℤ) (run : ℕ) → p.is_first ≡ false → 0 < length numbers
    → NoneNew numbers → WritesAc p table numbers (suc run) (corrections numbers) run
written-run p table [] run f some none = absurd (omega arith)
written-run p table (u ∷ us) run f some none = again_run u us run f none

-- a band of numbers that were kept from the level above, at their indices
old-read : (p : Pass) (table : Table) (zs numbers : List ℤ) (run : ℕ) (y : Band) (own : List Bool)
    → map (scaled p.al) numbers ≡ y.0 → length numbers ≡ length zs → WritesAc p table numbers run own y.1
    → IsRead p table zs run y own
old-read p table zs numbers run y own are long w = search (rules, length-map, all-toward)

old-band : (p : Pass) (table : Table) (zs : List ℤ) (bits : List Bool) (y : Band) (t : Text) → p.is_first ≡ false
    → 0 < length zs → IsTable table → HasByteSymbols table → AllByRecursion (IsKept p.al) zs →
    PiecesFit table p.al zs bits
    → refined_ac table p.al (length zs) zs (alone bits) ≡ Ok (y, t) → IsCut (IsRead p table zs 0 y) bits t
old-band p table zs bits y t f some is bytes kept fits e =
    cut-map {P = IsRefined table p.al zs y} (λ own w.
    let long = w.long in
    old-read p table zs w.numbers 0 y own w.are long (written-again p table w.numbers own y.1 f (omega (arith, some, long)) w.written))
    (refined-taken zs is bytes kept fits (le_refl (length zs)) e)

run-band : (p : Pass) (table : Table) (zs : List ℤ) (run : ℕ) (bits : List Bool) (y : Band) (t : Text)
    → p.is_first ≡ false → 0 < length zs → AllByRecursion (IsKept p.al) zs
    → (corrected p.al zs >>= (λ all. gives (all, run))) (alone bits) ≡ Ok (y, t)
    → IsCut (IsRead p table zs (suc run) y) bits t
run-band p table zs run bits y t f some kept e =
    map-taken (corrected p.al zs) (λ (all : List ℤ). (all, run)) (IsCorrected p.al zs) (IsRead p table zs (suc run))
    (λ ws. corrected-taken zs kept)
    (λ ws own w.
    let long = alike-long w.us zs w.alike in
    old-read p table zs w.us (suc run) (ws, run) own w.are long
    (rw (← w.bits) (written-run p table w.us run f (omega (arith, some, long)) w.none))) e

pub band-taken-part : (p : Pass) (table : Table) (band : List ℤ) (run : ℕ) (bits : List Bool) (y : Band) (t : Text)
    → Tabled table band → (p.is_first ≡ true → band ≡ no_numbers (length band))
    → (p.is_first ≡ true → run ≡ 0 → TokensFit table p.al (length band) bits)
    → (p.is_first ≡ false → AllByRecursion (IsKept p.al) band)
    → (p.is_first ≡ false → run ≡ 0 → PiecesFit table p.al band bits)
    → band_part p table band run (alone bits) ≡ Ok (y, t) → IsCut (IsRead p table band run y) bits t
unfolding band_part
band-taken-part p table [] run bits y t tables unsent fits sent pieces e = search (rules, gives-taken, no_band)
band-taken-part p table (x ∷ band) zero bits y t tables unsent fits sent pieces e =
    if-read p.is_first _ _ e
    (λ f k.
    let n = length (x ∷ band) in
    let is = tables (omega arith) in
    subst (λ (l : List ℤ). IsCut (IsRead p table l 0 y) bits t) (sym (unsent f))
    (new-band p table n bits y t f (omega arith) is.0 is.1 (fits f refl)
    (ap (λ (l : List ℤ). first_ac table p.al n l (alone bits)) (sym (unsent f)) ∙ k)))
    (λ f k. grind (arith, old-band))
band-taken-part p table (x ∷ band) (suc run) bits y t tables unsent fits sent pieces e =
    if-read p.is_first _ _ e
    (λ f. gives-taken (IsRead p table (x ∷ band) (suc run)) (record {
      long = refl;
      written = subst (λ (l : List ℤ). WritesAc p table l (suc run) [] run)
          (sym (ap (map (toward_zero p.al)) (unsent f) ∙ zeros-toward p.al (length (x ∷ band))))
          (first_run (length band) run f);
    }))
    (λ f k. run-band p table (x ∷ band) run bits y t f (omega arith) (sent f) k)

-- ---- blocks

abbrev result : Pass → Block → ℤ × ℤ → Band → Block × ℤ × ℕ
result p old d b = (record { dc = d.0; acs = with_band p old.acs b.0 }, d.1, b.1)

joined : (p : Pass) (via : Via) (predictor : ℤ) (run : ℕ) (old : Block) (d : ℤ × ℤ) (y : Band) (dc ac : List Bool)
    → WritesRead p via.dc predictor d dc → IsRead p via.ac (band_of p old.acs) run y ac
    → IsBlock p via predictor run (result p old d y) (dc ++ ac)
joined p via predictor run old d y dc ac w b = grind (arith, band-map, band-put)

-- The bits that were taken of a block are written for it.
pub block_taken : (p : Pass) (via : Via) (predictor : ℤ) (run : ℕ) (old : Block) (bits : List Bool)
    (r : Block × ℤ × ℕ) (t : Text) → HasTables p via → BlockFits p via predictor run old bits
    → block_from p via.dc via.ac predictor run old (alone bits) ≡ Ok (r, t)
    → IsCut (IsBlock p via predictor run r) bits t
unfolding block_from
block_taken p via predictor run old bits r t tables fits =
    bind-cut (dc_part p via.dc old.dc predictor) (λ (d : ℤ × ℤ).
    band_part p via.ac (band_of p old.acs) run >>= (λ b. gives (result p old d b))) (WritesRead p via.dc predictor)
    (λ d u. dc-taken-part p via.dc old.dc predictor bits d u tables.dc_is fits.dc_fits fits.dc_sent)
    (λ d more h. map-taken (band_part p via.ac (band_of p old.acs) run) (λ (b : Band). result p old d b)
    (IsRead p via.ac (band_of p old.acs) run)
    (λ (r : Block × ℤ × ℕ). After (WritesRead p via.dc predictor d) (IsBlock p via predictor run r))
    (λ y. band-taken-part p via.ac (band_of p old.acs) run more y t (grind (arith, length-take)) fits.unsent
    (λ f z. fits.tokens_fit f z d more h) fits.acs_sent (λ f z. fits.pieces_fit f z d more h))
    (λ y ac b dc w. joined p via predictor run old d y dc ac w b))
