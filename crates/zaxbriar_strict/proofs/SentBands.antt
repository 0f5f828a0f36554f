-- Bands of a progressive scan, within their blocks.
use Rattle.std.proofs.Common.{◌≡◌, ℕ, zero, suc, ◌+◌, ◌-◌, ◌^◌, ◌≤◌, Bool, true, false, List, []}
use Rattle.std.proofs.Common.{◌∷◌, ◌++◌, length}
use Rattle.std.proofs.Common.{take, drop, map, refl, sym, ap, ◌∙◌, subst, arith, ℤ, pos, ◌*ℤ◌, append-nil}
use Rattle.std.proofs.Common.{length-append}
use Rattle.std.proofs.Common.{length-take, length-drop}
use Rattle.std.proofs.lemmas.List.{length-map, length-replicate}
use Rattle.jpeg_bits.specs.BlockView.{dc_in}
use Rattle.jpeg_bits.specs.Codes.{Table}
use Rattle.jpeg_bits.specs.Passes.{Pass, band_of, band_size, before_band}
use Rattle.jpeg_meaning.specs.Levels.{toward_zero}
use Rattle.jpeg_meaning.specs.WrittenData.{WritesAc, WritesBand, WritesRefinement}
use Rattle.jpeg_meaning.specs.WrittenData.{no_numbers}
use Rattle.jpeg_meaning.specs.WrittenData.WritesAc.{again, again_run, first, first_run}
use Rattle.jpeg_meaning.proofs.Written.CutLevels.{around-band}
use Rattle.zaxbriar_strict.specs.BandCodes.{AreCorrections, ReadsCodes, Refines, RefinesCodes}
use Rattle.zaxbriar_strict.specs.Data.{Data, Takes}
use Rattle.zaxbriar_strict.specs.Sent.{AllInner, ReadsSentAc, scaled_by, sent_before}
use Rattle.zaxbriar_strict.proofs.Bands.{zeros-scaled}
use Rattle.zaxbriar_strict.proofs.RefinedBands.{all-after, left-over, no-corrections, none-empty, refines-then}
use Rattle.zaxbriar_strict.proofs.Wholes.{dc-first}

-- ---- the parts of a block

-- the coefficients of a block before a band, and those after it
abbrev pub before_in : Pass → List ℤ → List ℤ
before_in p block = dc_in block ∷ take (before_band p) (drop 1 block)

abbrev pub behind_in : Pass → List ℤ → List ℤ
behind_in p block = drop (before_band p + band_size p) (drop 1 block)

pub parts-of : (p : Pass) (block band : List ℤ) → length block ≡ 64 → band_of p (drop 1 block) ≡ band
    → block ≡ before_in p block ++ (band ++ behind_in p block)
parts-of p block band long is =
    dc-first block (omega (arith, long))
    ∙ ap (λ (l : List ℤ). dc_in block ∷ l) (sym (around-band p (drop 1 block)))
    ∙ ap (λ (l : List ℤ). before_in p block ++ (l ++ behind_in p block)) is

pub before-long : (p : Pass) (block : List ℤ) → length block ≡ 64 → 1 ≤ p.ss → p.ss ≤ p.se → p.se ≤ 63
    → length (before_in p block) ≡ p.ss
before-long p block long some order most =
    omega (arith, length-take (before_band p) (drop 1 block), length-drop 1 block, long, some, order, most)

pub band-long : (p : Pass) (block : List ℤ) → length block ≡ 64 → 1 ≤ p.ss → p.ss ≤ p.se → p.se ≤ 63
    → length (band_of p (drop 1 block)) ≡ band_size p
band-long p block long some order most =
    omega (
      arith,
      length-take (band_size p) (drop (before_band p) (drop 1 block)),
      length-drop (before_band p) (drop 1 block),
      length-drop 1 block,
      long,
      some,
      order,
      most,
    )

-- so many numbers of a band were kept
pub kept-long : (p : Pass) (al : ℕ) (block kept : List ℤ) → length block ≡ 64 → 1 ≤ p.ss → p.ss ≤ p.se → p.se ≤ 63
    → band_of p (drop 1 block) ≡ scaled_by al kept → length kept ≡ band_size p
kept-long p al block kept long some order most is =
    sym (length-map kept (λ (u : ℤ). u *ℤ pos (2 ^ al))) ∙ ap (λ (l : List ℤ). length l) (sym is)
    ∙ band-long p block long some order most

-- they are inner where the block is
pub kept-inner : (p : Pass) (block band : List ℤ) → length block ≡ 64 → band_of p (drop 1 block) ≡ band → AllInner block
    → AllInner band
kept-inner p block band long is inner =
    front-all band (behind_in p block) (all-after _ (before_in p block) (band ++ behind_in p block)
    (subst (λ (l : List ℤ). AllInner l) (parts-of p block band long is) inner))
  where
    front-all : (a b : List ℤ) → AllInner (a ++ b) → AllInner a
    front-all [] b h = tt
    front-all (x ∷ a) b h = (h.0, front-all a b h.1)

-- ---- first scans

before-first : (p : Pass) (numbers : List ℤ) → p.is_first ≡ true → no_numbers (length numbers) ≡ sent_before p numbers
before-first p numbers f = rw f refl

before-again : (p : Pass) (numbers : List ℤ) → p.is_first ≡ false
    → scaled_by (suc p.al) (map (toward_zero 1) numbers) ≡ sent_before p numbers
before-again p numbers f = rw f refl

written-first : (p : Pass) (table : Table) (numbers : List ℤ) (own : List Bool) (run : ℕ) → p.is_first ≡ true
    → 1 ≤ length numbers → WritesBand table numbers own run → WritesAc p table numbers 0 own run
written-first p table [] own run f some w = absurd (omega arith)
written-first p table (u ∷ us) own run f some w = first u us own run f w

pub sent-codes : (p : Pass) {table : Table} {low run : ℕ} {old new : List ℤ} {a b : Data} → low ≡ p.al
    → p.is_first ≡ true → 1 ≤ p.ss → p.ss ≤ p.se → band_of p (drop 1 old) ≡ no_numbers (band_size p)
    → ReadsCodes table low (band_size p) run (before_in p old) (behind_in p old) new a b
    → ReadsSentAc p table 0 (run - 1) old new a b
sent-codes p {table} {low} {run} {old} same f some order none r =
    let s = r.sized in
    record {
      numbers = r.numbers;
      sized = s;
      was = none ∙ ap (λ (k : ℕ). no_numbers k) (sym s) ∙ before-first p r.numbers f;
      are = r.are ∙ ap (λ (k : ℕ). before_in p old ++ (scaled_by k r.numbers ++ behind_in p old)) same;
      read = record {
        own = r.read.own;
        taken = r.read.taken;
        holds = written-first p table r.numbers r.read.own (run - 1) f (omega (arith, s, some, order)) r.read.holds;
      };
    }

-- a band that the end of an earlier one stands for
pub sent-within : (p : Pass) (table : Table) (run : ℕ) (old : List ℤ) (d : Data) → length old ≡ 64 → p.is_first ≡ true
    → 1 ≤ p.ss → p.ss ≤ p.se → 1 ≤ run → band_of p (drop 1 old) ≡ no_numbers (band_size p) → Takes [] d d
    → ReadsSentAc p table run (run - 1) old old d d
sent-within p table run old d long f some order on none t = record {
  numbers = no_numbers (band_size p);
  sized = length-replicate (band_size p) (pos 0);
  was = none ∙ ap (λ (k : ℕ). no_numbers k) (sym (length-replicate (band_size p) (pos 0)))
      ∙ before-first p (no_numbers (band_size p)) f;
  are = parts-of p old (no_numbers (band_size p)) long none
      ∙ ap (λ (l : List ℤ). before_in p old ++ (l ++ behind_in p old)) (sym (zeros-scaled p.al (band_size p)));
  read = record { own = []; taken = t; holds = within (band_size p) run (omega (arith, some, order)) on };
}
  where
    within : (n run : ℕ) → 1 ≤ n → 1 ≤ run → WritesAc p table (no_numbers n) run [] (run - 1)
    within zero run h k = absurd (omega arith)
    within (suc n) zero h k = absurd (omega arith)
    within (suc n) (suc run) h k =
        let e : run ≡ suc run - 1 = omega arith in
        subst (λ (m : ℕ). WritesAc p table (no_numbers (suc n)) (suc run) [] m) e (first_run n run f)

-- ---- refinements

written-again : (p : Pass) (table : Table) (numbers : List ℤ) (own : List Bool) (run : ℕ) → p.is_first ≡ false
    → 1 ≤ length numbers → WritesRefinement table numbers own run → WritesAc p table numbers 0 own run
written-again p table [] own run f some w = absurd (omega arith)
written-again p table (u ∷ us) own run f some w = again u us own run f w

written-run : (p : Pass) (table : Table) (numbers : List ℤ) (own : List Bool) (run : ℕ) → p.is_first ≡ false
    → 1 ≤ length numbers → 1 ≤ run → AreCorrections numbers own → WritesAc p table numbers run own (run - 1)
written-run p table [] own run f some on c = absurd (omega arith)
written-run p table (u ∷ us) own zero f some on c = absurd (omega arith)
written-run p table (u ∷ us) own (suc run) f some on c =
    let e : run ≡ suc run - 1 = omega arith in
    subst (λ (k : ℕ). WritesAc p table (u ∷ us) (suc run) own k) e
    (subst (λ (l : List Bool). WritesAc p table (u ∷ us) (suc run) l run) c.are (again_run u us run f c.none))

-- all numbers of a band were refined
pub sent-refined : (p : Pass) {table : Table} {low run left : ℕ} {old new kept : List ℤ}
    {P : List ℤ → List Bool → Type 0} {a b : Data}
    → low ≡ p.al → length old ≡ 64 → p.is_first ≡ false → 1 ≤ p.ss → p.ss ≤ p.se → p.se ≤ 63
    → band_of p (drop 1 old) ≡ scaled_by (suc low) kept
    → (r : Refines P low (suc p.se) (before_in p old) kept (behind_in p old) new a b)
    → (1 ≤ length r.numbers → P r.numbers r.read.own → WritesAc p table r.numbers run r.read.own left)
    → ReadsSentAc p table run left old new a b
sent-refined p {table} {low} {run} {left} {old} {new} {kept} same long f some order most is r writes =
    let before = before-long p old long some order most in
    let size = kept-long p (suc low) old kept long some order most is in
    let over = left-over (suc p.se) p.ss r before (omega (arith, size, some, order)) in
    let sized = r.sized in
    let all : length r.numbers ≡ band_size p = omega (arith, sized, before, some, order) in
    let none : r.others ≡ [] = empty r.others (omega (arith, over)) in
    record {
      numbers = r.numbers;
      sized = all;
      was = is ∙ ap (scaled_by (suc low)) (r.was ∙ ap (λ (l : List ℤ). map (toward_zero 1) r.numbers ++ l) none
          ∙ append-nil (map (toward_zero 1) r.numbers))
          ∙ ap (λ (k : ℕ). scaled_by (suc k) (map (toward_zero 1) r.numbers)) same ∙ before-again p r.numbers f;
      are = r.are
          ∙ ap (λ (l : List ℤ). before_in p old ++ (scaled_by low r.numbers ++ (scaled_by (suc low) l ++ behind_in p old))) none
          ∙ ap (λ (k : ℕ). before_in p old ++ (scaled_by k r.numbers ++ behind_in p old)) same;
      read = record { own = r.read.own; taken = r.read.taken; holds = writes (omega (arith, all, some, order)) r.read.holds };
    }
  where
    empty : (l : List ℤ) → length l ≡ 0 → l ≡ []
    empty [] h = refl
    empty (x ∷ l) h = absurd (omega (arith, h))

-- within the end of an earlier band
pub sent-corrected : (p : Pass) (table : Table) {low last run : ℕ} {old new kept : List ℤ} {a b : Data}
    → low ≡ p.al → last ≡ p.se → length old ≡ 64 → p.is_first ≡ false → 1 ≤ p.ss → p.ss ≤ p.se → p.se ≤ 63 → 1 ≤ run
    → band_of p (drop 1 old) ≡ scaled_by (suc low) kept
    → Refines AreCorrections low (suc last) (before_in p old) kept (behind_in p old) new a b
    → ReadsSentAc p table run (run - 1) old new a b
sent-corrected p table {low} {last} {run} {old} {new} {kept} {a} {b} same end long f some order most on is r =
    let r : Refines AreCorrections low (suc p.se) (before_in p old) kept (behind_in p old) new a b =
    subst (λ (k : ℕ). Refines AreCorrections low (suc k) (before_in p old) kept (behind_in p old) new a b) end r in
    sent-refined p {P = AreCorrections} same long f some order most is r
    (λ n c. written-run p table r.numbers r.read.own run f n on c)

-- by codes up to the end of the band
pub sent-all : (p : Pass) {table : Table} {low place run last : ℕ} {old new kept : List ℤ} {a b : Data}
    → low ≡ p.al → last ≡ p.se → length old ≡ 64 → p.is_first ≡ false → 1 ≤ p.ss → p.ss ≤ p.se → p.se ≤ 63 → run ≡ 0
    → place ≡ suc last
    → band_of p (drop 1 old) ≡ scaled_by (suc low) kept
    → Refines (RefinesCodes table (suc last - place) run) low place (before_in p old) kept (behind_in p old) new a b
    → ReadsSentAc p table 0 run old new a b
sent-all p {table} {low} {place} {run} {last} {old} {new} {kept} {a} {b} same end long f some order most none at is r =
    let e : suc last - place ≡ 0 = omega (arith, at) in
    let here : place ≡ suc p.se = at ∙ ap (λ (k : ℕ). suc k) end in
    let z : run - 1 ≡ run = omega (arith, none) in
    let s : Refines (RefinesCodes table 0 run) low (suc p.se) (before_in p old) kept (behind_in p old) new a b =
    subst (λ (k : ℕ). Refines (RefinesCodes table 0 run) low k (before_in p old) kept (behind_in p old) new a b) here
    (subst (λ (k : ℕ). Refines (RefinesCodes table k run) low place (before_in p old) kept (behind_in p old) new a b) e r) in
    sent-refined p {P = RefinesCodes table 0 run} same long f some order most is s
    (λ n c. written-again p table s.numbers s.read.own run f n
    (subst (λ (k : ℕ). WritesRefinement table s.numbers s.read.own k) z
    (rw (append-nil s.numbers, append-nil s.read.own) at
    (subst (λ (l : List Bool). WritesRefinement table (s.numbers ++ []) (s.read.own ++ l) (run - 1)) no-corrections
    (c [] refl none-empty)))))

-- by codes up to the end of some bands, and the corrections after them
pub sent-ended : (p : Pass) (run : ℕ) {table : Table} {low place last : ℕ} {old middle new kept : List ℤ} {a b c : Data}
    → low ≡ p.al → last ≡ p.se → length old ≡ 64 → p.is_first ≡ false → 1 ≤ p.ss → p.ss ≤ p.se → p.se ≤ 63
    → band_of p (drop 1 old) ≡ scaled_by (suc low) kept
    → (r : Refines (RefinesCodes table (suc last - place) run) low place (before_in p old) kept (behind_in p old) middle a b)
    → Refines AreCorrections low (suc last) (before_in p old ++ scaled_by low r.numbers) r.others (behind_in p old) new b c
    → ReadsSentAc p table 0 (run - 1) old new a c
sent-ended p run {table} {low} {place} {last} {old} {middle} {new} {kept} {a} {b} {c} same end long f some order most is r s =
    let front = before_in p old in
    let own = r.read.own ++ s.read.own in
    let count : length s.numbers ≡ suc last - place =
    (let x = s.sized in let y = r.sized in
    omega (arith, x, y, length-append front (scaled_by low r.numbers), length-map r.numbers (λ (u : ℤ). u *ℤ pos (2 ^ low)))) in
    let w : WritesRefinement table (r.numbers ++ s.numbers) own (run - 1) =
    subst (λ (l : List Bool). WritesRefinement table (r.numbers ++ s.numbers) (r.read.own ++ l) (run - 1)) s.read.holds.are
    (r.read.holds s.numbers count s.read.holds.none) in
    let P = λ (us : List ℤ) (bits : List Bool). WritesRefinement table us bits (run - 1) in
    let t : Refines P low (suc last) front kept (behind_in p old) new a c = refines-then {R = P} r s w in
    let t : Refines P low (suc p.se) front kept (behind_in p old) new a c =
    subst (λ (k : ℕ). Refines P low (suc k) front kept (behind_in p old) new a c) end t in
    sent-refined p {P = P} same long f some order most is t (λ n w. written-again p table t.numbers t.read.own (run - 1) f n w)
