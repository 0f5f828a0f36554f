-- What a decoder reads of a scan, where it fits, is what the scan was written for.
use Rattle.std.proofs.Common.{rules, ◌≡◌, ℕ, suc, ◌%◌, true, List, [], ◌∷◌, ◌++◌, length, drop, inl}
use Rattle.std.proofs.Common.{inr, refl, sym, ap, ◌∙◌, subst, arith, Ok, Err, Option, Some}
use Rattle.std.proofs.lemmas.Bool.{eqb-true, false≢true}
use Rattle.std.specs.Prelude.{if◌then◌else◌}
use Rattle.std.proofs.lemmas.List.{drop_at}
use Rattle.jpeg_segments.proofs.Codecs.{ok-same}
use Rattle.jpeg_bits.specs.Reading.{End, Malformed, Outcome, ◌>>=◌}
use Rattle.jpeg_bits.specs.Entropy.{Broken, text_at}
use Rattle.jpeg_bits.specs.Intervals.{interval, intervals, is_restart}
use Rattle.jpeg_bits.specs.Passes.{Block, Pass, Via, blocks_of, predictors_at_start}
use Rattle.jpeg_bits.specs.declared.marker.Marker.{Marker}
use Rattle.jpeg_bits.specs.declared.marker.Marker.TheVariants.{RST}
use Rattle.jpeg_bits.proofs.EndLemmas.{end-met}
use Rattle.jpeg_bits.proofs.ReadIntervals.{Holds}
use Rattle.jpeg_meaning.proofs.Order.CountedScans.{interval-long}
use Rattle.jpeg_evidence.specs.Strict.{alone, IntervalFits, IntervalsFit, IsInterval, IsIntervals, numbers_read}
use Rattle.jpeg_evidence.specs.Strict.{others_read}
use Rattle.jpeg_evidence.specs.Strict.IntervalsFit.{last, another}
use Rattle.jpeg_bits.proofs.TakenTexts.{Taken, TakesBits, blocks-takes}
use Rattle.jpeg_bits.proofs.TakenTexts.Taken.{gave, failed}
use Rattle.jpeg_evidence.proofs.Taken.TakenBits.{no-error, ok-parts}
use Rattle.jpeg_meaning.proofs.Longer.FrontNumbers.{some-is}
use Rattle.jpeg_evidence.proofs.Taken.TakenScans.{another_interval, last_interval, interval_of_taken}

-- An interval that fits is read, up to its marker.
pub interval_read : (p : Pass) (turns : List (Via × Block)) (bytes rest : List ℕ) (m : Marker)
    → (w : IntervalFits p turns bytes m rest)
    → interval (blocks_of p predictors_at_start 0 turns) bytes ≡ Ok ((w.blocks, Some m), rest)
unfolding interval TakesBits
interval_read p turns bytes rest m w =
    go (blocks-takes p predictors_at_start 0 turns (text_at bytes).bits (Broken End))
  where
    go : Taken (blocks_of p predictors_at_start 0 turns) (text_at bytes).bits (Broken End)
        → interval (blocks_of p predictors_at_start 0 turns) bytes ≡ Ok ((w.blocks, Some m), rest)
    go (failed g fails) = absurd (no-error g (w.blocks, alone w.left) (sym (fails []) ∙ w.are_read))
    go (gave n x is) =
        let t = text_at bytes in
        let same = ok-parts x w.blocks _ (alone w.left) (sym (is (Broken End) [] (inl refl)) ∙ w.are_read) in
        grind (arith, is t.ending t.following (inr tt), same, w.is_short, w.ends, end-met)

pub interval-written : (p : Pass) (turns : List (Via × Block)) (bytes rest : List ℕ) (m : Marker)
    → (w : IntervalFits p turns bytes m rest) → IsInterval p (numbers_read p turns w.blocks) bytes m rest
interval-written p turns bytes rest m w = search (rules, interval_of_taken)

-- ---- blocks of several intervals

numbers-front : (p : Pass) (turns : List (Via × Block)) (blocks others : List Block) → length blocks ≡ length turns
    → numbers_read p turns (blocks ++ others) ≡ numbers_read p turns blocks
unfolding numbers_read
numbers-front p [] blocks others h = refl
numbers-front p (t ∷ turns) [] others h = absurd (omega arith)
numbers-front p (t ∷ turns) (b ∷ blocks) others h = grind (arith, numbers-front p turns blocks others)

-- ---- the intervals of a scan

restart-named : (k : ℕ) (m : Marker) → is_restart k (Some m) ≡ true → m ≡ RST (k % 8)
restart-named k (RST n) h = ap RST (eqb-true n (k % 8) h)
restart-named k m h = absurd (false≢true h)

-- what is after the first interval, where it ended with this marker
record AfterFirst (k : ℕ) (first blocks : List Block) (m n : Marker) (rest : List ℕ)
    (others : Outcome (List Block × Option Marker)) : Type 0 where
  more : List Block
  are_read : others ≡ Ok ((more, Some n), rest)
  together : first ++ more ≡ blocks
  restart : m ≡ RST (k % 8)

scan-parts : (a b : List Block) (m n : Option Marker) (r s : List ℕ)
    → ◌≡◌ {A = Outcome (List Block × Option Marker)} (Ok ((a, m), r)) (Ok ((b, n), s))
    → (a ≡ b) × (m ≡ n) × (r ≡ s)
scan-parts a b m n r s h = search (rules, ok-same)

-- what an interval and the others after it give, where it ends with RST k
abbrev with_others : ℕ → (List ℕ → Outcome (List Block × Option Marker)) → (List Block × Option Marker) × List ℕ
    → Outcome (List Block × Option Marker)
with_others k others r =
    if is_restart k r.0.1 then (others r.1 >>= λ s. Ok ((r.0.0 ++ s.0.0, s.0.1), s.1)) else Err Malformed

after-first : (k : ℕ) (first blocks : List Block) (m n : Marker) (bytes rest : List ℕ)
    (others : List ℕ → Outcome (List Block × Option Marker))
    → with_others k others ((first, Some m), bytes) ≡ Ok ((blocks, Some n), rest)
    → AfterFirst k first blocks m n rest (others bytes)
after-first k first blocks m n bytes rest others h = search (rules, scan-parts, restart-named)

-- The intervals of a scan that are read, and fit, are written for the blocks read.
pub scan_written : (p : Pass) (k : ℕ) (turns : List (Via × Block)) (more : List (List (Via × Block)))
    (bytes rest : List ℕ) (blocks : List Block) (m : Marker) → IntervalsFit p turns more bytes
    → intervals (blocks_of p predictors_at_start 0) k turns more bytes ≡ Ok ((blocks, Some m), rest)
    → IsIntervals p k (numbers_read p turns blocks) (others_read p turns more blocks) bytes m rest
unfolding intervals others_read
scan_written p k turns more bytes rest blocks m (last turns' bytes' rest' m' w) h =
    let q = scan-parts w.blocks blocks (Some m') (Some m) rest' rest
    (sym (interval_read p turns bytes rest' m' w) ∙ h) in
    last_interval p k (numbers_read p turns blocks) bytes rest m
    (rw (q.0, some-is m' m q.1, q.2) at (interval-written p turns bytes rest' m' w))
scan_written p k turns more bytes rest blocks m (another turns' following others bytes' after m' w fits) h =
    let is = interval_read p turns bytes after m' w in
    let further = intervals (blocks_of p predictors_at_start 0) (suc k) following others in
    let a = after-first k w.blocks blocks m' m after rest further
    (sym (ap (λ o. o >>= with_others k further) is) ∙ h) in
    let long : length w.blocks ≡ length turns
    = subst (Holds (λ (s : List Block × Option Marker). length s.0 ≡ length turns)) is (interval-long p turns bytes) in
    let first : IsInterval p (numbers_read p turns blocks) bytes (RST (k % 8)) after
    = rw (← numbers-front p turns w.blocks a.more long, a.together, a.restart) at (interval-written p turns bytes after m' w) in
    let rest-blocks : a.more ≡ drop (length turns) blocks
    = sym (drop_at w.blocks a.more (length turns) long) ∙ ap (drop (length turns)) a.together in
    another_interval p k (numbers_read p turns blocks) _ _ bytes after rest m first
    (subst (λ (l : List Block). IsIntervals p (suc k) (numbers_read p following l) (others_read p following others l) after m rest)
    rest-blocks (scan_written p (suc k) following others after rest a.more m fits a.are_read))
