use Rattle.std.proofs.Common.{ℕ, ℤ, List, [], ◌∷◌, ◌≤◌, sym, ap, ◌∙◌, arith, append-nil}
use Rattle.jpeg_bits.specs.Passes.{band_size}
use Rattle.jpeg_meaning.specs.WrittenData.{no_numbers}
use Rattle.zaxbriar_strict.specs.Tables.{codes_in}
use Rattle.zaxbriar_strict.proofs.Bands.{whole-codes}
use Rattle.zaxbriar_strict.proofs.SentBands.{before-long, before_in, behind_in, parts-of, sent-codes}
use Rattle.zaxbriar_strict.proofs.SentBands.{sent-within}
use Rattle.zaxbriar_strict.proofs.Taken.{takes-none}
use Rattle.zaxbriar_strict.proofs.blocks.Band.read_ac.Goals as goal
use Rattle.zaxbriar_strict.proofs.blocks.Band.read_ac.Goals.{then-run-eq0+in_ok-read_codes, else-run-eq0}

pub returns-clause-written : goal.returns-clause-written
returns-clause-written c = λ whole none dc n h e class. elim c.if-run-eq0.branch [
  | then-run-eq0+in_ok-read_codes w ↦
      let first = whole.first in
      let last = whole.last in
      let max = w.max.ensures in
      let parts = e ∙ ap (λ (k : ℕ). dc ∷ no_numbers k) h ∙ ap (λ (l : List ℤ). dc ∷ l) (sym (append-nil (no_numbers 63))) in
      let r = w.in_ok-read_codes.ensures.sent none 63 (dc ∷ []) [] (omega (arith, first, max))
      (omega (arith, first, max, last)) parts
      class in
      rw (w.block-is, w.bits-is) (whole-codes whole.low (w.in_ok-read_codes.ensures.one none whole.sequential) r)
  | else-run-eq0 w ↦ absurd (w.if-run-eq0.false none)
]

pub returns-clause-sent : goal.returns-clause-sent
returns-clause-sent c = λ p is some order first kept class. elim c.if-run-eq0.branch [
  | then-run-eq0+in_ok-read_codes w ↦
      let b_first = is.first in
      let b_last = is.last in
      let within = c.args.self.now.within in
      let max = w.max.ensures in
      let none = w.if-run-eq0.true in
      let long = c.told-block in
      let block = c.args.block.now in
      let front = before-long p block long some order (omega (arith, b_last, within)) in
      let parts = parts-of p block (no_numbers (band_size p)) long kept in
      let r = w.in_ok-read_codes.ensures.sent none (band_size p) (before_in p block) (behind_in p block)
      (omega (arith, front, b_first, max, some)) (omega (arith, b_first, max, b_last, some, order)) parts class in
      rw (w.block-is, w.bits-is, none, c.saturating_sub.ensures, w.run-is) (sent-codes p is.low first some order kept r)
  | else-run-eq0 w ↦
      let on = w.if-run-eq0.false in
      let run : 1 ≤ c.args.run.now = omega (arith, on) in
      rw (w.block-is, w.bits-is, c.saturating_sub.ensures, w.run-is)
      (sent-within p (codes_in class c.args.table.now) c.args.run.now c.args.block.now _ c.told-block first some order run kept
      (takes-none _))
]
