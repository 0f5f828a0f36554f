use Rattle.std.proofs.Common.{◌≡◌, ℕ, drop, suc, ◌+◌, ◌-◌, ◌≤◌, ◌++◌, sym, ap, ◌∙◌, arith}
use Rattle.std.proofs.Common.{subst, length}
use Rattle.jpeg_bits.specs.Passes.{band_of}
use Rattle.zaxbriar_strict.specs.BandCodes.{AreCorrections, Refines, RefinesCodes}
use Rattle.zaxbriar_strict.specs.Loaded.{data_of}
use Rattle.zaxbriar_strict.specs.declared.bits.Bits.{Bits}
use Rattle.zaxbriar_strict.specs.Sent.{AllInner, scaled_by}
use Rattle.zaxbriar_strict.specs.Tables.{codes_in}
use Rattle.zaxbriar_strict.proofs.RefinedBands.{before-place, from-place, inner-others, left-over}
use Rattle.zaxbriar_strict.proofs.SentBands.{before-long, before_in, behind_in, kept-inner, kept-long, parts-of}
use Rattle.zaxbriar_strict.proofs.SentBands.{sent-all, sent-corrected, sent-ended}
use Rattle.zaxbriar_strict.proofs.blocks.Band.refine_ac.Goals as goal
use Rattle.zaxbriar_strict.proofs.blocks.Band.refine_ac.Goals.{then-run-eq0+in_ok-place, else-run-eq0}

pub returns-in_ok-correct_rest : goal.returns-in_ok-correct_rest
returns-in_ok-correct_rest c = record {
  sent = λ p is some order first kept was inner class.
      let low = c.args.self.now.low in
      let last = c.args.self.now.last in
      let block = c.args.block.now in
      let table = codes_in class c.args.table.now in
      let long = c.told-block in
      let b_first = is.first in
      let b_last = is.last in
      let within = c.args.self.now.within in
      let most : p.se ≤ 63 = omega (arith, b_last, within) in
      let was_low : band_of p (drop 1 block) ≡ scaled_by (suc low) kept = was ∙ ap (λ (k : ℕ). scaled_by (suc k) kept)
      (sym is.low) in
      let front = before-long p block long some order most in
      let size = kept-long p (suc low) block kept long some order most was_low in
      let sized : c.args.self.now.first + length kept ≡ suc last = omega (arith, size, b_first, b_last, some, order) in
      let parts = parts-of p block (scaled_by (suc low) kept) long was_low in
      let middle : AllInner c.if-run-eq0.block = c.in_ok-correct_rest.ensures.inner inner in
      elim c.if-run-eq0.branch [
        | then-run-eq0+in_ok-place w ↦
            let none = w.if-run-eq0.true in
            let old : AllInner block = w.in_ok-place.ensures.inner (rw w.block-is at middle) in
            let kept_inner = kept-inner p block (scaled_by (suc low) kept) long was_low old in
            let r : Refines (RefinesCodes table (suc last - c.if-run-eq0.place) c.if-run-eq0.run) low c.if-run-eq0.place
            (before_in p block)
            kept (behind_in p block) c.if-run-eq0.block (data_of c.args.bits.now) (data_of c.if-run-eq0.bits) =
            rw (w.place-is, w.run-is, w.block-is, w.bits-is) (w.in_ok-place.ensures.sent none (before_in p block) kept
            (behind_in p block)
            (front ∙ sym b_first) sized kept_inner parts class) in
            let s = c.in_ok-correct_rest.ensures.sent (before_in p block ++ scaled_by low r.numbers) r.others (behind_in p block)
            (before-place low c.if-run-eq0.place (before_in p block) r.numbers r.sized)
            (left-over (suc last) c.args.self.now.first r (front ∙ sym b_first) sized) (inner-others r kept_inner)
            (from-place r) in
            rw none (sent-ended p c.if-run-eq0.run is.low is.last long first some order most was_low r s)
        | else-run-eq0 w ↦
            let on = w.if-run-eq0.false in
            let old : AllInner block = rw w.block-is at middle in
            let kept_inner = kept-inner p block (scaled_by (suc low) kept) long was_low old in
            let s = c.in_ok-correct_rest.ensures.sent (before_in p block) kept (behind_in p block)
            (front ∙ sym b_first ∙ sym w.place-is)
            (ap (λ (k : ℕ). k + length kept) w.place-is ∙ sized) kept_inner (w.block-is ∙ parts) in
            rw w.run-is (sent-corrected p table is.low is.last long first some order most (omega (arith, on)) was_low
            (subst (λ (b : Bits). Refines AreCorrections low (suc last) (before_in p block) kept
            (behind_in p block) c.correct_rest.new.block
            (data_of b) (data_of c.correct_rest.new.bits)) w.bits-is s))
      ];
}

pub returns-else-run-gt0 : goal.returns-else-run-gt0
returns-else-run-gt0 c = record {
  sent = λ p is some order first kept was inner class.
      let low = c.args.self.now.low in
      let last = c.args.self.now.last in
      let block = c.args.block.now in
      let table = codes_in class c.args.table.now in
      let long = c.told-block in
      let b_first = is.first in
      let b_last = is.last in
      let within = c.args.self.now.within in
      let most : p.se ≤ 63 = omega (arith, b_last, within) in
      let was_low : band_of p (drop 1 block) ≡ scaled_by (suc low) kept = was ∙ ap (λ (k : ℕ). scaled_by (suc k) kept)
      (sym is.low) in
      let front = before-long p block long some order most in
      let size = kept-long p (suc low) block kept long some order most was_low in
      let sized : c.args.self.now.first + length kept ≡ suc last = omega (arith, size, b_first, b_last, some, order) in
      let parts = parts-of p block (scaled_by (suc low) kept) long was_low in
      let over = c.if-run-gt0.false in
      elim c.if-run-eq0.branch [
        | then-run-eq0+in_ok-place w ↦
            let none = w.if-run-eq0.true in
            let old : AllInner block = w.in_ok-place.ensures.inner (rw w.block-is at inner) in
            let kept_inner = kept-inner p block (scaled_by (suc low) kept) long was_low old in
            let r : Refines (RefinesCodes table (suc last - c.if-run-eq0.place) c.if-run-eq0.run) low c.if-run-eq0.place
            (before_in p block)
            kept (behind_in p block) c.if-run-eq0.block (data_of c.args.bits.now) (data_of c.if-run-eq0.bits) =
            rw (w.place-is, w.run-is, w.block-is, w.bits-is) (w.in_ok-place.ensures.sent none (before_in p block) kept
            (behind_in p block)
            (front ∙ sym b_first) sized kept_inner parts class) in
            let ended : c.if-run-eq0.run ≡ 0 = omega (arith, over) in
            let above = w.in_ok-place.ensures.all (sym w.run-is ∙ ended) in
            let up = w.in_ok-place.ensures.within (omega (arith, sized)) in
            let place = w.place-is in
            rw none (sent-all p is.low is.last long first some order most ended (omega (arith, above, up, place)) was_low r)
        | else-run-eq0 w ↦ absurd (w.if-run-eq0.false (let run = w.run-is in omega (arith, run, over)))
      ];
}
