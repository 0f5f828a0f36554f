use Rattle.jpeg_bits.proofs.blocks.tokens.read_first_coefficients.Goals as goal
use Rattle.std.proofs.Common.{◌+◌, ◌-◌, ◌%◌, ◌<◌, ◌≤◌, ◌∙◌, length-set, refl, sym, FitsSigned, w16, rules, arith}
use Rattle.std.proofs.lemmas.Int.{to_z-of_z}
use Rattle.jpeg_bits.proofs.BlockParts.{index-value, index-sixteen, index-all, index-last, index-refused, index-none}
use Rattle.jpeg_bits.proofs.PairEntries.{pair-found, end-found, index-entry, index-alone}
use Rattle.jpeg_bits.specs.ShortCodes.{next_bits}
use Rattle.jpeg_bits.proofs.ZigzagIndices.{kept-set}

pub returns-in_default-clause-band : goal.returns-in_default-clause-band
returns-in_default-clause-band g c =
    let l = c.loop-at in
    index-refused _ _ _ _ _ _ c.read_token.new.buffered _ l.source c.fill.new.source c.read_token.new.source _ _ _
    c.requires.pass c.band_end-end.ensures l.invariant.from c.loop-at-test.true l.invariant.text
    c.if-not-fill.ensures.holds _ c.in_default.ensures.token

pub loop-at-preserved-in-Value : goal.loop-at-preserved-in-Value
loop-at-preserved-in-Value g c =
    let l = c.loop-at in
    let back = to_z-of_z w16 c.shifted-in-Value.result (record { sfits = c.shifted-in-Value.type_inv }) in
    let room : c.in-Value.run' < c.band_end-end.result - l.at = rw c.in-Value.is at c.in-Some.ensures.room in
    let fits : FitsSigned w16 c.in-Value.value = search rules in
    let is = rw (to_z-of_z w16 c.in-Value.value fits) at c.shifted-in-Value.ensures in
    let end = c.band_end-end.ensures in
    let last = c.requires.pass.end in
    let from = l.invariant.from in
    let index = rw c.from-at.ensures at c.index_of-in-Value.ensures.value in
    rw (c.from-at.ensures, back, index) record {
      len = length-set _ _ _ ∙ l.invariant.len;
      from = omega arith;
      text = index-value _ _ _ _ _ _ _ c.args.source.now l.source c.fill.new.source c.read_token.new.source _ _ _
          c.requires.pass c.band_end-end.ensures l.invariant.from c.loop-at-test.true l.invariant.text
          c.if-not-fill.ensures.holds _ _ _ _ l.invariant.len room is c.in-Some.ensures.token c.in-Value.is;
      others = kept-set _ _ (l.at + c.in-Value.run') _ _ _ l.invariant.len (omega arith) (omega arith)
          (omega arith) l.invariant.others;
    }

pub loop-at-preserved-then-end-at-gt16 : goal.loop-at-preserved-then-end-at-gt16
loop-at-preserved-then-end-at-gt16 g c =
    let end = c.band_end-end.ensures in
    let from = c.loop-at.invariant.from in
    record {
      len = c.loop-at.invariant.len;
      from = omega arith;
      text = index-sixteen _ _ _ _ _ _ _ _ c.loop-at.source c.fill.new.source _ _ _ _
          c.requires.pass c.band_end-end.ensures c.loop-at.invariant.from c.loop-at-test.true c.loop-at.invariant.text
          c.if-not-fill.ensures.holds _ c.in-Some.ensures.token c.in-Sixteen.is;
      others = c.loop-at.invariant.others;
    }

pub loop-at-preserved : goal.loop-at-preserved
loop-at-preserved g c =
    let end = c.band_end-end.ensures in
    let from = c.loop-at.invariant.from in
    let few = c.if-end-at-gt16.false in
    record {
      len = c.loop-at.invariant.len;
      from = omega arith;
      text = index-all _ _ _ _ _ _ _ c.args.source.now c.loop-at.source c.fill.new.source c.read_token.new.source _ _ _
          c.requires.pass c.band_end-end.ensures c.loop-at.invariant.from c.loop-at-test.true c.loop-at.invariant.text
          c.if-not-fill.ensures.holds (omega arith) _ c.in-Some.ensures.token c.in-Sixteen.is;
      others = c.loop-at.invariant.others;
    }

pub returns-in-Rest-clause-band : goal.returns-in-Rest-clause-band
returns-in-Rest-clause-band g c =
    let l = c.loop-at in
    index-last _ _ _ _ _ _ _ c.args.source.now l.source c.fill.new.source c.read_token.new.source _ _ _
    c.requires.pass c.band_end-end.ensures l.invariant.from c.loop-at-test.true l.invariant.text
    c.if-not-fill.ensures.holds _ _ c.in-Some.ensures.token (rw c.in-Rest.is refl)

pub returns-in-Overlong-clause-band : goal.returns-in-Overlong-clause-band
returns-in-Overlong-clause-band g c =
    let l = c.loop-at in
    index-last _ _ _ _ _ _ _ c.args.source.now l.source c.fill.new.source c.read_token.new.source _ _ _
    c.requires.pass c.band_end-end.ensures l.invariant.from c.loop-at-test.true l.invariant.text
    c.if-not-fill.ensures.holds _ 0 c.in-Some.ensures.token (rw c.in-Overlong.is refl)

pub returns-clause-band : goal.returns-clause-band
returns-clause-band g c =
    let end = c.band_end-end.ensures in
    let stop = c.loop-at-test.false in
    index-none _ _ _ _ _ c.args.source.now c.loop-at.source _ _ c.requires.pass (omega arith) c.loop-at.invariant.text

pub loop-at-preserved-then-has : goal.loop-at-preserved-then-has
loop-at-preserved-then-has g c =
    let l = c.loop-at in
    let d = c.fill.new.self in
    let pair = c.next_pair-pair.result in
    let end = c.band_end-end.ensures in
    let last = c.requires.pass.end in
    let from = l.invariant.from in
    let fits = c.if-passed-end.true in
    let is = c.from-passed.ensures in
    let run = c.next_pair-pair.ensures.small.first in
    let next = c.next_pair-pair.ensures.small.second in
    let found = pair-found c.args.table.now (next_bits 11 d.bits) pair c.next_pair-pair.ensures.pair (omega arith) in
    let back = to_z-of_z w16 c.shifted.result (record { sfits = c.shifted.type_inv }) in
    let back' = to_z-of_z w16 c.shifted-then-has.result (record { sfits = c.shifted-then-has.type_inv }) in
    let fit : FitsSigned w16 pair.first = search rules in
    let fit' : FitsSigned w16 pair.second = search rules in
    let index = rw c.from.ensures at c.index_of.ensures.value in
    let index' = rw c.from-then-has.ensures at c.index_of-then-has.ensures.value in
    let value = rw (to_z-of_z w16 pair.first fit) at c.shifted.ensures in
    let value' = rw (to_z-of_z w16 pair.second fit') at c.shifted-then-has.ensures in
    let enough = rw c.from-count.ensures at c.if-has.ensures in
    let taken = rw c.from-count.ensures at c.skip.ensures.bits in
    let filled = c.if-not-fill.ensures.full refl in
    let room : l.at + pair.passed % 128 ≤ c.band_end-end.result = omega arith in
    rw (is, back, back', index, index') record {
      len = length-set _ _ _ ∙ length-set _ _ _ ∙ l.invariant.len;
      from = omega arith;
      text = index-entry c.args.table.now c.next_pair-pair.ensures.counted d filled c.fill.new.source _ _ _ _
          c.args.source.now l.source _ _ _ c.requires.pass end from l.invariant.len l.invariant.text
          c.if-not-fill.ensures.holds pair found room enough c.skip.new.self taken c.skip.ensures.met _ _ value value';
      others = kept-set _ _ (l.at + pair.next) _ _ _
          (length-set _ _ _ ∙ l.invariant.len) (omega arith) (omega arith) (omega arith)
          (kept-set _ _ (l.at + pair.run) _ _ _ l.invariant.len (omega arith) (omega arith) (omega arith)
          l.invariant.others);
    }

pub returns-then-has-2-clause-band : goal.returns-then-has-2-clause-band
returns-then-has-2-clause-band g c =
    let l = c.loop-at in
    let d = c.fill.new.self in
    let pair = c.next_pair-pair.result in
    let end = c.band_end-end.ensures in
    let from = l.invariant.from in
    let alone = sym c.from-passed.ensures ∙ c.if-passed-eq127.true in
    let found = end-found c.args.table.now (next_bits 11 d.bits) pair c.next_pair-pair.ensures.pair alone in
    let enough = rw c.from-count.ensures at c.if-has-2.ensures in
    let taken = rw c.from-count.ensures at c.skip-then-has-2.ensures.bits in
    let filled = c.if-not-fill.ensures.full refl in
    index-alone c.args.table.now c.next_pair-pair.ensures.counted d filled c.fill.new.source _ _ _ _
    c.args.source.now l.source _ _ _ c.requires.pass end from l.invariant.len l.invariant.text
    c.if-not-fill.ensures.holds pair.bits found c.loop-at-test.true enough c.skip-then-has-2.new.self taken
    c.skip-then-has-2.ensures.met
