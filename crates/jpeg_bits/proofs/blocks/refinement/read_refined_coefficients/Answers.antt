use Rattle.jpeg_bits.proofs.blocks.refinement.read_refined_coefficients.Goals as goal
use Rattle.jpeg_bits.specs.Bands.{Band}
use Rattle.std.proofs.Common.{◌≡◌, ◌-◌, ◌<◌, ◌≤◌, length, length-set, ◌∙◌, refl, sym, w16, arith, rules}
use Rattle.std.proofs.lemmas.Int.{to_z-of_z}
use Rattle.std.specs.Int.{cast_signed, cast_unsigned}
use Rattle.jpeg_bits.specs.BlockView.{pass_in}
use Rattle.jpeg_bits.specs.ZigzagParts.{band_end, KeepsOthers}
use Rattle.jpeg_bits.proofs.RefinedBands.{from-start, at-last, token-refused, piece-refused}
use Rattle.jpeg_bits.proofs.RefinedBands.{zeros-read, new-read, end-read, refined_from, zeros_of}
use Rattle.jpeg_bits.proofs.BandSteps.{Leaves-end}
use Rattle.jpeg_bits.proofs.PieceWalks.{marks-later, marks-set}
use Rattle.jpeg_bits.proofs.ZigzagIndices.{kept-same, kept-set, kept-rest}

pub loop-index-init : goal.loop-index-init
loop-index-init g c =
    let order = c.requires.order in
    rw c.band_start-index.ensures record {
      len = search rules;
      from = omega arith;
      within = omega arith;
      rest = (refl, λ k. (k, sym (from-start _ (pass_in c.args.pass) _ _)));
      others = kept-same _ _ _;
      marks = marks-later _ 0 _ _ (omega arith) c.mask_of-mask.ensures;
    }

pub returns-in_default-clause-reads : goal.returns-in_default-clause-reads
returns-in_default-clause-reads g c = search (rules, token-refused c.args.table.now (pass_in c.args.pass))

pub returns-in_default-correct_piece-clause-reads : goal.returns-in_default-correct_piece-clause-reads
returns-in_default-correct_piece-clause-reads g c =
    let zeros : zeros_of (c.band_end-end.result - c.loop-index.index) c.in-Some.token ≡ 15 = rw c.in-Zeros.is refl in
    search (rules, piece-refused c.args.table.now (pass_in c.args.pass))

pub returns-in_default-correct_piece-clause-others : goal.returns-in_default-correct_piece-clause-others
returns-in_default-correct_piece-clause-others g c = search (rules, kept-rest)

pub loop-index-preserved-in-Zeros : goal.loop-index-preserved-in-Zeros
loop-index-preserved-in-Zeros g c =
    let within = c.in-Some-correct_piece.ensures.within in
    record {
      len = search rules;
      from = omega (arith, within.0, c.loop-index.invariant.from);
      within = within.1;
      rest = search (rules, zeros-read c.args.table.now (pass_in c.args.pass));
      others = search (rules, kept-rest);
      marks = c.in-Some-correct_piece.ensures.mask;
    }

pub returns-in_default-correct_piece-2-clause-reads : goal.returns-in_default-correct_piece-2-clause-reads
returns-in_default-correct_piece-2-clause-reads g c =
    let zeros : zeros_of (c.band_end-end.result - c.loop-index.index) c.in-Some.token ≡ c.from-zeros.result
    = rw c.in-New.is (sym c.from-zeros.ensures) in
    search (rules, piece-refused c.args.table.now (pass_in c.args.pass))

pub returns-in_default-correct_piece-2-clause-others : goal.returns-in_default-correct_piece-2-clause-others
returns-in_default-correct_piece-2-clause-others g c = search (rules, kept-rest)

pub loop-index-preserved : goal.loop-index-preserved
loop-index-preserved g c =
    let from = c.loop-index.invariant.from in
    let test = c.loop-index-test.true in
    let end = c.band_end-end.ensures in
    let last = c.requires.end in
    let next = c.in-Some-correct_piece-2.next in
    let within = c.in-Some-correct_piece-2.ensures.within in
    let more : c.loop-index.index < next = within.2 (omega arith) in
    let most : next ≤ band_end (pass_in c.args.pass) = within.1 in
    let n : length c.correct_piece-in-New.new.block ≡ 64 = search rules in
    let v : cast_signed w16 (cast_unsigned w16 c.in-New.value) ≡ c.in-New.value = to_z-of_z w16 _ (search rules) in
    let kept : KeepsOthers (pass_in c.args.pass) c.args.block.now c.correct_piece-in-New.new.block =
    search (rules, kept-rest) in
    rw (v, c.index_of.ensures.value) record {
      len = length-set _ _ _ ∙ n;
      from = omega arith;
      within = most;
      rest = new-read _ _ _ _ _ _ c.args.source.now c.loop-index.source c.read_refinement.new.source _ _ _ c.requires
          c.band_end-end.ensures c.loop-index.invariant.from c.loop-index-test.true c.loop-index.invariant.rest
          _ c.correct_piece-in-New.new.source _
          c.in-Some.ensures.token _ _
          c.in-Some-correct_piece-2.ensures.others _ _ _ c.from-zeros.ensures n more most c.in-New.is
          c.in-Some-correct_piece-2.ensures.piece;
      others = kept-set _ _ (next - 1) _ _ _ n (omega arith) (omega arith) (omega arith) kept;
      marks = marks-set _ (next - 1) _ _ _ n (omega arith) (omega arith) c.in-Some-correct_piece-2.ensures.mask;
    }

pub returns-in-Some-correct_piece-3-clause-reads : goal.returns-in-Some-correct_piece-3-clause-reads
returns-in-Some-correct_piece-3-clause-reads g c =
    end-read _ _ _ _ _ _ c.args.source.now c.loop-index.source c.read_refinement.new.source _ _ _ c.requires
    c.band_end-end.ensures c.loop-index.invariant.from c.loop-index-test.true c.loop-index.invariant.rest _
    c.correct_piece-in-End.new.source _
    c.in-Some.ensures.token _ _ c.in-Some-correct_piece-3.ensures.others _ c.in-End.is
    c.in-Some-correct_piece-3.ensures.piece

pub returns-in-Some-correct_piece-3-clause-others : goal.returns-in-Some-correct_piece-3-clause-others
returns-in-Some-correct_piece-3-clause-others g c = search (rules, kept-rest)

pub returns-in-None-clause-reads : goal.returns-in-None-clause-reads
returns-in-None-clause-reads g c =
    let rest = c.band_end-end.result - c.loop-index.index in
    let zeros : zeros_of rest c.in-Some.token ≡ rest = rw c.in-End.is refl in
    search (rules, piece-refused c.args.table.now (pass_in c.args.pass))

pub returns-in-None-clause-others : goal.returns-in-None-clause-others
returns-in-None-clause-others g c = search (rules, kept-rest)

pub returns-clause-reads : goal.returns-clause-reads
returns-clause-reads g c =
    let end = c.band_end-end.ensures in
    let stop = c.loop-index-test.false in
    let last : band_end (pass_in c.args.pass) ≤ c.loop-index.index = omega arith in
    Leaves-end (λ (y : Band). y) (refined_from c.args.table.now (pass_in c.args.pass) c.args.block.now) _
    c.args.buffered.now _ c.args.source.now _ _ (λ t. at-last c.args.table.now (pass_in c.args.pass) _ _ _
    c.requires last) c.loop-index.invariant.rest
