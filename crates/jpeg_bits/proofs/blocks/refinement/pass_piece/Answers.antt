use Rattle.jpeg_bits.proofs.blocks.refinement.pass_piece.Goals as goal
use Rattle.std.proofs.Common.{◌+◌, ◌∙◌, arith}
use Rattle.jpeg_bits.specs.BlockView.{pass_in}
use Rattle.jpeg_bits.specs.ZigzagParts.{band_end}
use Rattle.jpeg_bits.proofs.PieceWalks.{at-end, gap-zeros, gap-values, at-skips, at-keeps, at-gap, marks-later}

pub returns-then-index-end-clause-piece : goal.returns-then-index-end-clause-piece
returns-then-index-end-clause-piece c block t long marks zeros =
    let a = c.args.piece in
    let p = pass_in a.pass in
    let l = c.loop-index in
    let end = c.band_end-end.ensures in
    let last = c.requires.pass.end in
    let kept = c.zeros_from-index.result in
    rw end (l.invariant.walk block t long marks zeros
    ∙ at-keeps p.al a.from (band_end p) block (omega (arith, last)) kept l.left l.index t long l.invariant.after
    (omega (arith, end, c.if-index-end.true))
    (gap-values c.args.mask l.index kept block c.ranges.mask.fits (omega (arith, end, last, c.if-index-end.true))
    (marks-later c.args.mask a.from l.index block l.invariant.after marks) c.zeros_from-index.ensures.zeros) zeros
    ∙ at-end p.al l.left a.from (band_end p) (l.index + kept) block t (omega (arith, last))
    (c.if-index-end.true ∙ end))

pub returns-then-left-gap-clause-piece : goal.returns-then-left-gap-clause-piece
returns-then-left-gap-clause-piece c block t long marks zeros =
    let a = c.args.piece in
    let p = pass_in a.pass in
    let l = c.loop-index in
    let end = c.band_end-end.ensures in
    let last = c.requires.pass.end in
    let kept = c.zeros_from-index.result in
    let gap = c.zeros_from-gap.result in
    let inside = c.zeros_from-gap.ensures.within in
    l.invariant.walk block t long marks zeros
    ∙ at-keeps p.al a.from (band_end p) block (omega (arith, last)) kept l.left l.index t long l.invariant.after
    (omega (arith, end, inside))
    (gap-values c.args.mask l.index kept block c.ranges.mask.fits (omega (arith, end, last, inside))
    (marks-later c.args.mask a.from l.index block l.invariant.after marks) c.zeros_from-index.ensures.zeros) zeros
    ∙ at-gap p.al a.from (band_end p) block (omega (arith, last)) gap l.left (l.index + kept) t
    (omega (arith, l.invariant.after)) (omega (arith, end, inside)) c.if-left-gap.true
    (gap-zeros c.args.mask (l.index + kept) gap block (omega (arith, end, last, inside))
    (marks-later c.args.mask a.from (l.index + kept) block (omega (arith, l.invariant.after)) marks)
    c.zeros_from-gap.ensures.zeros)

pub loop-index-preserved : goal.loop-index-preserved
loop-index-preserved c =
    let a = c.args.piece in
    let p = pass_in a.pass in
    let l = c.loop-index in
    let end = c.band_end-end.ensures in
    let last = c.requires.pass.end in
    let kept = c.zeros_from-index.result in
    let gap = c.zeros_from-gap.result in
    let inside = c.zeros_from-gap.ensures.within in
    record {
      after = omega (arith, l.invariant.after);
      within = omega (arith, end, inside);
      walk = λ block t long marks zeros.
          l.invariant.walk block t long marks zeros
          ∙ at-keeps p.al a.from (band_end p) block (omega (arith, last)) kept l.left l.index t long l.invariant.after
          (omega (arith, end, inside))
          (gap-values c.args.mask l.index kept block c.ranges.mask.fits (omega (arith, end, last, inside))
          (marks-later c.args.mask a.from l.index block l.invariant.after marks) c.zeros_from-index.ensures.zeros)
          zeros
          ∙ at-skips p.al a.from (band_end p) block (omega (arith, last)) gap l.left (l.index + kept) t
          (omega (arith, l.invariant.after)) (omega (arith, end, inside)) (omega (arith, c.if-left-gap.false))
          (gap-zeros c.args.mask (l.index + kept) gap block (omega (arith, end, last, inside))
          (marks-later c.args.mask a.from (l.index + kept) block (omega (arith, l.invariant.after)) marks)
          c.zeros_from-gap.ensures.zeros);
    }
