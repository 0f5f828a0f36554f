use Rattle.jpeg_bits.proofs.blocks.refinement.correct_piece.Goals as goal
use Rattle.std.proofs.Common.{List, ◌≡◌, ◌-◌, ◌+◌, ◌<◌, ◌≤◌, ℤ, ℕ, pos, get_or, length-set, ◌∙◌, ap}
use Rattle.std.proofs.Common.{sym, w16, SFits, arith, rules}
use Rattle.std.proofs.lemmas.Int.{to_z-of_z}
use Rattle.std.specs.Int.{cast_signed, cast_unsigned}
use Rattle.jpeg_bits.specs.Entropy.{Text}
use Rattle.jpeg_bits.specs.Pieces.{piece_from, corrected_from}
use Rattle.jpeg_bits.specs.BlockView.{pass_in}
use Rattle.jpeg_bits.specs.ZigzagParts.{band_end, rest_in}
use Rattle.jpeg_bits.proofs.BandSteps.{Leaves-ok, Leaves-err, Leaves-end}
use Rattle.jpeg_bits.proofs.PieceWalks.{walk_at, at-value, at-refused, gap-zeros, at-skips, at-gap}
use Rattle.jpeg_bits.proofs.PieceWalks.{at-last-gap, marks-set, marks-later}
use Rattle.jpeg_bits.proofs.ZigzagIndices.{kept-set}

pub returns-then-left-gap-clause-piece : goal.returns-then-left-gap-clause-piece
returns-then-left-gap-clause-piece g c =
    let a = c.args.piece in
    let end = band_end (pass_in a.pass) in
    let l = c.loop-index in
    let is = c.band_end-end.ensures in
    let last = c.requires.pass.end in
    let gap = c.zeros_from-gap.result in
    let inside = c.zeros_from-gap.ensures.within in
    Leaves-end (λ (y : ℕ × List ℤ). y) (piece_from a.pass.al a.zeros (rest_in (pass_in a.pass) a.from c.args.block.now))
    _ c.args.buffered.now _ c.args.source.now l.source _
    (λ t. at-gap a.pass.al a.from end l.block (omega arith) gap l.left l.index t l.invariant.after (omega arith)
    c.if-left-gap.true (gap-zeros c.args.mask l.index gap l.block (omega arith) l.invariant.marks
    c.zeros_from-gap.ensures.zeros)) l.invariant.walk

pub returns-then-index-end-clause-piece : goal.returns-then-index-end-clause-piece
returns-then-index-end-clause-piece g c =
    let a = c.args.piece in
    let end = band_end (pass_in a.pass) in
    let l = c.loop-index in
    let is = c.band_end-end.ensures in
    let last = c.requires.pass.end in
    let gap = c.zeros_from-gap.result in
    let inside = c.zeros_from-gap.ensures.within in
    let met = c.if-index-end.true in
    let few = c.if-left-gap.false in
    rw is (Leaves-end (λ (y : ℕ × List ℤ). y)
    (piece_from a.pass.al a.zeros (rest_in (pass_in a.pass) a.from c.args.block.now))
    _ c.args.buffered.now _ c.args.source.now l.source _
    (λ t. at-last-gap a.pass.al a.from end l.block (omega arith) gap l.left l.index t l.invariant.after (omega arith)
    (omega arith) (gap-zeros c.args.mask l.index gap l.block (omega arith) l.invariant.marks
    c.zeros_from-gap.ensures.zeros)) l.invariant.walk)

-- at the coefficient after the gap
pub returns-in_default-clause-piece : goal.returns-in_default-clause-piece
returns-in_default-clause-piece g c =
    let a = c.args.piece in
    let p = pass_in a.pass in
    let l = c.loop-index in
    let end = c.band_end-end.ensures in
    let last = c.requires.pass.end in
    let gap = c.zeros_from-gap.result in
    let inside = c.zeros_from-gap.ensures.within in
    let next = l.index + gap in
    let x = get_or l.block c.index_of-at.result (pos 0) in
    let f : SFits w16 x = search rules in
    let s : cast_signed w16 (cast_unsigned w16 x) ≡ x = to_z-of_z w16 x f in
    let after : a.from ≤ next = omega (arith, l.invariant.after) in
    let before : next < band_end p = omega (arith, end, inside, c.if-index-end.false) in
    let set = c.zeros_from-gap.ensures.stop (omega (arith, end, before)) in
    let is = c.index_of-at.ensures.value in
    let some : x ≡ pos 0 → ⊥ = λ h. l.invariant.marks.values next (omega arith) (omega (arith, last, before)) set
    (ap (λ (i : ℕ). get_or l.block i (pos 0)) (sym is) ∙ h) in
    let skips = λ (t : Text). at-skips p.al a.from (band_end p) l.block (omega (arith, last)) gap l.left l.index t
    l.invariant.after (omega (arith, end, inside)) (omega (arith, c.if-left-gap.false))
    (gap-zeros c.args.mask l.index gap l.block (omega (arith, end, last, inside)) l.invariant.marks
    c.zeros_from-gap.ensures.zeros) in
    (Leaves-err (λ (next : ℕ). (next - a.from, rest_in p a.from l.block)) (λ (v : ℤ). v)
    (piece_from p.al a.zeros (rest_in p a.from c.args.block.now))
    (walk_at p.al l.left a.from (band_end p) l.block l.index)
    (corrected_from p.al (cast_signed w16 (cast_unsigned w16 x))) c.args.buffered.now l.buffered
    c.correct.new.buffered c.args.source.now l.source c.correct.new.source _
    (λ t f e. skips t ∙ at-refused p.al (l.left - gap) a.from (band_end p) next c.index_of-at.result l.block
    (omega (arith, last)) after before is (cast_signed w16 (cast_unsigned w16 x)) t f some s e)
    l.invariant.walk c.in_default.ensures.index)

pub loop-index-preserved : goal.loop-index-preserved
loop-index-preserved g c =
    let a = c.args.piece in
    let p = pass_in a.pass in
    let l = c.loop-index in
    let end = c.band_end-end.ensures in
    let last = c.requires.pass.end in
    let gap = c.zeros_from-gap.result in
    let inside = c.zeros_from-gap.ensures.within in
    let next = l.index + gap in
    let x = get_or l.block c.index_of-at.result (pos 0) in
    let f : SFits w16 x = search rules in
    let s : cast_signed w16 (cast_unsigned w16 x) ≡ x = to_z-of_z w16 x f in
    let after : a.from ≤ next = omega (arith, l.invariant.after) in
    let before : next < band_end p = omega (arith, end, inside, c.if-index-end.false) in
    let set = c.zeros_from-gap.ensures.stop (omega (arith, end, before)) in
    let is = c.index_of-at.ensures.value in
    let some : x ≡ pos 0 → ⊥ = λ h. l.invariant.marks.values next (omega arith) (omega (arith, last, before)) set
    (ap (λ (i : ℕ). get_or l.block i (pos 0)) (sym is) ∙ h) in
    let skips = λ (t : Text). at-skips p.al a.from (band_end p) l.block (omega (arith, last)) gap l.left l.index t
    l.invariant.after (omega (arith, end, inside)) (omega (arith, c.if-left-gap.false))
    (gap-zeros c.args.mask l.index gap l.block (omega (arith, end, last, inside)) l.invariant.marks
    c.zeros_from-gap.ensures.zeros) in
    let y = cast_signed w16 (cast_unsigned w16 c.in-Some.corrected) in
    record {
      len = length-set _ _ _ ∙ l.invariant.len;
      after = omega (arith, after);
      within = omega (arith, before);
      walk = grind (arith, Leaves-ok, walk_at, w16, at-value, to_z-of_z);
      others = rw is (kept-set a.from (band_end p) next c.args.block.now l.block y l.invariant.len after before
          (omega (arith, last)) l.invariant.others);
      marks = rw is (marks-set c.args.mask next (next + 1) l.block y l.invariant.len (omega arith)
          (omega (arith, last, before))
          (marks-later c.args.mask l.index (next + 1) l.block (omega arith) l.invariant.marks));
    }
