use Rattle.std.proofs.Common.{◌≡◌, ◌+◌, ◌++◌, ◌≤◌, ℕ, List, arith, subst, sym, ◌∙◌, ap, append-nil, append_assoc}
use Rattle.zaxbriar_strict.specs.Changes.{Place, kept_in}
use Rattle.zaxbriar_strict.specs.Contexts.{row_places, unit_places}
use Rattle.zaxbriar_strict.specs.Heads.{members_of}
use Rattle.zaxbriar_strict.specs.Runs.{IsAfter}
use Rattle.zaxbriar_strict.proofs.Places.{flat-more}
use Rattle.zaxbriar_strict.proofs.SameFrames.{kept-none, kept-places, kept-then, kept-unit}
use Rattle.zaxbriar_strict.proofs.transform.Context.read_row.Goals as goal

pub loop-column-init : goal.loop-column-init
loop-column-init c = record {
  kept = kept-none c.args.frame.now;
  read = λ p vias unit every bytes count places from x wide high u a.
      let e : count ≡ count + 0 = omega arith in
      let k = c.args.self.now.is_progressive in
      let to = kept_in c.args.frame.now.components.items in
      subst (λ (l : List Place). IsAfter k p unit every bytes (count + 0) l from to c.args.intervals.now c.args.past.now)
      (sym (append-nil places))
      (subst (λ (n : ℕ). IsAfter k p unit every bytes n places from to c.args.intervals.now c.args.past.now) e a);
}

pub returns-in_err-read_next-clause-kept : goal.returns-in_err-read_next-clause-kept
returns-in_err-read_next-clause-kept c = kept-then c.loop-column.invariant.kept c.in_err-read_next.ensures.kept

pub loop-column-preserved : goal.loop-column-preserved
loop-column-preserved c = record {
  kept = kept-then c.loop-column.invariant.kept c.in_ok-read_next.ensures.kept;
  read = λ p vias unit every bytes count places from x wide high u a.
      let i = c.loop-column.invariant in
      let scan = c.args.self.now.scan.now in
      let ms = members_of scan in
      let cs = c.args.frame.now.components.items in
      let k = c.args.self.now.is_progressive in
      let to = kept_in c.read_next.new.frame.components.items in
      let column = c.loop-column.column in
      let row = c.args.row in
      let same = u ∙ sym (kept-unit scan.count ms vias i.kept) in
      let e : count + column + 1 ≡ count + (column + 1) = omega arith in
      let most = c.loop-column-test.true in
      let near : column ≤ 300000 = omega (arith, most, wide) in
      let before = places ++ row_places scan.count cs ms row column in
      let f : before ++ unit_places scan.count c.loop-column.frame.components.items ms row column
      ≡ places ++ row_places scan.count cs ms row (column + 1) =
      append_assoc places (row_places scan.count cs ms row column) _
      ∙ ap (λ (l : List Place). places ++ (row_places scan.count cs ms row column ++ l))
      (kept-places scan.count ms row column i.kept)
      ∙ ap (λ (l : List Place). places ++ l) (sym (flat-more (unit_places scan.count cs ms row) column)) in
      subst (λ (l : List Place). IsAfter k p unit every bytes (count + (column + 1)) l from to
      c.read_next.new.intervals c.read_next.new.past) f
      (subst (λ (n : ℕ). IsAfter k p unit every bytes n
      (before ++ unit_places scan.count c.loop-column.frame.components.items ms row column) from to
      c.read_next.new.intervals c.read_next.new.past) e
      (c.in_ok-read_next.ensures.read p vias unit every bytes (count + column) before from x near high same
      (i.read p vias unit every bytes count places from x wide high u a)));
}

pub returns-clause-read : goal.returns-clause-read
returns-clause-read c = λ p vias unit every bytes count places from x wide high u a.
    let i = c.loop-column.invariant in
    let end = c.loop-column-test.false in
    let most = c.loop-column.auto.column-end in
    let scan = c.args.self.now.scan.now in
    let cs = c.args.frame.now.components.items in
    let e : c.loop-column.column ≡ c.args.columns = omega (arith, end, most) in
    subst (λ (n : ℕ). IsAfter c.args.self.now.is_progressive p unit every bytes (count + n)
    (places ++ row_places scan.count cs (members_of scan) c.args.row n) from
    (kept_in c.loop-column.frame.components.items) c.loop-column.intervals c.loop-column.past) e
    (i.read p vias unit every bytes count places from x wide high u a)
