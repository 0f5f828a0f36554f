use Rattle.std.proofs.Common.{◌≡◌, ℕ, ◌+◌, ◌-◌, ◌∙◌, ap, arith, map, refl, subst, sym}
use Rattle.std.specs.Prelude.{min}
use Rattle.jpeg_segments.specs.FrameView.{component_in, frame_in}
use Rattle.jpeg_decoder.specs.ByRows.{HaveScales, lines_decided}
use Rattle.jpeg_decoder.specs.Scanning.{arrays_in}
use Rattle.jpeg_decoder.specs.Steps.{coding_in}
use Rattle.jpeg_decoder.specs.Strips.{plane_lists}
use Rattle.jpeg_decoder.proofs.ByRows.TakenRows.{IsCalled, IsKept, added-is, all-is-kept, kept-count, last-is-kept}
use Rattle.jpeg_decoder.proofs.ByRows.TakenRows.{lines-within}
use Rattle.jpeg_decoder.proofs.ByRows.TakenRows.{ready-after, row-given, row-grown, window-have}
use Rattle.jpeg_decoder.proofs.ByRows.Windows.{AreGrown}
use Rattle.jpeg_decoder.proofs.Pictures.EndedPlanes.{decoded-scales}
use Rattle.jpeg_decoder.proofs.by_rows.giver.RowGiver.take_row.Goals as goal
use Rattle.jpeg_decoder.proofs.by_rows.giver.RowGiver.take_row.Goals.{then-self-gt1, else-self-gt1, then-self-eq0}
use Rattle.jpeg_decoder.proofs.by_rows.giver.RowGiver.take_row.Goals.{else-self-eq0}
use Rattle.jpeg_decoder.proofs.by_rows.giver.RowGiver.take_row.Goals.{After-deref_mut-3, In_ok-append_to_each}
use Rattle.jpeg_decoder.proofs.by_rows.giver.RowGiver.take_row.Goals.{Joined-self-gt1}

pub keep_last-requires-clause-scales : goal.keep_last-requires-clause-scales
keep_last-requires-clause-scales c =
    subst (λ l. HaveScales (map component_in l)) (sym c.deref.ensures.value)
    (decoded-scales (frame_in c.args.frame.now) c.requires.frame)

-- ---- the row is added

kept : (c : Joined-self-gt1)
    → IsKept (frame_in c.args.frame.now).components c.args.self.now c.if-self-gt1.self
kept c = elim c.if-self-gt1.branch [
  | then-self-gt1 w ↦ last-is-kept w.deref.result.now c.args.frame.now.components.items w.deref_mut.result.now
      w.keep_last.new.planes c.args.self.now c.if-self-gt1.self w.if-self-gt1.true c.requires.ready.planes
      w.deref.ensures.value w.deref_mut.ensures.value w.keep_last.auto.planes w.keep_last.ensures w.self-is
  | else-self-gt1 w ↦ all-is-kept (frame_in c.args.frame.now).components c.args.self.now c.if-self-gt1.self
      w.if-self-gt1.false c.requires.ready.planes w.self-is
]

pub append_to_each-requires-clause-planes : goal.append_to_each-requires-clause-planes
append_to_each-requires-clause-planes c =
    let k = kept (goal.at.append_to_each-requires-clause-planes c).Joined-self-gt1 in
    let count = kept-count (frame_in c.args.frame.now).components c.args.codings.now c.args.self.now c.if-self-gt1.self
    c.deref_mut-2.result.now c.requires.components k c.deref_mut-2.ensures.value in
    omega (arith, count)

pub overflow_add-self : goal.overflow_add-self
overflow_add-self c =
    let same = (kept (goal.at.overflow_add-self c).Joined-self-gt1).taken in
    record { fits = omega arith }

pub overflow_add-self-2 : goal.overflow_add-self-2
overflow_add-self-2 c =
    let same = (kept (goal.at.overflow_add-self-2 c).Joined-self-gt1).taken in
    record { fits = omega arith }

-- ---- and its lines are given

grown : (c : In_ok-append_to_each)
    → IsKept (frame_in c.args.frame.now).components c.args.self.now c.if-self-gt1.self
    → AreGrown (frame_in c.args.frame.now).components (map coding_in c.args.codings.now)
    (arrays_in c.args.self.now.blocks.items) c.args.self.now.rows (plane_lists c.args.self.now.planes.items)
    (plane_lists c.append_to_each.new.planes)
grown c k =
    row-grown (frame_in c.args.frame.now).components c.args.codings.now c.args.self.now c.if-self-gt1.self
    c.deref-3.result.now c.deref_mut-2.result.now c.append_to_each.new.planes c.requires.components
    c.requires.ready.sizes k c.deref-3.ensures.value c.deref_mut-2.ensures.value c.in_ok-append_to_each.ensures

seen : (c : After-deref_mut-3) → c.deref-4.result.now ≡ c.append_to_each.new.planes
seen c =
    c.deref-4.ensures.value
    ∙ added-is c.if-self-gt1.self c.deref_mut-2.result.now c.append_to_each.new.planes c.deref_mut-2.ensures.value
    c.append_to_each.auto.planes

rows-window : (c : After-deref_mut-3) → c.if-self-gt1.self.rows ≡ c.args.self.now.rows
    → c.if-self-eq0.window ≡ min (c.args.self.now.rows + 1) 2
rows-window c same = elim c.if-self-eq0.branch [
  | then-self-eq0 w ↦ omega (arith, same, w.window-is, w.if-self-eq0.true)
  | else-self-eq0 w ↦ omega (arith, same, w.window-is, w.if-self-eq0.false)
]

next-decided : (c : After-deref_mut-3) → c.if-self-gt1.self.rows ≡ c.args.self.now.rows
    → c.lines_decided.result ≡ lines_decided (frame_in c.args.frame.now) (c.args.self.now.rows + 1)
next-decided c same =
    c.lines_decided.ensures ∙ ap (λ (n : ℕ). lines_decided (frame_in c.args.frame.now) (n + 1)) same

called : (c : After-deref_mut-3)
    → IsKept (frame_in c.args.frame.now).components c.args.self.now c.if-self-gt1.self
    → IsCalled (frame_in c.args.frame.now) c.args.self.now c.if-self-gt1.self.convert c.saturating_sub.result
    c.if-self-eq0.window c.lines_decided-first.result c.saturating_sub-2.result
called c k =
    let begin = c.lines_decided-first.ensures ∙ ap (lines_decided (frame_in c.args.frame.now)) k.taken in
    let next = next-decided c k.taken in
    record {
      converts = k.converts;
      above = c.saturating_sub.ensures ∙ ap (λ (n : ℕ). n - 1) k.taken;
      rows = rows-window c k.taken;
      begin = begin;
      lines = omega (arith, c.saturating_sub-2.ensures, begin, next);
    }

pub make_lines-requires-clause-last : goal.make_lines-requires-clause-last
make_lines-requires-clause-last c =
    let at = goal.at.make_lines-requires-clause-last c in
    let k = kept at.Joined-self-gt1 in
    let call = called at.After-deref_mut-3 k in
    lines-within (frame_in c.args.frame.now) c.args.self.now.rows c.saturating_sub.result c.if-self-eq0.window
    c.lines_decided-first.result c.lines_decided.result c.saturating_sub-2.result c.requires.more call.above call.rows
    call.begin (next-decided at.After-deref_mut-3 k.taken) c.saturating_sub-2.ensures

pub make_lines-requires-clause-planes : goal.make_lines-requires-clause-planes
make_lines-requires-clause-planes c =
    let at = goal.at.make_lines-requires-clause-planes c in
    let k = kept at.Joined-self-gt1 in
    window-have (frame_in c.args.frame.now).components (map coding_in c.args.codings.now) c.args.self.now
    c.append_to_each.new.planes c.deref-4.result.now c.if-self-eq0.window (grown at.In_ok-append_to_each k)
    (rows-window at.After-deref_mut-3 k.taken) (seen at.After-deref_mut-3)

pub returns-clause-ready : goal.returns-clause-ready
returns-clause-ready c =
    let at = goal.at.returns-clause-ready c in
    let k = kept at.Joined-self-gt1 in
    ready-after (frame_in c.args.frame.now) (map coding_in c.args.codings.now) c.args.self.now c.if-self-gt1.self
    c.deref_mut-2.result.now c.append_to_each.new.planes c.deref_mut-3.result.now c.make_lines.new.line
    c.make_lines.new.lines c.saturating_sub-2.result
    c.requires.ready k (grown at.In_ok-append_to_each k) c.deref_mut-2.ensures.value c.append_to_each.auto.planes
    c.deref_mut-3.ensures.value c.make_lines.auto.line c.in_ok-make_lines.ensures.whole

pub returns-clause-given : goal.returns-clause-given
returns-clause-given c =
    let at = goal.at.returns-clause-given c in
    let k = kept at.Joined-self-gt1 in
    row-given (frame_in c.args.frame.now) (map coding_in c.args.codings.now) c.args.self.now _
    c.deref-4.result.now c.append_to_each.new.planes c.if-self-gt1.self.convert c.saturating_sub.result
    c.if-self-eq0.window c.lines_decided-first.result c.saturating_sub-2.result _
    (grown at.In_ok-append_to_each k) (called at.After-deref_mut-3 k) (seen at.After-deref_mut-3)
    c.in_ok-make_lines.ensures.lines refl (ap (λ (n : ℕ). n + 1) k.taken)
    (added-is c.if-self-gt1.self c.deref_mut-2.result.now c.append_to_each.new.planes c.deref_mut-2.ensures.value
    c.append_to_each.auto.planes)
