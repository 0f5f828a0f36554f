use Rattle.std.proofs.Common.{ℕ, ◌+◌, ◌*◌, ◌≤◌, length, arith, rules, ◌∙◌, length-drop, length-take}
use borrow.Rule.Slice.PartMut.{same_len_mid}
use Rattle.jpeg_pixels.proofs.JointPictures.{lines-end, row-written, unread-more}
use Rattle.jpeg_pixels.proofs.lines.joint.JointPicture.write_in_place.Goals as goal

ends : (c : goal.After-min)
    → c.min.result * c.line_size-size.result + c.lines_in-count.result * c.line_size-size.result
    ≤ length c.loop-row.room
ends c =
    let inside = lines-end _ _ _ _ _ _ _ _ _ c.args.self.now.wide c.min.ensures
    c.lines_in-count.ensures c.line_size-size.ensures c.loop-row-test.true
    c.loop-row.invariant.long c.requires.full in
    omega arith

pub overflow_mul-start : goal.overflow_mul-start
overflow_mul-start c = let inside = ends c in search rules

pub overflow_add-start : goal.overflow_add-start
overflow_add-start c = let inside = ends c in search rules

pub slice_bounds-convert_row-end : goal.slice_bounds-convert_row-end
slice_bounds-convert_row-end c = ends c

pub loop-row-preserved : goal.loop-row-preserved
loop-row-preserved c =
    let so_far = c.loop-row.invariant in
    let part = c.convert_row.auto.output in
    let inside = lines-end _ _ _ _ _ _ _ _ _ c.args.self.now.wide c.min.ensures
    c.lines_in-count.ensures c.line_size-size.ensures c.loop-row-test.true so_far.long
    c.requires.full in
    record {
      written = row-written _ _ _ _ _ _ _ _ _ _ _ _ _ _ _ _ c.min.ensures c.lines_in-count.ensures
          c.line_size-size.ensures c.row_size.ensures c.row_size-in-loop-row.ensures
          c.loop-row-test.true c.requires.full so_far.unread
          (omega (arith, length-take {A = ℕ}, length-drop {A = ℕ})) (omega arith)
          c.gather_row.ensures c.convert_row.ensures so_far.written;
      unread = unread-more c.args.self.now.shape c.loop-row.row _ _ c.loop-row.room _ _ part
          (omega arith) (omega arith) so_far.unread;
      long = same_len_mid _ _ c.loop-row.room c.convert_row.new.output part ∙ so_far.long;
    }
