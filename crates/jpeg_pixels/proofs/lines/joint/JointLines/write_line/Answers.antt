use Rattle.std.proofs.Common.{◌≡◌, ◌<◌, ◌≤◌, ◌+◌, ◌-◌, ◌*◌, ◌/◌, ◌%◌, ℕ, List, ap, length, map}
use Rattle.std.proofs.Common.{refl, sym, ◌∙◌, arith, rules}
use Rattle.std.specs.List.{range_with_len}
use Rattle.jpeg_pixels.proofs.JointPictures.{strips-inside}
use Rattle.jpeg_pixels.proofs.PictureLines.{joint_line-long, made-line, row-place}
use Rattle.jpeg_pixels.proofs.lines.joint.JointLines.write_line.Goals as goal

-- a line of the picture is in a row of MCUs, and is one of a strip
placed : (f : ℕ → List ℕ) (n row rows lines : ℕ) (picture : List (List ℕ)) → map f (range_with_len 0 n) ≡ picture
    → row < length picture → n ≤ rows * lines → (0 < lines) × (row / lines < rows) × (row % lines < lines)
placed f n row rows lines picture is h fits =
    row-place rows lines row (omega (arith, (made-line f n row picture is h).0))

pub nonzero_div-first : goal.nonzero_div-first
nonzero_div-first c = (placed _ _ _ _ _ _ c.self.view_is c.requires.row c.self.invariant.1).0

pub overflow_mul-first : goal.overflow_mul-first
overflow_mul-first c =
    let l = c.self.inside in
    let shape = l.picture.shape in
    let place = placed _ _ _ _ _ _ c.self.view_is c.requires.row c.self.invariant.1 in
    let inside = strips-inside shape (c.args.row / shape.lines) c.row_size.result c.row_size.result _ _
    c.row_size.ensures c.row_size.ensures place.1 refl c.self.invariant.2 in
    search rules

pub overflow_add-strips : goal.overflow_add-strips
overflow_add-strips c =
    let l = c.self.inside in
    let shape = l.picture.shape in
    let place = placed _ _ _ _ _ _ c.self.view_is c.requires.row c.self.invariant.1 in
    let inside = strips-inside shape (c.args.row / shape.lines) c.row_size.result c.row_size-2.result _ _
    c.row_size.ensures c.row_size-2.ensures place.1 refl c.self.invariant.2 in
    search rules

pub slice_bounds-strips-end : goal.slice_bounds-strips-end
slice_bounds-strips-end c =
    let l = c.self.inside in
    let shape = l.picture.shape in
    let place = placed _ _ _ _ _ _ c.self.view_is c.requires.row c.self.invariant.1 in
    let inside = strips-inside shape (c.args.row / shape.lines) c.row_size.result c.row_size-2.result _ _
    c.row_size.ensures c.row_size-2.ensures place.1 refl c.self.invariant.2 in
    omega (arith, inside, ap length c.deref.ensures.value)

pub nonzero_rem-row : goal.nonzero_rem-row
nonzero_rem-row c = (placed _ _ _ _ _ _ c.self.view_is c.requires.row c.self.invariant.1).0

pub write_line-requires-clause-line : goal.write_line-requires-clause-line
write_line-requires-clause-line c = (placed _ _ _ _ _ _ c.self.view_is c.requires.row c.self.invariant.1).2

pub write_line-requires-clause-room : goal.write_line-requires-clause-room
write_line-requires-clause-room c =
    let l = c.self.inside in
    let p = l.picture in
    let made = made-line _ l.height c.args.row c.args.self.now c.self.view_is c.requires.row in
    c.requires.room ∙ ap length made.1
    ∙ joint_line-long p.color_convert p.shape p.width l.samples.items c.args.row p.wide c.self.invariant.2
    c.self.invariant.0 (omega (arith, made.0, c.self.invariant.1))

pub returns-clause-line : goal.returns-clause-line
returns-clause-line c =
    let l = c.self.inside in
    let first = c.args.row / l.picture.shape.lines * c.row_size.result in
    let made = made-line _ l.height c.args.row c.args.self.now c.self.view_is c.requires.row in
    let same : first + c.row_size-2.result - first ≡ c.row_size-2.result = omega arith in
    c.write_line.ensures
    ∙ rw (same, c.row_size-2.ensures, c.row_size.ensures, c.deref.ensures.value) (sym made.1)
