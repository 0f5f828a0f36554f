use Rattle.std.proofs.Common.{◌≡◌, ◌+◌, ◌-◌, ◌*◌, length, ap, sym, ◌∙◌, arith, rules}
use Rattle.jpeg_pixels.proofs.PictureLines.{made-line, part-inside}
use Rattle.jpeg_pixels.proofs.lines.cropped.CroppedLines.write_line.Goals as goal

pub overflow_mul-start : goal.overflow_mul-start
overflow_mul-start c =
    let l = c.self.inside in
    let made = made-line _ l.height c.args.row c.args.self.now c.self.view_is c.requires.row in
    let inside = part-inside l.stride l.width l.height l.plane.items c.self.invariant.0 c.self.invariant.1 c.args.row
    made.0 in
    search rules

pub overflow_add-start : goal.overflow_add-start
overflow_add-start c =
    let l = c.self.inside in
    let made = made-line _ l.height c.args.row c.args.self.now c.self.view_is c.requires.row in
    let inside = part-inside l.stride l.width l.height l.plane.items c.self.invariant.0 c.self.invariant.1 c.args.row
    made.0 in
    search rules

pub slice_bounds-copy_from_slice-end : goal.slice_bounds-copy_from_slice-end
slice_bounds-copy_from_slice-end c =
    let l = c.self.inside in
    let made = made-line _ l.height c.args.row c.args.self.now c.self.view_is c.requires.row in
    let inside = part-inside l.stride l.width l.height l.plane.items c.self.invariant.0 c.self.invariant.1 c.args.row
    made.0 in
    omega (arith, inside, ap length c.deref.ensures.value)

pub copy_from_slice-requires : goal.copy_from_slice-requires
copy_from_slice-requires c =
    let l = c.self.inside in
    let made = made-line _ l.height c.args.row c.args.self.now c.self.view_is c.requires.row in
    let same : c.args.row * l.stride + l.width - c.args.row * l.stride ≡ l.width = omega arith in
    rw (same, c.deref.ensures.value) (c.requires.room ∙ ap length made.1)

pub returns : goal.returns
returns c =
    let l = c.self.inside in
    let made = made-line _ l.height c.args.row c.args.self.now c.self.view_is c.requires.row in
    let same : c.args.row * l.stride + l.width - c.args.row * l.stride ≡ l.width = omega arith in
    c.copy_from_slice.ensures.after ∙ rw (same, c.deref.ensures.value) (sym made.1)
