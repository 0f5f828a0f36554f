use Rattle.std.proofs.Common.{◌≡◌, ◌≤◌, ◌<◌, ◌+◌, ◌*◌, ◌∙◌, ℕ, List, Global, Vec, ap, ap₂, arith, length, map, rules, sym}
use Rattle.jpeg_lossless.specs.LinesView.{layers_kept}
use Rattle.jpeg_lossless.specs.Pictures.{lines_across, sample_size}
use Rattle.jpeg_lossless.proofs.FilledLines.{across-wide}
use Rattle.jpeg_lossless.proofs.KeptLines.{plain_at, plain_room, product_fits, row_within, size_at}
use Rattle.jpeg_lossless.proofs.KeptLines.{stretched_at, stretched_room}
use Rattle.jpeg_lossless.proofs.Sizes.{put_back}
use Rattle.jpeg_lossless.proofs.picture.SampleLines.write_line.Goals.{After-deref-4, After-from-width}
use Rattle.jpeg_lossless.proofs.picture.SampleLines.write_line.Goals as goal

few : (c : After-from-width) → c.args.row ≤ 65535
few c =
    let high : c.self.inside.height ≤ 65535 = search rules in
    omega (arith, row_within c.self.inside c.args.self.now c.args.row c.self.view_is c.requires.row, high)

fits : (c : After-from-width) → c.args.row * c.from-width.result + c.from-width.result < 18446744073709551616
fits c = product_fits c.args.row c.from-width.result (few c) (search rules)

pub overflow_mul-row : goal.overflow_mul-row
overflow_mul-row c = omega (arith, fits (goal.at.overflow_mul-row c).After-from-width)

pub write_pixels-requires-clause-fits : goal.write_pixels-requires-clause-fits
write_pixels-requires-clause-fits c = fits (goal.at.write_pixels-requires-clause-fits c).After-from-width

pub write_pixels-requires-clause-long : goal.write_pixels-requires-clause-long
write_pixels-requires-clause-long c =
    rw c.deref.ensures.value (plain_room c.self.inside c.args.self.now c.args.row c.from-width.result
    c.self.invariant c.self.view_is c.requires.row c.if-self.true c.from-width.ensures)

pub write_pixels-requires-clause-room : goal.write_pixels-requires-clause-room
write_pixels-requires-clause-room c =
    c.requires.room
    ∙ size_at c.self.inside c.args.self.now c.args.row c.self.invariant c.self.view_is c.requires.row
    ∙ ap₂ (λ (w n : ℕ). w * (n * sample_size c.self.inside.precision)) (sym c.from-width.ensures)
    (sym (ap (λ (l : List _). length l) c.deref.ensures.value))

pub returns-then-self-clause-line : goal.returns-then-self-clause-line
returns-then-self-clause-line c =
    rw c.deref.ensures.value at c.write_pixels.ensures
    ∙ plain_at c.self.inside c.args.self.now c.args.row c.from-width.result c.self.invariant c.self.view_is
    c.requires.row c.if-self.true c.from-width.ensures

pub stretch_all-requires-clause-row : goal.stretch_all-requires-clause-row
stretch_all-requires-clause-row c = few (goal.at.stretch_all-requires-clause-row c).After-from-width

pub stretch_all-requires-clause-own : goal.stretch_all-requires-clause-own
stretch_all-requires-clause-own c =
    rw (c.deref-2.ensures.value, c.deref-3.ensures.value) (c.self.invariant.own c.args.row
    (row_within c.self.inside c.args.self.now c.args.row c.self.view_is c.requires.row))

as-many : (c : After-deref-4) → length c.stretch_all.new.lines ≡ length c.self.inside.stretched.items
as-many c =
    c.stretch_all.ensures.count ∙ ap (λ (l : List (Vec ℕ Global)). length l) c.as_mut_slice-stretched.ensures.value

-- the lines that are written to
made : (c : After-deref-4) → map (λ v. v.items) c.stretch_all.new.lines
    ≡ lines_across c.self.inside.picture.horizontal c.self.inside.picture.vertical c.self.inside.picture.width
    (layers_kept c.self.inside) c.args.row
made c = rw (c.deref-2.ensures.value, c.deref-3.ensures.value) at c.stretch_all.ensures.lines

put-back : (c : After-deref-4) → c.deref-4.result.now ≡ c.stretch_all.new.lines
put-back c =
    c.deref-4.ensures.value
    ∙ put_back c.self.inside.stretched c.stretch_all.new.lines (as-many c)

made-back : (c : After-deref-4) → map (λ v. v.items) c.deref-4.result.now
    ≡ lines_across c.self.inside.picture.horizontal c.self.inside.picture.vertical c.self.inside.picture.width
    (layers_kept c.self.inside) c.args.row
made-back c = ap (λ (l : List (Vec ℕ Global)). map (λ v. v.items) l) (put-back c) ∙ made c

pub write_pixels-requires-2-clause-long : goal.write_pixels-requires-2-clause-long
write_pixels-requires-2-clause-long c =
    stretched_room c.self.inside _ c.args.row c.from-width.result
    (made-back (goal.at.write_pixels-requires-2-clause-long c).After-deref-4) c.from-width.ensures

pub write_pixels-requires-2-clause-room : goal.write_pixels-requires-2-clause-room
write_pixels-requires-2-clause-room c =
    let at = goal.at.write_pixels-requires-2-clause-room c in
    let count : length c.deref-4.result.now ≡ length c.self.inside.planes.items
    = ap (λ (l : List (Vec ℕ Global)). length l) (put-back at.After-deref-4) ∙ as-many at.After-deref-4
    ∙ c.self.invariant.stretched c.if-self.false in
    c.requires.room
    ∙ size_at c.self.inside c.args.self.now c.args.row c.self.invariant c.self.view_is c.requires.row
    ∙ ap₂ (λ (w n : ℕ). w * (n * sample_size c.self.inside.precision)) (sym c.from-width.ensures) (sym count)

pub invariant_of-self : goal.invariant_of-self
invariant_of-self c =
    let s = c.self.inside in
    let at = goal.at.invariant_of-self c in
    let many = as-many at.After-deref-4 in
    let same = put_back s.stretched c.stretch_all.new.lines many in
    let kept = c.self.invariant in
    record {
      across = kept.across;
      down = kept.down;
      count = kept.count;
      own = kept.own;
      plain = kept.plain;
      stretched = λ f. ap (λ (l : List (Vec ℕ Global)). length l) same ∙ many ∙ kept.stretched f;
      wide = rw (same, made at.After-deref-4) (across-wide s.picture.horizontal s.picture.vertical
          s.picture.width c.args.row (layers_kept s));
    }

pub returns-clause-line : goal.returns-clause-line
returns-clause-line c =
    c.write_pixels-2.ensures
    ∙ stretched_at c.self.inside c.args.self.now _ c.args.row c.from-width.result c.self.view_is c.requires.row
    c.from-width.ensures (made-back (goal.at.returns-clause-line c).After-deref-4)
