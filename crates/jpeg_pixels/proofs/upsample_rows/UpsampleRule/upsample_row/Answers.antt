use Rattle.std.proofs.Common.{ℕ, ◌+◌, ◌*◌, ◌/◌, ◌≤◌, ◌∙◌, arith, ap, subst, slice_index, length, length-take}
use Rattle.std.specs.Int.{div_ceil}
use Rattle.jpeg_pixels.specs.Upsampling.{across}
use Rattle.jpeg_pixels.proofs.UpsampledRows.{in_front, as_generic, repeated_within, used_enough}
use Rattle.jpeg_pixels.proofs.upsample_rows.UpsampleRule.upsample_row.Goals as goal

pub line_at-line-requires-in-Generic : goal.line_at-line-requires-in-Generic
line_at-line-requires-in-Generic c =
    let a = c.args in
    let used = c.div_ceil-used.ensures ∙ ap (λ n. div_ceil a.output_width n) c.from.ensures in
    let same = ap (λ n. a.row / n * a.row_stride + c.div_ceil-used.result) c.from-in-Generic.ensures in
    let within = repeated_within a.self.now c.in-Generic.across c.in-Generic.down a.output_width c.div_ceil-used.result
    a.input_width a.input_height a.row_stride a.row (length a.input.now)
    c.in-Generic.is c.requires.some_across c.requires.some_down used c.requires.wide_enough c.requires.row
    c.requires.input_room in
    omega (arith, same, within)

pub returns-in-Generic-clause-samples : goal.returns-in-Generic-clause-samples
returns-in-Generic-clause-samples c = λ x h.
    let a = c.args in
    let some : 1 ≤ c.in-Generic.across = subst (λ n. 1 ≤ n) (ap across c.in-Generic.is) c.requires.some_across in
    let enough = used_enough a.output_width c.in-Generic.across c.div_ceil-used.result some (c.div_ceil-used.ensures
    ∙ ap (λ n. div_ceil a.output_width n) c.from.ensures) in
    in_front a.output_width c.repeat_samples.new.output a.output.now x c.repeat_samples.auto.output
    c.requires.output_room h
    ∙ c.repeat_samples.ensures x (omega (arith, length-take {A = ℕ}))
    ∙ ap (λ n. slice_index c.line_at-line-in-Generic.result.now (x / n)) c.from-in-Generic-2.ensures
    ∙ as_generic a.self.now c.in-Generic.across c.in-Generic.down (λ i j. slice_index a.input.now (j * a.row_stride
    + i)) c.line_at-line-in-Generic.result.now c.div_ceil-used.result
    a.input_width a.input_height x a.row c.in-Generic.is some (omega (arith, enough))
    (λ i b. c.line_at-line-in-Generic.ensures.samples i b
    ∙ ap (λ n. slice_index a.input.now (a.row / n * a.row_stride + i)) c.from-in-Generic.ensures)
