use Rattle.std.proofs.Common.{◌≡◌, ℕ, ◌+◌, ◌*◌, ◌∙◌, get_or, length, arith, refl, rules}
use Rattle.jpeg_pixels.specs.Samples.{clamped}
use Rattle.jpeg_pixels.specs.Blocks.{WritesBlock}
use Rattle.jpeg_pixels.proofs.LaneSums.{kept_halves}
use Rattle.jpeg_pixels.proofs.PlaneRows.{WritesBlock-line}
use Rattle.jpeg_pixels.proofs.ShortLanes.{at_eight, eight_from, high_lanes, low_lanes}
use Rattle.jpeg_pixels.proofs.short_block.write_lines.Goals as goal

pub returns : goal.returns
returns c f numbers =
    let lines = c.args.lines in
    let t = c.well_formed.0.1.1 in
    let S : ℕ → ℕ → ℕ = λ x y. clamped (f x y) in
    let k0 = kept_halves lines.r0 _ t.0.1.1 ∙ numbers.r0 in
    let k1 = kept_halves lines.r1 _ t.1.0.1.1 ∙ numbers.r1 in
    let k2 = kept_halves lines.r2 _ t.1.1.0.1.1 ∙ numbers.r2 in
    let k3 = kept_halves lines.r3 _ t.1.1.1.0.1.1 ∙ numbers.r3 in
    let k4 = kept_halves lines.r4 _ t.1.1.1.1.0.1.1 ∙ numbers.r4 in
    let k5 = kept_halves lines.r5 _ t.1.1.1.1.1.0.1.1 ∙ numbers.r5 in
    let k6 = kept_halves lines.r6 _ t.1.1.1.1.1.1.0.1.1 ∙ numbers.r6 in
    let k7 = kept_halves lines.r7 _ t.1.1.1.1.1.1.1.0.1.1 ∙ numbers.r7 in
    let left = c.byte_columns-left.ensures S (c.byte_halves.ensures (f 0) (f 1) k0 k1)
    (c.byte_halves-2.ensures (f 2) (f 3) k2 k3) in
    let right = c.byte_columns-right.ensures (λ x. S (4 + x)) (c.byte_halves-3.ensures (f 4) (f 5) k4 k5)
    (c.byte_halves-4.ensures (f 6) (f 7) k6 k7) in
    let old = c.args.output.now in
    let stride = c.args.stride in
    let wide = c.requires.wide in
    let room = c.requires.room in
    let none : WritesBlock 8 0 stride S old old × (length old ≡ length old) = (
      record {
        inside = λ x y hx hy. absurd (omega (arith, hy));
        right = λ x y hx hs hy. absurd (omega (arith, hy));
        below = λ i h. refl;
      },
      refl,
    ) in
    let b0 = WritesBlock-line 0 stride 0 S old _ c.write_line.new.output (omega arith) (omega arith)
    wide room (search (rules, c.write_line.auto.output))
    (λ x h. c.write_line.ensures.inside x h ∙ (λ i. get_or (eight_from 0 (low_lanes (left i) (right i))) x 0)
    ∙ at_eight S 0 x h) c.write_line.ensures.others none in
    let b1 = WritesBlock-line 1 stride stride S old _ c.write_line-2.new.output (omega arith) (omega arith)
    wide room (search (rules, c.write_line-2.auto.output))
    (λ x h. c.write_line-2.ensures.inside x h ∙ (λ i. get_or (eight_from 8 (low_lanes (left i) (right i))) x 0)
    ∙ at_eight S 1 x h) c.write_line-2.ensures.others b0 in
    let b2 = WritesBlock-line 2 stride (2 * stride) S old _ c.write_line-3.new.output (omega arith) (omega arith)
    wide room (search (rules, c.write_line-3.auto.output))
    (λ x h. c.write_line-3.ensures.inside x h ∙ (λ i. get_or (eight_from 0 (high_lanes (left i) (right i))) x 0)
    ∙ at_eight S 2 x h) c.write_line-3.ensures.others b1 in
    let b3 = WritesBlock-line 3 stride (3 * stride) S old _ c.write_line-4.new.output (omega arith) (omega arith)
    wide room (search (rules, c.write_line-4.auto.output))
    (λ x h. c.write_line-4.ensures.inside x h ∙ (λ i. get_or (eight_from 8 (high_lanes (left i) (right i))) x 0)
    ∙ at_eight S 3 x h) c.write_line-4.ensures.others b2 in
    let b4 = WritesBlock-line 4 stride (4 * stride) S old _ c.write_line-5.new.output (omega arith) (omega arith)
    wide room (search (rules, c.write_line-5.auto.output))
    (λ x h. c.write_line-5.ensures.inside x h ∙ (λ i. get_or (eight_from 16 (low_lanes (left i) (right i))) x 0)
    ∙ at_eight S 4 x h) c.write_line-5.ensures.others b3 in
    let b5 = WritesBlock-line 5 stride (5 * stride) S old _ c.write_line-6.new.output (omega arith) (omega arith)
    wide room (search (rules, c.write_line-6.auto.output))
    (λ x h. c.write_line-6.ensures.inside x h ∙ (λ i. get_or (eight_from 24 (low_lanes (left i) (right i))) x 0)
    ∙ at_eight S 5 x h) c.write_line-6.ensures.others b4 in
    let b6 = WritesBlock-line 6 stride (6 * stride) S old _ c.write_line-7.new.output (omega arith) (omega arith)
    wide room (search (rules, c.write_line-7.auto.output))
    (λ x h. c.write_line-7.ensures.inside x h ∙ (λ i. get_or (eight_from 16 (high_lanes (left i) (right i))) x 0)
    ∙ at_eight S 6 x h) c.write_line-7.ensures.others b5 in
    let b7 = WritesBlock-line 7 stride (7 * stride) S old _ c.write_line-8.new.output (omega arith) (omega arith)
    wide room (search (rules, c.write_line-8.auto.output))
    (λ x h. c.write_line-8.ensures.inside x h ∙ (λ i. get_or (eight_from 24 (high_lanes (left i) (right i))) x 0)
    ∙ at_eight S 7 x h) c.write_line-8.ensures.others b6 in
    b7.0
