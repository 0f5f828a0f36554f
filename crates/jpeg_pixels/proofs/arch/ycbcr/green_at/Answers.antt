use Rattle.std.proofs.Common.{◌+◌, ◌-◌, ◌*◌, ◌/◌, ◌<◌, ◌∙◌, ◌+ℤ◌, ◌-ℤ◌, arith, pos, slice_index, sym}
use Rattle.jpeg_pixels.specs.Samples.{clamped}
use Rattle.jpeg_pixels.proofs.ColourLanes.{through_at, through_small}
use Rattle.jpeg_pixels.proofs.LinesOfColour.{green_by_parts}
use Rattle.jpeg_pixels.proofs.arch.ycbcr.green_at.Goals as goal

pub green_differences-requires : goal.green_differences-requires
green_differences-requires g c =
    let few = c.requires.few in
    let bytes : g.row.N * 1 < 9223372036854775808 = omega (arith, few) in
    let shorts : g.row.N * 2 < 9223372036854775808 = omega (arith, few) in
    (bytes, shorts)

pub added_lanes-requires : goal.added_lanes-requires
added_lanes-requires g c =
    let few = c.requires.few in
    let bytes : g.row.N * 1 < 9223372036854775808 = omega (arith, few) in
    let shorts : g.row.N * 2 < 9223372036854775808 = omega (arith, few) in
    (bytes, (shorts, λ x h. through_small c.green_differences.result x (c.green_differences.ensures.small x h)))

pub returns : goal.returns
returns g c x h =
    let at = c.args.at + x in
    let kept = through_at c.green_differences.result x (c.green_differences.ensures.small x h) in
    let value = c.green_differences.ensures.value x h ∙ (λ i.
    pos ((360857 * (255 - c.load-2.ensures x h i) + 748830 * (255 - c.load-3.ensures x h i) + 103223) / 1048576)
    -ℤ pos 134) in
    c.added_lanes.ensures x h ∙ (λ i. clamped (pos (c.load.ensures x h i) +ℤ (kept ∙ value) i))
    ∙ sym (green_by_parts (slice_index c.args.y.now at) (slice_index c.args.cb.now at) (slice_index c.args.cr.now at)
    (c.type_inv.cb at).fits (c.type_inv.cr at).fits)
