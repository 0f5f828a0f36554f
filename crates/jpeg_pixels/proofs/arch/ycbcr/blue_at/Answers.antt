use Rattle.std.proofs.Common.{ℕ, ◌+◌, ◌*◌, ◌<◌, ◌∙◌, ◌+ℤ◌, ap, arith, pos, slice_index, sym}
use Rattle.jpeg_pixels.specs.Samples.{clamped}
use Rattle.jpeg_pixels.proofs.ColourLanes.{through_at, through_small}
use Rattle.jpeg_pixels.proofs.LinesOfColour.{blue_by_short, short_difference}
use Rattle.jpeg_pixels.proofs.arch.ycbcr.blue_at.Goals as goal

pub scaled_lanes-requires : goal.scaled_lanes-requires
scaled_lanes-requires g c =
    let few = c.requires.few in
    let bytes : g.row.N * 1 < 9223372036854775808 = omega (arith, few) in
    let shorts : g.row.N * 2 < 9223372036854775808 = omega (arith, few) in
    (bytes, shorts)

pub added_lanes-requires : goal.added_lanes-requires
added_lanes-requires g c =
    let few = c.requires.few in
    let bytes : g.row.N * 1 < 9223372036854775808 = omega (arith, few) in
    let shorts : g.row.N * 2 < 9223372036854775808 = omega (arith, few) in
    (bytes, (shorts, λ x h. through_small c.scaled_lanes.result x (c.scaled_lanes.ensures.small x h)))

pub returns : goal.returns
returns g c x h =
    let at = c.args.at + x in
    let kept = through_at c.scaled_lanes.result x (c.scaled_lanes.ensures.small x h) in
    let value = c.scaled_lanes.ensures.value x h ∙ ap (λ (m : ℕ). short_difference 29033 m) (c.load-2.ensures x h) in
    c.added_lanes.ensures x h ∙ (λ i. clamped (pos (c.load.ensures x h i) +ℤ (kept ∙ value) i))
    ∙ sym (blue_by_short (slice_index c.args.y.now at) (slice_index c.args.cb.now at) (c.type_inv.cb at).fits)
