use Rattle.std.proofs.Common.{rules, map, ◌∙◌, ℕ, unsigned_abs, to_z}
use Rattle.std.specs.Int.{w32, int_shr}
use Rattle.jpeg_pixels.specs.Lanes.{lane, lanes}
use Rattle.jpeg_pixels.proofs.LaneSums.{lanes_are}
use Rattle.jpeg_pixels.proofs.ShortLanes.{each_signed, signed_given, signed_shr}
use Rattle.jpeg_pixels.proofs.HalfLanes.{byte_fits, byte_lanes, byte_read}
use Rattle.jpeg_pixels.proofs.half_block.clamp_sums.Goals as goal

pub overflow_cast-result : goal.overflow_cast-result
overflow_cast-result c =
    let are = lanes_are c.args.sums _ (search rules) c.well_formed.0.1.1 in
    let s = byte_lanes (signed_shr 17 (signed_given c.args.sums are.long are.fits)) in
    each_signed s _ (λ j. byte_fits (int_shr (lane c.args.sums j) 17) (s.fits j))

pub returns : goal.returns
unfolding lanes
returns c =
    let are = lanes_are c.args.sums _ (search rules) c.well_formed.0.1.1 in
    let s = byte_lanes (signed_shr 17 (signed_given c.args.sums are.long are.fits)) in
    (λ i. map (λ (a : ℕ). unsigned_abs (to_z w32 a)) (s.is i))
    ∙ (λ i. lanes (λ (j : ℕ). byte_read (int_shr (lane c.args.sums j) 17) (s.fits j) i))
