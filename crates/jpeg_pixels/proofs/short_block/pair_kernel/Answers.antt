use Rattle.std.proofs.Common.{arith, ◌∙◌, ◌-ℤ◌, negsuc, lit<}
use Rattle.std.proofs.lemmas.Int.{ints}
use Rattle.jpeg_pixels.specs.Samples.{transformed, basis}
use Rattle.jpeg_pixels.proofs.LaneSums.{lane_add, lane_sub, lane_literal, lane_splat, lane_wrapped}
use Rattle.jpeg_pixels.proofs.LaneSums.{lanes_read, kept_halves}
use Rattle.jpeg_pixels.proofs.short_block.pair_kernel.Goals as goal

pub returns : goal.returns
unfolding transformed basis
returns c f h =
    let s = c.args.s in
    let k04 = kept_halves s.p04 _ c.well_formed.0.1.1.0.1.1 ∙ h.p04 in
    let k15 = kept_halves s.p15 _ c.well_formed.0.1.1.1.0.1.1 ∙ h.p15 in
    let k26 = kept_halves s.p26 _ c.well_formed.0.1.1.1.1.0.1.1 ∙ h.p26 in
    let k37 = kept_halves s.p37 _ c.well_formed.0.1.1.1.1.1.0.1.1 ∙ h.p37 in
    let not04 = kept_halves c.complemented.result _ c.complemented.type_inv.1.1
    ∙ c.complemented.ensures (f 0) (f 4) k04 in
    let x_scale = lane_splat c.args.x_scale c.ranges.x_scale in
    let e0 = lane_add (lane_wrapped (c.pair_sums.ensures (f 0) (λ j. negsuc 0 -ℤ f 4 j) not04))
    (lane_sub x_scale (lane_literal 4096 (lit< tt))) in
    let e1 = lane_add (lane_wrapped (c.pair_sums-2.ensures (f 0) (f 4) k04)) x_scale in
    let o0 = lane_wrapped (c.pair_sums-o0.ensures (f 2) (f 6) k26) in
    let o1 = lane_wrapped (c.pair_sums-o1.ensures (f 2) (f 6) k26) in
    let x0 = lane_add e0 o0 in
    let x1 = lane_add e1 o1 in
    let x2 = lane_sub e1 o1 in
    let x3 = lane_sub e0 o0 in
    let t0 = lane_add (lane_wrapped (c.pair_sums-3.ensures (f 1) (f 5) k15)) (lane_wrapped (c.pair_sums-4.ensures (f 3)
    (f 7) k37)) in
    let t1 = lane_add (lane_wrapped (c.pair_sums-5.ensures (f 1) (f 5) k15)) (lane_wrapped (c.pair_sums-6.ensures (f 3)
    (f 7) k37)) in
    let t2 = lane_add (lane_wrapped (c.pair_sums-7.ensures (f 1) (f 5) k15)) (lane_wrapped (c.pair_sums-8.ensures (f 3)
    (f 7) k37)) in
    let t3 = lane_add (lane_wrapped (c.pair_sums-9.ensures (f 1) (f 5) k15)) (lane_wrapped (c.pair_sums-10.ensures (f 3)
    (f 7) k37)) in
    record {
      r0 = lanes_read (lane_add x0 t3) (λ j. omega (arith, ints));
      r1 = lanes_read (lane_add x1 t2) (λ j. omega (arith, ints));
      r2 = lanes_read (lane_add x2 t1) (λ j. omega (arith, ints));
      r3 = lanes_read (lane_add x3 t0) (λ j. omega (arith, ints));
      r4 = lanes_read (lane_sub x3 t0) (λ j. omega (arith, ints));
      r5 = lanes_read (lane_sub x2 t1) (λ j. omega (arith, ints));
      r6 = lanes_read (lane_sub x1 t2) (λ j. omega (arith, ints));
      r7 = lanes_read (lane_sub x0 t3) (λ j. omega (arith, ints));
    }
