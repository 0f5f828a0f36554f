use Rattle.std.proofs.Common.{◌+◌, ◌<◌, ◌≤◌, ◌/◌, ℕ, ℤ, pos, arith, rules, slice_index_or, slice_index}
use Rattle.std.specs.Prelude.{unsigned_abs, max}
use Rattle.jpeg_pixels.proofs.LaneSums.{halves_fit}
use Rattle.jpeg_pixels.proofs.ShortLanes.{signed_given, signed_chosen, both_above, all_at_least, by_sixteen, limit_told}
use Rattle.jpeg_pixels.proofs.short_block.is_within.Goals as goal

pub returns : goal.returns
returns c quantization table full =
    let z : ℕ → ℤ = λ k. slice_index_or c.args.coefficients k (pos 0) in
    let Is : ℕ → Type 0 = λ k. unsigned_abs (z k) ≤ 1095 / max (slice_index quantization k) 1 in
    let s0 = signed_given c.slack.result (search rules) (halves_fit c.slack.result _ c.slack.type_inv.1.1) in
    let s1 = signed_given c.slack-2.result (search rules) (halves_fit c.slack-2.result _ c.slack-2.type_inv.1.1) in
    let s2 = signed_given c.slack-3.result (search rules) (halves_fit c.slack-3.result _ c.slack-3.type_inv.1.1) in
    let s3 = signed_given c.slack-4.result (search rules) (halves_fit c.slack-4.result _ c.slack-4.type_inv.1.1) in
    let m1 = signed_chosen s0 s1 s0 s1 in
    let m2 = signed_chosen m1 s2 m1 s2 in
    let m3 = signed_chosen m2 s3 m2 s3 in
    let b3 = λ (j : ℕ) (h : j < 16). both_above _ _ (all_at_least m3 full j h) in
    let b2 = λ (j : ℕ) (h : j < 16). both_above _ _ (b3 j h).0 in
    let b1 = λ (j : ℕ) (h : j < 16). both_above _ _ (b2 j h).0 in
    record {
      are = by_sixteen Is
          (λ j h. limit_told (z (0 + j)) _ _ (table.limits (0 + j) (omega (arith, h))) (λ l. c.slack.ensures j h l
          (b1 j h).0))
          (λ j h. limit_told (z (16 + j)) _ _ (table.limits (16 + j) (omega (arith, h))) (λ l. c.slack-2.ensures j h l
          (b1 j h).1))
          (λ j h. limit_told (z (32 + j)) _ _ (table.limits (32 + j) (omega (arith, h))) (λ l. c.slack-3.ensures j h l
          (b2 j h).1))
          (λ j h. limit_told (z (48 + j)) _ _ (table.limits (48 + j) (omega (arith, h))) (λ l. c.slack-4.ensures j h l
          (b3 j h).1));
    }
