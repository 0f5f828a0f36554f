use Rattle.std.proofs.Common.{◌∙◌, ◌∷◌, ℕ, ℤ, [], ◌<◌, get_or, lit<, rules, refl, pos, arith}
use Rattle.std.proofs.lemmas.Int.{ints}
use Rattle.std.specs.Int.{w16}
use Rattle.jpeg_pixels.specs.Lanes.{lane}
use Rattle.jpeg_pixels.specs.Samples.{clamped}
use Rattle.jpeg_pixels.specs.ShortRows.{halves}
use Rattle.jpeg_pixels.proofs.LaneSums.{halves_are, lane-lanes}
use Rattle.jpeg_pixels.proofs.ShortLanes.{bytes_fit, clamped_lanes, halves_signed, signed_bytes, signed_splat}
use Rattle.jpeg_pixels.proofs.short_block.byte_halves.Goals as goal

pub overflow_cast-result : goal.overflow_cast-result
overflow_cast-result c =
    let given = halves_signed (halves_are c.args.a _ (search rules) c.well_formed.0.1.1) (halves_are c.args.b _
    (search rules) c.well_formed.1.0.1.1) in
    let clamps = clamped_lanes 0 255 (pos 0) (pos 255) given (signed_splat w16 0 (pos 0) refl (omega (arith, ints)))
    (signed_splat w16 255 (pos 255) refl (omega (arith, ints))) in
    bytes_fit {n = 16} (λ j. get_or (halves (lane c.args.a) (lane c.args.b)) j (pos 0)) clamps

pub returns : goal.returns
returns c f g ea eb =
    let given = halves_signed (halves_are c.args.a _ (search rules) c.well_formed.0.1.1) (halves_are c.args.b _
    (search rules) c.well_formed.1.0.1.1) in
    let clamps = clamped_lanes 0 255 (pos 0) (pos 255) given (signed_splat w16 0 (pos 0) refl (omega (arith, ints)))
    (signed_splat w16 255 (pos 255) refl (omega (arith, ints))) in
    let z : ℕ → ℤ = λ j. get_or (halves (lane c.args.a) (lane c.args.b)) j (pos 0) in
    let a = λ (j : ℕ) (h : j < 8). lane-lanes c.args.a f ea j h in
    let b = λ (j : ℕ) (h : j < 8). lane-lanes c.args.b g eb j h in
    signed_bytes {n = 16} z clamps ∙ (λ i. clamped (a 0 (lit< tt) i) ∷ clamped (a 1 (lit< tt) i) ∷ clamped (a 2 (lit< tt) i)
    ∷ clamped (a 3 (lit< tt) i) ∷ clamped (b 0 (lit< tt) i) ∷ clamped (b 1 (lit< tt) i) ∷ clamped (b 2 (lit< tt) i)
    ∷ clamped (b 3 (lit< tt) i) ∷ clamped (a 4 (lit< tt) i) ∷ clamped (a 5 (lit< tt) i) ∷ clamped (a 6 (lit< tt) i)
    ∷ clamped (a 7 (lit< tt) i) ∷ clamped (b 4 (lit< tt) i) ∷ clamped (b 5 (lit< tt) i) ∷ clamped (b 6 (lit< tt) i)
    ∷ clamped (b 7 (lit< tt) i) ∷ [])
