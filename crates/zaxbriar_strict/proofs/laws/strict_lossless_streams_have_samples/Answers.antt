use Rattle.std.proofs.Common.{◌∷◌, ◌⊎◌, ℕ, List, inl, inr}
use Rattle.jpeg_meaning.specs.AcceptedFrames.{HasSamples}
use Rattle.zaxbriar_strict.specs.Exact.{HasHeader, HasOtherAdobe, HasShiftedScan, IsExact, IsWrittenForSamples}
use Rattle.zaxbriar_strict.proofs.laws.strict_lossless_streams_have_samples.Goals as goal

unshifted : (after : List ℕ) → IsWrittenForSamples (255 ∷ 216 ∷ after) ⊎ HasShiftedScan after
    → (HasShiftedScan after → ⊥) → IsWrittenForSamples (255 ∷ 216 ∷ after)
unshifted after (inl image) all = image
unshifted after (inr shifted) all = absurd (all shifted)

written : (bytes : List ℕ) → IsExact bytes → (HasOtherAdobe bytes → ⊥) → (headed : HasHeader bytes)
    × (HasSamples headed.number headed.header → (HasShiftedScan headed.after → ⊥)
    → IsWrittenForSamples (255 ∷ 216 ∷ headed.after))
written bytes (inr other) known = absurd (known other)
written bytes (inl exact) known = (exact.headed, λ p all. unshifted exact.headed.after (exact.samples p) all)

pub returns : goal.returns
returns c = written
