use Rattle.std.proofs.Common.{◌∷◌, ◌⊎◌, ℕ, List, inl, inr}
use Rattle.zaxbriar_strict.specs.Exact.{HasDeepScan, HasHeader, HasLaterTables, HasOtherAdobe, HasProgressivePicture}
use Rattle.zaxbriar_strict.specs.Exact.{IsExact, IsWhollyWritten}
use Rattle.zaxbriar_strict.proofs.WholeMeanings.{MeansPicture, means-picture}
use Rattle.zaxbriar_strict.proofs.laws.strict_progressive_streams_mean_their_pictures.Goals as goal

unless : (after : List ℕ) → IsWhollyWritten (255 ∷ 216 ∷ after) ⊎ (HasLaterTables after ⊎ HasDeepScan after)
    → (HasLaterTables after → ⊥) → (HasDeepScan after → ⊥) → MeansPicture after
unless after (inr (inl later)) all low = absurd (all later)
unless after (inr (inr deep)) all low = absurd (low deep)
unless after (inl whole) all low = means-picture after whole

means : (bytes : List ℕ) → IsExact bytes → (HasOtherAdobe bytes → ⊥) → (headed : HasHeader bytes)
    × (HasProgressivePicture headed.number headed.header
    → (HasLaterTables headed.after → ⊥) → (HasDeepScan headed.after → ⊥) → MeansPicture headed.after)
means bytes (inr other) known = absurd (known other)
means bytes (inl exact) known =
    (exact.headed, λ p all low. unless exact.headed.after (exact.progressive p) all low)

pub returns : goal.returns
returns c = means
