use Rattle.std.proofs.Common.{◌∷◌, ◌⊎◌, ℕ, List, inl, inr}
use Rattle.zaxbriar_strict.specs.Exact.{HasHeader, HasLaterTables, HasOtherAdobe, HasSequentialPicture, IsExact}
use Rattle.zaxbriar_strict.specs.Exact.{IsWhollyWritten}
use Rattle.zaxbriar_strict.proofs.WholeMeanings.{MeansPicture, means-picture}
use Rattle.zaxbriar_strict.proofs.laws.strict_streams_mean_their_pictures.Goals as goal

unless : (after : List ℕ) → IsWhollyWritten (255 ∷ 216 ∷ after) ⊎ HasLaterTables after
    → (HasLaterTables after → ⊥) → MeansPicture after
unless after (inr later) all = absurd (all later)
unless after (inl whole) all = means-picture after whole

means : (bytes : List ℕ) → IsExact bytes → (HasOtherAdobe bytes → ⊥) → (headed : HasHeader bytes)
    × (HasSequentialPicture headed.number headed.header
    → (HasLaterTables headed.after → ⊥) → MeansPicture headed.after)
means bytes (inr other) known = absurd (known other)
means bytes (inl exact) known =
    (exact.headed, λ p all. unless exact.headed.after (exact.written p) all)

pub returns : goal.returns
returns c = means
