-- The components of a frame, one after the other.
use Rattle.std.proofs.Common.{◌≡◌, ℕ, zero, suc, ◌*◌, ◌<◌, List, [], ◌∷◌, length, get_or, max, refl}
use Rattle.std.proofs.Common.{arith, Option, Some, None, Ok}
use Rattle.std.specs.Prelude.{ok_or}
use Rattle.jpeg_bits.specs.Reading.{Lacks, ◌>>=◌}
use Rattle.jpeg_bits.specs.declared.error.UnsupportedFeature.TheVariants.{NonIntegerSubsamplingRatio}
use Rattle.jpeg_segments.specs.Frame.{Component, Factors, greatest, HasSampling, AllHaveSampling}
use Rattle.jpeg_segments.proofs.Codecs.{ok-same}
use Rattle.jpeg_segments.proofs.FrameLemmas.{greatest-some}
use Rattle.jpeg_pixels.specs.Pictures.{Source, source_of}
use Rattle.jpeg_pixels.specs.Upsampling.{rule_of}
use Rattle.jpeg_pixels.specs.declared.upsample_rows.UpsampleRule.{UpsampleRule}

pub greatest_start : (f : Factors → ℕ) (cs : List Factors) → max 1 (greatest f cs) ≡ greatest f cs
greatest_start f cs = let h = greatest-some f cs in omega arith

pub factors-at : (cs : List Component) (k : ℕ) (c : Component) → AllHaveSampling cs → k < length cs
    → HasSampling (get_or cs k c)
unfolding AllHaveSampling
factors-at [] k c all h = absurd (omega arith)
factors-at (d ∷ more) zero c all h = all.0
factors-at (d ∷ more) (suc k) c all h = factors-at more k c all.1 (omega arith)

-- a component's samples by their rule
abbrev pub source_with : Component → UpsampleRule → Source
source_with c rule = record { rule = rule; width = c.width; height = c.height; stride = c.blocks_wide * c.scale }

-- A component that is upsampled has a rule.
pub source-rule : (most_h most_v width height : ℕ) (c : Component) (s : Source)
    → source_of most_h most_v width height c ≡ Ok s
    → (rule : UpsampleRule)
    × (rule_of c.factors.horizontal c.factors.vertical most_h most_v width height ≡ Some rule)
    × (source_with c rule ≡ s)
unfolding source_of
source-rule most_h most_v width height c s e =
    go (rule_of c.factors.horizontal c.factors.vertical most_h most_v width height) e
  where
    go : (o : Option UpsampleRule)
        → (ok_or o (Lacks NonIntegerSubsamplingRatio) >>= (λ rule. Ok (source_with c rule))) ≡ Ok s
        → (rule : UpsampleRule) × (o ≡ Some rule) × (source_with c rule ≡ s)
    go None e = absurd (cc)
    go (Some rule) e = (rule, refl, ok-same _ s e)
