-- The features that streams ask for and that are refused by name.
use Rattle.std.specs.Prelude.{◌≡◌, ℕ, Result, Ok, Err}
use Rattle.jpeg_bits.specs.Reading.{Fault, Lacks}
use Rattle.jpeg_bits.specs.declared.color_transform.ColorTransform.{ColorTransform}
use Rattle.jpeg_bits.specs.declared.color_transform.ColorTransform.TheVariants as transforms
use Rattle.jpeg_bits.specs.declared.error.Error.TheVariants as errors
use Rattle.jpeg_bits.specs.declared.error.UnsupportedFeature.{UnsupportedFeature}
use Rattle.jpeg_bits.specs.declared.error.UnsupportedFeature.TheVariants as features
use Rattle.zaxbriar_calls.specs.declared.answers.Refusal.{Refusal}
use Rattle.zaxbriar_calls.specs.declared.answers.Refusal.TheVariants.{Part, Stream}
use Rattle.zaxbriar_calls.specs.declared.features.Feature.{Feature}
use Rattle.zaxbriar_calls.specs.declared.picture.Picture.{Picture}

-- The number of a colour transform: those of the options, and the two of libjpeg's big gamut.
unfoldable pub transform_code : ColorTransform → ℕ
transform_code transforms.None = 1
transform_code transforms.RGB = 2
transform_code transforms.YCbCr = 3
transform_code transforms.CMYK = 4
transform_code transforms.YCCK = 5
transform_code transforms.JcsBgYcc = 6
transform_code transforms.JcsBgRgb = 7
transform_code _ = 0

-- the number of a feature, and what the stream asks for
abbrev pub numbered : ℕ → ℕ → Feature
numbered number argument = record { number = number; argument = argument }

unfoldable pub feature_in : UnsupportedFeature → Feature
feature_in features.Hierarchical = numbered 1 0
feature_in features.ArithmeticEntropyCoding = numbered 2 0
feature_in (features.SamplePrecision bits) = numbered 3 bits
feature_in (features.ComponentCount count) = numbered 4 count
feature_in features.DNL = numbered 5 0
feature_in features.SubsamplingRatio = numbered 6 0
feature_in features.NonIntegerSubsamplingRatio = numbered 7 0
feature_in (features.ColorTransform transform) = numbered 8 (transform_code transform)

-- the feature that a refusal names, and that of an outcome
abbrev pub feature_of : Refusal → Feature
feature_of (Stream (errors.Unsupported feature)) = feature_in feature
feature_of (Part (errors.Unsupported feature) rows) = feature_in feature
feature_of _ = numbered 0 0

abbrev pub outcome_feature : {X : Type 0} → Result X Refusal → Feature
outcome_feature (Ok x) = numbered 0 0
outcome_feature (Err r) = feature_of r

-- A picture names a feature.
abbrev pub NamesFeature : Picture → Feature → Type 0
NamesFeature picture feature =
    (picture.feature ≡ feature.number) × (picture.feature_argument ≡ feature.argument)

-- Bytes are refused for a feature, and a picture names it.
abbrev pub LacksFeature : {Y : Type 0} → Result Y Fault → Picture → Type 0
LacksFeature outcome picture = (feature : UnsupportedFeature) × (outcome ≡ Err (Lacks feature))
    × NamesFeature picture (feature_in feature)
