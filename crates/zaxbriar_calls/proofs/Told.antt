-- What a caller is given of a picture that was decoded.
use Rattle.std.proofs.Common.{arith, ◌≡◌, ◌⊎◌, ◌∙◌, ℕ, List, Result, Ok, Err, sym, ap, subst}
use Rattle.std.specs.Prelude.{IfErr, IfOk, OnOk, replicate}
use Rattle.jpeg_meaning.specs.declared.images.ImageInfo.{ImageInfo}
use Rattle.zaxbriar_calls.specs.Faults.{IsOwn, status_of}
use Rattle.zaxbriar_calls.specs.Features.{outcome_feature, numbered}
use Rattle.zaxbriar_calls.specs.Lines.{Arranged, HasLines, described_picture}
use Rattle.zaxbriar_calls.specs.Meanings.{Describes, IsTooLarge, IsWithin, as_described, uncounted}
use Rattle.zaxbriar_calls.specs.Upright.{arranged_by}
use Rattle.zaxbriar_calls.proofs.Fails.{code-fails, has-no-room, is-too-large}
use Rattle.zaxbriar_calls.specs.declared.answers.Refusal.TheVariants.{TooLarge}
use Rattle.zaxbriar_calls.specs.declared.answers.Refusal.{Refusal}
use Rattle.zaxbriar_calls.specs.declared.density.Density.{Density}
use Rattle.zaxbriar_calls.specs.declared.extents.Extent.{Extent}
use Rattle.zaxbriar_calls.specs.declared.features.Feature.{Feature}
use Rattle.zaxbriar_calls.specs.declared.lines.Lines.{Lines}
use Rattle.zaxbriar_calls.specs.declared.options.Options.{Options}
use Rattle.zaxbriar_calls.specs.declared.picture.Picture.{Picture}
use Rattle.zaxbriar_calls.specs.declared.planes.PlaneSizes.{PlaneSizes}

pub arranged-of : (extent : Extent) (o : Options) (info : ImageInfo) (precision : ℕ) (samples old new : List ℕ)
    (picture : Picture) (lines : Lines) (decoding orientation stream : ℕ) (sampling : List ℕ) (planes : PlaneSizes)
    (transform : ℕ) (density : Density)
    → HasLines o info precision orientation lines
    → new ≡ arranged_by extent lines samples old
    → picture ≡ described_picture o.layout info precision lines decoding orientation sampling planes transform density
    stream
    → Arranged extent o info precision samples old new picture
arranged-of extent o info precision samples old new picture lines decoding orientation stream sampling planes transform
    density h e p = record {
      conversion = h.conversion;
      is = h.is;
      orientation = orientation;
      pixels = e ∙ ap (λ (l : Lines). arranged_by extent l samples old) h.lines_are;
      decoding = decoding;
      sampling = sampling;
      planes = planes;
      transform = transform;
      density = density;
      picture_is = p ∙ (λ i. described_picture o.layout info precision (h.lines_are i) decoding
          orientation sampling planes transform density
          (ap (λ (q : Picture). q.stream_bytes) (sym p) i));
    }

-- a picture with a feature and a text
abbrev pub ending : Picture → Feature → List ℕ → Picture
ending picture feature text = record picture {
  feature = feature.number;
  feature_argument = feature.argument;
  text = text;
}

-- ---- what a call says of a picture

-- what is described has no feature and no text
same : (o : Options) (bytes : List ℕ) (picture : Picture) (feature : Feature) (text : List ℕ)
    → feature ≡ numbered 0 0 → text ≡ replicate 112 0 → Describes o bytes (uncounted picture)
    → uncounted (ending picture feature text) ≡ uncounted picture
same o bytes picture feature text none t d =
    (λ i. ending (d.picture_is i) (none i) (t i)) ∙ sym d.picture_is

pub described : {X : Type 0} (outcome : Result X Refusal) (o : Options) (bytes : List ℕ)
    (picture : Picture) (feature : Feature) (text : List ℕ) (result : ℕ)
    → result ≡ status_of outcome → feature ≡ outcome_feature outcome → IfOk outcome (λ _. text ≡ replicate 112 0)
    → OnOk outcome (IsWithin o bytes (uncounted picture)) → result ≡ 0
    → IsWithin o bytes (uncounted (ending picture feature text))
described (Ok x) o bytes picture feature text result code lacks none d z =
    subst (λ (p : Picture). IsWithin o bytes p) (sym (same o bytes picture feature text lacks none d.0)) d
described (Err r) o bytes picture feature text result code lacks none d z = absurd (code-fails r (sym code ∙ z))

-- a picture above a limit has no text either
as-called : (o : Options) (bytes : List ℕ) (picture : Picture) → Describes o bytes (uncounted picture)
    → as_described picture ≡ uncounted picture
as-called o bytes picture d = ap (λ (p : Picture). as_described p) d.picture_is ∙ sym d.picture_is

pub large-told : {X : Type 0} (outcome : Result X Refusal) (o : Options) (bytes : List ℕ)
    (picture : Picture) (result : ℕ) → result ≡ status_of outcome
    → IfErr outcome (λ r. r ≡ TooLarge → IsTooLarge o bytes (uncounted picture)) → result ≡ 8
    → IsTooLarge o bytes (as_described picture)
large-told (Ok x) o bytes picture result code large z = absurd (omega (arith, code, z))
large-told (Err r) o bytes picture result code large z =
    let told = large (is-too-large r (sym code ∙ z)) in
    subst (λ (p : Picture). IsTooLarge o bytes p) (sym (as-called o bytes picture told.0)) told

-- ---- what a call says by its number

-- after an OK
pub if-ok : {X : Type 0} (P : Type 0) (outcome : Result X Refusal) (result : ℕ) → result ≡ status_of outcome
    → OnOk outcome P → result ≡ 0 → P
if-ok P (Ok x) result code p z = p
if-ok P (Err r) result code p z = absurd (code-fails r (sym code ∙ z))

-- where there is a picture without room, or above a limit
pub if-own : {X : Type 0} (P : Type 0) (outcome : Result X Refusal) (result : ℕ) → result ≡ status_of outcome
    → IfErr outcome (λ r. IsOwn r → P) → (result ≡ 5) ⊎ (result ≡ 8) → P
if-own P outcome result code p own = grind (arith, has-no-room, is-too-large)

-- where a picture is described
pub if-described : {X : Type 0} (P : Type 0) (outcome : Result X Refusal) (result : ℕ) → result ≡ status_of outcome
    → OnOk outcome P → IfErr outcome (λ r. r ≡ TooLarge → P) → (result ≡ 0) ⊎ (result ≡ 8) → P
if-described P outcome result code p q described = grind (arith, if-ok, is-too-large)
