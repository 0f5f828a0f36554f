-- What a call that decodes says of its outcome: a field of its record each.
use Rattle.std.proofs.Common.{arith, ◌≡◌, ◌⊎◌, ◌∙◌, ◌≤◌, ◌==◌, ℕ, Bool, true, false, List, Some, None, Result, Ok, Err}
use Rattle.std.proofs.Common.{ap, inl, inr, refl, subst, sym}
use Rattle.std.specs.Prelude.{IfErr, IfOk, IsErrAnd, OnOk, replicate, slice_index, ◌&&◌}
use Rattle.std.proofs.lemmas.Grind.{common_steps}
use Rattle.jpeg_bits.specs.Reading.{End, Fault, Lacks, Malformed, Names}
use Rattle.jpeg_bits.specs.declared.error.Error.{Error}
use Rattle.jpeg_bits.specs.declared.error.Error.TheVariants as errors
use Rattle.jpeg_bits.specs.declared.error.UnsupportedFeature.{UnsupportedFeature}
use Rattle.jpeg_meaning.specs.Shown.{Shown}
use Rattle.jpeg_meaning.specs.Stream.{header_at}
use Rattle.jpeg_meaning.specs.declared.images.ImageInfo.{ImageInfo}
use Rattle.zaxbriar_calls.proofs.Exceeded.{are-limited, is-within, known-at}
use Rattle.zaxbriar_calls.proofs.Fails.{code-fails, has-no-room, is-too-large, named, of-call-number, of-room-number}
use Rattle.zaxbriar_calls.proofs.Parts.{given-entire, given-refused}
use Rattle.zaxbriar_calls.proofs.Told.{if-ok, if-own}
use Rattle.zaxbriar_calls.proofs.Written.{images-given}
use Rattle.zaxbriar_calls.specs.Faults.{IsArgument, IsFault, IsNamed, IsOwn, IsPart, fault_code}
use Rattle.zaxbriar_calls.specs.Faults.{IsOfCallNumber, IsOfRoomNumber, outcome_fault, outcome_rows, reading_code, status_of}
use Rattle.zaxbriar_calls.specs.Faults.{with_passes}
use Rattle.zaxbriar_calls.specs.Features.{NamesFeature, feature_in, numbered, outcome_feature}
use Rattle.zaxbriar_calls.specs.Fills.{Fills, IsAnswer}
use Rattle.zaxbriar_calls.specs.Given.{Gives, GivesPart, HasRows, KnowsExceeded, TellsFault, feature_lacking, given_by}
use Rattle.zaxbriar_calls.specs.Given.{rows_by, without_fault, without_rows}
use Rattle.zaxbriar_calls.specs.Lines.{Arranged}
use Rattle.zaxbriar_calls.specs.Meanings.{Describes, IsTooLarge, IsWithin, as_described}
use Rattle.zaxbriar_calls.specs.Meanings.{no_picture, uncounted}
use Rattle.zaxbriar_calls.specs.Outcomes.{DecodesInto}
use Rattle.zaxbriar_calls.specs.Passes.{exceeds, is_whole}
use Rattle.zaxbriar_calls.specs.declared.answers.Refusal.{Refusal}
use Rattle.zaxbriar_calls.specs.declared.answers.Refusal.TheVariants as refusals
use Rattle.zaxbriar_calls.specs.declared.extents.Extent.{Extent}
use Rattle.zaxbriar_calls.specs.declared.extents.Extent.TheVariants.{Whole, Partial, Planes}
use Rattle.zaxbriar_calls.specs.declared.features.Feature.{Feature}
use Rattle.zaxbriar_calls.specs.declared.options.Options.{Options}
use Rattle.zaxbriar_calls.specs.declared.picture.Picture.{Picture}

-- What is told of an outcome.
pub record Answered (outcome : Result ℕ Refusal) (exceeded : Bool) (feature : Feature) (fault rows : ℕ) (text : List ℕ)
    (code : ℕ) : Type 0 where
  pub code_is : code ≡ status_of outcome
  pub feature_is : feature ≡ outcome_feature outcome
  pub fault_is : fault ≡ with_passes exceeded (outcome_fault outcome)
  pub rows_are : rows ≡ outcome_rows outcome
  pub text_is : IfOk outcome (λ _. text ≡ replicate 112 0)
  pub ended : slice_index text 111 ≡ 0
  pub said : IfErr outcome (λ r. IsOwn r → slice_index text 0 ≡ 0 → ⊥)

-- a picture with a feature, a fault, a number of rows and a text
abbrev pub telling : Picture → Feature → ℕ → ℕ → List ℕ → Picture
telling picture feature fault rows text = record picture {
  feature = feature.number;
  feature_argument = feature.argument;
  fault = fault;
  whole_rows = rows;
  text = text;
}

-- ---- the number of too many passes

none-passed : (exceeded : Bool) → with_passes exceeded 0 ≡ 0
none-passed true = refl
none-passed false = refl

-- any other number is that of the answer
other-code : (exceeded : Bool) (s code n : ℕ) → code ≡ with_passes exceeded s → (n ≡ 10 → ⊥) → code ≡ n → s ≡ n
other-code true s code n c other z = grind (arith, common_steps)
other-code false s code n c other z = sym c ∙ z

same-code : (exceeded : Bool) (s code n : ℕ) → code ≡ with_passes exceeded s → (n ≡ 1 → ⊥) → s ≡ n → code ≡ n
same-code true s code n c other z = grind (arith, common_steps)
same-code false s code n c other z = c ∙ z

passed-code : (exceeded : Bool) (s code : ℕ) → code ≡ with_passes exceeded s → s ≤ 9 → code ≡ 10
    → (exceeded ≡ true) × (s ≡ 1)
passed-code true s code c few z = grind (arith, common_steps)
passed-code false s code c few z = absurd (omega (arith, c, few, z))

-- ---- OK and PARTIAL

-- a picture is given without its rows
ok-given : (extent : Extent) (o : Options) (bytes old new : List ℕ) (picture : Picture) (feature : Feature)
    (fault rows : ℕ) (text : List ℕ)
    → feature ≡ numbered 0 0 → fault ≡ 0 → text ≡ replicate 112 0 → Gives extent o bytes old new None picture
    → Gives extent o bytes old new None (without_rows (telling picture feature fault rows text))
ok-given extent o bytes old new picture feature fault rows text lacks none t s = record {
  told = s.told;
  samples = s.samples;
  info = s.info;
  precision = s.precision;
  are = s.are;
  info_is = s.info_is;
  precision_is = s.precision_is;
  arranged = record {
    conversion = s.arranged.conversion;
    is = s.arranged.is;
    pixels = s.arranged.pixels;
    decoding = s.arranged.decoding;
    orientation = s.arranged.orientation;
    sampling = s.arranged.sampling;
    planes = s.arranged.planes;
    transform = s.arranged.transform;
    density = s.arranged.density;
    picture_is = λ i. telling (s.arranged.picture_is i) (lacks i) (none i) 0 (t i);
  };
}

whole-told : (extent : Extent) (outcome : Result ℕ Refusal) (o : Options) (bytes old new : List ℕ) (picture : Picture)
    (feature : Feature) (fault rows : ℕ) (text : List ℕ) (code : ℕ)
    → (exceeded : Bool) → Answered outcome exceeded feature fault rows text code
    → OnOk outcome (Gives extent o bytes old new None picture) → code ≡ 0
    → Gives extent o bytes old new None (without_rows (telling picture feature fault rows text))
whole-told extent (Ok x) o bytes old new picture feature fault rows text code exceeded a s z =
    ok-given extent o bytes old new picture feature fault rows text a.feature_is (a.fault_is ∙ none-passed exceeded)
    a.text_is s
whole-told extent (Err r) o bytes old new picture feature fault rows text code exceeded a s z =
    absurd (code-fails r (sym a.code_is ∙ z))

-- a picture that is described tells of no fault
without-same : (extent : Extent) (o : Options) (info : ImageInfo) (precision : ℕ) (samples old new : List ℕ)
    (picture : Picture) (feature : Feature) (fault rows : ℕ) (text : List ℕ)
    → Arranged extent o info precision samples old new picture
    → picture ≡ without_fault (without_rows (telling picture feature fault rows text))
without-same extent o info precision samples old new picture feature fault rows text a =
    a.picture_is ∙ sym (ap (λ (p : Picture). without_fault (without_rows p)) a.picture_is)

-- an error that names a fault has its number and its feature
error-number : (e : Error) (n : ℕ) (f : Fault) → Names {Y = Unit {0}} e (Err f) → (e ≡ errors.OutOfMemory → ⊥)
    → (outcome_fault {X = ℕ} (Err (refusals.Part e n)) ≡ reading_code {X = Unit {0}} (Err f))
    × (outcome_feature {X = ℕ} (Err (refusals.Part e n)) ≡ feature_lacking f)
error-number (errors.Format t) rows Malformed n m = (refl, refl)
error-number (errors.Format t) rows (Lacks feature) n m = absurd (grind (arith, common_steps))
error-number (errors.Format t) rows End n m = absurd (grind (arith, common_steps))
error-number (errors.Unsupported feature) rows f n m = grind (arith, common_steps)
error-number (errors.Io e) rows f n m = grind (arith, common_steps)
error-number (errors.Internal t) rows f n m = absurd n
error-number errors.OutOfMemory rows f n m = absurd (m refl)

numbers : (extent : Extent) (o : Options) (bytes : List ℕ) (exceeded : Bool) (e : Error) (n : ℕ) (f : Fault)
    → exceeded ≡ exceeds extent o bytes → Names {Y = Unit {0}} e (Err f) → (e ≡ errors.OutOfMemory → ⊥)
    → (picture : Picture) → picture.fault ≡ with_passes exceeded (outcome_fault {X = ℕ} (Err (refusals.Part e n)))
    → NamesFeature picture (outcome_feature {X = ℕ} (Err (refusals.Part e n)))
    → TellsFault extent o bytes picture f
numbers extent o bytes exceeded e rows f k n m picture p q =
    let same = error-number e rows f n m in (
      p ∙ (λ i. with_passes (k i) (same.0 i)),
      subst (λ (x : Feature). NamesFeature picture x) same.1 q,
    )

-- the number of a part is its own
is-part : (r : Refusal) → fault_code r ≡ 9 → IsPart r
is-part r e = grind arith

error-told : (extent : Extent) (r : Refusal) (o : Options) (bytes old new : List ℕ) (picture : Picture)
    (exceeded : Bool) (feature : Feature) (fault rows : ℕ) (text : List ℕ)
    → KnowsExceeded {X = ℕ} (exceeds extent o bytes) (Err r) exceeded → feature ≡ outcome_feature {X = ℕ} (Err r) → fault ≡ with_passes exceeded (outcome_fault {X = ℕ} (Err r))
    → GivesPart extent o bytes old new picture r → IsPart r
    → (f : Fault)
    × Gives extent o bytes old new (Some f) (without_fault (without_rows (telling picture feature fault rows text)))
    × TellsFault extent o bytes (telling picture feature fault rows text) f
error-told extent (refusals.Part e n) o bytes old new picture exceeded feature fault rows text l is names s p = (
  s.0,
  subst (λ (p : Picture). Gives extent o bytes old new (Some s.0) p)
      (without-same extent o s.3.info s.3.precision s.3.samples old new picture feature fault rows text s.3.arranged) s.3,
  numbers extent o bytes exceeded e n s.0 l s.1 s.2 (telling picture feature fault rows text) names
      (ap (λ (f : Feature). f.number) is, ap (λ (f : Feature). f.argument) is),
)
error-told extent (refusals.Stream e) o bytes old new picture exceeded feature fault rows text l is names s p = absurd p
error-told extent refusals.Reader o bytes old new picture exceeded feature fault rows text l is names s p = absurd p
error-told extent (refusals.Argument t) o bytes old new picture exceeded feature fault rows text l is names s p = absurd p
error-told extent refusals.NoRoom o bytes old new picture exceeded feature fault rows text l is names s p = absurd p
error-told extent refusals.TooLarge o bytes old new picture exceeded feature fault rows text l is names s p = absurd p

part-told : (extent : Extent) (outcome : Result ℕ Refusal) (o : Options) (bytes old new : List ℕ) (picture : Picture)
    (feature : Feature) (fault rows : ℕ) (text : List ℕ) (code : ℕ)
    → (exceeded : Bool) → KnowsExceeded (exceeds extent o bytes) outcome exceeded
    → Answered outcome exceeded feature fault rows text code
    → IfErr outcome (GivesPart extent o bytes old new picture) → code ≡ 9
    → (f : Fault)
    × Gives extent o bytes old new (Some f) (without_fault (without_rows (telling picture feature fault rows text)))
    × TellsFault extent o bytes (telling picture feature fault rows text) f
part-told extent (Ok x) o bytes old new picture feature fault rows text code exceeded l a s z =
    absurd (omega (arith, a.code_is, z))
part-told extent (Err r) o bytes old new picture feature fault rows text code exceeded l a s z =
    error-told extent r o bytes old new picture exceeded feature fault rows text l a.feature_is a.fault_is s
    (is-part r (sym a.code_is ∙ z))

-- ---- numbers

no-fault : (outcome : Result ℕ Refusal) (code : ℕ) → code ≡ status_of outcome → (code ≡ 9 → ⊥) → outcome_fault outcome ≡ 0
no-fault outcome code c n = grind arith

told-rows : (outcome : Result ℕ Refusal) (complete code : ℕ) → code ≡ status_of outcome
    → HasRows complete outcome → (code ≡ 0) ⊎ (code ≡ 9) → outcome_rows outcome ≡ complete
told-rows outcome complete code c h z = grind (arith, code-fails, is-part)

none-told : (outcome : Result ℕ Refusal) (code : ℕ) → code ≡ status_of outcome → (code ≡ 0 → ⊥)
    → (code ≡ 9 → ⊥) → outcome_rows outcome ≡ 0
none-told outcome code c a b = grind arith

pub none-lacking : {X : Type 0} (outcome : Result X Refusal) (code : ℕ) → code ≡ status_of outcome → (code ≡ 2 → ⊥) → (code ≡ 9 → ⊥)
    → outcome_feature outcome ≡ numbered 0 0
none-lacking outcome code c a b = grind arith

error-lacks : {Y : Type 0} (e : Error) (read : Result Y Fault) → fault_code (refusals.Stream e) ≡ 2 → Names e read
    → (feature : UnsupportedFeature) × (read ≡ Err (Lacks feature))
    × (outcome_feature {X = ℕ} (Err (refusals.Stream e)) ≡ feature_in feature)
error-lacks (errors.Unsupported feature) read c n = (feature, n, refl)
error-lacks (errors.Format t) read c n = absurd (omega (arith, c))
error-lacks (errors.Io e) read c n = absurd (omega (arith, c))
error-lacks (errors.Internal t) read c n = absurd (omega (arith, c))
error-lacks errors.OutOfMemory read c n = absurd (omega (arith, c))

lacks-told : {Y : Type 0} (r : Refusal) (read : Result Y Fault) → fault_code r ≡ 2 → IsFault read r
    → (feature : UnsupportedFeature) × (read ≡ Err (Lacks feature))
    × (outcome_feature {X = ℕ} (Err r) ≡ feature_in feature)
lacks-told (refusals.Stream e) read c n = error-lacks e read c n
lacks-told (refusals.Part e rows) read c n = absurd (omega (arith, c))
lacks-told refusals.Reader read c n = absurd (omega (arith, c))
lacks-told (refusals.Argument t) read c n = absurd (omega (arith, c))
lacks-told refusals.NoRoom read c n = absurd (omega (arith, c))
lacks-told refusals.TooLarge read c n = absurd (omega (arith, c))

pub feature-told : {X Y : Type 0} (outcome : Result X Refusal) (read : Result Y Fault) (code : ℕ) (feature : Feature)
    → code ≡ status_of outcome → feature ≡ outcome_feature outcome → IfErr outcome (IsFault read) → code ≡ 2
    → (lacking : UnsupportedFeature) × (read ≡ Err (Lacks lacking)) × (feature ≡ feature_in lacking)
feature-told (Ok x) read code feature c f h z = absurd (omega (arith, c, z))
feature-told (Err r) read code feature c f h z =
    let l = lacks-told r read (sym c ∙ z) h in (l.0, l.1, f ∙ l.2)

-- a whole picture is never PARTIAL
no-part-given : (extent : Extent) (o : Options) (bytes old new : List ℕ) (picture : Picture) (r : Refusal)
    → GivesPart extent o bytes old new picture r → IsPart r → is_whole extent ≡ true → ⊥
no-part-given extent o bytes old new picture (refusals.Part e n) s p w =
    some-none s.0 (given-entire extent o bytes _ w s.3.are)
  where
    some-none : (f : Fault) → Some f ≡ None → ⊥
    some-none f h = cc
no-part-given extent o bytes old new picture (refusals.Stream e) s p w = absurd p
no-part-given extent o bytes old new picture refusals.Reader s p w = absurd p
no-part-given extent o bytes old new picture (refusals.Argument t) s p w = absurd p
no-part-given extent o bytes old new picture refusals.NoRoom s p w = absurd p
no-part-given extent o bytes old new picture refusals.TooLarge s p w = absurd p

pub few-codes : {X : Type 0} (outcome : Result X Refusal) → (IfErr outcome (λ r. IsPart r → ⊥)) → status_of outcome ≤ 8
few-codes outcome n = grind arith

pub all-codes : {X : Type 0} (outcome : Result X Refusal) → (status_of outcome ≤ 9) × (status_of outcome ≡ 7 → ⊥)
all-codes outcome = grind arith

whole-codes : (extent : Extent) (o : Options) (bytes old new : List ℕ) (picture : Picture) (outcome : Result ℕ Refusal)
    → is_whole extent ≡ true → IfErr outcome (GivesPart extent o bytes old new picture) → status_of outcome ≤ 8
whole-codes extent o bytes old new picture (Ok x) w s = few-codes {X = ℕ} (Ok x) tt
whole-codes extent o bytes old new picture (Err r) w s =
    few-codes {X = ℕ} (Err r) (λ p. no-part-given extent o bytes old new picture r s p w)

all-passed : (extent : Extent) (o : Options) (bytes old new : List ℕ) (picture : Picture) (outcome : Result ℕ Refusal)
    (passed : Bool) (code : ℕ) → is_whole extent ≡ true → code ≡ with_passes passed (status_of outcome)
    → IfErr outcome (GivesPart extent o bytes old new picture) → ((code ≤ 8) ⊎ (code ≡ 10)) × (code ≡ 7 → ⊥)
all-passed extent o bytes old new picture outcome passed code w c s =
    let few = whole-codes extent o bytes old new picture outcome w s in
    let all = all-codes outcome in (
      within passed (status_of outcome) code c few,
      λ z. all.1 (other-code passed (status_of outcome) code 7 c (λ e. omega (arith, e)) z),
    )
  where
    within : (passed : Bool) (n code : ℕ) → code ≡ with_passes passed n → n ≤ 8 → (code ≤ 8) ⊎ (code ≡ 10)
    within false n code c few = inl (omega (arith, c, few))
    within true n code c few = is-one n code c few (n == 1) refl
      where
        is-one : (n code : ℕ) → code ≡ with_passes true n → n ≤ 8 → (b : Bool) → (n == 1) ≡ b → (code ≤ 8) ⊎ (code ≡ 10)
        is-one n code c few true e = inr (grind (arith, common_steps))
        is-one n code c few false e = inl (grind (arith, common_steps))

codes : (extent : Extent) (o : Options) (bytes old new : List ℕ) (picture : Picture) (outcome : Result ℕ Refusal)
    (passed : Bool) (code : ℕ) → (passed ≡ true → is_whole extent ≡ true) → code ≡ with_passes passed (status_of outcome)
    → IfErr outcome (GivesPart extent o bytes old new picture) → IsAnswer extent code × (code ≡ 7 → ⊥)
codes Whole o bytes old new picture outcome passed code w c s =
    all-passed Whole o bytes old new picture outcome passed code refl c s
codes Planes o bytes old new picture outcome passed code w c s =
    all-passed Planes o bytes old new picture outcome passed code refl c s
codes Partial o bytes old new picture outcome true code w c s = absurd (false-true (w refl))
  where
    false-true : false ≡ true → ⊥
    false-true e = cc
codes Partial o bytes old new picture outcome false code w c s =
    let all = all-codes outcome in (omega (arith, c, all.0), λ z. all.1 (sym c ∙ z))

-- ---- what is described

-- a described picture tells of nothing else
as-told : (o : Options) (bytes : List ℕ) (picture : Picture) (feature : Feature) (fault rows : ℕ)
    (text : List ℕ) → fault ≡ 0 → rows ≡ 0 → Describes o bytes (uncounted picture)
    → as_described (telling picture feature fault rows text) ≡ uncounted picture
as-told o bytes picture feature fault rows text f r d =
    (λ i. as_described (telling (d.picture_is i) feature (f i) (r i) text)) ∙ sym d.picture_is

as-shown : (o : Options) (bytes : List ℕ) (picture : Picture) (feature : Feature) (fault rows : ℕ)
    (text : List ℕ) → Describes o bytes (uncounted picture)
    → as_described (without_fault (without_rows (telling picture feature fault rows text))) ≡ uncounted picture
as-shown o bytes picture feature fault rows text d =
    ap (λ (p : Picture). as_described (without_fault (without_rows p))) d.picture_is ∙ sym d.picture_is

described-shown : (o : Options) (bytes : List ℕ) (picture : Picture) (feature : Feature)
    (fault rows : ℕ) (text : List ℕ) → IsWithin o bytes (uncounted picture)
    → IsWithin o bytes (as_described (without_fault (without_rows (telling picture feature fault rows text))))
described-shown o bytes picture feature fault rows text w =
    subst (λ (p : Picture). IsWithin o bytes p)
    (sym (as-shown o bytes picture feature fault rows text w.0)) w

within-told : (P : Type 0) (outcome : Result ℕ Refusal) (code : ℕ) → code ≡ status_of outcome
    → OnOk outcome P → IfErr outcome (λ r. IsPart r → P) → (code ≡ 0) ⊎ (code ≡ 9) → P
within-told P outcome code c d e z = grind (arith, code-fails, is-part)

large-at : (P : Type 0) (outcome : Result ℕ Refusal) (code : ℕ) → code ≡ status_of outcome
    → IfErr outcome (λ r. r ≡ refusals.TooLarge → P) → code ≡ 8 → P
large-at P (Ok x) code c p z = absurd (omega (arith, c, z))
large-at P (Err r) code c p z = p (is-too-large r (sym c ∙ z))

room-at : (P : Type 0) (outcome : Result ℕ Refusal) (code : ℕ) → code ≡ status_of outcome
    → IfErr outcome (λ r. r ≡ refusals.NoRoom → P) → code ≡ 5 → P
room-at P (Ok x) code c p z = absurd (omega (arith, c, z))
room-at P (Err r) code c p z = p (has-no-room r (sym c ∙ z))

-- ---- refusals

pub argument-code : {X : Type 0} (outcome : Result X Refusal) (code : ℕ) → code ≡ status_of outcome → IsErrAnd outcome IsArgument
    → code ≡ 6
argument-code outcome code c a = grind arith

error-wrong : {Y : Type 0} (e : Error) (read : Result Y Fault) (P : Type 0) → fault_code (refusals.Stream e) ≡ 6
    → Names e read → P
error-wrong (errors.Internal t) read P c n = absurd n
error-wrong (errors.Format t) read P c n = absurd (omega (arith, c))
error-wrong (errors.Unsupported f) read P c n = absurd (omega (arith, c))
error-wrong (errors.Io e) read P c n = absurd (omega (arith, c))
error-wrong errors.OutOfMemory read P c n = absurd (omega (arith, c))

refusal-wrong : {Y : Type 0} (r : Refusal) (read : Result Y Fault) (P : Type 0) → fault_code r ≡ 6 → IsFault read r
    → (IsArgument r → P) → P
refusal-wrong (refusals.Argument t) read P c n p = p tt
refusal-wrong (refusals.Stream e) read P c n p = error-wrong e read P c n
refusal-wrong (refusals.Part e rows) read P c n p = absurd (omega (arith, c))
refusal-wrong refusals.Reader read P c n p = absurd (omega (arith, c))
refusal-wrong refusals.NoRoom read P c n p = absurd (omega (arith, c))
refusal-wrong refusals.TooLarge read P c n p = absurd (omega (arith, c))

pub wrong-told : {X Y : Type 0} (outcome : Result X Refusal) (read : Result Y Fault) (P : Type 0) (code : ℕ)
    → code ≡ status_of outcome → IfErr outcome (IsFault read) → IfErr outcome (λ r. IsArgument r → P) → code ≡ 6 → P
wrong-told (Ok x) read P code c n p z = absurd (omega (arith, c, z))
wrong-told (Err r) read P code c n p z = refusal-wrong r read P (sym c ∙ z) n p

kept-told : (P : Type 0) (outcome : Result ℕ Refusal) (code : ℕ) → code ≡ status_of outcome
    → IfErr outcome (λ r. (IsPart r → ⊥) → P) → (code ≡ 0 → ⊥) → (code ≡ 9 → ⊥) → P
kept-told P (Ok x) code c k a b = absurd (a c)
kept-told P (Err r) code c k a b = k (λ p. b (c ∙ part-code r p))
  where
    part-code : (r : Refusal) → IsPart r → fault_code r ≡ 9
    part-code r p = grind arith

-- no picture tells of nothing
cleared : (picture : Picture) (feature : Feature) (fault rows : ℕ) (text : List ℕ) → fault ≡ 0 → rows ≡ 0
    → uncounted picture ≡ no_picture → as_described (telling picture feature fault rows text) ≡ no_picture
cleared picture feature fault rows text f r none =
    λ i. as_described (telling (none i) feature (f i) (r i) text)

unread : (extent : Extent) (o : Options) (bytes : List ℕ) (f : Fault) (s : Shown) → header_at bytes ≡ Err f
    → given_by extent o bytes ≡ Ok s → ⊥
unread extent o bytes f s h g =
    let none : given_by extent o bytes ≡ Err f = given-refused extent o bytes f h in
    cc

part-read : (extent : Extent) (o : Options) (bytes old new : List ℕ) (picture : Picture) (r : Refusal) (f : Fault)
    → header_at bytes ≡ Err f → GivesPart extent o bytes old new picture r → IsPart r → ⊥
part-read extent o bytes old new picture (refusals.Part e n) f h s p = unread extent o bytes f _ h s.3.are
part-read extent o bytes old new picture (refusals.Stream e) f h s p = p
part-read extent o bytes old new picture refusals.Reader f h s p = p
part-read extent o bytes old new picture (refusals.Argument t) f h s p = p
part-read extent o bytes old new picture refusals.NoRoom f h s p = p
part-read extent o bytes old new picture refusals.TooLarge f h s p = p

no-part-code : (r : Refusal) → (IsPart r → ⊥) → (outcome_fault {X = ℕ} (Err r) ≡ 0) × (outcome_rows (Err r) ≡ 0)
no-part-code r n = grind arith

header-cleared : (extent : Extent) (o : Options) (bytes old new : List ℕ) (picture : Picture)
    (outcome : Result ℕ Refusal) (f : Fault) → header_at bytes ≡ Err f
    → OnOk outcome (Gives extent o bytes old new None picture)
    → IfErr outcome (GivesPart extent o bytes old new picture)
    → (outcome_fault outcome ≡ 0) × (outcome_rows outcome ≡ 0)
header-cleared extent o bytes old new picture (Ok x) f h g p = absurd (unread extent o bytes f _ h g.are)
header-cleared extent o bytes old new picture (Err r) f h g p =
    no-part-code r (part-read extent o bytes old new picture r f h p)

argument-cleared : (outcome : Result ℕ Refusal) → IsErrAnd outcome IsArgument
    → (outcome_fault outcome ≡ 0) × (outcome_rows outcome ≡ 0)
argument-cleared outcome a = grind arith

-- an outcome that is no part tells of no fault and no rows
own-cleared : (outcome : Result ℕ Refusal) (code : ℕ) → code ≡ status_of outcome → (code ≡ 5) ⊎ (code ≡ 8)
    → (outcome_fault outcome ≡ 0) × (outcome_rows outcome ≡ 0)
own-cleared outcome code c z = grind arith

-- TOO_MANY_PASSES is returned of a whole picture alone, or of planes
are-whole : (exceeded : Bool) (extent : Extent) → (exceeded && is_whole extent) ≡ true
    → (exceeded ≡ true) × (is_whole extent ≡ true)
are-whole true extent h = (refl, h)
are-whole false extent h = absurd cc

-- ---- all of it

pub fills : (extent : Extent) (o : Options) (bytes old new : List ℕ) (picture : Picture) (outcome : Result ℕ Refusal)
    (exceeded : Bool) (feature : Feature) (fault rows : ℕ) (text : List ℕ) (code answer : ℕ)
    → DecodesInto extent o bytes old new no_picture picture outcome exceeded
    → Answered outcome exceeded feature fault rows text code
    → answer ≡ with_passes (exceeded && is_whole extent) code
    → Fills extent o bytes old new (telling picture feature fault rows text) answer
fills extent o bytes old new picture outcome exceeded feature fault rows text code answer d a is =
    let passed = exceeded && is_whole extent in
    let whole : passed ≡ true → (exceeded ≡ true) × (is_whole extent ≡ true) = are-whole exceeded extent in
    let known : code ≡ 1 → exceeded ≡ exceeds extent o bytes =
    known-at outcome (exceeds extent o bytes) exceeded code a.code_is d.passes in
    let names : IsNamed code (given_by extent o bytes) =
    named outcome (given_by extent o bytes) code a.code_is d.named in
    let shown : code ≡ 0 → Gives extent o bytes old new None (without_rows (telling picture feature fault rows text)) =
    whole-told extent outcome o bytes old new picture feature fault rows text code exceeded a d.given in
    let faultless : outcome_fault outcome ≡ 0 → fault ≡ 0 = λ e.
    a.fault_is ∙ ap (with_passes exceeded) e ∙ none-passed exceeded in
    let back : (n : ℕ) → (n ≡ 10 → ⊥) → answer ≡ n → code ≡ n = λ n m z. other-code passed code answer n is m z in
    let on : (n : ℕ) → (n ≡ 1 → ⊥) → code ≡ n → answer ≡ n = λ n m z. same-code passed code answer n is m z in
    let to0 = back 0 (λ e. omega (arith, e)) in
    let to9 = back 9 (λ e. omega (arith, e)) in
    let to5 = back 5 (λ e. omega (arith, e)) in
    let to8 = back 8 (λ e. omega (arith, e)) in
    let as0 : (answer ≡ 0 → ⊥) → code ≡ 0 → ⊥ = λ n z. n (on 0 (λ e. omega (arith, e)) z) in
    let as9 : (answer ≡ 9 → ⊥) → code ≡ 9 → ⊥ = λ n z. n (on 9 (λ e. omega (arith, e)) z) in
    let as2 : (answer ≡ 2 → ⊥) → code ≡ 2 → ⊥ = λ n z. n (on 2 (λ e. omega (arith, e)) z) in
    let either : (answer ≡ 0) ⊎ (answer ≡ 9) → (code ≡ 0) ⊎ (code ≡ 9) = λ z. elim z [ inl e ↦ inl (to0 e) | inr e ↦ inr (to9 e) ] in
    let own : (answer ≡ 5) ⊎ (answer ≡ 8) → (code ≡ 5) ⊎ (code ≡ 8) = λ z. elim z [ inl e ↦ inl (to5 e) | inr e ↦ inr (to8 e) ] in
    record {
      given = λ z. shown (to0 z);
      part = λ z. part-told extent outcome o bytes old new picture feature fault rows text code exceeded d.passes a d.part
          (to9 z);
      entire = λ n. faultless (no-fault outcome code a.code_is (as9 n));
      images = λ z. images-given extent o bytes old new (telling picture feature fault rows text) (shown (to0 z))
          (a.rows_are ∙ told-rows outcome (rows_by extent o bytes) code a.code_is d.rows (inl (to0 z)))
          (if-ok _ outcome code a.code_is d.counts (to0 z));
      rows = λ z. a.rows_are ∙ told-rows outcome (rows_by extent o bytes) code a.code_is d.rows (either z);
      rowless = λ n m. a.rows_are ∙ none-told outcome code a.code_is (as0 n) (as9 m);
      counts = λ z. if-ok _ outcome code a.code_is d.counts (to0 z);
      header = λ z. if-own _ outcome code a.code_is d.header (own z);
      unread = λ n. ap (λ (p : Picture). p.stream_bytes) (d.unasked n);
      most = d.most refl;
      number = codes extent o bytes old new picture outcome passed answer (λ p. (whole p).1)
          (is ∙ ap (with_passes passed) a.code_is) d.part;
      malformed = λ z.
          let one = back 1 (λ e. omega (arith, e)) z in
          (names.0 one, is-within extent o bytes exceeded code answer is z one (known one));
      passes = λ z.
          let all = all-codes outcome in
          let p = passed-code passed code answer is (omega (arith, a.code_is, all.0)) z in
          let above = sym (known p.1) ∙ (whole p.0).0 in
          (names.0 p.1, above, are-limited extent o bytes above);
      unsupported = λ z.
          let l = feature-told outcome (given_by extent o bytes) code feature a.code_is a.feature_is d.named
          (back 2 (λ e. omega (arith, e)) z) in
          (l.0, l.1, (ap (λ (f : Feature). f.number) l.2, ap (λ (f : Feature). f.argument) l.2));
      truncated = λ z. names.2 (back 3 (λ e. omega (arith, e)) z);
      unnamed = λ n m.
          let l = a.feature_is ∙ none-lacking outcome code a.code_is (as2 n) (as9 m) in
          (ap (λ (f : Feature). f.number) l, ap (λ (f : Feature). f.argument) l);
      kept = λ n m. kept-told _ outcome code a.code_is d.kept (as0 n) (as9 m);
      describes = λ z. described-shown o bytes picture feature fault rows text
          (within-told _ outcome code a.code_is d.within d.described (either z));
      room = λ z.
          let w = room-at _ outcome code a.code_is d.room (to5 z) in
          let none = own-cleared outcome code a.code_is (inl (to5 z)) in (
            subst (λ (p : Picture). IsWithin o bytes p)
                (sym (as-told o bytes picture feature fault rows text (faultless none.0) (a.rows_are ∙ none.1)
                w.0.0)) w.0,
            w.1,
          );
      large = λ z.
          let w = large-at _ outcome code a.code_is d.large (to8 z) in
          let none = own-cleared outcome code a.code_is (inr (to8 z)) in
          subst (λ (p : Picture). IsTooLarge o bytes p)
          (sym (as-told o bytes picture feature fault rows text (faultless none.0) (a.rows_are ∙ none.1)
          w.0)) w;
      limited = λ size l. kept-number (of-call-number outcome code a.code_is (d.limited size l)) on;
      short = λ size w l. kept-room (of-room-number outcome code a.code_is (d.short size w l)) on;
      known = λ n. on 6 (λ e. omega (arith, e)) (argument-code outcome code a.code_is (d.known n));
      wrong = λ z. wrong-told outcome (given_by extent o bytes) _ code a.code_is d.named d.wrong
          (back 6 (λ e. omega (arith, e)) z);
      unasked = λ n.
          let none = argument-cleared outcome (d.known n) in
          cleared picture feature fault rows text (faultless none.0) (a.rows_are ∙ none.1)
          (ap (λ (p : Picture). uncounted p) (d.unasked n));
      cleared = λ f h.
          let none = header-cleared extent o bytes old new picture outcome f h d.given d.part in
          cleared picture feature fault rows text (faultless none.0) (a.rows_are ∙ none.1) (d.undescribed f h);
      ended = a.ended;
      said = λ z. if-own _ outcome code a.code_is a.said (own z);
    }
  where
    kept-number : {code answer : ℕ} → IsOfCallNumber code → ((n : ℕ) → (n ≡ 1 → ⊥) → code ≡ n → answer ≡ n)
        → IsOfCallNumber answer
    kept-number (inl e) on = inl (on 8 (λ f. omega (arith, f)) e)
    kept-number (inr (inl e)) on = inr (inl (on 4 (λ f. omega (arith, f)) e))
    kept-number (inr (inr e)) on = inr (inr (on 6 (λ f. omega (arith, f)) e))

    kept-room : {code answer : ℕ} → IsOfRoomNumber code → ((n : ℕ) → (n ≡ 1 → ⊥) → code ≡ n → answer ≡ n)
        → IsOfRoomNumber answer
    kept-room (inl e) on = inl (on 5 (λ f. omega (arith, f)) e)
    kept-room (inr (inl e)) on = inr (inl (on 4 (λ f. omega (arith, f)) e))
    kept-room (inr (inr e)) on = inr (inr (on 6 (λ f. omega (arith, f)) e))
