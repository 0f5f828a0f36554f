-- What a call that describes a stream says of its outcome: a field of its record each.
use Rattle.std.proofs.Common.{arith, ◌≡◌, ◌∙◌, ◌≤◌, ℕ, List, Result, Ok, Err, ap, refl, subst, sym}
use Rattle.std.specs.Prelude.{IfErr, IfOk, replicate, slice_index}
use Rattle.jpeg_meaning.specs.Stream.{header_at}
use Rattle.zaxbriar_calls.proofs.Fails.{is-too-large, named, not-room, of-call-number}
use Rattle.zaxbriar_calls.proofs.Filled.{all-codes, argument-code, feature-told, few-codes, none-lacking, wrong-told}
use Rattle.zaxbriar_calls.proofs.Told.{described, ending, if-described, large-told}
use Rattle.zaxbriar_calls.specs.Faults.{IsNamed, IsOwn, fault_code, status_of}
use Rattle.zaxbriar_calls.specs.Features.{outcome_feature}
use Rattle.zaxbriar_calls.specs.Meanings.{as_described, no_picture, uncounted}
use Rattle.zaxbriar_calls.specs.ReadsInfo.{ReadsInfo}
use Rattle.zaxbriar_calls.specs.Outcomes.{DescribesStream}
use Rattle.zaxbriar_calls.specs.declared.answers.Refusal.{Refusal}
use Rattle.zaxbriar_calls.specs.declared.answers.Refusal.TheVariants.{TooLarge}
use Rattle.zaxbriar_calls.specs.declared.features.Feature.{Feature}
use Rattle.zaxbriar_calls.specs.declared.options.Options.{Options}
use Rattle.zaxbriar_calls.specs.declared.picture.Picture.{Picture}

large-code : (r : Refusal) → r ≡ TooLarge → fault_code r ≡ 8
large-code r e = ap fault_code e

kept-cleared : {X : Type 0} (picture : Picture) (feature : Feature) (text : List ℕ) (outcome : Result X Refusal) (code : ℕ)
    → code ≡ status_of outcome
    → IfErr outcome (λ r. (r ≡ TooLarge → ⊥) → uncounted picture ≡ no_picture)
    → (code ≡ 0 → ⊥) → (code ≡ 8 → ⊥) → as_described (ending picture feature text) ≡ no_picture
kept-cleared picture feature text (Ok x) code c k a b = absurd (a c)
kept-cleared picture feature text (Err r) code c k a b =
    ap (λ (p : Picture). as_described p) (k (λ e. b (c ∙ large-code r e)))

said-large : {X : Type 0} (P : Type 0) (outcome : Result X Refusal) (code : ℕ) → code ≡ status_of outcome
    → IfErr outcome (λ r. IsOwn r → P) → code ≡ 8 → P
said-large P (Ok x) code c p z = absurd (omega (arith, c, z))
said-large P (Err r) code c p z =
    p (subst (λ (r : Refusal). IsOwn r) (sym (is-too-large r (sym c ∙ z))) tt)

pub informs : {X : Type 0} (o : Options) (bytes : List ℕ) (picture : Picture) (outcome : Result X Refusal)
    (feature : Feature) (text : List ℕ) (code : ℕ)
    → DescribesStream o bytes no_picture picture outcome → code ≡ status_of outcome → feature ≡ outcome_feature outcome
    → IfOk outcome (λ _. text ≡ replicate 112 0) → slice_index text 111 ≡ 0
    → IfErr outcome (λ r. IsOwn r → slice_index text 0 ≡ 0 → ⊥)
    → ReadsInfo o bytes (ending picture feature text) code
informs o bytes picture outcome feature text code d c f t ended said =
    let names : IsNamed code (header_at bytes) = named outcome (header_at bytes) code c d.named in
    let few : status_of outcome ≤ 8 = few-codes outcome d.whole in
    record {
      describes = λ z. described outcome o bytes picture feature text code c f t d.within z;
      counts = λ z. if-described _ outcome code c d.counts d.header z;
      unread = λ n. ap (λ (p : Picture). p.stream_bytes) (d.unasked n);
      most = d.most refl;
      large = λ z. large-told outcome o bytes picture code c d.large z;
      limited = λ size l. of-call-number outcome code c (d.limited size l);
      number = (omega (arith, c, few), λ z. (all-codes outcome).1 (sym c ∙ z));
      roomless = λ z. not-room outcome code c d.roomless z;
      rowless = d.rowless refl;
      malformed = names.0;
      unsupported = λ z.
          let l = feature-told outcome (header_at bytes) code feature c f d.named z in
          (l.0, l.1, (ap (λ (f : Feature). f.number) l.2, ap (λ (f : Feature). f.argument) l.2));
      truncated = names.2;
      unnamed = λ n.
          let l = f ∙ none-lacking outcome code c n (λ z. omega (arith, c, few, z)) in
          (ap (λ (f : Feature). f.number) l, ap (λ (f : Feature). f.argument) l);
      known = λ n. argument-code outcome code c (d.known n);
      wrong = λ z. wrong-told outcome (header_at bytes) _ code c d.named d.wrong z;
      cleared = λ n m. kept-cleared picture feature text outcome code c d.kept n m;
      ended = ended;
      said = λ z. said-large _ outcome code c said z;
    }
