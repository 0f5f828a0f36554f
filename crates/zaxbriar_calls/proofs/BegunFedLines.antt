-- What a call that begins to give the lines of a stream that is held says of its outcome.
use Rattle.std.proofs.Common.{arith, ◌≡◌, ℕ, List, Some, Result, Ok, Err, ap, false, refl, subst, sym, true}
use Rattle.std.proofs.lemmas.Bool.{and_parts}
use Rattle.std.specs.Option.{MatchOption}
use Rattle.std.specs.Prelude.{IfErr, IfOk, OnErr, [], replicate, slice_index}
use Rattle.jpeg_bits.specs.declared.error.Error.TheVariants.{OutOfMemory}
use Rattle.jpeg_meaning.specs.declared.settings.Settings.{Settings}
use Rattle.zaxbriar_calls.proofs.Informed.{informs}
use Rattle.zaxbriar_calls.proofs.TakenSteps.{described-err, described-ok}
use Rattle.zaxbriar_calls.proofs.Told.{ending, if-ok}
use Rattle.zaxbriar_calls.specs.Arrived.{Arrived}
use Rattle.zaxbriar_calls.specs.ArrivedLines.{AreSettingsAt, AreTakenFed, BeginsFedReading, BeginsFedRows}
use Rattle.zaxbriar_calls.specs.ArrivedLines.{BeginsHeldLines, are_for_fed_rows}
use Rattle.zaxbriar_calls.specs.Faults.{IsOwn, status_of}
use Rattle.zaxbriar_calls.specs.Features.{outcome_feature}
use Rattle.zaxbriar_calls.specs.Handles.{fed_rows_in}
use Rattle.zaxbriar_calls.specs.Limits.{are_known, is_full_size}
use Rattle.zaxbriar_calls.specs.Meanings.{no_picture}
use Rattle.zaxbriar_calls.specs.Outcomes.{DescribesStream}
use Rattle.zaxbriar_calls.specs.TakenLines.{are_for_rows, is_plain, no_reason}
use Rattle.zaxbriar_calls.specs.declared.answers.Refusal.{Refusal}
use Rattle.zaxbriar_calls.specs.declared.answers.Refusal.TheVariants as refusals
use Rattle.zaxbriar_calls.specs.declared.features.Feature.{Feature}
use Rattle.zaxbriar_calls.specs.declared.fed_rows.FedRowReader.{FedRowReader}
use Rattle.zaxbriar_calls.specs.declared.handle.Handle.{Handle}
use Rattle.zaxbriar_calls.specs.declared.handle.Handle.TheVariants.{FedRows, Stream}
use Rattle.zaxbriar_calls.specs.declared.options.Options.{Options}
use Rattle.zaxbriar_calls.specs.declared.picture.Picture.{Picture}

-- ---- what the stream that is held becomes

known-for-lines : (o : Options) → are_for_fed_rows o ≡ true → are_known o ≡ true
known-for-lines o fits =
    (and_parts (are_known o) (is_plain o) (and_parts (are_for_rows o) (is_full_size o) fits).0).0

-- Its header is refused.
pub header-refused : (s : Arrived) (picture : Picture) (r : Result Settings Refusal) (refusal : Refusal)
    → r ≡ Err refusal → DescribesStream s.options s.bytes no_picture picture r
    → BeginsHeldLines (Stream s) (Stream s) picture (Err refusal)
header-refused s picture r refusal e d =
    (described-err s.options s.bytes no_picture picture r refusal e d, tt, refl)

-- There is no memory for a reader.
pub lines-refused : (s : Arrived) → are_for_fed_rows s.options ≡ true
    → BeginsHeldLines (Stream s) (Stream s) no_picture (Err (refusals.Stream OutOfMemory))
lines-refused s fits = (
  record {
    within = tt;
    large = λ e. absurd cc;
    counts = tt;
    header = λ e. absurd cc;
    most = λ _. omega arith;
    rowless = λ z. z;
    limited = λ _ _. refl;
    roomless = λ e. absurd cc;
    named = tt;
    whole = λ p. p;
    known = λ n. let k = known-for-lines s.options fits in absurd cc;
    wrong = λ p. absurd p;
    unasked = λ _. refl;
    kept = λ _. refl;
  },
  tt,
  refl,
)

-- A reader begins.
pub lines-begun : (s : Arrived) (picture : Picture) (r : Result Settings Refusal) (settings : Settings)
    (reader : FedRowReader) → r ≡ Ok settings → DescribesStream s.options s.bytes no_picture picture r
    → AreSettingsAt s.options s.bytes settings → reader.rows.settings ≡ settings
    → AreTakenFed s.bytes [] reader → reader.rows.has_ended ≡ false → reader.answer ≡ 0
    → reader.reason ≡ no_reason
    → BeginsHeldLines (Stream s) (FedRows reader) picture (Ok tt)
lines-begun s picture r settings reader e d at same taken unended answer reason = (
  described-ok s.options s.bytes no_picture picture r settings tt e d,
  record {
    settings = subst (λ (t : Settings). AreSettingsAt s.options s.bytes t) (sym same) at;
    taken = taken;
    unended = unended;
    answer = answer;
    reason = reason;
  },
  tt,
)

-- ---- what the call says

none-begun : (outcome : Result (Unit {0}) Refusal) (old new : Handle) (code : ℕ) → OnErr outcome (new ≡ old)
    → code ≡ status_of outcome → (code ≡ 0 → ⊥) → Some new ≡ Some old
none-begun (Ok x) old new code h c n = absurd (n c)
none-begun (Err r) old new code h c n = ap (λ (x : Handle). Some x) h

pub begins-lines : (s : Arrived) (new : Handle) (before picture : Picture) (outcome : Result (Unit {0}) Refusal)
    (feature : Feature) (text : List ℕ) (code : ℕ) → are_for_fed_rows s.options ≡ true
    → BeginsHeldLines (Stream s) new picture outcome → code ≡ status_of outcome → feature ≡ outcome_feature outcome
    → IfOk outcome (λ _. text ≡ replicate 112 0) → slice_index text 111 ≡ 0
    → IfErr outcome (λ r. IsOwn r → slice_index text 0 ≡ 0 → ⊥)
    → BeginsFedReading (Some (Stream s)) (Some new) before (ending picture feature text) code
begins-lines s new before picture outcome feature text code known b c f t ended said = record {
  described = λ _. informs s.options s.bytes picture outcome feature text code b.0 c f t ended said;
  unknown = λ n. absurd cc;
  reader = λ z. if-ok (MatchOption (fed_rows_in (Some new)) ⊥ (BeginsFedRows s.options s.bytes)) outcome code c b.1 z;
  none = λ n. none-begun outcome (Stream s) new code b.2 c n;
}
