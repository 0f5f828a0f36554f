-- What a call that begins to give lines says of its outcome.
use Rattle.std.proofs.Common.{◌≡◌, ℕ, List, Option, None, Some, Result, Ok, Err, true}
use Rattle.std.specs.Option.{MatchOption}
use Rattle.std.specs.Prelude.{IfErr, IfOk, OnErr, OnOk, replicate, slice_index}
use Rattle.zaxbriar_calls.proofs.Informed.{informs}
use Rattle.zaxbriar_calls.proofs.Told.{ending, if-ok}
use Rattle.zaxbriar_calls.specs.Faults.{IsOwn, status_of}
use Rattle.zaxbriar_calls.specs.Features.{outcome_feature}
use Rattle.zaxbriar_calls.specs.Handles.{rows_in}
use Rattle.zaxbriar_calls.specs.Meanings.{no_picture}
use Rattle.zaxbriar_calls.specs.Outcomes.{DescribesStream}
use Rattle.zaxbriar_calls.specs.TakenLines.{BeginsReading, BeginsRows, KeepsRows, are_for_rows}
use Rattle.zaxbriar_calls.specs.declared.answers.Refusal.{Refusal}
use Rattle.zaxbriar_calls.specs.declared.features.Feature.{Feature}
use Rattle.zaxbriar_calls.specs.declared.handle.Handle.{Handle}
use Rattle.zaxbriar_calls.specs.declared.options.Options.{Options}
use Rattle.zaxbriar_calls.specs.declared.picture.Picture.{Picture}
use Rattle.zaxbriar_calls.specs.declared.rows.RowReader.{RowReader}

-- What is told beside the picture changes nothing of its lines.
told-beside : (o : Options) (bytes : List ℕ) (picture : Picture) (feature : Feature) (text : List ℕ)
    (r : RowReader) → BeginsRows o bytes picture r → BeginsRows o bytes (ending picture feature text) r
told-beside o bytes picture feature text r b = record {
  before = b.before;
  known = b.known;
  stream = b.stream;
  header = b.header;
  taken = b.taken;
  line_bytes = b.line_bytes;
  answer = b.answer;
  reason = b.reason;
}

-- The reader that is kept is the same.
kept-beside : (o : Options) (bytes : List ℕ) (picture : Picture) (feature : Feature) (text : List ℕ)
    (kept : Option RowReader) → MatchOption kept ⊥ (BeginsRows o bytes picture)
    → MatchOption kept ⊥ (BeginsRows o bytes (ending picture feature text))
kept-beside o bytes picture feature text None k = k
kept-beside o bytes picture feature text (Some r) k = told-beside o bytes picture feature text r k

none-kept : (outcome : Result (Unit {0}) Refusal) (kept : Option Handle) (code : ℕ) → OnErr outcome (kept ≡ None)
    → code ≡ status_of outcome → (code ≡ 0 → ⊥) → kept ≡ None
none-kept (Ok x) kept code h c n = absurd (n c)
none-kept (Err r) kept code h c n = h

pub begins-reading : (o : Options) (bytes : List ℕ) (picture : Picture) (outcome : Result (Unit {0}) Refusal)
    (kept : Option Handle) (feature : Feature) (text : List ℕ) (code : ℕ) → are_for_rows o ≡ true
    → DescribesStream o bytes no_picture picture outcome → OnOk outcome (KeepsRows o bytes picture kept)
    → OnErr outcome (kept ≡ None) → code ≡ status_of outcome → feature ≡ outcome_feature outcome
    → IfOk outcome (λ _. text ≡ replicate 112 0) → slice_index text 111 ≡ 0
    → IfErr outcome (λ r. IsOwn r → slice_index text 0 ≡ 0 → ⊥)
    → BeginsReading o bytes (ending picture feature text) code kept
begins-reading o bytes picture outcome kept feature text code known d begins none c f t ended said = record {
  described = λ _. informs o bytes picture outcome feature text code d c f t ended said;
  unknown = λ n. absurd cc;
  reader = λ z. kept-beside o bytes picture feature text (rows_in kept) (if-ok _ outcome code c begins z);
  none = λ n. none-kept outcome kept code none c n;
}
