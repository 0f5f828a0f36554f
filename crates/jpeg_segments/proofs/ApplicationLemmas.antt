-- A payload that says nothing is passed over.
use Rattle.std.proofs.Common.{◌≡◌, ◌≢◌, ℕ, ◌<◌, List, Option, None, Ok, arith}
use Rattle.std.proofs.lemmas.Grind.{common_steps}
use Rattle.jpeg_bits.specs.Reading.{Outcome, ◌>>=◌, length_at, times, skip_at, next_byte}
use Rattle.jpeg_segments.specs.Application.{Application, app_at, application_by, passed_over}
use Rattle.jpeg_segments.specs.Parts.{payload_at}

abbrev saying : Option Application → List ℕ × List ℕ → Outcome (Option Application)
saying said x = Ok (said, x.1)

pub read-skipped : (n : ℕ) (said : Option Application) (bytes : List ℕ) → (times n next_byte bytes >>= saying said)
    ≡ passed_over n said bytes
unfolding skip_at
read-skipped n said bytes = grind arith

says-none : (number : ℕ) (payload : List ℕ) → 2 < number → number ≢ 13 → application_by number payload ≡ None
unfolding application_by
says-none number payload h g = grind (arith, common_steps)

pub payload_passed : (number left : ℕ) (bytes : List ℕ) → 2 < number → number ≢ 13
    → payload_at number left bytes ≡ passed_over left None bytes
unfolding payload_at skip_at
payload_passed number left bytes h g = grind (arith, common_steps, says-none)

pub app-passed : (number : ℕ) (bytes : List ℕ) → 2 < number → number ≢ 13 → number ≢ 14
    → app_at number bytes ≡ (length_at bytes >>= λ (left : ℕ × List ℕ). passed_over left.0 None left.1)
unfolding app_at skip_at
app-passed number bytes some known adobe = grind (arith, common_steps, says-none)
