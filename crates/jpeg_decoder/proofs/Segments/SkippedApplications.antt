-- Segments of applications that are skipped, since their number says that nothing known is in them.
use Rattle.std.proofs.Common.{◌≡◌, ◌≢◌, ℕ, ◌<◌, List, arith, subst, sym}
use Rattle.std.proofs.lemmas.Grind.{common_steps}
use Rattle.jpeg_bits.specs.Stream.{Stream}
use Rattle.jpeg_bits.specs.Reading.{Answers, Outcome}
use Rattle.jpeg_segments.proofs.ApplicationLemmas.{app-passed}
use Rattle.jpeg_meaning.specs.Found.{Found}
use Rattle.jpeg_meaning.specs.Segments.{application_segment, skipped_segment}
use Rattle.jpeg_meaning.specs.Segments.{Turn}
use Rattle.jpeg_bits.specs.declared.error.Error.{Error}
use Rattle.std.specs.Prelude.{Result}

application-skipped : (number : ℕ) (found : Found) (bytes : List ℕ) → 2 < number → number ≢ 13 → number ≢ 14
    → application_segment number found bytes ≡ skipped_segment found bytes
application-skipped number found bytes some known adobe = grind (arith, common_steps, app-passed)

pub skipped-answers : {X : Type 0} (view : X → Turn) (number : ℕ) (found : Found) (old new : Stream) (r : Result X Error)
    → 2 < number → number ≢ 13 → number ≢ 14 → Answers view (skipped_segment found) old r new
    → Answers view (application_segment number found) old r new
skipped-answers view number found old new r some known adobe h =
    subst (λ (read : List ℕ → Outcome Turn). Answers view read old r new)
    (λ i bytes. sym (application-skipped number found bytes some known adobe) i) h
