-- A call that reads a header, and then brings its frame to a scale.
use Rattle.std.proofs.Common.{◌≡◌, ℕ, List, Result, Ok, Err, None, true, is_some, OnErr, ap, sym, ◌∙◌}
use Rattle.std.proofs.lemmas.Bool.{false≢true}
use Rattle.jpeg_bits.specs.Reading.{Answers, Outcome}
use Rattle.jpeg_bits.specs.Stream.{Stream}
use Rattle.jpeg_bits.specs.declared.error.Error.{Error}
use Rattle.jpeg_meaning.specs.Found.{Found, Said, with_said}
use Rattle.jpeg_meaning.specs.Stream.{header_at}
use Rattle.jpeg_meaning.proofs.Soundness.{changed-answers}

-- It is refused only where there is no frame, and after a header there is one.
pub answers-changed : {U : Type 0} (change : Said → Said) (read : List ℕ → Outcome Found) (old cur new : Stream)
    (found changed : Found) (u : U) (result : Result (ℕ × ℕ) Error)
    → ((bytes rest : List ℕ) (x : Found) → header_at bytes ≡ Ok (x, rest)
    → read bytes ≡ Ok (with_said change x, rest))
    → OnErr result (found.said.frame ≡ None) → is_some found.said.frame ≡ true
    → Answers (λ (x : U). found) header_at old (Ok u) cur → new ≡ cur → changed ≡ with_said change found
    → Answers (λ (x : ℕ × ℕ). changed) read old result new
answers-changed change read old cur new found changed u (Ok size) reads none framed =
    changed-answers change read old cur new found changed u size reads
answers-changed change read old cur new found changed u (Err e) reads none framed =
    absurd (false≢true (ap is_some (sym none) ∙ framed))
