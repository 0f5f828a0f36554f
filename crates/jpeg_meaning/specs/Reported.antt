-- What a caller is given of a stream: by its end, its fault, or where memory ran out.
use Rattle.std.specs.Prelude.{◌≡◌, ℕ, Bool, List, Option, None, Ok, Err}
use Rattle.jpeg_meaning.specs.declared.before.Before.TheVariants.{Elsewhere}
use Rattle.jpeg_bits.specs.declared.beyond.Beyond.TheVariants.{Zeros}
use Rattle.jpeg_meaning.specs.Found.{Found, nothing_found, nothing_said}
use Rattle.jpeg_meaning.specs.Stream.{start_at, Told, told_of, walk}

-- what the first turns of a header, or of the rest of a stream, have said, where scans may code this
-- many blocks, if there is a limit
abbrev pub told_in_turns : Option ℕ → ℕ → Bool → Found → List ℕ → Told
told_in_turns limit turns header found bytes =
    told_of (walk limit Zeros turns header Elsewhere found None bytes).found.said

-- what the first turns of a stream have said
unfoldable pub told_by_turns : Option ℕ → ℕ → Bool → List ℕ → Told
told_by_turns limit turns header bytes =
    elim (start_at bytes) [
      | Err fault ↦ told_of nothing_said
      | Ok start ↦ told_in_turns limit turns header nothing_found start.1
    ]

-- what is found is what some first turns have said, where `said` is what this many have
unfoldable pub IsOfTurns : {A : Type 0} → (ℕ → A) → A → Type 0
IsOfTurns said found = (turns : ℕ) × (found ≡ said turns)
