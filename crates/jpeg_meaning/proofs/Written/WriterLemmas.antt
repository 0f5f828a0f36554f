-- What a writer took of a text in several writes.
use Rattle.std.proofs.Common.{rules, arith, ◌≡◌, ℕ, List, ◌++◌, Option, take, drop, append_assoc, take-append-drop}
use Rattle.std.proofs.lemmas.Grind.{common_steps}
use Rattle.std.specs.Io.KnownBytes.{Appends, Keeps}
use Rattle.jpeg_meaning.specs.Output.{TakesBeginning}
use Rattle.std.proofs.KnownBytes.{Appends-trans, Appends-kept}

abbrev pub Took : List ℕ → List ℕ → Option (List ℕ) → Option (List ℕ) → Type 0
Took text rest old new = (taken : List ℕ) × (text ≡ taken ++ rest) × Appends old new taken

-- a write took n bytes more
pub Took-more : (text rest : List ℕ) (old mid new : Option (List ℕ)) (n : ℕ) → Took text rest old mid
    → Appends mid new (take n rest) → Took text (drop n rest) old new
Took-more text rest old mid new n so_far more = search (rules, take-append-drop, append_assoc, Appends-trans)

-- a write took nothing
pub Took-kept : (text rest : List ℕ) (old mid new : Option (List ℕ)) → Took text rest old mid → Keeps mid new
    → Took text rest old new
Took-kept text rest old mid new so_far kept = (so_far.0, so_far.1, Appends-kept old mid new so_far.0 so_far.2 kept)

-- a beginning of the first text is one of both
pub TakesBeginning-front : (old new : Option (List ℕ)) (first second : List ℕ) → TakesBeginning old new first
    → TakesBeginning old new (first ++ second)
TakesBeginning-front old new first second h = grind (arith, append_assoc h.0 h.1 second)

-- after the first text a beginning of the second is one of both
pub TakesBeginning-after : (old mid new : Option (List ℕ)) (first second : List ℕ) → Appends old mid first
    → TakesBeginning mid new second → TakesBeginning old new (first ++ second)
TakesBeginning-after old mid new first second p h = grind (arith, common_steps, append_assoc, Appends-trans)
