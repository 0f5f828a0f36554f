-- What a stream has to have: else it is malformed.
use Rattle.std.specs.Prelude.{Bool, true, false, Option, Some, None, Result, Ok, Err, List, [], ◌∷◌}
use Rattle.jpeg_bits.specs.Reading.{Fault, Malformed, ◌>>=◌}

abbrev pub check : Bool → Result (Unit {0}) Fault
check true = Ok tt
check false = Err Malformed

abbrev pub needed : {A : Type 0} → Option A → Result A Fault
needed None = Err Malformed
needed (Some x) = Ok x

-- f of each, or the first fault
unfoldable pub gathered : {A B : Type 0} → (A → Result B Fault) → List A → Result (List B) Fault
gathered f [] = Ok []
gathered f (x ∷ xs) = f x >>= (λ y. gathered f xs >>= (λ ys. Ok (y ∷ ys)))
