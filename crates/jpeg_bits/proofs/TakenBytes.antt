-- A byte that is taken from the front of a buffer.
use Rattle.std.proofs.Common.{◌≡◌, ℕ, ◌<◌, Bool, List, [], ◌∷◌, ◌++◌, length, take, slice_set, slice_index_or, Option}
use Rattle.std.proofs.Common.{Some, None, if◌then◌else◌, arith, drop, ◌-◌}
use Rattle.std.proofs.lemmas.List.{take_all}
use Rattle.std.specs.Io.KnownBytes.{Consumes, prepend_known}
use Rattle.std.specs.Io.BufRead.{DropsConsumable}

pub consumes-front : (is_none : Bool) (x : ℕ) (buffered : List ℕ) (inner new : Option (List ℕ))
    → DropsConsumable (if is_none then None else prepend_known (x ∷ buffered) inner) new (Some
    (length (x ∷ buffered))) 1
    → Consumes (if is_none then None else prepend_known (x ∷ buffered) inner) new (x ∷ [])
consumes-front is_none x buffered inner new h = grind arith

-- the byte is put into a place for one
pub takes_front : (is_none : Bool) (buffered buf : List ℕ) (inner new : Option (List ℕ)) → 0 <
    length buffered → length buf ≡ 1
    → DropsConsumable (if is_none then None else prepend_known buffered inner) new (Some (length buffered)) 1
    → Consumes (if is_none then None else prepend_known buffered inner) new
    (take 1 (slice_set buf 0 (slice_index_or buffered 0 0)))
takes_front z (x ∷ buffered) (b ∷ []) inner new some one h = consumes-front z x buffered inner new h
takes_front z buffered buf inner new some one h = absurd (omega (arith, some, one))

-- the first of some bytes, and the others
pub takes-first : (bytes buf : List ℕ) → 0 < length bytes → length buf ≡ 1
    → bytes ≡ take 1 (slice_set buf 0 (slice_index_or bytes 0 0)) ++ take (length bytes - 1) (drop 1 bytes)
takes-first (x ∷ bytes) (b ∷ []) some one = grind (arith, take_all)
takes-first bytes buf some one = absurd (omega (arith, some, one))
