-- The intervals of a scan in bytes (T.81, E.2.4 and F.1.2.3).
use Rattle.std.specs.Prelude.{ℕ, zero, suc, ◌+◌, ◌-◌, ◌/◌, ◌%◌, ◌==◌, nat_le, Bool, true, false}
use Rattle.std.specs.Prelude.{if◌then◌else◌, List, [], ◌∷◌, ◌++◌, length, take, drop}
use Rattle.std.specs.Prelude.{Option, Some, None, Ok, Err}
use Rattle.jpeg_bits.specs.Reading.{Outcome, Malformed, ◌>>=◌}
use Rattle.jpeg_bits.specs.Entropy.{Ending, Found, Stops, Broken, text_at}
use Rattle.jpeg_bits.specs.Readers.{Reads}
use Rattle.jpeg_bits.specs.declared.marker.Marker.{Marker}
use Rattle.jpeg_bits.specs.declared.marker.Marker.TheVariants as markers

-- the bytes after the first n that stuffing leaves
unfoldable pub after_bytes : ℕ → List ℕ → List ℕ
after_bytes zero bytes = bytes
after_bytes (suc n) [] = []
after_bytes (suc n) (b ∷ []) = []
after_bytes (suc n) (b ∷ c ∷ bytes) =
    elim (b == 0xFF) [ true ↦ after_bytes n bytes | false ↦ after_bytes n (c ∷ bytes) ]

-- the end that is met: its marker and the bytes after it, or its fault
abbrev pub met : Ending → Outcome (Option Marker)
met (Found m rest) = Ok (Some m, rest)
met (Stops m rest) = Ok (Some m, rest)
met (Broken f) = Err f

-- Where k bits were taken of a text and these are left: the end, where at most 56 bits are left
-- before it. Else reading goes on after the bytes that have the bits taken and 57 more. T.81
-- doesn't say how far data may be read ahead: this rule is this project's own.
unfoldable pub end_after : ℕ → List ℕ → List Bool → Ending → Outcome (Option Marker)
end_after k bytes left e =
    elim (nat_le (length left) 56) [
      | true ↦ met e
      | false ↦ Ok (None, after_bytes ((k + 57 + 7) / 8) bytes)
    ]

-- What is read of the interval that begins these bytes, and the marker after it, if it is met.
unfoldable pub interval : {A : Type 0} → Reads A → List ℕ → Outcome (A × Option Marker)
interval read bytes = do
  r ← read (text_at bytes)
  m ← end_after (length (text_at bytes).bits - length r.1.bits) bytes r.1.bits
      (text_at bytes).ending
  Ok ((r.0, m.0), m.1)

-- whether a marker is RST with number k modulo 8
abbrev pub is_restart : ℕ → Option Marker → Bool
is_restart k (Some (markers.RST n)) = n == k % 8
is_restart k _ = false

-- What is read of one interval and more, one after the other. Each is read by its own reader, and
-- between them stand RST in turn from number k on.
unfoldable pub intervals : {A B : Type 0} → (A → Reads (List B)) → ℕ → A → List A → List ℕ
    → Outcome (List B × Option Marker)
intervals read k one [] bytes = interval (read one) bytes
intervals read k one (next ∷ more) bytes = do
  r ← interval (read one) bytes
  if is_restart k r.0.1 then (intervals read (suc k) next more r.1
      >>= λ s. Ok ((r.0.0 ++ s.0.0, s.0.1), s.1)) else Err Malformed

-- A list cut into groups of n, the last of which may be smaller; and, where n is 0, into one.
unfoldable pub groups : {A : Type 0} → ℕ → ℕ → List A → List (List A)
groups turns n [] = []
groups zero n (x ∷ xs) = []
groups (suc turns) n (x ∷ xs) = take n (x ∷ xs) ∷ groups turns n (drop n (x ∷ xs))

abbrev pub first_group : {A : Type 0} → ℕ → List A → List A
first_group zero xs = xs
first_group (suc n) xs = take (suc n) xs

abbrev pub other_groups : {A : Type 0} → ℕ → List A → List (List A)
other_groups zero xs = []
other_groups (suc n) xs = groups (length xs) (suc n) (drop (suc n) xs)
