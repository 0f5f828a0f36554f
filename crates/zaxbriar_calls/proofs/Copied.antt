-- What a call that copies metadata says of its outcome: a field of its record each.
use Rattle.std.proofs.Common.{arith, ◌≡◌, ◌<◌, ◌≤◌, ℕ, List, None, refl}
use Rattle.std.specs.Prelude.{IsOk, length}
use Rattle.zaxbriar_calls.specs.CopiesMetadata.{CopiesMetadata}
use Rattle.zaxbriar_calls.specs.Faults.{IsNamed}
use Rattle.zaxbriar_calls.specs.Metadata.{IsCopied, IsLonger, IsNoKind, end_at, is_whole, said_of}

-- a kind that doesn't exist
pub no-kind-copied : (bytes : List ℕ) (kind passes : ℕ) (old : List ℕ) (count : ℕ) → IsNoKind kind → count ≡ 0
    → CopiesMetadata bytes kind passes old old count 6
no-kind-copied bytes kind passes old count none counted = record {
  copies = λ z. absurd (omega (arith, z));
  none = λ z. absurd (omega (arith, z));
  room = λ z. absurd (omega (arith, z));
  uncounted = λ n m. counted;
  known = λ k. refl;
  wrong = λ z. none;
  number = omega arith;
  malformed = λ z. absurd (omega (arith, z));
  unsupported = λ z. absurd (omega (arith, z));
  truncated = λ z. absurd (omega (arith, z));
  unsaid = λ some few. absurd (omega (arith, some, few));
  kept = λ z. refl;
}

-- memory that is refused
pub no-memory-copied : (bytes : List ℕ) (kind passes : ℕ) (old new : List ℕ) (count : ℕ) → (IsNoKind kind → ⊥) → new ≡ old
    → count ≡ 0 → CopiesMetadata bytes kind passes old new count 4
no-memory-copied bytes kind passes old new count some same counted = record {
  copies = λ z. absurd (omega (arith, z));
  none = λ z. absurd (omega (arith, z));
  room = λ z. absurd (omega (arith, z));
  uncounted = λ n m. counted;
  known = λ k. absurd (some k);
  wrong = λ z. absurd (omega (arith, z));
  number = omega arith;
  malformed = λ z. absurd (omega (arith, z));
  unsupported = λ z. absurd (omega (arith, z));
  truncated = λ z. absurd (omega (arith, z));
  unsaid = λ some few. absurd (omega (arith, some, few));
  kept = λ z. same;
}

pub found-copied : (bytes : List ℕ) (kind passes : ℕ) (old new : List ℕ) (count code : ℕ) → (IsNoKind kind → ⊥)
    → (code ≡ 0 → IsCopied (said_of passes kind bytes) old new count)
    → (code ≡ 7 → (said_of passes kind bytes ≡ None) × IsOk (end_at passes (is_whole kind) bytes))
    → (code ≡ 5 → IsLonger (said_of passes kind bytes) (length old) count)
    → IsNamed code (end_at passes (is_whole kind) bytes) → (code ≡ 6 → IsNoKind kind) → code ≤ 7
    → (0 < code → code < 4 → said_of passes kind bytes ≡ None)
    → ((code ≡ 0 → ⊥) → (code ≡ 5 → ⊥) → count ≡ 0)
    → ((code ≡ 0 → ⊥) → new ≡ old) → CopiesMetadata bytes kind passes old new count code
found-copied bytes kind passes old new count code some copies none room named wrong most unsaid uncounted kept = record {
  copies = copies;
  none = none;
  room = room;
  uncounted = uncounted;
  known = λ k. absurd (some k);
  wrong = wrong;
  number = most;
  malformed = named.0;
  unsupported = named.1;
  truncated = named.2;
  unsaid = unsaid;
  kept = kept;
}
