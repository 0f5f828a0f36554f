use Rattle.std.proofs.Common.{◌≡◌, ℕ, map}
use Rattle.zaxbriar_strict.specs.Changes.{block_of}
use Rattle.zaxbriar_strict.proofs.transform.make_rows.Given as goal

abbrev pub invariant-loop : goal.invariant-loop
invariant-loop l = (j k : ℕ) → block_of (map (λ r. r.items) l.rows.items) j k ≡ block_of (map (λ r. r.items) l.fn.rows.items) j k
