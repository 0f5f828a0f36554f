-- What is said of a verdict on a stream of this many bytes.
use Rattle.std.specs.Prelude.{ℕ, ◌≤◌}
use Rattle.zaxbriar_strict.specs.declared.verdict.Verdict.{Verdict}
use Rattle.zaxbriar_strict.specs.declared.verdict.Verdict.TheVariants.{Strict, Departs, Unread}

-- A departure is at one of the bytes, or at their end.
abbrev pub IsWithin : ℕ → Verdict → Type 0
IsWithin bytes Strict = Unit {0}
IsWithin bytes (Departs d) = d.offset ≤ bytes
IsWithin bytes (Unread feature) = Unit {0}
