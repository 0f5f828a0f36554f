-- Calls that hold the refusal that they meet in a variable of their caller's (this project's own
-- form).
use Rattle.std.specs.Prelude.{◌≡◌, is_some, Bool, true, false, Option, Some, None, Result, Ok, Err}
use Rattle.jpeg_bits.specs.declared.error.Error.{Error}
use Rattle.jpeg_bits.specs.declared.error.Error.TheVariants as errors

-- the refusal that is kept; each call that asks for it shows that one is
abbrev pub kept_refusal : Option Error → Error
kept_refusal (Some e) = e
kept_refusal None = errors.OutOfMemory

-- what a call answered: a value, or none and the refusal is kept
abbrev pub answer_of : {X : Type 0} → Option X → Option Error → Result X Error
answer_of (Some x) refusal = Ok x
answer_of None refusal = Err (kept_refusal refusal)

-- a call that gives none holds a refusal
abbrev pub IsRefused : {X : Type 0} → Option X → Option Error → Type 0
IsRefused (Some x) refusal = Unit {0}
IsRefused None refusal = is_some refusal ≡ true

-- what a call answered: whether it did its work, or else the refusal is kept
abbrev pub outcome_of : Bool → Option Error → Result (Unit {0}) Error
outcome_of true refusal = Ok tt
outcome_of false refusal = Err (kept_refusal refusal)
