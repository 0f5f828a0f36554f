-- What a turn leaves of the bytes.
use Rattle.std.proofs.Common.{◌≡◌, ◌<◌, ◌+◌, ℕ, suc, List, Result, Ok, Err, Bool, true, false, Option, None}
use Rattle.std.proofs.Common.{refl, length, arith}
use Rattle.std.specs.Prelude.{if◌then◌else◌}
use Rattle.std.proofs.lemmas.Grind.{common_steps}
use Rattle.jpeg_bits.specs.Reading.{Outcome, Fault, ◌>>=◌}
use Rattle.jpeg_bits.specs.declared.marker.Marker.{Marker}
use Rattle.jpeg_meaning.specs.declared.before.Before.TheVariants.{Elsewhere}
use Rattle.jpeg_meaning.specs.Brought.{Brought, unbrought}
use Rattle.jpeg_meaning.specs.Found.{Found}
use Rattle.jpeg_meaning.specs.ScanSegments.{scan_turn}
use Rattle.jpeg_meaning.specs.Segments.{Turn, onward}
use Rattle.jpeg_meaning.proofs.Shorter.{LeavesBelow}
use Rattle.jpeg_decoder.specs.Steps.{is_restart_marker}
use Rattle.jpeg_decoder.proofs.Segments.PassedRestarts.{Passes}

-- What holds of a turn and of what is left after it, if one was read.
unfoldable pub On : (Turn × List ℕ → Type 0) → Outcome Turn → Type 0
On P (Ok x) = P x
On P (Err fault) = Unit {0}

-- the bytes that are left, where a restart marker that is met counts as one
abbrev more_if : Bool → ℕ
more_if true = 1
more_if false = 0

abbrev pub left_at : Option Marker → List ℕ → ℕ
left_at met bytes = length bytes + more_if (is_restart_marker met)

more-one : (b : Bool) → more_if b < 2
more-one true = omega arith
more-one false = omega arith

pub left-most : (met : Option Marker) (bytes : List ℕ) → left_at met bytes < suc (suc (length bytes))
left-most met bytes = let few = more-one (is_restart_marker met) in omega (arith, few)

-- Where the image goes on, fewer are left than the limit.
abbrev pub Lowers : ℕ → Turn × List ℕ → Type 0
Lowers limit x = x.0.ended ≡ false → left_at x.0.met x.1 < limit

-- The image goes on elsewhere.
abbrev pub IsElsewhere : Turn × List ℕ → Type 0
IsElsewhere x = (x.0.ended ≡ false) × ((x.0.before ≡ Elsewhere) × (x.0.met ≡ None))

-- The same with fewer bytes left than the limit.
abbrev pub IsOnward : ℕ → Turn × List ℕ → Type 0
IsOnward limit x = IsElsewhere x × (length x.1 < limit)

pub on-at : (P : Turn × List ℕ → Type 0) (r : Outcome Turn) (x : Turn × List ℕ) → On P r → r ≡ Ok x → P x
unfolding On
on-at P r x h e = rw e at h

pub on-err : (P : Turn × List ℕ → Type 0) (fault : Fault) → On P (Err fault)
unfolding On
on-err P fault = tt

pub on-weaker : (P Q : Turn × List ℕ → Type 0) (r : Outcome Turn) → ((x : Turn × List ℕ) → P x → Q x) → On P r → On Q r
unfolding On
on-weaker P Q r f h = grind (arith, common_steps)

pub on-else : (P : Turn × List ℕ → Type 0) (b : Bool) (fault : Fault) (r : Outcome Turn) → On P r
    → On P (if b then Err fault else r)
on-else P b fault r p = grind (arith, common_steps, on-err)

pub on-bind : {A : Type 0} (P : Turn × List ℕ → Type 0) (first : ℕ) (r : Outcome A) (f : A × List ℕ → Outcome Turn)
    → LeavesBelow first r → ((x : A × List ℕ) → length x.1 < first → On P (f x)) → On P (r >>= f)
unfolding On LeavesBelow
on-bind P first r f p q = grind (arith, common_steps)

pub on-needs : {A : Type 0} (P : Turn × List ℕ → Type 0) (r : Result A Fault) (f : A → Outcome Turn)
    → ((x : A) → On P (f x)) → On P (r >>= f)
on-needs P r f q = grind (arith, common_steps, on-err)

-- a turn that begins with what may be refused
pub on-elim : {A : Type 0} (P : Turn × List ℕ → Type 0) (o : Result A Fault) (f : A → Brought) (found : Found)
    → ((x : A) → o ≡ Ok x → On P (f x).turn)
    → On P (elim o as (λ _. Brought) [ Ok x ↦ f x | Err fault ↦ unbrought found (Err fault) ]).turn
on-elim P (Ok x) f found h = h x refl
on-elim P (Err fault) f found h = on-err P fault

-- what holds of a marker that may be met after a scan
unfoldable pub LeavesMet : ℕ → Outcome (Option Marker) → Type 0
LeavesMet limit (Ok x) = left_at x.0 x.1 < limit
LeavesMet limit (Err fault) = Unit {0}

pub passes-leaves : (limit : ℕ) (r : Outcome (Option Marker)) → Passes limit r → LeavesMet limit r
unfolding Passes LeavesMet
passes-leaves limit (Ok x) h = rw h.1 (omega (arith, h.0))
passes-leaves limit (Err fault) h = tt

pub met-lowers : (limit : ℕ) (found after : Found) (r : Outcome (Option Marker)) → LeavesMet limit r
    → On (Lowers limit) (r >>= (λ (m : Option Marker × List ℕ). Ok (scan_turn found after m.0, m.1)))
unfolding LeavesMet On
met-lowers limit found after (Ok x) h = λ _. h
met-lowers limit found after (Err fault) h = tt

pub on-onward : (limit : ℕ) (found : Found) (rest : List ℕ) → length rest < limit
    → On (IsOnward limit) (Ok (onward found, rest))
unfolding On
on-onward limit found rest h = ((refl, (refl, refl)), h)

pub onward-lowers : (limit : ℕ) (r : Outcome Turn) → On (IsOnward limit) r → On (Lowers limit) r
onward-lowers limit r h =
    on-weaker (IsOnward limit) (Lowers limit) r (λ x k _. let none : x.0.met ≡ None = k.0.1.1 in
    rw none (omega (arith, k.1))) h
