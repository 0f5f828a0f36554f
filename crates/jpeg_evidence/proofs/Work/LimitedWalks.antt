-- What a walk with a limit of blocks finds is what some first turns of it find without one.
use Rattle.std.proofs.Common.{rules, ◌≡◌, ◌≤◌, ◌<◌, ℕ, zero, suc, ◌&&◌, Bool, true, List, Option, Some, None, Ok, Err}
use Rattle.std.proofs.Common.{is_some, refl, sym, arith}
use Rattle.std.specs.Prelude.{if◌then◌else◌}
use Rattle.jpeg_bits.specs.declared.marker.Marker.{Marker}
use Rattle.jpeg_meaning.specs.declared.before.Before.{Before}
use Rattle.jpeg_bits.specs.declared.beyond.Beyond.{Beyond}
use Rattle.jpeg_meaning.specs.Found.{Found}
use Rattle.jpeg_meaning.specs.Limits.{IsWithinLimit, work_of_walk, work_within}
use Rattle.jpeg_meaning.specs.Stream.{turn_at, walk}
use Rattle.jpeg_meaning.specs.Work.{is_above, left_after, work_of_header, work_of_turn}

-- how many turns are taken before a scan is refused, or all
unfoldable turns_within : Option ℕ → Beyond → ℕ → Bool → Before → Found → Option Marker → List ℕ → ℕ
turns_within left beyond zero header before found met bytes = 0
turns_within left beyond (suc turns) header before found met bytes =
    if header && is_some found.said.frame then 1 else (
    if is_above left (work_of_turn found met bytes) then 0 else
    elim (turn_at beyond before found met bytes).turn [
      | Err fault ↦ 1
      | Ok t ↦ if t.0.ended then 1 else suc (turns_within (left_after left (work_of_turn found met bytes)) beyond
          turns header t.0.before t.0.found t.0.met t.1)
    ])

found-in-turns : (left : ℕ) (beyond : Beyond) (turns : ℕ) (header : Bool) (before : Before) (found : Found)
    (met : Option Marker) (bytes : List ℕ) → (walk (Some left) beyond turns header before found met bytes).found
    ≡ (walk None beyond (turns_within (Some left) beyond turns header before found met bytes) header before found met
    bytes).found
unfolding walk turns_within
found-in-turns left beyond zero header before found met bytes = refl
found-in-turns left beyond (suc turns) header before found met bytes =
    search (rules, arith, λ (k : ℕ). found-in-turns k beyond turns)

work-in-turns : (left : ℕ) (beyond : Beyond) (turns : ℕ) (header : Bool) (before : Before) (found : Found)
    (met : Option Marker) (bytes : List ℕ)
    → work_of_walk beyond (turns_within (Some left) beyond turns header before found met bytes) header before found met
    bytes ≡ work_within (Some left) beyond turns header before found met bytes
unfolding work_of_walk work_within turns_within
work-in-turns left beyond zero header before found met bytes = refl
work-in-turns left beyond (suc turns) header before found met bytes =
    search (rules, arith, λ (k : ℕ). work-in-turns k beyond turns)

-- Without a limit all work is done, and within it.
all-work : (beyond : Beyond) (turns : ℕ) (header : Bool) (before : Before) (found : Found) (met : Option Marker)
    (bytes : List ℕ)
    → work_within None beyond turns header before found met bytes
    ≡ work_of_walk beyond turns header before found met bytes
unfolding work_within work_of_walk
all-work beyond zero header before found met bytes = refl
all-work beyond (suc turns) header before found met bytes = search (rules, arith, all-work beyond turns)

within-work : (left : ℕ) (beyond : Beyond) (turns : ℕ) (header : Bool) (before : Before) (found : Found)
    (met : Option Marker) (bytes : List ℕ) → work_of_walk beyond turns header before found met bytes ≤ left
    → work_within (Some left) beyond turns header before found met bytes
    ≡ work_of_walk beyond turns header before found met bytes
unfolding work_within work_of_walk
within-work left beyond zero header before found met bytes h = refl
within-work left beyond (suc turns) header before found met bytes h =
    search (rules, arith, λ (k : ℕ). within-work k beyond turns)

pub work-counted : (limit : Option ℕ) (beyond : Beyond) (turns : ℕ) (header : Bool) (before : Before) (found : Found)
    (met : Option Marker) (bytes : List ℕ)
    → IsWithinLimit limit (work_of_walk beyond turns header before found met bytes)
    → work_within limit beyond turns header before found met bytes
    ≡ work_of_walk beyond turns header before found met bytes
work-counted None beyond turns header before found met bytes h = all-work beyond turns header before found met bytes
work-counted (Some left) beyond turns header before found met bytes h =
    within-work left beyond turns header before found met bytes h

-- What is found by the end or the refusal is what some first turns have found, whose scans are those that are decoded.
pub found-first : (limit : Option ℕ) (beyond : Beyond) (turns : ℕ) (header : Bool) (before : Before) (found : Found)
    (met : Option Marker) (bytes : List ℕ) → (n : ℕ)
    × ((walk limit beyond turns header before found met bytes).found
    ≡ (walk None beyond n header before found met bytes).found)
    × (work_of_walk beyond n header before found met bytes
    ≡ work_within limit beyond turns header before found met bytes)
found-first None beyond turns header before found met bytes =
    (turns, refl, sym (all-work beyond turns header before found met bytes))
found-first (Some left) beyond turns header before found met bytes = (
  turns_within (Some left) beyond turns header before found met bytes,
  found-in-turns left beyond turns header before found met bytes,
  work-in-turns left beyond turns header before found met bytes,
)

-- Where a scan is refused, no scan lacks rows.
pub above-rows : (left : ℕ) (beyond : Beyond) (turns : ℕ) (header : Bool) (before : Before) (found : Found)
    (met : Option Marker) (bytes : List ℕ) → left < work_of_walk beyond turns header before found met bytes
    → (walk (Some left) beyond turns header before found met bytes).rows ≡ None
unfolding walk work_of_walk
above-rows left beyond zero header before found met bytes h = refl
above-rows left beyond (suc turns) header before found met bytes h =
    search (rules, arith, λ (k : ℕ). above-rows k beyond turns)

-- A header has no scans, so that no limit is in its way.
pub header-free : (beyond : Beyond) (turns : ℕ) (before : Before) (found : Found) (met : Option Marker)
    (bytes : List ℕ) → work_of_walk beyond turns true before found met bytes ≡ 0
unfolding work_of_walk work_of_turn work_of_header
header-free beyond zero before found met bytes = refl
header-free beyond (suc turns) before found met bytes = search (rules, arith, header-free beyond turns)
