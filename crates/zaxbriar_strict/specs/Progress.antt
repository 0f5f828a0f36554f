-- What is noted of the scans of a progressive frame (T.81, G.1.1.1).
use Rattle.std.specs.Prelude.{◌≡◌, ◌==◌, ◌-◌, ◌≤◌, ◌++◌, if◌then◌else◌, ℕ, List}
use Rattle.std.specs.Prelude.{[], ◌∷◌, Option, None, Some, drop, get_or, replicate, set, slice_get}
use Rattle.std.specs.Prelude.{take}
use Rattle.std.specs.List.{AllByRecursion}
use Rattle.jpeg_bits.specs.Passes.{Pass}
use Rattle.jpeg_meaning.specs.Levels.{IsLegal, Levels, sent_after}
use Rattle.zaxbriar_strict.specs.declared.scan.Member.{Member}

-- the levels of coefficients, by the lowest bits that were sent of them
abbrev pub levels_in : List (Option ℕ) → Levels
levels_in lowest = record { dc = get_or lowest 0 None; acs = drop 1 lowest }

-- the level before a scan, by its Ah
abbrev pub level_before : ℕ → Option ℕ
level_before high = if high == 0 then None else Some high

-- Of the coefficients from one place up to another this was the lowest bit, and another one is now.
pub record NotesBand (first end : ℕ) (before : Option ℕ) (low : ℕ) (old new : List (Option ℕ))
    : Type 0 where
  pub was : AllByRecursion (λ x. x ≡ before) (take (end - first) (drop first old))
  pub is : new ≡ take first old ++ (replicate (end - first) (Some low) ++ drop end old)

-- A pass may be sent of a component, and is noted.
pub record NotesPass (p : Pass) (old new : List (Option ℕ)) : Type 0 where
  pub legal : p.al ≤ 7 → IsLegal p (levels_in old)
  pub after : levels_in new ≡ sent_after p (levels_in old)

-- The component at an index of a frame is noted so, and no other.
pub record NotesAt (p : Pass) (index : ℕ) (old new : List (List (Option ℕ))) : Type 0 where
  pub was : List (Option ℕ)
  pub next : List (Option ℕ)
  pub at : slice_get old index ≡ Some was
  pub is : new ≡ set old index next
  pub noted : NotesPass p was next

-- So are the components of a scan, one after the other.
unfoldable pub AreNoted : Pass → List Member → List (List (Option ℕ)) → List (List (Option ℕ))
    → Type 0
AreNoted p [] old new = new ≡ old
AreNoted p (m ∷ ms) old new = (between : List (List (Option ℕ)))
    × (NotesAt p m.component old between × AreNoted p ms between new)
