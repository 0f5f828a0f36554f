-- The limits of a picture that is decoded.
use Rattle.std.specs.Prelude.{◌≡◌, ◌<◌, ℕ, ◌-◌, ◌*◌, ◌^◌, ◌&&◌, Bool, true, Option, None, Some, min}
use Rattle.std.specs.Prelude.{nat_le, option_map}
use Rattle.zaxbriar_files.specs.declared.limits.Limits.{Limits}
use Rattle.zaxbriar_files.specs.declared.refusal.Refusal.{Refusal}
use Rattle.zaxbriar_files.specs.declared.refusal.Refusal.TheVariants.{Memory, Pixels}

-- whether a number is at most what is allowed, if there is a limit
abbrev pub is_at_most : Option ℕ → ℕ → Bool
is_at_most None n = true
is_at_most (Some most) n = nat_le n most

-- whether a picture of this width and height, which takes this number of bytes, is allowed
abbrev pub is_allowed : Limits → ℕ → ℕ → ℕ → Bool
is_allowed limits width height bytes =
    is_at_most limits.pixels (width * height) && is_at_most limits.memory bytes

-- A picture of this width and height, which takes this number of bytes, is refused for a limit that
-- it is above, with both numbers.
abbrev pub IsAbove : Limits → ℕ → ℕ → ℕ → Refusal → Type 0
IsAbove limits width height bytes (Pixels pixels most) =
    (pixels ≡ width * height) × (limits.pixels ≡ Some most) × (most < pixels)
IsAbove limits width height bytes (Memory taken most is_share) =
    (taken ≡ bytes) × (limits.memory ≡ Some most) × (most < taken)
    × (is_share ≡ limits.is_share)
IsAbove limits width height bytes _ = ⊥

-- How many blocks the scans of a file may code whose picture has this many, if there is a limit: as
-- far as 64 bits count them.
abbrev pub most_blocks : Limits → ℕ → Option ℕ
most_blocks limits blocks =
    option_map (λ passes. min (passes * blocks) (2 ^ 64 - 1)) limits.passes
