-- What a call does that finds the first segment in some bytes: `next_segment`.
use Rattle.std.specs.Prelude.{◌≡◌, ℕ, List, replicate}
use Rattle.zaxbriar_calls.specs.Faults.{reading_code}
use Rattle.zaxbriar_calls.specs.StreamSegments.{IsCut, IsFound, next_code, next_segment}
use Rattle.zaxbriar_calls.specs.declared.segments.Segment.{Segment}

pub record FindsSegment (bytes : List ℕ) (segment : Segment) (code : ℕ) : Type 0 where
  -- OK, MALFORMED or TRUNCATED, as reading a segment from the bytes ends.
  pub code_is : code ≡ reading_code (next_segment bytes)
  -- Whatever is returned, `marker` is the second byte of the first marker, and 0 without one.
  pub marker : segment.marker ≡ next_code bytes
  -- After OK, `segment` says where the payload is, and where the segment ends.
  pub found : code ≡ 0 → IsFound bytes segment
  pub none : (code ≡ 0 → ⊥) → (segment.offset ≡ 0) × (segment.size ≡ 0) × (segment.end ≡ 0)
  -- After TRUNCATED, it says how many further bytes are needed, and how many of those at hand no
  -- longer matter.
  pub cut : code ≡ 3 → IsCut bytes segment
  pub whole : (code ≡ 3 → ⊥) → (segment.needed ≡ 0) × (segment.skipped ≡ 0)
  pub reserved : segment.reserved ≡ replicate 23 0
