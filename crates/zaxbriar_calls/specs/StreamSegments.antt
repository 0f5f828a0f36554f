-- The segments of a stream, as they stand in its bytes (T.81, B.1.1.2 and B.1.1.4).
use Rattle.std.specs.Prelude.{◌≡◌, ◌⊎◌, ◌+◌, ◌-◌, ◌<◌, ◌≤◌, ◌++◌, ℕ, List, [], ◌∷◌, drop, length}
use Rattle.std.specs.Prelude.{slice_index, take, Ok, Err}
use Rattle.jpeg_bits.specs.Marker.{next_marker}
use Rattle.jpeg_bits.specs.Reading.{End, Outcome, ◌>>=◌, length_at, next_byte, times}
use Rattle.jpeg_bits.specs.declared.marker.Marker.{Marker}
use Rattle.jpeg_bits.specs.declared.marker.Marker.TheVariants.{RST, SOI, EOI, TEM}
use Rattle.zaxbriar_calls.specs.declared.segments.Segment.{Segment}

-- the payload of a segment, after its marker
unfoldable pub payload_at : List ℕ → Outcome (List ℕ)
payload_at bytes = do
  left ← length_at bytes
  times left.0 next_byte left.1

-- the same after any marker: without a length field it is empty
unfoldable pub payload_by : Marker → List ℕ → Outcome (List ℕ)
payload_by (RST number) bytes = Ok ([], bytes)
payload_by SOI bytes = Ok ([], bytes)
payload_by EOI bytes = Ok ([], bytes)
payload_by TEM bytes = Ok ([], bytes)
payload_by _ bytes = payload_at bytes

-- the first marker, whatever stands before it, and the payload of its segment
unfoldable pub next_segment : List ℕ → Outcome (Marker × List ℕ)
next_segment bytes = do
  m ← next_marker bytes
  p ← payload_by m.0 m.1
  Ok ((m.0, p.0), p.1)

-- the second byte of the first marker's code, and 0 where there is none
abbrev pub next_code : List ℕ → ℕ
next_code bytes = elim (next_marker bytes) [
  | Err fault ↦ 0
  | Ok m ↦ slice_index bytes (length bytes - length m.1 - 1)
]

-- A caller is told of the first segment in some bytes.
pub record IsFound (bytes : List ℕ) (segment : Segment) : Type 0 where
  pub marker : Marker
  pub payload : List ℕ
  pub rest : List ℕ
  pub reads : next_segment bytes ≡ Ok ((marker, payload), rest)
  pub size : segment.size ≡ length payload
  pub stands : take segment.size (drop segment.offset bytes) ≡ payload
  pub offset : segment.offset + segment.size ≡ segment.end
  pub end : segment.end + length rest ≡ length bytes

-- A reading of some bytes needs so many more: with fewer it comes to their end, and with so many it
-- may not.
pub record NeedsMore {X : Type 0} (read : List ℕ → Outcome X) (bytes : List ℕ) (needed : ℕ)
    : Type 0 where
  pub some : 1 ≤ needed
  pub fewer : (more : List ℕ) → length more < needed → read (bytes ++ more) ≡ Err End
  pub enough : List ℕ
  pub length_is : length enough ≡ needed
  pub reads : read (bytes ++ enough) ≡ Err End → ⊥

-- A caller is told of bytes that end before their first segment does: how many more this needs, and
-- how many it doesn't depend on, which are all before its marker. Without a marker they are all but
-- a last FF.
pub record IsCut (bytes : List ℕ) (segment : Segment) : Type 0 where
  pub needs : NeedsMore next_segment bytes segment.needed
  pub within : segment.skipped ≤ length bytes
  pub skips : (more : List ℕ)
      → next_segment (bytes ++ more) ≡ next_segment (drop segment.skipped bytes ++ more)
  pub begins : (segment.marker ≡ 0 → ⊥)
      → take 2 (drop segment.skipped bytes) ≡ 255 ∷ segment.marker ∷ []
  pub last : segment.marker ≡ 0 → (drop segment.skipped bytes ≡ [])
      ⊎ (drop segment.skipped bytes ≡ 255 ∷ [])
