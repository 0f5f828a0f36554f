-- A turn that was read is read so whatever bytes follow it, and codes as many blocks.
use Rattle.std.proofs.Common.{◌≡◌, ◌∙◌, ◌++◌, ap, refl, sym, ℕ, Bool, true, false, List, Option, Ok, Err, Result}
use Rattle.std.specs.Prelude.{if◌then◌else◌}
use Rattle.jpeg_bits.specs.Marker.{found_or, next_marker}
use Rattle.jpeg_bits.specs.Reading.{Fault, Malformed, Outcome}
use Rattle.jpeg_bits.specs.declared.beyond.Beyond.TheVariants.{Nothing}
use Rattle.jpeg_bits.specs.declared.marker.Marker.{Marker}
use Rattle.jpeg_bits.specs.declared.marker.Marker.TheVariants.{SOS}
use Rattle.jpeg_segments.proofs.Codecs.{err-ok}
use Rattle.jpeg_meaning.specs.declared.before.Before.{Before}
use Rattle.jpeg_meaning.specs.Brought.{Brought, frame_and_scan, scan_brought, unbrought}
use Rattle.jpeg_meaning.specs.Found.{Found}
use Rattle.jpeg_meaning.specs.Segments.{Turn}
use Rattle.jpeg_meaning.specs.Stream.{brought_after, scan_turn_at, turn_at, turn_within}
use Rattle.jpeg_meaning.specs.Work.{is_above, work_after, work_of_header, work_of_scan, work_of_turn}
use Rattle.jpeg_meaning.proofs.Longer.LongerSegments.{StaysRead, marker-stays, stays-read}
use Rattle.jpeg_meaning.proofs.Longer.LongerTurns.{FoundHeader, brought_of, by_header, framed-stays}
use Rattle.jpeg_meaning.proofs.Longer.LongerTurns.{turn-goes}

-- ---- the blocks that are coded

-- of a scan, by its header
abbrev work_by : Result FoundHeader Fault → ℕ
work_by o = elim o as (λ _. ℕ) [ Ok x ↦ work_of_scan x.0 x.1.0 | Err fault ↦ 0 ]

by-header : (more : List ℕ) (found : Found) (bytes : List ℕ) (o : Result FoundHeader Fault) (x : Turn × List ℕ)
    → frame_and_scan found bytes ≡ o → (by_header found o).turn ≡ Ok x
    → work_by (frame_and_scan found (bytes ++ more)) ≡ work_by (frame_and_scan found bytes)
by-header more found bytes (Ok h) x is e = ap work_by (framed-stays more found bytes h is) ∙ sym (ap work_by is)
by-header more found bytes (Err fault) x is e = absurd (err-ok fault x e)

header-work : (more : List ℕ) (found : Found) (bytes : List ℕ) (x : Turn × List ℕ)
    → (scan_brought found bytes).turn ≡ Ok x → work_of_header found (bytes ++ more) ≡ work_of_header found bytes
unfolding scan_brought work_of_header
header-work more found bytes x e = by-header more found bytes (frame_and_scan found bytes) x refl e

after-work : (more : List ℕ) (m : Marker) (before : Before) (found : Found) (bytes : List ℕ) (x : Turn × List ℕ)
    → (brought_after Nothing m before found bytes).turn ≡ Ok x
    → work_after m found (bytes ++ more) ≡ work_after m found bytes
unfolding brought_after scan_turn_at
after-work more SOS before found bytes x e = header-work more found bytes x e
after-work more m before found bytes x e = refl

-- after a marker
abbrev work_marked : Found → Outcome Marker → ℕ
work_marked found o = elim o as (λ _. ℕ) [ Ok m ↦ work_after m.0 found m.1 | Err fault ↦ 0 ]

marked-work : (more : List ℕ) (before : Before) (found : Found) (o q : Outcome Marker) (x : Turn × List ℕ)
    → StaysRead more o q
    → (brought_of found (λ (m : Marker × List ℕ). brought_after Nothing m.0 before found m.1) o).turn ≡ Ok x
    → work_marked found q ≡ work_marked found o
marked-work more before found (Ok m) q x stays e =
    ap (work_marked found) (stays m refl) ∙ after-work more m.0 before found m.1 x e
marked-work more before found (Err fault) q x stays e = absurd (err-ok fault x e)

-- of a turn
pub turn-work : (more : List ℕ) (before : Before) (found : Found) (met : Option Marker) (bytes : List ℕ)
    (x : Turn × List ℕ) → (turn_at Nothing before found met bytes).turn ≡ Ok x
    → work_of_turn found met (bytes ++ more) ≡ work_of_turn found met bytes
unfolding turn_at work_of_turn
turn-work more before found met bytes x e =
    marked-work more before found (found_or met bytes (next_marker bytes))
    (found_or met (bytes ++ more) (next_marker (bytes ++ more))) x (stays-read more _ _ (marker-stays more met bytes)) e

-- ---- within a limit

within-turn : (above : Bool) (found : Found) (b : Brought) (x : Turn × List ℕ)
    → (if above then unbrought found (Err Malformed) else b).turn ≡ Ok x → (above ≡ false) × (b.turn ≡ Ok x)
within-turn true found b x e = absurd (err-ok Malformed x e)
within-turn false found b x e = (refl, e)

turn-within : (above : Bool) (found : Found) (b : Brought) → above ≡ false
    → (if above then unbrought found (Err Malformed) else b).turn ≡ b.turn
turn-within true found b e = absurd (let n : ⊥ = cc in n)
turn-within false found b e = refl

-- what was read of a turn, and the blocks that it codes, stay
pub record TurnStays (more : List ℕ) (left : Option ℕ) (before : Before) (found : Found) (met : Option Marker)
    (bytes : List ℕ) (x : Turn × List ℕ) : Type 0 where
  pub work : work_of_turn found met (bytes ++ more) ≡ work_of_turn found met bytes
  pub turn : (turn_within left Nothing before found met (bytes ++ more)).turn ≡ Ok (x.0, x.1 ++ more)

pub turn-stays : (more : List ℕ) (left : Option ℕ) (before : Before) (found : Found) (met : Option Marker)
    (bytes : List ℕ) (x : Turn × List ℕ) → (turn_within left Nothing before found met bytes).turn ≡ Ok x
    → TurnStays more left before found met bytes x
turn-stays more left before found met bytes x e =
    let t = within-turn (is_above left (work_of_turn found met bytes)) found (turn_at Nothing before found met bytes) x e
    in
    let work = turn-work more before found met bytes x t.1 in
    record {
      work = work;
      turn = turn-within (is_above left (work_of_turn found met (bytes ++ more))) found
          (turn_at Nothing before found met (bytes ++ more)) (ap (is_above left) work ∙ t.0)
          ∙ (turn-goes more before found met bytes).turn x t.1;
    }
