-- The turns in front of a frame go on elsewhere.
use Rattle.std.proofs.lemmas.Grind.{common_steps}
use Rattle.std.proofs.Common.{◌≡◌, ℕ, List, Result, Ok, Err, Bool, false, Option, None, length, arith}
use Rattle.std.specs.Prelude.{if◌then◌else◌, is_some}
use Rattle.jpeg_bits.specs.Reading.{Outcome, Fault, ◌>>=◌}
use Rattle.jpeg_bits.specs.Marker.{next_marker}
use Rattle.jpeg_bits.specs.declared.marker.Marker.{Marker}
use Rattle.jpeg_bits.specs.declared.marker.Marker.TheVariants.{SOS}
use Rattle.jpeg_segments.specs.Frame.{Frame}
use Rattle.jpeg_segments.specs.Checks.{needed}
use Rattle.jpeg_meaning.specs.declared.before.Before.TheVariants.{Elsewhere}
use Rattle.jpeg_bits.specs.declared.beyond.Beyond.{Beyond}
use Rattle.jpeg_bits.specs.declared.beyond.Beyond.TheVariants.{Nothing, Zeros}
use Rattle.jpeg_meaning.specs.Brought.{frame_and_scan, scan_brought}
use Rattle.jpeg_meaning.specs.Segments.{Turn}
use Rattle.jpeg_meaning.specs.Found.{Found}
use Rattle.jpeg_meaning.specs.Stream.{brought_after, end_segment, scan_turn_at, segment_at, turn_at}
use Rattle.jpeg_meaning.specs.ScanSegments.{scan_segment}
use Rattle.jpeg_decoder.proofs.Segments.LeftBytes.{IsElsewhere, IsOnward, On, on-elim, on-err, on-weaker}
use Rattle.jpeg_decoder.proofs.Segments.Turns.{onward_rules}

begins-needed : (o : Option Frame) (f : Frame → Outcome Turn) → is_some o ≡ false → On IsElsewhere (needed o >>= f)
begins-needed o f e = grind (arith, common_steps, on-err)

begins-then : (b : Bool) (fault : Fault) (x : Outcome Turn) → b ≡ false → On IsElsewhere (if b then x else Err fault)
begins-then b fault x p = grind (arith, common_steps, on-err)

onward-begins : (bytes : List ℕ) (r : Outcome Turn) → On (IsOnward (length bytes)) r → On IsElsewhere r
onward-begins bytes r h = on-weaker (IsOnward (length bytes)) IsElsewhere r (λ x k. k.0) h

never-needed : {A : Type 0} (o : Option Frame) (f : Frame → Result A Fault) (x : A) → is_some o ≡ false
    → (needed o >>= f) ≡ Ok x → ⊥
never-needed o f x e h = grind (arith, common_steps)

scan-begins : (beyond : Beyond) (found : Found) (bytes : List ℕ) → is_some found.said.frame ≡ false
    → On IsElsewhere (scan_turn_at beyond found bytes).turn
unfolding scan_turn_at scan_segment scan_brought
scan-begins Zeros found bytes none = begins-needed found.said.frame _ none
scan-begins Nothing found bytes none =
    on-elim IsElsewhere (frame_and_scan found bytes) _ found
    (λ x is. absurd (never-needed found.said.frame _ x none is))

end-begins : (found : Found) (bytes : List ℕ) → is_some found.said.frame ≡ false → On IsElsewhere (end_segment found bytes)
unfolding end_segment
end-begins found bytes none = begins-then (is_some found.said.frame) _ _ none

segment-begins : (m : Marker) (found : Found) (bytes : List ℕ) → is_some found.said.frame ≡ false
    → On IsElsewhere (segment_at m Elsewhere found bytes)
unfolding segment_at
segment-begins m found bytes none =
    grind (arith, common_steps, onward_rules, onward-begins bytes, end-begins, on-err)

marker-begins : (beyond : Beyond) (m : Marker) (found : Found) (bytes : List ℕ) → is_some found.said.frame ≡ false
    → On IsElsewhere (brought_after beyond m Elsewhere found bytes).turn
unfolding brought_after
marker-begins beyond SOS found bytes none = scan-begins beyond found bytes none
marker-begins beyond m found bytes none = segment-begins m found bytes none

pub turn-begins : (beyond : Beyond) (found : Found) (bytes : List ℕ) → is_some found.said.frame ≡ false
    → On IsElsewhere (turn_at beyond Elsewhere found None bytes).turn
unfolding turn_at
turn-begins beyond found bytes none =
    on-elim IsElsewhere (next_marker bytes) _ found (λ m is. marker-begins beyond m.0 found m.1 none)
