-- What a reading of a stream leaves is no longer than the stream, so that all before it can be counted.
use Rattle.std.proofs.lemmas.Grind.{common_steps}
use Rattle.std.proofs.Common.{arith, ◌≡◌, ◌∙◌, ◌+◌, ◌<◌, ◌≤◌, ℕ, zero, suc, List, Ok, Err, Result, Bool}
use Rattle.std.proofs.Common.{Option, Some, None, true, false, length, refl, sym}
use Rattle.std.specs.Prelude.{if◌then◌else◌, ◌&&◌, is_some}
use Rattle.jpeg_bits.specs.Reading.{Outcome, Fault, Malformed, ◌>>=◌}
use Rattle.jpeg_bits.specs.Marker.{found_or, next_marker}
use Rattle.jpeg_bits.specs.Stream.{Stream}
use Rattle.jpeg_bits.specs.declared.marker.Marker.{Marker}
use Rattle.jpeg_bits.specs.declared.marker.Marker.TheVariants.{SOS}
use Rattle.jpeg_segments.specs.Frame.{Frame}
use Rattle.jpeg_segments.specs.ScanHeader.{Scan, sos_at}
use Rattle.jpeg_segments.specs.Checks.{needed}
use Rattle.jpeg_segments.specs.declared.frame.CodingProcess.{CodingProcess}
use Rattle.jpeg_meaning.specs.Found.{Found, nothing_found}
use Rattle.jpeg_meaning.specs.LosslessScans.{lossless_codings}
use Rattle.jpeg_meaning.specs.ScanSegments.{after_restarts, blocks_scan, codings_of, lossless_scan, scan_arrays}
use Rattle.jpeg_meaning.specs.ScanSegments.{scan_by, scan_samples, scan_segment}
use Rattle.jpeg_meaning.specs.Segments.{Turn}
use Rattle.jpeg_meaning.specs.States.{Decoding}
use Rattle.jpeg_meaning.specs.Brought.{Brought, unbrought}
use Rattle.jpeg_meaning.specs.Stream.{Walked, brought_after, end_segment, header_at, rest_by, scan_turn_at, segment_at}
use Rattle.jpeg_meaning.specs.Stream.{segments_at, start_at, turn_at, turn_within, walk, rest_showing}
use Rattle.jpeg_meaning.specs.Work.{brought_within, is_above, left_after, work_of_turn}
use Rattle.jpeg_meaning.specs.declared.before.Before.{Before}
use Rattle.jpeg_meaning.specs.declared.before.Before.TheVariants.{Elsewhere}
use Rattle.jpeg_bits.specs.declared.beyond.Beyond.TheVariants.{Zeros}
use Rattle.jpeg_meaning.proofs.Written.ReadTurns.{then-ok}
use Rattle.jpeg_meaning.proofs.Shorter.{LeavesBelow, arrays-below, below-at, below-err, below-more, below-ok, below-on}
use Rattle.jpeg_meaning.proofs.Shorter.{below_steps, marker-below, samples-below, sos-below}
use Rattle.jpeg_decoder.proofs.Segments.PassedRestarts.{Passes, after-passes}
use Rattle.jpeg_decoder.proofs.Segments.LeftBytes.{IsOnward, On}
use Rattle.jpeg_decoder.proofs.Segments.Turns.{onward_rules}
use Rattle.zaxbriar_calls.specs.Given.{CountsImage, EndsImage}
use Rattle.zaxbriar_calls.specs.Meanings.{CountsRead, StandsAfter, found_at, meaning_by, planes_by, planes_rest, settings_at}
use Rattle.zaxbriar_calls.specs.declared.extents.Extent.{Extent}
use Rattle.zaxbriar_calls.specs.declared.extents.Extent.TheVariants.{Whole, Partial, Planes}
use Rattle.zaxbriar_calls.specs.declared.options.Options.{Options}

-- what has to hold, or to be there, first
below-needs : {A B : Type 0} (limit : ℕ) (r : Result A Fault) (f : A → Outcome B)
    → ((x : A) → LeavesBelow limit (f x)) → LeavesBelow limit (r >>= f)
below-needs limit (Ok x) f p = p x
below-needs {A} {B} limit (Err fault) f p = below-err B limit fault

-- ---- a turn

onward-below : (limit : ℕ) (r : Outcome Turn) → On (IsOnward limit) r → LeavesBelow limit r
unfolding On LeavesBelow
onward-below limit r h = grind (arith, common_steps)

passed-below : (limit : ℕ) (r : Outcome (Option Marker)) → Passes limit r → LeavesBelow limit r
unfolding Passes LeavesBelow
passed-below limit r h = grind (arith, common_steps)

met-below : (limit : ℕ) (met : Option Marker) (bytes : List ℕ) → length bytes < limit
    → LeavesBelow limit (after_restarts (suc (length bytes)) met bytes)
met-below limit met bytes h = passed-below limit _ (after-passes limit met bytes h)

blocks-below : (limit : ℕ) (found : Found) (frame : Frame) (scan : Scan) (bytes : List ℕ) → length bytes < limit
    → LeavesBelow limit (blocks_scan found frame scan bytes)
unfolding blocks_scan scan_arrays
blocks-below limit found frame scan bytes h =
    below-needs limit (codings_of found.said frame scan) _ (λ codings.
    below-on limit (scan_arrays found frame scan codings bytes) _ (arrays-below limit _ _ _ _ _ bytes h) (λ read p.
    below-on limit (after_restarts (suc (length read.1)) read.0.1 read.1) _ (met-below limit read.0.1 read.1 p)
    (λ met q. below-ok limit _ met.1 q)))

samples-scanned : (limit : ℕ) (found : Found) (frame : Frame) (scan : Scan) (bytes : List ℕ) → length bytes < limit
    → LeavesBelow limit (lossless_scan found frame scan bytes)
unfolding lossless_scan
samples-scanned limit found frame scan bytes h =
    below-needs limit (lossless_codings found.said.huffman.dc frame scan.components scan.dc_destinations) _ (λ codings.
    below-on limit (scan_samples found frame scan codings bytes) _ (samples-below limit _ _ _ _ bytes h) (λ read p.
    below-on limit (after_restarts (suc (length read.1)) read.0.1 read.1) _ (met-below limit read.0.1 read.1 p)
    (λ met q. below-ok limit _ met.1 q)))

process-below : (limit : ℕ) (p : CodingProcess) (found : Found) (frame : Frame) (scan : Scan) (bytes : List ℕ)
    → length bytes < limit → LeavesBelow limit (scan_by p found frame scan bytes)
process-below limit p found frame scan bytes h = grind (arith, common_steps, samples-scanned, blocks-below)

scan-below : (limit : ℕ) (found : Found) (bytes : List ℕ) → length bytes < limit
    → LeavesBelow limit (scan_segment found bytes)
unfolding scan_segment
scan-below limit found bytes h =
    below-needs limit (needed found.said.frame) _ (λ frame.
    below-on limit (sos_at frame bytes) _ (sos-below limit frame bytes (omega (arith, h))) (λ scan p.
    process-below limit frame.process found frame scan.0 scan.1 p))

segment-below : (limit : ℕ) (m : Marker) (before : Before) (found : Found) (bytes : List ℕ) → length bytes < limit
    → LeavesBelow limit (segment_at m before found bytes)
unfolding segment_at end_segment LeavesBelow
segment-below limit m before found bytes h =
    grind (arith, common_steps, onward_rules, onward-below, below-ok, below-err)

found-below : (limit : ℕ) (met : Option Marker) (bytes : List ℕ) → length bytes < limit
    → LeavesBelow limit (found_or met bytes (next_marker bytes))
found-below limit None bytes h =
    below-more (length bytes) limit (next_marker bytes) (omega (arith, h)) (marker-below bytes)
found-below limit (Some m) bytes h = below-ok limit m bytes h

marked-below : (limit : ℕ) (m : Marker) (before : Before) (found : Found) (bytes : List ℕ) → length bytes < limit
    → LeavesBelow limit (brought_after Zeros m before found bytes).turn
unfolding brought_after scan_turn_at
marked-below limit SOS before found bytes h = scan-below limit found bytes h
marked-below limit m before found bytes h = segment-below limit m before found bytes h

turn-below : (limit : ℕ) (before : Before) (found : Found) (met : Option Marker) (bytes : List ℕ)
    → length bytes < limit → LeavesBelow limit (turn_at Zeros before found met bytes).turn
unfolding turn_at LeavesBelow
turn-below limit before found met bytes h =
    go (found_or met bytes (next_marker bytes)) (found-below limit met bytes h)
  where
    go : (o : Outcome Marker) → LeavesBelow limit o → LeavesBelow limit (elim o as (λ _. Brought) [
      | Ok m ↦ brought_after Zeros m.0 before found m.1
      | Err fault ↦ unbrought found (Err fault)
    ]).turn
    go (Ok m) p = marked-below limit m.0 before found m.1 p
    go (Err fault) p = tt

-- ---- all of them

-- fewer bytes are left after some turns than the limit
unfoldable LeftBelow : ℕ → Result (List ℕ) Fault → Type 0
LeftBelow limit (Ok rest) = length rest < limit
LeftBelow limit (Err fault) = Unit {0}

abbrev WalksBelow : ℕ → Walked → Type 0
WalksBelow limit w = LeftBelow limit w.rest

test-below : (limit : ℕ) (b : Bool) (x y : Walked) → WalksBelow limit x → WalksBelow limit y
    → WalksBelow limit (if b then x else y)
test-below limit true x y p q = p
test-below limit false x y p q = q

after-turn : (limit : ℕ) (r : Outcome Turn) (f : Turn × List ℕ → Walked) (refused : Fault → Walked)
    → LeavesBelow limit r → ((x : Turn × List ℕ) → length x.1 < limit → WalksBelow limit (f x))
    → ((fault : Fault) → WalksBelow limit (refused fault))
    → WalksBelow limit (elim r as (λ _. Walked) [ Err fault ↦ refused fault | Ok t ↦ f t ])
unfolding LeavesBelow
after-turn limit (Ok x) f refused h p q = p x h
after-turn limit (Err fault) f refused h p q = q fault

-- so it does where no more blocks than are left may be coded
within-below : (left : Option ℕ) (limit blocks : ℕ) (found : Found) (b : Brought) → LeavesBelow limit b.turn
    → LeavesBelow limit (brought_within left blocks found b).turn
unfolding LeavesBelow
within-below left limit blocks found b h = go (is_above left blocks)
  where
    go : (above : Bool) → LeavesBelow limit (if above then unbrought found (Err Malformed) else b).turn
    go true = tt
    go false = h

walk-below : (left : Option ℕ) (limit turns : ℕ) (header : Bool) (before : Before) (found : Found) (met : Option Marker)
    (bytes : List ℕ) → length bytes < limit → WalksBelow limit (walk left Zeros turns header before found met bytes)
unfolding walk LeftBelow
walk-below left limit zero header before found met bytes h = tt
walk-below left limit (suc turns) header before found met bytes h =
    test-below limit (header && is_some found.said.frame) _ _ h (
    after-turn limit (turn_within left Zeros before found met bytes).turn _ _
    (within-below left limit (work_of_turn found met bytes) found _ (turn-below limit before found met bytes h))
    (λ t p. test-below limit t.0.ended _ _ p (walk-below (left_after left (work_of_turn found met bytes)) limit turns
    header t.0.before t.0.found t.0.met t.1 p))
    (λ fault. tt))

walked-below : (limit : ℕ) (r : Result (List ℕ) Fault) (found : Found) → LeftBelow limit r
    → LeavesBelow limit (r >>= λ (rest : List ℕ). Ok (found, rest))
unfolding LeavesBelow LeftBelow
walked-below limit (Ok rest) found h = h
walked-below limit (Err fault) found h = tt

segments-below : (left : Option ℕ) (limit : ℕ) (header : Bool) (before : Before) (found : Found) (met : Option Marker) (bytes : List ℕ)
    → length bytes < limit → LeavesBelow limit (segments_at left header before found met bytes)
unfolding segments_at
segments-below left limit header before found met bytes h =
    walked-below limit (walk left Zeros (suc (length bytes)) header before found met bytes).rest _
    (walk-below left limit (suc (length bytes)) header before found met bytes h)

start-below : (limit : ℕ) (bytes : List ℕ) → length bytes < limit → LeavesBelow limit (start_at bytes)
unfolding start_at
start-below limit bytes h = search below_steps

header-leaves : (limit : ℕ) (bytes : List ℕ) → length bytes < limit → LeavesBelow limit (header_at bytes)
unfolding header_at
header-leaves limit bytes h =
    below-on limit (start_at bytes) _ (start-below limit bytes h) (λ start p.
    segments-below None limit true Elsewhere nothing_found _ start.1 p)

rest-leaves : {A : Type 0} (limit : ℕ) (left : Option ℕ) (show : Found → Result A Fault) (found : Found)
    (bytes : List ℕ) → length bytes < limit → LeavesBelow limit (rest_showing left show found bytes)
unfolding rest_showing
rest-leaves limit left show found bytes h =
    below-on limit (segments_at _ _ Elsewhere found _ bytes) _ (segments-below _ limit _ Elsewhere found _ bytes h)
    (λ all p.
    below-needs limit (show all.0) _ (λ shown. below-ok limit _ all.1 p))

meaning-leaves : (limit : ℕ) (o : Options) (bytes : List ℕ) → length bytes < limit
    → LeavesBelow limit (meaning_by o bytes)
unfolding meaning_by
meaning-leaves limit o bytes h =
    below-on limit (header_at bytes) _ (header-leaves limit bytes h) (λ header p.
    rest-leaves limit _ _ (found_at o header.0) header.1 p)

planes-leave : (limit : ℕ) (o : Options) (bytes : List ℕ) → length bytes < limit
    → LeavesBelow limit (planes_by o bytes)
unfolding planes_by
planes-leave limit o bytes h =
    below-on limit (header_at bytes) _ (header-leaves limit bytes h) (λ header p.
    rest-leaves limit _ _ (found_at o header.0) header.1 p)

-- ---- what was read

counted : {A : Type 0} (bytes : List ℕ) (read : Outcome A) (source : Stream) (count : ℕ)
    → LeavesBelow (suc (length bytes)) read → StandsAfter read source
    → (source.known ≡ true → length source.bytes ≤ length bytes → count + length source.bytes ≡ length bytes)
    → CountsRead read bytes count
counted bytes read source count below after counts =
    let few : length source.bytes < suc (length bytes) =
    below-at (suc (length bytes)) read (after.value, source.bytes) below after.reads in
    record {
      value = after.value;
      rest = source.bytes;
      reads = after.reads;
      count_is = counts after.known (omega (arith, few));
    }

-- the number of bytes that a header takes
pub header-counted : (bytes : List ℕ) (source : Stream) (count : ℕ) → StandsAfter (header_at bytes) source
    → (source.known ≡ true → length source.bytes ≤ length bytes → count + length source.bytes ≡ length bytes)
    → CountsRead (header_at bytes) bytes count
header-counted bytes source count =
    counted bytes (header_at bytes) source count (header-leaves (suc (length bytes)) bytes (omega arith))

-- and that a whole image takes
pub meaning-counted : (o : Options) (bytes : List ℕ) (source : Stream) (count : ℕ)
    → StandsAfter (meaning_by o bytes) source
    → (source.known ≡ true → length source.bytes ≤ length bytes → count + length source.bytes ≡ length bytes)
    → CountsRead (meaning_by o bytes) bytes count
meaning-counted o bytes source count =
    counted bytes (meaning_by o bytes) source count (meaning-leaves (suc (length bytes)) o bytes (omega arith))

planes-counted : (o : Options) (bytes : List ℕ) (source : Stream) (count : ℕ)
    → StandsAfter (planes_by o bytes) source
    → (source.known ≡ true → length source.bytes ≤ length bytes → count + length source.bytes ≡ length bytes)
    → CountsRead (planes_by o bytes) bytes count
planes-counted o bytes source count =
    counted bytes (planes_by o bytes) source count (planes-leave (suc (length bytes)) o bytes (omega arith))

means-rest : (o : Options) (bytes rest : List ℕ) (header : Found) → header_at bytes ≡ Ok (header, rest)
    → meaning_by o bytes ≡ rest_by (settings_at o (found_at o header)) (found_at o header) rest
unfolding meaning_by
means-rest o bytes rest header h = then-ok (header_at bytes) _ (header, rest) _ h refl

planes-mean : (o : Options) (bytes rest : List ℕ) (header : Found) → header_at bytes ≡ Ok (header, rest)
    → planes_by o bytes ≡ planes_rest (settings_at o (found_at o header)) (found_at o header) rest
unfolding planes_by
planes-mean o bytes rest header h = then-ok (header_at bytes) _ (header, rest) _ h refl

-- where the whole of a picture was read, its decoder has read the image
pub image-counted : (extent : Extent) (o : Options) (bytes : List ℕ) (old new : Decoding) (header : Found) (count : ℕ)
    → header_at bytes ≡ Ok (header, old.source.bytes) → old.settings ≡ settings_at o old.found
    → old.found ≡ found_at o header → EndsImage extent old new
    → (new.source.known ≡ true → length new.source.bytes ≤ length bytes
    → count + length new.source.bytes ≡ length bytes)
    → CountsImage extent o bytes count
image-counted Whole o bytes old new header count h s f ends counts =
    meaning-counted o bytes new.source count (record {
      known = ends.known;
      value = ends.value;
      reads = means-rest o bytes old.source.bytes header h
          ∙ (λ i. rest_by (settings_at o (sym f i)) (sym f i) old.source.bytes)
          ∙ (λ i. rest_by (sym s i) old.found old.source.bytes) ∙ ends.reads;
    }) counts
image-counted Partial o bytes old new header count h s f ends counts = tt
image-counted Planes o bytes old new header count h s f ends counts =
    planes-counted o bytes new.source count (record {
      known = ends.known;
      value = ends.value;
      reads = planes-mean o bytes old.source.bytes header h
          ∙ (λ i. planes_rest (settings_at o (sym f i)) (sym f i) old.source.bytes)
          ∙ (λ i. planes_rest (sym s i) old.found old.source.bytes) ∙ ends.reads;
    }) counts
