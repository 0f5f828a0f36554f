-- A turn of a written stream is read.
use Rattle.std.proofs.Common.{rules, ◌≡◌, ◌⊎◌, Option, Some, ◌≢◌, ◌&&◌, ℕ, zero, suc, ◌<◌, Bool, true, false, List, []}
use Rattle.std.proofs.Common.{◌∷◌, ◌++◌, map, length, ◌==◌, nat_lt, slice_get, slice_index_or, is_some, None, Result}
use Rattle.std.proofs.Common.{Ok, Err, refl, sym, ap, ◌∙◌, subst, arith, append_assoc, length-append}
use Rattle.jpeg_bits.specs.Marker.{found_or, marker_of, next_marker}
use Rattle.jpeg_bits.specs.declared.marker.Marker.{Marker}
use Rattle.jpeg_bits.specs.declared.marker.Marker.TheVariants.{SOF, DHT, DQT, DRI, APP, COM, EOI, SOS}
use Rattle.jpeg_segments.specs.Frame.{Frame}
use Rattle.jpeg_segments.specs.WrittenSegments.{Segment, Quantization, Huffman, Interval, Application, Comment}
use Rattle.jpeg_segments.specs.WrittenSegments.{Header, application_parts, marker_code, MayStand, with_length}
use Rattle.jpeg_segments.specs.WrittenSegments.{frame_written, payload_of}
use Rattle.jpeg_segments.proofs.ApplicationParts.{few-numbers, app-read}
pub use Rattle.jpeg_bits.proofs.WrittenIntervals.{marker-append}
use Rattle.std.proofs.lemmas.Grind.{common_steps}
use Rattle.std.proofs.lemmas.Map.Made.{keys_of-zip}
use Rattle.std.proofs.lemmas.Slice.Zip.{length-zip}
use Rattle.std.specs.Prelude.{zip, if◌then◌else◌}
use Rattle.std.specs.List.{AllByRecursion}
use Rattle.jpeg_bits.specs.Reading.{Fault, Malformed, Outcome, ◌>>=◌}
use Rattle.jpeg_segments.specs.ScanHeader.{Scan, sos_at}
use Rattle.jpeg_segments.specs.HuffmanTables.{Tables}
use Rattle.jpeg_segments.proofs.Fields.{kept, not-refused, read-on, sized-read, skip-read}
use Rattle.jpeg_segments.proofs.TableSegments.{dqt-read, dht-read}
use Rattle.jpeg_segments.proofs.OtherSegments.{dri-read}
use Rattle.jpeg_segments.proofs.HeaderSegments.{sof-read}
use Rattle.jpeg_meaning.specs.declared.before.Before.{Before}
use Rattle.jpeg_meaning.specs.declared.before.Before.TheVariants.{Elsewhere}
use Rattle.jpeg_bits.specs.Passes.{Pass}
use Rattle.jpeg_meaning.specs.Scans.{Arrays}
use Rattle.jpeg_segments.specs.Checks.{gathered, needed}
use Rattle.jpeg_meaning.specs.ScanSegments.{component_coding, needed_if, Coding, tables_of, after_restarts, after_scan}
use Rattle.jpeg_meaning.specs.ScanSegments.{scan_arrays, codings_of, scan_segment, blocks_scan, pass_of, scan_turn}
use Rattle.jpeg_meaning.specs.Segments.{accepted, onward, Turn, frame_segment}
use Rattle.jpeg_meaning.specs.Found.{Found, Said}
use Rattle.jpeg_meaning.specs.SaidSegments.{said_after}
use Rattle.jpeg_bits.specs.declared.beyond.Beyond.{Beyond}
use Rattle.jpeg_bits.specs.declared.beyond.Beyond.TheVariants.{Zeros}
use Rattle.jpeg_meaning.specs.Brought.{Brought, unbrought}
use Rattle.jpeg_meaning.specs.Stream.{Walked, brought_after, end_segment, scan_turn_at, segment_at, segments_at}
use Rattle.jpeg_meaning.specs.Stream.{turn_at, turn_within, walk}
use Rattle.jpeg_meaning.specs.Work.{is_above, left_after, work_of_turn}
use Rattle.jpeg_bits.specs.declared.huffman.codes.HuffmanTableClass.TheVariants as classes
use Rattle.jpeg_segments.specs.declared.frame.CodingProcess.TheVariants.{Lossless}
use Rattle.jpeg_bits.specs.Written.{marker, IsMarker}
pub use Rattle.jpeg_segments.proofs.Codecs.{err-ok, ok-same, bind-ok}

-- ---- the markers that are written

abbrev pub marker_for : Segment → Marker
marker_for (Quantization ts) = DQT
marker_for (Huffman ts) = DHT
marker_for (Interval n) = DRI
marker_for (Application d) = APP (application_parts d).0
marker_for (Comment payload) = COM
marker_for (Header number h) = SOF number

pub segment-marker : (frame : Option Frame) (s : Segment) → MayStand frame s
    → marker_of (marker_code s) ≡ Some (marker_for s)
unfolding marker_of
segment-marker frame s may = search (rules, few-numbers)

-- ---- the next marker

pub next-marker : (fill code : ℕ) (m : Marker) (rest : List ℕ) → IsMarker code m
    → next_marker (marker fill code rest) ≡ Ok (m, rest)
unfolding next_marker marker_of
next-marker zero code m rest h = search rules
next-marker (suc fill) code m rest h = search (rules, next-marker fill code m rest h)

-- ---- steps

pub then-ok : {A B : Type 0} (o : Result A Fault) (f : A → Result B Fault) (x : A) (y : Result B Fault) → o ≡ Ok x
    → f x ≡ y → (o >>= f) ≡ y
then-ok o f x y e g = ap (λ r. r >>= f) e ∙ g

-- ---- turns of a walk

-- a walk to an end or to its fault, where no scan lacks rows
abbrev pub walked : Found → Result (List ℕ) Fault → Walked
walked found rest = record { found = found; rows = None; exceeded = false; rest = rest }

pub walk-stop : (left : Option ℕ) (beyond : Beyond) (turns : ℕ) (header : Bool) (before : Before) (f : Found)
    (met : Option Marker) (all : List ℕ) → 0 < turns → (header && is_some f.said.frame) ≡ true
    → walk left beyond turns header before f met all ≡ walked f (Ok all)
unfolding walk
walk-stop left beyond zero header before f met all h e = absurd (omega arith)
walk-stop left beyond (suc turns) header before f met all h e = rw e refl

-- a walk up to the fault of a turn, which exceeds a limit or doesn't
abbrev pub refused_walk : Bool → Brought → Fault → Walked
refused_walk exceeded b fault = record { found = b.found; rows = b.rows; exceeded = exceeded; rest = Err fault }

pub walk-refused : (left : Option ℕ) (beyond : Beyond) (turns : ℕ) (header : Bool) (before : Before) (f : Found)
    (met : Option Marker) (all : List ℕ) (fault : Fault) → (header && is_some f.said.frame) ≡ false
    → (turn_within left beyond before f met all).turn ≡ Err fault
    → walk left beyond (suc turns) header before f met all
    ≡ refused_walk (is_above left (work_of_turn f met all)) (turn_within left beyond before f met all) fault
unfolding walk
walk-refused left beyond turns header before f met all fault n e = rw (n, e) refl

pub walk-end : (left : Option ℕ) (beyond : Beyond) (turns : ℕ) (header : Bool) (before : Before) (f : Found)
    (met : Option Marker) (all rest : List ℕ) (t : Turn) → (header && is_some f.said.frame) ≡ false
    → (turn_within left beyond before f met all).turn ≡ Ok (t, rest) → t.ended ≡ true
    → walk left beyond (suc turns) header before f met all ≡ walked t.found (Ok rest)
unfolding walk
walk-end left beyond turns header before f met all rest t n e g = rw (n, e, g) refl

pub walk-on : (left : Option ℕ) (beyond : Beyond) (turns : ℕ) (header : Bool) (before : Before) (f : Found)
    (met : Option Marker) (all rest : List ℕ) (t : Turn) → (header && is_some f.said.frame) ≡ false
    → (turn_within left beyond before f met all).turn ≡ Ok (t, rest) → t.ended ≡ false
    → walk left beyond (suc turns) header before f met all
    ≡ walk (left_after left (work_of_turn f met all)) beyond turns header t.before t.found t.met rest
unfolding walk
walk-on left beyond turns header before f met all rest t n e g = rw (n, e, g) refl

-- With zeros after its data a turn that has a fault brings nothing.
pub zeros-bring : (before : Before) (f : Found) (met : Option Marker) (all : List ℕ)
    → turn_at Zeros before f met all ≡ unbrought f (turn_at Zeros before f met all).turn
unfolding turn_at brought_after scan_turn_at
zeros-bring before f met all = go (found_or met all (next_marker all))
  where
    after : (m : Marker) (bytes : List ℕ)
        → brought_after Zeros m before f bytes ≡ unbrought f (brought_after Zeros m before f bytes).turn
    after m bytes = search rules

    go : (o : Outcome Marker) → (elim o as (λ _. Brought) [
      | Ok m ↦ brought_after Zeros m.0 before f m.1
      | Err fault ↦ unbrought f (Err fault)
    ]) ≡ unbrought f (elim o as (λ _. Brought) [
      | Ok m ↦ brought_after Zeros m.0 before f m.1
      | Err fault ↦ unbrought f (Err fault)
    ]).turn
    go (Ok m) = after m.0 m.1
    go (Err fault) = refl

-- so it does within a limit
zeros-within : (left : Option ℕ) (before : Before) (f : Found) (met : Option Marker) (all : List ℕ)
    → turn_within left Zeros before f met all ≡ unbrought f (turn_within left Zeros before f met all).turn
zeros-within left before f met all = go (is_above left (work_of_turn f met all))
  where
    go : (above : Bool) → ◌≡◌ {A = Brought}
        (if above then unbrought f (Err Malformed) else turn_at Zeros before f met all)
        (unbrought f (if above then unbrought f (Err Malformed) else turn_at Zeros before f met all).turn)
    go true = refl
    go false = zeros-bring before f met all

pub zeros-refused : (left : Option ℕ) (turns : ℕ) (header : Bool) (before : Before) (f : Found) (met : Option Marker)
    (all : List ℕ) (fault : Fault) → (header && is_some f.said.frame) ≡ false
    → (turn_within left Zeros before f met all).turn ≡ Err fault
    → walk left Zeros (suc turns) header before f met all
    ≡ record (walked f (Err fault)) { exceeded = is_above left (work_of_turn f met all) }
zeros-refused left turns header before f met all fault n e =
    walk-refused left Zeros turns header before f met all fault n e
    ∙ ap (λ (b : Brought). refused_walk (is_above left (work_of_turn f met all)) b fault) (zeros-within left before f met all)

pub zeros-scan : (found : Found) (bytes : List ℕ) → (scan_turn_at Zeros found bytes).turn ≡ scan_segment found bytes
unfolding scan_turn_at
zeros-scan found bytes = refl

-- what is read by a walk
abbrev pub walked_to : Walked → Outcome Found
walked_to w = w.rest >>= λ (rest : List ℕ). Ok (w.found, rest)

pub segments-walked : (left : Option ℕ) (header : Bool) (before : Before) (f : Found) (met : Option Marker)
    (all : List ℕ) (w : Walked) → walk left Zeros (suc (length all)) header before f met all ≡ w
    → segments_at left header before f met all ≡ walked_to w
unfolding segments_at
segments-walked left header before f met all w e = ap walked_to e

-- ---- the turn of a marker

pub same-turn : (a b : Brought) → a ≡ b → a.turn ≡ b.turn
same-turn a b e = ap (λ (x : Brought). x.turn) e

-- a marker and what is written after it, and the bytes after the end of the image
pub segment-tail : (fill code : ℕ) (bytes more tail : List ℕ)
    → marker fill code (bytes ++ more) ++ tail ≡ marker fill code (bytes ++ (more ++ tail))
segment-tail fill code bytes more tail = search (rules, marker-append, append_assoc)

pub scan-tail : (fill code : ℕ) (header bytes more tail : List ℕ)
    → marker fill code (header ++ (bytes ++ more)) ++ tail ≡ marker fill code (header ++ (bytes ++ (more ++ tail)))
scan-tail fill code header bytes more tail = search (rules, segment-tail, append_assoc)

-- the turn of a marker and what stands after it
pub marker-turn : (beyond : Beyond) (before : Before) (found : Found) (fill code : ℕ) (m : Marker) (rest : List ℕ)
    → marker_of code ≡ Some m
    → turn_at beyond before found None (marker fill code rest) ≡ brought_after beyond m before found rest
unfolding turn_at
marker-turn beyond before found fill code m rest h = grind (arith, common_steps, next-marker)

-- A marker is met or stands next, and these are the bytes from it on.
pub record StandsAt (met : Option Marker) (all bytes : List ℕ) : Type 0 where
  pub turn : (beyond : Beyond) (before : Before) (found : Found)
      → turn_at beyond before found met all ≡ turn_at beyond before found None bytes

pub stands-here : (bytes : List ℕ) → StandsAt None bytes bytes
stands-here bytes = record { turn = λ beyond before found. refl }

pub stands-met : (fill code : ℕ) (m : Marker) (rest : List ℕ) → marker_of code ≡ Some m
    → StandsAt (Some m) rest (marker fill code rest)
unfolding turn_at
stands-met fill code m rest h = grind (arith, common_steps, marker-turn)

pub end-turn : (beyond : Beyond) (before : Before) (found : Found) (fill : ℕ) (rest : List ℕ)
    → is_some found.said.frame ≡ true
    → (turn_at beyond before found None (marker fill 217 [] ++ rest)).turn ≡ Ok
    (record { found = found; before = Elsewhere; met = None; ended = true }, rest)
unfolding marker_of brought_after segment_at end_segment
end-turn beyond before found fill rest some =
    ap (λ (bytes : List ℕ). (turn_at beyond before found None bytes).turn) (marker-append fill 217 [] rest)
    ∙ ap (λ (b : Brought). b.turn) (marker-turn beyond before found fill 217 EOI rest refl)
    ∙ kept (is_some found.said.frame) _ (Err Malformed) some

pub scan-turn : (beyond : Beyond) (before : Before) (found : Found) (fill : ℕ) (header bytes more rest : List ℕ)
    → turn_at beyond before found None (marker fill 218 (header ++ (bytes ++ more)) ++ rest)
    ≡ scan_turn_at beyond found (header ++ (bytes ++ (more ++ rest)))
unfolding marker_of brought_after
scan-turn beyond before found fill header bytes more rest =
    ap (turn_at beyond before found None) (scan-tail fill 218 header bytes more rest)
    ∙ marker-turn beyond before found fill 218 SOS (header ++ (bytes ++ (more ++ rest))) refl

-- A marker is that of a scan, or what is brought after it is what its segment says.
pub scan-or-segment : (beyond : Beyond) (m : Marker) (before : Before) (found : Found) (bytes : List ℕ)
    → (m ≡ SOS) ⊎ (brought_after beyond m before found bytes ≡ unbrought found (segment_at m before found bytes))
unfolding brought_after
scan-or-segment beyond m before found bytes = search rules

-- ---- what begins with a marker

-- no marker of a restart
abbrev pub IsEnd : Marker → Type 0
IsEnd m = (turns : ℕ) (bytes : List ℕ) → after_restarts (suc turns) (Some m) bytes ≡ Ok (Some m, bytes)

pub record Begins (bytes : List ℕ) : Type 0 where
  pub fill : ℕ
  pub code : ℕ
  pub m : Marker
  pub after : List ℕ
  pub is : bytes ≡ marker fill code after
  pub makes : marker_of code ≡ Some m
  pub ends : IsEnd m

pub marker-begins : (fill code : ℕ) (m : Marker) (after rest : List ℕ) → marker_of code ≡ Some m → IsEnd m
    → Begins (marker fill code after ++ rest)
marker-begins fill code m after rest makes ends = grind (arith, common_steps, marker-append)

pub segment-ends : (s : Segment) → IsEnd (marker_for s)
unfolding after_restarts
segment-ends s turns bytes = search rules

pub marker-longer : (fill code n : ℕ) (bytes more : List ℕ) → length (marker fill code (bytes ++ more)) < suc n
    → length more < n
marker-longer fill code n bytes more h = grind (arith, common_steps, length-append)

-- ---- segments

-- The segment keeps its rules, and the frame of a header is accepted.
abbrev pub IsTaken : Said → Segment → Type 0
IsTaken said (Header number h) = MayStand said.frame (Header number h)
    × (accepted (frame_written number h) ≡ Ok (frame_written number h))
IsTaken said s = MayStand said.frame s × Unit {0}

-- A segment that is taken is read, whatever was found before it.
segment-read : (before : Before) (found : Found) (s : Segment) (rest : List ℕ) → IsTaken found.said s
    → segment_at (marker_for s) before found (with_length (payload_of s) ++ rest)
    ≡ Ok (onward (record found { said = said_after found.said s }), rest)
unfolding segment_at frame_segment
segment-read before found (Header number h) rest stands =
    grind (arith, common_steps, not-refused, read-on, sof-read)
segment-read before found s rest stands =
    search (rules, read-on, dqt-read, dht-read, dri-read, app-read, sized-read, skip-read)

-- no segment is a scan
segment-brought : (beyond : Beyond) (before : Before) (found : Found) (s : Segment) (bytes : List ℕ)
    → (brought_after beyond (marker_for s) before found bytes).turn ≡ segment_at (marker_for s) before found bytes
unfolding brought_after
segment-brought beyond before found s bytes = search rules

-- the turn of a segment that is taken
pub segment-turn : (beyond : Beyond) (before : Before) (now : Found) (s : Segment) (met : Option Marker)
    (all : List ℕ) (fill : ℕ) (more tail : List ℕ) → MayStand now.said.frame s → IsTaken now.said s
    → StandsAt met all (marker fill (marker_code s) (with_length (payload_of s) ++ more) ++ tail)
    → (turn_at beyond before now met all).turn ≡ Ok (onward (record now { said = said_after now.said s }), more ++ tail)
segment-turn beyond before now s met all fill more tail may taken at =
    ap (λ (b : Brought). b.turn) (at.turn beyond before now
    ∙ ap (turn_at beyond before now None) (segment-tail fill (marker_code s) (with_length (payload_of s)) more tail)
    ∙ marker-turn beyond before now fill (marker_code s) (marker_for s) (with_length (payload_of s) ++ (more ++ tail))
    (segment-marker now.said.frame s may))
    ∙ segment-brought beyond before now s (with_length (payload_of s) ++ (more ++ tail))
    ∙ segment-read before now s (more ++ tail) taken

pub some-none : {P : Type 0} (f : Frame) (o : Option Frame) → o ≡ Some f → o ≡ None → P
some-none f o e g = absurd (let n : ⊥ = cc in n)

pub same-frame : (a b : Frame) (o : Option Frame) → o ≡ Some a → o ≡ Some b → a ≡ b
same-frame a b o e f = let s : ◌≡◌ {A = Option Frame} (Some a) (Some b) = sym e ∙ f in cc

-- ---- the tables of a scan

pub needed-some : {A : Type 0} (o : Option A) (x : A) → needed o ≡ Ok x → o ≡ Some x
needed-some None x e = search rules
needed-some (Some y) x e = cc

-- What is found for a component of a scan, by its index in the frame and the destinations of its tables.
pub record IsCoding (w : Said) (frame : Frame) (p : Pass) (tables : Tables) (index d a : ℕ) (k : Coding) : Type 0 where
  pub stands : k.index ≡ index
  pub component : slice_get frame.components k.index ≡ Some k.component
  pub quantization : slice_index_or w.quantization k.component.factors.quantization None ≡ Some k.quantization
  pub dc : needed_if (p.ss == 0) classes.DC (slice_index_or tables.dc d None) ≡ Ok k.dc
  pub ac : needed_if (nat_lt 0 p.se) classes.AC (slice_index_or tables.ac a None) ≡ Ok k.ac

pub coding-is : (w : Said) (frame : Frame) (p : Pass) (tables : Tables) (index d a : ℕ) (k : Coding)
    → component_coding w frame p tables index d a ≡ Ok k → IsCoding w frame p tables index d a k
unfolding component_coding
coding-is w frame p tables index d a k e = search (rules, bind-ok, ok-same, needed-some)

pub gathered-more : {A B : Type 0} (f : A → Result B Fault) (x : A) (xs : List A) (y : B) (ys : List B) → f x ≡ Ok y
    → gathered f xs ≡ Ok ys → gathered f (x ∷ xs) ≡ Ok (y ∷ ys)
unfolding gathered
gathered-more f x xs y ys e g = then-ok (f x) _ y _ e (then-ok (gathered f xs) _ ys _ g refl)

-- what holds of each that is gathered
pub gathered-each : {A B : Type 0} (P : B → Type 0) (f : A → Result B Fault) (xs : List A) (ys : List B)
    → gathered f xs ≡ Ok ys → ((x : A) (y : B) → f x ≡ Ok y → P y) → AllByRecursion P ys
unfolding gathered
gathered-each P f [] ys e h = subst (AllByRecursion P) (ok-same [] ys e) tt
gathered-each P f (x ∷ xs) ys e h =
    let more = bind-ok (gathered f xs) _ ys (bind-ok (f x) _ ys e).2 in
    search (rules, ok-same, gathered-each P f xs more.0 more.1 h)

-- what each tells
pub gathered-map : {A B C : Type 0} (g : B → C) (k : A → C) (f : A → Result B Fault) (xs : List A) (ys : List B)
    → gathered f xs ≡ Ok ys → ((x : A) (y : B) → f x ≡ Ok y → g y ≡ k x) → map g ys ≡ map k xs
unfolding gathered
gathered-map g k f [] ys e h = ap (map g) (sym (ok-same [] ys e))
gathered-map g k f (x ∷ xs) ys e h =
    let more = bind-ok (gathered f xs) _ ys (bind-ok (f x) _ ys e).2 in
    search (rules, ok-same, gathered-map g k f xs more.0 more.1 h)

-- what holds of each coding of a scan
pub codings-each : (P : Coding → Type 0) (w : Said) (frame : Frame) (s : Scan) (codings : List Coding)
    → codings_of w frame s ≡ Ok codings
    → ((index d a : ℕ) (k : Coding) → IsCoding w frame (pass_of s) (tables_of w s) index d a k → P k)
    → AllByRecursion P codings
unfolding codings_of
codings-each P w frame s codings e h = gathered-each P _ _ codings e (λ x k is.
    h x.0 x.1.0 x.1.1 k (coding-is w frame (pass_of s) (tables_of w s) x.0 x.1.0 x.1.1 k is))

pub codings-indices : (w : Said) (frame : Frame) (s : Scan) (codings : List Coding)
    → length s.dc_destinations ≡ length s.components → length s.ac_destinations ≡ length s.components
    → codings_of w frame s ≡ Ok codings → map (λ c. c.index) codings ≡ s.components
unfolding codings_of
codings-indices w frame s codings h g e =
    gathered-map (λ c. c.index) (λ x. x.0) _ _ codings e (λ x k is.
    (coding-is w frame (pass_of s) (tables_of w s) x.0 x.1.0 x.1.1 k is).stands)
    ∙ keys_of-zip s.components (zip s.dc_destinations s.ac_destinations)
    (omega (arith, h, g, length-zip s.dc_destinations s.ac_destinations))

-- ---- a scan

pub scan-by : (found : Found) (frame : Frame) (s : Scan) (codings : List Coding) (arrays : Arrays) (m : Marker)
    (bytes data_bytes more : List ℕ) → frame.process ≢ Lossless
    → found.said.frame ≡ Some frame → sos_at frame bytes ≡ Ok (s, data_bytes) → codings_of found.said frame s ≡ Ok codings
    → scan_arrays found frame s codings data_bytes ≡ Ok ((arrays, Some m), more)
    → after_restarts (suc (length more)) (Some m) more ≡ Ok (Some m, more)
    → scan_segment found bytes ≡ Ok (scan_turn found (after_scan found frame s codings arrays) (Some m), more)
unfolding scan_segment blocks_scan
scan-by found frame s codings arrays m bytes data_bytes more n a b c d e = search (rules, then-ok)
