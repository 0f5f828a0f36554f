-- The steps of a scan that is read, and what they are to a segment of the stream.
use Rattle.std.proofs.Common.{◌≡◌, ℕ, suc, true, false, List, length, Option, Some, None, Result}
use Rattle.std.proofs.Common.{Ok, Err, ◌∙◌, ap, arith, refl, subst, sym}
use Rattle.jpeg_bits.specs.Stream.{Stream}
use Rattle.jpeg_bits.specs.Reading.{Answers, Fault, Names, Outcome, ◌>>=◌, Malformed}
use Rattle.jpeg_bits.specs.Passes.{Pass}
use Rattle.jpeg_bits.specs.declared.error.Error.{Error}
use Rattle.jpeg_bits.specs.declared.marker.Marker.{Marker}
use Rattle.jpeg_bits.proofs.Loops.{Continues, Continues-err, bind_at, bind_err, still_known}
use Rattle.jpeg_segments.specs.Frame.{Frame}
use Rattle.jpeg_segments.specs.declared.frame.CodingProcess.{CodingProcess}
use Rattle.jpeg_segments.specs.ScanHeader.{Scan, sos_at}
use Rattle.jpeg_meaning.specs.Scans.{Arrays}
use Rattle.jpeg_meaning.specs.ScanSegments.{scan_turn as turn_of_scan, arrays_before, blocks_scan}
use Rattle.jpeg_meaning.specs.ScanSegments.{after_restarts, after_scan, codings_of, Coding, scan_by}
use Rattle.jpeg_meaning.specs.ScanSegments.{lossless_scan, scan_before, scan_arrays, pass_of}
use Rattle.jpeg_meaning.specs.ScanSegments.{scan_segment}
use Rattle.jpeg_meaning.specs.Segments.{Turn}
use Rattle.jpeg_meaning.specs.Found.{Found}
use Rattle.jpeg_decoder.specs.Steps.{IsRefusal, IsStep, after_all, blocks_read, header_at, header_within, read_after}
use Rattle.jpeg_meaning.specs.Brought.{unbrought}
use Rattle.jpeg_meaning.specs.Stream.{scan_turn_at, scan_within}
use Rattle.jpeg_meaning.specs.Work.{is_above, work_of_header}
use Rattle.jpeg_bits.specs.declared.beyond.Beyond.TheVariants.{Zeros}
use Rattle.jpeg_decoder.specs.Steps.{read_by, samples_read, scan_data}
use Rattle.jpeg_decoder.specs.declared.stream.state.Step.{Step}
use Rattle.jpeg_meaning.specs.InTurn.{AreArrays}
use Rattle.jpeg_segments.specs.Checks.{needed}
use Rattle.jpeg_meaning.specs.Sound.{ArePlanes, IsSound}
use Rattle.std.proofs.lemmas.Grind.{common_steps}
use Rattle.std.proofs.lemmas.Result.{err_from_is_err_and}
use Rattle.std.specs.Prelude.{IsErr, IsErrAnd, Bool, if◌then◌else◌}

-- ---- calls on a source

pub refused : {X Y Z : Type 0} (view : X → Y) (whole rest : List ℕ → Outcome Y) (old new : Stream) (e : Error)
    (o : Result Z Fault) → Continues whole old rest new → IsRefusal e → Names e o
    → ((f : Fault) → o ≡ Err f → rest new.bytes ≡ Err f) → Answers view whole old (Err e) new
refused view whole rest old new e o p r n through = grind (arith, common_steps, still_known)

-- the last step of the whole
pub last-step : {X Y W : Type 0} (view : X → Y) (v : X → W) (whole rest : List ℕ → Outcome Y)
    (read : List ℕ → Outcome W) (old cur new : Stream) (r : Result X Error)
    → ((x : X) → read cur.bytes ≡ Ok (v x, new.bytes) → rest cur.bytes ≡ Ok (view x, new.bytes))
    → ((f : Fault) → read cur.bytes ≡ Err f → rest cur.bytes ≡ Err f) → Continues whole old rest cur
    → Answers v read cur r new → Answers view whole old r new
last-step view v whole rest read old cur new r ok err p q = grind (arith, common_steps)

-- ---- the steps of a scan

-- after the data
abbrev pub after_data : (Found × Option Marker) × List ℕ → Outcome (Found × Option Marker)
after_data r = after_all r.0.1 r.1 >>= (λ (met : Option Marker × List ℕ). Ok ((r.0.0, met.0), met.1))

-- after the tables in force, by the pass
abbrev pub after_codings : Found → Frame → Pass → List Coding → List ℕ → Outcome (Found × Option Marker)
after_codings found frame p codings bytes = scan_data found frame p codings bytes >>= after_data

-- after the header
abbrev pub after_header : Found → Frame → Scan → List ℕ → Outcome (Found × Option Marker)
after_header found frame scan bytes =
    codings_of found.said frame scan >>= (λ (codings : List Coding). after_codings found frame (pass_of scan) codings
    bytes)

codings-read : (found : Found) (frame : Frame) (scan : Scan) (p : Pass) (codings : List Coding) (bytes : List ℕ)
    → codings_of found.said frame scan ≡ Ok codings → p ≡ pass_of scan
    → after_header found frame scan bytes ≡ after_codings found frame p codings bytes
codings-read found frame scan p codings bytes e is = grind (arith, common_steps, bind_at)

-- what a call has read of a source that is known
abbrev pub HasRead : {Y : Type 0} → (List ℕ → Outcome Y) → Stream → Y → Stream → Type 0
HasRead read old y new =
    (new.failed ≡ old.failed) × (old.known ≡ true → (new.known ≡ true) × (read old.bytes ≡ Ok (y, new.bytes)))

-- what a scan of blocks is read to be
abbrev ReadsBlocks : Found → Found → Frame → Scan → Stream → Result (Option Marker) Error → Stream → Type 0
ReadsBlocks next found frame scan old r new =
    Answers (λ (m : Option Marker). (next, m)) (blocks_read found frame scan) old r new

-- A scan of blocks has its data first, where tables are in force.
blocks-begun : (found : Found) (frame : Frame) (scan : Scan) (p : Pass) (codings : List Coding) (s : Stream)
    → codings_of found.said frame scan ≡ Ok codings → p ≡ pass_of scan
    → Continues (blocks_read found frame scan) s (after_codings found frame p codings) s
unfolding blocks_read
blocks-begun found frame scan p codings s in_force is =
    (refl, λ k. (k, codings-read found frame scan p codings s.bytes in_force is))

-- Data that is refused.
pub data-refused : (next found : Found) (frame : Frame) (scan : Scan) (p : Pass) (codings : List Coding)
    (old new : Stream) (e : Error) → codings_of found.said frame scan ≡ Ok codings → p ≡ pass_of scan
    → Answers (λ (m : Option Marker). (next, m)) (scan_data found frame p codings) old (Err e) new
    → ReadsBlocks next found frame scan old (Err e) new
data-refused next found frame scan p codings old new e in_force is read =
    Continues-err (λ (m : Option Marker). (next, m)) (λ (m : Option Marker). (next, m)) (blocks_read found frame scan)
    (after_codings found frame p codings) (scan_data found frame p codings)
    old old new e (λ f h. bind_err after_data _ f h)
    (blocks-begun found frame scan p codings old in_force is) read

-- The restart markers after the data are passed over, and the scan is read.
pub scan-ends : (next found : Found) (met : Option Marker) (frame : Frame) (scan : Scan) (p : Pass)
    (codings : List Coding) (old mid new : Stream) (r : Result (Option Marker) Error)
    → codings_of found.said frame scan ≡ Ok codings → p ≡ pass_of scan
    → HasRead (scan_data found frame p codings) old (next, met) mid
    → Answers (λ (m : Option Marker). m) (after_all met) mid r new
    → ReadsBlocks next found frame scan old r new
scan-ends next found met frame scan p codings old mid new r in_force is read ends =
    let begun = blocks-begun found frame scan p codings old in_force is in
    grind (arith, common_steps, last-step, bind_at, bind_err)

-- ---- what is read after the header

is-read-after : (found : Found) (frame : Frame) (scan : Scan) (bytes : List ℕ) → found.said.frame ≡ Some frame
    → read_after found scan bytes ≡ read_by frame.process found frame scan bytes
is-read-after found frame scan bytes e = rw e refl

-- what a call answers, by what is read as it is
pub answers-as : {X Y : Type 0} (v : X → Y) (read whole : List ℕ → Outcome Y) (old new : Stream) (r : Result X Error)
    → whole old.bytes ≡ read old.bytes → Answers v read old r new → Answers v whole old r new
answers-as v read whole old new (Ok x) e h = (h.0, λ k. ((h.1 k).0, e ∙ (h.1 k).1))
answers-as v read whole old new (Err x) e h = (h.0, λ k l. subst (Names x) (sym e) (h.1 k l), h.2)

-- ---- a segment of the stream

-- the turn that a scan leads to
abbrev pub scan_turn : Found → (Found × Option Marker) × List ℕ → Outcome Turn
scan_turn found r = Ok (record { found = r.0.0; before = scan_before found; met = r.0.1; ended = false }, r.1)

through : {A B C : Type 0} (o : Result A Fault) (s : A → Result C Fault) (r : A → Result B Fault)
    (t : B → Result C Fault) → ((x : A) → s x ≡ (r x >>= t)) → (o >>= s) ≡ ((o >>= r) >>= t)
through o s r t h = grind (arith, common_steps)

through-same : {A C : Type 0} (o : Result A Fault) (s t : A → Result C Fault) → ((x : A) → s x ≡ t x)
    → (o >>= s) ≡ (o >>= t)
through-same (Ok x) s t h = h x
through-same (Err e) s t h = refl

-- the last steps, where a value is made of what is read
through-made : {A B C D : Type 0} (o : Result A Fault) (made : A → B) (k : B → Result C Fault) (s : A → Result D Fault)
    (t : C → Result D Fault) → ((x : A) → s x ≡ (k (made x) >>= t))
    → (o >>= s) ≡ (((o >>= (λ (x : A). Ok (made x))) >>= k) >>= t)
through-made o made k s t h = grind (arith, common_steps)

data-parts : (found : Found) (frame : Frame) (scan : Scan) (bytes : List ℕ) (codings : List Coding)
    → (scan_arrays found frame scan codings bytes >>= (λ (read : (Arrays × Option Marker) × List ℕ).
    after_restarts (suc (length read.1)) read.0.1 read.1 >>= (λ (met : Option Marker × List ℕ).
    Ok (turn_of_scan found (after_scan found frame scan codings read.0.0) met.0, met.1))))
    ≡ (after_codings found frame (pass_of scan) codings bytes >>= scan_turn found)
unfolding scan_arrays scan_data after_scan after_all
data-parts found frame scan bytes codings = grind (arith, common_steps, through-made, through)

pub process-parts : (p : CodingProcess) (found : Found) (frame : Frame) (scan : Scan) (bytes : List ℕ)
    → scan_by p found frame scan bytes ≡ (read_by p found frame scan bytes >>= scan_turn found)
unfolding blocks_scan blocks_read lossless_scan samples_read after_all
process-parts p found frame scan bytes = grind (arith, common_steps, through, data-parts)

-- what is read after a header, and the turn that it leads to
abbrev pub turn_after : Found → Scan × List ℕ → Outcome Turn
turn_after found s = read_after found s.0 s.1 >>= scan_turn found

-- A segment of a scan is its header, and what is read after it.
scan-parts-by : (found : Found) (bytes : List ℕ) (o : Option Frame) → found.said.frame ≡ o
    → (needed o >>= (λ (frame : Frame). sos_at frame bytes >>= (λ (s : Scan × List ℕ).
    scan_by frame.process found frame s.0 s.1)))
    ≡ ((needed o >>= (λ (frame : Frame). sos_at frame bytes)) >>= turn_after found)
scan-parts-by found bytes None e = refl
scan-parts-by found bytes (Some frame) e = through-same (sos_at frame bytes) _ _
    (λ s. process-parts frame.process found frame s.0 s.1
    ∙ ap (λ (o : Outcome (Found × Option Marker)). o >>= scan_turn found) (sym (is-read-after found frame s.0 s.1 e)))

scan-parts : (found : Found) (bytes : List ℕ) → scan_segment found bytes ≡ (header_at found bytes >>= turn_after found)
unfolding scan_segment
scan-parts found bytes = scan-parts-by found bytes found.said.frame refl

-- a scan within a limit, whose header is that of one within it
pub within-parts : (left : Option ℕ) (found : Found) (bytes : List ℕ)
    → (scan_within left Zeros found bytes).turn ≡ (header_within left found bytes >>= turn_after found)
unfolding scan_turn_at
within-parts left found bytes = go (is_above left (work_of_header found bytes))
  where
    go : (above : Bool)
        → (if above then unbrought found (Err Malformed) else unbrought found (scan_segment found bytes)).turn
        ≡ ((if above then Err Malformed else header_at found bytes) >>= turn_after found)
    go true = refl
    go false = scan-parts found bytes

-- a scan within a limit, with zeros after its data
abbrev pub whole_within : Option ℕ → Found → List ℕ → Outcome Turn
whole_within left found bytes = (scan_within left Zeros found bytes).turn

-- A header that is refused is a segment that is refused.
pub header-refused : (v : Step → Turn) (left : Option ℕ) (found : Found) (old new : Stream) (r : Result Step Error) (e : Error)
    → IsErrAnd r (λ y. y ≡ e) → Answers (λ (s : Scan). s) (header_within left found) old (Err e) new
    → Answers v (whole_within left found) old r new
header-refused v left found old new r e fails p =
    grind (arith, common_steps, err_from_is_err_and, within-parts, bind_err)

-- ---- what holds after a scan

none-some : (f : Frame) → None ≡ Some f → ⊥
none-some f h = cc

-- A scan of blocks leaves a sound state.
pub blocks-sound : (found next : Found) (frame : Frame) → IsSound found → found.said.frame ≡ Some frame
    → next.said.frame ≡ found.said.frame → AreArrays frame.components (arrays_before next frame)
    → (ArePlanes frame.components found.planes → ArePlanes frame.components next.planes)
    → next.samples ≡ found.samples → IsSound next
blocks-sound found next frame sound e stays kept planes samples = grind (arith, common_steps, none-some)

-- A refusal that leaves what was said is a step.
pub refused-steps : (old next : Found) (result : Result Step Error) → IsErr result → next.said ≡ old.said
    → IsStep old result next
refused-steps old next result refused stays = grind (arith, common_steps)

-- A scan is a step, which keeps the frame.
pub scan-steps : (old next : Found) (frame : Frame) (step : Step) → old.said.frame ≡ Some frame → next.said.frame ≡ old.said.frame
    → IsSound next → IsStep old (Ok step) next
scan-steps old next frame step e stays sound = grind (arith, common_steps, none-some)
