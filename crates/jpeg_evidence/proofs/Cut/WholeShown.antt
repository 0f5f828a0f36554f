-- A whole stream of a writer is shown whole: its picture is that of the array, and no fault is named.
use Rattle.std.proofs.Common.{true, ◌≡◌, ℕ, List, [], ◌++◌, false, Option, Some, None, Result, Ok}
use Rattle.std.proofs.Common.{refl, sym, ap, ◌∙◌, append_assoc, is_some}
use Rattle.std.specs.Prelude.{slice_index_or}
use Rattle.std.specs.List.{enumerate_from}
use Rattle.jpeg_bits.specs.Reading.{Fault}
use Rattle.jpeg_bits.specs.Written.{marker}
use Rattle.jpeg_segments.specs.Checks.{gathered, needed}
use Rattle.jpeg_segments.specs.Frame.{Frame}
use Rattle.jpeg_segments.specs.ScanHeaders.{scan_payload}
use Rattle.jpeg_segments.specs.WrittenSegments.{marker_code, payload_of, with_length}
use Rattle.jpeg_segments.specs.declared.frame.CodingProcess.{CodingProcess}
use Rattle.jpeg_segments.specs.declared.frame.CodingProcess.TheVariants.{Lossless}
use Rattle.jpeg_bits.specs.declared.beyond.Beyond.TheVariants.{Nothing}
use Rattle.jpeg_meaning.specs.declared.settings.Settings.{Settings}
use Rattle.jpeg_meaning.specs.ArrayPictures.{picture_of_array}
use Rattle.jpeg_meaning.specs.Found.{Found, Said, nothing_found, nothing_said}
use Rattle.jpeg_meaning.specs.FoundPictures.{blocks_picture, limited, picture_by_process, picture_of, plane_at_end}
use Rattle.jpeg_meaning.specs.FoundPictures.{samples_picture}
use Rattle.jpeg_meaning.specs.Levels.{Is8Bit, Levels, nothing_sent}
use Rattle.jpeg_meaning.specs.SaidSegments.{said_after}
use Rattle.jpeg_meaning.specs.Shown.{completed, fault_in, fault_shown, framed_or, picture_shown, planes_by, shown}
use Rattle.jpeg_meaning.specs.Shown.{shown_of, shown_rest_within, shown_within}
use Rattle.jpeg_meaning.specs.Stream.{Walked, all_brought, start_at, told_of}
use Rattle.jpeg_meaning.specs.WrittenImages.{ClosesImage, MayStandInImage, WritesImage, WritesImageScan, WritesPart}
use Rattle.jpeg_meaning.specs.WrittenScans.{Coefficients}
use Rattle.jpeg_meaning.specs.WrittenStreams.{Writes, end, scan, segment}
use Rattle.jpeg_meaning.proofs.Partial.CompletedPictures.{completed-same, limited-at}
use Rattle.jpeg_meaning.proofs.Written.ReadTurns.{bind-ok, marker-append, scan-tail, segment-tail, then-ok, walk-end}
use Rattle.jpeg_meaning.proofs.Written.ReadTurns.{walked}
use Rattle.jpeg_meaning.proofs.Written.WalkedStreams.{beside}
use Rattle.jpeg_meaning.proofs.Written.WrittenPictures.{ReadImage, bring, pictures-same}
use Rattle.jpeg_evidence.proofs.Cut.CutHeld.{begins-end, end-next, last_turn}
use Rattle.jpeg_evidence.proofs.Cut.CutPictures.{limit-passed}
use Rattle.jpeg_evidence.proofs.Cut.CutScans.{past-of}

-- ---- the walk

-- Segments and scans that stand up to an end, and this end.
record ClosesAfter (array : Coefficients) (said final : Said) (levels last : ℕ → Levels) (bytes : List ℕ)
    : Type 0 where
  front : List ℕ
  closing : List ℕ
  written : Writes MayStandInImage (WritesImageScan array) (λ said sent left. left ≡ []) said levels front final last
  closes : ClosesImage final last closing
  parts : bytes ≡ front ++ closing

closes-after : (array : Coefficients) (said final : Said) (levels last : ℕ → Levels) (bytes : List ℕ)
    → WritesPart array ClosesImage said levels bytes final last → ClosesAfter array said final levels last bytes
closes-after array said final levels last bytes (end said' sent' bytes' c) = record {
  front = [];
  closing = bytes;
  written = end said levels [] refl;
  closes = c;
  parts = refl;
}
closes-after array said final levels last bytes (segment said' final' sent' last' fill s more stands allowed w) =
    let payload = with_length (payload_of s) in
    let c = closes-after array (said_after said s) final levels last more w in
    record {
      front = marker fill (marker_code s) (payload ++ c.front);
      closing = c.closing;
      written = segment said final levels last fill s c.front stands allowed c.written;
      closes = c.closes;
      parts = ap (λ (l : List ℕ). marker fill (marker_code s) (payload ++ l)) c.parts
          ∙ sym (segment-tail fill (marker_code s) payload c.front c.closing);
    }
closes-after array said final levels last bytes
    (scan said' final' sent' next last' frame fill h data_bytes more framed is sends w) =
    let header = with_length (scan_payload h) in
    let c = closes-after array (record said { scanned = true }) final next last more w in
    record {
      front = marker fill 218 (header ++ (data_bytes ++ c.front));
      closing = c.closing;
      written = scan said final levels next last frame fill h data_bytes c.front framed is sends c.written;
      closes = c.closes;
      parts = ap (λ (l : List ℕ). marker fill 218 (header ++ (data_bytes ++ l))) c.parts
          ∙ sym (scan-tail fill 218 header data_bytes c.front c.closing);
    }

-- The segments are walked to the end of the image.
record WalksWhole (array : Coefficients) (final : Said) (last : ℕ → Levels) (rest : List ℕ) (w : Walked)
    : Type 0 where
  read : ReadImage array final last
  ends : w ≡ walked (beside bring final read.brought) (Ok rest)

whole-walked : (array : Coefficients) → ((index row column : ℕ) → Is8Bit (array index row column))
    → (after rest : List ℕ) (final : Said) (last : ℕ → Levels)
    → WritesPart array ClosesImage nothing_said (λ k. nothing_sent) after final last
    → WalksWhole array final last rest (all_brought None nothing_found (after ++ rest))
whole-walked array range after rest final last w =
    let c = closes-after array nothing_said final (λ k. nothing_sent) last after w in
    let fill = c.closes.fill in
    let tail = marker fill 217 rest in
    let parts : after ++ rest ≡ c.front ++ tail
    = ap (λ (l : List ℕ). l ++ rest) (c.parts ∙ ap (λ (l : List ℕ). c.front ++ l) c.closes.closed)
    ∙ append_assoc c.front (marker fill 217 []) rest
    ∙ ap (λ (l : List ℕ). c.front ++ l) (marker-append fill 217 [] rest) in
    let past = past-of array range final last c.front tail c.written (begins-end fill rest) in
    let now = beside bring final past.brought in
    record {
      read = record {
        brought = past.brought;
        held = past.held;
        said = past.said;
        frame = c.closes.frame;
        framed = c.closes.is_said;
        ended = c.closes.ended;
      };
      ends = ap (all_brought None nothing_found) parts ∙ past.goes_on
          ∙ walk-end None Nothing past.turns false past.before now past.met past.all rest (last_turn now) refl
          (end-next past.before now past.met past.all fill rest (ap is_some c.closes.is_said) past.at) refl;
    }

-- ---- the picture, and no fault

-- a picture within the limit
within-limit : (settings : Settings) (said : Said) (frame : Frame) (pictures : Frame → Result (List ℕ) Fault)
    (picture : List ℕ) → said.frame ≡ Some frame → limited settings said pictures ≡ Ok picture
    → pictures frame ≡ Ok picture
within-limit settings said frame pictures picture f e =
    let is = sym (limited-at settings said frame pictures f) ∙ e in
    sym (limit-passed settings frame (pictures frame) (pictures frame) picture is) ∙ is

-- a picture is made of planes that are there
planes-there : (settings : Settings) (found : Found) (frame : Frame) (process : CodingProcess) (picture : List ℕ)
    → picture_by_process process settings found frame ≡ Ok picture
    → (planes : List (List ℕ)) × (planes_by process found frame ≡ Ok planes)
unfolding blocks_picture samples_picture
planes-there settings found frame Lossless picture e =
    let b = bind-ok (gathered (λ c. needed (slice_index_or found.samples c.0 None))
    (enumerate_from 0 frame.components)) _ picture e in (b.0, b.1)
planes-there settings found frame process picture e =
    let b = bind-ok (gathered (plane_at_end found frame) (enumerate_from 0 frame.components)) _ picture e in
    (b.0, b.1)

no-fault : (found : Found) (frame : Frame) (rest : List ℕ) (planes : List (List ℕ)) → found.said.frame ≡ Some frame
    → planes_by frame.process found frame ≡ Ok planes → fault_shown found (Ok rest) ≡ None
unfolding fault_shown
no-fault found frame rest planes f e =
    ap fault_in (then-ok (needed found.said.frame) (λ (g : Frame). planes_by g.process found g) frame _ (ap needed f) e)

-- what is found at the end of an image is shown so
found-shown : (settings : Settings) (found : Found) (frame : Frame) (rest picture : List ℕ)
    → found.said.frame ≡ Some frame → picture_of settings found ≡ Ok picture
    → shown_of settings found (Ok rest)
    ≡ Ok (record { told = told_of found.said; picture = picture; fault = None })
unfolding shown_of picture_shown picture_of
found-shown settings found frame rest picture f e =
    let pictures : Frame → Result (List ℕ) Fault = λ g. picture_by_process g.process settings found g in
    let planes = planes-there settings found frame frame.process picture
    (within-limit settings found.said frame pictures picture f e) in
    let fault = no-fault found frame rest planes.0 f planes.1 in
    then-ok (framed_or found.said.frame (Ok rest)) _ tt _ (ap (λ (o : Option Frame). framed_or o (Ok rest)) f)
    (then-ok (picture_shown settings found) _ picture _
    (then-ok (needed found.said.frame) (λ (g : Frame). picture_of settings (completed found g)) frame _ (ap needed f)
    (completed-same settings found frame planes.0 f planes.1 ∙ e))
    (ap (λ (o : Option Fault). Ok (record { told = told_of found.said; picture = picture; fault = o })) fault))

-- A whole stream of a writer is shown whole, whatever comes after it.
pub whole_images_are_shown_whole : (settings : Settings) (array : Coefficients) (image rest picture : List ℕ)
    (final : Said) (last : ℕ → Levels) → ((index row column : ℕ) → Is8Bit (array index row column))
    → WritesImage array image final last → picture_of_array settings final array last ≡ Ok picture
    → shown settings (image ++ rest)
    ≡ Ok (record { told = told_of final; picture = picture; fault = None })
unfolding shown_within shown_rest_within start_at
whole_images_are_shown_whole settings array image rest picture final last range w e =
    let walk = whole-walked array range w.after rest final last w.written in
    let found = beside bring final walk.read.brought in
    ap (λ (l : List ℕ). shown settings (l ++ rest)) w.starts
    ∙ ap (λ (w : Walked). shown_of settings w.found w.rest) walk.ends
    ∙ found-shown settings found walk.read.frame rest picture walk.read.framed
    (pictures-same settings array final last walk.read ∙ e)
