-- The header of a scan within a limit of blocks.
use Rattle.std.proofs.Common.{◌≡◌, ◌∙◌, ℕ, List, Option, None, Some, Result, Ok, Err, Bool, true, false, ap, refl, sym}
use Rattle.std.proofs.Common.{arith}
use Rattle.std.proofs.lemmas.Grind.{common_steps}
use Rattle.std.specs.Prelude.{if◌then◌else◌}
use Rattle.jpeg_bits.specs.Reading.{Answers, Fault, Malformed, NamesFormat, Outcome, ◌>>=◌}
use Rattle.jpeg_bits.specs.Stream.{Stream}
use Rattle.jpeg_bits.specs.declared.error.Error.{Error}
use Rattle.jpeg_segments.specs.Frame.{Frame}
use Rattle.jpeg_segments.specs.ScanHeader.{Scan, sos_at}
use Rattle.jpeg_meaning.specs.Brought.{frame_and_scan}
use Rattle.jpeg_meaning.specs.Found.{Found}
use Rattle.jpeg_meaning.specs.Work.{is_above, work_of_header, work_of_scan}
use Rattle.jpeg_decoder.specs.Steps.{header_at, header_within}
use Rattle.jpeg_decoder.proofs.Scans.ScanData.{answers-err}
use Rattle.jpeg_meaning.specs.States.{IfRefused, OnToldRefusal}
use Rattle.jpeg_meaning.proofs.Refusals.{told-err}
use Rattle.jpeg_decoder.proofs.Partial.Refused.{if-refused}
use Rattle.jpeg_decoder.proofs.Segments.MarkedTurns.{none-above}

header-is : (found : Found) (frame : Frame) (bytes : List ℕ) → found.said.frame ≡ Some frame
    → header_at found bytes ≡ sos_at frame bytes
header-is found frame bytes e = rw e refl

both-are : (found : Found) (frame : Frame) (bytes : List ℕ) → found.said.frame ≡ Some frame
    → frame_and_scan found bytes ≡ (sos_at frame bytes >>= (λ (scan : Scan × List ℕ). Ok (frame, scan)))
both-are found frame bytes e = rw e refl

abbrev work_by : Result (Frame × (Scan × List ℕ)) Fault → ℕ
work_by o = elim o as (λ _. ℕ) [ Ok x ↦ work_of_scan x.0 x.1.0 | Err fault ↦ 0 ]

abbrev with_frame : Frame → Outcome Scan → Result (Frame × (Scan × List ℕ)) Fault
with_frame frame o = o >>= (λ (scan : Scan × List ℕ). Ok (frame, scan))

-- the blocks of a scan whose header is read
pub work-read : (found : Found) (frame : Frame) (bytes rest : List ℕ) (scan : Scan) → found.said.frame ≡ Some frame
    → sos_at frame bytes ≡ Ok (scan, rest) → work_of_header found bytes ≡ work_of_scan frame scan
unfolding work_of_header
work-read found frame bytes rest scan e is = ap work_by (both-are found frame bytes e ∙ ap (with_frame frame) is)

work-lacks : (found : Found) (frame : Frame) (bytes : List ℕ) (fault : Fault) → found.said.frame ≡ Some frame
    → sos_at frame bytes ≡ Err fault → work_of_header found bytes ≡ 0
unfolding work_of_header
work-lacks found frame bytes fault e is = ap work_by (both-are found frame bytes e ∙ ap (with_frame frame) is)

abbrev header_by : Option ℕ → Found → List ℕ → ℕ → Outcome Scan
header_by left found bytes blocks = if is_above left blocks then Err Malformed else header_at found bytes

abbrev header_where : Found → List ℕ → Bool → Outcome Scan
header_where found bytes above = if above then Err Malformed else header_at found bytes

pub within-lacks : (left : Option ℕ) (found : Found) (frame : Frame) (bytes : List ℕ) (fault : Fault)
    → found.said.frame ≡ Some frame → sos_at frame bytes ≡ Err fault → header_within left found bytes ≡ Err fault
within-lacks left found frame bytes fault e is =
    ap (header_by left found bytes) (work-lacks found frame bytes fault e is)
    ∙ ap (header_where found bytes) (none-above left) ∙ header-is found frame bytes e ∙ is

pub within-read : (left : Option ℕ) (found : Found) (frame : Frame) (bytes rest : List ℕ) (scan : Scan)
    → found.said.frame ≡ Some frame → sos_at frame bytes ≡ Ok (scan, rest)
    → is_above left (work_of_scan frame scan) ≡ false → header_within left found bytes ≡ Ok (scan, rest)
within-read left found frame bytes rest scan e is few =
    ap (header_by left found bytes) (work-read found frame bytes rest scan e is)
    ∙ ap (header_where found bytes) few ∙ header-is found frame bytes e ∙ is

above-refused : (left : Option ℕ) (found : Found) (frame : Frame) (bytes rest : List ℕ) (scan : Scan)
    → found.said.frame ≡ Some frame → sos_at frame bytes ≡ Ok (scan, rest)
    → is_above left (work_of_scan frame scan) ≡ true → header_within left found bytes ≡ Err Malformed
above-refused left found frame bytes rest scan e is more =
    ap (header_by left found bytes) (work-read found frame bytes rest scan e is)
    ∙ ap (header_where found bytes) more

-- a header that is refused
pub header-lacks : (left : Option ℕ) (found : Found) (frame : Frame) (old new : Stream) (e : Error)
    → found.said.frame ≡ Some frame → Answers (λ (s : Scan). s) (sos_at frame) old (Err e) new
    → Answers (λ (s : Scan). s) (header_within left found) old (Err e) new
header-lacks left found frame old new e framed h =
    answers-err (λ (s : Scan). s) (λ (s : Scan). s) (sos_at frame) (header_within left found) old new e
    (λ f is. within-lacks left found frame old.bytes f framed is) h

-- the refusal of a scan of more blocks than are left
pub header-above : (left : Option ℕ) (found : Found) (frame : Frame) (scan : Scan) (old new : Stream) (e : Error)
    → found.said.frame ≡ Some frame
    → (new.failed ≡ old.failed) × (old.known ≡ true → (new.known ≡ true) × (sos_at frame old.bytes ≡ Ok (scan, new.bytes)))
    → is_above left (work_of_scan frame scan) ≡ true → NamesFormat e
    → Answers (λ (s : Scan). s) (header_within left found) old (Err e) new
header-above left found frame scan old new e framed has more names =
    grind (arith, common_steps, above-refused left found frame old.bytes new.bytes scan framed)

-- a header within the limit
pub header-within : (left : Option ℕ) (found : Found) (frame : Frame) (scan : Scan) (old new : Stream)
    → found.said.frame ≡ Some frame
    → (new.failed ≡ old.failed) × (old.known ≡ true → (new.known ≡ true) × (sos_at frame old.bytes ≡ Ok (scan, new.bytes)))
    → is_above left (work_of_scan frame scan) ≡ false
    → (new.failed ≡ old.failed) × (old.known ≡ true → (new.known ≡ true)
    × (header_within left found old.bytes ≡ Ok (scan, new.bytes)))
header-within left found frame scan old new framed has few = (
  has.0,
  λ k.
      let read = has.1 k in
      (read.0, within-read left found frame old.bytes new.bytes scan framed read.1 few),
)

-- ---- whether a scan exceeds the limit

-- a header that is refused for another reason doesn't
pub lacks-exceeded : (left : Option ℕ) (found : Found) (frame : Frame) (old new : Stream) (e : Error) (exceeded : Bool)
    → found.said.frame ≡ Some frame → exceeded ≡ false → Answers (λ (s : Scan). s) (sos_at frame) old (Err e) new
    → old.known ≡ true → new.known ≡ true
    → IfRefused e (exceeded ≡ is_above left (work_of_header found old.bytes))
lacks-exceeded left found frame old new e exceeded framed none h k l =
    told-err e (sos_at frame old.bytes) _ (h.1 k l)
    (λ f is. none ∙ sym (ap (is_above left) (work-lacks found frame old.bytes f framed is) ∙ none-above left))

-- without a frame there is no scan
unframed-work : (found : Found) (bytes : List ℕ) → found.said.frame ≡ None → work_of_header found bytes ≡ 0
unfolding work_of_header
unframed-work found bytes e = rw (work_of_header, e) refl

pub unframed-exceeded : (left : Option ℕ) (found : Found) (bytes : List ℕ) (e : Error) (exceeded : Bool)
    → found.said.frame ≡ None → exceeded ≡ false
    → IfRefused e (exceeded ≡ is_above left (work_of_header found bytes))
unframed-exceeded left found bytes e exceeded lacks none =
    if-refused e (none ∙ sym (ap (is_above left) (unframed-work found bytes lacks) ∙ none-above left))

-- the refusal of a scan of more blocks than are left
pub above-exceeded : (left : Option ℕ) (found : Found) (frame : Frame) (scan : Scan) (old mid : Stream) (e : Error)
    (exceeded : Bool) → found.said.frame ≡ Some frame
    → (mid.failed ≡ old.failed) × (old.known ≡ true → (mid.known ≡ true) × (sos_at frame old.bytes ≡ Ok (scan, mid.bytes)))
    → is_above left (work_of_scan frame scan) ≡ true → exceeded ≡ true → old.known ≡ true
    → IfRefused e (exceeded ≡ is_above left (work_of_header found old.bytes))
above-exceeded left found frame scan old mid e exceeded framed has more is k =
    if-refused e (is ∙ sym (ap (is_above left) (work-read found frame old.bytes mid.bytes scan framed (has.1 k).1) ∙ more))

-- a header that was read is within the limit
within-few : (left : Option ℕ) (found : Found) (bytes : List ℕ) (x : Scan × List ℕ)
    → header_within left found bytes ≡ Ok x → is_above left (work_of_header found bytes) ≡ false
within-few left found bytes x e = go (is_above left (work_of_header found bytes)) e
  where
    go : (above : Bool) → header_where found bytes above ≡ Ok x → above ≡ false
    go true q = grind (arith, common_steps)
    go false q = refl

pub within-exceeded : {X : Type 0} (left : Option ℕ) (found : Found) (scan : Scan) (old mid new : Stream)
    (r : Result X Error) (exceeded : Bool) → exceeded ≡ false
    → (mid.failed ≡ old.failed) × (old.known ≡ true → (mid.known ≡ true)
    × (header_within left found old.bytes ≡ Ok (scan, mid.bytes)))
    → OnToldRefusal old new r (exceeded ≡ is_above left (work_of_header found old.bytes))
within-exceeded left found scan old mid new (Ok x) exceeded none has = tt
within-exceeded left found scan old mid new (Err e) exceeded none has = λ k l.
    if-refused e (none ∙ sym (within-few left found old.bytes (scan, mid.bytes) (has.1 k).1))
