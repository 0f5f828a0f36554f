-- The steps of a scan that is read as far as it goes, and what they are to what a stream brings.
use Rattle.std.proofs.Common.{◌≡◌, ◌∙◌, ap, Err, false, List, None, Ok, Option, refl, Result, Some}
use Rattle.std.proofs.Common.{subst, sym, true, Bool, ℕ, if◌then◌else◌}
use Rattle.std.proofs.lemmas.Result.{err_from_is_err_and}
use Rattle.std.specs.Prelude.{IsErrAnd, OnOk, option_map, ◌*◌}
use Rattle.jpeg_bits.specs.Passes.{Pass}
use Rattle.jpeg_bits.specs.Reading.{Answers, Fault, Malformed, Names, Outcome}
use Rattle.jpeg_bits.specs.Reading.{◌>>=◌}
use Rattle.jpeg_bits.specs.Stream.{Stream}
use Rattle.jpeg_bits.specs.declared.error.Error.{Error}
use Rattle.jpeg_bits.specs.declared.marker.Marker.{Marker}
use Rattle.jpeg_segments.specs.Frame.{Frame}
use Rattle.jpeg_segments.specs.ScanHeader.{Scan, sos_at}
use Rattle.jpeg_segments.specs.declared.frame.CodingProcess.{CodingProcess}
use Rattle.jpeg_segments.specs.declared.frame.CodingProcess.TheVariants.{DctProgressive}
use Rattle.jpeg_segments.specs.declared.frame.CodingProcess.TheVariants.{DctSequential, Lossless}
use Rattle.jpeg_segments.specs.Checks.{needed}
use Rattle.jpeg_meaning.specs.Brought.{blocks_brought, blocks_brought_by, brought_by, has_whole_rows, BlocksTo}
use Rattle.jpeg_meaning.specs.Brought.{samples_brought, samples_brought_by, scan_brought, unbrought, Brought}
use Rattle.jpeg_meaning.specs.Found.{Found, Said}
use Rattle.jpeg_meaning.specs.LosslessScans.{LosslessCoding, lossless_codings}
use Rattle.jpeg_meaning.specs.declared.before.Before.{Before}
use Rattle.jpeg_meaning.specs.Stream.{scan_turn_at, scan_within, told_of}
use Rattle.jpeg_meaning.specs.Work.{is_above, work_of_header}
use Rattle.jpeg_bits.specs.declared.beyond.Beyond.TheVariants.{Nothing}
use Rattle.jpeg_meaning.specs.ScanSegments.{scan_turn as turn_of_scan, codings_of, Coding, pass_of}
use Rattle.jpeg_meaning.specs.ScanSegments.{after_scan, arrays_before, components_of, once_scanned, scan_before, vias_from}
use Rattle.jpeg_meaning.specs.Order.{mcu_size, spots_of}
use Rattle.jpeg_meaning.specs.WholeRows.{rows_above}
use Rattle.jpeg_meaning.specs.Sound.{IsSound}
use Rattle.jpeg_meaning.specs.Segments.{Turn}
use Rattle.jpeg_meaning.proofs.Refusals.{told-err}
use Rattle.jpeg_meaning.specs.States.{IfRefused, OnTold, OnToldRefusal}
use Rattle.jpeg_decoder.specs.declared.stream.state.Step.{Step}
use Rattle.jpeg_decoder.specs.Reaching.{data_reached, sample_codings, samples_reached, whole_codings, DataBrought, IsEndOf}
use Rattle.jpeg_decoder.specs.Reaching.{UnlessRefused, brought_after, rows_after}
use Rattle.jpeg_decoder.specs.Steps.{blocks_at}
use Rattle.jpeg_decoder.specs.Steps.{header_at, header_within, IsDct, IsRefusal, IsStep}
use Rattle.jpeg_decoder.proofs.Partial.CountedReads.{scan-by-blocks}
use Rattle.jpeg_decoder.proofs.Partial.PassedData.{passed}
use Rattle.jpeg_decoder.proofs.Partial.Refused.{if-refused, if-refused-as}
use Rattle.jpeg_decoder.proofs.Scans.ScanData.{answers-err}
use Rattle.jpeg_decoder.proofs.Scans.ScanReads.{HasRead, refused, scan-steps}

-- ---- what a stream brings, by the header of a scan

-- by the header
abbrev pub brought_with_header : Found → Outcome Scan → Brought
brought_with_header found (Ok x) = brought_after found x.0 x.1
brought_with_header found (Err fault) = unbrought found (Err fault)

-- by the frame, and by the header
abbrev brought_by_both : Found → Result (Frame × (Scan × List ℕ)) Fault → Brought
brought_by_both found (Ok x) = brought_by x.0.process found x.0 x.1.0 x.1.1
brought_by_both found (Err fault) = unbrought found (Err fault)

with-frame : (found : Found) (frame : Frame) (o : Outcome Scan) → found.said.frame ≡ Some frame
    → brought_by_both found (o >>= (λ (scan : Scan × List ℕ). Ok (frame, scan))) ≡ brought_with_header found o
with-frame found frame (Ok x) e = rw e refl
with-frame found frame (Err fault) e = refl

by-header : (found : Found) (bytes : List ℕ) (o : Option Frame) → found.said.frame ≡ o
    → brought_by_both found (needed o >>= (λ (frame : Frame). sos_at frame bytes
    >>= (λ (scan : Scan × List ℕ). Ok (frame, scan))))
    ≡ brought_with_header found (needed o >>= (λ (frame : Frame). sos_at frame bytes))
by-header found bytes None e = refl
by-header found bytes (Some frame) e = with-frame found frame (sos_at frame bytes) e

header-brought : (found : Found) (bytes : List ℕ)
    → scan_brought found bytes ≡ brought_with_header found (header_at found bytes)
unfolding scan_brought
header-brought found bytes = by-header found bytes found.said.frame refl

-- so it is within a limit
within-brought : (left : Option ℕ) (found : Found) (bytes : List ℕ)
    → scan_within left Nothing found bytes ≡ brought_with_header found (header_within left found bytes)
unfolding scan_turn_at
within-brought left found bytes = go (is_above left (work_of_header found bytes))
  where
    go : (above : Bool)
        → ◌≡◌ {A = Brought} (if above then unbrought found (Err Malformed) else scan_brought found bytes)
        (brought_with_header found (if above then Err Malformed else header_at found bytes))
    go true = refl
    go false = header-brought found bytes

-- ---- what a scan brings after its header

is-after : (found : Found) (frame : Frame) (scan : Scan) (bytes : List ℕ) → found.said.frame ≡ Some frame
    → brought_after found scan bytes ≡ brought_by frame.process found frame scan bytes
is-after found frame scan bytes e = rw e refl

by-blocks : (p : CodingProcess) (found : Found) (frame : Frame) (scan : Scan) (bytes : List ℕ)
    → IsDct p → brought_by p found frame scan bytes ≡ blocks_brought found frame scan bytes
by-blocks DctSequential found frame scan bytes h = refl
by-blocks DctProgressive found frame scan bytes h = refl
by-blocks Lossless found frame scan bytes h = absurd h

by-samples : (p : CodingProcess) (found : Found) (frame : Frame) (scan : Scan) (bytes : List ℕ) → p ≡ Lossless
    → brought_by p found frame scan bytes ≡ samples_brought found frame scan bytes
by-samples p found frame scan bytes e = ap (λ (q : CodingProcess). brought_by q found frame scan bytes) e

-- after the data of a scan
abbrev pub after_reached : Found → Found → Option Marker × List ℕ → Outcome Turn
after_reached found after m = Ok (turn_of_scan found after m.0, m.1)

without-codings : (found : Found) (frame : Frame) (scan : Scan) (bytes : List ℕ) (f : Fault)
    → codings_of found.said frame scan ≡ Err f
    → blocks_brought found frame scan bytes ≡ unbrought found (Err f)
unfolding blocks_brought
without-codings found frame scan bytes f e = rw (e, blocks_brought) refl

-- what a scan brings, by its data
abbrev pub brought_of : Found → DataBrought → Brought
brought_of found d = record { found = d.found; rows = d.rows; turn = d.met >>= after_reached found d.found }

-- what a scan of blocks brings, by what is reached of its blocks
abbrev brought_to : Found → Frame → Scan → List Coding → BlocksTo (Option Marker) → Brought
brought_to found frame scan codings r =
    let after = after_scan found frame scan codings r.reached in
    record {
      found = after;
      rows = option_map (rows_above frame (components_of codings)) r.unread;
      turn = r.rest >>= after_reached found after;
    }

with-pass : (found : Found) (frame : Frame) (scan : Scan) (codings : List Coding) (bytes : List ℕ)
    → codings_of found.said frame scan ≡ Ok codings
    → blocks_brought found frame scan bytes
    ≡ brought_of found (passed (data_reached found frame (pass_of scan) codings bytes))
unfolding blocks_brought blocks_brought_by data_reached after_scan
with-pass found frame scan codings bytes e =
    rw (e, blocks_brought) (ap (brought_to found frame scan codings)
    (scan-by-blocks (pass_of scan) (vias_from 0 codings) (found.said.restart * mcu_size (components_of codings))
    (spots_of frame (components_of codings)) (blocks_at codings (arrays_before found frame)) bytes))

with-codings : (found : Found) (frame : Frame) (scan : Scan) (p : Pass) (codings : List Coding) (bytes : List ℕ)
    → codings_of found.said frame scan ≡ Ok codings → p ≡ pass_of scan
    → blocks_brought found frame scan bytes ≡ brought_of found (passed (data_reached found frame p codings bytes))
with-codings found frame scan p codings bytes e is =
    with-pass found frame scan codings bytes e
    ∙ ap (λ (q : Pass). brought_of found (passed (data_reached found frame q codings bytes))) (sym is)

-- what a lossless scan brings, by its components
abbrev brought_with : Found → Frame → Scan → List ℕ → Result (List LosslessCoding) Fault → Brought
brought_with found frame scan bytes (Ok codings) = brought_of found (samples_reached found frame scan codings bytes)
brought_with found frame scan bytes (Err fault) = unbrought found (Err fault)

whole-as : (found : Found) (frame : Frame) (scan : Scan) (bytes : List ℕ) (codings : List LosslessCoding) (b : Bool)
    → if◌then◌else◌ {A = Brought} b (samples_brought_by found frame scan codings bytes)
    (unbrought found (Err Malformed))
    ≡ brought_with found frame scan bytes (if b then Ok codings else Err Malformed)
unfolding samples_brought_by samples_reached
whole-as found frame scan bytes codings true = refl
whole-as found frame scan bytes codings false = refl

codings-as : (found : Found) (frame : Frame) (scan : Scan) (bytes : List ℕ) (o : Result (List LosslessCoding) Fault)
    → ◌≡◌ {A = Brought} (elim o as (λ _. Brought) [
      | Ok codings ↦ if has_whole_rows found frame scan codings
          then samples_brought_by found frame scan codings bytes else unbrought found (Err Malformed)
      | Err fault ↦ unbrought found (Err fault)
    ]) (brought_with found frame scan bytes (o >>= whole_codings found.said frame))
codings-as found frame scan bytes (Ok codings) =
    whole-as found frame scan bytes codings (has_whole_rows found frame scan codings)
codings-as found frame scan bytes (Err fault) = refl

samples-as : (found : Found) (frame : Frame) (scan : Scan) (bytes : List ℕ)
    → samples_brought found frame scan bytes
    ≡ brought_with found frame scan bytes (sample_codings found.said frame scan)
unfolding samples_brought
samples-as found frame scan bytes =
    codings-as found frame scan bytes
    (lossless_codings found.said.huffman.dc frame scan.components scan.dc_destinations)

-- ---- refusals before the data

-- A refusal brings nothing.
pub record BringsNone (found : Found) (brought : List ℕ → Brought) (old : Stream) (e : Error) (new : Stream)
    : Type 0 where
  pub reads : Answers (λ (t : Turn). t) (λ bytes. (brought bytes).turn) old (Err e) new
  pub stays : old.known ≡ true → new.known ≡ true → IfRefused e (found ≡ (brought old.bytes).found)
  pub rows : old.known ≡ true → new.known ≡ true → IfRefused e (None ≡ (brought old.bytes).rows)

-- A fault before the data brings nothing.
none-brings : (found : Found) (brought : List ℕ → Brought) (old new : Stream) (e : Error)
    → Answers (λ (t : Turn). t) (λ bytes. (brought bytes).turn) old (Err e) new
    → (old.known ≡ true → new.known ≡ true
    → IfRefused e ((f : Fault) × (brought old.bytes ≡ unbrought found (Err f))))
    → BringsNone found brought old e new
none-brings found brought old new e reads none = record {
  reads = reads;
  stays = λ k l. if-refused-as e (λ n. sym (ap (λ (w : Brought). w.found) n.1)) (none k l);
  rows = λ k l. if-refused-as e (λ n. sym (ap (λ (w : Brought). w.rows) n.1)) (none k l);
}

pub no-header : (left : Option ℕ) (found : Found) (old new : Stream) (e : Error)
    → Answers (λ (s : Scan). s) (header_within left found) old (Err e) new → BringsNone found (scan_within left Nothing found) old e new
no-header left found old new e h =
    let at = λ (f : Fault) (is : header_within left found old.bytes ≡ Err f). within-brought left found old.bytes
    ∙ ap (brought_with_header found) is in
    none-brings found (scan_within left Nothing found) old new e
    (answers-err (λ (s : Scan). s) (λ (t : Turn). t) (header_within left found) (λ bytes. (scan_within left Nothing found bytes).turn)
    old new e (λ f is. ap (λ (w : Brought). w.turn) (at f is)) h)
    (λ k l. told-err e (header_within left found old.bytes) _ (h.1 k l) (λ f is. (f, at f is)))

-- A refusal of the tables of a scan.
pub no-tables : {X : Type 0} (found : Found) (brought : List ℕ → Brought) (s : Stream) (e : Error) (o : Result X Fault)
    → IsRefusal e → Names e o → ((f : Fault) → o ≡ Err f → brought s.bytes ≡ unbrought found (Err f))
    → BringsNone found brought s e s
no-tables found brought s e o r n fails =
    none-brings found brought s s e
    (refused (λ (t : Turn). t) (λ bytes. (brought bytes).turn) (λ bytes. (brought bytes).turn) s s e o
    (refl, λ k. (k, refl)) r n (λ f is. ap (λ (w : Brought). w.turn) (fails f is)))
    (λ k l. told-err e o _ n (λ f is. (f, fails f is)))

blocks-after : (found : Found) (frame : Frame) (scan : Scan) (bytes : List ℕ) → found.said.frame ≡ Some frame
    → IsDct frame.process → brought_after found scan bytes ≡ blocks_brought found frame scan bytes
blocks-after found frame scan bytes framed process =
    is-after found frame scan bytes framed ∙ by-blocks frame.process found frame scan bytes process

samples-after : (found : Found) (frame : Frame) (scan : Scan) (bytes : List ℕ)
    (o : Result (List LosslessCoding) Fault) → found.said.frame ≡ Some frame → frame.process ≡ Lossless
    → sample_codings found.said frame scan ≡ o → brought_after found scan bytes ≡ brought_with found frame scan bytes o
samples-after found frame scan bytes o framed process is =
    is-after found frame scan bytes framed ∙ by-samples frame.process found frame scan bytes process
    ∙ samples-as found frame scan bytes ∙ ap (brought_with found frame scan bytes) is

pub no-codings : (found : Found) (frame : Frame) (scan : Scan) (s : Stream) (e : Error)
    → found.said.frame ≡ Some frame → IsDct frame.process → IsRefusal e × Names e (codings_of found.said frame scan)
    → BringsNone found (brought_after found scan) s e s
no-codings found frame scan s e framed process n =
    no-tables found (brought_after found scan) s e (codings_of found.said frame scan) n.0 n.1
    (λ f is. blocks-after found frame scan s.bytes framed process ∙ without-codings found frame scan s.bytes f is)

pub no-samples : (found : Found) (frame : Frame) (scan : Scan) (s : Stream) (e : Error)
    → found.said.frame ≡ Some frame → frame.process ≡ Lossless
    → IsRefusal e × Names e (sample_codings found.said frame scan)
    → BringsNone found (brought_after found scan) s e s
no-samples found frame scan s e framed process n =
    no-tables found (brought_after found scan) s e (sample_codings found.said frame scan) n.0 n.1
    (λ f is. samples-after found frame scan s.bytes (Err f) framed process is)

-- ---- the data of a scan

abbrev pub Data : Type 0
Data = List ℕ → DataBrought

-- With its tables, what the scan brings are its data.
abbrev pub BringsData : Found → Scan → Data → Type 0
BringsData found scan d = (bytes : List ℕ) → brought_after found scan bytes ≡ brought_of found (d bytes)

pub brings-blocks : (found : Found) (frame : Frame) (scan : Scan) (p : Pass) (codings : List Coding)
    → found.said.frame ≡ Some frame → IsDct frame.process
    → codings_of found.said frame scan ≡ Ok codings → p ≡ pass_of scan
    → BringsData found scan (λ bytes. passed (data_reached found frame p codings bytes))
brings-blocks found frame scan p codings framed process e is bytes =
    blocks-after found frame scan bytes framed process ∙ with-codings found frame scan p codings bytes e is

pub brings-samples : (found : Found) (frame : Frame) (scan : Scan) (codings : List LosslessCoding)
    → found.said.frame ≡ Some frame → frame.process ≡ Lossless → sample_codings found.said frame scan ≡ Ok codings
    → BringsData found scan (samples_reached found frame scan codings)
brings-samples found frame scan codings framed process is bytes =
    samples-after found frame scan bytes (Ok codings) framed process is

-- a fact of three things, each of which is another
pub moved : {A B C : Type 0} {a x : A} {b y : B} {c z : C} → a ≡ x → b ≡ y → c ≡ z → (P : A → B → C → Type 0)
    → P a b c → P x y z
moved {A} {B} {C} {a} {x} {b} {y} {c} {z} e f g P p =
    subst (λ (t : C). P x y t) g (subst (λ (t : B). P x t c) f (subst (λ (t : A). P t b c) e p))

-- ---- the end of a scan

-- the turn that a scan leads to, whose data lead to this state
turn-made : (found next : Found) (whole : Brought) (d : DataBrought) (m : Option Marker)
    (left : List ℕ) → whole ≡ brought_of found d → next ≡ d.found → d.met ≡ Ok (m, left)
    → whole.turn ≡ Ok (turn_of_scan found next m, left)
turn-made found next whole d m left is same e =
    ap (λ (w : Brought). w.turn) is ∙ ap (λ (o : Outcome (Option Marker)). o >>= after_reached found d.found) e
    ∙ ap (λ (f : Found). Ok (turn_of_scan found f m, left)) (sym same)

fault-made : (found : Found) (whole : Brought) (d : DataBrought) (f : Fault)
    → whole ≡ brought_of found d → d.met ≡ Err f → whole.turn ≡ Err f
fault-made found whole d f is e =
    ap (λ (w : Brought). w.turn) is ∙ ap (λ (o : Outcome (Option Marker)). o >>= after_reached found d.found) e

refused-reads : {X : Type 0} (v : X → Turn) (found : Found) (scan : Scan) (d : Data) (old new : Stream) (e : Error)
    → BringsData found scan d
    → Answers (λ (m : Option Marker). m) (λ bytes. (d bytes).met) old (Err e) new
    → Answers v (λ bytes. (brought_after found scan bytes).turn) old (Err e) new
refused-reads v found scan d old new e b a =
    answers-err (λ (m : Option Marker). m) v (λ bytes. (d bytes).met) (λ bytes. (brought_after found scan bytes).turn)
    old new e (λ f h. fault-made found (brought_after found scan old.bytes) (d old.bytes) f (b old.bytes) h) a

pub ended-reads : (v : Step → Turn) (found prev : Found) (scan : Scan) (d : Data) (old new : Stream)
    (reached : Result (Option Marker) Error) (result : Result Step Error) → BringsData found scan d
    → scan_before prev ≡ scan_before found → OnTold old new reached (once_scanned prev ≡ (d old.bytes).found)
    → UnlessRefused reached (Answers (λ (m : Option Marker). m) (λ bytes. (d bytes).met) old reached new)
    → IsEndOf prev v reached result
    → UnlessRefused result (Answers v (λ bytes. (brought_after found scan bytes).turn) old result new)
ended-reads v found prev scan d old new (Ok m) (Ok step) b before after a is = (
  a.0,
  λ k.
      let read = a.1 k in (
        read.0,
        turn-made found (once_scanned prev) (brought_after found scan old.bytes) (d old.bytes) m new.bytes
            (b old.bytes) (after k) read.1
            ∙ ap (λ (t : Turn). Ok (t, new.bytes))
            (ap (λ (b : Before). record { found = once_scanned prev; before = b; met = m; ended = false }) (sym before)
            ∙ sym is),
      ),
)
ended-reads v found prev scan d old new (Ok m) (Err f) b before after a is = absurd is
ended-reads v found prev scan d old new (Err e) (Ok step) b before after a is = absurd is
ended-reads v found prev scan d old new (Err e) (Err f) b before after a is =
    subst (λ (x : Error). UnlessRefused {X = Step} (Err x)
    (Answers v (λ bytes. (brought_after found scan bytes).turn) old (Err x) new)) (sym is)
    (if-refused-as e (refused-reads v found scan d old new e b) a)

pub ended-found : (v : Step → Turn) (found prev : Found) (scan : Scan) (d : Data) (old new : Stream)
    (reached : Result (Option Marker) Error) (result : Result Step Error) → BringsData found scan d
    → OnTold old new reached (once_scanned prev ≡ (d old.bytes).found) → IsEndOf prev v reached result
    → OnToldRefusal old new result (once_scanned prev ≡ (brought_after found scan old.bytes).found)
ended-found v found prev scan d old new (Ok m) (Ok step) b after is = tt
ended-found v found prev scan d old new (Ok m) (Err f) b after is = absurd is
ended-found v found prev scan d old new (Err e) (Ok step) b after is = absurd is
ended-found v found prev scan d old new (Err e) (Err f) b after is = λ k l.
    subst (λ (x : Error). IfRefused x (once_scanned prev ≡ (brought_after found scan old.bytes).found)) (sym is)
    (if-refused-as e (λ same. same ∙ sym (ap (λ (w : Brought). w.found) (b old.bytes))) (after k l))

pub ended-unless : (P : Type 0) (v : Step → Turn) (prev : Found) (reached : Result (Option Marker) Error)
    (result : Result Step Error) → UnlessRefused reached P → IsEndOf prev v reached result → UnlessRefused result P
ended-unless P v prev (Ok m) (Ok step) p is = p
ended-unless P v prev (Ok m) (Err f) p is = absurd is
ended-unless P v prev (Err e) (Ok step) p is = absurd is
ended-unless P v prev (Err e) (Err f) p is = subst (λ (x : Error). IfRefused x P) (sym is) p

pub ended-steps : (v : Step → Turn) (old prev : Found) (frame : Frame) (reached : Result (Option Marker) Error)
    (result : Result Step Error) → old.said.frame ≡ Some frame → prev.said ≡ old.said
    → OnOk reached (IsSound (once_scanned prev)) → IsEndOf prev v reached result
    → IsStep old result (once_scanned prev)
ended-steps v old prev frame (Ok m) (Ok step) framed said sound is =
    scan-steps old (once_scanned prev) frame step framed (ap (λ (s : Said). s.frame) said) sound
ended-steps v old prev frame (Ok m) (Err f) framed said sound is = absurd is
ended-steps v old prev frame (Err e) (Ok step) framed said sound is = absurd is
ended-steps v old prev frame (Err e) (Err f) framed said sound is = record {
  kept = ap (λ (s : Said). told_of s) said;
  framed = tt;
  stays = λ _. ap (λ (s : Said). s.frame) said;
  sound = λ _. tt;
  unread = λ _ _. tt;
}

pub ended-rows : (v : Step → Turn) (found prev : Found) (scan : Scan) (d : Data) (old new : Stream)
    (made rows before : Option ℕ) (reached : Result (Option Marker) Error) (result : Result Step Error)
    → BringsData found scan d
    → OnTold old new reached (made ≡ (d old.bytes).rows) → rows ≡ rows_after reached before made
    → IsEndOf prev v reached result
    → OnToldRefusal old new result (rows ≡ (brought_after found scan old.bytes).rows)
ended-rows v found prev scan d old new made rows before (Ok m) (Ok step) b told same is = tt
ended-rows v found prev scan d old new made rows before (Ok m) (Err f) b told same is = absurd is
ended-rows v found prev scan d old new made rows before (Err e) (Ok step) b told same is = absurd is
ended-rows v found prev scan d old new made rows before (Err e) (Err f) b told same is = λ k l.
    subst (λ (x : Error). IfRefused x (rows ≡ (brought_after found scan old.bytes).rows)) (sym is)
    (if-refused-as e (λ counted. same ∙ counted ∙ sym (ap (λ (w : Brought). w.rows) (b old.bytes))) (told k l))

-- ---- what a caller sees

-- a refusal that brings nothing, of a state that is as before
pub none-reads : (v : Step → Turn) (now : Found) (brought : List ℕ → Brought) (old new : Stream)
    (r : Result Step Error) (e : Error) → IsErrAnd r (λ y. y ≡ e) → BringsNone now brought old e new
    → UnlessRefused r (Answers v (λ bytes. (brought bytes).turn) old r new)
none-reads v now brought old new r e fails b =
    let p = err_from_is_err_and r fails in rw (p.1, p.2) (if-refused e b.reads)

pub none-stays : (now next : Found) (brought : List ℕ → Brought) (old new : Stream) (r : Result Step Error) (e : Error)
    → IsErrAnd r (λ y. y ≡ e) → next ≡ now → BringsNone now brought old e new
    → OnToldRefusal old new r (next ≡ (brought old.bytes).found)
none-stays now next brought old new r e fails is b =
    let p = err_from_is_err_and r fails in rw (p.1, p.2, is) b.stays

pub none-counted : (now : Found) (brought : List ℕ → Brought) (rows : Option ℕ) (old new : Stream)
    (r : Result Step Error) (e : Error) → IsErrAnd r (λ y. y ≡ e) → rows ≡ None → BringsNone now brought old e new
    → OnToldRefusal old new r (rows ≡ (brought old.bytes).rows)
none-counted now brought rows old new r e fails none b =
    let p = err_from_is_err_and r fails in rw (p.1, p.2, none) b.rows

-- ---- a scan after its header

-- what the scan brings is what it brings after the header
pub header-then : (left : Option ℕ) (found : Found) (scan : Scan) (old cur : Stream) → HasRead (header_within left found) old scan cur
    → old.known ≡ true → (cur.known ≡ true) × (scan_within left Nothing found old.bytes ≡ brought_after found scan cur.bytes)
header-then left found scan old cur has k =
    let at = has.1 k in (at.0, within-brought left found old.bytes ∙ ap (brought_with_header found) at.1)
