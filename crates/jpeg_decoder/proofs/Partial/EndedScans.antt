-- A scan after its header, whose data were read up to their end or their first fault: what a call answers then, and what it
-- leaves, by what follows the markers that end its data.
use Rattle.std.proofs.Common.{◌≡◌, ◌∙◌, ap, Err, List, None, Ok, Option, refl, Result, Some, subst, sym, Bool, true, false, ℕ}
use Rattle.std.proofs.Common.{if◌then◌else◌}
use Rattle.std.proofs.lemmas.Result.{err_from_is_err_and}
use Rattle.std.specs.Prelude.{IfErr, IfOk, IsErrAnd, OnOk}
use Rattle.jpeg_bits.specs.Passes.{Pass}
use Rattle.jpeg_bits.specs.Reading.{Answers, Fault, Malformed, Names, Outcome, ◌>>=◌}
use Rattle.jpeg_bits.specs.Stream.{Stream}
use Rattle.jpeg_bits.specs.declared.beyond.Beyond.{Beyond}
use Rattle.jpeg_bits.specs.declared.beyond.Beyond.TheVariants.{Nothing, Zeros}
use Rattle.jpeg_bits.specs.declared.error.Error.{Error}
use Rattle.jpeg_bits.specs.declared.error.Error.TheVariants as errors
use Rattle.jpeg_bits.specs.declared.marker.Marker.{Marker}
use Rattle.jpeg_bits.proofs.Loops.{Continues-answers, bind_err}
use Rattle.jpeg_lossless.specs.Scans.{is_of_rows, scan_at}
use Rattle.jpeg_segments.specs.Checks.{needed}
use Rattle.jpeg_segments.specs.Frame.{Frame}
use Rattle.jpeg_segments.specs.ScanHeader.{Scan}
use Rattle.jpeg_segments.specs.declared.frame.CodingProcess.{CodingProcess}
use Rattle.jpeg_segments.specs.declared.frame.CodingProcess.TheVariants.{DctProgressive, DctSequential, Lossless}
use Rattle.jpeg_meaning.specs.Brought.{Brought, unbrought}
use Rattle.jpeg_meaning.specs.Found.{Found, Said, with_said}
use Rattle.jpeg_meaning.specs.LosslessScans.{LosslessCoding, lossless_codings, mcus_down, way_of}
use Rattle.jpeg_meaning.specs.ScanSegments.{codings_of, Coding, once_scanned, pass_of, scan_before, scan_by, scan_samples}
use Rattle.jpeg_meaning.specs.Segments.{Turn}
use Rattle.jpeg_meaning.specs.InTurn.{AreArrays}
use Rattle.jpeg_meaning.specs.Sound.{ArePlanes, IsSound}
use Rattle.jpeg_meaning.specs.States.{OnTold, OnToldRefusal}
use Rattle.jpeg_meaning.specs.Stream.{scan_within, told_of}
use Rattle.jpeg_meaning.specs.declared.before.Before.{Before}
use Rattle.jpeg_decoder.specs.Reaching.{IsEndOf, UnlessRefused, rows_after, sample_codings, turn_after, whole_codings}
use Rattle.jpeg_decoder.specs.Reaching.{without_tables}
use Rattle.jpeg_decoder.specs.Steps.{IsDct, IsRefusal, IsStep, after_all, blocks_read, read_after, read_by, samples_read}
use Rattle.jpeg_decoder.specs.Steps.{blocks_before, header_within, scan_data, with_decoded}
use Rattle.jpeg_decoder.specs.Walks.{AfterWalk, Leaves, OfWalk}
use Rattle.jpeg_decoder.specs.PlanesView.{planes_in}
use Rattle.jpeg_decoder.specs.declared.scan.decoded.Decoded.{Decoded}
use Rattle.jpeg_decoder.specs.declared.stream.state.Step.{Step}
use Rattle.std.specs.declared.alloc.Global.{Global}
use Rattle.std.specs.declared.vec.Vec.{Vec}
use Rattle.jpeg_decoder.proofs.LosslessFrames.LosslessReads.{after_planes, samples-lacking, samples-then}
use Rattle.jpeg_decoder.proofs.Partial.ReachedScans.{BringsData, BringsNone, Data, ended-found, ended-reads, ended-rows}
use Rattle.jpeg_decoder.proofs.Partial.ReachedScans.{ended-steps, ended-unless, no-codings, no-samples, no-tables}
use Rattle.jpeg_decoder.proofs.Partial.ReachedScans.{header-then, none-counted, none-reads, none-stays}
use Rattle.jpeg_decoder.proofs.Partial.Refused.{if-refused-as, refusal-any}
use Rattle.jpeg_decoder.proofs.Partial.PassedData.{passed-unless}
use Rattle.jpeg_decoder.proofs.Scans.ScanData.{answers-err, before-as}
use Rattle.jpeg_decoder.proofs.Scans.ScanReads.{HasRead, answers-as, blocks-sound, data-refused, process-parts, scan-ends}
use Rattle.jpeg_decoder.proofs.Scans.ScanReads.{scan_turn, within-parts}
use Rattle.jpeg_decoder.proofs.Segments.WalkedScans.{after-walk, both-told, of-walk-so, scan-zeros}

-- ---- what is read, where zeros follow its data

whole-by : (o : Option Frame) (found : Found) (scan : Scan) (bytes : List ℕ)
    → (needed o >>= (λ (frame : Frame). scan_by frame.process found frame scan bytes))
    ≡ ((needed o >>= (λ (frame : Frame). read_by frame.process found frame scan bytes)) >>= scan_turn found)
whole-by None found scan bytes = refl
whole-by (Some frame) found scan bytes = process-parts frame.process found frame scan bytes

pub whole-after : (found : Found) (scan : Scan) (bytes : List ℕ)
    → (turn_after Zeros found scan bytes).turn ≡ (read_after found scan bytes >>= scan_turn found)
whole-after found scan bytes = whole-by found.said.frame found scan bytes

lacks-after : (found : Found) (scan : Scan) (bytes : List ℕ) (f : Fault) → read_after found scan bytes ≡ Err f
    → turn_after Zeros found scan bytes ≡ unbrought found (Err f)
lacks-after found scan bytes f e =
    ap (unbrought found) (whole-after found scan bytes ∙ ap (λ (o : Outcome (Found × Option Marker)). o >>= scan_turn found) e)

is-read : (found : Found) (frame : Frame) (scan : Scan) (bytes : List ℕ) → found.said.frame ≡ Some frame
    → read_after found scan bytes ≡ read_by frame.process found frame scan bytes
is-read found frame scan bytes e = rw e refl

by-blocks : (p : CodingProcess) (found : Found) (frame : Frame) (scan : Scan) (bytes : List ℕ) → IsDct p
    → read_by p found frame scan bytes ≡ blocks_read found frame scan bytes
by-blocks DctSequential found frame scan bytes h = refl
by-blocks DctProgressive found frame scan bytes h = refl
by-blocks Lossless found frame scan bytes h = absurd h

pub reads-blocks : (found : Found) (frame : Frame) (scan : Scan) (bytes : List ℕ) → found.said.frame ≡ Some frame
    → IsDct frame.process → read_after found scan bytes ≡ blocks_read found frame scan bytes
reads-blocks found frame scan bytes framed process =
    is-read found frame scan bytes framed ∙ by-blocks frame.process found frame scan bytes process

pub reads-samples : (found : Found) (frame : Frame) (scan : Scan) (bytes : List ℕ) → found.said.frame ≡ Some frame
    → frame.process ≡ Lossless → read_after found scan bytes ≡ samples_read found frame scan bytes
reads-samples found frame scan bytes framed process =
    is-read found frame scan bytes framed ∙ ap (λ (p : CodingProcess). read_by p found frame scan bytes) process

-- ---- refusals before the data

blocks-lack : (found : Found) (frame : Frame) (scan : Scan) (bytes : List ℕ) (f : Fault)
    → codings_of found.said frame scan ≡ Err f → blocks_read found frame scan bytes ≡ Err f
unfolding blocks_read
blocks-lack found frame scan bytes f e = bind_err _ _ f e

-- an interval that would end inside a row
samples-broken : (found : Found) (frame : Frame) (scan : Scan) (codings : List LosslessCoding) (bytes : List ℕ) (f : Fault)
    → whole_codings found.said frame codings ≡ Err f → scan_samples found frame scan codings bytes ≡ Err f
unfolding scan_at
samples-broken found frame scan codings bytes f e =
    go (is_of_rows (way_of frame scan.predictor scan.point_transform codings).wide (mcus_down frame codings)
    found.said.restart) _ e
  where
    go : (b : Bool) (o : Outcome (List (List ℕ) × Option Marker))
        → (if b then Ok codings else Err Malformed) ≡ Err f → (if b then o else Err Malformed) ≡ Err f
    go true o h = absurd (ok-err codings f h)
      where
        ok-err : (codings : List LosslessCoding) (f : Fault) → ◌≡◌ {A = Result (List LosslessCoding) Fault} (Ok codings) (Err f) → ⊥
        ok-err codings f h = cc
    go false o h = ap fault-of h
      where
        fault-of : Result (List LosslessCoding) Fault → Outcome (List (List ℕ) × Option Marker)
        fault-of (Ok c) = Err Malformed
        fault-of (Err f) = Err f

samples-lack : (found : Found) (frame : Frame) (scan : Scan) (bytes : List ℕ) (f : Fault)
    (o : Result (List LosslessCoding) Fault)
    → lossless_codings found.said.huffman.dc frame scan.components scan.dc_destinations ≡ o
    → (o >>= whole_codings found.said frame) ≡ Err f → samples_read found frame scan bytes ≡ Err f
samples-lack found frame scan bytes f (Ok codings) is e =
    samples-then found frame scan codings bytes is
    ∙ bind_err (after_planes found codings) (scan_samples found frame scan codings bytes) f
    (samples-broken found frame scan codings bytes f e)
samples-lack found frame scan bytes f (Err g) is e = samples-lacking found frame scan bytes f (is ∙ e)

pub no-blocks-after : (b : Beyond) (found : Found) (frame : Frame) (scan : Scan) (s : Stream) (e : Error)
    → found.said.frame ≡ Some frame → IsDct frame.process → IsRefusal e × Names e (codings_of found.said frame scan)
    → BringsNone found (turn_after b found scan) s e s
no-blocks-after Zeros found frame scan s e framed process n =
    no-tables found (turn_after Zeros found scan) s e (codings_of found.said frame scan) n.0 n.1
    (λ f is. lacks-after found scan s.bytes f
    (reads-blocks found frame scan s.bytes framed process ∙ blocks-lack found frame scan s.bytes f is))
no-blocks-after Nothing found frame scan s e framed process n = no-codings found frame scan s e framed process n

pub no-samples-after : (b : Beyond) (found : Found) (frame : Frame) (scan : Scan) (s : Stream) (e : Error)
    → found.said.frame ≡ Some frame → frame.process ≡ Lossless
    → IsRefusal e × Names e (sample_codings found.said frame scan) → BringsNone found (turn_after b found scan) s e s
no-samples-after Zeros found frame scan s e framed process n =
    no-tables found (turn_after Zeros found scan) s e (sample_codings found.said frame scan) n.0 n.1
    (λ f is. lacks-after found scan s.bytes f (reads-samples found frame scan s.bytes framed process
    ∙ samples-lack found frame scan s.bytes f _ refl is))
no-samples-after Nothing found frame scan s e framed process n = no-samples found frame scan s e framed process n

-- what a caller sees of one
pub unread-answers : (b : Beyond) (v : Step → Turn) (now : Found) (scan : Scan) (old new : Stream) (r : Result Step Error)
    (e : Error) → IsErrAnd r (λ y. y ≡ e) → BringsNone now (turn_after b now scan) old e new
    → OfWalk b r (Answers v (λ bytes. (turn_after b now scan bytes).turn) old r new)
unread-answers Zeros v now scan old new r e fails n = let p = err_from_is_err_and r fails in rw (p.1, p.2) n.reads
unread-answers Nothing v now scan old new r e fails n = none-reads v now (turn_after Nothing now scan) old new r e fails n

left-as : (b : Beyond) (new found : Found) (rows complete : Option ℕ) → told_of new.said ≡ told_of found.said
    → without_tables new ≡ without_tables found → rows ≡ complete → Leaves b new rows found complete
left-as Zeros new found rows complete told same is = (told, is)
left-as Nothing new found rows complete told same is = (same, is)

pub unread-leaves : (b : Beyond) (now next : Found) (scan : Scan) (rows : Option ℕ) (old new : Stream) (r : Result Step Error)
    (e : Error) → IsErrAnd r (λ y. y ≡ e) → next ≡ now → rows ≡ None → BringsNone now (turn_after b now scan) old e new
    → OnToldRefusal old new r (let w = turn_after b now scan old.bytes in Leaves b next rows w.found w.rows)
unread-leaves b now next scan rows old new r e fails same none n =
    let w = turn_after b now scan old.bytes in
    both-told old new r (λ f c. left-as b next w.found rows w.rows (ap (λ (x : Found). told_of x.said) f)
    (ap without_tables f) c)
    (none-stays now next (turn_after b now scan) old new r e fails same n)
    (none-counted now (turn_after b now scan) rows old new r e fails none n)

-- ---- the end of a scan

-- Data that were read up to their first fault, from `old` to `new`, and what the scan brings with them.
pub record Brings (found prev : Found) (scan : Scan) (made : Option ℕ) (old new : Stream)
    (read : Result (Option Marker) Error) : Type 0 where
  pub gives : Data
  pub whole : BringsData found scan gives
  pub leads : OnTold old new read (once_scanned prev ≡ (gives old.bytes).found)
  pub met : UnlessRefused read (Answers (λ (m : Option Marker). m) (λ bytes. (gives bytes).met) old read new)
  pub rows : OnTold old new read (made ≡ (gives old.bytes).rows)

-- What is known once the data of a scan were read: `prev` is found then, but for that a scan was read; and this many rows
-- of the picture are complete, as far as it is said.
pub record HasEnded (b : Beyond) (found prev : Found) (scan : Scan) (made : Option ℕ) (old new : Stream)
    (read : Result (Option Marker) Error) : Type 0 where
  pub zeros : b ≡ Zeros → Answers (λ (m : Option Marker). (once_scanned prev, m)) (read_after found scan) old read new
  pub brings : b ≡ Nothing → Brings found prev scan made old new read
  pub none : b ≡ Zeros → made ≡ None
  pub said : prev.said ≡ found.said
  pub sound : AfterWalk b read (IsSound (once_scanned prev))

turn-read : (found prev : Found) (m : Option Marker) (left : List ℕ) (t : Turn) → scan_before prev ≡ scan_before found
    → t ≡ record { found = once_scanned prev; before = scan_before prev; met = m; ended = false }
    → ◌≡◌ {A = Outcome Turn} (scan_turn found ((once_scanned prev, m), left)) (Ok (t, left))
turn-read found prev m left t before is =
    ap (λ (t : Turn). Ok (t, left)) (ap (λ (b : Before). record { found = once_scanned prev; before = b; met = m; ended = false })
    (sym before) ∙ sym is)

zeros-answers : (v : Step → Turn) (found prev : Found) (scan : Scan) (old new : Stream) (read : Result (Option Marker) Error)
    (result : Result Step Error) → scan_before prev ≡ scan_before found
    → Answers (λ (m : Option Marker). (once_scanned prev, m)) (read_after found scan) old read new
    → IsEndOf prev v read result → Answers v (λ bytes. (turn_after Zeros found scan bytes).turn) old result new
zeros-answers v found prev scan old new (Ok m) (Ok step) before a is = (
  a.0,
  λ k. (
    (a.1 k).0,
    whole-after found scan old.bytes
        ∙ ap (λ (o : Outcome (Found × Option Marker)). o >>= scan_turn found) (a.1 k).1
        ∙ turn-read found prev m new.bytes (v step) before is,
  ),
)
zeros-answers v found prev scan old new (Ok m) (Err f) before a is = absurd is
zeros-answers v found prev scan old new (Err e) (Ok step) before a is = absurd is
zeros-answers v found prev scan old new (Err e) (Err f) before a is =
    subst (λ (x : Error). Answers v (λ bytes. (turn_after Zeros found scan bytes).turn) old (Err x) new) (sym is)
    (answers-err (λ (m : Option Marker). (once_scanned prev, m)) v (read_after found scan)
    (λ bytes. (turn_after Zeros found scan bytes).turn) old new e (λ f h. whole-after found scan old.bytes
    ∙ ap (λ (o : Outcome (Found × Option Marker)). o >>= scan_turn found) h) a)

before-same : (found prev : Found) → prev.said ≡ found.said → scan_before prev ≡ scan_before found
before-same found prev e = ap (λ (s : Said). scan_before (with_said (λ _. s) found)) e

pub end-answers : (b : Beyond) (v : Step → Turn) (found prev : Found) (scan : Scan) (made : Option ℕ) (old new : Stream)
    (read : Result (Option Marker) Error) (result : Result Step Error) → HasEnded b found prev scan made old new read
    → IsEndOf prev v read result → OfWalk b result (Answers v (λ bytes. (turn_after b found scan bytes).turn) old result new)
end-answers Zeros v found prev scan made old new read result h is =
    zeros-answers v found prev scan old new read result (before-same found prev h.said) (h.zeros refl) is
end-answers Nothing v found prev scan made old new read result h is =
    let d = h.brings refl in
    ended-reads v found prev scan d.gives old new read result d.whole (before-same found prev h.said) d.leads d.met is

rows-none : (rows before made : Option ℕ) (read : Result (Option Marker) Error) → before ≡ None → made ≡ None
    → rows ≡ rows_after read before made → rows ≡ None
rows-none rows before made (Ok m) h k is = is ∙ h
rows-none rows before made (Err e) h k is = is ∙ k

pub end-leaves : (b : Beyond) (v : Step → Turn) (found prev next : Found) (scan : Scan) (made rows before : Option ℕ)
    (old new : Stream) (read : Result (Option Marker) Error) (result : Result Step Error)
    → HasEnded b found prev scan made old new read → next ≡ once_scanned prev → before ≡ None
    → rows ≡ rows_after read before made → IsEndOf prev v read result
    → OnToldRefusal old new result (let w = turn_after b found scan old.bytes in Leaves b next rows w.found w.rows)
end-leaves Zeros v found prev next scan made rows before old new read result h same none counted is =
    refusal-any old new result (Leaves Zeros next rows found None) (
      ap (λ (f : Found). told_of f.said) same ∙ ap (λ (s : Said). told_of s) h.said,
      rows-none rows before made read none (h.none refl) counted,
    )
end-leaves Nothing v found prev next scan made rows before old new read result h same none counted is =
    let d = h.brings refl in
    both-told old new result (λ f n. (ap without_tables same ∙ ap without_tables f, n))
    (ended-found v found prev scan d.gives old new read result d.whole d.leads is)
    (ended-rows v found prev scan d.gives old new made rows before read result d.whole d.rows counted is)

ended-after : (P : Type 0) (b : Beyond) (v : Step → Turn) (prev : Found) (read : Result (Option Marker) Error)
    (result : Result Step Error) → AfterWalk b read P → IsEndOf prev v read result → AfterWalk b result P
ended-after P Zeros v prev (Ok m) (Ok step) p is = p
ended-after P Zeros v prev (Ok m) (Err f) p is = tt
ended-after P Zeros v prev (Err e) (Ok step) p is = absurd is
ended-after P Zeros v prev (Err e) (Err f) p is = tt
ended-after P Nothing v prev read result p is = ended-unless P v prev read result p is

pub end-sound : (b : Beyond) (v : Step → Turn) (found prev next : Found) (scan : Scan) (made : Option ℕ) (old new : Stream)
    (read : Result (Option Marker) Error) (result : Result Step Error) → HasEnded b found prev scan made old new read
    → next ≡ once_scanned prev → IsEndOf prev v read result → AfterWalk b result (IsSound next)
end-sound b v found prev next scan made old new read result h same is =
    subst (λ (f : Found). AfterWalk b result (IsSound f)) (sym same)
    (ended-after (IsSound (once_scanned prev)) b v prev read result h.sound is)

after-ok : {X : Type 0} (P : Type 0) (b : Beyond) (r : Result X Error) → AfterWalk b r P → OnOk r P
after-ok P Zeros r p = p
after-ok P Nothing (Ok x) p = p
after-ok P Nothing (Err e) p = tt

pub end-steps : (b : Beyond) (v : Step → Turn) (found prev next : Found) (frame : Frame) (scan : Scan) (made : Option ℕ)
    (old new : Stream) (read : Result (Option Marker) Error) (result : Result Step Error)
    → HasEnded b found prev scan made old new read → found.said.frame ≡ Some frame → next ≡ once_scanned prev
    → IsEndOf prev v read result → IsStep found result next
end-steps b v found prev next frame scan made old new read result h framed same is =
    subst (λ (f : Found). IsStep found result f) (sym same)
    (ended-steps v found prev frame read result framed h.said
    (after-ok (IsSound (once_scanned prev)) b read h.sound) is)

-- ---- blocks with zeros after them, after which restart markers are passed over

pub blocks-whole : (next found : Found) (frame : Frame) (scan : Scan) (p : Pass) (codings : List Coding)
    (old mid new : Stream) (read reached : Result (Option Marker) Error)
    → found.said.frame ≡ Some frame → IsDct frame.process
    → codings_of found.said frame scan ≡ Ok codings → p ≡ pass_of scan
    → Answers (λ (m : Option Marker). (next, m)) (scan_data found frame p codings) old read mid
    → IfOk read (λ met. Answers (λ (m : Option Marker). m) (after_all met) mid reached new)
    → IfErr read (λ e. (reached ≡ Err e) × (new ≡ mid))
    → Answers (λ (m : Option Marker). (next, m)) (read_after found scan) old reached new
blocks-whole next found frame scan p codings old mid new (Ok met) reached framed process are is a after refused =
    answers-as (λ (m : Option Marker). (next, m)) (blocks_read found frame scan) (read_after found scan) old new reached
    (reads-blocks found frame scan old.bytes framed process)
    (scan-ends next found met frame scan p codings old mid new reached are is a after)
blocks-whole next found frame scan p codings old mid new (Err e) reached framed process are is a after refused =
    rw (refused.0, refused.1)
    (answers-as (λ (m : Option Marker). (next, m)) (blocks_read found frame scan) (read_after found scan) old mid (Err e)
    (reads-blocks found frame scan old.bytes framed process)
    (data-refused next found frame scan p codings old mid e are is a))

-- ---- what holds after them

unless-all : {X A B C D : Type 0} (r : Result X Error) → (A → B → C → D) → UnlessRefused r A → UnlessRefused r B
    → UnlessRefused r C → UnlessRefused r D
unless-all (Ok x) h a b c = h a b c
unless-all (Err (errors.Format text)) h a b c = h a b c
unless-all (Err (errors.Unsupported feature)) h a b c = h a b c
unless-all (Err (errors.Io e)) h a b c = h a b c
unless-all (Err (errors.Internal text)) h a b c = h a b c
unless-all (Err errors.OutOfMemory) h a b c = tt

after-all : {X A B C D : Type 0} (w : Beyond) (r : Result X Error) → (A → B → C → D) → AfterWalk w r A → AfterWalk w r B
    → AfterWalk w r C → AfterWalk w r D
after-all Zeros (Ok x) h a b c = h a b c
after-all Zeros (Err e) h a b c = tt
after-all Nothing r h a b c = unless-all r h a b c

-- A scan of blocks leaves a sound state, also where it has a fault.
pub decoded-sound : {X : Type 0} (w : Beyond) (now : Found) (old new : Decoded) (frame : Frame) (r : Result X Error)
    → IsSound (with_decoded now old) → now.said.frame ≡ Some frame
    → AfterWalk w r (AreArrays frame.components (blocks_before true new frame))
    → (ArePlanes frame.components old.planes → AfterWalk w r (ArePlanes frame.components new.planes))
    → AfterWalk w r (new.samples ≡ old.samples) → AfterWalk w r (IsSound (once_scanned (with_decoded now new)))
decoded-sound w now old new frame r sound e kept planes samples =
    after-all w r (λ k p s. blocks-sound (with_decoded now old) (once_scanned (with_decoded now new)) frame sound e refl
    (subst (AreArrays frame.components) (sym (before-as (once_scanned now) new frame true refl)) k) (λ _. p)
    (ap (λ (s : List (Option (Vec ℕ Global))). planes_in s) s)) kept (planes (sound.planes frame e)) samples

-- It holds where restart markers were passed over after it, too.
pub passed-after : (P : Type 0) (w : Beyond) (mid new : Stream) (read reached : Result (Option Marker) Error)
    → IfErr read (λ e. (reached ≡ Err e) × (new ≡ mid)) → AfterWalk w read P → AfterWalk w reached P
passed-after P Zeros mid new (Ok m) reached h p = after-walk Zeros reached p
passed-after P Zeros mid new (Err e) reached h p = rw h.0 tt
passed-after P Nothing mid new read reached h p = passed-unless P mid new read reached h p

-- ---- a scan, by its header

pub within-zeros : (left : Option ℕ) (found : Found) (scan : Scan) (old cur : List ℕ)
    → header_within left found old ≡ Ok (scan, cur)
    → scan_within left Zeros found old ≡ turn_after Zeros found scan cur
within-zeros left found scan old cur e =
    scan-zeros left found old
    ∙ ap (unbrought found) (within-parts left found old
    ∙ ap (λ (o : Outcome Scan). o >>= (λ (s : Scan × List ℕ). read_after found s.0 s.1 >>= scan_turn found)) e
    ∙ sym (whole-after found scan cur))

-- what the scan is, is what it is after the header
header-turn : (b : Beyond) (left : Option ℕ) (found : Found) (scan : Scan) (old cur : Stream)
    → HasRead (header_within left found) old scan cur → old.known ≡ true
    → (cur.known ≡ true) × (scan_within left b found old.bytes ≡ turn_after b found scan cur.bytes)
header-turn Zeros left found scan old cur has k =
    let at = has.1 k in (at.0, within-zeros left found scan old.bytes cur.bytes at.1)
header-turn Nothing left found scan old cur has k = header-then left found scan old cur has k

pub headed-answers : (b : Beyond) (v : Step → Turn) (left : Option ℕ) (found : Found) (scan : Scan) (old cur new : Stream)
    (r : Result Step Error) → HasRead (header_within left found) old scan cur
    → OfWalk b r (Answers v (λ bytes. (turn_after b found scan bytes).turn) cur r new)
    → OfWalk b r (Answers v (λ bytes. (scan_within left b found bytes).turn) old r new)
headed-answers b v left found scan old cur new r has a =
    of-walk-so b r (Continues-answers v (λ bytes. (scan_within left b found bytes).turn)
    (λ bytes. (turn_after b found scan bytes).turn) old cur new r (
      has.0,
      λ k. let at = header-turn b left found scan old cur has k in (at.0, ap (λ (w : Brought). w.turn) at.1),
    )) a

pub headed-leaves : {X : Type 0} (b : Beyond) (left : Option ℕ) (found next : Found) (rows : Option ℕ) (scan : Scan)
    (old cur new : Stream) (r : Result X Error) → HasRead (header_within left found) old scan cur
    → OnToldRefusal cur new r (let w = turn_after b found scan cur.bytes in Leaves b next rows w.found w.rows)
    → OnToldRefusal old new r (let w = scan_within left b found old.bytes in Leaves b next rows w.found w.rows)
headed-leaves b left found next rows scan old cur new (Ok x) has h = tt
headed-leaves b left found next rows scan old cur new (Err e) has h = λ k l.
    let at = header-turn b left found scan old cur has k in
    if-refused-as e (λ p. subst (λ (w : Brought). Leaves b next rows w.found w.rows) (sym at.1) p) (h at.0 l)
