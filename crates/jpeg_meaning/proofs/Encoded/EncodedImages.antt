-- Every image has a stream, by a script: for each component a scan, or in a progressive frame a scan of DC and one of AC.
use Rattle.std.proofs.Common.{rules, [], append_assoc, arith, Bool, false, inl, inr, length, length-append, List, None}
use Rattle.std.proofs.Common.{refl, Some, subst, suc, sym, true, zero, ℕ, ◌++◌, ◌<◌, ◌∙◌, ◌∷◌, ◌≡◌, ◌≢◌, ◌≤◌, ◌⊎◌}
use Rattle.std.proofs.Math.Logic.{⊎_elim}
use Rattle.std.proofs.lemmas.Bool.{cases_lt, eq-eqb, ne_eqb}
use lib.ListN.{length-map}
use Rattle.jpeg_segments.specs.Frame.{Factors, Frame, frame_of}
use Rattle.jpeg_segments.specs.ScanHeader.{is_band}
use Rattle.jpeg_segments.specs.ScanHeaders.{IsScan, ScanHeader}
use Rattle.jpeg_segments.specs.WrittenSegments.{AreComponents, frame_written, FrameHeader, IsFrameHeader}
use Rattle.jpeg_segments.specs.declared.frame.CodingProcess.{CodingProcess}
use Rattle.jpeg_segments.specs.declared.frame.CodingProcess.TheVariants.{DctProgressive, DctSequential, Lossless}
use Rattle.jpeg_meaning.specs.AcceptedFrames.{HasPicture}
use Rattle.jpeg_meaning.specs.Levels.{Is8Bit}
use Rattle.jpeg_meaning.specs.Scripts.{AreLegal, IsAllSent, IsLegalHere, last_in, none_sent, ScriptedScan}
use Rattle.jpeg_meaning.specs.Scripts.{sent_after_scan, sent_by, SentLevels}
use Rattle.jpeg_meaning.specs.WorkedImages.{IsWhollyWritten}
use Rattle.jpeg_meaning.specs.WrittenScans.{Coefficients}
use Rattle.jpeg_meaning.proofs.Encoded.EncodedParts.{lone-written, lone_header}
use Rattle.jpeg_meaning.proofs.Encoded.EncodedScripts.{all-complete, script-written}
use Rattle.jpeg_meaning.proofs.Written.ScriptLevels.{after_one, is-in, some-one}

abbrev lone : ℕ → ℕ → ℕ → Factors → ScriptedScan
lone from to index c = record { header = lone_header from to index c; restart = 0 }

-- the scans of a component, in a progressive frame or in a sequential one, before others
abbrev scans_of : Bool → ℕ → Factors → List ScriptedScan → List ScriptedScan
scans_of true index c more = lone 0 0 index c ∷ lone 1 63 index c ∷ more
scans_of false index c more = lone 0 63 index c ∷ more

-- those of some components, the first of which has this index
abbrev scans_for : Bool → ℕ → List Factors → List ScriptedScan
scans_for progressive index [] = []
scans_for progressive index (c ∷ cs) = scans_of progressive index c (scans_for progressive (suc index) cs)

some-scans : (progressive : Bool) (cs : List Factors) → 0 < length cs → scans_for progressive 0 cs ≢ []
some-scans progressive [] h e = absurd (omega arith)
some-scans true (c ∷ cs) h e = let n : ⊥ = cc in n
some-scans false (c ∷ cs) h e = let n : ⊥ = cc in n

-- the numbers of such frames
abbrev Fits : Bool → ℕ → Type 0
Fits true number = number ≡ 2
Fits false number = number ≤ 1

progressive-is : (number : ℕ) (h : FrameHeader) → number ≡ 2 → DctProgressive ≡ (frame_written number h).process
unfolding frame_of
progressive-is number h e = rw e refl

sequential-is : (number : ℕ) (h : FrameHeader) → number ≤ 1 → DctSequential ≡ (frame_written number h).process
unfolding frame_of
sequential-is zero h le = refl
sequential-is (suc zero) h le = refl
sequential-is (suc (suc number)) h le = absurd (omega arith)

-- ---- what is sent

abbrev after : CodingProcess → ℕ → ℕ → ℕ → Factors → SentLevels → SentLevels
after process from to index c = sent_after_scan process (lone_header from to index c)

after-other : (process : CodingProcess) (from to index : ℕ) (c : Factors) (sent : SentLevels) (j k : ℕ) → j ≢ index
    → after process from to index c sent j k ≡ sent j k
after-other process from to index c sent j k ne = search (rules, some-one, lone_header, ne_eqb)

after-it : (process : CodingProcess) (from to index : ℕ) (c : Factors) (sent : SentLevels) (k : ℕ)
    → after process from to index c sent index k ≡ after_one process (lone_header from to index c) (sent index) k
after-it process from to index c sent k = search (rules, some-one, lone_header, eq-eqb)

last-reach : (process : CodingProcess) (h : ScanHeader) (k : ℕ) → k ≤ h.last → h.last ≤ 63 → k ≤ last_in process h
last-reach DctSequential h k le most = omega arith
last-reach DctProgressive h k le most = le
last-reach Lossless h k le most = le

after-in : (process : CodingProcess) (from to index : ℕ) (c : Factors) (sent : SentLevels) (k : ℕ) → from ≤ k → k ≤ to
    → to ≤ 63 → after process from to index c sent index k ≡ Some 0
after-in process from to index c sent k low high most = search (rules, lone_header, after-it, is-in, last-reach)

-- All of the components in front was sent, and nothing of the others.
record HasSent (sent : SentLevels) (front : ℕ) : Type 0 where
  all : (j k : ℕ) → j < front → k < 64 → sent j k ≡ Some 0
  none : (j k : ℕ) → front ≤ j → sent j k ≡ None

sent-more : (sent next : SentLevels) (front : ℕ) → ((k : ℕ) → k < 64 → next front k ≡ Some 0)
    → ((j k : ℕ) → j ≢ front → next j k ≡ sent j k) → HasSent sent front → HasSent next (suc front)
sent-more sent next front all same s = search (rules, ⊎_elim, cases_lt)

-- ---- the script

lone-legal : (frame : Frame) (from to index : ℕ) (c : Factors) (sent : SentLevels)
    → IsScan frame (lone_header from to index c) → ((k : ℕ) → from ≤ k → sent index k ≡ None)
    → (from ≢ 0 → sent index 0 ≢ None) → IsLegalHere frame sent (lone from to index c)
lone-legal frame from to index c sent is none dc = search rules

-- Scans are legal, and then all of these components was sent.
record Goes (frame : Frame) (sent : SentLevels) (script : List ScriptedScan) (count : ℕ) : Type 0 where
  legal : AreLegal frame sent script
  sends : HasSent (sent_by frame sent script) count

abbrev AreScans : ℕ → FrameHeader → ℕ → Factors → Type 0
AreScans number h index c =
    (from to : ℕ) → is_band (frame_written number h).process 1 from to 0 0 ≡ true
    → IsScan (frame_written number h) (lone_header from to index c)

-- a scan of DC sends no AC
dc-only : (process : CodingProcess) (index : ℕ) (c : Factors) (sent : SentLevels) (k : ℕ) → DctProgressive ≡ process
    → 0 < k → after process 0 0 index c sent index k ≡ sent index k
dc-only process index c sent k e some = search (rules, after-it, lone_header)

-- a scan of AC after it
ac-after : (process : CodingProcess) (index : ℕ) (c : Factors) (sent : SentLevels) (k : ℕ) → sent index 0 ≡ Some 0
    → k < 64 → after process 1 63 index c sent index k ≡ Some 0
ac-after process index c sent zero dc low = search (rules, after-it, lone_header)
ac-after process index c sent (suc k) dc low = search (rules, after-in)

scan-goes : (progressive : Bool) (number : ℕ) (h : FrameHeader) (index count : ℕ) (c : Factors) (sent : SentLevels)
    (more : List ScriptedScan) → Fits progressive number → AreScans number h index c → HasSent sent index
    → ((next : SentLevels) → HasSent next (suc index) → Goes (frame_written number h) next more count)
    → Goes (frame_written number h) sent (scans_of progressive index c more) count
unfolding AreLegal sent_by
scan-goes false number h index count c sent more fits are s rest =
    let frame = frame_written number h in
    let next = after frame.process 0 63 index c sent in
    let is = are 0 63 (subst (λ (p : CodingProcess). is_band p 1 0 63 0 0 ≡ true) (sequential-is number h fits) refl) in
    let r = rest next (sent-more sent next index
    (λ k low. after-in frame.process 0 63 index c sent k (omega arith) (omega arith) (omega arith))
    (after-other frame.process 0 63 index c sent) s) in
    record {
      legal = (
        lone-legal frame 0 63 index c sent is (λ k low. s.none index k (omega arith)) (λ ne. absurd (ne refl)),
        r.legal,
      );
      sends = r.sends;
    }
scan-goes true number h index count c sent more fits are s rest =
    let frame = frame_written number h in
    let is = progressive-is number h fits in
    let band : CodingProcess → ℕ → ℕ → Type 0 = λ p from to. is_band p 1 from to 0 0 ≡ true in
    let mid = after frame.process 0 0 index c sent in
    let next = after frame.process 1 63 index c mid in
    let dc : mid index 0 ≡ Some 0 =
    after-in frame.process 0 0 index c sent 0 (omega arith) (omega arith) (omega arith) in
    let r = rest next (sent-more sent next index (λ k low. ac-after frame.process index c mid k dc low)
    (λ j k ne. after-other frame.process 1 63 index c mid j k ne ∙ after-other frame.process 0 0 index c sent j k ne) s) in
    record {
      legal = (
        lone-legal frame 0 0 index c sent (are 0 0 (subst (λ (p : CodingProcess). band p 0 0) is refl))
            (λ k low. s.none index k (omega arith)) (λ ne. absurd (ne refl)),
        (
          lone-legal frame 1 63 index c mid (are 1 63 (subst (λ (p : CodingProcess). band p 1 63) is refl))
              (λ k low. dc-only frame.process index c sent k is (omega arith) ∙ s.none index k (omega arith))
              (λ ne e. absurd (let n : Some 0 ≡ None = sym dc ∙ e in cc)),
          r.legal,
        ),
      );
      sends = r.sends;
    }

scans-go : (progressive : Bool) (number : ℕ) (h : FrameHeader) (cs front : List Factors) (index : ℕ) (sent : SentLevels)
    → Fits progressive number → 0 < h.precision → h.components ≡ front ++ cs → AreComponents number front cs
    → length front ≡ index → HasSent sent index
    → Goes (frame_written number h) sent (scans_for progressive index cs) (length h.components)
unfolding AreComponents AreLegal sent_by
scans-go progressive number h [] front index sent fits some e are n s = search (rules, length-append)
scans-go progressive number h (c ∷ cs) front index sent fits some e are n s =
    let size = length-append front (c ∷ []) in
    scan-goes progressive number h index (length h.components) c sent (scans_for progressive (suc index) cs) fits
    (λ from to band. subst (λ (i : ℕ). IsScan (frame_written number h) (lone_header from to i c)) n
    (lone-written from to number h front cs c band some e are.0.is_new))
    s
    (λ next has. scans-go progressive number h cs (front ++ c ∷ []) (suc index) next fits some
    (e ∙ sym (append_assoc front (c ∷ []) cs)) are.1 (omega arith) has)

image-by : (progressive : Bool) (number : ℕ) (h : FrameHeader) (array : Coefficients) → Fits progressive number
    → number ≤ 2 → IsFrameHeader number h → HasPicture h → ((index row column : ℕ) → Is8Bit (array index row column))
    → (bytes : List ℕ) × IsWhollyWritten array bytes
unfolding frame_of
image-by progressive number h array fits le is has range =
    let frame = frame_written number h in
    let script = scans_for progressive 0 h.components in
    let eight = has.precise in
    let goes = scans-go progressive number h h.components [] 0 none_sent fits (omega arith) refl is.components refl
    (record { all = λ j k lt low. absurd (omega arith); none = λ j k le. refl }) in
    let size : length frame.components ≡ length h.components = length-map h.components _ in
    let all : IsAllSent frame (sent_by frame none_sent script) = λ j k lt low. goes.sends.all j k (omega arith) low in
    let w = script-written number h script array le is has
    (record {
      some = some-scans progressive h.components (counted (length h.components) has.counted);
      legal = goes.legal;
      whole = λ e. all;
    })
    range in (
      w.0,
      record {
        final = w.1.final;
        last = w.1.last;
        frame = frame;
        written = w.1.written;
        framed = w.1.framed;
        complete = all-complete frame (sent_by frame none_sent script) w.1.last w.1.sent all;
      },
    )
  where
    counted : (n : ℕ) → (n ≡ 1) ⊎ ((n ≡ 3) ⊎ (n ≡ 4)) → 0 < n
    counted n (inl e) = omega arith
    counted n (inr (inl e)) = omega arith
    counted n (inr (inr e)) = omega arith

pub image-written : (number : ℕ) (h : FrameHeader) (array : Coefficients) → number ≤ 2 → IsFrameHeader number h
    → HasPicture h → ((index row column : ℕ) → Is8Bit (array index row column))
    → (bytes : List ℕ) × IsWhollyWritten array bytes
image-written number h array le is has range = ⊎_elim
    (λ less. image-by false number h array (omega arith) le is has range)
    (λ more. image-by true number h array (omega arith) le is has range) (cases_lt number 2)
