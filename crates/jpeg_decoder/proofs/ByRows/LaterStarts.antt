-- What stands before the data of the first scan of a stream is read of some bytes as of the same bytes with more after
-- them.
use Rattle.std.proofs.Common.{rules, ◌≡◌, ◌∙◌, ◌≤◌, ◌<◌, ◌+◌, ◌^◌, ◌++◌, ℕ, zero, suc, Bool, true, false, List, []}
use Rattle.std.proofs.Common.{Option, None, Some, Result, Ok, Err, length, length-append, is_some, ap, ap₂, refl, sym}
use Rattle.std.proofs.Common.{subst, arith}
use Rattle.std.proofs.lemmas.Bool.{ltb-true}
use Rattle.std.specs.Prelude.{nat_lt}
use Rattle.jpeg_bits.specs.Marker.{found_or, next_marker}
use Rattle.jpeg_bits.specs.Reading.{End, Fault, IsShort, Malformed, Outcome, ◌>>=◌}
use Rattle.jpeg_bits.specs.Stream.{Stream}
use Rattle.jpeg_bits.specs.declared.beyond.Beyond.TheVariants.{Nothing, Zeros}
use Rattle.jpeg_bits.specs.declared.marker.Marker.{Marker}
use Rattle.jpeg_bits.specs.declared.marker.Marker.TheVariants.{SOS}
use Rattle.jpeg_segments.specs.Checks.{needed}
use Rattle.jpeg_segments.specs.Frame.{Frame}
use Rattle.jpeg_segments.specs.ScanHeader as headers
use Rattle.jpeg_segments.proofs.Codecs.{bind-ok, err-ok, ok-same}
use Rattle.jpeg_meaning.specs.Brought.{frame_and_scan}
use Rattle.jpeg_meaning.specs.Found.{Found, nothing_found}
use Rattle.jpeg_meaning.specs.Segments.{Turn}
use Rattle.jpeg_meaning.specs.Sound.{IsSound}
use Rattle.jpeg_meaning.specs.States.{Decoding}
use Rattle.jpeg_meaning.specs.Stream.{Walked, header_at, segments_at, start_at, turn_at, walk}
use Rattle.jpeg_meaning.specs.Work.{is_above, left_after, work_of_header, work_of_scan}
use Rattle.jpeg_meaning.specs.declared.before.Before.{Before}
use Rattle.jpeg_meaning.specs.declared.before.Before.TheVariants.{Elsewhere}
use Rattle.jpeg_meaning.specs.declared.progress.Progress.TheVariants.{Failed, HeaderRead}
use Rattle.jpeg_meaning.specs.declared.settings.Settings.{Settings}
use Rattle.jpeg_meaning.proofs.Longer.LongerSegments.{Stays, marker-stays, sos-stays, stays-after, stays-bind, stays-end}
use Rattle.jpeg_meaning.proofs.Longer.LongerSegments.{stays-err, stays-ok, stays-read}
use Rattle.jpeg_meaning.proofs.Longer.LongerTurns.{FoundHeader, framed-stays, segment-stays, turn-goes}
use Rattle.jpeg_meaning.proofs.Shorter.{below-at}
use Rattle.jpeg_meaning.proofs.Written.ReadTurns.{then-ok, walk-refused, walk-stop, walked, walked_to}
use Rattle.jpeg_decoder.specs.ByRows.{ToScan, scan_ahead, to_scan, to_scan_after, to_scan_of, to_turn, to_turn_at}
use Rattle.jpeg_decoder.specs.FedRows.{BeginsScan, fed_now, fed_start, in_memory}
use Rattle.jpeg_decoder.specs.RowScans.{HasHeader, InScan, IsGivingScan}
use Rattle.jpeg_decoder.specs.Steps.{IsHeaderOf, header_within}
use Rattle.jpeg_decoder.specs.Steps as steps
use Rattle.jpeg_decoder.specs.Walks.{IsKnownIf, known_if, walk_over}
use Rattle.jpeg_decoder.specs.declared.by_rows.first_scan.RowScan.{RowScan}
use Rattle.jpeg_decoder.proofs.ByRows.AtScan.{else-is, header-under}
use Rattle.jpeg_decoder.proofs.ByRows.BegunRest.{leads-there}
use Rattle.jpeg_decoder.proofs.ByRows.DecodedRows.{begun-scan}
use Rattle.jpeg_decoder.proofs.ByRows.Shown.{ReadsAhead, known-there}
use Rattle.jpeg_decoder.proofs.Checkpoints.{start-stays}
use Rattle.jpeg_decoder.proofs.Pictures.DecodedLines.{IsBegun}
use Rattle.jpeg_decoder.proofs.Segments.HeaderThenRest.{any-alike, walk-begun}
use Rattle.jpeg_decoder.proofs.Segments.Headers.{turn-begins}
use Rattle.jpeg_decoder.proofs.Segments.LeftBytes.{IsElsewhere, on-at}
use Rattle.jpeg_decoder.proofs.Segments.Turns.{start-below, turn-takes}

-- ---- the header

-- A walk to the frame comes to it so whatever bytes follow, and no more bytes are left.
record WalkStays (more : List ℕ) (w longer : Walked) (bytes rest : List ℕ) : Type 0 where
  found : longer.found ≡ w.found
  left : longer.rest ≡ Ok (rest ++ more)
  few : length rest ≤ length bytes

abbrev to_frame : ℕ → Found → List ℕ → Walked
to_frame n found bytes = walk None Nothing n true Elsewhere found None bytes

-- with more bytes there are no fewer turns
walk-stays : (more : List ℕ) (n m : ℕ) (found : Found) (bytes rest : List ℕ) → n ≤ m
    → (to_frame n found bytes).rest ≡ Ok rest
    → WalkStays more (to_frame n found bytes) (to_frame m found (bytes ++ more)) bytes rest
unfolding walk
walk-stays more zero m found bytes rest le e = absurd (err-ok End rest e)
walk-stays more (suc n) zero found bytes rest le e = absurd (omega arith)
walk-stays more (suc n) (suc m) found bytes rest le e =
    go (λ t h. walk-stays more n m t.0.found t.1 rest (omega arith) h) (is_some found.said.frame) refl
    (turn_at Nothing Elsewhere found None bytes).turn refl
  where
    Others : Type 0
    Others = (t : Turn × List ℕ) → (to_frame n t.0.found t.1).rest ≡ Ok rest
        → WalkStays more (to_frame n t.0.found t.1) (to_frame m t.0.found (t.1 ++ more)) t.1 rest

    at : Others → is_some found.said.frame ≡ false → (t : Turn × List ℕ)
        → (turn_at Nothing Elsewhere found None bytes).turn ≡ Ok t
        → WalkStays more (to_frame (suc n) found bytes) (to_frame (suc m) found (bytes ++ more)) bytes rest
    at next none t q =
        let s = on-at IsElsewhere (turn_at Nothing Elsewhere found None bytes).turn t (turn-begins Nothing found bytes none)
        q in
        let longer = (turn-goes more Elsewhere found None bytes).turn t q in
        let one = walk-begun None Nothing n true found bytes t none q s in
        let two = walk-begun None Nothing m true found (bytes ++ more) (t.0, t.1 ++ more) none longer s in
        let less = turn-takes None Nothing Elsewhere found None bytes t q s.0 in
        let others = next t (ap (λ (w : Walked). w.rest) (sym one) ∙ e) in
        let few = others.few in
        record {
          found = ap (λ (w : Walked). w.found) two ∙ others.found ∙ ap (λ (w : Walked). w.found) (sym one);
          left = ap (λ (w : Walked). w.rest) two ∙ others.left;
          few = omega (arith, less, few);
        }

    go : Others → (b : Bool) → is_some found.said.frame ≡ b → (o : Outcome Turn)
        → (turn_at Nothing Elsewhere found None bytes).turn ≡ o
        → WalkStays more (to_frame (suc n) found bytes) (to_frame (suc m) found (bytes ++ more)) bytes rest
    go next true is o q =
        let one = walk-stop None Nothing (suc n) true Elsewhere found None bytes (omega arith) is in
        let two = walk-stop None Nothing (suc m) true Elsewhere found None (bytes ++ more) (omega arith) is in
        let same = ok-same bytes rest (ap (λ (w : Walked). w.rest) (sym one) ∙ e) in
        record {
          found = ap (λ (w : Walked). w.found) two ∙ ap (λ (w : Walked). w.found) (sym one);
          left = ap (λ (w : Walked). w.rest) two ∙ ap (λ (l : List ℕ). Ok (l ++ more)) same;
          few = let long = ap length same in omega (arith, long);
        }
    go next false is (Err fault) q =
        let one = walk-refused None Nothing n true Elsewhere found None bytes fault is q in
        absurd (err-ok fault rest (ap (λ (w : Walked). w.rest) (sym one) ∙ e))
    go next false is (Ok t) q = at next is t q

-- what was read of a stream stays, and fewer bytes are left
pub record StartStays (more : List ℕ) (read : List ℕ → Outcome Found) (bytes : List ℕ) (found : Found) (rest : List ℕ)
    : Type 0 where
  pub longer : read (bytes ++ more) ≡ Ok (found, rest ++ more)
  pub few : length rest ≤ length bytes

pub header-stays : (more bytes : List ℕ) (found : Found) (rest : List ℕ) → header_at bytes ≡ Ok (found, rest)
    → StartStays more header_at bytes found rest
unfolding header_at segments_at
header-stays more bytes found rest e =
    let s = bind-ok (start_at bytes) _ (found, rest) e in
    let start = s.0.1 in
    let whole = walk_over None Nothing true nothing_found start in
    let h = bind-ok whole.rest _ (found, rest) (ap walked_to (any-alike Nothing start) ∙ s.2) in
    let same = ok-same (whole.found, h.0) (found, rest) h.2 in
    let long = length-append start more in
    let w = walk-stays more (suc (length start)) (suc (length (start ++ more))) nothing_found start h.0
    (omega (arith, long)) h.1 in
    let later = walk_over None Nothing true nothing_found (start ++ more) in
    let shorter = below-at (suc (length bytes)) (start_at bytes) s.0 (start-below bytes) s.1 in
    let few = w.few in
    let left : h.0 ≡ rest = ap (λ (x : Found × List ℕ). x.1) same in
    let size = ap length left in
    record {
      longer = then-ok (start_at (bytes ++ more)) _ (s.0.0, start ++ more) (Ok (found, rest ++ more))
          (stays-read more _ _ (start-stays more bytes) s.0 s.1)
          (sym (ap walked_to (any-alike Nothing (start ++ more)))
          ∙ then-ok later.rest _ (h.0 ++ more) (Ok (found, rest ++ more)) w.left
          (ap₂ (λ (f : Found) (l : List ℕ). Ok (f, l ++ more)) (w.found ∙ ap (λ (x : Found × List ℕ). x.0) same) left));
      few = omega (arith, shorter, few, size);
    }

-- ---- up to the scan

to_turn_at-stays : (more : List ℕ) (m : Marker) (before : Before) (found : Found) (bytes : List ℕ)
    → Stays more (to_turn_at m before found bytes) (to_turn_at m before found (bytes ++ more))
unfolding to_turn_at
to_turn_at-stays more SOS before found bytes = stays-ok None bytes
to_turn_at-stays more m before found bytes =
    stays-bind more _ _ _ _ (segment-stays more m before found bytes) (λ t. stays-ok (Some t.0) t.1)

to_turn-stays : (more : List ℕ) (before : Before) (found : Found) (met : Option Marker) (bytes : List ℕ)
    → Stays more (to_turn before found met bytes) (to_turn before found met (bytes ++ more))
unfolding to_turn
to_turn-stays more before found met bytes =
    stays-bind more _ _ _ _ (marker-stays more met bytes) (λ m. to_turn_at-stays more m.0 before found m.1)

to_scan-stays : (more : List ℕ) (n m : ℕ) (before : Before) (found : Found) (met : Option Marker) (bytes : List ℕ)
    → n ≤ m → Stays more (to_scan n before found met bytes) (to_scan m before found met (bytes ++ more))
unfolding to_scan
to_scan-stays more zero m before found met bytes le = stays-end _
to_scan-stays more (suc n) zero before found met bytes le = absurd (omega arith)
to_scan-stays more (suc n) (suc m) before found met bytes le =
    let others : Others = λ t rest. to_scan-stays more n m t.before t.found t.met rest (omega arith) in
    stays-bind more _ _ _ _ (to_turn-stays more before found met bytes) (λ t. after others t.0 t.1)
  where
    Others : Type 0
    Others = (t : Turn) (rest : List ℕ) → Stays more (to_scan n t.before t.found t.met rest)
        (to_scan m t.before t.found t.met (rest ++ more))

    ended : Others → (b : Bool) (t : Turn) (rest : List ℕ) → Stays more
        (elim b as (λ _. Outcome ToScan) [
          | true ↦ Ok (record { found = t.found; is_scan = false }, rest)
          | false ↦ to_scan n t.before t.found t.met rest
        ])
        (elim b as (λ _. Outcome ToScan) [
          | true ↦ Ok (record { found = t.found; is_scan = false }, rest ++ more)
          | false ↦ to_scan m t.before t.found t.met (rest ++ more)
        ])
    ended others true t rest = stays-ok _ rest
    ended others false t rest = others t rest

    after : Others → (o : Option Turn) (rest : List ℕ)
        → Stays more (to_scan_after (to_scan n) found o rest) (to_scan_after (to_scan m) found o (rest ++ more))
    after others None rest = stays-ok _ rest
    after others (Some t) rest = ended others t.ended t rest

pub ahead-stays : (more : List ℕ) (found : Found) (bytes : List ℕ) (x : ToScan) (rest : List ℕ)
    → scan_ahead found bytes ≡ Ok (x, rest) → scan_ahead found (bytes ++ more) ≡ Ok (x, rest ++ more)
ahead-stays more found bytes x rest e =
    let long = length-append bytes more in
    stays-read more _ _ (to_scan-stays more (suc (length bytes)) (suc (length (bytes ++ more))) Elsewhere found None bytes
    (omega (arith, long))) (x, rest) e

-- ---- the header of the scan

-- it is read, and codes as many blocks
pub record HeaderStays (more : List ℕ) (limit : Option ℕ) (found : Found) (bytes : List ℕ) (scan : headers.Scan)
    (rest : List ℕ) : Type 0 where
  pub work : work_of_header found (bytes ++ more) ≡ work_of_header found bytes
  pub longer : header_within limit found (bytes ++ more) ≡ Ok (scan, rest ++ more)

abbrev work_by : Result FoundHeader Fault → ℕ
work_by o = elim o as (λ _. ℕ) [ Ok x ↦ work_of_scan x.0 x.1.0 | Err fault ↦ 0 ]

framed : (frame : Frame) (found : Found) (bytes : List ℕ) (s : headers.Scan × List ℕ)
    → headers.sos_at frame bytes ≡ Ok s → needed found.said.frame ≡ Ok frame
    → frame_and_scan found bytes ≡ Ok (frame, s)
framed frame found bytes s e needs =
    then-ok (needed found.said.frame) _ frame (Ok (frame, s)) needs
    (then-ok (headers.sos_at frame bytes) _ s (Ok (frame, s)) e refl)

work-stays : (more : List ℕ) (found : Found) (bytes : List ℕ) (x : FoundHeader) → frame_and_scan found bytes ≡ Ok x
    → work_of_header found (bytes ++ more) ≡ work_of_header found bytes
unfolding work_of_header
work-stays more found bytes x e = ap work_by (framed-stays more found bytes x e) ∙ sym (ap work_by e)

pub within-stays : (more : List ℕ) (limit : Option ℕ) (found : Found) (bytes : List ℕ) (scan : headers.Scan)
    (rest : List ℕ) → header_within limit found bytes ≡ Ok (scan, rest)
    → HeaderStays more limit found bytes scan rest
within-stays more limit found bytes scan rest e =
    let under = header-under limit found bytes (scan, rest) e in
    let f = bind-ok (needed found.said.frame) (λ (frame : Frame). headers.sos_at frame bytes) (scan, rest) under.1 in
    let work = work-stays more found bytes (f.0, (scan, rest)) (framed f.0 found bytes (scan, rest) f.2 f.1) in
    record {
      work = work;
      longer = else-is (is_above limit (work_of_header found (bytes ++ more))) (Err Malformed)
          (steps.header_at found (bytes ++ more)) (ap (is_above limit) work ∙ under.0)
          ∙ then-ok (needed found.said.frame) (λ (frame : Frame). headers.sos_at frame (bytes ++ more)) f.0
          (Ok (scan, rest ++ more)) f.1 (stays-read more _ _ (sos-stays more f.0 bytes) (scan, rest) f.2);
    }

-- ---- the scan is begun

module _ (settings : Settings) (before one_left two_left left_bytes : List ℕ) (one two kept : Found) (header : headers.Scan)
    (left : Option ℕ) (scan : RowScan) (first : header_at before ≡ Ok (one, one_left))
    (second : scan_ahead one one_left ≡ Ok (to_scan_of two true, two_left)) (stays : two.said.frame ≡ one.said.frame)
    (same : kept ≡ two) (sound : IsSound two) (legal : IsHeaderOf two header)
    (third : header_within settings.max_blocks two two_left ≡ Ok (header, left_bytes))
    (taken : left ≡ left_after settings.max_blocks (work_of_header two two_left))
    (begun : (k : Bool) (at mid : Stream) → HasHeader settings settings.max_blocks left kept kept header (known_if k at) mid
    → IsKnownIf k 0 at → InScan settings k kept at scan mid []) (none : scan.giver.lines.items ≡ []) where
  module _ (more : List ℕ) where
    abbrev k : Bool
    k = nat_lt (length (before ++ more)) (2 ^ 64)

    abbrev stream : List ℕ → Stream
    stream bytes = record { bytes = bytes ++ more; known = k; failed = false }

    abbrev mid : Decoding
    mid = record {
      source = stream one_left;
      stage = HeaderRead;
      found = one;
      settings = settings;
      exceeded = false;
    }

    is-begun : IsBegun (fed_start settings (before ++ more)) mid
    is-begun = record {
      fresh = λ _. (refl, λ known. (known, (header-stays more before one one_left first).longer));
      still = λ other. absurd (other refl);
      settings = refl;
    }

    ahead : ReadsAhead one two (stream one_left) (Ok true) (stream two_left)
    ahead = (
      refl,
      λ known. (known, ahead-stays more one one_left (to_scan_of two true) two_left second),
    )

    short : IsShort (stream one_left)
    short known =
        let few = (header-stays more before one one_left first).few in
        let all : length (before ++ more) < 2 ^ 64 = ltb-true (length (before ++ more)) (2 ^ 64) known in
        omega (arith, few, all, length-append before more, length-append one_left more)

    head : HasHeader settings settings.max_blocks left two two header (known_if k (stream two_left))
        (in_memory (left_bytes ++ more))
    head =
        let h = within-stays more settings.max_blocks two two_left header left_bytes third in
        record {
          sound = sound;
          stays = refl;
          legal = legal;
          within = refl;
          header = (refl, λ known. (refl, h.longer));
          taken = λ known. taken ∙ ap (left_after settings.max_blocks) (sym h.work);
        }

    in-scan : InScan settings k two (stream two_left) scan (in_memory (left_bytes ++ more)) []
    in-scan =
        subst (λ (f : Found). InScan settings k f (stream two_left) scan (in_memory (left_bytes ++ more)) []) same
        (begun k (stream two_left) (in_memory (left_bytes ++ more))
        (subst (λ (f : Found). HasHeader settings settings.max_blocks left f f header (known_if k (stream two_left))
        (in_memory (left_bytes ++ more))) (sym same) head)
        (known-there one two (stream one_left) (stream two_left) short ahead))

    giving : IsGivingScan (fed_start settings (before ++ more)) (fed_now settings two (left_bytes ++ more)) scan []
    giving = (begun-scan (fed_start settings (before ++ more)) mid Failed two (in_memory (left_bytes ++ more)) false scan
        is-begun tt (record {
          k = k;
          at = stream two_left;
          leads = leads-there settings one two (stream one_left) (stream two_left) ahead stays;
          is = in-scan;
          none = none;
        }) stays).0

  pub begins-scan : BeginsScan settings before kept left_bytes scan
  begins-scan = record {
    giving = λ more. subst (λ (f : Found). IsGivingScan (fed_start settings (before ++ more))
        (fed_now settings f (left_bytes ++ more)) scan []) (sym same) (giving more);
    none = none;
  }
