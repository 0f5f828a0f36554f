-- Written streams of any kind: what stays through one, and that it is read turn by turn.
use Rattle.std.proofs.Common.{rules, ◌≡◌, ◌&&◌, ℕ, zero, suc, ◌<◌, Bool, true, false, List, [], ◌++◌, length, is_some}
use Rattle.std.proofs.Common.{Option, Some, None, Ok, Result, refl, sym, ap, ◌∙◌, subst, arith, length-append}
use Rattle.jpeg_bits.specs.Marker.{marker_of}
use Rattle.jpeg_bits.specs.Reading.{Fault, Outcome, ◌>>=◌}
use Rattle.jpeg_bits.specs.Written.{marker}
use Rattle.jpeg_bits.specs.declared.marker.Marker.{Marker}
use Rattle.jpeg_bits.specs.declared.marker.Marker.TheVariants.{EOI, SOS}
use Rattle.jpeg_segments.specs.Frame.{Frame}
use Rattle.jpeg_segments.specs.ScanHeaders.{IsScan, ScanHeader, scan_payload}
use Rattle.jpeg_segments.specs.WrittenSegments.{frame_written, FrameHeader, Header, marker_code, payload_of, Segment}
use Rattle.jpeg_segments.specs.WrittenSegments.{with_length}
use Rattle.jpeg_meaning.specs.Found.{Said, nothing_said, Found, nothing_found}
use Rattle.jpeg_meaning.specs.SaidSegments.{said_after, Stands}
use Rattle.jpeg_meaning.specs.ScanSegments.{after_restarts, scan_before, scan_segment, scan_turn}
use Rattle.jpeg_meaning.specs.Segments.{onward}
use Rattle.jpeg_bits.specs.declared.beyond.Beyond.TheVariants.{Zeros}
use Rattle.jpeg_meaning.specs.Stream.{header_at, segments_at, start_at, Told, told_of, turn_at, walk}
use Rattle.jpeg_meaning.specs.WrittenStreams.{Closes, end, scan, segment, Starts, Writes}
use Rattle.jpeg_meaning.specs.declared.before.Before.{Before}
use Rattle.jpeg_meaning.specs.declared.before.Before.TheVariants.{Elsewhere}
use Rattle.jpeg_meaning.proofs.Pictures.DecodedHeaders.{stands-taken}
use Rattle.jpeg_meaning.proofs.Written.ReadTurns.{Begins, end-turn, IsEnd, marker-longer, scan-tail, scan-turn, marker-begins}
use Rattle.jpeg_meaning.proofs.Written.ReadTurns.{segment-ends, segment-tail, segment-turn, segments-walked, some-none}
use Rattle.jpeg_meaning.proofs.Written.ReadTurns.{same-turn, stands-here, stands-met, StandsAt, then-ok, walk-end}
use Rattle.jpeg_meaning.proofs.Written.ReadTurns.{walk-on, walk-stop, walked, zeros-scan}
use Rattle.jpeg_meaning.proofs.Written.ReadTurns.{marker_for, segment-marker}
use Rattle.jpeg_meaning.proofs.Written.SaidTables.{HasTables, no-tables, segment-tables}
use Rattle.jpeg_meaning.specs.Stream.{rest_showing, meaning_showing}

-- EOI
pub closes : {may_end : Frame → Type 0} (said : Said) (f : Frame) (fill : ℕ) → said.frame ≡ Some f → may_end f
    → Closes may_end said (marker fill 217 [])
closes said f fill e ended = record { frame = f; fill = fill; is_said = e; ended = ended; closed = refl }

-- ---- what stays

module _ {Sent : Type 0} {may : Said → Segment → Type 0}
    {scans : Said → Sent → Frame → ScanHeader → List ℕ → Sent → Type 0} {ends : Said → Sent → List ℕ → Type 0} where
  -- a frame that is said stays to the end
  pub frame-kept : (said final : Said) (sent last : Sent) (bytes : List ℕ) (f : Frame)
      → Writes may scans ends said sent bytes final last → said.frame ≡ Some f → final.frame ≡ Some f
  frame-kept said final sent last bytes f (end said' sent' bytes' ended) e = e
  frame-kept said final sent last bytes f
      (segment said' final' sent' last' fill (Header number h) more stands allowed w) e = cc
  frame-kept said final sent last bytes f (segment said' final' sent' last' fill s more stands allowed w) e =
      frame-kept (said_after said s) final sent last more f w e
  frame-kept said final sent last bytes f (scan said' final' sent' next last' g fill h data_bytes more framed is sends w)
      e = frame-kept (record said { scanned = true }) final next last more f w e

  -- what each segment and scan keeps holds at the end
  pub keeps : (P : Said → Sent → Type 0) (said final : Said) (sent last : Sent) (bytes : List ℕ)
      → ((now : Said) (x : Sent) (s : Segment) → Stands now s → may now s → P now x → P (said_after now s) x)
      → ((now : Said) (x next : Sent) (f : Frame) (h : ScanHeader) (data_bytes : List ℕ) → now.frame ≡ Some f
      → final.frame ≡ Some f → scans now x f h data_bytes next → P now x → P (record now { scanned = true }) next)
      → Writes may scans ends said sent bytes final last → P said sent
      → P final last × (left : List ℕ) × ends final last left
  keeps P said final sent last bytes one other (end said' sent' bytes' ended) p = (p, bytes, ended)
  keeps P said final sent last bytes one other (segment said' final' sent' last' fill s more stands allowed w) p =
      keeps P (said_after said s) final sent last more one other w (one said sent s stands allowed p)
  keeps P said final sent last bytes one other
      (scan said' final' sent' next last' f fill h data_bytes more framed is sends w) p =
      keeps P (record said { scanned = true }) final next last more one other w
      (other said sent next f h data_bytes framed
      (frame-kept (record said { scanned = true }) final next last more f w framed) sends p)

  -- a front, and what follows it
  pub front-append : (said next final : Said) (sent reached last : Sent) (front more : List ℕ)
      → Writes may scans (λ said sent bytes. bytes ≡ []) said sent front next reached
      → Writes may scans ends next reached more final last → Writes may scans ends said sent (front ++ more) final last
  front-append said next final sent reached last front more (end said' sent' bytes' none) w =
      subst (λ (l : List ℕ). Writes may scans ends said sent (l ++ more) final last) (sym none) w
  front-append said next final sent reached last front more
      (segment said' next' sent' reached' fill s others stands allowed f) w =
      rw (segment-tail fill (marker_code s) (with_length (payload_of s)) others more)
      (segment said final sent last fill s (others ++ more) stands allowed
      (front-append (said_after said s) next final sent reached last others more f w))
  front-append said next final sent reached last front more
      (scan said' next' sent' between reached' g fill h data_bytes others framed is sends f) w =
      rw (scan-tail fill 218 (with_length (scan_payload h)) data_bytes others more)
      (scan said final sent between last g fill h data_bytes (others ++ more) framed is sends
      (front-append (record said { scanned = true }) next final between reached last others more f w))

-- ---- what segments say

-- Tables that exist, and a frame of which this holds.
pub record IsSaid (P : Frame → Type 0) (said : Said) : Type 0 where
  pub tables : HasTables said.huffman
  pub shaped : (f : Frame) → said.frame ≡ Some f → P f

pub nothing-said : (P : Frame → Type 0) → IsSaid P nothing_said
unfolding nothing_said
nothing-said P = record { tables = no-tables; shaped = λ f e. absurd (let n : ⊥ = cc in n) }

pub segment-said : (may : Said → Segment → Type 0) (P : Frame → Type 0)
    → ((said : Said) (number : ℕ) (h : FrameHeader) → Stands said (Header number h) → may said (Header number h)
    → P (frame_written number h))
    → (said : Said) (s : Segment) → Stands said s → may said s → IsSaid P said → IsSaid P (said_after said s)
segment-said may P shaped said (Header number h) stands allowed is = search rules
segment-said may P shaped said s stands allowed is =
    record { tables = segment-tables said s stands.0 is.tables; shaped = is.shaped }

-- ---- the turns of a stream

pub rest-by : {A : Type 0} (show : Found → Result A Fault) (found all : Found) (bytes rest : List ℕ)
    → walk None Zeros (suc (length bytes)) false Elsewhere found None bytes ≡ walked all (Ok rest)
    → rest_showing None show found bytes ≡ (show all >>= (λ shown. Ok ((told_of all.said, shown), rest)))
unfolding rest_showing
rest-by show found all bytes rest e = search (rules, then-ok, found, segments-walked)

-- what was said, beside what scans have brought
abbrev pub beside : {Brought : Type 0} → (Brought → Found) → Said → Brought → Found
beside brings said x = record (brings x) { said = said }

-- A scan is read, up to the marker after it: what it brings, and what is found.
pub record FindsScan {Sent Brought : Type 0} (brings : Brought → Found) (Held : Said → Sent → Brought → Type 0)
    (said : Said) (next : Sent) (x : Brought) (h : ScanHeader) (bytes : List ℕ) : Type 0 where
  pub brought : Brought
  pub held : Held (record said { scanned = true }) next brought
  pub found : (fill code : ℕ) (m : Marker) (left : List ℕ) → marker_of code ≡ Some m → IsEnd m
      → scan_segment (beside brings said x) (with_length (scan_payload h) ++ (bytes ++ marker fill code left))
      ≡ Ok (
        scan_turn (beside brings said x) (beside brings (record said { scanned = true }) brought) (Some m),
        left,
      )

-- How a kind of stream is read: `brings` gives what scans have brought, and `Held` says what that
-- is where so much was said and sent. `P` holds of the frames.
pub record IsRead {Sent Brought : Type 0} (may : Said → Segment → Type 0)
    (scans : Said → Sent → Frame → ScanHeader → List ℕ → Sent → Type 0) (P : Frame → Type 0)
    (brings : Brought → Found) (Held : Said → Sent → Brought → Type 0) : Type 0 where
  pub shaped : (said : Said) (number : ℕ) (h : FrameHeader) → Stands said (Header number h)
      → may said (Header number h) → P (frame_written number h)
  pub holds : (said : Said) (sent : Sent) (x : Brought) (s : Segment) → Stands said s → may said s → Held said sent x
      → Held (said_after said s) sent x
  pub reads : (said : Said) (sent next : Sent) (x : Brought) (f : Frame) (h : ScanHeader) (bytes : List ℕ)
      → IsSaid P said → said.frame ≡ Some f → IsScan f h → scans said sent f h bytes next → Held said sent x
      → FindsScan brings Held said next x h bytes

-- What is found by the end of a stream.
pub record ReadTo {Sent Brought : Type 0} (P : Frame → Type 0)
    (Held : Said → Sent → Brought → Type 0) (may_end : Said → Sent → Frame → Type 0) (final : Said)
    (last : Sent) : Type 0 where
  pub brought : Brought
  pub held : Held final last brought
  pub said : IsSaid P final
  pub frame : Frame
  pub framed : final.frame ≡ Some frame
  pub ended : may_end final last frame

-- This is shown of what is found at the end of a stream.
abbrev pub IsMeant : {A Sent Brought : Type 0} → (Frame → Type 0) → (Brought → Found)
    → (Said → Sent → Brought → Type 0) → (Said → Sent → Frame → Type 0) → (Found → Result A Fault) → Said → Sent
    → List ℕ → Outcome (Told × A) → Type 0
IsMeant P brings Held may_end show final last tail meant =
    (r : ReadTo P Held may_end final last)
    × (meant ≡ (show (beside brings final r.brought)
    >>= (λ shown. Ok ((told_of final, shown), tail))))

-- What is found up to the frame, and the stream after it.
pub record Headed {Sent : Type 0} (may : Said → Segment → Type 0)
    (scans : Said → Sent → Frame → ScanHeader → List ℕ → Sent → Type 0) (may_end : Said → Sent → Frame → Type 0)
    (P : Frame → Type 0) (final : Said) (sent last : Sent) : Type 0 where
  pub between : Said
  pub number : ℕ
  pub header : FrameHeader
  pub stands : Stands between (Header number header)
  pub allowed : may between (Header number header)
  pub unscanned : between.scanned ≡ false
  pub said : IsSaid P (said_after between (Header number header))
  pub left : List ℕ
  pub written : Writes may scans (λ now x. Closes (may_end now x) now) (said_after between (Header number header)) sent
      left final last

module _ {Sent Brought : Type 0} {may : Said → Segment → Type 0}
    {scans : Said → Sent → Frame → ScanHeader → List ℕ → Sent → Type 0} {P : Frame → Type 0}
    {brings : Brought → Found} {Held : Said → Sent → Brought → Type 0}
    (may_end : Said → Sent → Frame → Type 0) (k : IsRead may scans P brings Held) (tail : List ℕ) where
  abbrev Rest : Said → Sent → List ℕ → Said → Sent → Type 0
  Rest = Writes may scans (λ said sent. Closes (may_end said sent) said)

  rest-begins : (said final : Said) (sent last : Sent) (bytes : List ℕ) → Rest said sent bytes final last
      → Begins (bytes ++ tail)
  unfolding marker_of after_restarts
  rest-begins said final sent last bytes (end said' sent' bytes' c) = subst (λ (l : List ℕ). Begins (l ++ tail))
      (sym c.closed) (marker-begins c.fill 217 EOI [] tail refl (λ turns bytes. refl))
  rest-begins said final sent last bytes (segment said' final' sent' last' fill s more stands allowed w) =
      search (rules, marker-begins, marker_for, segment-marker, stands, segment-ends)
  rest-begins said final sent last bytes (scan said' final' sent' next last' f fill h data_bytes more framed is sends w) =
      marker-begins fill 218 SOS _ tail refl (λ turns bytes. refl)

  segment-next : (said : Said) (x : Brought) (s : Segment) (header : Bool) (turns fill : ℕ) (before : Before)
      (met : Option Marker) (all more : List ℕ) → Stands said s → (header && is_some said.frame) ≡ false
      → StandsAt met all (marker fill (marker_code s) (with_length (payload_of s) ++ more) ++ tail)
      → walk None Zeros (suc turns) header before (beside brings said x) met all
      ≡ walk None Zeros turns header Elsewhere (beside brings (said_after said s) x) None (more ++ tail)
  segment-next said x s header turns fill before met all more stands goes_on at =
      walk-on None Zeros turns header before (beside brings said x) met all (more ++ tail)
      (onward (beside brings (said_after said s) x)) goes_on
      (segment-turn Zeros before (beside brings said x) s met all fill more tail stands.0 (stands-taken said s stands) at) refl

  pub reads-on : (said final : Said) (sent last : Sent) (bytes : List ℕ) (x : Brought) (turns : ℕ) (before : Before)
      (met : Option Marker) (all : List ℕ) → Rest said sent bytes final last → IsSaid P said → Held said sent x
      → StandsAt met all (bytes ++ tail) → length bytes < turns
      → (r : ReadTo P Held may_end final last)
      × (walk None Zeros turns false before (beside brings said x) met all ≡ walked (beside brings final r.brought) (Ok tail))
  reads-on said final sent last bytes x zero before met all w is held at room = absurd (omega arith)
  reads-on said final sent last bytes x (suc turns) before met all (end said' sent' bytes' c) is held at room =
      let now = beside brings said x in (
        record { brought = x; held = held; said = is; frame = c.frame; framed = c.is_said; ended = c.ended },
        walk-end None Zeros turns false before now met all tail
            (record { found = now; before = Elsewhere; met = None; ended = true }) refl
            (same-turn _ _ (at.turn Zeros before now
            ∙ ap (λ (l : List ℕ). turn_at Zeros before now None (l ++ tail)) c.closed)
            ∙ end-turn Zeros before now c.fill tail (ap is_some c.is_said)) refl,
      )
  reads-on said final sent last bytes x (suc turns) before met all
      (segment said' final' sent' last' fill s more stands allowed w) is held at room =
      let r = reads-on (said_after said s) final sent last more x turns Elsewhere None (more ++ tail) w
      (segment-said may P k.shaped said s stands allowed is) (k.holds said sent x s stands allowed held)
      (stands-here (more ++ tail)) (marker-longer fill (marker_code s) turns (with_length (payload_of s)) more room) in
      (r.0, segment-next said x s false turns fill before met all more stands refl at ∙ r.1)
  reads-on said final sent last bytes x (suc turns) before met all
      (scan said' final' sent' next last' f fill h data_bytes more framed is_scan sends w) is held at room =
      let header = with_length (scan_payload h) in
      let now = beside brings said x in
      let b = k.reads said sent next x f h data_bytes is framed is_scan sends held in
      let n = rest-begins (record said { scanned = true }) final next last more w in
      let r = reads-on (record said { scanned = true }) final next last more b.brought turns (scan_before (beside brings said x)) (Some n.m)
      n.after w
      (record { tables = is.tables; shaped = is.shaped }) b.held
      (subst (StandsAt (Some n.m) n.after) (sym n.is) (stands-met n.fill n.code n.m n.after n.makes))
      (let l = marker-longer fill 218 turns header (data_bytes ++ more) room in let k = length-append data_bytes more in
      omega arith) in (
        r.0,
        walk-on None Zeros turns false before now met all n.after _ refl
            (same-turn _ _ (at.turn Zeros before now ∙ scan-turn Zeros before now fill header data_bytes more tail)
            ∙ zeros-scan now (header ++ (data_bytes ++ (more ++ tail)))
            ∙ ap (λ (l : List ℕ). scan_segment now (header ++ (data_bytes ++ l))) n.is
            ∙ b.found n.fill n.code n.m n.after n.makes n.ends) refl ∙ r.1,
      )

  reads-header : (said final : Said) (sent last : Sent) (bytes : List ℕ) (x : Brought) (turns : ℕ)
      → Rest said sent bytes final last → IsSaid P said → said.frame ≡ None → said.scanned ≡ false
      → length bytes < turns
      → (r : Headed may scans may_end P final sent last)
      × (walk None Zeros turns true Elsewhere (beside brings said x) None (bytes ++ tail)
      ≡ walked (beside brings (said_after r.between (Header r.number r.header)) x) (Ok (r.left ++ tail)))
  reads-header said final sent last bytes x zero w is e u room = absurd (omega arith)
  reads-header said final sent last bytes x (suc turns) (end said' sent' bytes' c) is e u room = cc
  reads-header said final sent last bytes x (suc turns)
      (scan said' final' sent' next last' f fill h data_bytes more framed is_scan sends w) is e u room =
      some-none f said.frame framed e
  reads-header said final sent last bytes x (suc turns)
      (segment said' final' sent' last' fill (Header number h) more stands allowed w) is e u room = (
        record {
          between = said;
          number = number;
          header = h;
          stands = stands;
          allowed = allowed;
          unscanned = u;
          said = segment-said may P k.shaped said (Header number h) stands allowed is;
          left = more;
          written = w;
        },
        segment-next said x (Header number h) true turns fill Elsewhere None _ more stands
            (ap is_some e) (stands-here _)
            ∙ walk-stop None Zeros turns true Elsewhere _ None (more ++ tail)
            (let l = marker-longer fill _ turns (with_length (payload_of (Header number h))) more room in omega arith)
            refl,
      )
  reads-header said final sent last bytes x (suc turns)
      (segment said' final' sent' last' fill s more stands allowed w) is e u room =
      let r = reads-header (said_after said s) final sent last more x turns w
      (segment-said may P k.shaped said s stands allowed is) e u
      (marker-longer fill (marker_code s) turns (with_length (payload_of s)) more room) in (
        r.0,
        segment-next said x s true turns fill Elsewhere None _ more stands (ap is_some e) (stands-here _) ∙ r.1,
      )

  -- ---- the whole

  -- a stream after its first two bytes
  abbrev Whole : Sent → List ℕ → Said → Sent → Type 0
  Whole sent bytes final last = Starts (λ after. Rest nothing_said sent after final last) bytes

  pub stream-read : {A : Type 0} (sent last : Sent) (bytes : List ℕ) (final : Said) (x : Brought)
      (show : Found → Result A Fault)
      → Whole sent bytes final last → beside brings nothing_said x ≡ nothing_found → Held nothing_said sent x
      → IsMeant P brings Held may_end show final last tail (meaning_showing None show (bytes ++ tail))
  unfolding meaning_showing start_at
  stream-read sent last bytes final x show w e held =
      let long = length-append w.after tail in
      let r = reads-on nothing_said final sent last w.after x (suc (length (w.after ++ tail))) Elsewhere None
      (w.after ++ tail) w.written (nothing-said P) held (stands-here (w.after ++ tail)) (omega arith) in (
        r.0,
        ap (λ (l : List ℕ). meaning_showing None show (l ++ tail)) w.starts
            ∙ ap (λ (f : Found). rest_showing None show f (w.after ++ tail)) (sym e)
            ∙ rest-by show (beside brings nothing_said x) _ (w.after ++ tail) tail r.1,
      )

  pub header-read : (sent last : Sent) (bytes : List ℕ) (final : Said) (x : Brought)
      → Whole sent bytes final last → beside brings nothing_said x ≡ nothing_found
      → (r : Headed may scans may_end P final sent last)
      × (header_at (bytes ++ tail) ≡ Ok (beside brings (said_after r.between (Header r.number r.header)) x, r.left ++ tail))
  unfolding header_at start_at nothing_said
  header-read sent last bytes final x w e =
      let long = length-append w.after tail in
      let r = reads-header nothing_said final sent last w.after x (suc (length (w.after ++ tail))) w.written
      (nothing-said P) refl refl (omega arith) in (
        r.0,
        ap (λ (l : List ℕ). header_at (l ++ tail)) w.starts
            ∙ ap (λ (f : Found). segments_at None true Elsewhere f None (w.after ++ tail)) (sym e)
            ∙ segments-walked None _ _ _ _ _ _ r.1,
      )
