-- The state of a scan between two of its rows of MCUs.
use Rattle.std.proofs.Common.{◌≡◌, ◌∙◌, ◌+◌, ◌-◌, ◌<◌, ◌≤◌, ℕ, zero, suc, Bool, false, List, [], ◌++◌, map, length}
use Rattle.std.proofs.Common.{None, Some, Ok, Err, ap, arith, inl, refl, subst, sym, true}
use Rattle.std.specs.Prelude.{IfErr, IfOk, IfSome, MatchResult, OnOk, Option, Result, min}
use Rattle.std.specs.List.{AllByRecursion, concat, range_with_len}
use Rattle.jpeg_bits.specs.Entropy.{Ahead, Takes, Text, fresh, marker_from, upcoming}
use Rattle.jpeg_bits.specs.declared.marker.Marker.{Marker}
use Rattle.jpeg_bits.specs.declared.beyond.Beyond.TheVariants.{Zeros}
use Rattle.jpeg_bits.specs.Passes.{Pass}
use Rattle.jpeg_bits.specs.Reading.{Answers, Fault, Names}
use Rattle.jpeg_bits.specs.Stream.{Stream}
use Rattle.jpeg_bits.specs.declared.error.Error.{Error}
use Rattle.jpeg_bits.specs.declared.error.Error.TheVariants.{OutOfMemory}
use Rattle.jpeg_segments.proofs.Codecs.{ok-same}
use Rattle.jpeg_segments.specs.Frame.{Frame}
use Rattle.jpeg_segments.specs.ScanHeader.{IsScanOf, Scan}
use Rattle.jpeg_segments.specs.declared.frame.CodingProcess.TheVariants.{DctSequential}
use Rattle.jpeg_pixels.specs.Pictures.{Source, sources_of}
use Rattle.jpeg_pixels.specs.PicturesView.{IsFor}
use Rattle.jpeg_pixels.specs.declared.color_convert.ColorConvert.{ColorConvert}
use Rattle.jpeg_meaning.specs.Found.{Found, Said}
use Rattle.jpeg_meaning.specs.InTurn.{AreApart, Counted, Fits, counted_at_start}
use Rattle.jpeg_meaning.specs.McuRows.{zero_rows}
use Rattle.jpeg_meaning.specs.Order.{Spot}
use Rattle.jpeg_meaning.specs.ScanSegments.{Coding, codings_of, components_of, once_scanned, with_arrays}
use Rattle.jpeg_meaning.specs.Scans.{Arrays}
use Rattle.jpeg_meaning.specs.Segments.{Turn}
use Rattle.jpeg_meaning.specs.Sound.{IsDecodedFrame, IsUnread}
use Rattle.jpeg_meaning.specs.Stream.{told_of}
use Rattle.jpeg_meaning.specs.declared.settings.Settings.{Settings}
use Rattle.jpeg_meaning.proofs.Soundness.{decoded-fits}
use Rattle.jpeg_decoder.specs.ByRows.{HaveRows, below, lines_from, turn_without, turns_without, without_planes}
use Rattle.jpeg_decoder.specs.FirstLines.{lines_at_scan, planes_to}
use Rattle.jpeg_decoder.specs.Givers.{GivesRow, GivesScan, IsEndOf, IsReady, planes_then}
use Rattle.jpeg_decoder.specs.Reaching as reaching
use Rattle.jpeg_decoder.specs.Reaching.{turn_after}
use Rattle.jpeg_decoder.specs.RowScans.{ComesBy, HasGiven, InScan, ReadsRows, SaysAtScan, rows_to}
use Rattle.jpeg_decoder.specs.Scanning.{BlockScan, IsSpotOf, arrays_in, counted, kept_counted, sizes_of}
use Rattle.jpeg_decoder.specs.Steps.{IsReadable, IsScanBy, after_all, turn_of}
use Rattle.jpeg_decoder.specs.declared.stream.state.Step.{Step}
use Rattle.jpeg_decoder.specs.Strips.{plane_lists, zeros_of}
use Rattle.jpeg_decoder.specs.Walk.{IsOrderOf, walk_of_row, walks_of_rows}
use Rattle.jpeg_decoder.specs.Walks.{known_if}
use Rattle.jpeg_decoder.specs.declared.by_rows.first_scan.RowScan.{RowScan}
use Rattle.jpeg_decoder.specs.declared.by_rows.giver.RowGiver.{RowGiver}
use Rattle.std.specs.declared.alloc.Global.{Global}
use Rattle.std.specs.declared.vec.Vec.{Vec}
use Rattle.jpeg_decoder.specs.declared.scan.block_array.BlockArray.{BlockArray}
use Rattle.jpeg_decoder.specs.declared.scan.blocks.Interval.{Interval}
use Rattle.jpeg_decoder.specs.declared.scan.order.ScanOrder.{ScanOrder}
use Rattle.jpeg_decoder.proofs.ByRows.FirstLines.{IsOutOrNone}
use Rattle.jpeg_decoder.proofs.ByRows.FirstRows.{given-first, planes-walked, row-none}
use Rattle.jpeg_decoder.proofs.ByRows.FrameRows.{decoded-rows}
use Rattle.jpeg_decoder.proofs.ByRows.FromScan.{at-frame, comes-fits, some-stops, some-stops-exceeds, some-stops-told}
use Rattle.jpeg_decoder.proofs.ByRows.GivenRows.{IsEnough, RowRead, given-all, given-lacking, given-next}
use Rattle.jpeg_decoder.proofs.ByRows.GivenRows.{given-none, memory-out, rows-taken}
use Rattle.jpeg_decoder.proofs.ByRows.GivenRows.{row-refused, stay-decided}
use Rattle.jpeg_decoder.proofs.ByRows.GivenScans.{all-components, data-ended, data-lacking, given-scan}
use Rattle.jpeg_decoder.proofs.ByRows.GivenScans.{marked-scan, reads-turn, scanned, some-found}
use Rattle.jpeg_decoder.proofs.ByRows.MarkedScans.{AreMarked, marks_of}
use Rattle.jpeg_decoder.proofs.ByRows.Joined.{ReadsWithout, no-turns}
use Rattle.jpeg_decoder.proofs.ByRows.LinesOfWindows.{only-memory}
use Rattle.jpeg_decoder.proofs.Kept.KeptSpots.{rows-spots}
use Rattle.jpeg_decoder.proofs.Orders.ScanOrders.{rows-walked}
use Rattle.jpeg_decoder.proofs.Scans.ReadableScans.{header-legal, ready}
use Rattle.jpeg_decoder.proofs.Strips.ReachedRows.{rows-apart}
use Rattle.jpeg_decoder.proofs.Strips.StripSteps.{first-row, later-rows, row-count, whole-rows, zeros-are}

-- before the first row
pub begun-given : (frame : Frame) (s : BlockScan) (o : ScanOrder) (giver : RowGiver) (interval : Interval) (mid : Stream)
    (convert : ColorConvert) → IsDecodedFrame frame → components_of s.codings ≡ frame.components
    → IsReady frame s.codings convert 0 giver → counted interval [] ≡ counted_at_start o.interval []
    → interval.decoder ≡ fresh
    → HasGiven frame s o.interval (walk_of_row o) giver.convert (counted_at_start o.interval []) fresh mid giver.rows
    giver (counted interval []) interval.decoder mid []
begun-given frame s o giver interval mid convert decoded is ready starts empty =
    let n = o.interval in
    let f = walk_of_row o in
    let start = counted_at_start n [] in
    subst (λ (a : Ahead). HasGiven frame s n f giver.convert start fresh mid giver.rows giver (counted interval []) a mid
    []) (sym empty)
    (subst (λ (x : Counted). HasGiven frame s n f giver.convert start fresh mid giver.rows giver x fresh mid [])
    (sym starts)
    (subst (λ (k : ℕ). HasGiven frame s n f giver.convert start fresh mid k giver start fresh mid []) (sym ready.taken)
    (subst (λ (c : ColorConvert). HasGiven frame s n f c start fresh mid 0 giver start fresh mid []) (sym ready.converts)
    (given-none frame s n f convert start fresh mid is (decoded-rows frame decoded) giver ready))))

-- ---- between two rows

-- What is known of a scan of all components of a frame, as it is looked up anew.
pub record IsAtRow (found : Found) (scan : RowScan) (cur : Stream) (bytes : List ℕ) (frame : Frame) (s : BlockScan)
    (mid : Stream) : Type 0 where
  pub decoded : IsDecodedFrame frame
  pub framed : found.said.frame ≡ Some frame
  pub legal : IsScanOf frame scan.header
  pub sequential : frame.process ≡ DctSequential
  pub all : length scan.header.components ≡ length frame.components
  pub fits : IsFor (length frame.components) scan.giver.convert
  pub by : IsScanBy found.said frame scan.header s
  pub readable : IsReadable frame s
  pub components : components_of s.codings ≡ frame.components
  pub order : IsOrderOf frame (components_of s.codings) s.restart_interval scan.order
  pub zeros : scan.interval.beyond ≡ Zeros
  pub given : HasGiven frame s scan.order.interval (walk_of_row scan.order) scan.giver.convert
      (counted_at_start scan.order.interval []) fresh mid scan.giver.rows scan.giver (counted scan.interval [])
      scan.interval.decoder cur bytes

-- what is given of a scan is given of any that is coded so
with_codings : BlockScan → Pass → List Coding → BlockScan
with_codings s p codings = record s { pass = p; codings = codings }

same-given : (said : Said) (frame : Frame) (header : Scan) (s other : BlockScan) (n : ℕ) (f : ℕ → List Spot)
    (convert : ColorConvert) (start : Counted) (a : Ahead) (old : Stream) (row : ℕ) (g : RowGiver) (now : Counted)
    (b : Ahead) (new : Stream) (bytes : List ℕ) → IsScanBy said frame header s → IsScanBy said frame header other
    → HasGiven frame s n f convert start a old row g now b new bytes
    → HasGiven frame other n f convert start a old row g now b new bytes
same-given said frame header s other n f convert start a old row g now b new bytes by also h =
    let g1 : HasGiven frame (record s { codings = other.codings }) n f convert start a old row g now b new bytes =
    subst (λ (cs : List Coding). HasGiven frame (record s { codings = cs }) n f convert start a old row g now b new
    bytes) (ok-same s.codings other.codings (sym by.codings ∙ also.codings)) h in
    let g2 : HasGiven frame (record s { codings = other.codings; pass = other.pass }) n f convert start a old row g now
    b new bytes =
    subst (λ (p : Pass). HasGiven frame (record s { codings = other.codings; pass = p }) n f convert start a old row g
    now b new bytes) (by.pass ∙ sym also.pass) g1 in
    record { ready = g2.ready; planes = g2.planes; ends = g2.ends; left = g2.left; lines = g2.lines }

same-order : (said : Said) (frame : Frame) (header : Scan) (s other : BlockScan) (o : ScanOrder)
    → IsScanBy said frame header s → IsScanBy said frame header other
    → IsOrderOf frame (components_of s.codings) s.restart_interval o
    → IsOrderOf frame (components_of other.codings) other.restart_interval o
same-order said frame header s other o by also h =
    subst (λ (n : ℕ). IsOrderOf frame (components_of other.codings) n o) (by.restart ∙ sym also.restart)
    (subst (λ (cs : List Coding). IsOrderOf frame (components_of cs) s.restart_interval o)
    (ok-same s.codings other.codings (sym by.codings ∙ also.codings)) h)

pub at-row : (settings : Settings) (k : Bool) (found : Found) (at : Stream) (scan : RowScan) (cur : Stream)
    (bytes : List ℕ) (h : InScan settings k found at scan cur bytes) (frame : Frame) (s : BlockScan)
    → found.said.frame ≡ Some frame → IsScanBy found.said frame scan.header s
    → IsAtRow found scan cur bytes frame s h.mid
at-row settings k found at scan cur bytes h frame s framed by =
    let decoded = h.header.sound.frames frame framed in
    let legal = header-legal found frame scan.header framed h.header.legal in
    let asked = at-frame _ found.said.frame frame framed (comes-fits settings found.said scan.header scan.transform
    scan.giver.convert found.said.frame h.comes) in
    let r = at-frame (λ (f : Frame). ReadsRows found f scan h.mid cur bytes) found.said.frame frame framed h.reads in
    let readable = ready found frame scan.header s decoded legal by.codings by.count in
    record {
      decoded = decoded;
      framed = framed;
      legal = legal;
      sequential = asked.0;
      all = asked.1;
      fits = asked.2;
      by = by;
      readable = readable;
      components = all-components found frame scan.header s framed asked.0 by readable decoded legal asked.1;
      order = same-order found.said frame scan.header r.s s scan.order r.by by r.order;
      zeros = r.zeros;
      given = same-given found.said frame scan.header r.s s _ _ _ _ _ _ _ _ _ _ _ _ r.by by r.given;
    }

-- one of all rows
at-place : (P : List Spot → Type 0) (f : ℕ → List Spot) (n from high : ℕ) → from + n < high
    → AllByRecursion P (map f (range_with_len from (high - from))) → P (f (from + n))
at-place P f zero from high lt all =
    subst (λ (k : ℕ). P (f k)) (omega arith) (first-row P f from high (omega arith) all)
at-place P f (suc n) from high lt all =
    subst (λ (k : ℕ). P (f k)) (omega arith)
    (at-place P f n (from + 1) high (omega arith) (later-rows P f from high (omega arith) all))

at-one : (P : List Spot → Type 0) (o : ScanOrder) (row : ℕ) → row < o.rows → AllByRecursion P (walks_of_rows o)
    → P (walk_of_row o row)
at-one P o row lt all =
    subst (λ (k : ℕ). P (walk_of_row o k)) (omega arith)
    (at-place P (walk_of_row o) row 0 o.rows (omega arith)
    (subst (AllByRecursion P) (whole-rows (walk_of_row o) o.rows) all))

module _ (found : Found) (scan : RowScan) (cur : Stream) (bytes : List ℕ) (frame : Frame) (s : BlockScan) (mid : Stream)
    (r : IsAtRow found scan cur bytes frame s mid) where
  abbrev row : ℕ
  row = scan.giver.rows

  abbrev left_rows : ℕ
  left_rows = scan.order.rows

  fitting : AllByRecursion (Fits frame) (components_of s.codings)
  fitting = subst (AllByRecursion (Fits frame)) (sym r.components) (decoded-fits frame r.decoded)

  in-order : row < frame.mcus_high → row < left_rows
  in-order lt = let same = r.order.rows in omega arith

  pub spots-of-row : row < frame.mcus_high
      → AllByRecursion (IsSpotOf (length s.codings) (sizes_of scan.giver.blocks.items)) (walk_of_row scan.order row)
  spots-of-row lt =
      at-one (AllByRecursion (IsSpotOf (length s.codings) (sizes_of scan.giver.blocks.items))) scan.order row
      (in-order lt)
      (subst (AllByRecursion (AllByRecursion (IsSpotOf (length s.codings) (sizes_of scan.giver.blocks.items))))
      (sym (rows-walked frame (components_of s.codings) s.restart_interval scan.order r.order))
      (rows-spots frame s.codings scan.giver.blocks.items fitting r.given.ready.sizes))

  pub apart-in-row : row < frame.mcus_high → AreApart (walk_of_row scan.order row)
  apart-in-row lt =
      at-one AreApart scan.order row (in-order lt)
      (subst (AllByRecursion AreApart)
      (sym (rows-walked frame (components_of s.codings) s.restart_interval scan.order r.order))
      (rows-apart frame (components_of s.codings) fitting))

  no-blocks : zeros_of (sizes_of scan.giver.blocks.items) ≡ zero_rows 1 (components_of s.codings)
  no-blocks = ap zeros_of r.given.ready.sizes ∙ zeros-are s.codings

  -- a refusal in the rows is one of the scan
  abbrev Refused : Error → Ahead → Stream → Type 0
  Refused e b new = Takes (λ (u : Unit {0}). r.given.planes)
      (rows_to s scan.order.interval (walk_of_row scan.order) (counted_at_start scan.order.interval []) left_rows) fresh
      mid (Err e) b new

  refused-scan : (e : Error) (b : Ahead) (new : Stream) → Refused e b new
      → ReadsWithout found scan.header found mid (Err e) new
  refused-scan e b new t =
      reads-turn found frame scan.header s r.framed r.sequential r.by r.readable (λ step. turn_of found step) found
      r.given.planes mid new (Err e) (Err e) refl tt
      (data-lacking frame s scan.order mid r.given.planes b new r.order e t) refl

  -- memory ran out before the row
  pub row-unread : (e : Error) → e ≡ OutOfMemory → row ≤ left_rows
      → ReadsWithout found scan.header found mid (Err e) cur
  row-unread e out le = refused-scan e scan.interval.decoder cur
      (memory-out s scan.order.interval (walk_of_row scan.order) (counted_at_start scan.order.interval []) fresh
      scan.interval.decoder mid cur row r.given.planes (counted scan.interval []) r.given.left
      (λ (u : Unit {0}). r.given.planes) e left_rows le out)

  -- a block of it is refused
  pub row-stops : (e : Error) (d : Ahead) (new : Stream) (view : Unit {0} → Counted) → row < frame.mcus_high
      → Takes view (RowRead s scan.order.interval (walk_of_row scan.order row)
      (zeros_of (sizes_of scan.giver.blocks.items)) (counted scan.interval [])) scan.interval.decoder cur (Err e) d new
      → ReadsWithout found scan.header found mid (Err e) new
  row-stops e d new view lt t = refused-scan e d new
      (row-refused s scan.order.interval (walk_of_row scan.order) (counted_at_start scan.order.interval []) fresh
      scan.interval.decoder d mid cur new row r.given.planes _ (counted scan.interval []) no-blocks r.given.left
      (λ (u : Unit {0}). r.given.planes) view left_rows e (in-order lt) t)

  -- Then as many rows can't be read.
  pub row-lacking : (e : Error) (d : Ahead) (new : Stream) (view : Unit {0} → Counted) → row < frame.mcus_high
      → Takes view (RowRead s scan.order.interval (walk_of_row scan.order row)
      (zeros_of (sizes_of scan.giver.blocks.items)) (counted scan.interval [])) scan.interval.decoder cur (Err e) d new
      → mid.known ≡ true → new.known ≡ true
      → Names e (planes_to (row + 1) found.said frame scan.header s.codings mid.bytes)
  row-lacking e d new view lt t known still =
      let n = scan.order.interval in
      let f = walk_of_row scan.order in
      let q = row-refused s n f (counted_at_start n []) fresh scan.interval.decoder d mid cur new row r.given.planes _
      (counted scan.interval []) no-blocks r.given.left (λ (u : Unit {0}). r.given.planes) view (row + 1) e (omega arith)
      t in
      subst (λ (o : Result (List (List ℕ) × Text) Fault). Names e o)
      (sym (planes-walked found.said frame scan.header s scan.order (row + 1) mid.bytes r.by r.order (omega arith)))
      (q.1 known still)

  -- It was read.
  module _ (lt : row < frame.mcus_high) (interval : Interval) (blocks : RowGiver)
      (convert : blocks.convert ≡ scan.giver.convert) (taken : blocks.rows ≡ row)
      (planes : blocks.planes ≡ scan.giver.planes)
      (sizes : sizes_of blocks.blocks.items ≡ sizes_of scan.giver.blocks.items) (new : Stream)
      (read : Takes (λ (u : Unit {0}). kept_counted s.keeps_ac (counted interval (arrays_in blocks.blocks.items)))
      (RowRead s scan.order.interval (walk_of_row scan.order row) (zeros_of (sizes_of scan.giver.blocks.items))
      (counted scan.interval [])) scan.interval.decoder cur (Ok tt) interval.decoder new)
      (enough : IsEnough s) where
    kept-ends : (ps : List (List ℕ)) → IsEndOf frame ps scan.giver → IsEndOf frame ps blocks
    kept-ends ps ends = record {
      rows = subst (λ (k : ℕ). HaveRows k frame.components ps) (sym taken) ends.rows;
      are = ap (λ (k : ℕ). below (k - min k 2) frame.components ps) taken ∙ ends.are
          ∙ ap (λ v. plane_lists v.items) (sym planes);
    }

    -- and memory ran out
    pub row-lacks : (e : Error) → e ≡ OutOfMemory → ReadsWithout found scan.header found mid (Err e) new
    row-lacks e out = refused-scan e interval.decoder new
        (given-lacking frame s scan.order.interval (walk_of_row scan.order) scan.giver.convert
        (counted_at_start scan.order.interval []) fresh mid r.components (decoded-rows frame r.decoded) row scan.giver
        (counted scan.interval []) scan.interval.decoder cur bytes r.given
        (stay-decided frame s.codings scan.giver.convert r.decoded r.components) lt blocks blocks convert taken
        kept-ends (counted interval (arrays_in blocks.blocks.items)) refl
        (row-count s.codings blocks.blocks.items (sizes ∙ r.given.ready.sizes)) interval.decoder new _ no-blocks enough
        read (λ (u : Unit {0}). r.given.planes) e left_rows (in-order lt) out)

    -- or its lines were made
    pub row-given : (giver : RowGiver) (all : RowScan) → giver.convert ≡ scan.giver.convert
        → IsReady frame s.codings scan.giver.convert (row + 1) giver → GivesRow frame s.codings blocks giver
        → all ≡ record scan { interval = interval; giver = giver } → interval.beyond ≡ Zeros
        → ReadsRows found frame all mid new (bytes ++ giver.lines.items)
    row-given giver all same is gives made beyond =
        let n = scan.order.interval in
        let f = walk_of_row scan.order in
        let given = given-next frame s n f scan.giver.convert (counted_at_start n []) fresh mid r.components
        (decoded-rows frame r.decoded) row scan.giver (counted scan.interval []) scan.interval.decoder cur bytes r.given
        (stay-decided frame s.codings scan.giver.convert r.decoded r.components) lt blocks giver convert taken
        kept-ends (counted interval (arrays_in blocks.blocks.items)) refl
        (row-count s.codings blocks.blocks.items (sizes ∙ r.given.ready.sizes)) interval.decoder new _ no-blocks enough
        read is gives in
        let here : HasGiven frame s n f giver.convert (counted_at_start n []) fresh mid giver.rows giver
        (counted interval []) interval.decoder new (bytes ++ giver.lines.items) =
        subst (λ (c : ColorConvert). HasGiven frame s n f c (counted_at_start n []) fresh mid giver.rows giver
        (counted interval []) interval.decoder new (bytes ++ giver.lines.items)) (sym same)
        (subst (λ (k : ℕ). HasGiven frame s n f scan.giver.convert (counted_at_start n []) fresh mid k giver
        (counted interval []) interval.decoder new (bytes ++ giver.lines.items)) (sym is.taken) given) in
        subst (λ (x : RowScan). ReadsRows found frame x mid new (bytes ++ giver.lines.items)) (sym made)
        (record {
          s = s;
          by = r.by;
          order = r.order;
          zeros = beyond;
          within = let n = is.taken in omega arith;
          given = here;
        })

-- ---- what is said where a row is refused

scan-says : (settings : Settings) (k : Bool) (found : Found) (at : Stream) (scan : RowScan) (cur new : Stream)
    (bytes : List ℕ) (h : InScan settings k found at scan cur bytes) (e : Error)
    → ReadsWithout found scan.header found h.mid (Err e) new → (k ≡ true → new.known ≡ true
    → IsOutOrNone e (lines_at_scan (scan.giver.rows + 1) settings found at.bytes))
    → SaysAtScan settings k found at (Err e) new (told_of found.said) false bytes
scan-says settings k found at scan cur new bytes h e a lacks =
    let left = scan.walk.budget.left in
    let from = known_if k at in
    record {
      gives = some-stops settings settings.max_blocks left found found scan.header from h.mid h.header found new e
          (told_of found.said) bytes a;
      tells = some-stops-told settings settings.max_blocks left found found scan.header from h.mid h.header found new e
          refl a;
      turns = λ k. no-turns settings.max_blocks found at.bytes (told_of found.said) refl;
      exceeds = some-stops-exceeds settings settings.max_blocks left found found scan.header from h.mid h.header found
          new e false refl a;
      given = given-first settings k found at scan cur bytes h e new.known lacks;
    }

-- a scan that was looked up before is there
pub looked-up : (found : Found) (frame : Frame) (header : Scan) (s : BlockScan) (e : Error)
    → IsScanBy found.said frame header s → Names e (codings_of found.said frame header) → e ≡ OutOfMemory
looked-up found frame header s e by names =
    only-memory e (codings_of found.said frame header) s.codings by.codings names

-- The tables aren't found again only where memory runs out.
scan-lost : (settings : Settings) (k : Bool) (found : Found) (at : Stream) (scan : RowScan) (cur : Stream)
    (bytes : List ℕ) (h : InScan settings k found at scan cur bytes) (frame : Frame) (e : Error)
    → found.said.frame ≡ Some frame → scan.giver.rows ≤ frame.mcus_high
    → Names e (codings_of found.said frame scan.header) → ReadsWithout found scan.header found h.mid (Err e) cur
scan-lost settings k found at scan cur bytes h frame e framed le names =
    let r = at-frame (λ (f : Frame). ReadsRows found f scan h.mid cur bytes) found.said.frame frame framed h.reads in
    let row = at-row settings k found at scan cur bytes h frame r.s framed r.by in
    let all = row.order.rows in
    row-unread found scan cur bytes frame r.s h.mid row e (looked-up found frame scan.header r.s e r.by names)
    (omega arith)

-- A row is refused.
pub row-says : (settings : Settings) (k : Bool) (found : Found) (at : Stream) (scan : RowScan) (cur new : Stream)
    (bytes : List ℕ) (h : InScan settings k found at scan cur bytes) (frame : Frame) (s : BlockScan)
    → IsAtRow found scan cur bytes frame s h.mid → scan.giver.rows < frame.mcus_high → (e : Error) (d : Ahead)
    (view : Unit {0} → Counted) → Takes view (RowRead s scan.order.interval (walk_of_row scan.order scan.giver.rows)
    (zeros_of (sizes_of scan.giver.blocks.items)) (counted scan.interval [])) scan.interval.decoder cur (Err e) d new
    → SaysAtScan settings k found at (Err e) new (told_of found.said) false bytes
row-says settings k found at scan cur new bytes h frame s row lt e d view t =
    scan-says settings k found at scan cur new bytes h e
    (row-stops found scan cur bytes frame s h.mid row e d new view lt t)
    (λ is still. row-none settings k found at scan cur bytes h is frame row.framed s.codings e row.by.codings
    (row-lacking found scan cur bytes frame s h.mid row e d new view lt t (h.header.header.1 is).0 still))

-- The tables aren't found again.
pub lost-says : (settings : Settings) (k : Bool) (found : Found) (at : Stream) (scan : RowScan) (cur : Stream)
    (bytes : List ℕ) (h : InScan settings k found at scan cur bytes) (frame : Frame) (e : Error)
    → found.said.frame ≡ Some frame → scan.giver.rows ≤ frame.mcus_high
    → Names e (codings_of found.said frame scan.header)
    → SaysAtScan settings k found at (Err e) cur (told_of found.said) false bytes
lost-says settings k found at scan cur bytes h frame e framed le names =
    let r = at-frame (λ (f : Frame). ReadsRows found f scan h.mid cur bytes) found.said.frame frame framed h.reads in
    scan-says settings k found at scan cur cur bytes h e
    (scan-lost settings k found at scan cur bytes h frame e framed le names)
    (λ is still. inl (looked-up found frame scan.header r.s e r.by names))

-- A row was read: its lines were made, or memory ran out.
module _ (settings : Settings) (k : Bool) (found : Found) (at : Stream) (scan : RowScan) (cur new : Stream)
    (bytes : List ℕ) (h : InScan settings k found at scan cur bytes) (frame : Frame) (s : BlockScan)
    (row : IsAtRow found scan cur bytes frame s h.mid) (framed : found.said.frame ≡ Some frame)
    (lt : scan.giver.rows < frame.mcus_high) (interval : Interval) (blocks : Vec BlockArray Global)
    (sizes : sizes_of blocks.items ≡ sizes_of scan.giver.blocks.items)
    (read : Takes (λ (u : Unit {0}). kept_counted s.keeps_ac (counted interval (arrays_in blocks.items)))
    (RowRead s scan.order.interval (walk_of_row scan.order scan.giver.rows)
    (zeros_of (sizes_of scan.giver.blocks.items))
    (counted scan.interval [])) scan.interval.decoder cur (Ok tt) interval.decoder new)
    (enough : IsEnough s) (beyond : interval.beyond ≡ scan.interval.beyond) (giver : RowGiver) where
  abbrev pub with_blocks : RowGiver
  with_blocks = record scan.giver { blocks = blocks }

  abbrev pub after_row : RowScan
  after_row = record scan { interval = interval; giver = giver }

  pub row-taken : (r : Result (Unit {0}) Error)
      → OnOk r (IsReady frame s.codings scan.giver.convert (scan.giver.rows + 1) giver)
      → OnOk r (GivesRow frame s.codings with_blocks giver) → IfErr r (λ e. e ≡ OutOfMemory)
      → MatchResult r (λ _. InScan settings k found at after_row new (bytes ++ giver.lines.items))
      (λ e. SaysAtScan settings k found at (Err e) new (told_of found.said) false bytes)
  row-taken (Ok u) ready gives out = record {
    mid = h.mid;
    header = h.header;
    known = h.known;
    going = h.going;
    unread = h.unread;
    spare = h.spare;
    comes = subst (λ (c : ColorConvert). ComesBy settings found scan.header scan.transform c) (sym ready.converts)
        h.comes;
    reads = some-found _ found.said.frame frame framed (row-given found scan cur bytes frame s h.mid row lt interval
        with_blocks refl refl refl sizes new read enough giver after_row ready.converts ready gives refl
        (beyond ∙ row.zeros));
  }
  row-taken (Err e) ready gives out =
      scan-says settings k found at scan cur new bytes h e (row-lacks found scan cur bytes frame s h.mid row lt interval
      with_blocks refl refl refl sizes new read enough e out) (λ is still. inl out)

-- All rows were read, and what stands after them.
module _ (found : Found) (scan : RowScan) (cur : Stream) (bytes : List ℕ) (frame : Frame) (s : BlockScan) (mid : Stream)
    (r : IsAtRow found scan cur bytes frame s mid) (ended : frame.mcus_high ≡ scan.giver.rows) (met reached : Result (Option Marker) Error) (next new : Stream)
    (marker : Answers (λ (m : Option Marker). m) (λ bytes. marker_from (upcoming scan.interval.decoder bytes)) cur met next)
    (passed : IfOk met (λ m. Answers (λ (m : Option Marker). m) (after_all m) next reached new))
    (refused : IfErr met (λ e. (reached ≡ Err e) × (new ≡ next))) (prev : Found) (v : Step → Turn)
    (result : Result Step Error)
    (step : reaching.IsEndOf prev v reached result)
    (marks : (arrays : Arrays) → length arrays ≡ length s.codings
    → without_planes (once_scanned prev) ≡ without_planes (with_arrays s.pass s.codings arrays (scanned found)))
  where
    abbrev planes : List (List ℕ)
    planes = r.given.planes

    read : Answers (λ (m : Option Marker). (planes, m)) (planes_then frame s) mid reached new
    read =
        let high = r.order.rows in
        data-ended frame s scan.order mid planes scan.interval.decoder cur r.order next new met reached
        (rows-taken s scan.order.interval (walk_of_row scan.order) (counted_at_start scan.order.interval []) fresh
        scan.interval.decoder mid cur scan.giver.rows planes (counted scan.interval []) r.given.left
        (λ (u : Unit {0}). planes) tt scan.order.rows (omega arith) (omega arith) refl) marker passed refused

    sized : HaveRows frame.mcus_high frame.components planes
        × ((sources : List Source)
        → sources_of frame.components frame.output_width frame.output_height ≡ Ok sources
        → bytes ≡ concat (lines_from frame scan.giver.convert sources planes 0 frame.output_height))
    sized = given-all frame s scan.order.interval (walk_of_row scan.order) scan.giver.convert
        (counted_at_start scan.order.interval []) fresh mid r.components (decoded-rows frame r.decoded) scan.giver.rows
        scan.giver (counted scan.interval []) scan.interval.decoder cur bytes r.given (sym ended)

    pub scan-ended : prev.said ≡ found.said → Answers (λ (step : Step). turn_without (v step))
        (λ bytes. turns_without (turn_after Zeros found scan.header bytes).turn) mid result new
    scan-ended said =
        reads-turn found frame scan.header s r.framed r.sequential r.by r.readable v prev planes mid new reached result
        said
        (marked-scan found frame scan.header s r.framed r.sequential r.by r.readable r.decoded r.legal r.all prev planes
        reached marks frame.mcus_high sized.0) read step

    pub scan-given : IsUnread found → length found.finished ≡ 4
        → AreMarked (marks_of s.pass s.codings found.finished) s.codings
        → OnOk result (GivesScan found frame scan.header scan.giver.convert mid result bytes)
    scan-given unread four all =
        given-scan found frame scan.header s r.framed r.sequential r.by r.readable r.decoded r.legal r.all
        scan.giver.convert v prev planes mid new reached result bytes four all unread read sized.0 sized.1 step

-- what holds of the frame that was found, where a call succeeds
pub ok-framed : {X : Type 0} (r : Result X Error) (P : Frame → Type 0) (o : Option Frame) (frame : Frame)
    → o ≡ Some frame → OnOk r (P frame) → OnOk r (IfSome o P)
ok-framed (Ok x) P o frame e p = some-found P o frame e p
ok-framed (Err f) P o frame e p = tt

-- no more rows were read than there are
pub rows-within : (settings : Settings) (k : Bool) (found : Found) (at : Stream) (scan : RowScan) (cur : Stream)
    (bytes : List ℕ) → InScan settings k found at scan cur bytes
    → IfSome found.said.frame (λ f. scan.giver.rows ≤ f.mcus_high)
rows-within settings k found at scan cur bytes h = go found.said.frame h.reads
  where
    go : (o : Option Frame) → IfSome o (λ f. ReadsRows found f scan h.mid cur bytes)
        → IfSome o (λ f. scan.giver.rows ≤ f.mcus_high)
    go None r = tt
    go (Some f) r = r.within
