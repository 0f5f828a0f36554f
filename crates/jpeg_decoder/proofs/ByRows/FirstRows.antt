-- The lines that a scan has given between two of its rows of MCUs are those that the first rows decide.
use Rattle.std.proofs.Common.{◌≡◌, ◌∙◌, ◌+◌, ◌*◌, ◌≤◌, ℕ, Bool, true, List, [], map, Some, Result, Ok, Err}
use Rattle.std.proofs.Common.{ap, arith, inr, subst, sym}
use Rattle.std.proofs.lemmas.Bool.{lt-leb}
use Rattle.std.specs.List.{range_with_len}
use Rattle.std.specs.Prelude.{IfSome}
use Rattle.jpeg_bits.specs.Entropy.{fresh, upcoming}
use Rattle.jpeg_bits.specs.Passes.{Pass}
use Rattle.jpeg_bits.specs.Reading.{Names}
use Rattle.jpeg_bits.specs.Stream.{Stream}
use Rattle.jpeg_bits.specs.declared.color_transform.ColorTransform.{ColorTransform}
use Rattle.jpeg_bits.specs.declared.error.Error.{Error}
use Rattle.jpeg_segments.specs.Frame.{Frame}
use Rattle.jpeg_segments.specs.ScanHeader.{Scan}
use Rattle.jpeg_meaning.specs.Found.{Found, Said}
use Rattle.jpeg_meaning.specs.InTurn.{counted_at_start}
use Rattle.jpeg_meaning.specs.McuRows.{mcu_row}
use Rattle.jpeg_meaning.specs.Order.{Spot, mcu_size}
use Rattle.jpeg_meaning.specs.ScanSegments.{Coding, codings_of, components_of}
use Rattle.jpeg_meaning.specs.declared.settings.Settings.{Settings}
use Rattle.jpeg_meaning.proofs.Soundness.{decoded-sources}
use Rattle.jpeg_decoder.specs.ByRows.{conversion_in}
use Rattle.jpeg_decoder.specs.FirstLines.{GivesFirst, GivesFirstIf, lines_at_scan, planes_to}
use Rattle.jpeg_decoder.specs.RowScans.{InScan, ReadsRows, rows_to}
use Rattle.jpeg_decoder.specs.Scanning.{BlockScan, counted, scan_vias}
use Rattle.jpeg_decoder.specs.Steps.{IsScanBy, header_within}
use Rattle.jpeg_decoder.specs.Strips.{no_samples, strips_from}
use Rattle.jpeg_decoder.specs.Walk.{IsOrderOf, walk_of_row}
use Rattle.jpeg_decoder.specs.declared.by_rows.first_scan.RowScan.{RowScan}
use Rattle.jpeg_decoder.specs.declared.scan.order.ScanOrder.{ScanOrder}
use Rattle.jpeg_decoder.proofs.ByRows.FirstLines.{IsOutOrNone, planes-lack, planes-lines, unchecked-lacks}
use Rattle.jpeg_decoder.proofs.ByRows.FromScan.{at-frame}
use Rattle.jpeg_decoder.proofs.Orders.ScanOrders.{range-same}
use Rattle.jpeg_decoder.proofs.Strips.StripSteps.{strips_none}

-- The rows are walked as a scan's order has them.
pub planes-walked : (said : Said) (frame : Frame) (header : Scan) (s : BlockScan) (o : ScanOrder) (rows : ℕ)
    (bytes : List ℕ) → IsScanBy said frame header s
    → IsOrderOf frame (components_of s.codings) s.restart_interval o → rows ≤ frame.mcus_high
    → planes_to rows said frame header s.codings bytes
    ≡ rows_to s o.interval (walk_of_row o) (counted_at_start o.interval []) rows (upcoming fresh bytes)
unfolding planes_to
planes-walked said frame header s o rows bytes by order le =
    let cs = components_of s.codings in
    let n : said.restart * mcu_size cs ≡ o.interval =
    ap (λ (k : ℕ). k * mcu_size cs) (sym by.restart) ∙ sym order.interval in
    let walks : map (mcu_row frame cs) (range_with_len 0 rows) ≡ map (walk_of_row o) (range_with_len 0 rows) =
    range-same (mcu_row frame cs) (walk_of_row o) 0 rows (λ k lt. sym (order.each k (omega arith))) in
    ap (λ (p : Pass). strips_from p (scan_vias s) (said.restart * mcu_size cs) s.codings
    (map (mcu_row frame cs) (range_with_len 0 rows)) (no_samples s.codings)
    (counted_at_start (said.restart * mcu_size cs) []) (upcoming fresh bytes)) (sym by.pass)
    ∙ ap (λ (k : ℕ). strips_from s.pass (scan_vias s) k s.codings (map (mcu_row frame cs) (range_with_len 0 rows))
    (no_samples s.codings) (counted_at_start k []) (upcoming fresh bytes)) n
    ∙ ap (λ (l : List (List Spot)). strips_from s.pass (scan_vias s) o.interval s.codings l (no_samples s.codings)
    (counted_at_start o.interval []) (upcoming fresh bytes)) walks

module _ (settings : Settings) (k : Bool) (found : Found) (at : Stream) (scan : RowScan) (cur : Stream)
    (bytes : List ℕ) (h : InScan settings k found at scan cur bytes) (is : k ≡ true) (frame : Frame)
    (framed : found.said.frame ≡ Some frame) where
  abbrev rows : ℕ
  rows = scan.giver.rows

  header : header_within settings.max_blocks found at.bytes ≡ Ok (scan.header, h.mid.bytes)
  header = (h.header.header.1 is).1

  reads : ReadsRows found frame scan h.mid cur bytes
  reads = at-frame (λ (f : Frame). ReadsRows found f scan h.mid cur bytes) found.said.frame frame framed h.reads

  planes-read : planes_to rows found.said frame scan.header reads.s.codings h.mid.bytes
      ≡ Ok (reads.given.planes, upcoming scan.interval.decoder cur.bytes)
  planes-read =
      let s = reads.s in
      planes-walked found.said frame scan.header s scan.order rows h.mid.bytes reads.by reads.order reads.within
      ∙ ((reads.given.left rows (omega arith)).1 (h.header.header.1 is).0).1
      ∙ strips_none s.pass (scan_vias s) scan.order.interval s.codings (walk_of_row scan.order) rows rows
      reads.given.planes (counted scan.interval []) (upcoming scan.interval.decoder cur.bytes) (omega arith)

  lines-here : lines_at_scan rows settings found at.bytes ≡ Ok bytes
  lines-here =
      let comes = at-frame _ found.said.frame frame framed h.comes in
      let sources = decoded-sources frame (h.header.sound.frames frame framed) in
      planes-lines rows settings found scan.header frame at.bytes h.mid.bytes header framed reads.s.codings
      reads.by.codings reads.given.planes (upcoming scan.interval.decoder cur.bytes) scan.giver.convert sources.sources
      comes.0 reads.within planes-read
      (subst (λ (t : ColorTransform). conversion_in frame.components t ≡ Ok scan.giver.convert) comes.1 comes.2)
      sources.is
      ∙ ap (λ (l : List ℕ). Ok l) (sym (reads.given.lines sources.sources sources.is))

  -- a row more can't be read
  pub row-none : (codings : List Coding) (e : Error) → codings_of found.said frame scan.header ≡ Ok codings
      → Names e (planes_to (rows + 1) found.said frame scan.header codings h.mid.bytes)
      → IsOutOrNone e (lines_at_scan (rows + 1) settings found at.bytes)
  row-none codings e coded n =
      planes-lack (rows + 1) settings found scan.header frame at.bytes h.mid.bytes header framed codings coded e n

  -- or there is none
  end-none : (e : Error) → frame.mcus_high ≡ rows → IsOutOrNone e (lines_at_scan (rows + 1) settings found at.bytes)
  end-none e all =
      unchecked-lacks (rows + 1) settings found scan.header frame at.bytes h.mid.bytes header framed e
      (inr (lt-leb (rows + 1) frame.mcus_high (omega arith)))

  rows-first : (e : Error) (known : Bool)
      → (known ≡ true → IsOutOrNone e (lines_at_scan (rows + 1) settings found at.bytes))
      → GivesFirst (λ n. lines_at_scan n settings found at.bytes) e known bytes
  rows-first e known none = record {
    rows = rows;
    are = inr lines-here;
    no_more = none;
  }

-- What a scan has given before an error.
pub given-first : (settings : Settings) (k : Bool) (found : Found) (at : Stream) (scan : RowScan) (cur : Stream)
    (bytes : List ℕ) (h : InScan settings k found at scan cur bytes) (e : Error) (known : Bool)
    → (k ≡ true → known ≡ true → IsOutOrNone e (lines_at_scan (scan.giver.rows + 1) settings found at.bytes))
    → k ≡ true → GivesFirst (λ n. lines_at_scan n settings found at.bytes) e known bytes
given-first settings k found at scan cur bytes h e known none is =
    rows-first settings k found at scan cur bytes h is h.header.legal.frame h.header.legal.framed e known (none is)

-- the same once all rows were read
pub ended-first : (settings : Settings) (k : Bool) (found : Found) (at : Stream) (scan : RowScan) (cur : Stream)
    (bytes : List ℕ) (h : InScan settings k found at scan cur bytes) (r : Result (Unit {0}) Error) (known : Bool)
    → IfSome found.said.frame (λ f. f.mcus_high ≡ scan.giver.rows) → k ≡ true
    → GivesFirstIf (λ n. lines_at_scan n settings found at.bytes) r known bytes
ended-first settings k found at scan cur bytes h (Ok u) known all is = tt
ended-first settings k found at scan cur bytes h (Err e) known all is =
    let frame = h.header.legal.frame in
    let framed = h.header.legal.framed in
    rows-first settings k found at scan cur bytes h is frame framed e known
    (λ _. end-none settings k found at scan cur bytes h is frame framed e
    (at-frame _ found.said.frame frame framed all))
