-- Scans of a sequential frame, by what was read of them row by row of MCUs.
use Rattle.std.proofs.Common.{rules, ◌≡◌, ◌∙◌, List, [], arith, ℕ, Ok, Err}
use Rattle.std.proofs.Common.{Option, false, length, take}
use Rattle.jpeg_bits.specs.Reading.{Fault, Outcome}
use Rattle.jpeg_bits.specs.declared.marker.Marker.{Marker}
use Rattle.jpeg_bits.specs.Passes.{Pass}
use Rattle.jpeg_segments.specs.Frame.{Frame}
use Rattle.jpeg_meaning.specs.Found.{Found}
use Rattle.jpeg_meaning.specs.ScanSegments.{Coding, is_progressive, vias_from, once_scanned}
use Rattle.jpeg_decoder.specs.Scanning.{arrays_in, scan_vias, BlockScan}
use Rattle.jpeg_decoder.specs.PlanesView.{planes_in}
use Rattle.jpeg_decoder.specs.Steps.{AreDecidedFrom, IsReadable, scan_data, with_decoded, with_first_planes}
use Rattle.jpeg_decoder.specs.Strips.{no_samples, planes_at, planes_by_rows}
use Rattle.jpeg_decoder.specs.declared.scan.decoded.Decoded.{Decoded}
use Rattle.jpeg_decoder.proofs.Scans.DecidedScans.{first-planes, first-read, first-refused}
use Rattle.jpeg_decoder.proofs.Scans.ScanData.{data-planes, data-planes-refused, of-frame}
use Rattle.jpeg_decoder.proofs.Strips.StripScans.{Planes, scan-by-rows}
use Rattle.std.proofs.lemmas.Grind.{common_steps}

module _ (found : Found) (before : Decoded) (frame : Frame) (scan : BlockScan) (bytes : List ℕ)
    (process : is_progressive frame.process ≡ false) (restart : scan.restart_interval ≡ found.said.restart)
    (ready : IsReadable frame scan) where
  abbrev f : Found
  f = with_decoded found before

  abbrev p : Pass
  p = scan.pass

  abbrev codings : List Coding
  codings = scan.codings

  abbrev by_rows : Planes → Outcome (Planes × Option Marker)
  by_rows start = planes_by_rows p (scan_vias scan) scan.restart_interval frame codings start bytes

  at-once : planes_at p f.said.restart (vias_from 0 codings) frame codings bytes ≡ by_rows (no_samples codings)
  at-once = grind (arith, common_steps, scan-by-rows)

  all-refused : (fault : Fault) → by_rows (no_samples codings) ≡ Err fault → scan_data f frame p codings bytes ≡ Err fault
  all-refused fault h = search (rules, arith, data-planes-refused, of-frame, at-once)

  pub read-refused : (k : ℕ) (fault : Fault) → by_rows (take k (no_samples codings)) ≡ Err fault
      → scan_data f frame p codings bytes ≡ Err fault
  read-refused k fault h =
      all-refused fault (first-refused k p (scan_vias scan) scan.restart_interval frame codings bytes fault h)

  module _ (met : Option Marker) (rest : List ℕ) (one two : Decoded) (finished : one.finished ≡ f.finished)
      (planes : one.planes ≡ f.planes) (samples : planes_in one.samples ≡ f.samples)
      (none : arrays_in one.kept.items ≡ []) where
    -- the planes of all components, of which only the first ones were made
    pub read-data : (made : Planes) → AreDecidedFrom (length made) one.planes codings
        → by_rows (take (length made) (no_samples codings)) ≡ Ok ((made, met), rest)
        → ((base : Found) → with_decoded base two ≡ with_first_planes p codings made (with_decoded base one))
        → scan_data f frame p codings bytes ≡ Ok ((once_scanned (with_decoded f two), met), rest)
    read-data made decided h added =
        let r = first-read (length made) p (scan_vias scan) scan.restart_interval frame codings bytes made met rest h in
        data-planes f frame p codings r.planes met bytes rest one two process (of-frame frame codings ready.of_frame)
        (at-once ∙ r.read)
        (λ base. added base ∙ first-planes p codings made r.planes (with_decoded base one) r.count r.begins decided)
        finished planes samples none
