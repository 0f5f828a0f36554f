-- What a scan takes, where nothing follows the marker that ends its data.
use Rattle.std.proofs.Common.{◌≡◌, ◌-◌, ◌≤◌, ◌<◌, ℕ, suc, List, [], ◌∷◌, Result, Ok, Err, Bool, true, false, Option}
use Rattle.std.proofs.Common.{refl, sym, length, arith}
use Rattle.std.specs.Prelude.{if◌then◌else◌}
use Rattle.std.proofs.lemmas.Grind.{common_steps}
use Rattle.jpeg_bits.specs.Reading.{Outcome, Fault, Malformed, ◌>>=◌}
use Rattle.jpeg_bits.specs.Codes.{Table}
use Rattle.jpeg_bits.specs.Entropy.{text_at}
use Rattle.jpeg_bits.specs.Intervals.{end_after, interval, intervals}
use Rattle.jpeg_bits.specs.Passes.{Pass, Via}
use Rattle.jpeg_bits.specs.Readers.{Reads}
use Rattle.jpeg_bits.specs.declared.marker.Marker.{Marker}
use Rattle.jpeg_segments.specs.Checks.{needed}
use Rattle.jpeg_segments.specs.Frame.{Frame}
use Rattle.jpeg_segments.specs.ScanHeader.{Scan, sos_at}
use Rattle.jpeg_segments.specs.declared.frame.CodingProcess.{CodingProcess}
use Rattle.jpeg_segments.specs.declared.frame.CodingProcess.TheVariants.{Lossless}
use Rattle.jpeg_meaning.specs.Brought.{BlocksTo, Brought, after_interval, after_intervals, blocks_brought}
use Rattle.jpeg_meaning.specs.Brought.{blocks_brought_by, brought_by, frame_and_scan, has_whole_rows, interval_reached}
use Rattle.jpeg_meaning.specs.Brought.{interval_rows_reached, intervals_reached, or_first, samples_brought}
use Rattle.jpeg_meaning.specs.Brought.{samples_brought_by, scan_brought, scan_rows_reached, stopped, unbrought}
use Rattle.jpeg_meaning.specs.Found.{Found}
use Rattle.jpeg_meaning.specs.LosslessScans.{LosslessCoding, lossless_codings}
use Rattle.jpeg_meaning.specs.Order.{Spot}
use Rattle.jpeg_meaning.specs.Scans.{Arrays}
use Rattle.jpeg_meaning.specs.ScanSegments.{codings_of}
use Rattle.jpeg_meaning.proofs.Partial.RowIntervals.{Scanned}
use Rattle.jpeg_meaning.proofs.Shorter.{LeavesBelow, below-at, intervals-below, sos-below}
use Rattle.jpeg_meaning.proofs.Written.ReadTurns.{bind-ok, ok-same}
use Rattle.jpeg_decoder.proofs.Segments.LeftBytes.{LeavesMet, Lowers, On, met-lowers, on-elim, on-err, passes-leaves}
use Rattle.jpeg_decoder.proofs.Segments.PassedRestarts.{after-passes}

-- ---- the data of a scan

-- a reader that leaves these bits
abbrev leaving : List Bool → Unit {0} → Reads (List (Unit {0}))
leaving left u t = Ok ([], record t { bits = left })

-- What stands after an interval stands further on in its bytes, as where its data are read.
stopped-below : (limit : ℕ) (bytes : List ℕ) (r : Result (List Bool) Fault) → length bytes < limit
    → LeavesBelow limit (stopped bytes r)
unfolding interval intervals LeavesBelow
stopped-below limit bytes (Err fault) h = tt
stopped-below limit bytes (Ok left) h =
    go (end_after (length (text_at bytes).bits - length left) bytes left (text_at bytes).ending)
    (intervals-below limit (leaving left) 0 tt [] bytes h)
  where
    go : (o : Outcome (Option Marker)) → LeavesBelow {A = List (Unit {0}) × Option Marker} limit
        (o >>= λ m. Ok (([], m.0), m.1)) → LeavesBelow limit o
    go (Ok m) p = p
    go (Err fault) p = tt

interval-below : (limit : ℕ) (p : Pass) (vias : List Via) (spots : List Spot) (arrays : Arrays) (bytes : List ℕ)
    → length bytes < limit → LeavesBelow limit (interval_reached p vias spots arrays bytes).rest
unfolding interval_reached
interval-below limit p vias spots arrays bytes h = stopped-below limit bytes _ h

last-leaves : (limit : ℕ) (r : Outcome (Option Marker)) → LeavesBelow limit r → LeavesMet limit (r >>= after_intervals)
unfolding LeavesBelow LeavesMet
last-leaves limit (Ok m) p = passes-leaves limit _ (after-passes limit m.0 m.1 p)
last-leaves limit (Err fault) p = tt

next-below : (limit k : ℕ) (r : Outcome (Option Marker)) (rest : List ℕ) → LeavesBelow limit r
    → (r >>= after_interval k) ≡ Ok rest → length rest < limit
unfolding LeavesBelow
next-below limit k r rest p e = grind (arith, common_steps)

-- an interval, and the others after it
next-leaves : {A : Type 0} (rest_of : A → Outcome (Option Marker)) (limit k : ℕ) (r : Outcome (Option Marker))
    (others : List ℕ → A) (refused : Fault → A) → LeavesBelow limit r
    → ((rest : List ℕ) → length rest < limit → LeavesMet limit (rest_of (others rest)))
    → ((fault : Fault) → LeavesMet limit (rest_of (refused fault)))
    → LeavesMet limit (rest_of (elim (r >>= after_interval k) as (λ _. A) [
      | Ok rest ↦ others rest
      | Err fault ↦ refused fault
    ]))
next-leaves {A} rest_of limit k r others refused p h q = go (r >>= after_interval k) refl
  where
    go : (o : Result (List ℕ) Fault) → (r >>= after_interval k) ≡ o
        → LeavesMet limit (rest_of (elim o as (λ _. A) [ Ok rest ↦ others rest | Err fault ↦ refused fault ]))
    go (Ok rest) e = h rest (next-below limit k r rest p e)
    go (Err fault) e = q fault

intervals-leave : (limit : ℕ) (p : Pass) (vias : List Via) (k : ℕ) (spots : List Spot) (more : List (List Spot))
    (arrays : Arrays) (bytes : List ℕ) → length bytes < limit
    → LeavesMet limit (intervals_reached p vias k spots more arrays bytes).rest
unfolding intervals_reached LeavesMet
intervals-leave limit p vias k spots [] arrays bytes h =
    last-leaves limit (interval_reached p vias spots arrays bytes).rest
    (interval-below limit p vias spots arrays bytes h)
intervals-leave limit p vias k spots (next ∷ more) arrays bytes h =
    let r = interval_reached p vias spots arrays bytes in
    next-leaves (λ (s : BlocksTo (Option Marker)). s.rest) limit k r.rest
    (intervals_reached p vias (suc k) next more r.reached)
    (λ fault. record { reached = r.reached; unread = or_first r.unread next; rest = Err fault })
    (interval-below limit p vias spots arrays bytes h)
    (λ rest q. intervals-leave limit p vias (suc k) next more r.reached rest q) (λ fault. tt)

rows-below : (limit : ℕ) (rows : List (List Table)) (bytes : List ℕ) → length bytes < limit
    → LeavesBelow limit (interval_rows_reached rows bytes).1
unfolding interval_rows_reached
rows-below limit rows bytes h = stopped-below limit bytes _ h

rows-leave : (limit k : ℕ) (rows : List (List Table)) (more : List (List (List Table))) (bytes : List ℕ)
    → length bytes < limit → LeavesMet limit (scan_rows_reached k rows more bytes).1
unfolding scan_rows_reached LeavesMet
rows-leave limit k rows [] bytes h =
    last-leaves limit (interval_rows_reached rows bytes).1 (rows-below limit rows bytes h)
rows-leave limit k rows (next ∷ more) bytes h =
    let r = interval_rows_reached rows bytes in
    next-leaves (λ (s : Scanned). s.1) limit k r.1
    (λ rest. let s = scan_rows_reached (suc k) next more rest in (r.0 ∷ s.0, s.1)) (λ fault. (r.0 ∷ [], Err fault))
    (rows-below limit rows bytes h) (λ rest q. rows-leave limit (suc k) next more rest q) (λ fault. tt)

-- ---- a scan

blocks-lower : (limit : ℕ) (found : Found) (frame : Frame) (scan : Scan) (bytes : List ℕ) → length bytes < limit
    → On (Lowers limit) (blocks_brought found frame scan bytes).turn
unfolding blocks_brought blocks_brought_by
blocks-lower limit found frame scan bytes h =
    on-elim (Lowers limit) (codings_of found.said frame scan) _ found (λ codings is.
    met-lowers limit found _ _ (intervals-leave limit _ _ 0 _ _ _ bytes h))

whole-lowers : (limit : ℕ) (found : Found) (frame : Frame) (scan : Scan) (codings : List LosslessCoding)
    (bytes : List ℕ) (b : Bool) → length bytes < limit
    → On (Lowers limit) (if◌then◌else◌ {A = Brought} b (samples_brought_by found frame scan codings bytes)
    (unbrought found (Err Malformed))).turn
unfolding samples_brought_by
whole-lowers limit found frame scan codings bytes true h = met-lowers limit found _ _ (rows-leave limit 0 _ _ bytes h)
whole-lowers limit found frame scan codings bytes false h = on-err (Lowers limit) Malformed

samples-lower : (limit : ℕ) (found : Found) (frame : Frame) (scan : Scan) (bytes : List ℕ) → length bytes < limit
    → On (Lowers limit) (samples_brought found frame scan bytes).turn
unfolding samples_brought
samples-lower limit found frame scan bytes h =
    on-elim (Lowers limit) (lossless_codings found.said.huffman.dc frame scan.components scan.dc_destinations) _ found
    (λ codings is. whole-lowers limit found frame scan codings bytes (has_whole_rows found frame scan codings) h)

process-lowers : (limit : ℕ) (p : CodingProcess) (found : Found) (frame : Frame) (scan : Scan) (bytes : List ℕ)
    → length bytes < limit → On (Lowers limit) (brought_by p found frame scan bytes).turn
process-lowers limit Lossless found frame scan bytes h = samples-lower limit found frame scan bytes h
process-lowers limit p found frame scan bytes h = blocks-lower limit found frame scan bytes h

header-takes : (limit : ℕ) (found : Found) (bytes : List ℕ) (x : Frame × (Scan × List ℕ)) → length bytes ≤ limit
    → frame_and_scan found bytes ≡ Ok x → length x.1.1 < limit
header-takes limit found bytes x h e =
    let frame = bind-ok (needed found.said.frame) _ x e in
    let scan = bind-ok (sos_at frame.0 bytes) _ x frame.2 in
    let same = ok-same _ x scan.2 in
    let less : length scan.0.1 < limit = below-at limit _ scan.0 (sos-below limit frame.0 bytes h) scan.1 in
    rw (sym same) less

pub scan-lowers : (limit : ℕ) (found : Found) (bytes : List ℕ) → length bytes ≤ limit
    → On (Lowers limit) (scan_brought found bytes).turn
unfolding scan_brought
scan-lowers limit found bytes h =
    on-elim (Lowers limit) (frame_and_scan found bytes) _ found (λ x is.
    process-lowers limit x.0.process found x.0 x.1.0 x.1.1 (header-takes limit found bytes x h is))
