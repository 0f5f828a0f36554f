-- A scan of blocks up to the first that can't be read: what is found after it, by what is reached of its blocks; and
-- the blocks that are taken for a scan of a progressive frame, and put back.
use Rattle.std.proofs.Common.{◌≡◌, ◌*◌, ℕ, List, length, map, Option, Result}
use Rattle.std.proofs.Common.{refl, ap, arith, sym}
use Rattle.std.specs.Prelude.{option_map}
use Rattle.std.specs.List.{AllByRecursion}
use Rattle.std.proofs.lemmas.Grind.{common_steps}
use Rattle.std.proofs.lemmas.List.{length-map}
use Rattle.jpeg_bits.specs.Stream.{Stream}
use Rattle.jpeg_bits.specs.Passes.{Pass}
use Rattle.jpeg_bits.specs.Reading.{Answers}
use Rattle.jpeg_bits.specs.declared.error.Error.{Error}
use Rattle.jpeg_bits.specs.declared.marker.Marker.{Marker}
use Rattle.jpeg_segments.specs.Frame.{Frame}
use Rattle.jpeg_meaning.specs.Brought.{BlocksTo}
use Rattle.jpeg_meaning.specs.Found.{Found}
use Rattle.jpeg_meaning.specs.InTurn.{AreArrays}
use Rattle.jpeg_meaning.specs.Order.{spots_of, mcu_size}
use Rattle.jpeg_meaning.specs.Scans.{Arrays}
use Rattle.jpeg_meaning.specs.ScanSegments.{arrays_before, blocks_after, components_of}
use Rattle.jpeg_meaning.specs.ScanSegments.{once_scanned, put_arrays, vias_from, with_arrays, Coding}
use Rattle.jpeg_meaning.specs.WholeRows.{rows_above}
use Rattle.jpeg_meaning.proofs.Order.McuRows.{arrays-sized, kept-sized}
use Rattle.jpeg_decoder.specs.declared.scan.coded.Coded.{Coded}
use Rattle.jpeg_decoder.specs.declared.scan.decoded.Decoded.{Decoded}
use Rattle.jpeg_decoder.specs.PlanesView.{planes_in}
use Rattle.jpeg_decoder.specs.Reaching.{data_reached, UnlessRefused}
use Rattle.jpeg_decoder.specs.Scanning.{arrays_in, scan_components, scan_vias, sizes_of, BlockScan}
use Rattle.jpeg_decoder.specs.Steps.{blocks_at, coding_in, with_decoded, without_blocks}
use Rattle.jpeg_decoder.specs.Steps.{AreRising, IsCodingOf}
use Rattle.jpeg_decoder.specs.Through.{blocks_reached}
use Rattle.jpeg_decoder.proofs.Kept.BlockArrays.{Held}
use Rattle.jpeg_decoder.proofs.Partial.Refused.{unless}
use Rattle.jpeg_decoder.proofs.Scans.PlacedCodings.{coded-indices}
use Rattle.jpeg_decoder.proofs.Scans.ScanData.{arrays-by-sizes, kept-kept, of-frame, rising-codings, same-found}
use Rattle.jpeg_decoder.proofs.Scans.ScanReads.{answers-as}
use Rattle.jpeg_decoder.proofs.Kept.TakenBlocks.{put-back}

-- ---- what is found

-- what is reached of the blocks of a scan
abbrev pub reached_at : Found → Frame → Pass → List Coding → List ℕ → BlocksTo (Option Marker)
reached_at f frame p codings bytes =
    blocks_reached p (vias_from 0 codings) (f.said.restart * mcu_size (components_of codings))
    (spots_of frame (components_of codings)) (blocks_at codings (arrays_before f frame)) bytes

-- what the code reaches of the blocks of a scan
abbrev pub reached_by : BlockScan → Frame → Arrays → List ℕ → BlocksTo (Option Marker)
reached_by scan frame arrays bytes =
    blocks_reached scan.pass (scan_vias scan) (scan.restart_interval * mcu_size (scan_components scan))
    (spots_of frame (scan_components scan)) arrays bytes

pub reached-as : (f : Found) (frame : Frame) (scan : BlockScan) (arrays : Arrays) (bytes : List ℕ)
    → scan.restart_interval ≡ f.said.restart → arrays ≡ blocks_at scan.codings (arrays_before f frame)
    → reached_by scan frame arrays bytes ≡ reached_at f frame scan.pass scan.codings bytes
reached-as f frame scan arrays bytes n is = grind (arith, common_steps)

-- the marker after its data, or the fault, as the code reads it
pub reached-answers : (f : Found) (frame : Frame) (scan : BlockScan) (arrays : Arrays) (old new : Stream)
    (r : Result (Option Marker) Error) → scan.restart_interval ≡ f.said.restart
    → arrays ≡ blocks_at scan.codings (arrays_before f frame)
    → Answers (λ (m : Option Marker). m) (λ bytes. (reached_by scan frame arrays bytes).rest) old r new
    → UnlessRefused r (Answers (λ (m : Option Marker). m)
    (λ bytes. (data_reached f frame scan.pass scan.codings bytes).met) old r new)
unfolding data_reached
reached-answers f frame scan arrays old new r n is h =
    unless r (answers-as (λ (m : Option Marker). m) (λ bytes. (reached_by scan frame arrays bytes).rest)
    (λ bytes. (data_reached f frame scan.pass scan.codings bytes).met) old new r
    (sym (ap (λ (r : BlocksTo (Option Marker)). r.rest) (reached-as f frame scan arrays old.bytes n is))) h)

-- the complete rows of the picture, as the code counts them
pub rows-as : (f : Found) (frame : Frame) (scan : BlockScan) (arrays : Arrays) (bytes : List ℕ)
    → scan.restart_interval ≡ f.said.restart → arrays ≡ blocks_at scan.codings (arrays_before f frame)
    → option_map (rows_above frame (scan_components scan)) (reached_by scan frame arrays bytes).unread
    ≡ (data_reached f frame scan.pass scan.codings bytes).rows
unfolding data_reached
rows-as f frame scan arrays bytes n is =
    ap (λ (r : BlocksTo (Option Marker)). option_map (rows_above frame (scan_components scan)) r.unread)
    (reached-as f frame scan arrays bytes n is)

pub data-found : (f : Found) (frame : Frame) (p : Pass) (codings : List Coding) (bytes : List ℕ)
    → (data_reached f frame p codings bytes).found ≡ with_arrays p codings (reached_at f frame p codings bytes).reached
    (record (once_scanned f) { kept = blocks_after f frame codings (reached_at f frame p codings bytes).reached })
unfolding data_reached
data-found f frame p codings bytes = refl

-- What is found, of what is reached and added, and of the blocks that are kept.
pub reached-found : (f : Found) (frame : Frame) (p : Pass) (codings : List Coding) (arrays : Arrays)
    (bytes : List ℕ) (one two : Decoded) (kept : Arrays)
    → ((base : Found) → with_decoded base two ≡ with_arrays p codings arrays (with_decoded base one))
    → one.finished ≡ f.finished → one.planes ≡ f.planes → planes_in one.samples ≡ f.samples
    → kept ≡ blocks_after f frame codings arrays
    → arrays ≡ (reached_at f frame p codings bytes).reached
    → ◌≡◌ {A = Found} (record (once_scanned f) {
      kept = kept;
      finished = two.finished;
      planes = two.planes;
      samples = planes_in two.samples;
    }) (data_reached f frame p codings bytes).found
reached-found f frame p codings arrays bytes one two kept added fin pl sa h is =
    let same = same-found f one kept fin pl sa in
    let after = added (once_scanned f) in
    let away = kept-kept p codings arrays (with_decoded (once_scanned f) one) kept in
    grind (arith, common_steps, data-found)

-- ---- the blocks that are taken, and put back

-- the blocks that are taken are those of the components
pub taken-sized : (frame : Frame) (codings : List Coding) (seen : List Coded) (kept taken : List Held) (before : Arrays)
    → map coding_in seen ≡ codings → arrays_in kept ≡ before → arrays_in taken ≡ blocks_at (map coding_in seen)
    (arrays_in kept) → AllByRecursion (IsCodingOf frame) codings
    → AreArrays frame.components before → (arrays_in taken ≡ blocks_at codings before)
    × AreArrays (components_of codings) (arrays_in taken)
taken-sized frame codings seen kept taken before d e t of h =
    grind (arith, common_steps, taken, arrays-sized, of-frame)

-- the blocks that are kept afterwards
pub put-all : (frame : Frame) (codings : List Coding) (seen : List Coded) (kept left taken arrays put : List Held)
    (before : Arrays)
    → map coding_in seen ≡ codings → arrays_in kept ≡ before
    → arrays_in taken ≡ blocks_at (map coding_in seen) (arrays_in kept)
    → arrays_in left ≡ without_blocks (map coding_in seen) (arrays_in kept) → sizes_of arrays ≡ sizes_of taken
    → arrays_in put ≡ put_arrays (map coding_in seen) (arrays_in arrays) (arrays_in left)
    → AllByRecursion (IsCodingOf frame) codings → AreRising codings
    → AreArrays frame.components before
    → (arrays_in put ≡ put_arrays codings (arrays_in arrays) before)
    × AreArrays frame.components (arrays_in put)
put-all frame codings seen kept left taken arrays put before d k t l s h of rising whole =
    let sized = taken-sized frame codings seen kept taken before d k t of whole in
    let long : length arrays ≡ length codings = grind (arith, common_steps, length-map) in
    let is : arrays_in put ≡ put_arrays codings (arrays_in arrays) before
    = grind (arith, common_steps, put-back, coded-indices, rising-codings, length-map) in
    grind (arith, common_steps, arrays-by-sizes, kept-sized, of-frame)
