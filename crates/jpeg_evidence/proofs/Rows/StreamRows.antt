-- The complete rows of a stream stay where a longer one goes on in its last scan.
use Rattle.std.proofs.Common.{◌≡◌, ℕ, suc, ◌++◌, List, length, Option, None, Result}
use Rattle.std.proofs.Common.{Ok, Err, false, sym, ap, ◌∙◌, subst}
use Rattle.std.specs.Prelude.{option_map, unwrap_or}
use Rattle.jpeg_bits.specs.Reading.{Fault}
use Rattle.jpeg_bits.specs.declared.beyond.Beyond.TheVariants.{Nothing}
use Rattle.jpeg_bits.specs.declared.marker.Marker.{Marker}
use Rattle.jpeg_meaning.specs.declared.before.Before.{Before}
use Rattle.jpeg_segments.specs.Frame.{Frame}
use Rattle.jpeg_segments.specs.Scales.{IsSizedFrame}
use Rattle.jpeg_meaning.specs.declared.settings.Settings.{Settings}
use Rattle.jpeg_meaning.specs.Found.{Found}
use Rattle.jpeg_meaning.specs.Order.{spots_of}
use Rattle.jpeg_meaning.specs.ScanSegments.{components_of}
use Rattle.jpeg_meaning.specs.Shown.{planes_by, rows_of_found, rows_of_frame, whole_rows_rest}
use Rattle.jpeg_meaning.specs.Stream.{Walked, all_brought, turn_at, walk}
use Rattle.jpeg_meaning.proofs.Written.ReadTurns.{same-frame}
use Rattle.jpeg_evidence.specs.CompleteRows.{HasFirstRows, HasSizedFrame, KeepsRows, first_rows}
use Rattle.jpeg_evidence.specs.CompleteRows.KeepsRows.{in_front, in_rows, in_scan}
use Rattle.jpeg_evidence.specs.CutImages.{rows_before}
use Rattle.jpeg_evidence.proofs.Cut.CutRows.{rows-first}
use Rattle.jpeg_meaning.proofs.Longer.LongerTurns.{ScanAdds, StopsAt, longer_streams_stop, walk_on}
use Rattle.jpeg_meaning.proofs.Longer.LongerTurns.StopsAt.{at_front, at_rows, at_scan}
use Rattle.jpeg_evidence.proofs.Rows.OnwardTurns.{scan-framed, walk-onward}
use Rattle.jpeg_meaning.specs.declared.before.Before.TheVariants.{Elsewhere}
use Rattle.jpeg_evidence.proofs.Rows.ScanRows.{no-rows, rows_of_scans_stay}

-- the rows above the first block that shorter data lack, or all rows
pub rows-above : (last brought longer : Found) (rows : Option ℕ) (a : ScanAdds last brought rows longer)
    → unwrap_or rows a.goes.frame.output_height
    ≡ rows_before a.goes.frame (components_of a.goes.codings) a.goes.reads_on.others
rows-above last brought longer rows a =
    rows-first a.goes.frame (components_of a.goes.codings) (spots_of a.goes.frame (components_of a.goes.codings))
    a.goes.reads_on.done a.goes.reads_on.others rows a.goes.reads_on.parts a.rows_are

-- The complete rows, as they are counted.
pub adds-rows : (settings : Settings) (last brought longer : Found) (rows : Option ℕ) → HasSizedFrame brought
    → ScanAdds last brought rows longer → HasFirstRows settings (rows_of_found rows brought) brought longer
adds-rows settings last brought longer rows sized a frame x y framed d e =
    subst (λ (n : ℕ). first_rows settings frame n x ≡ first_rows settings frame n y) (sym counted)
    (go (planes_by frame.process brought frame))
  where
    counted : rows_of_found rows brought ≡ rows_of_frame rows brought frame
    counted = ap (λ (o : Option Frame). unwrap_or (option_map (rows_of_frame rows brought) o) 0) framed

    same : a.goes.frame ≡ frame
    same = same-frame a.goes.frame frame brought.said.frame
        (ap (λ (f : Found). f.said.frame) a.goes.shorter_is
        ∙ scan-framed last a.goes.frame a.goes.scan a.goes.codings a.goes.blocks ∙ a.framed) framed

    stay : first_rows settings a.goes.frame (unwrap_or rows a.goes.frame.output_height) x
        ≡ first_rows settings a.goes.frame (unwrap_or rows a.goes.frame.output_height) y
    stay = subst (λ (n : ℕ). first_rows settings a.goes.frame n x ≡ first_rows settings a.goes.frame n y)
        (sym (rows-above last brought longer rows a))
        (rows_of_scans_stay settings last brought longer a.goes x y (subst IsSizedFrame (sym same) (sized frame framed))
        a.lossy a.framed a.coded d e)

    go : (o : Result (List (List ℕ)) Fault)
        → first_rows settings frame (elim o as (λ _. ℕ) [ Ok planes ↦ unwrap_or rows frame.output_height | Err fault ↦ 0 ]) x
        ≡ first_rows settings frame (elim o as (λ _. ℕ) [ Ok planes ↦ unwrap_or rows frame.output_height | Err fault ↦ 0 ]) y
    go (Err fault) = no-rows settings frame x y
    go (Ok planes) =
        subst (λ (f : Frame). first_rows settings f (unwrap_or rows f.output_height) x
        ≡ first_rows settings f (unwrap_or rows f.output_height) y) same stay

-- where a turn has a fault, nothing is found after it
pub refused-walk : (turns : ℕ) (before : Before) (found : Found) (met : Option Marker) (bytes : List ℕ)
    (longer : Walked) → longer ≡ walk None Nothing (suc turns) false before found met bytes → (fault : Fault)
    → (turn_at Nothing before found met bytes).turn ≡ Err fault
    → (longer.found ≡ (turn_at Nothing before found met bytes).found)
    × (longer.rows ≡ (turn_at Nothing before found met bytes).rows)
unfolding walk
refused-walk turns before found met bytes longer is fault e =
    let b = turn_at Nothing before found met bytes in
    let same = is ∙ ap (walk_on turns b) e in
    (ap (λ (l : Walked). l.found) same, ap (λ (l : Walked). l.rows) same)

-- A longer stream keeps the complete rows.
pub complete_rows_stay : (settings : Settings) (found : Found) (bytes more : List ℕ) (fault : Fault)
    → HasSizedFrame found → (all_brought None found bytes).rest ≡ Err fault
    → KeepsRows settings (whole_rows_rest None found bytes) more (all_brought None found bytes).found
    (all_brought None found (bytes ++ more))
unfolding whole_rows_rest
complete_rows_stay settings found bytes more fault sized e =
    go (all_brought None found bytes).found (all_brought None found bytes).rows
    (all_brought None found (bytes ++ more))
    ((walk-onward (suc (length bytes)) Elsewhere found None bytes).sized sized)
    (longer_streams_stop found bytes more fault e)
  where
    go : (brought : Found) (rows : Option ℕ) (longer : Walked) → HasSizedFrame brought
        → StopsAt more brought rows longer → KeepsRows settings (rows_of_found rows brought) more brought longer
    go brought rows longer sized (at_front turns before met left is none) = in_front turns before met left is
    go brought rows longer sized (at_scan turns before last met left is adds) =
        in_scan turns before last met left is (adds-rows settings last brought _ rows sized adds)
        (λ fault e. (refused-walk turns before last met (left ++ more) longer is fault e).0)
    go brought rows longer sized (at_rows turns before last met left is adds) =
        in_rows turns before last met left is adds.goes
