-- The lines that the first rows of MCUs of a picture decide, as its stream codes them (T.81, A.2):
-- what was given of a stream that is refused.
use Rattle.std.specs.Prelude.{◌≡◌, ◌⊎◌, ◌+◌, ◌*◌, ◌&&◌, nat_le, ℕ, Bool, true, List, []}
use Rattle.std.specs.Prelude.{IfErr, IfOk, Ok, Result, map}
use Rattle.std.specs.List.{concat, range_with_len}
use Rattle.jpeg_bits.specs.Entropy.{Text, fresh, upcoming}
use Rattle.jpeg_bits.specs.Reading.{Fault, ◌>>=◌}
use Rattle.jpeg_bits.specs.declared.error.Error.{Error}
use Rattle.jpeg_bits.specs.declared.error.Error.TheVariants.{OutOfMemory}
use Rattle.jpeg_segments.specs.Checks.{check, needed}
use Rattle.jpeg_segments.specs.Frame.{Frame}
use Rattle.jpeg_segments.specs.ScanHeader as headers
use Rattle.jpeg_pixels.specs.Pictures.{sources_of}
use Rattle.jpeg_meaning.specs.Found.{Found, Said}
use Rattle.jpeg_meaning.specs.InTurn.{counted_at_start}
use Rattle.jpeg_meaning.specs.McuRows.{mcu_row}
use Rattle.jpeg_meaning.specs.Order.{mcu_size}
use Rattle.jpeg_meaning.specs.ScanSegments.{Coding, codings_of, components_of, pass_of, vias_from}
use Rattle.jpeg_meaning.specs.Stream.{header_at}
use Rattle.jpeg_meaning.specs.declared.progress.Progress.{Progress}
use Rattle.jpeg_meaning.specs.declared.progress.Progress.TheVariants.{Fresh}
use Rattle.jpeg_meaning.specs.declared.settings.Settings.{Settings}
use Rattle.jpeg_decoder.specs.ByRows.{ToScan, comes_by_rows, conversion_in, lines_decided, lines_from}
use Rattle.jpeg_decoder.specs.ByRows.{scan_ahead, transform_said}
use Rattle.jpeg_decoder.specs.Steps.{header_within}
use Rattle.jpeg_decoder.specs.Strips.{no_samples, strips_from}

-- The planes of so many rows of MCUs of a sequential scan, whose data begin these bytes.
unfoldable pub planes_to : ℕ → Said → Frame → headers.Scan → List Coding → List ℕ
    → Result (List (List ℕ) × Text) Fault
planes_to rows said frame scan codings bytes =
    let components = components_of codings in
    let n = said.restart * mcu_size components in
    strips_from (pass_of scan) (vias_from 0 codings) n codings
    (map (mcu_row frame components) (range_with_len 0 rows)) (no_samples codings)
    (counted_at_start n []) (upcoming fresh bytes)

-- The lines that so many rows of MCUs decide of a scan whose header begins these bytes: where its
-- picture comes by rows, there are as many, and their data have no fault.
unfoldable pub lines_at_scan : ℕ → Settings → Found → List ℕ → Result (List ℕ) Fault
lines_at_scan rows settings found bytes = do
  scan ← header_within settings.max_blocks found bytes
  frame ← needed found.said.frame
  _ ← check (comes_by_rows settings found.said frame scan.0 && nat_le rows frame.mcus_high)
  codings ← codings_of found.said frame scan.0
  planes ← planes_to rows found.said frame scan.0 codings scan.1
  convert ← conversion_in frame.components (transform_said settings found.said frame)
  sources ← sources_of frame.components frame.output_width frame.output_height
  Ok (concat (lines_from frame convert sources planes.0 0 (lines_decided frame rows)))

-- those of the first scan of the rest of a stream
abbrev pub lines_after : ℕ → Settings → ToScan × List ℕ → Result (List ℕ) Fault
lines_after rows settings r = check r.0.is_scan >>= λ u. lines_at_scan rows settings r.0.found r.1

unfoldable pub first_lines : ℕ → Settings → Found → List ℕ → Result (List ℕ) Fault
first_lines rows settings found bytes = scan_ahead found bytes >>= lines_after rows settings

-- of what lies ahead of a decoder
abbrev pub lines_ahead : Progress → Settings → Found → List ℕ → ℕ → Result (List ℕ) Fault
lines_ahead Fresh settings found bytes rows =
    header_at bytes >>= (λ header. first_lines rows settings header.0 header.1)
lines_ahead _ settings found bytes rows = first_lines rows settings found bytes

-- Before an error these bytes were given, of lines by the number of rows of MCUs: those that the
-- first rows decide. No more can be read, unless memory ran out, or the source isn't known any more.
pub record GivesFirst (lines : ℕ → Result (List ℕ) Fault) (error : Error) (known : Bool)
    (given : List ℕ) : Type 0 where
  pub rows : ℕ
  pub are : ((rows ≡ 0) × (given ≡ [])) ⊎ (lines rows ≡ Ok given)
  pub no_more : known ≡ true → (error ≡ OutOfMemory) ⊎ IfOk (lines (rows + 1)) (λ _. ⊥)

-- the same of a call that may end with an error
abbrev pub GivesFirstIf : (ℕ → Result (List ℕ) Fault) → Result (Unit {0}) Error → Bool → List ℕ
    → Type 0
GivesFirstIf lines result known given = IfErr result (λ e. GivesFirst lines e known given)
