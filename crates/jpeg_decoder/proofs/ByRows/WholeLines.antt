-- The lines that are given are whole.
use Rattle.std.proofs.Common.{◌≡◌, ◌∙◌, ◌*◌, ℕ, Bool, List, [], ◌∷◌, Option, None, Some, Ok, true, option_map, length, ap, arith, refl, sym}
use Rattle.std.specs.Prelude.{IfSome}
use Rattle.jpeg_bits.specs.Stream.{Stream}
use Rattle.jpeg_segments.specs.Frame.{Frame}
use Rattle.jpeg_meaning.specs.Found.{Found}
use Rattle.jpeg_meaning.specs.declared.settings.Settings.{Settings}
use Rattle.jpeg_decoder.specs.ByRows.{comes_by_rows, conversion_in, transform_said}
use Rattle.jpeg_decoder.specs.Bytes.{AreLinesOf, AreWholeLines, HaveLines, Shape, line_bytes, shape_of, shape_with}
use Rattle.jpeg_decoder.specs.RowScans.{InScan, ReadsRows}
use Rattle.jpeg_decoder.specs.declared.by_rows.first_scan.RowScan.{RowScan}
use Rattle.jpeg_decoder.proofs.ByRows.RowPictures.{comes-by_rows, lossy}
use Rattle.jpeg_decoder.proofs.Pictures.PictureSizes.{by-samples, precision-8, shown-colours}

-- those of a row of MCUs
pub scan-lines : (settings : Settings) (k : Bool) (found : Found) (at : Stream) (scan : RowScan) (now : Stream)
    (bytes : List ℕ) → InScan settings k found at scan now bytes
    → AreWholeLines (option_map (shape_of settings) found.said.frame) scan.giver.lines.items
scan-lines settings k found at scan now bytes h = go found.said.frame refl h.reads h.comes
  where
    go : (o : Option Frame) → found.said.frame ≡ o → IfSome o (λ f. ReadsRows found f scan h.mid now bytes)
        → IfSome o (λ f. (comes_by_rows settings found.said f scan.header ≡ true)
        × (scan.transform ≡ transform_said settings found.said f)
        × (conversion_in f.components scan.transform ≡ Ok scan.giver.convert))
        → AreWholeLines (option_map (shape_of settings) o) scan.giver.lines.items
    go None e r c = tt
    go (Some f) e r c =
        let by = comes-by_rows settings found.said f scan.header c.0 in
        let n = length f.components in
        let long : n * f.output_width ≡ line_bytes (shape_of settings f) =
        by-samples n f (precision-8 f (h.header.sound.frames f e) (lossy f.process by.sequential))
        ∙ ap (λ (m : ℕ). line_bytes (shape_with m f)) (sym (shown-colours settings f by.colours)) in
        (r.given.ready.count, r.given.ready.lines ∙ ap (λ (m : ℕ). r.given.ready.count * m) long)

-- a line of a picture that was decoded
pub one-line : (shape : Option Shape) (line : List ℕ) (left : List (List ℕ)) → HaveLines shape (line ∷ left)
    → AreWholeLines shape line
one-line None line left h = tt
one-line (Some s) line left h = (1, h.0 ∙ omega arith)

-- none
pub no-line : (shape : Option Shape) → AreWholeLines shape []
no-line None = tt
no-line (Some s) = (0, omega arith)

pub later-lines : (shape : Option Shape) (line : List ℕ) (left : List (List ℕ)) → HaveLines shape (line ∷ left)
    → HaveLines shape left
later-lines None line left h = tt
later-lines (Some s) line left h = h.1

pub all-lines : (shape : Option Shape) (lines : List (List ℕ)) → AreLinesOf shape lines → HaveLines shape lines
all-lines None lines h = tt
all-lines (Some s) lines h = h.1
