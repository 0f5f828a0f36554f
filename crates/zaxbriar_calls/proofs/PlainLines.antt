-- The lines of a picture as the decoder gives them, where no option asks for others.
use Rattle.std.proofs.Common.{◌≡◌, ◌∙◌, ◌*◌, ◌==◌, ℕ, Option, Some, None, [], ap, false, arith, refl, subst, sym, true}
use Rattle.std.proofs.lemmas.Bool.{and_parts, eqb-true, not-true}
use Rattle.std.specs.Prelude.{option_map, not}
use Rattle.jpeg_segments.specs.Frame.{Frame}
use Rattle.jpeg_meaning.specs.Found.{Found}
use Rattle.jpeg_meaning.specs.Pixels.{info_by, samples_shown}
use Rattle.jpeg_meaning.specs.States.{Decoding}
use Rattle.jpeg_meaning.specs.declared.images.ImageInfo.{ImageInfo}
use Rattle.jpeg_meaning.specs.declared.progress.Progress.TheVariants.{HeaderRead}
use Rattle.jpeg_meaning.specs.declared.settings.Settings.{Settings}
use Rattle.jpeg_decoder.specs.Bytes.{bytes_a_sample, line_bytes, samples_a_pixel, shape_in, shape_of}
use Rattle.jpeg_decoder.specs.Rows.{RowsState}
use Rattle.jpeg_decoder.specs.declared.rows.Ahead.TheVariants as ahead
use Rattle.zaxbriar_calls.proofs.CountedFrames.{CountedFrame, counted-shape, header-counted, sized-counted}
use Rattle.zaxbriar_calls.specs.Boxed.{is_fitted}
use Rattle.zaxbriar_calls.specs.Crops.{is_cropped}
use Rattle.zaxbriar_calls.specs.Layouts.{conversion_to}
use Rattle.zaxbriar_calls.specs.Limits.{are_known}
use Rattle.zaxbriar_calls.specs.Lines.{HasLines, row_bytes, stored_bytes, turn_given, turn_uncut}
use Rattle.zaxbriar_calls.specs.Boxed.{turned_info}
use Rattle.zaxbriar_calls.specs.Meanings.{ReadsHeader, found_at, size_wanted}
use Rattle.zaxbriar_calls.specs.TakenLines.{AreTaken, are_for_rows, is_plain, no_reason}
use Rattle.zaxbriar_calls.specs.declared.layouts.Conversion.{Conversion}
use Rattle.zaxbriar_calls.specs.declared.layouts.Conversion.TheVariants.{Stored}
use Rattle.zaxbriar_calls.specs.declared.lines.Lines.{Lines}
use Rattle.zaxbriar_calls.specs.declared.options.Options.{Options}

-- What the options are for lines as they come.
record IsPlain (o : Options) : Type 0 where
  layout : (o.layout == 0) ≡ true
  upright : (o.upright == 1) ≡ false
  cropped : is_cropped o ≡ false
  fitted : is_fitted o ≡ false

plain : (o : Options) → are_for_rows o ≡ true → IsPlain o
plain o h =
    let all = and_parts (are_known o) (is_plain o) h in
    let a = and_parts (o.stride == 0) _ all.1 in
    let b = and_parts (o.layout == 0) _ a.1 in
    let c = and_parts (o.bottom_up == 0) _ b.1 in
    let d = and_parts (o.upright == 0) _ c.1 in
    let e = and_parts (o.luma == 0) _ d.1 in
    let f = and_parts (not (is_cropped o)) (not (is_fitted o)) e.1 in
    record {
      layout = b.0;
      upright = ap (λ n. n == 1) (eqb-true o.upright 0 d.0);
      cropped = not-true (is_cropped o) f.0;
      fitted = not-true (is_fitted o) f.1;
    }

plain-conversion : (o : Options) (info : ImageInfo) (precision : ℕ) (conversion : Conversion) → IsPlain o
    → conversion_to o.layout info.pixel_format precision ≡ Some conversion → conversion ≡ Stored
plain-conversion o info precision conversion p e =
    let is : Some Stored ≡ Some conversion = rw p.layout at e in cc

plain-row : (o : Options) (info : ImageInfo) (precision orientation : ℕ) → IsPlain o
    → row_bytes (turn_given o info orientation) (turned_info info (turn_uncut o info orientation)) precision Stored
    ≡ info.width * stored_bytes info precision
plain-row o info precision orientation p = rw (p.fitted, p.cropped, p.upright) refl

plain-line : (o : Options) (info : ImageInfo) (precision orientation : ℕ) (lines : Lines) → IsPlain o
    → HasLines o info precision orientation lines → lines.row_bytes ≡ info.width * stored_bytes info precision
plain-line o info precision orientation lines p h =
    ap (λ (l : Lines). l.row_bytes) h.lines_are
    ∙ (ap (λ (c : Conversion). row_bytes (turn_given o info orientation)
    (turned_info info (turn_uncut o info orientation)) precision c)
    (plain-conversion o info precision h.conversion p h.is)
    ∙ plain-row o info precision orientation p)

-- a line of the picture of a frame
frame-line : (settings : Settings) (frame : Option Frame) (info : ImageInfo) (precision row : ℕ) → CountedFrame frame
    → option_map (info_by settings) frame ≡ Some info → option_map (λ f. f.precision) frame ≡ Some precision
    → row ≡ info.width * stored_bytes info precision
    → option_map line_bytes (option_map (shape_of settings) frame) ≡ Some row
unfolding line_bytes
frame-line settings None info precision row h i p e = absurd (cc)
frame-line settings (Some f) info precision row h i p e =
    let is : info_by settings f ≡ info = cc in
    let is' : f.precision ≡ precision = cc in
    let counted : samples_shown settings f ≡ samples_a_pixel (info_by settings f).pixel_format =
    counted-shape settings (Some f) h in
    let bytes : line_bytes (shape_of settings f) ≡ info.width * stored_bytes info precision =
    ap (λ n. f.output_width * (n * bytes_a_sample f.precision)) counted
    ∙ (λ j. (is j).width * (samples_a_pixel (is j).pixel_format * bytes_a_sample (is' j))) in
    ap (λ n. Some n) (bytes ∙ sym e)

-- The lines of a header that was read are those of the decoder.
pub header-line : (o : Options) (before start : Decoding) (info : ImageInfo) (precision orientation : ℕ) (lines : Lines)
    → are_for_rows o ≡ true → before.source.known ≡ true → ReadsHeader o before start
    → HasLines o info precision orientation lines
    → option_map (info_by start.settings) start.found.said.frame ≡ Some info
    → option_map (λ f. f.precision) start.found.said.frame ≡ Some precision
    → option_map line_bytes (shape_in start) ≡ Some lines.row_bytes
header-line o before start info precision orientation lines known source header h i p =
    let read = (header.reads source).1 in
    let whole : CountedFrame (found_at o read.0).said.frame =
    sized-counted (size_wanted o) read.0.said
    (header-counted before.source.bytes start.source.bytes read.0 read.1) in
    let counted : CountedFrame start.found.said.frame =
    subst (λ (f : Found). CountedFrame f.said.frame) (sym read.2) whole in
    frame-line start.settings start.found.said.frame info precision lines.row_bytes counted i p
    (plain-line o info precision orientation lines (plain o known) h)

-- Nothing is taken at first.
pub none-taken : (start : Decoding) (line : ℕ) (rows : RowsState)
    → rows ≡ record { decoder = start; ahead = ahead.Start } → start.stage ≡ HeaderRead
    → option_map line_bytes (shape_in start) ≡ Some line
    → AreTaken rows.decoder []
    (record { rows = rows; taken = 0; line_bytes = line; answer = 0; reason = no_reason })
none-taken start line rows is header e =
    subst (λ (s : RowsState). AreTaken s.decoder []
    (record { rows = s; taken = 0; line_bytes = line; answer = 0; reason = no_reason })) (sym is) (record {
      given = [];
      are = (refl, refl);
      taken = refl;
      stage = header;
      line = e;
      there = (0, omega arith);
      whole = (0, omega arith);
    })
