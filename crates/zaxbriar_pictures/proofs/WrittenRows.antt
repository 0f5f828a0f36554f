-- What is written of a picture as its lines are read is written of the picture of its stream.
use Rattle.std.proofs.Common.{◌≡◌, ◌∙◌, ℕ, List, Option, Some, Ok, Bool, true, IsSomeAnd, option_map, ap}
use Rattle.std.proofs.Common.{Err, Result, subst, sym}
use Rattle.std.specs.Prelude.{◌==◌, OnOk}
use Rattle.std.specs.Io.KnownBytes.{Appends}
use Rattle.std.specs.List.{concat}
use Rattle.jpeg_bits.specs.declared.error.Error.{Error}
use Rattle.jpeg_segments.specs.Frame.{Frame}
use Rattle.jpeg_meaning.specs.Pixels.{info_by}
use Rattle.jpeg_meaning.specs.States.{Decoding, IsReading, ahead}
use Rattle.jpeg_meaning.specs.Stream.{Told, header_at, rest_by, told_of}
use Rattle.jpeg_meaning.specs.declared.progress.Progress.{Progress}
use Rattle.jpeg_meaning.specs.declared.progress.Progress.TheVariants.{HeaderRead}
use Rattle.jpeg_meaning.specs.declared.settings.Settings.{Settings}
use Rattle.jpeg_decoder.specs.ByRows.{rows_ahead}
use Rattle.jpeg_decoder.specs.Bytes.{AreLinesOf, IsCounted, shape_in}
use Rattle.jpeg_decoder.specs.Decodes.{Decodes}
use Rattle.jpeg_decoder.specs.DecodesRows.{DecodesRows}
use Rattle.jpeg_decoder.proofs.ByRows.RowsImages.{rest-means}
use Rattle.jpeg_orientation.specs.declared.areas.Area.{Area}
use Rattle.zaxbriar_files.specs.declared.limits.Limits.{Limits}
use Rattle.zaxbriar_samples.specs.DecodedPictures.{Decoded, decoded}
use Rattle.zaxbriar_samples.specs.LineTakers.{part_within, raw_bytes}
use Rattle.zaxbriar_samples.specs.Parts.{shown_part}
use Rattle.zaxbriar_samples.specs.Sizes.{orientation_by}
use Rattle.zaxbriar_samples.specs.declared.line_takers.Stored.{Stored}
use Rattle.zaxbriar_samples.specs.declared.requests.Upright.{Upright}
use Rattle.zaxbriar_pictures.specs.ByRows.{raw_rest, read_raw}
use Rattle.zaxbriar_pictures.specs.Given.{CodesWithin, most_after, settings_within}
use Rattle.zaxbriar_pictures.specs.PartLines.{area_for}
use Rattle.zaxbriar_pictures.specs.Raw.{raw_of}
use Rattle.zaxbriar_pictures.specs.Reasons.{NamesOrOutside}
use Rattle.zaxbriar_pictures.specs.Steps.{IsSaid, WritesPixels}
use Rattle.zaxbriar_pictures.specs.ScaledPictures.{settings_for}
use Rattle.zaxbriar_pictures.proofs.FittingParts.{said-there}
use Rattle.zaxbriar_pictures.proofs.Reasons.{answered, info-by-same, raw-named}
use Rattle.zaxbriar_pictures.proofs.PartPictures.{part-shown}
use Rattle.zaxbriar_pictures.proofs.PictureLines.{HasLinesOf, lines-of-frame}
use Rattle.zaxbriar_pictures.proofs.ScaledStreams.{codes-within, raw-some}

-- ---- the bytes of a picture

-- A decoder has read a header, and then its scans may code as many blocks as the limits allow.
pub record IsLimited (luma : Bool) (limits : Limits) (bytes : List ℕ) (read limited : Decoding) : Type 0 where
  pub stage : read.stage ≡ HeaderRead
  pub settings : read.settings ≡ settings_for luma
  pub known : read.source.known ≡ true
  pub header : header_at bytes ≡ Ok (read.found, read.source.bytes)
  pub is : limited ≡ record read { settings = record read.settings { max_blocks = most_after limits read.found } }

limited-is : (luma : Bool) (limits : Limits) (bytes : List ℕ) (read limited : Decoding)
    → IsLimited luma limits bytes read limited → limited ≡ record read { settings = settings_within luma limits read.found }
limited-is luma limits bytes read limited h =
    h.is ∙ ap (λ (s : Settings). record read { settings = record s { max_blocks = most_after limits read.found } }) h.settings

pub said-of-limited : (limits : Limits) (read limited : Decoding) (stored : Stored)
    → limited ≡ record read { settings = record read.settings { max_blocks = most_after limits read.found } }
    → option_map (info_by read.settings) read.found.said.frame ≡ Some stored.info
    → option_map (λ f. f.precision) read.found.said.frame ≡ Some stored.precision → IsSaid stored limited
said-of-limited limits read limited stored is i p =
    subst (λ (x : Decoding). IsSaid stored x) (sym is) (record {
      info_is = i;
      precision_is = p;
    })

pub known-limited : (luma : Bool) (limits : Limits) (bytes : List ℕ) (read limited : Decoding)
    → IsLimited luma limits bytes read limited → limited.source.known ≡ true
known-limited luma limits bytes read limited h = ap (λ (x : Decoding). x.source.known) h.is ∙ h.known

-- All lines are the picture that the rest means.
pub pixels-by-rows : (crop area : Option Area) (stored : Stored) (old new : Decoding) (pixels : List ℕ)
    (before after : Option (List ℕ)) → old.stage ≡ HeaderRead → old.source.known ≡ true
    → DecodesRows old (Ok tt) new pixels → stored.orientation ≡ 1 → area ≡ area_for crop stored
    → Appends before after (raw_bytes (part_within area (decoded stored.info stored.precision pixels)))
    → WritesPixels crop stored old before after
pixels-by-rows crop area stored old new pixels before after at known d one is written =
    let rows = ((d.reads (subst IsReading (sym at) tt)).1 known).1 in
    record {
      told = told_of new.found.said;
      pixels = pixels;
      left = new.source.bytes;
      means = rest-means old.settings old.found old.source.bytes _
          (ap (λ (p : Progress). rows_ahead p old.settings old.found old.source.bytes) (sym at) ∙ rows);
      frame_is = d.stays at;
      written = subst (λ (q : Decoded). Appends before after (raw_bytes q)) (part-shown crop stored area pixels is one)
          written;
    }

pub written-as-read : (crop area : Option Area) (stored : Stored) (old : Decoding) (before after : Option (List ℕ))
    (r : Result (Unit {0}) Error) → old.stage ≡ HeaderRead → old.source.known ≡ true → stored.orientation ≡ 1
    → area ≡ area_for crop stored
    → OnOk r ((new : Decoding) × (bytes : List ℕ) × DecodesRows old (Ok tt) new bytes
    × Appends before after (raw_bytes (part_within area (decoded stored.info stored.precision bytes))))
    → OnOk r (WritesPixels crop stored old before after)
written-as-read crop area stored old before after (Err e) at known one is h = tt
written-as-read crop area stored old before after (Ok u) at known one is h =
    pixels-by-rows crop area stored old h.0 h.1 before after at known h.2 one is h.3

-- So are those of a picture that is decoded as a whole.
pub pixels-whole : {X : Type 0} (bytes_of : X → List ℕ) (x : X) (crop : Option Area) (stored : Stored) (old new : Decoding)
    (before after : Option (List ℕ)) → old.stage ≡ HeaderRead → old.source.known ≡ true
    → Decodes bytes_of old (Ok x) new → new.found.said.frame ≡ old.found.said.frame
    → Appends before after (raw_bytes (shown_part crop stored.orientation
    (decoded stored.info stored.precision (bytes_of x)))) → WritesPixels crop stored old before after
pixels-whole bytes_of x crop stored old new before after at known d stays written = record {
  told = told_of new.found.said;
  pixels = bytes_of x;
  left = new.source.bytes;
  means = ap (λ (p : Progress). ahead p old.settings old.found old.source.bytes) (sym at)
      ∙ ((d.reads (subst IsReading (sym at) tt)).1 known).1;
  frame_is = stays;
  written = written;
}

pub written-whole : (crop : Option Area) (stored : Stored) (old new : Decoding) (lines : List (List ℕ))
    (before after : Option (List ℕ)) (r : Result (Unit {0}) Error) → old.stage ≡ HeaderRead → old.source.known ≡ true
    → Decodes concat old (Ok lines) new → new.found.said.frame ≡ old.found.said.frame
    → OnOk r (Appends before after (raw_bytes (shown_part crop stored.orientation
    (decoded stored.info stored.precision (concat lines))))) → OnOk r (WritesPixels crop stored old before after)
written-whole crop stored old new lines before after (Err e) at known d stays h = tt
written-whole crop stored old new lines before after (Ok u) at known d stays h =
    pixels-whole concat lines crop stored old new before after at known d stays h

pub whole-named : {X : Type 0} (bytes_of : X → List ℕ) (old new : Decoding) (e : Error) → old.stage ≡ HeaderRead
    → Decodes bytes_of old (Err e) new → old.source.known ≡ true
    → NamesOrOutside (rest_by old.settings old.found old.source.bytes) e
whole-named bytes_of old new e at d known =
    let a = d.reads (subst IsReading (sym at) tt) in
    subst (λ (p : Progress). NamesOrOutside (ahead p old.settings old.found old.source.bytes) e) at
    (answered (ahead old.stage old.settings old.found old.source.bytes) old.source new.source e a.1 a.2 known)

-- The lines of a picture of which something is said.
pub lines-said : (old new : Decoding) (stored : Stored) (lines : List (List ℕ)) → IsSaid stored old
    → new.found.said.frame ≡ old.found.said.frame → new.settings ≡ old.settings
    → AreLinesOf (shape_in new) lines → IsCounted (shape_in new) → HasLinesOf stored.info stored.precision lines
lines-said old new stored lines said stays same are counted =
    lines-of-frame new stored.info stored.precision lines are counted
    (subst (λ (s : Settings). option_map (info_by s) new.found.said.frame ≡ Some stored.info) (sym same)
    (subst (λ (f : Option Frame). option_map (info_by old.settings) f ≡ Some stored.info) (sym stays) said.info_is))
    (subst (λ (f : Option Frame). option_map (λ f. f.precision) f ≡ Some stored.precision) (sym stays) said.precision_is)

means-limited : (luma : Bool) (limits : Limits) (bytes : List ℕ) (read limited : Decoding) (m : (Told × List ℕ) × List ℕ)
    → IsLimited luma limits bytes read limited
    → rest_by limited.settings limited.found limited.source.bytes ≡ Ok m
    → rest_by (settings_within luma limits read.found) read.found read.source.bytes ≡ Ok m
means-limited luma limits bytes read limited m h e =
    ap (λ (x : Decoding). rest_by x.settings x.found x.source.bytes) (sym (limited-is luma limits bytes read limited h)) ∙ e

-- They are what is written of the stream.
pub raw-written : (luma : Bool) (turning : Upright) (crop : Option Area) (limits : Limits) (bytes : List ℕ)
    (read limited : Decoding) (stored : Stored) (before after : Option (List ℕ))
    → IsLimited luma limits bytes read limited
    → option_map (info_by read.settings) read.found.said.frame ≡ Some stored.info
    → option_map (λ f. f.precision) read.found.said.frame ≡ Some stored.precision
    → stored.orientation ≡ orientation_by turning read.found.said.metadata.exif
    → WritesPixels crop stored limited before after
    → IsSomeAnd (raw_of luma turning crop bytes) (Appends before after)
raw-written luma turning crop limits bytes read limited stored before after h i p turn w =
    let frame : w.told.frame ≡ read.found.said.frame =
    w.frame_is ∙ ap (λ (x : Decoding). x.found.said.frame) (limited-is luma limits bytes read limited h) in
    let some = raw-some luma turning crop limits bytes read.source.bytes w.left read.found w.told w.pixels stored.info
    stored.precision stored.orientation h.header
    (means-limited luma limits bytes read limited ((w.told, w.pixels), w.left) h w.means)
    (info-by-same _ (settings_for luma) _ _ h.settings (said-there (info_by read.settings) _ _ _ frame i))
    (said-there (λ f. f.precision) _ _ _ frame p) turn in
    subst (λ (o : Option (List ℕ)). IsSomeAnd o (Appends before after)) (sym some) w.written

pub raw-bounded : (luma : Bool) (limits : Limits) (bytes : List ℕ) (read limited : Decoding) (crop : Option Area)
    (stored : Stored) (before after : Option (List ℕ)) → IsLimited luma limits bytes read limited
    → WritesPixels crop stored limited before after → CodesWithin limits bytes
raw-bounded luma limits bytes read limited crop stored before after h w =
    codes-within luma limits bytes read.source.bytes read.found ((w.told, w.pixels), w.left) h.header
    (means-limited luma limits bytes read limited ((w.told, w.pixels), w.left) h w.means)

-- A refusal names a fault of the rest within the limits, and of the stream.
pub raw-refused : (luma : Bool) (turning : Upright) (limits : Limits) (bytes : List ℕ) (read limited : Decoding)
    (stored : Stored) (e : Error) → IsLimited luma limits bytes read limited
    → stored.orientation ≡ orientation_by turning read.found.said.metadata.exif
    → NamesOrOutside (raw_rest (stored.orientation == 1) limited.settings limited.found limited.source.bytes) e
    → NamesOrOutside (read_raw luma turning limits bytes) e
raw-refused luma turning limits bytes read limited stored e h turn names =
    raw-named luma turning limits bytes read.source.bytes read.found (stored.orientation == 1) e h.header
    (ap (λ (n : ℕ). n == 1) (sym turn))
    (subst (λ (x : Decoding). NamesOrOutside (raw_rest (stored.orientation == 1) x.settings x.found x.source.bytes) e)
    (limited-is luma limits bytes read limited h) names)
