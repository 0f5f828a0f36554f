-- Why nothing is made of a stream, by what each step of reading it says.
use Rattle.std.proofs.Common.{◌≡◌, ◌∙◌, inl, inr, ℕ, List, Bool, true, false, Option, Some, None, Result, Ok, Err}
use Rattle.std.proofs.Common.{IsSomeAnd, option_map, ap, refl, subst, sym}
use Rattle.std.specs.Prelude.{◌==◌, if◌then◌else◌, unwrap_or}
use Rattle.jpeg_bits.specs.Reading.{End, Fault, IsGivenUp, Lacks, Malformed, Names, Outcome, ◌>>=◌}
use Rattle.jpeg_bits.specs.Stream.{Stream}
use Rattle.jpeg_bits.specs.declared.error.Error.{Error}
use Rattle.jpeg_bits.specs.declared.error.Error.TheVariants as errors
use Rattle.jpeg_segments.specs.Frame.{Frame}
use Rattle.jpeg_segments.specs.Scales.{block_side, frame_at, scaled, scaled_by}
use Rattle.jpeg_segments.specs.declared.frame.CodingProcess.{CodingProcess}
use Rattle.jpeg_segments.specs.declared.frame.CodingProcess.TheVariants.{DctProgressive, DctSequential, Lossless}
use Rattle.jpeg_segments.specs.declared.scale.Scale.{Scale}
use Rattle.jpeg_segments.specs.declared.scale.Scale.TheVariants.{Full}
use Rattle.jpeg_meaning.proofs.Written.ReadTurns.{then-ok}
use Rattle.jpeg_meaning.specs.Found.{Found, with_said}
use Rattle.jpeg_meaning.specs.Output.{IsOutsideOrMemory}
use Rattle.jpeg_meaning.specs.Pixels.{format_of, info_by, luma_samples}
use Rattle.jpeg_meaning.specs.States.{Decoding}
use Rattle.jpeg_meaning.specs.Stream.{Told, header_at, scaled_to}
use Rattle.jpeg_meaning.specs.declared.images.ImageInfo.{ImageInfo}
use Rattle.jpeg_meaning.specs.declared.images.PixelFormat.{PixelFormat}
use Rattle.jpeg_meaning.specs.declared.settings.Settings.{Settings}
use Rattle.zaxbriar_files.specs.declared.limits.Limits.{Limits}
use Rattle.zaxbriar_files.specs.declared.refusal.Refusal.{Refusal}
use Rattle.zaxbriar_files.specs.declared.refusal.Refusal.TheVariants as refusals
use Rattle.zaxbriar_samples.specs.Files.{has_pixels}
use Rattle.zaxbriar_samples.specs.Sizes.{luma_for, orientation_by, orientation_for, scale_of_request, size_for}
use Rattle.zaxbriar_samples.specs.Turns.{upright}
use Rattle.zaxbriar_samples.specs.declared.files.PictureFormat.{PictureFormat}
use Rattle.zaxbriar_samples.specs.declared.requests.Request.{Request}
use Rattle.zaxbriar_samples.specs.declared.requests.Request.TheVariants.{At, Within}
use Rattle.zaxbriar_pictures.specs.Given.{given_rest}
use Rattle.zaxbriar_pictures.specs.Given.{given_within, settings_within, shown_at_scale}
use Rattle.zaxbriar_pictures.specs.ByRows.{at_by_rows, is_by_rows, raw_rest, read_at_scale, read_for, read_raw, read_rest}
use Rattle.zaxbriar_pictures.specs.ByRows.{read_within, request_by_rows}
use Rattle.zaxbriar_pictures.specs.Reasons.{IsReason, LacksColours, NamesOrOutside, scale_in}
use Rattle.zaxbriar_pictures.specs.ScaledPictures.{header_info, settings_for}
use Rattle.zaxbriar_pictures.specs.Steps.{IsChoice}
use Rattle.zaxbriar_pictures.specs.declared.extents.Extent.{Extent}
use Rattle.zaxbriar_samples.specs.declared.requests.AtScale.{AtScale}
use Rattle.zaxbriar_samples.specs.declared.requests.Upright.{Upright}
use Rattle.std.proofs.lemmas.List.{length-map}
use Rattle.zaxbriar_pictures.specs.declared.scaled.Choice.{Choice}

-- ---- errors of a decoder

-- Where a reader was given up the error is its own.
pub given-up-outside : (e : Error) (failed : Bool) → IsGivenUp e failed → IsOutsideOrMemory e
given-up-outside (errors.Io error) failed h = tt
given-up-outside (errors.Format text) failed h = h
given-up-outside (errors.Unsupported feature) failed h = absurd h
given-up-outside (errors.Internal text) failed h = absurd h
given-up-outside errors.OutOfMemory failed h = absurd h

by-known : {Y : Type 0} (known failed : Bool) (e : Error) (outcome : Result Y Fault)
    → (known ≡ true → Names e outcome) → (known ≡ false → IsGivenUp e failed) → NamesOrOutside outcome e
by-known true failed e outcome names given_up = inl (names refl)
by-known false failed e outcome names given_up = inr (given-up-outside e failed (given_up refl))

-- A call that answers what reading the bytes of its source gives is refused by their fault, or by the reader.
pub answered : {Y : Type 0} (outcome : Result Y Fault) (old new : Stream) (e : Error)
    → (old.known ≡ true → new.known ≡ true → Names e outcome)
    → (old.known ≡ true → new.known ≡ false → IsGivenUp e new.failed) → old.known ≡ true → NamesOrOutside outcome e
answered outcome old new e names given_up known =
    by-known new.known new.failed e outcome (names known) (given_up known)

pub named-same : {Y : Type 0} (old new : Result Y Fault) (e : Error) → old ≡ new → NamesOrOutside old e
    → NamesOrOutside new e
named-same {Y} old new e same h = subst (λ (o : Result Y Fault). NamesOrOutside o e) same h

-- ---- a fault of the first step is one of both

err-then : {A B : Type 0} (r : Result A Fault) (fault : Fault) (next : A → Result B Fault) → r ≡ Err fault
    → (r >>= next) ≡ Err fault
err-then {A} {B} r fault next h = ap (λ (o : Result A Fault). o >>= next) h

names-then : {A B : Type 0} (e : Error) (r : Result A Fault) (next : A → Result B Fault) → Names e r
    → Names e (r >>= next)
names-then (errors.Io error) r next h = (err-then r End next h.0, h.1)
names-then (errors.Format text) r next h = err-then r Malformed next h
names-then (errors.Unsupported feature) r next h = err-then r (Lacks feature) next h
names-then (errors.Internal text) r next h = absurd h
names-then errors.OutOfMemory r next h = tt

pub named-then : {A B : Type 0} (e : Error) (r : Result A Fault) (next : A → Result B Fault) → NamesOrOutside r e
    → NamesOrOutside (r >>= next) e
named-then e r next (inl h) = inl (names-then e r next h)
named-then e r next (inr h) = inr h

pub reason-then : {A B : Type 0} (r : Refusal) (outcome : Result A Fault) (next : A → Result B Fault) (allowed fits : Bool)
    (lacks : Type 0) → IsReason outcome allowed true ⊥ r → IsReason (outcome >>= next) allowed fits lacks r
reason-then (refusals.Decoding e) outcome next allowed fits lacks h = named-then e outcome next h
reason-then (refusals.Pixels pixels most) outcome next allowed fits lacks h = h
reason-then (refusals.Memory bytes most is_share) outcome next allowed fits lacks h = h
reason-then (refusals.Crop area width height) outcome next allowed fits lacks h = absurd (let n : ⊥ = cc in n)
reason-then (refusals.Format format) outcome next allowed fits lacks h = absurd h
reason-then refusals.Name outcome next allowed fits lacks h = absurd h
reason-then refusals.Cmyk outcome next allowed fits lacks h = absurd h

-- ---- the second step

-- What the rest shows after a header is what the stream shows.
pub shown-is : (extent : Extent) (luma : Bool) (limits : Limits) (scale : Scale) (bytes : List ℕ) (found : Found)
    (old : Decoding) → header_at bytes ≡ Ok (found, old.source.bytes)
    → old.found ≡ with_said (scaled_to scale) found → old.settings ≡ settings_within luma limits old.found
    → given_rest extent old.settings old.found old.source.bytes ≡ shown_at_scale extent luma limits scale bytes
shown-is extent luma limits scale bytes found old header is within =
    ap (λ (settings : Settings). given_rest extent settings old.found old.source.bytes) within
    ∙ ap (λ (f : Found). given_within extent luma limits f old.source.bytes) is
    ∙ sym (then-ok (header_at bytes) _ (found, old.source.bytes) _ header refl)

-- ---- what is there

pub some-same : {A : Type 0} (x y : A) → ◌≡◌ {A = Option A} (Some x) (Some y) → x ≡ y
some-same x y e = cc

-- ---- the scale for a request

pub choice-scale : (request : Request) (header : Found) (choice : Choice) → IsChoice request header choice
    → choice.scale ≡ scale_in request header
unfolding scale_of_request orientation_for
choice-scale (At at) header choice is = go header.said.frame is.sized
  where
    go : (frame : Option Frame) → IsSomeAnd (option_map (info_by (settings_for at.luma)) frame) (λ full.
        (choice.full ≡ full) × (choice.scale ≡ scale_of_request (At at) full choice.orientation)
        × (choice.size ≡ size_for (At at) full choice.orientation)) → choice.scale ≡ at.scale
    go None h = absurd h
    go (Some f) h = h.1
choice-scale (Within most upright) header choice is = go header.said.frame is.sized
  where
    go : (frame : Option Frame) → IsSomeAnd (option_map (info_by (settings_for false)) frame) (λ full.
        (choice.full ≡ full) × (choice.scale ≡ scale_of_request (Within most upright) full choice.orientation)
        × (choice.size ≡ size_for (Within most upright) full choice.orientation))
        → choice.scale ≡ unwrap_or (option_map (λ f. scale_of_request (Within most upright)
        (info_by (settings_for false) f) (orientation_by upright header.said.metadata.exif)) frame) Full
    go None h = absurd h
    go (Some f) h = h.1 ∙ ap (λ (o : ℕ). scale_of_request (Within most upright) (info_by (settings_for false) f) o)
        is.turned

-- ---- what a stream gives, by what its header says

of-frame : {A : Type 0} (said : Frame → A) (test : A → Bool) (frame : Option Frame) (x : A) (b : Bool)
    → option_map said frame ≡ Some x → test x ≡ b → unwrap_or (option_map (λ f. test (said f)) frame) false ≡ b
of-frame said test None x b e h = absurd (let n : ⊥ = cc in n)
of-frame {A} said test (Some f) x b e h = ap test (some-same (said f) x e) ∙ h

frame-precision : (scale : ℕ) (f : Frame) → (frame_at scale f).precision ≡ f.precision
unfolding frame_at
frame-precision scale f = refl

pub scaled-precision : (process : CodingProcess) (scale : ℕ) (f : Frame) → (scaled_by process scale f).precision ≡ f.precision
scaled-precision Lossless scale f = refl
scaled-precision DctSequential scale f = frame-precision scale f
scaled-precision DctProgressive scale f = frame-precision scale f

precision-at : (scale : Scale) (frame : Option Frame) → option_map (λ f. f.precision) (option_map (scaled scale) frame)
    ≡ option_map (λ f. f.precision) frame
precision-at scale None = refl
precision-at scale (Some f) = ap Some (scaled-precision f.process (block_side scale) f)

-- Whether the lines of a picture at a scale come by rows.
pub by-rows-at : (extent : Extent) (at : AtScale) (format : PictureFormat) (header : Found) (d : Decoding)
    (precision orientation : ℕ) (b : Bool) → d.found ≡ with_said (scaled_to at.scale) header
    → option_map (λ f. f.precision) d.found.said.frame ≡ Some precision
    → orientation ≡ orientation_by at.upright header.said.metadata.exif
    → is_by_rows extent format precision orientation ≡ b → at_by_rows extent at format header ≡ b
by-rows-at extent at format header d precision orientation b is p turn h =
    of-frame (λ f. f.precision) (λ n. is_by_rows extent format n (orientation_by at.upright header.said.metadata.exif))
    header.said.frame precision b
    (sym (precision-at at.scale header.said.frame)
    ∙ subst (λ (f : Found). option_map (λ f. f.precision) f.said.frame ≡ Some precision) is p)
    (ap (is_by_rows extent format precision) (sym turn) ∙ h)

-- What the rest gives after a header is what the stream gives at a scale.
pub read-is : (extent : Extent) (limits : Limits) (at : AtScale) (format : PictureFormat) (bytes : List ℕ)
    (found : Found) (old : Decoding) (b : Bool) → header_at bytes ≡ Ok (found, old.source.bytes)
    → old.found ≡ with_said (scaled_to at.scale) found → old.settings ≡ settings_within at.luma limits old.found
    → at_by_rows extent at format found ≡ b
    → read_rest b extent old.settings old.found old.source.bytes ≡ read_at_scale extent limits at format bytes
read-is extent limits at format bytes found old b header is within rows =
    ap (λ (settings : Settings). read_rest b extent settings old.found old.source.bytes) within
    ∙ ap (λ (f : Found). read_within b extent at.luma limits f old.source.bytes) is
    ∙ ap (λ (c : Bool). read_within c extent at.luma limits (with_said (scaled_to at.scale) found) old.source.bytes) (sym rows)
    ∙ sym (then-ok (header_at bytes) _ (found, old.source.bytes) _ header refl)

-- and for a request
pub read-for-is : (extent : Extent) (limits : Limits) (request : Request) (choice : Choice) (format : PictureFormat)
    (bytes : List ℕ) (found : Found) (old : Decoding) (b : Bool) → header_at bytes ≡ Ok (found, old.source.bytes)
    → old.found ≡ with_said (scaled_to choice.scale) found
    → old.settings ≡ settings_within (luma_for request) limits old.found → IsChoice request found choice
    → request_by_rows extent request format found ≡ b
    → read_rest b extent old.settings old.found old.source.bytes ≡ read_for extent limits request format bytes
read-for-is extent limits request choice format bytes found old b header is within chosen rows =
    ap (λ (settings : Settings). read_rest b extent settings old.found old.source.bytes) within
    ∙ ap (λ (f : Found). read_within b extent (luma_for request) limits f old.source.bytes)
    (is ∙ ap (λ (scale : Scale). with_said (scaled_to scale) found) (choice-scale request found choice chosen))
    ∙ ap (λ (c : Bool). read_within c extent (luma_for request) limits
    (with_said (scaled_to (scale_in request found)) found) old.source.bytes) (sym rows)
    ∙ sym (then-ok (header_at bytes) _ (found, old.source.bytes) _ header refl)

-- and for the bytes of its picture
pub raw-named : (luma : Bool) (turning : Upright) (limits : Limits) (bytes rest : List ℕ) (found : Found) (b : Bool)
    (e : Error) → header_at bytes ≡ Ok (found, rest) → (orientation_by turning found.said.metadata.exif == 1) ≡ b
    → NamesOrOutside (raw_rest b (settings_within luma limits found) found rest) e
    → NamesOrOutside (read_raw luma turning limits bytes) e
raw-named luma turning limits bytes rest found b e header one h =
    subst (λ (o : Outcome (Told × List ℕ)). NamesOrOutside o e)
    (sym (then-ok (header_at bytes) _ (found, rest) _ header refl))
    (subst (λ (c : Bool). NamesOrOutside (raw_rest c (settings_within luma limits found) found rest) e) (sym one) h)

-- ---- what is said by some settings

pub info-by-same : (old new : Settings) (frame : Option Frame) (info : ImageInfo) → old ≡ new
    → option_map (info_by old) frame ≡ Some info → option_map (info_by new) frame ≡ Some info
info-by-same old new frame info same h =
    subst (λ (s : Settings). option_map (info_by s) frame ≡ Some info) same h

-- ---- a format lacks colours

frame-format : (luma : Bool) (scale : ℕ) (f : Frame)
    → (info_by (settings_for luma) (frame_at scale f)).pixel_format ≡ (info_by (settings_for luma) f).pixel_format
unfolding frame_at
frame-format luma scale f =
    ap (λ (n : ℕ). format_of (if luma then luma_samples f.process n else n) f.precision) (length-map f.components _)

scaled-format : (luma : Bool) (process : CodingProcess) (scale : ℕ) (f : Frame)
    → (info_by (settings_for luma) (scaled_by process scale f)).pixel_format ≡ (info_by (settings_for luma) f).pixel_format
scaled-format luma Lossless scale f = refl
scaled-format luma DctSequential scale f = frame-format luma scale f
scaled-format luma DctProgressive scale f = frame-format luma scale f

same-format : (luma : Bool) (scale : Scale) (f : Frame)
    → (info_by (settings_for luma) (scaled scale f)).pixel_format ≡ (info_by (settings_for luma) f).pixel_format
same-format luma scale f = scaled-format luma f.process (block_side scale) f

-- What is said of the colours of a picture at a scale is said by the header.
pub lacks-by-header : (format : PictureFormat) (luma : Bool) (scale : Scale) (bytes rest : List ℕ) (header : Found)
    (info : ImageInfo) → header_at bytes ≡ Ok (header, rest)
    → option_map (info_by (settings_for luma)) (option_map (scaled scale) header.said.frame) ≡ Some info
    → has_pixels format info.pixel_format ≡ false → LacksColours format luma bytes
unfolding header_info
lacks-by-header format luma scale bytes rest header info e i none = rw (header_info, e) (go header.said.frame i)
  where
    go : (frame : Option Frame) → option_map (info_by (settings_for luma)) (option_map (scaled scale) frame) ≡ Some info
        → IsSomeAnd (option_map (info_by (settings_for luma)) frame) (λ k. has_pixels format k.pixel_format ≡ false)
    go None i = absurd (let n : ⊥ = cc in n)
    go (Some f) i = subst (λ (p : PixelFormat). has_pixels format p ≡ false) (same-format luma scale f)
        (subst (λ (k : ImageInfo). has_pixels format k.pixel_format ≡ false)
        (sym (some-same (info_by (settings_for luma) (scaled scale f)) info i)) none)
