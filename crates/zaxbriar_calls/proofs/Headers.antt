-- What a header determines: one description of its picture, and why one within the limits is refused.
use Rattle.std.proofs.Common.{arith, ◌≡◌, ◌∙◌, ◌*◌, ℕ, Bool, List, Some, Ok, Result, ap, false, refl, sym, true}
use Rattle.std.specs.Prelude.{◌||◌, option_map}
use Rattle.std.proofs.lemmas.Grind.{common_steps}
use Rattle.jpeg_bits.specs.Reading.{Fault, Names, Outcome}
use Rattle.jpeg_bits.specs.declared.error.Error.{Error}
use Rattle.jpeg_bits.specs.declared.error.Error.TheVariants as errors
use Rattle.jpeg_decoder.specs.Bytes.{decoding_bytes}
use Rattle.jpeg_decoder.specs.StreamTransforms.{frame_transform}
use Rattle.jpeg_meaning.specs.DecodedImages.{AtLeast, AtScale, FullSize, Size, at_size}
use Rattle.jpeg_meaning.specs.Found.{Found, Said}
use Rattle.jpeg_meaning.specs.Pixels.{info_by}
use Rattle.jpeg_meaning.specs.States.{Decoding}
use Rattle.jpeg_meaning.specs.Stream.{header_at}
use Rattle.zaxbriar_calls.specs.Density.{density_of}
use Rattle.zaxbriar_calls.specs.Layouts.{conversion_to}
use Rattle.zaxbriar_calls.specs.Faults.{IsFault, IsOfRoom, IsPart}
use Rattle.zaxbriar_calls.specs.Limits.{bytes_beside, exceeds_limits, is_over}
use Rattle.zaxbriar_calls.specs.Lines.{HasLines, described_picture, lines_by}
use Rattle.zaxbriar_calls.specs.Meanings.{Describes, IsTooLarge, IsWithin, number_of_transform, orientation_by}
use Rattle.zaxbriar_calls.specs.Meanings.{ReadsHeader, settings_of, size_wanted}
use Rattle.zaxbriar_calls.specs.Planes.{planes_of_components}
use Rattle.zaxbriar_calls.specs.Sampling.{sampling_of}
use Rattle.zaxbriar_calls.specs.declared.answers.Refusal.{Refusal}
use Rattle.zaxbriar_calls.specs.declared.answers.Refusal.TheVariants as refusals
use Rattle.zaxbriar_calls.specs.declared.density.Density.{Density}
use Rattle.zaxbriar_calls.specs.declared.header.Header.{Header}
use Rattle.zaxbriar_calls.specs.declared.lines.Lines.{Lines}
use Rattle.zaxbriar_calls.specs.declared.options.Options.{Options}
use Rattle.zaxbriar_calls.specs.declared.picture.Picture.{Picture}

some-same : {X : Type 0} (x y : X) → Some x ≡ Some y → x ≡ y
some-same x y e = cc

header-same : (read : Outcome Found) (h k : Found) (x y : List ℕ) → read ≡ Ok (h, x) → read ≡ Ok (k, y) → h ≡ k
header-same read h k x y p q =
    let both : (h, x) ≡ (k, y) = cc in
    ap (λ (p : Found × List ℕ). p.0) both

-- one stream has one description
pub described-same : (o : Options) (bytes : List ℕ) (a b : Picture) → Describes o bytes a
    → Describes o bytes b → a ≡ b
described-same o bytes a b d e =
    let h : d.header ≡ e.header = header-same (header_at bytes) d.header e.header d.rest e.rest d.reads e.reads in
    let info : d.info ≡ e.info = some-same d.info e.info (sym d.info_is
    ∙ ap (λ (h : Found). option_map (info_by (settings_of o)) (at_size (size_wanted o) h.said).frame) h ∙ e.info_is) in
    let precision : d.precision ≡ e.precision = some-same d.precision e.precision (sym d.precision_is
    ∙ ap (λ (h : Found). option_map (λ f. f.precision) (at_size (size_wanted o) h.said).frame) h ∙ e.precision_is) in
    let decoding : d.decoding ≡ e.decoding = some-same d.decoding e.decoding (sym d.decoding_is
    ∙ ap (λ (h : Found). option_map (decoding_bytes (settings_of o)) (at_size (size_wanted o) h.said).frame) h
    ∙ e.decoding_is) in
    let conversion : d.conversion ≡ e.conversion = some-same d.conversion e.conversion (sym d.conversion_is
    ∙ (λ i. conversion_to o.layout (info i).pixel_format (precision i)) ∙ e.conversion_is) in
    let sampling : d.sampling ≡ e.sampling = some-same d.sampling e.sampling (sym d.sampling_is
    ∙ ap (λ (h : Found). option_map (λ f. sampling_of f.components) (at_size (size_wanted o) h.said).frame) h
    ∙ e.sampling_is) in
    let planes : d.planes ≡ e.planes = some-same d.planes e.planes (sym d.planes_is
    ∙ ap (λ (h : Found). option_map (λ f. planes_of_components f.components f.precision)
    (at_size (size_wanted o) h.said).frame) h ∙ e.planes_is) in
    let transform : d.transform ≡ e.transform = some-same d.transform e.transform (sym d.transform_is
    ∙ ap (λ (h : Found). option_map (λ f. number_of_transform (frame_transform h.said.metadata f))
    (at_size (size_wanted o) h.said).frame) h ∙ e.transform_is) in
    d.picture_is
    ∙ (λ i. described_picture o.layout (info i) (precision i)
    (lines_by o (info i) (precision i) (orientation_by (at_size (size_wanted o) (h i).said).metadata.exif) (conversion i))
    (bytes_beside (decoding i)) (orientation_by (at_size (size_wanted o) (h i).said).metadata.exif) (sampling i)
    (planes i) (transform i) (density_of bytes) 0)
    ∙ sym e.picture_is

of-memory : {Y : Type 0} (e : Error) (read : Result Y Fault) (x : Y) → read ≡ Ok x → Names e read → e ≡ errors.OutOfMemory
of-memory e read x is n = grind (arith, common_steps)

-- no stream has a picture within the limits and one above a limit
pub one-size : (o : Options) (bytes : List ℕ) (a b : Picture) → IsWithin o bytes a → IsTooLarge o bytes b → ⊥
one-size o bytes a b within large =
    let same = described-same o bytes a b within.0 large.0 in
    let over : exceeds_limits o a ≡ true = ap (λ (p : Picture). exceeds_limits o p) same ∙ large.1 in
    true-false (sym over ∙ within.1)
  where
    true-false : true ≡ false → ⊥
    true-false h = cc

-- a picture within the limits is refused by its header only for lack of memory, or by the arguments
pub only-room : (o : Options) (bytes : List ℕ) (picture size : Picture) (r : Refusal)
    → IsWithin o bytes size → IsFault (header_at bytes) r
    → (r ≡ refusals.TooLarge → IsTooLarge o bytes picture) → (r ≡ refusals.NoRoom → ⊥) → (IsPart r → ⊥)
    → IsOfRoom r
only-room o bytes picture size (refusals.Stream e) w named large room part =
    of-memory e (header_at bytes) (w.0.header, w.0.rest) w.0.reads named
only-room o bytes picture size (refusals.Part e rows) w named large room part = absurd (part tt)
only-room o bytes picture size refusals.Reader w named large room part = tt
only-room o bytes picture size (refusals.Argument t) w named large room part = tt
only-room o bytes picture size refusals.NoRoom w named large room part = tt
only-room o bytes picture size refusals.TooLarge w named large room part =
    absurd (one-size o bytes size picture w (large refl))

-- ---- a description

sized-metadata : (size : Size) (said : Said) → (at_size size said).metadata ≡ said.metadata
sized-metadata FullSize said = refl
sized-metadata (AtLeast width height) said = refl
sized-metadata (AtScale scale) said = refl

-- a picture is described by its header
pub describes : (o : Options) (old new : Decoding) (h : Header) (lines : Lines) (density : Density)
    (picture : Picture) → ReadsHeader o old new → old.source.known ≡ true
    → option_map (info_by new.settings) new.found.said.frame ≡ Some h.info
    → option_map (λ f. f.precision) new.found.said.frame ≡ Some h.precision
    → h.orientation ≡ orientation_by new.found.said.metadata.exif
    → option_map (λ f. sampling_of f.components) new.found.said.frame ≡ Some h.sampling
    → option_map (λ f. planes_of_components f.components f.precision) new.found.said.frame ≡ Some h.planes
    → option_map (λ f. number_of_transform (frame_transform new.found.said.metadata f)) new.found.said.frame
    ≡ Some h.transform
    → option_map (decoding_bytes new.settings) new.found.said.frame ≡ Some h.decoding_bytes
    → HasLines o h.info h.precision h.orientation lines → density ≡ density_of old.source.bytes
    → picture ≡ described_picture o.layout h.info h.precision lines (bytes_beside h.decoding_bytes) h.orientation
    h.sampling h.planes h.transform density 0
    → Describes o old.source.bytes picture
describes o old new h lines density picture r known info precision oriented sampling planes transform bytes l d w =
    let facts = r.reads known in
    let header = facts.1.0 in
    let same : new.found.said ≡ at_size (size_wanted o) header.said = ap (λ (f : Found). f.said) facts.1.2 in
    let metadata : new.found.said.metadata ≡ header.said.metadata =
    ap (λ (s : Said). s.metadata) same ∙ sized-metadata (size_wanted o) header.said in
    let orientation : h.orientation ≡ orientation_by (at_size (size_wanted o) header.said).metadata.exif =
    oriented ∙ ap (λ (s : Said). orientation_by s.metadata.exif) same in
    record {
      header = header;
      rest = new.source.bytes;
      info = h.info;
      precision = h.precision;
      decoding = h.decoding_bytes;
      conversion = l.conversion;
      sampling = h.sampling;
      planes = h.planes;
      transform = h.transform;
      reads = facts.1.1;
      info_is = ap (λ (s : Said). option_map (info_by (settings_of o)) s.frame) (sym same)
          ∙ (λ i. option_map (info_by (sym r.settings i)) new.found.said.frame) ∙ info;
      precision_is = ap (λ (s : Said). option_map (λ f. f.precision) s.frame) (sym same) ∙ precision;
      decoding_is = ap (λ (s : Said). option_map (decoding_bytes (settings_of o)) s.frame) (sym same)
          ∙ (λ i. option_map (decoding_bytes (sym r.settings i)) new.found.said.frame) ∙ bytes;
      conversion_is = l.is;
      sampling_is = ap (λ (s : Said). option_map (λ f. sampling_of f.components) s.frame) (sym same) ∙ sampling;
      planes_is = ap (λ (s : Said). option_map (λ f. planes_of_components f.components f.precision) s.frame) (sym same)
          ∙ planes;
      transform_is = (λ i. option_map (λ f. number_of_transform (frame_transform (sym metadata i) f)) (sym same i).frame)
          ∙ transform;
      picture_is = w ∙ (λ i. described_picture o.layout h.info h.precision (l.lines_are i)
          (bytes_beside h.decoding_bytes) h.orientation h.sampling h.planes h.transform (d i) 0)
          ∙ ap (λ (orientation : ℕ). described_picture o.layout h.info h.precision
          (lines_by o h.info h.precision orientation l.conversion) (bytes_beside h.decoding_bytes) orientation
          h.sampling h.planes h.transform (density_of old.source.bytes) 0) orientation;
    }

-- and compared with the limits
pub exceeds-described : (o : Options) (h : Header) (lines : Lines) (density : Density)
    (picture : Picture) (over : Bool) → HasLines o h.info h.precision h.orientation lines
    → picture ≡ described_picture o.layout h.info h.precision lines (bytes_beside h.decoding_bytes) h.orientation
    h.sampling h.planes h.transform density 0
    → over ≡ (is_over o.max_samples (lines.width * lines.height * picture.components)
    || is_over o.max_bytes picture.decoding_bytes)
    → exceeds_limits o picture ≡ over
exceeds-described o h lines density picture over l w e =
    let width : picture.width ≡ lines.width = ap (λ (p : Picture). p.width) w in
    let height : picture.height ≡ lines.height = ap (λ (p : Picture). p.height) w in
    (λ i. is_over o.max_samples (width i * height i * picture.components) || is_over o.max_bytes picture.decoding_bytes)
    ∙ sym e
