-- An image that is written for coefficients: what a call gives is its picture, or its planes.
use Rattle.std.proofs.Common.{arith, ◌≡◌, ◌∙◌, ◌++◌, ◌+◌, ℕ, List, [], None, Ok, Err, Result, ap, length, length-append, refl, subst, sym}
use Rattle.std.proofs.lemmas.Grind.{common_steps}
use Rattle.std.specs.List.{concat}
use Rattle.jpeg_bits.specs.Reading.{◌>>=◌, Fault, Outcome}
use Rattle.jpeg_meaning.specs.ArrayPictures.{as_sent, meaning_of_array, picture_of_array}
use Rattle.jpeg_meaning.specs.DecodedImages.{AtLeast, AtScale, FullSize, Size, at_size}
use Rattle.jpeg_meaning.specs.Found.{Found, Said}
use Rattle.jpeg_meaning.specs.FoundPlanes.{planes_of}
use Rattle.jpeg_meaning.specs.Levels.{Is8Bit, Levels}
use Rattle.jpeg_meaning.specs.Shown.{Shown}
use Rattle.jpeg_meaning.specs.Stream.{Told, header_at, rest_by, told_of}
use Rattle.jpeg_meaning.specs.WrittenImages.{WritesImage}
use Rattle.jpeg_meaning.specs.WrittenPlanes.{planes_of_blocks}
use Rattle.jpeg_meaning.specs.WrittenScans.{Coefficients}
use Rattle.jpeg_meaning.specs.declared.progress.Progress.TheVariants.{HeaderRead}
use Rattle.jpeg_meaning.specs.declared.settings.Settings.{Settings}
use Rattle.jpeg_meaning.proofs.Written.ReadTurns.{then-ok}
use Rattle.jpeg_meaning.proofs.Written.SizedStreams.{stream-means_scaled, stream-means_sized}
use Rattle.jpeg_meaning.proofs.Written.WrittenPictures.{stream-means}
use Rattle.jpeg_meaning.proofs.Written.WrittenPlanes.{planes-mean, planes-mean_scaled, planes-mean_sized, planes_given}
use Rattle.jpeg_decoder.proofs.Pictures.DecodedImages.{left-means, left-shows, means_at, shown_at}
use Rattle.zaxbriar_calls.proofs.Limited.{rest-same, rest-unlimited, shown-unlimited}
use Rattle.zaxbriar_calls.proofs.Means.{given-means, given-planes, has-left}
use Rattle.zaxbriar_calls.specs.Fills.{FillsImages, FillsWhole}
use Rattle.zaxbriar_calls.specs.Given.{CountsImage, Gives, as_picture, faultless, given_by, rows_by, without_rows}
use Rattle.zaxbriar_calls.specs.Limits.{blocks_of_passes}
use Rattle.zaxbriar_calls.specs.Lines.{Arranged}
use Rattle.zaxbriar_calls.specs.Meanings.{CountsRead, ShowsSamples, found_at, meaning_by, planes_by, planes_rest, settings_at}
use Rattle.zaxbriar_calls.specs.Meanings.{settings_of, size_wanted}
use Rattle.zaxbriar_calls.specs.declared.extents.Extent.{Extent}
use Rattle.zaxbriar_calls.specs.declared.extents.Extent.TheVariants.{Whole, Partial, Planes}
use Rattle.zaxbriar_calls.specs.declared.options.Options.{Options}
use Rattle.zaxbriar_calls.specs.declared.picture.Picture.{Picture}

-- ---- a picture

means-array : (size : Size) (settings : Settings) (array : Coefficients) (image rest : List ℕ)
    (final : Said) (last : ℕ → Levels) → ((index row column : ℕ) → Is8Bit (array index row column))
    → WritesImage array image final last → means_at size settings (image ++ rest)
    ≡ meaning_of_array settings (at_size size final) array last rest
means-array FullSize = stream-means
means-array (AtLeast width height) = stream-means_sized width height
means-array (AtScale scale) = stream-means_scaled scale

-- that of an image that is written is its picture, where it isn't refused for the blocks of its scans
image-means : (o : Options) (header : Outcome Found) (array : Coefficients) (image rest : List ℕ) (final : Said)
    (last : ℕ → Levels) (m : Told × List ℕ) (left : List ℕ)
    → ((index row column : ℕ) → Is8Bit (array index row column)) → WritesImage array image final last
    → header_at (image ++ rest) ≡ header → meaning_by o (image ++ rest) ≡ Ok (m, left)
    → meaning_of_array (settings_of o) (at_size (size_wanted o) final) array last rest ≡ Ok (m, left)
unfolding meaning_by
image-means o (Ok h) array image rest final last m left range w e means =
    let found = found_at o h.0 in
    let has = has-left (size_wanted o) (image ++ rest) h.1 found h.0 e refl in
    let ahead = left-means (size_wanted o) (settings_of o) (image ++ rest) HeaderRead found h.1 _ has tt
    (means-array (size_wanted o) (settings_of o) array image rest final last range w) in
    let read : meaning_by o (image ++ rest) ≡ rest_by (settings_at o found) found h.1 =
    then-ok (header_at (image ++ rest)) _ h _ e refl in
    let limit = blocks_of_passes o.max_passes found.said.frame in
    sym ahead ∙ sym (rest-same None limit (settings_of o) found h.1)
    ∙ rest-unlimited limit (settings_at o found) found h.1 (m, left) (sym read ∙ means)
image-means o (Err f) array image rest final last m left range w e means =
    let none : meaning_by o (image ++ rest) ≡ Err f = rw e refl in
    absurd cc

abbrev answer : {A : Type 0} → Told → List ℕ → A → Outcome (Told × A)
answer told rest shown = Ok ((told, shown), rest)

shown-is : {A : Type 0} (shown : Result A Fault) (told : Told) (rest : List ℕ) (m : Told × A) (left : List ℕ)
    → (shown >>= (λ p. answer told rest p)) ≡ Ok (m, left) → (shown ≡ Ok m.1) × (left ≡ rest)
shown-is (Ok p) told rest m left e = grind (arith, common_steps)
shown-is (Err f) told rest m left e = absurd cc

samples-are : (r : Result Shown Fault) (m : Told × List ℕ) (s : Shown) → r ≡ Ok (faultless m) → r ≡ Ok s
    → m.1 ≡ s.picture
samples-are r m s e h = ap (λ (r : Result Shown Fault). picture_in r) (sym e ∙ h)
  where
    picture_in : Result Shown Fault → List ℕ
    picture_in (Ok s) = s.picture
    picture_in (Err f) = []

-- the bytes of an image are those that it takes
image-counted : (bytes image rest left : List ℕ) (count : ℕ) → bytes ≡ image ++ rest → left ≡ rest
    → count + length left ≡ length bytes → count ≡ length image
image-counted bytes image rest left count is same total =
    let whole : length bytes ≡ length image + length rest =
    ap (λ (l : List ℕ). length l) is ∙ length-append image rest in
    let after : length left ≡ length rest = ap (λ (l : List ℕ). length l) same in
    omega (arith, whole, after, total)

images-whole : (o : Options) (bytes old new : List ℕ) (picture : Picture)
    → Gives Whole o bytes old new None (without_rows picture) → picture.whole_rows ≡ 0
    → CountsRead (meaning_by o bytes) bytes picture.stream_bytes
    → (array : Coefficients) (image rest : List ℕ) (final : Said) (last : ℕ → Levels)
    → ((index row column : ℕ) → Is8Bit (array index row column)) → WritesImage array image final last
    → bytes ≡ image ++ rest
    → ShowsSamples Whole o (picture_of_array (settings_of o) (at_size (size_wanted o) final) array last) old new picture
    × (picture.stream_bytes ≡ length image)
images-whole o bytes old new picture g none counts array image rest final last range w is =
    let means = subst (λ (b : List ℕ). meaning_by o b ≡ Ok (counts.value, counts.rest)) is counts.reads in
    let array-means = image-means o (header_at (image ++ rest)) array image rest final last counts.value counts.rest range w
    refl means in
    let is-picture = shown-is (picture_of_array (settings_of o) (at_size (size_wanted o) final) array last)
    (told_of (at_size (size_wanted o) final)) rest counts.value counts.rest array-means in
    let same : counts.value.1 ≡ g.samples = samples-are (given_by Whole o bytes) counts.value _
    (given-means o bytes counts.value counts.rest counts.reads) g.are in (
      record {
        samples = g.samples;
        info = g.info;
        precision = g.precision;
        are = is-picture.0 ∙ ap Ok same;
        arranged = subst (λ (p : Picture). Arranged Whole o g.info g.precision g.samples old new p)
            (λ i. record picture { whole_rows = sym none i }) g.arranged;
      },
      image-counted bytes image rest counts.rest picture.stream_bytes is is-picture.1 counts.count_is,
    )

-- ---- planes

means-planes : (limit : ℕ) (size : Size) (array : Coefficients) (image rest : List ℕ) (final : Said)
    (last : ℕ → Levels) → ((index row column : ℕ) → Is8Bit (array index row column))
    → WritesImage array image final last → shown_at size (planes_of limit) (image ++ rest)
    ≡ planes_given (at_size size final) rest (planes_of_blocks limit (at_size size final) (as_sent array last))
means-planes limit FullSize = planes-mean limit
means-planes limit (AtLeast width height) = planes-mean_sized width height limit
means-planes limit (AtScale scale) = planes-mean_scaled scale limit

image-planes : (o : Options) (header : Outcome Found) (array : Coefficients) (image rest : List ℕ) (final : Said)
    (last : ℕ → Levels) (m : Told × List (List ℕ)) (left : List ℕ)
    → ((index row column : ℕ) → Is8Bit (array index row column)) → WritesImage array image final last
    → header_at (image ++ rest) ≡ header → planes_by o (image ++ rest) ≡ Ok (m, left)
    → planes_given (at_size (size_wanted o) final) rest
    (planes_of_blocks (settings_of o).limit (at_size (size_wanted o) final) (as_sent array last)) ≡ Ok (m, left)
unfolding planes_by
image-planes o (Ok h) array image rest final last m left range w e means =
    let found = found_at o h.0 in
    let most = (settings_of o).limit in
    let has = has-left (size_wanted o) (image ++ rest) h.1 found h.0 e refl in
    let ahead = left-shows (size_wanted o) None (planes_of most) (image ++ rest) HeaderRead found h.1 _ has tt
    (means-planes most (size_wanted o) array image rest final last range w) in
    let read : planes_by o (image ++ rest) ≡ planes_rest (settings_at o found) found h.1 =
    then-ok (header_at (image ++ rest)) _ h _ e refl in
    let limit = blocks_of_passes o.max_passes found.said.frame in
    sym ahead ∙ shown-unlimited limit (planes_of most) found h.1 (m, left) (sym read ∙ means)
image-planes o (Err f) array image rest final last m left range w e means =
    let none : planes_by o (image ++ rest) ≡ Err f = rw e refl in
    absurd cc

-- they are put one after the other
together : (planes : Result (List (List ℕ)) Fault) (all : List (List ℕ)) (samples : List ℕ) → planes ≡ Ok all
    → concat all ≡ samples → (planes >>= (λ p. Ok (concat p))) ≡ Ok samples
together planes all samples is same = rw is (ap Ok same)

images-planes : (o : Options) (bytes old new : List ℕ) (picture : Picture)
    → Gives Planes o bytes old new None (without_rows picture) → picture.whole_rows ≡ 0
    → CountsRead (planes_by o bytes) bytes picture.stream_bytes → FillsWhole Planes o bytes old new picture
images-planes o bytes old new picture g none counts array image rest final last range w is =
    let means = subst (λ (b : List ℕ). planes_by o b ≡ Ok (counts.value, counts.rest)) is counts.reads in
    let array-means = image-planes o (header_at (image ++ rest)) array image rest final last counts.value counts.rest
    range w refl means in
    let planes = planes_of_blocks (settings_of o).limit (at_size (size_wanted o) final) (as_sent array last) in
    let are-planes = shown-is planes (told_of (at_size (size_wanted o) final)) rest counts.value counts.rest array-means in
    let same : concat counts.value.1 ≡ g.samples = samples-are (given_by Planes o bytes) (as_picture counts.value) _
    (given-planes o bytes counts.value counts.rest counts.reads) g.are in (
      record {
        samples = g.samples;
        info = g.info;
        precision = g.precision;
        are = together planes counts.value.1 g.samples are-planes.0 same;
        arranged = subst (λ (p : Picture). Arranged Planes o g.info g.precision g.samples old new p)
            (λ i. record picture { whole_rows = sym none i }) g.arranged;
      },
      image-counted bytes image rest counts.rest picture.stream_bytes is are-planes.1 counts.count_is,
    )

pub images-given : (extent : Extent) (o : Options) (bytes old new : List ℕ) (picture : Picture)
    → Gives extent o bytes old new None (without_rows picture) → picture.whole_rows ≡ rows_by extent o bytes
    → CountsImage extent o bytes picture.stream_bytes → FillsImages extent o bytes old new picture
unfolding rows_by
images-given Whole o bytes old new picture g none counts = images-whole o bytes old new picture g none counts
images-given Partial o bytes old new picture g none counts = tt
images-given Planes o bytes old new picture g none counts = images-planes o bytes old new picture g none counts
