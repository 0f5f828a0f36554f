-- Fronts of streams, and streams that mean one picture.
use Rattle.std.proofs.Common.{rules, ◌≡◌, ℕ, ◌+◌, true, List, [], ◌∷◌, ◌++◌, Some, None, Result, Ok, Err, refl, sym}
use Rattle.std.proofs.Common.{ap, ap₂, ◌∙◌, ◌*◌, ◌/◌, ◌%◌, ◌≢◌, length, subst, true≢false}
use Rattle.std.specs.List.{AllByRecursion, enumerate_from}
use Rattle.std.specs.Prelude.{slice_get, slice_index_or}
use Rattle.jpeg_bits.specs.Reading.{Fault, Outcome, ◌>>=◌}
use Rattle.jpeg_segments.specs.Frame.{Component, Frame}
use Rattle.jpeg_segments.specs.declared.frame.CodingProcess.TheVariants.{Lossless}
use Rattle.jpeg_segments.specs.ScanHeaders.{scan_written}
use Rattle.jpeg_meaning.specs.ArrayPictures.{meaning_of_array, picture_of_array, picture_of_blocks}
use Rattle.jpeg_meaning.specs.DecodedImages.{Size, FullSize, AtLeast, AtScale, at_size}
use Rattle.jpeg_meaning.specs.declared.settings.Settings.{Settings}
use Rattle.jpeg_meaning.specs.Levels.{Is8Bit, Levels, nothing_sent}
use Rattle.jpeg_meaning.specs.SaidSegments.{said_after}
use Rattle.jpeg_segments.specs.Checks.{gathered}
use Rattle.jpeg_meaning.specs.ScanSegments.{Coding, is_progressive}
use Rattle.jpeg_meaning.specs.Found.{Metadata, nothing_said, Said}
use Rattle.jpeg_meaning.specs.Stream.{Told, meaning, scaled_meaning, sized_meaning, told_of}
use Rattle.jpeg_meaning.specs.FoundPictures.{picture_by}
use Rattle.jpeg_meaning.specs.WholeImages.{AllComplete}
use Rattle.jpeg_meaning.specs.WrittenImages.{WritesImage, ClosesImage, WritesPart}
use Rattle.jpeg_meaning.specs.WrittenParts.{AgreeOnOwn, HaveSamePicture, picture_meant_by, WritesFront}
use Rattle.jpeg_meaning.specs.WrittenScans.{Coefficients, HasTable}
use Rattle.jpeg_meaning.proofs.Order.Apart.{at-all, get-at}
use Rattle.jpeg_meaning.proofs.Written.CodingsInForce.{codings-found}
use Rattle.jpeg_meaning.proofs.Written.ReadTurns.{codings-each, same-frame}
use Rattle.jpeg_meaning.proofs.Pictures.LimitedPictures.{array_plane, limited-same, lossy-shown}
use Rattle.jpeg_meaning.specs.WrittenStreams.{end, scan, segment}
use Rattle.jpeg_meaning.proofs.Written.WalkedStreams.{closes, frame-kept, front-append}
use Rattle.jpeg_meaning.proofs.Pictures.WholeImages.{whole-is}
use Rattle.jpeg_meaning.proofs.Written.SizedStreams.{stream-means_scaled, stream-means_sized}
use Rattle.jpeg_meaning.proofs.Written.WrittenPictures.{stream-means, written-lossy}
use Rattle.jpeg_bits.proofs.BandSteps.{bind_same}

-- ---- fronts

pub front-closed : (array : Coefficients) (front : List ℕ) (said : Said) (levels : ℕ → Levels) (frame : Frame)
    → WritesFront array nothing_said (λ k. nothing_sent) front said levels → said.scanned ≡ true
    → said.frame ≡ Some frame → is_progressive frame.process ≡ true → AllByRecursion (HasTable said) frame.components
    → WritesImage array (255 ∷ 216 ∷ (front ++ (255 ∷ 217 ∷ []))) said levels
front-closed array front said levels frame f scanned framed progressive tables = record {
  after = front ++ (255 ∷ 217 ∷ []);
  starts = refl;
  written = front-append nothing_said said said (λ k. nothing_sent) levels levels front (255 ∷ 217 ∷ []) f
      (end said levels (255 ∷ 217 ∷ [])
      (closes said frame 0 framed (scanned, tables, λ e. absurd (true≢false (sym progressive ∙ e)))));
}

-- ---- the picture alone

abbrev all_of : Told → List ℕ → List ℕ → Result ((Told × List ℕ) × List ℕ) Fault
all_of told rest p = Ok ((told, p), rest)

pub picture-alone : (o : Result (List ℕ) Fault) (told : Told) (rest : List ℕ)
    → ((o >>= all_of told rest) >>= (λ m. Ok m.0.1)) ≡ o
picture-alone (Ok p) told rest = refl
picture-alone (Err e) told rest = refl

-- ---- what is said of one picture

same-planes : (a b : Said) (array : Coefficients) (index : ℕ) (cs : List Component)
    → AllByRecursion (λ c. slice_index_or a.quantization c.factors.quantization None
    ≡ slice_index_or b.quantization c.factors.quantization None) cs
    → gathered (array_plane a array) (enumerate_from index cs) ≡ gathered (array_plane b array) (enumerate_from index cs)
unfolding gathered
same-planes a b array index [] h = refl
same-planes a b array index (c ∷ cs) h =
    search (rules, bind_same, same-planes a b array (index + 1) cs h.1)

-- a picture of planes goes by the size of the frame, and by what JFIF's and Adobe's segments say
picture-alike : (settings : Settings) (m n : Metadata) (f g : Frame) (cs : List Component) (planes : List (List ℕ))
    → f.output_width ≡ g.output_width → f.output_height ≡ g.output_height → m.jfif ≡ n.jfif → m.adobe ≡ n.adobe
    → picture_by settings m f cs planes ≡ picture_by settings n g cs planes
unfolding picture_by
picture-alike settings m n f g [] planes w h j a = search rules
picture-alike settings m n f g (c ∷ []) planes w h j a = search rules
picture-alike settings m n f g (c ∷ d ∷ cs) planes w h j a = search rules

-- The frames aren't lossless.
pub same-picture : (settings : Settings) (array : Coefficients) (a b : Said) (h : HaveSamePicture a b)
    → h.frame_a.process ≢ Lossless → h.frame_b.process ≢ Lossless
    → picture_of_blocks settings a array ≡ picture_of_blocks settings b array
unfolding picture_of_blocks
same-picture settings array a b h lossy_a lossy_b =
    limited-same settings a b h.frame_a h.frame_b _ _ h.is_a h.is_b
    (ap₂ (λ (n k : ℕ). n * k)
    (lossy-shown settings h.frame_a h.frame_b lossy_a lossy_b (ap length h.components))
    (ap₂ (λ (n k : ℕ). n * k) h.width h.height))
    (search (rules, bind_same, same-planes, picture-alike))

whole-picture : (settings : Settings) (array : Coefficients) (bytes rest : List ℕ) (final : Said)
    (last : ℕ → Levels) (frame : Frame) → ((index row column : ℕ) → Is8Bit (array index row column))
    → WritesImage array bytes final last → final.frame ≡ Some frame → AllComplete frame last
    → picture_meant_by settings (bytes ++ rest) ≡ picture_of_blocks settings final array
whole-picture settings array bytes rest final last frame range w e done =
    ap (λ o. o >>= (λ m. Ok m.0.1))
    (stream-means settings array bytes rest final last range w
    ∙ whole-is settings array bytes rest final last frame range w e done)
    ∙ picture-alone (picture_of_blocks settings final array) (told_of final) rest

pub one-picture : (settings : Settings) (array : Coefficients) (first second rest others : List ℕ) (a b : Said)
    (last_a last_b : ℕ → Levels)
    → ((index row column : ℕ) → Is8Bit (array index row column)) → WritesImage array first a last_a
    → WritesImage array second b last_b
    → (same : HaveSamePicture a b) → AllComplete same.frame_a last_a → AllComplete same.frame_b last_b
    → picture_meant_by settings (first ++ rest) ≡ picture_meant_by settings (second ++ others)
one-picture settings array first second rest others a b last_a last_b range w x same done_a done_b =
    whole-picture settings array first rest a last_a same.frame_a range w same.is_a done_a
    ∙ same-picture settings array a b same
    (written-lossy settings array first a last_a same.frame_a range w same.is_a)
    (written-lossy settings array second b last_b same.frame_b range x same.is_b)
    ∙ sym (search (rules, whole-picture))

-- ---- padding

also-writes : (a b : Coefficients) (said final : Said) (levels last : ℕ → Levels) (bytes : List ℕ) (frame : Frame)
    → WritesPart a ClosesImage said levels bytes final last → final.frame ≡ Some frame → AgreeOnOwn frame a b
    → WritesPart b ClosesImage said levels bytes final last
also-writes a b said final levels last bytes frame (end said' levels' bytes' c) e agree = end said levels bytes c
also-writes a b said final levels last bytes frame (segment said' final' levels' last' fill s more stands may w) e
    agree =
    segment said final levels last fill s more stands may
    (also-writes a b (said_after said s) final levels last more frame w e agree)
also-writes a b said final levels last bytes frame
    (scan said' final' levels' next last' f fill h data_bytes more framed is x w) e agree =
    let same : f ≡ frame = search (rules, same-frame, frame-kept) in
    let alike : AgreeOnOwn f a b = subst (λ (x : Frame). AgreeOnOwn x a b) (sym same) agree in
    let Here : Coding → Type 0 = λ k. slice_get f.components k.index ≡ Some k.component in
    let here = codings-each Here said f (scan_written f h) x.codings
    (codings-found said f (scan_written f h) x.codings x.legal.are_in_force)
    (λ index d a k is. is.component) in
    scan said final levels next last f fill h data_bytes more framed is
    (record {
      codings = x.codings;
      legal = x.legal;
      written = record {
        sent = x.written.sent;
        in_range = x.written.in_range;
        is_own = λ s k got own. x.written.is_own s k got own
            ∙ alike k.index (s.index / k.component.blocks_wide) (s.index % k.component.blocks_wide) k.component
            (at-all Here s.slot x.codings k here (get-at s.slot x.codings k got)) own.row own.column;
        coded = x.written.coded;
      };
      sent = x.sent;
    })
    (also-writes a b (record said { scanned = true }) final next last more frame w e agree)

pub also-written : (a b : Coefficients) (bytes : List ℕ) (final : Said) (last : ℕ → Levels) (frame : Frame)
    → WritesImage a bytes final last → final.frame ≡ Some frame → AgreeOnOwn frame a b → WritesImage b bytes final last
also-written a b bytes final last frame w e agree = search (rules, also-writes)

-- read at a size
abbrev meant_at : Size → Settings → List ℕ → Outcome (Told × List ℕ)
meant_at FullSize settings bytes = meaning settings bytes
meant_at (AtLeast width height) settings bytes = sized_meaning width height settings bytes
meant_at (AtScale scale) settings bytes = scaled_meaning scale settings bytes

means-at : (size : Size) (settings : Settings) (array : Coefficients) (bytes rest : List ℕ) (final : Said)
    (last : ℕ → Levels) → ((index row column : ℕ) → Is8Bit (array index row column))
    → WritesImage array bytes final last
    → meant_at size settings (bytes ++ rest) ≡ meaning_of_array settings (at_size size final) array last rest
means-at FullSize settings array bytes rest final last range w =
    stream-means settings array bytes rest final last range w
means-at (AtLeast width height) settings array bytes rest final last range w =
    stream-means_sized width height settings array bytes rest final last range w
means-at (AtScale scale) settings array bytes rest final last range w =
    stream-means_scaled scale settings array bytes rest final last range w

array-picture : (size : Size) (settings : Settings) (array : Coefficients) (bytes : List ℕ) (final : Said)
    (last : ℕ → Levels) → ((index row column : ℕ) → Is8Bit (array index row column))
    → WritesImage array bytes final last
    → (meant_at size settings (bytes ++ []) >>= (λ m. Ok m.0.1)) ≡ picture_of_array settings (at_size size final) array
    last
array-picture size settings array bytes final last range w =
    ap (λ o. o >>= (λ m. Ok m.0.1)) (means-at size settings array bytes [] final last range w)
    ∙ picture-alone (picture_of_array settings (at_size size final) array last) (told_of (at_size size final)) []

pub unseen-padding : (size : Size) (settings : Settings) (a b : Coefficients) (bytes : List ℕ) (final : Said)
    (last : ℕ → Levels) (frame : Frame) → ((index row column : ℕ) → Is8Bit (a index row column))
    → ((index row column : ℕ) → Is8Bit (b index row column)) → WritesImage a bytes final last
    → final.frame ≡ Some frame → AgreeOnOwn frame a b → picture_of_array settings (at_size size final) a last
    ≡ picture_of_array settings (at_size size final) b last
unseen-padding size settings a b bytes final last frame range_a range_b w e agree =
    sym (array-picture size settings a bytes final last range_a w)
    ∙ array-picture size settings b bytes final last range_b (also-written a b bytes final last frame w e agree)
