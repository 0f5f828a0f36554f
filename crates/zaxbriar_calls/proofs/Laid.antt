-- Pixels and lines that are written one after the other.
use Rattle.std.proofs.Common.{◌≡◌, ◌∙◌, ℕ, zero, suc, ◌+◌, ◌-◌, ◌*◌, ◌/◌, ◌%◌, ◌<◌, ◌≤◌, List, [], ◌∷◌, ◌++◌, length, take}
use Rattle.std.proofs.Common.{drop, refl, sym, ap, arith, add-mul, append_assoc, length-append, length-drop, length-take}
use Rattle.std.proofs.Common.{Bool, false, replicate, subst, true}
use Rattle.std.proofs.Math.Nat.{min-eq_right}
use Rattle.std.proofs.Math.Seq.{take-add, take-append_seam, drop-append_seam, take-append-add, drop-append-add}
use Rattle.std.proofs.lemmas.List.{append-nil, drop_all, drop-append-le, drop-drop, take-append-drop}
use Rattle.std.proofs.lemmas.Simd.{put_chunk_is}
use Rattle.std.specs.List.{AllByRecursion, concat}
use Rattle.std.specs.Prelude.{min, slice_index, slice_index_or}
use borrow.Rule.Slice.PartMut.{put_mid}
use lib.Lanes.{pick_l, put_chunk}
use Rattle.zaxbriar_calls.specs.Layouts.{TakesStored, bytes_of, colour_of, converted_bytes, is_stored, layout_bytes}
use Rattle.zaxbriar_calls.specs.Layouts.{colour, full_of, laid_out, layout_line, level, luma, over, pixel_bytes}
use Rattle.zaxbriar_calls.specs.Layouts.{pixel_of, pixels_of, scaled, word}
use Rattle.zaxbriar_calls.proofs.Levels.{same-scale}
use Rattle.jpeg_meaning.specs.declared.images.PixelFormat.{PixelFormat}
use Rattle.jpeg_meaning.specs.declared.images.PixelFormat.TheVariants.{L8, L16, RGB24, CMYK32}
use Rattle.zaxbriar_calls.specs.declared.layouts.Conversion.{Conversion}
use Rattle.zaxbriar_calls.specs.declared.layouts.Conversion.TheVariants.{Stored, InColour}
use Rattle.zaxbriar_calls.specs.declared.layouts.Colour.{Colour}
use Rattle.zaxbriar_calls.specs.declared.layouts.Layout.{Layout}
use Rattle.zaxbriar_calls.specs.declared.layouts.Layout.TheVariants.{Grey, Rgb, Rgba, Bgra, Bgr, Xrgb, Abgr, Rgb565}
use Rattle.zaxbriar_calls.specs.declared.layouts.Layout.TheVariants.{Grey16, Rgb16}

-- a piece that is written after others over what was there
pub piece-put : (before old piece : List ℕ) (a k : ℕ) → length before ≡ a
    → put_mid a k (before ++ drop a old) piece ≡ (before ++ piece) ++ drop (a + k) old
piece-put before old piece a k e =
    let front : take a (before ++ drop a old) ≡ before = ap (λ n. take n (before ++ drop a old)) (sym e)
    ∙ take-append_seam before (drop a old) in
    let back : drop a (before ++ drop a old) ≡ drop a old = ap (λ n. drop n (before ++ drop a old)) (sym e)
    ∙ drop-append_seam before (drop a old) in
    let rest : drop k (drop a (before ++ drop a old)) ≡ drop (a + k) old = ap (λ (l : List ℕ). drop k l) back
    ∙ drop-drop k a old in
    (λ i. front i ++ (piece ++ rest i)) ∙ sym (append_assoc before piece (drop (a + k) old))

-- ---- pixels

pub pixels-length : (pixel : List ℕ → List ℕ) (stored bytes width : ℕ) (row : List ℕ)
    → ((p : List ℕ) → length (pixel p) ≡ bytes) → length (pixels_of pixel stored width row) ≡ width * bytes
unfolding pixels_of
pixels-length pixel stored bytes zero row each = omega arith
pixels-length pixel stored bytes (suc width) row each =
    let first : length (pixel (take stored row)) ≡ bytes = each (take stored row) in
    let others : length (pixels_of pixel stored width (drop stored row)) ≡ width * bytes =
    pixels-length pixel stored bytes width (drop stored row) each in
    length-append (pixel (take stored row)) (pixels_of pixel stored width (drop stored row)) ∙ omega arith

-- the pixels after those of the first columns
pub pixels-more : (pixel : List ℕ → List ℕ) (stored x more : ℕ) (row : List ℕ)
    → pixels_of pixel stored (x + more) row
    ≡ pixels_of pixel stored x row ++ pixels_of pixel stored more (drop (x * stored) row)
unfolding pixels_of
pixels-more pixel stored zero more row =
    let none : 0 ≡ 0 * stored = omega arith in
    let same : 0 + more ≡ more = omega arith in
    ap (λ n. pixels_of pixel stored n row) same ∙ ap (λ n. pixels_of pixel stored more (drop n row)) none
pixels-more pixel stored (suc x) more row =
    let at : stored + x * stored ≡ suc x * stored = omega arith in
    let next : suc x + more ≡ suc (x + more) = omega arith in
    ap (λ n. pixels_of pixel stored n row) next
    ∙ ap (λ (l : List ℕ). pixel (take stored row) ++ l) (pixels-more pixel stored x more (drop stored row))
    ∙ sym (append_assoc (pixel (take stored row)) (pixels_of pixel stored x (drop stored row))
    (pixels_of pixel stored more (drop (x * stored) (drop stored row))))
    ∙ ap (λ (l : List ℕ). (pixel (take stored row) ++ pixels_of pixel stored x (drop stored row))
    ++ pixels_of pixel stored more l) (drop-drop (x * stored) stored row ∙ ap (λ n. drop n row) at)

-- more pixels of a line
pixels-put : (pixel : List ℕ → List ℕ) (stored bytes x more k : ℕ) (row old now piece : List ℕ)
    → ((p : List ℕ) → length (pixel p) ≡ bytes) → k ≡ more * bytes
    → piece ≡ pixels_of pixel stored more (drop (x * stored) row)
    → now ≡ pixels_of pixel stored x row ++ drop (x * bytes) old
    → put_mid (x * bytes) k now piece ≡ pixels_of pixel stored (x + more) row ++ drop ((x + more) * bytes) old
pixels-put pixel stored bytes x more k row old now piece each e is before =
    let count : length (pixels_of pixel stored x row) ≡ x * bytes = pixels-length pixel stored bytes x row each in
    let at : x * bytes + k ≡ (x + more) * bytes = omega (arith, e, add-mul x more bytes) in
    ap (λ (l : List ℕ). put_mid (x * bytes) k l piece) before
    ∙ piece-put (pixels_of pixel stored x row) old piece (x * bytes) k count
    ∙ (λ i. (pixels_of pixel stored x row ++ is i) ++ drop (at i) old)
    ∙ ap (λ (l : List ℕ). l ++ drop ((x + more) * bytes) old) (sym (pixels-more pixel stored x more row))

-- one more pixel of a line
pixel-put : (pixel : List ℕ → List ℕ) (stored bytes x k : ℕ) (row old now piece : List ℕ)
    → ((p : List ℕ) → length (pixel p) ≡ bytes) → k ≡ bytes
    → piece ≡ pixel (take stored (drop (x * stored) row))
    → now ≡ pixels_of pixel stored x row ++ drop (x * bytes) old
    → put_mid (x * bytes) k now piece ≡ pixels_of pixel stored (x + 1) row ++ drop ((x + 1) * bytes) old
unfolding pixels_of
pixel-put pixel stored bytes x k row old now piece each e is before =
    let one : k ≡ 1 * bytes = omega (arith, e) in
    pixels-put pixel stored bytes x 1 k row old now piece each one
    (is ∙ sym (append-nil (pixel (take stored (drop (x * stored) row))))) before

-- items of which each is one of these, in a part of a row
each-take : (P : ℕ → Type 0) (n : ℕ) (row : List ℕ) → AllByRecursion P row → AllByRecursion P (take n row)
each-take P zero row all = tt
each-take P (suc n) [] all = tt
each-take P (suc n) (x ∷ row) all = (all.0, each-take P n row all.1)

each-drop : (P : ℕ → Type 0) (n : ℕ) (row : List ℕ) → AllByRecursion P row → AllByRecursion P (drop n row)
each-drop P zero row all = all
each-drop P (suc n) [] all = tt
each-drop P (suc n) (x ∷ row) all = each-drop P n row all.1

-- pixels that stay as they are, where each of their bytes is one of these
pixels-same : (P : ℕ → Type 0) (pixel : List ℕ → List ℕ) (stored width : ℕ) (row : List ℕ)
    → ((p : List ℕ) → length p ≡ stored → AllByRecursion P p → pixel p ≡ p) → length row ≡ width * stored
    → AllByRecursion P row → pixels_of pixel stored width row ≡ row
unfolding pixels_of
pixels-same P pixel stored zero [] same e all = refl
pixels-same P pixel stored zero (x ∷ xs) same e all = absurd (omega (arith, e))
pixels-same P pixel stored (suc width) row same e all =
    let first : length (take stored row) ≡ stored = omega (arith, e, length-take {A = ℕ}) in
    let rest : length (drop stored row) ≡ width * stored = omega (arith, e, length-drop {A = ℕ}) in
    (λ i. same (take stored row) first (each-take P stored row all) i
    ++ pixels-same P pixel stored width (drop stored row) same rest (each-drop P stored row all) i)
    ∙ take-append-drop stored row

-- the bytes of a pixel of a layout
pub colour-bytes : (layout : Layout) (colour : Colour) → length (bytes_of layout colour) ≡ layout_bytes layout
colour-bytes Grey c = refl
colour-bytes Rgb c = refl
colour-bytes Rgba c = refl
colour-bytes Bgra c = refl
colour-bytes Bgr c = refl
colour-bytes Xrgb c = refl
colour-bytes Abgr c = refl
colour-bytes Rgb565 c = refl
colour-bytes Grey16 c = refl
colour-bytes Rgb16 c = refl

-- the first pixel of a line
pub none-put : (pixel : List ℕ → List ℕ) (stored bytes : ℕ) (row old : List ℕ)
    → old ≡ pixels_of pixel stored 0 row ++ drop (0 * bytes) old
unfolding pixels_of
none-put pixel stored bytes row old =
    let none : 0 ≡ 0 * bytes = omega arith in
    ap (λ n. drop n old) none

-- one more pixel in colour
pub colour-put : (format : PixelFormat) (precision : ℕ) (layout : Layout) (stored bytes x : ℕ) (row old now piece : List ℕ)
    → stored ≡ pixel_bytes format precision → bytes ≡ layout_bytes layout
    → piece ≡ bytes_of layout
    (colour_of (full_of layout) format precision (take ((x + 1) * stored - x * stored) (drop (x * stored) row)))
    → now ≡ layout_line (InColour format precision layout) (pixel_bytes format precision) x row
    ++ drop (x * layout_bytes layout) old
    → put_mid (x * bytes) ((x + 1) * bytes - x * bytes) now piece
    ≡ layout_line (InColour format precision layout) (pixel_bytes format precision) (x + 1) row
    ++ drop ((x + 1) * layout_bytes layout) old
colour-put format precision layout stored bytes x row old now piece s b is before =
    let taken : (x + 1) * stored - x * stored ≡ stored = omega arith in
    let put : (x + 1) * bytes - x * bytes ≡ bytes = omega arith in
    (λ i. put_mid (x * b i) ((put ∙ b) i) now piece)
    ∙ pixel-put (pixel_of (InColour format precision layout)) (pixel_bytes format precision) (layout_bytes layout) x
    (layout_bytes layout) row old now piece (λ p. colour-bytes layout (colour_of (full_of layout) format precision p)) refl
    (is ∙ (λ i. bytes_of layout
    (colour_of (full_of layout) format precision (take ((taken ∙ s) i) (drop (x * s i) row))))) before

-- ---- four pixels of red, green and blue at a time

four_given : (P : List ℕ → Type 0) → ((a b c d : ℕ) (more : List ℕ) → P (a ∷ b ∷ c ∷ d ∷ more)) → (row : List ℕ)
    → 4 ≤ length row → P row
four_given P given [] room = absurd (omega (arith, room))
four_given P given (a ∷ []) room = absurd (omega (arith, room))
four_given P given (a ∷ b ∷ []) room = absurd (omega (arith, room))
four_given P given (a ∷ b ∷ c ∷ []) room = absurd (omega (arith, room))
four_given P given (a ∷ b ∷ c ∷ d ∷ more) room = given a b c d more

-- what is so of each row that begins with sixteen samples
sixteen_given : (P : List ℕ → Type 0) → ((a b c d e f g h i j k l m n o p : ℕ) (more : List ℕ)
    → P (a ∷ b ∷ c ∷ d ∷ e ∷ f ∷ g ∷ h ∷ i ∷ j ∷ k ∷ l ∷ m ∷ n ∷ o ∷ p ∷ more)) → (row : List ℕ) → 16 ≤ length row
    → P row
sixteen_given P given row room = four_given (λ r. 16 ≤ length r → P r)
    (λ a b c d more room. four_given (λ r. 12 ≤ length r → P (a ∷ b ∷ c ∷ d ∷ r))
    (λ e f g h more room. four_given (λ r. 8 ≤ length r → P (a ∷ b ∷ c ∷ d ∷ e ∷ f ∷ g ∷ h ∷ r))
    (λ i j k l more room. four_given (λ r. P (a ∷ b ∷ c ∷ d ∷ e ∷ f ∷ g ∷ h ∷ i ∷ j ∷ k ∷ l ∷ r))
    (λ m n o p more. given a b c d e f g h i j k l m n o p more) more (omega (arith, room)))
    more (omega (arith, room)) (omega (arith, room)))
    more (omega (arith, room)) (omega (arith, room)))
    row (omega (arith, room)) room

-- the bytes that a shuffle of sixteen samples and as many of 255 gives
abbrev pub shuffled : List ℕ → List ℕ → List ℕ
shuffled row places = pick_l 0 (take 16 row ++ replicate 16 255) places

-- a sample on its own scale
kept-same : (full sample : ℕ) → 1 ≤ full → sample ≤ full → sample ≡ scaled full full sample
kept-same full sample some most = sym (min-eq_right most) ∙ ap (λ n. min full n) (sym (same-scale full sample some))

byte-same : (sample : ℕ) → sample < 256 → sample ≡ scaled 255 255 sample
byte-same sample small = kept-same 255 sample (omega arith) (omega (arith, small))

pub shuffled_rgba : (row : List ℕ) → 16 ≤ length row → ((k : ℕ) → slice_index row k < 256)
    → shuffled row (0 ∷ 1 ∷ 2 ∷ 16 ∷ 3 ∷ 4 ∷ 5 ∷ 16 ∷ 6 ∷ 7 ∷ 8 ∷ 16 ∷ 9 ∷ 10 ∷ 11 ∷ 16 ∷ [])
    ≡ layout_line (InColour RGB24 8 Rgba) (pixel_bytes RGB24 8) 4 row
unfolding pixels_of level
shuffled_rgba row room small = sixteen_given (λ r. ((k : ℕ) → slice_index r k < 256)
    → shuffled r (0 ∷ 1 ∷ 2 ∷ 16 ∷ 3 ∷ 4 ∷ 5 ∷ 16 ∷ 6 ∷ 7 ∷ 8 ∷ 16 ∷ 9 ∷ 10 ∷ 11 ∷ 16 ∷ [])
    ≡ layout_line (InColour RGB24 8 Rgba) (pixel_bytes RGB24 8) 4 r)
    (λ a b c d e f g h i j k l m n o p more small. λ t.
    byte-same a (small 0) t ∷ byte-same b (small 1) t ∷ byte-same c (small 2) t ∷ 255
    ∷ byte-same d (small 3) t ∷ byte-same e (small 4) t ∷ byte-same f (small 5) t ∷ 255
    ∷ byte-same g (small 6) t ∷ byte-same h (small 7) t ∷ byte-same i (small 8) t ∷ 255
    ∷ byte-same j (small 9) t ∷ byte-same k (small 10) t ∷ byte-same l (small 11) t ∷ 255 ∷ [])
    row room small

pub shuffled_bgra : (row : List ℕ) → 16 ≤ length row → ((k : ℕ) → slice_index row k < 256)
    → shuffled row (2 ∷ 1 ∷ 0 ∷ 16 ∷ 5 ∷ 4 ∷ 3 ∷ 16 ∷ 8 ∷ 7 ∷ 6 ∷ 16 ∷ 11 ∷ 10 ∷ 9 ∷ 16 ∷ [])
    ≡ layout_line (InColour RGB24 8 Bgra) (pixel_bytes RGB24 8) 4 row
unfolding pixels_of level
shuffled_bgra row room small = sixteen_given (λ r. ((k : ℕ) → slice_index r k < 256)
    → shuffled r (2 ∷ 1 ∷ 0 ∷ 16 ∷ 5 ∷ 4 ∷ 3 ∷ 16 ∷ 8 ∷ 7 ∷ 6 ∷ 16 ∷ 11 ∷ 10 ∷ 9 ∷ 16 ∷ [])
    ≡ layout_line (InColour RGB24 8 Bgra) (pixel_bytes RGB24 8) 4 r)
    (λ a b c d e f g h i j k l m n o p more small. λ t.
    byte-same c (small 2) t ∷ byte-same b (small 1) t ∷ byte-same a (small 0) t ∷ 255
    ∷ byte-same f (small 5) t ∷ byte-same e (small 4) t ∷ byte-same d (small 3) t ∷ 255
    ∷ byte-same i (small 8) t ∷ byte-same h (small 7) t ∷ byte-same g (small 6) t ∷ 255
    ∷ byte-same l (small 11) t ∷ byte-same k (small 10) t ∷ byte-same j (small 9) t ∷ 255 ∷ [])
    row room small

pub shuffled_xrgb : (row : List ℕ) → 16 ≤ length row → ((k : ℕ) → slice_index row k < 256)
    → shuffled row (16 ∷ 0 ∷ 1 ∷ 2 ∷ 16 ∷ 3 ∷ 4 ∷ 5 ∷ 16 ∷ 6 ∷ 7 ∷ 8 ∷ 16 ∷ 9 ∷ 10 ∷ 11 ∷ [])
    ≡ layout_line (InColour RGB24 8 Xrgb) (pixel_bytes RGB24 8) 4 row
unfolding pixels_of level
shuffled_xrgb row room small = sixteen_given (λ r. ((k : ℕ) → slice_index r k < 256)
    → shuffled r (16 ∷ 0 ∷ 1 ∷ 2 ∷ 16 ∷ 3 ∷ 4 ∷ 5 ∷ 16 ∷ 6 ∷ 7 ∷ 8 ∷ 16 ∷ 9 ∷ 10 ∷ 11 ∷ [])
    ≡ layout_line (InColour RGB24 8 Xrgb) (pixel_bytes RGB24 8) 4 r)
    (λ a b c d e f g h i j k l m n o p more small. λ t.
    255 ∷ byte-same a (small 0) t ∷ byte-same b (small 1) t ∷ byte-same c (small 2) t
    ∷ 255 ∷ byte-same d (small 3) t ∷ byte-same e (small 4) t ∷ byte-same f (small 5) t
    ∷ 255 ∷ byte-same g (small 6) t ∷ byte-same h (small 7) t ∷ byte-same i (small 8) t
    ∷ 255 ∷ byte-same j (small 9) t ∷ byte-same k (small 10) t ∷ byte-same l (small 11) t ∷ [])
    row room small

pub shuffled_abgr : (row : List ℕ) → 16 ≤ length row → ((k : ℕ) → slice_index row k < 256)
    → shuffled row (16 ∷ 2 ∷ 1 ∷ 0 ∷ 16 ∷ 5 ∷ 4 ∷ 3 ∷ 16 ∷ 8 ∷ 7 ∷ 6 ∷ 16 ∷ 11 ∷ 10 ∷ 9 ∷ [])
    ≡ layout_line (InColour RGB24 8 Abgr) (pixel_bytes RGB24 8) 4 row
unfolding pixels_of level
shuffled_abgr row room small = sixteen_given (λ r. ((k : ℕ) → slice_index r k < 256)
    → shuffled r (16 ∷ 2 ∷ 1 ∷ 0 ∷ 16 ∷ 5 ∷ 4 ∷ 3 ∷ 16 ∷ 8 ∷ 7 ∷ 6 ∷ 16 ∷ 11 ∷ 10 ∷ 9 ∷ [])
    ≡ layout_line (InColour RGB24 8 Abgr) (pixel_bytes RGB24 8) 4 r)
    (λ a b c d e f g h i j k l m n o p more small. λ t.
    255 ∷ byte-same c (small 2) t ∷ byte-same b (small 1) t ∷ byte-same a (small 0) t
    ∷ 255 ∷ byte-same f (small 5) t ∷ byte-same e (small 4) t ∷ byte-same d (small 3) t
    ∷ 255 ∷ byte-same i (small 8) t ∷ byte-same h (small 7) t ∷ byte-same g (small 6) t
    ∷ 255 ∷ byte-same l (small 11) t ∷ byte-same k (small 10) t ∷ byte-same j (small 9) t ∷ [])
    row room small

-- the only layout of four bytes that is not one of the three others
pub rgba_left : (layout : Layout) → layout_bytes layout ≡ 4 → (layout ≡ Abgr → ⊥) → (layout ≡ Bgra → ⊥)
    → (layout ≡ Xrgb → ⊥) → layout ≡ Rgba
rgba_left Grey four not_abgr not_bgra not_xrgb = absurd (omega (arith, four))
rgba_left Rgb four not_abgr not_bgra not_xrgb = absurd (omega (arith, four))
rgba_left Rgba four not_abgr not_bgra not_xrgb = refl
rgba_left Bgra four not_abgr not_bgra not_xrgb = absurd (not_bgra refl)
rgba_left Bgr four not_abgr not_bgra not_xrgb = absurd (omega (arith, four))
rgba_left Xrgb four not_abgr not_bgra not_xrgb = absurd (not_xrgb refl)
rgba_left Abgr four not_abgr not_bgra not_xrgb = absurd (not_abgr refl)
rgba_left Rgb565 four not_abgr not_bgra not_xrgb = absurd (omega (arith, four))
rgba_left Grey16 four not_abgr not_bgra not_xrgb = absurd (omega (arith, four))
rgba_left Rgb16 four not_abgr not_bgra not_xrgb = absurd (omega (arith, four))

abbrev pub rgb_pixels : Layout → ℕ → List ℕ → List ℕ
rgb_pixels layout width row = layout_line (InColour RGB24 8 layout) (pixel_bytes RGB24 8) width row

rgb_bytes : (layout : Layout) → layout_bytes layout ≡ 4 → (p : List ℕ)
    → length (pixel_of (InColour RGB24 8 layout) p) ≡ 4
rgb_bytes layout four p = colour-bytes layout (colour_of (full_of layout) RGB24 8 p) ∙ four

-- four more pixels of a line
pub fours-put : (layout : Layout) (k : ℕ) (row old now piece : List ℕ) → layout_bytes layout ≡ 4
    → piece ≡ rgb_pixels layout 4 (drop (12 * k) row)
    → now ≡ rgb_pixels layout (4 * k) row ++ drop (16 * k) old
    → 16 * k + 16 ≤ length now
    → put_chunk (16 * k) now piece ≡ rgb_pixels layout (4 * (k + 1)) row ++ drop (16 * (k + 1)) old
fours-put layout k row old now piece four is before room =
    let pixel : List ℕ → List ℕ = pixel_of (InColour RGB24 8 layout) in
    let count : length piece ≡ 16 = ap (λ (l : List ℕ). length l) is
    ∙ pixels-length pixel 3 4 4 (drop (12 * k) row) (rgb_bytes layout four) in
    let from : 12 * k ≡ 4 * k * 3 = omega arith in
    let at : 16 * k ≡ 4 * k * 4 = omega arith in
    let next : 4 * k + 4 ≡ 4 * (k + 1) = omega arith in
    let end : (4 * k + 4) * 4 ≡ 16 * (k + 1) = omega arith in
    put_chunk_is (16 * k) now piece (omega (arith, count, room))
    ∙ (λ i. put_mid (at i) (count i) now piece)
    ∙ pixels-put pixel 3 4 (4 * k) 4 16 row old now piece (rgb_bytes layout four) refl
    (is ∙ ap (λ n. pixels_of pixel 3 4 (drop n row)) from)
    (before ∙ ap (λ n. pixels_of pixel 3 (4 * k) row ++ drop n old) at)
    ∙ (λ i. pixels_of pixel 3 (next i) row ++ drop (end i) old)

-- the pixels that are left
pub fours-end : (layout : Layout) (k left room width : ℕ) (row old now piece : List ℕ) → layout_bytes layout ≡ 4
    → piece ≡ rgb_pixels layout left (drop (12 * k) row)
    → now ≡ rgb_pixels layout (4 * k) row ++ drop (16 * k) old
    → 4 * k + left ≡ width → room ≡ left * 4 → length old ≡ width * 4
    → put_mid (16 * k) room now piece ≡ rgb_pixels layout width row
fours-end layout k left room width row old now piece four is before all e whole =
    let pixel : List ℕ → List ℕ = pixel_of (InColour RGB24 8 layout) in
    let from : 12 * k ≡ 4 * k * 3 = omega arith in
    let at : 16 * k ≡ 4 * k * 4 = omega arith in
    let none : drop ((4 * k + left) * 4) old ≡ [] = drop_all ((4 * k + left) * 4) old
    (omega (arith, all, whole)) in
    ap (λ n. put_mid n room now piece) at
    ∙ pixels-put pixel 3 4 (4 * k) left room row old now piece (rgb_bytes layout four) e
    (is ∙ ap (λ n. pixels_of pixel 3 left (drop n row)) from)
    (before ∙ ap (λ n. pixels_of pixel 3 (4 * k) row ++ drop n old) at)
    ∙ (λ i. pixels_of pixel 3 (all i) row ++ none i) ∙ append-nil (pixels_of pixel 3 width row)

-- a row of pixels as they are stored
any-item : (row : List ℕ) → AllByRecursion (λ (x : ℕ). Unit {0}) row
any-item [] = tt
any-item (x ∷ row) = (tt, any-item row)

pub stored-line : (stored width : ℕ) (row : List ℕ) → length row ≡ width * stored
    → row ≡ layout_line Stored stored width row
stored-line stored width row e =
    sym (pixels-same (λ (x : ℕ). Unit {0}) (λ p. p) stored width row (λ p whole all. refl) e (any-item row))

-- items of which each is a byte
abbrev pub AreBytes : List ℕ → Type 0
AreBytes row = AllByRecursion (λ (x : ℕ). x < 256) row

pub each-byte : (row : List ℕ) → ((k : ℕ) → slice_index row k < 256) → AreBytes row
each-byte [] small = tt
each-byte (x ∷ row) small = (small 0, each-byte row (λ k. small (suc k)))

-- a grey pixel is its luma
grey-luma : (n : ℕ) → luma (colour n n n) ≡ n
grey-luma n =
    let same : (19595 * n + 38470 * n + 7471 * n + 32768) / 65536 ≡ n = omega arith in same

grey-kept : (p : List ℕ) → length p ≡ 1 → AreBytes p → pixel_of (InColour L8 8 Grey) p ≡ p
unfolding level
grey-kept (g ∷ []) e bytes =
    ap (λ n. luma (colour n n n) ∷ []) (sym (byte-same g bytes.0)) ∙ ap (λ n. n ∷ []) (grey-luma g)
grey-kept [] e bytes = absurd (omega (arith, e))
grey-kept (g ∷ h ∷ more) e bytes = absurd (omega (arith, e))

rgb-kept : (p : List ℕ) → length p ≡ 3 → AreBytes p → pixel_of (InColour RGB24 8 Rgb) p ≡ p
unfolding level
rgb-kept (r ∷ g ∷ b ∷ []) e bytes =
    sym (λ i. byte-same r bytes.0 i ∷ byte-same g bytes.1.0 i ∷ byte-same b bytes.1.1.0 i ∷ [])
rgb-kept [] e bytes = absurd (omega (arith, e))
rgb-kept (r ∷ []) e bytes = absurd (omega (arith, e))
rgb-kept (r ∷ g ∷ []) e bytes = absurd (omega (arith, e))
rgb-kept (r ∷ g ∷ b ∷ h ∷ more) e bytes = absurd (omega (arith, e))

-- two bytes, and their number on its own scale
word-same : (low high : ℕ) → low < 256 → high < 256 → low + 256 * high ≡ scaled 65535 65535 (low + 256 * high)
word-same low high l h = kept-same 65535 (low + 256 * high) (omega arith) (omega (arith, l, h))

word-kept : (low high : ℕ) → low < 256 → word (low + 256 * high) ≡ low ∷ high ∷ []
word-kept low high l =
    let first : (low + 256 * high) % 256 ≡ low = omega (arith, l) in
    let second : (low + 256 * high) / 256 ≡ high = omega (arith, l) in
    λ i. first i ∷ second i ∷ []

wide_grey-kept : (p : List ℕ) → length p ≡ 2 → AreBytes p → pixel_of (InColour L16 16 Grey16) p ≡ p
unfolding level
wide_grey-kept (l ∷ h ∷ []) e bytes =
    ap (λ n. word (luma (colour n n n))) (sym (word-same l h bytes.0 bytes.1.0))
    ∙ ap (λ n. word n) (grey-luma (l + 256 * h)) ∙ word-kept l h bytes.0
wide_grey-kept [] e bytes = absurd (omega (arith, e))
wide_grey-kept (l ∷ []) e bytes = absurd (omega (arith, e))
wide_grey-kept (l ∷ h ∷ m ∷ more) e bytes = absurd (omega (arith, e))

wide_rgb-kept : (p : List ℕ) → length p ≡ 6 → AreBytes p → pixel_of (InColour RGB24 16 Rgb16) p ≡ p
unfolding level
wide_rgb-kept (a ∷ b ∷ c ∷ d ∷ e ∷ f ∷ []) six bytes =
    let first = sym (word-same a b bytes.0 bytes.1.0) in
    let second = sym (word-same c d bytes.1.1.0 bytes.1.1.1.0) in
    let third = sym (word-same e f bytes.1.1.1.1.0 bytes.1.1.1.1.1.0) in
    (λ i. word (first i) ++ (word (second i) ++ word (third i)))
    ∙ (λ i. word-kept a b bytes.0 i ++ (word-kept c d bytes.1.1.0 i ++ word-kept e f bytes.1.1.1.1.0 i))
wide_rgb-kept [] six bytes = absurd (omega (arith, six))
wide_rgb-kept (a ∷ []) six bytes = absurd (omega (arith, six))
wide_rgb-kept (a ∷ b ∷ []) six bytes = absurd (omega (arith, six))
wide_rgb-kept (a ∷ b ∷ c ∷ []) six bytes = absurd (omega (arith, six))
wide_rgb-kept (a ∷ b ∷ c ∷ d ∷ []) six bytes = absurd (omega (arith, six))
wide_rgb-kept (a ∷ b ∷ c ∷ d ∷ e ∷ []) six bytes = absurd (omega (arith, six))
wide_rgb-kept (a ∷ b ∷ c ∷ d ∷ e ∷ f ∷ g ∷ more) six bytes = absurd (omega (arith, six))

-- a row of pixels that stay as they are stored
kept-row : (format : PixelFormat) (precision own : ℕ) (layout : Layout) (stored width : ℕ) (row : List ℕ)
    → precision ≡ own → stored ≡ pixel_bytes format precision
    → ((p : List ℕ) → length p ≡ pixel_bytes format own → AreBytes p → pixel_of (InColour format own layout) p ≡ p)
    → length row ≡ width * stored → AreBytes row → row ≡ layout_line (InColour format precision layout) stored width row
kept-row format precision own layout stored width row is fits same e bytes =
    let long : stored ≡ pixel_bytes format own = fits ∙ ap (λ n. pixel_bytes format n) is in
    sym (pixels-same (λ (x : ℕ). x < 256) (pixel_of (InColour format precision layout)) stored width row
    (λ p whole all. ap (λ n. pixel_of (InColour format n layout) p) is ∙ same p (whole ∙ long) all) e bytes)

pub kept-line : (conversion : Conversion) (stored width : ℕ) (row : List ℕ) → is_stored conversion ≡ true
    → TakesStored conversion stored → length row ≡ width * stored → AreBytes row
    → row ≡ layout_line conversion stored width row
kept-line Stored stored width row kept fits e bytes = stored-line stored width row e
kept-line (InColour L8 precision Grey) stored width row kept fits e bytes =
    kept-row L8 precision 8 Grey stored width row (grind arith) fits grey-kept e bytes
kept-line (InColour RGB24 precision Rgb) stored width row kept fits e bytes =
    kept-row RGB24 precision 8 Rgb stored width row (grind arith) fits rgb-kept e bytes
kept-line (InColour L16 precision Grey16) stored width row kept fits e bytes =
    kept-row L16 precision 16 Grey16 stored width row (grind arith) fits wide_grey-kept e bytes
kept-line (InColour RGB24 precision Rgb16) stored width row kept fits e bytes =
    kept-row RGB24 precision 16 Rgb16 stored width row (grind arith) fits wide_rgb-kept e bytes
kept-line (InColour L8 precision Rgb) stored width row kept fits e bytes = absurd (cc)
kept-line (InColour L8 precision Rgba) stored width row kept fits e bytes = absurd (cc)
kept-line (InColour L8 precision Bgra) stored width row kept fits e bytes = absurd (cc)
kept-line (InColour L8 precision Bgr) stored width row kept fits e bytes = absurd (cc)
kept-line (InColour L8 precision Xrgb) stored width row kept fits e bytes = absurd (cc)
kept-line (InColour L8 precision Abgr) stored width row kept fits e bytes = absurd (cc)
kept-line (InColour L8 precision Rgb565) stored width row kept fits e bytes = absurd (cc)
kept-line (InColour L8 precision Grey16) stored width row kept fits e bytes = absurd (cc)
kept-line (InColour L8 precision Rgb16) stored width row kept fits e bytes = absurd (cc)
kept-line (InColour L16 precision Grey) stored width row kept fits e bytes = absurd (cc)
kept-line (InColour L16 precision Rgb) stored width row kept fits e bytes = absurd (cc)
kept-line (InColour L16 precision Rgba) stored width row kept fits e bytes = absurd (cc)
kept-line (InColour L16 precision Bgra) stored width row kept fits e bytes = absurd (cc)
kept-line (InColour L16 precision Bgr) stored width row kept fits e bytes = absurd (cc)
kept-line (InColour L16 precision Xrgb) stored width row kept fits e bytes = absurd (cc)
kept-line (InColour L16 precision Abgr) stored width row kept fits e bytes = absurd (cc)
kept-line (InColour L16 precision Rgb565) stored width row kept fits e bytes = absurd (cc)
kept-line (InColour L16 precision Rgb16) stored width row kept fits e bytes = absurd (cc)
kept-line (InColour RGB24 precision Grey) stored width row kept fits e bytes = absurd (cc)
kept-line (InColour RGB24 precision Rgba) stored width row kept fits e bytes = absurd (cc)
kept-line (InColour RGB24 precision Bgra) stored width row kept fits e bytes = absurd (cc)
kept-line (InColour RGB24 precision Bgr) stored width row kept fits e bytes = absurd (cc)
kept-line (InColour RGB24 precision Xrgb) stored width row kept fits e bytes = absurd (cc)
kept-line (InColour RGB24 precision Abgr) stored width row kept fits e bytes = absurd (cc)
kept-line (InColour RGB24 precision Rgb565) stored width row kept fits e bytes = absurd (cc)
kept-line (InColour RGB24 precision Grey16) stored width row kept fits e bytes = absurd (cc)
kept-line (InColour CMYK32 precision layout) stored width row kept fits e bytes = absurd (cc)

-- ---- lines

-- the bytes of a line
pub line-length : (conversion : Conversion) (stored width : ℕ) (row : List ℕ)
    → length row ≡ width * stored → length (layout_line conversion stored width row)
    ≡ width * converted_bytes conversion stored
line-length Stored stored width row e = ap (λ (l : List ℕ). length l) (sym (stored-line stored width row e)) ∙ e
line-length (InColour format precision layout) stored width row e =
    pixels-length (pixel_of (InColour format precision layout)) stored (layout_bytes layout) width row
    (λ p. colour-bytes layout (colour_of (full_of layout) format precision p))

-- bytes of a stride and after it
gap : (old : List ℕ) (bytes stride : ℕ) → bytes ≤ stride → bytes ≤ length old
    → drop bytes (take stride old) ++ drop stride old ≡ drop bytes old
gap old bytes stride le room =
    let inside : bytes ≤ length (take stride old) = omega (arith, length-take {A = ℕ}) in
    sym (drop-append-le bytes (take stride old) (drop stride old) inside)
    ∙ ap (λ (l : List ℕ). drop bytes l) (take-append-drop stride old)

over-length : (new old : List ℕ) → length new ≤ length old → length (over new old) ≡ length old
over-length new old h = length-append new (drop (length new) old) ∙ omega (arith, length-drop {A = ℕ})

-- a part that is written past others
put-past : (front back new : List ℕ) (a k : ℕ) → put_mid (length front + a) k (front ++ back) new
    ≡ front ++ put_mid a k back new
put-past front back new a k =
    let first : take (length front + a) (front ++ back) ≡ front ++ take a back = take-append-add front back a in
    let last : drop (length front + a) (front ++ back) ≡ drop a back = drop-append-add front back a in
    (λ i. first i ++ (new ++ drop k (last i)))
    ∙ append_assoc front (take a back) (new ++ drop k (drop a back))

-- one more line after those that stand before it
line-put : (line : List ℕ → List ℕ) (row bytes stride y k : ℕ) (samples old new : List ℕ)
    → ((p : List ℕ) → length p ≡ row → length (line p) ≡ bytes)
    → (y + 1) * row ≤ length samples → bytes ≤ stride → y * stride + bytes ≤ length old → k ≡ bytes
    → new ≡ line (take row (drop (y * row) samples))
    → put_mid (y * stride) k (laid_out line row stride false y samples old) new
    ≡ laid_out line row stride false (y + 1) samples old
unfolding laid_out
line-put line row bytes stride zero k samples old new each few le room e is =
    let none : 0 * stride ≡ 0 = omega arith in
    let none' : 0 * row ≡ 0 = omega arith in
    let whole : length (take row samples) ≡ row = omega (arith, length-take {A = ℕ}) in
    let count : length (line (take row samples)) ≡ bytes = each (take row samples) whole in
    let inside : bytes ≤ length old = omega arith in
    let is' : new ≡ line (take row samples) = is ∙ ap (λ n. line (take row (drop n samples))) none' in
    let k' : k ≡ length (line (take row samples)) = e ∙ sym count in
    let inside' : length (line (take row samples)) ≤ length old = omega (arith, count) in
    let le' : length (line (take row samples)) ≤ stride = omega (arith, count) in
    ap (λ n. put_mid n k old new) none
    ∙ (λ i. is' i ++ drop (k' i) old)
    ∙ ap (λ (l : List ℕ). line (take row samples) ++ l)
    (sym (gap old (length (line (take row samples))) stride le' inside'))
    ∙ sym (append_assoc (line (take row samples)) (drop (length (line (take row samples))) (take stride old))
    (drop stride old))
line-put line row bytes stride (suc y) k samples old new each few le room e is =
    let whole : length (take row samples) ≡ row = omega (arith, length-take {A = ℕ}) in
    let count : length (line (take row samples)) ≡ bytes = each (take row samples) whole in
    let long : length (take stride old) ≡ stride = omega (arith, length-take {A = ℕ}) in
    let front : length (over (line (take row samples)) (take stride old)) ≡ stride =
    over-length (line (take row samples)) (take stride old) (omega (arith, count, long)) ∙ long in
    let at : suc y * stride ≡ length (over (line (take row samples)) (take stride old)) + y * stride =
    omega (arith, front) in
    let at' : row + y * row ≡ suc y * row = omega arith in
    let few' : (y + 1) * row ≤ length (drop row samples) = omega (arith, length-drop {A = ℕ}) in
    let room' : y * stride + bytes ≤ length (drop stride old) = omega (arith, length-drop {A = ℕ}) in
    let is' : new ≡ line (take row (drop (y * row) (drop row samples))) = is
    ∙ ap (λ (l : List ℕ). line (take row l)) (sym (drop-drop (y * row) row samples ∙ ap (λ n. drop n samples) at')) in
    let next : suc (y + 1) ≡ suc y + 1 = omega arith in
    ap (λ n. put_mid n k (over (line (take row samples)) (take stride old)
    ++ laid_out line row stride false y (drop row samples) (drop stride old)) new) at
    ∙ put-past (over (line (take row samples)) (take stride old))
    (laid_out line row stride false y (drop row samples) (drop stride old)) new (y * stride) k
    ∙ ap (λ (l : List ℕ). over (line (take row samples)) (take stride old) ++ l)
    (line-put line row bytes stride y k (drop row samples) (drop stride old) new each few' le room' e is')
    ∙ ap (λ n. laid_out line row stride false n samples old) next

-- what the memory has after the first lines: those alone, or from the bottom those at its end
abbrev pub laid_so_far : (List ℕ → List ℕ) → ℕ → ℕ → Bool → ℕ → ℕ → List ℕ → List ℕ → List ℕ
laid_so_far line row stride false height y samples old = laid_out line row stride false y samples old
laid_so_far line row stride true height y samples old =
    take ((height - y) * stride) old ++ laid_out line row stride true y samples (drop ((height - y) * stride) old)

pub none-laid : (line : List ℕ → List ℕ) (row stride : ℕ) (bottom_up : Bool) (height : ℕ) (samples old : List ℕ)
    → old ≡ laid_so_far line row stride bottom_up height 0 samples old
unfolding laid_out
none-laid line row stride false height samples old = refl
none-laid line row stride true height samples old = sym (take-append-drop ((height - 0) * stride) old)

pub all-laid : (line : List ℕ → List ℕ) (row stride : ℕ) (bottom_up : Bool) (height : ℕ) (samples old : List ℕ)
    → laid_so_far line row stride bottom_up height height samples old
    ≡ laid_out line row stride bottom_up height samples old
all-laid line row stride false height samples old = refl
all-laid line row stride true height samples old =
    let none : height - height ≡ 0 = omega arith in
    let none' : 0 * stride ≡ 0 = omega arith in
    ap (λ n. take n old ++ laid_out line row stride true height samples (drop n old))
    (ap (λ n. n * stride) none ∙ none')

-- a line that is written before those that stand after it
put-before : (old others new : List ℕ) (a stride k : ℕ) → a ≤ length old → k ≤ length (take stride (drop a old))
    → k ≡ length new → put_mid a k ((take a old ++ take stride (drop a old)) ++ others) new
    ≡ take a old ++ (over new (take stride (drop a old)) ++ others)
put-before old others new a stride k inside fits e =
    let front : length (take a old) ≡ a = omega (arith, inside, length-take {A = ℕ}) in
    let at : a ≡ length (take a old) + 0 = omega (arith, front) in
    ap (λ (l : List ℕ). put_mid a k l new) (append_assoc (take a old) (take stride (drop a old)) others)
    ∙ ap (λ n. put_mid n k (take a old ++ (take stride (drop a old) ++ others)) new) at
    ∙ put-past (take a old) (take stride (drop a old) ++ others) new 0 k
    ∙ ap (λ (l : List ℕ). take a old ++ (new ++ l)) (drop-append-le k (take stride (drop a old)) others fits)
    ∙ ap (λ (l : List ℕ). take a old ++ l) (sym (append_assoc new (drop k (take stride (drop a old))) others))
    ∙ ap (λ n. take a old ++ ((new ++ drop n (take stride (drop a old))) ++ others)) e

-- one more line of a picture, at its place
pub line-laid : (line : List ℕ → List ℕ) (row bytes stride : ℕ) (bottom_up : Bool) (height y place k : ℕ)
    (samples old new : List ℕ) → ((p : List ℕ) → length p ≡ row → length (line p) ≡ bytes)
    → (y + 1) * row ≤ length samples → bytes ≤ stride → place * stride + bytes ≤ length old → k ≡ bytes
    → (bottom_up ≡ false → place ≡ y) → (bottom_up ≡ true → place + y + 1 ≡ height)
    → new ≡ line (take row (drop (y * row) samples))
    → put_mid (place * stride) k (laid_so_far line row stride bottom_up height y samples old) new
    ≡ laid_so_far line row stride bottom_up height (y + 1) samples old
unfolding laid_out
line-laid line row bytes stride false height y place k samples old new each few le room e down up is =
    let at : place ≡ y = down refl in
    let room' : y * stride + bytes ≤ length old = subst (λ n. n * stride + bytes ≤ length old) at room in
    ap (λ n. put_mid (n * stride) k (laid_out line row stride false y samples old) new) at
    ∙ line-put line row bytes stride y k samples old new each few le room' e is
line-laid line row bytes stride true height y place k samples old new each few le room e down up is =
    let sum : place + y + 1 ≡ height = up refl in
    let left : height - y ≡ place + 1 = omega (arith, sum) in
    let left' : height - (y + 1) ≡ place = omega (arith, sum) in
    let next : suc y ≡ y + 1 = omega arith in
    let more : (place + 1) * stride ≡ place * stride + stride = omega (arith, add-mul place 1 stride) in
    let a : (height - y) * stride ≡ place * stride + stride = ap (λ n. n * stride) left ∙ more in
    let inside : place * stride ≤ length old = omega (arith, room) in
    let behind : bytes ≤ length (drop (place * stride) old) = omega (arith, room, length-drop {A = ℕ}) in
    let room' : k ≤ length (take stride (drop (place * stride) old)) =
    omega (arith, e, le, behind, length-take {A = ℕ}) in
    let long : row ≤ length (drop (y * row) samples) = omega (arith, few, add-mul y 1 row, length-drop {A = ℕ}) in
    let whole : length (take row (drop (y * row) samples)) ≡ row = omega (arith, long, length-take {A = ℕ}) in
    let count : length new ≡ bytes = ap (λ (l : List ℕ). length l) is
    ∙ each (take row (drop (y * row) samples)) whole in
    ap (λ n. put_mid (place * stride) k (take n old ++ laid_out line row stride true y samples (drop n old)) new) a
    ∙ (λ i. put_mid (place * stride) k (take-add (place * stride) stride old i
    ++ laid_out line row stride true y samples (sym (drop-drop stride (place * stride) old) i)) new)
    ∙ put-before old (laid_out line row stride true y samples (drop stride (drop (place * stride) old))) new
    (place * stride) stride k inside room' (e ∙ sym count)
    ∙ ap (λ (l : List ℕ). take (place * stride) old ++ (over l (take stride (drop (place * stride) old))
    ++ laid_out line row stride true y samples (drop stride (drop (place * stride) old)))) is
    ∙ ap (λ n. take (place * stride) old ++ laid_out line row stride true n samples (drop (place * stride) old)) next
    ∙ ap (λ n. take (n * stride) old ++ laid_out line row stride true (y + 1) samples (drop (n * stride) old)) (sym left')

-- ---- lines that are put together

-- a line of many, each of so many samples
pub line-of-all : (n y : ℕ) (lines : List (List ℕ)) → AllByRecursion (λ line. length line ≡ n) lines
    → y < length lines → take n (drop (y * n) (concat lines)) ≡ slice_index_or lines y []
line-of-all n y [] all low = absurd (omega (arith, low))
line-of-all n zero (line ∷ lines) all low =
    let none : 0 * n ≡ 0 = omega arith in
    ap (λ k. take n (drop k (line ++ concat lines))) none
    ∙ ap (λ k. take k (line ++ concat lines)) (sym all.0)
    ∙ take-append_seam line (concat lines)
line-of-all n (suc y) (line ∷ lines) all low =
    let at : suc y * n ≡ length line + y * n = omega (arith, all.0) in
    ap (λ k. take n (drop k (line ++ concat lines))) at
    ∙ ap (λ (l : List ℕ). take n l) (drop-append-add line (concat lines) (y * n))
    ∙ line-of-all n y lines all.1 (omega (arith, low))
