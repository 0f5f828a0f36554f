-- The picture of a written stream is that of its array, cut at the levels that were sent.
use Rattle.std.proofs.Common.{rules, ◌≡◌, ℕ, Bool, true, false, List, [], Option, None, Ok, refl, slice_index_or}
use Rattle.std.proofs.Common.{subst, arith, ◌≢◌, ◌+◌, ◌/◌, ◌%◌, ◌<◌, ◌∷◌, map, length, ◌++◌, replicate, Some, sym, ap}
use Rattle.std.proofs.Common.{◌∙◌, true≢false, ◌&&◌, Result, get_or, slice_index, is_some, suc, ◌*◌, ℤ, ap₂}
use Rattle.std.proofs.Common.{◌==◌, ◌≤◌, if◌then◌else◌}
use Rattle.std.specs.List.{AllByRecursion, enumerate_from, range_with_len, list_all}
use Rattle.jpeg_bits.specs.Codes.{Table, IsTable}
use Rattle.jpeg_bits.specs.declared.huffman.codes.HuffmanTableClass.{HuffmanTableClass}
use Rattle.jpeg_bits.specs.DefaultTables.{with_defaults}
use Rattle.jpeg_bits.proofs.DefaultTables.{luminance-dc-codes, chrominance-dc-codes, luminance-ac-codes}
use Rattle.jpeg_bits.proofs.DefaultTables.{chrominance-ac-codes}
use Rattle.jpeg_segments.specs.Frame.{Frame, Component, ceiling}
use Rattle.jpeg_segments.specs.ScanHeader.{Scan, Selector, is_band, scan_of}
use Rattle.jpeg_meaning.specs.Scans.{no_table}
use Rattle.jpeg_meaning.specs.ScanSegments.{Coding, codings_of, needed_if, tables_of, pass_of, arrays_before}
use Rattle.jpeg_meaning.specs.ScanSegments.{is_progressive, scan_turn}
use Rattle.jpeg_meaning.specs.Found.{Said, Found, none_finished, nothing_found, nothing_said, Metadata}
use Rattle.jpeg_meaning.proofs.Written.ReadTurns.{codings-each, gathered-more, needed-some, ok-same, same-frame, scan-by}
use Rattle.jpeg_meaning.proofs.Written.ReadTurns.{then-ok}
use Rattle.jpeg_meaning.proofs.Written.SaidTables.{HasTables, IsTableOrNone, table-there}
use Rattle.jpeg_meaning.proofs.Written.WrittenFrameScans.{no-codes, HoldsOwn, in-all}
use Rattle.std.proofs.lemmas.Grind.{common_steps}
use Rattle.std.proofs.lemmas.Bool.{and_parts, eqb-true, leb-true, eq-eqb}
use lib.ListN.{length-map}
use Rattle.jpeg_segments.specs.declared.frame.CodingProcess.TheVariants.{Lossless}
use Rattle.jpeg_segments.specs.ScanHeaders.{AreChoices, IsScan, ScanHeader, scan_written}
use Rattle.jpeg_segments.proofs.Fields.{nibbles-high, nibbles-low}
use Rattle.jpeg_meaning.proofs.Order.OwnSpots.{IsAbsent, AreApart, At, at-within, Fits, in-below}
pub use Rattle.jpeg_meaning.proofs.Written.BroughtLevels.{Progress}
use Rattle.jpeg_meaning.proofs.Written.BroughtLevels.{PassSo, ScanFacts, progressive-pass, Framed, framed-start, scan-brings}
use Rattle.jpeg_meaning.proofs.Written.BroughtLevels.{KnownScan, Shaped, PlaneSo, is_level_0, is_whole, Made, kept-arrays}
use Rattle.jpeg_bits.specs.Reading.{Outcome, Fault, ◌>>=◌}
use Rattle.jpeg_bits.specs.Written.{marker}
use Rattle.jpeg_pixels.specs.Pictures.{Source, sources_of, image_of}
use Rattle.jpeg_segments.specs.WrittenSegments.{frame_written, FrameHeader, Header, Quantization, Segment}
use Rattle.jpeg_segments.proofs.HeaderSegments.{sos-read}
use Rattle.jpeg_meaning.specs.Levels.{Is8Bit, Levels, nothing_sent, cut}
use Rattle.jpeg_meaning.specs.SaidSegments.{said_after, Stands}
use Rattle.jpeg_meaning.specs.Stream.{meaning, Told, told_of, meaning_showing}
use Rattle.jpeg_meaning.specs.WholeImages.{AllComplete}
use Rattle.jpeg_meaning.specs.WrittenImages.{MayStandInImage, WritesImage, WritesImageScan}
use Rattle.jpeg_meaning.specs.WrittenScans.{Coefficients, HasTable, IsComplete}
use Rattle.jpeg_meaning.proofs.Order.FrameShapes.{accepted-sources, all-shaped, frame-lossy, Plain, below-ceiling}
use Rattle.jpeg_meaning.proofs.Order.FrameShapes.{reaches-made, scale-made, one-made}
use Rattle.jpeg_meaning.proofs.Pictures.LosslessSizes.{all-ranged}
use Rattle.jpeg_meaning.proofs.Written.WalkedStreams.{beside, FindsScan, IsMeant, IsRead, IsSaid, ReadTo, stream-read}
use Rattle.jpeg_meaning.specs.declared.settings.Settings.{Settings}
use Rattle.std.proofs.Math.Nat.{div-lt_iff_lt-mul, mul_comm, div-mul-le_self}
use Rattle.std.proofs.lemmas.Nat.{div-mul-add, mod-mul-add}
use Rattle.std.proofs.lemmas.List.FromFn.{get_or-map-range_with_len, length-map-range_with_len}
use Rattle.jpeg_bits.specs.declared.color_transform.ColorTransform.{ColorTransform}
use Rattle.jpeg_pixels.specs.Colour.{conversion_of}
use Rattle.jpeg_pixels.specs.declared.color_convert.ColorConvert.{ColorConvert}
use Rattle.jpeg_bits.specs.Zigzag.{coefficients_in_block_order, values_in_block_order}
use Rattle.jpeg_bits.specs.Passes.{Block, zero_block, listed}
use Rattle.jpeg_meaning.specs.Order.{grid_of}
use Rattle.jpeg_pixels.specs.Scaled.{sample_at}
use Rattle.jpeg_pixels.specs.Planes.{plane_sample, plane_of}
use Rattle.jpeg_segments.specs.Checks.{check, gathered, needed}
use Rattle.jpeg_meaning.specs.FoundPictures.{plane_at_end, picture_of, picture_by_process, blocks_picture, picture_by}
use Rattle.jpeg_meaning.specs.FoundPictures.{first_picture, is_as_large, is_luma, luma_picture, picture_in}
use Rattle.jpeg_meaning.specs.ColourChoice.{identifiers_of, transform_of}
use Rattle.jpeg_meaning.specs.Rasters.{plane_by, plane_of_blocks}
use Rattle.jpeg_segments.specs.declared.frame.CodingProcess.{CodingProcess}
use Rattle.jpeg_meaning.specs.ArrayPictures.{HasTransform, IsMadeBy, IsTransformOf, TakesPicture, as_sent}
use Rattle.jpeg_meaning.specs.ArrayPictures.{meaning_of_array, picture_of_array, picture_of_blocks}
use Rattle.jpeg_meaning.proofs.Order.Apart.{at-all}
use Rattle.jpeg_meaning.proofs.Written.CodingsInForce.{codings-found}
use Rattle.jpeg_meaning.proofs.Pictures.DecodedHeaders.{decoded-accepted}
use Rattle.jpeg_meaning.proofs.Pictures.LimitedPictures.{array_plane, limited-ok, limited-same}
use Rattle.jpeg_meaning.proofs.Pictures.UpsampledFactors.{SamePlane, AllAlike, image-same, cropped-same}

-- ---- the tables in force exist

good-defaults : (one two : Table) (indices : List ℕ) (l : List (Option Table)) → IsTable one
    → IsTable two → AllByRecursion IsTableOrNone l → AllByRecursion IsTableOrNone
    (with_defaults one two indices l)
good-defaults one two indices [] a b h = tt
good-defaults one two indices l a b h = search rules

needed-good : (b : Bool) (class : HuffmanTableClass) (l : List (Option Table)) (i : ℕ) (t : Table)
    → AllByRecursion IsTableOrNone l → needed_if b class (slice_index_or l i None) ≡ Ok t → IsTable t
needed-good true class l i t h e = table-there l i t h (needed-some _ t e)
needed-good false class l i t h e = subst IsTable (ok-same (no_table class) t e) (record {
  counted = refl;
  exists = λ i h. absurd
      (let n = no-codes class in omega arith);
})

-- The tables of a scan exist.
pub codings-good : (w : Said) (f : Frame) (s : Scan) (codings : List Coding) → HasTables w.huffman
    → codings_of w f s ≡ Ok codings → AllByRecursion (λ c. IsTable c.dc × IsTable c.ac) codings
unfolding tables_of
codings-good w f s codings h e =
    let good : HasTables (tables_of w s) =
    search (rules, good-defaults, luminance-dc-codes, chrominance-dc-codes, luminance-ac-codes, chrominance-ac-codes) in
    codings-each (λ c. IsTable c.dc × IsTable c.ac) w f s codings e (λ index d a k is. search (rules, needed-good))

-- ---- the components, each after those before it

chosen_indices : List (ℕ × Selector) → List ℕ
chosen_indices cs = map (λ s. s.component) (map (λ c. c.1) cs)

absent-after : (f : Frame) (n least : ℕ) (cs : List (ℕ × Selector)) → n < least → AreChoices f least cs
    → IsAbsent n (chosen_indices cs)
unfolding AreChoices chosen_indices
absent-after f n least [] h are = tt
absent-after f n least (c ∷ cs) h are = search (rules, absent-after f n (c.1.component + 1) cs (omega arith) are.1)

all-apart : (f : Frame) (least : ℕ) (cs : List (ℕ × Selector)) → AreChoices f least cs → AreApart (chosen_indices cs)
unfolding AreChoices chosen_indices
all-apart f least [] are = tt
all-apart f least (c ∷ cs) are = search (rules, absent-after, all-apart f (c.1.component + 1) cs are.1)

-- ---- the band

scan-is : (f : Frame) (sel : List Selector) (first last levels : ℕ) → f.process ≢ Lossless
    → is_band f.process (length sel) first last (levels / 16) (levels % 16) ≡ true
    → PassSo f (scan_of f sel first last levels)
unfolding scan_of pass_of
scan-is f sel first last levels n b = grind (arith, common_steps, eqb-true, progressive-pass, leb-true)

-- What a scan header that is written says.
pub header-facts : (f : Frame) (h : ScanHeader) → IsScan f h → f.process ≢ Lossless → ScanFacts f (scan_written f h)
unfolding chosen_indices scan_of
header-facts f h is n = search (rules, length-map, nibbles-high, nibbles-low, all-apart, scan-is)

-- ---- what scans bring

abbrev pub no_progress : Progress
no_progress = ([], replicate 4 none_finished, replicate 4 None)

abbrev pub bring : Progress → Found
bring x =
    record { said = nothing_said; kept = x.0; finished = x.1; planes = x.2; samples = replicate 4 None }

-- Nothing before the first scan, and then what the levels say.
pub record Holds (array : Coefficients) (said : Said) (levels : ℕ → Levels) (x : Progress) : Type 0 where
  pub fresh : said.scanned ≡ false
      → (x ≡ no_progress) × ◌≡◌ {A = ℕ → Levels} levels (λ k. nothing_sent)
  pub framed : said.scanned ≡ true
      → (f : Frame) × (said.frame ≡ Some f) × Framed said f array levels true x.0 x.1 x.2

pub holds-nothing : (array : Coefficients) (said : Said) → said.scanned ≡ false
    → Holds array said (λ k. nothing_sent) no_progress
holds-nothing array said e = record { fresh = λ g. (refl, refl); framed = λ g. absurd (true≢false (sym g ∙ e)) }

-- ---- a segment between scans

plane-kept : (w next : Said) (array : Coefficients) (l : Levels) (pl : List (Option (List ℕ))) (k : ℕ)
    (c : Component) → next.quantization ≡ w.quantization
    → PlaneSo w array l pl k c → PlaneSo next array l pl k c
plane-kept w next array l pl k c e p = search rules

pub framed-same : (w next : Said) (f : Frame) (array : Coefficients) (levels : ℕ → Levels) (x : Progress)
    → next.quantization ≡ w.quantization → Framed w f array levels true x.0 x.1 x.2
    → Framed next f array levels true x.0 x.1 x.2
unfolding arrays_before
framed-same w next f array levels x e fr = search (rules, plane-kept)

holds-next : (array : Coefficients) (said : Said) (levels : ℕ → Levels) (x : Progress) (s : Segment) → Stands said s
    → MayStandInImage said s → Holds array said levels x → Holds array (said_after said s) levels x
holds-next array said levels x (Quantization ts) stands may held = search rules
holds-next array said levels x (Header number h) stands may held = search rules
holds-next array said levels x s stands may held = record {
  fresh = held.fresh;
  framed = λ e.
      let h = held.framed e in
      (h.0, h.1, framed-same said (said_after said s) h.0 array levels x refl h.2);
}

-- ---- a scan

-- a frame of known shape, whose components have ways to be upsampled
abbrev pub IsDrawn : Frame → Type 0
IsDrawn f = Shaped f
    × ((sources : List Source) × (sources_of f.components f.output_width f.output_height ≡ Ok sources))

pub plain-said : (said : Said) (number : ℕ) (h : FrameHeader) → Stands said (Header number h)
    → Plain (frame_written number h)
plain-said said number h stands = search (rules, all-ranged)

pub drawn-said : (said : Said) (number : ℕ) (h : FrameHeader) → Stands said (Header number h)
    → MayStandInImage said (Header number h) → IsDrawn (frame_written number h)
drawn-said said number h stands few =
    let ok = decoded-accepted number h stands.1 in
    search (rules, all-shaped, plain-said, frame-lossy, accepted-sources)

module _ (array : Coefficients) (range : (index row column : ℕ) → Is8Bit (array index row column)) where
  -- what is kept, finished and decided before a scan
  pub framed-now : (said : Said) (levels : ℕ → Levels) (x : Progress) (f : Frame) → Holds array said levels x
      → said.frame ≡ Some f → Framed said f array levels said.scanned x.0 x.1 x.2
  framed-now said levels x f held e = go said.scanned refl
    where
      go : (b : Bool) → said.scanned ≡ b → Framed said f array levels b x.0 x.1 x.2
      go false g =
          let n = held.fresh g in
          rw n.1 (framed-start said f array x.0 x.1 x.2 range (ap (λ (y : Progress). y.1) n.0)
          (ap (λ (y : Progress). y.2) n.0))
      go true g =
          let h = held.framed g in
          subst (λ (y : Frame). Framed said y array levels true x.0 x.1 x.2) (same-frame h.0 f said.frame h.1 e) h.2

  -- what is known of a scan that stands next
  abbrev pub known_scan : (said : Said) (levels next : ℕ → Levels) (x : Progress) (f : Frame) (h : ScanHeader)
      (bytes : List ℕ) → IsSaid IsDrawn said → said.frame ≡ Some f → IsScan f h
      → (sends : WritesImageScan array said levels f h bytes next) → Holds array said levels x
      → KnownScan said f array levels said.scanned x (scan_written f h) sends.codings bytes
  known_scan said levels next x f h bytes is e written sends held =
      let s = scan_written f h in
      let shape = (is.shaped f e).0 in
      record {
        range = range;
        shape = shape;
        framed = framed-now said levels x f held e;
        says = header-facts f h written shape.lossy;
        exist = codings-good said f s sends.codings is.tables
            (codings-found said f s sends.codings sends.legal.are_in_force);
        legal = sends.legal;
        written = sends.written;
      }

  scan-found : (said : Said) (levels next : ℕ → Levels) (x : Progress) (f : Frame) (h : ScanHeader) (bytes : List ℕ)
      → IsSaid IsDrawn said → said.frame ≡ Some f → IsScan f h → WritesImageScan array said levels f h bytes next
      → Holds array said levels x → FindsScan bring (Holds array) said next x h bytes
  scan-found said levels next x f h bytes is e scan w held =
      let s = scan_written f h in
      let shape = (is.shaped f e).0 in
      let codings = codings-found said f s w.codings w.legal.are_in_force in
      let b = scan-brings (known_scan said levels next x f h bytes is e scan w held) in
      record {
        brought = (b.kept, b.finished, b.planes);
        held = record {
          fresh = λ g. absurd (true≢false g);
          framed = λ g. (
            f,
            e,
            framed-same said _ f array next (b.kept, b.finished, b.planes) refl
                (subst (λ (l : ℕ → Levels). Framed said f array l true b.kept b.finished b.planes) w.sent b.framed),
          );
        };
        found = λ fill code m left makes ends.
            scan-by (beside bring said x) f s w.codings b.arrays m _ (bytes ++ marker fill code left) left
            shape.lossy e (sos-read f h (bytes ++ marker fill code left) scan)
            codings
            (b.read fill code m left (record { is = makes })) (ends (length left) left)
            ∙ ap (λ (y : Found). Ok (scan_turn (beside bring said x) y (Some m), left)) b.after;
      }

  pub image-read : IsRead MayStandInImage (WritesImageScan array) IsDrawn bring (Holds array)
  image-read = search (rules, drawn-said, holds-next, scan-found)

-- ---- the end

-- where an image may end
abbrev pub MayEndImage : Said → (ℕ → Levels) → Frame → Type 0
MayEndImage said levels frame =
    (said.scanned ≡ true) × AllByRecursion (HasTable said) frame.components
    × (is_progressive frame.process ≡ false → AllComplete frame levels)

-- ---- the whole

abbrev pub ReadImage : Coefficients → Said → (ℕ → Levels) → Type 0
ReadImage array final last = ReadTo IsDrawn (Holds array) MayEndImage final last

abbrev pub ImageMeant : {A : Type 0} → (Found → Result A Fault) → Coefficients → Said → (ℕ → Levels) → List ℕ
    → Outcome (Told × A) → Type 0
ImageMeant show array final last tail meant =
    IsMeant IsDrawn bring (Holds array) MayEndImage show final last tail meant

pub image-walked : {A : Type 0} (show : Found → Result A Fault) (array : Coefficients) (bytes tail : List ℕ)
    (final : Said) (last : ℕ → Levels)
    → ((index row column : ℕ) → Is8Bit (array index row column)) → WritesImage array bytes final last
    → ImageMeant show array final last tail (meaning_showing None show (bytes ++ tail))
unfolding nothing_found nothing_said
image-walked show array bytes tail final last range w =
    stream-read MayEndImage (image-read array range) tail (λ k. nothing_sent) last bytes final no_progress show w
    refl (holds-nothing array nothing_said refl)

-- ---- one plane

pub plane-length : (s : ℕ) (table : List ℕ) (wide high : ℕ) (b : ℕ → ℕ → List ℤ)
    → length (plane_of s table wide high b) ≡ s * wide * (s * high)
unfolding plane_of
plane-length s table wide high b = search (rules, length-map-range_with_len)

plane-at : (s : ℕ) (table : List ℕ) (wide high : ℕ) (b : ℕ → ℕ → List ℤ) (x y : ℕ) → x < s * wide → y < s * high
    → slice_index (plane_of s table wide high b) (y * (s * wide) + x) ≡ plane_sample s table b x y
unfolding plane_of
plane-at s table wide high b x y h k =
    let i = y * (s * wide) + x in
    let row : i / (s * wide) ≡ y = div-mul-add y (s * wide) x h in
    let e = mul_comm (s * wide) (s * high) in
    let within : i < s * high * (s * wide) = (div-lt_iff_lt-mul (omega arith)).0 (omega arith) in
    let zero-more : 0 + i ≡ i = omega arith in
    search (rules, get_or-map-range_with_len)

-- a sample inside a component is of one of its own blocks
pub inside-own : (x s w : ℕ) → 0 < s → x < w → x / s < ceiling w s
inside-own x s w some h = let d = div-mul-le_self x s in (below-ceiling (x / s) w s some).1 (omega arith)

pub plane-same : (frame : Frame) (c : Component) (table : List ℕ) (l : Levels) (array : ℕ → ℕ → Block)
    (blocks : List Block) → 0 < c.scale → Fits frame c → HoldsOwn (grid_of c) array l blocks
    → SamePlane (c.blocks_wide * c.scale) c.width c.height (plane_by c table blocks)
    (plane_of_blocks c table (λ row column. cut l (array row column)))
unfolding plane_by plane_of_blocks
plane-same frame c table l array blocks some fits holds =
    let s = c.scale in
    let wide = c.blocks_wide in
    let q = values_in_block_order table in
    let one : ℕ → ℕ → List ℤ =
    λ row column. coefficients_in_block_order (listed (get_or blocks (row * wide + column) zero_block)) in
    let two : ℕ → ℕ → List ℤ = λ row column. coefficients_in_block_order (listed (cut l (array row column))) in
    record {
      count = plane-length s q wide c.blocks_high one ∙ sym (plane-length s q wide c.blocks_high two);
      each = λ x y h k.
          let column : x / s < (grid_of c).own_wide = inside-own x s c.width some h in
          let row : y / s < (grid_of c).own_high = inside-own y s c.height some k in
          let column-in : x / s < wide = let f = fits.own_wide in omega arith in
          let row-in : y / s < c.blocks_high = let f = fits.own_high in omega arith in
          let e1 = mul_comm wide s in
          let e2 = mul_comm c.blocks_high s in
          let x-in : x < wide * s = (div-lt_iff_lt-mul some).0 column-in in
          let y-in : y < c.blocks_high * s = (div-lt_iff_lt-mul some).0 row-in in
          let i = y / s * wide + x / s in
          let at-row : i / wide ≡ y / s = div-mul-add (y / s) wide (x / s) column-in in
          let at-column : i % wide ≡ x / s = mod-mul-add (y / s) wide (x / s) column-in in
          let block : get_or blocks i zero_block ≡ cut l (array (y / s) (x / s))
          = search rules in
          let index : y * (wide * s) + x ≡ y * (s * wide) + x = ap (λ (n : ℕ). y * n + x) e1 in
          ap (slice_index (plane_of s q wide c.blocks_high one)) index
          ∙ plane-at s q wide c.blocks_high one x y (omega arith) (omega arith)
          ∙ ap (λ (b : Block). sample_at s (coefficients_in_block_order (listed b)) q (x % s) (y % s)) block
          ∙ sym (plane-at s q wide c.blocks_high two x y (omega arith) (omega arith))
          ∙ ap (slice_index (plane_of s q wide c.blocks_high two)) (sym index);
    }

-- ---- planes at the end

all-whole : (ls : List (Option ℕ)) → AllByRecursion (λ x. x ≡ Some 0) ls
    → list_all (λ mark. mark) (map is_level_0 ls) ≡ true
all-whole [] h = refl
all-whole (l ∷ ls) h = ap₂ (λ (a b : Bool). a && b) (ap is_level_0 h.0) (all-whole ls h.1)

complete-whole : (l : Levels) → IsComplete l → is_whole l ≡ true
complete-whole l h = ap₂ (λ (a b : Bool). a && b) (ap is_level_0 h.dc) (all-whole l.acs h.acs)

-- the plane of a component at the end of the image
pub record PlaneAtEnd (found : Found) (f : Frame) (array : Coefficients) (l : Levels) (k : ℕ)
    (c : Component) : Type 0 where
  pub table : List ℕ
  pub is_table : slice_index_or found.said.quantization c.factors.quantization None ≡ Some table
  pub blocks : List Block
  pub holds : HoldsOwn (grid_of c) (array k) l blocks
  pub is : plane_at_end found f (k, c) ≡ Ok (plane_by c table blocks)

pub some-there : {A : Type 0} (o : Option A) → is_some o ≡ true → (x : A) × (o ≡ Some x)
some-there None e = absurd (true≢false (sym e))
some-there (Some x) e = (x, refl)

pub end-decided : (found : Found) (f : Frame) (k : ℕ) (c : Component) (plane : List ℕ)
    → slice_index_or found.planes k None ≡ Some plane → plane_at_end found f (k, c) ≡ Ok plane
unfolding plane_at_end
end-decided found f k c plane e = rw (e, plane_at_end) refl

pub end-kept : (found : Found) (f : Frame) (k : ℕ) (c : Component) (table : List ℕ)
    → slice_index_or found.planes k None ≡ None → is_progressive f.process ≡ true → found.said.scanned ≡ true
    → slice_index_or found.said.quantization c.factors.quantization None ≡ Some table
    → plane_at_end found f (k, c) ≡ Ok (plane_by c table (get_or found.kept k []))
unfolding plane_at_end
end-kept found f k c table n p s t = search (rules, then-ok)

-- a plane of a component, and another one that is the same inside it
pub record OnePlane (our their : ℕ × Component → Result (List ℕ) Fault) (k : ℕ) (c : Component) : Type 0 where
  pub plane : List ℕ
  pub other : List ℕ
  pub is : our (k, c) ≡ Ok plane
  pub other_is : their (k, c) ≡ Ok other
  pub same : SamePlane (c.blocks_wide * c.scale) c.width c.height plane other

-- those of components, from an index on
pub record BothPlanes (our their : ℕ × Component → Result (List ℕ) Fault) (index : ℕ) (components : List Component)
    : Type 0 where
  pub ours : List (List ℕ)
  pub theirs : List (List ℕ)
  pub ours_are : gathered our (enumerate_from index components) ≡ Ok ours
  pub theirs_are : gathered their (enumerate_from index components) ≡ Ok theirs
  pub alike : AllAlike components ours theirs

planes-from : (our their : ℕ × Component → Result (List ℕ) Fault) (index : ℕ) (components : List Component)
    → ((j : ℕ) (c : Component) → At j components c → OnePlane our their (index + j) c)
    → BothPlanes our their index components
unfolding gathered
planes-from our their index [] each =
    record { ours = []; theirs = []; ours_are = refl; theirs_are = refl; alike = tt }
planes-from our their index (c ∷ more) each =
    let start : index + 0 ≡ index = omega arith in
    let one = subst (λ (n : ℕ). OnePlane our their n c) start (each 0 c refl) in
    let others = planes-from our their (index + 1) more (λ j d t.
    let next : index + suc j ≡ (index + 1) + j = omega arith in
    subst (λ (n : ℕ). OnePlane our their n d) next (each (suc j) d t)) in
    let cs = enumerate_from (index + 1) more in
    record {
      ours = one.plane ∷ others.ours;
      theirs = one.other ∷ others.theirs;
      ours_are = gathered-more our (index, c) cs one.plane others.ours one.is others.ours_are;
      theirs_are = gathered-more their (index, c) cs one.other others.theirs one.other_is others.theirs_are;
      alike = (one.same, others.alike);
    }

pub planes-of : (our their : ℕ × Component → Result (List ℕ) Fault) (components : List Component)
    → ((k : ℕ) (c : Component) → At k components c → OnePlane our their k c) → BothPlanes our their 0 components
planes-of our their components each = planes-from our their 0 components (λ j c t.
    let start : j ≡ 0 + j = omega arith in subst (λ (n : ℕ). OnePlane our their n c) start (each j c t))

module _ (array : Coefficients) (final : Said) (last : ℕ → Levels) (r : ReadImage array final last) where
  abbrev f : Frame
  f = r.frame

  abbrev x : Progress
  x = r.brought

  abbrev found : Found
  found = beside bring final x

  pub shape : Shaped f
  shape = (r.said.shaped f r.framed).0

  framed : Framed final f array last true x.0 x.1 x.2
  framed = search (rules, same-frame)

  plane-end : (k : ℕ) (c : Component) → At k f.components c → PlaneAtEnd found f array (last k) k c
  plane-end k c t = go (is_whole (last k)) refl (is_progressive f.process) refl
    where
      go : (b : Bool) → is_whole (last k) ≡ b → (p : Bool) → is_progressive f.process ≡ p
          → PlaneAtEnd found f array (last k) k c
      go true e p g =
          let o = (framed.marked.planes k c t).decided e in
          record {
            table = o.table;
            is_table = o.is_table;
            blocks = o.blocks;
            holds = o.holds;
            is = end-decided found f k c (plane_by c o.table o.blocks) o.plane;
          }
      go false e true g =
          let n = (framed.marked.planes k c t).undecided e in
          let q = some-there _ (at-all (HasTable final) k f.components c r.ended.1 t) in
          record {
            table = q.0;
            is_table = q.1;
            blocks = get_or x.0 k [];
            holds = rw (kept-arrays final x.0 x.1 x.2 f g) at ((framed.kept g).each k c t);
            is = end-kept found f k c q.0 n g r.ended.0 q.1;
          }
      go false e false g =
          let all = in-all (λ (j : ℕ). IsComplete (last j)) (range_with_len 0 (length f.components)) k (r.ended.2 g)
          (in-below k (length f.components) (at-within k f.components c t)) in
          absurd (true≢false (sym (complete-whole (last k) all) ∙ e))

  -- the planes at the end and those of the array
  pub both-planes : BothPlanes (plane_at_end found f) (array_plane final (as_sent array last)) 0 f.components
  both-planes = planes-of (plane_at_end found f) (array_plane final (as_sent array last)) f.components (λ k c t.
      let e = plane-end k c t in
      record {
        plane = plane_by c e.table e.blocks;
        other = plane_of_blocks c e.table (as_sent array last k);
        is = e.is;
        other_is = then-ok (needed _) _ e.table _ (ap needed e.is_table) refl;
        same = plane-same f c e.table (last k) (array k) e.blocks (scale-made f shape.made k c t) (shape.fits k c t)
            e.holds;
      })

-- ---- the picture

-- a component that is as large as the picture reaches its ends
pub as-large : (luma : Bool) (f : Frame) (c : Component) → (luma && is_as_large f c) ≡ true
    → (c.width ≡ f.output_width) × (c.height ≡ f.output_height)
as-large luma f c e =
    let large = (and_parts luma (is_as_large f c) e).1 in
    let sides = and_parts (c.width == f.output_width) (c.height == f.output_height) large in
    (eqb-true c.width f.output_width sides.0, eqb-true c.height f.output_height sides.1)

first-same : (f : Frame) (c : Component) (more : List Component) (ps qs : List (List ℕ))
    → f.output_width ≤ c.width → f.output_height ≤ c.height → AllAlike (c ∷ more) ps qs
    → first_picture f c ps ≡ first_picture f c qs
first-same f c more (p ∷ ps) (q ∷ qs) wide high alike =
    ap (λ (x : List ℕ). Ok x) (grind (arith, common_steps, mul_comm, cropped-same))
first-same f c more [] qs wide high alike = absurd alike
first-same f c more (p ∷ ps) [] wide high alike = absurd alike

luma-same : (transform : ColorTransform) (f : Frame) (components : List Component) (ps qs : List (List ℕ))
    → AllAlike components ps qs → luma_picture transform f components ps ≡ luma_picture transform f components qs
luma-same transform f [] ps qs alike = refl
luma-same transform f (c ∷ more) ps qs alike = go (is_luma transform && is_as_large f c) refl
  where
    go : (b : Bool) → (is_luma transform && is_as_large f c) ≡ b
        → (check b >>= (λ _. first_picture f c ps)) ≡ (check b >>= (λ _. first_picture f c qs))
    go false e = refl
    go true e =
        let size = as-large (is_luma transform) f c e in
        let wide = size.0 in let high = size.1 in
        first-same f c more ps qs (omega arith) (omega arith) alike

-- the picture of several components, by whether their luma is asked for
abbrev pub picture_of_several : Bool → ColorTransform → Frame → List Component → List (List ℕ) → Result (List ℕ) Fault
picture_of_several luma transform f components planes =
    if luma then luma_picture transform f components planes
    else image_of components planes f.output_width f.output_height transform

several-same : (luma : Bool) (transform : ColorTransform) (f : Frame) (components : List Component)
    (ps qs : List (List ℕ)) → f.components ≡ components → Made f → AllAlike components ps qs
    → picture_of_several luma transform f components ps ≡ picture_of_several luma transform f components qs
several-same true transform f components ps qs e made alike = luma-same transform f components ps qs alike
several-same false transform f components ps qs e made alike =
    image-same components ps qs f.output_width f.output_height transform
    (λ sources s. reaches-made f sources made
    (ap (λ (cs : List Component). sources_of cs f.output_width f.output_height) e ∙ s)) alike

-- the colour transform of some components
abbrev pub transform_by : Settings → Metadata → List Component → ColorTransform
transform_by settings m components =
    transform_of settings.color_transform (identifiers_of components) m.jfif m.adobe

pub picture-by-same : (settings : Settings) (m : Metadata) (f : Frame) (components : List Component)
    (ps qs : List (List ℕ)) → f.components ≡ components → Made f
    → AllAlike components ps qs → picture_by settings m f components ps ≡ picture_by settings m f components qs
unfolding picture_by
picture-by-same settings m f [] ps qs e made alike =
    several-same settings.luma (transform_by settings m []) f [] ps qs e made alike
picture-by-same settings m f (c ∷ []) ps qs e made alike =
    let size = one-made f c made e in first-same f c [] ps qs size.0 size.1 alike
picture-by-same settings m f (c ∷ d ∷ more) ps qs e made alike =
    several-same settings.luma (transform_by settings m (c ∷ d ∷ more)) f (c ∷ d ∷ more) ps qs e made alike

-- ---- the meaning

pub lossy-picture : (settings : Settings) (all : Found) (f : Frame) (p : CodingProcess) → p ≢ Lossless
    → picture_by_process p settings all f ≡ blocks_picture settings all f
lossy-picture settings all f Lossless n = absurd (n refl)
lossy-picture settings all f p n = refl

pub pictures-same : (settings : Settings) (array : Coefficients) (final : Said) (last : ℕ → Levels)
    → (r : ReadImage array final last)
    → picture_of settings (beside bring final r.brought) ≡ picture_of_array settings final array last
unfolding picture_of picture_of_blocks blocks_picture
pictures-same settings array final last r =
    let f = r.frame in
    let all = beside bring final r.brought in
    let is = shape array final last r in
    let b = both-planes array final last r in
    limited-same settings final final f f _ _ r.framed r.framed refl
    (lossy-picture settings all f f.process is.lossy
    ∙ then-ok (gathered (plane_at_end all f) (enumerate_from 0 f.components)) _ b.ours _ b.ours_are
    (picture-by-same settings final.metadata f f.components b.ours b.theirs refl is.made b.alike)
    ∙ sym (then-ok (gathered (array_plane final (as_sent array last)) (enumerate_from 0 f.components)) _ b.theirs _
    b.theirs_are refl))

-- What the end of a stream means is the picture of its array, cut at the levels that were sent.
pub pictured : (settings : Settings) (array : Coefficients) (final : Said) (last : ℕ → Levels) (tail : List ℕ)
    (meant : Outcome (Told × List ℕ)) → ImageMeant (picture_of settings) array final last tail meant
    → meant ≡ meaning_of_array settings final array last tail
pictured settings array final last tail meant r = search (rules, pictures-same)

pub stream-means : (settings : Settings) (array : Coefficients) (bytes rest : List ℕ) (final : Said)
    (last : ℕ → Levels) → ((index row column : ℕ) → Is8Bit (array index row column))
    → WritesImage array bytes final last → meaning settings
    (bytes ++ rest) ≡ meaning_of_array settings final array last rest
stream-means settings array bytes rest final last range w =
    pictured settings array final last rest _ (image-walked (picture_of settings) array bytes rest final last range w)

-- ---- there is a picture

some-of : {A B : Type 0} (o : Result A Fault) (f : A → Result B Fault) (x : A) → o ≡ Ok x → (y : B) × (f x ≡ Ok y)
    → (y : B) × ((o >>= f) ≡ Ok y)
some-of o f x e y = (y.0, then-ok o f x (Ok y.0) e y.1)

conversion-there : (count : ℕ) (t : ColorTransform) → IsTransformOf count t
    → (convert : ColorConvert) × (conversion_of count t ≡ Ok convert)
unfolding conversion_of
conversion-there count t h = search (rules, eq-eqb)

several-there : (luma : Bool) (transform : ColorTransform) (f : Frame) (c : Component) (more : List Component)
    (p : List ℕ) (planes : List (List ℕ)) (sources : List Source)
    → IsMadeBy luma f c (length (c ∷ more)) transform
    → sources_of (c ∷ more) f.output_width f.output_height ≡ Ok sources
    → (picture : List ℕ) × (picture_of_several luma transform f (c ∷ more) (p ∷ planes) ≡ Ok picture)
unfolding image_of
several-there true transform f c more p planes sources made e =
    (picture_in f c p, ap (λ (b : Bool). check b >>= (λ _. first_picture f c (p ∷ planes))) made)
several-there false transform f c more p planes sources made e =
    let convert = conversion-there (length (c ∷ more)) transform made in
    some-of _ _ convert.0 convert.1 (some-of (sources_of (c ∷ more) f.output_width f.output_height) _ sources e (
      _,
      refl,
    ))

-- A picture of planes, where the components can have their transform.
pub picture-there : (settings : Settings) (w : Said) (f : Frame) (components : List Component)
    (p : List ℕ) (planes : List (List ℕ)) (sources : List Source) → HasTransform settings w f components
    → sources_of components f.output_width f.output_height ≡ Ok sources
    → (picture : List ℕ) × (picture_by settings w.metadata f components (p ∷ planes) ≡ Ok picture)
unfolding picture_by
picture-there settings w f [] p planes sources t e = absurd t
picture-there settings w f (c ∷ []) p planes sources t e = (picture_in f c p, refl)
picture-there settings w f (c ∷ d ∷ more) p planes sources t e =
    several-there settings.luma (transform_by settings w.metadata (c ∷ d ∷ more)) f c (d ∷ more) p planes sources t e

-- There is a plane where there is another one that is the same.
planes-picture : (settings : Settings) (w : Said) (f : Frame) (components : List Component)
    (ours planes : List (List ℕ)) (sources : List Source) → HasTransform settings w f components
    → sources_of components f.output_width f.output_height ≡ Ok sources → AllAlike components ours planes
    → (picture : List ℕ) × (picture_by settings w.metadata f components planes ≡ Ok picture)
planes-picture settings w f [] ours planes sources t e h = absurd t
planes-picture settings w f (c ∷ more) (o ∷ ours) (p ∷ planes) sources t e h =
    picture-there settings w f (c ∷ more) p planes sources t e
planes-picture settings w f (c ∷ more) [] planes sources t e h = absurd h
planes-picture settings w f (c ∷ more) (o ∷ ours) [] sources t e h = absurd h

-- Where the settings take the picture, there is one.
pub taken : (settings : Settings) (array : Coefficients) (final : Said) (last : ℕ → Levels) (tail : List ℕ)
    (meant : Outcome (Told × List ℕ)) → ImageMeant (picture_of settings) array final last tail meant
    → TakesPicture settings final
    → (picture : List ℕ) × (picture_of_array settings final array last ≡ Ok picture)
    × (meant ≡ Ok ((told_of final, picture), tail))
unfolding picture_of_blocks
taken settings array final last tail meant r takes =
    let f = r.0.frame in
    let sources = (r.0.said.shaped f r.0.framed).1 in
    let same : takes.frame ≡ f = same-frame takes.frame f final.frame takes.is_said r.0.framed in
    let b = both-planes array final last r.0 in
    let limit = rw same at takes.limit in
    let picture = planes-picture settings final f f.components b.ours b.theirs sources.0
    (subst (λ (g : Frame). HasTransform settings final g g.components) same takes.transform) sources.1 b.alike in
    let is = limited-ok settings final f _ picture.0 r.0.framed limit
    (then-ok (gathered (array_plane final (as_sent array last)) (enumerate_from 0 f.components)) _ b.theirs _
    b.theirs_are picture.1) in (
      picture.0,
      is,
      pictured settings array final last tail meant r
          ∙ then-ok (picture_of_array settings final array last) _ picture.0 _ is refl,
    )

-- A written stream whose picture is taken means that picture.
pub taken-means : (settings : Settings) (array : Coefficients) (bytes rest : List ℕ) (final : Said)
    (last : ℕ → Levels) → ((index row column : ℕ) → Is8Bit (array index row column))
    → WritesImage array bytes final last → TakesPicture settings final → (picture : List ℕ)
    × (picture_of_array settings final array last ≡ Ok picture)
    × (meaning settings (bytes ++ rest) ≡ Ok ((told_of final, picture), rest))
taken-means settings array bytes rest final last range w =
    taken settings array final last rest _ (image-walked (picture_of settings) array bytes rest final last range w)

-- The frame of a written image isn't lossless.
pub written-lossy : (settings : Settings) (array : Coefficients) (bytes : List ℕ) (final : Said)
    (last : ℕ → Levels) (frame : Frame) → ((index row column : ℕ) → Is8Bit (array index row column))
    → WritesImage array bytes final last → final.frame ≡ Some frame → frame.process ≢ Lossless
written-lossy settings array bytes final last frame range w e =
    let r = (image-walked (picture_of settings) array bytes [] final last range w).0 in
    subst (λ (f : Frame). f.process ≢ Lossless) (same-frame r.frame frame final.frame r.framed e)
    (r.said.shaped r.frame r.framed).0.lossy
