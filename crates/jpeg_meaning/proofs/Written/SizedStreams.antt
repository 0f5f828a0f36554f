-- A written stream, read at a scale.
use Rattle.std.proofs.lemmas.Grind.{common_steps}
use Rattle.std.proofs.Common.{rules, ◌≡◌, ◌≢◌, ℕ, zero, suc, ◌<◌, ◌≤◌, List, [], ◌∷◌, ◌++◌, map, length, option_map}
use Rattle.std.proofs.Common.{Option, None, Result, Ok, refl, sym, ap, ◌∙◌, subst, arith, length-append, ◌+◌, ◌*◌, ◌==◌, Bool}
use Rattle.std.proofs.Common.{true, sum_by, sum, slice_get, slice_index_or, Some, ap₂, mul_assoc, ◌/◌, ◌%◌}
use Rattle.jpeg_segments.specs.declared.frame.CodingProcess.{CodingProcess}
use Rattle.jpeg_segments.specs.declared.frame.CodingProcess.TheVariants.{DctSequential, DctProgressive, Lossless}
use Rattle.jpeg_segments.specs.Frame.{Frame, Component, Factors, ceiling}
use Rattle.jpeg_segments.specs.WrittenSegments.{frame_written, Header, Segment}
use Rattle.jpeg_meaning.specs.declared.before.Before.TheVariants.{Elsewhere}
use Rattle.jpeg_meaning.specs.declared.settings.Settings.{Settings}
use Rattle.jpeg_segments.specs.Scales.{block_side, frame_at, is_scale, scale_for, scaled, scaled_by, sized}
use Rattle.jpeg_segments.specs.declared.scale.Scale.{Scale}
use Rattle.jpeg_bits.specs.Reading.{Fault, Outcome, ◌>>=◌}
use Rattle.jpeg_meaning.specs.Stream.{Told, header_at, scaled_meaning, scaled_to, sized_meaning}
use Rattle.jpeg_meaning.specs.Stream.{sized_to, told_of, sized_showing, scaled_showing, rest_showing}
use Rattle.jpeg_meaning.specs.Found.{Found, nothing_found, nothing_said, Said, with_said}
use Rattle.jpeg_meaning.specs.FoundPictures.{picture_of}
use Rattle.jpeg_meaning.specs.SaidSegments.{said_after, Stands}
use Rattle.jpeg_meaning.specs.Levels.{Levels, Is8Bit, nothing_sent, IsLegal, numbers_at}
use Rattle.jpeg_meaning.specs.WrittenScans.{Coefficients, IsOwn, WritesScan, HasTable, IsLegalScan}
use Rattle.jpeg_meaning.specs.WrittenImages.{WritesImage, ClosesImage, WritesImageScan, WritesPart}
use Rattle.jpeg_meaning.specs.ArrayPictures.{meaning_of_array, picture_of_array, TakesPicture}
use Rattle.jpeg_meaning.proofs.Order.OwnSpots.{At}
use Rattle.jpeg_meaning.proofs.Written.ReadTurns.{bind-ok, coding-is, ok-same, same-frame, some-none, stands-here, then-ok}
use Rattle.jpeg_meaning.proofs.Written.CodingsInForce.{codings-found, found-codings}
use Rattle.jpeg_meaning.proofs.Written.BroughtLevels.{Shaped}
use Rattle.jpeg_meaning.proofs.Order.FrameShapes.{Plain, plain-size, below-ceiling, scaled_component}
use Rattle.jpeg_meaning.proofs.Order.FrameShapes.{most_h, most_v, frame-components, frame-sources}
use Rattle.jpeg_meaning.proofs.Written.WrittenPictures.{drawn-said, holds-nothing, image-read, IsDrawn, ImageMeant, MayEndImage}
use Rattle.jpeg_meaning.proofs.Written.WrittenPictures.{bring, no_progress, plain-said, pictured, taken}
use Rattle.jpeg_meaning.proofs.Written.WalkedStreams.{beside, frame-kept, header-read, reads-on, rest-by}
use Rattle.jpeg_meaning.proofs.Soundness.{scale-bounds}
use Rattle.jpeg_segments.proofs.ScaleLemmas.{scale_for_is_scale}
use Rattle.jpeg_segments.proofs.FrameLemmas.{greatest-some}
use Rattle.std.proofs.lemmas.Bool.Decides.{leb_tells}
use Rattle.std.proofs.Math.Nat.{mul_comm, lt_of_mul-lt-mul_right, mul-lt-mul_of_pos_right}
use Rattle.std.specs.List.{AllByRecursion, flat_map, position}
use Rattle.std.proofs.lemmas.List.Sums.{sum-map, sum_by-cons}
use Rattle.jpeg_segments.specs.Checks.{gathered}
use Rattle.jpeg_segments.specs.ScanHeader.{Selector, index_of, blocks_by, scan_of}
use Rattle.jpeg_segments.specs.ScanHeaders.{AreChoices, IsScan, ScanHeader, scan_written}
use Rattle.jpeg_segments.proofs.ScanLemmas.{position-map}
use Rattle.jpeg_bits.specs.Passes.{Pass, Via}
use Rattle.jpeg_meaning.specs.Order.{Spot, grid_of, part_spots, mcu_spots, all_spots, spots_of, mcu_size}
use Rattle.jpeg_segments.specs.HuffmanTables.{Tables}
use Rattle.jpeg_meaning.specs.ScanSegments.{vias_from, Coding, codings_of, component_coding}
use Rattle.jpeg_meaning.specs.ScanSegments.{components_of, pass_of, tables_of}
use Rattle.jpeg_meaning.specs.Scans.{turns_of}
use Rattle.jpeg_meaning.specs.declared.grids.Grid.{Grid}
use Rattle.jpeg_meaning.specs.WrittenStreams.{end, scan, segment}

-- ---- the same number

same-number : (a b : ℕ) → ((x : ℕ) → x < a → x < b) → ((x : ℕ) → x < b → x < a) → a ≡ b
same-number a b f g = search (rules, leb_tells)

-- a component has as many own blocks at each scale
pub own-same : (n m s : ℕ) → 0 < m → 0 < s → ceiling (ceiling (n * s) (m * 8)) s ≡ ceiling (ceiling n m) 8
own-same n m s hm hs = same-number (ceiling (ceiling (n * s) (m * 8)) s) (ceiling (ceiling n m) 8)
    (λ x h. let e = same x in
    let a = (below-ceiling (x * s) (n * s) (m * 8) (omega arith)).0 ((below-ceiling x _ s hs).0 h) in
    let c : (x * 8 * m) * s < n * s = omega arith in
    (below-ceiling x _ 8 (omega arith)).1 ((below-ceiling (x * 8) n m hm).1 (lt_of_mul-lt-mul_right s c)))
    (λ x h. let e = same x in
    let d = (below-ceiling (x * 8) n m hm).0 ((below-ceiling x _ 8 (omega arith)).0 h) in
    let c : (x * 8 * m) * s < n * s = mul-lt-mul_of_pos_right d hs in
    (below-ceiling x _ s hs).1 ((below-ceiling (x * s) (n * s) (m * 8) (omega arith)).1 (omega arith)))
  where
    same : (x : ℕ) → x * s * (m * 8) ≡ (x * 8 * m) * s
    same x = search (rules, mul_assoc, mul_comm)

-- ---- components with the same blocks

-- they differ in the samples alone
pub record Alike (c d : Component) : Type 0 where
  pub factors : d.factors ≡ c.factors
  pub wide : d.blocks_wide ≡ c.blocks_wide
  pub high : d.blocks_high ≡ c.blocks_high
  pub own_wide : (grid_of d).own_wide ≡ (grid_of c).own_wide
  pub own_high : (grid_of d).own_high ≡ (grid_of c).own_high

pub grid-same : (c d : Component) → Alike c d → grid_of d ≡ grid_of c
grid-same c d h = rw (h.own_wide, h.own_high, h.wide, h.high) refl

pub data Alikes : List Component → List Component → Type 0 where
  none : Alikes [] []
  one_more : (c d : Component) (cs ds : List Component) → Alike c d → Alikes cs ds → Alikes (c ∷ cs) (d ∷ ds)

mcu-same : (row column slot : ℕ) (cs ds : List Component) → Alikes cs ds
    → mcu_spots row column slot ds ≡ mcu_spots row column slot cs
unfolding mcu_spots part_spots
mcu-same row column slot cs ds none = refl
mcu-same row column slot cs ds (one_more c d cs' ds' h more) =
    search (rules, mcu-same row column (slot + 1) cs' ds' more)

flat-same : {B : Type 0} (f g : ℕ → List B) → ((k : ℕ) → f k ≡ g k) → (xs : List ℕ) → flat_map f xs ≡ flat_map g xs
flat-same f g h [] = refl
flat-same {B} f g h (x ∷ xs) = ap₂ (λ (l m : List B). l ++ m) (h x) (flat-same f g h xs)

-- a frame whose components have the same blocks, and which is read alike
pub record SameFrame (f g : Frame) : Type 0 where
  pub components : Alikes f.components g.components
  pub is_baseline : g.is_baseline ≡ f.is_baseline
  pub process : g.process ≡ f.process
  pub precision : g.precision ≡ f.precision
  pub mcus_wide : g.mcus_wide ≡ f.mcus_wide
  pub mcus_high : g.mcus_high ≡ f.mcus_high

-- the factors are the same, so whatever is told by them
factors-same : {B : Type 0} (t : Factors → B) (cs ds : List Component) → Alikes cs ds
    → map (λ c. t c.factors) ds ≡ map (λ c. t c.factors) cs
factors-same t cs ds none = refl
factors-same {B} t cs ds (one_more c d cs' ds' h more) = search (rules, factors-same t cs' ds' more)

sum-same : (t : Factors → ℕ) (cs ds : List Component) → Alikes cs ds
    → sum_by (λ c. t c.factors) ds ≡ sum_by (λ c. t c.factors) cs
sum-same t cs ds h = sym (sum-map (λ (c : Component). t c.factors) ds) ∙ ap sum (factors-same t cs ds h)
    ∙ sum-map (λ (c : Component). t c.factors) cs

pub mcu-size_same : (cs ds : List Component) → Alikes cs ds → mcu_size ds ≡ mcu_size cs
unfolding mcu_size
mcu-size_same cs ds (one_more c d cs' ds' h (one_more c' d' cs'' ds'' h' more)) =
    sum-same (λ t. t.horizontal * t.vertical) (c ∷ c' ∷ cs'') (d ∷ d' ∷ ds'')
    (one_more c d (c' ∷ cs'') (d' ∷ ds'') h (one_more c' d' cs'' ds'' h' more))
mcu-size_same cs ds n = refl

spots-alike : (f g : Frame) → SameFrame f g → (cs ds : List Component) → Alikes cs ds → spots_of g ds ≡ spots_of f cs
unfolding spots_of all_spots
spots-alike f g same cs ds (one_more c d cs' ds' h none) = rw (grid-same c d h) refl
spots-alike f g same cs ds h = search (rules, flat-same, mcu-same)

pub length-same : (cs ds : List Component) → Alikes cs ds → length ds ≡ length cs
length-same cs ds none = refl
length-same cs ds (one_more c d cs' ds' h more) = ap suc (length-same cs' ds' more)

-- ---- scan headers

index-same : (cs ds : List Component) (identifier : ℕ) → Alikes cs ds → index_of ds identifier ≡
    index_of cs identifier
index-same cs ds identifier h =
    let test : Factors → Bool = λ f. f.identifier == identifier in
    sym (position-map (λ (c : Component). c.factors) test ds) ∙ ap (position test) (factors-same (λ f. f) cs ds h)
    ∙ position-map (λ (c : Component). c.factors) test cs

blocks-same : (cs ds : List Component) (index : ℕ) → Alikes cs ds → blocks_by ds index ≡ blocks_by cs index
blocks-same cs ds index none = refl
blocks-same cs ds zero (one_more c d cs' ds' h more) = rw h.factors refl
blocks-same cs ds (suc index) (one_more c d cs' ds' h more) = blocks-same cs' ds' index more

mcu-blocks_same : (f g : Frame) (ss : List Selector) → SameFrame f g
    → sum_by (λ s. blocks_by g.components s.component) ss ≡ sum_by (λ s. blocks_by f.components s.component) ss
mcu-blocks_same f g [] same = refl
mcu-blocks_same f g (s ∷ ss) same = search (rules, sum_by-cons, blocks-same, mcu-blocks_same f g ss same)

written-same : (f g : Frame) (h : ScanHeader) → SameFrame f g → scan_written g h ≡ scan_written f h
unfolding scan_of
written-same f g h same = rw same.process refl

choices-same : (f g : Frame) (least : ℕ) (cs : List (ℕ × Selector)) → SameFrame f g → AreChoices f least cs
    → AreChoices g least cs
unfolding AreChoices
choices-same f g least [] same are = tt
choices-same f g least (c ∷ cs) same are =
    search (rules, index-same, choices-same f g (c.1.component + 1) cs same are.1)

scan-same : (f g : Frame) (h : ScanHeader) → SameFrame f g → IsScan f h → IsScan g h
scan-same f g h same is = search (rules, choices-same, mcu-blocks_same)

-- ---- codings

pub record CodingAlike (k l : Coding) : Type 0 where
  pub index : l.index ≡ k.index
  pub component : Alike k.component l.component
  pub dc : l.dc ≡ k.dc
  pub ac : l.ac ≡ k.ac

pub data CodingsAlike : List Coding → List Coding → Type 0 where
  none : CodingsAlike [] []
  one_more : (k l : Coding) (ks ls : List Coding) → CodingAlike k l → CodingsAlike ks ls
      → CodingsAlike (k ∷ ks) (l ∷ ls)

abbrev pub at_frame : Said → Frame → Said
at_frame w g = record w { frame = Some g }

first-alike : (n : ℕ) (cs ds : List Component) (c : Component) → Alikes cs ds → slice_get cs n ≡ Some c
    → (d : Component) × (slice_get ds n ≡ Some d) × Alike c d
first-alike zero cs ds c none e = search rules
first-alike zero cs ds c (one_more x y cs' ds' h more) e = search rules
first-alike (suc n) cs ds c none e = search rules
first-alike (suc n) cs ds c (one_more x y cs' ds' h more) e = first-alike n cs' ds' c more e

coding-alike : (w : Said) (f g : Frame) → SameFrame f g → (p : Pass) (tables : Tables) (index d a : ℕ) (k : Coding)
    → component_coding w f p tables index d a ≡ Ok k
    → (l : Coding) × (component_coding (at_frame w g) g p tables index d a ≡ Ok l) × CodingAlike k l
unfolding component_coding
coding-alike w f g same p tables index d a k e =
    let h = coding-is w f p tables index d a k e in
    let other = first-alike k.index f.components g.components k.component same.components h.component in
    let at : slice_get g.components index ≡ Some other.0 = search rules in
    let quantization : slice_index_or w.quantization other.0.factors.quantization None ≡ Some k.quantization
    = search rules in (
      record k { component = other.0 },
      search (rules, then-ok),
      record { index = refl; component = other.2; dc = refl; ac = refl },
    )

codings-alike : (w : Said) (f g : Frame) → SameFrame f g
    → (p : Pass) (tables : Tables) (xs : List (ℕ × (ℕ × ℕ))) (codings : List Coding) → gathered
    (λ x. component_coding w f p tables x.0 x.1.0 x.1.1) xs ≡ Ok codings → (others : List Coding)
    × (gathered (λ x. component_coding (at_frame w g) g p tables x.0 x.1.0 x.1.1) xs ≡ Ok others)
    × CodingsAlike codings others
unfolding gathered
codings-alike w f g same p tables (x ∷ xs) codings e =
    let one = bind-ok (component_coding w f p tables x.0 x.1.0 x.1.1) _ codings e in
    let more = bind-ok (gathered (λ x. component_coding w f p tables x.0 x.1.0 x.1.1) xs) _ codings one.2 in
    let l = coding-alike w f g same p tables x.0 x.1.0 x.1.1 one.0 one.1 in
    let others = codings-alike w f g same p tables xs more.0 more.1 in (
      l.0 ∷ others.0,
      search (rules, then-ok),
      subst (λ (ks : List Coding). CodingsAlike ks (l.0 ∷ others.0)) (ok-same (one.0 ∷ more.0) codings more.2)
          (one_more one.0 l.0 more.0 others.0 l.2 others.2),
    )
codings-alike w f g same p tables [] codings e = search (rules, ok-same, none)

components-alike : (ks ls : List Coding) → CodingsAlike ks ls → Alikes (components_of ks) (components_of ls)
components-alike ks ls none = none
components-alike ks ls (one_more k l ks' ls' h more) =
    search (rules, one_more, components-alike ks' ls' more)

indices-alike : (ks ls : List Coding) → CodingsAlike ks ls
    → map (λ (c : Coding). c.index) ls ≡ map (λ (c : Coding). c.index) ks
indices-alike ks ls none = refl
indices-alike ks ls (one_more k l ks' ls' h more) = search (rules, indices-alike ks' ls' more)

vias-alike : (base : ℕ) (ks ls : List Coding) → CodingsAlike ks ls → vias_from base ls ≡ vias_from base ks
unfolding vias_from
vias-alike base ks ls none = refl
vias-alike base ks ls (one_more k l ks' ls' h more) = search (rules, vias-alike (base + 1) ks' ls' more)

got-alike : (ks ls : List Coding) → CodingsAlike ks ls → (j : ℕ) (l : Coding) → slice_get ls j ≡ Some l
    → (k : Coding) × (slice_get ks j ≡ Some k) × CodingAlike k l
got-alike ks ls none j l e = absurd (let n : ⊥ = cc in n)
got-alike ks ls (one_more k m ks' ls' h more) zero l e = (k, refl, subst (CodingAlike k) (let q : m ≡ l = cc in q) h)
got-alike ks ls (one_more k m ks' ls' h more) (suc j) l e = got-alike ks' ls' more j l e

-- ---- scans

scan-alike : (f g : Frame) (n : ℕ) (p : Pass) (ks ls : List Coding) (array : Coefficients) (bytes : List ℕ)
    → SameFrame f g → CodingsAlike ks ls → WritesScan f n p ks array bytes → WritesScan g n p ls array bytes
scan-alike f g n p ks ls array bytes same h w =
    let cs = components-alike ks ls h in
    let u = λ (s : Spot). numbers_at p.al (w.sent s) in
    let turns = ap₂ (λ (v : List Via) (l : List Spot). turns_of v l u) (vias-alike 0 ks ls h)
    (spots-alike f g same (components_of ks) (components_of ls) cs) in
    let size : n * mcu_size (components_of ls) ≡ n * mcu_size (components_of ks) =
    ap (λ (x : ℕ). n * x) (mcu-size_same (components_of ks) (components_of ls) cs) in
    record {
      sent = w.sent;
      in_range = w.in_range;
      is_own = λ s l e own.
          let o = got-alike ks ls h s.slot l e in
          w.is_own s o.0 o.1
          (subst (λ (x : Grid). IsOwn x s.index) (grid-same o.0.component l.component o.2.component) own)
          ∙ ap₂ (λ (i wide : ℕ). array i (s.index / wide) (s.index % wide)) (sym o.2.index) (sym o.2.component.wide);
      coded = rw (size, turns) w.coded;
    }

legal-alike : (p : Pass) (levels : ℕ → Levels) (ks ls : List Coding) → CodingsAlike ks ls
    → AllByRecursion (λ c. IsLegal p (levels c.index)) ks → AllByRecursion (λ c. IsLegal p (levels
    c.index)) ls
legal-alike p levels ks ls none h = tt
legal-alike p levels ks ls (one_more k l ks' ls' a more) h = search (rules, legal-alike p levels ks' ls' more h.1)

stands-alike : (w : Said) (s : Segment) (f g : Frame) → SameFrame f g → w.frame ≡ Some f → Stands w s
    → Stands (at_frame w g) s
stands-alike w s f g same e stands = search (rules, some-none)

tables-there : (w : Said) (g : Frame) (cs ds : List Component) → Alikes cs ds → AllByRecursion (HasTable w) cs
    → AllByRecursion (HasTable (at_frame w g)) ds
tables-there w g cs ds none h = tt
tables-there w g cs ds (one_more c d cs' ds' a more) h = search (rules, tables-there w g cs' ds' more h.1)

-- a scan is written for a frame with the same blocks too
scan-other : (array : Coefficients) (f g : Frame) (w : Said) (levels next : ℕ → Levels) (h : ScanHeader)
    (bytes : List ℕ) → SameFrame f g → WritesImageScan array w levels f h bytes next
    → WritesImageScan array (at_frame w g) levels g h bytes next
unfolding codings_of tables_of
scan-other array f g w levels next h bytes same x =
    let s = scan_written f h in
    let alike : scan_written g h ≡ s = written-same f g h same in
    let e = codings-found w f s x.codings x.legal.are_in_force in
    let o = codings-alike w f g same (pass_of s) (tables_of w s) _ x.codings e in
    let is = found-codings (at_frame w g) g s o.0 o.1 in
    let legal : IsLegalScan (at_frame w g) g levels s o.0 =
    grind (arith, legal-alike (pass_of s) levels x.codings o.0 o.2 x.legal.legal) in
    record {
      codings = o.0;
      legal = rw alike legal;
      written = rw alike (scan-alike f g w.restart (pass_of s) x.codings o.0 array bytes same o.2 x.written);
      sent = rw (alike, indices-alike x.codings o.0 o.2) x.sent;
    }

-- A stream that was written for a frame is written for one with the same blocks.
pub scans-alike : (array : Coefficients) (f g : Frame) (w final : Said) (levels last : ℕ → Levels) (bytes : List ℕ)
    → SameFrame f g → w.frame ≡ Some f → WritesPart array ClosesImage w levels bytes final last
    → WritesPart array ClosesImage (at_frame w g) levels bytes (at_frame final g) last
scans-alike array f g w final levels last bytes same e
    (segment w' final' levels' last' fill (Header number h) more stands may r) = some-none f w.frame e stands.0.0
scans-alike array f g w final levels last bytes same e (segment w' final' levels' last' fill s more stands may r) =
    segment (at_frame w g) (at_frame final g) levels last fill s more (stands-alike w s f g same e stands) may
    (scans-alike array f g (said_after w s) final levels last more same e r)
scans-alike array f g w final levels last bytes same e
    (scan w' final' levels' next last' frame fill h payload more framed is x r) =
    let is_same = subst (λ (y : Frame). SameFrame y g) (same-frame f frame w.frame e framed) same in
    scan (at_frame w g) (at_frame final g) levels next last g fill h payload more refl (scan-same frame g h is_same is)
    (scan-other array frame g w levels next h payload is_same x)
    (scans-alike array f g (record w { scanned = true }) final next last more same e r)
scans-alike array f g w final levels last bytes same e (end w' levels' bytes' c) =
    let is_same = subst (λ (y : Frame). SameFrame y g) (same-frame f c.frame w.frame e c.is_said) same in
    end (at_frame w g) levels bytes (record {
      frame = g;
      fill = c.fill;
      is_said = refl;
      ended = (
        c.ended.0,
        tables-there w g c.frame.components g.components is_same.components c.ended.1,
        search (rules, length-same),
      );
      closed = c.closed;
    })

-- ---- frames at a scale

scaled-alike : (s width height h v : ℕ) (xs : List Factors) → 0 < s → 0 < h → 0 < v
    → Alikes (map (scaled_component 8 width height h v) xs) (map (scaled_component s width height h v) xs)
scaled-alike s width height h v [] a b c = none
scaled-alike s width height h v (x ∷ xs) a b c =
    search (rules, one_more, own-same, scaled-alike s width height h v xs a b c)

scaled-components : (f : Frame) (s : ℕ) → Plain f → 0 < s → Alikes f.components (frame_at s f).components
scaled-components f s o h =
    let one : f.components ≡ map (scaled_component 8 o.width o.height (most_h o.factors) (most_v o.factors)) o.factors
    = ap (λ (g : Frame). g.components) (sym (plain-size f o) ∙ ap (frame_at 8) o.is)
    ∙ frame-components 8 o.number o.precision o.width o.height o.factors in
    let two : (frame_at s f).components
    ≡ map (scaled_component s o.width o.height (most_h o.factors) (most_v o.factors)) o.factors
    = search (rules, frame-components) in
    search (rules, scaled-alike, greatest-some)

pub scaled-frame : (f : Frame) (s : ℕ) → Plain f → 0 < s → SameFrame f (frame_at s f)
unfolding frame_at
scaled-frame f s o h = search (rules, scaled-components)

at-alike : (k : ℕ) (cs ds : List Component) (d : Component) → Alikes cs ds → At k ds d
    → (c : Component) × At k cs c × Alike c d
at-alike k cs ds d none t = absurd t
at-alike zero cs ds d (one_more x y cs' ds' h more) t = (x, refl, subst (Alike x) t h)
at-alike (suc k) cs ds d (one_more x y cs' ds' h more) t = at-alike k cs' ds' d more t

pub shaped-at : (f : Frame) (s : ℕ) → Plain f → 0 < s → Shaped f → Shaped (frame_at s f)
shaped-at f s o h shape =
    let same = scaled-frame f s o h in
    grind (arith, common_steps, length-same, at-alike)

-- A change of frames brings each frame of blocks to a scale.
abbrev pub ScalesBlocks : (Frame → Frame) → Type 0
ScalesBlocks change =
    (f : Frame) → f.process ≢ Lossless → (s : ℕ) × (0 < s) × (change f ≡ frame_at s f) × (s ≤ 8)

scaled-is : (scale : ℕ) (f : Frame) → is_scale scale ≡ true → f.process ≢ Lossless
    → (s : ℕ) × (0 < s) × (scaled_by f.process scale f ≡ frame_at s f) × (s ≤ 8)
scaled-is scale f e n = go f.process refl
  where
    bounds : (0 < scale) × (scale ≤ 8)
    bounds = scale-bounds scale e

    go : (p : CodingProcess) → f.process ≡ p → (s : ℕ) × (0 < s) × (scaled_by f.process scale f ≡ frame_at s f) × (s ≤ 8)
    go DctSequential e = (scale, bounds.0, (rw e refl), bounds.1)
    go DctProgressive e = (scale, bounds.0, (rw e refl), bounds.1)
    go Lossless e = absurd (n e)

sized-scales : (width height : ℕ) → ScalesBlocks (sized width height)
sized-scales width height f n =
    scaled-is (scale_for f.width f.height width height) f (scale_for_is_scale f.width f.height width height) n

side-is_scale : (scale : Scale) → is_scale (block_side scale) ≡ true
side-is_scale scale = grind (arith, common_steps)

scaled-scales : (scale : Scale) → ScalesBlocks (scaled scale)
scaled-scales scale f n = scaled-is (block_side scale) f (side-is_scale scale) n

-- ---- the meaning

-- what was said, with its frame changed
abbrev changed : (Frame → Frame) → Said → Said
changed change said = record said { frame = option_map change said.frame }

-- what is shown of a stream whose frame is changed after its header
abbrev changed_showing : {A : Type 0} → (Frame → Frame) → (Found → Result A Fault) → List ℕ → Outcome (Told × A)
changed_showing change show bytes =
    header_at bytes >>= (λ header. rest_showing None show (with_said (changed change) header.0) header.1)

-- What a written stream is read as at a scale.
image-changed : {A : Type 0} (change : Frame → Frame) → ScalesBlocks change
    → (show : Found → Result A Fault) (array : Coefficients) (bytes tail : List ℕ)
    (final : Said) (last : ℕ → Levels) → ((index row column : ℕ) → Is8Bit (array index row column))
    → WritesImage array bytes final last → ImageMeant show array
    (changed change final) last tail (changed_showing change show (bytes ++ tail))
unfolding nothing_found nothing_said
image-changed change scales show array bytes tail final last range w =
    let r = header-read MayEndImage (image-read array range) tail (λ k. nothing_sent) last bytes final no_progress w
    refl in
    let h = r.0 in
    let said = said_after h.between (Header h.number h.header) in
    let f = frame_written h.number h.header in
    let plain = plain-said h.between h.number h.header h.stands in
    let first = drawn-said h.between h.number h.header h.stands h.allowed in
    let g = change f in
    let size = scales f first.0.lossy in
    let same : SameFrame f g = subst (SameFrame f) (sym size.2) (scaled-frame f size.0 plain size.1) in
    let drawn : IsDrawn g = subst IsDrawn (sym size.2) (
      shaped-at f size.0 plain size.1 first.0,
      frame-sources f size.0 first.1.0 plain size.1 size.3 first.1.1,
    ) in
    let kept = frame-kept said final (λ k. nothing_sent) last h.left f h.written refl in
    let left = h.left ++ tail in
    let lefts = length-append h.left tail in
    let e = reads-on MayEndImage (image-read array range) tail (at_frame said g) (at_frame final g) (λ k. nothing_sent)
    last h.left no_progress (suc (length left)) Elsewhere None left
    (scans-alike array f g said final (λ k. nothing_sent) last h.left same refl h.written)
    (record { tables = h.said.tables; shaped = λ x q. subst IsDrawn (same-frame g x _ refl q) drawn })
    (holds-nothing array (at_frame said g) h.unscanned) (stands-here left) (omega arith) in
    subst (λ (x : Said). ImageMeant show array x last tail (changed_showing change show (bytes ++ tail)))
    (ap (λ (o : Option Frame). record final { frame = option_map change o }) (sym kept)) (
      e.0,
      then-ok (header_at (bytes ++ tail)) _ (beside bring said no_progress, left) _ r.1
          (rest-by show (beside bring (at_frame said g) no_progress) _ left tail e.1),
    )

pub image-sized : {A : Type 0} (width height : ℕ) (show : Found → Result A Fault) (array : Coefficients)
    (bytes tail : List ℕ)
    (final : Said) (last : ℕ → Levels) → ((index row column : ℕ) → Is8Bit (array index row column))
    → WritesImage array bytes final last → ImageMeant show array
    (sized_to width height final) last tail (sized_showing width height show (bytes ++ tail))
unfolding sized_showing
image-sized width height = image-changed (sized width height) (sized-scales width height)

pub image-scaled : {A : Type 0} (scale : Scale) (show : Found → Result A Fault) (array : Coefficients)
    (bytes tail : List ℕ)
    (final : Said) (last : ℕ → Levels) → ((index row column : ℕ) → Is8Bit (array index row column))
    → WritesImage array bytes final last → ImageMeant show array
    (scaled_to scale final) last tail (scaled_showing scale show (bytes ++ tail))
unfolding scaled_showing
image-scaled scale = image-changed (scaled scale) (scaled-scales scale)

-- The meaning at a scale is the picture of the array at that scale.
pub stream-means_sized : (width height : ℕ) (settings : Settings)
    (array : Coefficients) (bytes rest : List ℕ) (final : Said) (last : ℕ → Levels)
    → ((index row column : ℕ) → Is8Bit (array index row column))
    → WritesImage array bytes final last → sized_meaning width height settings (bytes ++ rest)
    ≡ meaning_of_array settings (sized_to width height final) array last rest
stream-means_sized width height settings array bytes rest final last range w =
    pictured settings array (sized_to width height final) last rest _
    (image-sized width height (picture_of settings) array bytes rest final last range w)

-- A written stream whose picture is taken means one at each scale.
pub sized-taken : (width height : ℕ) (settings : Settings) (array : Coefficients) (bytes rest : List ℕ)
    (final : Said) (last : ℕ → Levels)
    → ((index row column : ℕ) → Is8Bit (array index row column)) → WritesImage array bytes final
    last
    → TakesPicture settings (sized_to width height final)
    → (picture : List ℕ) × (picture_of_array settings (sized_to width height final) array last ≡ Ok picture)
    × (sized_meaning width height settings (bytes ++ rest)
    ≡ Ok ((told_of (sized_to width height final), picture), rest))
sized-taken width height settings array bytes rest final last range w =
    taken settings array (sized_to width height final) last rest _
    (image-sized width height (picture_of settings) array bytes rest final last range w)

-- The same at a scale that is named.
pub stream-means_scaled : (scale : Scale) (settings : Settings)
    (array : Coefficients) (bytes rest : List ℕ) (final : Said) (last : ℕ → Levels)
    → ((index row column : ℕ) → Is8Bit (array index row column))
    → WritesImage array bytes final last → scaled_meaning scale settings (bytes ++ rest)
    ≡ meaning_of_array settings (scaled_to scale final) array last rest
stream-means_scaled scale settings array bytes rest final last range w =
    pictured settings array (scaled_to scale final) last rest _
    (image-scaled scale (picture_of settings) array bytes rest final last range w)

pub scaled-taken : (scale : Scale) (settings : Settings) (array : Coefficients) (bytes rest : List ℕ)
    (final : Said) (last : ℕ → Levels)
    → ((index row column : ℕ) → Is8Bit (array index row column)) → WritesImage array bytes final
    last
    → TakesPicture settings (scaled_to scale final)
    → (picture : List ℕ) × (picture_of_array settings (scaled_to scale final) array last ≡ Ok picture)
    × (scaled_meaning scale settings (bytes ++ rest)
    ≡ Ok ((told_of (scaled_to scale final), picture), rest))
scaled-taken scale settings array bytes rest final last range w =
    taken settings array (scaled_to scale final) last rest _
    (image-scaled scale (picture_of settings) array bytes rest final last range w)
