-- Lines of the picture that are made of a window of its planes, one after the other.
use Rattle.std.proofs.Common.{◌≡◌, ◌⊎◌, inl, inr, ℕ, ◌+◌, ◌-◌, ◌*◌, ◌<◌, ◌≤◌, List, [], ◌∷◌, ◌++◌, ◌^◌, map, length}
use Rattle.std.proofs.Common.{refl, sym, ap, ap₂, ◌∙◌}
use Rattle.std.proofs.Common.{subst, arith, Result, Ok}
use Rattle.std.proofs.Math.Nat.{mul-le-mul}
use Rattle.std.proofs.lemmas.Grind.{common_steps}
use Rattle.std.proofs.lemmas.List.{append-nil, length-map}
use Rattle.std.proofs.lemmas.List.Folds.{concat-append}
use Rattle.std.specs.List.{concat}
use Rattle.std.proofs.lemmas.List.FromFn.{map-range_with_len_more}
use Rattle.jpeg_bits.specs.Reading.{Fault, Names}
use Rattle.jpeg_bits.specs.declared.error.Error.{Error}
use Rattle.jpeg_bits.specs.declared.error.Error.TheVariants.{OutOfMemory}
use Rattle.jpeg_segments.specs.Frame.{AllHaveSampling, Component, Frame, most_down}
use Rattle.jpeg_segments.proofs.Codecs.{ok-same}
use Rattle.jpeg_segments.proofs.Gathered.{gathered-length}
use Rattle.jpeg_pixels.specs.Pictures.{AllCover, Source, picture_line, sources_of}
use Rattle.jpeg_pixels.specs.declared.color_convert.ColorConvert.{ColorConvert}
use Rattle.jpeg_meaning.specs.Sound.{IsDecodedFrame}
use Rattle.jpeg_meaning.proofs.Soundness.{count-few, decoded-count, decoded-sources}
use Rattle.jpeg_decoder.specs.ByRows.{AreLines, HaveRows, below, lines_decided, lines_from, unit_lines}
use Rattle.jpeg_decoder.specs.ByRows.{window_component}
use Rattle.jpeg_decoder.proofs.ByRows.FrameRows.{decoded-rows}
use Rattle.jpeg_decoder.proofs.ByRows.WindowLines.{IsWindow, below-top, in-window, window-covers}
use Rattle.jpeg_decoder.proofs.ByRows.WindowLines.{window-line, window-sources, window_height, window_sources}
use Rattle.jpeg_decoder.proofs.Pictures.PicturesOfPlanes.{decoded-factors}

-- ---- sizes

most-four : (cs : List Component) → AllHaveSampling cs → most_down cs ≤ 4
unfolding AllHaveSampling
most-four [] all = omega arith
most-four (c ∷ cs) all =
    let most = all.0.vertical_most in
    let rest = most-four cs all.1 in
    omega arith

unit-few : (cs : List Component) → AllHaveSampling cs → unit_lines cs ≤ 4 * 8
unfolding AllHaveSampling
unit-few [] all = omega arith
unit-few (c ∷ cs) all = mul-le-mul (most-four (c ∷ cs) all) all.0.scale_most

-- A row of MCUs makes few lines of the picture.
pub unit-most : (f : Frame) → IsDecodedFrame f → unit_lines f.components ≤ 32
unit-most f p = let few = unit-few f.components (decoded-factors f p) in omega arith

pub few-lines : (f : Frame) → IsDecodedFrame f → (k : ℕ) → k < 65536 → k * unit_lines f.components < 2 ^ 64
few-lines f p k lt =
    let n = unit-most f p in
    let small : k ≤ 65535 = omega arith in
    let le : k * unit_lines f.components ≤ 65535 * 32 = mul-le-mul small n in
    omega arith

-- and so do those of a window
pub few-rows : (f : Frame) → IsDecodedFrame f → (above rows : ℕ) → ((above ≡ 0) × (rows ≡ 1)) ⊎ (rows ≡ 2)
    → rows * unit_lines f.components < 65536
few-rows f p above rows shape = go shape
  where
    few : (n : ℕ) → rows ≡ n → n ≤ 2 → rows * unit_lines f.components < 65536
    few n e le =
        let u = unit-most f p in
        let small : rows ≤ 2 = omega arith in
        let most : rows * unit_lines f.components ≤ 2 * 32 = mul-le-mul small u in
        omega arith

    go : ((above ≡ 0) × (rows ≡ 1)) ⊎ (rows ≡ 2) → rows * unit_lines f.components < 65536
    go (inl e) = few 1 e.1 (omega arith)
    go (inr e) = few 2 e (omega arith)

-- ---- the components of a window

-- factors and scales stay
sampled-in-window : (above rows : ℕ) (cs : List Component) → AllHaveSampling cs
    → AllHaveSampling (map (window_component above rows) cs)
unfolding AllHaveSampling
sampled-in-window above rows [] all = tt
sampled-in-window above rows (c ∷ cs) all = (
  record {
    horizontal_some = all.0.horizontal_some;
    horizontal_most = all.0.horizontal_most;
    vertical_some = all.0.vertical_some;
    vertical_most = all.0.vertical_most;
    scale_most = all.0.scale_most;
  },
  sampled-in-window above rows cs all.1,
)

-- What an upsampler asks of the components of a window.
pub window-ready : (f : Frame) → IsDecodedFrame f → (above rows n : ℕ) (cs : List Component)
    → cs ≡ map (window_component above rows) f.components → n ≡ length cs
    → (1 ≤ n) × ((n ≤ 4) × AllHaveSampling cs)
window-ready f p above rows n cs is count =
    let few = count-few (length f.components) (decoded-count f p) in
    let same : length cs ≡ length f.components =
    ap (length {A = Component}) is ∙ length-map f.components (window_component above rows) in
    let some = few.0 in
    let most = few.1 in (
      omega arith,
      (
        omega arith,
        subst AllHaveSampling (sym is) (sampled-in-window above rows f.components (decoded-factors f p)),
      ),
    )

-- Its sources are those of the window.
pub sources-given : (f : Frame) (p : IsDecodedFrame f) (cs : List Component) (above rows width height : ℕ)
    → IsWindow f above rows → cs ≡ map (window_component above rows) f.components → width ≡ f.output_width
    → height ≡ window_height f above rows
    → sources_of cs width height ≡ Ok (window_sources above rows f.components (decoded-sources f p).sources)
sources-given f p cs above rows width height w is wide high =
    let s = decoded-sources f p in
    rw (is, wide, high) (window-sources f p s.sources above rows s.is w)

-- a name of no fault is that of memory
pub only-memory : {Y : Type 0} (e : Error) (o : Result Y Fault) (y : Y) → o ≡ Ok y → Names e o → e ≡ OutOfMemory
only-memory e o y is n = grind (arith, common_steps)

-- ---- lines

-- What an upsampler of a window has, for the next line.
pub record Upsamples (f : Frame) (above rows : ℕ) (given : List Source) : Type 0 where
  pub frame : IsDecodedFrame f
  pub window : IsWindow f above rows
  pub are : given ≡ window_sources above rows f.components (decoded-sources f frame).sources
  pub count : length given ≡ length f.components

pub upsamples : (f : Frame) (p : IsDecodedFrame f) (cs : List Component) (given : List Source)
    (above rows width height : ℕ) → IsWindow f above rows → cs ≡ map (window_component above rows) f.components
    → width ≡ f.output_width → height ≡ window_height f above rows → sources_of cs width height ≡ Ok given
    → Upsamples f above rows given
upsamples f p cs given above rows width height w is wide high e = record {
  frame = p;
  window = w;
  are = ok-same given _ (sym e ∙ sources-given f p cs above rows width height w is wide high);
  count = gathered-length _ cs given e ∙ ap (length {A = Component}) is
      ∙ length-map f.components (window_component above rows);
}

-- it lies below the rows above the window
pub line-below : (f : Frame) (p : IsDecodedFrame f) (above rows y : ℕ) → IsWindow f above rows
    → lines_decided f (above + rows - 1) ≤ y → y < lines_decided f (above + rows)
    → above * unit_lines f.components ≤ y
line-below f p above rows y w from to =
    let r = decoded-rows f p in
    let l = in-window f r above rows y w from to in
    below-top above (unit_lines f.components) y r.some_unit l.first

pub line-covered : (f : Frame) (above rows y row : ℕ) (given : List Source) (window : List (List ℕ))
    → Upsamples f above rows given → HaveRows rows f.components window
    → lines_decided f (above + rows - 1) ≤ y → y < lines_decided f (above + rows)
    → row ≡ y - above * unit_lines f.components → AllCover given window f.output_width (row + 1)
line-covered f above rows y row given window u have from to at =
    let s = decoded-sources f u.frame in
    rw (u.are, at) (window-covers f u.frame s.sources window above rows y s.is have u.window from to)

-- One line more was made.
pub one-more : (f : Frame) (above rows first count : ℕ) (convert : ColorConvert) (given : List Source)
    (window : List (List ℕ)) (row : ℕ) (line bytes : List ℕ)
    → Upsamples f above rows given → lines_decided f (above + rows - 1) ≤ first
    → first + count < lines_decided f (above + rows) → row ≡ first + count - above * unit_lines f.components
    → line ≡ picture_line convert given window f.output_width row
    → AreLines f convert window above rows first count bytes
    → AreLines f convert window above rows first (count + 1) (bytes ++ line)
one-more f above rows first count convert given window row line bytes u from to at made all planes
    sources e have is =
    let s = decoded-sources f u.frame in
    let same : s.sources ≡ sources = ok-same s.sources sources (sym s.is ∙ e) in
    let y = first + count in
    let w = f.output_width in
    let cs = f.components in
    let inside = window-line f u.frame convert sources planes above rows y e have u.window (omega arith) to in
    let whole : line ≡ picture_line convert sources planes w y =
    made ∙ ap (λ (g : List Source). picture_line convert g window w row) u.are
    ∙ ap (λ (g : List Source). picture_line convert (window_sources above rows cs g) window w row) same
    ∙ ap (λ (l : List (List ℕ)). picture_line convert (window_sources above rows cs sources) l w row) (sym is)
    ∙ ap (picture_line convert (window_sources above rows cs sources) (below above cs planes) w) at ∙ inside in
    let n = map-range_with_len_more (picture_line convert sources planes w) first count y refl in
    let front = lines_from f convert sources planes first count in
    ap₂ (λ (l k : List ℕ). l ++ k) (all planes sources e have is) (sym (append-nil line))
    ∙ sym (concat-append front (line ∷ []))
    ∙ ap concat (ap (λ (l : List ℕ). front ++ l ∷ []) whole ∙ sym n)

-- before the first one
pub no-lines : (f : Frame) (above rows first : ℕ) (convert : ColorConvert) (window : List (List ℕ))
    → AreLines f convert window above rows first 0 []
no-lines f above rows first convert window planes sources e have is = refl
