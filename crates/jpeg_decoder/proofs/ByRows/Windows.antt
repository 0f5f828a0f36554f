-- Planes of rows of MCUs, as rows are added below and taken away above.
use Rattle.std.proofs.Common.{◌≡◌, ℕ, zero, suc, ◌+◌, ◌-◌, ◌*◌, ◌<◌, ◌≤◌, List, [], ◌∷◌, ◌++◌, map, length, drop}
use Rattle.std.proofs.Common.{get_or, set, replicate, Vec, Global, Bool, true, false, inl, inr, refl, sym, ap, ◌∙◌}
use Rattle.std.proofs.Common.{subst, arith}
use Rattle.std.specs.Prelude.{◌==◌, ◌||◌, if◌then◌else◌, max, min}
use Rattle.std.specs.List.{list_any}
use Rattle.std.proofs.lemmas.Bool.{eq-eqb, eqb-true, ne_eqb}
use Rattle.std.proofs.lemmas.List.{drop-append-le, drop-drop, drop_all, get_or-map, length-append, length-drop}
use Rattle.std.proofs.lemmas.List.{length-map, map-set}
use Rattle.std.proofs.Math.Nat.{add-mul, mul_comm, mul-le-mul, mul-le-mul_right, one-mul, zero-mul}
use Rattle.jpeg_segments.specs.Frame.{AllHaveSampling, Component, Frame, most_down}
use Rattle.jpeg_segments.specs.FrameView.{component_in}
use Rattle.jpeg_segments.specs.declared.frame.Component as declared
use Rattle.jpeg_bits.specs.Passes.{Block}
use Rattle.jpeg_pixels.specs.Pictures.{is_blended}
use Rattle.jpeg_pixels.specs.Scaled.{IsScale}
use Rattle.jpeg_meaning.specs.Scans.{Arrays}
use Rattle.jpeg_meaning.specs.ScanSegments.{Coding, components_of}
use Rattle.jpeg_meaning.specs.Sound.{IsDecodedFrame}
use Rattle.jpeg_meaning.specs.WholeRows.{rows_apart}
use Rattle.jpeg_meaning.proofs.InPlace.{patched, patched-all, patched-at, patched-length, patched-next}
use Rattle.jpeg_meaning.proofs.Written.WrittenPictures.{plane-length}
use Rattle.jpeg_decoder.specs.ByRows.{HaveRows, HaveScales, below, lines_decided, strip_size, unit_lines}
use Rattle.jpeg_decoder.specs.Strips.{plane_lists, samples_of, with_strips}
use Rattle.jpeg_decoder.proofs.Pictures.PicturesOfPlanes.{decoded-factors}

abbrev pub Plane : Type 0
Plane = Vec ℕ Global

-- ---- components

-- what stands past the last one
abbrev pub no_component : declared.Component
no_component = record {
  identifier = 0;
  horizontal_sampling_factor = 0;
  vertical_sampling_factor = 0;
  quantization_table_index = 0;
  dct_scale = 0;
  size = record { width = 0; height = 0 };
  block_size = record { width = 0; height = 0 };
}

pub scale-at : (cs : List declared.Component) (slot : ℕ) (d : declared.Component)
    → HaveScales (map component_in cs) → slot < length cs → IsScale (get_or cs slot d).dct_scale
scale-at (c ∷ cs) zero d scales lt = scales.0
scale-at (c ∷ cs) (suc slot) d scales lt = scale-at cs slot d scales.1 (omega arith)
scale-at [] slot d scales lt = absurd (omega (arith, lt))

pub scale-small : (s : ℕ) → IsScale s → s ≤ 8
scale-small s (inl e) = omega (arith, e)
scale-small s (inr (inl e)) = omega (arith, e)
scale-small s (inr (inr (inl e))) = omega (arith, e)
scale-small s (inr (inr (inr e))) = omega (arith, e)

-- The greatest vertical factor gives the lines of a row of MCUs.
pub units-all : (cs : List declared.Component) (n most i : ℕ) → 1 ≤ length cs → length cs ≤ i → 1 ≤ most
    → max most (most_down (map component_in (drop i cs))) ≡ most_down (map component_in cs) → n ≡ most
    → n * (get_or cs 0 no_component).dct_scale ≡ unit_lines (map component_in cs)
units-all [] n most i some le one e is = absurd (omega (arith, some))
units-all (c ∷ cs) n most i some le one e is =
    let none : n ≡ max most 1 = omega arith in
    ap (λ (k : ℕ). k * c.dct_scale) (none
    ∙ ap (λ (l : List declared.Component). max most (most_down (map component_in l)))
    (sym (drop_all i (c ∷ cs) le)) ∙ e)

-- ---- how many samples planes of rows have

-- as many planes as components
pub have-count : (k : ℕ) (cs : List Component) (planes : List (List ℕ)) → HaveRows k cs planes
    → length planes ≡ length cs
unfolding HaveRows
have-count k [] [] h = refl
have-count k (c ∷ cs) (p ∷ planes) h = ap suc (have-count k cs planes h.1)
have-count k [] (p ∷ planes) h = absurd h
have-count k (c ∷ cs) [] h = absurd h

none-have : (cs : List Component) → HaveRows 0 cs (replicate (length cs) [])
unfolding HaveRows
none-have [] = tt
none-have (c ∷ cs) = (sym (zero-mul (strip_size c)), none-have cs)

-- the plane in a slot
have-at : (k : ℕ) (cs : List Component) (planes : List (List ℕ)) (slot : ℕ) (c : Component) → HaveRows k cs planes
    → slot < length cs → length (get_or planes slot []) ≡ k * strip_size (get_or cs slot c)
unfolding HaveRows
have-at k (c ∷ cs) (p ∷ planes) zero d h lt = h.0
have-at k (c ∷ cs) (p ∷ planes) (suc slot) d h lt = have-at k cs planes slot d h.1 (omega arith)
have-at k [] planes slot d h lt = absurd (omega (arith, lt))
have-at k (c ∷ cs) [] slot d h lt = absurd h

-- ---- rows that are taken away

below-at : (k n : ℕ) (cs : List Component) (planes : List (List ℕ)) (slot : ℕ) (c : Component) → HaveRows k cs planes
    → slot < length cs
    → get_or (below n cs planes) slot [] ≡ drop (n * strip_size (get_or cs slot c)) (get_or planes slot [])
unfolding HaveRows below
below-at k n (c ∷ cs) (p ∷ planes) zero d h lt = refl
below-at k n (c ∷ cs) (p ∷ planes) (suc slot) d h lt = below-at k n cs planes slot d h.1 (omega arith)
below-at k n [] planes slot d h lt = absurd (omega (arith, lt))
below-at k n (c ∷ cs) [] slot d h lt = absurd h

below-count : (k n : ℕ) (cs : List Component) (planes : List (List ℕ)) → HaveRows k cs planes
    → length (below n cs planes) ≡ length planes
unfolding HaveRows below
below-count k n [] [] h = refl
below-count k n (c ∷ cs) (p ∷ planes) h = ap suc (below-count k n cs planes h.1)
below-count k n [] (p ∷ planes) h = absurd h
below-count k n (c ∷ cs) [] h = absurd h

-- below some rows, and then some more
below-more : (k m n : ℕ) (cs : List Component) (planes : List (List ℕ)) → HaveRows k cs planes
    → below n cs (below m cs planes) ≡ below (m + n) cs planes
unfolding HaveRows below
below-more k m n [] [] h = refl
below-more k m n (c ∷ cs) (p ∷ planes) h =
    let s = strip_size c in
    ap (λ (l : List ℕ). l ∷ below n cs (below m cs planes)) (drop-drop (n * s) (m * s) p
    ∙ ap (λ (i : ℕ). drop i p) (sym (add-mul m n s)))
    ∙ ap (λ (l : List (List ℕ)). drop ((m + n) * s) p ∷ l) (below-more k m n cs planes h.1)
below-more k m n [] (p ∷ planes) h = absurd h
below-more k m n (c ∷ cs) [] h = absurd h

below-have : (k n : ℕ) (cs : List Component) (planes : List (List ℕ)) → HaveRows (n + k) cs planes
    → HaveRows k cs (below n cs planes)
unfolding HaveRows below
below-have k n [] [] h = tt
below-have k n (c ∷ cs) (p ∷ planes) h =
    (omega (arith, length-drop (n * strip_size c) p, add-mul n k (strip_size c), h.0), below-have k n cs planes h.1)
below-have k n [] (p ∷ planes) h = absurd h
below-have k n (c ∷ cs) [] h = absurd h

-- ---- rows that are added

samples-long : (c : Coding) (blocks : List Block)
    → length (samples_of c.component.factors.vertical c blocks) ≡ strip_size c.component
unfolding samples_of
samples-long c blocks =
    let v = c.component.factors.vertical in
    let s = c.component.scale in
    let w = c.component.blocks_wide in
    plane-length s _ w v _ ∙ mul_comm (s * w) (s * v)
    ∙ ap (λ (n : ℕ). n * (s * w)) (mul_comm s v) ∙ ap (λ (n : ℕ). v * s * n) (mul_comm s w)

strips-have : (k : ℕ) (codings : List Coding) (arrays : Arrays) (planes : List (List ℕ))
    → length arrays ≡ length codings → HaveRows k (components_of codings) planes
    → HaveRows (k + 1) (components_of codings) (with_strips codings arrays planes)
unfolding HaveRows with_strips
strips-have k [] [] [] e h = tt
strips-have k (c ∷ codings) (a ∷ arrays) (p ∷ planes) e h = (
  length-append p (samples_of c.component.factors.vertical c a)
      ∙ omega (arith, h.0, samples-long c a, add-mul k 1 (strip_size c.component), one-mul (strip_size c.component)),
  strips-have k codings arrays planes (omega arith) h.1,
)
strips-have k [] arrays (p ∷ planes) e h = absurd h
strips-have k [] (a ∷ arrays) planes e h = absurd (omega (arith, e))
strips-have k (c ∷ codings) [] planes e h = absurd (omega (arith, e))
strips-have k (c ∷ codings) arrays [] e h = absurd h

-- Rows above are taken away before or after one is added below.
strips-below : (k n : ℕ) (codings : List Coding) (arrays : Arrays) (planes : List (List ℕ)) → n ≤ k
    → length arrays ≡ length codings → HaveRows k (components_of codings) planes
    → below n (components_of codings) (with_strips codings arrays planes)
    ≡ with_strips codings arrays (below n (components_of codings) planes)
unfolding HaveRows below with_strips
strips-below k n [] [] [] le e h = refl
strips-below k n (c ∷ codings) (a ∷ arrays) (p ∷ planes) le e h =
    let s = strip_size c.component in
    let product : n * s ≤ k * s = mul-le-mul_right s le in
    let strip = samples_of c.component.factors.vertical c a in
    ap (λ (l : List ℕ). l ∷ below n (components_of codings) (with_strips codings arrays planes))
    (drop-append-le (n * s) p strip (omega (arith, product, h.0)))
    ∙ ap (λ (l : List (List ℕ)). (drop (n * s) p ++ strip) ∷ l)
    (strips-below k n codings arrays planes le (omega arith) h.1)
strips-below k n [] arrays (p ∷ planes) le e h = absurd h
strips-below k n [] (a ∷ arrays) planes le e h = absurd (omega (arith, e))
strips-below k n (c ∷ codings) [] planes le e h = absurd (omega (arith, e))
strips-below k n (c ∷ codings) arrays [] le e h = absurd h

-- ---- the first of two rows is removed, plane by plane

module _ (cs : List declared.Component) (start : List Plane)
    (rows : HaveRows 2 (map component_in cs) (plane_lists start)) where
  abbrev kept : List (List ℕ)
  kept = below 1 (map component_in cs) (plane_lists start)

  lists-long : length (plane_lists start) ≡ length start
  lists-long = length-map start (λ (v : Plane). v.items)

  kept-long : length kept ≡ length (plane_lists start)
  kept-long = below-count 2 1 (map component_in cs) (plane_lists start) rows

  pub components-long : length cs ≡ length start
  components-long =
      omega (arith, length-map cs component_in, lists-long, have-count 2 (map component_in cs) (plane_lists start) rows)

  planes-long : (planes : List Plane) (slot : ℕ) → plane_lists planes ≡ patched slot kept (plane_lists start)
      → length planes ≡ length start
  planes-long planes slot e =
      sym (length-map planes (λ (v : Plane). v.items)) ∙ ap length e
      ∙ patched-length kept (plane_lists start) slot kept-long ∙ lists-long

  -- the plane that is next
  plane-next : (planes : List Plane) (slot : ℕ) (p : Plane) → slot < length start
      → plane_lists planes ≡ patched slot kept (plane_lists start)
      → (get_or planes slot p).items ≡ get_or (plane_lists start) slot []
  plane-next planes slot p lt e =
      sym (get_or-map (λ (v : Plane). v.items) planes slot p [] (omega (arith, lt, planes-long planes slot e)))
      ∙ ap (λ (l : List (List ℕ)). get_or l slot []) e
      ∙ patched-at kept (plane_lists start) slot [] kept-long

  pub strip-next : (planes : List Plane) (slot : ℕ) (p : Plane) (d : declared.Component) → slot < length start
      → plane_lists planes ≡ patched slot kept (plane_lists start)
      → length (get_or planes slot p).items ≡ 2 * strip_size (component_in (get_or cs slot d))
  strip-next planes slot p d lt e =
      let within : slot < length cs = omega (arith, lt, components-long) in
      ap length (plane-next planes slot p lt e)
      ∙ have-at 2 (map component_in cs) (plane_lists start) slot (component_in d) rows
      (omega (arith, within, length-map cs component_in))
      ∙ ap (λ (c : Component). 2 * strip_size c) (get_or-map component_in cs slot d (component_in d) within)

  pub kept-next : (planes : List Plane) (slot : ℕ) (p q : Plane) (d : declared.Component) → slot < length start
      → plane_lists planes ≡ patched slot kept (plane_lists start) → (n : ℕ)
      → n ≡ strip_size (component_in (get_or cs slot d)) → q.items ≡ drop n (get_or planes slot p).items
      → plane_lists (set planes slot q) ≡ patched (slot + 1) kept (plane_lists start)
  kept-next planes slot p q d lt e n is new =
      let within : slot < length cs = omega (arith, lt, components-long) in
      let c = get_or cs slot d in
      let one : 1 * strip_size (component_in c) ≡ strip_size (component_in c) = one-mul (strip_size (component_in c)) in
      let here : get_or kept slot [] ≡ q.items =
      below-at 2 1 (map component_in cs) (plane_lists start) slot (component_in d) rows
      (omega (arith, within, length-map cs component_in))
      ∙ ap (λ (x : Component). drop (1 * strip_size x) (get_or (plane_lists start) slot []))
      (get_or-map component_in cs slot d (component_in d) within)
      ∙ ap (λ (n : ℕ). drop n (get_or (plane_lists start) slot [])) one
      ∙ ap (drop (strip_size (component_in c))) (sym (plane-next planes slot p lt e))
      ∙ ap (λ (k : ℕ). drop k (get_or planes slot p).items) (sym is) ∙ sym new in
      map-set (λ (v : Plane). v.items) planes slot q
      ∙ ap (λ (l : List (List ℕ)). set l slot q.items) e
      ∙ patched-next kept (plane_lists start) slot q.items [] kept-long (omega (arith, lt, lists-long)) (sym here)

  pub kept-all : (planes : List Plane) (slot : ℕ) → length start ≤ slot
      → plane_lists planes ≡ patched slot kept (plane_lists start) → plane_lists planes ≡ kept
  kept-all planes slot le e =
      e ∙ patched-all kept (plane_lists start) slot kept-long (omega (arith, le, lists-long))

-- ---- a window of at most two rows, once a row is added

-- What is kept of planes of so many rows before one is added: the last, if there is one.
pub record AreKept (cs : List Component) (rows : ℕ) (old kept : List (List ℕ)) : Type 0 where
  pub have : HaveRows (min rows 1) cs kept
  pub ends : (planes : List (List ℕ)) → HaveRows rows cs planes → below (rows - min rows 2) cs planes ≡ old
      → below (rows - min rows 1) cs planes ≡ kept

pub last-kept : (cs : List Component) (rows : ℕ) (old kept : List (List ℕ)) → 1 < rows → HaveRows (min rows 2) cs old
    → kept ≡ below 1 cs old → AreKept cs rows old kept
last-kept cs rows old kept more have is =
    let two : min rows 2 ≡ 1 + 1 = omega arith in
    let one : min rows 1 ≡ 1 = omega arith in
    record {
      have = subst (λ (l : List (List ℕ)). HaveRows (min rows 1) cs l) (sym is)
          (subst (λ (k : ℕ). HaveRows k cs (below 1 cs old)) (sym one)
          (below-have 1 1 cs old (subst (λ (k : ℕ). HaveRows k cs old) two have)));
      ends = λ planes rows-have e.
          let next : rows - min rows 1 ≡ (rows - min rows 2) + 1 = omega arith in
          ap (λ (k : ℕ). below k cs planes) next
          ∙ sym (below-more rows (rows - min rows 2) 1 cs planes rows-have)
          ∙ ap (below 1 cs) e ∙ sym is;
    }

pub all-kept : (cs : List Component) (rows : ℕ) (old kept : List (List ℕ)) → rows ≤ 1 → HaveRows (min rows 2) cs old
    → kept ≡ old → AreKept cs rows old kept
all-kept cs rows old kept few have is =
    let one : min rows 2 ≡ min rows 1 = omega arith in
    record {
      have = subst (λ (l : List (List ℕ)). HaveRows (min rows 1) cs l) (sym is)
          (subst (λ (k : ℕ). HaveRows k cs old) one have);
      ends = λ planes rows-have e. ap (λ (k : ℕ). below (rows - k) cs planes) (sym one) ∙ e ∙ sym is;
    }

-- A row is added to what is kept, and to all planes.
pub record AreGrown (cs : List Component) (codings : List Coding) (arrays : Arrays) (rows : ℕ)
    (old new : List (List ℕ)) : Type 0 where
  pub have : HaveRows (min (rows + 1) 2) cs new
  pub rows_have : (planes : List (List ℕ)) → HaveRows rows cs planes
      → HaveRows (rows + 1) cs (with_strips codings arrays planes)
  pub ends : (planes : List (List ℕ)) → HaveRows rows cs planes → below (rows - min rows 2) cs planes ≡ old
      → below (rows + 1 - min (rows + 1) 2) cs (with_strips codings arrays planes) ≡ new

strips-grown : (codings : List Coding) (arrays : Arrays) (rows : ℕ) (old kept new : List (List ℕ))
    → length arrays ≡ length codings → AreKept (components_of codings) rows old kept
    → new ≡ with_strips codings arrays kept → AreGrown (components_of codings) codings arrays rows old new
strips-grown codings arrays rows old kept new count k is =
    let cs = components_of codings in
    let two : min rows 1 + 1 ≡ min (rows + 1) 2 = omega arith in
    let above : rows + 1 - min (rows + 1) 2 ≡ rows - min rows 1 = omega arith in
    let fewer : rows - min rows 1 ≤ rows = omega arith in
    record {
      have = subst (λ (l : List (List ℕ)). HaveRows (min (rows + 1) 2) cs l) (sym is)
          (subst (λ (n : ℕ). HaveRows n cs (with_strips codings arrays kept)) two
          (strips-have (min rows 1) codings arrays kept count k.have));
      rows_have = λ planes h. strips-have rows codings arrays planes count h;
      ends = λ planes h e.
          ap (λ (n : ℕ). below n cs (with_strips codings arrays planes)) above
          ∙ strips-below rows (rows - min rows 1) codings arrays planes fewer count h
          ∙ ap (with_strips codings arrays) (k.ends planes h e) ∙ sym is;
    }

pub are-grown : (cs : List Component) (codings : List Coding) (arrays : Arrays) (rows : ℕ)
    (old kept new : List (List ℕ)) → components_of codings ≡ cs → length arrays ≡ length codings
    → AreKept cs rows old kept → new ≡ with_strips codings arrays kept → AreGrown cs codings arrays rows old new
are-grown cs codings arrays rows old kept new same count k is =
    subst (λ (l : List Component). AreGrown l codings arrays rows old new) same
    (strips-grown codings arrays rows old kept new count
    (subst (λ (l : List Component). AreKept l rows old kept) (sym same) k) is)

-- ---- the lines that rows decide

fewer-decided : (h u k : ℕ) (c d : Bool)
    → min h (if d then k * u - 1 else k * u) ≤ (if c then h else min h (if d then (k + 1) * u - 1 else (k + 1) * u))
fewer-decided h u k true true = omega arith
fewer-decided h u k true false = omega arith
fewer-decided h u k false true = omega (arith, add-mul k 1 u, one-mul u)
fewer-decided h u k false false = omega (arith, add-mul k 1 u, one-mul u)

-- One row more decides no fewer.
pub decided-grows : (f : Frame) (k : ℕ) → k < f.mcus_high → lines_decided f k ≤ lines_decided f (k + 1)
unfolding lines_decided
decided-grows f k lt = go (k == f.mcus_high) refl
  where
    go : (b : Bool) → (k == f.mcus_high) ≡ b → (if b then f.output_height else min f.output_height
        (rows_apart f f.components (k * unit_lines f.components)))
        ≤ (if (k + 1) == f.mcus_high then f.output_height else min f.output_height
        (rows_apart f f.components ((k + 1) * unit_lines f.components)))
    go true e = absurd (omega (arith, lt, eqb-true k f.mcus_high e))
    go false e =
        fewer-decided f.output_height (unit_lines f.components) k ((k + 1) == f.mcus_high)
        (list_any (is_blended f) f.components)

most-small : (cs : List Component) → AllHaveSampling cs → most_down cs ≤ 4
unfolding AllHaveSampling
most-small [] all = omega arith
most-small (c ∷ cs) all = omega (arith, all.0.vertical_most, most-small cs all.1)

units-small : (cs : List Component) → AllHaveSampling cs → unit_lines cs ≤ 32
unfolding AllHaveSampling
units-small [] all = omega arith
units-small (c ∷ cs) all =
    let most = most-small (c ∷ cs) all in
    let scale = all.0.scale_most in
    mul-le-mul most scale

-- the lines of rows of MCUs of a frame that is decoded
rows-small : (f : Frame) (k : ℕ) → IsDecodedFrame f → k ≤ 65535 → k * unit_lines f.components ≤ 2097120
rows-small f k p h = mul-le-mul h (units-small f.components (decoded-factors f p))

-- After the last row all lines are decided.
pub decided-last : (f : Frame) (k : ℕ) → k ≡ f.mcus_high → f.output_height ≡ lines_decided f k
unfolding lines_decided
decided-last f k e =
    sym (ap (λ (b : Bool). if b then f.output_height else min f.output_height
    (rows_apart f f.components (k * unit_lines f.components))) (eq-eqb k f.mcus_high e))

-- before it those of the rows, but for the last one where it is blended
pub decided-early : (f : Frame) (k n u apart w : ℕ) (blended : Bool) → (k ≡ f.mcus_high → ⊥) → n ≡ k
    → u ≡ unit_lines f.components → blended ≡ list_any (is_blended f) f.components
    → apart ≡ (if blended then n * u - 1 else n * u) → w ≡ min f.output_height apart → w ≡ lines_decided f k
unfolding lines_decided
decided-early f k n u apart w blended early same unit b a e =
    e ∙ ap (λ (m : ℕ). min f.output_height m) (a
    ∙ ap (λ (m : ℕ). if blended then m - 1 else m) (ap (λ (i : ℕ). i * u) same ∙ ap (λ (i : ℕ). k * i) unit)
    ∙ ap (λ (c : Bool). if c then k * unit_lines f.components - 1 else k * unit_lines f.components) b)
    ∙ sym (ap (λ (c : Bool). if c then f.output_height else min f.output_height
    (rows_apart f f.components (k * unit_lines f.components))) (ne_eqb k f.mcus_high early))

pub rows-fit : (f : Frame) (k n u : ℕ) → IsDecodedFrame f → k ≤ 65535 → n ≡ k → u ≡ unit_lines f.components
    → n * u ≤ 2097120
rows-fit f k n u p h same unit =
    omega (arith, rows-small f k p h, ap (λ (i : ℕ). i * u) same ∙ ap (λ (i : ℕ). k * i) unit)

pub then-apart : (n a r : ℕ) (blended : Bool) → blended ≡ true → a ≡ r → r ≡ n - 1
    → a ≡ (if blended then n - 1 else n)
then-apart n a r true e is less = is ∙ less
then-apart n a r false e is less = absurd cc

pub else-apart : (n a : ℕ) (blended : Bool) → blended ≡ false → a ≡ n → a ≡ (if blended then n - 1 else n)
else-apart n a true e is = absurd cc
else-apart n a false e is = is

pub any-mapped : (f : Component → Bool) (cs : List declared.Component)
    → list_any (λ c. f (component_in c)) cs ≡ list_any f (map component_in cs)
any-mapped f [] = refl
any-mapped f (c ∷ cs) = ap (λ (b : Bool). f (component_in c) || b) (any-mapped f cs)

pub line-small : (n w : ℕ) → n ≤ 4 → w ≤ 65535 → n * w ≤ 262140
line-small n w h i = mul-le-mul h i

-- ---- before the first row

pub none-ready : (cs : List Component) (n : ℕ) (planes : List Plane) → n ≡ length cs
    → plane_lists planes ≡ replicate n [] → HaveRows (min 0 2) cs (plane_lists planes)
none-ready cs n planes count e =
    let none : min 0 2 ≡ 0 = omega arith in
    subst (λ (l : List (List ℕ)). HaveRows (min 0 2) cs l) (sym (e
    ∙ ap (λ (k : ℕ). replicate {A = List ℕ} k []) count))
    (subst (λ (k : ℕ). HaveRows k cs (replicate (length cs) [])) (sym none) (none-have cs))
