-- Frames whose header stays the same.
use Rattle.std.proofs.Common.{◌≡◌, ℕ, zero, suc, ◌*◌, ◌+◌, List, [], ◌∷◌, ◌++◌, length, get_or, map, set, refl, sym, ap, ap₂}
use Rattle.std.proofs.Common.{◌∙◌, subst, arith, Bool, false, ◌≤◌, ℤ}
use Rattle.std.proofs.lemmas.List.{length-map}
use Rattle.std.proofs.Math.Seq.{map-set_same}
use Rattle.std.specs.Prelude.{◌==◌, if◌then◌else◌, replicate, slice_get}
use Rattle.std.specs.List.{flat_map, list_any, range_with_len}
use Rattle.jpeg_bits.specs.Passes.{Via}
use Rattle.jpeg_segments.specs.Frame.{Factors, greatest}
use Rattle.jpeg_segments.specs.WrittenSegments.{FrameHeader, IsFrameHeader, frame_written}
use Rattle.zaxbriar_strict.specs.Contexts.{blocks_at, part_places, places_at, row_places, unit_of, unit_places}
use Rattle.zaxbriar_strict.specs.Changes.{Place, block_of, kept_in, kept_of, rows_of}
use Rattle.zaxbriar_strict.specs.Heads.{IsMade, IsSameFrame, IsSequential, factors_of, header_of}
use Rattle.zaxbriar_strict.specs.Heads.{is_progressive_process, number_of, written_frame}
use Rattle.zaxbriar_strict.specs.Kept.{IsKept, IsKeptComponent}
use Rattle.zaxbriar_strict.specs.declared.frame.Component.{Component}
use Rattle.zaxbriar_strict.specs.declared.frame.Frame.{Frame}
use Rattle.zaxbriar_strict.specs.declared.frame.Process.{Process}
use Rattle.zaxbriar_strict.specs.declared.frame.Process.TheVariants.{Baseline, Extended, Lossless, Progressive}
use Rattle.zaxbriar_strict.specs.declared.scan.Member.{Member}

-- ---- frames with the same header

pub same-none : (f : Frame) → IsSameFrame f f
same-none f = record { process = refl; header = refl; across = refl; down = refl }

pub same-then : {f g h : Frame} → IsSameFrame f g → IsSameFrame g h → IsSameFrame f h
same-then a b = record {
  process = b.process ∙ a.process;
  header = b.header ∙ a.header;
  across = b.across ∙ a.across;
  down = b.down ∙ a.down;
}

header-same : (p p' w w' h h' : ℕ) (xs ys : List Factors) → p' ≡ p → w' ≡ w → h' ≡ h → ys ≡ xs
    → ◌≡◌ {A = FrameHeader} (record { precision = p'; width = w'; height = h'; components = ys })
    (record { precision = p; width = w; height = h; components = xs })
header-same p p' w w' h h' xs ys d e f g = rw (d, e, f, g) refl

-- one of the components is another one with the same parameters
pub same-item : (f g : Frame) (i : ℕ) (old new : Component) → old ≡ get_or f.components.items i old
    → factors_of new ≡ factors_of old → g.components.items ≡ set f.components.items i new → g.process ≡ f.process
    → g.precision ≡ f.precision → g.width ≡ f.width → g.height ≡ f.height → g.most_across ≡ f.most_across
    → g.most_down ≡ f.most_down → IsSameFrame f g
same-item f g i old new at factors items process precision width height across down =
    let xs = f.components.items in
    let all : map factors_of g.components.items ≡ map factors_of xs =
    ap (map factors_of) items ∙ map-set_same factors_of xs i new old (factors ∙ ap factors_of at) in
    record {
      process = process;
      header = header-same f.precision g.precision f.width g.width f.height g.height (map factors_of xs)
          (map factors_of g.components.items) precision width height all;
      across = across;
      down = down;
    }

-- ---- processes

pub is-lossless : (p : Process) → number_of p ≡ 3 → p ≡ Lossless
is-lossless Baseline e = absurd (omega (arith, e))
is-lossless Extended e = absurd (omega (arith, e))
is-lossless Progressive e = absurd (omega (arith, e))
is-lossless Lossless e = refl

pub not-sequential : (p : Process) → p ≡ Lossless → number_of p ≤ 1 → ⊥
not-sequential p e few = (let n = ap number_of e in omega (arith, n, few))

-- ---- frames that are kept

pub kept-none : (f : Frame) → IsKept f f
kept-none f = record { same = same-none f; sent = refl; lowest = refl }

pub kept-then : {f g h : Frame} → IsKept f g → IsKept g h → IsKept f h
kept-then a b = record { same = same-then a.same b.same; sent = b.sent ∙ a.sent; lowest = b.lowest ∙ a.lowest }

-- one of the components is another one, which is kept
pub kept-item : (f g : Frame) (i : ℕ) (old new : Component) → old ≡ get_or f.components.items i old
    → IsKeptComponent old new → g.components.items ≡ set f.components.items i new → g.process ≡ f.process
    → g.precision ≡ f.precision → g.width ≡ f.width → g.height ≡ f.height → g.most_across ≡ f.most_across
    → g.most_down ≡ f.most_down → IsKept f g
kept-item f g i old new at k items process precision width height across down = record {
  same = same-item f g i old new at k.factors items process precision width height across down;
  sent = ap (map (λ (c : Component). c.has_scan)) items
      ∙ map-set_same (λ (c : Component). c.has_scan) f.components.items i new old
      (k.sent ∙ ap (λ (c : Component). c.has_scan) at);
  lowest = ap (map (λ (c : Component). c.lowest)) items
      ∙ map-set_same (λ (c : Component). c.lowest) f.components.items i new old
      (k.lowest ∙ ap (λ (c : Component). c.lowest) at);
}

-- the blocks that are kept are the same where a component's are
pub rows-item : (xs ys : List Component) (i : ℕ) (old new : Component) → old ≡ get_or xs i old → new.rows ≡ old.rows
    → new.is_wide ≡ old.is_wide → ys ≡ set xs i new → map kept_of ys ≡ map kept_of xs
rows-item xs ys i old new at same wide items =
    let kept : kept_of new ≡ kept_of old = λ i. (ap (λ r. map (λ b. b.items) r.items) same i, wide i) in
    ap (map kept_of) items ∙ map-set_same kept_of xs i new old (kept ∙ ap kept_of at)

rows-first : (xs : List Component) → map rows_of xs ≡ map (λ k. k.0) (map kept_of xs)
rows-first [] = refl
rows-first (x ∷ xs) = ap (λ (l : List (List (List (List ℤ)))). rows_of x ∷ l) (rows-first xs)

wide-second : (xs : List Component) → map (λ (c : Component). c.is_wide) xs ≡ map (λ k. k.1) (map kept_of xs)
wide-second [] = refl
wide-second (x ∷ xs) = ap (λ (l : List Bool). x.is_wide ∷ l) (wide-second xs)

pub same-kept : (xs ys : List Component) → map kept_of ys ≡ map kept_of xs → kept_in ys ≡ kept_in xs
same-kept xs ys e =
    let rows = rows-first ys ∙ ap (map (λ k. k.0)) e ∙ sym (rows-first xs) in
    let wide = wide-second ys ∙ ap (map (λ k. k.1)) e ∙ sym (wide-second xs) in
    λ i. record {
      block = λ q. block_of (get_or (rows i) q.index []) q.row q.column;
      is_wide = list_any (λ b. b) (wide i);
    }

-- ---- their components

same-factors : {f g : Frame} → IsSameFrame f g → map factors_of g.components.items ≡ map factors_of f.components.items
same-factors s = ap (λ (h : FrameHeader). h.components) s.header

pub same-length : {f g : Frame} → IsSameFrame f g → length g.components.items ≡ length f.components.items
same-length {f} {g} s =
    sym (length-map g.components.items factors_of) ∙ ap length (same-factors s)
    ∙ length-map f.components.items factors_of

-- ---- the blocks of their MCUs

blocks-at-same : (count : ℕ) (xs ys : List Component) → map factors_of ys ≡ map factors_of xs → (index : ℕ)
    → blocks_at count ys index ≡ blocks_at count xs index
unfolding blocks_at
blocks-at-same count [] [] e index = refl
blocks-at-same count [] (y ∷ ys) e index = absurd cc
blocks-at-same count (x ∷ xs) [] e index = absurd cc
blocks-at-same count (x ∷ xs) (y ∷ ys) e zero =
    let first : factors_of y ≡ factors_of x = cc in
    ap (λ (c : Factors). if count == 1 then 1 else c.vertical * c.horizontal) first
blocks-at-same count (x ∷ xs) (y ∷ ys) e (suc index) =
    let rest : map factors_of ys ≡ map factors_of xs = cc in
    blocks-at-same count xs ys rest index

pub kept-blocks-at : {f g : Frame} (count : ℕ) → IsKept f g → (index : ℕ)
    → blocks_at count g.components.items index ≡ blocks_at count f.components.items index
kept-blocks-at {f} {g} count k index =
    blocks-at-same count f.components.items g.components.items (same-factors k.same) index

pub kept-unit : {f g : Frame} (count : ℕ) (ms : List Member) (vias : List Via) → IsKept f g
    → unit_of count g.components.items ms vias ≡ unit_of count f.components.items ms vias
unfolding unit_of
kept-unit count [] vias k = refl
kept-unit count (m ∷ ms) [] k = refl
kept-unit count (m ∷ ms) (v ∷ vias) k =
    ap₂ (λ (n : ℕ) (rest : List Via). replicate n v ++ rest) (kept-blocks-at count k m.component)
    (kept-unit count ms vias k)

-- the places of their blocks
part-same : (count row column index : ℕ) (x y : Component) → factors_of y ≡ factors_of x
    → part_places count row column index y ≡ part_places count row column index x
unfolding part_places
part-same count row column index x y e =
    ap₂ (λ (v h : ℕ). if count == 1 then record { index = index; row = row; column = column } ∷ []
    else flat_map (λ (below : ℕ). map (λ (beside : ℕ). record {
      index = index;
      row = row * v + below;
      column = column * h + beside;
    }) (range_with_len 0 h)) (range_with_len 0 v))
    (ap (λ (c : Factors). c.vertical) e) (ap (λ (c : Factors). c.horizontal) e)

places-at-same : (count row column index : ℕ) (xs ys : List Component) → map factors_of ys ≡ map factors_of xs
    → (k : ℕ)
    → places_at count row column index (slice_get ys k) ≡ places_at count row column index (slice_get xs k)
unfolding places_at
places-at-same count row column index [] [] e k = refl
places-at-same count row column index [] (y ∷ ys) e k = absurd cc
places-at-same count row column index (x ∷ xs) [] e k = absurd cc
places-at-same count row column index (x ∷ xs) (y ∷ ys) e zero =
    let first : factors_of y ≡ factors_of x = cc in
    part-same count row column index x y first
places-at-same count row column index (x ∷ xs) (y ∷ ys) e (suc k) =
    let rest : map factors_of ys ≡ map factors_of xs = cc in
    places-at-same count row column index xs ys rest k

pub kept-places-at : {f g : Frame} (count row column index : ℕ) → IsKept f g
    → places_at count row column index (slice_get g.components.items index)
    ≡ places_at count row column index (slice_get f.components.items index)
kept-places-at {f} {g} count row column index k =
    places-at-same count row column index f.components.items g.components.items (same-factors k.same) index

pub kept-places : {f g : Frame} (count : ℕ) (ms : List Member) (row column : ℕ) → IsKept f g
    → unit_places count g.components.items ms row column ≡ unit_places count f.components.items ms row column
unfolding unit_places
kept-places count [] row column k = refl
kept-places count (m ∷ ms) row column k =
    ap₂ (λ (x y : List Place). x ++ y) (kept-places-at count row column m.component k)
    (kept-places count ms row column k)

pub kept-row-places : {f g : Frame} (count : ℕ) (ms : List Member) (row columns : ℕ) → IsKept f g
    → row_places count g.components.items ms row columns ≡ row_places count f.components.items ms row columns
kept-row-places {f} {g} count ms row columns k =
    ap (λ (unit : ℕ → List Place). flat_map unit (range_with_len 0 columns))
    (λ i column. kept-places count ms row column k i)

-- ---- what their headers say

pub same-made : {f g : Frame} → IsSameFrame f g → IsMade f → IsMade g
same-made {f} {g} s made = record {
  legal = subst (λ (p : Process). IsFrameHeader (number_of p) (header_of g)) (sym s.process)
      (subst (λ (h : FrameHeader). IsFrameHeader (number_of f.process) h) (sym s.header) made.legal);
  wide = (let w = ap (λ (h : FrameHeader). h.width) s.header in let m = made.wide in rw w m);
  high = (let w = ap (λ (h : FrameHeader). h.height) s.header in let m = made.high in rw w m);
  across = s.across ∙ made.across
      ∙ ap (λ (h : FrameHeader). greatest (λ (c : Factors). c.horizontal) h.components) (sym s.header);
  down = s.down ∙ made.down
      ∙ ap (λ (h : FrameHeader). greatest (λ (c : Factors). c.vertical) h.components) (sym s.header);
}

pub same-written : {f g : Frame} → IsSameFrame f g → written_frame g ≡ written_frame f
same-written {f} {g} s =
    ap (λ (p : Process). frame_written (number_of p) (header_of g)) s.process
    ∙ ap (λ (h : FrameHeader). frame_written (number_of f.process) h) s.header

pub same-precision : {f g : Frame} → IsSameFrame f g → g.precision ≡ f.precision
same-precision s = ap (λ (h : FrameHeader). h.precision) s.header

pub plain-process : (p : Process) → number_of p ≤ 1 → is_progressive_process p ≡ false
plain-process Baseline h = refl
plain-process Extended h = refl
plain-process Progressive h = absurd (omega (arith, h))
plain-process Lossless h = refl

pub same-sequential : {f g : Frame} → IsSameFrame f g → IsSequential f → IsSequential g
same-sequential {f} {g} s h = (let e = ap number_of s.process in rw e h)
