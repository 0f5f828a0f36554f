-- Steps of the loops over boxes.
use Rattle.std.proofs.Common.{◌≡◌, ◌∙◌, ℕ, zero, suc, ◌+◌, ◌-◌, ◌*◌, ◌/◌, ◌<◌, ◌≤◌, List, ◌++◌, refl, ap, arith}
use Rattle.std.proofs.Common.{append-nil, append_assoc, subst, sym, add-mul, mul_assoc, length, get_or, set, below_more, ◌≢◌, ◌%◌, ◌^◌}
use Rattle.std.proofs.Common.{get_or-set_other, get_or-set_same}
use Rattle.std.proofs.Math.Nat.{mul-le-mul_right}
use native.Mathlib.Nat.{zero-div}
use Rattle.std.proofs.lemmas.Nat.{div_below, le-div}
use Rattle.zaxbriar_samples.specs.Boxes.{area_of, box_line_sum, box_pixel, component_bytes, edge, lines_in, mean_in}
use Rattle.zaxbriar_samples.specs.Boxes.{sample_of, sum_over, texts_below}
use Rattle.zaxbriar_samples.specs.BoxSums.{AreSums, column_sum, sample_below, sum_at}
use Rattle.zaxbriar_samples.specs.Samples.{sample_in}
use Rattle.zaxbriar_samples.specs.declared.boxes.Area.{Area}
use Rattle.zaxbriar_samples.specs.declared.boxes.Reduction.{Reduction}

pub sum-none : (f : ℕ → ℕ) → sum_over 0 f ≡ 0
unfolding sum_over
sum-none f = refl

pub sum-more : (count : ℕ) (f : ℕ → ℕ) → sum_over (count + 1) f ≡ sum_over count f + f count
unfolding sum_over
sum-more count f =
    let next : count + 1 ≡ suc count = omega arith in
    rw next refl

pub joined-none : (before : List ℕ) (f : ℕ → List ℕ) → before ≡ before ++ texts_below 0 f
unfolding texts_below
joined-none before f = sym (append-nil before)

pub joined-more : (count : ℕ) (f : ℕ → List ℕ) (before bytes after : List ℕ)
    → bytes ≡ before ++ texts_below count f → after ≡ bytes ++ f count → after ≡ before ++
    texts_below (count + 1) f
unfolding texts_below
joined-more count f before bytes after known more =
    let next : count + 1 ≡ suc count = omega arith in
    rw (next, more, known) (append_assoc before (texts_below count f) (f count))

-- ---- the edges of boxes

pub edge-first : (side boxes : ℕ) → edge 0 side boxes ≡ 0
edge-first side boxes =
    let none : 0 * side ≡ 0 = omega arith in
    ap (λ (n : ℕ). n / boxes) none ∙ zero-div boxes

pub edge-most : (index side boxes : ℕ) → 1 ≤ boxes → index ≤ boxes → edge index side boxes ≤ side
edge-most index side boxes some inside =
    let few : index * side ≤ boxes * side = mul-le-mul_right side inside in
    let more : (side + 1) * boxes ≡ boxes * side + boxes = omega (arith, add-mul side 1 boxes) in
    let below : index * side < (side + 1) * boxes = omega arith in
    let at : edge index side boxes < side + 1 = div_below (index * side) boxes (side + 1) some below in
    omega arith

-- each box has a line where there are no more boxes than lines
pub edge-next : (index side boxes : ℕ) → 1 ≤ boxes → boxes ≤ side
    → edge index side boxes < edge (index + 1) side boxes
edge-next index side boxes some fewer =
    let q : ℕ = index * side / boxes in
    let low : q * boxes ≤ index * side = omega arith in
    let room : (q + 1) * boxes ≤ (index + 1) * side
    = omega (arith, add-mul q 1 boxes, add-mul index 1 side) in
    let at : q + 1 ≤ (index + 1) * side / boxes = le-div (q + 1) ((index + 1) * side) boxes some room in
    omega arith

-- ---- places in the sums of a line

pub place-below : (left width across components component count : ℕ) → across < width → component < components
    → (left + width) * components ≤ count → (left + across) * components + component < count
place-below left width across components component count ha hc room =
    let next : left + across + 1 ≤ left + width = omega arith in
    let a : (left + across + 1) * components ≤ (left + width) * components
    = mul-le-mul_right components next in
    omega (arith, a, add-mul (left + across) 1 components)

pub part-inside : (left width whole components count : ℕ) → left + width ≤ whole → count ≡ whole * components
    → (left + width) * components ≤ count
part-inside left width whole components count h e =
    let a : (left + width) * components ≤ whole * components = mul-le-mul_right components h in
    omega arith

-- ---- a box by the sums of its columns

sum-same : (count : ℕ) (f g : ℕ → ℕ) → ((i : ℕ) → i < count → f i ≡ g i) → sum_over count f ≡ sum_over count g
unfolding sum_over
sum-same zero f g h = refl
sum-same (suc count) f g h =
    ap (λ (n : ℕ). n + f count) (sum-same count f g (λ i low. h i (omega arith)))
    ∙ ap (λ (n : ℕ). sum_over count g + n) (h count (omega arith))

sum-zeros : (count : ℕ) (f : ℕ → ℕ) → ((i : ℕ) → f i ≡ 0) → sum_over count f ≡ 0
unfolding sum_over
sum-zeros zero f h = refl
sum-zeros (suc count) f h = omega (arith, sum-zeros count f h, h count)

sum-added : (count : ℕ) (f g h : ℕ → ℕ) → ((i : ℕ) → h i ≡ f i + g i)
    → sum_over count h ≡ sum_over count f + sum_over count g
unfolding sum_over
sum-added zero f g h e = omega arith
sum-added (suc count) f g h e = omega (arith, sum-added count f g h e, e count)

-- sums of lines are sums of columns
sum-turned : (lines columns : ℕ) (f : ℕ → ℕ → ℕ)
    → sum_over lines (λ d. sum_over columns (f d)) ≡ sum_over columns (λ a. sum_over lines (λ d. f d a))
unfolding sum_over
sum-turned zero columns f = sym (sum-zeros columns (λ a. sum_over zero (λ d. f d a)) (λ i. refl))
sum-turned (suc lines) columns f =
    ap (λ (n : ℕ). n + sum_over columns (f lines)) (sum-turned lines columns f)
    ∙ sym (sum-added columns (λ a. sum_over lines (λ d. f d a)) (f lines)
    (λ a. sum_over (suc lines) (λ d. f d a)) (λ i. refl))

index-same : (line width components left component : ℕ)
    → line * (width * components) + (left * components + component) ≡ (line * width + left) * components + component
index-same line width components left component =
    omega (arith, add-mul (line * width) left components, mul_assoc line width components)

below-is : (pixels : List ℕ) (r : Reduction) (area : Area) (component across down : ℕ)
    → sample_below pixels r area.top ((area.left + across) * r.components + component) down
    ≡ sample_of pixels r area component down across
unfolding sample_below sample_of
below-is pixels r area component across down =
    ap (sample_in r.precision pixels) (index-same (area.top + down) r.width r.components (area.left + across) component)

column-is : (pixels : List ℕ) (r : Reduction) (area : Area) (component across : ℕ)
    → column_sum pixels r area.top area.height ((area.left + across) * r.components + component)
    ≡ sum_over area.height (λ down. sample_of pixels r area component down across)
unfolding column_sum
column-is pixels r area component across =
    sum-same area.height (sample_below pixels r area.top ((area.left + across) * r.components + component))
    (λ down. sample_of pixels r area component down across)
    (λ down low. below-is pixels r area component across down)

lines-are : (pixels : List ℕ) (r : Reduction) (area : Area) (component : ℕ)
    → sum_over area.height (λ down. sum_over area.width (sample_of pixels r area component down))
    ≡ sum_over area.height (box_line_sum pixels r area component)
unfolding box_line_sum
lines-are pixels r area component = refl

pub box-sum : (pixels sums : List ℕ) (r : Reduction) (area : Area) (component : ℕ)
    → AreSums pixels r area.top area.height sums → (area.left + area.width) * r.components ≤ length sums
    → component < r.components
    → sum_over area.width (sum_at sums area.left r.components component)
    ≡ sum_over area.height (box_line_sum pixels r area component)
box-sum pixels sums r area component are room low =
    sum-same area.width (sum_at sums area.left r.components component)
    (λ across. sum_over area.height (λ down. sample_of pixels r area component down across))
    (λ across inside. are ((area.left + across) * r.components + component)
    (place-below area.left area.width across r.components component (length sums) inside low room)
    ∙ column-is pixels r area component across)
    ∙ sym (sum-turned area.height area.width (λ down across. sample_of pixels r area component down across))
    ∙ lines-are pixels r area component

pub mean-is : (pixels sums : List ℕ) (r : Reduction) (area : Area) (component sum : ℕ)
    → AreSums pixels r area.top area.height sums → area.left + area.width ≤ r.width
    → length sums ≡ r.width * r.components → component < r.components
    → sum ≡ sum_over area.width (sum_at sums area.left r.components component)
    → (sum + area.width * area.height / 2) / (area.width * area.height) ≡ mean_in pixels r area component
unfolding mean_in
mean-is pixels sums r area component sum are inside sized low is =
    let room = part-inside area.left area.width r.width r.components (length sums) inside sized in
    ap (λ (n : ℕ). (n + area.width * area.height / 2) / (area.width * area.height))
    (is ∙ box-sum pixels sums r area component are room low)

-- ---- a line is added to sums

-- The first of the sums have got the values of a function, and the others are as they were.
pub record AreAdded (f : ℕ → ℕ) (old now : List ℕ) (count : ℕ) : Type 0 where
  pub below : (i : ℕ) → i < count → get_or now i 0 ≡ (get_or old i 0 + f i) % 2 ^ 32
  pub above : (i : ℕ) → count ≤ i → get_or now i 0 ≡ get_or old i 0

pub added-none : (f : ℕ → ℕ) (old : List ℕ) → AreAdded f old old 0
added-none f old = record { below = λ i h. absurd (let n : ⊥ = omega arith in n); above = λ i h. refl }

pub added-more : (f : ℕ → ℕ) (old now : List ℕ) (count value : ℕ) → AreAdded f old now count → count < length now
    → value ≡ (get_or now count 0 + f count) % 2 ^ 32 → AreAdded f old (set now count value) (count + 1)
added-more f old now count value h room is = record {
  below = below_more _ count
      (λ i low. let ne : i ≢ count = omega arith in get_or-set_other now count i value 0 ne ∙ h.below i low)
      (get_or-set_same now count value 0 room ∙ is
      ∙ ap (λ (n : ℕ). (n + f count) % 2 ^ 32) (h.above count (omega arith)));
  above = λ i past. let ne : i ≢ count = omega arith in
      get_or-set_other now count i value 0 ne ∙ h.above i (omega arith);
}

-- ---- a box by its edges

abbrev box_at : ℕ → ℕ → ℕ → ℕ → Area
box_at left top width height = record { left = left; top = top; width = width; height = height }

area-is : (r : Reduction) (x y left top width height : ℕ) → left ≡ edge x r.width r.to_width
    → top ≡ edge y r.height r.to_height → width ≡ edge (x + 1) r.width r.to_width - edge x r.width r.to_width
    → height ≡ lines_in r y → box_at left top width height ≡ area_of r x y
area-is r x y left top width height l t w h =
    ap (λ (n : ℕ). box_at n top width height) l
    ∙ ap (λ (n : ℕ). box_at (edge x r.width r.to_width) n width height) t
    ∙ ap (λ (n : ℕ). box_at (edge x r.width r.to_width) (edge y r.height r.to_height) n height) w
    ∙ ap (box_at (edge x r.width r.to_width) (edge y r.height r.to_height)
    (edge (x + 1) r.width r.to_width - edge x r.width r.to_width)) h

-- a pixel more
pub pixel-joined : (pixels before bytes after : List ℕ) (r : Reduction) (x y left top width height : ℕ)
    → left ≡ edge x r.width r.to_width → top ≡ edge y r.height r.to_height
    → width ≡ edge (x + 1) r.width r.to_width - left → height ≡ lines_in r y
    → bytes ≡ before ++ texts_below x (box_pixel pixels r y)
    → after ≡ bytes ++ texts_below r.components (component_bytes pixels r (box_at left top width height))
    → after ≡ before ++ texts_below (x + 1) (box_pixel pixels r y)
unfolding box_pixel
pixel-joined pixels before bytes after r x y left top width height l t w h known more =
    joined-more x (box_pixel pixels r y) before bytes after known
    (more ∙ ap (λ (a : Area). bytes ++ texts_below r.components (component_bytes pixels r a))
    (area-is r x y left top width height l t
    (w ∙ ap (λ (n : ℕ). edge (x + 1) r.width r.to_width - n) l) h))

pub are-there : (pixels : List ℕ) (r : Reduction) (top lines here there : ℕ) (sums : List ℕ) → here ≡ top → there ≡ lines
    → AreSums pixels r top lines sums → AreSums pixels r here there sums
are-there pixels r top lines here there sums t l are =
    subst (λ (n : ℕ). AreSums pixels r n there sums) (sym t)
    (subst (λ (n : ℕ). AreSums pixels r top n sums) (sym l) are)
