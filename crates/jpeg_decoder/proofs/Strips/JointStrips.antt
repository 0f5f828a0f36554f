-- Planes in one room, as it grows by a row of MCUs: each plane has its strip.
use Rattle.std.proofs.Common.{rules, ◌≡◌, ℕ, zero, suc, ◌+◌, ◌-◌, ◌*◌, ◌/◌, ◌%◌, ◌<◌, ◌≤◌, List, [], ◌∷◌}
use Rattle.std.proofs.Common.{◌++◌, length, map, take, get_or, arith, refl, subst, sym, ap, ap₂, ◌∙◌}
use Rattle.std.proofs.Common.{length-append, mul_assoc, mul_comm, add-mul}
use Rattle.std.proofs.Math.Logic.{⊎_elim}
use Rattle.std.proofs.Math.Nat.{add-div_right, mul-div_cancel, zero-div}
use Rattle.std.proofs.lemmas.Bool.{cases_lt}
use Rattle.std.proofs.lemmas.List.{ext_get_or, get_or_append_left, get_or-append_right}
use Rattle.std.proofs.lemmas.List.{get_or-append-add, get_or-map, get_or-take}
use Rattle.std.proofs.lemmas.List.FromFn.{get_or-map-range_with_len, length-map-range_with_len}
use Rattle.std.proofs.lemmas.Nat.{div-mul-add, div_below, mod_below, mod-mul-add, mul-add-lt}
use Rattle.std.proofs.lemmas.Grind.{common_steps}
use Rattle.std.specs.Prelude.{slice_index}
use Rattle.std.specs.List.{AllByRecursion, concat, range_with_len}
use Rattle.std.specs.declared.alloc.Global.{Global}
use Rattle.std.specs.declared.vec.Vec.{Vec}
use Rattle.jpeg_segments.specs.Frame.{Component, Frame}
use Rattle.jpeg_pixels.specs.JointPlanes.{IsShapeOf, joint_plane, joint_planes, joint_row_size}
use Rattle.jpeg_pixels.specs.JointPlanes.{strip_size}
use Rattle.jpeg_pixels.specs.declared.joint_planes.JointPlanes.{JointPlanes}
use Rattle.jpeg_pixels.specs.declared.joint_planes.JointShape.{JointShape}
use Rattle.jpeg_lossless.specs.Positions.{AreEven}
use Rattle.jpeg_meaning.specs.InTurn.{Fits}
use Rattle.jpeg_meaning.specs.Scans.{Arrays}
use Rattle.jpeg_meaning.specs.ScanSegments.{Coding, components_of}
use Rattle.jpeg_meaning.proofs.Order.Apart.{at-all, get-at}
use Rattle.jpeg_decoder.specs.GrowingView.{IsJointOf, IsOfShape}
use Rattle.jpeg_decoder.specs.PlanesView.{IsFullJoint}
use Rattle.jpeg_decoder.specs.Steps.{IsCodingOf}
use Rattle.jpeg_decoder.specs.Strips.{no_samples, strips_of, with_strips}
use Rattle.jpeg_decoder.proofs.ReadLists.{at-flat, even-at, flat-length}
use Rattle.jpeg_decoder.proofs.Strips.StripRows.{strips-at, strips-length, strips_of-length}
use Rattle.jpeg_decoder.proofs.Strips.StripSteps.{length-samples}

-- ---- numbers of samples

turned : (k c s : ℕ) → k * (c * s) ≡ k * s * c
turned k c s = grind (arith, common_steps, mul_comm, mul_assoc)

-- of k rows of c strips, those of one component
one-of : (k c s n : ℕ) → 1 ≤ c → n ≡ k * (c * s) → n / c ≡ k * s
one-of k c s n h e = grind (arith, common_steps, turned, mul-div_cancel)

next-row : (k r n : ℕ) → n ≡ k * r → n + r ≡ (k + 1) * r
next-row k r n e = grind (arith, common_steps, add-mul)

-- whole rows, and one row more
whole-rows : (n r : ℕ) → n ≡ n / r * r → n + r ≡ (n + r) / r * r
whole-rows n zero e = omega arith
whole-rows n (suc r) e = grind (arith, common_steps, next-row, add-div_right)

-- ---- a plane

-- the index of a sample of a plane in the room
abbrev index_of : JointShape → ℕ → ℕ → ℕ
index_of shape slot i =
    i / strip_size shape * joint_row_size shape + (slot * strip_size shape + i % strip_size shape)

module _ (shape : JointShape) (samples : List ℕ) where
  plane-long : (slot : ℕ) → length (joint_plane shape samples slot) ≡ length samples / shape.count
  unfolding joint_plane
  plane-long slot = length-map-range_with_len _ 0 (length samples / shape.count)

  plane-at : (slot i : ℕ) → i < length samples / shape.count
      → get_or (joint_plane shape samples slot) i 0 ≡ slice_index samples (index_of shape slot i)
  unfolding joint_plane
  plane-at slot i h = grind (arith, common_steps, get_or-map-range_with_len)

  pub planes-long : length (joint_planes shape samples) ≡ shape.count
  unfolding joint_planes
  planes-long = length-map-range_with_len (joint_plane shape samples) 0 shape.count

  planes-at : (slot : ℕ) → slot < shape.count
      → get_or (joint_planes shape samples) slot [] ≡ joint_plane shape samples slot
  unfolding joint_planes
  planes-at slot h = grind (arith, common_steps, get_or-map-range_with_len)

-- planes without samples
none-from : (shape : JointShape) (from : ℕ) (codings : List Coding)
    → map (joint_plane shape []) (range_with_len from (length codings)) ≡ no_samples codings
unfolding joint_plane
none-from shape from [] = refl
none-from shape from (c ∷ codings) = search (rules, zero-div, none-from shape (from + 1) codings)

none-joint : (shape : JointShape) (codings : List Coding) → shape.count ≡ length codings
    → joint_planes shape [] ≡ no_samples codings
unfolding joint_planes
none-joint shape codings e = grind (arith, common_steps, none-from)

-- A plane, and after it its strip of these, which come after k rows.
module _ (shape : JointShape) (samples : List ℕ) (strips : List (List ℕ)) (k slot : ℕ)
    (whole : length samples ≡ k * joint_row_size shape) (even : AreEven (strip_size shape) strips)
    (count : length strips ≡ shape.count) (h : slot < shape.count) where
  abbrev size : ℕ
  size = strip_size shape

  abbrev grown : List ℕ
  grown = samples ++ concat strips

  before-long : length samples / shape.count ≡ k * size
  before-long = one-of k shape.count size (length samples) (omega arith) whole

  grown-long : length grown / shape.count ≡ k * size + size
  grown-long =
      one-of (k + 1) shape.count size (length grown) (omega arith)
      (grind (arith, common_steps, length-append, flat-length, next-row))
      ∙ sym (next-row k size (k * size) refl)

  some-size : (s i : ℕ) → i < k * s + s → 0 < s
  some-size s i l = grind (arith, common_steps)

  -- before the strip stands what stood there
  kept-at : (i : ℕ) → i < k * size
      → slice_index grown (index_of shape slot i) ≡ slice_index samples (index_of shape slot i)
  kept-at i lt =
      let some : 0 < size = some-size size i (omega arith) in
      let column = mul-add-lt slot size (i % size) shape.count h (mod_below i size some) in
      let below = mul-add-lt (i / size) (joint_row_size shape) (slot * size + i % size) k
      (div_below i size k some lt) (omega (arith, column, mul_comm shape.count size)) in
      search (rules, get_or_append_left)

  strip-at : (j : ℕ) → j < size
      → slice_index grown (index_of shape slot (k * size + j)) ≡ get_or (get_or strips slot []) j 0
  strip-at j lt = search (rules, div-mul-add, mod-mul-add, get_or-append-add, at-flat, even)

  plane-grown : joint_plane shape grown slot
      ≡ joint_plane shape samples slot ++ get_or strips slot []
  plane-grown =
      let front = joint_plane shape samples slot in
      let strip = get_or strips slot [] in
      let front-long : length front ≡ k * size = plane-long shape samples slot ∙ before-long in
      ext_get_or 0 (joint_plane shape grown slot) (front ++ strip)
      (plane-long shape grown slot ∙ grown-long ∙ sym (length-append front strip
      ∙ ap₂ (λ (a b : ℕ). a + b) front-long (even-at size strips slot even (omega arith))))
      (λ i lt.
      let within : i < k * size + size =
      omega (arith, lt, plane-long shape grown slot, grown-long) in
      plane-at shape grown slot i (omega (arith, within, grown-long))
      ∙ ⊎_elim
      (λ (early : i < k * size).
      kept-at i early
      ∙ sym (get_or_append_left front strip 0 i (omega (arith, early, front-long))
      ∙ plane-at shape samples slot i (omega (arith, early, before-long))))
      (λ (late : k * size ≤ i).
      let is : i ≡ k * size + (i - k * size) = omega arith in
      ap (λ (n : ℕ). slice_index grown (index_of shape slot n)) is
      ∙ strip-at (i - k * size) (omega arith)
      ∙ sym (get_or-append_right front strip (k * size) i 0 front-long late))
      (cases_lt i (k * size)))

-- ---- the planes of a scan's components

-- a strip has the samples of its component's blocks in a row of MCUs
strips-even : (shape : JointShape) (codings : List Coding) (arrays : Arrays)
    → AllByRecursion (IsOfShape shape) codings
    → AreEven (strip_size shape) (strips_of codings arrays)
unfolding strips_of AreEven
strips-even shape (c ∷ codings) (blocks ∷ arrays) h =
    (grind (arith, common_steps, length-samples, mul_comm), strips-even shape codings arrays h.1)
strips-even shape _ _ h = tt

-- the components of a scan have strips of the shape of those of its frame
shaped : (frame : Frame) (shape : JointShape) (cs : List Coding) → shape.rows ≡ frame.mcus_high
    → AllByRecursion (λ c. c.factors.vertical * c.scale ≡ shape.lines) frame.components
    → AllByRecursion (λ c. c.blocks_wide * c.scale ≡ shape.stride) frame.components
    → AllByRecursion (Fits frame) (components_of cs) → AllByRecursion (IsCodingOf frame)
    cs → AllByRecursion (IsOfShape shape) cs
shaped frame shape [] rows lines strides fits of = tt
shaped frame shape (c ∷ cs) rows lines strides fits of =
    let k = c.component in
    let at = get-at c.index frame.components k of.0 in
    search (rules, at-all, shaped frame shape cs rows lines strides fits.1 of.1)

-- before the first row
module _ (frame : Frame) (cs : List Coding) (seen : List Component) (joint : JointPlanes)
    (shape : JointShape) (width height : ℕ) (shape-is : joint.shape ≡ shape)
    (none : joint.samples.items ≡ []) (seen-is : seen ≡ frame.components)
    (is : IsShapeOf seen width height shape) (count : length cs ≡ length seen) where
  same : shape.count ≡ length cs
  same = is.count ∙ sym count

  pub none-started : joint_planes joint.shape joint.samples.items ≡ no_samples cs
  none-started = grind (arith, common_steps, none-joint, same)

  pub joint-started : shape.rows ≡ frame.mcus_high
      → AllByRecursion (λ c. c.factors.vertical * c.scale ≡ shape.lines) seen
      → AllByRecursion (Fits frame) (components_of cs) → AllByRecursion (IsCodingOf frame)
      cs → IsJointOf cs joint
  joint-started rows lines fits of =
      let each = shaped frame shape cs rows (subst (AllByRecursion (λ c. c.factors.vertical * c.scale ≡ shape.lines))
      seen-is lines) (subst (AllByRecursion (λ c. c.blocks_wide * c.scale ≡ shape.stride)) seen-is is.alike.strides) fits of in
      grind (arith, common_steps, zero-div, same, each)

pub some-planes : (codings : List Coding) (joint : JointPlanes) → IsJointOf codings joint
    → 0 < length (joint_planes joint.shape joint.samples.items)
some-planes codings joint is =
    let some = is.some in
    omega (arith, some, planes-long joint.shape joint.samples.items)

-- after one row more
module _ (codings : List Coding) (arrays : Arrays) (joint : JointPlanes)
    (is : IsJointOf codings joint) (kept : length arrays ≡ length codings) where
  abbrev strips : List (List ℕ)
  strips = strips_of codings arrays

  even : AreEven (strip_size joint.shape) strips
  even = strips-even joint.shape codings arrays is.each

  strips-count : length strips ≡ joint.shape.count
  strips-count = strips_of-length codings arrays kept ∙ sym is.count

  pub room-grown : (new : List ℕ) → new ≡ joint.samples.items ++ concat strips
      → joint_planes joint.shape new
      ≡ with_strips codings arrays (joint_planes joint.shape joint.samples.items)
  room-grown new e =
      let shape = joint.shape in
      let samples = joint.samples.items in
      let old-long = planes-long shape samples ∙ is.count in
      ext_get_or [] (joint_planes shape new) (with_strips codings arrays (joint_planes shape samples))
      (planes-long shape new ∙ sym (strips-length codings arrays (joint_planes shape samples) kept (omega (arith, old-long))
      ∙ planes-long shape samples))
      (λ slot lt.
      let grown = plane-grown shape samples strips (length samples / joint_row_size shape) slot is.whole even strips-count in
      grind (arith, common_steps, planes-long, planes-at, strips-at, grown))

  pub room-kept : (new : Vec ℕ Global) → new.items ≡ joint.samples.items ++ concat strips
      → IsJointOf codings (record joint { samples = new })
  room-kept new e = search (rules, length-append, flat-length, even, strips-count, whole-rows)

-- after all rows
pub room-full : (cs : List Coding) (joint : JointPlanes) → IsJointOf cs joint
    → (let planes = joint_planes joint.shape joint.samples.items in map length planes
    ≡ take (length planes) (map (λ (c : Component). c.blocks_high * c.scale * (c.blocks_wide * c.scale))
    (components_of cs))) → IsFullJoint joint
room-full [] joint is sizes = absurd (let some = is.some in omega (arith, some, is.count))
room-full (c ∷ cs) joint is sizes =
    let shape = joint.shape in
    let samples = joint.samples.items in
    let planes = joint_planes shape samples in
    let some : 0 < length planes = omega (arith, planes-long shape samples, is.some) in
    let one : length samples / shape.count ≡ shape.rows * strip_size shape =
    sym (get_or-map length (joint_planes shape samples) 0 [] 0
    (omega (arith, planes-long shape samples, is.some))
    ∙ grind (arith, common_steps, plane-long, planes-at))
    ∙ ap (λ (l : List ℕ). get_or l 0 0) sizes
    ∙ get_or-take (length planes) _ 0 0 some
    ∙ grind (arith, common_steps, mul_assoc) in
    let rows = length samples / joint_row_size shape in
    let whole = one-of rows shape.count (strip_size shape) (length samples) is.some is.whole in
    grind (arith, common_steps, turned)

pub ruleset full_rules = (common_steps, room-full)
