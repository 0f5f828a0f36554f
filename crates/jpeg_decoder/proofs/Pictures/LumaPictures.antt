-- The luma of a picture of several components: the plane of the first one, where that is luma and as large as the
-- picture.
use Rattle.std.proofs.lemmas.Grind.{common_steps}
use Rattle.std.proofs.Common.{◌≡◌, ◌≢◌, ◌<◌, ◌≤◌, ◌*◌, ◌/◌, ◌∙◌, ℕ, Bool, true, false, List, [], ◌∷◌, ap, arith}
use Rattle.std.proofs.Common.{Err, Global, None, Ok, Result, Some, Vec, get_or, length, map, min, mul_assoc, mul_comm}
use Rattle.std.proofs.Common.{mul-div_cancel, refl, subst, sym, ◌&&◌}
use Rattle.std.specs.Prelude.{slice_get}
use Rattle.std.specs.List.{AllByRecursion}
use Rattle.std.proofs.lemmas.Bool.{eqb-true}
use Rattle.std.proofs.lemmas.List.{length-map}
use Rattle.std.proofs.lemmas.List.FromFn.{length-map-range_with_len}
use Rattle.jpeg_bits.specs.Reading.{Fault, Malformed, Names, NamesFormat}
use Rattle.jpeg_bits.specs.declared.color_transform.ColorTransform.{ColorTransform}
use Rattle.jpeg_bits.specs.declared.error.Error.{Error}
use Rattle.jpeg_segments.specs.Frame.{Component, Frame}
use Rattle.jpeg_segments.specs.FrameView.{component_in}
use Rattle.jpeg_segments.specs.declared.frame.CodingProcess.TheVariants.{Lossless}
use Rattle.jpeg_segments.specs.declared.frame.Component as declared
use Rattle.jpeg_pixels.specs.JointPlanes.{AreAlike, IsShapeOf, joint_plane, joint_planes, joint_row_size}
use Rattle.jpeg_pixels.specs.declared.joint_planes.JointShape.{JointShape}
use Rattle.jpeg_pixels.specs.Pictures.{AreWhole}
use Rattle.jpeg_pixels.specs.Scaled.{IsScale}
use Rattle.jpeg_meaning.specs.ColourChoice.{identifiers_of, transform_of}
use Rattle.jpeg_meaning.specs.Found.{Metadata}
use Rattle.jpeg_meaning.specs.FoundPictures.{is_as_large, is_luma, luma_picture, picture_by}
use Rattle.jpeg_meaning.specs.Sound.{IsDecodedFrame}
use Rattle.jpeg_meaning.specs.declared.settings.Settings.{Settings}
use Rattle.jpeg_meaning.proofs.Soundness.{count-few, decoded-count}
use Rattle.jpeg_decoder.specs.Bytes.{AreLinesOf, HaveBytes, shape_with}
use Rattle.jpeg_decoder.specs.Steps.{CoversPicture, FirstCovers, IsRefusal, Returns, cropped_to}
use Rattle.jpeg_decoder.proofs.Pictures.EndedPlanes.{decoded-scales}
use Rattle.jpeg_decoder.proofs.Pictures.PictureSizes.{covered-lines, whole-covers}
use Rattle.jpeg_decoder.proofs.Scans.SlotCodings.{format-refuses}
use Rattle.jpeg_decoder.proofs.Strips.JointDecided.{room-at}

-- ---- the first component

-- There is one.
pub decoded-some : (f : Frame) (items : List declared.Component) → f.components ≡ map component_in items
    → IsDecodedFrame f → 0 < length items
decoded-some f items is p =
    let few = count-few (length f.components) (decoded-count f p) in
    omega (arith, few, ap length is, length-map items component_in)

-- the components are it and others
record IsFirst (cs : List Component) (c : Component) : Type 0 where
  pub more : List Component
  pub is : cs ≡ c ∷ more

first-of : (items : List declared.Component) (d : declared.Component) → 0 < length items → d ≡ get_or items 0 d
    → IsFirst (map component_in items) (component_in d)
first-of [] d some e = absurd (omega arith)
first-of (x ∷ items) d some e =
    record { more = map component_in items; is = ap (λ y. component_in y ∷ map component_in items) (sym e) }

the-first : (f : Frame) (items : List declared.Component) (d : declared.Component) → IsDecodedFrame f
    → f.components ≡ map component_in items → d ≡ get_or items 0 d → IsFirst f.components (component_in d)
the-first f items d p is e = subst (λ (l : List Component). IsFirst l (component_in d)) (sym is)
    (first-of items d (decoded-some f items is p) e)

pub first-scale : (f : Frame) (items : List declared.Component) (d : declared.Component) → IsDecodedFrame f
    → f.components ≡ map component_in items → d ≡ get_or items 0 d → IsScale d.dct_scale
first-scale f items d p is e =
    let r = the-first f items d p is e in
    (subst (λ (l : List Component). AllByRecursion (λ c. IsScale c.scale) l) r.is (decoded-scales f p)).0

-- ---- what the luma of a picture is

-- It is refused where the first component isn't luma, or isn't as large.
lacks : (t : ColorTransform) (f : Frame) (c : Component) (more : List Component) (planes : List (List ℕ))
    → (is_luma t && is_as_large f c) ≡ false → luma_picture t f (c ∷ more) planes ≡ Err Malformed
lacks t f c more planes h = rw h refl

pub luma-lacks : (t : ColorTransform) (f : Frame) (items : List declared.Component) (d : declared.Component)
    (planes : List (List ℕ)) (e : Error) → IsDecodedFrame f → f.components ≡ map component_in items
    → d ≡ get_or items 0 d → (is_luma t && is_as_large f (component_in d)) ≡ false → NamesFormat e
    → IsRefusal e × Names e (luma_picture t f f.components planes)
luma-lacks t f items d planes e p is first h n =
    let r = the-first f items d p is first in
    format-refuses e _ n
    (ap (λ cs. luma_picture t f cs planes) r.is ∙ lacks t f (component_in d) r.more planes h)

-- Otherwise it is that of the first plane.
gives : (t : ColorTransform) (f : Frame) (c : Component) (more : List Component) (planes : List (List ℕ))
    (plane : List ℕ) → (is_luma t && is_as_large f c) ≡ true → slice_get planes 0 ≡ Some plane
    → luma_picture t f (c ∷ more) planes ≡ Ok (cropped_to c f.output_width f.output_height plane)
gives t f c more planes plane h e = rw (h, e) refl

pub luma-gives : (t : ColorTransform) (f : Frame) (items : List declared.Component) (d : declared.Component)
    (planes : List (List ℕ)) (plane picture : List ℕ) → IsDecodedFrame f → f.components ≡ map component_in items
    → d ≡ get_or items 0 d → (is_luma t && is_as_large f (component_in d)) ≡ true
    → slice_get planes 0 ≡ Some plane
    → picture ≡ cropped_to (component_in d) f.output_width f.output_height plane
    → luma_picture t f f.components planes ≡ Ok picture
luma-gives t f items d planes plane picture p is first h there made =
    let r = the-first f items d p is first in
    ap (λ cs. luma_picture t f cs planes) r.is
    ∙ (gives t f (component_in d) r.more planes plane h there ∙ ap (λ (x : List ℕ). Ok x) (sym made))

both : (a b : Bool) → (a && b) ≡ true → b ≡ true
both a b h = grind (arith, common_steps)

pub luma-shown : (t : ColorTransform) (f : Frame) (items : List declared.Component) (d : declared.Component)
    (plane : List ℕ) (lines : List (List ℕ)) → IsDecodedFrame f → (f.process ≡ Lossless → ⊥)
    → f.components ≡ map component_in items → d ≡ get_or items 0 d
    → (is_luma t && is_as_large f (component_in d)) ≡ true
    → FirstCovers f plane
    → length lines ≡ min f.output_height (length plane / ((component_in d).scale * (component_in d).blocks_wide))
    → HaveBytes (min f.output_width ((component_in d).scale * (component_in d).blocks_wide)) lines
    → AreLinesOf (Some (shape_with 1 f)) lines
luma-shown t f items d plane lines p dct is first h covers rows columns =
    let r = the-first f items d p is first in
    let at : slice_get f.components 0 ≡ Some (component_in d) = ap (λ cs. slice_get cs 0) r.is in
    covered-lines f (component_in d) plane lines p dct
    (covers (component_in d) at (both (is_luma t) (is_as_large f (component_in d)) h)) rows columns

-- ---- the picture of several components

-- It is their luma where that is asked for.
luma-by : (settings : Settings) (m : Metadata) (f : Frame) (cs : List Component) (planes : List (List ℕ))
    → settings.luma ≡ true → length cs ≢ 1
    → picture_by settings m f cs planes
    ≡ luma_picture (transform_of settings.color_transform (identifiers_of cs) m.jfif m.adobe) f cs planes
unfolding picture_by
luma-by settings m f [] planes luma other = rw luma refl
luma-by settings m f (c ∷ []) planes luma other = absurd (other refl)
luma-by settings m f (c ∷ d ∷ more) planes luma other = rw luma refl

pub luma-given : {R : Type 0} (view : R → List ℕ) (settings : Settings) (m : Metadata) (f : Frame)
    (planes : List (List ℕ)) (t : ColorTransform) (r : Result R Error) → settings.luma ≡ true
    → length f.components ≢ 1
    → t ≡ transform_of settings.color_transform (identifiers_of f.components) m.jfif m.adobe
    → Returns (luma_picture t f f.components planes) view r
    → Returns (picture_by settings m f f.components planes) view r
luma-given {R = R} view settings m f planes t r luma other same h =
    let is : luma_picture t f f.components planes ≡ picture_by settings m f f.components planes =
    ap (λ (u : ColorTransform). luma_picture u f f.components planes) same
    ∙ sym (luma-by settings m f f.components planes luma other) in
    subst (λ (o : Result (List ℕ) Fault). Returns o view r) is h

-- ---- planes of their own

pub planes-some : (f : Frame) (planes : List (Vec ℕ Global)) → IsDecodedFrame f
    → length planes ≡ length f.components → 0 < length planes
planes-some f planes p count = omega (arith, count, count-few (length f.components) (decoded-count f p))

pub first-plane : (planes : List (Vec ℕ Global)) (plane : Vec ℕ Global) → 0 < length planes
    → plane ≡ get_or planes 0 plane → slice_get (map (λ v. v.items) planes) 0 ≡ Some plane.items
first-plane [] plane some e = absurd (omega arith)
first-plane (v ∷ planes) plane some e = ap (λ (x : Vec ℕ Global). Some x.items) (sym e)

large : (f : Frame) (c : Component) → is_as_large f c ≡ true
    → (f.output_width ≤ c.width) × (f.output_height ≤ c.height)
large f c h = grind (arith, common_steps, eqb-true)

-- The first of them covers a picture that is as large as its component.
covers-of : (f : Frame) (cs : List Component) (planes : List (List ℕ)) (plane : List ℕ) → IsDecodedFrame f
    → f.components ≡ cs → AreWhole cs planes → slice_get planes 0 ≡ Some plane → (c : Component)
    → slice_get cs 0 ≡ Some c → is_as_large f c ≡ true → CoversPicture f c plane
unfolding AreWhole
covers-of f [] planes plane p is whole there c at h = absurd (let n : ⊥ = cc in n)
covers-of f (k ∷ more) [] plane p is whole there c at h = absurd whole
covers-of f (k ∷ more) (v ∷ planes) plane p is whole there c at h =
    let same : k ≡ c = cc in
    let here : v ≡ plane = cc in
    let long : length plane ≡ (c.blocks_high * c.scale) * (c.blocks_wide * c.scale) = rw (← same, ← here) whole.0 in
    let size = large f c h in
    whole-covers f c more plane p (is ∙ ap (λ x. x ∷ more) same) size.0 size.1 long

pub plane-covers : (f : Frame) (planes : List (Vec ℕ Global)) (plane : Vec ℕ Global) → IsDecodedFrame f
    → AreWhole f.components (map (λ v. v.items) planes) → 0 < length planes → plane ≡ get_or planes 0 plane
    → FirstCovers f plane.items
plane-covers f planes plane p whole some first c at h =
    covers-of f f.components (map (λ v. v.items) planes) plane.items p refl whole (first-plane planes plane some first)
    c at h

-- ---- planes in one room

head-at : (xs : List (List ℕ)) → slice_get xs 0 ≡ get_or (map Some xs) 0 None
head-at [] = refl
head-at (x ∷ xs) = refl

pub joint-first : (shape : JointShape) (samples : List ℕ) → 0 < shape.count
    → slice_get (joint_planes shape samples) 0 ≡ Some (joint_plane shape samples 0)
joint-first shape samples some = head-at (joint_planes shape samples) ∙ room-at shape samples 0 some

joint-long : (shape : JointShape) (samples : List ℕ) → 0 < shape.count
    → length samples ≡ shape.rows * joint_row_size shape
    → length (joint_plane shape samples 0) ≡ shape.rows * shape.lines * shape.stride
unfolding joint_plane
joint-long shape samples some full =
    let each = shape.rows * shape.lines * shape.stride in
    let all : length samples ≡ each * shape.count =
    full ∙ grind (arith, common_steps, mul_assoc, mul_comm) in
    length-map-range_with_len _ 0 (length samples / shape.count)
    ∙ (ap (λ n. n / shape.count) all ∙ mul-div_cancel each some)

strides-first : (cs : List Component) (stride : ℕ) (c : Component) → AreAlike cs stride → slice_get cs 0 ≡ Some c
    → c.blocks_wide * c.scale ≡ stride
strides-first [] stride c alike at = absurd (let n : ⊥ = cc in n)
strides-first (k ∷ more) stride c alike at =
    let same : k ≡ c = cc in
    rw (← same) alike.strides.0

pub joint-covers : (f : Frame) (shape : JointShape) (samples plane : List ℕ)
    → IsShapeOf f.components f.output_width f.output_height shape
    → length samples ≡ shape.rows * joint_row_size shape → plane ≡ joint_plane shape samples 0
    → FirstCovers f plane
joint-covers f shape samples plane of full is c at h =
    let some : 0 < shape.count = omega (arith, of.some) in
    let stride : c.scale * c.blocks_wide ≡ shape.stride =
    mul_comm c.scale c.blocks_wide ∙ strides-first f.components shape.stride c of.alike at in
    record {
      high = shape.rows * shape.lines;
      whole = ap length is ∙ (joint-long shape samples some full
          ∙ ap (λ n. shape.rows * shape.lines * n) (sym stride));
      wide = rw stride of.wide;
      lines = of.high;
    }
