-- The picture of a frame's planes: of one component, and of several.
use Rattle.std.proofs.Common.{◌≡◌, ◌≢◌, ◌<◌, ◌≤◌, ℕ, List, [], ◌∷◌, ◌++◌, ◌∙◌, rules, ap, subst, length, get_or}
use Rattle.std.proofs.Common.{map, arith, false, Option, Some, Result, Ok, Err, Vec, Global, ◌*◌, ◌/◌, min, refl, sym}
use Rattle.std.specs.Option.{option_to_list}
use Rattle.std.specs.Prelude.{MatchResult}
use Rattle.std.specs.List.{AllByRecursion}
use Rattle.std.proofs.lemmas.List.{length-append, length-map}
use Rattle.jpeg_bits.specs.Reading.{Fault, End, Names, ◌>>=◌}
use Rattle.jpeg_bits.specs.declared.color_transform.ColorTransform.{ColorTransform}
use Rattle.jpeg_bits.specs.declared.error.Error.{Error}
use Rattle.jpeg_segments.specs.Frame.{Frame, Component, AllHaveSampling}
use Rattle.jpeg_segments.specs.FrameView.{component_in}
use Rattle.jpeg_segments.specs.declared.frame.CodingProcess.TheVariants.{Lossless}
use Rattle.jpeg_segments.specs.declared.frame.Component as declared
use Rattle.jpeg_pixels.specs.Scaled.{IsScale}
use Rattle.jpeg_segments.proofs.ScaleLemmas.{sized_frames_have_factors}
use Rattle.jpeg_pixels.specs.declared.color_convert.ColorConvert.{ColorConvert}
use Rattle.jpeg_pixels.specs.Colour.{conversion_of}
use Rattle.jpeg_pixels.specs.Pictures.{Source, AllCover, AreWhole, image_of, converted_picture}
use Rattle.jpeg_pixels.specs.Pictures.{sources_of}
use Rattle.jpeg_meaning.specs.ColourChoice.{identifiers_of, transform_of}
use Rattle.jpeg_meaning.specs.Sound.{IsDecodedFrame}
use Rattle.jpeg_decoder.specs.Bytes.{AreLinesOf, HaveBytes, shape_of}
use Rattle.jpeg_decoder.specs.Steps.{IsRefusal, cropped_to}
use Rattle.jpeg_meaning.specs.FoundPictures.{picture_by}
use Rattle.jpeg_meaning.specs.Found.{Metadata}
use Rattle.jpeg_meaning.specs.declared.settings.Settings.{Settings}
use Rattle.std.proofs.lemmas.Bool.{eqb-true}
use Rattle.jpeg_decoder.proofs.Pictures.EndedPlanes.{decoded-scales, element, mapped-or}
use Rattle.jpeg_decoder.proofs.Pictures.PictureSizes.{one-lines}
use Rattle.jpeg_lossless.proofs.RowLoops.{mapped-within}
use Rattle.jpeg_meaning.proofs.Soundness.{count-few, decoded-count, decoded-sized, decoded-sources}
use Rattle.std.proofs.lemmas.Grind.{common_steps}

-- ---- counts

-- A frame that is decoded has one component, or three or four.
pub decoded-several : (f : Frame) → IsDecodedFrame f → length f.components ≢ 1
    → (3 ≤ length f.components) × (length f.components ≤ 4)
decoded-several f p other = let c = decoded-count f p in grind (arith, common_steps, eqb-true)

pub decoded-few : (f : Frame) → IsDecodedFrame f → length f.components ≤ 4
decoded-few f p = (count-few (length f.components) (decoded-count f p)).1

-- the components that the code has of one
pub several-seen : (items slice : List declared.Component) (f : Frame) → f.components ≡ map component_in items
    → slice ≡ items → IsDecodedFrame f → length slice ≢ 1
    → (length f.components ≢ 1) × ((3 ≤ length slice) × (length slice ≤ 4))
several-seen items slice f is same p other = grind (arith, common_steps, length-map, decoded-several)

pub decoded-factors : (f : Frame) → IsDecodedFrame f → AllHaveSampling f.components
decoded-factors f p = sized_frames_have_factors f (decoded-sized f p)

-- ---- room for the samples

-- Planes of all blocks have the samples that a picture asks for.
pub decoded-cover : (f : Frame) → IsDecodedFrame f → (planes : List (List ℕ)) → AreWhole f.components planes
    → (sources : List Source) → sources_of f.components f.output_width f.output_height ≡ Ok sources
    → AllCover sources planes f.output_width f.output_height
decoded-cover f p planes whole sources e = let s = decoded-sources f p in search rules

-- What the code has of several components makes an image.
pub several-ready : (f : Frame) (items slice : List declared.Component) (planes given : List (Vec ℕ Global))
    → IsDecodedFrame f → f.components ≡ map component_in items → slice ≡ items → given ≡ planes → length slice ≢ 1
    → length planes ≡ length f.components → AreWhole f.components (map (λ v. v.items) planes)
    → ((3 ≤ length slice) × (length slice ≤ 4)) × ((length given ≡ length slice)
    × (AllHaveSampling (map component_in slice)
    × ((sources : List Source) → sources_of (map component_in slice) f.output_width f.output_height ≡ Ok sources
    → AllCover sources (map (λ v. v.items) given) f.output_width f.output_height)))
several-ready f items slice planes given p is same g other count whole = (
  (several-seen items slice f is same p other).1,
  (
    rw (same, g) (count ∙ ap length is ∙ length-map items component_in),
    rw (same, g, ← is) (decoded-factors f p, decoded-cover f p (map (λ v. v.items) planes) whole),
  ),
)

-- ---- refusals

never-end : (n : ℕ) (t : ColorTransform) (r : Result (List Source) Fault) (sources : List Source)
    (bytes : ColorConvert → List Source → List ℕ) → r ≡ Ok sources
    → (conversion_of n t >>= (λ (convert : ColorConvert). r >>= (λ (s : List Source). Ok (bytes convert s)))) ≡ Err End
    → ⊥
unfolding conversion_of
never-end n t r sources bytes h0 e = grind (arith, common_steps)

refused : {Y : Type 0} (e : Error) (o : Result Y Fault) → (o ≡ Err End → ⊥) → Names e o → IsRefusal e
refused e o h n = grind (arith, common_steps)

-- An image of a frame that is decoded is refused by name alone.
pub image-refused : (f : Frame) → IsDecodedFrame f → (planes : List (List ℕ)) (t : ColorTransform) (e : Error)
    → Names e (image_of f.components planes f.output_width f.output_height t) → IsRefusal e
unfolding image_of
image-refused f p planes t e n =
    let s = decoded-sources f p in
    refused e (image_of f.components planes f.output_width f.output_height t)
    (never-end (length f.components) t (sources_of f.components f.output_width f.output_height) s.sources
    (λ convert sources. converted_picture convert sources planes f.output_width f.output_height)
    s.is) n

-- ---- the picture

-- of one component
pub picture-one : (settings : Settings) (m : Metadata) (f : Frame) (cs : List Component) (c : Component)
    (planes : List (List ℕ)) (plane picture : List ℕ) → length cs ≡ 1 → c ≡ get_or cs 0 c → planes ≡ plane ∷ []
    → picture ≡ cropped_to c f.output_width f.output_height plane
    → picture_by settings m f cs planes ≡ Ok picture
unfolding picture_by
picture-one settings m f cs c planes plane picture h e is made = grind (arith, common_steps)

-- what an image of some components and planes gives, where they are those of the frame
pub several-given : {R : Type 0} (view : R → List ℕ) (settings : Settings) (m : Metadata) (f : Frame)
    (cs : List Component) (planes given : List (List ℕ)) (t : ColorTransform) (r : Result R Error)
    → settings.luma ≡ false
    → IsDecodedFrame f → length f.components ≢ 1 → cs ≡ f.components → given ≡ planes
    → t ≡ transform_of settings.color_transform (identifiers_of f.components) m.jfif m.adobe
    → MatchResult r (λ v. image_of cs given f.output_width f.output_height t ≡ Ok (view v))
    (λ e. Names e (image_of cs given f.output_width f.output_height t))
    → MatchResult r (λ v. picture_by settings m f f.components planes ≡ Ok (view v))
    (λ e. IsRefusal e × Names e (picture_by settings m f f.components planes))
unfolding picture_by
several-given {R = R} view settings m f cs planes given t r colours p other ec ep et h = search (rules, arith, image-refused)

-- the first of the components that the code has
first-is : (items slice : List declared.Component) (d : declared.Component) → slice ≡ items → length slice ≡ 1
    → component_in (get_or slice 0 d) ≡ get_or (map component_in items) 0 (component_in (get_or slice 0 d))
first-is items slice d e one = grind (arith, common_steps, mapped-or)

pub scale-first : (f : Frame) (items slice : List declared.Component) (d : declared.Component) → IsDecodedFrame f
    → f.components ≡ map component_in items → slice ≡ items → length slice ≡ 1 → IsScale (get_or slice 0 d).dct_scale
scale-first f items slice d p is e one =
    let some : 0 < length items = omega (arith, ap length e, one) in
    let all = subst (λ (l : List Component). AllByRecursion (λ c. IsScale c.scale) l) is (decoded-scales f p) in
    grind (arith, common_steps, first-is, element, mapped-within)

pub picture-first : (settings : Settings) (m : Metadata) (f : Frame) (items slice : List declared.Component)
    (d : declared.Component) (planes front : List (Vec ℕ Global)) (o : Option (Vec ℕ Global)) (plane : Vec ℕ Global)
    (picture : List ℕ) → slice ≡ items → length slice ≡ 1 → length planes ≡ length (map component_in items)
    → planes ≡ front ++ option_to_list o → o ≡ Some plane
    → picture ≡ cropped_to (component_in (get_or slice 0 d)) f.output_width f.output_height plane.items
    → picture_by settings m f (map component_in items) (map (λ v. v.items) planes) ≡ Ok picture
picture-first settings m f items slice d planes front o plane picture e one count popped is made =
    let long : length (map component_in items) ≡ 1 = omega (arith, length-map items component_in, ap length e, one) in
    let only : planes ≡ plane ∷ [] = grind (arith, common_steps, length-append) in
    picture-one settings m f _ (component_in (get_or slice 0 d)) _ plane.items picture long (first-is items slice d e one)
    (ap (map (λ v. v.items)) only) made

-- the only component
one-component : (slice : List declared.Component) (d : declared.Component) → length slice ≡ 1
    → map component_in slice ≡ component_in (get_or slice 0 d) ∷ []
one-component [] d one = absurd (omega arith)
one-component (c ∷ []) d one = refl
one-component (c ∷ e ∷ more) d one = absurd (omega arith)

pub lines-first : (settings : Settings) (f : Frame) (items slice : List declared.Component) (d : declared.Component)
    (planes front : List (Vec ℕ Global)) (o : Option (Vec ℕ Global)) (plane : Vec ℕ Global) (lines : List (List ℕ))
    → IsDecodedFrame f → (f.process ≡ Lossless → ⊥) → f.components ≡ map component_in items → slice ≡ items
    → length slice ≡ 1 → length planes ≡ length f.components → planes ≡ front ++ option_to_list o → o ≡ Some plane
    → AreWhole f.components (map (λ v. v.items) planes)
    → length lines ≡ min f.output_height (length plane.items / ((component_in (get_or slice 0 d)).scale
    * (component_in (get_or slice 0 d)).blocks_wide))
    → HaveBytes (min f.output_width ((component_in (get_or slice 0 d)).scale
    * (component_in (get_or slice 0 d)).blocks_wide)) lines
    → AreLinesOf (Some (shape_of settings f)) lines
unfolding AreWhole
lines-first settings f items slice d planes front o plane lines p dct is e one count popped taken whole rows columns =
    let c = component_in (get_or slice 0 d) in
    let alone : f.components ≡ c ∷ [] = is ∙ (ap (map component_in) (sym e) ∙ one-component slice d one) in
    let long : length planes ≡ 1 = omega (arith, count, ap length alone) in
    let only : planes ≡ plane ∷ [] = grind (arith, common_steps, length-append) in
    let size : AreWhole (c ∷ []) (plane.items ∷ []) =
    rw alone at (subst (λ (l : List (Vec ℕ Global)). AreWhole f.components (map (λ v. v.items) l)) only whole) in
    one-lines settings f c plane.items lines p dct alone size.0 rows columns
