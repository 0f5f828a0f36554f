-- A picture is its lines from above.
use Rattle.std.proofs.Common.{◌≡◌, ℕ, ◌+◌, ◌==◌, List, [], ◌∷◌, ◌++◌, length, map, ap, ◌∙◌, refl, arith, Vec, Global}
use Rattle.std.proofs.Common.{MatchResult, Result, Ok, Err, if◌then◌else◌, rules}
use Rattle.std.proofs.lemmas.List.{append-nil}
use Rattle.std.proofs.lemmas.List.Folds.{concat-append}
use Rattle.std.proofs.lemmas.List.FromFn.{map-range_with_len_more}
use Rattle.std.proofs.lemmas.Bool.Decides.{eqb_tells, nat_tests}
use Rattle.std.specs.List.{range_with_len, concat}
use Rattle.jpeg_bits.specs.Reading.{Fault, Malformed, Names}
use Rattle.jpeg_bits.specs.declared.error.Error.{Error}
use Rattle.jpeg_bits.specs.declared.error.Error.TheVariants.{OutOfMemory}
use Rattle.jpeg_bits.specs.declared.color_transform.ColorTransform.{ColorTransform}
use Rattle.jpeg_segments.specs.Frame.{Component}
use Rattle.jpeg_pixels.specs.declared.color_convert.ColorConvert.{ColorConvert}
use Rattle.jpeg_pixels.specs.Colour.{conversion_of}
use Rattle.jpeg_pixels.specs.Pictures.{Source, sources_of, picture_line, converted_picture, image_of}
use Rattle.jpeg_pixels.specs.PicturesView.{IsFor}
use Rattle.jpeg_segments.proofs.Gathered.{gathered-length}

abbrev as_convert : ColorConvert → Result ColorConvert Fault
as_convert k = Ok k

-- one more line
pub picture-more : (convert : ColorConvert) (sources : List Source) (planes : List (List ℕ)) (width height : ℕ)
    → converted_picture convert sources planes width (height + 1) ≡ converted_picture convert
    sources planes width height
    ++ picture_line convert sources planes width height
unfolding converted_picture
picture-more convert sources planes width height =
    let line = picture_line convert sources planes width in
    ap concat (map-range_with_len_more line 0 height height (omega arith))
    ∙ concat-append (map line (range_with_len 0 height)) (line height ∷ [])
    ∙ ap (λ (l : List ℕ). concat (map line (range_with_len 0 height)) ++ l) (append-nil (line height))

pub picture-none : (convert : ColorConvert) (sources : List Source) (planes : List (List ℕ)) (width : ℕ)
    → converted_picture convert sources planes width 0 ≡ []
unfolding converted_picture
picture-none convert sources planes width = refl

by_count : (count n : ℕ) (own convert : ColorConvert) → (count ≡ n → IsFor count own)
    → (if count == n then as_convert own else Err Malformed) ≡ as_convert convert → IsFor count convert
by_count count n own convert fits is = search (rules, eqb_tells)

-- a conversion that a transform gives fits the number of components
pub conversion-fits : (count : ℕ) (transform : ColorTransform) (convert : ColorConvert)
    → conversion_of count transform ≡ Ok convert → IsFor count convert
unfolding conversion_of
conversion-fits count transform convert h1 = grind (arith, nat_tests, by_count)

pub image-is : (components : List Component) (planes : List (List ℕ)) (width height : ℕ) (transform : ColorTransform)
    (convert : ColorConvert) (sources : List Source) (bytes : List ℕ)
    → conversion_of (length components) transform ≡ Ok convert → sources_of components width height ≡ Ok sources
    → bytes ≡ converted_picture convert sources planes width height
    → image_of components planes width height transform ≡ Ok bytes
unfolding image_of
image-is components planes width height transform convert sources bytes conversion is same = cc

pub image-no_conversion : (components : List Component) (planes : List (List ℕ)) (width height : ℕ)
    (transform : ColorTransform) (e : Error)
    → Names e (conversion_of (length components) transform)
    → Names e (image_of components planes width height transform)
unfolding image_of
image-no_conversion components planes width height transform e names = search rules

pub image-no_sources : (components : List Component) (planes : List (List ℕ)) (width height : ℕ)
    (transform : ColorTransform) (convert : ColorConvert) (e : Error)
    → conversion_of (length components) transform ≡ Ok convert → Names e (sources_of components width height)
    → Names e (image_of components planes width height transform)
unfolding image_of
image-no_sources components planes width height transform convert e conversion names = search rules

-- what a call answered that gives the picture, or lacks memory
pub image-answer : (components : List Component) (planes : List (List ℕ)) (width height : ℕ)
    (transform : ColorTransform) (convert : ColorConvert) (sources : List Source) (w h : ℕ)
    (result : Result (Vec ℕ Global) Error)
    → conversion_of (length components) transform ≡ Ok convert → sources_of components width height ≡ Ok sources
    → w ≡ width → h ≡ height
    → MatchResult result (λ v. v.items ≡ converted_picture convert sources planes w h) (λ e. e ≡
    OutOfMemory)
    → MatchResult result (λ v. image_of components planes width height transform ≡ Ok v.items)
    (λ e. Names e (image_of components planes width height transform))
image-answer components planes width height transform convert sources w h result h1 h2 h3 h4 h5 =
    grind (arith, nat_tests, image-is)

pub sources-count : (components : List Component) (width height : ℕ) (sources : List Source)
    → sources_of components width height ≡ Ok sources → length sources ≡ length components
sources-count components width height sources is = gathered-length _ components sources is
