-- A cut stream of a writer is shown where the settings take the picture of its frame.
use Rattle.std.proofs.Common.{◌≡◌, ℕ, List, [], ◌∷◌, ◌++◌, map, Some, None, Ok, refl, sym, ap, ◌∙◌, subst}
use Rattle.std.specs.Prelude.{slice_index_or, unwrap_or, replicate}
use Rattle.std.specs.List.{enumerate_from}
use Rattle.jpeg_bits.specs.Reading.{End}
use Rattle.jpeg_pixels.specs.Pictures.{Source, sources_of}
use Rattle.jpeg_segments.specs.Checks.{gathered}
use Rattle.jpeg_segments.specs.Frame.{Component, Frame}
use Rattle.jpeg_meaning.specs.declared.settings.Settings.{Settings}
use Rattle.jpeg_meaning.specs.ArrayPictures.{HasTransform, TakesPicture, as_sent}
use Rattle.jpeg_meaning.specs.Found.{Found, Said, nothing_found, nothing_said}
use Rattle.jpeg_meaning.specs.FoundPictures.{picture_by}
use Rattle.jpeg_meaning.specs.Levels.{Is8Bit, Levels, nothing_sent}
use Rattle.jpeg_meaning.specs.Rasters.{plane_of_blocks}
use Rattle.jpeg_meaning.specs.Shown.{Shown, fault_shown, framed_or, picture_shown, shown, shown_of, shown_rest_within}
use Rattle.jpeg_meaning.specs.Shown.{shown_within, whole_rows}
use Rattle.jpeg_meaning.specs.Stream.{Walked, all_brought, start_at, told_of}
use Rattle.jpeg_meaning.specs.WrittenImages.{WritesImage}
use Rattle.jpeg_meaning.specs.WrittenScans.{Coefficients}
use Rattle.jpeg_meaning.specs.WrittenStreams.{end}
use Rattle.jpeg_meaning.proofs.Pictures.LimitedPictures.{limited-ok}
use Rattle.jpeg_meaning.proofs.Written.ReadTurns.{then-ok}
use Rattle.jpeg_meaning.proofs.Written.WrittenPictures.{picture-there}
use Rattle.jpeg_evidence.specs.CutImages.{HoldsCut, picture_held}
use Rattle.jpeg_evidence.proofs.Cut.CutHeld.{EndedAt, nothing-there}
use Rattle.jpeg_evidence.proofs.Cut.CutPictures.{shown-same}
use Rattle.jpeg_evidence.proofs.Cut.CutShown.{fault-end, rows-started}
use Rattle.jpeg_evidence.proofs.Cut.CutSplits.{each-front}

-- f of each, where it is always Ok
gathered-ok : {A B : Type 0} (f : A → B) (xs : List A)
    → gathered (λ x. Ok (f x)) xs ≡ Ok (map f xs)
unfolding gathered
gathered-ok f [] = refl
gathered-ok f (x ∷ xs) =
    then-ok (gathered (λ y. Ok (f y)) xs) _ (map f xs) _ (gathered-ok f xs) refl

-- a picture of planes, where the components can have their transform
picture-of : (settings : Settings) (w : Said) (f : Frame) (components : List Component) (g : ℕ × Component → List ℕ)
    (sources : List Source) → HasTransform settings w f components
    → sources_of components f.output_width f.output_height ≡ Ok sources
    → (picture : List ℕ) × (picture_by settings w.metadata f components (map g (enumerate_from 0 components)) ≡ Ok picture)
picture-of settings w f [] g sources t e = absurd t
picture-of settings w f (c ∷ more) g sources t e =
    picture-there settings w f (c ∷ more) (g (0, c)) (map g (enumerate_from 1 more)) sources t e

-- the picture of blocks that are held
held-there : (settings : Settings) (said : Said) (f : Frame) (blocks : Coefficients) (sources : List Source)
    → (takes : TakesPicture settings said) → takes.frame ≡ f → said.frame ≡ Some f
    → sources_of f.components f.output_width f.output_height ≡ Ok sources
    → (picture : List ℕ) × (picture_held settings said blocks ≡ Ok picture)
unfolding picture_held
held-there settings said f blocks sources takes same is_said e =
    let g : ℕ × Component → List ℕ
    = λ c. plane_of_blocks c.1 (unwrap_or
    (slice_index_or said.quantization c.1.factors.quantization None) (replicate 64 1)) (blocks c.0) in
    let picture = picture-of settings said f f.components g sources
    (subst (λ (h : Frame). HasTransform settings said h h.components) same takes.transform) e in (
      picture.0,
      limited-ok settings said f _ picture.0 is_said (rw same at takes.limit)
          (then-ok (gathered (λ c. Ok (g c)) (enumerate_from 0 f.components)) _ _ _
          (gathered-ok g (enumerate_from 0 f.components)) picture.1),
    )

-- what is shown of what a walk brought, where there is a frame and a picture
shown-there : (settings : Settings) (w : Walked) (f : Frame) (picture : List ℕ) → w.found.said.frame ≡ Some f
    → picture_shown settings w.found ≡ Ok picture
    → shown_of settings w.found w.rest
    ≡ Ok (record { told = told_of w.found.said; picture = picture; fault = fault_shown w.found w.rest })
unfolding shown_of
shown-there settings w f picture framed e =
    then-ok (framed_or w.found.said.frame w.rest) _ tt _ (rw (framed, framed_or) refl)
    (then-ok (picture_shown settings w.found) _ picture _ e refl)

starts-shown : (settings : Settings) (part : List ℕ)
    → shown settings (255 ∷ 216 ∷ part)
    ≡ shown_of settings (all_brought None nothing_found part).found (all_brought None nothing_found part).rest
unfolding shown_within shown_rest_within start_at
starts-shown settings part = refl

-- A stream that is cut after its SOI holds blocks of the image, and where the settings take the picture of what its
-- whole segments say, the picture of these is shown.
pub cut_images_are_shown : (settings : Settings) (array : Coefficients) (image part more : List ℕ)
    (final : Said) (last : ℕ → Levels) → ((index row column : ℕ) → Is8Bit (array index row column))
    → WritesImage array image final last → image ≡ (255 ∷ 216 ∷ part) ++ more
    → (said : Said) × (blocks : Coefficients) × HoldsCut array blocks part said (whole_rows (255 ∷ 216 ∷ part))
    × (TakesPicture settings said → (s : Shown) × (shown settings (255 ∷ 216 ∷ part) ≡ Ok s)
    × (s.told ≡ told_of said) × (picture_held settings said blocks ≡ Ok s.picture)
    × ((more ≡ [] → ⊥) → s.fault ≡ Some End))
cut_images_are_shown settings array image part more final last range w parts =
    let after : w.after ≡ part ++ more = cc in
    let e : EndedAt array range part more
    = each-front array range nothing_said final (λ k. nothing_sent) last w.after w.written [] part more
    (end nothing_said (λ k. nothing_sent) [] refl) (λ j. nothing-there array range j more) after in
    let found_same : (all_brought None nothing_found part).found.said ≡ e.said = ap (λ (y : Found). y.said) e.found in (
      e.said,
      as_sent e.image e.levels,
      subst (λ (rows : ℕ). HoldsCut array (as_sent e.image e.levels) part e.said rows)
          (sym (rows-started part)) e.holds,
      λ takes.
          let f = takes.frame in
          let is = e.is.shaped f takes.is_said in
          let same = shown-same settings e.said f e.image e.levels e.brought e.counts is.0 takes.is_said
          (e.framed f takes.is_said) (e.whole f takes.is_said) in
          let picture = held-there settings e.said f (as_sent e.image e.levels) is.1.0 takes refl takes.is_said is.1.1 in
          let framed : (all_brought None nothing_found part).found.said.frame ≡ Some f
          = ap (λ (y : Said). y.frame) found_same ∙ takes.is_said in
          let shows = shown-there settings (all_brought None nothing_found part) f picture.0 framed
          (ap (picture_shown settings) e.found ∙ same ∙ picture.1) in (
            _,
            starts-shown settings part ∙ shows,
            ap told_of found_same,
            picture.1,
            λ some. fault-end (all_brought None nothing_found part) (e.ends some),
          ),
    )
