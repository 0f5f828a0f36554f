-- A limit of blocks changes no picture: what a stream means within one is what it means without.
use Rattle.std.proofs.Common.{◌≡◌, ◌∙◌, ◌⊎◌, ◌≤◌, ◌<◌, ℕ, suc, List, [], ◌∷◌, Option, Some, None, Result, Ok}
use Rattle.std.proofs.Common.{ap, inl, inr, false, length, refl, sym}
use Rattle.std.specs.List.{enumerate_from}
use Rattle.std.proofs.lemmas.Bool.{cases_lt}
use Rattle.jpeg_bits.specs.Reading.{◌>>=◌, Fault, Malformed}
use Rattle.jpeg_segments.proofs.Codecs.{bind-ok, err-ok}
use Rattle.jpeg_segments.specs.Checks.{gathered}
use Rattle.jpeg_segments.specs.Frame.{Component, Frame}
use Rattle.jpeg_segments.specs.declared.frame.CodingProcess.{CodingProcess}
use Rattle.jpeg_segments.specs.declared.frame.CodingProcess.TheVariants.{DctProgressive, DctSequential, Lossless}
use Rattle.jpeg_meaning.proofs.Limits.{above-refused, within-same}
use Rattle.jpeg_meaning.proofs.Written.ReadTurns.{then-ok}
use Rattle.jpeg_meaning.specs.Found.{Found, Metadata}
use Rattle.jpeg_meaning.specs.FoundPictures.{blocks_picture, limited, picture_by, picture_by_process, picture_of}
use Rattle.jpeg_meaning.specs.FoundPictures.{plane_at_end}
use Rattle.jpeg_meaning.specs.Limits.{work_of_rest}
use Rattle.jpeg_meaning.specs.Stream.{Told, rest_at, rest_within, segments_at, told_of, walk, rest_showing}
use Rattle.jpeg_meaning.specs.declared.before.Before.TheVariants.{Elsewhere}
use Rattle.jpeg_bits.specs.declared.beyond.Beyond.TheVariants.{Zeros}
use Rattle.jpeg_meaning.specs.declared.settings.Settings.{Settings}

-- ---- a reading that isn't refused for its blocks

walk-unlimited : (limit : Option ℕ) (found : Found) (bytes rest : List ℕ)
    → (walk limit Zeros (suc (length bytes)) false Elsewhere found None bytes).rest ≡ Ok rest
    → walk limit Zeros (suc (length bytes)) false Elsewhere found None bytes
    ≡ walk None Zeros (suc (length bytes)) false Elsewhere found None bytes
walk-unlimited None found bytes rest h = refl
walk-unlimited (Some left) found bytes rest h = go (cases_lt left (work_of_rest Zeros found bytes))
  where
    go : (left < work_of_rest Zeros found bytes) ⊎ (work_of_rest Zeros found bytes ≤ left)
        → walk (Some left) Zeros (suc (length bytes)) false Elsewhere found None bytes
        ≡ walk None Zeros (suc (length bytes)) false Elsewhere found None bytes
    go (inl above) = absurd (err-ok Malformed rest
        (sym (above-refused left Zeros (suc (length bytes)) false Elsewhere found None bytes above) ∙ h))
    go (inr within) = within-same left Zeros (suc (length bytes)) false Elsewhere found None bytes within

segments-unlimited : (limit : Option ℕ) (found : Found) (bytes : List ℕ) (read : Found × List ℕ)
    → segments_at limit false Elsewhere found None bytes ≡ Ok read
    → segments_at None false Elsewhere found None bytes ≡ Ok read
unfolding segments_at
segments-unlimited limit found bytes read e =
    let s = bind-ok (walk limit Zeros (suc (length bytes)) false Elsewhere found None bytes).rest _ read e in
    rw (walk-unlimited limit found bytes s.0 s.1) at e

pub shown-unlimited : {A : Type 0} (limit : Option ℕ) (show : Found → Result A Fault) (found : Found) (bytes : List ℕ)
    (read : (Told × A) × List ℕ) → rest_showing limit show found bytes ≡ Ok read
    → rest_showing None show found bytes ≡ Ok read
unfolding rest_showing
shown-unlimited limit show found bytes read e =
    let s = bind-ok (segments_at limit false Elsewhere found None bytes) _ read e in
    then-ok (segments_at None false Elsewhere found None bytes) _ s.0 _
    (segments-unlimited limit found bytes s.0 s.1) s.2

pub rest-unlimited : (limit : Option ℕ) (settings : Settings) (found : Found) (bytes : List ℕ)
    (read : (Told × List ℕ) × List ℕ) → rest_within limit settings found bytes ≡ Ok read
    → rest_at settings found bytes ≡ Ok read
rest-unlimited limit settings = shown-unlimited limit (picture_of settings)

-- ---- the settings

-- no picture depends on the limit of blocks
components-same : (limit : Option ℕ) (settings : Settings) (m : Metadata) (frame : Frame) (components : List Component)
    (planes : List (List ℕ)) → picture_by (record settings { max_blocks = limit }) m frame components planes
    ≡ picture_by settings m frame components planes
unfolding picture_by
components-same limit settings m frame [] planes = refl
components-same limit settings m frame (c ∷ []) planes = refl
components-same limit settings m frame (c ∷ d ∷ more) planes = refl

blocks-same : (limit : Option ℕ) (settings : Settings) (found : Found) (frame : Frame)
    → blocks_picture (record settings { max_blocks = limit }) found frame ≡ blocks_picture settings found frame
unfolding blocks_picture
blocks-same limit settings found frame =
    ap (λ (picture : List (List ℕ) → Result (List ℕ) Fault).
    gathered (plane_at_end found frame) (enumerate_from 0 frame.components) >>= picture)
    (λ i planes. components-same limit settings found.said.metadata frame frame.components planes i)

process-same : (limit : Option ℕ) (settings : Settings) (p : CodingProcess) (found : Found) (frame : Frame)
    → picture_by_process p (record settings { max_blocks = limit }) found frame
    ≡ picture_by_process p settings found frame
process-same limit settings Lossless found frame = refl
process-same limit settings DctSequential found frame = blocks-same limit settings found frame
process-same limit settings DctProgressive found frame = blocks-same limit settings found frame

picture-same : (limit : Option ℕ) (settings : Settings) (found : Found)
    → picture_of (record settings { max_blocks = limit }) found ≡ picture_of settings found
unfolding picture_of limited
picture-same limit settings found =
    ap (λ (picture : Frame → Result (List ℕ) Fault). limited settings found.said picture)
    (λ i frame. process-same limit settings frame.process found frame i)

pub rest-same : (limit other : Option ℕ) (settings : Settings) (found : Found) (bytes : List ℕ)
    → rest_within limit (record settings { max_blocks = other }) found bytes ≡ rest_within limit settings found bytes
unfolding rest_showing
rest-same limit other settings found bytes =
    ap (λ (picture : Found → Result (List ℕ) Fault). segments_at limit false Elsewhere found None bytes
    >>= (λ (all : Found × List ℕ). picture all.0 >>= (λ (p : List ℕ). Ok ((told_of all.0.said, p), all.1))))
    (λ i f. picture-same other settings f i)
