-- A limit of blocks that lets a stream through changes nothing of it.
use Rattle.std.proofs.Common.{rules, ◌≡◌, ◌∙◌, ◌<◌, ◌≤◌, ◌*◌, ◌⊎◌, inl, inr, ℕ, List, [], ◌∷◌, Option}
use Rattle.std.proofs.Common.{Bool, Some, None, Result, Ok, Err, false, refl, sym, arith}
use Rattle.std.proofs.lemmas.Bool.{cases_lt}
use Rattle.std.specs.List.{enumerate_from}
use Rattle.std.specs.Prelude.{if◌then◌else◌, nat_lt}
use Rattle.jpeg_bits.specs.Reading.{Fault, Malformed, Outcome, ◌>>=◌}
use Rattle.jpeg_segments.specs.Checks.{gathered, needed}
use Rattle.jpeg_segments.specs.Frame.{Component, Frame}
use Rattle.jpeg_segments.specs.declared.frame.CodingProcess.{CodingProcess}
use Rattle.jpeg_segments.specs.declared.frame.CodingProcess.TheVariants.{DctProgressive, DctSequential, Lossless}
use Rattle.jpeg_meaning.specs.Found.{Found, Metadata}
use Rattle.jpeg_meaning.specs.FoundPictures.{blocks_picture, limited, picture_by, picture_by_process, picture_of, plane_at_end}
use Rattle.jpeg_meaning.specs.Limits.{IsWithinLimit, work_of_rest}
use Rattle.jpeg_meaning.specs.Pixels.{samples_shown}
use Rattle.jpeg_meaning.specs.Stream.{Told, rest_at, rest_by, rest_within, segments_at, told_of, rest_showing}
use Rattle.jpeg_meaning.specs.declared.before.Before.TheVariants.{Elsewhere}
use Rattle.jpeg_bits.specs.declared.beyond.Beyond.TheVariants.{Zeros}
use Rattle.jpeg_meaning.specs.declared.settings.Settings.{Settings}
use Rattle.jpeg_meaning.proofs.Limits.{above-refused, rest-same}
use Rattle.zaxbriar_files.specs.declared.limits.Limits.{Limits}
use Rattle.zaxbriar_pictures.specs.Given.{most_after, settings_within}
use Rattle.zaxbriar_pictures.specs.ScaledPictures.{settings_for}

rest-above : (most : ℕ) (settings : Settings) (found : Found) (bytes : List ℕ) → most < work_of_rest Zeros found bytes
    → rest_within (Some most) settings found bytes ≡ Err Malformed
unfolding rest_showing segments_at
rest-above most settings found bytes h = search (rules, arith, above-refused)

not-both : (r : Outcome (Told × List ℕ)) (m : (Told × List ℕ) × List ℕ) → r ≡ Ok m → r ≡ Err Malformed → ⊥
not-both r m ok err = cc

-- What isn't refused is within the limit.
within : (limit : Option ℕ) (settings : Settings) (found : Found) (bytes : List ℕ) (m : (Told × List ℕ) × List ℕ)
    → rest_within limit settings found bytes ≡ Ok m → IsWithinLimit limit (work_of_rest Zeros found bytes)
within None settings found bytes m e = tt
within (Some most) settings found bytes m e = go (cases_lt most (work_of_rest Zeros found bytes))
  where
    go : (most < work_of_rest Zeros found bytes) ⊎ (work_of_rest Zeros found bytes ≤ most)
        → work_of_rest Zeros found bytes ≤ most
    go (inl above) = absurd (not-both _ m e (rest-above most settings found bytes above))
    go (inr below) = below

-- ---- settings that differ in the limit of blocks alone

by-alike : (luma : Bool) (limits : Limits) (header : Found) (m : Metadata) (frame : Frame) (components : List Component)
    (planes : List (List ℕ)) → picture_by (settings_within luma limits header) m frame components planes
    ≡ picture_by (settings_for luma) m frame components planes
unfolding picture_by
by-alike luma limits header m frame [] planes = refl
by-alike luma limits header m frame (c ∷ []) planes = refl
by-alike luma limits header m frame (c ∷ d ∷ more) planes = refl

blocks-alike : (luma : Bool) (limits : Limits) (header found : Found) (frame : Frame)
    → blocks_picture (settings_within luma limits header) found frame ≡ blocks_picture (settings_for luma) found frame
unfolding blocks_picture
blocks-alike luma limits header found frame = go (gathered (plane_at_end found frame) (enumerate_from 0 frame.components))
  where
    go : (r : Result (List (List ℕ)) Fault)
        → (r >>= (λ planes. picture_by (settings_within luma limits header) found.said.metadata frame frame.components planes))
        ≡ (r >>= (λ planes. picture_by (settings_for luma) found.said.metadata frame frame.components planes))
    go (Err fault) = refl
    go (Ok planes) = by-alike luma limits header found.said.metadata frame frame.components planes

process-alike : (process : CodingProcess) (luma : Bool) (limits : Limits) (header found : Found) (frame : Frame)
    → picture_by_process process (settings_within luma limits header) found frame
    ≡ picture_by_process process (settings_for luma) found frame
process-alike Lossless luma limits header found frame = refl
process-alike DctSequential luma limits header found frame = blocks-alike luma limits header found frame
process-alike DctProgressive luma limits header found frame = blocks-alike luma limits header found frame

-- a frame's picture, where it is within the limit of samples
abbrev sized : Settings → Found → Frame → Result (List ℕ) Fault
sized settings found frame =
    if nat_lt settings.limit (samples_shown settings frame * (frame.output_width * frame.output_height))
    then Err Malformed else picture_by_process frame.process settings found frame

picture-alike : (luma : Bool) (limits : Limits) (header found : Found)
    → picture_of (settings_within luma limits header) found ≡ picture_of (settings_for luma) found
unfolding picture_of limited
picture-alike luma limits header found = go (needed found.said.frame)
  where
    go : (r : Result Frame Fault)
        → (r >>= (λ frame. sized (settings_within luma limits header) found frame))
        ≡ (r >>= (λ frame. sized (settings_for luma) found frame))
    go (Err fault) = refl
    go (Ok frame) = rw (process-alike frame.process luma limits header found frame) refl

abbrev pictured : Settings → Found × List ℕ → Outcome (Told × List ℕ)
pictured settings all = picture_of settings all.0 >>= (λ picture. Ok ((told_of all.0.said, picture), all.1))

alike : (luma : Bool) (limits : Limits) (header found : Found) (bytes : List ℕ)
    → rest_at (settings_within luma limits header) found bytes ≡ rest_at (settings_for luma) found bytes
unfolding rest_showing
alike luma limits header found bytes = go (segments_at None false Elsewhere found None bytes)
  where
    go : (r : Outcome Found) → (r >>= (λ all. pictured (settings_within luma limits header) all))
        ≡ (r >>= (λ all. pictured (settings_for luma) all))
    go (Err fault) = refl
    go (Ok all) = rw (picture-alike luma limits header all.0) refl

-- The rest of a stream that isn't refused by the limits is within them, and means what it means without them.
pub allowed-rest : (luma : Bool) (limits : Limits) (found : Found) (bytes : List ℕ) (m : (Told × List ℕ) × List ℕ)
    → rest_by (settings_within luma limits found) found bytes ≡ Ok m
    → IsWithinLimit (most_after limits found) (work_of_rest Zeros found bytes)
    × (rest_at (settings_for luma) found bytes ≡ Ok m)
allowed-rest luma limits found bytes m e =
    let settings = settings_within luma limits found in
    let is = within (most_after limits found) settings found bytes m e in (
      is,
      sym (alike luma limits found found bytes) ∙ sym (rest-same (most_after limits found) settings found bytes is) ∙ e,
    )
