-- What is told of a stream whose lines were decoded is told of what the stream shows.
use Rattle.std.proofs.Common.{◌≡◌, ℕ, List, Ok, Option, Some, None, IsSomeAnd, option_map, false, refl, ap, true}
use Rattle.std.specs.Prelude.{Err, IfOk, Result, is_some, not, unwrap_or}
use Rattle.jpeg_bits.specs.Reading.{Fault}
use Rattle.jpeg_bits.specs.declared.error.Error.{Error}
use Rattle.jpeg_segments.specs.Frame.{Frame}
use Rattle.jpeg_segments.specs.declared.scale.Scale.TheVariants.{Full}
use Rattle.jpeg_meaning.specs.Found.{Found, with_said}
use Rattle.jpeg_meaning.specs.Pixels.{info_by}
use Rattle.jpeg_meaning.specs.States.{Decoding}
use Rattle.jpeg_meaning.specs.Stream.{header_at, scaled_to}
use Rattle.jpeg_decoder.specs.Reaching.{NamesFault}
use Rattle.zaxbriar_files.specs.declared.limits.Limits.{Limits}
use Rattle.zaxbriar_samples.specs.DecodedPictures.{Decoded, decoded}
use Rattle.zaxbriar_pictures.specs.Given.{Given, IsGiven, TellsGiven, TellsOfStream, complete_rows, given_at_scale, is_whole, settings_within}
use Rattle.zaxbriar_pictures.specs.Steps.{CountsRest, GivesPicture, GivesRest}
use Rattle.zaxbriar_pictures.specs.declared.extents.Completeness.{Completeness}
use Rattle.zaxbriar_pictures.specs.declared.extents.Extent.TheVariants.{Partial}
use Rattle.zaxbriar_pictures.proofs.ScaledStreams.{is-given, tells-given}

told-of : (limits : Limits) (bytes : List ℕ) (picture : Decoded) (told : Completeness)
    → IsGiven Partial false limits Full bytes picture told.whole_rows told.fault → told.info ≡ picture.info
    → TellsOfStream limits bytes told
told-of limits bytes picture told h is = go (given_at_scale Partial false limits Full bytes) h
  where
    go : (o : Option Given) → IsSomeAnd o (λ g. (picture ≡ g.picture) × NamesFault told.fault g.fault
        × (told.whole_rows ≡ complete_rows Partial limits Full bytes g.picture.info.height))
        → IsSomeAnd o (λ g. TellsGiven Partial limits Full bytes g told)
    go None h = absurd h
    go (Some g) h = tells-given Partial limits Full bytes g picture told is h.0 h.1 h.2

-- What a decoder tells of the lines that it gave by settings within the limits, whose header was read.
pub tells-of-stream : (limits : Limits) (bytes : List ℕ) (found : Found) (old new : Decoding) (samples : List ℕ)
    (told : Completeness)
    → header_at bytes ≡ Ok (found, old.source.bytes) → old.source.known ≡ true
    → old.found ≡ with_said (scaled_to Full) found → old.settings ≡ settings_within false limits old.found
    → GivesRest Partial old new samples told.fault → CountsRest Partial old told.info.height told.whole_rows
    → option_map (info_by old.settings) new.found.said.frame ≡ Some told.info → TellsOfStream limits bytes told
tells-of-stream limits bytes found old new samples told header known is within gives counts info =
    go new.found.said.frame refl info
  where
    go : (frame : Option Frame) → new.found.said.frame ≡ frame → option_map (info_by old.settings) frame ≡ Some told.info
        → TellsOfStream limits bytes told
    go None e i = absurd (let n : ⊥ = cc in n)
    go (Some f) e i =
        let picture : Decoded = decoded told.info f.precision samples in
        let made : GivesPicture Partial old new picture told = record {
          rest = gives;
          info_is = info;
          precision_is = ap (λ (o : Option Frame). option_map (λ f. f.precision) o) e;
          told_is = refl;
          rows = counts;
        } in
        told-of limits bytes picture told
        (is-given Partial false limits Full bytes found old new picture told header known is within made) refl

-- ---- whole streams

same-fault : (error : Option Error) (fault : Option Fault) → NamesFault error fault
    → not (is_some error) ≡ not (is_some fault)
same-fault None None h = refl
same-fault (Some e) (Some fault) h = refl
same-fault None (Some fault) h = absurd h
same-fault (Some e) None h = absurd h

whole-told : (limits : Limits) (bytes : List ℕ) (told : Completeness) → TellsOfStream limits bytes told
    → not (is_some told.fault) ≡ is_whole limits bytes
unfolding is_whole
whole-told limits bytes told h = go (given_at_scale Partial false limits Full bytes) h
  where
    go : (o : Option Given) → IsSomeAnd o (λ g. TellsGiven Partial limits Full bytes g told)
        → not (is_some told.fault) ≡ unwrap_or (option_map (λ g. not (is_some g.fault)) o) false
    go None h = absurd h
    go (Some g) h = same-fault told.fault g.fault h.2

pub whole-checked : {E : Type 0} (limits : Limits) (bytes : List ℕ) (r : Result Completeness E)
    → IfOk r (TellsOfStream limits bytes) → IfOk r (λ told. not (is_some told.fault) ≡ is_whole limits bytes)
whole-checked limits bytes (Ok told) h = whole-told limits bytes told h
whole-checked limits bytes (Err refusal) h = tt
