-- Lines that are given as a stream is read, where they are all of a picture: it is that of the stream's meaning.
use Rattle.std.proofs.Common.{◌≡◌, ◌∙◌, ℕ, false, List, Option, None, Some, Result, Ok, Err, sym}
use Rattle.std.specs.Prelude.{OnOk}
use Rattle.jpeg_bits.specs.Reading.{Answers, Fault}
use Rattle.jpeg_bits.specs.declared.color_transform.ColorTransform.{ColorTransform}
use Rattle.jpeg_bits.specs.declared.error.Error.{Error}
use Rattle.jpeg_meaning.specs.DecodedImages.{DecodesImages}
use Rattle.jpeg_meaning.specs.Found.{Found}
use Rattle.jpeg_meaning.specs.FoundPictures.{picture_of}
use Rattle.jpeg_meaning.specs.States.{Decoding, IsReading, ahead}
use Rattle.jpeg_meaning.specs.Stream.{Told, header_at, rest_showing, segments_at, told_of}
use Rattle.jpeg_meaning.specs.declared.before.Before.TheVariants.{Elsewhere}
use Rattle.jpeg_meaning.specs.declared.progress.Progress.{Progress}
use Rattle.jpeg_meaning.specs.declared.progress.Progress.TheVariants.{Failed, Finished, Fresh, HeaderRead}
use Rattle.jpeg_meaning.specs.declared.settings.Settings.{Settings}
use Rattle.jpeg_meaning.proofs.Written.ReadTurns.{bind-ok, then-ok}
use Rattle.jpeg_segments.specs.Checks.{check, needed}
use Rattle.jpeg_decoder.specs.ByRows.{chosen, keeps_transform, rows_ahead, rows_rest, settled_picture}
use Rattle.jpeg_decoder.proofs.Pictures.DecodedImages.{decodes-images}
use Rattle.jpeg_decoder.proofs.Scans.ScanReads.{answers-as}
use Rattle.jpeg_decoder.proofs.Segments.HeaderThenRest.{header-reads}

-- A picture whose colours were kept is the picture.
settled-picture : (t : Option ColorTransform) (settings : Settings) (found : Found) (pixels : List ℕ)
    → settled_picture t settings found ≡ Ok pixels → picture_of settings found ≡ Ok pixels
unfolding settled_picture
settled-picture None settings found pixels e = e
settled-picture (Some t) settings found pixels e =
    let frame = bind-ok (needed found.said.frame) _ pixels e in
    let kept = bind-ok (check (keeps_transform t settings found.said frame.0)) _ pixels frame.2 in
    kept.2

-- so is what the rest of a stream shows
shows-more : (limit : Option ℕ) (show other : Found → Result (List ℕ) Fault) (found : Found) (bytes : List ℕ)
    (x : (Told × List ℕ) × List ℕ) → ((f : Found) (pixels : List ℕ) → show f ≡ Ok pixels → other f ≡ Ok pixels)
    → rest_showing limit show found bytes ≡ Ok x → rest_showing limit other found bytes ≡ Ok x
unfolding rest_showing
shows-more limit show other found bytes x same e =
    let all = bind-ok (segments_at limit false Elsewhere found None bytes) _ x e in
    let shown = bind-ok (show all.0.0) _ x all.2 in
    then-ok (segments_at limit false Elsewhere found None bytes) _ all.0 _ all.1
    (then-ok (other all.0.0) _ shown.0 _ (same all.0.0 shown.0 shown.1) shown.2)

pub rest-means : (settings : Settings) (found : Found) (bytes : List ℕ) (x : (Told × List ℕ) × List ℕ)
    → rows_rest settings found bytes ≡ Ok x
    → rest_showing settings.max_blocks (picture_of settings) found bytes ≡ Ok x
unfolding rows_rest
rest-means settings found bytes x e =
    shows-more settings.max_blocks (settled_picture (chosen settings found bytes) settings) (picture_of settings) found
    bytes x (settled-picture (chosen settings found bytes) settings) e

ahead-means : (stage : Progress) (settings : Settings) (found : Found) (bytes : List ℕ) (x : (Told × List ℕ) × List ℕ)
    → rows_ahead stage settings found bytes ≡ Ok x → ahead stage settings found bytes ≡ Ok x
ahead-means Fresh settings found bytes x e =
    let header = bind-ok (header_at bytes) _ x e in
    header-reads settings.max_blocks (picture_of settings) header.0.0 bytes header.0.1 header.1
    ∙ rest-means settings header.0.0 header.0.1 x header.2
ahead-means HeaderRead settings found bytes x e = rest-means settings found bytes x e
ahead-means Finished settings found bytes x e = rest-means settings found bytes x e
ahead-means Failed settings found bytes x e = rest-means settings found bytes x e

-- What a call of this kind says.
abbrev pub ReadsLines : Decoding → Result (Unit {0}) Error → Decoding → List ℕ → Type 0
ReadsLines old r new bytes = IsReading old.stage
    → Answers (λ (u : Unit {0}). (told_of new.found.said, bytes)) (rows_ahead old.stage old.settings old.found)
    old.source r new.source

-- They are the picture of the coefficients that the stream was written for.
pub lines-images : (old new : Decoding) (r : Result (Unit {0}) Error) (bytes : List ℕ) → ReadsLines old r new bytes
    → OnOk r (DecodesImages (λ (u : Unit {0}). bytes) old r new)
lines-images old new (Ok u) bytes reads = decodes-images (λ (u : Unit {0}). bytes) old new (Ok u) (λ k.
    let a = reads k in
    (a.0, λ l. ((a.1 l).0, ahead-means old.stage old.settings old.found old.source.bytes _ (a.1 l).1)))
lines-images old new (Err e) bytes reads = tt

-- And where colours aren't said late, it is given, unless memory runs out or the reader fails.
pub settled-images : (old new : Decoding) (r : Result (Unit {0}) Error) (bytes : List ℕ) → ReadsLines old r new bytes
    → rows_ahead old.stage old.settings old.found old.source.bytes
    ≡ ahead old.stage old.settings old.found old.source.bytes
    → DecodesImages (λ (u : Unit {0}). bytes) old r new
settled-images old new r bytes reads same = decodes-images (λ (u : Unit {0}). bytes) old new r (λ k.
    answers-as (λ (u : Unit {0}). (told_of new.found.said, bytes)) (rows_ahead old.stage old.settings old.found)
    (ahead old.stage old.settings old.found) old.source new.source r (sym same) (reads k))
