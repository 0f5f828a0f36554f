-- All lines of a stream that are taken one by one are the picture that the stream means.
use Rattle.std.proofs.Common.{◌≡◌, ℕ, false, true, List, Option, None, Some, Result, Ok, subst}
use Rattle.jpeg_bits.specs.Reading.{Answers, Fault}
use Rattle.jpeg_bits.specs.Stream.{Stream}
use Rattle.jpeg_bits.specs.declared.color_transform.ColorTransform.{ColorTransform}
use Rattle.jpeg_decoder.specs.ByRows.{chosen, keeps_transform, rows_ahead, rows_rest, settled_picture}
use Rattle.jpeg_decoder.specs.DecodesRows.{DecodesRows}
use Rattle.jpeg_meaning.specs.Found.{Found}
use Rattle.jpeg_meaning.specs.FoundPictures.{picture_of}
use Rattle.jpeg_meaning.specs.States.{Decoding, IsReading}
use Rattle.jpeg_meaning.specs.Stream.{Told, header_at, rest_by, rest_showing, segments_at, told_of}
use Rattle.jpeg_meaning.specs.declared.before.Before.TheVariants.{Elsewhere}
use Rattle.jpeg_meaning.specs.declared.progress.Progress.{Progress}
use Rattle.jpeg_meaning.specs.declared.progress.Progress.TheVariants.{Failed, Finished, Fresh, HeaderRead}
use Rattle.jpeg_meaning.specs.declared.settings.Settings.{Settings}
use Rattle.jpeg_meaning.proofs.Written.ReadTurns.{bind-ok, then-ok}
use Rattle.jpeg_segments.specs.Checks.{check, needed}
use Rattle.zaxbriar_calls.specs.Meanings.{found_at, meaning_by, settings_at}
use Rattle.zaxbriar_calls.specs.TakenLines.{BeginsRows}
use Rattle.zaxbriar_calls.specs.declared.options.Options.{Options}
use Rattle.zaxbriar_calls.specs.declared.picture.Picture.{Picture}
use Rattle.zaxbriar_calls.specs.declared.rows.RowReader.{RowReader}

-- ---- what the rest of a stream gives by rows it means (as in proofs of jpeg_decoder)

-- A picture whose colours were kept is the picture.
settled-picture : (t : Option ColorTransform) (settings : Settings) (found : Found) (pixels : List ℕ)
    → settled_picture t settings found ≡ Ok pixels → picture_of settings found ≡ Ok pixels
unfolding settled_picture
settled-picture None settings found pixels e = e
settled-picture (Some t) settings found pixels e =
    let frame = bind-ok (needed found.said.frame) _ pixels e in
    let kept = bind-ok (check (keeps_transform t settings found.said frame.0)) _ pixels frame.2 in
    kept.2

shows-more : (limit : Option ℕ) (show other : Found → Result (List ℕ) Fault) (found : Found) (bytes : List ℕ)
    (x : (Told × List ℕ) × List ℕ) → ((f : Found) (pixels : List ℕ) → show f ≡ Ok pixels → other f ≡ Ok pixels)
    → rest_showing limit show found bytes ≡ Ok x → rest_showing limit other found bytes ≡ Ok x
unfolding rest_showing
shows-more limit show other found bytes x same e =
    let all = bind-ok (segments_at limit false Elsewhere found None bytes) _ x e in
    let shown = bind-ok (show all.0.0) _ x all.2 in
    then-ok (segments_at limit false Elsewhere found None bytes) _ all.0 _ all.1
    (then-ok (other all.0.0) _ shown.0 _ (same all.0.0 shown.0 shown.1) shown.2)

rest-means : (settings : Settings) (found : Found) (bytes : List ℕ) (x : (Told × List ℕ) × List ℕ)
    → rows_rest settings found bytes ≡ Ok x → rest_by settings found bytes ≡ Ok x
unfolding rows_rest
rest-means settings found bytes x e =
    shows-more settings.max_blocks (settled_picture (chosen settings found bytes) settings) (picture_of settings) found
    bytes x (settled-picture (chosen settings found bytes) settings) e

-- ---- a decoder that has read a header

rows-read : (stage : Progress) (settings : Settings) (found : Found) (old new : Stream) (told : Told) (all : List ℕ)
    → stage ≡ HeaderRead
    → (IsReading stage → Answers {X = Unit {0}} (λ u. (told, all)) (rows_ahead stage settings found) old (Ok tt) new)
    → old.known ≡ true → rest_by settings found old.bytes ≡ Ok ((told, all), new.bytes)
rows-read HeaderRead settings found old new told all e h known =
    rest-means settings found old.bytes ((told, all), new.bytes) ((h tt).1 known).1
rows-read Fresh settings found old new told all e h known = absurd cc
rows-read Finished settings found old new told all e h known = absurd cc
rows-read Failed settings found old new told all e h known = absurd cc

rest-of-stream : (o : Options) (bytes : List ℕ) (header : Found) (rest : List ℕ) (settings : Settings) (found : Found)
    (m : Told × List ℕ) (after : List ℕ) → header_at bytes ≡ Ok (header, rest) → found ≡ found_at o header
    → settings ≡ settings_at o found → rest_by settings found rest ≡ Ok (m, after)
    → meaning_by o bytes ≡ Ok (m, after)
unfolding meaning_by
rest-of-stream o bytes header rest settings found m after e found_is settings_is h =
    let own : rest_by (settings_at o found) found rest ≡ Ok (m, after) =
    subst (λ (s : Settings). rest_by s found rest ≡ Ok (m, after)) settings_is h in
    then-ok (header_at bytes) _ (header, rest) (Ok (m, after)) e
    (subst (λ (f : Found). rest_by (settings_at o f) f rest ≡ Ok (m, after)) found_is own)

pub lines-are-meaning : (o : Options) (bytes all : List ℕ) (picture : Picture) (r : RowReader) (new : Decoding)
    → BeginsRows o bytes picture r → DecodesRows r.rows.decoder (Ok tt) new all
    → meaning_by o bytes ≡ Ok ((told_of new.found.said, all), new.source.bytes)
lines-are-meaning o bytes all picture r new b d =
    let start = r.rows.decoder in
    let read = b.header.reads b.known in
    rest-of-stream o bytes read.1.0 start.source.bytes start.settings start.found (told_of new.found.said, all)
    new.source.bytes
    (subst (λ (x : List ℕ). header_at x ≡ Ok (read.1.0, start.source.bytes)) b.stream read.1.1) read.1.2
    b.header.settings
    (rows-read start.stage start.settings start.found start.source new.source (told_of new.found.said) all b.header.stage
    d.reads read.0)
