-- All rows of a stream without a fault are complete.
use Rattle.std.proofs.Common.{◌≡◌, ◌∙◌, ℕ, zero, suc, Bool, true, false, List, length, Option, Some, None, Result, Ok}
use Rattle.std.proofs.Common.{Err, refl, ap}
use Rattle.std.specs.Prelude.{if◌then◌else◌, option_map, unwrap_or}
use Rattle.jpeg_bits.specs.Reading.{Fault, Outcome}
use Rattle.jpeg_bits.specs.declared.marker.Marker.{Marker}
use Rattle.jpeg_segments.specs.Frame.{Frame}
use Rattle.jpeg_segments.proofs.Codecs.{bind-ok, err-ok, ok-same}
use Rattle.jpeg_meaning.specs.declared.before.Before.{Before}
use Rattle.jpeg_meaning.specs.declared.before.Before.TheVariants.{Elsewhere}
use Rattle.jpeg_meaning.specs.declared.settings.Settings.{Settings}
use Rattle.jpeg_meaning.specs.Brought.{Brought}
use Rattle.jpeg_meaning.specs.Found.{Found, nothing_found}
use Rattle.jpeg_meaning.specs.Segments.{Turn}
use Rattle.jpeg_meaning.specs.Shown.{Shown, framed_or, picture_shown, rows_of_found, rows_of_frame, shown, shown_of}
use Rattle.jpeg_meaning.specs.Shown.{shown_rest, shown_rest_within, shown_within, whole_rows, whole_rows_rest}
use Rattle.jpeg_meaning.specs.Shown.{whole_rows_within}
use Rattle.jpeg_meaning.specs.Stream.{all_brought, start_at, turn_at, walk}
use Rattle.jpeg_meaning.proofs.Partial.Faultless.{faultless}
use Rattle.jpeg_meaning.proofs.Written.ReadTurns.{walked}
use Rattle.jpeg_bits.specs.declared.beyond.Beyond.TheVariants.{Nothing}
use Rattle.jpeg_meaning.proofs.Longer.LongerTurns.{walk_on}

-- Where what a walk brings has no fault, no scan of it lacks rows.
walk-whole : (turns : ℕ) (before : Before) (found : Found) (met : Option Marker) (bytes rest : List ℕ)
    → (walk None Nothing turns false before found met bytes).rest ≡ Ok rest
    → (walk None Nothing turns false before found met bytes).rows ≡ None
unfolding walk
walk-whole zero before found met bytes rest e = refl
walk-whole (suc turns) before found met bytes rest e =
    go (turn_at Nothing before found met bytes) (turn_at Nothing before found met bytes).turn e
    (λ t. walk-whole turns t.0.before t.0.found t.0.met t.1 rest)
  where
    on : (t : Turn × List ℕ) (b : Bool)
        → (if b then walked t.0.found (Ok t.1) else walk None Nothing turns false t.0.before t.0.found t.0.met t.1).rest
        ≡ Ok rest
        → ((walk None Nothing turns false t.0.before t.0.found t.0.met t.1).rest ≡ Ok rest
        → (walk None Nothing turns false t.0.before t.0.found t.0.met t.1).rows ≡ None)
        → (if b then walked t.0.found (Ok t.1) else walk None Nothing turns false t.0.before t.0.found t.0.met t.1).rows
        ≡ None
    on t true e again = refl
    on t false e again = again e

    go : (b : Brought) (o : Outcome Turn) → (walk_on turns b o).rest ≡ Ok rest
        → ((t : Turn × List ℕ) → (walk None Nothing turns false t.0.before t.0.found t.0.met t.1).rest ≡ Ok rest
        → (walk None Nothing turns false t.0.before t.0.found t.0.met t.1).rows ≡ None)
        → (walk_on turns b o).rows ≡ None
    go b (Err fault) e again = absurd (err-ok fault rest e)
    go b (Ok t) e again = on t t.0.ended e (again t)

rest-whole : (settings : Settings) (bytes : List ℕ) (s : Shown) (frame : Frame)
    → shown_rest settings nothing_found bytes ≡ Ok s → s.fault ≡ None → s.told.frame ≡ Some frame
    → whole_rows_rest None nothing_found bytes ≡ frame.output_height
unfolding shown_rest_within shown_of whole_rows_rest
rest-whole settings bytes s frame e none framed =
    let w = all_brought None nothing_found bytes in
    let u = bind-ok (framed_or w.found.said.frame w.rest) _ s e in
    let p = bind-ok (picture_shown settings w.found) _ s u.2 in
    let same = ok-same _ s p.2 in
    let is : w.found.said.frame ≡ Some frame = ap (λ (z : Shown). z.told.frame) same ∙ framed in
    let f = faultless w.found w.rest frame is (ap (λ (z : Shown). z.fault) same ∙ none) in
    ap (λ (rows : Option ℕ). rows_of_found rows w.found)
    (walk-whole (suc (length bytes)) Elsewhere nothing_found None bytes f.0 f.2)
    ∙ ap (λ (o : Option Frame). unwrap_or (option_map (rows_of_frame None w.found) o) 0) is
    ∙ ap (λ (o : Result (List (List ℕ)) Fault). elim o as (λ _. ℕ) [
      | Ok planes ↦ frame.output_height
      | Err fault ↦ 0
    ]) f.3

pub started : (bytes rest : List ℕ) → start_at bytes ≡ Ok (tt, rest)
    → whole_rows bytes ≡ whole_rows_rest None nothing_found rest
unfolding whole_rows_within
started bytes rest e = rw (e, whole_rows_within) refl

pub faultless_streams_have_all_rows : (settings : Settings) (bytes : List ℕ) (s : Shown) (frame : Frame)
    → shown settings bytes ≡ Ok s → s.fault ≡ None → s.told.frame ≡ Some frame
    → whole_rows bytes ≡ frame.output_height
unfolding shown_within
faultless_streams_have_all_rows settings bytes s frame e none framed =
    let start = bind-ok (start_at bytes) _ s e in
    started bytes start.0.1 start.1 ∙ rest-whole settings start.0.1 s frame start.2 none framed
