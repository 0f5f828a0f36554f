-- What a cut stream of a writer shows is the picture of the blocks that it holds.
use Rattle.std.proofs.Common.{◌≡◌, ℕ, List, [], ◌∷◌, ◌++◌, None, Some, Ok, Err, refl, sym, ap, ap₂, ◌∙◌, subst}
use Rattle.jpeg_bits.specs.Reading.{End}
use Rattle.jpeg_segments.specs.Frame.{Frame}
use Rattle.jpeg_segments.proofs.Codecs.{bind-ok, err-ok, ok-same}
use Rattle.jpeg_meaning.specs.declared.settings.Settings.{Settings}
use Rattle.jpeg_meaning.specs.ArrayPictures.{as_sent}
use Rattle.jpeg_meaning.specs.Found.{Found, Said, nothing_found, nothing_said}
use Rattle.jpeg_meaning.specs.Levels.{Is8Bit, Levels, nothing_sent}
use Rattle.jpeg_meaning.specs.Shown.{Shown, fault_shown, framed_or, picture_shown, rows_of_found, shown, shown_of}
use Rattle.jpeg_meaning.specs.Shown.{shown_rest, shown_rest_within, shown_within, whole_rows, whole_rows_rest}
use Rattle.jpeg_meaning.specs.Shown.{whole_rows_within}
use Rattle.jpeg_meaning.specs.Stream.{Walked, all_brought, start_at, told_of}
use Rattle.jpeg_meaning.specs.WrittenImages.{WritesImage}
use Rattle.jpeg_meaning.specs.WrittenScans.{Coefficients}
use Rattle.jpeg_meaning.specs.WrittenStreams.{end}
use Rattle.jpeg_meaning.proofs.Partial.Faultless.{framed-some}
use Rattle.jpeg_evidence.specs.CutImages.{HoldsCut, picture_held}
use Rattle.jpeg_evidence.proofs.Cut.CutHeld.{EndedAt, nothing-there}
use Rattle.jpeg_evidence.proofs.Cut.CutPictures.{shown-same}
use Rattle.jpeg_evidence.proofs.Cut.CutSplits.{each-front}

-- The picture of what was found, as it is shown.
record ShowsFound (settings : Settings) (w : Walked) (s : Shown) : Type 0 where
  frame : Frame
  framed : w.found.said.frame ≡ Some frame
  told : s.told ≡ told_of w.found.said
  picture : picture_shown settings w.found ≡ Ok s.picture
  fault : s.fault ≡ fault_shown w.found w.rest

shows-found : (settings : Settings) (w : Walked) (s : Shown) → shown_of settings w.found w.rest ≡ Ok s
    → ShowsFound settings w s
unfolding shown_of
shows-found settings w s e =
    let first = bind-ok (framed_or w.found.said.frame w.rest) _ s e in
    let second = bind-ok (picture_shown settings w.found) _ s first.2 in
    let same : record { told = told_of w.found.said; picture = second.0; fault = fault_shown w.found w.rest } ≡ s
    = ok-same _ s second.2 in
    let f = framed-some w.found.said.frame w.rest first.0 first.1 in
    record {
      frame = f.0;
      framed = f.1;
      told = ap (λ (y : Shown). y.told) (sym same);
      picture = second.1 ∙ ap (λ (y : Shown). Ok y.picture) same;
      fault = ap (λ (y : Shown). y.fault) (sym same);
    }

-- where the bytes end, that is the fault
pub fault-end : (w : Walked) → w.rest ≡ Err End → fault_shown w.found w.rest ≡ Some End
unfolding fault_shown
fault-end w e = ap (fault_shown w.found) e

-- A stream that shows something begins with SOI.
starts : (settings : Settings) (after front more : List ℕ) (s : Shown) → 255 ∷ 216 ∷ after ≡ front ++ more
    → shown settings front ≡ Ok s
    → (part : List ℕ) × (front ≡ 255 ∷ 216 ∷ part) × (after ≡ part ++ more)
    × (shown_rest settings nothing_found part ≡ Ok s)
unfolding shown_within start_at
starts settings after [] more s e h = absurd (err-ok _ s h)
starts settings after (a ∷ []) more s e h =
    let one : a ≡ 255 = cc in
    absurd (err-ok _ s (ap (λ (x : ℕ). shown settings (x ∷ [])) (sym one) ∙ h))
starts settings after (a ∷ b ∷ part) more s e h =
    let one : a ≡ 255 = cc in
    let two : b ≡ 216 = cc in
    let front : a ∷ b ∷ part ≡ 255 ∷ 216 ∷ part
    = ap₂ (λ (x y : ℕ). x ∷ y ∷ part) one two in
    (part, front, cc, sym (ap (shown settings) front) ∙ h)

pub rows-started : (part : List ℕ)
    → whole_rows (255 ∷ 216 ∷ part)
    ≡ rows_of_found (all_brought None nothing_found part).rows (all_brought None nothing_found part).found
unfolding whole_rows_within whole_rows_rest start_at
rows-started part = refl

-- A cut stream of a writer shows the picture of the blocks that it holds, and has the rows above those that it lacks.
pub cut_images_show_what_was_sent : (settings : Settings) (array : Coefficients) (image front more : List ℕ)
    (final : Said) (last : ℕ → Levels) → ((index row column : ℕ) → Is8Bit (array index row column))
    → WritesImage array image final last → image ≡ front ++ more → (s : Shown) → shown settings front ≡ Ok s
    → (part : List ℕ) × (front ≡ 255 ∷ 216 ∷ part) × (said : Said) × (blocks : Coefficients)
    × HoldsCut array blocks part said (whole_rows front) × (s.told ≡ told_of said)
    × (picture_held settings said blocks ≡ Ok s.picture) × ((more ≡ [] → ⊥) → s.fault ≡ Some End)
unfolding shown_rest_within
cut_images_show_what_was_sent settings array image front more final last range w parts s h =
    let a = starts settings w.after front more s (sym w.starts ∙ parts) h in
    let part = a.0 in
    let e : EndedAt array range part more
    = each-front array range nothing_said final (λ k. nothing_sent) last w.after w.written [] part more
    (end nothing_said (λ k. nothing_sent) [] refl) (λ j. nothing-there array range j more) a.2 in
    let c = shows-found settings (all_brought None nothing_found part) s a.3 in
    let said_same : (all_brought None nothing_found part).found.said ≡ e.said = ap (λ (y : Found). y.said) e.found in
    let framed : e.said.frame ≡ Some c.frame = ap (λ (y : Said). y.frame) (sym said_same) ∙ c.framed in
    let shape = (e.is.shaped c.frame framed).0 in
    let same = shown-same settings e.said c.frame e.image e.levels e.brought e.counts shape framed
    (e.framed c.frame framed) (e.whole c.frame framed) in (
      part,
      a.1,
      e.said,
      as_sent e.image e.levels,
      subst (λ (rows : ℕ). HoldsCut array (as_sent e.image e.levels) part e.said rows)
          (sym (ap whole_rows a.1 ∙ rows-started part)) e.holds,
      c.told ∙ ap told_of said_same,
      sym same ∙ ap (picture_shown settings) (sym e.found) ∙ c.picture,
      λ some. c.fault ∙ fault-end (all_brought None nothing_found part) (e.ends some),
    )
