-- Planes that are read of a stream whose header was read, and put into the caller's memory.
use Rattle.std.proofs.Common.{arith, ◌≡◌, ◌∙◌, ◌+◌, ◌<◌, ◌≤◌, ◌++◌, ◌∷◌, ℕ, zero, suc, List, [], None, Ok, Err, ap, drop}
use Rattle.std.proofs.Common.{get_or, length, length-append, refl, sym, take, true}
use Rattle.std.proofs.lemmas.Grind.{common_steps}
use Rattle.std.proofs.lemmas.List.{append-nil, take_all, take_more}
use Rattle.std.proofs.lemmas.List.Folds.{concat-append}
use Rattle.std.specs.List.{concat}
use borrow.Rule.Slice.PartMut.{put_mid}
use Rattle.jpeg_bits.specs.Reading.{Answers}
use Rattle.jpeg_meaning.proofs.Written.ReadTurns.{then-ok}
use Rattle.jpeg_meaning.specs.States.{Decoding}
use Rattle.jpeg_meaning.specs.Stream.{told_of}
use Rattle.zaxbriar_calls.proofs.Laid.{piece-put}
use Rattle.zaxbriar_calls.proofs.Parts.{whole-lacks}
use Rattle.zaxbriar_calls.specs.Faults.{IsFault, IsOfDecoder}
use Rattle.zaxbriar_calls.specs.Given.{Brings, BringsLines, Reaches, as_picture, faultless, given_rest}
use Rattle.zaxbriar_calls.specs.Layouts.{over, size_of_lines}
use Rattle.zaxbriar_calls.specs.Meanings.{planes_rest}
use Rattle.zaxbriar_calls.specs.Outcomes.{room_of}
use Rattle.zaxbriar_calls.specs.Upright.{arranged_by, arranged_part}
use Rattle.zaxbriar_calls.specs.declared.answers.Refusal.{Refusal}
use Rattle.zaxbriar_calls.specs.declared.extents.Extent.{Extent}
use Rattle.zaxbriar_calls.specs.declared.extents.Extent.TheVariants.{Whole, Partial, Planes}
use Rattle.zaxbriar_calls.specs.declared.header.Header.{Header}
use Rattle.zaxbriar_calls.specs.declared.lines.Lines.{Lines}

-- ---- what was read

planes-read : (planes : List (List ℕ)) (old new : Decoding)
    → Answers {X = Unit {0}} (λ u. (told_of new.found.said, planes)) (planes_rest old.settings old.found) old.source
    (Ok tt) new.source
    → old.source.known ≡ true
    → Brings (given_rest Planes old.settings old.found old.source.bytes) (concat planes) None (told_of new.found.said)
planes-read planes old new reads known = record {
  named = None;
  shown = then-ok (planes_rest old.settings old.found old.source.bytes) _
      ((told_of new.found.said, planes), new.source.bytes) _ (reads.1 known).1 refl;
  fault_is = tt;
  memory = λ some. absurd cc;
}

-- it is in the caller's memory
pub planes-brought : (planes : List (List ℕ)) (lines : Lines) (old new : Decoding) (before after : List ℕ)
    → new.found.said.frame ≡ old.found.said.frame
    → Answers {X = Unit {0}} (λ u. (told_of new.found.said, planes)) (planes_rest old.settings old.found) old.source
    (Ok tt) new.source
    → old.source.known ≡ true → after ≡ over (concat planes) before
    → BringsLines Planes lines None old new before after
planes-brought planes lines old new before after frame reads known put = record {
  samples = concat planes;
  frame = frame;
  brings = planes-read planes old new reads known;
  ends = record {
    known = (reads.1 known).0;
    value = (told_of new.found.said, planes);
    reads = (reads.1 known).1;
  };
  pixels = put;
}

pub planes-refused : (r : Refusal) (old : Decoding) → IsFault (planes_rest old.settings old.found old.source.bytes) r
    → IsFault (given_rest Planes old.settings old.found old.source.bytes) r
planes-refused r old h =
    whole-lacks r (planes_rest old.settings old.found old.source.bytes) (λ m. faultless (as_picture m)) h

pub none-reached : (extent : Extent) (lines : Lines) (r : Refusal) (old new : Decoding) (before after : List ℕ)
    → IsOfDecoder r → Reaches extent lines (Err r) old new before after
none-reached extent lines r old new before after of = grind (arith, common_steps)

-- ---- the caller's memory

-- lines need the room of lines
pub lines-room : (extent : Extent) (header : Header) (lines : Lines) (bytes : ℕ) → (extent ≡ Planes → ⊥)
    → room_of extent header lines ≤ bytes → size_of_lines lines.stride lines.row_bytes lines.height ≤ bytes
lines-room Whole header lines bytes n fits = fits
lines-room Partial header lines bytes n fits = fits
lines-room Planes header lines bytes n fits = absurd (n refl)

-- and are given as lines
pub lines-arranged : (extent : Extent) (lines : Lines) (samples old : List ℕ) → (extent ≡ Planes → ⊥)
    → arranged_part lines samples old ≡ arranged_by extent lines samples old
lines-arranged Whole lines samples old n = refl
lines-arranged Partial lines samples old n = refl
lines-arranged Planes lines samples old n = absurd (n refl)

-- the bytes of so many planes and of one more are no more than those of all
pub plane-fits : (index : ℕ) (planes : List (List ℕ)) (d : List ℕ) → index < length planes
    → length (concat (take index planes)) + length (get_or planes index d) ≤ length (concat planes)
plane-fits index [] d h = absurd (omega arith)
plane-fits zero (plane ∷ planes) d h = omega (arith, length-append plane (concat planes))
plane-fits (suc index) (plane ∷ planes) d h =
    let others = plane-fits index planes d (omega arith) in
    let before = length-append plane (concat (take index planes)) in
    omega (arith, others, before, length-append plane (concat planes))

-- one plane more
pub planes-more : (index : ℕ) (planes : List (List ℕ)) (d : List ℕ) → index < length planes
    → concat (take (index + 1) planes) ≡ concat (take index planes) ++ get_or planes index d
planes-more index planes d h =
    ap concat (take_more planes index d h) ∙ concat-append (take index planes) (get_or planes index d ∷ [])
    ∙ ap (λ (l : List ℕ). concat (take index planes) ++ l) (append-nil (get_or planes index d))

-- it is written after those before it
pub plane-put : (index a k : ℕ) (planes : List (List ℕ)) (old now piece d : List ℕ) → index < length planes
    → a ≡ length (concat (take index planes)) → piece ≡ get_or planes index d
    → now ≡ concat (take index planes) ++ drop a old
    → put_mid a k now piece ≡ concat (take (index + 1) planes) ++ drop (a + k) old
plane-put index a k planes old now piece d h at is before =
    ap (λ (l : List ℕ). put_mid a k l piece) before
    ∙ piece-put (concat (take index planes)) old piece a k (sym at)
    ∙ ap (λ (l : List ℕ). (concat (take index planes) ++ l) ++ drop (a + k) old) is
    ∙ ap (λ (l : List ℕ). l ++ drop (a + k) old) (sym (planes-more index planes d h))

pub planes-long : (index : ℕ) (planes : List (List ℕ)) (d : List ℕ) → index < length planes
    → length (concat (take (index + 1) planes)) ≡ length (concat (take index planes)) + length (get_or planes index d)
planes-long index planes d h =
    ap (λ (l : List ℕ). length l) (planes-more index planes d h)
    ∙ length-append (concat (take index planes)) (get_or planes index d)

pub planes-last : (index : ℕ) (planes : List (List ℕ)) → length planes ≤ index
    → concat (take index planes) ≡ concat planes
planes-last index planes h = ap concat (take_all index planes h)
