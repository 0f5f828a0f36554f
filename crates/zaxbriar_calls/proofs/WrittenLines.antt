-- Lines that were read of a picture, and written to their places, or not for lack of memory.
use Rattle.std.proofs.Common.{◌≡◌, ◌∙◌, ◌≤◌, ℕ, List, Option, Some, None, Result, Err, true, Bool}
use Rattle.std.proofs.Common.{ap, inl, inr, length, refl, subst, sym}
use Rattle.std.specs.Prelude.{option_map}
use Rattle.std.specs.List.{concat}
use Rattle.jpeg_bits.specs.declared.error.Error.{Error}
use Rattle.jpeg_bits.specs.declared.error.Error.TheVariants as errors
use Rattle.jpeg_decoder.specs.Bytes.{AreLinesOf, IsCounted, shape_in}
use Rattle.jpeg_decoder.specs.declared.picture.partial.PartialLines.{PartialLines}
use Rattle.jpeg_meaning.specs.Pixels.{info_by}
use Rattle.jpeg_meaning.specs.States.{Decoding}
use Rattle.jpeg_meaning.specs.Stream.{told_of}
use Rattle.jpeg_meaning.specs.declared.images.ImageInfo.{ImageInfo}
use Rattle.zaxbriar_calls.proofs.Decoded.{lines-high, lines-stored}
use Rattle.zaxbriar_calls.proofs.OwnPlanes.{lines-arranged}
use Rattle.zaxbriar_calls.proofs.Parts.{lines-reached, part-outcome, rows-counted}
use Rattle.zaxbriar_calls.specs.Crops.{part_rows}
use Rattle.zaxbriar_calls.specs.Faults.{IsFault, IsOfDecoder, IsOfReading, IsPart}
use Rattle.zaxbriar_calls.specs.Given.{Brings, EndsImage, KnowsExceeded, given_rest, outcome_of}
use Rattle.zaxbriar_calls.specs.Given.{rows_rest}
use Rattle.zaxbriar_calls.specs.Lines.{HasLines}
use Rattle.zaxbriar_calls.specs.Outcomes.{DecodesLines}
use Rattle.zaxbriar_calls.specs.Passes.{exceeds_rest}
use Rattle.zaxbriar_calls.specs.Upright.{arranged_part}
use Rattle.zaxbriar_calls.specs.WrittenLines.{AreLinesFor, WritesLines}
use Rattle.zaxbriar_calls.specs.declared.answers.Refusal.{Refusal}
use Rattle.zaxbriar_calls.specs.declared.answers.Refusal.TheVariants as refusals
use Rattle.zaxbriar_calls.specs.declared.extents.Extent.{Extent}
use Rattle.zaxbriar_calls.specs.declared.extents.Extent.TheVariants.{Planes}
use Rattle.zaxbriar_calls.specs.declared.lines.Lines.{Lines}
use Rattle.zaxbriar_calls.specs.declared.options.Options.{Options}

-- Lines that were read of the rest of a stream.
pub record LinesRead (extent : Extent) (decoded : PartialLines) (old new : Decoding) : Type 0 where
  pub frame : new.found.said.frame ≡ old.found.said.frame
  pub brings : old.source.known ≡ true → Brings (given_rest extent old.settings old.found old.source.bytes)
      (concat decoded.lines) decoded.fault (told_of new.found.said)
  pub ends : old.source.known ≡ true → EndsImage extent old new
  pub rows : old.source.known ≡ true
      → decoded.whole_rows ≡ rows_rest extent old.settings old.found old.source.bytes
  pub exceeded : old.source.known ≡ true
      → new.exceeded ≡ exceeds_rest extent old.settings old.found old.source.bytes

-- those that were read are those of the picture that was described
pub lines-for : (o : Options) (info : ImageInfo) (precision orientation : ℕ) (lines : Lines) (picture : List (List ℕ))
    (old new : Decoding)
    → HasLines o info precision orientation lines → new.settings ≡ old.settings
    → new.found.said.frame ≡ old.found.said.frame
    → option_map (info_by old.settings) old.found.said.frame ≡ Some info
    → option_map (λ f. f.precision) old.found.said.frame ≡ Some precision
    → IsCounted (shape_in new) → AreLinesOf (shape_in new) picture → AreLinesFor lines picture
lines-for o info precision orientation lines picture old new has stay same i p counted are = record {
  options = o;
  info = info;
  precision = precision;
  orientation = orientation;
  asked = has;
  height = lines-high info old.settings new.settings old.found.said.frame new.found.said.frame picture stay same i are;
  bytes = lines-stored o info precision orientation lines old.settings new.settings old.found.said.frame
      new.found.said.frame picture has stay same i p counted are;
}

-- they were written
lines-put : (extent : Extent) (needed : ℕ) (lines : Lines) (decoded : PartialLines) (r : Result ℕ Refusal)
    (old new : Decoding) (before after : List ℕ) → (extent ≡ Planes → ⊥) → needed ≤ length before
    → LinesRead extent decoded old new → r ≡ outcome_of (part_rows lines.part decoded.whole_rows) decoded.fault
    → after ≡ arranged_part lines (concat decoded.lines) before
    → DecodesLines extent needed lines r old new before after
lines-put extent needed lines decoded r old new before after pictures fits read is put =
    let rows = part_rows lines.part decoded.whole_rows in record {
      fits = fits;
      reaches = λ known. lines-reached extent lines rows decoded.fault r old new before after is (record {
        samples = concat decoded.lines;
        frame = read.frame;
        brings = read.brings known;
        ends = read.ends known;
        pixels = put ∙ lines-arranged extent lines (concat decoded.lines) before pictures;
      });
      rows = λ known. rows-counted _ rows decoded.fault r is
          (ap (λ (n : ℕ). part_rows lines.part n) (read.rows known));
      named = λ known. part-outcome
          (λ (x : Refusal). IsFault (given_rest extent old.settings old.found old.source.bytes) x) rows decoded.fault r is
          (λ e. tt);
      exceeded = λ known.
          outcome-known (exceeds_rest extent old.settings old.found old.source.bytes) new.exceeded rows decoded.fault r is
          (read.exceeded known);
      kept = part-outcome (λ (x : Refusal). (IsPart x → ⊥) → after ≡ before) rows decoded.fault r is
          (λ e none. absurd (none tt));
      own = part-outcome (λ (x : Refusal). IsOfReading x) rows decoded.fault r is (λ e. tt);
    }
  where
    outcome-known : (expected exceeded : Bool) (n : ℕ) (fault : Option Error) (x : Result ℕ Refusal)
        → x ≡ outcome_of n fault → exceeded ≡ expected → KnowsExceeded expected x exceeded
    outcome-known expected exceeded n None x e k =
        subst (λ (y : Result ℕ Refusal). KnowsExceeded expected y exceeded) (sym e) k
    outcome-known expected exceeded n (Some f) x e k =
        subst (λ (y : Result ℕ Refusal). KnowsExceeded expected y exceeded) (sym e) k

-- nothing was, for a refusal of the decoder
pub lines-unread : (extent : Extent) (needed : ℕ) (lines : Lines) (x : Refusal) (old new : Decoding)
    (before : List ℕ) → needed ≤ length before → IsOfDecoder x
    → (old.source.known ≡ true → IsFault (given_rest extent old.settings old.found old.source.bytes) x)
    → (old.source.known ≡ true → KnowsExceeded {X = ℕ}
    (exceeds_rest extent old.settings old.found old.source.bytes) (Err x) new.exceeded)
    → DecodesLines extent needed lines (Err x) old new before before
lines-unread extent needed lines (refusals.Stream e) old new before fits own named exceeded = record {
  fits = fits;
  reaches = λ known. tt;
  rows = λ known. tt;
  named = named;
  exceeded = exceeded;
  kept = λ _. refl;
  own = tt;
}
lines-unread extent needed lines refusals.Reader old new before fits own named exceeded = record {
  fits = fits;
  reaches = λ known. tt;
  rows = λ known. tt;
  named = named;
  exceeded = exceeded;
  kept = λ _. refl;
  own = tt;
}
lines-unread extent needed lines (refusals.Part e rows) old new before fits own named exceeded = absurd own
lines-unread extent needed lines (refusals.Argument t) old new before fits own named exceeded = absurd own
lines-unread extent needed lines refusals.NoRoom old new before fits own named exceeded = absurd own
lines-unread extent needed lines refusals.TooLarge old new before fits own named exceeded = absurd own

-- lines that were read were written, or there was no memory for that
pub lines-decoded : (extent : Extent) (needed : ℕ) (lines : Lines) (decoded : PartialLines) (r : Result ℕ Refusal)
    (old new : Decoding) (before after : List ℕ) → (extent ≡ Planes → ⊥) → needed ≤ length before
    → LinesRead extent decoded old new → WritesLines lines decoded r before after
    → DecodesLines extent needed lines r old new before after
lines-decoded extent needed lines decoded r old new before after pictures fits read (inl w) =
    lines-put extent needed lines decoded r old new before after pictures fits read w.0 w.1
lines-decoded extent needed lines decoded r old new before after pictures fits read (inr w) =
    subst (λ (a : List ℕ). DecodesLines extent needed lines r old new before a) (sym w.1)
    (subst (λ (x : Result ℕ Refusal). DecodesLines extent needed lines x old new before before) (sym w.0)
    (lines-unread extent needed lines (refusals.Stream errors.OutOfMemory) old new before fits tt (λ known. tt)
    (λ known. tt)))
