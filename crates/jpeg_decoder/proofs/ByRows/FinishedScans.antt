-- What is said of a stream once the first scan was read whose lines were given: what follows it.
use Rattle.std.proofs.Common.{◌≡◌, ◌∙◌, ℕ, Bool, true, false, List, Option, Result, Ok, Err, refl, ap, subst, sym}
use Rattle.std.specs.Prelude.{IfSome, MatchResult, is_some}
use Rattle.jpeg_bits.specs.Reading.{NamesFormat}
use Rattle.jpeg_bits.specs.Stream.{Stream}
use Rattle.jpeg_bits.specs.declared.color_transform.ColorTransform.{ColorTransform}
use Rattle.jpeg_bits.specs.declared.error.Error.{Error}
use Rattle.jpeg_meaning.specs.Found.{Found}
use Rattle.jpeg_meaning.specs.Reported.{IsOfTurns}
use Rattle.jpeg_meaning.specs.States.{OnTold, OnToldRefusal}
use Rattle.jpeg_meaning.specs.Stream.{told_of}
use Rattle.jpeg_meaning.specs.declared.settings.Settings.{Settings}
use Rattle.jpeg_decoder.specs.ByRows.{keeps_transform, walk_after, walk_on}
use Rattle.jpeg_decoder.specs.Givers.{GivesScan}
use Rattle.jpeg_decoder.specs.RowScans.{HasHeader, InScan, SaysAtScan}
use Rattle.jpeg_decoder.specs.Walks.{IsKnownIf, known_if}
use Rattle.jpeg_decoder.specs.declared.by_rows.first_scan.RowScan.{RowScan}
use Rattle.jpeg_decoder.specs.declared.scan.work.Walk.{Walk}
use Rattle.jpeg_decoder.specs.declared.stream.state.Step.{Step}
use Rattle.jpeg_decoder.proofs.ByRows.FirstRows.{ended-first}
use Rattle.jpeg_decoder.proofs.ByRows.FromScan.{frames-stay, on-stops, short-on, some-ends, some-stops, some-stops-exceeds}
use Rattle.jpeg_decoder.proofs.ByRows.FromScan.{some-stops-told, some-takes, takes-if}
use Rattle.jpeg_decoder.proofs.ByRows.Joined.{ReadsOn, ReadsWithout, TakesScan, end-exceeds, end-told, ends-at, no-turns}
use Rattle.jpeg_decoder.proofs.ByRows.Joined.{walk-exceeds, walk-told, walk-turns}

module _ (settings : Settings) (k : Bool) (found : Found) (at : Stream) (scan : RowScan) (cur : Stream)
    (bytes : List ℕ) (h : InScan settings k found at scan cur bytes) (now : Found) (src : Stream) (walk : Walk)
    (same : walk ≡ scan.walk) (all : IfSome found.said.frame (λ f. f.mcus_high ≡ scan.giver.rows)) where
  abbrev limit : Option ℕ
  limit = settings.max_blocks

  abbrev left : Option ℕ
  left = walk.budget.left

  abbrev from : Stream
  from = known_if k at

  head : HasHeader settings limit left found found scan.header from h.mid
  head = subst (λ (w : Walk). HasHeader settings limit w.budget.left found found scan.header from h.mid) (sym same)
      h.header

  -- The scan is refused.
  pub scan-stops : (e : Error) → told_of now.said ≡ told_of found.said
      → ReadsWithout found scan.header now h.mid (Err e) src
      → SaysAtScan settings k found at (Err e) src (told_of now.said) walk.budget.exceeded bytes
  scan-stops e kept a = record {
    gives = some-stops settings limit left found found scan.header from h.mid head now src e (told_of now.said) bytes a;
    tells = some-stops-told settings limit left found found scan.header from h.mid head now src e kept a;
    turns = λ _. no-turns limit found at.bytes (told_of now.said) kept;
    exceeds = some-stops-exceeds settings limit left found found scan.header from h.mid head now src e
        walk.budget.exceeded (ap (λ (w : Walk). w.budget.exceeded) same ∙ h.going.0) a;
    given = ended-first settings k found at scan cur bytes h (Err e) src.known all;
  }

  -- It is read, and the walk goes on.
  module _ (step : Step) (a : ReadsWithout found scan.header now h.mid (Ok step) src) (end : Found) (new : Stream)
      (exceeded : Bool) where
    takes : TakesScan limit found from left step now (known_if k src)
    takes = takes-if limit left found now k at src step
        (some-takes settings limit left found found scan.header from h.mid head now src step a)

    pub is-short : IsKnownIf k 1 src
    is-short = short-on limit left found now k at src step h.known
        (some-takes settings limit left found found scan.header from h.mid head now src step a)

    -- What follows it is refused.
    pub walk-stops : (e : Error) → ReadsOn left now step end (known_if k src) (Err e) new
        → OnToldRefusal {X = Unit {0}} (known_if k src) new (Err e)
        (told_of end.said ≡ told_of (walk_on left now step src.bytes).found.said)
        → (k ≡ true → IsOfTurns (λ n. told_of (walk_after left n now step src.bytes).found.said) (told_of end.said))
        → OnTold {X = Unit {0}} (known_if k src) new (Err e) (exceeded ≡ (walk_on left now step src.bytes).exceeded)
        → SaysAtScan settings k found at (Err e) new (told_of end.said) exceeded bytes
    walk-stops e reads told turns over = record {
      gives = on-stops settings limit left found found scan.header from h.mid head k now end src new step e
          (told_of end.said) bytes takes reads;
      tells = walk-told {X = Unit {0}} limit left found now from (known_if k src) new step (Err e) (told_of end.said)
          takes told;
      turns = walk-turns limit left found now from (known_if k src) step (told_of end.said) takes turns;
      exceeds = walk-exceeds {X = Unit {0}} limit left found now from (known_if k src) new step (Err e) exceeded takes
          over;
      given = ended-first settings k found at scan cur bytes h (Err e) new.known all;
    }

    -- The image ends, and what was said last is checked.
    pub walk-ends : (r : Result (Unit {0}) Error) → ReadsOn left now step end (known_if k src) (Ok tt) new
        → (k ≡ true → IsOfTurns (λ n. told_of (walk_after left n now step src.bytes).found.said) (told_of end.said))
        → OnTold {X = Unit {0}} (known_if k src) new (Ok tt) (exceeded ≡ (walk_on left now step src.bytes).exceeded)
        → IfSome found.said.frame (λ f. GivesScan found f scan.header scan.giver.convert h.mid (Ok step) bytes)
        → (is_some found.said.frame ≡ true → now.said.frame ≡ found.said.frame)
        → (is_some now.said.frame ≡ true → end.said.frame ≡ now.said.frame)
        → (t : ColorTransform) → t ≡ scan.transform
        → IfSome end.said.frame (λ f. MatchResult r (λ _. keeps_transform t settings end.said f ≡ true)
        (λ e. (keeps_transform t settings end.said f ≡ false) × NamesFormat e))
        → SaysAtScan settings k found at r new (told_of end.said) exceeded bytes
    walk-ends r reads turns over gives first last t is checks =
        let ends = ends-at limit left found now end from (known_if k src) new step tt takes reads in
        record {
          gives = some-ends settings limit left found found scan.header from h.mid head now end scan.transform
              scan.giver.convert src new step r bytes h.comes a ends gives
              (frames-stay settings limit left found found scan.header from h.mid head now end first last)
              (subst (λ (t : ColorTransform). IfSome end.said.frame (λ f. MatchResult r
              (λ _. keeps_transform t settings end.said f ≡ true)
              (λ e. (keeps_transform t settings end.said f ≡ false) × NamesFormat e))) is checks);
          tells = end-told {X = Unit {0}} limit found end from new r (told_of end.said) ends refl;
          turns = walk-turns limit left found now from (known_if k src) step (told_of end.said) takes turns;
          exceeds = end-exceeds {X = Unit {0}} limit found from new r exceeded
              (walk-exceeds {X = Unit {0}} limit left found now from (known_if k src) new step (Ok tt) exceeded takes
              over);
          given = ended-first settings k found at scan cur bytes h r new.known all;
        }
