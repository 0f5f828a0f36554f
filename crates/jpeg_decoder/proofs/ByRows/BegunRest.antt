-- What a call says that begins to give the lines of the rest of a stream, at each of its ends.
use Rattle.std.proofs.Common.{◌≡◌, ◌<◌, ℕ, suc, Bool, Option, true, false, List, [], length, Result, Ok, Err, ap, refl, subst, sym}
use Rattle.std.specs.Prelude.{IfErr, IfOk, option_map}
use Rattle.std.specs.List.{concat}
use Rattle.jpeg_bits.specs.Reading.{IsShort}
use Rattle.jpeg_bits.specs.Stream.{Stream}
use Rattle.jpeg_bits.specs.declared.error.Error.{Error}
use Rattle.jpeg_meaning.specs.Found.{Found, Said}
use Rattle.jpeg_meaning.specs.Reported.{IsOfTurns, told_in_turns}
use Rattle.jpeg_meaning.specs.Sound.{HasDecodedFrame}
use Rattle.jpeg_meaning.specs.States.{OnTold}
use Rattle.jpeg_meaning.specs.Stream.{told_of}
use Rattle.jpeg_meaning.specs.declared.settings.Settings.{Settings}
use Rattle.jpeg_decoder.specs.Bytes.{AreLinesOf, IsWhole, Shape, shape_of}
use Rattle.jpeg_decoder.specs.FirstLines.{first_lines, lines_at_scan}
use Rattle.jpeg_decoder.specs.RowScans.{Begins, BeginsAtScan, IsBegunAt, IsUntaken, LeadsTo, SaysRest}
use Rattle.jpeg_decoder.specs.RowsView.{LinesLeft}
use Rattle.jpeg_decoder.specs.Walks.{IsKnownIf}
use Rattle.jpeg_decoder.specs.declared.by_rows.rest.Begun.{Begun}
use Rattle.jpeg_decoder.specs.declared.by_rows.rest.Begun.TheVariants as begun
use Rattle.jpeg_decoder.proofs.ByRows.FirstLines.{first-at-scan, first-ended, first-refused, none-first, none-first-if}
use Rattle.jpeg_decoder.proofs.ByRows.FirstLines.{same-first}
use Rattle.jpeg_decoder.proofs.ByRows.Joined.{MakesFound}
use Rattle.jpeg_decoder.proofs.ByRows.Shown.{ReadsAhead, ahead-stops, ahead-unexceeded, end-gives, end-tells}
use Rattle.jpeg_decoder.proofs.ByRows.Shown.{end-turns, end-unexceeded, known-there, there-exceeds, there-gives}
use Rattle.jpeg_decoder.proofs.ByRows.Shown.{there-told, there-turns}
use Rattle.jpeg_decoder.proofs.ByRows.WholeLines.{all-lines}
use Rattle.jpeg_decoder.proofs.Pictures.PictureSizes.{lines-whole}

-- ---- the lines of what was found

pub shown-lines : (shape : Option Shape) (lines : List (List ℕ)) (r : Result LinesLeft Error) → AreLinesOf shape lines
    → length lines < 65536 → IfOk r (λ s. s ≡ record { left = lines; line = [] }) → IfOk r (IsUntaken shape)
shown-lines shape lines (Ok s) are few ok =
    subst (IsUntaken shape) (sym ok) (all-lines shape lines are, refl, few)
shown-lines shape lines (Err e) are few ok = tt

-- The lines of a picture together are whole where they are taken as those that are left.
pub shown-whole : (settings : Settings) (found : Found) (lines : List (List ℕ)) (r : Result LinesLeft Error)
    → HasDecodedFrame found → AreLinesOf (option_map (shape_of settings) found.said.frame) lines
    → IfOk r (λ s. s ≡ record { left = lines; line = [] })
    → IfOk r (λ s. IsWhole (option_map (shape_of settings) found.said.frame) (concat s.left))
shown-whole settings found lines (Ok s) decoded are e =
    lines-whole settings found lines (concat s.left) decoded are (ap (λ (s : LinesLeft). concat s.left) e)
shown-whole settings found lines (Err f) decoded are e = tt

-- ---- a segment before the scan is refused

pub says-refused : (settings : Settings) (found now : Found) (old new : Stream) (e : Error) (b : Bool) → b ≡ false
    → ReadsAhead found now old (Err e) new → OnTold {X = Unit {0}} old new (Err e) (told_of now.said
    ≡ told_in_turns settings.max_blocks (suc (length old.bytes)) false found old.bytes)
    → (old.known ≡ true
    → IsOfTurns (λ n. told_in_turns settings.max_blocks n false found old.bytes) (told_of now.said))
    → SaysRest settings found old (Err e) new (told_of now.said) b []
says-refused settings found now old new e b none a told turns = record {
  gives = ahead-stops settings found now (told_of now.said) old new e [] a;
  tells = told;
  turns = turns;
  exceeds = ahead-unexceeded settings.max_blocks found now old new e b none a;
  given = λ k. none-first (λ n. first_lines n settings found old.bytes) e new.known
      (λ still. first-refused settings found old.bytes 1 e (a.1 k still));
}

-- ---- there is a scan

-- What is said of a stream from there on is said of all of it.
pub leads-there : (settings : Settings) (found now : Found) (old mid : Stream) → ReadsAhead found now old (Ok true) mid
    → now.said.frame ≡ found.said.frame → LeadsTo settings found old old.known now mid
leads-there settings found now old mid a stays r new told b bytes s = record {
  gives = there-gives settings found now old mid new r told bytes a stays s.gives;
  tells = there-told settings found now old mid new r told bytes a s.gives s.tells;
  turns = there-turns settings.max_blocks found now old mid told a s.turns;
  exceeds = there-exceeds settings.max_blocks found now old mid new r b a s.exceeds;
  given = λ k. same-first (λ n. lines_at_scan n settings now mid.bytes) (λ n. first_lines n settings found old.bytes)
      r new.known bytes (λ n. first-at-scan settings found now old.bytes mid.bytes n (a.1 k).1) (s.given k);
}

begins-from : (settings : Settings) (k : Bool) (found now end : Found) (old mid new : Stream) (r : Result Begun Error)
    (b : Bool) → LeadsTo settings found old k now mid → BeginsAtScan settings k now mid r end new b
    → Begins settings found old r end new b
begins-from settings k found now end old mid new (Ok (begun.Scan scan)) b leads s = (
  s.0,
  subst (λ (f : Found). IsBegunAt settings found old f scan new) (sym s.1.0.0) (record {
    k = k;
    at = mid;
    leads = leads;
    is = s.1.1;
    none = s.1.0.1;
  }),
)
begins-from settings k found now end old mid new (Ok (begun.Lines shown)) b leads s =
    (leads (Ok tt) new (told_of end.said) b (concat shown.left) s.0, s.1)
begins-from settings k found now end old mid new (Err e) b leads s = leads (Err e) new (told_of end.said) b [] s

pub begins-there : (settings : Settings) (found now end : Found) (old mid new : Stream) (r : Result Begun Error)
    (b : Bool) → IsShort old → ReadsAhead found now old (Ok true) mid → now.said.frame ≡ found.said.frame
    → ((k : Bool) → IsKnownIf k 0 mid → BeginsAtScan settings k now mid r end new b)
    → Begins settings found old r end new b
begins-there settings found now end old mid new r b short a stays h =
    begins-from settings old.known found now end old mid new r b (leads-there settings found now old mid a stays)
    (h old.known (known-there found now old mid short a))

-- ---- there is none

pub says-ended : (settings : Settings) (found now : Found) (said : Said) (old new : Stream)
    (r : Result (Unit {0}) Error) (b : Bool) (bytes : List ℕ) → b ≡ false → ReadsAhead found now old (Ok false) new
    → said ≡ now.said → now.said.frame ≡ found.said.frame → MakesFound settings now r bytes
    → IfErr r (λ _. bytes ≡ []) → SaysRest settings found old r new (told_of said) b bytes
says-ended settings found now said old new r b bytes none a same stays made empty =
    let told = ap told_of same in
    record {
      gives = end-gives settings found now old new r (told_of said) bytes a told stays made;
      tells = end-tells settings.max_blocks found now old new r (told_of said) a told;
      turns = end-turns settings.max_blocks found now old new (told_of said) a told;
      exceeds = end-unexceeded settings.max_blocks found now old new r b none a;
      given = λ k. none-first-if (λ n. first_lines n settings found old.bytes) r new.known bytes empty
          (λ e still. first-ended settings found now old.bytes new.bytes 1 e (a.1 k).1);
    }
