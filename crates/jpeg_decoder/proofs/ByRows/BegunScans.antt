-- What a call says that begins to give lines at the header of a first scan, at each of its ends.
use Rattle.std.proofs.Common.{◌≡◌, ◌∙◌, ℕ, Bool, true, false, List, [], Option, Some, Result, Ok, Err}
use Rattle.std.proofs.Common.{inl, refl, sym, ap, subst, is_some}
use Rattle.std.specs.Prelude.{IfErr, IfSome}
use Rattle.jpeg_bits.specs.Reading.{Names}
use Rattle.jpeg_bits.specs.Stream.{Stream}
use Rattle.jpeg_bits.specs.declared.beyond.Beyond.TheVariants.{Zeros}
use Rattle.jpeg_bits.specs.declared.color_transform.ColorTransform.{ColorTransform}
use Rattle.jpeg_bits.specs.declared.error.Error.{Error}
use Rattle.jpeg_segments.specs.Frame.{Frame}
use Rattle.jpeg_segments.specs.ScanHeader as headers
use Rattle.jpeg_segments.specs.declared.frame.CodingProcess.{CodingProcess}
use Rattle.jpeg_segments.specs.declared.frame.CodingProcess.TheVariants.{DctSequential}
use Rattle.jpeg_pixels.specs.declared.color_convert.ColorConvert.{ColorConvert}
use Rattle.jpeg_meaning.specs.Found.{Found, Said}
use Rattle.jpeg_meaning.specs.Reported.{IsOfTurns}
use Rattle.jpeg_meaning.specs.ScanSegments.{codings_of}
use Rattle.jpeg_meaning.specs.Sound.{IsUnread}
use Rattle.jpeg_meaning.specs.States.{OnTold, OnToldRefusal}
use Rattle.jpeg_meaning.specs.Stream.{told_of}
use Rattle.jpeg_meaning.specs.Work.{is_above, work_of_header}
use Rattle.jpeg_meaning.specs.declared.settings.Settings.{Settings}
use Rattle.jpeg_decoder.specs.ByRows.{comes_by_rows, scan_walk_for, turn_without, walk_after, walk_on}
use Rattle.jpeg_decoder.specs.FirstLines.{GivesFirst, GivesFirstIf, lines_at_scan}
use Rattle.jpeg_decoder.specs.RowScans.{ComesBy, HasHeader, InScan, ReadsHeader, SaysAtScan}
use Rattle.jpeg_decoder.specs.Steps.{IsDct, IsRefusal, turn_of}
use Rattle.jpeg_decoder.specs.Walks.{IsKnownIf, known_if}
use Rattle.jpeg_decoder.specs.declared.by_rows.first_scan.RowScan.{RowScan}
use Rattle.jpeg_decoder.specs.declared.stream.state.Step.{Step}
use Rattle.jpeg_decoder.proofs.ByRows.FirstLines.{IsOutOrNone, codings-lack, header-lacks, none-first, none-first-if}
use Rattle.jpeg_decoder.proofs.ByRows.FirstLines.{unchecked-lacks}
use Rattle.jpeg_decoder.proofs.ByRows.FromScan.{at-frame, comes-fits, frames-stay, none-ends, none-stops}
use Rattle.jpeg_decoder.proofs.ByRows.FromScan.{none-stops-exceeds, none-stops-told, none-takes, on-stops, short-on}
use Rattle.jpeg_decoder.proofs.ByRows.FromScan.{some-stops, some-stops-exceeds, some-stops-told, takes-if, unread-gives}
use Rattle.jpeg_decoder.proofs.ByRows.GivenScans.{unread-reads}
use Rattle.jpeg_decoder.proofs.ByRows.Joined.{MakesFound, ReadsOn, ReadsScan, ReadsWithout, TakesScan, end-exceeds}
use Rattle.jpeg_decoder.proofs.ByRows.Joined.{end-told, ends-at, header-exceeds, header-told, no-turns, walk-exceeds}
use Rattle.jpeg_decoder.proofs.ByRows.Joined.{walk-told, walk-turns}
use Rattle.jpeg_decoder.proofs.Partial.EndedScans.{no-blocks-after}

-- ---- the header is refused

pub says-unread : (settings : Settings) (k : Bool) (found now : Found) (at new : Stream) (e : Error) (b : Bool)
    → now ≡ found → ReadsHeader settings.max_blocks found (known_if k at) (Err e) new
    → OnToldRefusal {X = headers.Scan} (known_if k at) new (Err e)
    (b ≡ is_above settings.max_blocks (work_of_header found at.bytes))
    → SaysAtScan settings k found at (Err e) new (told_of now.said) b []
says-unread settings k found now at new e b same a h = record {
  gives = unread-gives settings settings.max_blocks found (told_of now.said) (known_if k at) new e [] refl a;
  tells = header-told settings.max_blocks found now (known_if k at) new e same a;
  turns = λ is.
      no-turns settings.max_blocks found at.bytes (told_of now.said) (ap (λ (f : Found). told_of f.said) same);
  exceeds = header-exceeds settings.max_blocks found (known_if k at) new e b a h;
  given = λ is. none-first (λ n. lines_at_scan n settings found at.bytes) e new.known
      (λ still. header-lacks 1 settings found at.bytes e (a.1 is still));
}

-- ---- the header is read

-- what is said of the walk after a scan
pub record WalksOn (left : Option ℕ) (k : Bool) (now end : Found) (step : Step) (cur : Stream)
    (r : Result (Unit {0}) Error) (new : Stream) (b : Bool) : Type 0 where
  pub reads : ReadsOn left now step end (known_if k cur) r new
  pub told : OnToldRefusal (known_if k cur) new r
      (told_of end.said ≡ told_of (walk_on left now step cur.bytes).found.said)
  pub turns : k ≡ true → IsOfTurns (λ n. told_of (walk_after left n now step cur.bytes).found.said) (told_of end.said)
  pub exceeded : OnTold (known_if k cur) new r (b ≡ (walk_on left now step cur.bytes).exceeded)

sequential-dct : (p : CodingProcess) → p ≡ DctSequential → IsDct p
sequential-dct p e = subst IsDct (sym e) tt

module _ (settings : Settings) (k : Bool) (left : Option ℕ) (found kept : Found) (scan : headers.Scan)
    (at mid : Stream) (h : HasHeader settings settings.max_blocks left found kept scan (known_if k at) mid) where
  same-turns : (now : Found) → told_of now.said ≡ told_of kept.said → k ≡ true
      → IsOfTurns (λ n. told_of (scan_walk_for settings.max_blocks n found at.bytes).found.said) (told_of now.said)
  same-turns now e is =
      no-turns settings.max_blocks found at.bytes (told_of now.said)
      (e ∙ ap (λ (f : Found). told_of f.said) h.stays)

  -- Its picture doesn't come by rows.
  unchosen-lacks : IfSome kept.said.frame (λ f. comes_by_rows settings kept.said f scan ≡ false) → k ≡ true
      → (e : Error) → IsOutOrNone e (lines_at_scan 1 settings found at.bytes)
  unchosen-lacks none is e =
      let frame = h.legal.frame in
      unchecked-lacks 1 settings found scan frame at.bytes mid.bytes (h.header.1 is).1 h.legal.framed e
      (inl (subst (λ (f : Found). comes_by_rows settings f.said frame scan ≡ false) h.stays
      (at-frame (λ (f : Frame). comes_by_rows settings kept.said f scan ≡ false) kept.said.frame frame
      (ap (λ (f : Found). f.said.frame) h.stays ∙ h.legal.framed) none)))

  unchosen-first : IfSome kept.said.frame (λ f. comes_by_rows settings kept.said f scan ≡ false)
      → (r : Result (Unit {0}) Error) (known : Bool) (bytes : List ℕ) → IfErr r (λ _. bytes ≡ []) → k ≡ true
      → GivesFirstIf (λ n. lines_at_scan n settings found at.bytes) r known bytes
  unchosen-first none r known bytes empty is =
      none-first-if (λ n. lines_at_scan n settings found at.bytes) r known bytes empty
      (λ e still. unchosen-lacks none is e)

  -- A table of it isn't set.
  uncoded-first : (e : Error) (known : Bool) → IfSome kept.said.frame (λ f. Names e (codings_of kept.said f scan))
      → k ≡ true → GivesFirst (λ n. lines_at_scan n settings found at.bytes) e known []
  uncoded-first e known n is =
      let frame = h.legal.frame in
      none-first (λ n. lines_at_scan n settings found at.bytes) e known
      (λ still. codings-lack 1 settings found scan frame at.bytes mid.bytes (h.header.1 is).1 h.legal.framed e
      (subst (λ (f : Found). Names e (codings_of f.said frame scan)) h.stays
      (at-frame (λ (f : Frame). Names e (codings_of kept.said f scan)) kept.said.frame frame
      (ap (λ (f : Found). f.said.frame) h.stays ∙ h.legal.framed) n)))

  -- ---- its lines are given as it is read

  pub kept-header : HasHeader settings settings.max_blocks left kept kept scan (known_if k at) mid
  kept-header = subst (λ (f : Found). HasHeader settings settings.max_blocks left f kept scan (known_if k at) mid)
      (sym h.stays) h

  -- The state is what it was, and the scan is begun.
  pub begun-at : (row : RowScan) → IsUnread found
      → (IsUnread kept → InScan settings k kept at row mid []) → InScan settings k found at row mid []
  begun-at row unread is =
      subst (λ (f : Found). InScan settings k f at row mid []) h.stays
      (is (subst IsUnread (sym h.stays) unread))

  -- a table of it isn't set
  some-unread : (t : ColorTransform) (convert : ColorConvert) (e : Error) → ComesBy settings kept scan t convert
      → IsRefusal e × IfSome kept.said.frame (λ f. Names e (codings_of kept.said f scan))
      → ReadsWithout kept scan kept mid (Err e) mid
  some-unread t convert e comes n =
      let frame = h.legal.frame in
      let framed : kept.said.frame ≡ Some frame = ap (λ (f : Found). f.said.frame) h.stays ∙ h.legal.framed in
      let fits = at-frame _ kept.said.frame frame framed
      (comes-fits settings kept.said scan t convert kept.said.frame comes) in
      unread-reads (λ (s : Step). turn_without (turn_of kept s)) kept scan mid mid (Err e) e refl
      (no-blocks-after Zeros kept frame scan mid e framed (sequential-dct frame.process fits.0)
      (n.0, at-frame (λ (f : Frame). Names e (codings_of kept.said f scan)) kept.said.frame frame framed n.1))

  pub some-refused : (t : ColorTransform) (convert : ColorConvert) (e : Error) (b : Bool) → b ≡ false
      → ComesBy settings kept scan t convert
      → IsRefusal e × IfSome kept.said.frame (λ f. Names e (codings_of kept.said f scan))
      → SaysAtScan settings k found at (Err e) mid (told_of kept.said) b []
  some-refused t convert e b none comes n =
      let a = some-unread t convert e comes n in
      record {
        gives = some-stops settings settings.max_blocks left found kept scan (known_if k at) mid h kept mid e
            (told_of kept.said) [] a;
        tells = some-stops-told settings settings.max_blocks left found kept scan (known_if k at) mid h kept mid e refl
            a;
        turns = same-turns kept refl;
        exceeds = some-stops-exceeds settings settings.max_blocks left found kept scan (known_if k at) mid h kept mid e
            b none a;
        given = uncoded-first e mid.known n.1;
      }

  -- ---- its lines are given at the end

  pub none-refused : (now : Found) (cur : Stream) (e : Error) (b : Bool) → b ≡ false
      → IfSome kept.said.frame (λ f. comes_by_rows settings kept.said f scan ≡ false) → told_of now.said ≡ told_of kept.said → ReadsScan kept scan now mid (Err e) cur
      → SaysAtScan settings k found at (Err e) cur (told_of now.said) b []
  none-refused now cur e b none apart same a = record {
    gives = none-stops settings settings.max_blocks left found kept scan (known_if k at) mid h now cur e
        (told_of now.said) [] a;
    tells = none-stops-told settings settings.max_blocks left found kept scan (known_if k at) mid h now cur e same a;
    turns = same-turns now same;
    exceeds = none-stops-exceeds settings settings.max_blocks left found kept scan (known_if k at) mid h now cur e b
        none a;
    given = unchosen-first apart (Err e) cur.known [] refl;
  }

  none-taken : (now : Found) (cur : Stream) (step : Step) → ReadsScan kept scan now mid (Ok step) cur
      → TakesScan settings.max_blocks found (known_if k at) left step now cur
  none-taken now cur step a =
      none-takes settings settings.max_blocks left found kept scan (known_if k at) mid h now cur step a

  takes : (now : Found) (cur : Stream) (step : Step) → ReadsScan kept scan now mid (Ok step) cur
      → TakesScan settings.max_blocks found (known_if k at) left step now (known_if k cur)
  takes now cur step a =
      takes-if settings.max_blocks left found now k at cur step (none-taken now cur step a)

  -- The source counts as known after it, too.
  pub none-short : (now : Found) (cur : Stream) (step : Step) → IsKnownIf k 0 at
      → ReadsScan kept scan now mid (Ok step) cur → IsKnownIf k 1 cur
  none-short now cur step known a =
      short-on settings.max_blocks left found now k at cur step known (none-taken now cur step a)

  pub none-on-refused : (now end : Found) (cur new : Stream) (step : Step) (e : Error) (b : Bool)
      → IfSome kept.said.frame (λ f. comes_by_rows settings kept.said f scan ≡ false) → ReadsScan kept scan now mid (Ok step) cur → WalksOn left k now end step cur (Err e) new b
      → SaysAtScan settings k found at (Err e) new (told_of end.said) b []
  none-on-refused now end cur new step e b apart a on =
      let t = takes now cur step a in
      record {
        gives = on-stops settings settings.max_blocks left found kept scan (known_if k at) mid h k now end cur new step
            e (told_of end.said) [] t on.reads;
        tells = walk-told {X = Unit {0}} settings.max_blocks left found now (known_if k at) (known_if k cur) new step
            (Err e) (told_of end.said) t on.told;
        turns = walk-turns settings.max_blocks left found now (known_if k at) (known_if k cur) step (told_of end.said)
            t on.turns;
        exceeds = walk-exceeds {X = Unit {0}} settings.max_blocks left found now (known_if k at) (known_if k cur) new
            step (Err e) b t on.exceeded;
        given = unchosen-first apart (Err e) new.known [] refl;
      }

  -- The picture is made where the stream ends.
  pub none-ended : (now end : Found) (said : Said) (cur new : Stream) (step : Step) (r : Result (Unit {0}) Error)
      (b : Bool) (bytes : List ℕ) → IfSome kept.said.frame (λ f. comes_by_rows settings kept.said f scan ≡ false)
      → ReadsScan kept scan now mid (Ok step) cur → WalksOn left k now end step cur (Ok tt) new b
      → (is_some kept.said.frame ≡ true → now.said.frame ≡ kept.said.frame)
      → (is_some now.said.frame ≡ true → end.said.frame ≡ now.said.frame) → said ≡ end.said
      → MakesFound settings end r bytes → IfErr r (λ _. bytes ≡ [])
      → SaysAtScan settings k found at r new (told_of said) b bytes
  none-ended now end said cur new step r b bytes none a on first last same made empty =
      let t = takes now cur step a in
      let told = ap told_of same in
      record {
        gives = none-ends settings settings.max_blocks left found kept scan (known_if k at) mid h k now end cur new
            step tt r (told_of said) bytes none a t on.reads told
            (frames-stay settings settings.max_blocks left found kept scan (known_if k at) mid h now end first last)
            made;
        tells = end-told {X = Unit {0}} settings.max_blocks found end (known_if k at) new r (told_of said)
            (ends-at settings.max_blocks left found now end (known_if k at) (known_if k cur) new step tt t on.reads)
            told;
        turns = walk-turns settings.max_blocks left found now (known_if k at) (known_if k cur) step (told_of said) t
            (λ is. subst (λ (x : Said). IsOfTurns (λ n. told_of (walk_after left n now step cur.bytes).found.said)
            (told_of x)) (sym same) (on.turns is));
        exceeds = end-exceeds {X = Unit {0}} settings.max_blocks found (known_if k at) new r b
            (walk-exceeds {X = Unit {0}} settings.max_blocks left found now (known_if k at) (known_if k cur) new step
            (Ok tt) b t on.exceeded);
        given = unchosen-first none r new.known bytes empty;
      }
