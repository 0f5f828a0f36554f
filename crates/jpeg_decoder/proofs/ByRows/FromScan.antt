-- What a call says of the rest of a stream from the header of its first scan on, at each of its ends.
use Rattle.std.proofs.Common.{◌≡◌, ◌∙◌, ℕ, Bool, true, false, List, length, Option, Some, None, Result, Ok, Err}
use Rattle.std.proofs.Common.{is_some, sym, ap, subst, arith}
use Rattle.std.specs.Prelude.{IfSome, MatchResult}
use Rattle.jpeg_bits.specs.Reading.{Answers, Fault, NamesFormat, Outcome}
use Rattle.jpeg_bits.specs.Stream.{Stream}
use Rattle.jpeg_bits.specs.declared.beyond.Beyond.TheVariants.{Zeros}
use Rattle.jpeg_bits.specs.declared.color_transform.ColorTransform.{ColorTransform}
use Rattle.jpeg_bits.specs.declared.error.Error.{Error}
use Rattle.jpeg_segments.specs.Frame.{Frame}
use Rattle.jpeg_segments.specs.ScanHeader as headers
use Rattle.jpeg_segments.specs.declared.frame.CodingProcess.TheVariants.{DctSequential}
use Rattle.jpeg_pixels.specs.PicturesView.{IsFor}
use Rattle.jpeg_pixels.specs.declared.color_convert.ColorConvert.{ColorConvert}
use Rattle.jpeg_meaning.specs.Found.{Found, Said}
use Rattle.jpeg_meaning.specs.Segments.{Turn}
use Rattle.jpeg_meaning.specs.Sound.{IsDecodedFrame}
use Rattle.jpeg_meaning.specs.States.{OnTold, OnToldRefusal}
use Rattle.jpeg_meaning.specs.Stream.{Told, told_of}
use Rattle.jpeg_meaning.specs.declared.settings.Settings.{Settings}
use Rattle.jpeg_decoder.specs.ByRows.{comes_by_rows, conversion_in, keeps_transform, scan_walk, shown_at_scan}
use Rattle.jpeg_decoder.specs.ByRows.{transform_said, turn_without, turns_without}
use Rattle.jpeg_decoder.specs.Givers.{GivesLines, GivesScan}
use Rattle.jpeg_decoder.specs.Reaching.{turn_after}
use Rattle.jpeg_decoder.specs.RowScans.{ComesBy, HasHeader, ReadsHeader}
use Rattle.jpeg_decoder.specs.Steps.{turn_of}
use Rattle.jpeg_decoder.specs.Walks.{IsKnownIf, known_if}
use Rattle.jpeg_decoder.specs.declared.stream.state.Step.{Step}
use Rattle.jpeg_decoder.proofs.ByRows.AtScan.{turn-lacks}
use Rattle.jpeg_decoder.proofs.ByRows.RowPictures.{comes-by_rows, conversion-in}
use Rattle.jpeg_decoder.proofs.ByRows.Joined.{EndsAt, IsMadeBy, MakesFound, ReadsOn, ReadsScan, ReadsWithout}
use Rattle.jpeg_decoder.proofs.ByRows.Joined.{TakesScan, end-given, gives-err, header-refused, lines-given}
use Rattle.jpeg_decoder.proofs.ByRows.Joined.{lines-refused, on-refused, scan-exceeds}
use Rattle.jpeg_decoder.proofs.ByRows.Joined.{scan-refused, scan-told, takes-scan, takes-without}

-- what holds of the frame that was found
pub at-frame : (P : Frame → Type 0) (o : Option Frame) (frame : Frame) → o ≡ Some frame → IfSome o P → P frame
at-frame P o frame e p = subst (λ (o : Option Frame). IfSome o P) e p

pub seen-if : {X Y : Type 0} (view : X → Y) (read : List ℕ → Result (Y × List ℕ) Fault) (k : Bool) (old new : Stream)
    (r : Result X Error) → (k ≡ true → old.known ≡ true) → Answers view read old r new
    → Answers view read (known_if k old) r new
seen-if view read k old new (Ok x) h a = (a.0, λ e. a.1 (h e))
seen-if view read k old new (Err f) h a = (a.0, (λ e l. a.1 (h e) l), λ e l. a.2 (h e) l)

pub refusal-if : {X : Type 0} (P : Type 0) (k : Bool) (old new : Stream) (r : Result X Error)
    → (k ≡ true → old.known ≡ true) → OnToldRefusal old new r P → OnToldRefusal (known_if k old) new r P
refusal-if P k old new (Ok x) h p = tt
refusal-if P k old new (Err f) h p = λ e l. p (h e) l

-- What the code asks of a scan whose lines are given as it is read.
pub comes-fits : (settings : Settings) (said : Said) (scan : headers.Scan) (t : ColorTransform) (convert : ColorConvert)
    (o : Option Frame) → IfSome o (λ f. (comes_by_rows settings said f scan ≡ true)
    × (t ≡ transform_said settings said f) × (conversion_in f.components t ≡ Ok convert))
    → IfSome o (λ f. (f.process ≡ DctSequential) × (length scan.components ≡ length f.components)
    × IsFor (length f.components) convert)
comes-fits settings said scan t convert None c = tt
comes-fits settings said scan t convert (Some f) c =
    let by = comes-by_rows settings said f scan c.0 in
    (by.sequential, by.all, conversion-in f.components t convert c.2)

-- ---- the header is refused

pub unread-gives : (settings : Settings) (limit : Option ℕ) (found : Found) (told : Told) (old new : Stream) (e : Error)
    (bytes : List ℕ) → limit ≡ settings.max_blocks → ReadsHeader limit found old (Err e) new
    → GivesLines settings found.said.frame (shown_at_scan settings found) old (Err e) new told bytes
unread-gives settings limit found told old new e bytes within a =
    gives-err settings found.said.frame (shown_at_scan settings found) old new e told bytes
    (header-refused settings limit found (λ (u : Unit {0}). (told, bytes)) old new e within a)

-- ---- the scan follows

module _ (settings : Settings) (limit left : Option ℕ) (found kept : Found) (scan : headers.Scan) (old mid : Stream)
    (h : HasHeader settings limit left found kept scan old mid) where
  abbrev pub frame : Frame
  frame = h.legal.frame

  abbrev seen : Found → Step → Turn
  seen now step = turn_of now step

  abbrev reads : List ℕ → Outcome Turn
  reads bytes = (turn_after Zeros found scan bytes).turn

  abbrev seen_without : Found → Step → Turn
  seen_without now step = turn_without (turn_of now step)

  abbrev reads_without : List ℕ → Outcome Turn
  reads_without bytes = turns_without (turn_after Zeros found scan bytes).turn

  abbrev given_of : Told → List ℕ → Unit {0} → Told × List ℕ
  given_of told bytes u = (told, bytes)

  pub decoded : IsDecodedFrame frame
  decoded = h.sound.frames frame h.legal.framed

  kept-framed : kept.said.frame ≡ Some frame
  kept-framed = ap (λ (f : Found). f.said.frame) h.stays ∙ h.legal.framed

  made : (t : ColorTransform) (convert : ColorConvert) → ComesBy settings kept scan t convert
      → IsMadeBy settings found frame scan t convert
  made t convert c =
      let at = at-frame _ kept.said.frame frame kept-framed c in
      subst (λ (f : Found). IsMadeBy settings f frame scan t convert) h.stays (record {
        decoded = decoded;
        framed = kept-framed;
        comes = at.0;
        chosen = at.1;
        converted = at.2;
      })

  abbrev pub Gives : ColorConvert → Result Step Error → List ℕ → Type 0
  Gives convert r bytes = IfSome kept.said.frame (λ f. GivesScan kept f scan convert mid r bytes)

  gives-at : (convert : ColorConvert) (r : Result Step Error) (bytes : List ℕ)
      → Gives convert r bytes → GivesScan found frame scan convert mid r bytes
  gives-at convert r bytes g =
      subst (λ (f : Found). GivesScan f frame scan convert mid r bytes) h.stays
      (at-frame _ kept.said.frame frame kept-framed g)

  without-at : (now : Found) (r : Result Step Error) (cur : Stream) → ReadsWithout kept scan now mid r cur
      → ReadsWithout found scan now mid r cur
  without-at now r cur a = subst (λ (f : Found). ReadsWithout f scan now mid r cur) h.stays a

  scan-at : (now : Found) (r : Result Step Error) (cur : Stream) → ReadsScan kept scan now mid r cur
      → ReadsScan found scan now mid r cur
  scan-at now r cur a = subst (λ (f : Found). ReadsScan f scan now mid r cur) h.stays a

  -- the frame stays
  pub frames-stay : (now end : Found) → (is_some kept.said.frame ≡ true → now.said.frame ≡ kept.said.frame)
      → (is_some now.said.frame ≡ true → end.said.frame ≡ now.said.frame) → end.said.frame ≡ found.said.frame
  frames-stay now end first last =
      let there : now.said.frame ≡ kept.said.frame = first (ap is_some kept-framed) in
      last (ap is_some (there ∙ kept-framed)) ∙ there ∙ ap (λ (f : Found). f.said.frame) h.stays

  told-at : (now : Found) → told_of now.said ≡ told_of kept.said → told_of now.said ≡ told_of found.said
  told-at now e = e ∙ ap (λ (f : Found). told_of f.said) h.stays

  -- ---- the scan is refused

  pub some-stops : (now : Found) (cur : Stream) (e : Error) (told : Told) (bytes : List ℕ)
      → ReadsWithout kept scan now mid (Err e) cur
      → GivesLines settings found.said.frame (shown_at_scan settings found) old (Err e) cur told bytes
  some-stops now cur e told bytes a =
      gives-err settings found.said.frame (shown_at_scan settings found) old cur e told bytes
      (scan-refused settings limit found scan (given_of told bytes)
      (seen_without now) reads_without old mid cur e h.within
      h.header (λ f p. turn-lacks (reads mid.bytes) f p) (without-at now (Err e) cur a))

  pub some-stops-told : (now : Found) (cur : Stream) (e : Error) → told_of now.said ≡ told_of kept.said
      → ReadsWithout kept scan now mid (Err e) cur → OnToldRefusal {X = Unit {0}} old cur (Err e)
      (told_of now.said ≡ told_of (scan_walk limit found old.bytes).found.said)
  some-stops-told now cur e same a =
      scan-told limit found now scan (seen_without now) reads_without old mid cur e (told-at now same) h.header
      (λ f p. turn-lacks (reads mid.bytes) f p) (without-at now (Err e) cur a)

  pub some-stops-exceeds : (now : Found) (cur : Stream) (e : Error) (b : Bool) → b ≡ false
      → ReadsWithout kept scan now mid (Err e) cur
      → OnTold {X = Unit {0}} old cur (Err e) (b ≡ (scan_walk limit found old.bytes).exceeded)
  some-stops-exceeds now cur e b none a =
      scan-exceeds limit found scan (seen_without now) reads_without old mid cur e b none h.header
      (λ f p. turn-lacks (reads mid.bytes) f p) (without-at now (Err e) cur a)

  pub none-stops : (now : Found) (cur : Stream) (e : Error) (told : Told) (bytes : List ℕ)
      → ReadsScan kept scan now mid (Err e) cur
      → GivesLines settings found.said.frame (shown_at_scan settings found) old (Err e) cur told bytes
  none-stops now cur e told bytes a =
      gives-err settings found.said.frame (shown_at_scan settings found) old cur e told bytes
      (scan-refused settings limit found scan (given_of told bytes)
      (seen now) reads old mid cur e h.within h.header
      (λ f p. p) (scan-at now (Err e) cur a))

  pub none-stops-told : (now : Found) (cur : Stream) (e : Error) → told_of now.said ≡ told_of kept.said
      → ReadsScan kept scan now mid (Err e) cur → OnToldRefusal {X = Unit {0}} old cur (Err e)
      (told_of now.said ≡ told_of (scan_walk limit found old.bytes).found.said)
  none-stops-told now cur e same a =
      scan-told limit found now scan (seen now) reads old mid cur e (told-at now same) h.header (λ f p. p)
      (scan-at now (Err e) cur a)

  pub none-stops-exceeds : (now : Found) (cur : Stream) (e : Error) (b : Bool) → b ≡ false
      → ReadsScan kept scan now mid (Err e) cur
      → OnTold {X = Unit {0}} old cur (Err e) (b ≡ (scan_walk limit found old.bytes).exceeded)
  none-stops-exceeds now cur e b none a =
      scan-exceeds limit found scan (seen now) reads old mid cur e b none h.header (λ f p. p)
      (scan-at now (Err e) cur a)

  -- ---- the scan is read

  pub some-takes : (now : Found) (cur : Stream) (step : Step) → ReadsWithout kept scan now mid (Ok step) cur
      → TakesScan limit found old left step now cur
  some-takes now cur step a =
      takes-without limit left found now scan old mid cur step h.header h.taken (without-at now (Ok step) cur a)

  pub none-takes : (now : Found) (cur : Stream) (step : Step) → ReadsScan kept scan now mid (Ok step) cur
      → TakesScan limit found old left step now cur
  none-takes now cur step a =
      takes-scan limit left found now scan old mid cur step h.header h.taken (scan-at now (Ok step) cur a)

  framed-lines : (read : List ℕ → Result ((Told × List ℕ) × List ℕ) Fault) (new : Stream)
      (r : Result (Unit {0}) Error) (told : Told) (bytes : List ℕ)
      → GivesLines settings (Some frame) read old r new told bytes
      → GivesLines settings found.said.frame read old r new told bytes
  framed-lines read new r told bytes g =
      subst (λ (o : Option Frame). GivesLines settings o read old r new told bytes) (sym h.legal.framed) g

  -- what follows it is refused
  pub on-stops : (k : Bool) (now end : Found) (cur new : Stream) (step : Step) (e : Error) (told : Told)
      (bytes : List ℕ) → TakesScan limit found old left step now (known_if k cur)
      → ReadsOn left now step end (known_if k cur) (Err e) new
      → GivesLines settings found.said.frame (shown_at_scan settings found) old (Err e) new told bytes
  on-stops k now end cur new step e told bytes t a =
      gives-err settings found.said.frame (shown_at_scan settings found) old new e told bytes
      (on-refused settings limit left found now end (given_of told bytes) old
      (known_if k cur) new step e h.within t a)

  -- ---- the end

  -- what is checked at the end
  abbrev pub Checks : ColorTransform → Found → Result (Unit {0}) Error → Type 0
  Checks t end r = IfSome end.said.frame (λ f. MatchResult r (λ _. keeps_transform t settings end.said f ≡ true)
      (λ e. (keeps_transform t settings end.said f ≡ false) × NamesFormat e))

  pub some-ends : (now end : Found) (t : ColorTransform) (convert : ColorConvert) (cur new : Stream) (step : Step)
      (r : Result (Unit {0}) Error) (bytes : List ℕ) → ComesBy settings kept scan t convert
      → ReadsWithout kept scan now mid (Ok step) cur → EndsAt limit found old end new
      → Gives convert (Ok step) bytes → end.said.frame ≡ found.said.frame → Checks t end r
      → GivesLines settings found.said.frame (shown_at_scan settings found) old r new (told_of end.said) bytes
  some-ends now end t convert cur new step r bytes c a ends g stays checks =
      let framed : end.said.frame ≡ Some frame = stays ∙ h.legal.framed in
      framed-lines (shown_at_scan settings found) new r (told_of end.said) bytes
      (go r (at-frame _ end.said.frame frame framed checks))
    where
      header : ReadsHeader settings.max_blocks found old (Ok scan) mid
      header = subst (λ (l : Option ℕ). ReadsHeader l found old (Ok scan) mid) h.within h.header

      ended : EndsAt settings.max_blocks found old end new
      ended = subst (λ (l : Option ℕ). EndsAt l found old end new) h.within ends

      go : (r : Result (Unit {0}) Error) → MatchResult r (λ _. keeps_transform t settings end.said frame ≡ true)
          (λ e. (keeps_transform t settings end.said frame ≡ false) × NamesFormat e)
          → GivesLines settings (Some frame) (shown_at_scan settings found) old r new (told_of end.said) bytes
      go (Ok u) keeps =
          lines-given settings found now end frame scan t convert old mid cur new step u bytes
          (made t convert c) header
          (without-at now (Ok step) cur a) ended (gives-at convert (Ok step) bytes g)
          (stays ∙ h.legal.framed) keeps
      go (Err e) keeps =
          lines-refused settings found end frame scan t convert old mid new e bytes
          (made t convert c) header ended (stays ∙ h.legal.framed) keeps.0 keeps.1

  pub none-ends : (k : Bool) (now end : Found) (cur new : Stream) (step : Step) (u : Unit {0})
      (r : Result (Unit {0}) Error)
      (told : Told) (bytes : List ℕ)
      → IfSome kept.said.frame (λ f. comes_by_rows settings kept.said f scan ≡ false)
      → ReadsScan kept scan now mid (Ok step) cur → TakesScan limit found old left step now (known_if k cur)
      → ReadsOn left now step end (known_if k cur) (Ok u) new → told ≡ told_of end.said
      → end.said.frame ≡ found.said.frame → MakesFound settings end r bytes
      → GivesLines settings found.said.frame (shown_at_scan settings found) old r new told bytes
  none-ends k now end cur new step u r told bytes none a t on is stays g =
      end-given settings limit left found now end frame scan k old mid cur new step u r told bytes h.within
      h.legal.framed comes h.header h.taken (scan-at now (Ok step) cur a) t on is stays g
    where
      comes : comes_by_rows settings found.said frame scan ≡ false
      comes = subst (λ (f : Found). comes_by_rows settings f.said frame scan ≡ false) h.stays
          (at-frame _ kept.said.frame frame kept-framed none)

-- ---- a source that counts as known by a condition

pub takes-if : (limit left : Option ℕ) (found now : Found) (k : Bool) (source cur : Stream) (step : Step)
    → TakesScan limit found (known_if k source) left step now cur
    → TakesScan limit found (known_if k source) left step now (known_if k cur)
takes-if limit left found now k source cur step t = record {
  failed = t.failed;
  known = λ e. e;
  read = t.read;
}

pub short-on : (limit left : Option ℕ) (found now : Found) (k : Bool) (source cur : Stream) (step : Step)
    → IsKnownIf k 0 source → TakesScan limit found (known_if k source) left step now cur → IsKnownIf k 1 cur
short-on limit left found now k source cur step h t =
    λ e. (t.known e, omega (arith, (h e).1, (t.read e).fewer))
