-- The rest of a stream from its first scan on, whose lines are given: its header, the scan and the segments after it
-- are those of the walk.
use Rattle.std.proofs.Common.{◌≡◌, ◌<◌, ℕ, suc, Bool, true, false, List, length, Option, Some, None}
use Rattle.std.proofs.Common.{Result, Ok, Err, refl, sym, ap, ap₂, ◌∙◌, subst, arith}
use Rattle.std.proofs.lemmas.Grind.{common_steps}
use Rattle.std.specs.Prelude.{OnOk, option_map}
use Rattle.std.specs.List.{concat}
use Rattle.std.proofs.lemmas.Bool.{true≢false}
use Rattle.jpeg_bits.specs.Reading.{Answers, Fault, Malformed, Names, NamesFormat, Outcome, ◌>>=◌}
use Rattle.jpeg_bits.specs.Stream.{Stream}
use Rattle.jpeg_bits.specs.declared.beyond.Beyond.TheVariants.{Zeros}
use Rattle.jpeg_bits.specs.declared.color_transform.ColorTransform.{ColorTransform}
use Rattle.jpeg_bits.specs.declared.error.Error.{Error}
use Rattle.jpeg_bits.specs.declared.error.Error.TheVariants as errors
use Rattle.jpeg_bits.specs.declared.marker.Marker.{Marker}
use Rattle.jpeg_bits.specs.declared.marker.Marker.TheVariants.{SOS}
use Rattle.jpeg_bits.proofs.Loops.{Names-through}
use Rattle.jpeg_segments.specs.Frame.{Frame}
use Rattle.jpeg_segments.specs.ScanHeader as headers
use Rattle.jpeg_pixels.specs.Pictures.{Source}
use Rattle.jpeg_pixels.specs.declared.color_convert.ColorConvert.{ColorConvert}
use Rattle.jpeg_meaning.specs.Found.{Found, Said}
use Rattle.jpeg_meaning.specs.FoundPictures.{picture_of}
use Rattle.jpeg_meaning.specs.Reported.{IsOfTurns}
use Rattle.jpeg_meaning.specs.Segments.{Turn}
use Rattle.jpeg_meaning.specs.Sound.{IsDecodedFrame}
use Rattle.jpeg_meaning.specs.States.{OnTold, OnToldRefusal}
use Rattle.jpeg_meaning.specs.Stream.{Told, Walked, scan_within, told_of, walk}
use Rattle.jpeg_meaning.specs.Work.{is_above, left_after, work_of_header}
use Rattle.jpeg_meaning.specs.declared.before.Before.{Before}
use Rattle.jpeg_meaning.specs.declared.before.Before.TheVariants.{Elsewhere}
use Rattle.jpeg_meaning.specs.declared.settings.Settings.{Settings}
use Rattle.jpeg_meaning.proofs.Refusals.{told-err, told-through}
use Rattle.jpeg_meaning.proofs.Written.ReadTurns.{bind-ok, err-ok, ok-same, then-ok}
use Rattle.jpeg_decoder.specs.ByRows.{chosen_at, comes_by_rows, conversion_in, keeps_transform, lines_from, scan_walk}
use Rattle.jpeg_decoder.specs.ByRows.{scan_walk_for, settled_picture, shown_at_scan, transform_said, turn_without}
use Rattle.jpeg_decoder.specs.ByRows.{turns_without, walk_after, walk_on}
use Rattle.jpeg_decoder.specs.Bytes.{IsWhole, shape_of}
use Rattle.jpeg_decoder.specs.Givers.{AreFound, GivesLines, GivesScan}
use Rattle.jpeg_decoder.specs.RowScans.{IsTaken, ReadsHeader}
use Rattle.jpeg_decoder.specs.Reaching.{turn_after}
use Rattle.jpeg_decoder.specs.Steps.{IsRefusal, Returns, header_within, turn_of}
use Rattle.jpeg_decoder.specs.Walks.{known_if, walked_to}
use Rattle.jpeg_decoder.specs.declared.stream.state.Step.{Step}
use Rattle.jpeg_decoder.proofs.ByRows.AtScan.{after-goes, after-stops, chosen-comes, chosen-header, chosen-not}
use Rattle.jpeg_decoder.proofs.ByRows.AtScan.{header-stops, header-under, refused_scan, scan-on, scan-stops, scan-whole}
use Rattle.jpeg_decoder.proofs.ByRows.AtScan.{shown-stops, turn-of-scan, turn-there, turn_walk}
use Rattle.jpeg_decoder.proofs.ByRows.PlanesStay.{planes-stay}
use Rattle.jpeg_decoder.proofs.ByRows.RowPictures.{comes-by_rows, conversion-in, has-sources, rows-lines, rows-settled}
use Rattle.jpeg_decoder.proofs.ByRows.RowPictures.{settled-refused}
use Rattle.jpeg_decoder.proofs.ByRows.WalksWithout.{walk_without, walks-agree}
use Rattle.jpeg_decoder.proofs.Partial.Refused.{if-refused, refused-at}
use Rattle.jpeg_decoder.proofs.Segments.MarkedTurns.{refusal-after}
use Rattle.jpeg_decoder.proofs.Pictures.PictureSizes.{frame-whole}
use Rattle.jpeg_decoder.proofs.Segments.Turns.{turn-takes}

-- ---- a refusal of a part of a reading, and one after it

-- a refusal of a part of a reading, at bytes that were left
pub part-refused : {X Y Z W : Type 0} (see : X → Y) (view : Z → W) (whole : List ℕ → Outcome Y)
    (read : List ℕ → Outcome W)
    (old mid new : Stream) (e : Error) → mid.failed ≡ old.failed
    → (old.known ≡ true → (mid.known ≡ true) × ((f : Fault) → read mid.bytes ≡ Err f → whole old.bytes ≡ Err f))
    → Answers view read mid (Err e) new → Answers see whole old (Err e) new
part-refused see view whole read old mid new e failed through a = grind (arith, Names-through)

-- a refusal by what was read
pub last-refused : {X Y : Type 0} (see : X → Y) (whole : List ℕ → Outcome Y) (old new : Stream) (e : Error)
    → new.failed ≡ old.failed → IsRefusal e → (old.known ≡ true → (new.known ≡ true) × Names e (whole old.bytes))
    → Answers see whole old (Err e) new
last-refused see whole old new (errors.Format text) failed is h =
    (failed, (λ k l. (h k).1), λ k l. absurd (true≢false (sym (h k).0 ∙ l)))
last-refused see whole old new (errors.Unsupported feature) failed is h =
    (failed, (λ k l. (h k).1), λ k l. absurd (true≢false (sym (h k).0 ∙ l)))
last-refused see whole old new errors.OutOfMemory failed is h =
    (failed, (λ k l. (h k).1), λ k l. absurd (true≢false (sym (h k).0 ∙ l)))
last-refused see whole old new (errors.Io e) failed is h = absurd is
last-refused see whole old new (errors.Internal text) failed is h = absurd is

format-refusal : (e : Error) → NamesFormat e → IsRefusal e
format-refusal (errors.Format text) h = h
format-refusal errors.OutOfMemory h = h
format-refusal (errors.Unsupported feature) h = absurd h
format-refusal (errors.Io e) h = absurd h
format-refusal (errors.Internal text) h = absurd h

format-names : {Y : Type 0} (e : Error) (o : Result Y Fault) → NamesFormat e → o ≡ Err Malformed → Names e o
format-names (errors.Format text) o h is = is
format-names errors.OutOfMemory o h is = tt
format-names (errors.Unsupported feature) o h is = absurd h
format-names (errors.Io e) o h is = absurd h
format-names (errors.Internal text) o h is = absurd h

-- a refusal, whatever was given
pub gives-err : (settings : Settings) (frame : Option Frame) (read : List ℕ → Outcome (Told × List ℕ))
    (old new : Stream) (e : Error) (told : Told) (bytes : List ℕ)
    → Answers (λ (u : Unit {0}). (told, bytes)) read old (Err e) new
    → GivesLines settings frame read old (Err e) new told bytes
gives-err settings frame read old new e told bytes a = record { whole = tt; reads = a }

-- ---- the header of the scan

pub header-refused : (settings : Settings) (limit : Option ℕ) (found : Found) (see : Unit {0} → Told × List ℕ)
    (old new : Stream)
    (e : Error) → limit ≡ settings.max_blocks → ReadsHeader limit found old (Err e) new
    → Answers see (shown_at_scan settings found) old (Err e) new
header-refused settings limit found see old new e is a =
    part-refused see (λ (h : headers.Scan). h) (shown_at_scan settings found)
    (header_within limit found) old old new e refl
    (λ k. (
      k,
      λ f q. shown-stops settings found old.bytes f (header-stops settings.max_blocks found old.bytes f
          (subst (λ (l : Option ℕ). header_within l found old.bytes ≡ Err f) is q)),
    )) a

-- what a caller is told after it
pub header-told : (limit : Option ℕ) (found now : Found) (old new : Stream) (e : Error) → now ≡ found
    → ReadsHeader limit found old (Err e) new → OnToldRefusal {X = Unit {0}} old new (Err e)
    (told_of now.said ≡ told_of (scan_walk limit found old.bytes).found.said)
header-told limit found now old new e same a k l =
    told-err e (header_within limit found old.bytes) _ (a.1 k l) (λ f q. ap (λ (g : Found). told_of g.said) same
    ∙ sym (ap (λ (w : Walked). told_of w.found.said)
    (scan-stops limit found old.bytes (length old.bytes) f (header-stops limit found old.bytes f q))))

-- and whether it exceeds the limit
pub header-exceeds : (limit : Option ℕ) (found : Found) (old new : Stream) (e : Error) (b : Bool)
    → ReadsHeader limit found old (Err e) new
    → OnToldRefusal {X = headers.Scan} old new (Err e) (b ≡ is_above limit (work_of_header found old.bytes))
    → OnTold {X = Unit {0}} old new (Err e) (b ≡ (scan_walk limit found old.bytes).exceeded)
header-exceeds limit found old new e b a h k l =
    refused-at e (header_within limit found old.bytes) (b ≡ is_above limit (work_of_header found old.bytes))
    (b ≡ (scan_walk limit found old.bytes).exceeded) (a.1 k l) (λ f q p. p ∙ sym (ap (λ (w : Walked). w.exceeded)
    (scan-stops limit found old.bytes (length old.bytes) f (header-stops limit found old.bytes f q)))) (h k l)

-- no turn
pub no-turns : (limit : Option ℕ) (found : Found) (bytes : List ℕ) (told : Told) → told ≡ told_of found.said
    → IsOfTurns (λ n. told_of (scan_walk_for limit n found bytes).found.said) told
unfolding IsOfTurns walk
no-turns limit found bytes told e = (0, e)

-- ---- what follows the header is refused

-- A reading of what follows the header is refused only where that is.
abbrev pub IsScanRead : {W : Type 0} → Found → headers.Scan → (List ℕ → Outcome W) → Stream → Type 0
IsScanRead found scan read mid =
    (f : Fault) → read mid.bytes ≡ Err f → (turn_after Zeros found scan mid.bytes).turn ≡ Err f

scan-fault : {W : Type 0} (limit : Option ℕ) (found : Found) (scan : headers.Scan) (read : List ℕ → Outcome W)
    (old mid : Stream) (f : Fault) → ReadsHeader limit found old (Ok scan) mid → IsScanRead found scan read mid
    → old.known ≡ true → read mid.bytes ≡ Err f
    → scan_walk limit found old.bytes ≡ refused_scan limit found old.bytes f
scan-fault limit found scan read old mid f header is k q =
    scan-stops limit found old.bytes (length old.bytes) f
    (after-stops limit found scan old.bytes mid.bytes f (header.1 k).1 (is f q))

pub scan-refused : {Z W : Type 0} (settings : Settings) (limit : Option ℕ) (found : Found) (scan : headers.Scan)
    (see : Unit {0} → Told × List ℕ) (view : Z → W) (read : List ℕ → Outcome W) (old mid new : Stream) (e : Error)
    → limit ≡ settings.max_blocks → ReadsHeader limit found old (Ok scan) mid → IsScanRead found scan read mid
    → Answers view read mid (Err e) new → Answers see (shown_at_scan settings found) old (Err e) new
scan-refused settings limit found scan see view read old mid new e same header is a =
    part-refused see view (shown_at_scan settings found) read old mid new e header.0
    (λ k. (
      (header.1 k).0,
      λ f q. shown-stops settings found old.bytes f
          (subst (λ (l : Option ℕ). (scan_within l Zeros found old.bytes).turn ≡ Err f) same
          (after-stops limit found scan old.bytes mid.bytes f (header.1 k).1 (is f q))),
    )) a

pub scan-told : {Z W : Type 0} (limit : Option ℕ) (found now : Found) (scan : headers.Scan) (view : Z → W)
    (read : List ℕ → Outcome W) (old mid new : Stream) (e : Error) → told_of now.said ≡ told_of found.said
    → ReadsHeader limit found old (Ok scan) mid → IsScanRead found scan read mid → Answers view read mid (Err e) new
    → OnToldRefusal {X = Unit {0}} old new (Err e)
    (told_of now.said ≡ told_of (scan_walk limit found old.bytes).found.said)
scan-told limit found now scan view read old mid new e same header is a k l =
    told-err e (read mid.bytes) _ (a.1 (header.1 k).0 l) (λ f q. same
    ∙ sym (ap (λ (w : Walked). told_of w.found.said) (scan-fault limit found scan read old mid f header is k q)))

pub scan-exceeds : {Z W : Type 0} (limit : Option ℕ) (found : Found) (scan : headers.Scan) (view : Z → W)
    (read : List ℕ → Outcome W) (old mid new : Stream) (e : Error) (b : Bool) → b ≡ false
    → ReadsHeader limit found old (Ok scan) mid → IsScanRead found scan read mid → Answers view read mid (Err e) new
    → OnTold {X = Unit {0}} old new (Err e) (b ≡ (scan_walk limit found old.bytes).exceeded)
scan-exceeds limit found scan view read old mid new e b none header is a k l =
    told-err e (read mid.bytes) _ (a.1 (header.1 k).0 l) (λ f q. none
    ∙ sym (ap (λ (w : Walked). w.exceeded) (scan-fault limit found scan read old mid f header is k q)
    ∙ (header-under limit found old.bytes (scan, mid.bytes) (header.1 k).1).0))

-- ---- the scan is read, and the walk goes on

-- The scan after a header was read, and a walk goes on from it: after it stands this step, and this was found, but for
-- planes.
pub record IsRead (limit : Option ℕ) (found : Found) (bytes : List ℕ) (left : Option ℕ) (step : Step) (now : Found)
    (rest : List ℕ) : Type 0 where
  pub turn : Turn
  pub whole : scan_walk limit found bytes ≡ turn_walk left turn rest
  pub walks : (n : ℕ) → scan_walk_for limit (suc n) found bytes
      ≡ walk left Zeros n false turn.before turn.found turn.met rest
  pub same : turn_without turn ≡ turn_without (turn_of now step)
  pub fewer : length rest < length bytes

scan-read : (limit left : Option ℕ) (found now : Found) (scan : headers.Scan) (bytes cur rest : List ℕ) (t : Turn)
    (step : Step) → header_within limit found bytes ≡ Ok (scan, cur)
    → left ≡ left_after limit (work_of_header found bytes) → (turn_after Zeros found scan cur).turn ≡ Ok (t, rest)
    → turn_without t ≡ turn_without (turn_of now step) → IsRead limit found bytes left step now rest
scan-read limit left found now scan bytes cur rest t step header taken e same = record {
  turn = t;
  whole = scan-whole limit found scan bytes cur rest t header e ∙ ap (λ (l : Option ℕ). turn_walk l t rest) (sym taken);
  walks = λ n. scan-on limit found scan bytes cur rest t n header e
      ∙ ap (λ (l : Option ℕ). walk l Zeros n false t.before t.found t.met rest) (sym taken);
  same = same;
  fewer = omega (
    arith,
    turn-takes limit Zeros Elsewhere found (Some SOS) bytes (t, rest)
        (turn-of-scan limit found scan bytes cur (Ok (t, rest)) header e) (after-goes found scan cur (t, rest) e),
  );
}

-- The same of a source.
pub record TakesScan (limit : Option ℕ) (found : Found) (old : Stream) (left : Option ℕ) (step : Step) (now : Found)
    (new : Stream) : Type 0 where
  pub failed : new.failed ≡ old.failed
  pub known : old.known ≡ true → new.known ≡ true
  pub read : old.known ≡ true → IsRead limit found old.bytes left step now new.bytes

-- a scan that was read after its header
abbrev pub ReadsScan : Found → headers.Scan → Found → Stream → Result Step Error → Stream → Type 0
ReadsScan found scan now old r new =
    Answers (turn_of now) (λ bytes. (turn_after Zeros found scan bytes).turn) old r new

-- the same, but for planes
abbrev pub ReadsWithout : Found → headers.Scan → Found → Stream → Result Step Error → Stream → Type 0
ReadsWithout found scan now old r new = Answers (λ s. turn_without (turn_of now s))
    (λ bytes. turns_without (turn_after Zeros found scan bytes).turn) old r new

pub takes-scan : (limit left : Option ℕ) (found now : Found) (scan : headers.Scan) (old mid new : Stream) (step : Step)
    → ReadsHeader limit found old (Ok scan) mid → IsTaken limit found old left
    → ReadsScan found scan now mid (Ok step) new → TakesScan limit found old left step now new
takes-scan limit left found now scan old mid new step header taken a = record {
  failed = a.0 ∙ header.0;
  known = λ k. (a.1 (header.1 k).0).0;
  read = λ k.
      let h = header.1 k in
      scan-read limit left found now scan old.bytes mid.bytes new.bytes (turn_of now step) step h.1 (taken k)
      (a.1 h.0).1
      refl;
}

pub takes-without : (limit left : Option ℕ) (found now : Found) (scan : headers.Scan) (old mid new : Stream)
    (step : Step)
    → ReadsHeader limit found old (Ok scan) mid → IsTaken limit found old left
    → ReadsWithout found scan now mid (Ok step) new → TakesScan limit found old left step now new
takes-without limit left found now scan old mid new step header taken a = record {
  failed = a.0 ∙ header.0;
  known = λ k. (a.1 (header.1 k).0).0;
  read = λ k.
      let h = header.1 k in
      let q = turn-there (turn_after Zeros found scan mid.bytes).turn (turn_without (turn_of now step)) new.bytes
      (a.1 h.0).1 in
      scan-read limit left found now scan old.bytes mid.bytes new.bytes q.0 step h.1 (taken k) q.1 q.2;
}

-- ---- the walk from there on

-- from turns that are the same, but for planes
agree : (left : Option ℕ) (n : ℕ) (t u : Turn) (bytes : List ℕ) → turn_without t ≡ turn_without u
    → walk_without (walk left Zeros n false t.before t.found t.met bytes)
    ≡ walk_without (walk left Zeros n false u.before u.found u.met bytes)
agree left n t u bytes e =
    ap₂ (λ (b : Before) (m : Option Marker). walk_without (walk left Zeros n false b t.found m bytes))
    (ap (λ (x : Turn). x.before) e) (ap (λ (x : Turn). x.met) e)
    ∙ walks-agree left n u.before u.found t.found u.met bytes (ap (λ (x : Turn). x.found) e)

walk-same : (limit left : Option ℕ) (found now : Found) (old mid : Stream) (step : Step)
    → TakesScan limit found old left step now mid → old.known ≡ true
    → walk_without (scan_walk limit found old.bytes) ≡ walk_without (walk_on left now step mid.bytes)
walk-same limit left found now old mid step h k =
    let r = h.read k in
    ap walk_without r.whole ∙ agree left (suc (suc (length mid.bytes))) r.turn (turn_of now step) mid.bytes r.same

-- what a caller is told
pub walk-told : {X : Type 0} (limit left : Option ℕ) (found now : Found) (old mid new : Stream) (step : Step)
    (r : Result X Error) (told : Told) → TakesScan limit found old left step now mid
    → OnToldRefusal mid new r (told ≡ told_of (walk_on left now step mid.bytes).found.said)
    → OnToldRefusal old new r (told ≡ told_of (scan_walk limit found old.bytes).found.said)
walk-told {X} limit left found now old mid new step r told h p =
    refusal-after {X = X} old mid new r (told ≡ told_of (walk_on left now step mid.bytes).found.said)
    (told ≡ told_of (scan_walk limit found old.bytes).found.said)
    (λ k. (
      h.known k,
      λ q. q
          ∙ sym (ap (λ (w : Walked). told_of w.found.said) (walk-same limit left found now old mid step h k)),
    )) p

pub walk-turns : (limit left : Option ℕ) (found now : Found) (old mid : Stream) (step : Step) (told : Told)
    → TakesScan limit found old left step now mid
    → (mid.known ≡ true → IsOfTurns (λ n. told_of (walk_after left n now step mid.bytes).found.said) told)
    → old.known ≡ true → IsOfTurns (λ n. told_of (scan_walk_for limit n found old.bytes).found.said) told
unfolding IsOfTurns
walk-turns limit left found now old mid step told h p k =
    let q = p (h.known k) in
    let r = h.read k in (
      suc q.0,
      q.1 ∙ sym (ap (λ (w : Walked). told_of w.found.said)
          (ap walk_without (r.walks q.0) ∙ agree left q.0 r.turn (turn_of now step) mid.bytes r.same)),
    )

-- whether a scan is refused for its blocks
pub walk-exceeds : {X : Type 0} (limit left : Option ℕ) (found now : Found) (old mid new : Stream) (step : Step)
    (r : Result X Error) (b : Bool) → TakesScan limit found old left step now mid
    → OnTold mid new r (b ≡ (walk_on left now step mid.bytes).exceeded)
    → OnTold old new r (b ≡ (scan_walk limit found old.bytes).exceeded)
walk-exceeds {X} limit left found now old mid new step r b h p =
    told-through {X = X} old mid new r (b ≡ (walk_on left now step mid.bytes).exceeded)
    (b ≡ (scan_walk limit found old.bytes).exceeded)
    (λ k. (
      h.known k,
      λ q. q
          ∙ sym (ap (λ (w : Walked). w.exceeded) (walk-same limit left found now old mid step h k)),
    )) p

-- ---- the end of the walk

-- what is shown by a walk, where this transform was chosen
shown-lacks : (settings : Settings) (found : Found) (bytes : List ℕ) (f : Fault)
    → (scan_walk settings.max_blocks found bytes).rest ≡ Err f → shown_at_scan settings found bytes ≡ Err f
unfolding shown_at_scan
shown-lacks settings found bytes f e =
    let w = scan_walk settings.max_blocks found bytes in
    ap (λ (o : Result (List ℕ) Fault). o >>= (λ (rest : List ℕ).
    settled_picture (chosen_at settings found.said bytes) settings w.found >>= (λ (picture : List ℕ).
    Ok ((told_of w.found.said, picture), rest)))) e

-- what is shown of this picture
abbrev pub shown_of : Told → List ℕ → Result (List ℕ) Fault → Outcome (Told × List ℕ)
shown_of told rest o = o >>= (λ picture. Ok ((told, picture), rest))

shown-there : (settings : Settings) (found : Found) (bytes rest : List ℕ) (t : Option ColorTransform)
    (o : Result (List ℕ) Fault) → chosen_at settings found.said bytes ≡ t
    → (scan_walk settings.max_blocks found bytes).rest ≡ Ok rest
    → settled_picture t settings (scan_walk settings.max_blocks found bytes).found ≡ o
    → shown_at_scan settings found bytes
    ≡ shown_of (told_of (scan_walk settings.max_blocks found bytes).found.said) rest o
unfolding shown_at_scan
shown-there settings found bytes rest t o chosen e is =
    let w = scan_walk settings.max_blocks found bytes in
    then-ok w.rest _ rest _ e (ap (shown_of (told_of w.found.said) rest)
    (ap (λ (c : Option ColorTransform). settled_picture c settings w.found) chosen ∙ is))

walk-lacks : (w : Walked) (f : Fault) → walked_to w ≡ Err f → w.rest ≡ Err f
walk-lacks w f e = go w.rest e
  where
    go : (o : Result (List ℕ) Fault) → ◌>>=◌ {B = Found × List ℕ} o (λ (rest : List ℕ). Ok (w.found, rest)) ≡ Err f
        → o ≡ Err f
    go (Ok rest) e = absurd (err-ok f (w.found, rest) (sym e))
    go (Err g) e = grind (arith, common_steps)

walk-parts : (w : Walked) (found : Found) (rest : List ℕ) → walked_to w ≡ Ok (found, rest)
    → (w.rest ≡ Ok rest) × (w.found ≡ found)
walk-parts w found rest e =
    let r = bind-ok w.rest _ (found, rest) e in
    let same = ok-same _ (found, rest) r.2 in
    (r.1 ∙ ap (λ (x : Found × List ℕ). Ok x.1) same, ap (λ (x : Found × List ℕ). x.0) same)

-- a walk from a step on that was read
abbrev pub ReadsOn : Option ℕ → Found → Step → Found → Stream → Result (Unit {0}) Error → Stream → Type 0
ReadsOn left now step end old r new =
    Answers (λ (u : Unit {0}). end) (λ bytes. walked_to (walk_on left now step bytes)) old r new

pub on-refused : (settings : Settings) (limit left : Option ℕ) (found now end : Found) (see : Unit {0} → Told × List ℕ)
    (old mid new : Stream) (step : Step) (e : Error) → limit ≡ settings.max_blocks
    → TakesScan limit found old left step now mid → ReadsOn left now step end mid (Err e) new
    → Answers see (shown_at_scan settings found) old (Err e) new
on-refused settings limit left found now end see old mid new step e same h a =
    part-refused see (λ (u : Unit {0}). end) (shown_at_scan settings found)
    (λ bytes. walked_to (walk_on left now step bytes)) old mid new e h.failed
    (λ k. (
      h.known k,
      λ f q. shown-lacks settings found old.bytes f
          (subst (λ (l : Option ℕ). (scan_walk l found old.bytes).rest ≡ Err f) same
          (ap (λ (w : Walked). w.rest) (walk-same limit left found now old mid step h k)
          ∙ walk-lacks (walk_on left now step mid.bytes) f q)),
    )) a

-- A walk from the header of a scan on ends here.
pub record EndsAt (limit : Option ℕ) (found : Found) (old : Stream) (end : Found) (new : Stream) : Type 0 where
  pub failed : new.failed ≡ old.failed
  pub known : old.known ≡ true → new.known ≡ true
  pub rest : old.known ≡ true → (scan_walk limit found old.bytes).rest ≡ Ok new.bytes
  pub said : old.known ≡ true → (scan_walk limit found old.bytes).found.said ≡ end.said

pub ends-at : (limit left : Option ℕ) (found now end : Found) (old mid new : Stream) (step : Step) (u : Unit {0})
    → TakesScan limit found old left step now mid → ReadsOn left now step end mid (Ok u) new
    → EndsAt limit found old end new
ends-at limit left found now end old mid new step u h a = record {
  failed = a.0 ∙ h.failed;
  known = λ k. (a.1 (h.known k)).0;
  rest = λ k. ap (λ (w : Walked). w.rest) (walk-same limit left found now old mid step h k)
      ∙ (walk-parts (walk_on left now step mid.bytes) end new.bytes (a.1 (h.known k)).1).0;
  said = λ k. ap (λ (w : Walked). w.found.said) (walk-same limit left found now old mid step h k)
      ∙ ap (λ (g : Found). g.said) (walk-parts (walk_on left now step mid.bytes) end new.bytes (a.1 (h.known k)).1).1;
}

-- what a caller is told at the end
pub end-told : {X : Type 0} (limit : Option ℕ) (found end : Found) (old new : Stream) (r : Result X Error) (told : Told)
    → EndsAt limit found old end new → told ≡ told_of end.said
    → OnToldRefusal old new r (told ≡ told_of (scan_walk limit found old.bytes).found.said)
end-told limit found end old new (Ok x) told h e = tt
end-told limit found end old new (Err f) told h e = λ k l. if-refused f (e ∙ ap told_of (sym (h.said k)))

pub end-exceeds : {X : Type 0} (limit : Option ℕ) (found : Found) (old new : Stream) (r : Result X Error) (b : Bool)
    → OnTold {X = Unit {0}} old new (Ok tt) (b ≡ (scan_walk limit found old.bytes).exceeded)
    → OnTold old new r (b ≡ (scan_walk limit found old.bytes).exceeded)
end-exceeds limit found old new (Ok x) b h = h
end-exceeds limit found old new (Err e) b h = λ k l. if-refused e (h k)

-- ---- lines were given as the scan was read

-- How the lines of the pictures of a frame are made, whose first scan has this header.
pub record IsMadeBy (settings : Settings) (found : Found) (frame : Frame) (scan : headers.Scan) (t : ColorTransform)
    (convert : ColorConvert) : Type 0 where
  pub decoded : IsDecodedFrame frame
  pub framed : found.said.frame ≡ Some frame
  pub comes : comes_by_rows settings found.said frame scan ≡ true
  pub chosen : t ≡ transform_said settings found.said frame
  pub converted : conversion_in frame.components t ≡ Ok convert

chosen-so : (settings : Settings) (limit : Option ℕ) (found : Found) (frame : Frame) (scan : headers.Scan)
    (t : ColorTransform) (convert : ColorConvert) (bytes rest : List ℕ)
    → IsMadeBy settings found frame scan t convert → header_within limit found bytes ≡ Ok (scan, rest)
    → chosen_at settings found.said bytes ≡ Some t
chosen-so settings limit found frame scan t convert bytes rest m e =
    chosen-header limit settings found bytes frame (scan, rest) m.framed e
    ∙ chosen-comes settings found.said frame scan m.comes ∙ ap Some (sym m.chosen)

-- the planes of the scan are there at the end
planes-end : (limit : Option ℕ) (found : Found) (scan : headers.Scan) (planes : List (List ℕ)) (bytes cur rest : List ℕ)
    (t : Turn) → header_within limit found bytes ≡ Ok (scan, cur)
    → (turn_after Zeros found scan cur).turn ≡ Ok (t, rest) → AreFound planes t.found.planes
    → AreFound planes (scan_walk limit found bytes).found.planes
planes-end limit found scan planes bytes cur rest t header e are =
    subst (λ (w : Walked). AreFound planes w.found.planes) (sym (scan-whole limit found scan bytes cur rest t header e))
    (planes-stay planes (left_after limit (work_of_header found bytes))
    (suc (suc (length rest))) t.before t.found t.met rest
    are)

-- its lines
abbrev lines_of_scan : Frame → ColorConvert → List Source → List (List ℕ) → List (List ℕ)
lines_of_scan frame convert sources planes = lines_from frame convert sources planes 0 frame.output_height

-- All lines were given where the transform is kept.
pub lines-given : (settings : Settings) (found now end : Found) (frame : Frame) (scan : headers.Scan)
    (t : ColorTransform)
    (convert : ColorConvert) (old mid cur new : Stream) (step : Step) (u : Unit {0}) (bytes : List ℕ)
    → IsMadeBy settings found frame scan t convert → ReadsHeader settings.max_blocks found old (Ok scan) mid
    → ReadsWithout found scan now mid (Ok step) cur → EndsAt settings.max_blocks found old end new
    → GivesScan found frame scan convert mid (Ok step) bytes → end.said.frame ≡ Some frame
    → keeps_transform t settings end.said frame ≡ true
    → GivesLines settings (Some frame) (shown_at_scan settings found) old (Ok u) new (told_of end.said) bytes
lines-given settings found now end frame scan t convert old mid cur new step u bytes m header a h g framed keeps =
    let has = has-sources frame m.decoded in
    let sources = has.sources in
    let by = comes-by_rows settings found.said frame scan m.comes in
    let lines = lines_of_scan frame convert sources g.planes in
    let are : bytes ≡ concat lines = g.lines sources has.is in
    record {
      whole = frame-whole settings frame lines bytes m.decoded
          (rows-lines settings frame convert sources g.planes m.decoded by.sequential by.colours
          (conversion-in frame.components t convert m.converted) has.is g.counted) are;
      reads = (
        h.failed,
        λ k. (
          h.known k,
          shown k ∙ ap (λ (l : List ℕ). Ok ((told_of end.said, l), new.bytes)) (sym are),
        ),
      );
    }
  where
    shown : old.known ≡ true → shown_at_scan settings found old.bytes
        ≡ Ok (
          (
            told_of end.said,
            concat
                (lines_of_scan frame convert (has-sources frame m.decoded).sources g.planes),
          ),
          new.bytes,
        )
    shown k =
        let has = has-sources frame m.decoded in
        let read = header.1 k in
        let w = scan_walk settings.max_blocks found old.bytes in
        let q = turn-there (turn_after Zeros found scan mid.bytes).turn (turn_without (turn_of now step)) cur.bytes
        (a.1 read.0).1 in
        let said : w.found.said ≡ end.said = h.said k in
        let there = planes-end settings.max_blocks found scan g.planes old.bytes mid.bytes cur.bytes q.0 read.1 q.1
        (g.are_found read.0 (q.0, cur.bytes) q.1) in
        shown-there settings found old.bytes new.bytes (Some t)
        (Ok (concat (lines_of_scan frame convert has.sources g.planes)))
        (chosen-so settings settings.max_blocks found frame scan t convert old.bytes mid.bytes m read.1) (h.rest k)
        (rows-settled settings found.said w.found frame scan t convert has.sources g.planes m.decoded
        (ap (λ (s : Said). s.frame) said ∙ framed) m.comes m.converted has.is g.sized there
        (subst (λ (s : Said). keeps_transform t settings s frame ≡ true) (sym said) keeps))
        ∙ ap (λ (s : Said). Ok ((told_of s, concat (lines_of_scan frame convert has.sources g.planes)), new.bytes)) said

-- It is a fault where it isn't.
pub lines-refused : (settings : Settings) (found end : Found) (frame : Frame) (scan : headers.Scan)
    (t : ColorTransform) (convert : ColorConvert) (old mid new : Stream) (e : Error) (bytes : List ℕ)
    → IsMadeBy settings found frame scan t convert → ReadsHeader settings.max_blocks found old (Ok scan) mid
    → EndsAt settings.max_blocks found old end new → end.said.frame ≡ Some frame
    → keeps_transform t settings end.said frame ≡ false → NamesFormat e
    → GivesLines settings (Some frame) (shown_at_scan settings found) old (Err e) new (told_of end.said) bytes
lines-refused settings found end frame scan t convert old mid new e bytes m header h framed keeps names =
    gives-err settings (Some frame) (shown_at_scan settings found) old new e (told_of end.said) bytes
    (last-refused (λ (u : Unit {0}). (told_of end.said, bytes))
    (shown_at_scan settings found) old new e h.failed (format-refusal e names)
    (λ k. (h.known k, format-names e _ names (shown k))))
  where
    shown : old.known ≡ true → shown_at_scan settings found old.bytes ≡ Err Malformed
    shown k =
        let w = scan_walk settings.max_blocks found old.bytes in
        let said : w.found.said ≡ end.said = h.said k in
        shown-there settings found old.bytes new.bytes (Some t) (Err Malformed)
        (chosen-so settings settings.max_blocks found frame scan t convert old.bytes mid.bytes m (header.1 k).1)
        (h.rest k)
        (settled-refused t settings w.found frame (ap (λ (s : Said). s.frame) said ∙ framed)
        (subst (λ (s : Said). keeps_transform t settings s frame ≡ false) (sym said) keeps))

-- ---- lines are given at the end

pub none-chosen : (settings : Settings) (limit : Option ℕ) (found : Found) (frame : Frame) (scan : headers.Scan)
    (bytes rest : List ℕ) → found.said.frame ≡ Some frame → comes_by_rows settings found.said frame scan ≡ false
    → header_within limit found bytes ≡ Ok (scan, rest) → chosen_at settings found.said bytes ≡ None
none-chosen settings limit found frame scan bytes rest framed comes e =
    chosen-header limit settings found bytes frame (scan, rest) framed e
    ∙ chosen-not settings found.said frame scan comes

-- what is found by all turns
found-at : (limit left : Option ℕ) (found now end : Found) (scan : headers.Scan) (k : Bool) (old mid cur new : Stream)
    (step : Step) (u : Unit {0}) → ReadsHeader limit found old (Ok scan) mid → IsTaken limit found old left
    → ReadsScan found scan now mid (Ok step) cur → (old.known ≡ true → k ≡ true)
    → ReadsOn left now step end (known_if k cur) (Ok u) new → old.known ≡ true
    → (scan_walk limit found old.bytes).found ≡ end
found-at limit left found now end scan k old mid cur new step u header taken a there on known =
    let h = header.1 known in
    ap (λ (w : Walked). w.found)
    (scan-whole limit found scan old.bytes mid.bytes cur.bytes (turn_of now step) h.1 (a.1 h.0).1
    ∙ ap (λ (l : Option ℕ). turn_walk l (turn_of now step) cur.bytes) (sym (taken known)))
    ∙ (walk-parts (walk_on left now step cur.bytes) end new.bytes (on.1 (there known)).1).1

settled-none : (settings : Settings) (found : Found) → settled_picture None settings found ≡ picture_of settings found
unfolding settled_picture
settled-none settings found = refl

-- What a call returns that makes the picture of what was found.
abbrev pub MakesFound : Settings → Found → Result (Unit {0}) Error → List ℕ → Type 0
MakesFound settings found r bytes =
    OnOk r (IsWhole (option_map (shape_of settings) found.said.frame) bytes)
    × Returns (picture_of settings found) (λ (u : Unit {0}). bytes) r

-- The lines of the picture are given where the stream ends.
pub found-given : (settings : Settings) (whole : List ℕ → Outcome (Told × List ℕ)) (frame : Option Frame) (end : Found)
    (old new : Stream) (r : Result (Unit {0}) Error) (told : Told) (bytes : List ℕ) → new.failed ≡ old.failed
    → (old.known ≡ true → new.known ≡ true)
    → (old.known ≡ true → whole old.bytes ≡ shown_of told new.bytes (picture_of settings end))
    → end.said.frame ≡ frame → MakesFound settings end r bytes
    → GivesLines settings frame whole old r new told bytes
found-given settings whole frame end old new (Ok u) told bytes failed known shown framed g = record {
  whole = subst (λ (o : Option Frame). IsWhole (option_map (shape_of settings) o) bytes) framed g.0;
  reads = (failed, λ k. (known k, shown k ∙ ap (shown_of told new.bytes) g.1));
}
found-given settings whole frame end old new (Err e) told bytes failed known shown framed g = record {
  whole = tt;
  reads = last-refused (λ (u : Unit {0}). (told, bytes)) whole old new e failed g.1.0 (λ k. (
    known k,
    Names-through e (picture_of settings end) _
        (λ f q. shown k ∙ ap (shown_of told new.bytes) q) g.1.1,
  ));
}

pub end-given : (settings : Settings) (limit left : Option ℕ) (found now end : Found) (frame : Frame)
    (scan : headers.Scan)
    (k : Bool) (old mid cur new : Stream) (step : Step) (u : Unit {0}) (r : Result (Unit {0}) Error) (told : Told)
    (bytes : List ℕ) → limit ≡ settings.max_blocks → found.said.frame ≡ Some frame
    → comes_by_rows settings found.said frame scan ≡ false → ReadsHeader limit found old (Ok scan) mid
    → IsTaken limit found old left → ReadsScan found scan now mid (Ok step) cur
    → TakesScan limit found old left step now (known_if k cur) → ReadsOn left now step end (known_if k cur) (Ok u) new
    → told ≡ told_of end.said → end.said.frame ≡ found.said.frame → MakesFound settings end r bytes
    → GivesLines settings found.said.frame (shown_at_scan settings found) old r new told bytes
end-given settings limit left found now end frame scan k old mid cur new step u r told bytes same framed comes
    header
    taken a t on is stays g =
    let h = ends-at limit left found now end old (known_if k cur) new step u t on in
    found-given settings
    (shown_at_scan settings found) found.said.frame end old new r told bytes h.failed h.known
    (λ known. shown-there settings found old.bytes new.bytes None (picture_of settings end)
    (none-chosen settings limit found frame scan old.bytes mid.bytes framed comes (header.1 known).1)
    (subst (λ (l : Option ℕ). (scan_walk l found old.bytes).rest ≡ Ok new.bytes) same (h.rest known))
    (settled-none settings _ ∙ ap (picture_of settings) (at known))
    ∙ ap (λ (g : Found). shown_of (told_of g.said) new.bytes (picture_of settings end)) (at known)
    ∙ ap (λ (d : Told). shown_of d new.bytes (picture_of settings end)) (sym is)) stays g
  where
    at : old.known ≡ true → (scan_walk settings.max_blocks found old.bytes).found ≡ end
    at known = subst (λ (l : Option ℕ). (scan_walk l found old.bytes).found ≡ end) same
        (found-at limit left found now end scan k old mid cur new step u header taken a t.known on known)
