-- The rest of a stream, whose lines are given: the segments before its first scan, and what follows them.
use Rattle.std.proofs.Common.{◌≡◌, ◌∙◌, ◌+◌, ℕ, suc, Bool, true, false, List, length, Option, None, Result, Ok, Err}
use Rattle.std.proofs.Common.{refl, sym, ap, subst, arith}
use Rattle.jpeg_bits.specs.Reading.{Answers, IsShort}
use Rattle.jpeg_bits.specs.Stream.{Stream}
use Rattle.jpeg_bits.specs.declared.beyond.Beyond.TheVariants.{Zeros}
use Rattle.jpeg_bits.specs.declared.error.Error.{Error}
use Rattle.jpeg_segments.specs.Frame.{Frame}
use Rattle.jpeg_meaning.specs.Found.{Found}
use Rattle.jpeg_meaning.specs.Limits.{exceeded_rest}
use Rattle.jpeg_meaning.specs.Reported.{IsOfTurns, told_in_turns}
use Rattle.jpeg_meaning.specs.States.{OnTold, OnToldRefusal}
use Rattle.jpeg_meaning.specs.Stream.{Told, Walked, told_of, walk}
use Rattle.jpeg_meaning.specs.FoundPictures.{picture_of}
use Rattle.jpeg_meaning.specs.declared.before.Before.TheVariants.{Elsewhere}
use Rattle.jpeg_meaning.specs.declared.settings.Settings.{Settings}
use Rattle.jpeg_meaning.proofs.Refusals.{told-err}
use Rattle.jpeg_meaning.proofs.Written.ReadTurns.{bind-ok, ok-same, walked}
use Rattle.jpeg_bits.proofs.Loops.{Continues-answers}
use Rattle.jpeg_decoder.specs.ByRows.{rows_rest, scan_ahead, scan_walk, scan_walk_for, settled_picture, chosen_at}
use Rattle.jpeg_decoder.specs.ByRows.{shown_at_scan, to_scan_of}
use Rattle.jpeg_decoder.specs.Givers.{GivesLines}
use Rattle.jpeg_decoder.specs.Walks.{IsKnownIf, known_if}
use Rattle.jpeg_decoder.proofs.ByRows.BeforeScan.{ahead-ends, ahead-fewer, ahead-goes, ahead-lacks, rest-at-end}
use Rattle.jpeg_decoder.proofs.ByRows.BeforeScan.{rest-at-next_scan, rest-lacks}
use Rattle.jpeg_decoder.proofs.ByRows.Joined.{MakesFound, found-given, gives-err, part-refused, shown_of}
use Rattle.jpeg_decoder.proofs.Partial.Refused.{if-refused-as, told-any}

-- what was read up to a scan, or to the end
abbrev pub ReadsAhead : Found → Found → Stream → Result Bool Error → Stream → Type 0
ReadsAhead found now old r new = Answers (to_scan_of now) (scan_ahead found) old r new

-- ---- a segment before the scan is refused

pub ahead-stops : (settings : Settings) (found now : Found) (told : Told) (old new : Stream) (e : Error)
    (bytes : List ℕ) → ReadsAhead found now old (Err e) new
    → GivesLines settings found.said.frame (rows_rest settings found) old (Err e) new told bytes
ahead-stops settings found now told old new e bytes a =
    gives-err settings found.said.frame (rows_rest settings found) old new e told bytes
    (part-refused (λ (u : Unit {0}). (told, bytes)) (to_scan_of now) (rows_rest settings found)
    (scan_ahead found) old old new e refl (λ k. (k, λ f q. rest-lacks settings found old.bytes f q)) a)

pub ahead-unexceeded : (limit : Option ℕ) (found now : Found) (old new : Stream) (e : Error) (b : Bool) → b ≡ false
    → ReadsAhead found now old (Err e) new
    → OnTold {X = Unit {0}} old new (Err e) (b ≡ exceeded_rest limit Zeros found old.bytes)
ahead-unexceeded limit found now old new e b none a = λ k l.
    told-err e (scan_ahead found old.bytes) (b ≡ exceeded_rest limit Zeros found old.bytes) (a.1 k l)
    (λ f q. none ∙ sym (ahead-lacks limit found old.bytes f q).1)

-- ---- there is a scan

pub known-there : (found now : Found) (old mid : Stream) → IsShort old → ReadsAhead found now old (Ok true) mid
    → IsKnownIf old.known 0 mid
known-there found now old mid short a = λ k.
    let read = a.1 k in
    let few = ahead-fewer found now old.bytes mid.bytes read.1 in
    (read.0, omega (arith, few, short k))

-- The lines are those of the rest of the stream.
pub there-gives : (settings : Settings) (found now : Found) (old mid new : Stream) (r : Result (Unit {0}) Error)
    (told : Told) (bytes : List ℕ) → ReadsAhead found now old (Ok true) mid
    → now.said.frame ≡ found.said.frame
    → GivesLines settings now.said.frame (shown_at_scan settings now) (known_if old.known mid) r new told bytes
    → GivesLines settings found.said.frame (rows_rest settings found) old r new told bytes
there-gives settings found now old mid new r told bytes a stays g =
    subst (λ (o : Option Frame). GivesLines settings o (rows_rest settings found) old r new told bytes) stays
    (record {
      whole = g.whole;
      reads = Continues-answers (λ (u : Unit {0}). (told, bytes)) (rows_rest settings found)
          (shown_at_scan settings now) old (known_if old.known mid) new r
          (a.0, λ k. (k, rest-at-next_scan settings found now old.bytes mid.bytes (a.1 k).1)) g.reads;
    })

shown-said : (settings : Settings) (found : Found) (bytes rest picture : List ℕ) (told : Told)
    → shown_at_scan settings found bytes ≡ Ok ((told, picture), rest)
    → told ≡ told_of (scan_walk settings.max_blocks found bytes).found.said
unfolding shown_at_scan
shown-said settings found bytes rest picture told e =
    let w = scan_walk settings.max_blocks found bytes in
    let r = bind-ok w.rest _ ((told, picture), rest) e in
    let p = bind-ok (settled_picture (chosen_at settings found.said bytes) settings w.found) _
    ((told, picture), rest) r.2 in
    sym (ap (λ (x : (Told × List ℕ) × List ℕ). x.0.0) (ok-same _ ((told, picture), rest) p.2))

-- what a caller is told
pub there-told : (settings : Settings) (found now : Found) (old mid new : Stream) (r : Result (Unit {0}) Error)
    (told : Told) (bytes : List ℕ) → ReadsAhead found now old (Ok true) mid
    → GivesLines settings now.said.frame (shown_at_scan settings now) (known_if old.known mid) r new told bytes
    → OnToldRefusal (known_if old.known mid) new r
    (told ≡ told_of (scan_walk settings.max_blocks now mid.bytes).found.said)
    → OnTold old new r (told ≡ told_in_turns settings.max_blocks (suc (length old.bytes)) false found old.bytes)
there-told settings found now old mid new (Ok u) told bytes a g h = λ k.
    shown-said settings now mid.bytes new.bytes bytes told (g.reads.1 k).1
    ∙ sym (ap (λ (w : Walked). told_of w.found.said)
    (ahead-goes settings.max_blocks found now old.bytes mid.bytes (a.1 k).1).whole)
there-told settings found now old mid new (Err e) told bytes a g h = λ k l.
    if-refused-as e (λ p. p ∙ sym (ap (λ (w : Walked). told_of w.found.said)
    (ahead-goes settings.max_blocks found now old.bytes mid.bytes (a.1 k).1).whole)) (h k l)

pub there-turns : (limit : Option ℕ) (found now : Found) (old mid : Stream) (told : Told)
    → ReadsAhead found now old (Ok true) mid
    → (old.known ≡ true → IsOfTurns (λ n. told_of (scan_walk_for limit n now mid.bytes).found.said) told)
    → old.known ≡ true → IsOfTurns (λ n. told_in_turns limit n false found old.bytes) told
unfolding IsOfTurns
there-turns limit found now old mid told a h k =
    let on = ahead-goes limit found now old.bytes mid.bytes (a.1 k).1 in
    let q = h k in
    (on.turns + q.0, q.1 ∙ sym (ap (λ (w : Walked). told_of w.found.said) (on.walks q.0)))

-- whether a scan is refused for its blocks
pub there-exceeds : (limit : Option ℕ) (found now : Found) (old mid new : Stream) (r : Result (Unit {0}) Error)
    (b : Bool)
    → ReadsAhead found now old (Ok true) mid
    → OnTold (known_if old.known mid) new r (b ≡ (scan_walk limit now mid.bytes).exceeded)
    → OnTold old new r (b ≡ exceeded_rest limit Zeros found old.bytes)
there-exceeds limit found now old mid new (Ok u) b a h = λ k.
    h k ∙ sym (ap (λ (w : Walked). w.exceeded) (ahead-goes limit found now old.bytes mid.bytes (a.1 k).1).whole)
there-exceeds limit found now old mid new (Err e) b a h = λ k l.
    if-refused-as e (λ p. p ∙ sym (ap (λ (w : Walked). w.exceeded)
    (ahead-goes limit found now old.bytes mid.bytes (a.1 k).1).whole)) (h k l)

-- ---- there is none

pub end-gives : (settings : Settings) (found now : Found) (old new : Stream) (r : Result (Unit {0}) Error) (told : Told)
    (bytes : List ℕ) → ReadsAhead found now old (Ok false) new → told ≡ told_of now.said
    → now.said.frame ≡ found.said.frame → MakesFound settings now r bytes
    → GivesLines settings found.said.frame (rows_rest settings found) old r new told bytes
end-gives settings found now old new r told bytes a is stays g =
    found-given settings (rows_rest settings found) found.said.frame now old new r told bytes a.0
    (λ k. (a.1 k).0)
    (λ k. rest-at-end settings found now old.bytes new.bytes (a.1 k).1
    ∙ ap (λ (d : Told). shown_of d new.bytes (picture_of settings now)) (sym is)) stays g

end-walk : (limit : Option ℕ) (found now : Found) (old new : Stream) → ReadsAhead found now old (Ok false) new
    → old.known ≡ true
    → walk limit Zeros (suc (length old.bytes)) false Elsewhere found None old.bytes ≡ walked now (Ok new.bytes)
end-walk limit found now old new a k = ahead-ends limit found now old.bytes new.bytes (a.1 k).1

pub end-tells : (limit : Option ℕ) (found now : Found) (old new : Stream) (r : Result (Unit {0}) Error) (told : Told)
    → ReadsAhead found now old (Ok false) new → told ≡ told_of now.said
    → OnTold old new r (told ≡ told_in_turns limit (suc (length old.bytes)) false found old.bytes)
end-tells limit found now old new r told a is =
    told-any old new r (λ k. is
    ∙ sym (ap (λ (w : Walked). told_of w.found.said) (end-walk limit found now old new a k)))

pub end-turns : (limit : Option ℕ) (found now : Found) (old new : Stream) (told : Told)
    → ReadsAhead found now old (Ok false) new → told ≡ told_of now.said
    → old.known ≡ true → IsOfTurns (λ n. told_in_turns limit n false found old.bytes) told
unfolding IsOfTurns
end-turns limit found now old new told a is k = (
  suc (length old.bytes),
  is
      ∙ sym (ap (λ (w : Walked). told_of w.found.said) (end-walk limit found now old new a k)),
)

pub end-unexceeded : (limit : Option ℕ) (found now : Found) (old new : Stream) (r : Result (Unit {0}) Error) (b : Bool)
    → b ≡ false → ReadsAhead found now old (Ok false) new
    → OnTold old new r (b ≡ exceeded_rest limit Zeros found old.bytes)
end-unexceeded limit found now old new r b none a =
    told-any old new r (λ k. none ∙ sym (ap (λ (w : Walked). w.exceeded) (end-walk limit found now old new a k)))
