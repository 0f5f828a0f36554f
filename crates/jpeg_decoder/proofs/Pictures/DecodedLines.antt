-- Calls that read the header of a stream where it is to be read, and then the rest of it.
use Rattle.std.proofs.Common.{rules, IfOk, OnOk, if◌then◌else◌, is_ok, is_some, ◌≡◌, ◌++◌, [], Bool, None, replicate, ℕ}
use Rattle.std.proofs.Common.{suc, List, Result, Ok, Err, true, false, refl, sym, ap, ◌∙◌, subst, length, take}
use Rattle.std.proofs.lemmas.Bool.{false≢true, true≢false}
use Rattle.std.proofs.Math.Seq.{take-append_seam}
use Rattle.jpeg_bits.specs.Reading.{Answers, Fault, MayFail, Names, Outcome}
use Rattle.jpeg_bits.specs.Stream.{Stream}
use Rattle.jpeg_bits.specs.declared.error.Error.{Error}
use Rattle.jpeg_bits.specs.declared.error.Error.TheVariants as errors
use Rattle.jpeg_meaning.specs.declared.settings.Settings.{Settings}
use Rattle.jpeg_meaning.specs.Limits.{exceeded_ahead, exceeded_rest}
use Rattle.jpeg_bits.specs.declared.beyond.Beyond.TheVariants.{Zeros}
use Rattle.jpeg_meaning.specs.Reported.{IsOfTurns, told_in_turns}
use Rattle.jpeg_meaning.specs.declared.progress.Progress.{Progress}
use Rattle.jpeg_meaning.specs.declared.progress.Progress.TheVariants.{Failed, Finished, Fresh, HeaderRead}
use Rattle.jpeg_meaning.specs.Found.{Found, nothing_found}
use Rattle.jpeg_meaning.specs.Sound.{HasDecodedFrame, IsSound, IsUnread}
use Rattle.jpeg_meaning.specs.States.{HasHeader, IfRefused, IsInternal, IsReading, OnTold}
use Rattle.jpeg_meaning.specs.FoundPictures.{picture_of}
use Rattle.jpeg_meaning.specs.FoundPlanes.{planes_of}
use Rattle.jpeg_meaning.specs.States.{Decoding, MovesToEnd, MovesToHeader, ahead_showing, told_ahead, turns_ahead}
use Rattle.jpeg_meaning.specs.Stream.{Told, header_at, rest_showing, told_of}
use Rattle.jpeg_meaning.proofs.Refusals.{told-err, told-through}
use Rattle.jpeg_decoder.specs.Decodes.{Decodes, DecodesPlanes}
use Rattle.jpeg_decoder.proofs.Pictures.DecodedImages.{decodes-images, decodes-planes}
use Rattle.jpeg_decoder.proofs.LosslessFrames.DecodedSamples.{decodes-sample-planes, decodes-samples}
use Rattle.jpeg_decoder.proofs.Segments.HeaderThenRest.{header-reads, header-refuses, header-told, header-told_lacking}
use Rattle.jpeg_decoder.proofs.Segments.HeaderThenRest.{header-exceeded, header-turns, header-turns_lacking}
use Rattle.jpeg_decoder.proofs.Segments.HeaderThenRest.{lacking-exceeded}
use Rattle.jpeg_decoder.proofs.Scans.ScanData.{answers-err}

-- No blocks, planes or samples are kept.
abbrev pub IsEmptied : Found → Type 0
IsEmptied found =
    (found.kept ≡ []) × (found.planes ≡ replicate 4 None) × (found.samples ≡ replicate 4 None)

-- ---- one reading after another

pub answers-then : {X Y Z : Type 0} (view : X → Z) (y : Y) (first : List ℕ → Outcome Y)
    (next whole : List ℕ → Outcome Z)
    (old mid new : Stream) (r : Result X Error)
    → ((rest : List ℕ) → first old.bytes ≡ Ok (y, rest) → whole old.bytes ≡ next rest)
    → Answers (λ (u : Unit {0}). y) first old (Ok tt) mid → Answers view next mid r new → Answers view whole old r new
answers-then view y first next whole old mid new (Ok x) means a h = (
  h.0 ∙ a.0,
  λ k.
      let p = a.1 k in
      let q = h.1 p.0 in
      (q.0, means mid.bytes p.1 ∙ q.1),
)
answers-then view y first next whole old mid new (Err e) means a h = (
  subst (λ b. MayFail e b new.failed) a.0 h.0,
  (λ k l. let p = a.1 k in subst (Names e) (sym (means mid.bytes p.1)) (h.1 p.0 l)),
  (λ k l. h.2 (a.1 k).0 l),
)

-- ---- where the header is read

-- What a call says that has read the rest of a stream, where this is to be shown by the settings.
pub record RestRead {A X : Type 0} (show : Settings → Found → Result A Fault) (view : X → A) (told : Told) (more : Bool)
    (mid : Decoding) (r : Result X Error) (new : Stream) : Type 0 where
  pub reads : Answers (λ x. (told, view x)) (rest_showing mid.settings.max_blocks (show mid.settings) mid.found) mid.source r new
  pub tells : OnTold mid.source new r (told ≡ told_in_turns mid.settings.max_blocks (suc (length mid.source.bytes)) false mid.found mid.source.bytes)
  pub turns : mid.source.known ≡ true → IsOfTurns (λ n. told_in_turns mid.settings.max_blocks n false mid.found mid.source.bytes) told
  pub exceeded : OnTold mid.source new r (more ≡ exceeded_rest mid.settings.max_blocks Zeros mid.found mid.source.bytes)

-- What a call says that has read what its source has left.
pub record HasRead {A X : Type 0} (show : Settings → Found → Result A Fault) (view : X → A) (told : Told) (more : Bool)
    (old : Decoding) (r : Result X Error) (new : Stream) : Type 0 where
  pub reads : IsReading old.stage
      → Answers (λ x. (told, view x)) (ahead_showing old.settings.max_blocks (show old.settings) old.stage old.found)
      old.source r new
  pub told_is : IsReading old.stage
      → OnTold old.source new r (told ≡ told_ahead old.settings.max_blocks false old.stage old.found old.source.bytes)
  pub turns : IsReading old.stage → old.source.known ≡ true
      → IsOfTurns (λ n. turns_ahead old.settings.max_blocks n false old.stage old.found old.source.bytes) told
  pub exceeded : IsReading old.stage → OnTold old.source new r
      (more ≡ exceeded_ahead old.settings.max_blocks Zeros old.stage old.found old.source.bytes)

none-read : {A X : Type 0} (show : Settings → Found → Result A Fault) (view : X → A) (told : Told) (more : Bool)
    (old : Decoding) (r : Result X Error) (new : Stream) → (IsReading old.stage → ⊥) → HasRead show view told more old r new
none-read show view told more old r new n = search rules

-- What was done before the rest was read: the header, where it was to be read.
pub record IsBegun (old mid : Decoding) : Type 0 where
  pub fresh : old.stage ≡ Fresh → Answers (λ (u : Unit {0}). mid.found) header_at old.source (Ok tt) mid.source
  pub still : (old.stage ≡ Fresh → ⊥) → mid ≡ old
  pub settings : mid.settings ≡ old.settings

pub begun-seen : (old mid seen : Decoding) → seen ≡ mid
    → (old.stage ≡ Fresh → Answers (λ (u : Unit {0}). mid.found) header_at old.source (Ok tt) mid.source)
    → ((old.stage ≡ Fresh → ⊥) → mid ≡ old) → mid.settings ≡ old.settings → IsBegun old seen
begun-seen old mid seen e fresh still settings = search rules

pub other-stage : HeaderRead ≡ Fresh → ⊥
other-stage e = let n : ⊥ = cc in n

-- What it says of what a caller is told, beside what it shows.
pub record RestSaid {X : Type 0} (told : Told) (more : Bool) (mid : Decoding) (r : Result X Error)
    (new : Stream) : Type 0
  where
    pub tells : OnTold mid.source new r
        (told ≡ told_in_turns mid.settings.max_blocks (suc (length mid.source.bytes)) false mid.found mid.source.bytes)
    pub turns : mid.source.known ≡ true
        → IsOfTurns (λ n. told_in_turns mid.settings.max_blocks n false mid.found mid.source.bytes) told
    pub exceeded : OnTold mid.source new r
        (more ≡ exceeded_rest mid.settings.max_blocks Zeros mid.found mid.source.bytes)

pub record HasSaid {X : Type 0} (told : Told) (more : Bool) (old : Decoding) (r : Result X Error)
    (new : Stream) : Type 0
  where
    pub told_is : IsReading old.stage
        → OnTold old.source new r (told ≡ told_ahead old.settings.max_blocks false old.stage old.found old.source.bytes)
    pub turns : IsReading old.stage → old.source.known ≡ true
        → IsOfTurns (λ n. turns_ahead old.settings.max_blocks n false old.stage old.found old.source.bytes) told
    pub exceeded : IsReading old.stage → OnTold old.source new r
        (more ≡ exceeded_ahead old.settings.max_blocks Zeros old.stage old.found old.source.bytes)

none-said : {X : Type 0} (told : Told) (more : Bool) (old : Decoding) (r : Result X Error) (new : Stream)
    → (IsReading old.stage → ⊥) → HasSaid told more old r new
none-said told more old r new n = search rules

pub said-into : {X : Type 0} (told : Told) (more : Bool) (stage : Progress) (old mid : Decoding) (new : Stream)
    (r : Result X Error) → IsBegun (record old { stage = stage }) mid → RestSaid told more mid r new
    → HasSaid told more (record old { stage = stage }) r new
said-into {X} told more Fresh old mid new r b h =
    let header = b.fresh refl in
    record {
      told_is = λ _. told-through {X = X} old.source mid.source new r _ _ (λ k.
          let at = header.1 k in
          (at.0, λ p. p ∙ sym (header-told old.settings.max_blocks mid.found old.source.bytes mid.source.bytes at.1)))
          (subst (λ (s : Settings). OnTold mid.source new r (told ≡ told_in_turns s.max_blocks
          (suc (length mid.source.bytes)) false mid.found mid.source.bytes)) b.settings h.tells);
      turns = λ _ k.
          let at = header.1 k in
          header-turns old.settings.max_blocks mid.found old.source.bytes mid.source.bytes told at.1
          (subst (λ (s : Settings). IsOfTurns (λ n. told_in_turns s.max_blocks n false mid.found mid.source.bytes) told)
          b.settings (h.turns at.0));
      exceeded = λ _. told-through {X = X} old.source mid.source new r _ _ (λ k.
          let at = header.1 k in
          (at.0, λ p. p ∙ sym (header-exceeded old.settings.max_blocks Zeros mid.found old.source.bytes mid.source.bytes at.1)))
          (subst (λ (s : Settings). OnTold mid.source new r (more ≡ exceeded_rest s.max_blocks Zeros mid.found
          mid.source.bytes)) b.settings h.exceeded);
    }
said-into told more HeaderRead old mid new r b h =
    let same = subst (λ (d : Decoding). RestSaid told more d r new) (b.still other-stage) h in
    record { told_is = λ _. same.tells; turns = λ _. same.turns; exceeded = λ _. same.exceeded }
said-into told more _ old mid new r b h = none-said told more _ r new (λ n. n)

pub into-at : {A X : Type 0} (show : Settings → Found → Result A Fault) (view : X → A) (told : Told) (more : Bool)
    (stage : Progress) (old mid : Decoding) (new : Stream) (r : Result X Error)
    → IsBegun (record old { stage = stage }) mid
    → RestRead show view told more mid r new → HasRead show view told more (record old { stage = stage }) r new
into-at {A} {X} show view told more Fresh old mid new r b h =
    let header = b.fresh refl in
    let said = said-into told more Fresh old mid new r b
    (record { tells = h.tells; turns = h.turns; exceeded = h.exceeded }) in
    record {
      reads = λ _. answers-then (λ x. (told, view x)) mid.found header_at
          (rest_showing old.settings.max_blocks (show old.settings) mid.found)
          (ahead_showing old.settings.max_blocks (show old.settings) Fresh old.found) old.source mid.source new r
          (λ rest e. header-reads old.settings.max_blocks (show old.settings) mid.found old.source.bytes rest e) header
          (subst (λ (s : Settings). Answers (λ (x : X). (told, view x)) (rest_showing s.max_blocks (show s) mid.found)
          mid.source r new) b.settings h.reads);
      told_is = said.told_is;
      turns = said.turns;
      exceeded = said.exceeded;
    }
into-at show view told more HeaderRead old mid new r b h =
    let same = subst (λ (d : Decoding). RestRead show view told more d r new) (b.still other-stage) h in
    record {
      reads = λ _. same.reads;
      told_is = λ _. same.tells;
      turns = λ _. same.turns;
      exceeded = λ _. same.exceeded;
    }
into-at show view told more _ old mid new r b h = none-read show view told more _ r new (λ n. n)

-- ---- where the header is refused

pub refused-and : (e : Error) (P Q R : Type 0) → (P → Q → R) → IfRefused e P → IfRefused e Q → IfRefused e R
refused-and errors.OutOfMemory P Q R f p q = tt
refused-and _ _ _ _ f p q = f p q

-- What a call says that was to read the header, and was refused.
pub record IsUnbegun (old new : Decoding) (e : Error) : Type 0 where
  pub stage : IsReading old.stage → MovesToHeader {X = Unit {0}} old.stage new.stage (Err e)
  pub ended : (IsReading old.stage → ⊥) → IsInternal e
  pub reads : old.stage ≡ Fresh → Answers (λ (u : Unit {0}). new.found) header_at old.source (Err e) new.source
  pub tells : old.stage ≡ Fresh → OnTold {X = Unit {0}} old.source new.source (Err e)
      (told_of new.found.said ≡ told_ahead None true old.stage old.found old.source.bytes)
  pub turns : old.stage ≡ Fresh → old.source.known ≡ true
      → IsOfTurns (λ n. turns_ahead None n true old.stage old.found old.source.bytes) (told_of new.found.said)
  pub still : (old.stage ≡ Fresh → ⊥) → new ≡ old
  pub exceeded : IsReading old.stage → new.exceeded ≡ false
  pub emptied : old.stage ≡ Fresh → IsEmptied new.found

-- only a fresh decoder's is
pub refused-said : {X : Type 0} (stage : Progress) (old new : Decoding) (e : Error)
    → IsUnbegun (record old { stage = stage }) new e
    → HasSaid {X = X} (told_of new.found.said) new.exceeded (record old { stage = stage }) (Err e) new.source
refused-said Fresh old new e h = record {
  told_is = λ _ k l. refused-and e _ _ _ (λ p q. p ∙ q) (h.tells refl k l)
      (told-err e (header_at old.source.bytes) _ ((h.reads refl).1 k l)
      (λ fault is. header-told_lacking old.settings.max_blocks old.source.bytes fault is));
  turns = λ _ k. header-turns_lacking old.settings.max_blocks old.source.bytes _ (h.turns refl k);
  exceeded = λ _ k l. told-err e (header_at old.source.bytes) _ ((h.reads refl).1 k l)
      (λ fault is. h.exceeded tt ∙ sym (lacking-exceeded old.settings.max_blocks Zeros old.source.bytes fault is));
}
refused-said HeaderRead old new e h = absurd (false≢true (h.stage tt).1)
refused-said _ old new e h = none-said _ _ _ _ _ (λ n. n)

refused-at : {A X : Type 0} (show : Settings → Found → Result A Fault) (view : X → A) (stage : Progress)
    (old new : Decoding) (e : Error) → IsUnbegun (record old { stage = stage }) new e
    → HasRead show view (told_of new.found.said) new.exceeded (record old { stage = stage }) (Err e) new.source
refused-at {A} {X} show view Fresh old new e h =
    let said = refused-said {X = X} Fresh old new e h in
    record {
      reads = λ _. answers-err (λ (u : Unit {0}). new.found) (λ x. (told_of new.found.said, view x)) header_at
          (ahead_showing old.settings.max_blocks (show old.settings) Fresh old.found) old.source new.source e
          (λ fault is. header-refuses old.settings.max_blocks (show old.settings) old.source.bytes fault is)
          (h.reads refl);
      told_is = said.told_is;
      turns = said.turns;
      exceeded = said.exceeded;
    }
refused-at show view HeaderRead old new e h = absurd (false≢true (h.stage tt).1)
refused-at show view _ old new e h = none-read show view _ _ _ _ _ (λ n. n)

pub refused-stage : (X : Type 0) (stage : Progress) (old new : Decoding) (e : Error)
    → IsUnbegun (record old { stage = stage }) new e → MovesToEnd {X = X} stage new.stage (Err e)
refused-stage X Fresh old new e h = h.stage tt
refused-stage X HeaderRead old new e h = absurd (false≢true (h.stage tt).1)
refused-stage X Finished old new e h =
    (ap (λ (d : Decoding). d.stage) (h.still (λ k. let n : ⊥ = cc in n)), h.ended (λ n. n))
refused-stage X Failed old new e h =
    (ap (λ (d : Decoding). d.stage) (h.still (λ k. let n : ⊥ = cc in n)), h.ended (λ n. n))

pub refused-emptied : (stage : Progress) (old new : Decoding) (e : Error)
    → IsUnbegun (record old { stage = stage }) new e → IsReading stage → IsEmptied new.found
refused-emptied Fresh old new e h k = h.emptied refl
refused-emptied HeaderRead old new e h k = absurd (false≢true (h.stage tt).1)
refused-emptied _ old new e h k = absurd k

-- ---- all that a call says that decodes

-- What was read, the state after it, and that nothing is kept.
pub decodes : {X : Type 0} (bytes_of : X → List ℕ) (old new : Decoding) (r : Result X Error)
    → MovesToEnd old.stage new.stage r → HasRead picture_of bytes_of (told_of new.found.said) new.exceeded old r new.source
    → (IsReading old.stage → IsEmptied new.found) → Decodes bytes_of old r new
decodes bytes_of old new r stage read emptied = record {
  stage = stage;
  reads = read.reads;
  images = decodes-images bytes_of old new r read.reads;
  samples = decodes-samples bytes_of old new r read.reads;
  told = read.told_is;
  turns = read.turns;
  exceeded = read.exceeded;
  emptied = emptied;
}

-- where the header is refused
pub decodes-unbegun : {X : Type 0} (bytes_of : X → List ℕ) (old new : Decoding) (e : Error)
    → IsUnbegun old new e → Decodes bytes_of old (Err e) new
decodes-unbegun bytes_of old new e h =
    decodes bytes_of old new (Err e) (refused-stage _ old.stage old new e h)
    (refused-at picture_of bytes_of old.stage old new e h) (refused-emptied old.stage old new e h)

-- where the rest is read
pub decodes-rest : {X : Type 0} (bytes_of : X → List ℕ) (old mid new : Decoding) (r : Result X Error) → IsBegun old mid
    → MovesToEnd old.stage new.stage r → RestRead picture_of bytes_of (told_of new.found.said) new.exceeded mid r new.source
    → IsEmptied new.found → Decodes bytes_of old r new
decodes-rest bytes_of old mid new r b stage read emptied =
    decodes bytes_of old new r stage (into-at picture_of bytes_of _ _ old.stage old mid new.source r b read) (λ _. emptied)

-- ---- calls that do more with what is decoded

-- where the header was read already
begun-stage : {X : Type 0} (stage new : Progress) (r : Result X Error) → IsReading stage → MovesToEnd HeaderRead new r
    → MovesToEnd stage new r
begun-stage Fresh new (Ok x) k h = h
begun-stage Fresh new (Err e) k h = h
begun-stage HeaderRead new r k h = h
begun-stage _ new r k h = absurd k

begun-rest : {X : Type 0} (bytes_of : X → List ℕ) (mid new : Decoding) (r : Result X Error)
    → Decodes bytes_of (record mid { stage = HeaderRead }) r new
    → RestRead picture_of bytes_of (told_of new.found.said) new.exceeded mid r new.source
begun-rest bytes_of mid new r d =
    record { reads = d.reads tt; tells = d.told tt; turns = d.turns tt; exceeded = d.exceeded tt }

pub decodes-begun : {X : Type 0} (bytes_of : X → List ℕ) (old mid new : Decoding) (r : Result X Error)
    → IsReading old.stage → IsBegun old mid → mid.stage ≡ HeaderRead → Decodes bytes_of mid r new
    → Decodes bytes_of old r new
decodes-begun {X} bytes_of old mid new r k b e d =
    let at = subst (λ (s : Progress). Decodes bytes_of (record mid { stage = s }) r new) e d in
    decodes-rest bytes_of old mid new r b (begun-stage old.stage new.stage r k at.stage)
    (begun-rest bytes_of mid new r at) (at.emptied tt)

-- the same bytes, seen otherwise
same-stage : {X Y : Type 0} (old new : Progress) (x : X) (y : Y) → MovesToEnd old new (Ok x) → MovesToEnd old new (Ok y)
same-stage Fresh new x y h = h
same-stage HeaderRead new x y h = h
same-stage Finished new x y h = h
same-stage Failed new x y h = h

pub decodes-as : {X Y : Type 0} (bytes_of : X → List ℕ) (seen_as : Y → List ℕ) (old new : Decoding) (x : X) (y : Y)
    → seen_as y ≡ bytes_of x → Decodes bytes_of old (Ok x) new → Decodes seen_as old (Ok y) new
decodes-as bytes_of seen_as old new x y same d =
    decodes seen_as old new (Ok y) (same-stage old.stage new.stage x y d.stage) (record {
      reads = λ k.
          let a = d.reads k in (
            a.0,
            λ l. (
              (a.1 l).0,
              (a.1 l).1 ∙ ap (λ (b : List ℕ). Ok ((told_of new.found.said, b), new.source.bytes)) (sym same),
            ),
          );
      told_is = d.told;
      turns = d.turns;
      exceeded = d.exceeded;
    }) d.emptied

err-stage : (X Y : Type 0) (old new : Progress) (e : Error) → MovesToEnd {X = X} old new (Err e)
    → MovesToEnd {X = Y} old new (Err e)
err-stage X Y Fresh new e h = h
err-stage X Y HeaderRead new e h = h
err-stage X Y Finished new e h = h
err-stage X Y Failed new e h = h

pub decodes-err : {X Y : Type 0} (bytes_of : X → List ℕ) (seen_as : Y → List ℕ) (old new : Decoding) (e : Error)
    → Decodes bytes_of old (Err e) new → Decodes seen_as old (Err e) new
decodes-err bytes_of seen_as old new e d =
    decodes seen_as old new (Err e) (err-stage _ _ old.stage new.stage e d.stage)
    (record { reads = d.reads; told_is = d.told; turns = d.turns; exceeded = d.exceeded }) d.emptied

-- An image was left to decode.
pub decoded-reading : {X : Type 0} (old new : Progress) (x : X) → MovesToEnd old new (Ok x) → IsReading old
decoded-reading Fresh new x h = tt
decoded-reading HeaderRead new x h = tt
decoded-reading Finished new x h = absurd h.1
decoded-reading Failed new x h = absurd h.1

-- no memory is left for what was decoded
pub lost-stage : {X : Type 0} (Y : Type 0) (old new : Progress) (x : X) → MovesToEnd old new (Ok x)
    → MovesToEnd {X = Y} old Failed (Err errors.OutOfMemory)
lost-stage Y Fresh new x h = (refl, tt)
lost-stage Y HeaderRead new x h = (refl, tt)
lost-stage Y Finished new x h = absurd h.1
lost-stage Y Failed new x h = absurd h.1

pub decodes-lost : {X Y : Type 0} (bytes_of : X → List ℕ) (seen_as : Y → List ℕ) (old mid new : Decoding) (x : X)
    (e : Error) → e ≡ errors.OutOfMemory → new ≡ record mid { stage = Failed } → Decodes bytes_of old (Ok x) mid
    → Decodes seen_as old (Err e) new
decodes-lost {Y = Y} bytes_of seen_as old mid new x e is made d =
    subst (λ (e : Error). Decodes seen_as old (Err e) new) (sym is)
    (subst (λ (new : Decoding). Decodes {X = Y} seen_as old (Err errors.OutOfMemory) new) (sym made)
    (decodes seen_as old (record mid { stage = Failed }) (Err errors.OutOfMemory)
    (lost-stage Y old.stage mid.stage x d.stage) (record {
      reads = λ k.
          let a = d.reads k in (
            a.0,
            (λ l m. tt),
            λ l m. absurd (true≢false (sym (a.1 l).0 ∙ m)),
          );
      told_is = λ k l m. tt;
      turns = d.turns;
      exceeded = λ k l m. tt;
    }) d.emptied))

-- the front of the caller's memory
pub front-of : (n : ℕ) (ys more : List ℕ) → length ys ≡ n → take n (ys ++ more) ≡ ys
front-of n ys more h = ap (λ (k : ℕ). take k (ys ++ more)) (sym h) ∙ take-append_seam ys more

-- what holds between calls
pub read-holds : {X : Type 0} (found : Found) (exceeded : Bool) (r : Result X Error) (b : Bool) (p : Progress) → b ≡ is_ok r
    → p ≡ (if b then Finished else Failed) → IfOk r (λ _. is_some found.said.frame ≡ true)
    → OnOk r (HasDecodedFrame found) → (p ≡ Fresh → found ≡ nothing_found)
    × (HasHeader p → is_some found.said.frame ≡ true) × (HasHeader p → HasDecodedFrame found)
    × (p ≡ HeaderRead → IsSound found × IsUnread found) × (IsReading p → exceeded ≡ false)
read-holds found exceeded (Ok x) b p e q framed frames = rw (q, e) (search rules)
read-holds found exceeded (Err x) b p e q framed frames = rw (q, e) (search rules)

-- ---- planes

-- what is to be shown
abbrev pub planes_by : Settings → Found → Result (List (List ℕ)) Fault
planes_by settings found = planes_of settings.limit found

-- What was read, the state after it, and that nothing is kept.
planes-decoded : {X : Type 0} (view : X → List (List ℕ)) (old new : Decoding) (r : Result X Error)
    → MovesToEnd old.stage new.stage r → HasRead planes_by view (told_of new.found.said) new.exceeded old r new.source
    → (IsReading old.stage → IsEmptied new.found) → DecodesPlanes view old r new
planes-decoded view old new r stage read emptied = record {
  stage = stage;
  reads = read.reads;
  images = decodes-planes view old new r read.reads;
  samples = decodes-sample-planes view old new r read.reads;
  told = read.told_is;
  turns = read.turns;
  exceeded = read.exceeded;
  emptied = emptied;
}

-- where the header is refused
pub planes-unbegun : {X : Type 0} (view : X → List (List ℕ)) (old new : Decoding) (e : Error)
    → IsUnbegun old new e → DecodesPlanes view old (Err e) new
planes-unbegun view old new e h =
    planes-decoded view old new (Err e) (refused-stage _ old.stage old new e h)
    (refused-at planes_by view old.stage old new e h) (refused-emptied old.stage old new e h)

-- where the rest is read
pub planes-rest : {X : Type 0} (view : X → List (List ℕ)) (old mid new : Decoding) (r : Result X Error) → IsBegun old mid
    → MovesToEnd old.stage new.stage r → RestRead planes_by view (told_of new.found.said) new.exceeded mid r new.source
    → IsEmptied new.found → DecodesPlanes view old r new
planes-rest view old mid new r b stage read emptied =
    planes-decoded view old new r stage (into-at planes_by view _ _ old.stage old mid new.source r b read) (λ _. emptied)
