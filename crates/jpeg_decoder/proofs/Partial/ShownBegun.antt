-- Calls that read the header of a stream where it is to be read, and then show what the rest of it has brought.
use Rattle.std.proofs.Common.{◌≡◌, ◌∙◌, ap, ℕ, Bool, List, Option, Result, Ok, Err, IfErr, if◌then◌else◌, is_ok}
use Rattle.std.proofs.Common.{refl, subst, sym, true}
use Rattle.std.proofs.lemmas.Bool.{false≢true}
use Rattle.std.proofs.lemmas.Result.{IfOk-weaker}
use Rattle.jpeg_bits.specs.Reading.{Fault}
use Rattle.jpeg_bits.specs.Stream.{Stream}
use Rattle.jpeg_bits.specs.declared.error.Error.{Error}
use Rattle.jpeg_bits.proofs.Loops.{Names-through}
use Rattle.jpeg_meaning.specs.Found.{Found}
use Rattle.jpeg_meaning.specs.Limits.{exceeded_ahead, exceeded_rest}
use Rattle.jpeg_meaning.specs.Shown.{Shown, shown_ahead, shown_rest_within, shown_within, whole_rows_ahead, whole_rows_rest}
use Rattle.jpeg_meaning.specs.States.{Decoding, IsOfBytes, IsReading, MovesToEnd, OnToldRefusal}
use Rattle.jpeg_meaning.specs.Stream.{Told, header_at, told_of}
use Rattle.jpeg_bits.specs.declared.beyond.Beyond.TheVariants.{Nothing}
use Rattle.jpeg_meaning.specs.declared.progress.Progress.{Progress}
use Rattle.jpeg_meaning.specs.declared.progress.Progress.TheVariants.{Failed, Finished, Fresh, HeaderRead}
use Rattle.jpeg_meaning.specs.declared.settings.Settings.{Settings}
use Rattle.jpeg_meaning.proofs.Refusals.{told-err}
use Rattle.jpeg_decoder.specs.Shows.{CountsRows, GivesUp, IsShown, Knows, Shows, ShowsJust, told_shown_ahead, told_shown_rest}
use Rattle.jpeg_decoder.proofs.Partial.Refused.{unless-so}
use Rattle.jpeg_decoder.proofs.Partial.ShownFaults.{refused-given}
use Rattle.jpeg_decoder.proofs.Pictures.DecodedLines.{IsBegun, IsEmptied, IsUnbegun, other-stage, refused-and}
use Rattle.jpeg_decoder.proofs.Pictures.DecodedLines.{refused-emptied, refused-stage}
use Rattle.jpeg_decoder.proofs.Segments.MarkedTurns.{refusal-after}
use Rattle.jpeg_decoder.proofs.Segments.HeaderThenRest.{header-counts, header-exceeded, header-shows, header-shows_lacking}
use Rattle.jpeg_decoder.proofs.Segments.HeaderThenRest.{header-shows_none, header-shows_told, lacking-exceeded}

-- What a call says that shows what lies ahead of its decoder.
pub record HasShown {X : Type 0} (bytes_of : X → List ℕ) (fault_of : X → Option Error) (told : Told) (more : Bool)
    (old : Decoding) (r : Result X Error) (new : Stream) : Type 0 where
  pub shown : IsReading old.stage
      → ShowsJust (shown_ahead old.stage old.settings old.found) bytes_of fault_of old.source r new told
  pub tells : IsReading old.stage → OnToldRefusal old.source new r
      (told ≡ told_shown_ahead old.settings.max_blocks old.stage old.found old.source.bytes)
  pub exceeded : IsReading old.stage → Knows old.source r new
      (more ≡ exceeded_ahead old.settings.max_blocks Nothing old.stage old.found old.source.bytes)
  pub given_up : IsReading old.stage → GivesUp fault_of old.source r new

none-shown : {X : Type 0} (bytes_of : X → List ℕ) (fault_of : X → Option Error) (told : Told) (more : Bool)
    (old : Decoding) (r : Result X Error) (new : Stream) → (IsReading old.stage → ⊥)
    → HasShown bytes_of fault_of told more old r new
none-shown bytes_of fault_of told more old r new n = record {
  shown = λ k. absurd (n k);
  tells = λ k. absurd (n k);
  exceeded = λ k. absurd (n k);
  given_up = λ k. absurd (n k);
}

-- ---- where the header is refused

-- only a fresh decoder's is
refused-shown : {X : Type 0} (bytes_of : X → List ℕ) (fault_of : X → Option Error) (stage : Progress)
    (old new : Decoding) (e : Error) → IsUnbegun (record old { stage = stage }) new e
    → HasShown bytes_of fault_of (told_of new.found.said) new.exceeded (record old { stage = stage }) (Err e) new.source
refused-shown bytes_of fault_of Fresh old new e h =
    let limit = old.settings.max_blocks in
    let named = λ (k : old.source.known ≡ true) (l : new.source.known ≡ true). (h.reads refl).1 k l in
    record {
      shown = λ _ k l. Names-through e (header_at old.source.bytes) (shown_within limit old.settings old.source.bytes)
          (λ fault is. header-shows_none old.settings old.source.bytes fault is) (named k l);
      tells = λ _ k l. refused-and e _ _ _ (λ p q. p ∙ q) (h.tells refl k l) (told-err e (header_at old.source.bytes) _ (named k l)
          (λ fault is. header-shows_lacking limit old.source.bytes fault is));
      exceeded = λ _ k l. told-err e (header_at old.source.bytes) _ (named k l)
          (λ fault is. h.exceeded tt ∙ sym (lacking-exceeded limit Nothing old.source.bytes fault is));
      given_up = λ _ k l. refused-given e new.source.failed ((h.reads refl).2 k l);
    }
refused-shown bytes_of fault_of HeaderRead old new e h = absurd (false≢true (h.stage tt).1)
refused-shown bytes_of fault_of _ old new e h = none-shown bytes_of fault_of _ _ _ _ _ (λ n. n)

-- ---- where the rest is shown

-- What a call says that shows the rest of a stream.
pub record RestShown {X : Type 0} (bytes_of : X → List ℕ) (fault_of : X → Option Error) (told : Told) (more : Bool)
    (settings : Settings) (found : Found) (mid : Stream) (r : Result X Error) (new : Stream) : Type 0 where
  pub shown : ShowsJust (shown_rest_within settings.max_blocks settings found) bytes_of fault_of mid r new told
  pub tells : OnToldRefusal mid new r (told ≡ told_shown_rest settings.max_blocks found mid.bytes)
  pub exceeded : Knows mid r new (more ≡ exceeded_rest settings.max_blocks Nothing found mid.bytes)
  pub given_up : GivesUp fault_of mid r new

given-after : {X : Type 0} (fault_of : X → Option Error) (old mid new : Stream) (r : Result X Error)
    → (old.known ≡ true → mid.known ≡ true) → GivesUp fault_of mid r new → GivesUp fault_of old r new
given-after fault_of old mid new (Ok x) f h = λ k l. h (f k) l
given-after fault_of old mid new (Err e) f h = λ k l. h (f k) l

shown-at : {X : Type 0} (bytes_of : X → List ℕ) (fault_of : X → Option Error) (told : Told) (more : Bool)
    (stage : Progress) (old mid : Decoding) (new : Stream) (r : Result X Error)
    → IsBegun (record old { stage = stage }) mid
    → RestShown bytes_of fault_of told more mid.settings mid.found mid.source r new
    → HasShown bytes_of fault_of told more (record old { stage = stage }) r new
shown-at {X} bytes_of fault_of told more Fresh old mid new r b rest =
    let header = b.fresh refl in
    let h = subst (λ (s : Settings). RestShown bytes_of fault_of told more s mid.found mid.source r new) b.settings rest in
    record {
      shown = λ _ k l.
          let at = header.1 k in
          subst (λ (o : Result Shown Fault). IsShown o bytes_of fault_of r told)
          (sym (header-shows old.settings mid.found old.source.bytes mid.source.bytes at.1)) (h.shown at.0 l);
      tells = λ _. refusal-after old.source mid.source new r _ _ (λ k.
          let at = header.1 k in
          (at.0, λ p. p ∙ sym (header-shows_told old.settings.max_blocks mid.found old.source.bytes mid.source.bytes at.1)))
          h.tells;
      exceeded = λ _ k l.
          let at = header.1 k in
          unless-so r _ _ (λ p. p ∙ sym (header-exceeded old.settings.max_blocks Nothing mid.found old.source.bytes
          mid.source.bytes at.1)) (h.exceeded at.0 l);
      given_up = λ _. given-after fault_of old.source mid.source new r (λ k. (header.1 k).0) h.given_up;
    }
shown-at bytes_of fault_of told more HeaderRead old mid new r b rest =
    let h = subst (λ (d : Decoding). RestShown bytes_of fault_of told more d.settings d.found d.source r new)
    (b.still other-stage) rest in
    record { shown = λ _. h.shown; tells = λ _. h.tells; exceeded = λ _. h.exceeded; given_up = λ _. h.given_up }
shown-at bytes_of fault_of told more _ old mid new r b rest = none-shown bytes_of fault_of told more _ r new (λ n. n)

-- The complete rows are counted of what lies ahead.
pub rows-at : {X : Type 0} (rows_of : X → ℕ) (stage : Progress) (old mid : Decoding) (new : Stream) (r : Result X Error)
    → IsBegun (record old { stage = stage }) mid → IsReading stage
    → CountsRows rows_of (whole_rows_rest mid.settings.max_blocks mid.found) mid.source r new
    → CountsRows rows_of (whole_rows_ahead old.settings.max_blocks stage old.found) old.source r new
rows-at rows_of Fresh old mid new r b reading counted = λ k l.
    let at = (b.fresh refl).1 k in
    IfOk-weaker r _ _ (λ x is. is
    ∙ ap (λ (s : Settings). whole_rows_rest s.max_blocks mid.found mid.source.bytes) b.settings
    ∙ sym (header-counts old.settings.max_blocks mid.found old.source.bytes mid.source.bytes at.1)) (counted at.0 l)
rows-at rows_of HeaderRead old mid new r b reading counted =
    subst (λ (d : Decoding). CountsRows rows_of (whole_rows_rest d.settings.max_blocks d.found) d.source r new)
    (b.still other-stage) counted
rows-at rows_of _ old mid new r b reading counted = absurd reading

-- ---- all that a call says that shows

shows : {X : Type 0} (bytes_of : X → List ℕ) (fault_of : X → Option Error) (old new : Decoding) (r : Result X Error)
    → MovesToEnd old.stage new.stage r
    → HasShown bytes_of fault_of (told_of new.found.said) new.exceeded old r new.source
    → (IsReading old.stage → IsEmptied new.found) → Shows bytes_of fault_of old r new
shows bytes_of fault_of old new r stage h emptied = record {
  stage = stage;
  shown = h.shown;
  told = h.tells;
  exceeded = h.exceeded;
  given_up = h.given_up;
  emptied = emptied;
}

-- where the header is refused
pub shows-unbegun : {X : Type 0} (bytes_of : X → List ℕ) (fault_of : X → Option Error) (old new : Decoding) (e : Error)
    → IsUnbegun old new e → Shows bytes_of fault_of old (Err e) new
shows-unbegun bytes_of fault_of old new e h =
    shows bytes_of fault_of old new (Err e) (refused-stage _ old.stage old new e h)
    (refused-shown bytes_of fault_of old.stage old new e h) (refused-emptied old.stage old new e h)

-- where the rest is shown
pub shows-rest : {X : Type 0} (bytes_of : X → List ℕ) (fault_of : X → Option Error) (old mid new : Decoding)
    (r : Result X Error) → IsBegun old mid → MovesToEnd old.stage new.stage r
    → RestShown bytes_of fault_of (told_of new.found.said) new.exceeded mid.settings mid.found mid.source r new.source
    → IsEmptied new.found → Shows bytes_of fault_of old r new
shows-rest bytes_of fault_of old mid new r b stage rest emptied =
    shows bytes_of fault_of old new r stage (shown-at bytes_of fault_of _ _ old.stage old mid new.source r b rest)
    (λ _. emptied)

-- where the header was read before
pub shows-header : {X : Type 0} (bytes_of : X → List ℕ) (fault_of : X → Option Error) (old new : Decoding)
    (r : Result X Error) → old.stage ≡ HeaderRead → MovesToEnd HeaderRead new.stage r
    → RestShown bytes_of fault_of (told_of new.found.said) new.exceeded old.settings old.found old.source r new.source
    → IsEmptied new.found → Shows bytes_of fault_of old r new
shows-header bytes_of fault_of old new r is stage rest emptied =
    shows-rest bytes_of fault_of old old new r
    (record { fresh = λ e. absurd (other-stage (sym is ∙ e)); still = λ _. refl; settings = refl })
    (subst (λ (s : Progress). MovesToEnd s new.stage r) (sym is) stage) rest emptied

-- the state after the end, or after a refusal
pub end-moves : {X : Type 0} (r : Result X Error) (b : Bool) (p : Progress) → b ≡ is_ok r
    → p ≡ (if b then Finished else Failed) → IfErr r IsOfBytes → MovesToEnd HeaderRead p r
end-moves (Ok x) b p e q h = q ∙ ap (λ (b : Bool). if b then Finished else Failed) e
end-moves (Err x) b p e q h = (q ∙ ap (λ (b : Bool). if b then Finished else Failed) e, h)
