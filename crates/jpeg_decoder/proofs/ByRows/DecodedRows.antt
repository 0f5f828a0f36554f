-- A call that reads the header of a stream where it is to be read, and then gives the lines of its picture.
use Rattle.std.proofs.Common.{◌≡◌, ◌∙◌, ◌++◌, Bool, true, false, List, [], ℕ, Option, Result, Ok, Err, OnOk, refl, sym, ap, subst}
use Rattle.std.proofs.Common.{is_some}
use Rattle.std.proofs.lemmas.Bool.{false≢true}
use Rattle.std.specs.List.{concat}
use Rattle.std.specs.Prelude.{option_map}
use Rattle.jpeg_bits.specs.Reading.{Answers, MayFail, Outcome, ◌>>=◌}
use Rattle.jpeg_bits.specs.Stream.{Stream}
use Rattle.jpeg_bits.specs.declared.error.Error.{Error}
use Rattle.jpeg_bits.specs.declared.error.Error.TheVariants as errors
use Rattle.jpeg_segments.specs.Frame.{Frame}
use Rattle.jpeg_meaning.specs.Found.{Found}
use Rattle.jpeg_meaning.specs.Sound.{HasDecodedFrame}
use Rattle.jpeg_meaning.specs.States.{Decoding, IsOfBytes, IsReading, MovesToEnd}
use Rattle.jpeg_meaning.specs.Stream.{Told, header_at, told_of}
use Rattle.jpeg_meaning.specs.declared.progress.Progress.{Progress}
use Rattle.jpeg_meaning.specs.declared.progress.Progress.TheVariants.{Failed, Finished, Fresh, HeaderRead}
use Rattle.jpeg_meaning.specs.declared.settings.Settings.{Settings}
use Rattle.jpeg_meaning.proofs.Written.ReadTurns.{then-ok}
use Rattle.jpeg_decoder.specs.ByRows.{rows_ahead, rows_rest}
use Rattle.jpeg_decoder.specs.Bytes.{IsWhole, shape_of}
use Rattle.jpeg_decoder.specs.DecodesRows.{DecodesRows}
use Rattle.jpeg_decoder.specs.FirstLines.{GivesFirst, GivesFirstIf, first_lines, lines_ahead}
use Rattle.jpeg_decoder.specs.RowScans.{Begins, GoesOn, InScan, IsBegunAt, IsGiving, IsGivingScan, IsUntaken, SaysAtScan}
use Rattle.jpeg_decoder.specs.RowScans.{SaysRest}
use Rattle.jpeg_decoder.specs.RowsView.{LinesLeft}
use Rattle.jpeg_decoder.specs.declared.by_rows.first_scan.RowScan.{RowScan}
use Rattle.jpeg_decoder.specs.declared.by_rows.rest.Begun.{Begun}
use Rattle.jpeg_decoder.specs.declared.by_rows.rest.Begun.TheVariants as begun
use Rattle.jpeg_decoder.proofs.ByRows.FirstLines.{lacks-named, lacks-then, none-first, same-first}
use Rattle.jpeg_decoder.proofs.ByRows.RowsImages.{lines-images, settled-images}
use Rattle.jpeg_decoder.proofs.Pictures.DecodedLines.{IsBegun, IsEmptied, IsUnbegun, answers-then}
use Rattle.jpeg_decoder.proofs.Pictures.DecodedLines.{other-stage, refused-emptied, refused-said, refused-stage}
use Rattle.jpeg_decoder.proofs.Pictures.DecodedLines.{said-into}
use Rattle.jpeg_decoder.proofs.Scans.ScanData.{answers-err}

-- ---- the header is refused

unread-rows : (see : Unit {0} → Told × List ℕ) (stage : Progress) (old new : Decoding) (e : Error)
    → IsUnbegun (record old { stage = stage }) new e → IsReading stage
    → Answers see (rows_ahead stage old.settings old.found) old.source (Err e) new.source
unread-rows see Fresh old new e h k =
    answers-err (λ (u : Unit {0}). new.found) see header_at
    (rows_ahead Fresh old.settings old.found) old.source new.source e
    (λ fault is. ap (λ (o : Outcome Found). o >>= (λ header. rows_rest old.settings header.0 header.1)) is)
    (h.reads refl)
unread-rows see HeaderRead old new e h k = absurd (false≢true (h.stage tt).1)
unread-rows see _ old new e h k = absurd k

unread-first : (stage : Progress) (old new : Decoding) (e : Error) → IsUnbegun (record old { stage = stage }) new e
    → IsReading stage → old.source.known ≡ true
    → GivesFirst (λ n. lines_ahead stage old.settings old.found old.source.bytes n) e new.source.known []
unread-first Fresh old new e h k known =
    none-first (λ n. lines_ahead Fresh old.settings old.found old.source.bytes n) e new.source.known
    (λ still. lacks-then e (header_at old.source.bytes) (λ header. first_lines 1 old.settings header.0 header.1)
    (lacks-named e (header_at old.source.bytes) ((h.reads refl).1 known still)))
unread-first HeaderRead old new e h k known = absurd (false≢true (h.stage tt).1)
unread-first _ old new e h k known = absurd k

pub rows-unbegun : (old new : Decoding) (e : Error) → IsUnbegun old new e
    → new.settings ≡ old.settings → DecodesRows old (Err e) new []
rows-unbegun old new e h settings =
    let said = refused-said {X = Unit {0}} old.stage old new e h in
    let reads = unread-rows (λ u. (told_of new.found.said, [])) old.stage old new e h in
    record {
      stage = refused-stage (Unit {0}) old.stage old new e h;
      reads = reads;
      images = tt;
      settled = settled-images old new (Err e) [] reads;
      given = unread-first old.stage old new e h;
      whole = tt;
      settings = settings;
      stays = λ is. ap (λ (d : Decoding). d.found.said.frame) (h.still (λ f. other-stage (sym is ∙ f)));
      told = said.told_is;
      turns = said.turns;
      exceeded = said.exceeded;
      emptied = refused-emptied old.stage old new e h;
    }

-- ---- the rest is read

rows-into : (told : Told) (bytes : List ℕ) (stage : Progress) (old mid : Decoding) (new : Stream)
    (r : Result (Unit {0}) Error) → IsBegun (record old { stage = stage }) mid
    → Answers (λ (u : Unit {0}). (told, bytes)) (rows_rest mid.settings mid.found) mid.source r new
    → IsReading stage
    → Answers (λ (u : Unit {0}). (told, bytes)) (rows_ahead stage old.settings old.found) old.source r new
rows-into told bytes Fresh old mid new r b a k =
    answers-then (λ (u : Unit {0}). (told, bytes)) mid.found header_at (rows_rest old.settings mid.found)
    (rows_ahead Fresh old.settings old.found) old.source mid.source new r
    (λ rest e. then-ok (header_at old.source.bytes) (λ header. rows_rest old.settings header.0 header.1)
    (mid.found, rest)
    (rows_rest old.settings mid.found rest) e refl) (b.fresh refl)
    (subst (λ (s : Settings). Answers (λ (u : Unit {0}). (told, bytes)) (rows_rest s mid.found) mid.source r new)
    b.settings a)
rows-into told bytes HeaderRead old mid new r b a k =
    subst (λ (d : Decoding). Answers (λ (u : Unit {0}). (told, bytes))
    (rows_rest d.settings d.found) d.source r new)
    (b.still other-stage) a
rows-into told bytes _ old mid new r b a k = absurd k

first-into : (stage : Progress) (old mid : Decoding) (new : Stream) (r : Result (Unit {0}) Error) (bytes : List ℕ)
    → IsBegun (record old { stage = stage }) mid
    → (mid.source.known ≡ true → GivesFirstIf (λ n. first_lines n mid.settings mid.found mid.source.bytes) r new.known
    bytes) → IsReading stage → old.source.known ≡ true
    → GivesFirstIf (λ n. lines_ahead stage old.settings old.found old.source.bytes n) r new.known bytes
first-into Fresh old mid new r bytes b first k known =
    let header = (b.fresh refl).1 known in
    same-first (λ n. first_lines n mid.settings mid.found mid.source.bytes)
    (λ n. lines_ahead Fresh old.settings old.found old.source.bytes n) r new.known bytes
    (λ n. then-ok (header_at old.source.bytes) (λ header. first_lines n old.settings header.0 header.1)
    (mid.found, mid.source.bytes) (first_lines n old.settings mid.found mid.source.bytes) header.1 refl
    ∙ ap (λ (s : Settings). first_lines n s mid.found mid.source.bytes) (sym b.settings)) (first header.0)
first-into HeaderRead old mid new r bytes b first k known =
    subst (λ (d : Decoding). d.source.known ≡ true
    → GivesFirstIf (λ n. first_lines n d.settings d.found d.source.bytes) r new.known bytes) (b.still other-stage)
    first known
first-into _ old mid new r bytes b first k known = absurd k

on-ok : {P Q : Type 0} (r : Result (Unit {0}) Error) → (P → Q) → OnOk r P → OnOk r Q
on-ok (Ok u) f p = f p
on-ok (Err e) f p = tt

pub rows-given : (old mid new : Decoding) (r : Result (Unit {0}) Error) (bytes : List ℕ) → IsBegun old mid
    → MovesToEnd old.stage new.stage r
    → SaysRest mid.settings mid.found mid.source r new.source (told_of new.found.said) new.exceeded bytes
    → new.settings ≡ mid.settings → new.found.said.frame ≡ mid.found.said.frame → IsEmptied new.found
    → DecodesRows old r new bytes
rows-given old mid new r bytes b stage s settings stays emptied =
    let said = said-into (told_of new.found.said) new.exceeded old.stage old mid new.source r b
    (record { tells = s.tells; turns = s.turns; exceeded = s.exceeds }) in
    let reads = rows-into (told_of new.found.said) bytes old.stage old mid new.source r b s.gives.reads in
    record {
      stage = stage;
      reads = reads;
      images = lines-images old new r bytes reads;
      settled = settled-images old new r bytes reads;
      given = first-into old.stage old mid new.source r bytes b s.given;
      whole = on-ok r (λ h. subst (λ (o : Option Frame). IsWhole (option_map (shape_of new.settings) o) bytes)
          (sym stays) (subst (λ (q : Settings). IsWhole (option_map (shape_of q) mid.found.said.frame) bytes)
          (sym settings) h)) s.gives.whole;
      settings = settings ∙ b.settings;
      stays = λ is. stays ∙ ap (λ (d : Decoding). d.found.said.frame) (b.still (λ f. other-stage (sym is ∙ f)));
      told = said.told_is;
      turns = said.turns;
      exceeded = said.exceeded;
      emptied = λ _. emptied;
    }

-- ---- a scan was begun, or all lines are there

pub at-scan : (settings : Settings) (found : Found) (old : Stream) (b : Begun) (now : Found) (new : Stream)
    (exceeded : Bool) (scan : RowScan) → b ≡ begun.Scan scan → Begins settings found old (Ok b) now new exceeded
    → IsBegunAt settings found old now scan new
at-scan settings found old b now new exceeded scan e h =
    (subst (λ (b : Begun). Begins settings found old (Ok b) now new exceeded) e h).1

pub at-lines : (settings : Settings) (found : Found) (old : Stream) (b : Begun) (now : Found) (new : Stream)
    (exceeded : Bool) (shown : LinesLeft) → b ≡ begun.Lines shown → Begins settings found old (Ok b) now new exceeded
    → SaysRest settings found old (Ok tt) new (told_of now.said) exceeded (concat shown.left)
    × IsUntaken (option_map (shape_of settings) now.said.frame) shown
at-lines settings found old b now new exceeded shown e h =
    subst (λ (b : Begun). Begins settings found old (Ok b) now new exceeded) e h

of-bytes : (e : Error) (old new : Bool) → MayFail e old new → IsOfBytes e
of-bytes (errors.Internal text) old new h = h
of-bytes (errors.Format text) old new h = tt
of-bytes (errors.Unsupported feature) old new h = tt
of-bytes (errors.Io io) old new h = tt
of-bytes errors.OutOfMemory old new h = tt

-- where the stream ends, or is refused
pub moves-finished : (stage : Progress) → IsReading stage → MovesToEnd {X = Unit {0}} stage Finished (Ok tt)
moves-finished Fresh k = refl
moves-finished HeaderRead k = refl
moves-finished _ k = absurd k

pub moves-failed : (stage : Progress) (e : Error) (old new : Bool) → IsReading stage → MayFail e old new
    → MovesToEnd {X = Unit {0}} stage Failed (Err e)
moves-failed Fresh e old new k h = (refl, of-bytes e old new h)
moves-failed HeaderRead e old new k h = (refl, of-bytes e old new h)
moves-failed _ e old new k h = absurd k

-- a decoder that has read on
abbrev pub read-on : Decoding → Progress → Found → Stream → Bool → Decoding
read-on mid stage found source exceeded = record mid {
  stage = stage;
  found = found;
  source = source;
  exceeded = exceeded;
}

-- What was found is told, and nothing that scans gave is kept.
pub record IsDropped (now new : Found) : Type 0 where
  pub told : told_of new.said ≡ told_of now.said
  pub emptied : IsEmptied new

pub dropped-frame : (now new : Found) → told_of new.said ≡ told_of now.said → new.said.frame ≡ now.said.frame
dropped-frame now new h = ap (λ (t : Told). t.frame) h

-- The frame is there still.
pub dropped-decoded : (d mid : Decoding) (scan : RowScan) (now found : Found) → IsGiving d scan → mid ≡ d
    → now.said.frame ≡ mid.found.said.frame → told_of found.said ≡ told_of now.said → HasDecodedFrame now
    → (is_some found.said.frame ≡ true) × HasDecodedFrame found
dropped-decoded d mid scan now found giving e stays told decoded =
    let same = dropped-frame now found told in
    let framed = giving.is.is.header.legal.framed in (
      ap is_some (same ∙ stays ∙ ap (λ (x : Decoding). x.found.said.frame) e ∙ framed),
      λ frame is. decoded frame (sym same ∙ is),
    )

rows-ended : (old mid new : Decoding) (now : Found) (r : Result (Unit {0}) Error) (bytes : List ℕ) → IsBegun old mid
    → MovesToEnd old.stage new.stage r
    → SaysRest mid.settings mid.found mid.source r new.source (told_of now.said) new.exceeded bytes
    → new.settings ≡ mid.settings → now.said.frame ≡ mid.found.said.frame → IsDropped now new.found
    → DecodesRows old r new bytes
rows-ended old mid new now r bytes b stage s settings stays d =
    rows-given old mid new r bytes b stage
    (subst (λ (t : Told). SaysRest mid.settings mid.found mid.source r new.source t new.exceeded bytes) (sym d.told) s)
    settings (dropped-frame now new.found d.told ∙ stays) d.emptied

pub begun-lines : (old mid : Decoding) (now found : Found) (source : Stream) (exceeded : Bool)
    (shown : LinesLeft) → IsBegun old mid → IsReading old.stage
    → SaysRest mid.settings mid.found mid.source (Ok tt) source (told_of now.said) exceeded (concat shown.left)
    × IsUntaken (option_map (shape_of mid.settings) now.said.frame) shown
    → now.said.frame ≡ mid.found.said.frame → IsDropped now found
    → DecodesRows old (Ok tt) (read-on mid Finished found source exceeded) (concat shown.left)
    × IsUntaken (option_map (shape_of mid.settings) found.said.frame) shown
begun-lines old mid now found source exceeded shown b k s stays d = (
  rows-ended old mid (read-on mid Finished found source exceeded) now (Ok tt) (concat shown.left) b
      (moves-finished old.stage k) s.0 refl stays d,
  subst (λ (o : Option Frame). IsUntaken (option_map (shape_of mid.settings) o) shown)
      (sym (dropped-frame now found d.told)) s.1,
)

pub begun-refused : (old mid : Decoding) (now found : Found) (source : Stream) (exceeded : Bool) (e : Error)
    → IsBegun old mid → IsReading old.stage
    → SaysRest mid.settings mid.found mid.source (Err e) source (told_of now.said) exceeded []
    → now.said.frame ≡ mid.found.said.frame → IsDropped now found
    → DecodesRows old (Err e) (read-on mid Failed found source exceeded) []
begun-refused old mid now found source exceeded e b k s stays d =
    rows-ended old mid (read-on mid Failed found source exceeded) now (Err e) [] b
    (moves-failed old.stage e mid.source.failed source.failed k s.gives.reads.0) s refl stays d

pub begun-scan : (old mid : Decoding) (stage : Progress) (found : Found) (source : Stream) (exceeded : Bool)
    (scan : RowScan) → IsBegun old mid → IsReading old.stage
    → IsBegunAt mid.settings mid.found mid.source found scan source → found.said.frame ≡ mid.found.said.frame
    → IsGivingScan old (read-on mid stage found source exceeded) scan [] × (scan.giver.lines.items ≡ [])
begun-scan old mid stage found source exceeded scan b k at stays = (
  record {
    k = at.k;
    at = at.at;
    leads = λ result new all says moves settings frame bare.
        rows-given old mid new result all b moves
        (at.leads result new.source (told_of new.found.said) new.exceeded all says) settings (frame ∙ stays) bare;
    reading = k;
    is = at.is;
  },
  at.none,
)

-- ---- a scan is read on

pub giving-lines : (start d : Decoding) (scan : RowScan) (now found : Found) (source : Stream) (exceeded : Bool)
    (bytes : List ℕ) (h : IsGivingScan start d scan bytes)
    → SaysAtScan d.settings h.k d.found h.at (Ok tt) source (told_of now.said) exceeded bytes
    → now.said.frame ≡ d.found.said.frame → IsDropped now found
    → DecodesRows start (Ok tt) (read-on d Finished found source exceeded) bytes
giving-lines start d scan now found source exceeded bytes h s stays dropped =
    h.leads (Ok tt) (read-on d Finished found source exceeded) bytes
    (subst (λ (t : Told). SaysAtScan d.settings h.k d.found h.at (Ok tt) source t exceeded bytes) (sym dropped.told) s)
    (moves-finished start.stage h.reading) refl (dropped-frame now found dropped.told ∙ stays) dropped.emptied

pub giving-refused : (start d : Decoding) (scan : RowScan) (now found : Found) (source : Stream) (exceeded : Bool)
    (e : Error) (bytes : List ℕ) (h : IsGivingScan start d scan bytes)
    → SaysAtScan d.settings h.k d.found h.at (Err e) source (told_of now.said) exceeded bytes
    → now.said.frame ≡ d.found.said.frame → IsDropped now found
    → DecodesRows start (Err e) (read-on d Failed found source exceeded) bytes
giving-refused start d scan now found source exceeded e bytes h s stays dropped =
    h.leads (Err e) (read-on d Failed found source exceeded) bytes
    (subst (λ (t : Told). SaysAtScan d.settings h.k d.found h.at (Err e) source t exceeded bytes) (sym dropped.told) s)
    (moves-failed start.stage e h.at.failed source.failed h.reading s.gives.reads.0) refl
    (dropped-frame now found dropped.told ∙ stays) dropped.emptied

-- a row more
pub giving-more : (start d : Decoding) (scan after : RowScan) (now : Found) (stage : Progress) (source : Stream)
    (exceeded : Bool) (bytes more : List ℕ) (h : IsGivingScan start d scan bytes) → now ≡ d.found
    → InScan d.settings h.k d.found h.at after source more
    → IsGivingScan start (read-on d stage now source exceeded) after more
giving-more start d scan after now stage source exceeded bytes more h same is =
    subst (λ (f : Found). IsGivingScan start (read-on d stage f source exceeded) after more) (sym same) (record {
      k = h.k;
      at = h.at;
      leads = h.leads;
      reading = h.reading;
      is = is;
    })

-- what reading on says of a scan
abbrev pub GoesFrom : Decoding → RowScan → Result Bool Error → Found → RowScan → Stream → Bool → Type 0
GoesFrom mid scan more now after source exceeded = (k : Bool) (at : Stream) (bytes : List ℕ)
    → InScan mid.settings k mid.found at scan mid.source bytes
    → GoesOn mid.settings k mid.found at more now after source exceeded bytes

pub reads-row : (start d mid : Decoding) (stage : Progress) (scan after : RowScan) (now : Found) (source : Stream)
    (exceeded more : Bool) → more ≡ true → mid ≡ d → GoesFrom mid scan (Ok more) now after source exceeded
    → (bytes : List ℕ) → IsGivingScan start d scan bytes
    → IsGivingScan start (read-on mid stage now source exceeded) after (bytes ++ after.giver.lines.items)
reads-row start d mid stage scan after now source exceeded more is e goes bytes given =
    let h : IsGivingScan start mid scan bytes =
    subst (λ (d : Decoding). IsGivingScan start d scan bytes) (sym e) given in
    let g = subst (λ (b : Bool). GoesOn mid.settings h.k mid.found h.at (Ok b) now after source exceeded bytes) is
    (goes h.k h.at bytes h.is) in
    giving-more start mid scan after now stage source exceeded bytes (bytes ++ after.giver.lines.items) h g.0.0 g.1

pub reads-end : (start d mid : Decoding) (scan after : RowScan) (now found : Found) (source : Stream)
    (exceeded more : Bool) → more ≡ false → mid ≡ d → GoesFrom mid scan (Ok more) now after source exceeded
    → now.said.frame ≡ mid.found.said.frame → IsDropped now found
    → (bytes : List ℕ) → IsGivingScan start d scan bytes
    → DecodesRows start (Ok tt) (read-on mid Finished found source exceeded) bytes
reads-end start d mid scan after now found source exceeded more is e goes stays dropped bytes given =
    let h : IsGivingScan start mid scan bytes =
    subst (λ (d : Decoding). IsGivingScan start d scan bytes) (sym e) given in
    giving-lines start mid scan now found source exceeded bytes h
    (subst (λ (b : Bool). GoesOn mid.settings h.k mid.found h.at (Ok b) now after source exceeded bytes) is
    (goes h.k h.at bytes h.is)) stays dropped

pub reads-refused : (start d mid : Decoding) (scan after : RowScan) (now found : Found) (source : Stream)
    (exceeded : Bool) (error : Error) → mid ≡ d → GoesFrom mid scan (Err error) now after source exceeded
    → now.said.frame ≡ mid.found.said.frame → IsDropped now found
    → (bytes : List ℕ) → IsGivingScan start d scan bytes
    → DecodesRows start (Err error) (read-on mid Failed found source exceeded) bytes
reads-refused start d mid scan after now found source exceeded error e goes stays dropped bytes given =
    let h : IsGivingScan start mid scan bytes =
    subst (λ (d : Decoding). IsGivingScan start d scan bytes) (sym e) given in
    giving-refused start mid scan now found source exceeded error bytes h (goes h.k h.at bytes h.is) stays dropped
