-- Lines that are given while the bytes of a stream arrive, from one call to the next.
use Rattle.std.proofs.Common.{◌≡◌, ◌∙◌, ◌⊎◌, ◌++◌, inl, inr, ℕ, Bool, true, false, List, [], ◌∷◌, Option, None, Some}
use Rattle.std.proofs.Common.{Result, Ok, Err, ap, append_assoc, append-nil, refl, subst, sym, arith}
use Rattle.std.proofs.Common.{◌*◌, ◌+◌, ◌<◌, ◌≤◌, if◌then◌else◌, is_some, length, option_map, replicate}
use Rattle.std.proofs.lemmas.Bool.{false≢true}
use Rattle.std.specs.List.{concat}
use Rattle.std.specs.Prelude.{IfSome}
use Rattle.std.specs.declared.alloc.Global.{Global}
use Rattle.std.specs.declared.vec.Vec.{Vec}
use Rattle.jpeg_bits.specs.Reading.{IsGivenUp}
use Rattle.jpeg_bits.specs.Stream.{Stream}
use Rattle.jpeg_bits.specs.declared.error.Error.{Error}
use Rattle.jpeg_bits.specs.declared.error.Error.TheVariants.{OutOfMemory}
use Rattle.jpeg_segments.specs.Frame.{Frame}
use Rattle.jpeg_meaning.specs.Found.{Found, Said}
use Rattle.jpeg_meaning.specs.Sound.{HasDecodedFrame}
use Rattle.jpeg_meaning.specs.States.{Decoding, IsReading}
use Rattle.jpeg_meaning.specs.declared.settings.Settings.{Settings}
use Rattle.jpeg_decoder.specs.Bytes.{AreWholeLines, HaveLines, Shape, shape_of}
use Rattle.jpeg_decoder.specs.DecodesRows.{DecodesRows}
use Rattle.jpeg_decoder.specs.FedRows.{AreFed, AreFedTo, BeginsScan, FedRowsState, HasDecoded, HasRefused, HasScan, IsRefused}
use Rattle.jpeg_decoder.specs.FedRows.{StartsLines, TakesNone, TakesRow, UnreadBytes, all_unread, fed_now, fed_start}
use Rattle.jpeg_decoder.specs.FedRows.{AreOfLines, AreReadyLines, IsFramed, has_lines, line_size, size_of}
use Rattle.jpeg_decoder.specs.FedRows.{GoesOnFed, IsReadyAhead, IsReadyBegun, ahead_begun, calls_ahead, calls_left}
use Rattle.jpeg_decoder.specs.FedRows.{in_memory, lines_in}
use Rattle.jpeg_decoder.specs.RowScans.{GoesOn, InScan, IsGivingScan, IsUntaken, ReadsRows, StartsRows}
use Rattle.jpeg_decoder.specs.RowsView.{LinesLeft}
use Rattle.jpeg_decoder.specs.declared.by_rows.first_scan.RowScan.{RowScan}
use Rattle.jpeg_decoder.specs.declared.by_rows.rest.Begun.{Begun}
use Rattle.jpeg_decoder.specs.declared.by_rows.rest.Begun.TheVariants as begun
use Rattle.jpeg_decoder.specs.declared.fed_rows.Ahead.{Ahead}
use Rattle.jpeg_decoder.specs.declared.fed_rows.Ahead.TheVariants as ahead
use Rattle.jpeg_meaning.specs.declared.progress.Progress.TheVariants.{Failed, Finished}
use Rattle.jpeg_decoder.proofs.ByRows.DecodedRows.{GoesFrom, IsDropped, read-on, reads-end, reads-refused, reads-row}
use Rattle.jpeg_decoder.proofs.ByRows.LaterRows.{scan-anywhere, scan-left}
use Rattle.jpeg_decoder.proofs.Pictures.PicturesOfPlanes.{decoded-few}
use Rattle.jpeg_decoder.proofs.ByRows.WholeLines.{later-lines, no-line, one-line, scan-lines}

-- ---- a scan

-- One that is given of a source is given of the same bytes in memory.
pub giving-left : (start d : Decoding) (scan : RowScan) (left given : List ℕ)
    → (d.source.known ≡ true → left ≡ d.source.bytes) → d.source.failed ≡ false → IsGivingScan start d scan given
    → IsGivingScan start (fed_now d.settings d.found left) scan given
giving-left start d scan left given same ok h = record {
  k = h.k;
  at = h.at;
  leads = h.leads;
  reading = h.reading;
  is = scan-left d.settings h.k d.found h.at scan d.source left given same ok h.is;
}

-- Some stream has it.
pub giving-some : (start : Decoding) (settings : Settings) (found : Found) (scan : RowScan) (left other given : List ℕ)
    → IsGivingScan start (fed_now settings found left) scan given → HasScan settings found scan other
giving-some start settings found scan left other given h =
    scan-anywhere settings found scan left other (record { k = h.k; at = h.at; given = given; is = h.is })

-- ---- a row

abbrev FedScan : Settings → Bool → Found → List ℕ → List ℕ → List ℕ → RowScan → Type 0
FedScan settings ended found unread fed given scan = AreFed settings ended found unread fed given (ahead.Scan scan)

-- One more was read.
pub fed-row : (settings : Settings) (ended : Bool) (found : Found) (old new : RowScan)
    (tried later left fed given : List ℕ) → TakesRow found old new tried left
    → FedScan settings ended found (tried ++ later) fed given old
    → FedScan settings ended found (left ++ later) fed (given ++ new.giver.lines.items) new
fed-row settings ended found old new tried later left fed given takes h more none =
    let was = subst (λ (l : List ℕ). IsGivingScan (fed_start settings (fed ++ more)) (fed_now settings found l) old given)
    (append_assoc tried later more) (h more none) in
    subst (λ (l : List ℕ). IsGivingScan (fed_start settings (fed ++ more)) (fed_now settings found l) new
    (given ++ new.giver.lines.items)) (sym (append_assoc left later more)) (record {
      k = was.k;
      at = was.at;
      leads = was.leads;
      reading = was.reading;
      is = takes settings was.k was.at (later ++ more) given was.is;
    })

pub row-some : (settings : Settings) (found : Found) (old new : RowScan) (before after other : List ℕ)
    → TakesRow found old new before after → HasScan settings found old other → HasScan settings found new other
row-some settings found old new before after other takes i =
    let was = scan-anywhere settings found old other (before ++ []) i in
    scan-anywhere settings found new (after ++ []) other (record {
      k = was.k;
      at = was.at;
      given = was.given ++ new.giver.lines.items;
      is = takes settings was.k was.at [] was.given was.is;
    })

-- ---- no row

abbrev pub cleared : RowScan → Vec ℕ Global → RowScan
cleared scan lines = record scan { giver = record scan.giver { lines = lines } }

reads-cleared : (found : Found) (frame : Frame) (scan : RowScan) (lines : Vec ℕ Global) (mid now : Stream)
    (given : List ℕ) → lines.items ≡ [] → ReadsRows found frame scan mid now given
    → ReadsRows found frame (cleared scan lines) mid now given
reads-cleared found frame scan lines mid now given none r =
    let g = r.given in
    let is = g.ready in
    record {
      s = r.s;
      by = r.by;
      order = r.order;
      zeros = r.zeros;
      within = r.within;
      given = record {
        ready = record {
          sizes = is.sizes;
          tables = is.tables;
          planes = is.planes;
          line = is.line;
          converts = is.converts;
          taken = is.taken;
          count = 0;
          lines = ap length none ∙ none-long (length frame.components * frame.output_width);
        };
        planes = g.planes;
        ends = record { rows = g.ends.rows; are = g.ends.are };
        left = g.left;
        lines = g.lines;
      };
    }
  where
    none-long : (n : ℕ) → 0 ≡ 0 * n
    none-long n = omega arith

scan-cleared : (settings : Settings) (k : Bool) (found : Found) (at : Stream) (scan : RowScan) (lines : Vec ℕ Global)
    (now : Stream) (given : List ℕ) → lines.items ≡ [] → InScan settings k found at scan now given
    → InScan settings k found at (cleared scan lines) now given
scan-cleared settings k found at scan lines now given none h = record {
  mid = h.mid;
  header = h.header;
  known = h.known;
  going = h.going;
  unread = h.unread;
  spare = h.spare;
  comes = h.comes;
  reads = go found.said.frame h.reads;
}
  where
    go : (o : Option Frame) → IfSome o (λ f. ReadsRows found f scan h.mid now given)
        → IfSome o (λ f. ReadsRows found f (cleared scan lines) h.mid now given)
    go None r = tt
    go (Some f) r = reads-cleared found f scan lines h.mid now given none r

-- None was read.
pub fed-none : (settings : Settings) (ended : Bool) (found : Found) (old mid : RowScan) (lines : Vec ℕ Global)
    (unread same fed given : List ℕ) → lines.items ≡ [] → same ≡ unread → TakesNone found old mid
    → FedScan settings ended found unread fed given old
    → FedScan settings ended found same fed (given ++ lines.items) (cleared mid lines)
fed-none settings ended found old mid lines unread same fed given none is takes h more last =
    let was = h more last in
    subst (λ (l : List ℕ). IsGivingScan (fed_start settings (fed ++ more)) (fed_now settings found (l ++ more))
    (cleared mid lines) (given ++ lines.items)) (sym is)
    (subst (λ (l : List ℕ). IsGivingScan (fed_start settings (fed ++ more)) (fed_now settings found (unread ++ more))
    (cleared mid lines) (given ++ l)) (sym none)
    (subst (λ (l : List ℕ). IsGivingScan (fed_start settings (fed ++ more)) (fed_now settings found (unread ++ more))
    (cleared mid lines) l) (sym (append-nil given)) (record {
      k = was.k;
      at = was.at;
      leads = was.leads;
      reading = was.reading;
      is = scan-cleared settings was.k found was.at mid lines (in_memory (unread ++ more)) given none
          (takes settings was.k was.at (in_memory (unread ++ more)) given was.is);
    })))

-- Its lines aren't shown again.
pub fed-shown : (settings : Settings) (ended : Bool) (found : Found) (scan : RowScan) (lines : Vec ℕ Global)
    (unread fed given : List ℕ) → lines.items ≡ [] → FedScan settings ended found unread fed given scan
    → FedScan settings ended found unread fed given (cleared scan lines)
fed-shown settings ended found scan lines unread fed given none h more last =
    let was = h more last in
    record {
      k = was.k;
      at = was.at;
      leads = was.leads;
      reading = was.reading;
      is = scan-cleared settings was.k found was.at scan lines (in_memory (unread ++ more)) given none was.is;
    }

pub some-shown : (settings : Settings) (found : Found) (scan : RowScan) (lines : Vec ℕ Global) (left : List ℕ)
    → lines.items ≡ [] → HasScan settings found scan left → HasScan settings found (cleared scan lines) left
some-shown settings found scan lines left none i = record {
  k = i.k;
  at = i.at;
  given = i.given;
  is = scan-cleared settings i.k found i.at scan lines (in_memory left) i.given none i.is;
}

pub none-some : (settings : Settings) (found : Found) (old mid : RowScan) (lines : Vec ℕ Global) (left : List ℕ)
    → lines.items ≡ [] → TakesNone found old mid → HasScan settings found old left
    → HasScan settings found (cleared mid lines) left
none-some settings found old mid lines left none takes i = record {
  k = i.k;
  at = i.at;
  given = i.given;
  is = scan-cleared settings i.k found i.at mid lines (in_memory left) i.given none
      (takes settings i.k i.at (in_memory left) i.given i.is);
}

-- ---- bytes are fed

pub fed-piece : (settings : Settings) (found : Found) (unread all piece fed given : List ℕ) (next : Ahead)
    → all ≡ unread ++ piece → AreFed settings false found unread fed given next
    → AreFed settings false found all (fed ++ piece) given next
fed-piece settings found unread all piece fed given ahead.Start is h =
    (is ∙ ap (λ (l : List ℕ). l ++ piece) h.0, h.1)
fed-piece settings found unread all piece fed given (ahead.Scan rows) is h =
    λ more none.
    subst (λ (l : List ℕ). IsGivingScan (fed_start settings l) (fed_now settings found (all ++ more)) rows given)
    (sym (append_assoc fed piece more))
    (subst (λ (l : List ℕ). IsGivingScan (fed_start settings (fed ++ (piece ++ more))) (fed_now settings found l) rows
    given) (sym (append_assoc unread piece more) ∙ ap (λ (l : List ℕ). l ++ more) (sym is))
    (h (piece ++ more) (λ e. absurd (false≢true e))))
fed-piece settings found unread all piece fed given (ahead.Lines shown) is h = absurd (false≢true h.0)
fed-piece settings found unread all piece fed given ahead.End is h = absurd (false≢true h.0)
fed-piece settings found unread all piece fed given ahead.Failed is h = absurd h

pub fed-end : (settings : Settings) (ended : Bool) (found : Found) (unread fed given : List ℕ) (next : Ahead)
    → AreFed settings ended found unread fed given next → AreFed settings true found unread fed given next
fed-end settings ended found unread fed given ahead.Start h = h
fed-end settings ended found unread fed given (ahead.Scan rows) h = λ more none. h more (λ e. none refl)
fed-end settings ended found unread fed given (ahead.Lines shown) h = (refl, h.1)
fed-end settings ended found unread fed given ahead.End h = (refl, h.1)
fed-end settings ended found unread fed given ahead.Failed h = absurd h

-- ---- the first call

-- A scan was begun.
pub fed-begun : (settings : Settings) (ended : Bool) (found : Found) (rows : RowScan)
    (unread tried left fed given : List ℕ) → tried ≡ unread → BeginsScan settings tried found left rows
    → (unread ≡ fed) × (given ≡ [])
    → FedScan settings ended found (left ++ []) fed (given ++ rows.giver.lines.items) rows
fed-begun settings ended found rows unread tried left fed given is begins h more none =
    subst (λ (l : List ℕ). IsGivingScan (fed_start settings (l ++ more)) (fed_now settings found ((left ++ []) ++ more))
    rows (given ++ rows.giver.lines.items)) (is ∙ h.0)
    (subst (λ (l : List ℕ). IsGivingScan (fed_start settings (tried ++ more)) (fed_now settings found (l ++ more)) rows
    (given ++ rows.giver.lines.items)) (sym (append-nil left))
    (subst (λ (l : List ℕ). IsGivingScan (fed_start settings (tried ++ more)) (fed_now settings found (left ++ more)) rows
    l) (sym (ap (λ (l : List ℕ). l ++ rows.giver.lines.items) h.1 ∙ begins.none)) (begins.giving more)))

-- The stream has ended, and its first scan was begun.
pub fed-whole_scan : (settings : Settings) (found : Found) (rows : RowScan) (unread tried left fed given : List ℕ)
    → tried ≡ unread
    → IsGivingScan (fed_start settings tried) (fed_now settings found left) rows [] × (rows.giver.lines.items ≡ [])
    → (unread ≡ fed) × (given ≡ [])
    → FedScan settings true found (left ++ []) fed (given ++ rows.giver.lines.items) rows
fed-whole_scan settings found rows unread tried left fed given is begins h more none =
    subst (λ (m : List ℕ). IsGivingScan (fed_start settings (fed ++ m)) (fed_now settings found ((left ++ []) ++ m))
    rows (given ++ rows.giver.lines.items)) (sym (none refl))
    (subst (λ (l : List ℕ). IsGivingScan (fed_start settings l) (fed_now settings found ((left ++ []) ++ []))
    rows (given ++ rows.giver.lines.items)) (is ∙ h.0 ∙ sym (append-nil fed))
    (subst (λ (l : List ℕ). IsGivingScan (fed_start settings tried) (fed_now settings found l) rows
    (given ++ rows.giver.lines.items)) (sym (append-nil (left ++ []) ∙ append-nil left))
    (subst (λ (l : List ℕ). IsGivingScan (fed_start settings tried) (fed_now settings found left) rows
    l) (sym (ap (λ (l : List ℕ). l ++ rows.giver.lines.items) h.1 ∙ begins.1)) begins.0)))

-- It was read to its end.
pub fed-whole_lines : (settings : Settings) (said : Said) (left : List (List ℕ))
    (line unread tried fed given : List ℕ) → tried ≡ unread
    → HasDecoded (fed_start settings tried) (concat left) said × (line ≡ []) → (unread ≡ fed) × (given ≡ [])
    → HasDecoded (fed_start settings fed) ((given ++ line) ++ concat left) said
fed-whole_lines settings said left line unread tried fed given is d h =
    subst (λ (l : List ℕ). HasDecoded (fed_start settings l) ((given ++ line) ++ concat left) said) (is ∙ h.0)
    (subst (λ (l : List ℕ). HasDecoded (fed_start settings tried) (l ++ concat left) said)
    (sym (ap (λ (l : List ℕ). l ++ line) h.1 ∙ d.1)) d.0)

-- It was refused.
pub fed-refused : (settings : Settings) (e : Error) (unread tried fed given : List ℕ) (exceeded : Bool)
    → tried ≡ unread → IsRefused (fed_start settings tried) e [] exceeded → (unread ≡ fed) × (given ≡ [])
    → IsRefused (fed_start settings fed) e given exceeded
fed-refused settings e unread tried fed given exceeded is r h =
    subst (λ (l : List ℕ). IsRefused (fed_start settings l) e given exceeded) (is ∙ h.0)
    (subst (λ (l : List ℕ). IsRefused (fed_start settings tried) e l exceeded) (sym h.1) r)

-- ---- a scan is read on, once its bytes have ended

-- of the bytes that are tried, which are all
pub fed-last : (settings : Settings) (found : Found) (scan : RowScan) (unread tried fed given : List ℕ)
    → tried ≡ unread → FedScan settings true found unread fed given scan
    → IsGivingScan (fed_start settings fed) (fed_now settings found tried) scan given
fed-last settings found scan unread tried fed given is h =
    subst (λ (l : List ℕ). IsGivingScan (fed_start settings l) (fed_now settings found tried) scan given)
    (append-nil fed)
    (subst (λ (l : List ℕ). IsGivingScan (fed_start settings (fed ++ [])) (fed_now settings found l) scan given)
    (append-nil unread ∙ sym is) (h [] (λ e. refl)))

pub last-fed : (settings : Settings) (found : Found) (scan : RowScan) (left fed given : List ℕ)
    → IsGivingScan (fed_start settings fed) (fed_now settings found left) scan given
    → FedScan settings true found (left ++ []) fed given scan
last-fed settings found scan left fed given h more none =
    subst (λ (m : List ℕ). IsGivingScan (fed_start settings (fed ++ m)) (fed_now settings found ((left ++ []) ++ m))
    scan given) (sym (none refl))
    (subst (λ (l : List ℕ). IsGivingScan (fed_start settings l) (fed_now settings found ((left ++ []) ++ [])) scan given)
    (sym (append-nil fed))
    (subst (λ (l : List ℕ). IsGivingScan (fed_start settings fed) (fed_now settings found l) scan given)
    (sym (append-nil (left ++ []) ∙ append-nil left)) h))

-- ---- refusals

-- the error of a reader of bytes in memory, unless it was given up
abbrev pub IsKept : Error → Bool → Error → Type 0
IsKept e failed r = (r ≡ OutOfMemory) ⊎ ((r ≡ e) × (IsGivenUp e failed → ⊥))

-- Its bytes are known still.
kept-known : (start now : Decoding) (e : Error) (given : List ℕ) → IsReading start.stage
    → DecodesRows start (Err e) now given → (IsGivenUp e now.source.failed → ⊥) → start.source.known ≡ true
    → now.source.known ≡ true
kept-known start now e given reading d kept k = go now.source.known refl
  where
    go : (b : Bool) → now.source.known ≡ b → now.source.known ≡ true
    go true is = is
    go false is = absurd (kept ((d.reads reading).2 k is))

refused-kept : (start now : Decoding) (e r : Error) (given : List ℕ) (exceeded : Bool) → IsReading start.stage
    → DecodesRows start (Err e) now given → now.exceeded ≡ exceeded → IsKept e now.source.failed r
    → IsRefused start r given exceeded
refused-kept start now e r given exceeded reading d same (inl memory) = inl memory
refused-kept start now e r given exceeded reading d same (inr kept) =
    inr (subst (λ (x : Error). HasRefused start x given exceeded) (sym kept.0) (record {
      now = now;
      is = d;
      known = kept-known start now e given reading d kept.1;
      exceeded_is = same;
    }))

-- ---- what a call of the decoder says

-- Nothing is kept that the scans gave.
abbrev bare : Found → Found
bare found = record found { kept = []; planes = replicate 4 None; samples = replicate 4 None }

is-bare : (found : Found) → IsDropped found (bare found)
is-bare found = record { told = refl; emptied = (refl, refl, refl) }

abbrev with_source : Settings → Found → Stream → Decoding
with_source settings found source = record (fed_now settings found []) { source = source }

module _ (start : Decoding) (settings : Settings) (old now : Found) (source new : Stream) (bytes given : List ℕ)
    (rows after : RowScan) (exceeded : Bool) (same : source ≡ in_memory bytes)
    (h : IsGivingScan start (fed_now settings old bytes) rows given) where
  here : IsGivingScan start (with_source settings old source) rows given
  here = subst (λ (s : Stream). IsGivingScan start (with_source settings old s) rows given) (sym same) h

  pub on-row : (more : Bool) (left : List ℕ) → more ≡ true
      → GoesFrom (with_source settings old source) rows (Ok more) now after new exceeded
      → (new.known ≡ true → left ≡ new.bytes) → new.failed ≡ false
      → IsGivingScan start (fed_now settings now left) after (given ++ after.giver.lines.items)
  on-row more left is goes bytes-left ok =
      let d = with_source settings old source in
      giving-left start (read-on d Failed now new exceeded) after left (given ++ after.giver.lines.items) bytes-left ok
      (reads-row start d d Failed rows after now new exceeded more is refl goes given here)

  pub on-end : (more : Bool) → more ≡ false
      → GoesFrom (with_source settings old source) rows (Ok more) now after new exceeded
      → now.said.frame ≡ old.said.frame → HasDecoded start given now.said
  on-end more is goes stays =
      let d = with_source settings old source in
      record {
        now = read-on d Finished (bare now) new exceeded;
        is = reads-end start d d rows after now (bare now) new exceeded more is refl goes stays (is-bare now) given here;
        said_is = refl;
      }

  pub on-refused : (e r : Error) → GoesFrom (with_source settings old source) rows (Err e) now after new exceeded
      → now.said.frame ≡ old.said.frame → IsKept e new.failed r → IsRefused start r given exceeded
  on-refused e r goes stays kept =
      let d = with_source settings old source in
      refused-kept start (read-on d Failed (bare now) new exceeded) e r given exceeded h.reading
      (reads-refused start d d rows after now (bare now) new exceeded e refl goes stays (is-bare now) given here) refl
      kept

-- A row was read of some stream.
pub on-some : (settings : Settings) (old now : Found) (source new : Stream) (bytes left : List ℕ) (rows after : RowScan)
    (exceeded more : Bool) → source ≡ in_memory bytes → HasScan settings old rows bytes → more ≡ true
    → GoesFrom (with_source settings old source) rows (Ok more) now after new exceeded
    → (new.known ≡ true → left ≡ new.bytes) → new.failed ≡ false → HasScan settings now after left
on-some settings old now source new bytes left rows after exceeded more same i is goes bytes-left ok =
    let h = subst (λ (s : Stream). InScan settings i.k old i.at rows s i.given) (sym same) i.is in
    let g = subst (λ (b : Bool). GoesOn settings i.k old i.at (Ok b) now after new exceeded i.given) is
    (goes i.k i.at i.given h) in
    record {
      k = i.k;
      at = i.at;
      given = i.given ++ after.giver.lines.items;
      is = subst (λ (f : Found). InScan settings i.k f i.at after (in_memory left)
          (i.given ++ after.giver.lines.items)) (sym g.0.0)
          (scan-left settings i.k old i.at after new left (i.given ++ after.giver.lines.items) bytes-left ok g.1);
    }

-- A decoder of all bytes has begun.
pub begun-lines : (settings : Settings) (bytes left : List ℕ) (old new : Decoding) (b : Begun)
    → old ≡ fed_start settings bytes → new.settings ≡ old.settings → (new.source.known ≡ true → left ≡ new.source.bytes)
    → new.source.failed ≡ false → StartsRows old (Ok b) new
    → StartsLines (fed_start settings bytes) settings new.found left b
begun-lines settings bytes left old new (begun.Scan scan) is same bytes-left ok h =
    let set : new.settings ≡ settings = same ∙ ap (λ (d : Decoding). d.settings) is in (
      subst (λ (s : Settings). IsGivingScan (fed_start settings bytes) (fed_now s new.found left) scan []) set
          (subst (λ (d : Decoding). IsGivingScan d (fed_now new.settings new.found left) scan []) is
          (giving-left old new scan left [] bytes-left ok h.0)),
      h.1,
    )
begun-lines settings bytes left old new (begun.Lines shown) is same bytes-left ok h = (
  record {
    now = new;
    is = subst (λ (d : Decoding). DecodesRows d (Ok tt) new (concat shown.left)) is h.0;
    said_is = refl;
  },
  h.1.1,
)

-- What it has begun is ready.
pub begun-ready : (settings : Settings) (left : List ℕ) (old new : Decoding) (b : Begun) → new.settings ≡ settings
    → (new.source.known ≡ true → left ≡ new.source.bytes) → new.source.failed ≡ false → StartsRows old (Ok b) new
    → IsFramed new.found → IsReadyBegun settings new.found b
begun-ready settings left old new (begun.Scan scan) set bytes-left ok h framed =
    subst (λ (s : Settings). HasScan s new.found scan []) set
    (giving-some old new.settings new.found scan left [] [] (giving-left old new scan left [] bytes-left ok h.0))
begun-ready settings left old new (begun.Lines shown) set bytes-left ok h framed =
    (subst (λ (s : Settings). IsUntaken (option_map (shape_of s) new.found.said.frame) shown) set h.1, framed)

pub begun-refused : (settings : Settings) (bytes : List ℕ) (old new : Decoding) (e r : Error)
    → old ≡ fed_start settings bytes → StartsRows old (Err e) new → IsKept e new.source.failed r
    → IsRefused (fed_start settings bytes) r [] new.exceeded
begun-refused settings bytes old new e r is h kept =
    refused-kept (fed_start settings bytes) new e r [] new.exceeded tt
    (subst (λ (d : Decoding). DecodesRows d (Err e) new []) is h) refl kept

-- What a refusal says, once the bytes have ended.
pub ended-refused : (e : Error) (settings : Settings) (ended : Bool) (fed given : List ℕ) (exceeded : Bool)
    → ended ≡ true → IsRefused (fed_start settings fed) e given exceeded
    → (e ≡ OutOfMemory) ⊎ ((ended ≡ true) × HasRefused (fed_start settings fed) e given exceeded)
ended-refused e settings ended fed given exceeded is (inl memory) = inl memory
ended-refused e settings ended fed given exceeded is (inr refused) = inr (is, refused)

-- No row was left.
pub none-goes : (start : Decoding) (settings : Settings) (given : List ℕ) (o : Option (Vec ℕ Global)) (found : Found)
    (rows : RowScan) → o ≡ None → GoesOnFed start settings given (Ok o) found rows
    → HasDecoded start given found.said
none-goes start settings given o found rows is h =
    subst (λ (x : Option (Vec ℕ Global)). GoesOnFed start settings given (Ok x) found rows) is h

-- One was.
pub some-goes : (start : Decoding) (settings : Settings) (given : List ℕ) (o : Option (Vec ℕ Global)) (found : Found)
    (rows : RowScan) (left : Vec ℕ Global) → o ≡ Some left → GoesOnFed start settings given (Ok o) found rows
    → IsGivingScan start (fed_now settings found left.items) rows (given ++ rows.giver.lines.items)
some-goes start settings given o found rows left is h =
    subst (λ (x : Option (Vec ℕ Global)). GoesOnFed start settings given (Ok x) found rows) is h

-- All bytes are tried.
pub all-tried : (unread wide : UnreadBytes) (tried : List ℕ) → wide ≡ record { tried = all_unread unread; later = [] }
    → tried ≡ wide.tried → tried ≡ all_unread unread
all-tried unread wide tried is same = same ∙ ap (λ (u : UnreadBytes). u.tried) is

-- None come later.
pub left-all : (unread wide next : UnreadBytes) (left : List ℕ) → wide ≡ record { tried = all_unread unread; later = [] }
    → next ≡ record wide { tried = left } → all_unread next ≡ left ++ []
left-all unread wide next left is made =
    ap all_unread made ∙ ap (λ (u : UnreadBytes). left ++ u.later) is

-- What was put ahead is ready.
pub ready-scan : (settings : Settings) (found : Found) (scan : RowScan) (left : List ℕ) (next : Ahead)
    → next ≡ ahead.Scan scan → HasScan settings found scan left → IsReadyAhead settings found next
ready-scan settings found scan left next put h =
    subst (λ (a : Ahead). IsReadyAhead settings found a) (sym put) (scan-anywhere settings found scan left [] h)

pub ended-fed : (settings : Settings) (ended : Bool) (found : Found) (unread fed given : List ℕ) (next : Ahead)
    → ended ≡ true → AreFed settings true found unread fed given next → AreFed settings ended found unread fed given next
ended-fed settings ended found unread fed given next is h =
    subst (λ (b : Bool). AreFed settings b found unread fed given next) (sym is) h

-- Its lines are those that were given last.
pub gives-scan : (settings : Settings) (ended : Bool) (found : Found) (unread left fed given : List ℕ) (scan : RowScan)
    (next : Ahead) → unread ≡ left → next ≡ ahead.Scan scan
    → FedScan settings ended found left fed (given ++ scan.giver.lines.items) scan
    → AreFed settings ended found unread fed (given ++ lines_in next) next
gives-scan settings ended found unread left fed given scan next same put h =
    subst (λ (a : Ahead). AreFed settings ended found unread fed (given ++ lines_in a) a) (sym put)
    (subst (λ (u : List ℕ). FedScan settings ended found u fed (given ++ scan.giver.lines.items) scan) (sym same) h)

-- It waits, and its lines aren't shown again.
pub waits-scan : (settings : Settings) (ended : Bool) (found : Found) (unread fed given : List ℕ) (scan : RowScan)
    (lines : Vec ℕ Global) (next : Ahead) → ended ≡ false → next ≡ ahead.Scan (cleared scan lines) → lines.items ≡ []
    → FedScan settings ended found unread fed given scan
    → (ended ≡ false) × AreFed settings ended found unread fed given next × (lines_in next ≡ [])
waits-scan settings ended found unread fed given scan lines next e put none h =
    let was = fed-shown settings ended found scan lines unread fed given none h in (
      e,
      subst (λ (a : Ahead). AreFed settings ended found unread fed given a) (sym put) was,
      ap lines_in put ∙ none,
    )

-- ---- what is kept from one call to the next

-- Bytes that were fed, as far as lines were given of them, of what lies ahead.
abbrev pub FedAhead : FedRowsState → List ℕ → List ℕ → Ahead → Type 0
FedAhead d fed given next = AreFed d.settings d.has_ended d.found (all_unread d.unread) fed given next

-- what is seen of it
pub at-state : (now seen : FedRowsState) (fed given : List ℕ) (next : Ahead) → seen ≡ now
    → FedAhead now fed given next → FedAhead seen fed given next
at-state now seen fed given next e h = subst (λ (d : FedRowsState). FedAhead d fed given next) (sym e) h

-- what lies ahead
pub is-ahead : (now seen : FedRowsState) (fed given : List ℕ) (next : Ahead) → seen ≡ now → next ≡ seen.ahead
    → AreFedTo fed given now → FedAhead seen fed given next
is-ahead now seen fed given next e is h =
    subst (λ (a : Ahead). FedAhead seen fed given a) (sym is)
    (subst (λ (d : FedRowsState). AreFedTo fed given d) (sym e) h)

pub scan-of : (now seen : FedRowsState) (scan : RowScan) → seen ≡ now → HasScan now.settings now.found scan []
    → HasScan seen.settings seen.found scan []
scan-of now seen scan e h = subst (λ (d : FedRowsState). HasScan d.settings d.found scan []) (sym e) h

-- A row was read of the bytes that were tried, and others are left of these.
pub unread-left : (settings : Settings) (ended : Bool) (found : Found) (old new : RowScan) (unread wide next : UnreadBytes)
    (tried left fed given : List ℕ) → all_unread wide ≡ all_unread unread → tried ≡ wide.tried
    → next ≡ record wide { tried = left } → TakesRow found old new tried left
    → AreFed settings ended found (all_unread unread) fed given (ahead.Scan old)
    → AreFed settings ended found (all_unread next) fed (given ++ new.giver.lines.items) (ahead.Scan new)
unread-left settings ended found old new unread wide next tried left fed given same is made takes h =
    subst (λ (u : UnreadBytes). FedScan settings ended found (all_unread u) fed (given ++ new.giver.lines.items) new)
    (sym made) (fed-row settings ended found old new wide.tried wide.later left fed given
    (subst (λ (l : List ℕ). TakesRow found old new l left) is takes)
    (subst (λ (l : List ℕ). FedScan settings ended found l fed given old) (sym same) h))

-- ---- what was begun of all bytes

-- Its lines lie ahead.
pub whole-fed : (settings : Settings) (ended : Bool) (found : Found) (b : Begun) (next : Ahead)
    (unread tried left all fed given : List ℕ) → ended ≡ true → tried ≡ unread → all ≡ left ++ []
    → next ≡ ahead_begun b → StartsLines (fed_start settings tried) settings found left b
    → (unread ≡ fed) × (given ≡ []) → AreFed settings ended found all fed (given ++ lines_in next) next
whole-fed settings ended found (begun.Scan rows) next unread tried left all fed given e is same put starts h =
    gives-scan settings ended found all (left ++ []) fed given rows next same put
    (ended-fed settings ended found (left ++ []) fed (given ++ rows.giver.lines.items) (ahead.Scan rows) e
    (fed-whole_scan settings found rows unread tried left fed given is starts h))
whole-fed settings ended found (begun.Lines shown) next unread tried left all fed given e is same put starts h =
    subst (λ (a : Ahead). AreFed settings ended found all fed (given ++ lines_in a) a) (sym put)
    (e, fed-whole_lines settings found.said shown.left shown.line unread tried fed given is starts h)

pub whole-ready : (settings : Settings) (found : Found) (b : Begun) (next : Ahead) → next ≡ ahead_begun b
    → IsReadyBegun settings found b → IsReadyAhead settings found next
whole-ready settings found (begun.Scan rows) next put h =
    subst (λ (a : Ahead). IsReadyAhead settings found a) (sym put) h
whole-ready settings found (begun.Lines shown) next put h =
    let shape = option_map (shape_of settings) found.said.frame in
    subst (λ (a : Ahead). IsReadyAhead settings found a) (sym put)
    (h.0.0, subst (AreWholeLines shape) (sym h.0.1) (no-line shape), h.1)

-- The first call is one of the most that there may be.
pub whole-calls : (settings : Settings) (found : Found) (b : Begun) (next : Ahead) (unread wide after : UnreadBytes)
    (tried left : List ℕ) → next ≡ ahead_begun b → wide ≡ record { tried = all_unread unread; later = [] }
    → tried ≡ wide.tried → after ≡ record { tried = []; later = left } → length left ≤ length tried
    → IsReadyBegun settings found b → calls_ahead next after < 65536 + length (all_unread unread)
whole-calls settings found b next unread wide after tried left put is same made most h =
    subst (λ (a : Ahead). calls_ahead a after < 65536 + length (all_unread unread)) (sym put)
    (subst (λ (u : UnreadBytes). calls_ahead (ahead_begun b) u < 65536 + length (all_unread unread)) (sym made)
    (first-calls settings found b h))
  where
    long : length left ≤ length (all_unread unread)
    long = subst (λ (l : List ℕ). length left ≤ length l) (all-tried unread wide tried is same) most

    first-calls : (settings : Settings) (found : Found) (b : Begun) → IsReadyBegun settings found b
        → calls_ahead (ahead_begun b) (record { tried = []; later = left }) < 65536 + length (all_unread unread)
    first-calls settings found (begun.Scan rows) h = let m = long in omega arith
    first-calls settings found (begun.Lines shown) h = let m = h.0.2 in omega arith

-- None are tried.
pub put-all : (left : List ℕ) (next : UnreadBytes) → next ≡ record { tried = []; later = left }
    → all_unread next ≡ left ++ []
put-all left next is = ap all_unread is ∙ sym (append-nil left)

-- ---- whole lines

-- A scan that lines are given of has a frame.
pub scan-framed : (settings : Settings) (found : Found) (scan : RowScan) (left : List ℕ)
    → HasScan settings found scan left → IsFramed found
scan-framed settings found scan left h = (ap is_some h.is.header.legal.framed, h.is.header.sound.frames)

some-shape : (settings : Settings) (o : Option Frame) → is_some o ≡ true
    → is_some (option_map (shape_of settings) o) ≡ true
some-shape settings None h = h
some-shape settings (Some f) h = refl

abbrev size_by : Settings → Found → Ahead → ℕ
size_by settings found next =
    if has_lines next then size_of (option_map (shape_of settings) found.said.frame) else 0

whole-size : (shape : Option Shape) (lines : List ℕ) → is_some shape ≡ true → AreWholeLines shape lines
    → AreOfLines (size_of shape) lines
whole-size None lines some h = absurd (false≢true some)
whole-size (Some s) lines some h = h

ready-size : (settings : Settings) (found : Found) (next : Ahead) → IsReadyAhead settings found next
    → AreOfLines (size_by settings found next) (lines_in next)
ready-size settings found ahead.Start h = (0, refl)
ready-size settings found (ahead.Scan rows) h =
    whole-size (option_map (shape_of settings) found.said.frame) rows.giver.lines.items
    (some-shape settings found.said.frame (scan-framed settings found rows [] h).0)
    (scan-lines settings h.k found h.at rows (in_memory []) h.given h.is)
ready-size settings found (ahead.Lines shown) h =
    whole-size (option_map (shape_of settings) found.said.frame) shown.line
    (some-shape settings found.said.frame h.2.0) h.1
ready-size settings found ahead.End h = (0, refl)
ready-size settings found ahead.Failed h = (0, refl)

pub lines-size : (now seen : FedRowsState) (lines : List ℕ) → seen ≡ now
    → IsReadyAhead seen.settings seen.found seen.ahead → lines ≡ lines_in seen.ahead
    → AreOfLines (line_size now) lines
lines-size now seen lines e h is =
    subst (λ (d : FedRowsState). AreOfLines (line_size d) lines) e
    (subst (λ (l : List ℕ). AreOfLines (line_size seen) l) (sym is)
    (ready-size seen.settings seen.found seen.ahead h))

pub ready-put : (settings : Settings) (found : Found) (shown : LinesLeft) (next : Ahead) → next ≡ ahead.Lines shown
    → AreReadyLines settings found shown → IsReadyAhead settings found next
ready-put settings found shown next put h = subst (λ (a : Ahead). IsReadyAhead settings found a) (sym put) h

-- The next line is taken.
pub ready-next : (settings : Settings) (found : Found) (old new : LinesLeft) → old.left ≡ new.line ∷ new.left
    → AreReadyLines settings found old → AreReadyLines settings found new
ready-next settings found old new is h =
    let shape = option_map (shape_of settings) found.said.frame in
    let lines = subst (HaveLines shape) is h.0 in
    (later-lines shape new.line new.left lines, one-line shape new.line new.left lines, h.2)

-- ---- a stream that has begun

pub begun-fed : (settings : Settings) (ended : Bool) (found : Found) (rows : RowScan) (next : Ahead)
    (unread tried left all fed given : List ℕ) → tried ≡ unread → all ≡ left ++ [] → next ≡ ahead.Scan rows
    → BeginsScan settings tried found left rows → (unread ≡ fed) × (given ≡ [])
    → AreFed settings ended found all fed (given ++ lines_in next) next
begun-fed settings ended found rows next unread tried left all fed given is same put begins h =
    gives-scan settings ended found all (left ++ []) fed given rows next same put
    (fed-begun settings ended found rows unread tried left fed given is begins h)

pub begun-some : (settings : Settings) (found : Found) (rows : RowScan) (next : Ahead) (tried left : List ℕ)
    → next ≡ ahead.Scan rows → BeginsScan settings tried found left rows → IsReadyAhead settings found next
begun-some settings found rows next tried left put begins =
    ready-scan settings found rows (left ++ []) next put
    (giving-some (fed_start settings (tried ++ [])) settings found rows (left ++ []) (left ++ []) [] (begins.giving []))

pub begun-calls : (rows : RowScan) (next : Ahead) (unread wide after : UnreadBytes) (tried left : List ℕ)
    → next ≡ ahead.Scan rows → wide ≡ record { tried = all_unread unread; later = [] } → tried ≡ wide.tried
    → after ≡ record { tried = []; later = left } → length left ≤ length tried
    → calls_ahead next after < 65536 + length (all_unread unread)
begun-calls rows next unread wide after tried left put is same made most =
    subst (λ (a : Ahead). calls_ahead a after < 65536 + length (all_unread unread)) (sym put)
    (subst (λ (u : UnreadBytes). calls_ahead (ahead.Scan rows) u < 65536 + length (all_unread unread)) (sym made)
    (let m = subst (λ (l : List ℕ). length left ≤ length l) (all-tried unread wide tried is same) most in omega arith))

-- the bytes that weren't read
pub first-less : (now seen : FedRowsState) (calls : ℕ) → seen ≡ now → calls < 65536 + length (all_unread seen.unread)
    → calls < 65536 + length (all_unread now.unread)
first-less now seen calls e h =
    subst (λ (d : FedRowsState). calls < 65536 + length (all_unread d.unread)) e h

-- ---- the frame

pub framed-few : (found : Found) (f : Frame) → HasDecodedFrame found → found.said.frame ≡ Some f
    → length f.components ≤ 4
framed-few found f h is = decoded-few f (h f is)

pub ready-frames : (settings : Settings) (found : Found) (next : Ahead) → has_lines next ≡ true
    → IsReadyAhead settings found next → HasDecodedFrame found
ready-frames settings found ahead.Start is h = absurd (false≢true is)
ready-frames settings found (ahead.Scan rows) is h = (scan-framed settings found rows [] h).1
ready-frames settings found (ahead.Lines shown) is h = h.2.1
ready-frames settings found ahead.End is h = absurd (false≢true is)
ready-frames settings found ahead.Failed is h = absurd (false≢true is)

pub lines-of : (now seen : FedRowsState) (shown : LinesLeft) → seen ≡ now → AreReadyLines now.settings now.found shown
    → AreReadyLines seen.settings seen.found shown
lines-of now seen shown e h = subst (λ (d : FedRowsState). AreReadyLines d.settings d.found shown) (sym e) h
