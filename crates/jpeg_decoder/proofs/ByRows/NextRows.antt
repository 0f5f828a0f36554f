-- What lies ahead of the lines of a picture, from one call to the next.
use Rattle.std.proofs.Common.{◌≡◌, ◌∙◌, ◌++◌, ◌∷◌, Bool, true, false, List, [], ℕ, Ok, ap, append_assoc, sym, subst}
use Rattle.std.proofs.lemmas.List.{append-nil}
use Rattle.std.specs.List.{concat}
use Rattle.jpeg_meaning.specs.States.{Decoding}
use Rattle.jpeg_decoder.specs.DecodesRows.{DecodesRows}
use Rattle.jpeg_decoder.specs.Bytes.{AreWholeLines, shape_in}
use Rattle.jpeg_decoder.specs.RowScans.{GivesMore, IsGiving, IsGivingScan, StartsRows}
use Rattle.jpeg_decoder.specs.RowsView.{LinesLeft}
use Rattle.jpeg_decoder.specs.declared.by_rows.rest.Begun.{Begun}
use Rattle.jpeg_decoder.specs.declared.by_rows.rest.Begun.TheVariants as begun
use Rattle.jpeg_decoder.specs.Rows.{AreGiven, RowsState}
use Rattle.jpeg_decoder.specs.declared.by_rows.first_scan.RowScan.{RowScan}
use Rattle.jpeg_decoder.specs.declared.rows.Ahead.{Ahead}
use Rattle.jpeg_decoder.specs.declared.rows.Ahead.TheVariants as ahead
use Rattle.jpeg_decoder.proofs.ByRows.WholeLines.{no-line, scan-lines}

abbrev pub state-of : Decoding → Ahead → RowsState
state-of decoder next = record { decoder = decoder; ahead = next }

-- ---- of a scan

pub at-decoder : (now : RowsState) (decoder : Decoding) (next : Ahead) (rows : RowScan) (start : Decoding)
    (bytes : List ℕ) → state-of decoder next ≡ now → IsGivingScan start now.decoder rows bytes
    → IsGivingScan start decoder rows bytes
at-decoder now decoder next rows start bytes e h =
    subst (λ (s : RowsState). IsGivingScan start s.decoder rows bytes) (sym e) h

pub scan-ahead : (now : RowsState) (decoder : Decoding) (next : Ahead) (rows : RowScan) (start : Decoding)
    (bytes : List ℕ) → state-of decoder next ≡ now → ahead.Scan rows ≡ next
    → AreGiven start bytes now.decoder now.ahead → IsGivingScan start decoder rows bytes
scan-ahead now decoder next rows start bytes e is h =
    subst (λ (a : Ahead). AreGiven start bytes decoder a) (sym is)
    (subst (λ (s : RowsState). AreGiven start bytes s.decoder s.ahead) (sym e) h)

-- ---- of a picture that was decoded

pub lines-ahead : (now : RowsState) (decoder : Decoding) (next : Ahead) (shown : LinesLeft) (start : Decoding)
    (bytes : List ℕ) → state-of decoder next ≡ now → ahead.Lines shown ≡ next
    → AreGiven start bytes now.decoder now.ahead → DecodesRows start (Ok tt) decoder (bytes ++ concat shown.left)
lines-ahead now decoder next shown start bytes e is h =
    subst (λ (a : Ahead). AreGiven start bytes decoder a) (sym is)
    (subst (λ (s : RowsState). AreGiven start bytes s.decoder s.ahead) (sym e) h)

-- none is left
pub lines-ended : (now : RowsState) (decoder : Decoding) (next : Ahead) (start : Decoding) (bytes : List ℕ)
    (left : List (List ℕ)) → state-of decoder next ≡ now → left ≡ []
    → DecodesRows start (Ok tt) now.decoder (bytes ++ concat left) → DecodesRows start (Ok tt) decoder bytes
lines-ended now decoder next start bytes left e none h =
    subst (λ (l : List ℕ). DecodesRows start (Ok tt) decoder l)
    (ap (λ (ls : List (List ℕ)). bytes ++ concat ls) none ∙ append-nil bytes)
    (subst (λ (s : RowsState). DecodesRows start (Ok tt) s.decoder (bytes ++ concat left)) (sym e) h)

-- one is taken
pub line-given : (now : RowsState) (decoder : Decoding) (next : Ahead) (start : Decoding) (bytes line : List ℕ)
    (old left : List (List ℕ)) → state-of decoder next ≡ now → old ≡ line ∷ left
    → DecodesRows start (Ok tt) now.decoder (bytes ++ concat old)
    → DecodesRows start (Ok tt) decoder ((bytes ++ line) ++ concat left)
line-given now decoder next start bytes line old left e is h =
    subst (λ (l : List ℕ). DecodesRows start (Ok tt) decoder l)
    (ap (λ (ls : List (List ℕ)). bytes ++ concat ls) is ∙ sym (append_assoc bytes line (concat left)))
    (subst (λ (s : RowsState). DecodesRows start (Ok tt) s.decoder (bytes ++ concat old)) (sym e) h)

-- ---- after a call

pub gives-row : (start : Decoding) (bytes : List ℕ) (more : Bool) (new : Decoding) (rows : RowScan) → more ≡ true
    → GivesMore start bytes (Ok more) new rows → IsGivingScan start new rows (bytes ++ rows.giver.lines.items)
gives-row start bytes more new rows is h =
    subst (λ (b : Bool). GivesMore start bytes (Ok b) new rows) is h

pub gives-none : (start : Decoding) (bytes : List ℕ) (more : Bool) (new : Decoding) (rows : RowScan) → more ≡ false
    → GivesMore start bytes (Ok more) new rows → DecodesRows start (Ok tt) new bytes
gives-none start bytes more new rows is h =
    subst (λ (b : Bool). GivesMore start bytes (Ok b) new rows) is h

pub giving-row : (start : Decoding) (bytes : List ℕ) (new : Decoding) (rows : RowScan)
    → IsGivingScan start new rows bytes → IsGiving new rows
giving-row start bytes new rows h = record { start = start; bytes = bytes; is = h }

-- ---- at the start no line was made

pub begins-scan : (start new : Decoding) (rows : RowScan) → rows.giver.lines.items ≡ []
    → IsGivingScan start new rows [] → IsGivingScan start new rows ([] ++ rows.giver.lines.items)
begins-scan start new rows none h = subst (λ (l : List ℕ). IsGivingScan start new rows ([] ++ l)) (sym none) h

pub begins-lines : (start new : Decoding) (line : List ℕ) (left : List (List ℕ)) → line ≡ []
    → DecodesRows start (Ok tt) new (concat left)
    → DecodesRows start (Ok tt) new (([] ++ line) ++ concat left)
begins-lines start new line left none h =
    subst (λ (l : List ℕ). DecodesRows start (Ok tt) new (([] ++ l) ++ concat left)) (sym none) h

-- ---- whole lines

pub giving-whole : (start d : Decoding) (rows : RowScan) (bytes : List ℕ) → IsGivingScan start d rows bytes
    → AreWholeLines (shape_in d) rows.giver.lines.items
giving-whole start d rows bytes h = scan-lines d.settings h.k d.found h.at rows d.source bytes h.is

pub started-scan : (start new : Decoding) (b : Begun) (rows : RowScan) → b ≡ begun.Scan rows
    → StartsRows start (Ok b) new → AreWholeLines (shape_in new) rows.giver.lines.items
started-scan start new b rows e h =
    let s = subst (λ (b : Begun). StartsRows start (Ok b) new) e h in giving-whole start new rows [] s.0

pub started-lines : (start new : Decoding) (b : Begun) (shown : LinesLeft) → b ≡ begun.Lines shown
    → StartsRows start (Ok b) new → AreWholeLines (shape_in new) shown.line
started-lines start new b shown e h =
    let s = subst (λ (b : Begun). StartsRows start (Ok b) new) e h in
    subst (AreWholeLines (shape_in new)) (sym s.1.1) (no-line (shape_in new))
