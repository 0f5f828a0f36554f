-- Lines that are taken one by one: what each step leaves of those that were given.
use Rattle.std.proofs.Common.{arith, ◌≡◌, ◌∙◌, ◌⊎◌, ◌+◌, ◌*◌, ◌<◌, ◌≤◌, ◌++◌, ℕ, Bool, List, [], Result, Ok, Err}
use Rattle.std.proofs.Common.{Option, Some, None, add-mul, ap, append_assoc, drop, false, inl, inr, length}
use Rattle.std.proofs.Common.{mul-le-mul_right, refl, true}
use Rattle.std.proofs.Common.{replicate, subst, sym, take}
use Rattle.std.specs.List.{concat}
use Rattle.std.specs.Prelude.{IfOk, option_map}
use Rattle.std.proofs.lemmas.Bool.{cases_lt}
use Rattle.std.proofs.lemmas.List.{append-nil, drop_all, drop-append-le, drop-drop, length-drop, length-take-le}
use Rattle.std.proofs.lemmas.List.{take_all, take-append-drop, take-append-le}
use Rattle.jpeg_bits.specs.declared.error.Error.{Error}
use Rattle.jpeg_bits.specs.declared.error.Error.TheVariants as errors
use Rattle.jpeg_decoder.specs.Bytes.{AreWholeLines, Shape, line_bytes, shape_in, shape_of}
use Rattle.jpeg_decoder.specs.DecodesRows.{DecodesRows}
use Rattle.jpeg_decoder.specs.Rows.{AreGiven, GivesNext, RowsState, lines_in}
use Rattle.jpeg_decoder.specs.RowScans.{IsGivingScan}
use Rattle.jpeg_decoder.specs.Walks.{known_if}
use Rattle.jpeg_decoder.specs.declared.by_rows.first_scan.RowScan.{RowScan}
use Rattle.jpeg_decoder.specs.declared.rows.Ahead.{Ahead}
use Rattle.jpeg_decoder.specs.declared.rows.Ahead.TheVariants as ahead
use Rattle.jpeg_meaning.specs.Reported.{IsOfTurns}
use Rattle.jpeg_meaning.specs.States.{Decoding, MovesToEnd}
use Rattle.jpeg_meaning.specs.Stream.{walk}
use Rattle.jpeg_meaning.specs.declared.progress.Progress.{Progress}
use Rattle.jpeg_meaning.specs.declared.progress.Progress.TheVariants.{Failed, HeaderRead}
use Rattle.zaxbriar_calls.specs.Outcomes.{DescribesStream}
use Rattle.zaxbriar_calls.specs.TakenLines.{AreOfLines, AreTaken, PutsLine, ReachesLine, SaysWhy, TakesLine}
use Rattle.zaxbriar_calls.specs.declared.answers.Refusal.{Refusal}
use Rattle.zaxbriar_calls.specs.declared.options.Options.{Options}
use Rattle.zaxbriar_calls.specs.declared.picture.Picture.{Picture}
use Rattle.zaxbriar_calls.specs.declared.rows.RowReader.{RowReader}

-- ---- the shape of the picture

rows-shape : (start d : Decoding) (result : Result (Unit {0}) Error) (bytes : List ℕ) → start.stage ≡ HeaderRead
    → DecodesRows start result d bytes → shape_in d ≡ shape_in start
rows-shape start d result bytes header r = λ i. option_map (shape_of (r.settings i)) (r.stays header i)

-- A scan may be refused for memory at once, which tells how it has begun.
scan-shape : (start d : Decoding) (scan : RowScan) (bytes : List ℕ) → start.stage ≡ HeaderRead
    → IsGivingScan start d scan bytes → shape_in d ≡ shape_in start
unfolding IsOfTurns walk
scan-shape start d scan bytes header g =
    let new : Decoding = record {
      source = known_if g.k g.at;
      stage = Failed;
      found = record d.found { kept = []; planes = replicate 4 None; samples = replicate 4 None };
      settings = d.settings;
      exceeded = false;
    } in
    let refused = g.leads (Err errors.OutOfMemory) new [] (record {
      gives = record { whole = tt; reads = (refl, λ k l. tt, λ k l. let n : false ≡ true = sym l ∙ k in absurd cc) };
      tells = λ k l. tt;
      turns = λ k. (0, refl);
      exceeds = λ k l. tt;
      given = λ k. record { rows = 0; are = inl (refl, refl); no_more = λ l. inl refl };
    }) (subst (λ (s : Progress). MovesToEnd {X = Unit {0}} s Failed (Err errors.OutOfMemory)) (sym header) (refl, tt))
    refl refl (refl, refl, refl) in
    rows-shape start new (Err errors.OutOfMemory) [] header refused

-- After a header it stays while lines are given.
given-shape : (start d : Decoding) (left : Ahead) (bytes : List ℕ) → start.stage ≡ HeaderRead
    → AreGiven start bytes d left → shape_in d ≡ shape_in start
given-shape start d ahead.Start bytes header g = ap (λ (s : Decoding). shape_in s) g.0
given-shape start d (ahead.Scan rows) bytes header g = scan-shape start d rows bytes header g
given-shape start d (ahead.Lines shown) bytes header g =
    rows-shape start d (Ok tt) (bytes ++ concat shown.left) header g
given-shape start d ahead.End bytes header g = absurd g

whole-lines : (shape : Option Shape) (line : ℕ) (bytes : List ℕ) → option_map line_bytes shape ≡ Some line
    → AreWholeLines shape bytes → AreOfLines line (length bytes)
whole-lines None line bytes e are = absurd (cc)
whole-lines (Some s) line bytes e are =
    let is : line_bytes s ≡ line = cc in (are.0, are.1 ∙ ap (λ n. are.0 * n) is)

-- ---- a reading

-- Whole lines of which less than a line is left were all taken.
pub none-left : (all taken line bytes : ℕ) → bytes ≡ all * line → bytes < taken * line + line → bytes ≤ taken * line
none-left all taken line bytes e short = go (cases_lt taken all)
  where
    go : (taken < all) ⊎ (all ≤ taken) → bytes ≤ taken * line
    go (inl more) =
        let k : (taken + 1) * line ≤ all * line = mul-le-mul_right line (omega (arith, more)) in
        absurd (omega (arith, e, short, k, add-mul taken 1 line))
    go (inr most) = let k : all * line ≤ taken * line = mul-le-mul_right line most in omega (arith, e, k)

-- Where no line is left of the lines that are there, all that were given were taken.
pub all-taken : (start : Decoding) (bytes : List ℕ) (r : RowReader)
    → length (lines_in r.rows.ahead) < r.taken + r.line_bytes
    → AreTaken start bytes r → AreGiven start bytes r.rows.decoder r.rows.ahead
all-taken start bytes r short t =
    let lines = lines_in r.rows.ahead in
    let low : length lines < t.whole.0 * r.line_bytes + r.line_bytes =
    subst (λ n. length lines < n + r.line_bytes) t.whole.1 short in
    let none : length lines ≤ r.taken = subst (λ n. length lines ≤ n) (sym t.whole.1)
    (none-left t.there.0 t.whole.0 r.line_bytes (length lines) t.there.1 low) in
    subst (λ (b : List ℕ). AreGiven start b r.rows.decoder r.rows.ahead)
    (t.taken ∙ (ap (λ (l : List ℕ). bytes ++ l) (drop_all r.taken lines none) ∙ append-nil bytes))
    t.are

pub next-read : (start : Decoding) (bytes : List ℕ) (result : Result Bool Error) (old : RowReader) (new : RowsState)
    → AreTaken start bytes old → GivesNext start bytes result new
    → IfOk result (λ _. AreWholeLines (shape_in new.decoder) (lines_in new.ahead))
    → ReachesLine start bytes result
    (record old { rows = new; taken = 0 })
next-read start bytes (Ok true) old new t h whole = record {
  given = bytes ++ lines_in new.ahead;
  are = h;
  taken = refl;
  stage = t.stage;
  line = t.line;
  there = whole-lines (shape_in new.decoder) old.line_bytes (lines_in new.ahead)
      (ap (λ (s : Option Shape). option_map line_bytes s)
      (given-shape start new.decoder new.ahead (bytes ++ lines_in new.ahead) t.stage h) ∙ t.line)
      whole;
  whole = (0, omega arith);
}
next-read start bytes (Ok false) old new t h whole = h
next-read start bytes (Err e) old new t h whole = h

-- What was taken before some readings was taken after them.
pub record KeepsTaken (old new : RowReader) : Type 0 where
  pub taken : (start : Decoding) (bytes : List ℕ) → AreTaken start bytes old → AreTaken start bytes new
  pub line_bytes : new.line_bytes ≡ old.line_bytes
  pub answer : new.answer ≡ old.answer
  pub reason : new.reason ≡ old.reason

pub kept-at-first : (r : RowReader) → KeepsTaken r r
kept-at-first r = record { taken = λ start bytes t. t; line_bytes = refl; answer = refl; reason = refl }

ok-reached : (start : Decoding) (bytes : List ℕ) (more : Bool) (new : RowReader) → more ≡ true
    → ReachesLine start bytes (Ok more) new → AreTaken start bytes new
ok-reached start bytes more new e h = subst (λ (b : Bool). ReachesLine start bytes (Ok b) new) e h

pub end-reached : (start : Decoding) (bytes : List ℕ) (more : Bool) (new : RowReader) → more ≡ false
    → ReachesLine start bytes (Ok more) new → DecodesRows start (Ok tt) new.rows.decoder bytes
end-reached start bytes more new e h = subst (λ (b : Bool). ReachesLine start bytes (Ok b) new) e h

pub kept-on : (first old new : RowReader) (more : Bool) → KeepsTaken first old → more ≡ true
    → ((start : Decoding) (bytes : List ℕ) → AreTaken start bytes old → ReachesLine start bytes (Ok more) new)
    → new.line_bytes ≡ old.line_bytes → new.answer ≡ old.answer → new.reason ≡ old.reason → KeepsTaken first new
kept-on first old new more k e reaches bytes_same answer_same reason_same = record {
  taken = λ start bytes t. ok-reached start bytes more new e (reaches start bytes (k.taken start bytes t));
  line_bytes = bytes_same ∙ k.line_bytes;
  answer = answer_same ∙ k.answer;
  reason = reason_same ∙ k.reason;
}

-- ---- a line

pub puts-line : (old : RowReader) (before piece : List ℕ)
    → old.taken + old.line_bytes ≤ length (lines_in old.rows.ahead) → old.line_bytes ≤ length before
    → piece ≡ take old.line_bytes (drop old.taken (lines_in old.rows.ahead))
    → PutsLine old (record old { taken = old.taken + old.line_bytes }) before
    (piece ++ drop old.line_bytes before)
puts-line old before piece there room is =
    let lines = lines_in old.rows.ahead in
    let left = drop old.taken lines in
    let enough : old.line_bytes ≤ length left = omega (arith, there, length-drop old.taken lines) in
    let all : length piece ≡ old.line_bytes =
    ap (λ (l : List ℕ). length l) is ∙ length-take-le old.line_bytes left enough in
    let rest = drop old.line_bytes before in
    let taken : take old.line_bytes (piece ++ rest) ≡ take old.line_bytes left =
    take-append-le old.line_bytes piece rest (omega (arith, all))
    ∙ (take_all old.line_bytes piece (omega (arith, all)) ∙ is) in
    let parts : left ≡ take old.line_bytes (piece ++ rest) ++ drop (old.taken + old.line_bytes) lines =
    sym (take-append-drop old.line_bytes left)
    ∙ (λ i. sym taken i ++ drop-drop old.line_bytes old.taken lines i) in
    record {
      taken = λ start bytes t. record {
        given = t.given;
        are = t.are;
        taken = t.taken ∙ (ap (λ (l : List ℕ). bytes ++ l) parts
            ∙ sym (append_assoc bytes (take old.line_bytes (piece ++ rest)) (drop (old.taken + old.line_bytes) lines)));
        stage = t.stage;
        line = t.line;
        there = t.there;
        whole = (t.whole.0 + 1, omega (arith, t.whole.1, add-mul t.whole.0 1 old.line_bytes));
      };
      rest = drop-append-le old.line_bytes piece rest (omega (arith, all))
          ∙ ap (λ (l : List ℕ). l ++ rest) (drop_all old.line_bytes piece (omega (arith, all)));
      line_bytes = refl;
      answer = refl;
      reason = refl;
    }

-- ---- an answer

pub ends : (old new : RowReader) (line : List ℕ) → old.answer ≡ 0 → old.line_bytes ≤ length line
    → ((start : Decoding) (bytes : List ℕ) → AreTaken start bytes old
    → DecodesRows start (Ok tt) new.rows.decoder bytes) → new.reason ≡ old.reason
    → TakesLine old (record new { answer = 11 }) line line 11
ends old new line going room h same = record {
  over = λ n. absurd (n going);
  short = λ _ s. absurd (omega (arith, room, s));
  takes = λ _ _. inr (inl (record { is = refl; decodes = h; answer = refl; reason = same; kept = refl }));
}

pub refused : (old new last : RowReader) (line : List ℕ) (error : Error) (code : ℕ) → old.answer ≡ 0
    → old.line_bytes ≤ length line → SaysWhy error code last → last.rows ≡ new.rows
    → ((start : Decoding) (bytes : List ℕ) → AreTaken start bytes old
    → ReachesLine start bytes (Err error) new)
    → TakesLine old last line line code
refused old new last line error code going room why same h = record {
  over = λ n. absurd (n going);
  short = λ _ s. absurd (omega (arith, room, s));
  takes = λ _ _. inr (inr (record {
    error = error;
    why = why;
    decodes = λ start bytes t. subst (λ (s : RowsState). DecodesRows start (Err error) s.decoder bytes) (sym same)
        (h start bytes t);
    kept = refl;
  }));
}

-- ---- a description

-- What is said of a description that was made, or refused, is said of what comes of it.
pub described-ok : {X Y : Type 0} (o : Options) (bytes : List ℕ) (old new : Picture) (r : Result X Refusal)
    (x : X) (y : Y) → r ≡ Ok x → DescribesStream o bytes old new r → DescribesStream {X = Y} o bytes old new (Ok y)
described-ok {X} o bytes old new r x y e d =
    let k : DescribesStream o bytes old new (Ok x) =
    subst (λ (s : Result X Refusal). DescribesStream o bytes old new s) e d in
    record {
      within = k.within;
      large = tt;
      counts = k.counts;
      header = tt;
      most = k.most;
      rowless = k.rowless;
      limited = k.limited;
      roomless = tt;
      named = tt;
      whole = tt;
      known = k.known;
      wrong = tt;
      unasked = k.unasked;
      kept = tt;
    }

pub described-err : {X Y : Type 0} (o : Options) (bytes : List ℕ) (old new : Picture) (r : Result X Refusal)
    (refusal : Refusal) → r ≡ Err refusal → DescribesStream o bytes old new r → DescribesStream {X = Y} o bytes old new (Err refusal)
described-err {X} o bytes old new r refusal e d =
    let k : DescribesStream o bytes old new (Err refusal) =
    subst (λ (s : Result X Refusal). DescribesStream o bytes old new s) e d in
    record {
      within = tt;
      large = k.large;
      counts = tt;
      header = k.header;
      most = k.most;
      rowless = k.rowless;
      limited = k.limited;
      roomless = k.roomless;
      named = k.named;
      whole = k.whole;
      known = k.known;
      wrong = k.wrong;
      unasked = k.unasked;
      kept = k.kept;
    }
