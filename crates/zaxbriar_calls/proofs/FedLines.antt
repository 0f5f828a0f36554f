-- Lines that are taken one by one while their bytes arrive: what each step leaves of those that were given.
use Rattle.std.proofs.Common.{arith, ◌≡◌, ◌∙◌, ◌⊎◌, ◌+◌, ◌-◌, ◌*◌, ◌<◌, ◌≤◌, ◌++◌, ℕ, List, [], Result, Ok, Err}
use Rattle.std.proofs.Common.{add-mul, ap, append_assoc, drop, inl, inr, length, refl, subst, sym, take}
use Rattle.std.proofs.Math.Dec.{leb}
use Rattle.std.proofs.lemmas.Bool.{leb-false}
use Rattle.std.proofs.lemmas.List.{append-nil, drop_all, drop-append-le, drop-drop, length-drop, length-take-le}
use Rattle.std.proofs.lemmas.List.{take_all, take-append-drop, take-append-le}
use Rattle.std.specs.Prelude.{OnOk, false, true}
use Rattle.jpeg_bits.specs.declared.error.Error.{Error}
use Rattle.jpeg_decoder.specs.FedRows.{AreFedTo, AreOfLines, FedRowsState, GivesFed}
use Rattle.jpeg_decoder.specs.FedRows.{line_size, lines_in}
use Rattle.jpeg_decoder.specs.declared.fed_rows.Given.{Given}
use Rattle.jpeg_decoder.specs.declared.fed_rows.Given.TheVariants as gives
use Rattle.zaxbriar_calls.proofs.TakenSteps.{none-left}
use Rattle.zaxbriar_calls.specs.ArrivedLines.{AreTakenFed, EndsBytes, EndsFed, Keeps, LacksRoom, PutsFedLine}
use Rattle.zaxbriar_calls.specs.ArrivedLines.{ReachesFed, RefusesFed, TakesFed, TakesFedLine, Waits}
use Rattle.zaxbriar_calls.specs.declared.fed_rows.FedRowReader.{FedRowReader}
use Rattle.zaxbriar_calls.specs.declared.rows.Reason.{Reason}

-- ---- what stays when bytes come

-- Where nothing else changes, the bytes of a line stay.
size-stays : (old new : FedRowsState) → new.settings ≡ old.settings → new.found ≡ old.found → new.ahead ≡ old.ahead
    → line_size new ≡ line_size old
size-stays old new s f a =
    λ i. line_size (record new { settings = s i; found = f i; ahead = a i })

-- What was taken stays taken where what was given stays given.
pub taken-on : (fed more bytes : List ℕ) (r : FedRowReader) (new : FedRowsState)
    → ((given : List ℕ) → AreFedTo fed given r.rows → AreFedTo more given new)
    → new.settings ≡ r.rows.settings → new.found ≡ r.rows.found → new.ahead ≡ r.rows.ahead
    → AreTakenFed fed bytes r → AreTakenFed more bytes (record r { rows = new })
taken-on fed more bytes r new h s f a t = record {
  given = t.given;
  are = h t.given t.are;
  taken = t.taken ∙ (λ i. bytes ++ drop r.taken (lines_in (sym a i)));
  count = t.count;
  whole = t.whole ∙ (λ i. t.count * sym (size-stays r.rows new s f a) i);
}

pub fed-taken : (result : Result (Unit {0}) Error) (piece : List ℕ) (r : FedRowReader) (new : FedRowsState)
    → OnOk result ((fed given : List ℕ) → AreFedTo fed given r.rows → AreFedTo (fed ++ piece) given new)
    → new.settings ≡ r.rows.settings → new.found ≡ r.rows.found → new.ahead ≡ r.rows.ahead
    → OnOk result ((fed bytes : List ℕ) → AreTakenFed fed bytes r
    → AreTakenFed (fed ++ piece) bytes (record r { rows = new }))
fed-taken (Ok x) piece r new h s f a =
    λ fed bytes t. taken-on fed (fed ++ piece) bytes r new (h fed) s f a t
fed-taken (Err e) piece r new h s f a = tt

pub ends-bytes : (r : FedRowReader) (new : FedRowsState)
    → ((fed given : List ℕ) → AreFedTo fed given r.rows → AreFedTo fed given new) → new.has_ended ≡ true
    → new.settings ≡ r.rows.settings → new.found ≡ r.rows.found → new.ahead ≡ r.rows.ahead
    → EndsBytes r (record r { rows = new })
ends-bytes r new h e s f a = record {
  keeps = λ fed bytes t. taken-on fed fed bytes r new (h fed) s f a t;
  ended = e;
  settings = s;
  answer = refl;
  reason = refl;
}

-- ---- a reading

-- Where no line is left of those that are there, all of their bytes were taken.
pub none-there : (fed bytes : List ℕ) (r : FedRowReader) → AreOfLines (line_size r.rows) (lines_in r.rows.ahead)
    → length (lines_in r.rows.ahead) < r.taken + line_size r.rows → AreTakenFed fed bytes r
    → length (lines_in r.rows.ahead) ≤ r.taken
none-there fed bytes r there short t =
    let all = length (lines_in r.rows.ahead) in
    let size = line_size r.rows in
    subst (λ n. all ≤ n) (sym t.whole)
    (none-left there.0 t.count size all there.1 (subst (λ n. all < n + size) t.whole short))

-- So it is where the code's test finds none.
pub none-fits : (fed bytes : List ℕ) (r : FedRowReader) (size : ℕ) (lines : List ℕ) → size ≡ line_size r.rows
    → lines ≡ lines_in r.rows.ahead → AreOfLines (line_size r.rows) lines → r.taken ≤ length lines
    → leb size (length lines - r.taken) ≡ false → AreTakenFed fed bytes r
    → length (lines_in r.rows.ahead) ≤ r.taken
none-fits fed bytes r size lines is same there some short t =
    let less : length lines - r.taken < size = leb-false size (length lines - r.taken) short in
    let low : length lines < r.taken + size = omega (arith, less, some) in
    none-there fed bytes r (subst (λ (l : List ℕ). AreOfLines (line_size r.rows) l) same there)
    (subst (λ (l : List ℕ). length l < r.taken + line_size r.rows) same
    (subst (λ n. length lines < r.taken + n) is low)) t

-- Then all that were given were taken.
pub all-fed : (fed bytes : List ℕ) (r : FedRowReader) → length (lines_in r.rows.ahead) ≤ r.taken
    → AreTakenFed fed bytes r → AreFedTo fed bytes r.rows
all-fed fed bytes r none t =
    subst (λ (b : List ℕ). AreFedTo fed b r.rows)
    (t.taken ∙ (ap (λ (l : List ℕ). bytes ++ l) (drop_all r.taken (lines_in r.rows.ahead) none) ∙ append-nil bytes))
    t.are

-- Of lines that were just read none was taken.
pub lines-read : (fed bytes : List ℕ) (given : Given) (r : FedRowReader) (new : FedRowsState) → given ≡ gives.Lines
    → GivesFed fed bytes (Ok given) new → AreTakenFed fed bytes (record r { rows = new; taken = 0 })
lines-read fed bytes gives.Lines r new e h = record {
  given = bytes ++ lines_in new.ahead;
  are = h;
  taken = refl;
  count = 0;
  whole = omega arith;
}
lines-read fed bytes gives.Waiting r new e h = absurd cc
lines-read fed bytes gives.End r new e h = absurd cc

-- Where none were read, all that were there before were taken.
pub none-read : (fed bytes : List ℕ) (given : Given) (r : FedRowReader) (new : FedRowsState) (lines : List ℕ)
    → (given ≡ gives.Lines → ⊥) → lines ≡ lines_in new.ahead → AreOfLines (line_size new) lines
    → GivesFed fed bytes (Ok given) new
    → ReachesFed fed bytes (Ok given) (record r { rows = new; taken = length lines })
none-read fed bytes gives.Lines r new lines n is whole h = absurd (n refl)
none-read fed bytes gives.Waiting r new lines n is whole h = (
  h.0,
  record {
    given = bytes;
    are = h.1;
    taken = sym (ap (λ (l : List ℕ). bytes ++ l) (drop_all (length lines) (lines_in new.ahead)
        (subst (λ (l : List ℕ). length l ≤ length lines) is (omega arith))) ∙ append-nil bytes);
    count = whole.0;
    whole = whole.1;
  },
)
none-read fed bytes gives.End r new lines n is whole h = h

-- What was taken before some readings was taken after them.
pub record ReadsOn (old new : FedRowReader) : Type 0 where
  pub keeps : Keeps old new
  pub ended : new.rows.has_ended ≡ old.rows.has_ended
  pub settings : new.rows.settings ≡ old.rows.settings
  pub answer : new.answer ≡ old.answer
  pub reason : new.reason ≡ old.reason

pub reads-at-first : (r : FedRowReader) → ReadsOn r r
reads-at-first r = record {
  keeps = λ fed bytes t. t;
  ended = refl;
  settings = refl;
  answer = refl;
  reason = refl;
}

pub reads-lines : (first r : FedRowReader) (new : FedRowsState) (given : Given) → ReadsOn first r
    → given ≡ gives.Lines
    → ((fed bytes : List ℕ) → AreTakenFed fed bytes r → length (lines_in r.rows.ahead) ≤ r.taken)
    → ((fed bytes : List ℕ) → AreFedTo fed bytes r.rows → GivesFed fed bytes (Ok given) new)
    → new.has_ended ≡ r.rows.has_ended → new.settings ≡ r.rows.settings
    → ReadsOn first (record r { rows = new; taken = 0 })
reads-lines first r new given k e none h ended settings = record {
  keeps = λ fed bytes t. let now = k.keeps fed bytes t in
      lines-read fed bytes given r new e (h fed bytes (all-fed fed bytes r (none fed bytes now) now));
  ended = ended ∙ k.ended;
  settings = settings ∙ k.settings;
  answer = k.answer;
  reason = k.reason;
}

-- ---- a reader that begins

pub begins-fed : (piece lines : List ℕ) (start new : FedRowsState) (answer : ℕ) (reason : Reason)
    → ((fed given : List ℕ) → AreFedTo fed given start → AreFedTo (fed ++ piece) given new)
    → AreFedTo [] [] start → lines ≡ lines_in new.ahead → AreOfLines (line_size new) lines
    → AreTakenFed piece [] (record { rows = new; taken = length lines; answer = answer; reason = reason })
begins-fed piece lines start new answer reason fed begun is whole = record {
  given = [];
  are = fed [] [] begun;
  taken = sym (drop_all (length lines) (lines_in new.ahead)
      (subst (λ (l : List ℕ). length l ≤ length lines) is (omega arith)));
  count = whole.0;
  whole = whole.1;
}

-- ---- a line

pub puts-fed : (r : FedRowReader) (before piece : List ℕ)
    → r.taken + line_size r.rows ≤ length (lines_in r.rows.ahead) → line_size r.rows ≤ length before
    → piece ≡ take (line_size r.rows) (drop r.taken (lines_in r.rows.ahead))
    → PutsFedLine r (record r { taken = r.taken + line_size r.rows }) before
    (piece ++ drop (line_size r.rows) before) 0
puts-fed r before piece there room is =
    let size = line_size r.rows in
    let lines = lines_in r.rows.ahead in
    let left = drop r.taken lines in
    let enough : size ≤ length left = omega (arith, there, length-drop r.taken lines) in
    let all : length piece ≡ size = ap (λ (l : List ℕ). length l) is ∙ length-take-le size left enough in
    let rest = drop size before in
    let line : take size (piece ++ rest) ≡ take size left =
    take-append-le size piece rest (omega (arith, all)) ∙ (take_all size piece (omega (arith, all)) ∙ is) in
    let parts : left ≡ take size (piece ++ rest) ++ drop (r.taken + size) lines =
    sym (take-append-drop size left) ∙ (λ i. sym line i ++ drop-drop size r.taken lines i) in
    inl (record {
      is = refl;
      line = λ fed bytes t. record {
        given = t.given;
        are = t.are;
        taken = t.taken ∙ (ap (λ (l : List ℕ). bytes ++ l) parts
            ∙ sym (append_assoc bytes (take size (piece ++ rest)) (drop (r.taken + size) lines)));
        count = t.count + 1;
        whole = omega (arith, t.whole, add-mul t.count 1 size);
      };
      rest = drop-append-le size piece rest (omega (arith, all))
          ∙ ap (λ (l : List ℕ). l ++ rest) (drop_all size piece (omega (arith, all)));
      answer = refl;
      reason = refl;
    })

pub puts-size : (r : FedRowReader) (size : ℕ) (before piece : List ℕ) → size ≡ line_size r.rows
    → r.taken + line_size r.rows ≤ length (lines_in r.rows.ahead) → size ≤ length before
    → piece ≡ take size (drop r.taken (lines_in r.rows.ahead))
    → PutsFedLine r (record r { taken = r.taken + size }) before (piece ++ drop size before) 0
puts-size r size before piece is there =
    subst (λ (n : ℕ). n ≤ length before → piece ≡ take n (drop r.taken (lines_in r.rows.ahead))
    → PutsFedLine r (record r { taken = r.taken + n }) before (piece ++ drop n before) 0)
    (sym is) (puts-fed r before piece there)

-- ---- an answer

-- What was reached of a reader, which keeps all else.
pub record Reached (old new : FedRowReader) (result : Result Given Error) : Type 0 where
  pub going : old.answer ≡ 0
  pub reaches : (fed bytes : List ℕ) → AreTakenFed fed bytes old → ReachesFed fed bytes result new
  pub ended : new.rows.has_ended ≡ old.rows.has_ended
  pub settings : new.rows.settings ≡ old.rows.settings
  pub answer : new.answer ≡ old.answer
  pub reason : new.reason ≡ old.reason

put-after : (old mid new : FedRowReader) (before after : List ℕ) (code : ℕ) → Reached old mid (Ok gives.Lines)
    → PutsFedLine mid new before after code
    → TakesFed old new before after code ⊎ LacksRoom old new before after code
put-after old mid new before after code r (inl p) = inl (record {
  is = p.is;
  line = λ fed bytes t. p.line fed bytes (r.reaches fed bytes t);
  rest = p.rest;
  answer = p.answer ∙ r.answer;
  reason = p.reason ∙ r.reason;
})
put-after old mid new before after code r (inr p) = inr (record {
  is = p.is;
  keeps = λ fed bytes t. p.keeps fed bytes (r.reaches fed bytes t);
  short = p.short;
  answer = p.answer ∙ r.answer;
  reason = p.reason ∙ r.reason;
  kept = p.kept;
})

takes-put : (old new : FedRowReader) (before after : List ℕ) (code : ℕ)
    → TakesFed old new before after code ⊎ LacksRoom old new before after code
    → TakesFed old new before after code ⊎ (LacksRoom old new before after code ⊎ (Waits old new before after code
    ⊎ (EndsFed old new before after code ⊎ RefusesFed old new before after code)))
takes-put old new before after code (inl p) = inl p
takes-put old new before after code (inr p) = inr (inl p)

pub line-put : (old mid new : FedRowReader) (result : Result Given Error) (given : Given) (before after : List ℕ)
    (code : ℕ) → result ≡ Ok given → given ≡ gives.Lines → Reached old mid result → new.rows ≡ mid.rows
    → PutsFedLine mid new before after code → TakesFedLine old new before after code
line-put old mid new result given before after code is e reached same p =
    let r : Reached old mid (Ok gives.Lines) = subst (λ (x : Result Given Error). Reached old mid x)
    (is ∙ ap (λ (g : Given). Ok g) e) reached in
    record {
      over = λ n. absurd (n r.going);
      takes = λ z. takes-put old new before after code (put-after old mid new before after code r p);
      settings = ap (λ (d : FedRowsState). d.settings) same ∙ r.settings;
      ended = ap (λ (d : FedRowsState). d.has_ended) same ∙ r.ended;
    }

pub line-waits : (old new : FedRowReader) (result : Result Given Error) (given : Given) (line : List ℕ)
    → result ≡ Ok given → given ≡ gives.Waiting → Reached old new result → TakesFedLine old new line line 12
line-waits old new result given line is e reached =
    let r : Reached old new (Ok gives.Waiting) = subst (λ (x : Result Given Error). Reached old new x)
    (is ∙ ap (λ (g : Given). Ok g) e) reached in
    record {
      over = λ n. absurd (n r.going);
      takes = λ z. inr (inr (inl (record {
        is = refl;
        keeps = λ fed bytes t. (r.reaches fed bytes t).1;
        unended = λ fed bytes t. (r.reaches fed bytes t).0;
        answer = r.answer;
        reason = r.reason;
        kept = refl;
      })));
      settings = r.settings;
      ended = r.ended;
    }

pub lines-end : (old new : FedRowReader) (result : Result Given Error) (given : Given) (line : List ℕ)
    → result ≡ Ok given → given ≡ gives.End → Reached old new result
    → TakesFedLine old (record new { answer = 11 }) line line 11
lines-end old new result given line is e reached =
    let r : Reached old new (Ok gives.End) = subst (λ (x : Result Given Error). Reached old new x)
    (is ∙ ap (λ (g : Given). Ok g) e) reached in
    record {
      over = λ n. absurd (n r.going);
      takes = λ z. inr (inr (inr (inl (record {
        is = refl;
        ended = λ fed bytes t. (r.reaches fed bytes t).0;
        decodes = λ fed bytes t. (r.reaches fed bytes t).1;
        answer = refl;
        reason = r.reason;
        kept = refl;
      }))));
      settings = r.settings;
      ended = r.ended;
    }
