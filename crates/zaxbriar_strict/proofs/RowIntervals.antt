-- Rows of MCUs of a lossless scan that are read one after the other, interval by interval.
use Rattle.std.proofs.Common.{◌≡◌, ◌≢◌, ℕ, suc, ◌+◌, ◌-◌, ◌*◌, ◌/◌, ◌%◌, ◌<◌, ◌≤◌, List, []}
use Rattle.std.proofs.Common.{◌∷◌, ◌++◌, length, map, refl, sym, ap, ap₂, ◌∙◌, subst, arith, append_assoc}
use Rattle.std.proofs.Common.{div-add-mod', inl, inr, ◌⊎◌}
use Rattle.std.proofs.lemmas.Bool.{cases_lt}
use Rattle.std.proofs.Math.Nat.{add-mul, le_of_mul-le-mul_right, mul-le-mul_right, zero-div, zero-mul}
use Rattle.std.proofs.lemmas.List.{length-map, length-replicate, map-append, replicate-append-replicate}
use Rattle.jpeg_bits.specs.Codes.{Table}
use Rattle.jpeg_bits.specs.Written.WritesEach.{none}
use Rattle.jpeg_lossless.specs.Written.{WritesRows}
use Rattle.zaxbriar_strict.specs.Data.{Data, IsFilling, Reads, data_at}
use Rattle.zaxbriar_strict.specs.Loaded.{data_of}
use Rattle.zaxbriar_strict.specs.Markers.{Restarts}
use Rattle.zaxbriar_strict.specs.Runs.{WritesGroups}
use Rattle.zaxbriar_strict.specs.SampleRows.{AreRows, IsAfterRows, IsBeforeRow, Row}
use Rattle.zaxbriar_strict.specs.ScanSamples.{ReadsDifferences, WritesDifferences}
use Rattle.zaxbriar_strict.specs.declared.intervals.Intervals.{Intervals}
use Rattle.zaxbriar_strict.proofs.Groups.{closes-more, closes-none, last-written}
use Rattle.zaxbriar_strict.proofs.SampleDifferences.{each-append, each-one}
use Rattle.zaxbriar_strict.proofs.Taken.{takes-none, takes-then}
use Rattle.zaxbriar_strict.proofs.Turns.{interval-written}

-- ---- rows

pub rows-count : (tables : List Table) (n : ℕ) (rows : List Row) → AreRows tables n rows → length rows ≡ n
rows-count tables n rows are =
    sym (length-map rows (map (λ (x : Table × ℕ). x.0))) ∙ ap length are ∙ length-replicate n tables

rows-append : (tables : List Table) (m n : ℕ) (a b : List Row) → AreRows tables m a → AreRows tables n b
    → AreRows tables (m + n) (a ++ b)
rows-append tables m n a b x y =
    map-append (map (λ (x : Table × ℕ). x.0)) a b
    ∙ ap₂ (λ (s t : List (List Table)). s ++ t) x y
    ∙ replicate-append-replicate m n tables

no-rows : (bytes : List ℕ) (d : Data) → d ≡ data_at bytes → Reads (WritesRows []) (data_at bytes) d
no-rows bytes d e =
    subst (λ (x : Data). Reads (WritesRows []) (data_at bytes) x) (sym e)
    (record { own = []; taken = takes-none (data_at bytes); holds = none })

-- ---- numbers of MCUs in whole rows

pub whole-rows : (every wide : ℕ) → every % wide ≡ 0 → every / wide * wide ≡ every
whole-rows every wide whole = let e = div-add-mod' every wide in omega (arith, e, whole)

pub at-most-factor : (a b wide : ℕ) → 1 ≤ wide → a * wide ≤ b * wide → a ≤ b
at-most-factor a b wide some h = le_of_mul-le-mul_right h some

same-factor : (a b wide : ℕ) → 1 ≤ wide → a * wide ≡ b * wide → a ≡ b
same-factor a b wide some e =
    let x = at-most-factor a b wide some (omega (arith, e)) in
    let y = at-most-factor b a wide some (omega (arith, e)) in
    omega (arith, x, y)

one-row : (quotient wide : ℕ) → 1 ≤ quotient → wide ≤ quotient * wide
one-row quotient wide some =
    let m = mul-le-mul_right wide some in
    let e : 1 * wide ≡ wide = omega arith in
    omega (arith, m, e)

at-least : (every wide : ℕ) → every ≢ 0 → every % wide ≡ 0 → wide ≤ every
at-least every wide ne whole =
    let e = whole-rows every wide whole in
    let q : every / wide ≢ 0 = λ z. ne (sym e ∙ ap (λ (k : ℕ). k * wide) z ∙ zero-mul wide) in
    let m = one-row (every / wide) wide (omega (arith, q)) in
    omega (arith, m, e)

room-for : (left size quotient wide : ℕ) → 1 ≤ left → left + size * wide ≡ quotient * wide → wide ≤ left
room-for left size quotient wide some all = go (cases_lt size quotient)
  where
    go : (size < quotient) ⊎ (quotient ≤ size) → wide ≤ left
    go (inl lt) = (
        let m = mul-le-mul_right wide lt in
        let s = add-mul size 1 wide in
        let e : suc size ≡ size + 1 = omega arith in
        let t : suc size * wide ≡ (size + 1) * wide = ap (λ (k : ℕ). k * wide) e in
        omega (arith, m, s, t, all)
        )
    go (inr le) = (let m = mul-le-mul_right wide le in absurd (omega (arith, m, all, some)))

-- ---- intervals

pub begun : (tables : List Table) (wide every : ℕ) (bytes : List ℕ) (i : Intervals) → 1 ≤ wide → every % wide ≡ 0
    → data_of i.bits ≡ data_at bytes → i.every ≡ every → i.left ≡ every → i.next ≡ 0
    → IsAfterRows tables wide every bytes 0 i
begun tables wide every bytes i some whole d e l n = record {
  so_far = record {
    not_empty = some;
    whole = whole;
    every_is = e;
    before = 0;
    closed = [];
    closed_are = refl;
    number = 0;
    numbered = ap (λ (k : ℕ). k % 8) n;
    rest = bytes;
    closes = closes-none WritesRows (every / wide) bytes;
    size = 0;
    now = [];
    now_are = refl;
    run = no-rows bytes (data_of i.bits) d;
    counted = refl;
    left = λ ne. (let z : 0 * wide ≡ 0 = omega arith in omega (arith, l, z));
  };
  some = λ h. absurd (omega (arith, h));
}

-- an interval that is not over has room for a row
pub has-room : {tables : List Table} {wide every : ℕ} {bytes : List ℕ} {count : ℕ} (i : Intervals)
    → IsAfterRows tables wide every bytes count i → (i.every ≢ 0 → 1 ≤ i.left)
    → IsBeforeRow tables wide every bytes count i
has-room {tables} {wide} {every} i a room = record {
  so_far = a.so_far;
  room = λ ne.
      let o = a.so_far in
      let some = room (λ z. ne (sym o.every_is ∙ z)) in
      let all = o.left ne in
      let whole = whole-rows every wide o.whole in
      let e : i.left + o.size * wide ≡ every / wide * wide = all ∙ sym whole in
      room-for i.left o.size (every / wide) wide some e;
}

pub restarted : {tables : List Table} {wide every : ℕ} {bytes : List ℕ} {count : ℕ} (i j : Intervals)
    → IsAfterRows tables wide every bytes count i → i.every ≢ 0 → i.left ≡ 0
    → Restarts i.next (data_of i.bits) (data_of j.bits) → j.every ≡ i.every → j.left ≡ i.every
    → j.next ≡ (i.next % 8 + 1) % 8 → IsBeforeRow tables wide every bytes count j
restarted {tables} {wide} {every} {bytes} i j a over none_left r e l n =
    let o = a.so_far in
    let every_is = o.every_is in
    let ne : every ≢ 0 = λ z. over (every_is ∙ z) in
    let all = o.left ne in
    let whole = whole-rows every wide o.whole in
    let full : o.size * wide ≡ every / wide * wide = omega (arith, all, none_left, whole) in
    let size : length o.now ≡ every / wide =
    rows-count tables o.size o.now o.now_are ∙ same-factor o.size (every / wide) wide o.not_empty full in
    let more : every / wide ≢ 0 = λ z. ne (sym whole ∙ ap (λ (k : ℕ). k * wide) z ∙ zero-mul wide) in
    let numbered = o.numbered in
    let counted = o.counted in
    let least = at-least every wide ne o.whole in
    record {
      so_far = record {
        not_empty = o.not_empty;
        whole = o.whole;
        every_is = e ∙ every_is;
        before = o.before + o.size;
        closed = o.closed ++ o.now;
        closed_are = rows-append tables o.before o.size o.closed o.now o.closed_are o.now_are;
        number = suc o.number;
        numbered = omega (arith, n, numbered);
        rest = r.after;
        closes = closes-more WritesRows (every / wide) o.number i.next o.closed o.now bytes o.rest r.between r.after more
            size numbered o.closes (interval-written (WritesRows o.now) o.rest r.between (data_of i.bits) o.run r.filled)
            r.marked;
        size = 0;
        now = [];
        now_are = refl;
        run = no-rows r.after (data_of j.bits) r.begins;
        counted = omega (arith, counted);
        left = λ some. (let z : 0 * wide ≡ 0 = omega arith in omega (arith, l, every_is, z));
      };
      room = λ some. omega (arith, l, every_is, least);
    }

-- one more row of the interval
pub one-more : {tables : List Table} {wide every : ℕ} {bytes : List ℕ} {count : ℕ} (i j : Intervals)
    → IsBeforeRow tables wide every bytes count i → j.every ≡ i.every → j.left ≡ i.left - wide → j.next ≡ i.next
    → ReadsDifferences tables (data_of i.bits) (data_of j.bits) → IsAfterRows tables wide every bytes (count + 1) j
one-more {tables} {wide} i j b e l n r =
    let o = b.so_far in
    let counted = o.counted in
    record {
      so_far = record {
        not_empty = o.not_empty;
        whole = o.whole;
        every_is = e ∙ o.every_is;
        before = o.before;
        closed = o.closed;
        closed_are = o.closed_are;
        number = o.number;
        numbered = ap (λ (k : ℕ). k % 8) n ∙ o.numbered;
        rest = o.rest;
        closes = o.closes;
        size = o.size + 1;
        now = o.now ++ (r.differences ∷ []);
        now_are = rows-append tables o.size 1 o.now (r.differences ∷ []) o.now_are
            (ap (λ (l : List Table). l ∷ []) r.tables_are);
        run = record {
          own = o.run.own ++ r.read.own;
          taken = takes-then o.run.taken r.read.taken;
          holds = each-append WritesDifferences o.now (r.differences ∷ []) o.run.own r.read.own o.run.holds
              (each-one WritesDifferences r.differences r.read.own r.read.holds);
        };
        counted = omega (arith, counted);
        left = λ some. (
            let room = b.room some in
            let all = o.left some in
            let m = add-mul o.size 1 wide in
            omega (arith, l, room, all, m)
            );
      };
      some = λ h. omega arith;
    }

-- ---- the end

-- All rows of a scan were read of these bytes, up to these others.
pub record HasRows (tables : List Table) (wide every count : ℕ) (bytes rest : List ℕ) : Type 0 where
  pub rows : List Row
  pub are : AreRows tables count rows
  pub data_bytes : List ℕ
  pub parts : bytes ≡ data_bytes ++ rest
  pub coded : WritesGroups WritesRows (every / wide) 0 rows data_bytes

pub all-read : {tables : List Table} {wide every : ℕ} {bytes : List ℕ} {count : ℕ} {i : Intervals} (rest : List ℕ)
    → IsAfterRows tables wide every bytes count i → 1 ≤ count → Reads IsFilling (data_of i.bits) (data_at rest)
    → HasRows tables wide every count bytes rest
all-read {tables} {wide} {every} {bytes} {count} {i} rest a more f =
    let o = a.so_far in
    let whole = interval-written (WritesRows o.now) o.rest rest (data_of i.bits) o.run f in
    let l = rows-count tables o.size o.now o.now_are in
    let size : 1 ≤ o.size = a.some more in
    let some : 1 ≤ length o.now = omega (arith, l, size) in
    let few : every / wide ≢ 0 → length o.now ≤ every / wide = λ ne. (
    let no : every ≢ 0 = λ z. ne (ap (λ (k : ℕ). k / wide) z ∙ zero-div wide) in
    let all = o.left no in
    let r = whole-rows every wide o.whole in
    let bound : o.size * wide ≤ every / wide * wide = omega (arith, all, r) in
    let few = at-most-factor o.size (every / wide) wide o.not_empty bound in
    omega (arith, l, few)
    ) in
    subst (λ (n : ℕ). HasRows tables wide every n bytes rest) o.counted (record {
      rows = o.closed ++ o.now;
      are = rows-append tables o.before o.size o.closed o.now o.closed_are o.now_are;
      data_bytes = o.closes.front ++ whole.front;
      parts = o.closes.parts ∙ ap (λ (k : List ℕ). o.closes.front ++ k) whole.parts
          ∙ sym (append_assoc o.closes.front whole.front rest);
      coded = o.closes.goes_on o.now whole.front some
          (last-written WritesRows (every / wide) o.number o.now whole.front few whole.written);
    })
