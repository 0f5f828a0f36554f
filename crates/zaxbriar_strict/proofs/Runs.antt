-- Blocks of a scan that are read one after the other, MCU by MCU and interval by interval.
use Rattle.std.proofs.Common.{◌≡◌, ◌≢◌, ℕ, suc, ◌+◌, ◌-◌, ◌*◌, ◌%◌, ◌≤◌, Bool, true, false, List, [], ◌∷◌, ◌++◌, length, get_or}
use Rattle.std.proofs.Common.{map, set, refl, sym, ap, ap₂, ◌∙◌, subst, arith, ℤ, pos, append_assoc, length-append, append-nil}
use Rattle.std.proofs.lemmas.Bool.{false≢true}
use Rattle.std.proofs.lemmas.List.{length-map, map-append}
use Rattle.std.proofs.Math.Nat.{mul-le-mul_right, one-le-mul, zero-mul}
use Rattle.jpeg_bits.specs.Passes.{Block, Pass, Via, listed, predictors_at_start, whole_pass}
use Rattle.jpeg_meaning.specs.Levels.{Is8Bit}
use Rattle.zaxbriar_strict.specs.Blocks.{ReadsBlock, WritesTurns}
use Rattle.zaxbriar_strict.specs.Changes.{Change, IsMadeChange, Kept, Place, kept_in, sent_by}
use Rattle.zaxbriar_strict.specs.Data.{Data, IsFilling, Reads, data_at}
use Rattle.zaxbriar_strict.specs.Loaded.{data_of}
use Rattle.zaxbriar_strict.specs.Markers.{Restarts}
use Rattle.zaxbriar_strict.specs.Runs.{AreChanged, AreGood, Closes, IsAfter, IsBefore, ReadsRun, WritesGroups, WritesPassBlocks, at_start}
use Rattle.zaxbriar_strict.specs.Runs.{repeated, run_in, turns_by}
use Rattle.zaxbriar_strict.specs.ScanData.{AreGroups}
use Rattle.zaxbriar_strict.specs.Sent.{AllInner}
use Rattle.zaxbriar_strict.specs.SentBlocks.{ReadsSent}
use Rattle.zaxbriar_strict.specs.declared.frame.Component.{Component}
use Rattle.zaxbriar_strict.specs.declared.intervals.Intervals.{Intervals}
use Rattle.zaxbriar_strict.specs.declared.transform.Past.{Past}
use Rattle.zaxbriar_strict.proofs.Changes.{changed-none, changed-then, good-first, good-second, made-one, turns-append}
use Rattle.zaxbriar_strict.proofs.Groups.{closes-more, closes-none, last-written}
use Rattle.zaxbriar_strict.proofs.Numbers.{numbers-same}
use Rattle.zaxbriar_strict.proofs.Taken.{takes-none, takes-then}
use Rattle.zaxbriar_strict.proofs.Turns.{blocks-written, turn-one, turns-none, turns-then}
use Rattle.zaxbriar_strict.proofs.Units.{length-repeated, repeated-append, repeated-one, units-length}
use Rattle.zaxbriar_strict.proofs.Units.{zip-length}

abbrev places_in : List Change → List Place
places_in cs = map (λ (c : Change). c.place) cs

-- ---- runs

pub run-none : (k : Bool) (p : Pass) (b : Past) (a : Kept) (d : Data) → ReadsRun k p [] [] b b a a d d
run-none k p b a d = record {
  changes = [];
  counted = refl;
  placed = refl;
  changed = changed-none k p a;
  read = λ g. record { own = []; taken = takes-none d; holds = turns-none p b.dc (run_in k b) };
}

-- a block of a sequential frame
pub run-one : (p : Pass) (via : Via) (q : Place) (before after : Past) (next : ℤ) (f g : Kept) {old new : Data}
    → p ≡ whole_pass → ReadsBlock false via.dc via.ac (get_or before.dc via.component (pos 0)) next old new
    → after.dc ≡ set before.dc via.component next
    → ReadsRun false p (via ∷ []) (q ∷ []) before after f g old new
run-one p via q before after next f g {old} {new} whole b e =
    let c : Change = record { place = q; old = []; new = listed b.block } in
    subst (λ (p : Pass). ReadsRun false p (via ∷ []) (q ∷ []) before after f g old new) (sym whole) (record {
      changes = c ∷ [];
      counted = refl;
      placed = refl;
      changed = record {
        made = λ e. absurd (false≢true e);
        next = λ e. absurd (false≢true e);
        inner = λ e. absurd (false≢true e);
        in_range = λ e. (subst (λ (u : Block). Is8Bit u) (sym (numbers-same b.block)) (b.in_range refl), tt);
      };
      read = λ good. record {
        own = b.read.own;
        taken = b.read.taken;
        holds = subst (λ (u : Block). WritesTurns whole_pass before.dc 0 after.dc 0 ((via, u) ∷ []) b.read.own)
            (sym (numbers-same b.block))
            (subst (λ (l : List ℤ). WritesTurns whole_pass before.dc 0 l 0 ((via, b.block) ∷ []) b.read.own)
            (sym (e ∙ ap (λ (z : ℤ). set before.dc via.component z) b.next))
            (turn-one via.component via.dc via.ac b.block before.dc b.read.own b.read.holds));
      };
    })

-- a block of a progressive frame
pub run-sent : (p : Pass) (via : Via) (q : Place) (before after : Past) (f g : Kept) (was is : List ℤ) {old new : Data}
    → IsMadeChange (record { place = q; old = was; new = is }) f g
    → (g.is_wide ≡ false → (f.is_wide ≡ false) × AllInner is) → ReadsSent p via before after was is old new
    → ReadsRun true p (via ∷ []) (q ∷ []) before after f g old new
unfolding AreGood
run-sent p via q before after f g was is m n s = record {
  changes = record { place = q; old = was; new = is } ∷ [];
  counted = refl;
  placed = refl;
  changed = record {
    made = λ e. made-one (record { place = q; old = was; new = is }) f g m;
    next = λ e good. (s.next q good.0, tt);
    inner = λ e w. (let h = n w in (h.0, (h.1, tt)));
    in_range = λ e. absurd (false≢true (sym e));
  };
  read = λ good. s.read q good.0;
}

pub run-then : {k : Bool} {p : Pass} {u v : List Via} {s t : List Place} {x y z : Past} {f g h : Kept} {a b c : Data}
    → ReadsRun k p u s x y f g a b → ReadsRun k p v t y z g h b c → ReadsRun k p (u ++ v) (s ++ t) x z f h a c
run-then {k} {p} {u} {v} {s} {t} {x} {y} {z} m n = record {
  changes = m.changes ++ n.changes;
  counted = length-append m.changes n.changes ∙ ap₂ (λ (i j : ℕ). i + j) m.counted n.counted ∙ sym (length-append u v);
  placed = map-append (λ (c : Change). c.place) m.changes n.changes
      ∙ ap₂ (λ (i j : List Place). i ++ j) m.placed n.placed;
  changed = changed-then m.changes n.changes m.changed n.changed;
  read = λ good.
      let r = m.read (good-first k p m.changes n.changes good) in
      let q = n.read (good-second k p m.changes n.changes good) in
      record {
        own = r.own ++ q.own;
        taken = takes-then r.taken q.taken;
        holds = subst (λ (l : List (Via × Block)). WritesTurns p x.dc (run_in k x) z.dc (run_in k z) l (r.own ++ q.own))
            (sym (turns-append p u v m.changes n.changes m.counted))
            (turns-then (turns_by p u m.changes) (turns_by p v n.changes) r.own q.own r.holds q.holds);
      };
}

-- the same by other words
pub run-as : {k : Bool} {p : Pass} {u v : List Via} {s t : List Place} {x y : Past} {f g : Kept} {a b : Data} → u ≡ v
    → s ≡ t → ReadsRun k p u s x y f g a b → ReadsRun k p v t x y f g a b
run-as {k} {p} {u} {v} {s} {t} {x} {y} {f} {g} {a} {b} e h r =
    subst (λ (l : List Via). ReadsRun k p l t x y f g a b) e
    (subst (λ (l : List Place). ReadsRun k p u l x y f g a b) h r)

pub run-from : {k : Bool} {p : Pass} {u : List Via} {s : List Place} {x y : Past} {f : Kept} {a b : Data}
    {cs ds : List Component} → cs ≡ ds → ReadsRun k p u s x y f (kept_in cs) a b
    → ReadsRun k p u s x y f (kept_in ds) a b
run-from {k} {p} {u} {s} {x} {y} {f} {a} {b} e r =
    subst (λ (l : List Component). ReadsRun k p u s x y f (kept_in l) a b) e r

-- nothing was read since the data of an interval began
run-begun : (k : Bool) (p : Pass) (unit : List Via) (bytes : List ℕ) (b : Past) (a : Kept) (d : Data) → b ≡ at_start
    → d ≡ data_at bytes → ReadsRun k p (repeated 0 unit) [] at_start b a a (data_at bytes) d
unfolding repeated
run-begun k p unit bytes b a d e f =
    subst (λ (x : Data). ReadsRun k p [] [] at_start b a a (data_at bytes) x) (sym f)
    (subst (λ (l : Past). ReadsRun k p [] [] at_start l a a (data_at bytes) (data_at bytes)) (sym e)
    (run-none k p at_start a (data_at bytes)))

-- ---- intervals

pub begun : (k : Bool) (p : Pass) (unit : List Via) (every : ℕ) (bytes : List ℕ) (a : Kept) (i : Intervals) (b : Past)
    → 1 ≤ length unit → data_of i.bits ≡ data_at bytes → i.every ≡ every → i.left ≡ every → i.next ≡ 0
    → b ≡ at_start → IsAfter k p unit every bytes 0 [] a a i b
unfolding repeated
begun k p unit every bytes a i b some d e l n q = record {
  so_far = record {
    not_empty = some;
    every_is = e;
    before = 0;
    closed = [];
    sized = refl;
    middle = a;
    changed = changed-none k p a;
    number = 0;
    numbered = ap (λ (k : ℕ). k % 8) n;
    rest = bytes;
    closes = λ g. closes-none (WritesPassBlocks p) (every * length unit) bytes;
    size = 0;
    own = [];
    run = run-begun k p unit bytes b a (data_of i.bits) q d;
    placed = refl;
    counted = refl;
    left = λ ne. omega (arith, l);
  };
  some = λ h. absurd (omega (arith, h));
}

turns-sized : (p : Pass) (n every : ℕ) (unit : List Via) (cs : List Change) → n ≡ every
    → length cs ≡ length (repeated n unit) → length (turns_by p (repeated n unit) cs) ≡ every * length unit
turns-sized p n every unit cs e counted =
    zip-length (repeated n unit) (map (sent_by p) cs) (length-map cs (sent_by p) ∙ counted)
    ∙ length-repeated n unit ∙ ap (λ (k : ℕ). k * length unit) e

turns-joined : (p : Pass) (m n : ℕ) (unit : List Via) (xs ys : List Change) → length xs ≡ length (repeated m unit)
    → turns_by p (repeated (m + n) unit) (xs ++ ys) ≡ turns_by p (repeated m unit) xs ++ turns_by p (repeated n unit) ys
turns-joined p m n unit xs ys e =
    ap (λ (l : List Via). turns_by p l (xs ++ ys)) (repeated-append m n unit)
    ∙ turns-append p (repeated m unit) (repeated n unit) xs ys e

-- no end of a band goes on at the end of an interval
ended : (p : Pass) (k : Bool) (b : Past) (turns : List (Via × Block)) (old new : Data) → run_in k b ≡ 0
    → Reads (WritesTurns p predictors_at_start (run_in k at_start) b.dc (run_in k b) turns) old new
    → Reads (WritesTurns p predictors_at_start 0 b.dc 0 turns) old new
ended p false b turns old new e r = r
ended p true b turns old new e r =
    subst (λ (n : ℕ). Reads (WritesTurns p predictors_at_start 0 b.dc n turns) old new) e r

pub restarted : {k : Bool} {p : Pass} {unit : List Via} {every : ℕ} {bytes : List ℕ} {count : ℕ} {places : List Place}
    {f g : Kept} (i j : Intervals) (b q : Past)
    → IsAfter k p unit every bytes count places f g i b → i.every ≢ 0 → i.left ≡ 0 → run_in k b ≡ 0
    → Restarts i.next (data_of i.bits) (data_of j.bits) → j.every ≡ i.every → j.left ≡ i.every
    → j.next ≡ (i.next % 8 + 1) % 8 → q ≡ at_start → IsBefore k p unit every bytes count places f g j q
restarted {k} {p} {unit} {every} {bytes} {count} {places} {f} {g} i j b q a over none whole r e l n d =
    let o = a.so_far in
    let run = o.run in
    let changes = run.changes in
    let one = turns_by p (repeated o.size unit) changes in
    let every_is = o.every_is in
    let ne : every ≢ 0 = λ z. over (every_is ∙ z) in
    let left : i.left + o.size ≡ every = o.left ne in
    let full : o.size ≡ every = omega (arith, left, none) in
    let size : length one ≡ every * length unit = turns-sized p o.size every unit changes full run.counted in
    let some : 1 ≤ every = omega (arith, ne) in
    let product = one-le-mul some o.not_empty in
    let more : every * length unit ≢ 0 = λ z. omega (arith, product, z) in
    let numbered = o.numbered in
    let before = o.counted in
    record {
      so_far = record {
        not_empty = o.not_empty;
        every_is = e ∙ every_is;
        before = o.before + o.size;
        closed = o.closed ++ changes;
        sized = units-length o.before o.size unit o.closed changes o.sized run.counted;
        middle = g;
        changed = changed-then o.closed changes o.changed run.changed;
        number = suc o.number;
        numbered = omega (arith, n, numbered);
        rest = r.after;
        closes = λ good.
            let c = o.closes (good-first k p o.closed changes good) in
            let w = blocks-written p b.dc one o.rest r.between (data_of i.bits)
            (ended p k b one (data_at o.rest) (data_of i.bits) whole
            (run.read (good-second k p o.closed changes good))) r.filled in
            subst (λ (t : List (Via × Block)). Closes (WritesPassBlocks p) (every * length unit) t (suc o.number) bytes r.after)
            (sym (turns-joined p o.before o.size unit o.closed changes o.sized))
            (closes-more (WritesPassBlocks p) (every * length unit) o.number i.next (turns_by p (repeated o.before unit) o.closed) one bytes
            o.rest r.between r.after more size numbered c w r.marked);
        size = 0;
        own = [];
        run = run-begun k p unit r.after q g (data_of j.bits) d r.begins;
        placed = append-nil (places_in (o.closed ++ changes))
            ∙ map-append (λ (c : Change). c.place) o.closed changes
            ∙ ap (λ (l : List Place). places_in o.closed ++ l) run.placed ∙ o.placed;
        counted = omega (arith, before);
        left = λ some. omega (arith, l, every_is);
      };
      room = λ some. omega (arith, l, every_is, ne);
    }

-- one more MCU of the interval
pub one-more : {k : Bool} {p : Pass} {unit : List Via} {every : ℕ} {bytes : List ℕ} {count : ℕ}
    {places more : List Place} {f g h : Kept} (i j : Intervals) (b q : Past)
    → IsBefore k p unit every bytes count places f g i b → j.every ≡ i.every → j.left ≡ i.left - 1 → j.next ≡ i.next
    → ReadsRun k p unit more b q g h (data_of i.bits) (data_of j.bits)
    → IsAfter k p unit every bytes (count + 1) (places ++ more) f h j q
one-more {k} {p} {unit} {every} {bytes} {count} {places} {more} {f} {g} {h} i j b q x e l n r =
    let o = x.so_far in
    let counted = o.counted in
    record {
      so_far = record {
        not_empty = o.not_empty;
        every_is = e ∙ o.every_is;
        before = o.before;
        closed = o.closed;
        sized = o.sized;
        middle = o.middle;
        changed = o.changed;
        number = o.number;
        numbered = ap (λ (k : ℕ). k % 8) n ∙ o.numbered;
        rest = o.rest;
        closes = o.closes;
        size = o.size + 1;
        own = o.own ++ more;
        run = subst (λ (w : List Via). ReadsRun k p w (o.own ++ more) at_start q o.middle h (data_at o.rest)
            (data_of j.bits))
            (sym (repeated-append o.size 1 unit
            ∙ ap (λ (w : List Via). repeated o.size unit ++ w) (repeated-one unit)))
            (run-then o.run r);
        placed = sym (append_assoc (places_in o.closed) o.own more) ∙ ap (λ (l : List Place). l ++ more) o.placed;
        counted = omega (arith, counted);
        left = λ some. (
            let room = x.room some in
            let all = o.left some in
            omega (arith, l, room, all)
            );
      };
      some = λ h. omega arith;
    }

-- ---- the end

-- All MCUs of a scan were read of these bytes, up to these others.
pub record IsRead (k : Bool) (p : Pass) (unit : List Via) (every count : ℕ) (places : List Place) (from to : Kept)
    (bytes rest : List ℕ) : Type 0 where
  pub changes : List Change
  pub counted : length changes ≡ length (repeated count unit)
  pub placed : places_in changes ≡ places
  pub changed : AreChanged k p changes from to
  pub coded : AreGood k p changes
      → AreGroups p (every * length unit) (turns_by p (repeated count unit) changes) bytes rest

pub all-read : {k : Bool} {p : Pass} {unit : List Via} {every : ℕ} {bytes : List ℕ} {count : ℕ} {places : List Place}
    {f g : Kept} {i : Intervals} {b : Past} (rest : List ℕ)
    → IsAfter k p unit every bytes count places f g i b → 1 ≤ count → run_in k b ≡ 0
    → Reads IsFilling (data_of i.bits) (data_at rest) → IsRead k p unit every count places f g bytes rest
all-read {k} {p} {unit} {every} {bytes} {count} {places} {f} {g} {i} {b} rest a more none filled =
    let o = a.so_far in
    let run = o.run in
    let changes = run.changes in
    let one = turns_by p (repeated o.size unit) changes in
    let l = turns-sized p o.size o.size unit changes refl run.counted in
    let size : 1 ≤ o.size = a.some more in
    let product = one-le-mul size o.not_empty in
    let some : 1 ≤ length one = omega (arith, l, product) in
    let few : every * length unit ≢ 0 → length one ≤ every * length unit = λ ne. (
    let no : every ≢ 0 = λ z. ne (ap (λ (k : ℕ). k * length unit) z ∙ zero-mul (length unit)) in
    let all = o.left no in
    let most : o.size ≤ every = omega (arith, all) in
    let bound = mul-le-mul_right (length unit) most in
    omega (arith, l, bound)
    ) in
    subst (λ (n : ℕ). IsRead k p unit every n places f g bytes rest) o.counted (record {
      changes = o.closed ++ changes;
      counted = units-length o.before o.size unit o.closed changes o.sized run.counted;
      placed = map-append (λ (c : Change). c.place) o.closed changes
          ∙ ap (λ (l : List Place). places_in o.closed ++ l) run.placed ∙ o.placed;
      changed = changed-then o.closed changes o.changed run.changed;
      coded = λ good.
          let c = o.closes (good-first k p o.closed changes good) in
          let w = blocks-written p b.dc one o.rest rest (data_of i.bits)
          (ended p k b one (data_at o.rest) (data_of i.bits) none
          (run.read (good-second k p o.closed changes good))) filled in
          record {
            data_bytes = c.front ++ w.front;
            parts = c.parts ∙ ap (λ (k : List ℕ). c.front ++ k) w.parts ∙ sym (append_assoc c.front w.front rest);
            coded = subst (λ (t : List (Via × Block)). WritesGroups (WritesPassBlocks p) (every * length unit) 0 t (c.front ++ w.front))
                (sym (turns-joined p o.before o.size unit o.closed changes o.sized))
                (c.goes_on one w.front some (last-written (WritesPassBlocks p) (every * length unit) o.number one w.front few w.written));
          };
    })
