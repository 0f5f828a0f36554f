-- Blocks of a frame that a scan changes, one after the other.
use Rattle.std.proofs.Common.{◌≡◌, Bool, true, false, List, [], ◌∷◌, ◌++◌, length, map, refl, sym, ap}
use Rattle.std.proofs.Common.{◌∙◌, inl, inr}
use Rattle.std.proofs.lemmas.List.{length-map, map-append}
use Rattle.std.specs.List.{AllByRecursion}
use Rattle.std.specs.Prelude.{zip}
use Rattle.jpeg_bits.proofs.ReadIntervals.{all-append}
use Rattle.jpeg_bits.specs.Passes.{Block, Pass, Via}
use Rattle.jpeg_meaning.specs.InTurn.{AreApart, IsIn}
use Rattle.jpeg_meaning.specs.Levels.{Is8Bit}
use Rattle.zaxbriar_strict.specs.Changes.{AreMade, Change, IsGood, IsMadeChange, IsNext, Kept, Place, sent_by}
use Rattle.zaxbriar_strict.specs.Runs.{AreChanged, AreGood, turns_by}
use Rattle.zaxbriar_strict.specs.Sent.{AllInner}
use Rattle.zaxbriar_strict.proofs.Units.{zip-append}

-- ---- one after the other

made-none : (k : Kept) → AreMade [] k k
unfolding AreMade
made-none k q = refl

-- what was kept before is told by its blocks
made-from : (cs : List Change) (a b c : Kept) → ((q : Place) → b.block q ≡ a.block q) → AreMade cs b c → AreMade cs a c
unfolding AreMade
made-from [] a b c same m = λ q. m q ∙ same q
made-from (x ∷ cs) a b c same m = (
  m.0,
  (
    record {
      was = sym (same x.place) ∙ m.1.0.was;
      is = m.1.0.is;
      others = λ q ne. m.1.0.others q ne ∙ same q;
    },
    m.1.1,
  ),
)

made-then : (xs ys : List Change) (a b c : Kept) → AreMade xs a b → AreMade ys b c → AreMade (xs ++ ys) a c
unfolding AreMade
made-then [] ys a b c f g = made-from ys a b c f g
made-then (x ∷ xs) ys a b c f g = (f.0, (f.1.0, made-then xs ys f.0 b c f.1.1 g))

pub made-one : (x : Change) (a b : Kept) → IsMadeChange x a b → AreMade (x ∷ []) a b
unfolding AreMade
made-one x a b m = (b, (m, λ q. refl))

-- ---- what is asked of them

pub all-first : {A : Type 0} (P : A → Type 0) (xs ys : List A) → AllByRecursion P (xs ++ ys) → AllByRecursion P xs
all-first P [] ys all = tt
all-first P (x ∷ xs) ys all = (all.0, all-first P xs ys all.1)

pub all-second : {A : Type 0} (P : A → Type 0) (xs ys : List A) → AllByRecursion P (xs ++ ys) → AllByRecursion P ys
all-second P [] ys all = all
all-second P (x ∷ xs) ys all = all-second P xs ys all.1

pub good-first : (k : Bool) (p : Pass) (xs ys : List Change) → AreGood k p (xs ++ ys) → AreGood k p xs
unfolding AreGood
good-first false p xs ys g = tt
good-first true p xs ys g = all-first (IsGood p) xs ys g

pub good-second : (k : Bool) (p : Pass) (xs ys : List Change) → AreGood k p (xs ++ ys) → AreGood k p ys
unfolding AreGood
good-second false p xs ys g = tt
good-second true p xs ys g = all-second (IsGood p) xs ys g

pub good-none : (p : Pass) (cs : List Change) → AreGood false p cs
unfolding AreGood
good-none p cs = tt

pub changed-none : (k : Bool) (p : Pass) (a : Kept) → AreChanged k p [] a a
changed-none k p a = record {
  made = λ e. made-none a;
  next = λ e g. tt;
  inner = λ e n. (n, tt);
  in_range = λ e. tt;
}

pub changed-then : {k : Bool} {p : Pass} {a b c : Kept} (xs ys : List Change) → AreChanged k p xs a b
    → AreChanged k p ys b c → AreChanged k p (xs ++ ys) a c
changed-then {k} {p} {a} {b} {c} xs ys f g = record {
  made = λ e. made-then xs ys a b c (f.made e) (g.made e);
  next = λ e good. all-append (IsNext p) xs ys (f.next e (good-first k p xs ys good))
      (g.next e (good-second k p xs ys good));
  inner = λ e n.
      let later = g.inner e n in
      let first = f.inner e later.0 in
      (first.0, all-append (λ (x : Change). AllInner x.new) xs ys first.1 later.1);
  in_range = λ e. all-append (λ (x : Change). Is8Bit (sent_by p x)) xs ys (f.in_range e) (g.in_range e);
}

-- ---- their turns

pub turns-append : (p : Pass) (u v : List Via) (xs ys : List Change) → length xs ≡ length u
    → turns_by p (u ++ v) (xs ++ ys) ≡ turns_by p u xs ++ turns_by p v ys
turns-append p u v xs ys e =
    ap (λ (l : List Block). zip (u ++ v) l) (map-append (sent_by p) xs ys)
    ∙ zip-append u v (map (sent_by p) xs) (map (sent_by p) ys) (length-map xs (sent_by p) ∙ e)

-- ---- what was before and is after them, where their places are apart

pub record IsChange (before after : Kept) (c : Change) : Type 0 where
  pub was : before.block c.place ≡ c.old
  pub is : after.block c.place ≡ c.new

pub record AreChanges (cs : List Change) (before after : Kept) : Type 0 where
  pub each : AllByRecursion (IsChange before after) cs
  pub others : (q : Place) → (IsIn q (map (λ (c : Change). c.place) cs) → ⊥) → after.block q ≡ before.block q

earlier : (c : Change) (before between after : Kept) → IsMadeChange c before between → (xs : List Change)
    → (IsIn c.place (map (λ (x : Change). x.place) xs) → ⊥) → AllByRecursion (IsChange between after) xs
    → AllByRecursion (IsChange before after) xs
earlier c before between after one [] out all = tt
earlier c before between after one (x ∷ xs) out all = (
  record { was = sym (one.others x.place (λ e. out (inl e))) ∙ all.0.was; is = all.0.is },
  earlier c before between after one xs (λ h. out (inr h)) all.1,
)

pub changes-are : (cs : List Change) (before after : Kept) → AreMade cs before after
    → AreApart (map (λ (c : Change). c.place) cs) → AreChanges cs before after
unfolding AreMade
changes-are [] before after made apart = record { each = tt; others = λ q out. made q }
changes-are (c ∷ cs) before after made apart =
    let between = made.0 in
    let one = made.1.0 in
    let rest = changes-are cs between after made.1.1 apart.1 in
    record {
      each = (
        record { was = one.was; is = rest.others c.place apart.0 ∙ one.is },
        earlier c before between after one cs apart.0 rest.each,
      );
      others = λ q out. rest.others q (λ h. out (inr h)) ∙ one.others q (λ e. out (inl (sym e)));
    }
