-- Bits bring the blocks that can be read of them, and more bits go on from there.
use Rattle.std.proofs.Common.{rules, ◌≡◌, ℕ, zero, suc, ◌≤◌, Bool, List, [], ◌∷◌, ◌++◌, length, take, drop, arith, refl}
use Rattle.std.proofs.Common.{sym, ap, ◌∙◌, subst, Ok, Err, append_assoc, None, Some, slice_get}
use Rattle.jpeg_bits.specs.Reading.{End, Fault}
use Rattle.jpeg_bits.specs.Entropy.{Broken, Ending, Text}
use Rattle.jpeg_bits.specs.Passes.{Pass, Via}
use Rattle.jpeg_bits.specs.Readers.{ReadsJust, read_on, text}
use Rattle.jpeg_bits.proofs.TakenTexts.{IsStrict}
use Rattle.jpeg_bits.proofs.WrittenBits.{following-after}
use Rattle.jpeg_segments.proofs.Codecs.{err-ok}
use Rattle.jpeg_meaning.specs.Brought.{Through, reached_from}
use Rattle.jpeg_meaning.specs.InTurn.{Reached, turn_from, turns_from}
use Rattle.jpeg_meaning.specs.Order.{Spot}
use Rattle.jpeg_meaning.specs.Scans.{via_at}
use Rattle.jpeg_meaning.proofs.Partial.ReachedIntervals.{after_turn}
use Rattle.jpeg_meaning.specs.LongerStreams.{GoesOn}
use Rattle.jpeg_meaning.proofs.Longer.FrontReaders.{FaultIn, Front, TakesFront, bind-front, block-front, fault-read}
use Rattle.jpeg_meaning.proofs.Longer.FrontReaders.{gives-front, own-read, strict-fault}
use Rattle.jpeg_meaning.proofs.Longer.FrontReaders.Front.{gave, failed}

-- the tables of a component have 16 counts, and those of all
abbrev pub HasSized : Via → Type 0
HasSized v = (length v.dc.counts ≡ 16) × (length v.ac.counts ≡ 16)

abbrev pub AreSized : List Via → Type 0
AreSized vias = (slot : ℕ) → HasSized (via_at vias slot)

pub turn-front : (p : Pass) (vias : List Via) (s : Spot) (old : Reached)
    → TakesFront (AreSized vias) (turn_from p vias s old)
unfolding turn_from
turn-front p vias s old =
    let dc : AreSized vias → length (via_at vias s.slot).dc.counts ≡ 16 = λ sized. (sized s.slot).0 in
    let ac : AreSized vias → length (via_at vias s.slot).ac.counts ≡ 16 = λ sized. (sized s.slot).1 in
    search (rules, bind-front, block-front, gives-front)

pub turns-front : (p : Pass) (vias : List Via) (spots : List Spot) (old : Reached)
    → TakesFront (AreSized vias) (turns_from p vias spots old)
unfolding turns_from
turns-front p vias [] old = gives-front _ old
turns-front p vias (s ∷ spots) old =
    bind-front _ _ (turns_from p vias spots) (turn-front p vias s old) (λ x. turns-front p vias spots x)

-- The first of these blocks, so many, can be read of the bits alone.
pub record CanRead (p : Pass) (vias : List Via) (spots : List Spot) (old : Reached) (bits : List Bool) (count : ℕ)
    : Type 0 where
  pub are_there : count ≤ length spots
  pub read : (following : List (List ℕ))
      → (after : Reached × Text)
      × (turns_from p vias (take count spots) old (text bits following (Broken End)) ≡ Ok after)

-- what is reached of an interval's blocks
abbrev pub After : Type 0
After = Through Reached (List Bool)

-- What is reached of these bits before this end, all blocks that can be read, that more bits go on from there, and the
-- first block that isn't read.
pub record Stops (p : Pass) (vias : List Via) (spots : List Spot) (old : Reached) (bits : List Bool) (e : Ending)
    : Type 0 where
  pub end : After
  pub whole : (ps : List (List ℕ)) → reached_from p vias spots old (text bits ps e) ≡ end
  pub goes : GoesOn p vias spots old bits end.reached
  pub can : CanRead p vias spots old bits (length goes.done)
  pub most : (count : ℕ) → CanRead p vias spots old bits count → count ≤ length goes.done
  pub unread : end.unread ≡ slice_get spots (length goes.done)

-- no block
none-can : (p : Pass) (vias : List Via) (spots : List Spot) (old : Reached) (bits : List Bool)
    → CanRead p vias spots old bits 0
unfolding turns_from
none-can p vias spots old bits =
    record { are_there = omega arith; read = λ ps. ((old, text bits ps (Broken End)), refl) }

-- where no block is read, all bits are left
none-goes : (p : Pass) (vias : List Via) (spots : List Spot) (old : Reached) (bits : List Bool)
    → GoesOn p vias spots old bits old
unfolding reached_from
none-goes p vias spots old bits = record {
  done = [];
  others = spots;
  taken = [];
  left = bits;
  spots_are = refl;
  bits_are = refl;
  brought = λ ps f. refl;
  longer = λ more ps f. refl;
}

none-stops : (p : Pass) (vias : List Via) (old : Reached) (bits : List Bool) (e : Ending) → Stops p vias [] old bits e
unfolding reached_from none-goes
none-stops p vias old bits e = record {
  end = record { reached = old; unread = None; rest = Ok bits };
  whole = λ ps. refl;
  goes = none-goes p vias [] old bits;
  can = none-can p vias [] old bits;
  most = λ count c. c.are_there;
  unread = refl;
}

-- no block is read where the first has a fault
failed-most : (p : Pass) (vias : List Via) (s : Spot) (spots : List Spot) (old : Reached) (bits : List Bool) (g : Fault)
    → ((ps : List (List ℕ)) → turn_from p vias s old (text bits ps (Broken End)) ≡ Err g)
    → (count : ℕ) → CanRead p vias (s ∷ spots) old bits count → count ≤ 0
unfolding turns_from
failed-most p vias s spots old bits g is zero c = omega arith
failed-most p vias s spots old bits g is (suc n) c =
    let r = c.read [] in
    absurd (err-ok g r.0 (sym (ap (read_on (turns_from p vias (take n spots))) (is [])) ∙ r.1))

failed-stops : (p : Pass) (vias : List Via) (s : Spot) (spots : List Spot) (old : Reached) (bits : List Bool)
    (e : Ending) (g : Fault) → IsStrict e → FaultIn (AreSized vias) (turn_from p vias s old) bits g
    → Stops p vias (s ∷ spots) old bits e
unfolding reached_from none-goes
failed-stops p vias s spots old bits e g strict is = record {
  end = record { reached = old; unread = Some s; rest = Err (strict-fault _ bits g e strict is).0 };
  whole = λ ps. ap (after_turn p vias s spots old) ((strict-fault _ bits g e strict is).1 ps);
  goes = none-goes p vias (s ∷ spots) old bits;
  can = none-can p vias (s ∷ spots) old bits;
  most = failed-most p vias s spots old bits g (λ ps. fault-read _ bits g ps is);
  unread = refl;
}

-- the next block of bits that begin with its own
next-turn : (p : Pass) (vias : List Via) (s : Spot) (spots : List Spot) (old x : Reached) (own rest bits : List Bool)
    (ps : List (List ℕ)) (e : Ending) → bits ≡ own ++ rest → ReadsJust (turn_from p vias s old) own x
    → reached_from p vias (s ∷ spots) old (text bits ps e)
    ≡ reached_from p vias spots x (text rest (drop (length own) ps) e)
unfolding reached_from
next-turn p vias s spots old x own rest bits ps e is r =
    ap (after_turn p vias s spots old) (own-read (turn_from p vias s old) own rest bits x ps e is r)

-- so many lists and these
abbrev padded : List Bool → List (List ℕ) → List (List ℕ)
padded [] ps = ps
padded (b ∷ bits) ps = [] ∷ padded bits ps

padded-drop : (bits : List Bool) (ps : List (List ℕ)) → drop (length bits) (padded bits ps) ≡ ps
padded-drop [] ps = refl
padded-drop (b ∷ bits) ps = padded-drop bits ps

-- the blocks after one that is read
next-turns : (p : Pass) (vias : List Via) (s : Spot) (spots : List Spot) (old x : Reached) (own left bits : List Bool)
    (ps : List (List ℕ)) → bits ≡ own ++ left → ReadsJust (turn_from p vias s old) own x
    → turns_from p vias (s ∷ spots) old (text bits ps (Broken End))
    ≡ turns_from p vias spots x (text left (drop (length own) ps) (Broken End))
unfolding turns_from
next-turns p vias s spots old x own left bits ps is r =
    ap (read_on (turns_from p vias spots)) (own-read (turn_from p vias s old) own left bits x ps (Broken End) is r)

next-can : (p : Pass) (vias : List Via) (s : Spot) (spots : List Spot) (old x : Reached) (own left bits : List Bool)
    (n : ℕ) → bits ≡ own ++ left → ReadsJust (turn_from p vias s old) own x → CanRead p vias spots x left n
    → CanRead p vias (s ∷ spots) old bits (suc n)
next-can p vias s spots old x own left bits n is r c = record {
  are_there = let e = c.are_there in omega arith;
  read = λ ps.
      let q = c.read (drop (length own) ps) in
      (q.0, next-turns p vias s (take n spots) old x own left bits ps is r ∙ q.1);
}

next-most : (p : Pass) (vias : List Via) (s : Spot) (spots : List Spot) (old x : Reached) (own left bits : List Bool)
    → bits ≡ own ++ left → ReadsJust (turn_from p vias s old) own x → (m : ℕ)
    → ((count : ℕ) → CanRead p vias spots x left count → count ≤ m)
    → (count : ℕ) → CanRead p vias (s ∷ spots) old bits count → count ≤ suc m
next-most p vias s spots old x own left bits is r m most zero c = omega arith
next-most p vias s spots old x own left bits is r m most (suc n) c =
    let w = c.are_there in
    let le = most n (record {
      are_there = omega arith;
      read = λ ps.
          let q = c.read (padded own ps) in (
            q.0,
            ap (λ (qs : List (List ℕ)). turns_from p vias (take n spots) x (text left qs (Broken End)))
                (sym (padded-drop own ps))
                ∙ sym (next-turns p vias s (take n spots) old x own left bits (padded own ps) is r) ∙ q.1,
          );
    }) in
    omega arith

next-stops : (p : Pass) (vias : List Via) (s : Spot) (spots : List Spot) (old x : Reached) (own left bits : List Bool)
    (e : Ending) → bits ≡ own ++ left → ReadsJust (turn_from p vias s old) own x → Stops p vias spots x left e
    → Stops p vias (s ∷ spots) old bits e
next-stops p vias s spots old x own left bits e is r rest =
    let g = rest.goes in
    record {
      end = rest.end;
      whole = λ ps. next-turn p vias s spots old x own left bits ps e is r ∙ rest.whole (drop (length own) ps);
      goes = record {
        done = s ∷ g.done;
        others = g.others;
        taken = own ++ g.taken;
        left = g.left;
        spots_are = ap (λ (l : List Spot). s ∷ l) g.spots_are;
        bits_are = is ∙ ap (λ (b : List Bool). own ++ b) g.bits_are ∙ sym (append_assoc own g.taken g.left);
        brought = λ ps f. next-turn p vias s g.done old x own left bits ps f is r
            ∙ g.brought (drop (length own) ps) f;
        longer = λ more ps f. next-turn p vias s spots old x own (left ++ more) (bits ++ more) ps f
            (ap (λ (b : List Bool). b ++ more) is ∙ append_assoc own left more) r
            ∙ g.longer more (drop (length own) ps) f
            ∙ ap (λ (qs : List (List ℕ)). reached_from p vias g.others rest.end.reached (text (g.left ++ more) qs f))
            (following-after own g.taken ps);
      };
      can = next-can p vias s spots old x own left bits (length g.done) is r rest.can;
      most = next-most p vias s spots old x own left bits is r (length g.done) rest.most;
      unread = rest.unread;
    }

pub stops : (p : Pass) (vias : List Via) (spots : List Spot) (old : Reached) (bits : List Bool) (e : Ending)
    → IsStrict e → Stops p vias spots old bits e
unfolding TakesFront
stops p vias [] old bits e strict = none-stops p vias old bits e
stops p vias (s ∷ spots) old bits e strict =
    go (turn-front p vias s old bits) (λ x left. stops p vias spots x left e strict)
  where
    go : Front (AreSized vias) (turn_from p vias s old) bits
        → ((x : Reached) (left : List Bool) → Stops p vias spots x left e) → Stops p vias (s ∷ spots) old bits e
    go (failed g is) others = failed-stops p vias s spots old bits e g strict is
    go (gave own left x are r) others = next-stops p vias s spots old x own left bits e are r (others x left)

-- Bits bring blocks, and more bits go on from there.
pub longer_bits_go_on : (p : Pass) (vias : List Via) (spots : List Spot) (old : Reached) (bits : List Bool)
    → GoesOn p vias spots old bits (reached_from p vias spots old (text bits [] (Broken End))).reached
longer_bits_go_on p vias spots old bits =
    let s = stops p vias spots old bits (Broken End) tt in
    subst (λ (x : After). GoesOn p vias spots old bits x.reached) (sym (s.whole [])) s.goes
