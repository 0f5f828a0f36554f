-- What the data of an interval bring, longer data bring too.
use Rattle.std.proofs.Common.{◌≡◌, ◌⊎◌, inl, inr, ℕ, zero, suc, ◌+◌, ◌*◌, ◌-◌, ◌/◌, ◌<◌, ◌≤◌, Bool, true, false, cond}
use Rattle.std.proofs.Common.{List, [], ◌∷◌, ◌++◌, length, drop, refl, sym, ap, ap₂, ◌∙◌, subst, Ok, Err, Result}
use Rattle.std.proofs.Common.{Option, Some, None, append_assoc, append-nil, length-append, arith, eqb, ℤ, pos, get_or}
use Rattle.std.proofs.Common.{set, slice_get}
use Rattle.std.proofs.lemmas.Bool.{cases_lt, lt-leb}
use Rattle.jpeg_bits.specs.Reading.{End, Fault, Malformed, Outcome}
use Rattle.jpeg_bits.specs.Entropy as entropy
use Rattle.jpeg_bits.specs.Entropy.{Broken, Ending, Found, Text, add_byte, bits_of, closed, ended_by, ending_at}
use Rattle.jpeg_bits.specs.Entropy.{no_bits, text_at}
use Rattle.jpeg_bits.specs.Intervals.{after_bytes, end_after, met}
use Rattle.jpeg_bits.specs.Marker.{marker_of}
use Rattle.jpeg_bits.specs.Passes.{Block, Pass, Via, block_from}
use Rattle.jpeg_bits.specs.Readers.{Reads, ReadsJust, read_on, text}
use Rattle.jpeg_bits.specs.declared.beyond.Beyond.TheVariants.{Nothing}
use Rattle.jpeg_bits.specs.declared.marker.Marker.{Marker}
use Rattle.jpeg_bits.proofs.EndLemmas.{end-met}
use Rattle.jpeg_bits.proofs.TakenTexts.{stopping-strict}
use Rattle.jpeg_segments.proofs.Codecs.{err-ok, ok-same}
use Rattle.jpeg_lossless.proofs.ReachedRows.{IsReached}
use Rattle.jpeg_meaning.specs.Brought.{Through, interval_reached, reached_from, stopped, stopping}
use Rattle.jpeg_meaning.specs.InTurn.{Reached, at_start, turn_from, turns_from}
use Rattle.jpeg_meaning.specs.Order.{Spot}
use Rattle.jpeg_meaning.specs.Scans.{Arrays, block_at, put_block, via_at}
use Rattle.jpeg_meaning.specs.LongerStreams.{Puts, PutsFirst, ReadsOn}
use Rattle.jpeg_meaning.specs.LongerStreams.Puts.{finished, put}
use Rattle.jpeg_meaning.proofs.Partial.ReachedIntervals.{after_turn, blocks-same}
use Rattle.jpeg_meaning.proofs.Longer.FrontReaders.{Front, TakesFront, broken, lack_at, own-read, strict-fault}
use Rattle.jpeg_meaning.proofs.Longer.FrontReaders.FaultIn.{rule, short}
use Rattle.jpeg_meaning.proofs.Longer.FrontReaders.Front.{gave, failed}
use Rattle.jpeg_meaning.proofs.Longer.LongerBits.{After, AreSized, CanRead, Stops, stops, turns-front}
use Rattle.jpeg_meaning.proofs.Longer.LongerSegments.{Stays, stays-read}
use Rattle.jpeg_meaning.proofs.Longer.LongerSegments.Stays.{stays-end, stays-err, stays-ok}

-- ---- blocks that are put

pub puts-both : (xs ys : List Spot) (a b c : Arrays) → Puts xs a b → Puts ys b c → Puts (xs ++ ys) a c
puts-both xs ys a b c (finished arrays) q = q
puts-both xs ys a b c (put s spots block before after p) q =
    put s (spots ++ ys) block a c (puts-both spots ys (put_block s block a) b c p q)

pub puts-then : (xs ys : List Spot) (a b c : Arrays) → Puts xs a b → PutsFirst ys b c → PutsFirst (xs ++ ys) a c
puts-then xs ys a b c p f = record {
  done = xs ++ f.done;
  others = f.others;
  parts = ap (λ (l : List Spot). xs ++ l) f.parts ∙ sym (append_assoc xs f.done f.others);
  puts = puts-both xs f.done a b c p f.puts;
}

pub puts-of-more : (xs ys : List Spot) (a b : Arrays) → PutsFirst xs a b → PutsFirst (xs ++ ys) a b
puts-of-more xs ys a b f = record {
  done = f.done;
  others = f.others ++ ys;
  parts = ap (λ (l : List Spot). l ++ ys) f.parts ∙ append_assoc f.done f.others ys;
  puts = f.puts;
}

-- what is put of the blocks of an interval, and that all are where it has no fault
pub record Reaches (spots : List Spot) (before : Arrays) (o : After) : Type 0 where
  pub first : PutsFirst spots before o.reached.arrays
  pub all : (left : List Bool) → o.rest ≡ Ok left → Puts spots before o.reached.arrays

turn-puts : (p : Pass) (vias : List Via) (s : Spot) (old : Reached) (t : Text) (r : Reached × Text)
    → turn_from p vias s old t ≡ Ok r → (b : Block) × (r.0.arrays ≡ put_block s b old.arrays)
unfolding turn_from
turn-puts p vias s old t r e = go
    (block_from p (via_at vias s.slot).dc (via_at vias s.slot).ac
    (get_or old.predictors (via_at vias s.slot).component (pos 0)) old.run (block_at old.arrays s) t) e
  where
    go : (o : Result ((Block × ℤ × ℕ) × Text) Fault)
        → read_on (λ (q : Block × ℤ × ℕ) (u : Text). Ok (
          record {
            arrays = put_block s q.0 old.arrays;
            predictors = set old.predictors (via_at vias s.slot).component q.1;
            run = q.2;
          },
          u,
        )) o ≡ Ok r → (b : Block) × (r.0.arrays ≡ put_block s b old.arrays)
    go (Ok q) e = (q.0.0, sym (ap (λ (x : Reached × Text). x.0.arrays) (ok-same _ r e)))
    go (Err g) e = absurd (err-ok g r e)

pub reaches : (p : Pass) (vias : List Via) (spots : List Spot) (old : Reached) (t : Text)
    → Reaches spots old.arrays (reached_from p vias spots old t)
unfolding reached_from
reaches p vias [] old t = record {
  first = record { done = []; others = []; parts = refl; puts = finished old.arrays };
  all = λ left e. finished old.arrays;
}
reaches p vias (s ∷ spots) old t =
    go (turn_from p vias s old t) refl (λ x u. reaches p vias spots x u)
  where
    go : (o : Result (Reached × Text) Fault) → turn_from p vias s old t ≡ o
        → ((x : Reached) (u : Text) → Reaches spots x.arrays (reached_from p vias spots x u))
        → Reaches (s ∷ spots) old.arrays (after_turn p vias s spots old o)
    go (Err g) e others = record {
      first = record { done = []; others = s ∷ spots; parts = refl; puts = finished old.arrays };
      all = λ left h. absurd (err-ok g left h);
    }
    go (Ok r) e others =
        let b = turn-puts p vias s old t r e in
        let more = others r.0 r.1 in
        let one : Puts (s ∷ []) old.arrays r.0.arrays = subst (λ (a : Arrays). Puts (s ∷ []) old.arrays a) (sym b.1)
        (put s [] b.0 old.arrays _ (finished _)) in
        record {
          first = puts-then (s ∷ []) spots old.arrays r.0.arrays _ one more.first;
          all = λ left h. puts-both (s ∷ []) spots old.arrays r.0.arrays _ one (more.all left h);
        }

-- ---- the bits of longer data

-- an end that stands before more bytes
abbrev pub later : Ending → List ℕ → Ending
later (Found m rest) more = Found m (rest ++ more)
later (entropy.Stops m rest) more = entropy.Stops m (rest ++ more)
later (Broken f) more = Broken f

-- The text u of longer data: bits after those of t, where t ends with its bytes, or else the same.
pub record Grows (t u : Text) (more : List ℕ) : Type 0 where
  pub bits : List Bool
  pub are : u.bits ≡ t.bits ++ bits
  pub ends : (t.ending ≡ Broken End) ⊎ ((bits ≡ []) × (u.ending ≡ later t.ending more))

cut-grows : (u : Text) (more : List ℕ) → Grows (no_bits (Broken End)) u more
cut-grows u more = record { bits = u.bits; are = refl; ends = inl refl }

byte-grows : (b : ℕ) (rest others : List ℕ) (t u : Text) (more : List ℕ) → Grows t u more
    → Grows (add_byte b rest t) (add_byte b others u) more
byte-grows b rest others t u more g = record {
  bits = g.bits;
  are = ap (λ (l : List Bool). bits_of b ++ l) g.are;
  ends = g.ends;
}

named-later : (o : Option Marker) (rest more : List ℕ) → ended_by o (rest ++ more) ≡ later (ended_by o rest) more
named-later None rest more = refl
named-later (Some m) rest more = refl

pub ending-later : (bytes more : List ℕ) → (ending_at bytes ≡ Broken End)
    ⊎ (ending_at (bytes ++ more) ≡ later (ending_at bytes) more)
unfolding ending_at
ending-later [] more = inl refl
ending-later (c ∷ bytes) more = go (eqb c 255) (ending-later bytes more)
  where
    go : (x : Bool) → (ending_at bytes ≡ Broken End) ⊎ (ending_at (bytes ++ more) ≡ later (ending_at bytes) more)
        → (cond x (ending_at bytes) (ended_by (marker_of c) bytes) ≡ Broken End)
        ⊎ (cond x (ending_at (bytes ++ more)) (ended_by (marker_of c) (bytes ++ more))
        ≡ later (cond x (ending_at bytes) (ended_by (marker_of c) bytes)) more)
    go true h = h
    go false h = inr (named-later (marker_of c) bytes more)

end-grows : (e f : Ending) (more : List ℕ) → (e ≡ Broken End) ⊎ (f ≡ later e more)
    → Grows (no_bits e) (no_bits f) more
end-grows e f more (inl h) = record { bits = []; are = refl; ends = inl h }
end-grows e f more (inr h) = record { bits = []; are = refl; ends = inr (refl, h) }

last-grows : (b : ℕ) (more : List ℕ) → Grows (text_at (b ∷ [])) (text_at (b ∷ more)) more
unfolding text_at
last-grows b [] = record { bits = []; are = sym (append-nil _); ends = inl (at (eqb b 255)) }
  where
    at : (x : Bool) → (cond x (no_bits (Broken End)) (add_byte b [] (no_bits (Broken End)))).ending ≡ Broken End
    at true = refl
    at false = refl
last-grows b (c ∷ more) = go (eqb b 255)
  where
    go : (x : Bool) → Grows (cond x (no_bits (Broken End)) (add_byte b [] (no_bits (Broken End))))
        (cond x (cond (eqb c 0) (add_byte 255 more (text_at more)) (no_bits (ending_at (c ∷ more))))
        (add_byte b (c ∷ more) (text_at (c ∷ more)))) (c ∷ more)
    go true = cut-grows _ (c ∷ more)
    go false = byte-grows b [] (c ∷ more) (no_bits (Broken End)) (text_at (c ∷ more)) (c ∷ more)
        (cut-grows (text_at (c ∷ more)) (c ∷ more))

pub text-grows : (bytes more : List ℕ) → Grows (text_at bytes) (text_at (bytes ++ more)) more
unfolding text_at
text-grows [] more = cut-grows (text_at more) more
text-grows (b ∷ []) more = last-grows b more
text-grows (b ∷ c ∷ bytes) more =
    go (eqb b 255) (eqb c 0) (text-grows bytes more) (text-grows (c ∷ bytes) more)
  where
    go : (x y : Bool) → Grows (text_at bytes) (text_at (bytes ++ more)) more
        → Grows (text_at (c ∷ bytes)) (text_at (c ∷ bytes ++ more)) more
        → Grows (cond x (cond y (add_byte 255 bytes (text_at bytes)) (no_bits (ending_at (c ∷ bytes))))
        (add_byte b (c ∷ bytes) (text_at (c ∷ bytes))))
        (cond x (cond y (add_byte 255 (bytes ++ more) (text_at (bytes ++ more)))
        (no_bits (ending_at (c ∷ bytes ++ more))))
        (add_byte b (c ∷ bytes ++ more) (text_at (c ∷ bytes ++ more)))) more
    go true true g h = byte-grows 255 bytes (bytes ++ more) (text_at bytes) (text_at (bytes ++ more)) more g
    go true false g h = end-grows (ending_at (c ∷ bytes)) (ending_at (c ∷ bytes ++ more)) more
        (ending-later (c ∷ bytes) more)
    go false y g h = byte-grows b (c ∷ bytes) (c ∷ bytes ++ more) (text_at (c ∷ bytes)) (text_at (c ∷ bytes ++ more))
        more h

-- ---- the end of longer data

-- bytes that are data are passed over alike before more bytes
after-grows : (n : ℕ) (bytes more : List ℕ) → 8 * n < length (text_at bytes).bits + 8
    → after_bytes n (bytes ++ more) ≡ after_bytes n bytes ++ more
unfolding text_at after_bytes
after-grows zero bytes more h = refl
after-grows (suc n) [] more h = absurd (omega arith)
after-grows (suc n) (b ∷ []) [] h = refl
after-grows (suc n) (b ∷ []) (c ∷ more) h = go (eqb b 255) h
  where
    go : (x : Bool)
        → 8 * suc n < length (cond x (no_bits (Broken End)) (add_byte b [] (no_bits (Broken End)))).bits + 8
        → elim x as (λ _. List ℕ) [ true ↦ after_bytes n more | false ↦ after_bytes n (c ∷ more) ] ≡ c ∷ more
    go true h = absurd (omega arith)
    go false h = let none : n ≡ 0 = omega arith in ap (λ (k : ℕ). after_bytes k (c ∷ more)) none
after-grows (suc n) (b ∷ c ∷ bytes) more h =
    go (eqb b 255) (eqb c 0) h (after-grows n bytes more) (after-grows n (c ∷ bytes) more)
  where
    go : (x y : Bool)
        → 8 * suc n < length (cond x (cond y (add_byte 255 bytes (text_at bytes)) (no_bits (ending_at (c ∷ bytes))))
        (add_byte b (c ∷ bytes) (text_at (c ∷ bytes)))).bits + 8
        → (8 * n < length (text_at bytes).bits + 8 → after_bytes n (bytes ++ more) ≡ after_bytes n bytes ++ more)
        → (8 * n < length (text_at (c ∷ bytes)).bits + 8
        → after_bytes n (c ∷ bytes ++ more) ≡ after_bytes n (c ∷ bytes) ++ more)
        → elim x as (λ _. List ℕ) [ true ↦ after_bytes n (bytes ++ more) | false ↦ after_bytes n (c ∷ bytes ++ more) ]
        ≡ elim x as (λ _. List ℕ) [ true ↦ after_bytes n bytes | false ↦ after_bytes n (c ∷ bytes) ] ++ more
    go true true h p q = p (omega arith)
    go true false h p q = absurd (omega arith)
    go false y h p q = q (omega arith)

met-stays : (more : List ℕ) (e : Ending) → Stays more (met e) (met (later e more))
met-stays more (Found m rest) = stays-ok (Some m) rest
met-stays more (entropy.Stops m rest) = stays-ok (Some m) rest
met-stays more (Broken f) = stays-err f

-- where more than 56 bits are left, reading goes on before the end
many-left : (k : ℕ) (bytes : List ℕ) (left : List Bool) (e : Ending) → 56 < length left
    → end_after k bytes left e ≡ Ok (None, after_bytes ((k + 57 + 7) / 8) bytes)
unfolding end_after
many-left k bytes left e h = rw (lt-leb (length left) 56 h, end_after) refl

left-stays : (k : ℕ) (bytes more : List ℕ) (left bits : List Bool) (e f : Ending)
    → k + length left ≤ length (text_at bytes).bits → (56 < length left) ⊎ (length left ≤ 56)
    → (e ≡ Broken End) ⊎ ((bits ≡ []) × (f ≡ later e more))
    → Stays more (end_after k bytes left e) (end_after k (bytes ++ more) (left ++ bits) f)
left-stays k bytes more left bits e f within (inl many) ends =
    let n = (k + 57 + 7) / 8 in
    rw (
      many-left k bytes left e many,
      many-left k (bytes ++ more) (left ++ bits) f (omega (arith, many, length-append left bits)),
      after-grows n bytes more (omega (arith, within, many)),
    ) (stays-ok None (after_bytes n bytes))
left-stays k bytes more left bits e f within (inr few) (inl cut) =
    rw (end-met k bytes left e few, cut) (stays-end _)
left-stays k bytes more left bits e f within (inr few) (inr same) =
    let none = ap (λ (b : List Bool). length b) same.0 in
    rw (
      end-met k bytes left e few,
      end-met k (bytes ++ more) (left ++ bits) f (omega (arith, few, none, length-append left bits)),
      same.1,
    ) (met-stays more e)

-- What stands after bits that are left of an interval stands there where more bytes come, and more bits are left.
pub end-stays : (bytes more : List ℕ) (left : List Bool) → length left ≤ length (text_at bytes).bits
    → Stays more (stopped bytes (Ok left)) (stopped (bytes ++ more) (Ok (left ++ (text-grows bytes more).bits)))
end-stays bytes more left within =
    let t = text_at bytes in
    let u = text_at (bytes ++ more) in
    let g = text-grows bytes more in
    let k = length t.bits - length left in
    let grown = ap (λ (b : List Bool). length b) g.are in
    let same : length u.bits - length (left ++ g.bits) ≡ k
    = omega (arith, grown, length-append t.bits g.bits, length-append left g.bits) in
    subst (λ (n : ℕ). Stays more (end_after k bytes left t.ending)
    (end_after n (bytes ++ more) (left ++ g.bits) u.ending)) (sym same)
    (left-stays k bytes more left g.bits t.ending u.ending (omega (arith, within)) (cases_lt 56 (length left)) g.ends)

-- ---- an interval

abbrev pub Met : Type 0
Met = Outcome (Option Marker)

-- Shorter data bring as many of the first blocks as this allows, and the next is the first that they don't bring.
pub record ReadsMost (P : ℕ → Type 0) (spots : List Spot) (before shorter longer : Arrays) (unread : Option Spot)
    : Type 0 where
  pub on : ReadsOn spots before shorter longer
  pub can : P (length on.done)
  pub most : (count : ℕ) → P count → count ≤ length on.done
  pub next : unread ≡ slice_get spots (length on.done)

-- An interval of longer data goes on after the blocks of shorter ones, which are all that can be read; where it is read
-- without a fault, that is all.
pub record IntervalGoes (P : ℕ → Type 0) (spots : List Spot) (before shorter longer : Arrays) (unread : Option Spot)
    (o : Met) : Type 0 where
  pub brings : ReadsMost P spots before shorter longer unread
  pub all : (x : Option Marker × List ℕ) → o ≡ Ok x → Puts brings.on.others shorter longer

-- an interval that has an end is read
pub all-read : (bytes : List ℕ) (o : Result (List Bool) Fault) (x : Option Marker × List ℕ) → stopped bytes o ≡ Ok x
    → (left : List Bool) × (o ≡ Ok left)
all-read bytes (Ok left) x h = (left, refl)
all-read bytes (Err g) x h = absurd (err-ok g x h)

bits-go : (p : Pass) (vias : List Via) (spots : List Spot) (arrays : Arrays) (bits more : List Bool)
    (ps : List (List ℕ)) (d e : Ending) (bytes : List ℕ) (s : Stops p vias spots (at_start arrays) bits d)
    → IntervalGoes (CanRead p vias spots (at_start arrays) bits) spots arrays s.end.reached.arrays
    (reached_from p vias spots (at_start arrays) (text (bits ++ more) ps e)).reached.arrays s.end.unread
    (stopped bytes (reached_from p vias spots (at_start arrays) (text (bits ++ more) ps e)).rest)
bits-go p vias spots arrays bits more ps d e bytes s =
    let g = s.goes in
    let first = reaches p vias g.done (at_start arrays) (text bits [] e) in
    let others = text (g.left ++ more) (drop (length g.taken) ps) e in
    let next = reaches p vias g.others s.end.reached others in
    subst (λ (r : After). IntervalGoes (CanRead p vias spots (at_start arrays) bits) spots arrays s.end.reached.arrays
    r.reached.arrays s.end.unread (stopped bytes r.rest)) (sym (g.longer more ps e))
    (record {
      brings = record {
        on = record {
          done = g.done;
          others = g.others;
          parts = g.spots_are;
          puts = subst (λ (r : After). Puts g.done arrays r.reached.arrays) (g.brought [] e)
              (first.all g.left (ap (λ (r : After). r.rest) (g.brought [] e)));
          further = next.first;
        };
        can = s.can;
        most = s.most;
        next = s.unread;
      };
      all = λ x h.
          let l = all-read bytes (reached_from p vias g.others s.end.reached others).rest x h in
          next.all l.0 l.1;
    })

-- those of an interval's blocks that can be read of the bits that these bytes have
abbrev pub CanReadOf : Pass → List Via → List Spot → Arrays → List ℕ → ℕ → Type 0
CanReadOf p vias spots arrays bytes = CanRead p vias spots (at_start arrays) (text_at bytes).bits

pub interval-goes : (p : Pass) (vias : List Via) (spots : List Spot) (arrays : Arrays) (bytes more : List ℕ)
    → IntervalGoes (CanReadOf p vias spots arrays bytes) spots arrays
    (interval_reached p vias spots arrays bytes).reached (interval_reached p vias spots arrays (bytes ++ more)).reached
    (interval_reached p vias spots arrays bytes).unread (interval_reached p vias spots arrays (bytes ++ more)).rest
unfolding interval_reached
interval-goes p vias spots arrays bytes more =
    let t = stopping bytes in
    let u = stopping (bytes ++ more) in
    let g = text-grows bytes more in
    let s = stops p vias spots (at_start arrays) t.bits t.ending (stopping-strict (text_at bytes).ending) in
    let P = CanReadOf p vias spots arrays bytes in
    subst (λ (r : After). IntervalGoes P spots arrays r.reached.arrays
    (reached_from p vias spots (at_start arrays) u).reached.arrays r.unread
    (stopped (bytes ++ more) (reached_from p vias spots (at_start arrays) u).rest)) (sym (s.whole t.following))
    (subst (λ (b : List Bool). IntervalGoes P spots arrays s.end.reached.arrays
    (reached_from p vias spots (at_start arrays) (text b u.following u.ending)).reached.arrays s.end.unread
    (stopped (bytes ++ more) (reached_from p vias spots (at_start arrays) (text b u.following u.ending)).rest))
    (sym g.are) (bits-go p vias spots arrays t.bits g.bits u.following t.ending u.ending (bytes ++ more) s))

-- what is reached, and what stands after it
abbrev pub both : {A B : Type 0} → Through A B → A × Result B Fault
both r = (r.reached, r.rest)

-- What is brought, and what is read after it, is the same of longer data, where the shorter ones are read.
abbrev pub StaysBrought : {A X : Type 0} → List ℕ → A × Outcome X → A × Outcome X → Type 0
StaysBrought {A} {X} more r s = (x : X × List ℕ) → r.1 ≡ Ok x → s ≡ (r.0, Ok (x.0, x.1 ++ more))

lack-later : (e : Ending) (more : List ℕ) → lack_at (closed Nothing (later e more)) ≡ lack_at (closed Nothing e)
lack-later (Found m rest) more = refl
lack-later (entropy.Stops m rest) more = refl
lack-later (Broken f) more = refl

-- data of an interval, of which this is reached by a reader, and longer data
module _ {S : Type 0} (p : Reads S) (reach : Text → S × Result (List Bool) Fault)
    (same : (t : Text) → IsReached (reach t).0 (reach t).1 (p t)) (bytes more : List ℕ) where
  abbrev shorter : Text
  shorter = stopping bytes

  abbrev longer : Text
  longer = stopping (bytes ++ more)

  abbrev grown : Grows (text_at bytes) (text_at (bytes ++ more)) more
  grown = text-grows bytes more

  -- the end of what is reached of these bytes
  abbrev end_of : List ℕ → Met
  end_of all = stopped all (reach (stopping all)).1

  reached-by : (t : Text) (r : Result (S × Text) Fault) → p t ≡ r → IsReached (reach t).0 (reach t).1 r
  reached-by t r e = subst (λ (q : Result (S × Text) Fault). IsReached (reach t).0 (reach t).1 q) e (same t)

  -- where all is read, before any end
  own-stays : (own left : List Bool) (v : S) → shorter.bits ≡ own ++ left → ReadsJust p own v
      → ((reach longer).0 ≡ (reach shorter).0) × Stays more (end_of bytes) (end_of (bytes ++ more))
  own-stays own left v is r =
      let a = reached-by shorter _ (own-read p own left shorter.bits v shorter.following shorter.ending is r) in
      let b = reached-by longer _
      (own-read p own (left ++ grown.bits) longer.bits v longer.following longer.ending
      (grown.are ∙ ap (λ (l : List Bool). l ++ grown.bits) is ∙ append_assoc own left grown.bits) r) in
      let long = ap (λ (l : List Bool). length l) is in
      (b.0 ∙ sym a.0, rw (a.1, b.1) (end-stays bytes more left (omega (arith, long, length-append own left))))

  -- What an interval brings by what is reached of its bits, where it is read, is the same of longer data.
  pub text-stays : {A sized : Type 0} (to : S → A) → Front sized p shorter.bits
      → StaysBrought more (to (reach shorter).0, end_of bytes) (to (reach longer).0, end_of (bytes ++ more))
  text-stays to (failed k is) x h =
      let f = strict-fault p shorter.bits k shorter.ending (stopping-strict (text_at bytes).ending) is in
      absurd (err-ok _ x (sym (ap (stopped bytes) (reached-by shorter _ (f.1 shorter.following))) ∙ h))
  text-stays to (gave own left v is r) x h =
      let b = own-stays own left v is r in
      ap₂ (λ (s : S) (o : Met). (to s, o)) b.0 (stays-read more _ _ b.1 x h)

  -- What stands after it does so of longer data, and so does a fault, but where the data end.
  pub reach-stays : {sized : Type 0} → sized → Front sized p shorter.bits
      → Stays more (end_of bytes) (end_of (bytes ++ more))
  reach-stays counted (gave own left v is r) = (own-stays own left v is r).1
  reach-stays counted (failed k (rule m is)) =
      let a = reached-by shorter (Err Malformed) (broken p shorter.bits shorter.ending shorter.following is) in
      let b = reached-by longer (Err Malformed)
      (ap (λ (l : List Bool). p (text l longer.following longer.ending)) grown.are
      ∙ is grown.bits (inr counted) longer.ending longer.following) in
      rw (a, b) (stays-err Malformed)
  reach-stays counted (failed k (short m is)) = go grown.ends
    where
      lacks : (e : Ending) (ps : List (List ℕ))
          → p (text shorter.bits ps (closed Nothing e)) ≡ Err (lack_at (closed Nothing e))
      lacks e ps = is (closed Nothing e) (stopping-strict e) ps

      a : (reach shorter).1 ≡ Err (lack_at shorter.ending)
      a = reached-by shorter (Err (lack_at shorter.ending)) (lacks (text_at bytes).ending shorter.following)

      go : ((text_at bytes).ending ≡ Broken End)
          ⊎ ((grown.bits ≡ []) × ((text_at (bytes ++ more)).ending ≡ later (text_at bytes).ending more))
          → Stays more (end_of bytes) (end_of (bytes ++ more))
      go (inl cut) =
          let ends = a ∙ ap (λ (e : Ending). Err (lack_at (closed Nothing e))) cut in
          rw ends (stays-end _)
      go (inr alike) =
          let bits = grown.are ∙ ap (λ (l : List Bool). shorter.bits ++ l) alike.0 ∙ append-nil shorter.bits in
          let b = reached-by longer (Err (lack_at shorter.ending))
          (ap (λ (l : List Bool). p (text l longer.following longer.ending)) bits
          ∙ lacks (text_at (bytes ++ more)).ending longer.following
          ∙ ap (λ (e : Ending). Err (lack_at (closed Nothing e))) alike.1
          ∙ ap Err (lack-later (text_at bytes).ending more)) in
          rw (a, b) (stays-err (lack_at shorter.ending))

pub interval-stays : (p : Pass) (vias : List Via) (spots : List Spot) (arrays : Arrays) (bytes more : List ℕ)
    → StaysBrought more (both (interval_reached p vias spots arrays bytes))
    (both (interval_reached p vias spots arrays (bytes ++ more)))
unfolding interval_reached TakesFront
interval-stays p vias spots arrays bytes more =
    text-stays (turns_from p vias spots (at_start arrays))
    (λ (t : Text). both (reached_from p vias spots (at_start arrays) t)) (blocks-same p vias spots (at_start arrays))
    bytes more (λ (r : Reached). r.arrays) (turns-front p vias spots (at_start arrays) (text_at bytes).bits)

-- the end of an interval, or its fault
pub interval-stay : (p : Pass) (vias : List Via) (spots : List Spot) (arrays : Arrays) (bytes more : List ℕ)
    → AreSized vias → Stays more (interval_reached p vias spots arrays bytes).rest
    (interval_reached p vias spots arrays (bytes ++ more)).rest
unfolding interval_reached TakesFront
interval-stay p vias spots arrays bytes more sized =
    reach-stays (turns_from p vias spots (at_start arrays))
    (λ (t : Text). both (reached_from p vias spots (at_start arrays) t)) (blocks-same p vias spots (at_start arrays))
    bytes more sized (turns-front p vias spots (at_start arrays) (text_at bytes).bits)
