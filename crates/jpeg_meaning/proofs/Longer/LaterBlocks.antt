-- The blocks of a scan that are read of some bytes are read of the same bytes with more after them, and what is left
-- goes on.
use Rattle.std.proofs.Common.{◌≡◌, ◌⊎◌, inl, inr, ℕ, zero, suc, ◌+◌, ◌-◌, ◌%◌, ◌≤◌, ◌&&◌, nat_lt, Bool, true, false}
use Rattle.std.proofs.Common.{cond, List, [], ◌∷◌, ◌++◌}
use Rattle.std.proofs.Common.{length, drop, replicate, map, refl, sym, ap, ap₂, ◌∙◌, subst, arith, eqb, Ok, Err}
use Rattle.std.proofs.Common.{Result, Option}
use Rattle.std.proofs.Common.{append_assoc, length-append, length-drop, None}
use Rattle.std.proofs.lemmas.List.{drop-append-le, drop-drop, drop-map, drop_at, map-append}
use Rattle.jpeg_bits.specs.Reading.{End, Fault, Malformed, Outcome}
use Rattle.jpeg_bits.specs.Reading as reading
use Rattle.jpeg_bits.specs.Entropy.{Broken, Ending, Found, Stops, Text, Unmet, add_byte, advance, ending_at}
use Rattle.jpeg_bits.specs.Entropy.{fresh_before, marker_by, marker_from, no_bits, text_at, upcoming, upcoming_by}
use Rattle.jpeg_bits.specs.Intervals.{is_restart}
use Rattle.jpeg_bits.specs.Passes.{Pass, Via}
use Rattle.jpeg_bits.specs.Readers.{Reads, gives, read_on, text, ◌>>=◌}
use Rattle.jpeg_bits.specs.declared.beyond.Beyond.{Beyond}
use Rattle.jpeg_bits.specs.declared.beyond.Beyond.TheVariants.{Zeros}
use Rattle.jpeg_bits.specs.declared.marker.Marker.{Marker}
use Rattle.jpeg_bits.proofs.TakenTexts.{IsStrict, TakesBits}
use Rattle.jpeg_segments.proofs.Codecs.{err-ok, ok-same}
use Rattle.jpeg_meaning.specs.InTurn.{Counted, Reached, at_start, begun_from, blocks_from, next_from}
use Rattle.jpeg_meaning.specs.InTurn.{restart_from, turn_from}
use Rattle.jpeg_meaning.specs.Order.{Spot}
use Rattle.jpeg_meaning.proofs.Longer.FrontReaders.{Front, TakesFront, own-read, strict-fault}
use Rattle.jpeg_meaning.proofs.Longer.FrontReaders.Front.{gave, failed}
use Rattle.jpeg_meaning.proofs.Longer.LongerBits.{turn-front}
use Rattle.jpeg_meaning.proofs.Longer.LongerData.{ending-later, later, text-grows}
use Rattle.jpeg_meaning.proofs.Longer.LaterTexts.{IsLater, advance-later, and_more, end-kept, later_result}
use Rattle.jpeg_meaning.proofs.Longer.LaterTexts.{later_text, turn-later, turn-takes}

-- ---- the text of more bytes

-- the text t ends with its bytes, or u is the same
abbrev pub IsLaterOr : List ℕ → Text → Text → Type 0
IsLaterOr more t u = (t.ending ≡ Broken End) ⊎ (u ≡ later_text more t)

add-or : (b : ℕ) (rest more : List ℕ) (t u : Text) → IsLaterOr more t u
    → IsLaterOr more (add_byte b rest t) (add_byte b (rest ++ more) u)
add-or b rest more t u (inl e) = inl e
add-or b rest more t u (inr e) = inr (ap (add_byte b (rest ++ more)) e)

end-or : (e f : Ending) (more : List ℕ) → (e ≡ Broken End) ⊎ (f ≡ later e more)
    → IsLaterOr more (no_bits e) (no_bits f)
end-or e f more (inl h) = inl h
end-or e f more (inr h) = inr (ap no_bits h)

last-cut : (b : ℕ) → (text_at (b ∷ [])).ending ≡ Broken End
unfolding text_at
last-cut b = at (eqb b 255)
  where
    at : (x : Bool) → (cond x (no_bits (Broken End)) (add_byte b [] (no_bits (Broken End)))).ending ≡ Broken End
    at true = refl
    at false = refl

pub text-later : (bytes more : List ℕ) → IsLaterOr more (text_at bytes) (text_at (bytes ++ more))
unfolding text_at
text-later [] more = inl refl
text-later (b ∷ []) more = inl (last-cut b)
text-later (b ∷ c ∷ bytes) more =
    go (eqb b 255) (eqb c 0) (text-later bytes more) (text-later (c ∷ bytes) more)
  where
    go : (x y : Bool) → IsLaterOr more (text_at bytes) (text_at (bytes ++ more))
        → IsLaterOr more (text_at (c ∷ bytes)) (text_at (c ∷ bytes ++ more))
        → IsLaterOr more (cond x (cond y (add_byte 255 bytes (text_at bytes)) (no_bits (ending_at (c ∷ bytes))))
        (add_byte b (c ∷ bytes) (text_at (c ∷ bytes))))
        (cond x (cond y (add_byte 255 (bytes ++ more) (text_at (bytes ++ more)))
        (no_bits (ending_at (c ∷ bytes ++ more))))
        (add_byte b (c ∷ bytes ++ more) (text_at (c ∷ bytes ++ more))))
    go true true g h = add-or 255 bytes more (text_at bytes) (text_at (bytes ++ more)) g
    go true false g h = end-or (ending_at (c ∷ bytes)) (ending_at (c ∷ bytes ++ more)) more
        (ending-later (c ∷ bytes) more)
    go false y g h = add-or b (c ∷ bytes) more (text_at (c ∷ bytes)) (text_at (c ∷ bytes ++ more)) h

-- whether a text ends with its bytes
pub is_cut : (e : Ending) → (e ≡ Broken End) ⊎ (e ≡ Broken End → ⊥)
is_cut (Found m rest) = inr (λ h. let n : ⊥ = cc in n)
is_cut (Stops m rest) = inr (λ h. let n : ⊥ = cc in n)
is_cut (Broken End) = inl refl
is_cut (Broken Malformed) = inr (λ h. let n : ⊥ = cc in n)
is_cut (Broken (reading.Lacks f)) = inr (λ h. let n : ⊥ = cc in n)

-- ---- the text of a scan that goes on

-- the text of some bits that were read ahead, and of the bytes after them
abbrev pub held_text : List Bool → List ℕ → Text
held_text bits bytes = upcoming_by bits (Unmet Zeros) bytes

-- What is left of the text of some bytes, and of those with more after them: it doesn't end with its bytes, and the
-- other is the same; or so many bits were read of both.
pub data LaterBy (more : List ℕ) : Text → Text → Type 0 where
  alike : (t : Text) → (t.ending ≡ Broken End → ⊥) → LaterBy more t (later_text more t)
  longer : (bits : List Bool) (bytes : List ℕ) (d : ℕ) → d ≤ length (bits ++ (text_at bytes).bits)
      → (text_at bytes).ending ≡ Broken End
      → LaterBy more (advance d (held_text bits bytes)) (advance d (held_text bits (bytes ++ more)))

pub replicate-more : (more : List ℕ) (n : ℕ) (x : List ℕ)
    → map (and_more more) (replicate n x) ≡ replicate n (x ++ more)
replicate-more more zero x = refl
replicate-more more (suc n) x = ap (λ (l : List (List ℕ)). (x ++ more) ∷ l) (replicate-more more n x)

-- the same, where a text doesn't end with its bytes
pub held-same : (more : List ℕ) (bits : List Bool) (now : List ℕ)
    → text_at (now ++ more) ≡ later_text more (text_at now)
    → later_text more (held_text bits now) ≡ held_text bits (now ++ more)
held-same more bits now e =
    let f = and_more more in
    let t = text_at now in
    let copy = replicate (length bits) now in
    ap (λ (l : List (List ℕ)). text (bits ++ t.bits) l (later t.ending more))
    (sym (drop-map f 56 (copy ++ t.following)) ∙ ap (drop 56) (map-append f copy t.following
    ∙ ap (λ (l : List (List ℕ)). l ++ map f t.following) (replicate-more more (length bits) now)))
    ∙ ap (λ (u : Text). text (bits ++ u.bits) (drop 56 (replicate (length bits) (now ++ more) ++ u.following)) u.ending)
    (sym e)

pub start-later : (more : List ℕ) (bits : List Bool) (bytes : List ℕ)
    → LaterBy more (held_text bits bytes) (held_text bits (bytes ++ more))
start-later more bits bytes = go (is_cut (text_at bytes).ending) (text-later bytes more)
  where
    go : ((text_at bytes).ending ≡ Broken End) ⊎ ((text_at bytes).ending ≡ Broken End → ⊥)
        → IsLaterOr more (text_at bytes) (text_at (bytes ++ more))
        → LaterBy more (held_text bits bytes) (held_text bits (bytes ++ more))
    go (inl e) h = longer bits bytes 0 (omega arith) e
    go (inr n) (inl e) = absurd (n e)
    go (inr n) (inr e) =
        subst (λ (u : Text). LaterBy more (held_text bits bytes) u) (held-same more bits bytes e)
        (alike (held_text bits bytes) n)

-- ---- readers

-- what is read of a text that goes on, and that it does so after it
pub record Stayed {A : Type 0} (more : List ℕ) (p : Reads A) (u : Text) (r : A × Text) : Type 0 where
  pub after : Text
  pub read : p u ≡ Ok (r.0, after)
  pub goes : LaterBy more r.1 after

unfoldable pub StaysText : {A : Type 0} → List ℕ → Reads A → Type 0
StaysText {A} more p = (t u : Text) → LaterBy more t u → (r : A × Text) → p t ≡ Ok r → Stayed more p u r

-- so many bits more are read of both
record ReadsOn {A : Type 0} (p : Reads A) (s u : Text) (d : ℕ) (r : A × Text) : Type 0 where
  pub count : ℕ
  pub within : d + count ≤ length s.bits
  pub here : r.1 ≡ advance (d + count) s
  pub there : p (advance d u) ≡ Ok (r.0, advance (d + count) u)

-- the bits after some that were read of those after others
left-of : (d : ℕ) (bits own left : List Bool) → drop d bits ≡ own ++ left → left ≡ drop (d + length own) bits
left-of d bits own left is =
    sym (drop_at own left (length own) refl) ∙ ap (drop (length own)) (sym is) ∙ drop-drop (length own) d bits

fit : (d : ℕ) (bits own left : List Bool) → d ≤ length bits → drop d bits ≡ own ++ left
    → d + length own ≤ length bits
fit d bits own left le is =
    let n : length bits - d ≡ length own + length left
    = sym (length-drop d bits) ∙ ap length is ∙ length-append own left in
    omega arith

longer-read : {A sized : Type 0} (p : Reads A) (s u : Text) (d : ℕ) (extra : List Bool) → u.bits ≡ s.bits ++ extra
    → d ≤ length s.bits → s.ending ≡ Broken End → (r : A × Text) → p (advance d s) ≡ Ok r
    → Front sized p (drop d s.bits) → ReadsOn p s u d r
longer-read p s u d extra are le cut r e (failed g is) =
    let f = strict-fault p (drop d s.bits) g s.ending (subst IsStrict (sym cut) tt) is in
    absurd (err-ok f.0 r (sym (f.1 (drop d s.following)) ∙ e))
longer-read {A} p s u d extra are le cut r e (gave own left x is just) =
    let n = length own in
    let one = own-read p own left (drop d s.bits) x (drop d s.following) s.ending is just in
    let bits : drop d u.bits ≡ own ++ (left ++ extra)
    = ap (drop d) are ∙ drop-append-le d s.bits extra le ∙ ap (λ (l : List Bool). l ++ extra) is
    ∙ append_assoc own left extra in
    let two = own-read p own (left ++ extra) (drop d u.bits) x (drop d u.following) u.ending bits just in
    let same : (x, text left (drop n (drop d s.following)) s.ending) ≡ r = ok-same _ r (sym one ∙ e) in
    record {
      count = n;
      within = fit d s.bits own left le is;
      here = ap (λ (q : A × Text). q.1) (sym same)
          ∙ ap₂ (λ (l : List Bool) (ps : List (List ℕ)). text l ps s.ending) (left-of d s.bits own left is)
          (drop-drop n d s.following);
      there = two
          ∙ ap₂ (λ (l : List Bool) (ps : List (List ℕ)). Ok (x, text l ps u.ending))
          (left-of d u.bits own (left ++ extra) bits) (drop-drop n d u.following)
          ∙ ap (λ (y : A). Ok (y, advance (d + n) u)) (ap (λ (q : A × Text). q.0) same);
    }

read-stays : {A : Type 0} (sized : Type 0) (more : List ℕ) (p : Reads A) → TakesFront sized p → IsLater more p
    → TakesBits p → (t u : Text) → LaterBy more t u → (r : A × Text) → p t ≡ Ok r → Stayed more p u r
unfolding TakesFront IsLater
read-stays sized more p front same takes t u (alike t' n) r e = record {
  after = later_text more r.1;
  read = same t' ∙ ap (later_result more) e;
  goes = alike r.1 (λ h. n (sym (end-kept p takes t' r e) ∙ h));
}
read-stays sized more p front same takes t u (longer bits bytes d le cut) r e =
    let s = held_text bits bytes in
    let v = held_text bits (bytes ++ more) in
    let g = text-grows bytes more in
    let are : v.bits ≡ s.bits ++ g.bits
    = ap (λ (l : List Bool). bits ++ l) g.are ∙ sym (append_assoc bits (text_at bytes).bits g.bits) in
    let q = longer-read p s v d g.bits are le cut r e (front (drop d s.bits)) in
    record {
      after = advance (d + q.count) v;
      read = q.there;
      goes = subst (λ (a : Text). LaterBy more a (advance (d + q.count) v)) (sym q.here)
          (longer bits bytes (d + q.count) q.within cut);
    }

turn-stays-text : (more : List ℕ) (p : Pass) (vias : List Via) (s : Spot) (old : Reached)
    → StaysText more (turn_from p vias s old)
unfolding StaysText
turn-stays-text more p vias s old =
    read-stays _ more (turn_from p vias s old) (turn-front p vias s old) (turn-later more p vias s old)
    (turn-takes p vias s old)

on-stays : {A B : Type 0} (more : List ℕ) (p : Reads A) (f : A → Reads B)
    → ((t u : Text) → LaterBy more t u → (r : A × Text) → p t ≡ Ok r → Stayed more p u r)
    → ((x : A) (t u : Text) → LaterBy more t u → (r : B × Text) → f x t ≡ Ok r → Stayed more (f x) u r)
    → (t u : Text) → LaterBy more t u → (r : B × Text) → (o : Result (A × Text) Fault) → p t ≡ o
    → read_on f o ≡ Ok r → Stayed more (p >>= f) u r
on-stays more p f h k t u goes r (Err g) e x = absurd (err-ok g r x)
on-stays more p f h k t u goes r (Ok q) e x =
    let s = h t u goes q e in
    let w = k q.0 q.1 s.after s.goes r x in
    record { after = w.after; read = ap (read_on f) s.read ∙ w.read; goes = w.goes }

pub bind-text : {A B : Type 0} (more : List ℕ) (p : Reads A) (f : A → Reads B) → StaysText more p
    → ((x : A) → StaysText more (f x)) → StaysText more (p >>= f)
unfolding StaysText
bind-text more p f h k = λ t u goes r e. on-stays more p f h k t u goes r (p t) refl e

pub gives-text : {A : Type 0} (more : List ℕ) (x : A) → StaysText more (gives x)
unfolding StaysText
gives-text {A} more x = λ t u goes r e.
    let same : (x, t) ≡ r = ok-same (x, t) r e in
    record {
      after = u;
      read = ap (λ (q : A × Text). Ok (q.0, u)) same;
      goes = subst (λ (q : A × Text). LaterBy more q.1 u) same goes;
    }

pub elim-text : {A : Type 0} (more : List ℕ) (b : Bool) (p q : Reads A) → StaysText more p → StaysText more q
    → StaysText more (elim b as (λ _. Reads A) [ true ↦ p | false ↦ q ])
elim-text more true p q h k = h
elim-text more false p q h k = k

-- ---- restarts

later_outcome : {A : Type 0} → List ℕ → Outcome A → Outcome A
later_outcome more (Ok r) = Ok (r.0, r.1 ++ more)
later_outcome more (Err g) = Err g

marker-later : (more : List ℕ) (rests : List (List ℕ)) (e : Ending)
    → marker_by (map (and_more more) rests) (later e more) ≡ later_outcome more (marker_by rests e)
unfolding later_outcome
marker-later more (rest ∷ rests) e = refl
marker-later more [] (Found m rest) = refl
marker-later more [] (Stops m rest) = refl
marker-later more [] (Broken f) = refl

-- the next interval, after the marker that is met
abbrev restarted_by : List ℕ → Bool → Result (Unit {0} × Text) Fault
restarted_by rest b = elim b as (λ _. Result (Unit {0} × Text) Fault) [
  | true ↦ Ok (tt, upcoming (fresh_before Zeros) rest)
  | false ↦ Err Malformed
]

abbrev restarted : ℕ → Outcome (Option Marker) → Result (Unit {0} × Text) Fault
restarted k o = reading.◌>>=◌ o (λ (m : Option Marker × List ℕ). restarted_by m.1 (is_restart k m.0))

record Restarts (more : List ℕ) (o : Result (Unit {0} × Text) Fault) (r : Unit {0} × Text) : Type 0 where
  pub after : Text
  pub read : o ≡ Ok (r.0, after)
  pub goes : LaterBy more r.1 after

restarts-by : (more : List ℕ) (rest : List ℕ) (r : Unit {0} × Text) (b : Bool) → restarted_by rest b ≡ Ok r
    → Restarts more (restarted_by (rest ++ more) b) r
unfolding upcoming
restarts-by more rest r false e = absurd (err-ok Malformed r e)
restarts-by more rest r true e =
    let same : (tt, held_text [] rest) ≡ r = ok-same (tt, held_text [] rest) r e in
    record {
      after = held_text [] (rest ++ more);
      read = ap (λ (q : Unit {0} × Text). Ok (q.0, held_text [] (rest ++ more))) same;
      goes = subst (λ (q : Unit {0} × Text). LaterBy more q.1 (held_text [] (rest ++ more))) same
          (start-later more [] rest);
    }

restarts-on : (more : List ℕ) (k : ℕ) (o : Outcome (Option Marker)) (r : Unit {0} × Text) → restarted k o ≡ Ok r
    → Restarts more (restarted k (later_outcome more o)) r
unfolding later_outcome
restarts-on more k (Err g) r e = absurd (err-ok g r e)
restarts-on more k (Ok m) r e = restarts-by more m.1 r (is_restart k m.0) e

none-restarts : (k : ℕ) (rests : List (List ℕ)) (r : Unit {0} × Text)
    → restarted k (marker_by rests (Broken End)) ≡ Ok r → ⊥
none-restarts k [] r e = err-ok End r e
none-restarts k (rest ∷ rests) r e = err-ok Malformed r e

restart-by : (more : List ℕ) (k : ℕ) (t u : Text) → LaterBy more t u → (r : Unit {0} × Text)
    → restarted k (marker_by t.following t.ending) ≡ Ok r
    → Restarts more (restarted k (marker_by u.following u.ending)) r
restart-by more k t u (alike t' n) r e =
    subst (λ (o : Outcome (Option Marker)). Restarts more (restarted k o) r)
    (sym (marker-later more t'.following t'.ending))
    (restarts-on more k (marker_by t'.following t'.ending) r e)
restart-by more k t u (longer bits bytes d le cut) r e =
    let rests = drop d (held_text bits bytes).following in
    absurd (none-restarts k rests r
    (sym (ap (λ (end : Ending). restarted k (marker_by rests end)) cut) ∙ e))

restart-text : (more : List ℕ) (k : ℕ) → StaysText more (restart_from Zeros k)
unfolding StaysText restart_from
restart-text more k = λ t u goes r e.
    let s = restart-by more k t u goes r e in
    record { after = s.after; read = s.read; goes = s.goes }

begun-text : (more : List ℕ) (n : ℕ) (old : Counted) → old.beyond ≡ Zeros → StaysText more (begun_from n old)
unfolding begun_from
begun-text more n old zeros =
    elim-text more _ _ _ (bind-text more _ _
    (subst (λ (b : Beyond). StaysText more (restart_from b old.number)) (sym zeros) (restart-text more old.number))
    (λ u. gives-text more _)) (gives-text more old)

-- ---- blocks

next-text : (more : List ℕ) (p : Pass) (vias : List Via) (n : ℕ) (s : Spot) (old : Counted) → old.beyond ≡ Zeros
    → StaysText more (next_from p vias n s old)
unfolding next_from
next-text more p vias n s old zeros =
    bind-text more _ _ (begun-text more n old zeros)
    (λ now. bind-text more _ _ (turn-stays-text more p vias s now.reached) (λ r. gives-text more _))

-- What follows the markers that end data stays.
pub on-ok : {A B : Type 0} (f : A → Reads B) (o : Result (A × Text) Fault) (r : B × Text) → read_on f o ≡ Ok r
    → (q : A × Text) × ((o ≡ Ok q) × (f q.0 q.1 ≡ Ok r))
on-ok f (Ok q) r e = (q, (refl, e))
on-ok f (Err g) r e = absurd (err-ok g r e)

begun-beyond : (n : ℕ) (old : Counted) (t : Text) (r : Counted × Text) → begun_from n old t ≡ Ok r
    → r.0.beyond ≡ old.beyond
unfolding begun_from
begun-beyond n old t r e = go (nat_lt 0 n && eqb old.left 0) e
  where
    to : Unit {0} → Reads Counted
    to = λ u. gives (record {
      reached = at_start old.reached.arrays;
      left = n;
      number = (old.number + 1) % 8;
      beyond = old.beyond;
    })

    go : (b : Bool)
        → (elim b as (λ _. Reads Counted) [ true ↦ restart_from old.beyond old.number >>= to | false ↦ gives old ]) t
        ≡ Ok r → r.0.beyond ≡ old.beyond
    go true e =
        let q = on-ok to (restart_from old.beyond old.number t) r e in
        ap (λ (x : Counted × Text). x.0.beyond) (sym (ok-same _ r q.1.1))
    go false e = ap (λ (x : Counted × Text). x.0.beyond) (sym (ok-same (old, t) r e))

pub next-beyond : (p : Pass) (vias : List Via) (n : ℕ) (s : Spot) (old : Counted) (t : Text) (r : Counted × Text)
    → next_from p vias n s old t ≡ Ok r → r.0.beyond ≡ old.beyond
unfolding next_from
next-beyond p vias n s old t r e =
    let q = on-ok _ (begun_from n old t) r e in
    let w = on-ok _ (turn_from p vias s q.0.0.reached q.0.1) r q.1.1 in
    ap (λ (x : Counted × Text). x.0.beyond) (sym (ok-same _ r w.1.1)) ∙ begun-beyond n old t q.0 q.1.0

-- one after the other, by what holds of the first
pub known-text : {A B : Type 0} (more : List ℕ) (p : Reads A) (f : A → Reads B) (P : A → Type 0) → StaysText more p
    → ((t : Text) (r : A × Text) → p t ≡ Ok r → P r.0) → ((x : A) → P x → StaysText more (f x))
    → StaysText more (p >>= f)
unfolding StaysText
known-text {A} {B} more p f P h holds k = λ t u goes r e.
    let q = on-ok f (p t) r e in
    let s = h t u goes q.0 q.1.0 in
    let w = k q.0.0 (holds t q.0 q.1.0) q.0.1 s.after s.goes r q.1.1 in
    record { after = w.after; read = ap (read_on f) s.read ∙ w.read; goes = w.goes }

-- The blocks at some spots are read of bytes that go on, and the bits after them are those that go on.
pub blocks-text : (more : List ℕ) (p : Pass) (vias : List Via) (n : ℕ) (spots : List Spot) (old : Counted)
    → old.beyond ≡ Zeros → StaysText more (blocks_from p vias n spots old)
unfolding blocks_from
blocks-text more p vias n [] old zeros = gives-text more old
blocks-text more p vias n (s ∷ spots) old zeros =
    known-text more (next_from p vias n s old) (blocks_from p vias n spots)
    (λ (now : Counted). now.beyond ≡ Zeros)
    (next-text more p vias n s old zeros) (λ t r e. next-beyond p vias n s old t r e ∙ zeros)
    (λ now z. blocks-text more p vias n spots now z)

pub blocks-beyond : (p : Pass) (vias : List Via) (n : ℕ) (spots : List Spot) (old : Counted) (t : Text)
    (r : Counted × Text) → blocks_from p vias n spots old t ≡ Ok r → r.0.beyond ≡ old.beyond
unfolding blocks_from
blocks-beyond p vias n [] old t r e = ap (λ (x : Counted × Text). x.0.beyond) (sym (ok-same (old, t) r e))
blocks-beyond p vias n (s ∷ spots) old t r e =
    let q = on-ok (blocks_from p vias n spots) (next_from p vias n s old t) r e in
    blocks-beyond p vias n spots q.0.0 q.0.1 r q.1.1 ∙ next-beyond p vias n s old t q.0 q.1.0
