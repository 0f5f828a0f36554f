-- Steps of the loop over the tokens of a band.
use Rattle.std.proofs.lemmas.Grind.{common_steps}
use Rattle.std.proofs.lemmas.Bool.Decides.{nat_tests}
use Rattle.std.proofs.Common.{◌≡◌, ℕ, zero, suc, ◌+◌, ◌-◌, ◌^◌, ◌<◌, ◌≤◌, true, List, [], ◌∷◌, ◌++◌, length, take, drop}
use Rattle.std.proofs.Common.{set, ℤ, pos, ◌*ℤ◌, Result, Ok, Err, refl, sym, ap, ◌∙◌, arith, append_assoc}
use Rattle.std.proofs.Common.{append-nil, length-drop, length-set, rules}
use Rattle.std.proofs.lemmas.List.{take-append-drop, drop_all, take_all, drop-drop, take_more_set, drop-set-lt}
use Rattle.std.proofs.Math.Seq.{take-add}
use Rattle.jpeg_bits.specs.Stream.{Stream}
use Rattle.jpeg_bits.specs.Reading.{Fault}
use Rattle.jpeg_bits.specs.Entropy.{Text, Ahead, upcoming, Takes}
use Rattle.jpeg_bits.specs.Codes.{Table}
use Rattle.jpeg_bits.specs.declared.error.Error.{Error}
use Rattle.jpeg_bits.specs.Readers.{Reads, ◌>>=◌, gives, read_on}
use Rattle.jpeg_bits.specs.Bands.{Band, before_more, wrapped, first_ac, token_from, after_token}
use Rattle.jpeg_bits.specs.declared.blocks.tokens.Token.{Token}
use Rattle.jpeg_bits.specs.declared.blocks.tokens.Token.TheVariants.{Value, Sixteen, Rest, Overlong}

-- A band's rest is read token by token.
first_ac-token : (table : Table) (al n : ℕ) (x : ℤ) (rest : List ℤ) (t : Text)
    → first_ac table al (suc n) (x ∷ rest) t ≡ read_on (after_token al (first_ac table al n) (x ∷ rest))
    (token_from table (length (x ∷ rest)) t)
unfolding first_ac
first_ac-token table al n x rest t = refl

-- what is left to read of a whole
abbrev pub Leaves : {A : Type 0} → Reads A → Ahead → Stream → Reads A → Ahead → Stream → Type 0
Leaves whole a old rest b new =
    (new.failed ≡ old.failed) × (old.known ≡ true → (new.known ≡ true)
    × (whole (upcoming a old.bytes) ≡ rest (upcoming b new.bytes)))

-- a band whose front is written, and what reads the coefficients after it
abbrev pub after_front : List ℤ → Reads Band → Reads Band
after_front front others = others >>= (λ more. gives (before_more front more))

joined : (xs ys : List ℤ) (o : Result (Band × Text) Fault)
    → read_on (λ more. gives (before_more xs more)) (read_on (λ more. gives (before_more ys more)) o)
    ≡ read_on (λ more. gives (before_more (xs ++ ys) more)) o
joined xs ys o = grind (arith, append_assoc)

-- a token that ends the band, and the blocks of the run that follows
abbrev pub IsLast : Token → ℕ → Type 0
IsLast (Value r v) run = ⊥
IsLast Sixteen run = ⊥
IsLast (Rest n) run = run ≡ n
IsLast Overlong run = run ≡ 0

module _ (table : Table) (al : ℕ) (whole : Reads Band) (a b d : Ahead) (old cur new : Stream) (front : List ℤ) (n : ℕ)
    (x : ℤ) (rest : List ℤ) (left : Leaves whole a old (after_front front (first_ac table al (suc n) (x ∷ rest))) b cur)
  where
    abbrev numbers : List ℤ
    numbers = x ∷ rest

    abbrev Gives : Result Token Error → Type 0
    Gives r = Takes (λ (t : Token). t) (token_from table (length (x ∷ rest))) b cur r d new

    -- what a token leaves to read
    step : (k : Token) → Gives (Ok k)
        → Leaves whole a old (after_front front (after_token al (first_ac table al n) numbers k)) d new
    step k q = grind (arith, first_ac-token)

    pub Leaves-value : (r : ℕ) (v : ℤ) → Gives (Ok (Value r v))
        → Leaves whole a old (after_front (front ++ (take r numbers ++ wrapped (v *ℤ pos (2 ^ al)) ∷ []))
        (first_ac table al n (drop (r + 1) numbers))) d new
    Leaves-value r v q =
        let s = step (Value r v) q in grind (arith, common_steps, nat_tests, joined)

    pub Leaves-sixteen : Gives (Ok Sixteen)
        → Leaves whole a old (after_front (front ++ take 16 numbers) (first_ac table al n (drop 16
        numbers))) d new
    Leaves-sixteen q =
        let s = step Sixteen q in grind (arith, common_steps, nat_tests, joined)

    pub Leaves-last : (k : Token) (run : ℕ) → IsLast k run → Gives (Ok k)
        → Leaves whole a old (λ (t : Text). Ok ((front ++ numbers, run), t)) d new
    Leaves-last (Value r v) run last q = absurd last
    Leaves-last Sixteen run last q = absurd last
    Leaves-last (Rest n) run last q = let s = step (Rest n) q in rw last s
    Leaves-last Overlong run last q = let s = step Overlong q in rw last s

    pub Leaves-refused : {X : Type 0} (view : X → Band) (e : Error) → Gives (Err e)
        → Takes view whole a old (Err e) d new
    Leaves-refused view e q = grind (arith, first_ac-token)

-- a band is written up to a coefficient, and what is left is read with some turns
abbrev pub IsAt : Table → ℕ → Reads Band → Ahead → Stream → List ℤ → ℕ → Ahead → Stream → Type 0
IsAt table al whole a old band at b cur =
    (turns : ℕ) × (length band - at ≤ turns)
    × Leaves whole a old (after_front (take at band) (first_ac table al turns (drop at band))) b cur

-- what is left, where some coefficient is left
pub record Parts (table : Table) (al : ℕ) (whole : Reads Band) (a : Ahead) (old : Stream) (band : List ℤ) (at : ℕ)
    (b : Ahead) (cur : Stream) : Type 0 where
  pub n : ℕ
  pub x : ℤ
  pub rest : List ℤ
  pub is : drop at band ≡ x ∷ rest
  pub room : length band - at ≤ suc n
  pub long : length band - at ≡ length (x ∷ rest)
  pub text : Leaves whole a old (after_front (take at band) (first_ac table al (suc n) (x ∷ rest))) b cur

module _ (table : Table) (al : ℕ) (whole : Reads Band) (a b d : Ahead) (old cur new : Stream) (band : List ℤ) (at : ℕ)
    (lt : at < length band) (p : IsAt table al whole a old band at b cur) where
  pub parts : Parts table al whole a old band at b cur
  parts = go p.0 (drop at band) refl p.1 p.2
    where
      go : (turns : ℕ) (numbers : List ℤ) → drop at band ≡ numbers → length band - at ≤ turns
          → Leaves whole a old (after_front (take at band) (first_ac table al turns (drop at band))) b cur
          → Parts table al whole a old band at b cur
      go turns [] e h t = absurd (omega (arith, ap length e, length-drop at band))
      go zero (x ∷ rest) e h t = absurd (omega arith)
      go (suc n) (x ∷ rest) e h t = record {
        n = n;
        x = x;
        rest = rest;
        is = e;
        room = h;
        long = sym (length-drop at band) ∙ ap length e;
        text = rw e at t;
      }

  abbrev Gives-here : Result Token Error → Type 0
  Gives-here r = Takes (λ (t : Token). t) (token_from table (length band - at)) b cur r d new

  token-of : (r : Result Token Error) → Gives-here r
      → Takes (λ (t : Token). t) (token_from table (length (parts.x ∷ parts.rest))) b cur r d new
  token-of r q = rw parts.long at q

  whole-band : take at band ++ (parts.x ∷ parts.rest) ≡ band
  whole-band = ap (λ (l : List ℤ). take at band ++ l) (sym parts.is) ∙ take-append-drop at band

  pub IsAt-value : (r : ℕ) (v w : ℤ) → r < length band - at → w ≡ wrapped (v *ℤ pos (2 ^ al))
      → Gives-here (Ok (Value r v)) → IsAt table al whole a old (set band (at + r) w) (at + r + 1) d new
  IsAt-value r v w within is q =
      let m = parts in
      let s = Leaves-value table al whole a b d old cur new (take at band) m.n m.x m.rest m.text r v
      (token-of (Ok (Value r v)) q) in
      let value = wrapped (v *ℤ pos (2 ^ al)) in
      let front : take at band ++ (take r (m.x ∷ m.rest) ++ value ∷ []) ≡ take (at + r + 1) (set band (at + r) w)
      = ap (λ (l : List ℤ). take at band ++ (take r l ++ value ∷ [])) (sym m.is)
      ∙ sym (append_assoc (take at band) (take r (drop at band)) (value ∷ []))
      ∙ ap (λ (l : List ℤ). l ++ value ∷ []) (sym (take-add at r band))
      ∙ ap (λ (z : ℤ). take (at + r) band ++ z ∷ []) (sym is)
      ∙ sym (take_more_set band (at + r) w (omega arith)) in
      let index : at + (r + 1) ≡ at + r + 1 = omega arith in
      let back : drop (r + 1) (m.x ∷ m.rest) ≡ drop (at + r + 1) (set band (at + r) w)
      = ap (drop (r + 1)) (sym m.is) ∙ drop-drop (r + 1) at band ∙ ap (λ (k : ℕ). drop k band) index
      ∙ sym (drop-set-lt (at + r + 1) band (at + r) w (omega arith)) in
      let room = m.room in grind (arith, common_steps, nat_tests, length-set)

  IsAt-after : (to : ℕ) → at < to → take at band ++ take 16 (drop at band) ≡ take to band
      → drop 16 (drop at band) ≡ drop to band → Gives-here (Ok Sixteen) → IsAt table al whole a old band to d new
  IsAt-after to more front back q =
      let m = parts in
      let s = Leaves-sixteen table al whole a b d old cur new (take at band) m.n m.x m.rest m.text
      (token-of (Ok Sixteen) q) in
      let room = m.room in grind (arith, common_steps, nat_tests)

  pub IsAt-sixteen : Gives-here (Ok Sixteen) → IsAt table al whole a old band (at + 16) d new
  IsAt-sixteen = IsAt-after (at + 16) (omega arith) (sym (take-add at 16 band)) (drop-drop 16 at band)

  pub IsAt-all : length band - at ≤ 16 → Gives-here (Ok Sixteen) → IsAt table al whole a old band (length band) d new
  IsAt-all few = search (rules, length-drop, IsAt-after, take_all, take-append-drop, drop_all)

  pub IsAt-last : (k : Token) (run : ℕ) → IsLast k run → Gives-here (Ok k)
      → Takes (λ (run : ℕ). (band, run)) whole a old (Ok run) d new
  IsAt-last k run last q =
      let m = parts in
      let s = Leaves-last table al whole a b d old cur new (take at band) m.n m.x m.rest m.text k run last
      (token-of (Ok k) q) in
      rw whole-band at s

  -- the end of the band, wherever it is said that it is
  pub IsAt-end : (to : ℕ) → length band ≤ to → Gives-here (Ok (Rest 0)) → IsAt table al whole a old band to d new
  unfolding first_ac
  IsAt-end to all q =
      let last = IsAt-last (Rest 0) 0 refl q in
      let rest : (t : Text) → Ok ((band, 0), t) ≡ after_front (take to band) (first_ac table al 0 (drop to band)) t
      = λ t. rw (take_all to band all, drop_all to band all, append-nil band) refl in (
        0,
        omega (arith, all),
        (last.0, λ known. ((last.1 known).0, (last.1 known).1 ∙ rest (upcoming d new.bytes))),
      )

  pub IsAt-refused : {X : Type 0} (view : X → Band) (e : Error) → Gives-here (Err e)
      → Takes view whole a old (Err e) d new
  IsAt-refused view e q =
      let m = parts in
      Leaves-refused table al whole a b d old cur new (take at band) m.n m.x m.rest m.text view e (token-of (Err e) q)

pub IsAt-none : (table : Table) (al : ℕ) (whole : Reads Band) (a b : Ahead) (old new : Stream) (band : List ℤ) (at : ℕ)
    → length band ≤ at → IsAt table al whole a old band at b new
    → Takes (λ (run : ℕ). (band, run)) whole a old (Ok 0) b new
unfolding first_ac
IsAt-none table al whole a b old new band at end p = grind (arith, take_all, drop_all, append-nil)
