-- A scan is its blocks one after the other, with a restart where no block is left of an interval.
use Rattle.std.proofs.Common.{rules, ◌≡◌, ◌⊎◌, inl, inr, ℕ, zero, suc, ◌+◌, ◌-◌, ◌*◌, ◌%◌, ◌≤◌, ◌<◌, false, List, []}
use Rattle.std.proofs.Common.{◌∷◌, ◌++◌, take, drop, length, Option, Result, Ok, Err, refl, sym, ap, ◌∙◌, append-nil}
use Rattle.std.proofs.Common.{arith, length-drop, take-append-drop, length-take, get_or, subst, map, set, ℤ, pos, ap₂}
use Rattle.std.proofs.Common.{◌≢◌, get_or-set_same, get_or-set_other, length-set}
use Rattle.std.specs.Prelude.{◌==◌, ◌&&◌, nat_lt, if◌then◌else◌}
use Rattle.std.specs.List.{AllByRecursion, flat_map}
use Rattle.std.proofs.Math.Bool.{and-false}
use Rattle.std.proofs.lemmas.Bool.{ne_eqb, le-ltb, lt-ltb}
use Rattle.jpeg_bits.specs.Reading.{Outcome, Fault, Malformed}
use Rattle.jpeg_bits.specs.Entropy.{Text, upcoming, fresh, marker_from}
use Rattle.jpeg_bits.specs.Readers.{Reads, read_on, gives}
use Rattle.jpeg_bits.specs.declared.beyond.Beyond.TheVariants.{Zeros}
use Rattle.jpeg_bits.specs.declared.marker.Marker.{Marker}
use Rattle.jpeg_segments.specs.Frame.{Frame, Component}
use Rattle.jpeg_bits.specs.Passes.{Pass, Via, Block, block_from, blocks_of, predictors_at_start, zero_block}
use Rattle.jpeg_bits.specs.Intervals.{groups, first_group, other_groups, interval, intervals, is_restart}
use Rattle.jpeg_meaning.specs.Order.{Spot, spots_of}
use Rattle.jpeg_meaning.specs.Scans.{Arrays, arrays_at, block_at, put_block, put_blocks, via_at, turns_of}
use Rattle.jpeg_meaning.specs.InTurn.{Reached, turn_from, turns_from, at_start, interval_from, next_interval}
use Rattle.jpeg_meaning.specs.InTurn.{intervals_from, restart_from, Counted, begun_from, next_from, blocks_from}
use Rattle.jpeg_meaning.specs.InTurn.{scan_from, AreArrays, Fits, IsIn, AreApart, IsInside}
use Rattle.jpeg_meaning.proofs.Order.Apart.{spots-apart}
use Rattle.jpeg_bits.proofs.EndLemmas.{ahead-so}
use Rattle.jpeg_bits.proofs.ReadIntervals.{Holds}
use Rattle.jpeg_bits.proofs.TakenTexts.{blocks-takes}
use Rattle.std.proofs.lemmas.Bool.Decides.{leb_tells}
use Rattle.jpeg_bits.proofs.WrittenIntervals.{all-groups, first-map, others-map}
use Rattle.jpeg_bits.specs.Reading as reading

-- ---- what is put back

pub same-spot : (r q : Spot) → (r ≡ q) ⊎ ((r.slot ≢ q.slot) ⊎ ((r.slot ≡ q.slot) × (r.index ≢ q.index)))
same-spot r q = search (rules, leb_tells)

pub put-same : (q : Spot) (b : Block) (arrays : Arrays) → IsInside arrays q → block_at (put_block q b arrays) q ≡ b
put-same q b arrays h = search (rules, get_or-set_same)

pub put-other : (r q : Spot) (b : Block) (arrays : Arrays) → IsInside arrays q
    → (r.slot ≢ q.slot) ⊎ ((r.slot ≡ q.slot) × (r.index ≢ q.index))
    → block_at (put_block r b arrays) q ≡ block_at arrays q
put-other r q b arrays h g = search (rules, get_or-set_other, get_or-set_same)

pub put-inside : (r q : Spot) (b : Block) (arrays : Arrays) → IsInside arrays q → IsInside (put_block r b arrays) q
put-inside r q b arrays h = search (rules, same-spot, length-set, get_or-set_same, get_or-set_other)

-- an index that has f of it keeps it
pub stays : (f : Spot → Block) (q : Spot) (spots : List Spot) (arrays : Arrays) → IsInside arrays q
    → block_at arrays q ≡ f q → block_at (put_blocks spots (map f spots) arrays) q ≡ f q
unfolding put_blocks
stays f q [] arrays h e = e
stays f q (r ∷ spots) arrays h e =
    search (rules, put-inside, put-same, put-other, same-spot, stays f q spots)

-- an index of the list has f of it
pub reaches : (f : Spot → Block) (q : Spot) (spots : List Spot) (arrays : Arrays) → IsInside arrays q → IsIn q spots
    → block_at (put_blocks spots (map f spots) arrays) q ≡ f q
unfolding put_blocks
reaches f q [] arrays h here = absurd here
reaches f q (r ∷ spots) arrays h (inl e) = search (rules, stays, put-inside, put-same)
reaches f q (r ∷ spots) arrays h (inr there) =
    reaches f q spots (put_block r (f r) arrays) (put-inside r q (f r) arrays h) there

-- ---- spots

-- Another index of the same array stays. The array need not be there.
beside : (arrays : Arrays) (slot i k : ℕ) (b : Block) → k ≢ i
    → get_or (get_or (set arrays slot (set (get_or arrays slot []) i b)) slot []) k zero_block
    ≡ get_or (get_or arrays slot []) k zero_block
beside [] slot i k b n = refl
beside (x ∷ arrays) zero i k b n = get_or-set_other x i k b zero_block n
beside (x ∷ arrays) (suc slot) i k b n = beside arrays slot i k b n

pub kept-after : (q r : Spot) (b : Block) (arrays : Arrays) → (q ≡ r → ⊥)
    → block_at (put_block q b arrays) r ≡ block_at arrays r
kept-after q r b arrays n = go (same-spot r q)
  where
    go : (r ≡ q) ⊎ ((r.slot ≢ q.slot) ⊎ ((r.slot ≡ q.slot) × (r.index ≢ q.index)))
        → block_at (put_block q b arrays) r ≡ block_at arrays r
    go (inl e) = absurd (n (sym e))
    go (inr (inl m)) = ap (λ (l : List Block). get_or l r.index zero_block)
        (get_or-set_other arrays q.slot r.slot (set (get_or arrays q.slot []) q.index b) [] m)
    go (inr (inr h)) = subst (λ (k : ℕ). get_or (get_or (set arrays q.slot (set (get_or arrays q.slot []) q.index b)) k
        []) r.index zero_block
        ≡ get_or (get_or arrays k []) r.index zero_block) (sym h.0) (beside arrays q.slot q.index r.index b h.1)

-- spots that keep their blocks are read alike
pub same-turns : (vias : List Via) (spots : List Spot) (arrays others : Arrays)
    → ((r : Spot) → IsIn r spots → block_at others r ≡ block_at arrays r)
    → turns_of vias spots (block_at others) ≡ turns_of vias spots (block_at arrays)
unfolding turns_of
same-turns vias [] arrays others h = refl
same-turns vias (s ∷ spots) arrays others h = search (rules, same-turns vias spots arrays others)

pub others-kept : (spots : List Spot) (blocks : List Block) (arrays : Arrays) (q : Spot)
    → (IsIn q spots → ⊥) → block_at (put_blocks spots blocks arrays) q ≡ block_at arrays q
unfolding put_blocks
others-kept (s ∷ spots) (b ∷ blocks) arrays q n = search (rules, kept-after, others-kept spots blocks)
others-kept spots blocks arrays q n = refl

pub put-both : (spots more : List Spot) (blocks others : List Block) (arrays : Arrays) → length blocks ≡ length spots
    → put_blocks (spots ++ more) (blocks ++ others) arrays ≡ put_blocks more others (put_blocks spots blocks arrays)
unfolding put_blocks
put-both [] more [] others arrays e = refl
put-both (s ∷ spots) more (b ∷ blocks) others arrays e = search (rules, put-both spots more blocks)
put-both spots more blocks others arrays e = absurd (omega arith)

pub apart-back : {A : Type 0} (xs ys : List A) → AreApart (xs ++ ys) → AreApart ys
apart-back [] ys h = h
apart-back (x ∷ xs) ys h = apart-back xs ys h.1

pub in-back : {A : Type 0} (x : A) (xs ys : List A) → IsIn x ys → IsIn x (xs ++ ys)
in-back x [] ys h = h
in-back x (y ∷ xs) ys h = inr (in-back x xs ys h)

pub in-front : {A : Type 0} (x : A) (xs ys : List A) → IsIn x xs → IsIn x (xs ++ ys)
in-front x [] ys h = absurd h
in-front x (y ∷ xs) ys (inl e) = inl e
in-front x (y ∷ xs) ys (inr t) = inr (in-front x xs ys t)

pub apart-front : {A : Type 0} (xs ys : List A) → AreApart (xs ++ ys) → AreApart xs
apart-front [] ys h = tt
apart-front (x ∷ xs) ys h = ((λ t. h.0 (in-front x xs ys t)), apart-front xs ys h.1)

pub apart-between : {A : Type 0} (q : A) (xs ys : List A) → AreApart (xs ++ ys) → IsIn q xs → IsIn q ys → ⊥
apart-between q [] ys h a b = a
apart-between q (x ∷ xs) ys h (inl e) b = h.0 (subst (λ w. IsIn w (xs ++ ys)) (sym e) (in-back q xs ys b))
apart-between q (x ∷ xs) ys h (inr t) b = apart-between q xs ys h.1 t b

-- ---- an interval

abbrev pub arrays_in : Result (Reached × Text) Fault → Result (Arrays × Text) Fault
arrays_in (Ok r) = Ok (r.0.arrays, r.1)
arrays_in (Err e) = Err e

abbrev pub put_in : List Spot → Arrays → Result (List Block × Text) Fault → Result (Arrays × Text) Fault
put_in spots arrays (Ok r) = Ok (put_blocks spots r.0 arrays, r.1)
put_in spots arrays (Err e) = Err e

-- blocks in turn are put back as all are
pub in-turn : (p : Pass) (vias : List Via) (spots : List Spot) (arrays : Arrays) (predictors : List ℤ) (run : ℕ)
    (t : Text) → AreApart spots
    → arrays_in (turns_from p vias spots (record { arrays = arrays; predictors = predictors; run = run }) t)
    ≡ put_in spots arrays (blocks_of p predictors run (turns_of vias spots (block_at arrays)) t)
unfolding turns_from turn_from blocks_of turns_of put_blocks
in-turn p vias [] arrays predictors run t apart = refl
in-turn p vias (s ∷ spots) arrays predictors run t apart =
    step (λ b c n u. in-turn p vias spots (put_block s b arrays) c n u apart.1)
    (block_from p (via_at vias s.slot).dc (via_at vias s.slot).ac
    (get_or predictors (via_at vias s.slot).component (pos 0)) run (block_at arrays s) t)
  where
    step : ((b : Block) (c : List ℤ) (n : ℕ) (u : Text)
        → arrays_in (turns_from p vias spots (record { arrays = put_block s b arrays; predictors = c; run = n }) u)
        ≡ put_in spots (put_block s b arrays) (blocks_of p c n (turns_of vias spots (block_at (put_block s b arrays))) u))
        → (o : Result ((Block × ℤ × ℕ) × Text) Fault) → arrays_in (read_on (turns_from p vias spots)
        (read_on (λ (r : Block × ℤ × ℕ). gives
        (record {
          arrays = put_block s r.0 arrays;
          predictors = set predictors (via_at vias s.slot).component r.1;
          run = r.2;
        })) o))
        ≡ put_in (s ∷ spots) arrays (read_on (λ (r : Block × ℤ × ℕ). λ (u : Text).
        read_on (λ more. gives (r.0 ∷ more))
        (blocks_of p (set predictors (via_at vias s.slot).component r.1) r.2 (turns_of vias spots (block_at arrays)) u)) o)
    step rec (Err e) = refl
    step rec (Ok r) = search (rules, same-turns, kept-after)

-- ---- intervals

abbrev pub put_after : List Spot → Arrays → Outcome (List Block × Option Marker) → Outcome (Arrays × Option Marker)
put_after spots arrays (Ok r) = Ok ((put_blocks spots r.0.0 arrays, r.0.1), r.1)
put_after spots arrays (Err e) = Err e

pub interval-in-turn : (p : Pass) (vias : List Via) (spots : List Spot) (arrays : Arrays) (bytes : List ℕ)
    → AreApart spots
    → interval_from p vias spots arrays bytes ≡ put_after spots arrays (interval (blocks_of p predictors_at_start 0 (turns_of vias spots (block_at arrays))) bytes)
unfolding interval_from
interval-in-turn p vias spots arrays bytes apart =
    let turns = turns_of vias spots (block_at arrays) in
    let ahead = ahead-so (blocks_of p predictors_at_start 0 turns) bytes (blocks-takes p predictors_at_start 0 turns) in
    grind (arith, ahead, in-turn p vias spots arrays predictors_at_start 0 (upcoming fresh bytes) apart)

-- as many blocks as turns
pub blocks-long : (p : Pass) (turns : List (Via × Block)) (predictors : List ℤ) (run : ℕ) (t : Text)
    → Holds (λ (l : List Block). length l ≡ length turns) (blocks_of p predictors run turns t)
unfolding blocks_of
blocks-long p [] predictors run t = refl
blocks-long p (v ∷ turns) predictors run t = search (rules, blocks-long p turns)

pub interval-long : (p : Pass) (turns : List (Via × Block)) (bytes : List ℕ)
    → Holds (λ (s : List Block × Option Marker). length s.0 ≡ length turns)
    (interval (blocks_of p predictors_at_start 0 turns) bytes)
unfolding interval
interval-long p turns bytes = search (rules, blocks-long)

pub turns-long : (vias : List Via) (spots : List Spot) (arrays : Arrays)
    → length (turns_of vias spots (block_at arrays)) ≡ length spots
unfolding turns_of
turns-long vias [] arrays = refl
turns-long vias (s ∷ spots) arrays = ap suc (turns-long vias spots arrays)

-- the spots of all intervals
abbrev pub all_of : List (List Spot) → List Spot
all_of others = flat_map (λ (l : List Spot). l) others

abbrev pub all_turns : List Via → Arrays → List (List Spot) → List (List (Via × Block))
all_turns vias arrays others = map (λ (l : List Spot). turns_of vias l (block_at arrays)) others

pub same-groups : (vias : List Via) (others : List (List Spot)) (arrays new : Arrays)
    → ((r : Spot) → IsIn r (all_of others) → block_at new r ≡ block_at arrays r)
    → all_turns vias new others ≡ all_turns vias arrays others
same-groups vias [] arrays new h = refl
same-groups vias (spots ∷ others) arrays new h =
    search (rules, same-turns, in-front, in-back, same-groups vias others arrays new)

-- an interval, and the others after it
followed : (k : ℕ) (spots after : List Spot) (arrays : Arrays) (o : Outcome (List Block × Option Marker))
    (others : List ℕ → Outcome (List Block × Option Marker)) (more : Arrays → List ℕ → Outcome (Arrays × Option Marker))
    → Holds (λ (s : List Block × Option Marker). length s.0 ≡ length spots) o
    → ((blocks : List Block) (rest : List ℕ) → more (put_blocks spots blocks arrays) rest
    ≡ put_after after (put_blocks spots blocks arrays) (others rest))
    → reading.◌>>=◌ (put_after spots arrays o) (next_interval k more)
    ≡ put_after (spots ++ after) arrays (reading.◌>>=◌ o (λ r. if is_restart k r.0.1
    then (reading.◌>>=◌ (others r.1) (λ s. Ok ((r.0.0 ++ s.0.0, s.0.1), s.1))) else Err Malformed))
followed k spots after arrays o others more h again = search (rules, again, put-both)

-- intervals in turn are put back as all are
pub intervals-in-turn : (p : Pass) (vias : List Via) (k : ℕ) (spots : List Spot) (others : List (List Spot))
    (arrays : Arrays) (bytes : List ℕ)
    → AreApart (spots ++ all_of others)
    → intervals_from p vias k spots others arrays bytes
    ≡ put_after (spots ++ all_of others) arrays
    (intervals (blocks_of p predictors_at_start 0) k (turns_of vias spots (block_at arrays)) (all_turns vias arrays others) bytes)
unfolding intervals_from intervals
intervals-in-turn p vias k spots [] arrays bytes apart =
    search (rules, interval-in-turn, apart-front, append-nil)
intervals-in-turn p vias k spots (next ∷ more) arrays bytes apart =
    (search (rules, interval-in-turn, apart-front))
    ∙ followed k spots after arrays (interval (read (turns_of vias spots (block_at arrays))) bytes)
    (intervals read (suc k) (turns_of vias next (block_at arrays)) (all_turns vias arrays more))
    (intervals_from p vias (suc k) next more) (search (rules, turns-long, interval-long))
    (λ blocks rest. intervals-in-turn p vias (suc k) next more (put_blocks spots blocks arrays) rest
    (apart-back spots (all_of (next ∷ more)) apart)
    ∙ ap₂ (λ (l : List (Via × Block)) (ls : List (List (Via × Block))).
    put_after after (put_blocks spots blocks arrays) (intervals read (suc k) l ls rest))
    (same-turns vias next arrays (put_blocks spots blocks arrays) (λ q t. kept blocks q (in-front q next (all_of more) t)))
    (same-groups vias more arrays (put_blocks spots blocks arrays) (λ q t. kept blocks q (in-back q next (all_of more) t))))
  where
    after : List Spot
    after = all_of (next ∷ more)

    read : List (Via × Block) → Reads (List Block)
    read = blocks_of p predictors_at_start 0

    kept : (blocks : List Block) (q : Spot) → IsIn q after
        → block_at (put_blocks spots blocks arrays) q ≡ block_at arrays q
    kept blocks q t = others-kept spots blocks arrays q (λ h. apart-between q spots after apart h t)

-- A scan over spots that are apart is its blocks in turn.
pub scans-in-turn : (p : Pass) (n : ℕ) (vias : List Via) (spots : List Spot) (arrays : Arrays) (bytes : List ℕ)
    → AreApart spots
    → arrays_at p n vias spots arrays bytes
    ≡ intervals_from p vias 0 (first_group n spots) (other_groups n spots) arrays bytes
unfolding arrays_at turns_of
scans-in-turn p n vias spots arrays bytes apart =
    search (rules, all-groups n spots, intervals-in-turn, first-map, others-map)

-- ---- readers in a row

pub same-on : {A B : Type 0} (f g : A → Reads B) → ((x : A) (t : Text) → f x t ≡ g x t)
    → (o : Result (A × Text) Fault) → read_on f o ≡ read_on g o
same-on f g h n = search rules

pub on-on : {A B C : Type 0} (f : A → Reads B) (g : B → Reads C) (o : Result (A × Text) Fault)
    → read_on g (read_on f o) ≡ read_on (λ x. λ t. read_on g (f x t)) o
on-on f g n = search rules

-- ---- blocks in a row

pub blocks-append : (p : Pass) (vias : List Via) (n : ℕ) (xs ys : List Spot) (old : Counted) (t : Text)
    → blocks_from p vias n (xs ++ ys) old t ≡ read_on (blocks_from p vias n ys) (blocks_from p vias n xs old t)
unfolding blocks_from
blocks-append p vias n [] ys old t = refl
blocks-append p vias n (s ∷ xs) ys old t = search (rules, same-on, on-on, blocks-append p vias n xs)

-- ---- blocks between restarts

abbrev pub counted : ℕ → ℕ → Reached → Counted
counted left number r = record { reached = r; left = left; number = number; beyond = Zeros }

-- no restart stands before the next of this many blocks
abbrev pub GoesOn : ℕ → ℕ → ℕ → Type 0
GoesOn n left blocks = (n ≡ 0) ⊎ (blocks ≤ left)

begun-same : (n : ℕ) (old : Counted) (t : Text) → (nat_lt 0 n && old.left == 0) ≡ false
    → begun_from n old t ≡ Ok (old, t)
unfolding begun_from
begun-same n old t e = search rules

-- where no restart stands between them, blocks that are counted are read as they are without
pub blocks-within : (p : Pass) (vias : List Via) (n : ℕ) (spots : List Spot) (left number : ℕ) (old : Reached)
    (t : Text) → GoesOn n left (length spots)
    → blocks_from p vias n spots (counted left number old) t
    ≡ read_on (λ r. gives (counted (left - length spots) number r)) (turns_from p vias spots old t)
unfolding blocks_from next_from turns_from
blocks-within p vias n [] left number old t h = ap (λ (k : ℕ). gives (counted k number old) t) (omega arith)
blocks-within p vias n (s ∷ spots) left number old t h =
    search (rules, begun-same, le-ltb, ne_eqb, and-false, on-on, same-on, blocks-within p vias n spots)

-- where none is left, a restart stands before the next
restarts : (p : Pass) (vias : List Via) (n number : ℕ) (s : Spot) (spots : List Spot) (old : Reached)
    (t : Text) → 0 < n → blocks_from p vias n (s ∷ spots) (counted 0 number old) t
    ≡ read_on (λ (u : Unit {0}). blocks_from p vias n (s ∷ spots) (counted n ((number + 1) % 8) (at_start old.arrays)))
    (restart_from Zeros number t)
unfolding blocks_from next_from begun_from
restarts p vias n number s spots old t some =
    search (rules, lt-ltb, on-on, same-on, begun-same, ne_eqb, and-false)

-- ---- a scan

abbrev pub finished : Result (Counted × Text) Fault → Outcome (Arrays × Option Marker)
finished o = reading.◌>>=◌ o (λ r. reading.◌>>=◌ (marker_from r.1) (λ m. Ok ((r.0.reached.arrays, m.0), m.1)))

abbrev pub shut : Result (Reached × Text) Fault → Outcome (Arrays × Option Marker)
shut o = reading.◌>>=◌ o (λ r. reading.◌>>=◌ (marker_from r.1) (λ m. Ok ((r.0.arrays, m.0), m.1)))

one-interval : (p : Pass) (vias : List Via) (n k : ℕ) (spots : List Spot) (arrays : Arrays) (bytes : List ℕ)
    → GoesOn n n (length spots)
    → finished (blocks_from p vias n spots (counted n k (at_start arrays)) (upcoming fresh bytes))
    ≡ interval_from p vias spots arrays bytes
unfolding interval_from
one-interval p vias n k spots arrays bytes h = search (rules, blocks-within)

cut-either : (n : ℕ) (zs : List Spot) → (drop n zs ≡ []) ⊎ (length (take n zs) ≡ n)
cut-either (suc n) (z ∷ zs) = search (rules, cut-either n zs)
cut-either n zs = search rules

pub some-product : (n size : ℕ) → 0 < n → 0 < size → 0 < n * size
some-product n k a b = search rules

pub intervals-in-blocks : (p : Pass) (vias : List Via) (n fuel : ℕ) (xs ys : List Spot) (j k : ℕ)
    (arrays : Arrays) (bytes : List ℕ) → j ≡ k % 8
    → 0 < n → length ys ≤ fuel → length xs ≤ n → (ys ≡ []) ⊎ (length xs ≡ n)
    → finished (blocks_from p vias n (xs ++ ys) (counted n j (at_start arrays)) (upcoming fresh bytes))
    ≡ intervals_from p vias k xs (groups fuel n ys) arrays bytes
unfolding intervals_from interval_from groups restart_from
intervals-in-blocks p vias n fuel xs [] j k arrays bytes same some few most whole =
    search (rules, append-nil, one-interval)
intervals-in-blocks p vias n zero xs (y ∷ ys) j k arrays bytes same some few most whole = absurd (omega arith)
intervals-in-blocks p vias n (suc fuel) xs (y ∷ ys) j k arrays bytes same some few most (inl none) = absurd (cc)
intervals-in-blocks p vias n (suc fuel) xs (y ∷ ys) j k arrays bytes same some few most (inr whole) =
    let zs = y ∷ ys in
    let t = upcoming fresh bytes in
    let start = at_start arrays in
    let F : Arrays → List ℕ → Outcome (Arrays × Option Marker) =
    λ a b. intervals_from p vias (suc k) (take n zs) (groups fuel n (drop n zs)) a b in
    let rec : (a : Arrays) (b : List ℕ)
    → finished (blocks_from p vias n zs (counted n ((j + 1) % 8) (at_start a)) (upcoming fresh b)) ≡ F a b
    = λ a b.
    ap (λ (l : List Spot). finished
    (blocks_from p vias n l (counted n ((j + 1) % 8) (at_start a)) (upcoming fresh b))) (sym (take-append-drop n zs))
    ∙ intervals-in-blocks p vias n fuel (take n zs) (drop n zs) ((j + 1) % 8) (suc k) a b
    (omega arith) some (omega (arith, length-drop n zs)) (omega (arith, length-take n zs)) (cut-either n zs) in
    let o = turns_from p vias xs start t in
    ap finished (blocks-append p vias n xs zs (counted n j start) t
    ∙ ap (read_on (blocks_from p vias n zs)) (search (rules, blocks-within))
    ∙ on-on (λ r. gives (counted 0 j r)) (blocks_from p vias n zs) o
    ∙ same-on (λ r. λ v. blocks_from p vias n zs (counted 0 j r) v)
    (λ r. λ v. read_on (λ (u : Unit {0}). blocks_from p vias n zs (counted n ((j + 1) % 8) (at_start r.arrays)))
    (restart_from Zeros k v))
    (search (rules, restarts)) o)
    ∙ (search (rules, close))
  where
    close : (G : Reached → Reads Counted) (F : Arrays → List ℕ → Outcome (Arrays × Option Marker))
        → ((r : Reached) (b : List ℕ) → finished (G r (upcoming fresh b)) ≡ F r.arrays b)
        → (o : Result (Reached × Text) Fault)
        → finished (read_on (λ r. λ v. read_on (λ (u : Unit {0}). G r) (restart_from Zeros k v)) o)
        ≡ reading.◌>>=◌ (shut o) (next_interval k F)
    close n k same l = search rules

-- A scan in intervals of n blocks is the scan block by block.
pub scans-by-blocks : (p : Pass) (vias : List Via) (n : ℕ) (spots : List Spot) (arrays : Arrays) (bytes : List ℕ)
    → intervals_from p vias 0 (first_group n spots) (other_groups n spots) arrays bytes
    ≡ scan_from p vias n spots arrays bytes
unfolding scan_from intervals_from
scans-by-blocks p vias zero spots arrays bytes = sym (one-interval p vias 0 0 spots arrays bytes (inl refl))
scans-by-blocks p vias (suc n) spots arrays bytes =
    let N = suc n in
    cc (
      intervals-in-blocks p vias N (length spots) (take N spots) (drop N spots) 0 0 arrays bytes refl (omega arith)
          (omega (arith, length-drop N spots)) (omega (arith, length-take N spots)) (cut-either N spots),
      take-append-drop N spots,
    )

-- and so is one of a frame's components
pub frame-scans : (frame : Frame) (components : List Component) (p : Pass) (vias : List Via) (n : ℕ) (arrays : Arrays)
    (bytes : List ℕ) → AllByRecursion (Fits frame) components → AreArrays components arrays
    → arrays_at p n vias (spots_of frame components) arrays bytes
    ≡ scan_from p vias n (spots_of frame components) arrays bytes
frame-scans frame components p vias n arrays bytes fits sized =
    search (rules, scans-in-turn, scans-by-blocks, spots-apart)
