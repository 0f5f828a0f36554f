-- A piece of a refinement, as it is walked.
use Rattle.std.proofs.lemmas.Grind.{common_steps}
use Rattle.std.proofs.lemmas.Bool.Decides.{nat_tests}
use Rattle.std.proofs.Common.{◌≡◌, ℕ, suc, ◌+◌, ◌-◌, ◌<◌, ◌≤◌, ◌==◌, Bool, true, false, List, [], ◌∷◌, ◌++◌, length}
use Rattle.std.proofs.Common.{take, drop, set, get_or, ℤ, pos, Result, Ok, Err, refl, sym, ap, ◌∙◌, arith, append_assoc}
use Rattle.std.proofs.Common.{◌+ℤ◌, ◌/◌, ◌%◌, ◌^◌, negsuc, w16, FitsSigned, ◌*◌, Option, Some, None, pow_mono, zero}
use Rattle.std.proofs.Common.{map, replicate, cond, not, nat_eq, if◌then◌else◌, w8, w64, shr-shr, lit<}
use Rattle.std.proofs.lemmas.List.{drop_all, drop_more, take_all, append-nil, take-append-drop}
use Rattle.std.proofs.lemmas.List.{take_more_set, drop-set-lt, set-get_or, get_or-set_other}
use Rattle.std.proofs.lemmas.List.{length-map, get_or-map as get_or-map_within}
use Rattle.jpeg_bits.specs.Reading.{Fault, ◌>>=◌, Names, MayFail, Gives}
use Rattle.jpeg_bits.specs.Entropy.{Text, Ahead, Takes, bits_from, upcoming}
use Rattle.jpeg_bits.specs.Readers.{each}
use Rattle.jpeg_bits.specs.Refinement.{corrected, is_zero, through_zero, bit_of}
use Rattle.jpeg_bits.specs.Pieces.{corrected_from, piece_from, moved_within, distance_of}
use Rattle.jpeg_bits.proofs.BandSteps.{bind_same}
use Rattle.jpeg_bits.specs.Zigzag.{zigzag}
use Rattle.jpeg_bits.specs.ZigzagParts.{zigzag_part}
use Rattle.jpeg_bits.proofs.ZigzagIndices.{part-length, part-get, part-set}
use Rattle.std.proofs.Math.Pow.{pow_mono}
use Rattle.std.proofs.lemmas.Bool.{eqb-true, cases_lt, false≢true, lt-ltb, ne_eqb}
use Rattle.std.proofs.lemmas.Int.{int_wrap_fits, to_z-of_z}
use Rattle.std.specs.Int.{int_wrap, cast_unsigned, bit_at, bit_not, cast_signed}
use Rattle.jpeg_bits.specs.Passes.{or_bit}
use Rattle.jpeg_bits.specs.Stream.{Stream}
use Rattle.jpeg_bits.specs.Refusals.{answer_of}
use Rattle.jpeg_bits.specs.declared.error.Error.{Error}
use Rattle.jpeg_bits.proofs.Loops.{Names-through}
use mir.Val.{Val}
use denote.Array.{each as each_item}
use denote.Shadow.{shadow}
use denote.Signed.{SInt}
use Rattle.std.specs.Int.Count.{count_trailing_zeros, trailing_of_zero}
use Rattle.std.specs.Simd.Lanes.{sel_l, mask_l, zip2, top, Each1}
use Rattle.std.proofs.lemmas.Nat.Bits.{bit_at-zero, bit_at-trailing_zeros, bit_at_not, bit_at-lt}
use Rattle.std.proofs.lemmas.Simd.{tops_compared, zip2_splat, bitmask_splat, bit_mask_l}
use Rattle.std.proofs.Math.ListN.{get_or-map}
use Rattle.jpeg_bits.specs.Masks.{coefficient_at, MarksFrom, marked}

abbrev pub Walk : Type 0
Walk = Result ((ℕ × List ℤ) × Text) Fault

abbrev pub one_more : ℤ → Walk → Walk
one_more z w = w >>= λ w. Ok ((suc w.0.0, z ∷ w.0.1), w.1)

-- the piece up to zero number r, coefficient by coefficient
unfoldable pub walk_from : ℕ → ℕ → List ℤ → Text → Walk
walk_from al r [] t = Ok ((0, []), t)
walk_from al r (z ∷ numbers) t =
    elim (is_zero z) [
      | true ↦ elim (r == 0) [
        | true ↦ Ok ((1, z ∷ numbers), t)
        | false ↦ one_more z (walk_from al (r - 1) numbers t)
      ]
      | false ↦ corrected_from al z t >>= λ f. one_more f.0 (walk_from al r numbers f.1)
    ]

abbrev with_rest : ℕ → List ℤ → List ℤ × Text → Walk
with_rest n rest front = Ok ((n, front.0 ++ drop n rest), front.1)

unfoldable pub piece_of : ℕ → ℕ → List ℤ → Text → Walk
piece_of al n rest t = corrected al (take n rest) t >>= λ front. with_rest n rest front

index_zero : (al : ℕ) (z : ℤ) (t : Text) → is_zero z ≡ true → corrected_from al z t ≡ Ok (z, t)
unfolding corrected_from
index_zero al z t e = rw e refl

-- one coefficient of a piece, and then the others
piece_step : (al n : ℕ) (z : ℤ) (rest : List ℤ) (t : Text) → piece_of al (suc n) (z ∷ rest) t ≡
    (corrected_from al z t
    >>= λ (f : ℤ × Text). one_more f.0 (piece_of al n rest f.1))
unfolding piece_of corrected corrected_from each
piece_step al n z rest t = grind arith

piece_zero : (al : ℕ) (rest : List ℤ) (t : Text) → piece_of al 0 rest t ≡ Ok ((0, rest), t)
unfolding piece_of corrected each
piece_zero al rest t = refl

-- a zero that ends the piece
walk_ends : (al : ℕ) (z : ℤ) (numbers : List ℤ) (t : Text) → is_zero z ≡ true
    → piece_of al 1 (z ∷ numbers) t ≡ Ok ((1, z ∷ numbers), t)
walk_ends al z numbers t e = grind (arith, piece_step, index_zero, piece_zero)

walk_over : (al n : ℕ) (z : ℤ) (numbers : List ℤ) (t : Text) (w : Walk) → is_zero z ≡ true →
    piece_of al n numbers t ≡ w
    → piece_of al (suc n) (z ∷ numbers) t ≡ one_more z w
walk_over al n z numbers t w e h = grind (arith, piece_step, index_zero)

walk_value_at : (al n : ℕ) (z : ℤ) (numbers : List ℤ) (t : Text) (w : Text → Walk)
    → ((t : Text) → piece_of al n numbers t ≡ w t) → piece_of al (suc n) (z ∷ numbers) t ≡
    (corrected_from al z t
    >>= λ (f : ℤ × Text). one_more f.0 (w f.1))
walk_value_at al n z numbers t w h = grind (arith, piece_step, bind_same)

pub by_bool : {P : Type 0} (b : Bool) → (b ≡ true → P) → (b ≡ false → P) → P
by_bool b f g = grind arith

pub piece_walk : (al r : ℕ) (rest : List ℤ) (t : Text) → piece_of al (through_zero r rest) rest t ≡ walk_from al r rest
    t
unfolding walk_from through_zero
piece_walk al r [] t = piece_zero al [] t
piece_walk al r (z ∷ numbers) t =
    by_bool (is_zero z) (λ e. by_bool (r == 0) (λ n. rw (e, n, through_zero, walk_from) (walk_ends _ _ _ _ e))
    (λ n. rw (e, n, through_zero, walk_from) (walk_over _ _ _ _ _ _ e (piece_walk al (r - 1) numbers t))))
    (λ e. rw (e, through_zero, walk_from) (walk_value_at _ _ _ _ _ _ (λ t. piece_walk al r numbers t)))

abbrev pub after : ℕ → List ℤ → (ℕ × List ℤ) × Text → Walk
after i front w = Ok ((i + w.0.0, front ++ w.0.1), w.1)

-- what the coefficients from i on give, after those before them
unfoldable pub walk_left : ℕ → ℕ → List ℤ → ℕ → Text → Walk
walk_left al r cur i t = walk_from al r (drop i cur) t >>= λ w. after i (take i cur) w

abbrev pub at_zero : Walk → Walk
at_zero w = w >>= λ w. after 0 [] w

pub walk_all : (al r : ℕ) (rest : List ℤ) (t : Text) → walk_left al r rest 0 t ≡ piece_from al r rest t
unfolding walk_left piece_from piece_of
walk_all al r rest t = by_walk (walk_from al r rest t) ∙ sym (piece_walk al r rest t)
  where
    by_walk : (w : Walk) → at_zero w ≡ w
    by_walk (Ok x) = ap (λ n. Ok ((n, x.0.1), x.1)) (omega arith)
    by_walk (Err e) = refl

pub walk_none : (al r : ℕ) (cur : List ℤ) (i : ℕ) (t : Text) → length cur ≤ i → walk_left al r cur i t ≡ Ok (
  (i, cur),
  t,
)
unfolding walk_left walk_from
walk_none al r cur i t h = grind (arith, drop_all, append-nil, take_all)

more_left : (i : ℕ) (front : List ℤ) (z : ℤ) (w : Walk) → (one_more z w >>= λ w. after i front w) ≡ (w >>= λ w.
    after (i + 1) (front ++ z ∷ []) w)
more_left i front z w = grind (arith, append_assoc)

from_here : (cur : List ℤ) (i : ℕ) (z : ℤ) → i < length cur → get_or cur i (pos 0) ≡ z
    → drop i cur ≡ z ∷ drop (i + 1) cur
from_here cur i z h e = drop_more cur i (pos 0) h ∙ ap (λ (z : ℤ). z ∷ drop (i + 1) cur) e

through_here : (cur : List ℤ) (i : ℕ) (z : ℤ) → i < length cur → get_or cur i (pos 0) ≡ z
    → take i cur ++ z ∷ [] ≡ take (i + 1) cur
through_here cur i z h e = grind (arith, common_steps, nat_tests, take_more_set, set-get_or)

-- the zero that ends the piece
pub walk_stop : (al r : ℕ) (cur : List ℤ) (i : ℕ) (t : Text) → i < length cur → get_or cur i (pos 0) ≡ pos 0 → r ≡ 0
    → walk_left al r cur i t ≡ Ok ((i + 1, cur), t)
unfolding walk_left walk_from
walk_stop al r cur i t h e z = grind (arith, from_here, take-append-drop)

-- a zero before it
pub walk_skip : (al r : ℕ) (cur : List ℤ) (i : ℕ) (t : Text) → i < length cur → get_or cur i (pos 0) ≡ pos 0 → 0 < r
    → walk_left al r cur i t ≡ walk_left al (r - 1) cur (i + 1) t
unfolding walk_left walk_from
walk_skip al r cur i t h e k = grind (arith, nat_tests, from_here, more_left, through_here)

walk_nonzero : (al r : ℕ) (z : ℤ) (rest : List ℤ) (t : Text) → is_zero z ≡ false
    → walk_from al r (z ∷ rest) t ≡ (corrected_from al z t >>= λ (f : ℤ × Text). one_more f.0
    (walk_from al r rest f.1))
unfolding walk_from
walk_nonzero al r z rest t e = grind arith

pub not_zero : (z : ℤ) → (z ≡ pos 0 → ⊥) → is_zero z ≡ false
not_zero z h = grind arith

bind_bind : (o : Result (ℤ × Text) Fault) (f : ℤ × Text → Walk) (i : ℕ) (front : List ℤ)
    → ((o >>= f) >>= λ w. after i front w) ≡ (o >>= λ (x : ℤ × Text). (f x >>= λ w. after i front w))
bind_bind o f i front = grind arith

-- a coefficient that isn't zero
pub walk_value : (al r : ℕ) (cur : List ℤ) (i : ℕ) (t : Text) → i < length cur → (get_or cur i (pos 0) ≡ pos 0 → ⊥)
    → walk_left al r cur i t ≡ (corrected_from al (get_or cur i (pos 0)) t
    >>= λ (f : ℤ × Text). walk_left al r (set cur i f.0) (i + 1) f.1)
unfolding walk_left
walk_value al r cur i t h e =
    let z = get_or cur i (pos 0) in
    ap (λ (ys : List ℤ). walk_from al r ys t >>= λ w. after i (take i cur) w) (from_here cur i _ h refl)
    ∙ ap (λ o. o >>= λ w. after i (take i cur) w) (walk_nonzero _ _ _ _ _ (not_zero z e))
    ∙ bind_bind (corrected_from al z t) (λ (f : ℤ × Text). one_more f.0 (walk_from al r (drop (i +
    1) cur) f.1)) i (take i cur)
    ∙ bind_same (corrected_from al z t) _ _ (grind (arith, more_left, take_more_set, drop-set-lt))

-- a step at a coefficient that isn't zero, which is read as y
pub value_step : (al r : ℕ) (cur : List ℤ) (i : ℕ) (x y z : ℤ) (t u : Text) → i < length cur
    → (get_or cur i (pos 0) ≡ pos 0 → ⊥) → x ≡ get_or cur i (pos 0) → y ≡ z
    → corrected_from al x t ≡ Ok (z, u) → walk_left al r cur i t ≡ walk_left al r (set cur i y) (i + 1) u
value_step al r cur i x y z t u h e p q o = grind (arith, walk_value)

pub value_refused : (al r : ℕ) (cur : List ℤ) (i : ℕ) (x : ℤ) (t : Text) (f : Fault) → i < length cur
    → (get_or cur i (pos 0) ≡ pos 0 → ⊥) → x ≡ get_or cur i (pos 0)
    → corrected_from al x t ≡ Err f → walk_left al r cur i t ≡ Err f
value_refused al r cur i x t f h e p o = grind (arith, walk_value)

-- ---- a piece of a refinement, as it is walked over the zigzag indices of a block in block order

-- what the zigzag indices from k on give, after those before them
abbrev pub walk_at : ℕ → ℕ → ℕ → ℕ → List ℤ → ℕ → Text → Walk
walk_at al r from end block k t = walk_left al r (zigzag_part from end block) (k - from) t

pub at-start : (al r from end : ℕ) (block : List ℤ) (t : Text)
    → walk_at al r from end block from t ≡ piece_from al r (zigzag_part from end block) t
at-start al r from end block t = let none : from - from ≡ 0 = omega arith in grind (arith, walk_left, walk_all)

pub at-end : (al r from end k : ℕ) (block : List ℤ) (t : Text) → end ≤ 64 → k ≡ end
    → walk_at al r from end block k t ≡ Ok ((end - from, zigzag_part from end block), t)
at-end al r from end k block t within e = grind (arith, part-length, walk_none)

-- at coefficient k of the piece, which stands at this index of the block
module _ (al r from end k index : ℕ) (block : List ℤ) (within : end ≤ 64) (after : from ≤ k) (lt :
    k < end)
    (is : index ≡ get_or zigzag k 0) where
  inside : k - from < length (zigzag_part from end block)
  inside = omega (arith, part-length from end block within)

  same : get_or (zigzag_part from end block) (k - from) (pos 0) ≡ get_or block index (pos 0)
  same = part-get from end k block (pos 0) after lt within ∙ ap (λ (i : ℕ). get_or block i (pos 0)) (sym is)

  next : k - from + 1 ≡ k + 1 - from
  next = omega arith

  -- the zero that ends the piece
  pub at-stop : (t : Text) → get_or block index (pos 0) ≡ pos 0 → r ≡ 0
      → walk_at al r from end block k t ≡ Ok ((k + 1 - from, zigzag_part from end block), t)
  at-stop t is-zero none = grind (arith, walk_stop, inside, same, next)

  -- a zero before it
  pub at-skip : (t : Text) → get_or block index (pos 0) ≡ pos 0 → 0 < r
      → walk_at al r from end block k t ≡ walk_at al (r - 1) from end block (k + 1) t
  at-skip t is-zero some = grind (arith, walk_skip, inside, same, walk_left, next)

  -- a coefficient that isn't zero, which is read as x and written as y
  pub at-value : (x y z : ℤ) (t u : Text) → length block ≡ 64 → (get_or block index (pos 0) ≡ pos 0
      → ⊥)
      → x ≡ get_or block index (pos 0) → y ≡ z → corrected_from al x t ≡ Ok (z, u)
      → walk_at al r from end block k t ≡ walk_at al r from end (set block index y) (k + 1) u
  at-value x y z t u n some read written h =
      value_step _ _ _ _ x _ z _ _ inside (λ e. some (sym same ∙ e)) (read ∙ sym same) written h
      ∙ ap (λ (xs : List ℤ). walk_left al r xs (k - from + 1) u) (sym (ap (λ (i : ℕ). zigzag_part from end
      (set block i y)) is ∙ part-set _ _ _ _ _ n after lt within))
      ∙ ap (λ (i : ℕ). walk_left al r (zigzag_part from end (set block index y)) i u) next

  pub at-refused : (x : ℤ) (t : Text) (f : Fault) → (get_or block index (pos 0) ≡ pos 0 → ⊥)
      → x ≡ get_or block index (pos 0) → corrected_from al x t ≡ Err f → walk_at al r from end
      block k t ≡ Err f
  at-refused x t f some read h = grind (arith, value_refused, inside, same)

-- ---- the bits of a mask, and the coefficients that they stand for

-- a number to 13, one by one
pub by_level : (P : ℕ → Type 0) → P 0 → P 1 → P 2 → P 3 → P 4 → P 5 → P 6 → P 7 → P 8 → P 9 → P 10 → P 11 → P 12 → P 13
    → (al : ℕ) → al ≤ 13 → P al
by_level P p0 p1 p2 p3 p4 p5 p6 p7 p8 p9 p10 p11 p12 p13 al h = grind arith

negative : (n : ℕ) → n < 32768 → (al : ℕ) → al ≤ 13 → (65535 - n) / 2 ^ al % 2 ≡ 1 - n / 2 ^ al % 2
negative n f = by_level (λ al. (65535 - n) / 2 ^ al % 2 ≡ 1 - n / 2 ^ al % 2) (omega arith) (omega arith) (omega arith)
    (omega arith) (omega arith) (omega arith) (omega arith) (omega arith) (omega arith) (omega arith) (omega arith)
    (omega arith) (omega arith) (omega arith)

pub unsigned_bit : (al : ℕ) (z : ℤ) → al ≤ 13 → FitsSigned w16 z → cast_unsigned w16 z / 2 ^ al % 2 ≡ bit_of al z
unsigned_bit al (pos n) h f = refl
unsigned_bit al (negsuc n) h f = let s = f.sfits in let e : 65536 - suc n ≡ 65535 - n =
    omega arith in ap (λ (k : ℕ). k / 2 ^ al % 2) e ∙ negative n (omega arith) al h

set-below : (n : ℕ) → n < 32768 → (al : ℕ) → al ≤ 13 → n / 2 ^ al % 2 ≡ 0 → n + 2 ^ al < 32768
set-below n f = by_level (λ al. n / 2 ^ al % 2 ≡ 0 → n + 2 ^ al < 32768) (λ h. omega arith) (λ h. omega arith)
    (λ h. omega arith) (λ h. omega arith) (λ h. omega arith) (λ h. omega arith) (λ h. omega arith) (λ h. omega arith)
    (λ h. omega arith) (λ h. omega arith) (λ h. omega arith) (λ h. omega arith) (λ h. omega arith) (λ h. omega arith)

-- ---- a bit that is set

pub or_none : (al : ℕ) (z : ℤ) (b : ℕ) → b ≡ 0 → or_bit al z b ≡ z
or_none al z b e = grind arith

pub or_kept : (al : ℕ) (z : ℤ) (b : ℕ) → (bit_of al z == 0) ≡ false → or_bit al z b ≡ z
or_kept al z b e = rw (e, or_bit) refl

sum-fits : (n k : ℕ) → n < 32768 → k < 32768 → FitsSigned w16 (negsuc n +ℤ pos k)
sum-fits n k h i = grind (arith, cases_lt)

set-fits : (al : ℕ) (z : ℤ) → al ≤ 13 → FitsSigned w16 z → bit_of al z ≡ 0 → FitsSigned w16 (z +ℤ pos (2 ^ al))
set-fits al z h f e = grind (arith, set-below, pow_mono, sum-fits)

pub or_set : (al : ℕ) (z : ℤ) (b : ℕ) → al ≤ 13 → FitsSigned w16 z → (bit_of al z == 0) ≡ true → b ≡ 1
    → int_wrap w16 (z +ℤ pos (2 ^ al)) ≡ or_bit al z b
or_set al z b h f t e = grind (arith, int_wrap_fits, set-fits, eqb-true)

pub ruleset or_rules = (or_set, or_kept)

-- ---- a number that isn't 0, and its correction bit

-- at most the unit of the highest level
pub small_distance : (b l p : ℕ) → b < 2 → l < 2 → p ≤ 8192 → b * l * p ≤ 8192
small_distance b l p h k m = grind arith

-- a number that isn't moved
stays : (z : ℤ) (n : ℕ) → FitsSigned w16 z → n ≡ 0 → moved_within n z ≡ Ok z
stays z n f e = grind (arith, lt-ltb)

-- a value, and the text after it
abbrev pub given : {Y : Type 0} → Text → Result Y Fault → Result (Y × Text) Fault
given {Y} u o = ◌>>=◌ {B = Y × Text} o (λ m. Ok (m, u))

pub index-moved : (al : ℕ) (z : ℤ) (b : ℕ) (t u : Text) → is_zero z ≡ false → FitsSigned w16 z → b
    < 2
    → bits_from 1 t ≡ Ok (b, u)
    → corrected_from al z t ≡ given u (moved_within (distance_of al z b) z)
unfolding corrected_from
index-moved al z b t u n f h e = grind (arith, stays, ne_eqb)

fails : {Y : Type 0} (e : Error) (o : Result Y Fault) (a b : Bool) → b ≡ a → Names e o → MayFail e a b
fails e o a b s n = grind arith

-- A value that is made of one that was taken.
pub Takes-given : {X Y : Type 0} (whole : Text → Result (Y × Text) Fault) (read : Text → Result (X × Text) Fault)
    (a d : Ahead) (old new : Stream) (x : X) (outcome : Result Y Fault) (y : Option Y) (refusal : Option Error)
    → ((t u : Text) → read t ≡ Ok (x, u) → whole t ≡ given u outcome)
    → Takes (λ x. x) read a old (Ok x) d new → Gives outcome (answer_of y refusal)
    → Takes (λ y. y) whole a old (answer_of y refusal) d new
Takes-given {X} {Y} whole read a d old new x outcome (Some y) refusal step p g = (
  p.0,
  λ k. let at = p.1 k in (at.0, step _ _ at.1 ∙ ap (given (upcoming d new.bytes)) g),
)
Takes-given {X} {Y} whole read a d old new x outcome None refusal step p g = (
  fails _ outcome _ _ p.0 g,
  λ k known. let at = p.1 k in
      Names-through _ _ _ (λ f h. step _ _ at.1 ∙ ap (given (upcoming d new.bytes)) h) g,
  λ k known. absurd (false≢true (sym known ∙ (p.1 k).0)),
)

-- a coefficient whose correction bit is 0 stays
pub index-kept : (al : ℕ) (z : ℤ) (t : Text) → bits_from 1 t ≡ Ok (0, t) → corrected_from al z t ≡
    Ok (z, t)
unfolding corrected_from
index-kept al z t e = by_bool (is_zero z) (λ zero. rw zero refl) (λ some. rw (some, e) refl)

pub ruleset distances = (pow_mono, unsigned_bit, small_distance)

-- ---- the bits of a mask, and the coefficients that they stand for

-- each coefficient fits, by what its type says
pub all_fit : (xs : List ℤ) (us : List Val) → shadow (each_item ℤ (SInt w16).own_val xs us) → (k : ℕ)
    → FitsSigned w16 (get_or xs k (pos 0))
all_fit [] us p k = record { sfits = lit< tt }
all_fit (x ∷ xs) [] p k = absurd p
all_fit (x ∷ xs) (u ∷ us) p zero = record { sfits = p.0.1 }
all_fit (x ∷ xs) (u ∷ us) p (suc k) = all_fit xs us p.1 k

-- ---- the zeros before the next bit that is set

shifted : (m i k : ℕ) → bit_at (m / 2 ^ i) k ≡ bit_at m (i + k)
shifted m i k = ap (λ (x : ℕ). x % 2) (shr-shr m i k)

clear-before : (n k : ℕ) → n < 2 ^ 64 → k < count_trailing_zeros 64 n → bit_at n k ≡ 0
clear-before zero k fits lt = bit_at-zero k
clear-before (suc n) k fits lt = (bit_at-trailing_zeros w64 (suc n) (omega arith) fits).2 k lt

set-at : (n : ℕ) → n < 2 ^ 64 → count_trailing_zeros 64 n < 64 → bit_at n (count_trailing_zeros 64 n) ≡ 1
set-at zero fits lt = absurd (let e = trailing_of_zero 64 in omega (arith, e))
set-at (suc n) fits lt = (bit_at-trailing_zeros w64 (suc n) (omega arith) fits).1

pub clear_from : (m i k : ℕ) → m / 2 ^ i < 2 ^ 64 → k < count_trailing_zeros 64 (m / 2 ^ i) → bit_at m (i + k) ≡ 0
clear_from m i k fits lt = sym (shifted m i k) ∙ clear-before (m / 2 ^ i) k fits lt

pub set_after : (m i : ℕ) → m / 2 ^ i < 2 ^ 64 → count_trailing_zeros 64 (m / 2 ^ i) < 64
    → bit_at m (i + count_trailing_zeros 64 (m / 2 ^ i)) ≡ 1
set_after m i fits lt = sym (shifted m i (count_trailing_zeros 64 (m / 2 ^ i))) ∙ set-at (m / 2 ^ i) fits lt

-- ---- which lanes aren't 0

abbrev differ : ℕ → ℕ → Bool
differ a b = not (nat_eq a b)

-- 1 in the lanes that are set, of n
abbrev chosen : ℕ → List Bool → List ℕ
chosen n set = sel_l set (replicate n 1) (replicate n 0)

abbrev residues : List ℤ → List ℕ
residues zs = map (cast_unsigned w16) zs

-- all bits of the lanes that aren't 0
abbrev compared : ℕ → List ℕ → List ℕ
compared ones xs = zip2 (λ (a b : ℕ). cond (differ a b) ones 0) xs (replicate 64 0)

unequal : (z : ℤ) → FitsSigned w16 z → (z ≡ pos 0 → ⊥) → nat_eq (cast_unsigned w16 z) 0 ≡ false
unequal z f h = ne_eqb (cast_unsigned w16 z) 0 (λ e. h (sym (to_z-of_z w16 z f) ∙ ap (cast_signed w16) e))

marked-is : (z : ℤ) → FitsSigned w16 z → cond (differ (cast_unsigned w16 z) 0) 1 0 ≡ marked z
marked-is z f = grind (arith, unequal)

marked-all : (zs : List ℤ) → ((k : ℕ) → FitsSigned w16 (get_or zs k (pos 0)))
    → chosen (length zs) (map (λ (x : ℕ). differ x 0) (residues zs)) ≡ map marked zs
marked-all [] f = refl
marked-all (z ∷ zs) f =
    ap (λ (n : ℕ). n ∷ chosen (length zs) (map (λ (x : ℕ). differ x 0) (residues zs))) (marked-is z (f 0))
    ∙ ap (λ (ns : List ℕ). marked z ∷ ns) (marked-all zs (λ k. f (suc k)))

pub marked_lanes : (zs : List ℤ) → length zs ≡ 64 → ((k : ℕ) → FitsSigned w16 (get_or zs k (pos 0)))
    → chosen 64 (map (top 15) (compared 65535 (residues (take 64 zs)))) ≡ map marked zs
marked_lanes zs n f =
    ap (λ (ys : List ℤ). chosen 64 (map (top 15) (compared 65535 (residues ys)))) (take_all 64 zs (omega (arith, n)))
    ∙ ap (chosen 64) (tops_compared w16 differ (residues zs) (replicate 64 0)
    ∙ zip2_splat differ (residues zs) 64 0 (length-map zs (cast_unsigned w16) ∙ n))
    ∙ ap (λ (m : ℕ). chosen m (map (λ (x : ℕ). differ x 0) (residues zs))) (sym n) ∙ marked-all zs f

pub marked_small : (zs : List ℤ) → Each1 (λ x. x < 256) (map marked zs)
marked_small [] = tt
marked_small (z ∷ zs) = grind (arith, marked_small zs)

abbrev pub one_or : Bool → ℕ
one_or b = if b then 0 else 1

either : (b : Bool) → cond (not b) 1 0 ≡ one_or b
either b = grind arith

pub mask_bits : (values : List ℕ) (k : ℕ) → length values ≡ 64
    → bit_at (mask_l (map (top 7) (compared 255 values)) % 2 ^ 64) k ≡ one_or (get_or values k 0 == 0)
mask_bits values k n =
    ap (λ (m : ℕ). bit_at m k) (bitmask_splat w8 differ values 64 0 n (omega arith))
    ∙ bit_mask_l (map (λ (x : ℕ). differ x 0) values) k
    ∙ ap (λ (b : Bool). cond b 1 0) (get_or-map (λ (x : ℕ). differ x 0) values k 0)
    ∙ either (nat_eq (get_or values k 0) 0)

-- ---- the coefficients that a mask marks

zero-marked : (z : ℤ) → marked z ≡ 0 → z ≡ pos 0
zero-marked z e = grind arith

-- with another coefficient written
pub others-kept : (k n : ℕ) (block : List ℤ) (v : ℤ) → length block ≡ 64 → k < 64 → n < 64 → (n ≡ k → ⊥)
    → coefficient_at n (set block (get_or zigzag k 0) v) ≡ coefficient_at n block
others-kept k n block v long within inside apart =
    sym (part-get 0 64 n (set block (get_or zigzag k 0) v) (pos 0) (omega arith) inside (omega arith))
    ∙ ap (λ (zs : List ℤ). get_or zs (n - 0) (pos 0)) (part-set 0 64 k block v long (omega arith) within (omega arith))
    ∙ get_or-set_other (zigzag_part 0 64 block) (k - 0) (n - 0) v (pos 0) (λ e. apart (omega (arith, e)))
    ∙ part-get 0 64 n block (pos 0) (omega arith) inside (omega arith)

pub marks-set : (mask k from : ℕ) (block : List ℤ) (v : ℤ) → length block ≡ 64 → k < from → k < 64
    → MarksFrom mask from block → MarksFrom mask from (set block (get_or zigzag k 0) v)
marks-set mask k from block v long before within h = record {
  zeros = λ n after inside clear.
      others-kept k n block v long within inside (λ e. omega (arith, e)) ∙ h.zeros n after inside clear;
  values = λ n after inside set e.
      h.values n after inside set (sym (others-kept k n block v long within inside (λ e. omega (arith, e))) ∙ e);
}

pub marks-later : (mask from next : ℕ) (block : List ℤ) → from ≤ next → MarksFrom mask from block
    → MarksFrom mask next block
marks-later mask from next block after h = grind arith

abbrev in_order : List ℤ → List ℕ
in_order zs = map (λ (index : ℕ). get_or (map marked zs) index 0) zigzag

marked-at : (zs : List ℤ) (k : ℕ) → k < 64 → get_or (in_order zs) k 0 ≡ marked (coefficient_at k zs)
marked-at zs k within =
    get_or-map_within (λ (index : ℕ). get_or (map marked zs) index 0) zigzag k 0 0 within
    ∙ get_or-map marked zs (get_or zigzag k 0) (pos 0)

one-or-zero : (n : ℕ) → one_or (n == 0) ≡ 0 → n ≡ 0
one-or-zero n e = grind (arith, ne_eqb)

marked-one : (z : ℤ) → one_or (marked z == 0) ≡ 1 → z ≡ pos 0 → ⊥
marked-one z e h = grind arith

pub marks : (mask : ℕ) (zs : List ℤ)
    → ((k : ℕ) → bit_at mask k ≡ one_or (get_or (in_order zs) k 0 == 0)) → MarksFrom mask 0 zs
marks mask zs h = record {
  zeros = λ k after within clear.
      zero-marked (coefficient_at k zs) (sym (marked-at zs k within) ∙ one-or-zero _ (sym (h k) ∙ clear));
  values = λ k after within set.
      marked-one (coefficient_at k zs)
      (ap (λ (n : ℕ). one_or (n == 0)) (sym (marked-at zs k within)) ∙ sym (h k) ∙ set);
}

-- ---- a piece that is walked from one coefficient that isn't 0 to the next

pub gap-zeros : (mask index gap : ℕ) (block : List ℤ) → index + gap ≤ 64 → MarksFrom mask index block
    → ((k : ℕ) → k < gap → bit_at mask (index + k) ≡ 0) → (i : ℕ) → index ≤ i → i < index + gap
    → coefficient_at i block ≡ pos 0
gap-zeros mask index gap block within m zeros i after before =
    let e : i ≡ index + (i - index) = omega arith in
    m.zeros i after (omega arith) (ap (bit_at mask) e ∙ zeros (i - index) (omega arith))

-- where a bit isn't set in the complement, it is set
set-in : (mask i : ℕ) → mask < 2 ^ 64 → i < 64 → bit_at (bit_not w64 mask) i ≡ 0 → bit_at mask i ≡ 1
set-in mask i fits within e = omega (arith, e, bit_at_not w64 mask i fits within, bit_at-lt mask i)

pub gap-values : (mask index gap : ℕ) (block : List ℤ) → mask < 2 ^ 64 → index + gap ≤ 64 → MarksFrom mask index block
    → ((k : ℕ) → k < gap → bit_at (bit_not w64 mask) (index + k) ≡ 0) → (i : ℕ) → index ≤ i → i < index + gap
    → coefficient_at i block ≡ pos 0 → ⊥
gap-values mask index gap block fits within m zeros i after before =
    let e : i ≡ index + (i - index) = omega arith in
    m.values i after (omega arith) (set-in _ _ fits (omega arith) (ap (bit_at (bit_not w64 mask)) e
    ∙ zeros (i - index) (omega arith)))

-- a bit that isn't set begins a gap
pub gap-some : (mask index gap end : ℕ) → mask < 2 ^ 64 → end ≤ 64 → index < end
    → bit_at (bit_not w64 mask) index ≡ 1 → (index + gap < end → bit_at mask (index + gap) ≡ 1) → 0 < gap
gap-some mask index zero end fits within before clear stop =
    let none : index + 0 ≡ index = omega arith in
    let one : bit_at mask index ≡ 1 = sym (ap (bit_at mask) none) ∙ stop (omega arith) in
    absurd (omega (arith, one, clear, bit_at_not w64 mask index fits (omega arith)))
gap-some mask index (suc gap) end fits within before clear stop = omega arith

module _ (al from end : ℕ) (block : List ℤ) (within : end ≤ 64) where
  -- values whose correction bits are 0
  pub at-keeps : (n r k : ℕ) (t : Text) → length block ≡ 64 → from ≤ k → k + n ≤ end
      → ((i : ℕ) → k ≤ i → i < k + n → coefficient_at i block ≡ pos 0 → ⊥) → bits_from 1 t ≡ Ok (0, t)
      → walk_at al r from end block k t ≡ walk_at al r from end block (k + n) t
  at-keeps zero r k t long after inside some e = grind (arith, walk_at)
  at-keeps (suc n) r k t long after inside some e =
      let z = coefficient_at k block in
      let b : k + 1 + n ≡ k + suc n = omega arith in
      at-value al r from end k (get_or zigzag k 0) block within after (omega arith) refl z z z t t long
      (some k (omega arith) (omega arith)) refl refl (index-kept al z t e)
      ∙ ap (λ (b : List ℤ). walk_at al r from end b (k + 1) t) (set-get_or block (get_or zigzag k 0) (pos 0))
      ∙ at-keeps n r (k + 1) t long (omega arith) (omega arith)
      (λ i later before. some i (omega arith) (omega arith)) e
      ∙ ap (λ (i : ℕ). walk_at al r from end block i t) b

  pub at-skips : (n r k : ℕ) (t : Text) → from ≤ k → k + n ≤ end → n ≤ r
      → ((i : ℕ) → k ≤ i → i < k + n → coefficient_at i block ≡ pos 0)
      → walk_at al r from end block k t ≡ walk_at al (r - n) from end block (k + n) t
  at-skips zero r k t after inside some zeros = grind (arith, walk_at)
  at-skips (suc n) r k t after inside some zeros =
      let others = at-skips n (r - 1) (k + 1) t (omega arith) (omega arith) (omega arith)
      (λ i later before. zeros i (omega arith) (omega arith)) in
      grind (arith, at-skip, walk_at, others)

  -- the zero that ends the piece stands in the gap
  pub at-gap : (gap r k : ℕ) (t : Text) → from ≤ k → k + gap ≤ end → r < gap
      → ((i : ℕ) → k ≤ i → i < k + gap → coefficient_at i block ≡ pos 0)
      → walk_at al r from end block k t ≡ Ok ((k + r + 1 - from, zigzag_part from end block), t)
  at-gap gap r k t after inside few zeros =
      at-skips _ _ _ _ after (omega arith) (omega arith) (λ i later before. zeros i later (omega arith))
      ∙ at-stop _ _ _ _ _ _ _ within (omega arith) (omega arith) refl _
      (zeros (k + r) (omega arith) (omega arith)) (omega arith)

  -- the band ends with the gap
  pub at-last-gap : (gap r k : ℕ) (t : Text) → from ≤ k → k + gap ≡ end → gap ≤ r
      → ((i : ℕ) → k ≤ i → i < k + gap → coefficient_at i block ≡ pos 0)
      → walk_at al r from end block k t ≡ Ok ((end - from, zigzag_part from end block), t)
  at-last-gap gap r k t after last some zeros =
      at-skips gap r k t after (omega (arith, last)) some zeros
      ∙ at-end al (r - gap) from end (k + gap) block t within last
