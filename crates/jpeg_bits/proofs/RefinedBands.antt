-- Bands of a refinement: what is left after some coefficients.
use Rattle.jpeg_bits.specs.Refinement as defined
use Rattle.std.proofs.Common.{rules, is_ok, ◌≡◌, ℕ, zero, suc, ◌+◌, ◌-◌, ◌<◌, ◌≤◌, List, [], ◌∷◌, ◌++◌, length, take}
use Rattle.std.proofs.Common.{drop, set, ℤ, Result, Ok, Err, refl, sym, ap, ◌∙◌, arith, append_assoc, length-drop}
use Rattle.std.proofs.Common.{length-take, length-append, length-set, le_refl, ◌/◌, ◌%◌, get_or, Option, Some, None}
use Rattle.std.proofs.Common.{is_some, Bool}
use Rattle.std.proofs.lemmas.List.{drop_all, take_all, append-nil, drop_at, take_at}
use Rattle.std.proofs.lemmas.List.{length-take-le, set-append_left, set-append_right}
use Rattle.std.proofs.lemmas.Bool.{false≢true}
use Rattle.jpeg_bits.specs.Reading.{Fault, ◌>>=◌}
use Rattle.jpeg_bits.specs.Entropy.{Text, Ahead, Takes, upcoming}
use Rattle.jpeg_bits.specs.Codes.{Table}
use Rattle.jpeg_bits.specs.declared.blocks.refinement.Refinement.{Refinement}
use Rattle.jpeg_bits.specs.declared.blocks.refinement.Refinement.TheVariants.{Zeros, New, End}
use Rattle.jpeg_bits.specs.Bands.{Band, before_more}
use Rattle.jpeg_bits.specs.Pieces.{ReadsBand, before, corrected_from, refinement_from, refined_piece_at, refined_ac_at}
use Rattle.jpeg_bits.specs.Pieces.{refined_band_from, piece_from, run_from, refinement_by}
use Rattle.jpeg_bits.specs.Readers.{each, gives, read_on, Reads}
use Rattle.jpeg_bits.specs.Refinement.{corrected, through_zero, with_last}
use Rattle.jpeg_bits.proofs.BandSteps.{bind_same, before-before, Leaves-ok, Leaves-err, Leaves-whole}
use Rattle.jpeg_bits.proofs.PieceWalks.{by_bool, Walk}
use Rattle.jpeg_bits.specs.Stream.{Stream}
use Rattle.jpeg_bits.specs.Passes.{Pass}
use Rattle.jpeg_bits.specs.Refusals.{answer_of, outcome_of}
use Rattle.jpeg_bits.specs.declared.error.Error.{Error}
use Rattle.jpeg_bits.specs.Zigzag.{zigzag}
use Rattle.jpeg_bits.specs.BlockView.{IsPass}
use Rattle.jpeg_bits.specs.ZigzagParts.{band_start, band_end, band_in, rest_in, IsKeptAround}
use Rattle.jpeg_bits.proofs.BandLoop.{Leaves}
use Rattle.jpeg_bits.proofs.ZigzagIndices.{band-length, part-length, part-rest, part-put, part-set}

through_zero_pos : (r : ℕ) (z : ℤ) (numbers : List ℤ) → 0 < through_zero r (z ∷ numbers)
unfolding through_zero
through_zero_pos r z following = grind (arith, by_bool)

through_zero_le : (r : ℕ) (numbers : List ℤ) → through_zero r numbers ≤ length numbers
unfolding through_zero
through_zero_le r [] = omega arith
through_zero_le r (z ∷ numbers) =
    grind (arith, by_bool, through_zero_le r numbers, through_zero_le (r - 1) numbers)

-- where there are too few zeros the piece is all coefficients
pub through_all : (r : ℕ) (numbers : List ℤ) → length numbers ≤ r → through_zero r numbers ≡ length
    numbers
unfolding through_zero
through_all r [] h = refl
through_all r (z ∷ numbers) h =
    grind (arith, by_bool, through_all (r - 1) numbers (omega arith), through_all r numbers (omega arith))

piece-same : (al : ℕ) (f g : ReadsBand) (x : ℤ) (numbers : List ℤ) (k : Refinement) (t : Text)
    → ((j : ℕ) (t : Text) → 0 < j → f (drop j (x ∷ numbers)) t ≡ g (drop j (x ∷ numbers)) t)
    → refined_piece_at al f (x ∷ numbers) k t ≡ refined_piece_at al g (x ∷ numbers) k t
unfolding refined_piece_at
piece-same al f g x numbers k t h = grind (arith, bind_same, through_zero_pos)

refined-fuel : (table : Table) (al n m : ℕ) (rest : List ℤ) (t : Text) → length rest ≤ n → length rest ≤ m
    → refined_ac_at table al n rest t ≡ refined_ac_at table al m rest t
unfolding refined_ac_at
refined-fuel table al n m [] t h k = refl
refined-fuel table al zero m (x ∷ rest) t h k = absurd (omega arith)
refined-fuel table al (suc n) zero (x ∷ rest) t h k = absurd (omega arith)
refined-fuel table al (suc n) (suc m) (x ∷ rest) t h k =
    bind_same (refinement_from table al t) _ _ (λ c.
    piece-same al (refined_ac_at table al n) (refined_ac_at table al m) x rest c.0 c.1 (λ j t g.
    let d = length-drop j (x ∷ rest) in
    refined-fuel table al n m (drop j (x ∷ rest)) t (omega arith) (omega arith)))

-- a band is its first piece and then a band
band-step : (table : Table) (al : ℕ) (rest : List ℤ) (t : Text) → 0 < length rest
    → refined_band_from table al rest t ≡ (refinement_from table al t >>= λ (k : Refinement ×
    Text). refined_piece_at al (refined_band_from table al) rest k.0 k.1)
unfolding refined_band_from refined_ac_at
band-step table al rest t h = grind (arith, bind_same, piece-same, length-drop, refined-fuel, le_refl)

-- what the coefficients from i on give, after those before them
unfoldable pub refined_left : Table → ℕ → List ℤ → ℕ → Text → Result (Band × Text) Fault
refined_left table al band i t = before (take i band) (refined_band_from table al (drop i band) t)

-- what a token at coefficient i makes of the band
unfoldable pub refined_step : Table → ℕ → List ℤ → ℕ → Refinement → Text → Result (Band × Text) Fault
refined_step table al band i k t = before (take i band) (refined_piece_at al (refined_band_from
    table al) (drop i band) k t)

bind_before : (a : List ℤ) (r : Result (Refinement × Text) Fault) (f : Refinement × Text → Result (Band × Text) Fault)
    → before a (r >>= f) ≡ (r >>= λ (k : Refinement × Text). before a (f k))
bind_before a r f = grind arith

pub refined_more : (table : Table) (al : ℕ) (band : List ℤ) (i : ℕ) (t : Text) → i < length band
    → refined_left table al band i t ≡ (refinement_from table al t >>= λ (k : Refinement × Text). refined_step table al
    band i k.0 k.1)
unfolding refined_left refined_step
refined_more table al band i t h = grind (arith, length-drop, band-step, bind_before)

pub refined_none : (table : Table) (al : ℕ) (band : List ℤ) (i : ℕ) (t : Text) → length band ≤ i
    → refined_left table al band i t ≡ Ok ((band, 0), t)
unfolding refined_left refined_band_from refined_ac_at
refined_none table al band i t h = grind (arith, drop_all, append-nil, take_all)

pub refined_all : (table : Table) (al : ℕ) (band : List ℤ) (t : Text)
    → refined_left table al band 0 t ≡ refined_band_from table al band t
unfolding refined_left
refined_all table al band t = grind arith

abbrev pub KeepsLength : ℕ → Result (List ℤ × Text) Fault → Type 0
KeepsLength n (Ok x) = length x.0 ≡ n
KeepsLength n (Err e) = Unit {0}

pub corrected-length : (al : ℕ) (numbers : List ℤ) (t : Text) → KeepsLength (length numbers) (corrected al numbers t)
unfolding corrected corrected_from each
corrected-length al [] t = refl
corrected-length al (z ∷ numbers) t = by_index (corrected_from al z t) (λ t. corrected-length al numbers t)
  where
    by_others : (y : ℤ) (o : Result (List ℤ × Text) Fault) → KeepsLength (length numbers) o
        → KeepsLength (length (z ∷ numbers)) (read_on (λ (ys : List ℤ). gives (y ∷ ys)) o)
    by_others y o h = grind arith

    by_index : (f : Result (ℤ × Text) Fault) → ((t : Text) → KeepsLength (length numbers) (corrected al numbers t))
        → KeepsLength (length (z ∷ numbers)) (read_on (λ (y : ℤ) (u : Text).
        read_on (λ (ys : List ℤ). gives (y ∷ ys)) (corrected al numbers u)) f)
    by_index (Ok x) h = by_others x.0 (corrected al numbers x.1) (h x.1)
    by_index (Err e) h = tt

unfoldable ok_of : (ℕ × List ℤ) × Text → Walk → (ℕ × List ℤ) × Text
ok_of d (Ok x) = x
ok_of d (Err e) = d

abbrev pieced : ℕ → List ℤ → List ℤ × Text → Walk
pieced n rest front = Ok ((n, front.0 ++ drop n rest), front.1)

corrected_refused : (al r : ℕ) (rest : List ℤ) (t : Text) (f : Fault) → piece_from al r rest t ≡ Err f
    → corrected al (take (through_zero r rest) rest) t ≡ Err f
unfolding piece_from
corrected_refused al r rest t f h = grind (arith, false≢true)

-- the zeros that a token asks for, in the rest of a band of this many coefficients
abbrev pub zeros_of : ℕ → Refinement → ℕ
zeros_of all Zeros = 15
zeros_of all (New r v) = r
zeros_of all (End run) = all

-- a refusal within a piece
pub step_refused : (table : Table) (al : ℕ) (band rest : List ℤ) (i all : ℕ) (k : Refinement) (t : Text) (f : Fault)
    → rest ≡ drop i band → length rest ≤ all
    → piece_from al (zeros_of all k) rest t ≡ Err f → refined_step table al band i k t ≡ Err f
unfolding refined_step refined_piece_at
step_refused table al band rest i all k t f e le h = grind (arith, corrected_refused, take_all, through_all)

set_last : (a front : List ℤ) (v : ℤ) (k : ℕ) → k + 1 ≡ length a + length front → 0 < length front
    → set (a ++ front) k v ≡ a ++ with_last v front
unfolding with_last
set_last a front v k e h =
    set-append_right a front (length a) k v refl (omega arith) ∙ ap (λ (i : ℕ). a ++ set front i v) (omega arith)

with_last-length : (v : ℤ) (xs : List ℤ) → length (with_last v xs) ≡ length xs
unfolding with_last
with_last-length v xs = length-set xs (length xs - 1) v

ruleset fronts = (append_assoc, before-before, take_at, drop_at)

-- what a piece that was read is
data IsPiece (al r : ℕ) (rest : List ℤ) (t : Text) (n : ℕ) (ys : List ℤ) (u : Text) : Type 0 where
  piece : (front : List ℤ) → corrected al (take (through_zero r rest) rest) t ≡ Ok (front, u)
      → length front ≡ through_zero r rest → n ≡ through_zero r rest → ys ≡ front ++ drop (through_zero r rest) rest
      → IsPiece al r rest t n ys u

is_piece : (al r : ℕ) (rest : List ℤ) (t : Text) (n : ℕ) (ys : List ℤ) (u : Text)
    → piece_from al r rest t ≡ Ok ((n, ys), u) → IsPiece al r rest t n ys u
unfolding piece_from ok_of
is_piece al r rest t n ys u h = by_result (corrected al (take (through_zero r rest) rest) t) refl
    (corrected-length al (take (through_zero r rest) rest) t) h
  where
    by_result : (o : Result (List ℤ × Text) Fault) → corrected al (take (through_zero r rest)
        rest) t ≡ o
        → KeepsLength (length (take (through_zero r rest) rest)) o
        → (o >>= λ (front : List ℤ × Text). pieced (through_zero r rest) rest front) ≡ Ok ((n, ys), u)
        → IsPiece al r rest t n ys u
    by_result (Ok x) e l h =
        let same = ap (λ (w : Walk). ok_of ((n, ys), u) w) h in
        piece x.0 (e ∙ ap (λ (w : Text). Ok (x.0, w)) (ap (λ (z : (ℕ × List ℤ) × Text). z.1) same))
        (let a = length-take (through_zero r rest) rest in let b = through_zero_le r rest in
        l ∙ length-take-le (through_zero r rest) rest b)
        (sym (ap (λ (z : (ℕ × List ℤ) × Text). z.0.0) same)) (sym (ap (λ (z : (ℕ × List ℤ) × Text). z.0.1) same))
    by_result (Err g) e l h = absurd (false≢true (ap is_ok h))

module _ (table : Table) (al i n : ℕ) (band nb rest ys : List ℤ) (t u : Text) (le : i ≤ length band)
    (old : rest ≡ drop i band) (new : nb ≡ take i band ++ ys) where
  front_length : (front : List ℤ) → length (take i band ++ front) ≡ i + length front
  front_length front = length-append (take i band) front ∙ ap (λ k. k + length front) (length-take-le i band le)

  pub zeros_step : piece_from al 15 rest t ≡ Ok ((n, ys), u) → refined_step table al band i Zeros t ≡ refined_left table
      al nb (i + n) u
  unfolding refined_step refined_piece_at refined_left
  zeros_step h = by (is_piece al 15 (drop i band) t n ys u (ap (λ (xs : List ℤ). piece_from al 15 xs t) (sym old) ∙ h))
    where
      by : IsPiece al 15 (drop i band) t n ys u → refined_step table al band i Zeros t ≡ refined_left table al nb
          (i + n) u
      by (piece front c l m e) = grind (arith, fronts, front_length)

  pub new_step : (r : ℕ) (v : ℤ) → 0 < n → piece_from al r rest t ≡ Ok ((n, ys), u)
      → refined_step table al band i (New r v) t ≡ refined_left table al (set nb (i + n - 1) v) (i + n) u
  unfolding refined_step refined_piece_at refined_left
  new_step r v pos h = by (is_piece al r (drop i band) t n ys u (ap (λ (xs : List ℤ). piece_from al r xs t) (sym old)
      ∙ h))
    where
      by : IsPiece al r (drop i band) t n ys u → refined_step table al band i (New r v) t ≡ refined_left table al
          (set nb (i + n - 1) v) (i + n) u
      by (piece front c l m e) =
          let j = length-take-le i band le in
          let k : length (take i band ++ front) ≡ i + n = front_length front ∙ omega arith in
          grind (arith, fronts, set-append_left, set_last, front_length, with_last-length)

  pub end_step : (run all : ℕ) → length rest ≤ all → piece_from al all rest t ≡ Ok ((n, ys), u)
      → refined_step table al band i (End run) t ≡ Ok ((nb, run), u)
  unfolding refined_step refined_piece_at
  end_step run all few h = grind (arith, is_piece, take_all, through_all, drop_all, append-nil)

pub refined_token : (table : Table) (al : ℕ) (band : List ℤ) (i : ℕ) (k : Refinement) (t u : Text) → i < length band
    → refinement_from table al t ≡ Ok (k, u) → refined_left table al band i t ≡ refined_step table al band i k u
refined_token table al band i k t u h e = grind (arith, refined_more)

-- a piece that is the whole band
pub whole_piece : (al : ℕ) (band : List ℤ) (t : Text) → corrected al band t ≡ (piece_from al
    (length band) band t
    >>= λ (p : (ℕ × List ℤ) × Text). Ok (p.0.1, p.1))
unfolding piece_from
whole_piece al band t = grind (arith, through_all, le_refl, take_all, drop_all, append-nil)

-- ---- a refinement of a band by its tokens is the one of the definition

before-same : (front : List ℤ) (o : Result (Band × Text) Fault)
    → before front o ≡ read_on (λ (more : Band). gives (before_more front more)) o
before-same front o = grind arith

abbrev read_piece : (List ℤ → List ℤ) → ℕ → (List ℤ → Reads Band) → List ℤ → Result (List ℤ × Text) Fault
    → Result (Band × Text) Fault
read_piece f n others rest o = read_on {B = Band} (λ (front : List ℤ). λ t. read_on
    (λ (more : Band). gives (before_more (f front) more)) (others (drop n rest) t)) o

piece-on : (f : List ℤ → List ℤ) (n : ℕ) (mine theirs : List ℤ → Reads Band) (rest : List ℤ)
    → ((xs : List ℤ) (u : Text) → mine xs u ≡ theirs xs u)
    → (o : Result (List ℤ × Text) Fault)
    → (o >>= λ (front : List ℤ × Text). before (f front.0) (mine (drop n rest) front.1)) ≡ read_piece f n theirs
    rest o
piece-on f n mine theirs rest same o = grind (arith, before-same)

end-on : (run : ℕ) (o : Result (List ℤ × Text) Fault) → (o >>= λ (all : List ℤ × Text). Ok ((all.0, run), all.1))
    ≡ read_on {B = Band} (λ (all : List ℤ). gives (all, run)) o
end-on run o = grind arith

-- the piece of a token whose symbol was read
token-on : (al : ℕ) (mine theirs : List ℤ → Reads Band) (rest : List ℤ) (o : Result (ℕ × Text) Fault)
    → ((xs : List ℤ) (u : Text) → mine xs u ≡ theirs xs u)
    → ((o >>= λ (c : ℕ × Text). refinement_by al (c.0 / 16) (c.0 % 16) c.1)
    >>= λ (k : Refinement × Text). refined_piece_at al mine rest k.0 k.1)
    ≡ read_on (λ (c : ℕ). defined.refined_piece al theirs rest (c / 16) (c % 16)) o
unfolding refined_piece_at defined.refined_piece run_from
token-on al mine theirs rest (Ok c) same = grind (arith, piece-on, end-on)
token-on al mine theirs rest (Err e) same = refl

pub refined-same : (table : Table) (al n : ℕ) (rest : List ℤ) (t : Text)
    → refined_ac_at table al n rest t ≡ defined.refined_ac table al n rest t
unfolding refined_ac_at defined.refined_ac refinement_from
refined-same table al n [] t = refl
refined-same table al zero (x ∷ rest) t = refl
refined-same table al (suc n) (x ∷ rest) t = search (rules, token-on, refined-same table al n)

-- ---- bands of a refinement, by the zigzag indices of a block in block order

-- what the band from zigzag index k on gives, after what stands before it
abbrev pub refined_at : Table → Pass → List ℤ → ℕ → Text → Result (Band × Text) Fault
refined_at table p block k t = refined_left table p.al (band_in p block) (k - band_start p) t

-- what a token at zigzag index k makes of the band
abbrev pub step_at : Table → Pass → List ℤ → ℕ → Refinement → Text → Result (Band × Text) Fault
step_at table p block k x t = refined_step table p.al (band_in p block) (k - band_start p) x t

pub from-start : (table : Table) (p : Pass) (block : List ℤ) (t : Text)
    → refined_at table p block (band_start p) t ≡ refined_band_from table p.al (band_in p block) t
from-start table p block t =
    let none : band_start p - band_start p ≡ 0 = omega arith in
    grind (arith, refined_left, refined_all)

pub at-last : (table : Table) (p : Pass) (block : List ℤ) (k : ℕ) (t : Text) → IsPass p → band_end p ≤ k
    → refined_at table p block k t ≡ Ok ((band_in p block, 0), t)
at-last table p block k t is end = grind (arith, refined_none, band-length)

module _ (table : Table) (p : Pass) (block : List ℤ) (k : ℕ) (t u : Text) (is : IsPass p) (from : band_start p ≤ k)
    (lt : k < band_end p) where
  inside : k - band_start p < length (band_in p block)
  inside = let n = band-length p block is in let order = is.order in omega arith

  rest : rest_in p k block ≡ drop (k - band_start p) (band_in p block)
  rest = sym (part-rest (band_start p) k (band_end p) block from (omega arith))

  rest-length : length (rest_in p k block) ≡ band_end p - k
  rest-length = part-length k (band_end p) block (let e = is.end in omega arith)

  put : (new : List ℤ) → IsKeptAround k (band_end p) block new
      → band_in p new ≡ take (k - band_start p) (band_in p block) ++ rest_in p k new
  put new others = part-put (band_start p) k (band_end p) block new from (omega arith) others

  pub token-at : (x : Refinement) → refinement_from table p.al t ≡ Ok (x, u)
      → refined_at table p block k t ≡ step_at table p block k x u
  token-at x h = refined_token table p.al (band_in p block) (k - band_start p) x t u inside h

  pub no-token-at : (f : Fault) → refinement_from table p.al t ≡ Err f → refined_at table p block k t ≡ Err f
  no-token-at f h = grind (arith, refined_more, inside)

  pub refused-at : (all : ℕ) (x : Refinement) (f : Fault) → band_end p - k ≤ all
      → piece_from p.al (zeros_of all x) (rest_in p k block) t ≡ Err f → step_at table p block k x t ≡ Err f
  refused-at all x f few h = grind (arith, step_refused, rest, rest-length)

  pub zeros-at : (next : ℕ) (new : List ℤ) → IsKeptAround k (band_end p) block new → k ≤ next
      → piece_from p.al 15 (rest_in p k block) t ≡ Ok ((next - k, rest_in p k new), u)
      → step_at table p block k Zeros t ≡ refined_at table p new next u
  zeros-at next new others after h =
      zeros_step _ _ _ (next - k) _ _ (rest_in p k block)
      _ _ _ (omega (arith, inside)) rest (put new others) h
      ∙ ap (λ (i : ℕ). refined_left table p.al (band_in p new) i u) (omega arith)

  pub new-at : (next : ℕ) (new : List ℤ) (r : ℕ) (v : ℤ) → IsKeptAround k (band_end p) block new → length new ≡ 64
      → k < next → next ≤ band_end p
      → piece_from p.al r (rest_in p k block) t ≡ Ok ((next - k, rest_in p k new), u)
      → step_at table p block k (New r v) t ≡ refined_at table p (set new (get_or zigzag (next - 1) 0) v) next u
  new-at next new r v others n after end h =
      let last = is.end in
      let at : k - band_start p + (next - k) - 1 ≡ next - 1 - band_start p = omega arith in
      let written : set (band_in p new) (k - band_start p + (next - k) - 1) v
      ≡ band_in p (set new (get_or zigzag (next - 1) 0) v)
      = ap (λ (i : ℕ). set (band_in p new) i v) at
      ∙ sym (part-set _ _ (next - 1) _ _ n (omega arith) (omega arith) (omega arith)) in
      new_step _ _ _ (next - k) _ _ (rest_in p k block)
      _ _ _ (omega (arith, inside)) rest (put new others) _ _ (omega arith) h
      ∙ ap (λ (xs : List ℤ). refined_left table p.al xs (k - band_start p + (next - k)) u) written
      ∙ ap (λ (i : ℕ). refined_left table p.al (band_in p (set new (get_or zigzag (next - 1) 0) v)) i u) (omega arith)

  pub end-at : (next : ℕ) (new : List ℤ) (run all : ℕ) → IsKeptAround k (band_end p) block new → band_end p - k ≤ all
      → piece_from p.al all (rest_in p k block) t ≡ Ok ((next - k, rest_in p k new), u)
      → step_at table p block k (End run) t ≡ Ok ((band_in p new, run), u)
  end-at next new run all others few h =
      end_step table p.al (k - band_start p) (next - k) (band_in p block) (band_in p new) (rest_in p k block)
      (rest_in p k new) t u (omega (arith, inside)) rest (put new others) run all (omega (arith, rest-length)) h

-- what a piece that a token asks for is read by
abbrev pub piece_at : Pass → List ℤ → ℕ → ℕ → Text → Result ((ℕ × List ℤ) × Text) Fault
piece_at p block k zeros t = piece_from p.al zeros (rest_in p k block) t

abbrev pub to_piece : Pass → ℕ → List ℤ → ℕ → ℕ × List ℤ
to_piece p k new next = (next - k, rest_in p k new)

-- the band of a block, as it is read
abbrev pub refined_from : Table → Pass → List ℤ → Reads Band
refined_from table p first = refined_band_from table p.al (band_in p first)

module _ (table : Table) (p : Pass) (first : List ℤ) (a b d : Ahead) (old cur mid : Stream) (block : List ℤ)
    (k end : ℕ) (is : IsPass p) (e : end ≡ band_end p) (from : band_start p ≤ k) (lt : k < end)
    (h : Leaves (refined_from table p first) a old (refined_at table p block k) b cur) where
  in-band : k < band_end p
  in-band = omega arith

  pub token-refused : (x : Error) → Takes (λ (t : Refinement). t) (refinement_from table p.al) b cur (Err x) d mid
      → Takes (λ (run : ℕ). (band_in p block, run)) (refined_from table p first) a old (Err x) d mid
  token-refused x q =
      Leaves-err (λ (run : ℕ). (band_in p block, run)) (λ (t : Refinement). t) (refined_from table p first)
      (refined_at table p block k) (refinement_from table p.al) a b d old cur mid _
      (λ t f h. no-token-at table p block k t t is from in-band _ h) h q

  -- a token is read, and then the piece that it asks for
  module _ (f : Ahead) (new : Stream) (x : Refinement)
      (q : Takes (λ (t : Refinement). t) (refinement_from table p.al) b cur (Ok x) d mid) where
    after-token : Leaves (refined_from table p first) a old (step_at table p block k x) d mid
    after-token =
        Leaves-ok (λ (t : Refinement). t) (refined_from table p first) (refined_at table p block k)
        (step_at table p block k x) (refinement_from table p.al) a b d old cur mid x
        (λ t u h. token-at table p block k t u is from in-band x h) h q

    pub piece-refused : (zeros : ℕ) (y : Error) → zeros_of (end - k) x ≡ zeros
        → Takes (to_piece p k block) (piece_at p block k zeros) d mid (Err y) f new
        → Takes (λ (run : ℕ). (band_in p block, run)) (refined_from table p first) a old (Err y) f new
    piece-refused zeros y same r =
        Leaves-err (λ (run : ℕ). (band_in p block, run)) (to_piece p k block) (refined_from table p first)
        (step_at table p block k x) (piece_at p block k zeros) a d f old mid new y
        (λ t g h. refused-at table p block k t t is from in-band (end - k) x g (omega arith) (rw same h)) after-token r

    module _ (next : ℕ) (blk : List ℤ) (others : IsKeptAround k (band_end p) block blk) where
      pub zeros-read : k ≤ next → x ≡ Zeros → Takes (to_piece p k blk) (piece_at p block k 15) d mid (Ok next) f new
          → Leaves (refined_from table p first) a old (refined_at table p blk next) f new
      zeros-read after z r =
          Leaves-ok (to_piece p k blk) (refined_from table p first) (step_at table p block k x)
          (refined_at table p blk next) (piece_at p block k 15) a d f old mid new next (grind (arith, zeros-at, in-band))
          after-token r

      pub new-read : (zeros r : ℕ) (v : ℤ) → zeros ≡ r → length blk ≡ 64 → k < next → next ≤ band_end p → x ≡ New r v
          → Takes (to_piece p k blk) (piece_at p block k zeros) d mid (Ok next) f new
          → Leaves (refined_from table p first) a old (refined_at table p (set blk (get_or zigzag (next - 1) 0) v) next)
          f new
      new-read zeros r v same n after within z m =
          Leaves-ok (to_piece p k blk) (refined_from table p first) (step_at table p block k x)
          (refined_at table p (set blk (get_or zigzag (next - 1) 0) v) next) (piece_at p block k zeros) a d f
          old mid new next
          (λ t u h. ap (λ (x : Refinement). step_at table p block k x t) z
          ∙ new-at table p block k t u is from in-band next blk r v others n after within (rw (← same) h)) after-token m

      pub end-read : (run : ℕ) → x ≡ End run
          → Takes (to_piece p k blk) (piece_at p block k (end - k)) d mid (Ok next) f new
          → Takes (λ (run : ℕ). (band_in p blk, run)) (refined_from table p first) a old (Ok run) f new
      end-read run z m =
          Leaves-ok (to_piece p k blk) (refined_from table p first) (step_at table p block k x)
          (λ (t : Text). Ok ((band_in p blk, run), t)) (piece_at p block k (end - k)) a d f old mid new next
          (grind (arith, end-at, in-band)) after-token m

-- a piece that is the whole band
whole-in : (p : Pass) (block : List ℤ) (start zeros : ℕ) (t : Text) → IsPass p → start ≡ band_start p
    → zeros ≡ band_end p - start
    → corrected p.al (band_in p block) t ≡ (piece_at p block start zeros t
    >>= λ (w : (ℕ × List ℤ) × Text). Ok (w.0.1, w.1))
whole-in p block start zeros t is s z = grind (arith, band-length, whole_piece)

pub band_is_corrected : (p : Pass) (block new : List ℤ) (start zeros : ℕ) (a b : Ahead) (old cur : Stream)
    (next : Option ℕ) (refusal : Option Error) (done : Bool) → IsPass p → start ≡ band_start p
    → zeros ≡ band_end p - start → done ≡ is_some next
    → Takes (to_piece p start new) (piece_at p block start zeros) a old (answer_of next refusal) b cur
    → Takes (λ (u : Unit {0}). band_in p new) (corrected p.al (band_in p block)) a old
    (outcome_of done refusal) b cur
band_is_corrected p block new start zeros a b old cur (Some next) refusal done is s z e q =
    rw e (
      q.0,
      λ known. let at = q.1 known in (
        at.0,
        whole-in p _ _ _ _ is s z
            ∙ ap (λ (o : Result ((ℕ × List ℤ) × Text) Fault). o >>= λ (w : (ℕ × List ℤ) × Text). Ok (w.0.1, w.1)) at.1
            ∙ ap (λ (k : ℕ). Ok (rest_in p k new, upcoming b cur.bytes)) s,
      ),
    )
band_is_corrected p block new start zeros a b old cur None refusal done is s z e q =
    rw e (Leaves-err (λ (u : Unit {0}). band_in p new) (to_piece p start new) (corrected p.al
    (band_in p block)) (corrected p.al (band_in p block)) (piece_at p block start zeros) _ a b _ old cur _
    (λ t f h. whole-in p block start zeros t is s z
    ∙ ap (λ (o : Result ((ℕ × List ℤ) × Text) Fault). o >>= λ (w : (ℕ × List ℤ) × Text). Ok (w.0.1, w.1)) h)
    (Leaves-whole (corrected p.al (band_in p block)) a old) q)
