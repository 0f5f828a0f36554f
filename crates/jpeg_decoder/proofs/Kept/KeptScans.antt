-- Scans of blocks of which what is kept goes on alike.
use Rattle.std.proofs.Common.{rules, ◌≡◌, ℕ, ◌-◌, Bool, true, false, List, ◌∷◌, get_or, set, ℤ, pos}
use Rattle.std.proofs.Common.{Result, Ok, Err, refl, sym, ap, ◌∙◌, arith, []}
use Rattle.std.proofs.Math.ListN.{get_or-map}
use Rattle.std.proofs.lemmas.Grind.{common_steps}
use Rattle.std.proofs.lemmas.List.{map-set}
use Rattle.jpeg_bits.specs.Reading.{Fault}
use Rattle.jpeg_bits.specs.Entropy.{Text}
use Rattle.jpeg_bits.specs.Readers.{Reads, gives, read_on, ◌>>=◌}
use Rattle.jpeg_bits.specs.Passes.{Block, Pass, Via, block_from, zero_block}
use Rattle.jpeg_bits.specs.Skips.{dc_alone, kept, kept_turn}
use Rattle.jpeg_bits.proofs.DcAlone.{blocks-alike as block-alike}
use Rattle.jpeg_meaning.proofs.Order.CountedScans.{on-on}
use Rattle.jpeg_meaning.specs.Order.{Spot}
use Rattle.jpeg_meaning.specs.Scans.{Arrays, block_at, put_block, via_at}
use Rattle.jpeg_meaning.specs.InTurn.{Counted, Reached, begun_from, blocks_from, next_from}
use Rattle.jpeg_meaning.specs.InTurn.{turn_from}
use Rattle.jpeg_decoder.specs.Scanning.{kept_after, kept_arrays, kept_counted}
use Rattle.jpeg_decoder.proofs.Orders.BlockSteps.{begun-is, begun_by, begun_turn, next-is, turn_then}

-- ---- what is read twice, alike as far as something of it goes

-- Where K of both is the same, what reads on from both is, if it goes by K.
pub pass-on : {A B C : Type 0} (K : A → C) (F G : A → Reads B) (o p : Result (A × Text) Fault)
    → read_on (λ a. gives (K a)) o ≡ read_on (λ a. gives (K a)) p
    → ((a b : A) (u : Text) → K a ≡ K b → F a u ≡ G b u) → read_on F o ≡ read_on G p
pass-on K F G (Ok r) (Ok s) e h = grind (arith, common_steps, h r.0 s.0 r.1)
pass-on K F G (Ok r) (Err f) e h = cc
pass-on K F G (Err f) (Ok r) e h = cc
pass-on K F G (Err f) (Err g) e h = cc

-- ---- blocks of arrays

pub none-alone : dc_alone zero_block ≡ zero_block
unfolding zero_block
none-alone = refl

block-alone : (arrays : Arrays) (s : Spot) → block_at (kept_arrays false arrays) s ≡ dc_alone (block_at arrays s)
block-alone arrays s = grind (arith, common_steps, get_or-map, none-alone)

put-alone : (arrays : Arrays) (s : Spot) (b : Block)
    → kept_arrays false (put_block s b arrays) ≡ put_block s (dc_alone b) (kept_arrays false arrays)
put-alone arrays s b = grind (arith, common_steps, map-set, get_or-map)

-- ---- a block

abbrev pub kept_reached : Bool → Reached → Reached
kept_reached keeps r = record r { arrays = kept_arrays keeps r.arrays }

abbrev pub kept_read : Bool → Reached → Reads Reached
kept_read keeps r = gives (kept_reached keeps r)

abbrev put_turn : ℕ → Spot → Reached → Block × ℤ × ℕ → Reached
put_turn component s old r = record {
  arrays = put_block s r.0 old.arrays;
  predictors = set old.predictors component r.1;
  run = r.2;
}

read-twice : (keeps : Bool) (component : ℕ) (s : Spot) (old : Reached) (o : Result ((Block × ℤ × ℕ) × Text) Fault)
    → read_on (kept_read keeps) (read_on (λ r. gives (put_turn component s old r)) o)
    ≡ read_on (λ r. gives (kept_reached keeps (put_turn component s old r))) o
read-twice keeps component s old (Ok r) = refl
read-twice keeps component s old (Err f) = refl

abbrev pub kept_result : Bool → Block × ℤ × ℕ → Block × ℤ × ℕ
kept_result keeps r = (kept keeps r.0, r.1, r.2)

put-alike : (component : ℕ) (s : Spot) (old : Reached) (arrays : Arrays) (r q : Block × ℤ × ℕ)
    → kept_arrays false old.arrays ≡ kept_arrays false arrays → kept_result false r ≡ kept_result false q
    → kept_reached false (put_turn component s old r)
    ≡ kept_reached false (put_turn component s (record old { arrays = arrays }) q)
put-alike component s old arrays r q e k = grind (arith, common_steps, put-alone)

turn-arrays : (p : Pass) (vias : List Via) (s : Spot) (old : Reached) (arrays : Arrays) (t : Text)
    → p.is_first ≡ true → kept_arrays false old.arrays ≡ kept_arrays false arrays
    → read_on (kept_read false) (turn_from p vias s old t)
    ≡ read_on (kept_read false) (turn_from p vias s (record old { arrays = arrays }) t)
unfolding turn_from
turn-arrays p vias s old arrays t first e =
    let via = via_at vias s.slot in
    let predictor = get_or old.predictors via.component (pos 0) in
    let same : dc_alone (block_at old.arrays s) ≡ dc_alone (block_at arrays s)
    = sym (block-alone old.arrays s) ∙ ap (λ (l : Arrays). block_at l s) e ∙ block-alone arrays s in
    read-twice false via.component s old
    (block_from p via.dc via.ac predictor old.run (block_at old.arrays s) t)
    ∙ pass-on (kept_result false) (λ r. gives (kept_reached false (put_turn via.component s old r)))
    (λ r. gives (kept_reached false (put_turn via.component s (record old { arrays = arrays }) r)))
    (block_from p via.dc via.ac predictor old.run (block_at old.arrays s) t)
    (block_from p via.dc via.ac predictor old.run (block_at arrays s) t)
    (block-alike p via.dc via.ac predictor old.run (block_at old.arrays s) (block_at arrays s) t first same)
    (λ r q u k. ap (λ (x : Reached). Ok (x, u)) (put-alike via.component s old arrays r q e k))
    ∙ sym (read-twice false via.component s (record old { arrays = arrays })
    (block_from p via.dc via.ac predictor old.run (block_at arrays s) t))

pub turn-alike : (keeps : Bool) (p : Pass) (vias : List Via) (s : Spot) (a b : Reached) (t : Text)
    → (keeps ≡ false → p.is_first ≡ true) → kept_reached keeps a ≡ kept_reached keeps b
    → read_on (kept_read keeps) (turn_from p vias s a t) ≡ read_on (kept_read keeps) (turn_from p vias s b t)
turn-alike true p vias s a b t first e = ap (λ (x : Reached). read_on (kept_read true) (turn_from p vias s x t)) e
turn-alike false p vias s a b t first e = grind (arith, common_steps, turn-arrays)

-- ---- the next block

-- what was begun alike goes on so
begun-alike : (keeps : Bool) (p : Pass) (vias : List Via) (s : Spot) (a b : Counted) (t : Text)
    → (keeps ≡ false → p.is_first ≡ true) → kept_counted keeps a ≡ kept_counted keeps b
    → read_on (kept_after keeps) (begun_turn p vias s a t) ≡ read_on (kept_after keeps) (begun_turn p vias s b t)
unfolding begun_turn
begun-alike keeps p vias s a b t first e =
    on-on (turn_then a) (kept_after keeps) (turn_from p vias s a.reached t)
    ∙ pass-on (kept_reached keeps) (λ r. λ u. read_on (kept_after keeps) (turn_then a r u))
    (λ r. λ u. read_on (kept_after keeps) (turn_then b r u)) (turn_from p vias s a.reached t)
    (turn_from p vias s b.reached t)
    (turn-alike keeps p vias s a.reached b.reached t first (ap (λ (c : Counted). c.reached) e))
    (λ r q u k. grind (arith, common_steps))
    ∙ sym (on-on (turn_then b) (kept_after keeps) (turn_from p vias s b.reached t))

-- an interval begins alike
kept-begun : (keeps : Bool) (n : ℕ) (c : Counted) (b : Bool) (t : Text)
    → read_on (kept_after keeps) (begun_by n c b t) ≡ begun_by n (kept_counted keeps c) b t
kept-begun keeps n c false t = refl
kept-begun keeps n c true t = grind (arith, common_steps)

start-kept : (keeps : Bool) (n : ℕ) (c : Counted) (t : Text)
    → read_on (kept_after keeps) (begun_from n c t) ≡ begun_from n (kept_counted keeps c) t
start-kept keeps n c t = grind (arith, common_steps, begun-is, kept-begun)

next-alike : (keeps : Bool) (p : Pass) (vias : List Via) (n : ℕ) (s : Spot) (a b : Counted) (t : Text)
    → (keeps ≡ false → p.is_first ≡ true) → kept_counted keeps a ≡ kept_counted keeps b
    → read_on (kept_after keeps) (next_from p vias n s a t) ≡ read_on (kept_after keeps) (next_from p vias n s b t)
next-alike keeps p vias n s a b t first e =
    ap (read_on (kept_after keeps)) (next-is p vias n s a t)
    ∙ on-on (begun_turn p vias s) (kept_after keeps) (begun_from n a t)
    ∙ pass-on (kept_counted keeps) (λ c. λ u. read_on (kept_after keeps) (begun_turn p vias s c u))
    (λ c. λ u. read_on (kept_after keeps) (begun_turn p vias s c u)) (begun_from n a t) (begun_from n b t)
    (start-kept keeps n a t ∙ ap (λ (c : Counted). begun_from n c t) e ∙ sym (start-kept keeps n b t))
    (λ c d u k. begun-alike keeps p vias s c d u first k)
    ∙ sym (on-on (begun_turn p vias s) (kept_after keeps) (begun_from n b t))
    ∙ sym (ap (read_on (kept_after keeps)) (next-is p vias n s b t))

-- Blocks at some spots are read alike, as far as what is kept goes, where what is kept so far is the same.
pub blocks-alike : (keeps : Bool) (p : Pass) (vias : List Via) (n : ℕ) (spots : List Spot) (a b : Counted) (t : Text)
    → (keeps ≡ false → p.is_first ≡ true) → kept_counted keeps a ≡ kept_counted keeps b
    → read_on (kept_after keeps) (blocks_from p vias n spots a t)
    ≡ read_on (kept_after keeps) (blocks_from p vias n spots b t)
unfolding blocks_from
blocks-alike keeps p vias n [] a b t first e = ap (λ (c : Counted). Ok (c, t)) e
blocks-alike keeps p vias n (s ∷ spots) a b t first e =
    on-on (blocks_from p vias n spots) (kept_after keeps) (next_from p vias n s a t)
    ∙ pass-on (kept_counted keeps) (λ c. λ u. read_on (kept_after keeps) (blocks_from p vias n spots c u))
    (λ c. λ u. read_on (kept_after keeps) (blocks_from p vias n spots c u)) (next_from p vias n s a t)
    (next_from p vias n s b t) (next-alike keeps p vias n s a b t first e)
    (λ c d u k. blocks-alike keeps p vias n spots c d u first k)
    ∙ sym (on-on (blocks_from p vias n spots) (kept_after keeps) (next_from p vias n s b t))

pub put-kept : (keeps : Bool) (s : Spot) (arrays : Arrays) (a b : Block) → kept keeps a ≡ kept keeps b
    → kept_arrays keeps (put_block s a arrays) ≡ kept_arrays keeps (put_block s b arrays)
put-kept true s arrays a b e = ap (λ (x : Block). put_block s x arrays) e
put-kept false s arrays a b e = grind (arith, common_steps, put-alone)

-- what is left after the next block
pub turn-kept-refused : (keeps : Bool) (o : Result ((Block × ℤ × ℕ) × Text) Fault) (f : Fault)
    → read_on (kept_turn keeps) o ≡ Err f → o ≡ Err f
turn-kept-refused keeps (Ok r) f e = cc
turn-kept-refused keeps (Err g) f e = e

-- The next block of which the same is kept leaves the same to read.
pub next-kept : (keeps : Bool) (p : Pass) (vias : List Via) (n : ℕ) (s : Spot) (spots : List Spot) (now : Counted)
    (r : Reached) (t u : Text) → (keeps ≡ false → p.is_first ≡ true)
    → read_on (kept_read keeps) (turn_from p vias s now.reached t) ≡ Ok (kept_reached keeps r, u)
    → read_on (kept_after keeps) (read_on (blocks_from p vias n spots) (begun_turn p vias s now t))
    ≡ read_on (kept_after keeps) (blocks_from p vias n spots (record {
      reached = r;
      left = now.left - 1;
      number = now.number;
      beyond = now.beyond;
    }) u)
unfolding begun_turn
next-kept keeps p vias n s spots now r t u first e =
    search (rules, on-on, turn_then, pass-on, blocks-alike)

pub kept_none : (keeps : Bool) (p : Pass) (vias : List Via) (n : ℕ) (old : Counted) (t : Text)
    → (blocks_from p vias n [] old >>= kept_after keeps) t ≡ Ok (kept_counted keeps old, t)
unfolding blocks_from
kept_none keeps p vias n old t = refl

pub ruleset kept_rules = (kept_none)
