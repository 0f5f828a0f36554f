-- Blocks at some spots up to their first fault: what is left to read after a block, and what is there
-- where a block or the restart marker before it is refused.
use Rattle.std.proofs.Common.{◌≡◌, ◌∙◌, ◌<◌, ℕ, ◌-◌, ℤ, true, List, [], ◌∷◌, get_or, length, set, option_map}
use Rattle.std.proofs.Common.{Option, Some, Result, Ok, Err, ap, sym, refl, subst, arith}
use Rattle.std.proofs.lemmas.List.{get_or-set_same, length-map, set-set}
use Rattle.jpeg_bits.specs.BlockView.{to_block}
use Rattle.jpeg_bits.specs.Entropy.{Text}
use Rattle.jpeg_bits.specs.Passes.{Block, Pass, Via, zero_block}
use Rattle.jpeg_bits.specs.Reading.{Fault, Names}
use Rattle.jpeg_bits.specs.Readers.{read_on}
use Rattle.jpeg_bits.specs.Stream.{Stream}
use Rattle.jpeg_bits.specs.declared.error.Error.{Error}
use Rattle.jpeg_meaning.proofs.Refusals.{told-err}
use Rattle.jpeg_meaning.specs.Brought.{Through}
use Rattle.jpeg_meaning.specs.InTurn.{Counted, Reached, begun_from, next_from, turn_from}
use Rattle.jpeg_meaning.specs.Order.{Spot}
use Rattle.jpeg_meaning.specs.Scans.{Arrays, put_block}
use Rattle.jpeg_meaning.specs.States.{OnToldRefusal}
use Rattle.jpeg_decoder.specs.Scanning.{arrays_in, blocks_in}
use Rattle.jpeg_decoder.specs.Through.{IsReached, IsReachedBeside, cleared, counted_reached}
use Rattle.jpeg_decoder.specs.Walk.{spot_of}
use Rattle.jpeg_decoder.specs.declared.scan.spots.Spot as taken
use Rattle.jpeg_decoder.proofs.Kept.BlockArrays.{Held, with_block}
use Rattle.jpeg_decoder.proofs.Kept.KeptBlocks.{arrays-set, spot}
use Rattle.jpeg_decoder.proofs.Orders.BlockSteps.{begun_turn, next_begun, next_refused, turn_then}
use Rattle.jpeg_decoder.proofs.Partial.Refused.{if-refused-as}

-- ---- the next block

-- what is kept at the first block that isn't read
abbrev pub kept_before : Counted → Spot → Fault → Through Counted Text
kept_before old s fault = record { reached = old; unread = Some s; rest = Err fault }

-- what is reached after the next block, or at it
abbrev after_next : Pass → List Via → ℕ → Spot → List Spot → Counted → Result (Counted × Text) Fault
    → Through Counted Text
after_next p vias n s spots old o = elim o [
  | Ok r ↦ counted_reached p vias n spots r.0 r.1
  | Err fault ↦ kept_before old s fault
]

reached-some : (p : Pass) (vias : List Via) (n : ℕ) (s : Spot) (spots : List Spot) (old : Counted) (t : Text)
    → counted_reached p vias n (s ∷ spots) old t ≡ after_next p vias n s spots old (next_from p vias n s old t)
unfolding counted_reached
reached-some p vias n s spots old t = refl

pub reached-next : (p : Pass) (vias : List Via) (n : ℕ) (s : Spot) (spots : List Spot) (old r : Counted) (t u : Text)
    → next_from p vias n s old t ≡ Ok (r, u)
    → counted_reached p vias n (s ∷ spots) old t ≡ counted_reached p vias n spots r u
reached-next p vias n s spots old r t u e =
    reached-some p vias n s spots old t ∙ ap (after_next p vias n s spots old) e

pub reached-refused : (p : Pass) (vias : List Via) (n : ℕ) (s : Spot) (spots : List Spot) (old : Counted) (t : Text)
    (f : Fault) → next_from p vias n s old t ≡ Err f
    → counted_reached p vias n (s ∷ spots) old t ≡ kept_before old s f
reached-refused p vias n s spots old t f e =
    reached-some p vias n s spots old t ∙ ap (after_next p vias n s spots old) e

-- The next block is read or refused once its interval has begun.
pub next-read : (p : Pass) (vias : List Via) (n : ℕ) (s : Spot) (old now : Counted) (r : Reached) (t u v : Text)
    → begun_from n old t ≡ Ok (now, u) → turn_from p vias s now.reached u ≡ Ok (r, v)
    → next_from p vias n s old t ≡ Ok (
      record {
        reached = r;
        left = now.left - 1;
        number = now.number;
        beyond = now.beyond;
      },
      v,
    )
unfolding begun_turn
next-read p vias n s old now r t u v b e =
    next_begun p vias n s old now t u b ∙ ap (read_on (turn_then now)) e

pub next-unread : (p : Pass) (vias : List Via) (n : ℕ) (s : Spot) (old now : Counted) (t u : Text) (f : Fault)
    → begun_from n old t ≡ Ok (now, u) → turn_from p vias s now.reached u ≡ Err f
    → next_from p vias n s old t ≡ Err f
next-unread p vias n s old now t u f b e =
    next_begun p vias n s old now t u b ∙ next_refused p vias s now u f e

-- ---- the blocks that are left

module _ (p : Pass) (vias : List Via) (n : ℕ) (s : Spot) (spots others : List Spot) (a b : Counted) (t : Text)
    (whole : Through Counted Text) (is : spots ≡ s ∷ others) (same : b ≡ a) where
  left-some : whole ≡ counted_reached p vias n spots a t → whole ≡ counted_reached p vias n (s ∷ others) b t
  left-some e =
      e ∙ ap (λ (l : List Spot). counted_reached p vias n l a t) is
      ∙ ap (λ (c : Counted). counted_reached p vias n (s ∷ others) c t) (sym same)

  -- What is left after the next block.
  pub left-next : (now : Counted) (r : Reached) (u v : Text) → whole ≡ counted_reached p vias n spots a t
      → begun_from n b t ≡ Ok (now, u) → turn_from p vias s now.reached u ≡ Ok (r, v)
      → whole ≡ counted_reached p vias n others (record {
        reached = r;
        left = now.left - 1;
        number = now.number;
        beyond = now.beyond;
      }) v
  left-next now r u v e begun turn =
      left-some e ∙ reached-next p vias n s others b _ t v (next-read p vias n s b now r t u v begun turn)

  -- Where the next block isn't read, what was read before it is all that is reached.
  pub left-refused : {Y : Type 0} (old cur new : Stream) (e : Error) (o : Result Y Fault)
      → (old.known ≡ true → whole ≡ counted_reached p vias n spots a t)
      → (old.known ≡ true → cur.known ≡ true) → (cur.known ≡ true → new.known ≡ true → Names e o)
      → (old.known ≡ true → (f : Fault) → o ≡ Err f → next_from p vias n s b t ≡ Err f)
      → (P : Type 0) → ((f : Fault) → whole ≡ kept_before b s f → P)
      → OnToldRefusal {X = Unit {0}} old new (Err e) P
  left-refused old cur new e o goes known named refused P h = λ k l.
      told-err e o P (named (known k) l)
      (λ f q. h f (left-some (goes k) ∙ reached-refused p vias n s others b t f (refused k f q)))

-- ---- what is there then

-- The arrays are as they were before the block that wasn't read, or but for that block.
module _ (whole : Through Counted Text) (now : Counted) (x : taken.Spot) (f : Fault) (arrays : Arrays)
    (unread : Option taken.Spot) (e : whole ≡ kept_before now (spot_of x) f) (is : unread ≡ Some x) where
  pub before-is : arrays ≡ now.reached.arrays → IsReached whole arrays unread
  before-is same = (
    same ∙ sym (ap (λ (r : Through Counted Text). r.reached.reached.arrays) e),
    ap (option_map spot_of) is ∙ sym (ap (λ (r : Through Counted Text). r.unread) e),
  )

  pub beside-is : put_block (spot_of x) zero_block arrays ≡ put_block (spot_of x) zero_block now.reached.arrays
      → IsReachedBeside whole arrays unread
  beside-is same =
      subst (λ (r : Through Counted Text). IsReachedBeside r arrays unread) (sym e) (same, ap (option_map spot_of) is)

-- What is there after a refusal is there but for the block that was refused.
pub told-beside : {X : Type 0} (whole : Through Counted Text) (arrays : Arrays) (unread : Option taken.Spot)
    (old new : Stream) (r : Result X Error) → OnToldRefusal old new r (IsReached whole arrays unread)
    → OnToldRefusal old new r (IsReachedBeside whole arrays unread)
told-beside whole arrays unread old new (Ok x) h = tt
told-beside whole arrays unread old new (Err e) h = λ k l.
    if-refused-as e (λ (at : IsReached whole arrays unread). (ap (cleared whole.unread) at.0, at.1)) (h k l)

-- ---- a block that was refused

put-again : (s : Spot) (a b : Block) (arrays : Arrays) → s.slot < length arrays
    → put_block s b (put_block s a arrays) ≡ put_block s b arrays
put-again s a b arrays h =
    let row = get_or arrays s.slot [] in
    set-set arrays s.slot (set row s.index a) (set (get_or (put_block s a arrays) s.slot []) s.index b)
    ∙ ap (λ (l : List Block). set arrays s.slot (set l s.index b))
    (get_or-set_same arrays s.slot (set row s.index a) [] h)
    ∙ ap (λ (l : List Block). set arrays s.slot l) (set-set row s.index a b)

-- Whatever a block is, the others are as before.
pub others-same : (vs : List Held) (slot index : ℕ) (v : Held) (x : List ℤ) → slot < length vs
    → v ≡ get_or vs slot v → index < length v.blocks.items
    → put_block (spot slot index) zero_block (arrays_in (set vs slot (with_block v index x)))
    ≡ put_block (spot slot index) zero_block (arrays_in vs)
others-same vs slot index v x h e i =
    ap (put_block (spot slot index) zero_block) (arrays-set vs slot index v x h e i)
    ∙ put-again (spot slot index) (to_block x) zero_block (arrays_in vs) (omega (arith, h, length-map vs blocks_in))
