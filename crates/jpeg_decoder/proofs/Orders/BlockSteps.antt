-- Steps of the loop over the blocks of a scan.
use Rattle.std.proofs.Common.{◌≡◌, ℕ, ◌+◌, ◌-◌, ◌%◌, ◌<◌, ◌==◌, ◌&&◌, nat_lt, Bool, true, false}
use Rattle.std.proofs.Common.{List, ◌∷◌, Ok, Err, refl, ap, ◌∙◌, arith}
use Rattle.std.proofs.lemmas.Bool.{lt-ltb, ne_eqb}
use Rattle.jpeg_bits.specs.Reading.{Fault}
use Rattle.jpeg_bits.specs.Entropy.{Text}
use Rattle.jpeg_bits.specs.Readers.{Reads, gives, read_on}
use Rattle.jpeg_bits.specs.Passes.{Pass, Via}
use Rattle.jpeg_meaning.specs.Order.{Spot}
use Rattle.jpeg_meaning.specs.InTurn.{Reached, turn_from, at_start, restart_from, Counted}
use Rattle.jpeg_meaning.specs.InTurn.{begun_from, next_from, blocks_from}
use Rattle.std.proofs.lemmas.Grind.{common_steps}

-- ---- between blocks

pub begun_none : (n : ℕ) (old : Counted) (t : Text) → n ≡ 0 → begun_from n old t ≡ Ok (old, t)
unfolding begun_from
begun_none n old t e = rw e refl

abbrev pub begun_by : ℕ → Counted → Bool → Reads Counted
begun_by n old b t = (elim b as (λ _. Reads Counted) [
  | true ↦ λ u. read_on (λ (x : Unit {0}). gives (record {
    reached = at_start old.reached.arrays;
    left = n;
    number = (old.number + 1) % 8;
    beyond = old.beyond;
  })) (restart_from old.beyond old.number u)
  | false ↦ gives old
]) t

pub begun-is : (n : ℕ) (old : Counted) (t : Text) → begun_from n old t ≡ begun_by n old (nat_lt 0 n && old.left == 0) t
unfolding begun_from
begun-is n old t = refl

pub begun_within : (n : ℕ) (old : Counted) (t : Text) → 0 < old.left → begun_from n old t ≡ Ok (old, t)
begun_within n old t h = grind (arith, common_steps, begun-is, nat_lt, ne_eqb)

begun-restart : (n : ℕ) (old : Counted) (t : Text) → 0 < n → old.left ≡ 0 → begun_from n old t ≡ begun_by n old true t
begun-restart n old t h e = grind (arith, common_steps, begun-is, lt-ltb)

pub begun_next : (n : ℕ) (old : Counted) (t u : Text) → 0 < n → old.left ≡ 0 → restart_from old.beyond old.number t ≡ Ok (tt, u)
    → begun_from n old t ≡ Ok (
      record {
        reached = at_start old.reached.arrays;
        left = n;
        number = (old.number + 1) % 8;
        beyond = old.beyond;
      },
      u,
    )
begun_next n old t u h e r = grind (arith, common_steps, begun-restart)

pub begun_refused : (n : ℕ) (old : Counted) (t : Text) (f : Fault) → 0 < n → old.left ≡ 0
    → restart_from old.beyond old.number t ≡ Err f → begun_from n old t ≡ Err f
begun_refused n old t f h e r = grind (arith, common_steps, begun-restart)

pub ruleset begun_rules = (begun_none, begun_within, begun_next, begun_refused)

-- ---- a block

abbrev pub turn_then : Counted → Reached → Reads Counted
turn_then now r = gives (record { reached = r; left = now.left - 1; number = now.number; beyond = now.beyond })

-- what is left of the next block where its interval has begun
unfoldable pub begun_turn : Pass → List Via → Spot → Counted → Reads Counted
begun_turn p vias s now t = read_on (turn_then now) (turn_from p vias s now.reached t)

pub next-is : (p : Pass) (vias : List Via) (n : ℕ) (s : Spot) (old : Counted) (t : Text)
    → next_from p vias n s old t ≡ read_on (begun_turn p vias s) (begun_from n old t)
unfolding next_from begun_turn
next-is p vias n s old t = refl

pub next_begun : (p : Pass) (vias : List Via) (n : ℕ) (s : Spot) (old now : Counted) (t u : Text)
    → begun_from n old t ≡ Ok (now, u) → next_from p vias n s old t ≡ begun_turn p vias s now u
next_begun p vias n s old now t u e = next-is p vias n s old t ∙ ap (read_on (begun_turn p vias s)) e

pub next_unbegun : (p : Pass) (vias : List Via) (n : ℕ) (s : Spot) (old : Counted) (t : Text) (f : Fault)
    → begun_from n old t ≡ Err f → next_from p vias n s old t ≡ Err f
next_unbegun p vias n s old t f e = next-is p vias n s old t ∙ ap (read_on (begun_turn p vias s)) e

pub next_refused : (p : Pass) (vias : List Via) (s : Spot) (now : Counted) (t : Text) (f : Fault)
    → turn_from p vias s now.reached t ≡ Err f → begun_turn p vias s now t ≡ Err f
unfolding begun_turn
next_refused p vias s now t f e = ap (read_on (turn_then now)) e

-- ---- the blocks that are left

pub blocks_refused : (p : Pass) (vias : List Via) (n : ℕ) (s : Spot) (spots : List Spot) (old : Counted) (t : Text)
    (f : Fault) → next_from p vias n s old t ≡ Err f → blocks_from p vias n (s ∷ spots) old t ≡ Err f
unfolding blocks_from
blocks_refused p vias n s spots old t f e = ap (read_on (blocks_from p vias n spots)) e

-- those that are left once the interval of the first one has begun
pub blocks_begun : (p : Pass) (vias : List Via) (n : ℕ) (s : Spot) (spots : List Spot) (old now : Counted) (t u : Text)
    → begun_from n old t ≡ Ok (now, u)
    → blocks_from p vias n (s ∷ spots) old t ≡ read_on (blocks_from p vias n spots) (begun_turn p vias s now u)
unfolding blocks_from
blocks_begun p vias n s spots old now t u e = grind (arith, common_steps, next_begun)
