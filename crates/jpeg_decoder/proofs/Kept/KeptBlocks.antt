-- Blocks that are kept, as they are read and put back.
use Rattle.std.proofs.Common.{rules, ◌≡◌, ℕ, zero, suc, ◌+◌, ◌-◌, ◌<◌, List, ◌∷◌, length, get_or, map, set, ℤ}
use Rattle.std.proofs.Common.{pos, Ok, Err, refl, sym, ap, ◌∙◌, subst, arith, Bool, false, true, Result, []}
use Rattle.std.proofs.lemmas.List.{get_or-map, length-set, map-set}
use Rattle.jpeg_bits.specs.Reading.{Fault}
use Rattle.jpeg_bits.specs.Entropy.{Ahead, Takes, Text, upcoming}
use Rattle.jpeg_bits.specs.Stream.{Stream}
use Rattle.jpeg_bits.specs.declared.error.Error.{Error}
use Rattle.jpeg_bits.proofs.BandLoop.{Leaves}
use Rattle.jpeg_bits.proofs.WholeBlocks.{refused_after}
use Rattle.jpeg_bits.specs.Readers.{Reads, gives, read_on}
use Rattle.jpeg_bits.specs.Passes.{Pass, Via, Block, block_from, zero_block}
use Rattle.jpeg_bits.specs.Codes.{Table}
use Rattle.jpeg_meaning.specs.Order.{Spot}
use Rattle.jpeg_meaning.specs.Scans.{Arrays, block_at, put_block, via_at}
use Rattle.jpeg_meaning.specs.ScanSegments.{Coding, vias_from}
use Rattle.jpeg_meaning.specs.InTurn.{Counted, Reached, begun_from, blocks_from, turn_from}
use Rattle.jpeg_decoder.specs.declared.scan.blocks.Interval.{Interval}
use Rattle.jpeg_bits.specs.BlockView.{to_block}
use Rattle.jpeg_bits.specs.Skips.{kept, kept_turn}
use Rattle.jpeg_decoder.specs.Scanning.{IsSpotOf, IsStored, arrays_in, blocks_in, sizes_of}
use Rattle.jpeg_decoder.specs.Scanning.{counted, kept_after, kept_blocks, via_by}
use Rattle.jpeg_decoder.specs.Steps.{coding_in}
use Rattle.jpeg_decoder.specs.declared.scan.coded.Coded.{Coded}
use Rattle.jpeg_decoder.proofs.Kept.BlockArrays.{Held, block-set, block-there, seen-count, sizes-long, sizes-put}
use Rattle.jpeg_decoder.proofs.Kept.BlockArrays.{with_block}
use Rattle.jpeg_decoder.proofs.Scans.PlacedCodings.{coding-at, seen-long}
use Rattle.jpeg_decoder.proofs.Kept.KeptScans.{kept_reached, kept_read, next-kept, put-kept}
use Rattle.jpeg_decoder.proofs.Orders.BlockSteps.{begun_turn, blocks_begun, blocks_refused, next_refused, next_unbegun}
use Rattle.std.proofs.lemmas.Grind.{common_steps}

abbrev pub spot : ℕ → ℕ → Spot
spot slot index = record { slot = slot; index = index }

pub sizes-set : (vs : List Held) (slot index : ℕ) (v : Held) (x : List ℤ) → v ≡ get_or vs slot v
    → sizes_of (set vs slot (with_block v index x)) ≡ sizes_of vs
sizes-set vs slot index v x e =
    let count = length-set v.blocks.items index x in
    sizes-put vs slot v (with_block v index x)
    (omega (arith, seen-count (with_block v index x), seen-count v, count)) e

pub array-there : (vs : List Held) (slot : ℕ) (v : Held) → slot < length vs → v ≡ get_or vs slot v
    → get_or (arrays_in vs) slot [] ≡ blocks_in v
array-there vs slot v h e = get_or-map blocks_in vs slot v [] h ∙ ap blocks_in (sym e)

pub arrays-set : (vs : List Held) (slot index : ℕ) (v : Held) (x : List ℤ) → slot < length vs → v ≡ get_or vs slot v
    → index < length v.blocks.items
    → arrays_in (set vs slot (with_block v index x)) ≡ put_block (spot slot index) (to_block x) (arrays_in vs)
arrays-set vs slot index v x h e i =
    map-set blocks_in vs slot (with_block v index x)
    ∙ ap (λ (l : List Block). set (arrays_in vs) slot l)
    (block-set v index x i ∙ ap (λ (l : List Block). set l index (to_block x)) (sym (array-there vs slot v h e)))

block-kept : (vs : List Held) (slot index : ℕ) (v : Held) (x : List ℤ) → slot < length vs → v
    ≡ get_or vs slot v → index < length v.blocks.items → x ≡ get_or v.blocks.items index x
    → block_at (arrays_in vs) (spot slot index) ≡ to_block x
block-kept vs slot index v x h e i f =
    ap (λ (l : List Block). get_or l index zero_block) (array-there vs slot v h e) ∙ block-there v index x i f

pub stored-there : (vs : List Held) (slot index : ℕ) (v : Held) → v ≡ get_or vs slot v → IsStored vs slot index
    → index < length v.blocks.items
stored-there vs slot index v e h = subst (λ (a : Held). index < length a.blocks.items) (sym e) (h v)

via-from : (codings : List Coding) (from slot : ℕ) (c : Coding) (d : Via) → slot < length codings
    → c ≡ get_or codings slot c → get_or (vias_from from codings) slot d ≡ via_by (from + slot) c.dc c.ac
unfolding vias_from
via-from [] from slot c d h e = absurd (omega arith)
via-from (x ∷ codings) from zero c d h e = grind (arith, common_steps)
via-from (x ∷ codings) from (suc slot) c d h e =
    search (rules, arith, via-from codings (from + 1) slot c d (omega arith) e)

-- the way of the component in a slot of a scan
pub via-is : (codings : List Coding) (seen : List Coded) (slot : ℕ) (c : Coded) → map coding_in seen ≡ codings
    → slot < length codings → c ≡ get_or seen slot c
    → via_at (vias_from 0 codings) slot ≡ via_by slot c.dc.now c.ac.now
via-is codings seen slot c same h is =
    let z : 0 + slot ≡ slot = omega arith in
    via-from codings 0 slot (coding_in c) _ h
    (sym (coding-at seen codings slot c same (omega (arith, seen-long seen codings same)) is))
    ∙ ap (λ (k : ℕ). via_by k c.dc.now c.ac.now) z

abbrev put_turn : ℕ → ℕ → ℕ → Reached → Block × ℤ × ℕ → Reads Reached
put_turn component slot index old r = gives (record {
  arrays = put_block (spot slot index) r.0 old.arrays;
  predictors = set old.predictors component r.1;
  run = r.2;
})

turn-whole : (p : Pass) (vias : List Via) (slot index : ℕ) (old : Reached) (t : Text)
    → turn_from p vias (spot slot index) old t ≡ read_on (put_turn (via_at vias slot).component slot index old)
    (block_from p (via_at vias slot).dc (via_at vias slot).ac (get_or old.predictors (via_at vias slot).component
    (pos 0)) old.run (block_at old.arrays (spot slot index)) t)
unfolding turn_from
turn-whole p vias slot index old t = refl

put-as-kept : (keeps : Bool) (slot index : ℕ) (old : Reached) (b : Block) (next : ℤ) (more : ℕ)
    (o : Result ((Block × ℤ × ℕ) × Text) Fault) (u : Text)
    → read_on (kept_turn keeps) o ≡ Ok ((kept keeps b, next, more), u)
    → read_on (kept_read keeps) (read_on (put_turn slot slot index old) o)
    ≡ Ok (
      kept_reached keeps (record {
        arrays = put_block (spot slot index) b old.arrays;
        predictors = set old.predictors slot next;
        run = more;
      }),
      u,
    )
put-as-kept keeps slot index old b next more (Ok r) u e =
    let same = put-kept keeps (spot slot index) old.arrays r.0.0 b (grind arith) in grind arith
put-as-kept keeps slot index old b next more (Err f) u e = cc

module _ (p : Pass) (vias : List Via) (slots slot index : ℕ) (dc ac : Table) (vs : List Held) (v : Held) (x : List ℤ)
    (predictors : List ℤ) (run : ℕ) (z : ℤ)
    (of : IsSpotOf slots (sizes_of vs) (spot slot index)) (is : via_at vias slot ≡ via_by slot dc ac)
    (array : v ≡ get_or vs slot v) (within : index < length v.blocks.items) (block : x ≡ get_or v.blocks.items index x)
    (predictor : z ≡ get_or predictors slot (pos 0)) where
  inside : slot < length vs
  inside = omega (arith, of.kept.has_slot, sizes-long vs)

  abbrev old : Reached
  old = record { arrays = arrays_in vs; predictors = predictors; run = run }

  turn-is : (t : Text) → turn_from p vias (spot slot index) old t ≡ read_on (put_turn slot slot index old)
      (block_from p dc ac z run (to_block x) t)
  turn-is t = rw (turn-whole, is, block-kept vs slot index v x inside array within block, ← predictor)

  pub turn-refused : (t : Text) (f : Fault) → block_from p dc ac z run (to_block x) t ≡ Err f
      → turn_from p vias (spot slot index) old t ≡ Err f
  turn-refused t f e = turn-is t ∙ ap (read_on (put_turn slot slot index old)) e

  pub turn-kept : (keeps : Bool) (y : List ℤ) (next : ℤ) (more : ℕ) (t u : Text)
      → read_on (kept_turn keeps) (block_from p dc ac z run (to_block x) t)
      ≡ Ok ((kept keeps (to_block y), next, more), u)
      → read_on (kept_read keeps) (turn_from p vias (spot slot index) old t)
      ≡ Ok (
        kept_reached keeps (record {
          arrays = arrays_in (set vs slot (with_block v index y));
          predictors = set predictors slot next;
          run = more;
        }),
        u,
      )
  turn-kept keeps y next more t u e = search (rules, turn-is, arrays-set, inside, within, put-as-kept)

-- ---- the blocks that are left, of which the next is at a spot

module _ (keeps : Bool) (p : Pass) (vias : List Via) (n : ℕ) (s : Spot) (spots others : List Spot) (i : Interval)
    (old new : Arrays) (start : Ahead) (source now : Stream) (whole : Reads Counted) (is : spots ≡ s ∷ others)
    (same : new ≡ old)
    (so_far : Leaves whole start source (kept_blocks keeps (blocks_from p vias n spots (counted i old))) i.decoder now) where
  there : Leaves whole start source (kept_blocks keeps (blocks_from p vias n (s ∷ others) (counted i new))) i.decoder now
  there =
      subst (λ (a : Arrays). Leaves whole start source (kept_blocks keeps (blocks_from p vias n (s ∷ others)
      (counted i a))) i.decoder now) (sym same)
      (subst (λ (l : List Spot). Leaves whole start source (kept_blocks keeps (blocks_from p vias n l (counted i old)))
      i.decoder now) is so_far)

  abbrev Begins : Result (Unit {0}) Error → Counted → Ahead → Stream → Type 0
  Begins r next b mid = Takes (λ (u : Unit {0}). next) (begun_from n (counted i new)) i.decoder now r b mid

  -- Its interval is refused.
  pub begin-refused : (next : Counted) (e : Error) (b : Ahead) (mid : Stream) → Begins (Err e) next b mid
      → Takes (λ (u : Unit {0}). counted i new) whole start source (Err e) b mid
  begin-refused next e b mid begins =
      refused_after (λ (u : Unit {0}). counted i new) (λ (u : Unit {0}). next) whole
      (kept_blocks keeps (blocks_from p vias n (s ∷ others) (counted i new))) (begun_from n (counted i new)) start
      i.decoder b source now mid e
      (λ t f h. ap (read_on (kept_after keeps)) (blocks_refused p vias n s others (counted i new) t f
      (next_unbegun p vias n s (counted i new) t f h))) there begins

  -- Its interval has begun, or it is inside of one.
  abbrev after_turn : Counted → Reads Counted
  after_turn next t = read_on (kept_after keeps) (read_on (blocks_from p vias n others) (begun_turn p vias s next t))

  begun : (next : Counted) (b : Ahead) (mid : Stream) → Begins (Ok tt) next b mid
      → Leaves whole start source (after_turn next) b mid
  begun next b mid begins = (
    begins.0 ∙ there.0,
    λ k.
        let at = there.1 k in
        let by = begins.1 at.0 in (
          by.0,
          at.1 ∙ ap (read_on (kept_after keeps)) (blocks_begun p vias n s others (counted i new) next _ _ by.1),
        ),
  )

  -- It is refused.
  pub block-refused : {Y Z : Type 0} (next : Counted) (b d : Ahead) (mid last : Stream) (view : Y → Z) (read : Reads Z)
      (e : Error) → Begins (Ok tt) next b mid
      → ((t : Text) (f : Fault) → read t ≡ Err f → turn_from p vias s next.reached t ≡ Err f)
      → Takes view read b mid (Err e) d last
      → Takes (λ (u : Unit {0}). counted i new) whole start source (Err e) d last
  block-refused next b d mid last view read e begins refused takes =
      refused_after (λ (u : Unit {0}). counted i new) view whole (after_turn next) read start b d source mid last e
      (λ t f h. ap (λ o. read_on (kept_after keeps) (read_on (blocks_from p vias n others) o))
      (next_refused p vias s next t f (refused t f h))) (begun next b mid begins) takes

  -- It is read.
  pub block-read : (next : Counted) (r : Reached) (b d : Ahead) (mid last : Stream) → Begins (Ok tt) next b mid
      → (keeps ≡ false → p.is_first ≡ true) → last.failed ≡ mid.failed → (mid.known ≡ true → last.known ≡ true)
      → (mid.known ≡ true → read_on (kept_read keeps) (turn_from p vias s next.reached (upcoming b mid.bytes))
      ≡ Ok (kept_reached keeps r, upcoming d last.bytes))
      → Leaves whole start source (kept_blocks keeps (blocks_from p vias n others (record {
        reached = r;
        left = next.left - 1;
        number = next.number;
        beyond = next.beyond;
      }))) d last
  block-read next r b d mid last begins first failed known turn =
      let here = begun next b mid begins in (
        failed ∙ here.0,
        λ k.
            let at = here.1 k in (
              known at.0,
              at.1 ∙ next-kept keeps p vias n s others next r _ _ first (turn at.0),
            ),
      )
