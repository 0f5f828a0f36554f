-- Blocks of a scan up to the first that can't be read: read in turn, they are those of its intervals.
use Rattle.std.proofs.Common.{rules, ◌≡◌, inl, inr, ℕ, zero, suc, ◌+◌, ◌-◌, ◌%◌, ◌<◌, ◌≤◌, min, List, [], ◌∷◌, ◌++◌}
use Rattle.std.proofs.Common.{take, drop, length, get_or, Bool, Option, None, Some, Result, Ok, Err, refl, sym, ap}
use Rattle.std.proofs.Common.{◌∙◌, arith, append-nil, length-drop, length-take, take-append-drop, slice_get}
use Rattle.std.specs.List.{AllByRecursion}
use Rattle.std.proofs.Math.Bool.{and-false}
use Rattle.std.proofs.lemmas.Bool.{le-ltb, lt-ltb, ne_eqb}
use Rattle.std.proofs.lemmas.List.{set-get_or}
use Rattle.jpeg_bits.specs.Reading.{Fault, ◌>>=◌}
use Rattle.jpeg_bits.specs.Entropy.{Text, advance, fresh_before, marker_from, upcoming}
use Rattle.jpeg_bits.specs.Intervals.{groups, is_restart}
use Rattle.jpeg_bits.specs.Passes.{Block, Pass, Via, zero_block}
use Rattle.jpeg_bits.specs.declared.beyond.Beyond.TheVariants.{Nothing}
use Rattle.jpeg_bits.specs.declared.marker.Marker.{Marker}
use Rattle.jpeg_segments.proofs.Codecs.{ok-same}
use Rattle.jpeg_meaning.proofs.Order.CountedScans.{GoesOn, kept-after}
use Rattle.jpeg_meaning.proofs.Partial.ReachedIntervals.{Scanned, next_reached}
use Rattle.jpeg_meaning.proofs.Written.BroughtLevels.{get-same}
use Rattle.jpeg_meaning.specs.Brought.{Through, after_interval, after_intervals, interval_reached}
use Rattle.jpeg_meaning.specs.Brought.{intervals_reached, or_first, reached_from, scan_reached}
use Rattle.jpeg_meaning.specs.InTurn.{AreApart, Counted, IsIn, Reached, at_start, begun_from, blocks_from}
use Rattle.jpeg_meaning.specs.InTurn.{next_from, restart_from, turn_from}
use Rattle.jpeg_meaning.specs.Order.{Spot}
use Rattle.jpeg_meaning.specs.Scans.{Arrays, block_at, put_block}
use Rattle.jpeg_decoder.specs.Strips.{zeros_of}
use Rattle.jpeg_decoder.specs.Through.{blocks_reached, cleared, counted_reached}
use Rattle.jpeg_decoder.proofs.Partial.ReachedBlocks.{Read, interval-is, interval_of, turn-advances}
use Rattle.jpeg_decoder.proofs.Partial.StoppedIntervals.{stopped-ahead}

-- ---- blocks in turn

abbrev pub CountedRead : Type 0
CountedRead = Through Counted Text

-- what is reached after the last block
abbrev pub counted_end : Counted → Text → CountedRead
counted_end old t = record { reached = old; unread = None; rest = Ok t }

-- where all of some blocks are read, those at the spots after them
abbrev pub go_on : Pass → List Via → ℕ → List Spot → CountedRead → CountedRead
go_on p vias n spots r = elim r.rest [ Ok u ↦ counted_reached p vias n spots r.reached u | Err fault ↦ r ]

pub counted-append : (p : Pass) (vias : List Via) (n : ℕ) (xs ys : List Spot) (old : Counted) (t : Text)
    → counted_reached p vias n (xs ++ ys) old t ≡ go_on p vias n ys (counted_reached p vias n xs old t)
unfolding counted_reached
counted-append p vias n [] ys old t = refl
counted-append p vias n (s ∷ xs) ys old t = search (rules, counted-append p vias n xs ys)

-- ---- what is read of blocks

pub counted-whole : (p : Pass) (vias : List Via) (n : ℕ) (spots : List Spot) (old : Counted) (t : Text) (r : Counted)
    (u : Text) → blocks_from p vias n spots old t ≡ Ok (r, u)
    → counted_reached p vias n spots old t ≡ counted_end r u
unfolding counted_reached blocks_from
counted-whole p vias n [] old t r u h = search (rules, ok-same)
counted-whole p vias n (s ∷ spots) old t r u h = search (rules, counted-whole p vias n spots)

pub counted-fault : (p : Pass) (vias : List Via) (n : ℕ) (spots : List Spot) (old : Counted) (t : Text) (f : Fault)
    → blocks_from p vias n spots old t ≡ Err f → (counted_reached p vias n spots old t).rest ≡ Err f
unfolding counted_reached blocks_from
counted-fault p vias n [] old t f h = search rules
counted-fault p vias n (s ∷ spots) old t f h = search (rules, counted-fault p vias n spots)

-- ---- the block that isn't read

-- It is at one of the spots.
pub unread-of : (P : Spot → Type 0) (p : Pass) (vias : List Via) (n : ℕ) (spots : List Spot) (old : Counted) (t : Text)
    (s : Spot) → AllByRecursion P spots → (counted_reached p vias n spots old t).unread ≡ Some s → P s
unfolding counted_reached
unread-of P p vias n [] old t s all h = search rules
unread-of P p vias n (x ∷ spots) old t s all h = search (rules, unread-of P p vias n spots)

pub unread-in : (p : Pass) (vias : List Via) (n : ℕ) (spots : List Spot) (old : Counted) (t : Text) (s : Spot)
    → (counted_reached p vias n spots old t).unread ≡ Some s → IsIn s spots
unfolding counted_reached
unread-in p vias n [] old t s h = search rules
unread-in p vias n (x ∷ spots) old t s h = search (rules, unread-in p vias n spots)

-- It is as it was.
pub unread-stays : (p : Pass) (vias : List Via) (n : ℕ) (spots : List Spot) (old : Counted) (t : Text) (s : Spot)
    → AreApart spots → (counted_reached p vias n spots old t).unread ≡ Some s
    → block_at (counted_reached p vias n spots old t).reached.reached.arrays s ≡ block_at old.reached.arrays s
unfolding counted_reached next_from begun_from turn_from
unread-stays p vias n [] old t s apart h = refl
unread-stays p vias n (x ∷ spots) old t s apart h =
    search (rules, kept-after, unread-in p vias n spots, unread-stays p vias n spots)

put-again : (s : Spot) (b : Block) (arrays : Arrays) → block_at arrays s ≡ b → put_block s b arrays ≡ arrays
put-again s b arrays h = search (rules, set-get_or)

zero-at : (sizes : List ℕ) (slot index : ℕ) → get_or (get_or (zeros_of sizes) slot []) index zero_block ≡ zero_block
zero-at [] slot index = refl
zero-at (n ∷ sizes) zero index = get-same zero_block n index
zero-at (n ∷ sizes) (suc slot) index = zero-at sizes slot index

still-zero : (sizes : List ℕ) (old new : Arrays) (unread : Option Spot) → old ≡ zeros_of sizes
    → ((s : Spot) → unread ≡ Some s → block_at new s ≡ block_at old s) → cleared unread new ≡ new
still-zero sizes old new None zeros stays = refl
still-zero sizes old new (Some s) zeros stays =
    put-again s zero_block new (stays s refl ∙ ap (λ (a : Arrays). block_at a s) zeros ∙ zero-at sizes s.slot s.index)

-- Of zeros it is still zero.
pub unread-zero : (p : Pass) (vias : List Via) (n : ℕ) (spots : List Spot) (old : Counted) (t : Text) (sizes : List ℕ)
    → AreApart spots → old.reached.arrays ≡ zeros_of sizes → let r = counted_reached p vias n spots old t in
    cleared r.unread r.reached.reached.arrays ≡ r.reached.reached.arrays
unread-zero p vias n spots old t sizes apart zeros =
    let r = counted_reached p vias n spots old t in
    still-zero sizes old.reached.arrays r.reached.reached.arrays r.unread zeros
    (λ s h. unread-stays p vias n spots old t s apart h)

-- ---- the blocks of an interval

abbrev Turned : Type 0
Turned = Through Reached Text

abbrev turned_end : Reached → Text → Turned
turned_end old t = record { reached = old; unread = None; rest = Ok t }

abbrev turned_before : Reached → Spot → Fault → Turned
turned_before old s fault = record { reached = old; unread = Some s; rest = Err fault }

abbrev after_block : (Reached → Text → Turned) → Spot → Reached → Result (Reached × Text) Fault → Turned
after_block others s old o = elim o [ Ok r ↦ others r.0 r.1 | Err fault ↦ turned_before old s fault ]

-- the blocks at some spots, up to the first that can't be read, and the text after the last block
unfoldable turns_reached : Pass → List Via → List Spot → Reached → Text → Turned
turns_reached p vias [] old t = turned_end old t
turns_reached p vias (s ∷ spots) old t =
    after_block (λ new u. turns_reached p vias spots new u) s old (turn_from p vias s old t)

-- this is left of a text
abbrev IsLeft : Text → Text → Type 0
IsLeft first t = (k : ℕ) × (t ≡ advance k first)

-- Either all blocks are read, and leave a part of the text that they began with, or one isn't.
data Cut (first : Text) (r : Turned) : Type 0 where
  ended : (old : Reached) (t : Text) → IsLeft first t → r ≡ turned_end old t → Cut first r
  broken : (old : Reached) (s : Spot) (fault : Fault) → r ≡ turned_before old s fault → Cut first r

next-cut : (p : Pass) (vias : List Via) (s : Spot) (old : Reached) (t first : Text) (others : Reached → Text → Turned)
    → IsLeft first t → ((new : Reached) (u : Text) → IsLeft first u → Cut first (others new u))
    → (o : Result (Reached × Text) Fault) → turn_from p vias s old t ≡ o → Cut first (after_block others s old o)
next-cut p vias s old t first others left cut (Ok (new, u)) e =
    cut new u (turn-advances p vias s old new first t u e left)
next-cut p vias s old t first others left cut (Err f) e = broken old s f refl

turns-cut : (p : Pass) (vias : List Via) (spots : List Spot) (old : Reached) (t first : Text) → IsLeft first t
    → Cut first (turns_reached p vias spots old t)
unfolding turns_reached
turns-cut p vias [] old t first left = ended old t left refl
turns-cut p vias (s ∷ spots) old t first left =
    next-cut p vias s old t first (λ new u. turns_reached p vias spots new u) left
    (λ new u at. turns-cut p vias spots new u first at) (turn_from p vias s old t) refl

-- the same with the bits that are left
abbrev bits_left : Text → Result (List Bool) Fault
bits_left t = Ok t.bits

abbrev with_bits : Turned → Read
with_bits r = record { reached = r.reached; unread = r.unread; rest = r.rest >>= bits_left }

turns-bits : (p : Pass) (vias : List Via) (spots : List Spot) (old : Reached) (t : Text)
    → reached_from p vias spots old t ≡ with_bits (turns_reached p vias spots old t)
unfolding reached_from turns_reached
turns-bits p vias [] old t = refl
turns-bits p vias (s ∷ spots) old t = search (rules, turns-bits p vias spots)

-- ---- an interval

abbrev data_of : List ℕ → Text
data_of bytes = upcoming (fresh_before Nothing) bytes

-- blocks, and the marker after them
abbrev to_marker : Turned → Scanned
to_marker r = record { reached = r.reached.arrays; unread = r.unread; rest = r.rest >>= marker_from }

cut-marker : (bytes : List ℕ) (r : Turned) → Cut (data_of bytes) r → interval_of bytes (with_bits r) ≡ to_marker r
cut-marker bytes r (ended old t left e) = search (rules, stopped-ahead left.0)
cut-marker bytes r (broken old s f e) = search rules

-- the blocks of the interval that begins these bytes, and the text after them
abbrev turned_of : Pass → List Via → List Spot → Arrays → List ℕ → Turned
turned_of p vias spots arrays bytes = turns_reached p vias spots (at_start arrays) (data_of bytes)

turned-cut : (p : Pass) (vias : List Via) (spots : List Spot) (arrays : Arrays) (bytes : List ℕ)
    → Cut (data_of bytes) (turned_of p vias spots arrays bytes)
turned-cut p vias spots arrays bytes =
    turns-cut p vias spots (at_start arrays) (data_of bytes) (data_of bytes) (0, refl)

interval-turned : (p : Pass) (vias : List Via) (spots : List Spot) (arrays : Arrays) (bytes : List ℕ)
    → interval_reached p vias spots arrays bytes ≡ to_marker (turned_of p vias spots arrays bytes)
interval-turned p vias spots arrays bytes =
    interval-is p vias spots arrays (fresh_before Nothing) bytes refl
    ∙ ap (interval_of bytes) (turns-bits p vias spots (at_start arrays) (data_of bytes))
    ∙ cut-marker bytes (turned_of p vias spots arrays bytes) (turned-cut p vias spots arrays bytes)

-- ---- blocks in turn, up to the next restart

-- what is kept between blocks, where nothing follows the markers that end data
abbrev counts : ℕ → ℕ → Reached → Counted
counts left number r = record { reached = r; left = left; number = number; beyond = Nothing }

-- blocks of a scan, and the marker after it
abbrev scan_of : CountedRead → Scanned
scan_of r = record {
  reached = r.reached.reached.arrays;
  unread = r.unread;
  rest = (r.rest >>= marker_from) >>= after_intervals;
}

-- a scan of which these blocks are left, and of its interval this many
abbrev left_of : Pass → List Via → ℕ → List Spot → ℕ → ℕ → Reached → Text → Scanned
left_of p vias n spots left number r t = scan_of (counted_reached p vias n spots (counts left number r) t)

-- where all of some blocks are read, what follows
abbrev then_goes : (Reached → Text → Scanned) → Turned → Scanned
then_goes others r = elim r.rest [
  | Ok u ↦ others r.reached u
  | Err fault ↦ record { reached = r.reached.arrays; unread = r.unread; rest = Err fault }
]

-- Blocks between which no restart stands are read as those of an interval, and then the others.
within : (p : Pass) (vias : List Via) (n left more number : ℕ) (xs ys : List Spot) (old : Reached) (t : Text)
    → GoesOn n left (length xs) → more ≡ left - length xs
    → left_of p vias n (xs ++ ys) left number old t
    ≡ then_goes (left_of p vias n ys more number) (turns_reached p vias xs old t)
unfolding turns_reached counted_reached next_from begun_from
within p vias n left more number [] ys old t h e =
    ap (λ (k : ℕ). left_of p vias n ys k number old t) (let is : left ≡ more = omega (arith, e) in is)
within p vias n left more number (s ∷ xs) ys old t h e =
    search (rules, ne_eqb, le-ltb, and-false, within p vias n (left - 1) more number xs ys)

-- what a restart begins
abbrev restarted : Pass → List Via → ℕ → Spot → List Spot → ℕ → Reached → Result (Unit {0} × Text) Fault → Scanned
restarted p vias n s spots number old o = elim o [
  | Ok v ↦ left_of p vias n (s ∷ spots) n ((number + 1) % 8) (at_start old.arrays) v.1
  | Err fault ↦ record { reached = old.arrays; unread = Some s; rest = Err fault }
]

-- Where no block is left of an interval, a restart stands before the next block.
restarts : (p : Pass) (vias : List Via) (n number : ℕ) (s : Spot) (spots : List Spot) (old : Reached) (t : Text)
    → 0 < n
    → left_of p vias n (s ∷ spots) 0 number old t
    ≡ restarted p vias n s spots number old (restart_from Nothing number t)
unfolding counted_reached next_from begun_from
restarts p vias n number s spots old t some = search (rules, lt-ltb, ne_eqb, and-false)

-- ---- intervals in turn

-- The number of a restart marker counts modulo 8.
same-number : (k number : ℕ) (met : Option Marker) → number ≡ k % 8 → is_restart k met ≡ is_restart number met
same-number k number met is = search rules

-- after an interval: the others, or its fault
abbrev goes_after : ℕ → (Arrays → List ℕ → Scanned) → List Spot → Scanned → Scanned
goes_after k others next r =
    next_reached others r.reached (or_first r.unread next) (r.rest >>= after_interval k)

after-cut : (p : Pass) (vias : List Via) (n number k : ℕ) (s : Spot) (spots next : List Spot)
    (others : Arrays → List ℕ → Scanned) → 0 < n → number ≡ k % 8 → slice_get next 0 ≡ Some s
    → ((a : Arrays) (bytes : List ℕ)
    → others a bytes ≡ left_of p vias n (s ∷ spots) n ((number + 1) % 8) (at_start a) (data_of bytes))
    → (bytes : List ℕ) (r : Turned) → Cut (data_of bytes) r
    → goes_after k others next (to_marker r) ≡ then_goes (left_of p vias n (s ∷ spots) 0 number) r
unfolding restart_from
after-cut p vias n number k s spots next others some same first go bytes r (ended old t left e) =
    search (rules, restarts, same-number)
after-cut p vias n number k s spots next others some same first go bytes r (broken old q f e) = search rules

-- ---- a scan

-- the last interval
abbrev passed_over : Scanned → Scanned
passed_over r = record { reached = r.reached; unread = r.unread; rest = r.rest >>= after_intervals }

last-cut : (p : Pass) (vias : List Via) (n left number : ℕ) (bytes : List ℕ) (r : Turned) → Cut (data_of bytes) r
    → passed_over (to_marker r) ≡ then_goes (left_of p vias n [] left number) r
unfolding counted_reached
last-cut p vias n left number bytes r cut = search rules

one-interval : (p : Pass) (vias : List Via) (n k number : ℕ) (spots : List Spot) (arrays : Arrays) (bytes : List ℕ)
    → GoesOn n n (length spots)
    → intervals_reached p vias k spots [] arrays bytes
    ≡ left_of p vias n (spots ++ []) n number (at_start arrays) (data_of bytes)
unfolding intervals_reached
one-interval p vias n k number spots arrays bytes h =
    let left = n - length spots in
    ap passed_over (interval-turned p vias spots arrays bytes)
    ∙ last-cut p vias n left number bytes (turned_of p vias spots arrays bytes) (turned-cut p vias spots arrays bytes)
    ∙ sym (within p vias n n left number spots [] (at_start arrays) (data_of bytes) h refl)

first-of : (n : ℕ) (s : Spot) (spots : List Spot) → 0 < n → slice_get (take n (s ∷ spots)) 0 ≡ Some s
first-of zero s spots h = absurd (omega arith)
first-of (suc n) s spots h = refl

intervals-in-turn : (p : Pass) (vias : List Via) (n fuel : ℕ) (xs ys : List Spot) (number k : ℕ) (arrays : Arrays)
    (bytes : List ℕ) → number ≡ k % 8 → 0 < n → length ys ≤ fuel → length xs ≡ min n (length xs + length ys)
    → intervals_reached p vias k xs (groups fuel n ys) arrays bytes
    ≡ left_of p vias n (xs ++ ys) n number (at_start arrays) (data_of bytes)
unfolding groups intervals_reached
intervals-in-turn p vias n zero xs [] number k arrays bytes same some few whole =
    one-interval p vias n k number xs arrays bytes (inr (omega (arith, whole)))
intervals-in-turn p vias n (suc fuel) xs [] number k arrays bytes same some few whole =
    one-interval p vias n k number xs arrays bytes (inr (omega (arith, whole)))
intervals-in-turn p vias n zero xs (s ∷ spots) number k arrays bytes same some few whole = absurd (omega arith)
intervals-in-turn p vias n (suc fuel) xs (s ∷ spots) number k arrays bytes same some few whole =
    let ys = s ∷ spots in
    let next = take n ys in
    let others = intervals_reached p vias (suc k) next (groups fuel n (drop n ys)) in
    ap (goes_after k others next) (interval-turned p vias xs arrays bytes)
    ∙ after-cut p vias n number k s spots next others some same (first-of n s spots some)
    (λ a b.
    intervals-in-turn p vias n fuel next (drop n ys) ((number + 1) % 8) (suc k) a b (omega arith) some
    (omega (arith, length-drop n ys)) (omega (arith, length-drop n ys, length-take n ys))
    ∙ ap (λ (l : List Spot). left_of p vias n l n ((number + 1) % 8) (at_start a) (data_of b)) (take-append-drop n ys))
    bytes (turned_of p vias xs arrays bytes) (turned-cut p vias xs arrays bytes)
    ∙ sym (within p vias n n 0 number xs ys (at_start arrays) (data_of bytes) (inr (omega (arith, whole)))
    (omega (arith, whole)))

-- A scan in intervals of n blocks, or in one, reaches the blocks that it reaches block by block.
pub scan-by-blocks : (p : Pass) (vias : List Via) (n : ℕ) (spots : List Spot) (arrays : Arrays) (bytes : List ℕ)
    → let r = blocks_reached p vias n spots arrays bytes in
    scan_reached p n vias spots arrays bytes
    ≡ record { reached = r.reached; unread = r.unread; rest = r.rest >>= after_intervals }
unfolding blocks_reached
scan-by-blocks p vias zero spots arrays bytes =
    one-interval p vias 0 0 0 spots arrays bytes (inl refl)
    ∙ ap (λ (l : List Spot). left_of p vias 0 l 0 0 (at_start arrays) (data_of bytes)) (append-nil spots)
scan-by-blocks p vias (suc n) spots arrays bytes =
    let N = suc n in
    intervals-in-turn p vias N (length spots) (take N spots) (drop N spots) 0 0 arrays bytes refl (omega arith)
    (omega (arith, length-drop N spots)) (omega (arith, length-drop N spots, length-take N spots))
    ∙ ap (λ (l : List Spot). left_of p vias N l N 0 (at_start arrays) (data_of bytes)) (take-append-drop N spots)
