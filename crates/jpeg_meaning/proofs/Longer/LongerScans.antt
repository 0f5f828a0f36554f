-- Longer data of a scan bring the blocks that shorter ones bring, all that can be read of these, and go on from there.
use Rattle.std.proofs.Common.{◌≡◌, ◌⊎◌, inl, inr, ℕ, suc, ◌+◌, ◌≤◌, List, [], ◌∷◌, ◌++◌, length}
use Rattle.std.proofs.Common.{length-append, arith, refl, sym, ap, ◌∙◌, subst, Ok, Err, Result, Option, append_assoc}
use Rattle.std.proofs.Common.{append-nil, slice_get}
use Rattle.std.specs.List.{AllByRecursion, flat_map}
use Rattle.jpeg_bits.specs.Reading.{Fault, Malformed, Outcome}
use Rattle.jpeg_bits.specs.Reading as outcomes
use Rattle.jpeg_bits.specs.Intervals.{first_group, other_groups}
use Rattle.jpeg_bits.specs.Passes.{Pass, Via}
use Rattle.jpeg_bits.specs.declared.marker.Marker.{Marker}
use Rattle.jpeg_bits.proofs.WrittenIntervals.{all-groups}
use Rattle.jpeg_segments.proofs.Codecs.{bind-ok, err-ok, ok-same}
use Rattle.jpeg_meaning.specs.Brought.{after_interval, after_intervals, interval_reached, intervals_reached, or_first}
use Rattle.jpeg_meaning.specs.Brought.{reached_from, scan_reached, stopping}
use Rattle.jpeg_meaning.specs.InTurn.{at_start}
use Rattle.jpeg_meaning.specs.Order.{Spot}
use Rattle.jpeg_meaning.specs.Scans.{Arrays}
use Rattle.jpeg_meaning.proofs.Partial.ReachedIntervals.{Scanned, next_reached, restart-stands}
use Rattle.jpeg_meaning.specs.LongerStreams.{IsMost}
use Rattle.jpeg_meaning.specs.LongerStreams.{Puts, PutsFirst, ReadsOn}
use Rattle.jpeg_meaning.proofs.Longer.FirstSpots.{HasFirst, first-after, get-after, others-have}
use Rattle.jpeg_meaning.proofs.Longer.LongerData.{CanReadOf, IntervalGoes, Met, ReadsMost, StaysBrought, all-read}
use Rattle.jpeg_meaning.proofs.Longer.LongerData.{both, interval-goes, interval-stays, puts-both, puts-of-more}
use Rattle.jpeg_meaning.proofs.Longer.LongerData.{puts-then, reaches}
use Rattle.jpeg_meaning.proofs.Longer.LongerSegments.{after-stays, stays-read}

-- these spots, and those of more intervals
abbrev pub with_groups : List Spot → List (List Spot) → List Spot
with_groups spots more = spots ++ flat_map (λ (g : List Spot). g) more

pub after-same : (k : ℕ) (x : Option Marker × List ℕ) (b more : List ℕ) → after_interval k x ≡ Ok b
    → after_interval k (x.0, x.1 ++ more) ≡ Ok (b ++ more)
after-same k x b more h = let r = restart-stands k x b h in rw (r.0, r.1) refl

-- what follows the last interval is read so of longer data
pub last-stays : {A B : Type 0} (more : List ℕ) (to : A → B) (r s : A × Met) → StaysBrought more r s
    → StaysBrought more (to r.0, outcomes.◌>>=◌ r.1 after_intervals) (to s.0, outcomes.◌>>=◌ s.1 after_intervals)
last-stays {A} {B} more to r s stays x h =
    let y = bind-ok r.1 after_intervals x h in
    ap (λ (q : A × Met). (to q.0, outcomes.◌>>=◌ q.1 after_intervals)) (stays y.0 y.1)
    ∙ ap (λ (o : Outcome (Option Marker)). (to r.0, o)) (stays-read more _ _ (after-stays more y.0) x y.2)

-- and what follows another one, of the shorter data by `first` and of the longer by `second`
pub next-stays : {A B : Type 0} (more : List ℕ) (k : ℕ)
    (first second : A → Result (List ℕ) Fault → B × Outcome (Option Marker)) (r s : A × Met)
    → ((g : Fault) → (first r.0 (Err g)).1 ≡ Err g) → StaysBrought more r s
    → ((b : List ℕ) → StaysBrought more (first r.0 (Ok b)) (second r.0 (Ok (b ++ more))))
    → (q : Result (List ℕ) Fault) → outcomes.◌>>=◌ r.1 (after_interval k) ≡ q
    → StaysBrought more (first r.0 q) (second s.0 (outcomes.◌>>=◌ s.1 (after_interval k)))
next-stays more k first second r s errs stays others (Err g) e x h = absurd (err-ok g x (sym (errs g) ∙ h))
next-stays {A} more k first second r s errs stays others (Ok b) e x h =
    let y = bind-ok r.1 (after_interval k) b e in
    ap (λ (q : A × Met). second q.0 (outcomes.◌>>=◌ q.1 (after_interval k))) (stays y.0 y.1)
    ∙ ap (second r.0) (after-same k y.0 b more y.2) ∙ others b x h

-- what is put of an interval's blocks, and that all are where it is read
record IntervalPuts (spots : List Spot) (before after : Arrays) (o : Met) : Type 0 where
  first : PutsFirst spots before after
  all : (x : Option Marker × List ℕ) → o ≡ Ok x → Puts spots before after

interval-puts : (p : Pass) (vias : List Via) (spots : List Spot) (arrays : Arrays) (bytes : List ℕ)
    → IntervalPuts spots arrays (interval_reached p vias spots arrays bytes).reached
    (interval_reached p vias spots arrays bytes).rest
unfolding interval_reached
interval-puts p vias spots arrays bytes =
    let o = reached_from p vias spots (at_start arrays) (stopping bytes) in
    let r = reaches p vias spots (at_start arrays) (stopping bytes) in
    record { first = r.first; all = λ x h. let l = all-read bytes o.rest x h in r.all l.0 l.1 }

-- after an interval, what the others put
next-puts : (k : ℕ) (spots others : List Spot) (before after : Arrays) (o : Met)
    (reached : Arrays → List ℕ → Scanned) (unread : Option Spot) → IntervalPuts spots before after o
    → ((b : List ℕ) → PutsFirst others after (reached after b).reached)
    → (q : Result (List ℕ) Fault) → outcomes.◌>>=◌ o (after_interval k) ≡ q
    → PutsFirst (spots ++ others) before (next_reached reached after unread q).reached
next-puts k spots others before after o reached unread one more (Err g) h =
    puts-of-more spots others before after one.first
next-puts k spots others before after o reached unread one more (Ok b) h =
    let x = bind-ok o (after_interval k) b h in
    puts-then spots others before after (reached after b).reached (one.all x.0 x.1) (more b)

intervals-put : (p : Pass) (vias : List Via) (k : ℕ) (spots : List Spot) (more : List (List Spot)) (arrays : Arrays)
    (bytes : List ℕ)
    → PutsFirst (with_groups spots more) arrays (intervals_reached p vias k spots more arrays bytes).reached
unfolding intervals_reached
intervals-put p vias k spots [] arrays bytes =
    puts-of-more spots [] arrays _ (interval-puts p vias spots arrays bytes).first
intervals-put p vias k spots (next ∷ more) arrays bytes =
    let r = interval_reached p vias spots arrays bytes in
    next-puts k spots (with_groups next more) arrays r.reached r.rest (intervals_reached p vias (suc k) next more)
    (or_first r.unread next) (interval-puts p vias spots arrays bytes)
    (λ b. intervals-put p vias (suc k) next more r.reached b) (outcomes.◌>>=◌ r.rest (after_interval k)) refl

-- of more blocks, the first that isn't read
abbrev FirstOf : List Spot → Option Spot → List Spot → Option Spot → Type 0
FirstOf xs unread all whole =
    (n : ℕ) → n ≤ length xs → unread ≡ slice_get xs n → whole ≡ slice_get all n

-- shorter data of some blocks and more, of which they bring the first
on-more : (P Q : ℕ → Type 0) (xs ys : List Spot) (before shorter middle longer : Arrays) (unread whole : Option Spot)
    (m : ReadsMost P xs before shorter middle unread) → ((count : ℕ) → Q count → P count)
    → ((count : ℕ) → P count → Q count) → PutsFirst (m.on.others ++ ys) shorter longer
    → FirstOf xs unread (xs ++ ys) whole → ReadsMost Q (xs ++ ys) before shorter longer whole
on-more P Q xs ys before shorter middle longer unread whole m so back further first =
    let r = m.on in
    let all : length xs ≡ length (r.done ++ r.others) = ap (λ (l : List Spot). length l) r.parts in
    let sum = length-append r.done r.others in
    record {
      on = record {
        done = r.done;
        others = r.others ++ ys;
        parts = ap (λ (l : List Spot). l ++ ys) r.parts ∙ append_assoc r.done r.others ys;
        puts = r.puts;
        further = further;
      };
      can = back (length r.done) m.can;
      most = λ count q. m.most count (so count q);
      next = first (length r.done) (omega arith) m.next;
    }

-- so many of some blocks, or all of them and so many of others
abbrev Within : List Spot → (ℕ → Type 0) → ℕ → Type 0
Within xs P count = (count ≤ length xs) ⊎ ((c : ℕ) × (count ≡ length xs + c) × P c)

within-both : (xs ys : List Spot) (P : ℕ → Type 0) → ((count : ℕ) → P count → count ≤ length ys) → (count : ℕ)
    → Within xs P count → count ≤ length (xs ++ ys)
within-both xs ys P most count (inl le) = let l = length-append xs ys in omega arith
within-both xs ys P most count (inr w) =
    let l = length-append xs ys in
    let le = most w.0 w.2 in
    let e = w.1 in omega arith

-- after blocks that both bring
on-after : (P Q : ℕ → Type 0) (xs ys : List Spot) (before middle shorter longer : Arrays) (unread : Option Spot)
    → Puts xs before middle → ReadsMost P ys middle shorter longer unread
    → ((count : ℕ) → Q count → Within xs P count) → ((c : ℕ) → P c → Q (length xs + c))
    → ReadsMost Q (xs ++ ys) before shorter longer unread
on-after P Q xs ys before middle shorter longer unread p m so back =
    let r = m.on in
    record {
      on = record {
        done = xs ++ r.done;
        others = r.others;
        parts = ap (λ (l : List Spot). xs ++ l) r.parts ∙ sym (append_assoc xs r.done r.others);
        puts = puts-both xs r.done before middle shorter p r.puts;
        further = r.further;
      };
      can = subst Q (sym (length-append xs r.done)) (back (length r.done) m.can);
      most = λ count q. within-both xs r.done P m.most count (so count q);
      next = m.next ∙ sym (get-after xs ys (length r.done))
          ∙ ap (slice_get (xs ++ ys)) (sym (length-append xs r.done));
    }

-- So many blocks of the first interval can be read; or it ends so, and so many of the others after it.
abbrev pub Parts : (ℕ → Type 0) → (List ℕ → ℕ → Type 0) → ℕ → List Spot → Met → ℕ → Type 0
Parts I O k spots o count =
    I count
    ⊎ ((b : List ℕ) × (c : ℕ) × (outcomes.◌>>=◌ o (after_interval k) ≡ Ok b) × (count ≡ length spots + c) × O b c)

-- where the first interval of the shorter data has a fault
stopped-goes : (P Q : ℕ → Type 0) (k : ℕ) (spots others : List Spot) (before shorter : Arrays)
    (unread whole later : Option Spot) (s : Arrays × Met) (reached : Arrays → List ℕ → Scanned)
    → IntervalGoes P spots before shorter s.0 unread s.1
    → ((count : ℕ) → Q count → P count) → ((count : ℕ) → P count → Q count)
    → ((b : List ℕ) → PutsFirst others s.0 (reached s.0 b).reached) → FirstOf spots unread (spots ++ others) whole
    → (q : Result (List ℕ) Fault) → outcomes.◌>>=◌ s.1 (after_interval k) ≡ q
    → ReadsMost Q (spots ++ others) before shorter (next_reached reached s.0 later q).reached whole
stopped-goes P Q k spots others before shorter unread whole later s reached i so back more first (Err g) h =
    on-more P Q spots others before shorter s.0 s.0 unread whole i.brings so back
    (puts-of-more i.brings.on.others others shorter s.0 i.brings.on.further) first
stopped-goes P Q k spots others before shorter unread whole later s reached i so back more first (Ok b) h =
    let x = bind-ok s.1 (after_interval k) b h in
    on-more P Q spots others before shorter s.0 (reached s.0 b).reached unread whole i.brings so back
    (puts-then i.brings.on.others others shorter s.0 (reached s.0 b).reached (i.all x.0 x.1) (more b)) first

-- where it is read
read-goes : (P Q : ℕ → Type 0) (k : ℕ) (spots others : List Spot) (before : Arrays) (later : Option Spot)
    (r s : Arrays × Met) (b more : List ℕ) (reached : Arrays → List ℕ → Scanned)
    (x : Option Marker × List ℕ)
    → after_interval k x ≡ Ok b → Puts spots before r.0 → s ≡ (r.0, Ok (x.0, x.1 ++ more))
    → ReadsMost P others r.0 (reached r.0 b).reached (reached r.0 (b ++ more)).reached (reached r.0 b).unread
    → ((count : ℕ) → Q count → Within spots P count) → ((c : ℕ) → P c → Q (length spots + c))
    → ReadsMost Q (spots ++ others) before (reached r.0 b).reached
    (next_reached reached s.0 later (outcomes.◌>>=◌ s.1 (after_interval k))).reached (reached r.0 b).unread
read-goes P Q k spots others before later r s b more reached x h all same on so back =
    let one = reached r.0 b in
    subst (λ (q : Arrays × Met). ReadsMost Q (spots ++ others) before one.reached
    (next_reached reached q.0 later (outcomes.◌>>=◌ q.1 (after_interval k))).reached one.unread) (sym same)
    (subst (λ (o : Result (List ℕ) Fault). ReadsMost Q (spots ++ others) before one.reached
    (next_reached reached r.0 later o).reached one.unread) (sym (after-same k x b more h))
    (on-after P Q spots others before r.0 one.reached (reached r.0 (b ++ more)).reached one.unread all on so back))

-- What can be read of one interval and more is what can be read of the first, or of the others after it.
record Splits (I Q : ℕ → Type 0) (O : List ℕ → ℕ → Type 0) (k : ℕ) (spots : List Spot) (o : Met) : Type 0 where
  few : (count : ℕ) → I count → count ≤ length spots
  parts : (count : ℕ) → Q count → Parts I O k spots o count
  first : (count : ℕ) → I count → Q count
  after : (b : List ℕ) → outcomes.◌>>=◌ o (after_interval k) ≡ Ok b → (c : ℕ) → O b c → Q (length spots + c)

next-goes : (I Q : ℕ → Type 0) (O : List ℕ → ℕ → Type 0) (k : ℕ) (spots others : List Spot) (before : Arrays)
    (r s : Scanned) (whole later : Option Spot) (more : List ℕ)
    (reached : Arrays → List ℕ → Scanned)
    → Splits I Q O k spots r.rest → IntervalGoes I spots before r.reached s.reached r.unread s.rest
    → IntervalPuts spots before r.reached r.rest → StaysBrought more (both r) (both s)
    → ((b : List ℕ) → PutsFirst others s.reached (reached s.reached b).reached)
    → FirstOf spots r.unread (spots ++ others) whole
    → ((b : List ℕ) → ReadsMost (O b) others r.reached (reached r.reached b).reached
    (reached r.reached (b ++ more)).reached (reached r.reached b).unread)
    → (q : Result (List ℕ) Fault) → outcomes.◌>>=◌ r.rest (after_interval k) ≡ q
    → ReadsMost Q (spots ++ others) before (next_reached reached r.reached whole q).reached
    (next_reached reached s.reached later (outcomes.◌>>=◌ s.rest (after_interval k))).reached
    (next_reached reached r.reached whole q).unread
next-goes I Q O k spots others before r s whole later more reached split i one stays puts first on (Err g) h =
    stopped-goes I Q k spots others before r.reached r.unread whole later (both s) reached i
    (λ count q. go count (split.parts count q)) split.first puts first
    (outcomes.◌>>=◌ s.rest (after_interval k)) refl
  where
    go : (count : ℕ) → Parts I O k spots r.rest count → I count
    go count (inl y) = y
    go count (inr y) = absurd (err-ok g y.0 (sym h ∙ y.2))
next-goes I Q O k spots others before r s whole later more reached split i one stays puts first on (Ok b) h =
    let x = bind-ok r.rest (after_interval k) b h in
    read-goes (O b) Q k spots others before later (both r) (both s) b more reached x.0 x.2 (one.all x.0 x.1)
    (stays x.0 x.1) (on b) (λ count q. go count (split.parts count q)) (split.after b h)
  where
    go : (count : ℕ) → Parts I O k spots r.rest count → Within spots (O b) count
    go count (inl y) = inl (split.few count y)
    go count (inr y) =
        inr (y.1, y.3, subst (λ (l : List ℕ). O l y.1) (ok-same y.0 b (sym y.2 ∙ h)) y.4)

-- ---- the blocks that can be read

-- The first blocks of one interval and more, so many, can be read of the bits that these bytes have.
pub data CanReach (p : Pass) (vias : List Via) : ℕ → List Spot → List (List Spot) → Arrays → List ℕ → ℕ → Type 0 where
  here : (k : ℕ) (spots : List Spot) (groups : List (List Spot)) (arrays : Arrays) (bytes : List ℕ) (count : ℕ)
      → CanReadOf p vias spots arrays bytes count → CanReach p vias k spots groups arrays bytes count
  later : (k : ℕ) (spots next : List Spot) (groups : List (List Spot)) (arrays : Arrays) (bytes left : List ℕ)
      (count : ℕ)
      → outcomes.◌>>=◌ (interval_reached p vias spots arrays bytes).rest (after_interval k) ≡ Ok left
      → CanReach p vias (suc k) next groups (interval_reached p vias spots arrays bytes).reached left count
      → CanReach p vias k spots (next ∷ groups) arrays bytes (length spots + count)

pub here-only : (p : Pass) (vias : List Via) (k : ℕ) (spots : List Spot) (arrays : Arrays) (bytes : List ℕ) (count : ℕ)
    → CanReach p vias k spots [] arrays bytes count → CanReadOf p vias spots arrays bytes count
here-only p vias k spots arrays bytes count (here k' spots' groups' arrays' bytes' count' c) = c

pub here-or-later : (p : Pass) (vias : List Via) (k : ℕ) (spots next : List Spot) (groups : List (List Spot))
    (arrays : Arrays) (bytes : List ℕ) (count : ℕ) → CanReach p vias k spots (next ∷ groups) arrays bytes count
    → Parts (CanReadOf p vias spots arrays bytes)
    (CanReach p vias (suc k) next groups (interval_reached p vias spots arrays bytes).reached) k spots
    (interval_reached p vias spots arrays bytes).rest count
here-or-later p vias k spots next groups arrays bytes count (here k' spots' groups' arrays' bytes' count' c) = inl c
here-or-later p vias k spots next groups arrays bytes count
    (later k' spots' next' groups' arrays' bytes' left count' e c) = inr (left, count', e, refl, c)

reach-splits : (p : Pass) (vias : List Via) (k : ℕ) (spots next : List Spot) (groups : List (List Spot))
    (arrays : Arrays) (bytes : List ℕ)
    → Splits (CanReadOf p vias spots arrays bytes) (CanReach p vias k spots (next ∷ groups) arrays bytes)
    (CanReach p vias (suc k) next groups (interval_reached p vias spots arrays bytes).reached) k spots
    (interval_reached p vias spots arrays bytes).rest
reach-splits p vias k spots next groups arrays bytes = record {
  few = λ count c. c.are_there;
  parts = here-or-later p vias k spots next groups arrays bytes;
  first = here k spots (next ∷ groups) arrays bytes;
  after = λ b e c o. later k spots next groups arrays bytes b c e o;
}

intervals-go : (p : Pass) (vias : List Via) (k : ℕ) (spots : List Spot) (groups : List (List Spot)) (arrays : Arrays)
    (bytes more : List ℕ) → AllByRecursion HasFirst groups
    → ReadsMost (CanReach p vias k spots groups arrays bytes) (with_groups spots groups) arrays
    (intervals_reached p vias k spots groups arrays bytes).reached
    (intervals_reached p vias k spots groups arrays (bytes ++ more)).reached
    (intervals_reached p vias k spots groups arrays bytes).unread
unfolding intervals_reached
intervals-go p vias k spots [] arrays bytes more have =
    let goes = (interval-goes p vias spots arrays bytes more).brings in
    on-more (CanReadOf p vias spots arrays bytes) (CanReach p vias k spots [] arrays bytes) spots [] arrays _ _ _ _ _
    goes (here-only p vias k spots arrays bytes) (here k spots [] arrays bytes)
    (puts-of-more goes.on.others [] _ _ goes.on.further)
    (λ n le e. e ∙ ap (λ (l : List Spot). slice_get l n) (sym (append-nil spots)))
intervals-go p vias k spots (next ∷ groups) arrays bytes more have =
    let r = interval_reached p vias spots arrays bytes in
    let s = interval_reached p vias spots arrays (bytes ++ more) in
    next-goes (CanReadOf p vias spots arrays bytes) (CanReach p vias k spots (next ∷ groups) arrays bytes)
    (CanReach p vias (suc k) next groups r.reached) k spots (with_groups next groups) arrays r s
    (or_first r.unread next) (or_first s.unread next) more (intervals_reached p vias (suc k) next groups)
    (reach-splits p vias k spots next groups arrays bytes) (interval-goes p vias spots arrays bytes more)
    (interval-puts p vias spots arrays bytes) (interval-stays p vias spots arrays bytes more)
    (λ b. intervals-put p vias (suc k) next groups s.reached b)
    (λ n le e. ap (λ (o : Option Spot). or_first o next) e
    ∙ first-after spots next (flat_map (λ (g : List Spot). g) groups) n have.0 le)
    (λ b. intervals-go p vias (suc k) next groups r.reached b more have.1)
    (outcomes.◌>>=◌ r.rest (after_interval k)) refl

-- The first blocks of a scan, so many, can be read of the bits that these bytes have.
abbrev pub CanReachOf : Pass → ℕ → List Via → List Spot → Arrays → List ℕ → ℕ → Type 0
CanReachOf p n vias spots arrays bytes = CanReach p vias 0 (first_group n spots) (other_groups n spots) arrays bytes

-- Longer data of a scan bring the blocks of shorter ones, which are all that can be read, and go on after them.
pub longer_data_read_most : (p : Pass) (n : ℕ) (vias : List Via) (spots : List Spot) (arrays : Arrays)
    (bytes more : List ℕ)
    → ReadsMost (CanReachOf p n vias spots arrays bytes) spots arrays (scan_reached p n vias spots arrays bytes).reached
    (scan_reached p n vias spots arrays (bytes ++ more)).reached (scan_reached p n vias spots arrays bytes).unread
longer_data_read_most p n vias spots arrays bytes more =
    subst (λ (l : List Spot). ReadsMost (CanReachOf p n vias spots arrays bytes) l arrays
    (scan_reached p n vias spots arrays bytes).reached (scan_reached p n vias spots arrays (bytes ++ more)).reached
    (scan_reached p n vias spots arrays bytes).unread) (all-groups n spots)
    (intervals-go p vias 0 (first_group n spots) (other_groups n spots) arrays bytes more (others-have n spots))

-- Longer data of a scan bring the blocks of shorter ones, and go on after them.
pub longer_data_read_on : (p : Pass) (n : ℕ) (vias : List Via) (spots : List Spot) (arrays : Arrays)
    (bytes more : List ℕ) → ReadsOn spots arrays (scan_reached p n vias spots arrays bytes).reached
    (scan_reached p n vias spots arrays (bytes ++ more)).reached
longer_data_read_on p n vias spots arrays bytes more = (longer_data_read_most p n vias spots arrays bytes more).on

-- The first block of a scan that isn't read is the one after all that can be read.
pub unread_is_next : (p : Pass) (n : ℕ) (vias : List Via) (spots : List Spot) (arrays : Arrays) (bytes : List ℕ)
    (count : ℕ) → IsMost (CanReachOf p n vias spots arrays bytes) count
    → (scan_reached p n vias spots arrays bytes).unread ≡ slice_get spots count
unread_is_next p n vias spots arrays bytes count m =
    let r = longer_data_read_most p n vias spots arrays bytes [] in
    let few = m.most (length r.on.done) r.can in
    let many = r.most count m.holds in
    let same : length r.on.done ≡ count = omega arith in
    r.next ∙ ap (slice_get spots) same
