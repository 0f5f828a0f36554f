-- How the blocks of a scan of some components are coded, MCU by MCU (T.81, A.2).
use Rattle.std.proofs.Common.{◌≡◌, ℕ, zero, suc, ◌+◌, ◌*◌, ◌≤◌, ◌==◌, Bool, false, List, [], ◌∷◌, ◌++◌, length}
use Rattle.std.proofs.Common.{map, replicate, refl, sym, ap, ap₂, ◌∙◌, subst, arith, add-mul, one-mul, length-append}
use Rattle.std.proofs.Common.{mul-pos, mul_comm}
use Rattle.std.proofs.lemmas.Bool.{ne_eqb}
use Rattle.std.proofs.lemmas.List.{length-replicate, map-append, replicate-append-replicate}
use Rattle.std.proofs.lemmas.List.Sums.{sum_by-cons}
use Rattle.std.proofs.lemmas.Option.{get_or_from_slice_get, same_Some, slice_get_within}
use Rattle.std.specs.List.{AllByRecursion, flat_map, range_with_len}
use Rattle.std.specs.Prelude.{Some, if◌then◌else◌, slice_get, sum_by}
use Rattle.jpeg_bits.specs.Passes.{Pass, Via}
use Rattle.jpeg_segments.specs.Frame.{Component as WrittenComponent, Frame as WrittenFrame, component_of}
use Rattle.jpeg_meaning.specs.InTurn.{Fits}
use Rattle.jpeg_meaning.specs.declared.grids.Grid.{Grid}
use Rattle.jpeg_meaning.specs.Order.{Spot, all_spots, grid_of, mcu_size, mcu_spots, own_spots, part_spot, part_spots}
use Rattle.jpeg_meaning.specs.Order.{spots_of}
use Rattle.jpeg_meaning.specs.ScanSegments.{Coding, components_of, vias_from}
use Rattle.jpeg_meaning.specs.Scans.{via_at}
use Rattle.jpeg_meaning.proofs.Order.Apart.{At, at-all, at-got, get-at}
use Rattle.zaxbriar_strict.specs.Changes.{Kept, Place}
use Rattle.zaxbriar_strict.specs.Contexts.{AreWays, blocks_at, unit_of}
use Rattle.zaxbriar_strict.specs.Heads.{IsMade, written_frame}
use Rattle.zaxbriar_strict.specs.Members.{HaveTables}
use Rattle.zaxbriar_strict.specs.Runs.{repeated, turns_by}
use Rattle.zaxbriar_strict.specs.ScanData.{AreAlike, AreCodedBy, AreGroups, AreInstalled, IsAtSpot, IsCodedBy, ReadsData, own_high_of, own_wide_of}
use Rattle.zaxbriar_strict.specs.ScanData.{units_high, units_wide, ways_of}
use Rattle.zaxbriar_strict.specs.declared.frame.Component.{Component}
use Rattle.zaxbriar_strict.specs.declared.frame.Frame.{Frame}
use Rattle.zaxbriar_strict.specs.declared.scan.Member.{Member}
use Rattle.zaxbriar_strict.specs.declared.tables.Tables.{Tables}
use Rattle.zaxbriar_strict.proofs.Contexts.{blocks-found, element}
use Rattle.zaxbriar_strict.proofs.FrameComponents.{component-at, component_in, written-count}
use Rattle.zaxbriar_strict.proofs.Runs.{IsRead}
use Rattle.zaxbriar_strict.proofs.ScanTurns.{made-fits}
use Rattle.zaxbriar_strict.proofs.Units.{repeated-append}

-- ---- the blocks of an MCU

-- how the blocks of a component are coded, by its slot
abbrev pub way_in : ℕ → Coding → Via
way_in slot k = record { component = slot; dc = k.dc; ac = k.ac }

-- how many blocks a component has in an MCU of several
abbrev pub part_count : WrittenComponent → ℕ
part_count c = c.factors.vertical * c.factors.horizontal

-- how the blocks of an MCU of several components are coded, component by component, from a slot on
unfoldable pub mcu_ways : ℕ → List Coding → List Via
mcu_ways slot [] = []
mcu_ways slot (k ∷ more) = replicate (part_count k.component) (way_in slot k) ++ mcu_ways (slot + 1) more

-- how those of an MCU of a scan are
unfoldable pub unit_by : List Coding → List Via
unit_by [] = []
unit_by (k ∷ []) = way_in 0 k ∷ []
unit_by (k ∷ l ∷ more) = mcu_ways 0 (k ∷ l ∷ more)

mcu-count : (slot : ℕ) (codings : List Coding)
    → length (mcu_ways slot codings)
    ≡ sum_by (λ c. c.factors.horizontal * c.factors.vertical) (components_of codings)
unfolding mcu_ways
mcu-count slot [] = refl
mcu-count slot (k ∷ more) =
    let c = k.component in
    length-append (replicate (part_count c) (way_in slot k)) (mcu_ways (slot + 1) more)
    ∙ ap₂ (λ (a b : ℕ). a + b)
    (length-replicate (part_count c) (way_in slot k) ∙ mul_comm c.factors.vertical c.factors.horizontal)
    (mcu-count (slot + 1) more)
    ∙ sym (sum_by-cons (λ (d : WrittenComponent). d.factors.horizontal * d.factors.vertical) c (components_of more))

unit-size : (codings : List Coding) → length (unit_by codings) ≡ mcu_size (components_of codings)
unfolding unit_by mcu_size
unit-size [] = refl
unit-size (k ∷ []) = refl
unit-size (k ∷ l ∷ more) = mcu-count 0 (k ∷ l ∷ more)

mcu-some : (frame : WrittenFrame) (codings : List Coding) → 1 ≤ length codings
    → AllByRecursion (Fits frame) (components_of codings) → 1 ≤ length (unit_by codings)
unfolding unit_by mcu_ways
mcu-some frame [] some fits = absurd (omega arith)
mcu-some frame (k ∷ []) some fits = omega arith
mcu-some frame (k ∷ l ∷ more) some fits =
    let c = k.component in
    let blocks : 1 ≤ part_count c = mul-pos fits.0.vertical fits.0.horizontal in
    let n = length-append (replicate (part_count c) (way_in 0 k)) (mcu_ways (0 + 1) (l ∷ more)) in
    let r = length-replicate (part_count c) (way_in 0 k) in
    omega (arith, n, r, blocks)

-- the components of a scan are some of the frame's
coded-components : (p : Pass) (P : WrittenComponent → Type 0) (t : Tables) (frame : WrittenFrame) (ms : List Member)
    (codings : List Coding) → AllByRecursion P frame.components → AreCodedBy p t frame ms codings
    → AllByRecursion P (components_of codings)
unfolding AreCodedBy
coded-components p P t frame [] [] all coded = tt
coded-components p P t frame [] (k ∷ codings) all coded = absurd coded
coded-components p P t frame (m ∷ ms) [] all coded = absurd coded
coded-components p P t frame (m ∷ ms) (k ∷ codings) all coded = (
  at-all P k.index frame.components k.component all (get-at k.index frame.components k.component coded.0.component),
  coded-components p P t frame ms codings all coded.1,
)

pub coded-fit : (p : Pass) (t : Tables) (f : Frame) (ms : List Member) (codings : List Coding) → IsMade f
    → AreCodedBy p t (written_frame f) ms codings → AllByRecursion (Fits (written_frame f)) (components_of codings)
coded-fit p t f ms codings made coded =
    coded-components p (Fits (written_frame f)) t (written_frame f) ms codings (made-fits f made) coded

pub coded-count : (p : Pass) (t : Tables) (frame : WrittenFrame) (ms : List Member) (codings : List Coding)
    → AreCodedBy p t frame ms codings → length codings ≡ length ms
unfolding AreCodedBy
coded-count p t frame [] [] coded = refl
coded-count p t frame [] (k ∷ codings) coded = absurd coded
coded-count p t frame (m ∷ ms) [] coded = absurd coded
coded-count p t frame (m ∷ ms) (k ∷ codings) coded = ap suc (coded-count p t frame ms codings coded.1)

-- An MCU of a scan has a block.
pub unit-not-empty : (p : Pass) (t : Tables) (f : Frame) (ms : List Member) (codings : List Coding) → IsMade f
    → AreCodedBy p t (written_frame f) ms codings → 1 ≤ length ms → 1 ≤ length (unit_by codings)
unit-not-empty p t f ms codings made coded some =
    let count = coded-count p t (written_frame f) ms codings coded in
    mcu-some (written_frame f) codings (omega (arith, count, some)) (coded-fit p t f ms codings made coded)

-- ---- the rest of a list

-- a list is the rest of another one from an index on
abbrev pub IsRest : {A : Type 0} → ℕ → List A → List A → Type 0
IsRest {A} from rest whole = (j : ℕ) (x : A) → At j rest x → At (from + j) whole x

pub rest-whole : {A : Type 0} (xs : List A) → IsRest 0 xs xs
rest-whole xs j x at =
    let e : j ≡ 0 + j = omega arith in
    subst (λ (i : ℕ). At i xs x) e at

pub rest-next : {A : Type 0} (from : ℕ) (y : A) (rest whole : List A) → IsRest from (y ∷ rest) whole
    → IsRest (from + 1) rest whole
rest-next from y rest whole is j x at =
    let e : from + suc j ≡ from + 1 + j = omega arith in
    subst (λ (i : ℕ). At i whole x) e (is (suc j) x at)

pub rest-first : {A : Type 0} (from : ℕ) (y : A) (rest whole : List A) → IsRest from (y ∷ rest) whole → At from whole y
rest-first from y rest whole is =
    let e : from + 0 ≡ from = omega arith in
    subst (λ (i : ℕ). At i whole y) e (is 0 y refl)

-- ---- lists that are joined

map-flat : {X A B : Type 0} (t : A → B) (f : X → List A) (xs : List X)
    → map t (flat_map f xs) ≡ flat_map (λ x. map t (f x)) xs
map-flat t f [] = refl
map-flat t f (x ∷ xs) =
    map-append t (f x) (flat_map f xs) ∙ ap (λ l. map t (f x) ++ l) (map-flat t f xs)

once-more : (n k : ℕ) → k + n * k ≡ suc n * k
once-more n k =
    let s : suc n ≡ 1 + n = omega arith in
    sym (ap (λ (x : ℕ). x * k) s ∙ add-mul 1 n k ∙ ap (λ (x : ℕ). x + n * k) (one-mul k))

-- ---- an element many times

module _ {A : Type 0} (x : A) where
  line-alike : {X : Type 0} (t : X → A) (g : ℕ → X) (a n : ℕ) → ((k : ℕ) → t (g k) ≡ x)
      → map t (map g (range_with_len a n)) ≡ replicate n x
  line-alike t g a zero each = refl
  line-alike t g a (suc n) each = ap₂ (λ (y : A) (l : List A). y ∷ l) (each a) (line-alike t g (a + 1) n each)

  flat-alike : (f : ℕ → List A) (n a m : ℕ) → ((k : ℕ) → f k ≡ replicate n x)
      → flat_map f (range_with_len a m) ≡ replicate (m * n) x
  flat-alike f n a zero each =
      let z : 0 ≡ 0 * n = omega arith in
      ap (λ (k : ℕ). replicate k x) z
  flat-alike f n a (suc m) each =
      ap₂ (λ (y l : List A). y ++ l) (each a) (flat-alike f n (a + 1) m each)
      ∙ replicate-append-replicate n (m * n) x
      ∙ ap (λ (k : ℕ). replicate k x) (once-more m n)

-- ---- an MCU many times

repeated-nothing : (n : ℕ) → repeated n [] ≡ []
unfolding repeated
repeated-nothing zero = refl
repeated-nothing (suc n) = repeated-nothing n

repeated-via : (n : ℕ) (v : Via) → replicate n v ≡ repeated n (v ∷ [])
unfolding repeated
repeated-via zero v = refl
repeated-via (suc n) v = ap (λ (l : List Via). v ∷ l) (repeated-via n v)

-- MCUs of lists that are alike
flat-repeated : (f : ℕ → List Via) (unit : List Via) (a n : ℕ) → ((k : ℕ) → f k ≡ unit)
    → flat_map f (range_with_len a n) ≡ repeated n unit
unfolding repeated
flat-repeated f unit a zero each = refl
flat-repeated f unit a (suc n) each =
    ap₂ (λ (x y : List Via). x ++ y) (each a) (flat-repeated f unit (a + 1) n each)

repeated-product : (m n : ℕ) (unit : List Via) → repeated m (repeated n unit) ≡ repeated (m * n) unit
unfolding repeated
repeated-product zero n unit =
    let z : 0 ≡ 0 * n = omega arith in
    ap (λ (k : ℕ). repeated k unit) z
repeated-product (suc m) n unit =
    ap (λ (l : List Via). repeated n unit ++ l) (repeated-product m n unit)
    ∙ sym (repeated-append n (m * n) unit)
    ∙ ap (λ (k : ℕ). repeated k unit) (once-more m n)

-- ---- the blocks of a scan

abbrev way_at : List Via → Spot → Via
way_at vias s = via_at vias s.slot

part-ways : (t : Spot → Via) (v : Via) (row column slot : ℕ) (c : WrittenComponent)
    → ((i : ℕ) → t (record { slot = slot; index = i }) ≡ v)
    → map t (part_spots row column slot c) ≡ replicate (part_count c) v
unfolding part_spots
part-ways t v row column slot c each =
    let across = range_with_len 0 c.factors.horizontal in
    let line : ℕ → List Spot = λ u. map (part_spot row column slot c u) across in
    map-flat t line (range_with_len 0 c.factors.vertical)
    ∙ flat-alike v (λ u. map t (line u)) c.factors.horizontal 0 c.factors.vertical
    (λ u. line-alike v t (part_spot row column slot c u) 0 c.factors.horizontal (λ k. each _))

module _ (vias : List Via) where
  mcu-ways : (row column slot : ℕ) (codings : List Coding) → IsRest slot (vias_from slot codings) vias
      → map (way_at vias) (mcu_spots row column slot (components_of codings)) ≡ mcu_ways slot codings
  unfolding mcu_spots vias_from mcu_ways
  mcu-ways row column slot [] is = refl
  mcu-ways row column slot (k ∷ more) is =
      let v = way_in slot k in
      let rest = vias_from (slot + 1) more in
      map-append (way_at vias) (part_spots row column slot k.component)
      (mcu_spots row column (slot + 1) (components_of more))
      ∙ ap₂ (λ (x y : List Via). x ++ y)
      (part-ways (way_at vias) v row column slot k.component
      (λ i. get_or_from_slice_get vias slot v _ (at-got slot vias v (rest-first slot v rest vias is))))
      (mcu-ways row column (slot + 1) more (rest-next slot v rest vias is))

  own-ways : (v : Via) (g : Grid) → via_at vias 0 ≡ v
      → map (way_at vias) (own_spots g) ≡ repeated (g.own_high * g.own_wide) (v ∷ [])
  unfolding own_spots
  own-ways v g e =
      let spot : ℕ → ℕ → Spot = λ row column. record { slot = 0; index = row * g.wide + column } in
      let line : ℕ → List Spot = λ row. map (spot row) (range_with_len 0 g.own_wide) in
      map-flat (way_at vias) line (range_with_len 0 g.own_high)
      ∙ flat-alike v (λ row. map (way_at vias) (line row)) g.own_wide 0 g.own_high
      (λ row. line-alike v (way_at vias) (spot row) 0 g.own_wide (λ k. e))
      ∙ repeated-via (g.own_high * g.own_wide) v

all-ways : (codings : List Coding) (wide high : ℕ)
    → map (way_at (vias_from 0 codings)) (all_spots wide high (components_of codings))
    ≡ repeated (high * wide) (mcu_ways 0 codings)
unfolding all_spots
all-ways codings wide high =
    let t = way_at (vias_from 0 codings) in
    let unit = mcu_ways 0 codings in
    let mcu : ℕ → ℕ → List Spot = λ row column. mcu_spots row column 0 (components_of codings) in
    let line : ℕ → List Spot = λ row. flat_map (mcu row) (range_with_len 0 wide) in
    map-flat t line (range_with_len 0 high)
    ∙ flat-repeated (λ row. map t (line row)) (repeated wide unit) 0 high
    (λ row. map-flat t (mcu row) (range_with_len 0 wide)
    ∙ flat-repeated (λ column. map t (mcu row column)) unit 0 wide
    (λ column. mcu-ways (vias_from 0 codings) row column 0 codings (rest-whole (vias_from 0 codings))))
    ∙ repeated-product high wide unit

-- A scan has all MCUs of its components.
ways-by : (p : Pass) (t : Tables) (frame : WrittenFrame) (ms : List Member) (codings : List Coding)
    → AreCodedBy p t frame ms codings
    → repeated (units_high frame ms * units_wide frame ms) (unit_by codings) ≡ ways_of frame codings
unfolding spots_of unit_by vias_from AreCodedBy
ways-by p t frame [] [] coded = repeated-nothing _
ways-by p t frame (m ∷ []) (k ∷ []) coded =
    let e : slice_get frame.components m.component ≡ Some k.component =
    ap (λ (i : ℕ). slice_get frame.components i) coded.0.index ∙ coded.0.component in
    ap₂ (λ (high wide : ℕ). repeated (high * wide) (way_in 0 k ∷ [])) (ap own_high_of e) (ap own_wide_of e)
    ∙ sym (own-ways (vias_from 0 (k ∷ [])) (way_in 0 k) (grid_of k.component) refl)
ways-by p t frame (m ∷ n ∷ ms) (k ∷ l ∷ more) coded = sym (all-ways (k ∷ l ∷ more) frame.mcus_wide frame.mcus_high)
ways-by p t frame [] (k ∷ codings) coded = absurd coded
ways-by p t frame (m ∷ ms) [] coded = absurd coded
ways-by p t frame (m ∷ []) (k ∷ l ∷ more) coded = absurd coded.1
ways-by p t frame (m ∷ n ∷ ms) (k ∷ []) coded = absurd coded.1

-- What was read of all MCUs of a scan are its data.
pub data-read : (k : Bool) (p : Pass) (t : Tables) (frame : WrittenFrame) (ms : List Member)
    (installed : AreInstalled p t frame ms) (places : List Place) (from to : Kept) (bytes rest : List ℕ)
    → AreAlike (IsAtSpot installed.codings) (spots_of frame (components_of installed.codings)) places → IsRead k p (unit_by installed.codings) t.interval (units_high frame ms * units_wide frame ms) places from to bytes
    rest → ReadsData k p t frame ms from to bytes rest
data-read k p t frame ms installed places from to bytes rest at r =
    let codings = installed.codings in
    let ways = ways-by p t frame ms codings installed.are in
    record {
      installed = installed;
      changes = r.changes;
      counted = r.counted ∙ ap length ways;
      placed = subst (λ (l : List Place). AreAlike (IsAtSpot codings) (spots_of frame (components_of codings)) l)
          (sym r.placed) at;
      changed = r.changed;
      coded = λ good.
          subst (λ (u : List Via). AreGroups p (t.interval * mcu_size (components_of codings))
          (turns_by p u r.changes) bytes rest) ways
          (subst (λ (n : ℕ). AreGroups p (t.interval * n)
          (turns_by p (repeated (units_high frame ms * units_wide frame ms) (unit_by codings)) r.changes) bytes rest)
          (unit-size codings) (r.coded good));
    }

-- ---- the same of what is read

-- what a component of a made frame is to a writer
pub record IsOwn (f : Frame) (index : ℕ) (c : WrittenComponent) : Type 0 where
  pub own : Component
  pub at : slice_get f.components.items index ≡ Some own
  pub is : c ≡ component_in f own

pub own-coded : (p : Pass) (t : Tables) (f : Frame) (m : Member) (k : Coding) → IsMade f → IsCodedBy p t (written_frame f) m k
    → IsOwn f m.component k.component
own-coded p t f m k made coded =
    let e : slice_get (written_frame f).components m.component ≡ Some k.component =
    ap (λ (i : ℕ). slice_get (written_frame f).components i) coded.index ∙ coded.component in
    let lt = slice_get_within (written_frame f).components m.component k.component e in
    let count = written-count f in
    let x = element f.components.items m.component (omega (arith, lt, count)) in
    record {
      own = x.0;
      at = x.1;
      is = same_Some k.component (component_in f x.0) (sym e ∙ component-at f m.component x.0 made x.1);
    }

own-count : (f : Frame) (x : Component) → part_count (component_in f x) ≡ x.down * x.across
unfolding component_of
own-count f x = refl

-- from a slot on, in a scan of several
several-same : (p : Pass) (t : Tables) (f : Frame) (count : ℕ) → IsMade f → (count == 1) ≡ false → (slot : ℕ)
    (ms : List Member) (codings : List Coding) → AreCodedBy p t (written_frame f) ms codings
    → mcu_ways slot codings ≡ unit_of count f.components.items ms (vias_from slot codings)
unfolding mcu_ways unit_of vias_from AreCodedBy
several-same p t f count made several slot [] [] coded = refl
several-same p t f count made several slot [] (k ∷ codings) coded = absurd coded
several-same p t f count made several slot (m ∷ ms) [] coded = absurd coded
several-same p t f count made several slot (m ∷ ms) (k ∷ codings) coded =
    let o = own-coded p t f m k made coded.0 in
    let c = o.own in
    let count-same : part_count k.component ≡ blocks_at count f.components.items m.component =
    ap part_count o.is ∙ own-count f c
    ∙ sym (ap (λ (b : Bool). if b then 1 else c.down * c.across) several)
    ∙ sym (blocks-found count f.components.items m.component c o.at) in
    ap₂ (λ (n : ℕ) (l : List Via). replicate n (way_in slot k) ++ l) count-same
    (several-same p t f count made several (slot + 1) ms codings coded.1)

-- What is read as an MCU of a scan.
pub unit-same : (p : Pass) (t : Tables) (f : Frame) (ms : List Member) (codings : List Coding) → IsMade f
    → AreCodedBy p t (written_frame f) ms codings
    → unit_by codings ≡ unit_of (length ms) f.components.items ms (vias_from 0 codings)
unfolding unit_by unit_of vias_from AreCodedBy
unit-same p t f [] [] made coded = refl
unit-same p t f [] (k ∷ codings) made coded = absurd coded
unit-same p t f (m ∷ ms) [] made coded = absurd coded
unit-same p t f (m ∷ []) (k ∷ []) made coded =
    let o = own-coded p t f m k made coded.0 in
    ap (λ (n : ℕ). replicate n (way_in 0 k) ++ [])
    (sym (blocks-found 1 f.components.items m.component o.own o.at))
unit-same p t f (m ∷ n ∷ ms) (k ∷ l ∷ codings) made coded =
    several-same p t f (length (m ∷ n ∷ ms)) made (ne_eqb (length (m ∷ n ∷ ms)) 1 (omega arith)) 0 (m ∷ n ∷ ms)
    (k ∷ l ∷ codings) coded
unit-same p t f (m ∷ []) (k ∷ l ∷ codings) made coded = absurd coded.1
unit-same p t f (m ∷ n ∷ ms) (k ∷ []) made coded = absurd coded.1

-- The ways of a scan's blocks, by the tables that its components have.
pub ways-are : (p : Pass) (t : Tables) (frame : WrittenFrame) (slot : ℕ) (ms : List Member) (codings : List Coding)
    → HaveTables 3 ms → AreCodedBy p t frame ms codings → AreWays p t slot ms (vias_from slot codings)
unfolding AreCodedBy AreWays vias_from
ways-are p t frame slot [] [] within coded = tt
ways-are p t frame slot (m ∷ ms) (k ∷ codings) within coded = (
  record {
    slotted = refl;
    dc_within = within.0.0;
    ac_within = within.0.1;
    dc_is = coded.0.dc;
    ac_is = coded.0.ac;
  },
  ways-are p t frame (slot + 1) ms codings within.1 coded.1,
)
ways-are p t frame slot ms codings within coded = absurd coded
