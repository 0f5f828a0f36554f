-- The ways in which the blocks of a scan are coded, and the blocks of an MCU.
use Rattle.std.proofs.Common.{◌≡◌, ◌≢◌, ◌≤◌, ◌<◌, ◌+◌, ◌*◌, ◌++◌, ℕ, zero, suc, Bool, false, List, [], ◌∷◌, None, Some}
use Rattle.std.proofs.Common.{get_or, length, take, replicate, sym, ◌∙◌, ap, refl, subst, arith, ℤ}
use Rattle.std.proofs.Common.{add-one, add-zero, zero-add, append-nil, append_assoc, slice_get, slice_index_or}
use Rattle.std.proofs.lemmas.Bool.{eq-eqb, lt-ltb, ne_eqb}
use Rattle.std.proofs.lemmas.List.{take_all}
use Rattle.std.proofs.lemmas.Option.{same_Some, slice_get_read}
use Rattle.std.specs.List.{flat_map, range_with_len}
use Rattle.std.specs.Prelude.{Option}
use Rattle.jpeg_bits.specs.Codes.{Table}
use Rattle.jpeg_bits.specs.Passes.{Pass, Via}
use Rattle.jpeg_bits.specs.declared.huffman.codes.HuffmanTableClass.TheVariants.{AC, DC}
use Rattle.jpeg_meaning.specs.WrittenScans.{IsTableAt}
use Rattle.zaxbriar_strict.specs.Blocks.{ReadsBlock}
use Rattle.zaxbriar_strict.specs.Changes.{Place}
use Rattle.zaxbriar_strict.specs.Contexts.{AreWays, IsContext, IsWay, blocks_at, blocks_in, part_line, part_places}
use Rattle.zaxbriar_strict.specs.Contexts.{places_at, unit_of, unit_places}
use Rattle.zaxbriar_strict.specs.Data.{Data}
use Rattle.zaxbriar_strict.specs.Heads.{members_of}
use Rattle.zaxbriar_strict.specs.Installed.{codes_of}
use Rattle.zaxbriar_strict.specs.declared.frame.Component.{Component}
use Rattle.zaxbriar_strict.specs.declared.scan.Member.{Member}
use Rattle.zaxbriar_strict.specs.declared.tables.Tables.{Tables}
use Rattle.zaxbriar_strict.specs.declared.transform.Context.{Context}

-- ---- elements of lists

pub element : {A : Type 0} (xs : List A) (k : ℕ) → k < length xs → (x : A) × (slice_get xs k ≡ Some x)
element [] k h = absurd (omega (arith, h))
element (x ∷ xs) zero h = (x, refl)
element (x ∷ xs) (suc k) h = element xs k (omega (arith, h))

-- what was found in a list that is this one
pub found : {A : Type 0} (xs ys : List A) (k : ℕ) (x : A) → xs ≡ ys → k < length xs → x ≡ get_or xs k x
    → slice_get ys k ≡ Some x
found {A} xs ys k x same lt at =
    subst (λ (l : List A). slice_get l k ≡ Some x) same (slice_get_read xs (length xs) k x refl lt at)

-- ---- the way of a component

way-from : (p : Pass) (t : Tables) (slot : ℕ) (ms : List Member) (vias : List Via) (k : ℕ) (m : Member) (via : Via)
    → AreWays p t slot ms vias → slice_get ms k ≡ Some m → slice_get vias k ≡ Some via → IsWay p t (slot + k) m via
unfolding AreWays
way-from p t slot [] vias k m via a e f = absurd cc
way-from p t slot (n ∷ ms) [] k m via a e f = absurd a
way-from p t slot (n ∷ ms) (v ∷ vias) zero m via a e f =
    subst (λ (x : ℕ). IsWay p t x m via) (sym (add-zero slot))
    (subst (λ (x : Member). IsWay p t slot x via) (same_Some n m e)
    (subst (λ (x : Via). IsWay p t slot n x) (same_Some v via f) a.0))
way-from p t slot (n ∷ ms) (v ∷ vias) (suc k) m via a e f =
    let same : slot + 1 + k ≡ slot + suc k = omega arith in
    subst (λ (x : ℕ). IsWay p t x m via) same (way-from p t (slot + 1) ms vias k m via a.1 e f)

-- the component in a slot of a scan
pub way-at : (x : Context) (p : Pass) (vias : List Via) (slot : ℕ) (m : Member) (via : Via) → IsContext x p vias
    → slice_get (members_of x.scan.now) slot ≡ Some m → slice_get vias slot ≡ Some via
    → IsWay p x.tables.now slot m via
way-at x p vias slot m via g e f =
    subst (λ (k : ℕ). IsWay p x.tables.now k m via) (zero-add slot)
    (way-from p x.tables.now 0 (members_of x.scan.now) vias slot m via g.ways e f)

module _ (t : Tables) (slot : ℕ) (m : Member) (via : Via) (u : Table) where
  -- where the pass has DC, and where it has AC
  pub way-dc : (p : Pass) → IsWay p t slot m via → p.ss ≡ 0
      → (m.dc ≤ 3 → slice_index_or (codes_of t).dc m.dc None ≡ Some u) → u ≡ via.dc
  way-dc p w e h =
      let is : slice_index_or (codes_of t).dc m.dc None ≡ Some via.dc =
      subst (λ (b : Bool). IsTableAt b DC (codes_of t).dc m.dc via.dc) (eq-eqb p.ss 0 e) w.dc_is in
      same_Some u via.dc (sym (h w.dc_within) ∙ is)

  pub way-ac : (p : Pass) → IsWay p t slot m via → 1 ≤ p.se
      → (m.ac ≤ 3 → slice_index_or (codes_of t).ac m.ac None ≡ Some u) → u ≡ via.ac
  way-ac p w some h =
      let is : slice_index_or (codes_of t).ac m.ac None ≡ Some via.ac =
      subst (λ (b : Bool). IsTableAt b AC (codes_of t).ac m.ac via.ac) (lt-ltb 0 p.se (omega (arith, some))) w.ac_is in
      same_Some u via.ac (sym (h w.ac_within) ∙ is)

pub block-by : (deep : Bool) (dc ac t u : Table) (before after : ℤ) (old new : Data) → deep ≡ false → t ≡ dc → u ≡ ac
    → ReadsBlock deep t u before after old new → ReadsBlock false dc ac before after old new
block-by deep dc ac t u before after old new d e f b =
    subst (λ (k : Bool). ReadsBlock k dc ac before after old new) d
    (subst (λ (k : Table). ReadsBlock deep k ac before after old new) e
    (subst (λ (k : Table). ReadsBlock deep t k before after old new) f b))

-- the ways are as many as the components
ways-length : (p : Pass) (t : Tables) (slot : ℕ) (ms : List Member) (vias : List Via) → AreWays p t slot ms vias
    → length vias ≡ length ms
unfolding AreWays
ways-length p t slot [] [] a = refl
ways-length p t slot [] (v ∷ vias) a = absurd a
ways-length p t slot (m ∷ ms) [] a = absurd a
ways-length p t slot (m ∷ ms) (v ∷ vias) a = ap suc (ways-length p t (slot + 1) ms vias a.1)

pub context-length : {x : Context} {p : Pass} {vias : List Via} → IsContext x p vias
    → length vias ≡ length (members_of x.scan.now)
context-length {x} {p} {vias} g = ways-length p x.tables.now 0 (members_of x.scan.now) vias g.ways

-- ---- the blocks of an MCU

-- a component of several
pub blocks-several : (count : ℕ) (c : Component) → count ≢ 1 → blocks_in count c ≡ c.down * c.across
blocks-several count c ne = rw (ne_eqb count 1 ne) refl

-- the component at an index, if there is one
pub blocks-found : (count : ℕ) (cs : List Component) (index : ℕ) (c : Component) → slice_get cs index ≡ Some c
    → blocks_at count cs index ≡ blocks_in count c
unfolding blocks_at
blocks-found count [] index c e = absurd cc
blocks-found count (k ∷ cs) zero c e = ap (blocks_in count) (same_Some k c e)
blocks-found count (k ∷ cs) (suc index) c e = blocks-found count cs index c e

pub blocks-past : (count : ℕ) (cs : List Component) (index : ℕ) → length cs ≤ index → blocks_at count cs index ≡ 0
unfolding blocks_at
blocks-past count [] index h = refl
blocks-past count (k ∷ cs) zero h = absurd (omega (arith, h))
blocks-past count (k ∷ cs) (suc index) h = blocks-past count cs index (omega (arith, h))

-- one more component
unit-suc : (count : ℕ) (cs : List Component) (ms : List Member) (vias : List Via) (k : ℕ) (m : Member) (via : Via)
    → slice_get ms k ≡ Some m → slice_get vias k ≡ Some via
    → unit_of count cs (take (suc k) ms) (take (suc k) vias)
    ≡ unit_of count cs (take k ms) (take k vias) ++ replicate (blocks_at count cs m.component) via
unfolding unit_of
unit-suc count cs [] vias k m via e f = absurd cc
unit-suc count cs (n ∷ ms) [] k m via e f = absurd cc
unit-suc count cs (n ∷ ms) (v ∷ vias) zero m via e f =
    let same : n ≡ m = same_Some n m e in
    let way : v ≡ via = same_Some v via f in
    append-nil (replicate (blocks_at count cs n.component) v)
    ∙ ap (λ (x : Member). replicate (blocks_at count cs x.component) v) same
    ∙ ap (replicate (blocks_at count cs m.component)) way
unit-suc count cs (n ∷ ms) (v ∷ vias) (suc k) m via e f =
    let first = replicate (blocks_at count cs n.component) v in
    ap (λ (l : List Via). first ++ l) (unit-suc count cs ms vias k m via e f)
    ∙ sym (append_assoc first (unit_of count cs (take k ms) (take k vias))
    (replicate (blocks_at count cs m.component) via))

pub unit-more : (count : ℕ) (cs : List Component) (ms : List Member) (vias : List Via) (k : ℕ) (m : Member) (via : Via)
    → slice_get ms k ≡ Some m → slice_get vias k ≡ Some via
    → unit_of count cs (take (k + 1) ms) (take (k + 1) vias)
    ≡ unit_of count cs (take k ms) (take k vias) ++ replicate (blocks_at count cs m.component) via
unit-more count cs ms vias k m via e f =
    ap (λ (n : ℕ). unit_of count cs (take n ms) (take n vias)) (add-one k) ∙ unit-suc count cs ms vias k m via e f

-- all components
pub unit-all : (count : ℕ) (cs : List Component) (ms : List Member) (vias : List Via) (k : ℕ) → length vias ≡ length ms
    → length ms ≤ k → unit_of count cs (take k ms) (take k vias) ≡ unit_of count cs ms vias
unit-all count cs ms vias k same most =
    let few : length vias ≤ k = omega arith in
    ap (λ (l : List Member). unit_of count cs l (take k vias)) (take_all k ms most)
    ∙ ap (unit_of count cs ms) (take_all k vias few)

-- ---- their places

places-suc : (count : ℕ) (cs : List Component) (row column : ℕ) (ms : List Member) (k : ℕ) (m : Member)
    → slice_get ms k ≡ Some m
    → unit_places count cs (take (suc k) ms) row column
    ≡ unit_places count cs (take k ms) row column
    ++ places_at count row column m.component (slice_get cs m.component)
unfolding unit_places
places-suc count cs row column [] k m e = absurd cc
places-suc count cs row column (n ∷ ms) zero m e =
    let same : n ≡ m = same_Some n m e in
    append-nil (places_at count row column n.component (slice_get cs n.component))
    ∙ ap (λ (x : Member). places_at count row column x.component (slice_get cs x.component)) same
places-suc count cs row column (n ∷ ms) (suc k) m e =
    let first = places_at count row column n.component (slice_get cs n.component) in
    ap (λ (l : List Place). first ++ l) (places-suc count cs row column ms k m e)
    ∙ sym (append_assoc first (unit_places count cs (take k ms) row column)
    (places_at count row column m.component (slice_get cs m.component)))

-- those of one more component
pub places-more : (count : ℕ) (cs : List Component) (ms : List Member) (row column k : ℕ) (m : Member)
    → slice_get ms k ≡ Some m
    → unit_places count cs (take (k + 1) ms) row column
    ≡ unit_places count cs (take k ms) row column
    ++ places_at count row column m.component (slice_get cs m.component)
places-more count cs ms row column k m e =
    ap (λ (n : ℕ). unit_places count cs (take n ms) row column) (add-one k)
    ∙ places-suc count cs row column ms k m e

-- of a component that is alone, and of one of several
pub part-alone : (count row column index : ℕ) (c : Component) → count ≡ 1
    → part_places count row column index c ≡ record { index = index; row = row; column = column } ∷ []
unfolding part_places
part-alone count row column index c e = rw (eq-eqb count 1 e, part_places) refl

pub part-several : (count row column index : ℕ) (c : Component) → count ≢ 1
    → part_places count row column index c
    ≡ flat_map (part_line row column index c c.across) (range_with_len 0 c.down)
unfolding part_places
part-several count row column index c ne = rw (ne_eqb count 1 ne, part_places) refl

pub blocks-alone : (count : ℕ) (c : Component) → count ≡ 1 → blocks_in count c ≡ 1
blocks-alone count c e = rw (eq-eqb count 1 e) refl

pub place-found : (count row column index : ℕ) (o : Option Component) (c : Component) → o ≡ Some c
    → part_places count row column index c ≡ places_at count row column index o
unfolding places_at
place-found count row column index o c e = ap (λ (x : Option Component). places_at count row column index x) (sym e)

pub place-past : (count row column index : ℕ) (cs : List Component) (k : ℕ) → length cs ≤ k
    → places_at count row column index (slice_get cs k) ≡ []
unfolding places_at
place-past count row column index [] k h = refl
place-past count row column index (c ∷ cs) zero h = absurd (omega (arith, h))
place-past count row column index (c ∷ cs) (suc k) h = place-past count row column index cs k (omega (arith, h))
