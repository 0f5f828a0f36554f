-- A scan that is cut inside its data brings an image of which each block was sent at the levels that it has.
use Rattle.std.proofs.Common.{◌≡◌, ◌⊎◌, inl, inr, ℕ, zero, suc, ◌+◌, ◌*◌, ◌/◌, ◌%◌, true, List, [], ◌∷◌, length}
use Rattle.std.proofs.Common.{get_or, slice_get, Option, Some, None, refl, sym, ap, ap₂, ◌∙◌, subst}
use Rattle.std.specs.List.{AllByRecursion}
use Rattle.std.proofs.lemmas.Nat.{div-add-mod'}
use Rattle.jpeg_bits.specs.Passes.{Block, Pass, whole_pass, zero_block}
use Rattle.jpeg_segments.specs.Frame.{Component, Frame}
use Rattle.jpeg_segments.specs.ScanHeader.{Scan}
use Rattle.jpeg_meaning.specs.Found.{Found, Said}
use Rattle.jpeg_meaning.specs.InTurn.{IsIn}
use Rattle.jpeg_meaning.specs.Levels.{IsLegal, Levels, cut, nothing_sent, sent_after}
use Rattle.jpeg_meaning.specs.Order.{Spot, grid_of}
use Rattle.jpeg_meaning.specs.Scans.{Arrays, block_at}
use Rattle.jpeg_meaning.specs.ScanSegments.{Coding, after_scan, arrays_before, is_progressive, pass_of}
use Rattle.jpeg_meaning.specs.WrittenScans.{Coefficients, IsOwn, levels_after, levels_of_one}
use Rattle.jpeg_meaning.proofs.Order.Apart.{At, at-all, at-got, at-one, get-at}
use Rattle.jpeg_meaning.proofs.Written.BroughtLevels.{AfterScan, AllDone, AllKept, Framed, KnownScan, Marked, PlaneSo}
use Rattle.jpeg_meaning.proofs.Written.BroughtLevels.{Progress, after-brings, after-length, all-done, apart, eqb_cases, facts}
use Rattle.jpeg_meaning.proofs.Written.BroughtLevels.{indices_of, is-legal, one-other, one-same, reading}
use Rattle.jpeg_meaning.proofs.Order.OwnSpots.{AreApart, IsAbsent}
use Rattle.jpeg_meaning.proofs.Written.WrittenFrameScans.{HoldsOwn}
use Rattle.jpeg_evidence.specs.CutImages.{HasBlock}
use Rattle.jpeg_meaning.proofs.Longer.FrontNumbers.{none-is, some-is}
use Rattle.jpeg_evidence.proofs.Cut.CutLater.{AreLater, cut-count, cut-earlier, cut-later, later-sent, later-themselves}

-- ---- whether a block is there

-- a coding is of the component with this index, and has this block at this place of its spots
record IsOf (o : Option Coding) (at index row column : ℕ) : Type 0 where
  coding : Coding
  is : o ≡ Some coding
  of_index : coding.index ≡ index
  in_row : at / coding.component.blocks_wide ≡ row
  in_column : at % coding.component.blocks_wide ≡ column

of-or-not : (o : Option Coding) (at index row column : ℕ)
    → IsOf o at index row column ⊎ (IsOf o at index row column → ⊥)
of-or-not None at index row column = inr (λ i. none-is i.coding i.is)
of-or-not (Some c) at index row column =
    go (eqb_cases c.index index) (eqb_cases (at / c.component.blocks_wide) row)
    (eqb_cases (at % c.component.blocks_wide) column)
  where
    same : (i : IsOf (Some c) at index row column) → i.coding ≡ c
    same i = sym (some-is c i.coding i.is)

    go : (c.index ≡ index) ⊎ ((c.index ≡ index) → ⊥)
        → (at / c.component.blocks_wide ≡ row) ⊎ ((at / c.component.blocks_wide ≡ row) → ⊥)
        → (at % c.component.blocks_wide ≡ column) ⊎ ((at % c.component.blocks_wide ≡ column) → ⊥)
        → IsOf (Some c) at index row column ⊎ (IsOf (Some c) at index row column → ⊥)
    go (inl a) (inl b) (inl d) = inl (record { coding = c; is = refl; of_index = a; in_row = b; in_column = d })
    go (inr n) b d = inr (λ i. n (subst (λ (k : Coding). k.index ≡ index) (same i) i.of_index))
    go (inl a) (inr n) d =
        inr (λ i. n (subst (λ (k : Coding). at / k.component.blocks_wide ≡ row) (same i) i.in_row))
    go (inl a) (inl b) (inr n) =
        inr (λ i. n (subst (λ (k : Coding). at % k.component.blocks_wide ≡ column) (same i) i.in_column))

-- one of these spots is so, or none
in-or-not : (P : Spot → Type 0) → ((s : Spot) → P s ⊎ (P s → ⊥)) → (spots : List Spot)
    → ((s : Spot) × IsIn s spots × P s) ⊎ ((s : Spot) → IsIn s spots → P s → ⊥)
in-or-not P either [] = inr (λ s t p. t)
in-or-not P either (x ∷ spots) = go (either x) (in-or-not P either spots)
  where
    by : (P x → ⊥) → ((s : Spot) → IsIn s spots → P s → ⊥) → (s : Spot) → (x ≡ s) ⊎ IsIn s spots → P s → ⊥
    by n m s (inl e) p = n (subst P (sym e) p)
    by n m s (inr t) p = m s t p

    go : P x ⊎ (P x → ⊥) → ((s : Spot) × IsIn s spots × P s) ⊎ ((s : Spot) → IsIn s spots → P s → ⊥)
        → ((s : Spot) × IsIn s (x ∷ spots) × P s) ⊎ ((s : Spot) → IsIn s (x ∷ spots) → P s → ⊥)
    go (inl p) m = inl (x, inl refl, p)
    go (inr n) (inl r) = inl (r.0, inr r.1, r.2)
    go (inr n) (inr m) = inr (by n m)

abbrev IsDecided : List Coding → List Spot → ℕ → ℕ → ℕ → Type 0
IsDecided codings spots index row column =
    HasBlock codings spots index row column ⊎ (HasBlock codings spots index row column → ⊥)

pub has-or-not : (codings : List Coding) (spots : List Spot) (index row column : ℕ)
    → IsDecided codings spots index row column
has-or-not codings spots index row column =
    go (in-or-not (λ s. IsOf (slice_get codings s.slot) s.index index row column)
    (λ s. of-or-not (slice_get codings s.slot) s.index index row column) spots)
  where
    go : ((s : Spot) × IsIn s spots × IsOf (slice_get codings s.slot) s.index index row column)
        ⊎ ((s : Spot) → IsIn s spots → IsOf (slice_get codings s.slot) s.index index row column → ⊥)
        → IsDecided codings spots index row column
    go (inl r) =
        let o = r.2 in
        inl (record {
          spot = r.0;
          coding = o.coding;
          is_there = r.1;
          is_coded = o.is;
          is_of = o.of_index;
          in_row = o.in_row;
          in_column = o.in_column;
        })
    go (inr n) = inr (λ h. n h.spot h.is_there (record {
      coding = h.coding;
      is = h.is_coded;
      of_index = h.is_of;
      in_row = h.in_row;
      in_column = h.in_column;
    }))

-- ---- the components of a scan

absent-at : (ks : List Coding) (index j : ℕ) (k : Coding) → IsAbsent index (indices_of ks) → At j ks k
    → index ≡ k.index → ⊥
absent-at [] index j k a t e = t
absent-at (c ∷ ks) index zero k a t e = a.0 (e ∙ ap (λ (x : Coding). x.index) (sym t))
absent-at (c ∷ ks) index (suc j) k a t e = absent-at ks index j k a.1 t e

slots-same : (ks : List Coding) (i j : ℕ) (c k : Coding) → AreApart (indices_of ks) → At i ks c → At j ks k
    → c.index ≡ k.index → i ≡ j
slots-same [] i j c k a t u e = absurd t
slots-same (x ∷ ks) zero zero c k a t u e = refl
slots-same (x ∷ ks) zero (suc j) c k a t u e =
    absurd (absent-at ks x.index j k a.0 u (ap (λ (y : Coding). y.index) t ∙ e))
slots-same (x ∷ ks) (suc i) zero c k a t u e =
    absurd (absent-at ks x.index i c a.0 t (ap (λ (y : Coding). y.index) u ∙ sym e))
slots-same (x ∷ ks) (suc i) (suc j) c k a t u e = ap suc (slots-same ks i j c k a.1 t u e)

-- an index of a scan's component, or none of it
abbrev InScan : List Coding → ℕ → Type 0
InScan ks index = (j : ℕ) × (k : Coding) × At j ks k × (k.index ≡ index)

in-scan : (ks : List Coding) (index : ℕ) → InScan ks index ⊎ IsAbsent index (indices_of ks)
in-scan [] index = inr tt
in-scan (k ∷ ks) index = go (eqb_cases index k.index) (in-scan ks index)
  where
    go : (index ≡ k.index) ⊎ ((index ≡ k.index) → ⊥) → InScan ks index ⊎ IsAbsent index (indices_of ks)
        → InScan (k ∷ ks) index ⊎ IsAbsent index (indices_of (k ∷ ks))
    go (inl e) r = inl (0, k, refl, sym e)
    go (inr n) (inl r) = inl (suc r.0, r.1, r.2, r.3)
    go (inr n) (inr a) = inr (n, a)

levels-absent : (p : Pass) (ks : List Coding) (levels : ℕ → Levels) (index : ℕ) → IsAbsent index (indices_of ks)
    → levels_after p (indices_of ks) levels index ≡ levels index
unfolding levels_after
levels-absent p [] levels index a = refl
levels-absent p (k ∷ ks) levels index a =
    levels-absent p ks (levels_of_one p k.index levels) index a.1 ∙ one-other p k.index index levels a.0

levels-in : (p : Pass) (ks : List Coding) (levels : ℕ → Levels) (j : ℕ) (k : Coding) → AreApart (indices_of ks)
    → At j ks k → levels_after p (indices_of ks) levels k.index ≡ sent_after p (levels k.index)
unfolding levels_after
levels-in p [] levels j k a t = absurd t
levels-in p (c ∷ ks) levels zero k a t =
    subst (λ (x : Coding). levels_after p (indices_of ks) (levels_of_one p c.index levels) x.index
    ≡ sent_after p (levels x.index)) t
    (levels-absent p ks (levels_of_one p c.index levels) c.index a.0 ∙ one-same p c.index levels)
levels-in p (c ∷ ks) levels (suc j) k a t =
    levels-in p ks (levels_of_one p c.index levels) j k a.1 t
    ∙ ap (sent_after p) (one-other p c.index k.index levels (λ e. absent-at ks c.index j k a.0 t (sym e)))

-- the levels of a component of which every bit was sent in one scan
abbrev pub all_sent : Levels
all_sent = sent_after whole_pass nothing_sent

abbrev pub NoneOrAll : Levels → Type 0
NoneOrAll l = (l ≡ nothing_sent) ⊎ (l ≡ all_sent)

-- A scan of a sequential frame sends all of its components, or none of them.
pub whole-after : (p : Pass) (codings : List Coding) (levels : ℕ → Levels) → p ≡ whole_pass
    → AreApart (indices_of codings) → AllByRecursion (λ c. IsLegal p (levels c.index)) codings
    → ((k : ℕ) → NoneOrAll (levels k)) → (k : ℕ) → NoneOrAll (levels_after p (indices_of codings) levels k)
whole-after p codings levels q apart legal u k = go (in-scan codings k)
  where
    sent : (l : Levels) → IsLegal whole_pass l → NoneOrAll l → NoneOrAll (sent_after whole_pass l)
    sent l is (inl e) = inr (ap (sent_after whole_pass) e)
    sent l is (inr e) = absurd (none-is 0 (sym (is.dc_unsent refl refl) ∙ ap (λ (x : Levels). x.dc) e))

    go : InScan codings k ⊎ IsAbsent k (indices_of codings) → NoneOrAll (levels_after p (indices_of codings) levels k)
    go (inl r) =
        subst (λ (i : ℕ). NoneOrAll (levels_after p (indices_of codings) levels i)) r.3
        (subst NoneOrAll (sym (levels-in p codings levels r.0 r.1 apart r.2))
        (subst (λ (y : Pass). NoneOrAll (sent_after y (levels r.1.index))) (sym q)
        (sent (levels r.1.index)
        (subst (λ (y : Pass). IsLegal y (levels r.1.index)) q
        (at-all (λ (c : Coding). IsLegal p (levels c.index)) r.0 codings r.1 legal r.2)) (u r.1.index))))
    go (inr a) = subst NoneOrAll (sym (levels-absent p codings levels k a)) (u k)

-- ---- after the scan

-- The own blocks of a scan's components are those of the array: at the levels after the scan where they stand at one
-- of these spots, and else at those before it.
pub record HasOwn (p : Pass) (array : Coefficients) (levels : ℕ → Levels) (codings : List Coding) (done : List Spot)
    (arrays : Arrays) : Type 0 where
  pub count : length arrays ≡ length codings
  pub sized : (k : Coding) (j : ℕ) → At j codings k
      → length (get_or arrays j []) ≡ k.component.blocks_high * k.component.blocks_wide
  pub sent : (k : Coding) (x : Spot) → At x.slot codings k → IsOwn (grid_of k.component) x.index → IsIn x done
      → block_at arrays x ≡ cut (sent_after p (levels k.index))
      (array k.index (x.index / k.component.blocks_wide) (x.index % k.component.blocks_wide))
  pub kept : (k : Coding) (x : Spot) → At x.slot codings k → IsOwn (grid_of k.component) x.index → (IsIn x done → ⊥)
      → block_at arrays x ≡ cut (levels k.index)
      (array k.index (x.index / k.component.blocks_wide) (x.index % k.component.blocks_wide))

-- A cut scan brings an image with the blocks that are there at the levels after it, and the others at those before it.
pub record CutScan (w : Said) (f : Frame) (array : Coefficients) (levels next : ℕ → Levels) (codings : List Coding)
    (done : List Spot) (found : Found) : Type 0 where
  pub image : Coefficients
  pub after : AfterScan w f image next found
  pub counts : (index row column : ℕ) → length (image index row column).acs ≡ 63
  pub there : (index row column : ℕ) → HasBlock codings done index row column
      → cut (next index) (image index row column) ≡ cut (next index) (array index row column)
  pub away : (index row column : ℕ) → (HasBlock codings done index row column → ⊥)
      → cut (next index) (image index row column) ≡ cut (levels index) (array index row column)

module _ {w : Said} {f : Frame} {array : Coefficients} {levels : ℕ → Levels} {progress : Progress} {s : Scan}
    {codings : List Coding} {bytes : List ℕ} (known : KnownScan w f array levels w.scanned progress s codings bytes)
    (done : List Spot) (arrays : Arrays) (own : HasOwn (pass_of s) array levels codings done arrays) where
  abbrev now : Found
  now = reading w w.scanned progress.0 progress.1 progress.2

  abbrev p : Pass
  p = pass_of s

  abbrev next : ℕ → Levels
  next = levels_after p (indices_of codings) levels

  -- the levels after the scan are later
  pub are-later : (index : ℕ) → AreLater (levels index) (next index)
  are-later index = go (in-scan codings index)
    where
      go : InScan codings index ⊎ IsAbsent index (indices_of codings) → AreLater (levels index) (next index)
      go (inl r) =
          subst (λ (i : ℕ). AreLater (levels i) (next i)) r.3
          (subst (AreLater (levels r.1.index)) (sym (levels-in p codings levels r.0 r.1 (apart known) r.2))
          (later-sent p (levels r.1.index) (is-legal known r.1 r.0 r.2)))
      go (inr a) = subst (AreLater (levels index)) (sym (levels-absent p codings levels index a))
          (later-themselves (levels index))

  abbrev level_by : {A B : Type 0} → A ⊎ B → ℕ → Levels
  level_by (inl there) index = next index
  level_by (inr away) index = levels index

  -- The image of which each block was sent as the cut scan has it.
  abbrev pub cut_array : Coefficients
  cut_array = λ index row column.
      cut (level_by (has-or-not codings done index row column) index) (array index row column)

  level-either : {A B : Type 0} (P : Levels → Type 0) (index : ℕ) → P (next index) → P (levels index) → (d : A ⊎ B)
      → P (level_by d index)
  level-either P index there away (inl a) = there
  level-either P index there away (inr b) = away

  -- it is as it was at the levels before
  before-same : (index row column : ℕ) → cut (levels index) (cut_array index row column) ≡ cut (levels index)
      (array index row column)
  before-same index row column =
      let c = array index row column in
      level-either (λ (l : Levels). cut (levels index) (cut l c) ≡ cut (levels index) c) index
      (cut-earlier (levels index) (next index) c (are-later index))
      (cut-later (levels index) (levels index) c (later-themselves (levels index)))
      (has-or-not codings done index row column)

  -- and it stays at the levels after
  pub after-same : (index row column : ℕ) → cut (next index) (cut_array index row column) ≡ cut_array index row column
  after-same index row column =
      let c = array index row column in
      level-either (λ (l : Levels). cut (next index) (cut l c) ≡ cut l c) index
      (cut-later (next index) (next index) c (later-themselves (next index)))
      (cut-later (levels index) (next index) c (are-later index)) (has-or-not codings done index row column)

  own-before : (index : ℕ) (c : Component) (blocks : List Block)
      → HoldsOwn (grid_of c) (array index) (levels index) blocks
      → HoldsOwn (grid_of c) (cut_array index) (levels index) blocks
  own-before index c blocks holds = record {
    sized = holds.sized;
    each = λ i t. holds.each i t ∙ sym (before-same index (i / c.blocks_wide) (i % c.blocks_wide));
  }

  plane-before : (k : ℕ) (c : Component) → PlaneSo w array (levels k) progress.2 k c
      → PlaneSo w cut_array (levels k) progress.2 k c
  plane-before k c so = record {
    decided = λ e. let o = so.decided e in record {
      table = o.table;
      is_table = o.is_table;
      blocks = o.blocks;
      holds = own-before k c o.blocks o.holds;
      plane = o.plane;
    };
    undecided = so.undecided;
  }

  marked : Marked w f cut_array levels progress.1 progress.2
  marked = record {
    fi_count = known.framed.marked.fi_count;
    pl_count = known.framed.marked.pl_count;
    marks = known.framed.marked.marks;
    planes = λ k c t. plane-before k c (known.framed.marked.planes k c t);
  }

  kept-before : is_progressive f.process ≡ true → AllKept f cut_array levels (arrays_before now f)
  kept-before e = record {
    count = (known.framed.kept e).count;
    each = λ k c t. own-before k c (get_or (arrays_before now f) k []) ((known.framed.kept e).each k c t);
  }

  framed-before : Framed w f cut_array levels w.scanned progress.0 progress.1 progress.2
  framed-before = record {
    marked = marked;
    sized = known.framed.sized;
    kept = kept-before;
    fresh = known.framed.fresh;
  }

  -- the spot of an own block
  at_spot : (k : Coding) (j i : ℕ) → At j codings k
      → HasBlock codings done k.index (i / k.component.blocks_wide) (i % k.component.blocks_wide)
      → IsIn (record { slot = j; index = i }) done
  at_spot k j i t b =
      let wide = k.component.blocks_wide in
      let there = get-at b.spot.slot codings b.coding b.is_coded in
      let slot : b.spot.slot ≡ j = slots-same codings b.spot.slot j b.coding k (apart known) there t b.is_of in
      let same : b.coding ≡ k = at-one j codings b.coding k (subst (λ (n : ℕ). At n codings b.coding) slot there) t in
      let row = subst (λ (c : Coding). b.spot.index / c.component.blocks_wide ≡ i / wide) same b.in_row in
      let column = subst (λ (c : Coding). b.spot.index % c.component.blocks_wide ≡ i % wide) same b.in_column in
      let index : b.spot.index ≡ i =
      sym (div-add-mod' b.spot.index wide) ∙ ap₂ (λ (a c : ℕ). a * wide + c) row column ∙ div-add-mod' i wide in
      subst (λ (x : Spot). IsIn x done) (ap₂ (λ (a c : ℕ). record { slot = a; index = c }) slot index) b.is_there

  holds-after : (k : Coding) (j : ℕ) → At j codings k
      → HoldsOwn (grid_of k.component) (cut_array k.index) (sent_after p (levels k.index)) (get_or arrays j [])
  holds-after k j t = record {
    sized = own.sized k j t;
    each = λ i o. each_at i o (has-or-not codings done k.index (i / k.component.blocks_wide)
        (i % k.component.blocks_wide));
  }
    where
      each_at : (i : ℕ) → IsOwn (grid_of k.component) i
          → (d : IsDecided codings done k.index (i / k.component.blocks_wide) (i % k.component.blocks_wide))
          → get_or (get_or arrays j []) i zero_block
          ≡ cut (sent_after p (levels k.index)) (cut (level_by d k.index)
          (array k.index (i / k.component.blocks_wide) (i % k.component.blocks_wide)))
      each_at i o (inl h) =
          let c = array k.index (i / k.component.blocks_wide) (i % k.component.blocks_wide) in
          let l = sent_after p (levels k.index) in
          own.sent k (record { slot = j; index = i }) t o (at_spot k j i t h)
          ∙ sym (cut-later l l c (later-themselves l))
          ∙ ap (λ (m : Levels). cut l (cut m c)) (sym (levels-in p codings levels j k (apart known) t))
      each_at i o (inr n) =
          let c = array k.index (i / k.component.blocks_wide) (i % k.component.blocks_wide) in
          own.kept k (record { slot = j; index = i }) t o (λ here. n (record {
            spot = record { slot = j; index = i };
            coding = k;
            is_there = here;
            is_coded = at-got j codings k t;
            is_of = refl;
            in_row = refl;
            in_column = refl;
          }))
          ∙ sym (cut-later (levels k.index) (sent_after p (levels k.index)) c
          (later-sent p (levels k.index) (is-legal known k j t)))

  all : AllDone w f p cut_array levels codings arrays
  all = all-done w f p cut_array levels codings arrays own.count holds-after
      (facts known) known.legal.legal known.framed.sized

  counts-after : (index row column : ℕ) → length (cut_array index row column).acs ≡ 63
  counts-after index row column =
      let c = array index row column in
      let n = (known.range index row column).count in
      level-either (λ (l : Levels). length (cut l c).acs ≡ 63) index
      (cut-count c.acs (next index).acs
      (n ∙ sym (after-length p (indices_of codings) levels known.framed.sized index)) ∙ n)
      (cut-count c.acs (levels index).acs (n ∙ sym (known.framed.sized index)) ∙ n)
      (has-or-not codings done index row column)

  is-there : (index row column : ℕ) → HasBlock codings done index row column
      → cut (next index) (cut_array index row column) ≡ cut (next index) (array index row column)
  is-there index row column h = after-same index row column ∙ go (has-or-not codings done index row column)
    where
      go : (d : IsDecided codings done index row column)
          → cut (level_by d index) (array index row column) ≡ cut (next index) (array index row column)
      go (inl there) = refl
      go (inr n) = absurd (n h)

  is-away : (index row column : ℕ) → (HasBlock codings done index row column → ⊥)
      → cut (next index) (cut_array index row column) ≡ cut (levels index) (array index row column)
  is-away index row column n = after-same index row column ∙ go (has-or-not codings done index row column)
    where
      go : (d : IsDecided codings done index row column)
          → cut (level_by d index) (array index row column) ≡ cut (levels index) (array index row column)
      go (inl there) = absurd (n there)
      go (inr away) = refl

  pub cut-scan : CutScan w f array levels next codings done (after_scan now f s codings arrays)
  cut-scan = record {
    image = cut_array;
    after = after-brings w f cut_array levels w.scanned progress s codings arrays known.shape framed-before
        known.says.so (apart known) all;
    counts = counts-after;
    there = is-there;
    away = is-away;
  }
