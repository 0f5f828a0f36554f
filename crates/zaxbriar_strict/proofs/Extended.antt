-- An array that has the blocks of a progressive frame, as far as scans have sent them, before and after a scan.
use Rattle.std.proofs.Common.{◌≡◌, ℕ, ◌≤◌, List, [], ◌∷◌, length, map, refl, sym, ap, ◌∙◌, subst, inl, inr, ◌⊎◌, ℤ}
use Rattle.std.specs.List.{AllByRecursion}
use Rattle.jpeg_bits.specs.Passes.{Block, Pass}
use Rattle.jpeg_meaning.specs.InTurn.{AreApart, IsIn}
use Rattle.jpeg_meaning.specs.Levels.{Is8Bit, IsLegal, Levels, cut, numbers_at, sent_after}
use Rattle.jpeg_meaning.specs.WrittenScans.{Coefficients}
use Rattle.zaxbriar_strict.specs.Bands.{block_in}
use Rattle.zaxbriar_strict.specs.Changes.{AreMade, Change, IsCutAt, IsGood, IsNext, Kept, Place, sent_by}
use Rattle.zaxbriar_strict.specs.Sent.{AllInner, IsBand}
use Rattle.zaxbriar_strict.proofs.Changes.{IsChange, changes-are}
use Rattle.zaxbriar_strict.proofs.CutBlocks.{IsSameBand, back-still, ready-cut, same-sent, still-cut}
use Rattle.zaxbriar_strict.proofs.DecidedFrames.{Decision, equal}

abbrev pub block_at : Coefficients → Place → Block
block_at array q = array q.index q.row q.column

-- What is kept has the bits that were sent of the blocks of an array, and no others.
pub record Extends (array : Coefficients) (levels : ℕ → Levels) (kept : Kept) : Type 0 where
  pub own : (q : Place) → block_in (kept.block q) ≡ cut (levels q.index) (block_at array q)
  pub in_range : (q : Place) → Is8Bit (block_in (kept.block q))
  pub full : (index row column : ℕ) → Is8Bit (array index row column)

-- ---- places that are changed

same-place : (q r : Place) → Decision (q ≡ r)
same-place q r = elim (equal q.index r.index) [
  | inl i ↦ elim (equal q.row r.row) [
    | inl y ↦ elim (equal q.column r.column) [
      | inl x ↦ inl (λ k. record { index = i k; row = y k; column = x k })
      | inr n ↦ inr (λ e. n (ap (λ (p : Place). p.column) e))
    ]
    | inr n ↦ inr (λ e. n (ap (λ (p : Place). p.row) e))
  ]
  | inr n ↦ inr (λ e. n (ap (λ (p : Place). p.index) e))
]

pub record IsAt (P : Change → Type 0) (q : Place) : Type 0 where
  pub change : Change
  pub here : change.place ≡ q
  pub holds : P change

-- the change of a place, or none
pub change-at : (P : Change → Type 0) (q : Place) (cs : List Change) → AllByRecursion P cs
    → IsAt P q ⊎ (IsIn q (map (λ (c : Change). c.place) cs) → ⊥)
change-at P q [] all = inr (λ h. h)
change-at P q (c ∷ cs) all = elim (same-place c.place q) [
  | inl e ↦ inl (record { change = c; here = e; holds = all.0 })
  | inr n ↦ elim (change-at P q cs all.1) [
    | inl a ↦ inl a
    | inr m ↦ inr (λ h. elim h [ inl e ↦ n e | inr t ↦ m t ])
  ]
]

all-both : (P Q : Change → Type 0) (cs : List Change) → AllByRecursion P cs → AllByRecursion Q cs
    → AllByRecursion (λ c. P c × Q c) cs
all-both P Q [] a b = tt
all-both P Q (c ∷ cs) a b = ((a.0, b.0), all-both P Q cs a.1 b.1)

-- ---- a scan

-- A scan in this pass sends a component whose levels allow it, or none of its blocks.
pub record Passes (p : Pass) (before after : Levels) : Type 0 where
  pub legal : IsLegal p before
  pub next : after ≡ sent_after p before

pub record Stays (k : ℕ) (cs : List Change) (before after : Levels) : Type 0 where
  pub same : after ≡ before
  pub other : (q : Place) → IsIn q (map (λ (c : Change). c.place) cs) → q.index ≡ k → ⊥

abbrev pub Steps : Pass → List Change → (ℕ → Levels) → (ℕ → Levels) → Type 0
Steps p cs before after = (k : ℕ) → Passes p (before k) (after k) ⊎ Stays k cs (before k) (after k)

all-in : (cs : List Change) → AllByRecursion (λ (c : Change). IsIn c.place (map (λ (x : Change). x.place) cs)) cs
all-in [] = tt
all-in (c ∷ cs) = (inl refl, more cs (all-in cs))
  where
    more : (xs : List Change) → AllByRecursion (λ (x : Change). IsIn x.place (map (λ (y : Change). y.place) cs)) xs
        → AllByRecursion (λ (x : Change). IsIn x.place (map (λ (y : Change). y.place) (c ∷ cs))) xs
    more [] all = tt
    more (x ∷ xs) all = (inr all.0, more xs all.1)

module _ (p : Pass) (cs : List Change) (before after : ℕ → Levels) (from to : Kept) (banded : IsBand p)
    (made : AreMade cs from to) (apart : AreApart (map (λ (c : Change). c.place) cs))
    (sized : (k : ℕ) → length (before k).acs ≡ 63) (steps : Steps p cs before after)
    (cuts : (q : Place) → IsCutAt (before q.index) (from.block q)) where
  -- a change is that of a component that is sent
  passes-at : (c : Change) → IsIn c.place (map (λ (x : Change). x.place) cs)
      → Passes p (before c.place.index) (after c.place.index)
  passes-at c h = elim (steps c.place.index) [ inl s ↦ s | inr s ↦ absurd (s.other c.place h refl) ]

  -- The changes are those of blocks that may be sent.
  pub changes-good : AllByRecursion (λ c. AllInner c.new) cs → AllByRecursion (IsGood p) cs
  changes-good inner = go cs (changes-are cs from to made apart).each (all-in cs) inner
    where
      go : (xs : List Change) → AllByRecursion (IsChange from to) xs
          → AllByRecursion (λ (x : Change). IsIn x.place (map (λ (y : Change). y.place) cs)) xs
          → AllByRecursion (λ (x : Change). AllInner x.new) xs → AllByRecursion (IsGood p) xs
      go [] each within inner = tt
      go (x ∷ xs) each within inner = (
        record {
          ready = ready-cut p (before x.place.index) x.old banded (sized x.place.index)
              (passes-at x within.0).legal
              (subst (λ (l : List ℤ). IsCutAt (before x.place.index) l) each.0.was (cuts x.place));
          inner = inner.0;
        },
        go xs each.1 within.1 inner.1,
      )

  module _ (next : AllByRecursion (IsNext p) cs) where
    known : AllByRecursion (λ c. (IsChange from to c × IsNext p c)
        × IsIn c.place (map (λ (x : Change). x.place) cs)) cs
    known = all-both (λ c. IsChange from to c × IsNext p c)
        (λ c. IsIn c.place (map (λ (x : Change). x.place) cs)) cs
        (all-both (IsChange from to) (IsNext p) cs (changes-are cs from to made apart).each next) (all-in cs)

    unchanged : (q : Place) → (IsIn q (map (λ (c : Change). c.place) cs) → ⊥) → to.block q ≡ from.block q
    unchanged q n = (changes-are cs from to made apart).others q n

    -- What is kept after the scan has the bits that were sent, and no others.
    pub cuts-after : (q : Place) → IsCutAt (after q.index) (to.block q)
    cuts-after q = elim (change-at _ q cs known) [
      | inl a ↦
          let c = a.change in
          let h = a.holds in
          let s = passes-at c h.1 in
          let i = c.place.index in
          subst (λ (r : Place). IsCutAt (after r.index) (to.block r)) a.here
          (subst (λ (l : Levels). IsCutAt l (to.block c.place)) (sym s.next)
          (subst (λ (z : List ℤ). IsCutAt (sent_after p (before i)) z) (sym h.0.0.is)
          (h.0.1.onward (before i) (sized i) s.legal
          (subst (λ (z : List ℤ). IsCutAt (before i) z) h.0.0.was (cuts c.place)))))
      | inr n ↦
          subst (λ (z : List ℤ). IsCutAt (after q.index) z) (sym (unchanged q n)) (elim (steps q.index) [
            | inl s ↦ subst (λ (l : Levels). IsCutAt l (from.block q)) (sym s.next)
                (still-cut p (before q.index) (from.block q) s.legal (cuts q))
            | inr s ↦ subst (λ (l : Levels). IsCutAt l (from.block q)) (sym s.same) (cuts q)
          ])
    ]

    module _ (low : p.al ≤ 7) (array : Coefficients) (e : Extends array after to) where
      -- An array that has what is kept after the scan has what was kept before it.
      pub extends-before : Extends array before from
      extends-before = record {
        own = λ q. elim (change-at _ q cs known) [
          | inl a ↦
              let c = a.change in
              let h = a.holds in
              let s = passes-at c h.1 in
              let u = block_at array c.place in
              let now : block_in c.new ≡ cut (sent_after p (before c.place.index)) u =
              ap (λ (x : List ℤ). block_in x) (sym h.0.0.is) ∙ e.own c.place
              ∙ ap (λ (l : Levels). cut l u) s.next in
              let full = e.full c.place.index c.place.row c.place.column in
              let was = h.0.1.back (before c.place.index) u full.count (sized c.place.index) s.legal now in
              subst (λ (r : Place). block_in (from.block r) ≡ cut (before r.index) (block_at array r)) a.here
              (ap (λ (x : List ℤ). block_in x) h.0.0.was ∙ was)
          | inr n ↦
              let now : block_in (from.block q) ≡ cut (after q.index) (block_at array q) =
              ap (λ (x : List ℤ). block_in x) (sym (unchanged q n)) ∙ e.own q in
              elim (steps q.index) [
                | inl s ↦ back-still p (before q.index) (from.block q) (block_at array q) s.legal (cuts q)
                    (now ∙ ap (λ (l : Levels). cut l (block_at array q)) s.next)
                | inr s ↦ now ∙ ap (λ (l : Levels). cut l (block_at array q)) s.same
              ]
        ];
        in_range = λ q. elim (change-at _ q cs known) [
          | inl a ↦
              let h = a.holds in
              subst (λ (r : Place). Is8Bit (block_in (from.block r))) a.here
              (subst (λ (l : List ℤ). Is8Bit (block_in l)) (sym h.0.0.was)
              (h.0.1.in_range low
              (subst (λ (l : List ℤ). Is8Bit (block_in l)) h.0.0.is (e.in_range a.change.place))))
          | inr n ↦ subst (λ (l : List ℤ). Is8Bit (block_in l)) (unchanged q n) (e.in_range q)
        ];
        full = e.full;
      }

      -- What the scan sends of a block is what it sends of the array's.
      pub sends-array : AllByRecursion (λ c. IsSameBand p (sent_by p c) (numbers_at p.al (block_at array c.place))) cs
      sends-array = go cs known
        where
          go : (xs : List Change)
              → AllByRecursion (λ c. (IsChange from to c × IsNext p c)
              × IsIn c.place (map (λ (x : Change). x.place) cs)) xs
              → AllByRecursion (λ c. IsSameBand p (sent_by p c) (numbers_at p.al (block_at array c.place))) xs
          go [] all = tt
          go (c ∷ xs) all =
              let s = passes-at c all.0.1 in
              let u = block_at array c.place in
              let full = e.full c.place.index c.place.row c.place.column in (
                same-sent p (before c.place.index) (block_in c.new) u banded (sized c.place.index) full.count
                    (ap (λ (x : List ℤ). block_in x) (sym all.0.0.0.is) ∙ e.own c.place
                    ∙ ap (λ (l : Levels). cut l u) s.next),
                go xs all.1,
              )
