-- The levels of a progressive frame's components, before and after a scan of some of them.
use Rattle.std.proofs.Common.{◌≡◌, ℕ, zero, suc, ◌+◌, ◌<◌, ◌≤◌, Bool, true, false, List, [], ◌∷◌, map, set}
use Rattle.std.proofs.Common.{refl, sym, ap, ap₂, ◌∙◌, subst, arith, inl, inr, ◌⊎◌, Option, Some}
use Rattle.std.proofs.lemmas.Bool.{eq-eqb, ne_eqb}
use Rattle.std.proofs.lemmas.Option.{same_Some}
use Rattle.std.specs.List.{AllByRecursion}
use Rattle.std.specs.Prelude.{slice_get}
use Rattle.jpeg_bits.specs.Passes.{Pass}
use Rattle.jpeg_segments.specs.Frame.{Factors, Frame as WrittenFrame}
use Rattle.jpeg_segments.specs.ScanHeaders.{AreChoices}
use Rattle.jpeg_meaning.specs.InTurn.{IsIn}
use Rattle.jpeg_meaning.specs.Levels.{IsLegal, Levels, sent_after}
use Rattle.jpeg_meaning.specs.Order.{Spot}
use Rattle.jpeg_meaning.specs.ScanSegments.{Coding}
use Rattle.jpeg_meaning.specs.WrittenScans.{levels_after, levels_of_one}
use Rattle.jpeg_meaning.proofs.Order.Apart.{At, all-from, get-at}
use Rattle.zaxbriar_strict.specs.Changes.{Change, Place}
use Rattle.zaxbriar_strict.specs.Heads.{choice_of}
use Rattle.zaxbriar_strict.specs.Progress.{AreNoted, NotesAt, levels_in}
use Rattle.zaxbriar_strict.specs.ScanData.{AreAlike, AreCodedBy, IsAtSpot}
use Rattle.zaxbriar_strict.specs.declared.scan.Member.{Member}
use Rattle.zaxbriar_strict.specs.declared.tables.Tables.{Tables}
use Rattle.zaxbriar_strict.proofs.DecidedFrames.{equal}
use Rattle.zaxbriar_strict.proofs.Extended.{Passes, Steps}
use Rattle.zaxbriar_strict.proofs.LegalScans.{coded-member}

abbrev pub Lowest : Type 0
Lowest = List (List (Option ℕ))

-- The levels of components are those that were noted of them.
abbrev pub AreLevelsIn : Lowest → (ℕ → Levels) → Type 0
AreLevelsIn lowest levels = (k : ℕ) (l : List (Option ℕ)) → slice_get lowest k ≡ Some l → levels k ≡ levels_in l

abbrev indices : List Member → List ℕ
indices ms = map (λ (m : Member). m.component) ms

-- ---- what is noted

got-set : {A : Type 0} (xs : List A) (i : ℕ) (x y : A) → slice_get (set xs i y) i ≡ Some x → x ≡ y
got-set [] i x y e = absurd cc
got-set (z ∷ xs) zero x y e = same_Some x y (sym e)
got-set (z ∷ xs) (suc i) x y e = got-set xs i x y e

got-other : {A : Type 0} (xs : List A) (i k : ℕ) (y : A) → (k ≡ i → ⊥) → slice_get (set xs i y) k ≡ slice_get xs k
got-other [] i k y n = refl
got-other (z ∷ xs) zero zero y n = absurd (n refl)
got-other (z ∷ xs) zero (suc k) y n = refl
got-other (z ∷ xs) (suc i) zero y n = refl
got-other (z ∷ xs) (suc i) (suc k) y n = got-other xs i k y (λ e. n (ap suc e))

abbrev chosen : Bool → Levels → Levels → Levels
chosen b after before = elim b as (λ _. Levels) [ true ↦ after | false ↦ before ]

one-named : (p : Pass) (i k : ℕ) (levels : ℕ → Levels) → k ≡ i → levels_of_one p i levels k ≡ sent_after p (levels k)
one-named p i k levels e = ap (λ (b : Bool). chosen b (sent_after p (levels k)) (levels k)) (eq-eqb k i e)

one-other : (p : Pass) (i k : ℕ) (levels : ℕ → Levels) → (k ≡ i → ⊥) → levels_of_one p i levels k ≡ levels k
one-other p i k levels n = ap (λ (b : Bool). chosen b (sent_after p (levels k)) (levels k)) (ne_eqb k i n)

noted-one : (p : Pass) (i : ℕ) (old new : Lowest) (levels : ℕ → Levels) → NotesAt p i old new
    → AreLevelsIn old levels → AreLevelsIn new (levels_of_one p i levels)
noted-one p i old new levels n are k l at = elim (equal k i) [
  | inl e ↦
      let same : l ≡ n.next = got-set old i l n.next
      (ap₂ (λ (x : Lowest) (j : ℕ). slice_get x j) (sym n.is) (sym e) ∙ at) in
      one-named p i k levels e
      ∙ ap (sent_after p) (are k n.was (ap (λ (j : ℕ). slice_get old j) e ∙ n.at))
      ∙ sym n.noted.after ∙ ap levels_in (sym same)
  | inr ne ↦
      one-other p i k levels ne
      ∙ are k l (sym (got-other old i k n.next ne) ∙ ap (λ (x : Lowest). slice_get x k) (sym n.is) ∙ at)
]

pub levels-noted : (p : Pass) (ms : List Member) (old new : Lowest) (levels : ℕ → Levels) → AreNoted p ms old new
    → AreLevelsIn old levels → AreLevelsIn new (levels_after p (indices ms) levels)
unfolding AreNoted levels_after
levels-noted p [] old new levels n are = subst (λ (l : Lowest). AreLevelsIn l levels) (sym n) are
levels-noted p (m ∷ ms) old new levels n are =
    levels-noted p ms n.0 new (levels_of_one p m.component levels) n.1.1
    (noted-one p m.component old n.0 levels n.1.0 are)

-- ---- which components a scan sends

module _ (p : Pass) (low : p.al ≤ 7) (frame : WrittenFrame) (factors : List Factors) where
  -- components before those of a list stay
  earlier-stays : (least k : ℕ) (ms : List Member) (levels : ℕ → Levels)
      → AreChoices frame least (map (choice_of factors) ms) → k < least
      → levels_after p (indices ms) levels k ≡ levels k
  unfolding AreChoices levels_after
  earlier-stays least k [] levels all lt = refl
  earlier-stays least k (m ∷ ms) levels all lt =
      let ordered = all.0.ordered in
      earlier-stays (m.component + 1) k ms (levels_of_one p m.component levels) all.1 (omega (arith, lt, ordered))
      ∙ one-other p m.component k levels (λ e. omega (arith, lt, ordered, e))

  -- a component is sent, where its levels allow it, or is none of the list
  record IsOther (k : ℕ) (ms : List Member) (before after : Levels) : Type 0 where
    same : after ≡ before
    none : (slot : ℕ) (m : Member) → At slot ms m → m.component ≡ k → ⊥

  steps-of : (least : ℕ) (ms : List Member) (old new : Lowest) (levels : ℕ → Levels)
      → AreChoices frame least (map (choice_of factors) ms) → AreNoted p ms old new → AreLevelsIn old levels
      → (k : ℕ) → Passes p (levels k) (levels_after p (indices ms) levels k)
      ⊎ IsOther k ms (levels k) (levels_after p (indices ms) levels k)
  unfolding AreChoices AreNoted levels_after
  steps-of least [] old new levels all n are k = inr (record { same = refl; none = λ slot m h e. h })
  steps-of least (m ∷ ms) old new levels all n are k =
      let i = m.component in
      let one = levels_of_one p i levels in
      elim (equal k i) [
        | inl e ↦
            let at = are k n.1.0.was (ap (λ (j : ℕ). slice_get old j) e ∙ n.1.0.at) in
            inl (record {
              legal = subst (λ (l : Levels). IsLegal p l) (sym at) (n.1.0.noted.legal low);
              next = earlier-stays (i + 1) k ms one all.1 (omega (arith, e)) ∙ one-named p i k levels e;
            })
        | inr ne ↦
            let same : one k ≡ levels k = one-other p i k levels ne in
            elim (steps-of (i + 1) ms n.0 new one all.1 n.1.1 (noted-one p i old n.0 levels n.1.0 are) k) [
              | inl s ↦ inl (record {
                legal = subst (λ (l : Levels). IsLegal p l) same s.legal;
                next = s.next ∙ ap (sent_after p) same;
              })
              | inr s ↦ inr (record {
                same = s.same ∙ same;
                none = λ slot x h e. elsewhere slot x h (λ z. ne (sym e ∙ z)) s.none e;
              })
            ]
      ]
    where
      elsewhere : (slot : ℕ) (x : Member) → At slot (m ∷ ms) x → (x.component ≡ m.component → ⊥)
          → ((slot : ℕ) (y : Member) → At slot ms y → y.component ≡ k → ⊥) → x.component ≡ k → ⊥
      elsewhere zero x h n all e = n (ap (λ (y : Member). y.component) (sym h))
      elsewhere (suc slot) x h n all e = all slot x h e

  module _ (t : Tables) (ms : List Member) (codings : List Coding) (coded : AreCodedBy p t frame ms codings) where
    -- a place of a scan is that of one of its components
    place-member : (q : Place) (spots : List Spot) (places : List Place)
        → AreAlike (IsAtSpot codings) spots places → IsIn q places
        → ((slot : ℕ) (m : Member) → At slot ms m → m.component ≡ q.index → ⊥) → ⊥
    unfolding AreAlike
    place-member q [] [] all h none = h
    place-member q [] (r ∷ places) all h none = absurd all
    place-member q (s ∷ spots) [] all h none = absurd all
    place-member q (s ∷ spots) (r ∷ places) all (inl e) none =
        let a = all.0 in
        let m = coded-member p t frame s.slot ms codings a.coding coded (get-at s.slot codings a.coding a.here) in
        none s.slot m.0 m.1 (m.2 ∙ a.index ∙ ap (λ (x : Place). x.index) e)
    place-member q (s ∷ spots) (r ∷ places) all (inr t) none = place-member q spots places all.1 t none

    pub steps-by : (old new : Lowest) (levels : ℕ → Levels) (spots : List Spot) (cs : List Change)
        → AreChoices frame 0 (map (choice_of factors) ms) → AreNoted p ms old new → AreLevelsIn old levels
        → AreAlike (IsAtSpot codings) spots (map (λ (c : Change). c.place) cs)
        → Steps p cs levels (levels_after p (indices ms) levels)
    steps-by old new levels spots cs all n are at k = elim (steps-of 0 ms old new levels all n are k) [
      | inl s ↦ inl s
      | inr s ↦ inr (record {
        same = s.same;
        other = λ q h e. place-member q spots (map (λ (c : Change). c.place) cs) at h
            (λ slot m here same. s.none slot m here (same ∙ e));
      })
    ]

    -- each of its components may be sent
    pub legal-by : (old new : Lowest) (levels : ℕ → Levels)
        → AreChoices frame 0 (map (choice_of factors) ms) → AreNoted p ms old new → AreLevelsIn old levels
        → AllByRecursion (λ (c : Coding). IsLegal p (levels c.index)) codings
    legal-by old new levels all n are =
        all-from (λ (c : Coding). IsLegal p (levels c.index)) codings (λ slot c here.
        elim (steps-of 0 ms old new levels all n are c.index) [
          | inl s ↦ s.legal
          | inr s ↦
              let m = coded-member p t frame slot ms codings c coded here in
              absurd (s.none slot m.0 m.1 m.2)
        ])
