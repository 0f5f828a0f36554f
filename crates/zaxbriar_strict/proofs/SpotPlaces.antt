-- The places of a scan's blocks are those of its spots, each once (T.81, A.2).
use Rattle.std.proofs.Common.{◌≡◌, ℕ, zero, suc, ◌+◌, ◌*◌, ◌/◌, ◌%◌, ◌<◌, ◌≤◌, ◌==◌, Bool, true, false, List, [], ◌∷◌, ◌++◌, length, map}
use Rattle.std.proofs.Common.{refl, sym, ap, ap₂, ◌∙◌, subst, arith, inl, inr, Some}
use Rattle.std.proofs.Math.Nat.{add-mul, mul-le-mul_right, one-mul}
use Rattle.std.proofs.lemmas.Bool.{ne_eqb}
use Rattle.std.proofs.lemmas.Nat.{div-mul-add, mod-mul-add}
use Rattle.std.proofs.lemmas.Option.{same_Some}
use Rattle.std.proofs.Common.{div-add-mod'}
use Rattle.std.specs.List.{AllByRecursion, flat_map, range_with_len}
use Rattle.std.specs.Prelude.{Option, if◌then◌else◌, slice_get}
use Rattle.jpeg_bits.specs.Passes.{Pass}
use Rattle.jpeg_segments.specs.Frame.{Component as WrittenComponent, Frame as WrittenFrame, component_of}
use Rattle.jpeg_meaning.specs.InTurn.{AreApart, Fits, IsIn}
use Rattle.jpeg_meaning.specs.Order.{Spot, all_spots, grid_of, mcu_spots, own_spots, part_spot, part_spots, spots_of}
use Rattle.jpeg_meaning.specs.ScanSegments.{Coding, components_of}
use Rattle.jpeg_meaning.proofs.Order.Apart.{At, Between, at-got, get-at}
use Rattle.zaxbriar_strict.specs.Changes.{Place}
use Rattle.zaxbriar_strict.specs.Contexts.{part_line, part_places, places_at, row_places, scan_places, unit_places}
use Rattle.zaxbriar_strict.specs.Heads.{IsMade, written_frame}
use Rattle.zaxbriar_strict.specs.ScanData.{AreAlike, AreCodedBy, IsAtSpot, units_high, units_wide}
use Rattle.zaxbriar_strict.specs.declared.frame.Component.{Component}
use Rattle.zaxbriar_strict.specs.declared.frame.Frame.{Frame}
use Rattle.zaxbriar_strict.specs.declared.scan.Member.{Member}
use Rattle.zaxbriar_strict.specs.declared.tables.Tables.{Tables}
use Rattle.zaxbriar_strict.proofs.AlikeTurns.{alike-append}
use Rattle.zaxbriar_strict.proofs.FrameComponents.{component_in, units-alone}
use Rattle.zaxbriar_strict.proofs.ScanTurns.{AreRising, slot-found, slot_in}
use Rattle.zaxbriar_strict.proofs.UnitWays.{IsRest, coded-fit, own-coded, rest-first, rest-next, rest-whole}

-- ---- lists over a range

module _ {A B : Type 0} (P : A → B → Type 0) where
  alike-flat : (f : ℕ → List A) (g : ℕ → List B) (a n : ℕ)
      → ((k : ℕ) → Between a n k → AreAlike P (f k) (g k))
      → AreAlike P (flat_map f (range_with_len a n)) (flat_map g (range_with_len a n))
  unfolding AreAlike
  alike-flat f g a zero each = tt
  alike-flat f g a (suc n) each =
      alike-append P (f a) (g a) _ _ (each a (record { low = omega arith; high = omega arith }))
      (alike-flat f g (a + 1) n (λ k b. each k (
      let low = b.low in
      let high = b.high in
      record { low = omega (arith, low); high = omega (arith, high) })))

  alike-line : (f : ℕ → A) (g : ℕ → B) (a n : ℕ) → ((k : ℕ) → Between a n k → P (f k) (g k))
      → AreAlike P (map f (range_with_len a n)) (map g (range_with_len a n))
  unfolding AreAlike
  alike-line f g a zero each = tt
  alike-line f g a (suc n) each = (
    each a (record { low = omega arith; high = omega arith }),
    alike-line f g (a + 1) n (λ k b. each k (
        let low = b.low in
        let high = b.high in
        record { low = omega (arith, low); high = omega (arith, high) })),
  )

  -- the same where one of a list stands beside each element
  alike-ones : (f : ℕ → A) (g : ℕ → List B) (a n : ℕ) → ((k : ℕ) → Between a n k → AreAlike P (f k ∷ []) (g k))
      → AreAlike P (map f (range_with_len a n)) (flat_map g (range_with_len a n))
  unfolding AreAlike
  alike-ones f g a zero each = tt
  alike-ones f g a (suc n) each =
      alike-append P (f a ∷ []) (g a) _ _ (each a (record { low = omega arith; high = omega arith }))
      (alike-ones f g (a + 1) n (λ k b. each k (
      let low = b.low in
      let high = b.high in
      record { low = omega (arith, low); high = omega (arith, high) })))

-- ---- one component

spot-at : (codings : List Coding) (slot : ℕ) (k : Coding) (index row column : ℕ) → At slot codings k
    → k.index ≡ index → column < k.component.blocks_wide
    → IsAtSpot codings (record { slot = slot; index = row * k.component.blocks_wide + column })
    (record { index = index; row = row; column = column })
spot-at codings slot k index row column here same lt = record {
  coding = k;
  here = at-got slot codings k here;
  index = same;
  row = div-mul-add row k.component.blocks_wide column lt;
  column = mod-mul-add row k.component.blocks_wide column lt;
}

own-places : (codings : List Coding) (k : Coding) (count index : ℕ) (c : Component) → At 0 codings k
    → k.index ≡ index → (count == 1) ≡ true → (grid_of k.component).own_wide ≤ k.component.blocks_wide
    → AreAlike (IsAtSpot codings) (own_spots (grid_of k.component))
    (flat_map (λ row. flat_map (λ column. part_places count row column index c ++ [])
    (range_with_len 0 (grid_of k.component).own_wide)) (range_with_len 0 (grid_of k.component).own_high))
unfolding own_spots part_places AreAlike
own-places codings k count index c here same one narrow =
    let g = grid_of k.component in
    let spot : ℕ → ℕ → Spot = λ row column. record { slot = 0; index = row * g.wide + column } in
    let place : ℕ → ℕ → Place = λ row column. record { index = index; row = row; column = column } in
    alike-flat (IsAtSpot codings) (λ row. map (spot row) (range_with_len 0 g.own_wide)) _ 0 g.own_high (λ row b.
    alike-ones (IsAtSpot codings) (spot row) (λ column. part_places count row column index c ++ []) 0 g.own_wide
    (λ column d.
    let high = d.high in
    subst (λ (t : Bool). AreAlike (IsAtSpot codings) (spot row column ∷ [])
    ((if t then place row column ∷ [] else flat_map (part_line row column index c c.across) (range_with_len 0 c.down))
    ++ [])) (sym one)
    (spot-at codings 0 k index row column here same (omega (arith, high, narrow)), tt)))

-- ---- the blocks of an MCU

-- a column of an MCU is within the component's blocks
column-within : (frame : WrittenFrame) (c : WrittenComponent) (column beside : ℕ) → Fits frame c
    → column < frame.mcus_wide → beside < c.factors.horizontal
    → column * c.factors.horizontal + beside < c.blocks_wide
column-within frame c column beside fits lt few =
    let h = c.factors.horizontal in
    let more : column + 1 ≤ frame.mcus_wide = omega (arith, lt) in
    let m = mul-le-mul_right h more in
    let a = add-mul column 1 h in
    let o = one-mul h in
    let wide = fits.wide in
    omega (arith, m, a, o, few, wide)

module _ (frame : WrittenFrame) (codings : List Coding) (count : ℕ) (several : (count == 1) ≡ false) where
  parts-at : (row column slot : ℕ) (k : Coding) (index : ℕ) (c : Component) → At slot codings k → k.index ≡ index
      → Fits frame k.component → k.component.factors.vertical ≡ c.down → k.component.factors.horizontal ≡ c.across
      → column < frame.mcus_wide
      → AreAlike (IsAtSpot codings) (part_spots row column slot k.component)
      (part_places count row column index c)
  unfolding part_spots part_places
  parts-at row column slot k index c here same fits down across lt =
      let vt = k.component.factors.vertical in
      let hz = k.component.factors.horizontal in
      let spots : ℕ → List Spot = λ v. map (part_spot row column slot k.component v) (range_with_len 0 hz) in
      let places : ℕ → ℕ → ℕ → List Place = λ d a v.
      map (λ h. record { index = index; row = row * d + v; column = column * a + h }) (range_with_len 0 a) in
      let each : AreAlike (IsAtSpot codings) (flat_map spots (range_with_len 0 vt))
      (flat_map (places vt hz) (range_with_len 0 vt)) =
      alike-flat (IsAtSpot codings) spots (places vt hz) 0 vt (λ v b.
      alike-line (IsAtSpot codings) (part_spot row column slot k.component v)
      (λ h. record { index = index; row = row * vt + v; column = column * hz + h }) 0 hz (λ h d.
      let high = d.high in
      let few : h < hz = omega (arith, high) in
      spot-at codings slot k index (row * vt + v) (column * hz + h) here same
      (column-within frame k.component column h fits lt few))) in
      subst (λ (t : Bool). AreAlike (IsAtSpot codings) (flat_map spots (range_with_len 0 vt))
      (if t then record { index = index; row = row; column = column } ∷ []
      else flat_map (part_line row column index c c.across) (range_with_len 0 c.down))) (sym several)
      (subst (λ (d : ℕ). AreAlike (IsAtSpot codings) (flat_map spots (range_with_len 0 vt))
      (flat_map (places d c.across) (range_with_len 0 d))) down
      (subst (λ (a : ℕ). AreAlike (IsAtSpot codings) (flat_map spots (range_with_len 0 vt))
      (flat_map (places vt a) (range_with_len 0 vt))) across each))

own-down : (f : Frame) (x : Component) → (component_in f x).factors.vertical ≡ x.down
unfolding component_of
own-down f x = refl

own-across : (f : Frame) (x : Component) → (component_in f x).factors.horizontal ≡ x.across
unfolding component_of
own-across f x = refl

module _ (p : Pass) (t : Tables) (f : Frame) (made : IsMade f) (whole : List Coding) (count : ℕ)
    (several : (count == 1) ≡ false) (row column : ℕ) (lt : column < (written_frame f).mcus_wide) where
  mcu-at : (slot : ℕ) (ms : List Member) (codings : List Coding)
      → AreCodedBy p t (written_frame f) ms codings → IsRest slot codings whole
      → AllByRecursion (Fits (written_frame f)) (components_of codings)
      → AreAlike (IsAtSpot whole) (mcu_spots row column slot (components_of codings))
      (unit_places count f.components.items ms row column)
  unfolding mcu_spots unit_places AreCodedBy AreAlike places_at
  mcu-at slot [] [] coded is fits = tt
  mcu-at slot [] (k ∷ codings) coded is fits = absurd coded
  mcu-at slot (m ∷ ms) [] coded is fits = absurd coded
  mcu-at slot (m ∷ ms) (k ∷ codings) coded is fits =
      let o = own-coded p t f m k made coded.0 in
      let vertical = ap (λ (c : WrittenComponent). c.factors.vertical) o.is ∙ own-down f o.own in
      let horizontal = ap (λ (c : WrittenComponent). c.factors.horizontal) o.is ∙ own-across f o.own in
      alike-append (IsAtSpot whole) (part_spots row column slot k.component)
      (places_at count row column m.component (slice_get f.components.items m.component)) _ _
      (subst (λ o. AreAlike (IsAtSpot whole) (part_spots row column slot k.component)
      (places_at count row column m.component o)) (sym o.at)
      (parts-at (written_frame f) whole count several row column slot k m.component o.own
      (rest-first slot k codings whole is) (sym coded.0.index) fits.0 vertical horizontal lt))
      (mcu-at (slot + 1) ms codings coded.1 (rest-next slot k codings whole is) fits.1)

-- ---- the scan

-- The places of a scan stand beside its spots.
pub places-at-spots : (p : Pass) (t : Tables) (f : Frame) (ms : List Member) (codings : List Coding) → IsMade f
    → 1 ≤ length ms → AreCodedBy p t (written_frame f) ms codings
    → AreAlike (IsAtSpot codings) (spots_of (written_frame f) (components_of codings))
    (scan_places (length ms) f.components.items ms (units_wide (written_frame f) ms) (units_high (written_frame f) ms))
unfolding spots_of all_spots AreCodedBy unit_places places_at
places-at-spots p t f [] codings made some coded = absurd (omega (arith, some))
places-at-spots p t f (m ∷ ms) [] made some coded = absurd coded
places-at-spots p t f (m ∷ []) (k ∷ l ∷ codings) made some coded = absurd coded.1
places-at-spots p t f (m ∷ n ∷ ms) (k ∷ []) made some coded = absurd coded.1
places-at-spots p t f (m ∷ []) (k ∷ []) made some coded =
    let o = own-coded p t f m k made coded.0 in
    let fits = coded-fit p t f (m ∷ []) (k ∷ []) made coded in
    let u = units-alone f (m ∷ []) m o.own made refl o.at in
    let g = grid_of k.component in
    let places : Option Component → ℕ → ℕ → List Place = λ c wide high.
    flat_map (λ row. flat_map (λ column. places_at 1 row column m.component c ++ []) (range_with_len 0 wide))
    (range_with_len 0 high) in
    let wide : g.own_wide ≡ units_wide (written_frame f) (m ∷ []) =
    ap (λ (c : WrittenComponent). (grid_of c).own_wide) o.is ∙ sym u.0 in
    let high : g.own_high ≡ units_high (written_frame f) (m ∷ []) =
    ap (λ (c : WrittenComponent). (grid_of c).own_high) o.is ∙ sym u.1 in
    subst (λ (c : Option Component). AreAlike (IsAtSpot (k ∷ [])) (own_spots g)
    (places c (units_wide (written_frame f) (m ∷ [])) (units_high (written_frame f) (m ∷ [])))) (sym o.at)
    (subst (λ (n : ℕ). AreAlike (IsAtSpot (k ∷ [])) (own_spots g)
    (places (Some o.own) n (units_high (written_frame f) (m ∷ [])))) wide
    (subst (λ (n : ℕ). AreAlike (IsAtSpot (k ∷ [])) (own_spots g) (places (Some o.own) g.own_wide n)) high
    (own-places (k ∷ []) k 1 m.component o.own refl (sym coded.0.index) refl fits.0.own_wide)))
places-at-spots p t f (m ∷ n ∷ ms) (k ∷ l ∷ codings) made some coded =
    let whole = k ∷ l ∷ codings in
    let members = m ∷ n ∷ ms in
    let count = length members in
    let cs = f.components.items in
    let frame = written_frame f in
    let several : (count == 1) ≡ false = ne_eqb count 1 (omega arith) in
    let spots : ℕ → ℕ → List Spot = λ row column. mcu_spots row column 0 (components_of whole) in
    alike-flat (IsAtSpot whole) (λ row. flat_map (spots row) (range_with_len 0 frame.mcus_wide))
    (λ row. row_places count cs members row frame.mcus_wide) 0 frame.mcus_high (λ row b.
    alike-flat (IsAtSpot whole) (spots row) (unit_places count cs members row) 0 frame.mcus_wide (λ column d.
    let high = d.high in
    mcu-at p t f made whole count several row column (omega (arith, high)) 0 members whole coded (rest-whole whole)
    (coded-fit p t f members whole made coded)))

-- ---- each once

-- the spots of a place are one
same-spot-at : (codings : List Coding) (s r : Spot) (q : Place) → AreRising 0 codings → IsAtSpot codings s q
    → IsAtSpot codings r q → s ≡ r
same-spot-at codings s r q rising a b =
    let at = get-at s.slot codings a.coding a.here in
    let bt = get-at r.slot codings b.coding b.here in
    let same : a.coding.index ≡ b.coding.index = a.index ∙ sym b.index in
    let slot : s.slot ≡ r.slot =
    sym (slot-found 0 s.slot codings a.coding rising at) ∙ ap (λ (i : ℕ). slot_in i codings) same
    ∙ slot-found 0 r.slot codings b.coding rising bt in
    let coding : a.coding ≡ b.coding =
    same_Some a.coding b.coding (sym a.here ∙ ap (λ (i : ℕ). slice_get codings i) slot ∙ b.here) in
    let wide : a.coding.component.blocks_wide ≡ b.coding.component.blocks_wide =
    ap (λ (k : Coding). k.component.blocks_wide) coding in
    let w = a.coding.component.blocks_wide in
    let v = b.coding.component.blocks_wide in
    let index : s.index ≡ r.index =
    sym (div-add-mod' s.index w)
    ∙ ap₂ (λ (x y : ℕ). x * w + y) (a.row ∙ sym b.row) (a.column ∙ sym b.column)
    ∙ ap (λ (n : ℕ). r.index / v * n + r.index % v) wide ∙ div-add-mod' r.index v in
    λ i. record { slot = slot i; index = index i }

spot-in : (codings : List Coding) (s : Spot) (q : Place) (spots : List Spot) (places : List Place)
    → AreRising 0 codings → IsAtSpot codings s q → AreAlike (IsAtSpot codings) spots places → IsIn q places
    → IsIn s spots
unfolding AreAlike
spot-in codings s q [] [] rising at all h = absurd h
spot-in codings s q [] (p ∷ places) rising at all h = absurd all
spot-in codings s q (r ∷ spots) [] rising at all h = absurd all
spot-in codings s q (r ∷ spots) (p ∷ places) rising at all (inl e) =
    inl (same-spot-at codings r s q rising (subst (IsAtSpot codings r) e all.0) at)
spot-in codings s q (r ∷ spots) (p ∷ places) rising at all (inr t) =
    inr (spot-in codings s q spots places rising at all.1 t)

-- Places that stand beside spots are apart as these are.
pub places-apart : (codings : List Coding) (spots : List Spot) (places : List Place) → AreRising 0 codings
    → AreAlike (IsAtSpot codings) spots places → AreApart spots → AreApart places
unfolding AreAlike
places-apart codings [] [] rising all apart = tt
places-apart codings [] (q ∷ places) rising all apart = absurd all
places-apart codings (s ∷ spots) [] rising all apart = absurd all
places-apart codings (s ∷ spots) (q ∷ places) rising all apart = (
  λ h. apart.0 (spot-in codings s q spots places rising all.0 all.1 h),
  places-apart codings spots places rising all.1 apart.1,
)
