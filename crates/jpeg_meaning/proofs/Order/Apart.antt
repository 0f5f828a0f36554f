-- The spots of a scan are apart, and inside the arrays of its components.
use Rattle.std.proofs.Math.Logic.{⊎_elim}
use Rattle.std.proofs.lemmas.Grind.{common_steps}
use Rattle.std.proofs.Common.{rules, ◌≡◌, ◌⊎◌, inl, inr, ℕ, zero, suc, ◌+◌, ◌*◌, ◌/◌, ◌%◌, ◌<◌, ◌≤◌, List, [], ◌∷◌}
use Rattle.std.proofs.Common.{◌++◌, map, length, get_or, slice_get, Some, refl, sym, ap, ap₂, ◌∙◌, subst, arith}
use Rattle.std.proofs.Math.Nat.{div-lt_iff_lt-mul}
use Rattle.std.proofs.lemmas.Nat.{div-mul-add, mod-mul-add}
use Rattle.std.specs.List.{AllByRecursion, range_with_len, flat_map}
use Rattle.jpeg_segments.specs.Frame.{Frame, Component}
use Rattle.jpeg_meaning.specs.declared.grids.Grid.{Grid}
use Rattle.jpeg_bits.specs.Passes.{zero_block}
use Rattle.jpeg_meaning.specs.Order.{Spot, grid_of, own_spots, part_spots, mcu_spots, all_spots, spots_of}
use Rattle.jpeg_meaning.specs.Scans.{Arrays, zero_arrays}
use Rattle.jpeg_meaning.specs.InTurn.{IsIn, AreApart, IsInside, Fits, AreArrays}
use Rattle.std.proofs.lemmas.List.{length-replicate}

-- ---- lists

pub in-either : {A : Type 0} (x : A) (xs ys : List A) → IsIn x (xs ++ ys) → IsIn x xs ⊎ IsIn x ys
in-either x [] ys h = inr h
in-either x (y ∷ xs) ys (inl e) = inl (inl e)
in-either x (y ∷ xs) ys (inr t) = search (rules, in-either x xs ys t)

pub apart-append : {A : Type 0} (xs ys : List A) → AreApart xs → AreApart ys → ((x : A) → IsIn x xs → IsIn x ys → ⊥)
    → AreApart (xs ++ ys)
apart-append [] ys a b n = b
apart-append (x ∷ xs) ys a b n = (
  (λ h. ⊎_elim a.0 (λ k. n x (inl refl) k) (in-either x xs ys h)),
  apart-append xs ys a.1 b (λ z h k. n z (inr h) k),
)

-- a number from a on, and below a + n
pub record Between (a n k : ℕ) : Type 0 where
  pub low : a ≤ k
  pub high : k < a + n

-- f gives x of some number
pub record GivesAt {A : Type 0} (f : ℕ → List A) (a n : ℕ) (x : A) : Type 0 where
  pub at : ℕ
  pub between : Between a n at
  pub gives : IsIn x (f at)

pub in-flat-back : {A : Type 0} (f : ℕ → List A) (x : A) (a n : ℕ) → IsIn x (flat_map f (range_with_len a n))
    → GivesAt f a n x
in-flat-back f x a zero h = absurd h
in-flat-back f x a (suc n) h = ⊎_elim (λ g. search rules)
    (λ t. let r = in-flat-back f x (a + 1) n t in search rules)
    (in-either x (f a) (flat_map f (range_with_len (a + 1) n)) h)

pub record EqualAt {A : Type 0} (f : ℕ → A) (a n : ℕ) (x : A) : Type 0 where
  pub at : ℕ
  pub between : Between a n at
  pub equal : f at ≡ x

pub in-line-back : {A : Type 0} (f : ℕ → A) (x : A) (a n : ℕ) → IsIn x (map f (range_with_len a n)) → EqualAt f a n x
in-line-back f x a zero h = absurd h
in-line-back f x a (suc n) (inl e) = search rules
in-line-back f x a (suc n) (inr t) = search (rules, in-line-back f x (a + 1) n t)

-- lists of elements that tell their number
pub apart-flat : {A : Type 0} (f : ℕ → List A) (Tells : A → ℕ → Type 0) (a n : ℕ)
    → ((k : ℕ) → Between a n k → AreApart (f k)) → ((k : ℕ) (x : A) → Between a n k → IsIn x (f k) → Tells x k)
    → ((x : A) (k l : ℕ) → Tells x k → Tells x l → k ≡ l) → AreApart (flat_map f (range_with_len a n))
apart-flat f Tells a zero each tells one = tt
apart-flat {A} f Tells a (suc n) each tells one =
    let first : Between a (suc n) a = record { low = omega arith; high = omega arith } in
    apart-append (f a) (flat_map f (range_with_len (a + 1) n)) (each a first)
    (apart-flat f Tells (a + 1) n (λ k b. each k (wider k b)) (λ k x b h. tells k x (wider k b) h) one)
    (λ x h k. other x (tells a x first h) (in-flat-back f x (a + 1) n k))
  where
    wider : (k : ℕ) → Between (a + 1) n k → Between a (suc n) k
    wider k b = search rules

    other : (x : A) → Tells x a → GivesAt f (a + 1) n x → ⊥
    other x t g = let e : a ≡ g.at = one x a g.at t (tells g.at x (wider g.at g.between) g.gives) in let l =
        g.between.low in absurd (omega arith)

pub apart-line : {A : Type 0} (f : ℕ → A) (key : A → ℕ) (a n : ℕ) → ((k : ℕ) → Between a n k → key (f k) ≡ k)
    → AreApart (map f (range_with_len a n))
apart-line f key a zero tells = tt
apart-line f key a (suc n) tells = (
  (λ h. let g = in-line-back f (f a) (a + 1) n h in search rules),
  apart-line f key (a + 1) n (λ k b. tells k (search rules)),
)

-- x stands at index j
abbrev pub At : {A : Type 0} → ℕ → List A → A → Type 0
At j [] x = ⊥
At zero (y ∷ ys) x = y ≡ x
At (suc j) (y ∷ ys) x = At j ys x

pub get-at : {A : Type 0} (j : ℕ) (xs : List A) (x : A) → slice_get xs j ≡ Some x → At j xs x
get-at j [] x e = search rules
get-at zero (y ∷ xs) x e = cc
get-at (suc j) (y ∷ xs) x e = get-at j xs x e

pub at-got : {A : Type 0} (j : ℕ) (xs : List A) (x : A) → At j xs x → slice_get xs j ≡ Some x
at-got j [] x h = absurd h
at-got zero (y ∷ xs) x h = ap Some h
at-got (suc j) (y ∷ xs) x h = at-got j xs x h

pub at-one : {A : Type 0} (j : ℕ) (xs : List A) (x y : A) → At j xs x → At j xs y → x ≡ y
at-one j [] x y h k = absurd h
at-one zero (z ∷ xs) x y h k = sym h ∙ k
at-one (suc j) (z ∷ xs) x y h k = at-one j xs x y h k

pub at-all : {A : Type 0} (Q : A → Type 0) (j : ℕ) (xs : List A) (x : A) → AllByRecursion Q xs → At j xs x → Q x
at-all Q j [] x h k = absurd k
at-all Q zero (y ∷ xs) x h k = subst Q k h.0
at-all Q (suc j) (y ∷ xs) x h k = at-all Q j xs x h.1 k

pub all-from : {A : Type 0} (Q : A → Type 0) (xs : List A) → ((j : ℕ) (x : A) → At j xs x → Q x) → AllByRecursion Q xs
all-from Q [] each = tt
all-from Q (x ∷ xs) each = (each 0 x refl, all-from Q xs (λ j y t. each (suc j) y t))

-- ---- one component

-- what a spot of a component that is alone tells
pub record TellsOwn (g : Grid) (row column : ℕ) (s : Spot) : Type 0 where
  pub slot : s.slot ≡ 0
  pub row_of : s.index / g.wide ≡ row
  pub column_of : s.index % g.wide ≡ column

own-tells : (g : Grid) (row column : ℕ) (s : Spot) → column < g.wide
    → record { slot = 0; index = row * g.wide + column } ≡ s → TellsOwn g row column s
own-tells g row column s lt e = search (rules, div-mul-add, mod-mul-add)

pub own-apart : (g : Grid) → g.own_wide ≤ g.wide → AreApart (own_spots g)
unfolding own_spots
own-apart g fits =
    let line : ℕ → ℕ → Spot = λ row column. record { slot = 0; index = row * g.wide + column } in
    apart-flat (λ row. map (line row) (range_with_len 0 g.own_wide)) (λ s row. s.index / g.wide ≡ row) 0 g.own_high
    (λ row b. apart-line (line row) (λ s. s.index % g.wide) 0 g.own_wide
    (λ column c. mod-mul-add row g.wide column (let h = c.high in omega arith)))
    (λ row s b h. let x = in-line-back (line row) s 0 g.own_wide h in search (rules, own-tells))
    (λ s k l e f. sym e ∙ f)

-- ---- several components

-- what a spot of a component's part of an MCU tells
pub record Tells (frame : Frame) (c : Component) (slot row column : ℕ) (s : Spot) : Type 0 where
  pub slot_of : s.slot ≡ slot
  pub row_of : s.index / c.blocks_wide / c.factors.vertical ≡ row
  pub column_of : s.index % c.blocks_wide / c.factors.horizontal ≡ column
  pub inside : row < frame.mcus_high → s.index < c.blocks_high * c.blocks_wide

-- a column of an MCU is within the component's blocks
within : (frame : Frame) (c : Component) (column h : ℕ) → Fits frame c → column < frame.mcus_wide
    → h < c.factors.horizontal → column * c.factors.horizontal + h < c.blocks_wide
within frame c column h fits lt l = search (rules, div-mul-add, div-lt_iff_lt-mul)

-- the component that a spot of an MCU is of
pub record IsOf (frame : Frame) (components : List Component) (base row column : ℕ) (s : Spot) : Type 0 where
  pub index : ℕ
  pub component : Component
  pub here : At index components component
  pub tells : Tells frame component (base + index) row column s

module _ (frame : Frame) (row column : ℕ) (lt : column < frame.mcus_wide) where
  spot-tells : (c : Component) (slot v h : ℕ) (s : Spot) → Fits frame c → v < c.factors.vertical
      → h < c.factors.horizontal → record {
        slot = slot;
        index = (row * c.factors.vertical + v) * c.blocks_wide + (column * c.factors.horizontal + h);
      } ≡ s → Tells frame c slot row column s
  spot-tells c slot v h s fits vl hl e =
      let vt = c.factors.vertical in
      let hz = c.factors.horizontal in
      let w = c.blocks_wide in
      let i = (row * vt + v) * w + (column * hz + h) in
      let lw : column * hz + h < w = within frame c column h fits lt hl in
      let wp : 0 < w = omega arith in
      let by-row : i / w ≡ row * vt + v = div-mul-add (row * vt + v) w (column * hz + h) lw in
      let by-column : i % w ≡ column * hz + h = mod-mul-add (row * vt + v) w (column * hz + h) lw in
      let up : (row * vt + v) / vt ≡ row = div-mul-add row vt v vl in
      search (rules, div-mul-add, div-lt_iff_lt-mul)

  part-tells : (c : Component) (slot : ℕ) (s : Spot) → Fits frame c
      → IsIn s (part_spots row column slot c) → Tells frame c slot row column s
  unfolding part_spots
  part-tells c slot s fits h =
      let at : ℕ → ℕ → Spot = λ v h. record {
        slot = slot;
        index = (row * c.factors.vertical + v) * c.blocks_wide + (column * c.factors.horizontal + h);
      } in
      let line : ℕ → List Spot = λ v. map (at v) (range_with_len 0 c.factors.horizontal) in
      let g = in-flat-back line s 0 c.factors.vertical h in
      let e = in-line-back (at g.at) s 0 c.factors.horizontal g.gives in
      let gv = g.between.high in
      let eh = e.between.high in
      spot-tells c slot g.at e.at s fits (omega arith) (omega arith) e.equal

  part-apart : (c : Component) (slot : ℕ) → Fits frame c → AreApart (part_spots row column slot c)
  unfolding part_spots
  part-apart c slot fits =
      let vt = c.factors.vertical in
      let hz = c.factors.horizontal in
      let w = c.blocks_wide in
      let at : ℕ → ℕ → Spot = λ v h. record { slot = slot; index = (row * vt + v) * w + (column * hz + h) } in
      let by-row : (v h : ℕ) → h < hz → (at v h).index / w ≡ row * vt + v
      = λ v h l. div-mul-add (row * vt + v) w (column * hz + h) (within frame c column h fits lt l) in
      let by-column : (v h : ℕ) → h < hz → (at v h).index % w ≡ column * hz + h
      = λ v h l. mod-mul-add (row * vt + v) w (column * hz + h) (within frame c column h fits lt l) in
      apart-flat (λ v. map (at v) (range_with_len 0 hz)) (λ s v. s.index / w % vt ≡ v) 0 vt
      (λ v b. apart-line (at v) (λ s. s.index % w % hz) 0 hz (grind (arith, common_steps, mod-mul-add)))
      (grind (arith, common_steps, in-line-back, mod-mul-add)) (λ s k l e f. sym e ∙ f)

  pub mcu-tells : (components : List Component) (base : ℕ) (s : Spot)
      → AllByRecursion (Fits frame) components → IsIn s (mcu_spots row column base components)
      → IsOf frame components base row column s
  unfolding mcu_spots
  mcu-tells [] base s fits h = absurd h
  mcu-tells (c ∷ more) base s fits h = search (rules, go, in-either, mcu-tells more)
    where
      go : (IsIn s (mcu_spots row column (base + 1) more) → IsOf frame more (base + 1) row column s)
          → IsIn s (part_spots row column base c) ⊎ IsIn s (mcu_spots row column (base + 1) more)
          → IsOf frame (c ∷ more) base row column s
      go rec (inl p) = grind (arith, part-tells c base s fits.0 p)
      go rec (inr t) = let r = rec t in record {
        index = suc r.index;
        component = r.component;
        here = r.here;
        tells = search rules;
      }

  mcu-apart : (components : List Component) (base : ℕ) → AllByRecursion (Fits frame) components
      → AreApart (mcu_spots row column base components)
  unfolding mcu_spots
  mcu-apart [] base fits = tt
  mcu-apart (c ∷ more) base fits =
      apart-append (part_spots row column base c) (mcu_spots row column (base + 1) more)
      (part-apart c base fits.0) (mcu-apart more (base + 1) fits.1)
      (λ s h k. let a = (part-tells c base s fits.0 h).slot_of in let b =
      (mcu-tells more (base + 1) s fits.1 k).tells.slot_of in absurd (omega arith))

-- what a spot of a row of MCUs tells
pub record TellsRow (components : List Component) (row : ℕ) (s : Spot) : Type 0 where
  pub component : Component
  pub here : At s.slot components component
  pub row_of : s.index / component.blocks_wide / component.factors.vertical ≡ row

pub record TellsColumn (components : List Component) (column : ℕ) (s : Spot) : Type 0 where
  pub component : Component
  pub here : At s.slot components component
  pub column_of : s.index % component.blocks_wide / component.factors.horizontal ≡ column

pub placed : (frame : Frame) (components : List Component) (row column : ℕ) (s : Spot)
    (x : IsOf frame components 0 row column s) → At s.slot components x.component
placed frame components row column s x = search rules

pub all-apart : (frame : Frame) (components : List Component) → AllByRecursion (Fits frame) components
    → AreApart (all_spots frame.mcus_wide frame.mcus_high components)
unfolding all_spots
all-apart frame components fits =
    let wide = frame.mcus_wide in
    let mcu : ℕ → ℕ → List Spot = λ row column. mcu_spots row column 0 components in
    let of : (row column : ℕ) (s : Spot) → Between 0 wide column → IsIn s (mcu row column)
    → IsOf frame components 0 row column s
    = search (rules, mcu-tells) in
    apart-flat (λ row. flat_map (mcu row) (range_with_len 0 wide))
    (λ s row. TellsRow components row s) 0 frame.mcus_high
    (λ row b. apart-flat (mcu row) (λ s column. TellsColumn components column s) 0 wide
    (search (rules, mcu-apart))
    (λ column s k h. let x = of row column s k h in search (rules, placed))
    (λ s k l a b. (search (rules, at-one))))
    (λ row s b h. let g = in-flat-back (mcu row) s 0 wide h in
    let x = of row g.at s g.between g.gives in search (rules, placed))
    (λ s k l a b. (search (rules, at-one)))

-- The spots of a scan are apart.
pub spots-apart : (frame : Frame) (components : List Component) → AllByRecursion (Fits frame) components
    → AreApart (spots_of frame components)
unfolding spots_of
spots-apart frame components fits = search (rules, own-apart, all-apart)

-- ---- inside

pub sized : (components : List Component) (arrays : Arrays) (j : ℕ) (c : Component) → AreArrays components arrays
    → At j components c
    → (j < length arrays) × (length (get_or arrays j []) ≡ c.blocks_high * c.blocks_wide)
unfolding AreArrays
sized (d ∷ more) (a ∷ arrays) (suc j) c h k = let r = sized more arrays j c h.1 k in (let l = r.0 in omega arith, r.1)
sized n arrays j c h k = search rules

-- the own spots of a grid are inside an array of lines that are at least as many
pub own-within : (g : Grid) (high : ℕ) (arrays : Arrays) (q : Spot) → g.own_wide ≤ g.wide → g.own_high ≤ high
    → 0 < length arrays → length (get_or arrays 0 []) ≡ high * g.wide → IsIn q (own_spots g) → IsInside arrays q
unfolding own_spots
own-within g high arrays q narrow low some size k =
    let line : ℕ → ℕ → Spot = λ row column. record { slot = 0; index = row * g.wide + column } in
    let x = in-flat-back (λ row. map (line row) (range_with_len 0 g.own_wide)) q 0 g.own_high k in
    let y = in-line-back (line x.at) q 0 g.own_wide x.gives in
    let xh = x.between.high in
    let yh = y.between.high in
    let t = own-tells g x.at y.at q (omega arith) y.equal in
    let wp : 0 < g.wide = omega arith in
    let i : q.index < high * g.wide = (div-lt_iff_lt-mul wp).0 (let r = t.row_of in omega arith) in
    let e : 0 ≡ q.slot = sym t.slot in
    search rules

own-inside : (c : Component) (frame : Frame) (arrays : Arrays) (q : Spot) → Fits frame c → AreArrays (c ∷ []) arrays
    → IsIn q (own_spots (grid_of c)) → IsInside arrays q
own-inside c frame arrays q fits h k =
    let z = sized (c ∷ []) arrays 0 c h refl in
    own-within (grid_of c) c.blocks_high arrays q fits.own_wide fits.own_high z.0 z.1 k

all-inside : (frame : Frame) (components : List Component) (arrays : Arrays) (q : Spot)
    → AllByRecursion (Fits frame) components → AreArrays components arrays
    → IsIn q (all_spots frame.mcus_wide frame.mcus_high components) → IsInside arrays q
unfolding all_spots
all-inside frame components arrays q fits h k =
    grind (arith, in-flat-back, mcu-tells, sized, placed)

-- The spots of a scan are inside the arrays of its components.
pub spots-inside : (frame : Frame) (components : List Component) (arrays : Arrays) (q : Spot)
    → AllByRecursion (Fits frame) components → AreArrays components arrays
    → IsIn q (spots_of frame components) → IsInside arrays q
unfolding spots_of
spots-inside frame [] arrays q fits h k = absurd k
spots-inside frame (c ∷ []) arrays q fits h k = own-inside c frame arrays q fits.0 h k
spots-inside frame (c ∷ d ∷ more) arrays q fits h k = all-inside frame (c ∷ d ∷ more) arrays q fits h k

pub zeros-sized : (components : List Component) → AreArrays components (zero_arrays components)
unfolding zero_arrays AreArrays
zeros-sized [] = tt
zeros-sized (c ∷ more) = (length-replicate (c.blocks_high * c.blocks_wide) zero_block, zeros-sized more)

-- ---- lists

pub map-same : {A B : Type 0} (f g : A → B) (xs : List A) → ((x : A) → f x ≡ g x) → map f xs ≡ map g xs
map-same f g [] h = refl
map-same f g (x ∷ xs) h = ap₂ (λ y ys. y ∷ ys) (h x) (map-same f g xs h)
