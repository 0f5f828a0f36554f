-- The components of a frame, and their sizes and that of the frame, in blocks and in MCUs.
use Rattle.std.proofs.Common.{◌≡◌, ℕ, zero, suc, ◌+◌, ◌-◌, ◌*◌, ◌<◌, ◌≤◌, true, List, [], ◌∷◌, ◌++◌, length, map, min, Some, refl}
use Rattle.std.proofs.Common.{sym, ap, ap₂, ◌∙◌, subst, arith}
use Rattle.std.specs.List.{AllByRecursion}
use Rattle.std.specs.Prelude.{option_map, slice_get}
use Rattle.std.proofs.Math.Nat.{div-le_self, mul-le-mul_right, mul-pos}
use Rattle.std.proofs.lemmas.Bool.Decides.{nat_tests}
use Rattle.std.proofs.lemmas.Grind.{common_steps}
use Rattle.std.proofs.lemmas.List.{length-map}
use Rattle.std.proofs.lemmas.Option.{slice_get-map}
use Rattle.std.proofs.lemmas.Simd.{map-map}
use Rattle.jpeg_segments.specs.Frame.{Factors, ceiling, component_of, frame_of, greatest, is_factor}
use Rattle.jpeg_segments.specs.Frame.{Component as WrittenComponent, Frame as WrittenFrame}
use Rattle.jpeg_segments.specs.WrittenSegments.{AreComponents}
use Rattle.jpeg_segments.proofs.Ceilings.{ceiling-low}
use Rattle.jpeg_meaning.specs.Order.{grid_of}
use Rattle.zaxbriar_strict.specs.Heads.{IsMade, factors_of, number_of, written_frame}
use Rattle.zaxbriar_strict.specs.ScanData.{own_high_of, own_wide_of, units_high, units_wide}
use Rattle.zaxbriar_strict.specs.declared.frame.Component.{Component}
use Rattle.zaxbriar_strict.specs.declared.frame.Frame.{Frame}
use Rattle.zaxbriar_strict.specs.declared.scan.Member.{Member}
use Rattle.zaxbriar_strict.proofs.Contexts.{element}

abbrev pub no_component : WrittenComponent
no_component = record {
  factors = record { identifier = 0; horizontal = 0; vertical = 0; quantization = 0 };
  scale = 0;
  width = 0;
  height = 0;
  blocks_wide = 0;
  blocks_high = 0;
}

-- a component of a frame, in the words of a writer
abbrev pub component_in : Frame → Component → WrittenComponent
component_in f x = component_of f.width f.height f.most_across f.most_down (factors_of x)

pub components-are : (f : Frame) → IsMade f → (written_frame f).components ≡ map (component_in f) f.components.items
unfolding frame_of
components-are f made =
    let xs = f.components.items in
    ap₂ (λ (a b : ℕ). map (component_of f.width f.height a b) (map factors_of xs)) (sym made.across) (sym made.down)
    ∙ map-map (component_of f.width f.height f.most_across f.most_down) factors_of xs

pub written-count : (f : Frame) → length (written_frame f).components ≡ length f.components.items
unfolding frame_of
written-count f = simp length-map

pub component-at : (f : Frame) (i : ℕ) (x : Component) → IsMade f → slice_get f.components.items i ≡ Some x
    → slice_get (written_frame f).components i ≡ Some (component_in f x)
component-at f i x made at =
    ap (λ (l : List WrittenComponent). slice_get l i) (components-are f made)
    ∙ slice_get-map (component_in f) f.components.items i ∙ ap (option_map (component_in f)) at

pub own-table : (f : Frame) (x : Component) → (component_in f x).factors.quantization ≡ x.table
unfolding component_of
own-table f x = refl

-- ---- sampling factors

factor-bounds : (n : ℕ) → is_factor n ≡ true → (1 ≤ n) × (n ≤ 4)
factor-bounds n e = grind (arith, common_steps, nat_tests)

greatest-some : (g : Factors → ℕ) (cs : List Factors) → 1 ≤ greatest g cs
greatest-some g [] = omega arith
greatest-some g (c ∷ cs) = (let h = greatest-some g cs in omega (arith, h))

greatest-most : (number : ℕ) (front cs : List Factors) → AreComponents number front cs
    → (greatest (λ c. c.horizontal) cs ≤ 4) × (greatest (λ c. c.vertical) cs ≤ 4)
unfolding AreComponents
greatest-most number front [] are = (omega arith, omega arith)
greatest-most number front (c ∷ cs) are =
    let h = greatest-most number (front ++ c ∷ []) cs are.1 in
    let a = factor-bounds c.horizontal are.0.across in
    let d = factor-bounds c.vertical are.0.down in
    (omega (arith, h, a), omega (arith, h, d))

pub most-across : (f : Frame) → IsMade f → (1 ≤ f.most_across) × (f.most_across ≤ 4)
most-across f made =
    let e = made.across in
    let cs = map factors_of f.components.items in
    let some = greatest-some (λ (k : Factors). k.horizontal) cs in
    let most = (greatest-most (number_of f.process) [] cs made.legal.components).0 in
    (omega (arith, e, some), omega (arith, e, most))

pub most-down : (f : Frame) → IsMade f → (1 ≤ f.most_down) × (f.most_down ≤ 4)
most-down f made =
    let e = made.down in
    let cs = map factors_of f.components.items in
    let some = greatest-some (λ (k : Factors). k.vertical) cs in
    let most = (greatest-most (number_of f.process) [] cs made.legal.components).1 in
    (omega (arith, e, some), omega (arith, e, most))

pub factors-some : (number : ℕ) (front : List Factors) (xs : List Component) (i : ℕ) (x : Component)
    → AreComponents number front (map factors_of xs) → slice_get xs i ≡ Some x → (1 ≤ x.across) × (1 ≤ x.down)
unfolding AreComponents
factors-some number front [] i x are at = absurd cc
factors-some number front (y ∷ xs) zero x are at =
    let same : y ≡ x = cc in
    subst (λ (k : Component). (1 ≤ k.across) × (1 ≤ k.down)) same
    ((factor-bounds y.across are.0.across).0, (factor-bounds y.down are.0.down).0)
factors-some number front (y ∷ xs) (suc i) x are at =
    factors-some number (front ++ factors_of y ∷ []) xs i x are.1 at

factors-most : (number : ℕ) (front : List Factors) (xs : List Component) (i : ℕ) (x : Component)
    → AreComponents number front (map factors_of xs) → slice_get xs i ≡ Some x → (x.across ≤ 4) × (x.down ≤ 4)
unfolding AreComponents
factors-most number front [] i x are at = absurd cc
factors-most number front (y ∷ xs) zero x are at =
    let same : y ≡ x = cc in
    subst (λ (k : Component). (k.across ≤ 4) × (k.down ≤ 4)) same
    ((factor-bounds y.across are.0.across).1, (factor-bounds y.down are.0.down).1)
factors-most number front (y ∷ xs) (suc i) x are at =
    factors-most number (front ++ factors_of y ∷ []) xs i x are.1 at

-- ---- the size of a component in blocks

pub own-wide : (f : Frame) (x : Component)
    → ceiling (ceiling (f.width * x.across) f.most_across) 8 ≡ (grid_of (component_in f x)).own_wide
unfolding component_of
own-wide f x = refl

pub own-high : (f : Frame) (x : Component)
    → ceiling (ceiling (f.height * x.down) f.most_down) 8 ≡ (grid_of (component_in f x)).own_high
unfolding component_of
own-high f x = refl

pub ceiling-some : (n d : ℕ) → 0 < n → 0 < d → 0 < ceiling n d
ceiling-some n d some above = go (ceiling n d) refl
  where
    go : (q : ℕ) → q ≡ ceiling n d → 0 < q
    go zero e = (
        let low = ceiling-low n d above in
        let same : d * ceiling n d ≡ d * 0 = ap (λ (k : ℕ). d * k) (sym e) in
        absurd (omega (arith, low, same, some))
        )
    go (suc q) e = omega arith

-- it has blocks
pub own-some : (f : Frame) (i : ℕ) (x : Component) → IsMade f → slice_get f.components.items i ≡ Some x
    → 1 ≤ (grid_of (component_in f x)).own_high * (grid_of (component_in f x)).own_wide
own-some f i x made at =
    let some = factors-some (number_of f.process) [] f.components.items i x made.legal.components at in
    let wide : 0 < f.width * x.across = mul-pos made.legal.wide some.0 in
    let high : 0 < f.height * x.down = mul-pos made.legal.high some.1 in
    let across = ceiling-some (f.width * x.across) f.most_across wide (most-across f made).0 in
    let down = ceiling-some (f.height * x.down) f.most_down high (most-down f made).0 in
    let w = ceiling-some (ceiling (f.width * x.across) f.most_across) 8 across (omega arith) in
    let h = ceiling-some (ceiling (f.height * x.down) f.most_down) 8 down (omega arith) in
    let w' : 0 < (grid_of (component_in f x)).own_wide = subst (λ (n : ℕ). 0 < n) (own-wide f x) w in
    let h' : 0 < (grid_of (component_in f x)).own_high = subst (λ (n : ℕ). 0 < n) (own-high f x) h in
    mul-pos h' w'

-- ---- the size of a scan of all components in MCUs

pub whole-wide : (f : Frame) → IsMade f → ceiling f.width (f.most_across * 8) ≡ (written_frame f).mcus_wide
unfolding frame_of
whole-wide f made =
    let e : f.most_across * 8 ≡ 8 * f.most_across = omega arith in
    ap (λ (n : ℕ). ceiling f.width n) (e ∙ ap (λ (n : ℕ). 8 * n) made.across)

pub whole-high : (f : Frame) → IsMade f → ceiling f.height (f.most_down * 8) ≡ (written_frame f).mcus_high
unfolding frame_of
whole-high f made =
    let e : f.most_down * 8 ≡ 8 * f.most_down = omega arith in
    ap (λ (n : ℕ). ceiling f.height n) (e ∙ ap (λ (n : ℕ). 8 * n) made.down)

-- where a product of 32 bits is one of the greatest factors and 8
pub eights : (most side product : ℕ) → side ≡ 8 → (1 ≤ most) × (most ≤ 4) → product ≡ min (most * side) 4294967295
    → (1 ≤ product) × (product ≡ most * 8)
eights most side product eight most-is e =
    let same : most * side ≡ most * 8 = ap (λ (n : ℕ). most * n) eight in
    (omega (arith, e, same, most-is), omega (arith, e, same, most-is))

-- the same for samples
pub ones : (most side product : ℕ) → side ≡ 1 → (1 ≤ most) × (most ≤ 4) → product ≡ min (most * side) 4294967295
    → (1 ≤ product) × (product ≡ most)
ones most side product one most-is e =
    let same : most * side ≡ most * 1 = ap (λ (n : ℕ). most * n) one in
    (omega (arith, e, same, most-is), omega (arith, e, same, most-is))

pub units-alone : (f : Frame) (ms : List Member) (m : Member) (x : Component) → IsMade f → ms ≡ m ∷ []
    → slice_get f.components.items m.component ≡ Some x
    → (units_wide (written_frame f) ms ≡ (grid_of (component_in f x)).own_wide)
    × (units_high (written_frame f) ms ≡ (grid_of (component_in f x)).own_high)
units-alone f ms m x made e at =
    let one = component-at f m.component x made at in (
      ap (λ (l : List Member). units_wide (written_frame f) l) e ∙ ap own_wide_of one,
      ap (λ (l : List Member). units_high (written_frame f) l) e ∙ ap own_high_of one,
    )

pub units-several : (frame : WrittenFrame) (ms : List Member) → (length ms ≡ 1 → ⊥)
    → (units_wide frame ms ≡ frame.mcus_wide) × (units_high frame ms ≡ frame.mcus_high)
units-several frame [] ne = (refl, refl)
units-several frame (m ∷ []) ne = absurd (ne refl)
units-several frame (m ∷ n ∷ more) ne = (refl, refl)

-- a scan of some components has MCUs
pub units-some : (f : Frame) (ms : List Member) → IsMade f
    → AllByRecursion (λ (m : Member). m.component < length f.components.items) ms
    → 1 ≤ units_high (written_frame f) ms * units_wide (written_frame f) ms
units-some f ms made within = go ms within
  where
    several : (ns : List Member) → (length ns ≡ 1 → ⊥)
        → 1 ≤ units_high (written_frame f) ns * units_wide (written_frame f) ns
    several ns ne = (
        let u = units-several (written_frame f) ns ne in
        let across : 0 < f.most_across * 8 = (let h = (most-across f made).0 in omega (arith, h)) in
        let down : 0 < f.most_down * 8 = (let h = (most-down f made).0 in omega (arith, h)) in
        let w : 0 < units_wide (written_frame f) ns =
        subst (λ (n : ℕ). 0 < n) (whole-wide f made ∙ sym u.0)
        (ceiling-some f.width (f.most_across * 8) made.legal.wide across) in
        let h : 0 < units_high (written_frame f) ns =
        subst (λ (n : ℕ). 0 < n) (whole-high f made ∙ sym u.1)
        (ceiling-some f.height (f.most_down * 8) made.legal.high down) in
        mul-pos h w
        )

    go : (ns : List Member) → AllByRecursion (λ (m : Member). m.component < length f.components.items) ns
        → 1 ≤ units_high (written_frame f) ns * units_wide (written_frame f) ns
    go [] all = several [] (λ one. absurd (omega (arith, one)))
    go (m ∷ []) all = (
        let x = element f.components.items m.component all.0 in
        let u = units-alone f (m ∷ []) m x.0 made refl x.1 in
        let some = own-some f m.component x.0 made x.1 in
        subst (λ (n : ℕ). 1 ≤ n) (ap₂ (λ (a b : ℕ). a * b) (sym u.1) (sym u.0)) some
        )
    go (m ∷ n ∷ more) all = several (m ∷ n ∷ more) (λ one. absurd (omega (arith, one)))

-- ---- a scan has at most so many MCUs, across and down

near-one : (length factor most n : ℕ) → length ≤ 65535 → factor ≤ 4 → most ≤ 4
    → n ≡ ceiling (ceiling (length * factor) most) 8 → n ≤ 300000
near-one length factor most n short few small e =
    let p = mul-le-mul_right factor short in
    let a = div-le_self (length * factor + (most - 1)) most in
    let b = div-le_self (ceiling (length * factor) most + (8 - 1)) 8 in
    omega (arith, p, few, small, a, b, e)

near-all : (length most n : ℕ) → length ≤ 65535 → most ≤ 4 → n ≡ ceiling length (most * 8) → n ≤ 300000
near-all length most n short small e =
    let a = div-le_self (length + (most * 8 - 1)) (most * 8) in
    omega (arith, short, small, a, e)

pub units-near : (f : Frame) (ms : List Member) → IsMade f
    → AllByRecursion (λ (m : Member). m.component < length f.components.items) ms
    → (units_wide (written_frame f) ms ≤ 300000) × (units_high (written_frame f) ms ≤ 300000)
units-near f ms made within = go ms within
  where
    several : (ns : List Member) → (length ns ≡ 1 → ⊥)
        → (units_wide (written_frame f) ns ≤ 300000) × (units_high (written_frame f) ns ≤ 300000)
    several ns ne = (
        let u = units-several (written_frame f) ns ne in (
          near-all f.width f.most_across _ made.wide (most-across f made).1 (u.0 ∙ sym (whole-wide f made)),
          near-all f.height f.most_down _ made.high (most-down f made).1 (u.1 ∙ sym (whole-high f made)),
        )
        )

    go : (ns : List Member) → AllByRecursion (λ (m : Member). m.component < length f.components.items) ns
        → (units_wide (written_frame f) ns ≤ 300000) × (units_high (written_frame f) ns ≤ 300000)
    go [] all = several [] (λ one. absurd (omega (arith, one)))
    go (m ∷ []) all = (
        let x = element f.components.items m.component all.0 in
        let u = units-alone f (m ∷ []) m x.0 made refl x.1 in
        let few = factors-most (number_of f.process) [] f.components.items m.component x.0 made.legal.components x.1 in (
          near-one f.width x.0.across f.most_across _ made.wide few.0 (most-across f made).1
              (u.0 ∙ sym (own-wide f x.0)),
          near-one f.height x.0.down f.most_down _ made.high few.1 (most-down f made).1
              (u.1 ∙ sym (own-high f x.0)),
        )
        )
    go (m ∷ n ∷ more) all = several (m ∷ n ∷ more) (λ one. absurd (omega (arith, one)))
