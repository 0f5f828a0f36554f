use Rattle.std.proofs.Common.{◌≡◌, ◌*◌, List, [], ◌∷◌, map, All, Some, sym, subst, arith, rules}
use Rattle.std.specs.List.{AllByRecursion, slice_get}
use Rattle.std.proofs.lemmas.List.Elements.{All-map, recursion_from_All}
use Rattle.std.proofs.lemmas.List.{length-map}
use Rattle.std.proofs.lemmas.Nat.{mul-le}
use Rattle.jpeg_segments.specs.Frame as frames
use Rattle.jpeg_segments.specs.Frame.{AllHaveSampling, HasSampling}
use Rattle.jpeg_segments.specs.FrameView.{component_in}
use Rattle.jpeg_segments.specs.declared.frame.Component.{Component}
use Rattle.jpeg_pixels.specs.JointPlanes.{IsLike}
use Rattle.jpeg_pixels.proofs.joint_planes.joint_shape.Goals as goal

-- the first component has sampling factors
sampled : (components : List Component) (first : Component)
    → AllHaveSampling (map component_in components) → Some first ≡ slice_get components 0
    → HasSampling (component_in first)
unfolding AllHaveSampling
sampled [] first all is = absurd (cc)
sampled (c ∷ more) first all is =
    subst (λ (x : Component). HasSampling (component_in x)) (cc) all.0

-- what is true of each component like the first one
each-like : (P : frames.Component → Type 0) (components : List Component) (first : Component)
    → ((c : Component) → IsLike first c → P (component_in c)) → All (IsLike first) components
    → AllByRecursion P (map component_in components)
each-like P components first of all =
    search (rules, recursion_from_All, All-map)

pub overflow_mul-shape : goal.overflow_mul-shape
overflow_mul-shape c = search (rules, sampled, mul-le)

pub overflow_mul-shape-2 : goal.overflow_mul-shape-2
overflow_mul-shape-2 c = search (rules, sampled, mul-le)

pub overflow_mul-is_high : goal.overflow_mul-is_high
overflow_mul-is_high c = search (rules, sampled, mul-le)

pub returns-then-is_high-clause-shape : goal.returns-then-is_high-clause-shape
returns-then-is_high-clause-shape c =
    let components = c.args.components.now in
    let first = c.in_ok-first.first.now in
    let some = sampled components first c.requires c.in_ok-first.ensures.value in
    let wide = mul-le c.from.result _ 65535 8 (omega arith) some.scale_most in
    let high = mul-le c.from-2.result _ 4 8 (omega arith) some.scale_most in
    let all = c.are_alike.ensures c.if-not-are_alike.false in
    record {
      count = sym (length-map components component_in);
      some = omega arith;
      small = search rules;
      alike = record {
        horizontal = first.horizontal_sampling_factor;
        vertical = first.vertical_sampling_factor;
        factors = each-like _ components first (λ x is. (is.horizontal, is.vertical)) all;
        strides = rw c.from.ensures (each-like _ components first
            (λ x is. (λ i. is.wide i * is.scale i)) all);
      };
      wide = omega arith;
      high = omega arith;
    }

pub returns-then-is_high-clause-lines : goal.returns-then-is_high-clause-lines
returns-then-is_high-clause-lines c =
    let components = c.args.components.now in
    let first = c.in_ok-first.first.now in
    let all = c.are_alike.ensures c.if-not-are_alike.false in
    rw c.from-2.ensures (each-like _ components first (λ x is. (λ i. is.vertical i * is.scale i))
    all)
