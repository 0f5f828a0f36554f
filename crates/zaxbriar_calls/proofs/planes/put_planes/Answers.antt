use Rattle.std.proofs.Common.{◌≡◌, ◌∙◌, ◌+◌, ◌-◌, ◌<◌, ◌≤◌, ◌++◌, ℕ, List, [], ap, arith, drop, get_or, length, map, take}
use Rattle.std.proofs.lemmas.List.{length-map}
use Rattle.std.specs.List.{concat}
use Rattle.jpeg_decoder.proofs.Pictures.EndedPlanes.{mapped-or}
use Rattle.zaxbriar_calls.proofs.OwnPlanes.{plane-fits, plane-put, planes-last, planes-long}
use Rattle.zaxbriar_calls.proofs.planes.put_planes.Goals as goal

pub slice_bounds-copy_from_slice-end : goal.slice_bounds-copy_from_slice-end
slice_bounds-copy_from_slice-end c =
    let planes : List (List ℕ) = map (λ p. p.items) c.args.planes.now in
    let below : c.loop-index.index < length planes =
    omega (arith, c.loop-index-test.true, length-map c.args.planes.now (λ p. p.items)) in
    let is : c.as_slice-plane.result.now ≡ get_or planes c.loop-index.index [] =
    c.as_slice-plane.ensures.value
    ∙ mapped-or (λ p. p.items) c.args.planes.now c.loop-index.index c.index-planes-index.result
    c.index-planes-index.result [] c.loop-index-test.true c.index-planes-index.is in
    let same : length c.as_slice-plane.result.now ≡ length (get_or planes c.loop-index.index []) = (λ i. length (is i)) in
    omega (
      arith,
      c.requires,
      c.loop-index.invariant.start,
      c.loop-index.auto.samples,
      same,
      plane-fits c.loop-index.index planes [] below,
    )

pub loop-index-preserved : goal.loop-index-preserved
loop-index-preserved c =
    let planes : List (List ℕ) = map (λ p. p.items) c.args.planes.now in
    let start : ℕ = c.loop-index.start in
    let bytes : ℕ = length c.as_slice-plane.result.now in
    let below : c.loop-index.index < length planes =
    omega (arith, c.loop-index-test.true, length-map c.args.planes.now (λ p. p.items)) in
    let is : c.as_slice-plane.result.now ≡ get_or planes c.loop-index.index [] =
    c.as_slice-plane.ensures.value
    ∙ mapped-or (λ p. p.items) c.args.planes.now c.loop-index.index c.index-planes-index.result
    c.index-planes-index.result [] c.loop-index-test.true c.index-planes-index.is in
    let same : bytes ≡ length (get_or planes c.loop-index.index []) = (λ i. length (is i)) in
    let count : start + (start + bytes - start) ≡ start + bytes = omega arith in
    record {
      start = omega (arith, c.loop-index.invariant.start, planes-long c.loop-index.index planes [] below, same);
      samples = plane-put c.loop-index.index start (start + bytes - start) planes c.args.samples.now
          c.loop-index.samples c.copy_from_slice.new.self [] below c.loop-index.invariant.start
          (c.copy_from_slice.ensures.after ∙ is) c.loop-index.invariant.samples
          ∙ ap (λ (n : ℕ). concat (take (c.loop-index.index + 1) planes) ++ drop n c.args.samples.now) count;
    }

pub returns : goal.returns
returns c =
    let planes : List (List ℕ) = map (λ p. p.items) c.args.planes.now in
    let all : length planes ≤ c.loop-index.index =
    omega (arith, c.loop-index-test.false, length-map c.args.planes.now (λ p. p.items)) in
    c.loop-index.invariant.samples
    ∙ ap (λ (n : ℕ). concat (take c.loop-index.index planes) ++ drop n c.args.samples.now) c.loop-index.invariant.start
    ∙ ap (λ (l : List ℕ). l ++ drop (length l) c.args.samples.now) (planes-last c.loop-index.index planes all)
