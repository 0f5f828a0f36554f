use Rattle.std.proofs.Common.{◌≡◌, ◌∙◌, ◌<◌, ℕ, List, [], arith, get_or, length, map}
use Rattle.std.proofs.lemmas.List.{length-map}
use Rattle.jpeg_decoder.proofs.Pictures.EndedPlanes.{mapped-or}
use Rattle.zaxbriar_calls.proofs.OwnPlanes.{plane-fits, planes-long}
use Rattle.zaxbriar_calls.proofs.planes.fit_in.Goals as goal

pub loop-index-preserved : goal.loop-index-preserved
loop-index-preserved c =
    let planes : List (List ℕ) = map (λ p. p.items) c.args.planes.now in
    let plane : List ℕ = c.index-planes-index.result.items in
    let below : c.loop-index.index < length planes =
    omega (arith, c.loop-index-test.true, length-map c.args.planes.now (λ p. p.items)) in
    let is : plane ≡ get_or planes c.loop-index.index [] =
    mapped-or (λ p. p.items) c.args.planes.now c.loop-index.index c.index-planes-index.result
    c.index-planes-index.result [] c.loop-index-test.true c.index-planes-index.is in
    let bytes : c.len-bytes.result ≡ length plane =
    c.len-bytes.ensures ∙ c.index-planes-index.result.ok.0 in
    let same : length plane ≡ length (get_or planes c.loop-index.index []) = (λ i. length (is i)) in
    omega (
      arith,
      c.loop-index.invariant,
      planes-long c.loop-index.index planes [] below,
      bytes,
      same,
      c.if-bytes-left.false,
    )

pub returns-then-bytes-left-clause-over : goal.returns-then-bytes-left-clause-over
returns-then-bytes-left-clause-over c =
    λ e.
    let planes : List (List ℕ) = map (λ p. p.items) c.args.planes.now in
    let plane : List ℕ = c.index-planes-index.result.items in
    let below : c.loop-index.index < length planes =
    omega (arith, c.loop-index-test.true, length-map c.args.planes.now (λ p. p.items)) in
    let is : plane ≡ get_or planes c.loop-index.index [] =
    mapped-or (λ p. p.items) c.args.planes.now c.loop-index.index c.index-planes-index.result
    c.index-planes-index.result [] c.loop-index-test.true c.index-planes-index.is in
    let bytes : c.len-bytes.result ≡ length plane =
    c.len-bytes.ensures ∙ c.index-planes-index.result.ok.0 in
    let same : length plane ≡ length (get_or planes c.loop-index.index []) = (λ i. length (is i)) in
    omega (arith, c.loop-index.invariant, plane-fits c.loop-index.index planes [] below, bytes, same, c.if-bytes-left.true)
