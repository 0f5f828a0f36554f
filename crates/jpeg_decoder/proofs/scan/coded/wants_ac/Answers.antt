use Rattle.std.proofs.Common.{◌≡◌, slice_index_or, subst, arith}
use Rattle.std.proofs.lemmas.Grind.{common_steps}
use Rattle.std.proofs.lemmas.List.Elements.{All-map}
use Rattle.std.specs.Prelude.{All}
use Rattle.jpeg_meaning.specs.ScanSegments.{Coding}
use Rattle.jpeg_decoder.specs.Steps.{coding_in}
use Rattle.jpeg_decoder.proofs.Scans.DecidedScans.{so-far-next}
use Rattle.jpeg_decoder.proofs.scan.coded.wants_ac.Goals as goal

pub loop-coded-preserved : goal.loop-coded-preserved
loop-coded-preserved c = grind (arith, common_steps, so-far-next, slice_index_or)

pub returns-clause-dc_alone : goal.returns-clause-dc_alone
returns-clause-dc_alone c =
    let has-one : Coding → Type 0 = λ k. k.component.scale ≡ 1 in
    let all = All-map has-one coding_in c.as_slice-codings.result.now (λ k d lt.
    c.loop-coded.invariant k d (let e = c.loop-coded-test.false in omega arith)) in
    λ f. (grind (arith, common_steps), subst (All has-one) c.as_slice-codings.ensures.codings all)
