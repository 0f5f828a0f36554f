use Rattle.std.proofs.Common.{◌≡◌, ◌≤◌, ◌<◌, ◌∙◌, ℕ, List, ap, arith, length, refl, subst, sym, take}
use Rattle.std.proofs.lemmas.Grind.{common_steps}
use Rattle.std.proofs.lemmas.List.{length-map}
use Rattle.jpeg_segments.specs.Frame.{Component}
use Rattle.jpeg_segments.specs.FrameView.{frame_in}
use Rattle.jpeg_meaning.specs.Work.{blocks_coded, components_at}
use Rattle.jpeg_meaning.proofs.Soundness.{count-few, decoded-count}
use Rattle.jpeg_decoder.proofs.Pictures.PicturesOfPlanes.{decoded-few}
use Rattle.jpeg_decoder.proofs.Scans.CountedWork.{all-at, first-long, first_four}
use Rattle.jpeg_decoder.proofs.scan.work.picture_blocks.Goals as goal
use Rattle.jpeg_decoder.proofs.scan.work.picture_blocks.Goals.{After-len}

-- how many components there are
count : (c : After-len) → length (frame_in c.args.frame.now).components ≡ c.len.result
count c = grind (arith, common_steps, length-map)

few : (c : After-len) → c.len.result ≤ 4
few c = subst (λ (n : ℕ). n ≤ 4) (count c) (decoded-few (frame_in c.args.frame.now) c.requires)

pub slice_bounds-all-end : goal.slice_bounds-all-end
slice_bounds-all-end c = few c

pub slice_bounds-blocks_coded-end : goal.slice_bounds-blocks_coded-end
slice_bounds-blocks_coded-end c =
    sym (first-long c.len.result (few (goal.at.slice_bounds-blocks_coded-end c).After-len))

pub blocks_coded-requires-clause-some : goal.blocks_coded-requires-clause-some
blocks_coded-requires-clause-some c =
    let frame = frame_in c.args.frame.now in
    let at = (goal.at.blocks_coded-requires-clause-some c).After-len in
    subst (λ (n : ℕ). 0 < n) (count at ∙ sym (first-long c.len.result (few at)))
    (count-few (length frame.components) (decoded-count frame c.requires)).0

pub returns : goal.returns
returns c =
    let frame = frame_in c.args.frame.now in
    let at = (goal.at.returns c).After-len in
    c.blocks_coded.ensures
    ∙ ap (λ (cs : List Component). blocks_coded frame.process frame cs)
    (ap (λ (n : ℕ). components_at frame (take n first_four)) (sym (count at))
    ∙ all-at frame frame.components refl (decoded-few frame c.requires))
