use Rattle.std.proofs.Common.{arith, rules}
use Rattle.jpeg_pixels.specs.JointPlanes.{strip_size}
use Rattle.jpeg_pixels.proofs.JointPictures.{part-fits, samples-all}
use Rattle.jpeg_pixels.proofs.joint_planes.JointPlanes.plane.Goals as goal

pub slice_bounds-extend_from_slice-end : goal.slice_bounds-extend_from_slice-end
slice_bounds-extend_from_slice-end c =
    let shape = c.args.self.now.shape in
    let fits = part-fits c.loop-row.row shape.rows c.args.slot shape.count (strip_size shape)
    c.loop-row-test.true c.requires.slot in
    let same = rw (← c.requires.full, ← c.row_size.ensures, ← c.strip_size-size.ensures) at fits in
    omega (arith, same)

pub returns : goal.returns
returns c = search (rules, samples-all)
