use Rattle.std.proofs.Common.{rules, pos, ◌+ℤ◌, get_or}
use Rattle.jpeg_pixels.specs.Lanes.{lane}
use Rattle.jpeg_pixels.proofs.ShortLanes.{clamped_lanes, each_signed}
use Rattle.jpeg_pixels.proofs.HalfLanes.{byte_fits}
use Rattle.jpeg_pixels.proofs.ColourLanes.{bytes_at, full, none, summed}
use Rattle.jpeg_pixels.proofs.arch.ycbcr.added_lanes.Goals as goal

pub overflow_cast-result-2 : goal.overflow_cast-result-2
overflow_cast-result-2 g c =
    let y = c.args.y in
    let d = c.args.differences in
    let clamped = clamped_lanes 0 255 (pos 0) (pos 255)
    (summed y d c.fits-y.0 c.fits-y.1 (search rules) c.requires) none full in
    each_signed clamped _ (λ j. byte_fits (pos (get_or y j 0) +ℤ lane d j) (clamped.fits j))

pub returns : goal.returns
returns g c x h =
    let y = c.args.y in
    let d = c.args.differences in
    bytes_at (λ j. pos (get_or y j 0) +ℤ lane d j) (clamped_lanes 0 255 (pos 0) (pos 255)
    (summed y d c.fits-y.0 c.fits-y.1 (search rules) c.requires) none full) x h
