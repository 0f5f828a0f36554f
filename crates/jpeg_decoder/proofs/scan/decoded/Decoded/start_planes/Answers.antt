use Rattle.std.proofs.Common.{arith, ◌≡◌, ◌∙◌, ap, length, map, List, ℕ}
use Rattle.std.proofs.lemmas.Grind.{common_steps}
use Rattle.std.proofs.lemmas.List.{length-map}
use Rattle.jpeg_segments.specs.FrameView.{component_in, frame_in}
use Rattle.jpeg_decoder.specs.GrowingView.{growing_in}
use Rattle.jpeg_decoder.specs.Strips.{no_samples, plane_lists}
use Rattle.jpeg_decoder.specs.declared.scan.strips.GrowingPlanes.TheVariants as growing
use Rattle.jpeg_decoder.proofs.Scans.DecidedScans.{none-after}
use Rattle.jpeg_decoder.proofs.Strips.FirstPlanes.{all-started, first-started, none-long}
use Rattle.jpeg_decoder.proofs.Strips.JointStrips.{joint-started, none-started}
use Rattle.jpeg_decoder.proofs.scan.decoded.Decoded.start_planes.Goals.{In_ok-new}
use Rattle.jpeg_decoder.proofs.scan.decoded.Decoded.start_planes.Goals as goal

-- the scan has all components of the frame
all-there : (c : In_ok-new) → length c.args.scan.now.codings
    ≡ length (map component_in c.as_slice-components.result.now)
all-there c = grind (arith, common_steps, length-map)

started : (c : In_ok-new) → growing_in (growing.Joint c.in_ok-new.field-0) ≡ no_samples c.args.scan.now.codings
started c =
    none-started (frame_in c.args.frame.now) c.args.scan.now.codings _ c.in_ok-new.field-0
    c.in-Some.shape _ _ c.in_ok-new.ensures.shape c.in_ok-new.ensures.none
    (ap (map component_in) c.as_slice-components.ensures.value) c.in-Some.ensures.shape
    (all-there c)

pub returns-in-Some-clause-none : goal.returns-in-Some-clause-none
returns-in-Some-clause-none c =
    all-started c.args.scan.now.codings (growing_in (growing.Joint c.in_ok-new.field-0)) (started c)

pub returns-in-Some-clause-decided : goal.returns-in-Some-clause-decided
returns-in-Some-clause-decided c =
    let long = ap (λ (l : List (List ℕ)). length l) (started c) ∙ none-long c.args.scan.now.codings in
    none-after c.args.self.now.planes (length (growing_in (growing.Joint c.in_ok-new.field-0))) c.args.scan.now.codings
    (omega (arith, long))

pub returns-in-Some-clause-growing : goal.returns-in-Some-clause-growing
returns-in-Some-clause-growing c =
    joint-started (frame_in c.args.frame.now) c.args.scan.now.codings _ c.in_ok-new.field-0
    c.in-Some.shape _ _ c.in_ok-new.ensures.shape c.in_ok-new.ensures.none
    (ap (map component_in) c.as_slice-components.ensures.value) c.in-Some.ensures.shape
    (all-there c) c.in-Some.ensures.rows c.in-Some.ensures.lines c.requires.fits
    c.requires.of_frame

pub returns-clause-none : goal.returns-clause-none
returns-clause-none c =
    first-started c.count_wanted-count.result c.components-codings.result.now c.args.scan.now.codings
    (plane_lists c.in_ok-planes.planes.items) c.components-codings.ensures.codings c.in_ok-planes.ensures
