use Rattle.std.proofs.Common.{◌*◌, length, ap, ◌∙◌, arith}
use Rattle.std.proofs.lemmas.List.{length-map}
use Rattle.std.specs.List.{concat}
use Rattle.jpeg_segments.specs.FrameView.{component_in}
use Rattle.jpeg_pixels.specs.Colour.{conversion_of}
use Rattle.jpeg_pixels.specs.JointPlanes.{joint_line}
use Rattle.jpeg_pixels.proofs.JointPictures.{image-joint}
use Rattle.jpeg_pixels.proofs.PictureLines.{joint-joined, joint_line-long, lines-are}
use Rattle.jpeg_pixels.proofs.WholePictures.{conversion-fits}
use Rattle.jpeg_pixels.proofs.lines.joint_lines.Goals as goal

pub returns-clause-picture : goal.returns-clause-picture
returns-clause-picture c =
    let components = c.args.components.now in
    let fits = ap (λ n. conversion_of n c.args.color_transform) (length-map components component_in)
    ∙ c.in_ok-color_convert.ensures.answers in
    image-joint c.args.planes.shape c.args.planes.samples.items c.requires.full _ _ _ _ _ _
    c.requires.factors c.requires.shape fits
    (ap concat c.in_ok-lines.ensures ∙ joint-joined _ c.args.planes.shape _ c.args.planes.samples.items _)

pub returns-clause-lines : goal.returns-clause-lines
returns-clause-lines c =
    let components = c.args.components.now in
    let shape = c.args.planes.shape in
    let width = c.args.output_size.width in
    let convert = c.in_ok-color_convert.color_convert in
    let count = c.requires.shape.count ∙ length-map components component_in in
    let fits = conversion-fits (length components) c.args.color_transform convert
    c.in_ok-color_convert.ensures.answers in
    lines-are (joint_line convert shape width c.args.planes.samples.items) c.args.output_size.height
    (length components * width) c.in_ok-lines.lines c.in_ok-lines.ensures
    (λ k h. joint_line-long convert shape width c.args.planes.samples.items k c.requires.shape.wide c.requires.full
    (rw count fits) (omega (arith, c.requires.shape.high)) ∙ ap (λ n. n * width) count)
