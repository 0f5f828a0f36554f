use Rattle.std.proofs.Common.{◌≡◌, ◌*◌, length, map, ap, sym, ◌∙◌}
use Rattle.std.proofs.lemmas.List.{length-map}
use Rattle.std.specs.List.{concat}
use Rattle.jpeg_segments.specs.FrameView.{component_in}
use Rattle.jpeg_pixels.specs.Colour.{conversion_of}
use Rattle.jpeg_pixels.specs.Pictures.{picture_line}
use Rattle.jpeg_pixels.proofs.PictureLines.{lines-are, picture_line-long, upsampled-joined}
use Rattle.jpeg_pixels.proofs.WholePictures.{conversion-fits, image-is, sources-count}
use Rattle.jpeg_pixels.proofs.lines.plane_lines.Goals as goal

pub returns-clause-picture : goal.returns-clause-picture
returns-clause-picture c =
    let components = c.args.components.now in
    let planes = map (λ v. v.items) c.args.planes.items in
    let fits = ap (λ n. conversion_of n c.args.color_transform) (length-map components component_in)
    ∙ c.in_ok-color_convert.ensures.answers in
    image-is (map component_in components) planes c.args.output_size.width c.args.output_size.height
    c.args.color_transform c.in_ok-color_convert.color_convert c.in_ok-upsampler.upsampler
    (concat c.in_ok-lines.lines) fits c.in_ok-upsampler.ensures
    (ap concat c.in_ok-lines.ensures
    ∙ upsampled-joined c.in_ok-color_convert.color_convert c.in_ok-upsampler.upsampler planes c.args.output_size.width
    c.args.output_size.height)

pub returns-clause-lines : goal.returns-clause-lines
returns-clause-lines c =
    let components = c.args.components.now in
    let planes = map (λ v. v.items) c.args.planes.items in
    let width = c.args.output_size.width in
    let height = c.args.output_size.height in
    let convert = c.in_ok-color_convert.color_convert in
    let sources = c.in_ok-upsampler.upsampler in
    let count : length sources ≡ length components =
    sources-count (map component_in components) width height sources c.in_ok-upsampler.ensures
    ∙ length-map components component_in in
    let counts : length planes ≡ length sources =
    length-map c.args.planes.items (λ v. v.items) ∙ c.requires.planes ∙ sym count in
    let fits = conversion-fits (length components) c.args.color_transform convert
    c.in_ok-color_convert.ensures.answers in
    lines-are (picture_line convert sources planes width) height (length components * width) c.in_ok-lines.lines
    c.in_ok-lines.ensures (λ k h. picture_line-long convert sources planes width k counts (rw count fits)
    ∙ ap (λ n. n * width) count)
