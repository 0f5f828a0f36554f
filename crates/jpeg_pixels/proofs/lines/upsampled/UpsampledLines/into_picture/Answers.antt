use Rattle.std.proofs.Common.{ℕ, List, Vec, Global, map, ap, sym, ◌∙◌}
use Rattle.std.proofs.lemmas.Result.{MatchResult-weaker}
use Rattle.std.specs.List.{concat}
use Rattle.jpeg_pixels.specs.Pictures.{converted_picture}
use Rattle.jpeg_pixels.proofs.PictureLines.{upsampled-joined}
use Rattle.jpeg_pixels.proofs.lines.upsampled.UpsampledLines.into_picture.Goals as goal

pub returns : goal.returns
returns c =
    let l = c.self.inside in
    let planes = map (λ (v : Vec ℕ Global). v.items) l.planes.items in
    MatchResult-weaker c.picture.result c.picture.ensures
    (λ v is. is
    ∙ ap (λ (p : List (Vec ℕ Global)). converted_picture l.color_convert l.upsampler (map (λ v. v.items) p) l.width
    l.height) c.deref.ensures.value
    ∙ sym (upsampled-joined l.color_convert l.upsampler planes l.width l.height) ∙ ap concat c.self.view_is)
    (λ e h. h)
