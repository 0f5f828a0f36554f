use Rattle.std.proofs.Common.{◌≡◌, ap, sym, ◌∙◌}
use Rattle.std.proofs.lemmas.List.{with_items_is}
use Rattle.std.specs.List.{concat}
use Rattle.jpeg_pixels.specs.JointPlanes.{joint_bytes}
use Rattle.jpeg_pixels.proofs.PictureLines.{joint-joined}
use Rattle.jpeg_pixels.proofs.lines.joint.JointLines.into_picture.Goals as goal

pub returns : goal.returns
returns c =
    let l = c.self.inside in
    let p = l.picture in
    let long = c.write_in_place.auto.room ∙ c.deref_mut-2.ensures.len in
    let room = with_items_is l.samples c.write_in_place.new.room long in
    let made : c.truncate.new.self.items ≡ joint_bytes p.color_convert p.shape p.width l.samples.items l.height =
    cc (c.truncate.ensures.items) in
    made ∙ sym (joint-joined p.color_convert p.shape p.width l.samples.items l.height) ∙ ap concat c.self.view_is
