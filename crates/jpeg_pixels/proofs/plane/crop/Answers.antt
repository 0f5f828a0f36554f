use Rattle.std.proofs.Common.{◌≡◌, ◌≤◌, ap, sym, ◌∙◌, ◌*◌, ◌+◌, List, ℕ, get_or, take, length, arith}
use Rattle.std.proofs.lemmas.List.{with_items_is}
use Rattle.jpeg_pixels.proofs.PlaneRows.{all_lines, same_lines}
use Rattle.jpeg_pixels.proofs.plane.crop.Goals as goal
use Rattle.jpeg_pixels.proofs.plane.crop.Goals.{then-width-stride, else-width-stride}

pub returns : goal.returns
returns c =
    let stride = c.args.stride in
    let width = c.args.width in
    let height = c.args.height in
    let old = c.args.plane.now.items in
    c.truncate.ensures.items ∙ (elim c.if-width-stride.branch [
      | then-width-stride w ↦
          let was = w.deref_mut.ensures.value in
          let kept : length w.close_lines.new.lines ≡ c.args.plane.now.len = w.close_lines.auto.lines ∙ ap length was
          ∙ sym c.args.plane.now.ok.0 in
          let room : height * stride ≤ length w.close_lines.new.lines = omega (
            arith,
            w.close_lines.auto.lines,
            ap length was,
          ) in
          ap (λ v. take (width * height) v.items) w.plane-is
          ∙ ap (λ (l : List ℕ). take (width * height) l) (with_items_is c.args.plane.now w.close_lines.new.lines kept)
          ∙ all_lines stride width height old w.close_lines.new.lines c.requires.width room
          (λ y x hy hx. w.close_lines.ensures y x hy hx ∙ ap (λ (l : List ℕ). get_or l (y * stride + x) 0) was)
      | else-width-stride w ↦ ap (λ v. take (width * height) v.items) w.plane-is
          ∙ same_lines stride width height old (omega arith) c.requires.room
    ])
