use Rattle.std.proofs.Common.{◌∙◌, ap, sym, List, ℕ}
use Rattle.zaxbriar_calls.specs.Layouts.{layout_line, pixel_bytes}
use Rattle.jpeg_meaning.specs.declared.images.PixelFormat.TheVariants.{RGB24}
use Rattle.zaxbriar_calls.specs.declared.layouts.Conversion.TheVariants.{InColour}
use Rattle.zaxbriar_calls.proofs.Laid.{rgba_left, shuffled_abgr, shuffled_bgra, shuffled_rgba, shuffled_xrgb}
use Rattle.zaxbriar_calls.proofs.layouts.four_pixels.Goals as goal
use Rattle.zaxbriar_calls.proofs.layouts.four_pixels.Goals.{in-Xrgb, in-Abgr, in-Bgra, in_default}

pub returns : goal.returns
returns c =
    let row : List ℕ = c.args.row.now in
    let small = λ (k : ℕ). (c.type_inv.row k).fits in
    elim c.match-layout.branch [
      | in-Xrgb w ↦ w.result-is ∙ shuffled_xrgb row c.requires.room small
          ∙ ap (λ l. layout_line (InColour RGB24 8 l) (pixel_bytes RGB24 8) 4 row) (sym w.in-Xrgb.is)
      | in-Abgr w ↦ w.result-is ∙ shuffled_abgr row c.requires.room small
          ∙ ap (λ l. layout_line (InColour RGB24 8 l) (pixel_bytes RGB24 8) 4 row) (sym w.in-Abgr.is)
      | in-Bgra w ↦ w.result-is ∙ shuffled_bgra row c.requires.room small
          ∙ ap (λ l. layout_line (InColour RGB24 8 l) (pixel_bytes RGB24 8) 4 row) (sym w.in-Bgra.is)
      | in_default w ↦ w.result-is ∙ shuffled_rgba row c.requires.room small
          ∙ ap (λ l. layout_line (InColour RGB24 8 l) (pixel_bytes RGB24 8) 4 row)
          (sym (rgba_left c.args.layout c.requires.four w.in_default.not-Abgr w.in_default.not-Bgra
          w.in_default.not-Xrgb))
    ]
