use Rattle.std.proofs.Common.{◌≡◌, ◌*◌, ◌++◌, drop}
use Rattle.zaxbriar_calls.specs.Layouts.{layout_line, pixel_bytes}
use Rattle.jpeg_meaning.specs.declared.images.PixelFormat.TheVariants.{RGB24}
use Rattle.zaxbriar_calls.specs.declared.layouts.Conversion.TheVariants.{InColour}
use Rattle.zaxbriar_calls.proofs.layouts.put_fours.Given as goal

abbrev pub invariant-loop-k : goal.invariant-loop-k
invariant-loop-k l = l.line ≡ layout_line (InColour RGB24 8 l.fn.layout) (pixel_bytes RGB24 8) (4 * l.k) l.fn.row
    ++ drop (16 * l.k) l.initial.line
