use Rattle.std.proofs.Common.{◌≡◌, ◌*◌, ◌++◌, drop}
use Rattle.zaxbriar_calls.specs.Layouts.{layout_bytes, layout_line, pixel_bytes}
use Rattle.zaxbriar_calls.specs.declared.layouts.Conversion.TheVariants.{InColour}
use Rattle.zaxbriar_calls.proofs.layouts.put_pixels.Given as goal

abbrev pub invariant-loop-x : goal.invariant-loop-x
invariant-loop-x l = l.line ≡ layout_line (InColour l.fn.format l.fn.precision l.fn.layout)
    (pixel_bytes l.fn.format l.fn.precision) l.x l.fn.row ++ drop (l.x * layout_bytes l.fn.layout) l.initial.line
