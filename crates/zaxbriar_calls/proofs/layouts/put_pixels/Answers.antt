use Rattle.std.proofs.Common.{◌≡◌, arith}
use Rattle.zaxbriar_calls.specs.Layouts.{layout_bytes, pixel_bytes, pixel_of}
use Rattle.zaxbriar_calls.specs.declared.layouts.Conversion.TheVariants.{InColour}
use Rattle.zaxbriar_calls.proofs.Laid.{colour-put, none-put}
use Rattle.zaxbriar_calls.proofs.layouts.put_pixels.Goals as goal

pub loop-x-init : goal.loop-x-init
loop-x-init c =
    none-put (pixel_of (InColour c.args.format c.args.precision c.args.layout))
    (pixel_bytes c.args.format c.args.precision) (layout_bytes c.args.layout) c.args.row.now c.args.line.now

pub loop-x-preserved : goal.loop-x-preserved
loop-x-preserved c =
    let stored : c.from-stored.result ≡ pixel_bytes c.args.format c.args.precision = grind arith in
    let bytes : c.from-bytes.result ≡ layout_bytes c.args.layout = grind arith in
    colour-put c.args.format c.args.precision c.args.layout c.from-stored.result c.from-bytes.result c.loop-x.x
    c.args.row.now c.args.line.now c.loop-x.line _ stored bytes (grind arith) c.loop-x.invariant
