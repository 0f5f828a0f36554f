use Rattle.std.proofs.Common.{arith, ◌≡◌, ◌+◌, ◌*◌, ◌≤◌}
use Rattle.zaxbriar_calls.proofs.TurnedPlaces.{pixel-fits, start-is}
use Rattle.zaxbriar_calls.specs.Upright.{pixel_start}
use Rattle.zaxbriar_calls.proofs.lines.pixel_start.Goals as goal

pub returns : goal.returns
returns c = start-is c.args.lines c.args.x c.args.y c.upright_place-across.result.0
    c.upright_place-across.result.1 c.place_of.result c.from.result
    c.upright_place-across.ensures.across c.upright_place-across.ensures.down
    c.place_of.ensures.down c.place_of.ensures.up c.from.ensures

pub overflow_add-result : goal.overflow_add-result
overflow_add-result c =
    let lines = c.args.lines in
    let is : c.place_of.result * lines.stride + c.upright_place-across.result.0 * c.from.result
    ≡ pixel_start lines c.args.x c.args.y = start-is lines c.args.x c.args.y c.upright_place-across.result.0
    c.upright_place-across.result.1 c.place_of.result c.from.result
    c.upright_place-across.ensures.across c.upright_place-across.ensures.down
    c.place_of.ensures.down c.place_of.ensures.up c.from.ensures in
    let fits : pixel_start lines c.args.x c.args.y + lines.pixel_bytes ≤ 18446744073709551615 =
    pixel-fits lines 18446744073709551615 c.args.x c.args.y c.requires.room c.requires.x c.requires.y in
    record { fits = omega (arith, is, fits) }
