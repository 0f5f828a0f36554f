use Rattle.std.proofs.Common.{◌≡◌, ◌≤◌, length, arith, ◌+◌}
use Rattle.jpeg_lossless.proofs.ByteLines.{plane_long, room_one}
use Rattle.jpeg_lossless.proofs.pixels.write_pixels.Goals as goal

pub write_bytes-requires-clause-long : goal.write_bytes-requires-clause-long
write_bytes-requires-clause-long c =
    let room : length c.args.line.now ≡ c.args.width = room_one c.args.width (length c.args.planes.now)
    c.args.precision (length c.args.line.now) c.if-precision-le8.true c.if-planes-eq1.true c.requires.room in
    let long : c.args.from + c.args.width ≤ length c.deref.result.now = plane_long (c.args.from + c.args.width) 0
    c.args.planes.now c.index-planes-0.result c.deref.result.now c.requires.long (omega (arith, c.if-planes-eq1.true))
    c.index-planes-0.is c.deref.ensures.value in
    omega (arith, room, long)

pub write_bytes_of_three-requires-clause-first : goal.write_bytes_of_three-requires-clause-first
write_bytes_of_three-requires-clause-first c =
    plane_long (c.args.from + c.args.width) 0 c.args.planes.now c.index-planes-0-then-planes-eq3.result
    c.deref-then-planes-eq3.result.now c.requires.long (omega (arith, c.if-planes-eq3.true))
    c.index-planes-0-then-planes-eq3.is c.deref-then-planes-eq3.ensures.value

pub write_bytes_of_three-requires-clause-second : goal.write_bytes_of_three-requires-clause-second
write_bytes_of_three-requires-clause-second c =
    plane_long (c.args.from + c.args.width) 1 c.args.planes.now c.index-planes-1.result
    c.deref-then-planes-eq3-2.result.now c.requires.long (omega (arith, c.if-planes-eq3.true))
    c.index-planes-1.is c.deref-then-planes-eq3-2.ensures.value

pub write_bytes_of_three-requires-clause-third : goal.write_bytes_of_three-requires-clause-third
write_bytes_of_three-requires-clause-third c =
    plane_long (c.args.from + c.args.width) 2 c.args.planes.now c.index-planes-2.result
    c.deref-then-planes-eq3-3.result.now c.requires.long (omega (arith, c.if-planes-eq3.true))
    c.index-planes-2.is c.deref-then-planes-eq3-3.ensures.value
