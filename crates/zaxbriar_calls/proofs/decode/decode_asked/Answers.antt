use Rattle.std.proofs.Common.{ℕ, length, subst, sym}
use Rattle.zaxbriar_calls.proofs.Cropped.{no-part-rows}
use Rattle.zaxbriar_calls.proofs.OwnPlanes.{lines-room}
use Rattle.zaxbriar_calls.specs.Given.{HasRows}
use Rattle.zaxbriar_calls.proofs.decode.decode_asked.Goals as goal

pub decode_lines-requires-clause-room : goal.decode_lines-requires-clause-room
decode_lines-requires-clause-room c =
    lines-room c.args.extent c.args.header c.args.lines (length c.args.pixels.now) c.in_default.not-Planes c.requires.room

pub returns-in-Planes-clause-reaches : goal.returns-in-Planes-clause-reaches
returns-in-Planes-clause-reaches c known =
    rw c.in-Planes.is (c.decode_planes.ensures.reaches known c.args.lines)

pub returns-in-Planes-clause-rows : goal.returns-in-Planes-clause-rows
returns-in-Planes-clause-rows c known =
    rw c.in-Planes.is (subst (λ (n : ℕ). HasRows n c.decode_planes.result) (sym (no-part-rows c.args.lines.part))
    c.decode_planes.ensures.rows)

pub returns-in-Planes-clause-named : goal.returns-in-Planes-clause-named
returns-in-Planes-clause-named c known = rw c.in-Planes.is (c.decode_planes.ensures.named known)

pub returns-in-Planes-clause-exceeded : goal.returns-in-Planes-clause-exceeded
returns-in-Planes-clause-exceeded c known = rw c.in-Planes.is (c.decode_planes.ensures.exceeded known)
