use Rattle.std.proofs.Common.{refl}
use Rattle.zaxbriar_calls.proofs.Copied.{found-copied, no-kind-copied, no-memory-copied}
use Rattle.zaxbriar_calls.proofs.calls.metadata.Goals as goal

pub returns-then-is_no_kind : goal.returns-then-is_no_kind
returns-then-is_no_kind c =
    no-kind-copied c.args.jpeg.now c.args.kind c.args.max_passes c.args.buffer.now 0 (c.is_no_kind.ensures.none c.if-is_no_kind.true)
    refl

pub returns-in_default : goal.returns-in_default
returns-in_default c =
    no-memory-copied c.args.jpeg.now c.args.kind c.args.max_passes c.args.buffer.now c.read_metadata.new.buffer c.read_metadata.new.count
    (c.is_no_kind.ensures.some c.if-is_no_kind.false) c.in_default.ensures.failed
    c.in_default.ensures.memory

pub returns : goal.returns
returns c =
    let done = c.in-Ok.ensures in
    found-copied c.args.jpeg.now c.args.kind c.args.max_passes c.args.buffer.now c.read_metadata.new.buffer c.read_metadata.new.count
    c.in-Ok.code (c.is_no_kind.ensures.some c.if-is_no_kind.false) done.copied done.none done.room done.named done.known
    done.most done.unsaid done.uncounted done.kept
