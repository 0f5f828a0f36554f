use Rattle.std.proofs.Common.{arith, ◌≡◌, false, refl, true}
use Rattle.std.proofs.lemmas.Grind.{common_steps}
use Rattle.zaxbriar_calls.proofs.Joining.{found-joined, no-kind-joined, no-memory-joined}
use Rattle.zaxbriar_calls.specs.Joined.{is_joined_kind}
use Rattle.zaxbriar_calls.proofs.calls.joined_metadata.Goals as goal

pub returns-then-not-is_joined_kind : goal.returns-then-not-is_joined_kind
returns-then-not-is_joined_kind c =
    let none : is_joined_kind c.args.kind ≡ false = grind (arith, common_steps) in
    no-kind-joined c.args.jpeg.now c.args.kind c.args.buffer.now 0 none refl

pub returns-in_default : goal.returns-in_default
returns-in_default c =
    let some : is_joined_kind c.args.kind ≡ true = grind (arith, common_steps) in
    no-memory-joined c.args.jpeg.now c.args.kind c.args.buffer.now c.read_joined.new.buffer c.read_joined.new.count some
    c.in_default.ensures.failed c.in_default.ensures.memory

pub returns : goal.returns
returns c =
    let some : is_joined_kind c.args.kind ≡ true = grind (arith, common_steps) in
    found-joined c.args.jpeg.now c.args.kind c.args.buffer.now c.read_joined.new.buffer c.read_joined.new.count c.in-Ok.code some
    c.in-Ok.ensures.copies
