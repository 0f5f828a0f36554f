use Rattle.std.proofs.Common.{rules, ◌≡◌, ℕ, ◌-◌, Some, length, drop, map, arith, Global, Vec}
use Rattle.std.proofs.lemmas.Grind.{common_steps}
use Rattle.zaxbriar_metadata.specs.Xmp.{part_at}
use Rattle.zaxbriar_metadata.proofs.Extensions.{joined-more}
use Rattle.zaxbriar_metadata.proofs.xmp.joined.Goals as goal

pub loop-preserved : goal.loop-preserved
loop-preserved c =
    let parts = map (λ (v : Vec ℕ Global). v.items) c.args.parts.now in
    let size : c.len.result ≡ length c.loop.whole.items = search rules in
    let found : Some c.in-Some.part.now ≡ part_at c.args.guid.now c.len.result parts = search rules in
    let bytes : c.in-Some-split_at_checked.bytes.now ≡ drop 40 c.in-Some.part.now = search rules in
    let step = joined-more (c.args.count - c.loop.counter) c.len.result c.loop.whole.items c.args.guid.now
    c.in-Some.part.now c.in-Some-split_at_checked.bytes.now parts (omega arith) size found bytes in
    grind (arith, common_steps)
