use Rattle.std.proofs.Common.{arith, ◌≡◌, ◌<◌, ◌++◌, ◌∷◌, [], length, get_or, rules}
use Rattle.std.proofs.lemmas.Grind.{common_steps}
use Rattle.jpeg_decoder.proofs.Kept.TakenBlocks.{none-taken, taken-more, left-more}
use Rattle.jpeg_decoder.proofs.scan.decoded.take_blocks.Goals as goal

pub loop-coded-init : goal.loop-coded-init
loop-coded-init c = record {
  taken = search rules;
  left = none-taken c.args.codings.now c.args.kept.now.items;
  length = search rules;
}

pub loop-coded-preserved : goal.loop-coded-preserved
loop-coded-preserved c =
    let cs = c.args.codings.now in
    let i = c.loop-coded.coded-index in
    let coded = c.coded-item.result in
    let old = c.args.kept.now.items in
    let now = c.loop-coded.kept.items in
    let v = c.replace-blocks.result in
    let more : c.push.new.self.items ≡ c.loop-coded.taken.items ++ v ∷ [] = search rules in
    let at : v ≡ get_or now coded.index v = search rules in
    let within : coded.index < length now = search rules in
    let left = c.loop-coded.invariant.left in
    grind (arith, common_steps, taken-more, left-more)
