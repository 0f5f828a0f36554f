use Rattle.std.proofs.Common.{◌≡◌, rules}
use Rattle.jpeg_decoder.specs.declared.fed_rows.Given.TheVariants as gives
use Rattle.zaxbriar_calls.proofs.FedLines.{all-fed, none-read, reads-lines}
use Rattle.zaxbriar_calls.proofs.fed_rows.FedRowReader.reach_line.Goals as goal

pub returns-in_err-given-clause-reaches : goal.returns-in_err-given-clause-reaches
returns-in_err-given-clause-reaches c fed bytes t =
    let now = c.loop-self.invariant.keeps fed bytes t in
    let none = c.has_line.ensures.none c.loop-self-test.true fed bytes now in
    let h = c.in_err-given.ensures.gives fed bytes (all-fed fed bytes c.loop-self.self none now) in search rules

pub returns-then-ne-clause-reaches : goal.returns-then-ne-clause-reaches
returns-then-ne-clause-reaches c fed bytes t =
    let now = c.loop-self.invariant.keeps fed bytes t in
    let none = c.has_line.ensures.none c.loop-self-test.true fed bytes now in
    let other : c.in_ok-given.given ≡ gives.Lines → ⊥ = search rules in
    none-read fed bytes c.in_ok-given.given c.loop-self.self c.read.new.self c.lines.result.now other
    c.lines.ensures.lines c.lines.ensures.whole
    (c.in_ok-given.ensures.gives fed bytes (all-fed fed bytes c.loop-self.self none now))

pub loop-self-preserved : goal.loop-self-preserved
loop-self-preserved c =
    let is : c.in_ok-given.given ≡ gives.Lines = search rules in
    reads-lines c.args.self.now c.loop-self.self c.read.new.self c.in_ok-given.given c.loop-self.invariant is
    (c.has_line.ensures.none c.loop-self-test.true) c.in_ok-given.ensures.gives c.in_ok-given.ensures.ended
    c.in_ok-given.ensures.settings
