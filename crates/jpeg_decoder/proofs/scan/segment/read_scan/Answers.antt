use Rattle.std.proofs.Common.{ap, subst}
use Rattle.jpeg_bits.specs.Reading.{Answers}
use Rattle.jpeg_meaning.specs.Found.{Found}
use Rattle.jpeg_meaning.specs.States.{OnToldRefusal}
use Rattle.jpeg_decoder.specs.Reaching.{turn_after}
use Rattle.jpeg_decoder.specs.Steps.{turn_of}
use Rattle.jpeg_decoder.specs.Walks.{Leaves, OfWalk}
use Rattle.jpeg_decoder.specs.declared.stream.state.Step.{Step}
use Rattle.jpeg_decoder.proofs.Partial.EndedScans.{headed-answers, headed-leaves}
use Rattle.jpeg_decoder.proofs.Scans.LimitedHeaders.{within-exceeded}
use Rattle.jpeg_decoder.proofs.Scans.ScanReads.{refused-steps}
use Rattle.jpeg_decoder.proofs.Segments.WalkedScans.{after-walk, header-leaves, unread-header}
use Rattle.jpeg_decoder.proofs.scan.segment.read_scan.Goals as goal

-- ---- the header is refused

pub returns-in_err-header-clause-reads : goal.returns-in_err-header-clause-reads
returns-in_err-header-clause-reads g c =
    unread-header c.args.beyond _ c.args.walk.now.budget.left c.args.state.now _ _ _ _ c.from_residual.ensures.1
    c.in_err-header.ensures.header

pub returns-in_err-header-clause-leaves : goal.returns-in_err-header-clause-leaves
returns-in_err-header-clause-leaves g c =
    header-leaves c.args.beyond c.args.walk.now.budget.left c.args.state.now c.read_header.new.state
    c.args.walk.now.rows c.args.source.now c.read_header.new.source _ _ c.from_residual.ensures.1
    c.read_header.ensures.stays c.requires.going.1 c.in_err-header.ensures.header

pub returns-in_err-header-clause-sound : goal.returns-in_err-header-clause-sound
returns-in_err-header-clause-sound g c =
    after-walk c.args.beyond c.from_residual.result (rw c.read_header.ensures.stays c.requires.sound)

pub returns-in_err-header-clause-steps : goal.returns-in_err-header-clause-steps
returns-in_err-header-clause-steps g c =
    refused-steps _ _ _ c.from_residual.ensures.0
    (ap (λ (f : Found). f.said) c.read_header.ensures.stays)

-- ---- the scan after it

pub returns-clause-reads : goal.returns-clause-reads
returns-clause-reads g c =
    let new = c.read_after.new in
    let v = λ (s : Step). turn_of new.state s in
    headed-answers c.args.beyond v c.args.walk.now.budget.left c.args.state.now c.in_ok-header.header
    c.args.source.now c.read_header.new.source new.source c.read_after.result c.in_ok-header.ensures.header
    (subst (λ (f : Found). OfWalk c.args.beyond c.read_after.result (Answers v (λ bytes.
    (turn_after c.args.beyond f c.in_ok-header.header bytes).turn) c.read_header.new.source c.read_after.result new.source))
    c.read_header.ensures.stays c.read_after.ensures.reads)

pub returns-clause-leaves : goal.returns-clause-leaves
returns-clause-leaves g c =
    let new = c.read_after.new in
    headed-leaves c.args.beyond c.args.walk.now.budget.left c.args.state.now new.state new.rows
    c.in_ok-header.header c.args.source.now c.read_header.new.source new.source c.read_after.result
    c.in_ok-header.ensures.header
    (subst (λ (f : Found). OnToldRefusal c.read_header.new.source new.source c.read_after.result
    (let w = turn_after c.args.beyond f c.in_ok-header.header c.read_header.new.source.bytes in
    Leaves c.args.beyond new.state new.rows w.found w.rows)) c.read_header.ensures.stays c.read_after.ensures.leaves)

pub returns-clause-exceeded : goal.returns-clause-exceeded
returns-clause-exceeded g c =
    within-exceeded c.args.walk.now.budget.left c.args.state.now c.in_ok-header.header c.args.source.now
    c.read_header.new.source c.read_after.new.source c.read_after.result _ c.in_ok-header.ensures.within
    c.in_ok-header.ensures.header
