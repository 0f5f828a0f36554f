use Rattle.jpeg_decoder.specs.Steps.{turn_of}
use Rattle.jpeg_decoder.proofs.Segments.SkippedApplications.{skipped-answers}
use Rattle.jpeg_decoder.proofs.stream.state.State.read_application.Goals as goal

pub returns-then-number-ne14-clause-reads : goal.returns-then-number-ne14-clause-reads
returns-then-number-ne14-clause-reads g c =
    skipped-answers (turn_of c.args.self.now) c.args.number c.args.self.now c.args.source.now
    c.skip_segment.new.source c.skip_segment.result c.if-number-gt2.true c.if-number-ne13.true
    c.if-number-ne14.true c.skip_segment.ensures.reads
