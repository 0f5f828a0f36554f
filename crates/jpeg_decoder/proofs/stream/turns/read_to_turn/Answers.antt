use Rattle.std.proofs.Common.{rules, ◌≡◌, Option}
use Rattle.std.proofs.lemmas.Result.{err_from_is_err_and}
use Rattle.jpeg_bits.specs.declared.marker.Marker.TheVariants.{SOS}
use Rattle.jpeg_decoder.specs.ByRows.{to_turn_of}
use Rattle.jpeg_decoder.specs.Steps.{turn_of}
use Rattle.jpeg_decoder.specs.declared.stream.state.Step.{Step}
use Rattle.jpeg_decoder.proofs.Segments.TurnsToScan.{scan-next, segment-lacks, segment-next, unmarked-next}
use Rattle.jpeg_decoder.proofs.stream.turns.read_to_turn.Goals as goal

pub returns-in_err-marker-clause-reads : goal.returns-in_err-marker-clause-reads
returns-in_err-marker-clause-reads g c =
    let p = err_from_is_err_and c.from_residual.result c.from_residual.ensures.1 in
    rw (p.1, p.2) (unmarked-next {X = Option Step} (to_turn_of c.args.state.now) c.args.last.before c.args.state.now
    c.args.last.met c.args.source.now c.marker_or_next.new.source _ c.in_err-marker.ensures.answers)

pub returns-then-eq-clause-reads : goal.returns-then-eq-clause-reads
returns-then-eq-clause-reads g c =
    let is : c.in_ok-marker.marker ≡ SOS = search rules in
    scan-next c.args.last.before c.args.state.now c.args.last.met c.args.source.now c.marker_or_next.new.source
    c.in_ok-marker.marker is c.in_ok-marker.ensures.answers

pub returns-in_err-step-clause-reads : goal.returns-in_err-step-clause-reads
returns-in_err-step-clause-reads g c =
    let other : c.in_ok-marker.marker ≡ SOS → ⊥ = search rules in
    let p = err_from_is_err_and c.from_residual-in_err-step.result c.from_residual-in_err-step.ensures.1 in
    rw (p.1, p.2) (segment-lacks {X = Step} {Y = Option Step} (turn_of c.read_segment.new.state)
    (to_turn_of c.read_segment.new.state) c.args.last.before c.args.state.now c.args.last.met c.args.source.now
    c.marker_or_next.new.source c.read_segment.new.source c.in_ok-marker.marker _ other c.in_ok-marker.ensures.answers
    c.in_err-step.ensures.reads)

pub returns-clause-reads : goal.returns-clause-reads
returns-clause-reads g c =
    let other : c.in_ok-marker.marker ≡ SOS → ⊥ = search rules in
    segment-next c.args.last.before c.args.state.now c.args.last.met c.args.source.now c.marker_or_next.new.source
    c.read_segment.new.source c.in_ok-marker.marker (turn_of c.read_segment.new.state c.in_ok-step.step) other
    c.in_ok-marker.ensures.answers c.in_ok-step.ensures.reads
