use Rattle.std.proofs.Common.{rules, ◌≡◌}
use Rattle.std.proofs.lemmas.Result.{err_from_is_err_and}
use Rattle.jpeg_bits.specs.declared.marker.Marker.TheVariants.{SOS}
use Rattle.jpeg_meaning.specs.Brought.{Brought, unbrought}
use Rattle.jpeg_meaning.specs.Stream.{scan_within, segment_at}
use Rattle.jpeg_decoder.specs.Steps.{turn_of}
use Rattle.jpeg_decoder.specs.Walks.{Leaves}
use Rattle.jpeg_decoder.proofs.Segments.MarkedTurns.{exceeded-other, exceeded-scan, exceeded-unmarked}
use Rattle.jpeg_decoder.proofs.Segments.MarkedTurns.{left-other, left-scan, marked-holds, marked-reads, turn-scan}
use Rattle.jpeg_decoder.proofs.Segments.MarkedTurns.{turn-segment, unmarked-holds, unmarked-reads}
use Rattle.jpeg_decoder.proofs.Segments.WalkedScans.{after-walk, is-left, of-walk, segment-leaves, segment-sound}
use Rattle.jpeg_decoder.proofs.stream.turns.read_turn.Goals as goal

-- ---- no marker

pub returns-in_err-marker-clause-reads : goal.returns-in_err-marker-clause-reads
returns-in_err-marker-clause-reads g c =
    let p = err_from_is_err_and c.from_residual.result c.from_residual.ensures.1 in
    let w = c.args.walk.now in
    rw (p.1, p.2) (of-walk c.args.beyond _ (unmarked-reads (turn_of c.args.state.now) w.budget.left c.args.beyond c.args.last.before
    c.args.state.now c.args.last.met c.args.source.now c.marker_or_next.new.source _ c.in_err-marker.ensures.answers))

pub returns-in_err-marker-clause-leaves : goal.returns-in_err-marker-clause-leaves
returns-in_err-marker-clause-leaves g c =
    let p = err_from_is_err_and c.from_residual.result c.from_residual.ensures.1 in
    let w = c.args.walk.now in
    rw (p.1, p.2) (unmarked-holds (λ (b : Brought). Leaves c.args.beyond c.args.state.now w.rows b.found b.rows) w.budget.left
    c.args.beyond c.args.last.before c.args.state.now c.args.last.met c.args.source.now c.marker_or_next.new.source _
    (λ f. (is-left c.args.beyond c.args.state.now, c.requires.going.1)) c.in_err-marker.ensures.answers)

pub returns-in_err-marker-clause-sound : goal.returns-in_err-marker-clause-sound
returns-in_err-marker-clause-sound g c = after-walk c.args.beyond c.from_residual.result c.requires.sound

-- ---- a scan

pub returns-then-eq-clause-reads : goal.returns-then-eq-clause-reads
returns-then-eq-clause-reads g c =
    let is : c.in_ok-marker.marker ≡ SOS = search rules in
    let w = c.args.walk.now in
    marked-reads (turn_of c.read_scan.new.state) w.budget.left c.args.beyond c.args.last.before c.args.state.now
    c.args.last.met c.args.source.now c.marker_or_next.new.source c.read_scan.new.source c.in_ok-marker.marker
    (scan_within w.budget.left c.args.beyond c.args.state.now) c.read_scan.result
    (turn-scan w.budget.left c.args.beyond c.args.last.before c.args.state.now c.args.last.met c.args.source.now
    c.in_ok-marker.marker is) c.in_ok-marker.ensures.answers c.read_scan.ensures.reads

pub returns-then-eq-clause-leaves : goal.returns-then-eq-clause-leaves
returns-then-eq-clause-leaves g c =
    let is : c.in_ok-marker.marker ≡ SOS = search rules in
    let w = c.args.walk.now in
    marked-holds (λ (b : Brought). Leaves c.args.beyond c.read_scan.new.state c.read_scan.new.walk.rows b.found b.rows)
    w.budget.left c.args.beyond c.args.last.before c.args.state.now c.args.last.met c.args.source.now
    c.marker_or_next.new.source c.read_scan.new.source c.in_ok-marker.marker
    (scan_within w.budget.left c.args.beyond c.args.state.now) c.read_scan.result
    (turn-scan w.budget.left c.args.beyond c.args.last.before c.args.state.now c.args.last.met c.args.source.now
    c.in_ok-marker.marker is) c.in_ok-marker.ensures.answers c.read_scan.ensures.leaves

-- ---- another segment

pub returns-clause-reads : goal.returns-clause-reads
returns-clause-reads g c =
    let other : c.in_ok-marker.marker ≡ SOS → ⊥ = search rules in
    let w = c.args.walk.now in
    let found = c.args.state.now in
    marked-reads (turn_of c.read_segment.new.state) w.budget.left c.args.beyond c.args.last.before found c.args.last.met
    c.args.source.now c.marker_or_next.new.source c.read_segment.new.source c.in_ok-marker.marker
    (λ bytes. unbrought found (segment_at c.in_ok-marker.marker c.args.last.before found bytes)) c.read_segment.result
    (turn-segment w.budget.left c.args.beyond c.args.last.before found c.args.last.met c.args.source.now
    c.in_ok-marker.marker other)
    c.in_ok-marker.ensures.answers (of-walk c.args.beyond c.read_segment.result c.read_segment.ensures.reads)

pub returns-clause-leaves : goal.returns-clause-leaves
returns-clause-leaves g c =
    let other : c.in_ok-marker.marker ≡ SOS → ⊥ = search rules in
    let w = c.args.walk.now in
    let found = c.args.state.now in
    marked-holds (λ (b : Brought). Leaves c.args.beyond c.read_segment.new.state w.rows b.found b.rows)
    w.budget.left c.args.beyond c.args.last.before found c.args.last.met c.args.source.now
    c.marker_or_next.new.source c.read_segment.new.source c.in_ok-marker.marker
    (λ bytes. unbrought found (segment_at c.in_ok-marker.marker c.args.last.before found bytes)) c.read_segment.result
    (turn-segment w.budget.left c.args.beyond c.args.last.before found c.args.last.met c.args.source.now
    c.in_ok-marker.marker other) c.in_ok-marker.ensures.answers
    (segment-leaves c.args.beyond c.marker_or_next.new.source c.read_segment.new.source c.read_segment.result found
    c.read_segment.new.state w.rows c.requires.going.1 c.read_segment.ensures.steps.kept c.read_segment.ensures.kept)

pub returns-clause-sound : goal.returns-clause-sound
returns-clause-sound g c =
    segment-sound c.args.beyond c.read_segment.result c.args.state.now c.read_segment.new.state c.requires.sound
    (c.read_segment.ensures.steps.sound c.requires.sound) c.read_segment.ensures.kept

-- ---- what is left of the limit

pub returns-then-eq-clause-left : goal.returns-then-eq-clause-left
returns-then-eq-clause-left g c =
    left-scan c.read_scan.result c.args.walk.now.budget.left c.read_scan.new.walk.budget.left c.args.state.now
    c.args.last.met c.args.source.now
    c.marker_or_next.new.source c.in_ok-marker.marker (search rules) c.in_ok-marker.ensures.answers c.read_scan.ensures.left

pub returns-clause-left : goal.returns-clause-left
returns-clause-left g c =
    left-other c.read_segment.result c.args.walk.now.budget.left c.args.state.now c.args.last.met c.args.source.now
    c.marker_or_next.new.source c.in_ok-marker.marker (search rules) c.in_ok-marker.ensures.answers

-- ---- whether the turn exceeds the limit

pub returns-in_err-marker-clause-exceeded : goal.returns-in_err-marker-clause-exceeded
returns-in_err-marker-clause-exceeded g c =
    let p = err_from_is_err_and c.from_residual.result c.from_residual.ensures.1 in
    rw (p.1, p.2) (exceeded-unmarked c.args.walk.now.budget.left c.args.state.now c.args.last.met c.args.source.now
    c.marker_or_next.new.source _ _ c.requires.going.0 c.in_err-marker.ensures.answers)

pub returns-then-eq-clause-exceeded : goal.returns-then-eq-clause-exceeded
returns-then-eq-clause-exceeded g c =
    exceeded-scan c.read_scan.result c.args.walk.now.budget.left _ c.args.state.now c.args.last.met c.args.source.now
    c.marker_or_next.new.source c.read_scan.new.source c.in_ok-marker.marker (search rules) c.in_ok-marker.ensures.answers
    c.read_scan.ensures.exceeded

pub returns-clause-exceeded : goal.returns-clause-exceeded
returns-clause-exceeded g c =
    exceeded-other c.read_segment.result c.args.walk.now.budget.left _ c.args.state.now c.args.last.met c.args.source.now
    c.marker_or_next.new.source c.read_segment.new.source c.in_ok-marker.marker (search rules) c.requires.going.0
    c.in_ok-marker.ensures.answers
