use Rattle.std.proofs.Common.{rules, ◌≡◌, ◌∙◌, ap, None, Some, sym}
use Rattle.std.proofs.lemmas.Result.{err_from_is_err_and}
use Rattle.jpeg_segments.specs.FrameView.{frame_in}
use Rattle.jpeg_meaning.specs.Found.{Found}
use Rattle.jpeg_meaning.specs.Work.{left_after}
use Rattle.jpeg_decoder.specs.Seen.{found_of}
use Rattle.jpeg_decoder.specs.declared.scan.work.Budget.{Budget}
use Rattle.jpeg_decoder.proofs.Scans.LimitedHeaders.{above-exceeded, header-above, header-lacks, header-within, lacks-exceeded, unframed-exceeded, work-read}
use Rattle.jpeg_decoder.proofs.scan.segment.read_header.Given.{Over}
use Rattle.jpeg_decoder.proofs.scan.segment.read_header.Goals as goal
use Rattle.jpeg_decoder.proofs.scan.segment.read_header.Goals.{After-read_scan_header}

-- the frame that was found
framed : (g : Over) (c : After-read_scan_header g)
    → c.args.state.now.said.frame ≡ Some (frame_in c.in_ok-frame.frame.now)
framed g c =
    let is : (found_of c.state.inside.said c.state.inside.decoded).said.frame ≡ Some (frame_in c.in_ok-frame.frame.now)
    = search rules in
    let stays : c.widen_tables.new.state ≡ c.args.state.now = search rules in
    ap (λ (f : Found). f.said.frame) (sym stays ∙ sym c.state.view_is) ∙ is

pub returns-in_err-header-clause-header : goal.returns-in_err-header-clause-header
returns-in_err-header-clause-header g c =
    let at = (goal.at.returns-in_err-header-clause-header g c).After-read_scan_header in
    let p = err_from_is_err_and c.from_residual-in_err-header.result c.from_residual-in_err-header.ensures.1 in
    rw (p.1, p.2) (header-lacks c.args.budget.now.left c.args.state.now (frame_in c.in_ok-frame.frame.now) c.args.source.now
    c.read_scan_header.new.source _ (framed g at) c.in_err-header.ensures.answers)

pub returns-in_err-charge-clause-header : goal.returns-in_err-charge-clause-header
returns-in_err-charge-clause-header g c =
    let at = (goal.at.returns-in_err-charge-clause-header g c).After-read_scan_header in
    let p = err_from_is_err_and c.from_residual-in_err-charge.result c.from_residual-in_err-charge.ensures.1 in
    rw (p.1, p.2) (header-above c.args.budget.now.left c.args.state.now (frame_in c.in_ok-frame.frame.now) c.in_ok-header.header
    c.args.source.now c.read_scan_header.new.source _ (framed g at) c.in_ok-header.ensures.answers
    c.in_err-charge.ensures.0 c.in_err-charge.ensures.1)

pub returns-clause-header : goal.returns-clause-header
returns-clause-header g c =
    let at = (goal.at.returns-clause-header g c).After-read_scan_header in
    header-within c.args.budget.now.left c.args.state.now (frame_in c.in_ok-frame.frame.now) c.in_ok-header.header
    c.args.source.now c.read_scan_header.new.source (framed g at) c.in_ok-header.ensures.answers
    c.in_ok-charge.ensures.0

pub returns-clause-left : goal.returns-clause-left
returns-clause-left g c k =
    let at = (goal.at.returns-clause-left g c).After-read_scan_header in
    ap (λ (b : Budget). b.left) c.in_ok-charge.ensures.1
    ∙ ap (left_after c.args.budget.now.left) (sym (work-read c.args.state.now (frame_in c.in_ok-frame.frame.now)
    c.args.source.now.bytes c.read_scan_header.new.source.bytes c.in_ok-header.header (framed g at)
    (c.in_ok-header.ensures.answers.1 k).1))

-- ---- whether the scan exceeds the limit

pub returns-in_err-header-clause-exceeded : goal.returns-in_err-header-clause-exceeded
returns-in_err-header-clause-exceeded g c =
    let at = (goal.at.returns-in_err-header-clause-exceeded g c).After-read_scan_header in
    let p = err_from_is_err_and c.from_residual-in_err-header.result c.from_residual-in_err-header.ensures.1 in
    rw (p.1, p.2) (lacks-exceeded c.args.budget.now.left c.args.state.now (frame_in c.in_ok-frame.frame.now)
    c.args.source.now c.read_scan_header.new.source _ _ (framed g at) c.requires.within c.in_err-header.ensures.answers)

pub returns-in_err-charge-clause-exceeded : goal.returns-in_err-charge-clause-exceeded
returns-in_err-charge-clause-exceeded g c =
    let at = (goal.at.returns-in_err-charge-clause-exceeded g c).After-read_scan_header in
    let p = err_from_is_err_and c.from_residual-in_err-charge.result c.from_residual-in_err-charge.ensures.1 in
    rw (p.1, p.2) (λ k l. above-exceeded c.args.budget.now.left c.args.state.now (frame_in c.in_ok-frame.frame.now)
    c.in_ok-header.header c.args.source.now c.read_scan_header.new.source _ _ (framed g at)
    c.in_ok-header.ensures.answers c.in_err-charge.ensures.0 (search rules) k)

pub returns-in_err-frame-clause-exceeded : goal.returns-in_err-frame-clause-exceeded
returns-in_err-frame-clause-exceeded g c =
    let p = err_from_is_err_and c.from_residual-in_err-frame.result c.from_residual-in_err-frame.ensures.1 in
    let none : (found_of c.state.inside.said c.state.inside.decoded).said.frame ≡ None = search rules in
    let stays : c.widen_tables.new.state ≡ c.args.state.now = search rules in
    rw (p.1, p.2) (λ k l. unframed-exceeded c.args.budget.now.left c.args.state.now c.args.source.now.bytes _ _
    (ap (λ (f : Found). f.said.frame) (sym stays ∙ sym c.state.view_is) ∙ none) c.requires.within)
