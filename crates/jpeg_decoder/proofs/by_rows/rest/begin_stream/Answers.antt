use Rattle.std.proofs.Common.{rules, ◌≡◌, Bool, Ok, refl, subst}
use Rattle.jpeg_meaning.specs.Sound.{IsUnread}
use Rattle.jpeg_decoder.proofs.ByRows.FromScan.{comes-fits}
use Rattle.jpeg_decoder.proofs.ByRows.LaterStarts.{begins-scan}
use Rattle.jpeg_decoder.proofs.ByRows.Shown.{ReadsAhead}
use Rattle.jpeg_decoder.proofs.by_rows.rest.begin_stream.Goals as goal

pub begin_rows-requires-clause-all : goal.begin_rows-requires-clause-all
begin_rows-requires-clause-all g c =
    comes-fits c.args.settings c.read_header-2.new.state.said c.in_ok-header.header c.in-Some.colours.transform
    c.in-Some.colours.convert c.read_header-2.new.state.said.frame c.in-Some.ensures.some

pub returns-in_ok-begin_rows-in-Some-clause-begins :
    goal.returns-in_ok-begin_rows-in-Some-clause-begins
returns-in_ok-begin_rows-in-Some-clause-begins g c known =
    let one = c.in_ok-read_header.ensures.reads.1 known in
    let ahead = subst (λ (b : Bool). ReadsAhead c.read_header.new.state c.read_to_scan.new.state
    c.read_header.new.source (Ok b) c.read_to_scan.new.source) c.if-not-branch.false
    c.in_ok-read_to_scan.ensures.reads in
    let two = ahead.1 one.0 in
    let three = c.in_ok-header.ensures.header.1 two.0 in
    let kept = c.read_header-2.new.state in
    let unread : IsUnread kept = search rules in
    begins-scan c.args.settings c.args.source.now.bytes c.read_header.new.source.bytes c.read_to_scan.new.source.bytes
    c.read_header-2.new.source.bytes c.read_header.new.state c.read_to_scan.new.state kept c.in_ok-header.header
    c.read_header-2.new.budget.left c.in_ok-begin_rows-in-Some.field-0 one.1 two.1
    (c.in_ok-read_to_scan.ensures.stays c.in_ok-read_header.ensures.framed) c.read_header-2.ensures.stays
    c.in_ok-read_to_scan.ensures.sound c.in_ok-header.ensures.legal three.1
    (c.in_ok-header.ensures.left two.0)
    (λ k at mid head short. c.in_ok-begin_rows-in-Some.ensures.begun c.args.settings k at mid head short
    (c.in_ok-header.ensures.within, refl) unread c.in-Some.ensures.some)
    c.in_ok-begin_rows-in-Some.ensures.none
