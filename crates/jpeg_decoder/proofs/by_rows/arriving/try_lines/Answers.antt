use Rattle.std.proofs.Common.{rules, ◌≡◌, ◌∙◌, ◌<◌, ◌+◌, ◌++◌, [], ap, List, Ok, Some, ℕ, subst, sym, true, Bool}
use Rattle.std.proofs.lemmas.List.Elements.{recursion_from_All}
use Rattle.jpeg_bits.specs.Stream.{Stream}
use Rattle.jpeg_segments.specs.FrameView.{frame_in}
use Rattle.jpeg_meaning.specs.Found.{Found}
use Rattle.jpeg_meaning.specs.ScanSegments.{Coding, components_of}
use Rattle.jpeg_meaning.specs.declared.settings.Settings.{Settings}
use Rattle.jpeg_decoder.specs.FedRows.{TakesNone, in_memory}
use Rattle.jpeg_decoder.specs.Givers.{GivesRow, IsReady}
use Rattle.jpeg_decoder.specs.RowScans.{InScan}
use Rattle.jpeg_decoder.specs.Scanning.{arrays_in, counted, sizes_of}
use Rattle.jpeg_decoder.specs.Seen.{found_of}
use Rattle.jpeg_decoder.specs.Steps.{IsScanBy}
use Rattle.jpeg_decoder.specs.Strips.{zeros_of}
use Rattle.jpeg_decoder.specs.Walk.{walk_of_row}
use Rattle.jpeg_decoder.specs.declared.scan.blocks.Interval.{Interval}
use Rattle.jpeg_decoder.proofs.ByRows.FromScan.{at-frame}
use Rattle.jpeg_decoder.proofs.ByRows.LaterRows.{none-taken, row-goes-on}
use Rattle.jpeg_decoder.proofs.ByRows.ScanRows.{IsAtRow, apart-in-row, at-row, row-taken, spots-of-row}
use Rattle.jpeg_decoder.proofs.by_rows.arriving.try_lines.Goals.{In_ok-scan}
use Rattle.jpeg_decoder.proofs.by_rows.arriving.try_lines.Goals as goal

-- what was found, and the frame
framed : (c : In_ok-scan) → c.args.state.now.said.frame ≡ Some (frame_in c.in-Some.frame)
framed c =
    let now : (found_of c.state.inside.said c.state.inside.decoded).said.frame ≡ Some (frame_in c.in-Some.frame) =
    search rules in
    ap (λ (f : Found). f.said.frame) (sym c.state.view_is) ∙ now

by : (c : In_ok-scan)
    → IsScanBy c.args.state.now.said (frame_in c.in-Some.frame) c.args.rows.now.header c.in_ok-scan.scan
by c = subst (λ (f : Found). IsScanBy f.said (frame_in c.in-Some.frame) c.args.rows.now.header c.in_ok-scan.scan)
    c.state.view_is c.in_ok-scan.ensures.scan

-- the scan as it is looked up
at : (c : In_ok-scan) (settings : Settings) (k : Bool) (src : Stream) (bytes given : List ℕ)
    → (h : InScan settings k c.args.state.now src c.args.rows.now (in_memory bytes) given)
    → IsAtRow c.args.state.now c.args.rows.now (in_memory bytes) given (frame_in c.in-Some.frame) c.in_ok-scan.scan h.mid
at c settings k src bytes given h =
    at-row settings k c.args.state.now src c.args.rows.now (in_memory bytes) given h (frame_in c.in-Some.frame)
    c.in_ok-scan.scan (framed c) (by c)

here : (c : In_ok-scan)
    → IsAtRow c.args.state.now c.args.rows.now (in_memory c.args.bytes.now) c.requires.scan.bytes
    (frame_in c.in-Some.frame) c.in_ok-scan.scan c.requires.scan.is.mid
here c =
    let is = c.requires.scan in at c is.settings is.k is.at c.args.bytes.now is.bytes is.is

more-rows : (c : In_ok-scan) → c.args.rows.now.giver.rows < (frame_in c.in-Some.frame).mcus_high
more-rows c = at-frame _ c.args.state.now.said.frame (frame_in c.in-Some.frame) (framed c) c.requires.more

pub has_read_row-requires-clause-spots : goal.has_read_row-requires-clause-spots
has_read_row-requires-clause-spots c =
    let s = (goal.at.has_read_row-requires-clause-spots c).In_ok-scan in
    spots-of-row _ _ _ _ _ _ _ (here s) (more-rows s)

pub has_read_row-requires-clause-apart : goal.has_read_row-requires-clause-apart
has_read_row-requires-clause-apart c =
    let s = (goal.at.has_read_row-requires-clause-apart c).In_ok-scan in
    apart-in-row _ _ _ _ _ _ _ (here s) (more-rows s)

pub returns-then-not-branch-clause-none : goal.returns-then-not-branch-clause-none
returns-then-not-branch-clause-none c =
    let old = c.args.rows.now in
    let blocks = c.has_read_row.new.rows in
    λ _. subst (λ (i : Interval). TakesNone c.args.state.now old
    (record old { interval = i; giver = record old.giver { blocks = blocks } })) (sym c.copied-before.ensures)
    (none-taken c.args.state.now old blocks c.has_read_row.ensures.sizes)

pub returns-in_default-2-clause-none : goal.returns-in_default-2-clause-none
returns-in_default-2-clause-none c =
    let old = c.args.rows.now in
    let blocks = c.has_read_row.new.rows in
    λ _. subst (λ (i : Interval). TakesNone c.args.state.now old
    (record old { interval = i; giver = record old.giver { blocks = blocks } })) (sym c.copied-before.ensures)
    (none-taken c.args.state.now old blocks c.has_read_row.ensures.sizes)

pub take_row-requires-clause-frame : goal.take_row-requires-clause-frame
take_row-requires-clause-frame c = (here (goal.at.take_row-requires-clause-frame c).In_ok-scan).decoded

pub take_row-requires-clause-components : goal.take_row-requires-clause-components
take_row-requires-clause-components c =
    subst (λ (cs : List Coding). components_of cs ≡ (frame_in c.in-Some.frame).components)
    (sym c.components.ensures.codings) (here (goal.at.take_row-requires-clause-components c).In_ok-scan).components

pub take_row-requires-clause-convert : goal.take_row-requires-clause-convert
take_row-requires-clause-convert c = (here (goal.at.take_row-requires-clause-convert c).In_ok-scan).fits

pub take_row-requires-clause-full : goal.take_row-requires-clause-full
take_row-requires-clause-full c =
    c.in_ok-has_read_row.ensures.full (ap (λ (b : Bool). Ok b) c.if-not-branch.false)

pub returns-clause-goes : goal.returns-clause-goes
returns-clause-goes c settings k src more given h =
    let s = (goal.at.returns-clause-goes c).In_ok-scan in
    let frame = frame_in c.in-Some.frame in
    let scan = c.in_ok-scan.scan in
    let old = c.args.rows.now in
    let new = c.has_read_row.new in
    let left = c.in-Some-2.left.items in
    let codings = c.components.ensures.codings in
    let row = at s settings k src (c.args.bytes.now ++ more) given h in
    let settled = c.in_ok-left.ensures in
    let read = row-goes-on more scan old.order.interval (walk_of_row old.order old.giver.rows)
    (zeros_of (sizes_of old.giver.blocks.items)) (counted old.interval [])
    (counted new.interval (arrays_in new.rows.items)) old.interval.decoder new.interval.decoder c.args.bytes.now left
    c.in_ok-source.source new.source (here s).zeros (c.is_open.ensures c.if-not-is_open.false)
    (search rules) c.in_ok-source.ensures.ok (search rules)
    (c.in_ok-has_read_row.ensures.blocks (ap (λ (b : Bool). Ok b) c.if-not-branch.false)) in
    row-taken settings k c.args.state.now src old (in_memory (c.args.bytes.now ++ more)) (in_memory (left ++ more)) given
    h frame scan row (framed s) (more-rows s) new.interval new.rows c.has_read_row.ensures.sizes read
    (λ alone. recursion_from_All (λ x. x.component.scale ≡ 1) scan.codings
    (c.components.ensures.scan.dc_alone alone).1)
    c.has_read_row.ensures.beyond c.take_row.new.self (Ok tt)
    (subst (λ (cs : List Coding). IsReady frame cs old.giver.convert (old.giver.rows + 1) c.take_row.new.self) codings
    c.in_ok-take_row.ensures.ready)
    (subst (λ (cs : List Coding). GivesRow frame cs (record old.giver { blocks = new.rows }) c.take_row.new.self)
    codings c.in_ok-take_row.ensures.given) tt
