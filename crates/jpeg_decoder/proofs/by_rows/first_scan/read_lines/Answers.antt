use Rattle.std.proofs.Common.{rules, ◌≡◌, ◌∙◌, ◌<◌, ◌+◌, [], ap, arith, List, Some, subst, sym}
use Rattle.std.specs.Prelude.{OnOk}
use Rattle.std.proofs.lemmas.List.Elements.{recursion_from_All}
use Rattle.std.proofs.lemmas.Result.{err_from_is_err_and}
use Rattle.jpeg_segments.specs.FrameView.{frame_in}
use Rattle.jpeg_meaning.specs.Found.{Found}
use Rattle.jpeg_bits.specs.Reading.{Names}
use Rattle.jpeg_meaning.specs.ScanSegments.{Coding, codings_of, components_of}
use Rattle.jpeg_decoder.specs.Givers.{GivesRow, IsReady}
use Rattle.jpeg_decoder.specs.Scanning.{counted}
use Rattle.jpeg_decoder.specs.Seen.{found_of}
use Rattle.jpeg_decoder.specs.Steps.{IsScanBy}
use Rattle.jpeg_decoder.proofs.ByRows.FromScan.{at-frame}
use Rattle.jpeg_decoder.proofs.ByRows.ScanRows.{IsAtRow, apart-in-row, at-row, row-taken}
use Rattle.jpeg_decoder.proofs.ByRows.ScanRows.{lost-says, row-says, spots-of-row}
use Rattle.jpeg_decoder.proofs.by_rows.first_scan.read_lines.Given.{Over}
use Rattle.jpeg_decoder.proofs.by_rows.first_scan.read_lines.Goals.{In_ok-scan}
use Rattle.jpeg_decoder.proofs.by_rows.first_scan.read_lines.Goals as goal

-- what was found, and the frame
framed : (g : Over) (c : In_ok-scan g) → c.args.state.now.said.frame ≡ Some (frame_in c.in-Some.frame)
framed g c =
    let now : (found_of c.state.inside.said c.state.inside.decoded).said.frame ≡ Some (frame_in c.in-Some.frame) =
    search rules in
    ap (λ (f : Found). f.said.frame) (sym c.state.view_is) ∙ now

by : (g : Over) (c : In_ok-scan g)
    → IsScanBy c.args.state.now.said (frame_in c.in-Some.frame) c.args.rows.now.header c.in_ok-scan.scan
by g c = subst (λ (f : Found). IsScanBy f.said (frame_in c.in-Some.frame) c.args.rows.now.header c.in_ok-scan.scan)
    c.state.view_is c.in_ok-scan.ensures.scan

-- the scan as it is looked up
here : (g : Over) (c : In_ok-scan g)
    → IsAtRow c.args.state.now c.args.rows.now c.args.source.now c.requires.scan.bytes (frame_in c.in-Some.frame)
    c.in_ok-scan.scan c.requires.scan.is.mid
here g c =
    let is = c.requires.scan in
    at-row is.settings is.k c.args.state.now is.at c.args.rows.now c.args.source.now is.bytes is.is
    (frame_in c.in-Some.frame) c.in_ok-scan.scan (framed g c) (by g c)

more : (g : Over) (c : In_ok-scan g) → c.args.rows.now.giver.rows < (frame_in c.in-Some.frame).mcus_high
more g c = at-frame _ c.args.state.now.said.frame (frame_in c.in-Some.frame) (framed g c) c.requires.more

pub returns-in_err-scan-clause-goes : goal.returns-in_err-scan-clause-goes
returns-in_err-scan-clause-goes g c settings k at bytes h =
    let frame = frame_in c.in-Some.frame in
    let now : (found_of c.state.inside.said c.state.inside.decoded).said.frame ≡ Some frame = search rules in
    let there : c.args.state.now.said.frame ≡ Some frame =
    ap (λ (f : Found). f.said.frame) (sym c.state.view_is) ∙ now in
    let lt = at-frame _ c.args.state.now.said.frame frame there c.requires.more in
    let e = c.in_err-scan.field-0.0 in
    let p = err_from_is_err_and c.from_residual.result c.from_residual.ensures.1 in
    rw (p.1, p.2) (lost-says settings k c.args.state.now at c.args.rows.now c.args.source.now bytes h frame e there
    (omega arith) (subst (λ (f : Found). Names e (codings_of f.said frame c.args.rows.now.header))
    c.state.view_is c.in_err-scan.ensures.refused.1))

pub read_row-requires-clause-spots : goal.read_row-requires-clause-spots
read_row-requires-clause-spots g c =
    let at = (goal.at.read_row-requires-clause-spots g c).In_ok-scan in
    spots-of-row _ _ _ _ _ _ _ (here g at) (more g at)

pub read_row-requires-clause-apart : goal.read_row-requires-clause-apart
read_row-requires-clause-apart g c =
    let at = (goal.at.read_row-requires-clause-apart g c).In_ok-scan in
    apart-in-row _ _ _ _ _ _ _ (here g at) (more g at)

pub returns-in_err-read_row-clause-goes : goal.returns-in_err-read_row-clause-goes
returns-in_err-read_row-clause-goes g c settings k src bytes h =
    let at = (goal.at.returns-in_err-read_row-clause-goes g c).In_ok-scan in
    let e = c.in_err-read_row.field-0.0 in
    let p = err_from_is_err_and c.from_residual-in_err-read_row.result
    c.from_residual-in_err-read_row.ensures.1 in
    rw (p.1, p.2) (row-says settings k c.args.state.now src c.args.rows.now
    c.args.source.now c.read_row.new.source bytes h (frame_in c.in-Some.frame) c.in_ok-scan.scan
    (at-row settings k c.args.state.now src c.args.rows.now c.args.source.now bytes h
    (frame_in c.in-Some.frame) c.in_ok-scan.scan (framed g at) (by g at)) (more g at) e
    c.read_row.new.interval.decoder (λ (u : Unit {0}). counted c.args.rows.now.interval [])
    c.in_err-read_row.ensures.blocks)

pub take_row-requires-clause-components : goal.take_row-requires-clause-components
take_row-requires-clause-components g c =
    let at = (goal.at.take_row-requires-clause-components g c).In_ok-scan in
    subst (λ (cs : List Coding). components_of cs ≡ (frame_in c.in-Some.frame).components)
    (sym c.components.ensures.codings) (here g at).components

pub take_row-requires-clause-convert : goal.take_row-requires-clause-convert
take_row-requires-clause-convert g c = (here g (goal.at.take_row-requires-clause-convert g c).In_ok-scan).fits

pub returns-clause-goes : goal.returns-clause-goes
returns-clause-goes g c settings k src bytes h =
    let at = (goal.at.returns-clause-goes g c).In_ok-scan in
    let frame = frame_in c.in-Some.frame in
    let s = c.in_ok-scan.scan in
    let old = c.args.rows.now in
    let new = c.read_row.new in
    let blocks = record old.giver { blocks = new.rows } in
    let codings = c.components.ensures.codings in
    let row = at-row settings k c.args.state.now src old c.args.source.now bytes h frame s (framed g at)
    (by g at) in
    row-taken settings k c.args.state.now src old c.args.source.now new.source bytes h frame s row
    (framed g at) (more g at) new.interval new.rows c.in_ok-read_row.ensures.sizes
    c.in_ok-read_row.ensures.blocks
    (λ alone. recursion_from_All (λ x. x.component.scale ≡ 1) s.codings
    (c.components.ensures.scan.dc_alone alone).1)
    c.in_ok-read_row.ensures.beyond c.take_row.new.self c.take_row.result
    (subst (λ (cs : List Coding). OnOk c.take_row.result (IsReady frame cs old.giver.convert (old.giver.rows + 1)
    c.take_row.new.self)) codings c.take_row.ensures.ready)
    (subst (λ (cs : List Coding). OnOk c.take_row.result (GivesRow frame cs blocks c.take_row.new.self)) codings
    c.take_row.ensures.given) c.take_row.ensures.err
