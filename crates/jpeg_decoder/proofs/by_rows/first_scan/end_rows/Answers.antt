use Rattle.std.proofs.Common.{rules, ◌≡◌, ◌∙◌, ap, Bool, length, List, Option, refl, Some, subst, sym, ℕ}
use Rattle.jpeg_segments.specs.FrameView.{frame_in}
use Rattle.jpeg_meaning.specs.Found.{Found}
use Rattle.jpeg_meaning.specs.Scans.{Arrays}
use Rattle.jpeg_meaning.specs.ScanSegments.{once_scanned, with_arrays}
use Rattle.jpeg_meaning.specs.Sound.{IsSound}
use Rattle.jpeg_meaning.specs.declared.settings.Settings.{Settings}
use Rattle.jpeg_bits.specs.Stream.{Stream}
use Rattle.jpeg_decoder.specs.ByRows.{without_planes}
use Rattle.jpeg_decoder.specs.PlanesView.{planes_in}
use Rattle.jpeg_decoder.specs.Reaching.{IsEndOf}
use Rattle.jpeg_decoder.specs.Givers.{GivesScan}
use Rattle.jpeg_decoder.specs.RowScans.{InScan}
use Rattle.jpeg_decoder.specs.Scanning.{arrays_in}
use Rattle.jpeg_decoder.specs.Seen.{found_of}
use Rattle.jpeg_decoder.specs.Steps.{IsScanBy, IsStep, turn_of, with_decoded}
use Rattle.jpeg_decoder.specs.declared.stream.state.Step.{Step}
use Rattle.std.specs.declared.alloc.Global.{Global}
use Rattle.std.specs.declared.vec.Vec.{Vec}
use Rattle.jpeg_decoder.proofs.ByRows.FromScan.{at-frame}
use Rattle.jpeg_decoder.proofs.ByRows.GivenScans.{all-marked, on-ok, scanned, sound-after, whole}
use Rattle.jpeg_decoder.proofs.ByRows.ScanRows.{IsAtRow, at-row, ok-framed, scan-ended, scan-given}
use Rattle.jpeg_decoder.proofs.Kept.BlockArrays.{Held}
use Rattle.jpeg_decoder.proofs.Partial.ReachedScans.{ended-steps}
use Rattle.jpeg_decoder.proofs.by_rows.first_scan.end_rows.Given.{Over}
use Rattle.jpeg_decoder.proofs.by_rows.first_scan.end_rows.Goals.{After-end_scan, In_ok-scan}
use Rattle.jpeg_decoder.proofs.by_rows.first_scan.end_rows.Goals as goal

-- what was found, and the frame
framed : (g : Over) (c : After-end_scan g) → c.args.state.now.said.frame ≡ Some (frame_in c.in-Some.frame)
framed g c =
    let now : (found_of c.state.inside.said c.state.inside.decoded).said.frame ≡ Some (frame_in c.in-Some.frame) =
    search rules in
    ap (λ (f : Found). f.said.frame) (sym c.state.view_is) ∙ now

by : (g : Over) (c : After-end_scan g)
    → IsScanBy c.args.state.now.said (frame_in c.in-Some.frame) c.args.rows.now.header c.in_ok-scan.scan
by g c = subst (λ (f : Found). IsScanBy f.said (frame_in c.in-Some.frame) c.args.rows.now.header c.in_ok-scan.scan)
    c.state.view_is c.in_ok-scan.ensures.scan

-- the scan as it is looked up
here : (g : Over) (c : After-end_scan g) (settings : Settings) (k : Bool) (at : Stream) (bytes : List ℕ)
    → (h : InScan settings k c.args.state.now at c.args.rows.now c.args.source.now bytes)
    → IsAtRow c.args.state.now c.args.rows.now c.args.source.now bytes (frame_in c.in-Some.frame) c.in_ok-scan.scan h.mid
here g c settings k at bytes h =
    at-row settings k c.args.state.now at c.args.rows.now c.args.source.now bytes h
    (frame_in c.in-Some.frame) c.in_ok-scan.scan (framed g c) (by g c)

-- what was marked
marks : (g : Over) (c : After-end_scan g) (arrays : Arrays) → length arrays ≡ length c.in_ok-scan.scan.codings
    → without_planes (once_scanned (with_decoded c.args.state.now c.mark_all.new.self))
    ≡ without_planes (with_arrays c.in_ok-scan.scan.pass c.in_ok-scan.scan.codings arrays (scanned c.args.state.now))
marks g c arrays count =
    let now = found_of c.state.inside.said c.state.inside.decoded in
    let s = c.in_ok-scan.scan in
    subst (λ (f : Found). without_planes (once_scanned (with_decoded f c.mark_all.new.self))
    ≡ without_planes (with_arrays s.pass s.codings arrays (scanned f))) c.state.view_is
    (subst (λ (items : List Held). without_planes (once_scanned (with_decoded now c.mark_all.new.self))
    ≡ without_planes (with_arrays s.pass s.codings arrays (record (scanned now) { kept = arrays_in items })))
    c.new.ensures.items (c.mark_all.ensures.marked (once_scanned now) arrays count))

-- what stands after it
end-step : (g : Over) (c : After-end_scan g) → IsEndOf (with_decoded c.args.state.now c.mark_all.new.self)
    (λ (step : Step). turn_of c.end_scan.new.state step) c.pass_after-read.result c.end_scan.result
end-step g c =
    subst (λ (f : Found). IsEndOf (with_decoded f c.mark_all.new.self)
    (λ (step : Step). turn_of c.end_scan.new.state step) c.pass_after-read.result c.end_scan.result) c.state.view_is
    c.end_scan.ensures.step

-- no row is left
ended : (g : Over) (c : After-end_scan g)
    → (frame_in c.in-Some.frame).mcus_high ≡ c.args.rows.now.giver.rows
ended g c = at-frame _ c.args.state.now.said.frame (frame_in c.in-Some.frame) (framed g c) c.requires.ended

pub returns-clause-reads : goal.returns-clause-reads
returns-clause-reads g c settings k at bytes h =
    let s = c.in_ok-scan.scan in
    let p = with_decoded c.args.state.now c.mark_all.new.self in
    scan-ended c.args.state.now c.args.rows.now c.args.source.now bytes (frame_in c.in-Some.frame) s h.mid
    (here g c settings k at bytes h) (ended g c) c.take_marker-met.result c.pass_after-read.result
    c.take_marker-met.new.source c.pass_after-read.new.source c.take_marker-met.ensures.answers
    c.pass_after-read.ensures.passed c.pass_after-read.ensures.refused p
    (λ (step : Step). turn_of c.end_scan.new.state step) c.end_scan.result (end-step g c)
    (marks g c) refl

pub returns-clause-gives : goal.returns-clause-gives
returns-clause-gives g c settings k at bytes h =
    let s = c.in_ok-scan.scan in
    let frame = frame_in c.in-Some.frame in
    let r = here g c settings k at bytes h in
    let four = subst (λ (f : Found). length f.finished ≡ 4) c.state.view_is c.mark_all.ensures.four in
    let given = scan-given c.args.state.now c.args.rows.now c.args.source.now bytes frame s h.mid r (ended g c)
    c.take_marker-met.result c.pass_after-read.result
    c.take_marker-met.new.source c.pass_after-read.new.source c.take_marker-met.ensures.answers
    c.pass_after-read.ensures.passed c.pass_after-read.ensures.refused
    (with_decoded c.args.state.now c.mark_all.new.self)
    (λ (step : Step). turn_of c.end_scan.new.state step) c.end_scan.result (end-step g c) (marks g c) h.unread four
    (all-marked c.args.state.now s c.mark_all.new.self (marks g c) (c.mark_all.ensures.all
    (whole c.args.state.now frame c.args.rows.now.header s r.framed r.sequential r.by r.readable r.decoded r.legal
    r.all))) in
    ok-framed c.end_scan.result (λ f. GivesScan c.args.state.now f c.args.rows.now.header c.args.rows.now.giver.convert
    h.mid c.end_scan.result bytes) c.args.state.now.said.frame frame (framed g c) given

pub returns-clause-steps : goal.returns-clause-steps
returns-clause-steps g c =
    let now = found_of c.state.inside.said c.state.inside.decoded in
    let frame = frame_in c.in-Some.frame in
    let at = c.requires.scan in
    let r = here g c at.settings at.k at.at at.bytes at.is in
    let prev = with_decoded now c.mark_all.new.self in
    let said : now.said.frame ≡ Some frame = ap (λ (f : Found). f.said.frame) c.state.view_is ∙ r.framed in
    subst (λ (f : Found). IsStep c.args.state.now c.end_scan.result f) (sym c.end_scan.ensures.found)
    (ended-steps (λ (step : Step).
    turn_of c.end_scan.new.state step) c.args.state.now prev frame c.pass_after-read.result
    c.end_scan.result r.framed (ap (λ (f : Found). f.said) c.state.view_is)
    (on-ok c.pass_after-read.result (sound-after now prev frame
    (subst IsSound (sym c.state.view_is) at.is.header.sound)
    said r.sequential refl c.mark_all.ensures.planes
    (ap (λ (samples : List (Option (Vec ℕ Global))). planes_in samples) c.mark_all.ensures.samples)))
    c.end_scan.ensures.step)
