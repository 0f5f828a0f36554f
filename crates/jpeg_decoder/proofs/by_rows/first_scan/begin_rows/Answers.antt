use Rattle.std.proofs.Common.{rules, ◌≡◌, ◌∙◌, [], ap, arith, length, List, Some, subst, sym}
use Rattle.std.specs.List.{AllByRecursion}
use Rattle.jpeg_segments.specs.Frame.{Frame}
use Rattle.jpeg_segments.specs.FrameView.{frame_in}
use Rattle.jpeg_segments.specs.ScanHeader.{IsScanOf}
use Rattle.jpeg_segments.specs.declared.frame.CodingProcess.TheVariants.{DctSequential}
use Rattle.jpeg_pixels.specs.PicturesView.{IsFor}
use Rattle.jpeg_meaning.specs.Found.{Found}
use Rattle.jpeg_meaning.specs.InTurn.{Fits}
use Rattle.jpeg_meaning.specs.ScanSegments.{Coding, components_of}
use Rattle.jpeg_meaning.specs.Sound.{IsDecodedFrame}
use Rattle.jpeg_meaning.proofs.Soundness.{decoded-fits}
use Rattle.jpeg_decoder.specs.Givers.{IsReady}
use Rattle.jpeg_decoder.specs.RowScans.{ComesBy}
use Rattle.jpeg_decoder.specs.Scanning.{counted}
use Rattle.jpeg_decoder.specs.Steps.{IsScanBy}
use Rattle.jpeg_pixels.specs.declared.color_convert.ColorConvert.{ColorConvert}
use Rattle.jpeg_decoder.specs.Seen.{found_of}
use Rattle.jpeg_decoder.specs.declared.scan.blocks.Interval.{Interval}
use Rattle.jpeg_decoder.proofs.ByRows.GivenScans.{all-components, some-found}
use Rattle.jpeg_decoder.proofs.ByRows.ScanRows.{begun-given}
use Rattle.jpeg_decoder.proofs.Scans.ReadableScans.{header-legal, of-found, ready}
use Rattle.jpeg_decoder.proofs.by_rows.first_scan.begin_rows.Goals.{In_ok-scan}
use Rattle.jpeg_decoder.proofs.by_rows.first_scan.begin_rows.Goals as goal

-- what was found, and the frame
framed : (c : In_ok-scan) → (found_of c.state.inside.said c.state.inside.decoded).said.frame
    ≡ Some (frame_in c.in-Some.frame)
framed c = search rules

found-framed : (c : In_ok-scan) → c.args.state.now.said.frame ≡ Some (frame_in c.in-Some.frame)
found-framed c = ap (λ (f : Found). f.said.frame) (sym c.state.view_is) ∙ framed c

decoded : (c : In_ok-scan) → IsDecodedFrame (frame_in c.in-Some.frame)
decoded c = c.requires.sound.frames (frame_in c.in-Some.frame) (found-framed c)

-- what is asked of it
asked : (c : In_ok-scan) → ((frame_in c.in-Some.frame).process ≡ DctSequential)
    × (length c.args.header.components ≡ length (frame_in c.in-Some.frame).components)
    × IsFor (length (frame_in c.in-Some.frame).components) c.args.colours.convert
asked c = of-found (λ (f : Frame). (f.process ≡ DctSequential)
    × (length c.args.header.components ≡ length f.components) × IsFor (length f.components) c.args.colours.convert) _ _
    (found-framed c) c.requires.all

legal : (c : In_ok-scan) → IsScanOf (frame_in c.in-Some.frame) c.args.header
legal c = header-legal c.args.state.now (frame_in c.in-Some.frame) c.args.header (found-framed c) c.requires.header

components : (c : In_ok-scan) → components_of c.in_ok-scan.scan.codings ≡ (frame_in c.in-Some.frame).components
components c =
    let now = found_of c.state.inside.said c.state.inside.decoded in
    let frame = frame_in c.in-Some.frame in
    let by = c.in_ok-scan.ensures.scan in
    all-components now frame c.args.header c.in_ok-scan.scan (framed c) (asked c).0 by
    (ready now frame c.args.header c.in_ok-scan.scan (decoded c) (legal c) by.codings by.count) (decoded c)
    (legal c) (asked c).1

pub new-requires-clause-fits : goal.new-requires-clause-fits
new-requires-clause-fits c =
    let at = (goal.at.new-requires-clause-fits c).In_ok-scan in
    subst (AllByRecursion (Fits (frame_in c.in-Some.frame))) (sym (components at))
    (decoded-fits (frame_in c.in-Some.frame) (decoded at))

pub new-requires-2-clause-components : goal.new-requires-2-clause-components
new-requires-2-clause-components c =
    let at = (goal.at.new-requires-2-clause-components c).In_ok-scan in
    subst (λ (cs : List Coding). components_of cs ≡ (frame_in c.in-Some.frame).components)
    (sym c.components.ensures.codings) (components at)

pub returns-clause-begun : goal.returns-clause-begun
returns-clause-begun c settings k at mid head known going unread comes =
    let here = (goal.at.returns-clause-begun c).In_ok-scan in
    let frame = frame_in c.in-Some.frame in
    let s = c.in_ok-scan.scan in
    let o = c.in_ok-order.order in
    let i = c.first_interval-interval in
    let now : Found = found_of c.state.inside.said c.state.inside.decoded in
    record {
      mid = mid;
      header = head;
      known = known;
      going = going;
      unread = unread;
      spare = search rules;
      comes = subst (λ (x : ColorConvert). ComesBy settings c.args.state.now c.args.header c.args.colours.transform x)
          (sym c.in_ok-giver.ensures.ready.converts) comes;
      reads = some-found _ _ frame (found-framed here) (record {
        s = s;
        by = subst (λ (f : Found). IsScanBy f.said frame c.args.header s) c.state.view_is c.in_ok-scan.ensures.scan;
        order = c.in_ok-order.ensures;
        zeros = ap (λ (x : Interval). x.beyond) i.ensures;
        within = let n = c.in_ok-giver.ensures.ready.taken in omega arith;
        given = begun-given frame s o c.in_ok-giver.giver i.result mid c.args.colours.convert (decoded here)
            (components here)
            (subst (λ (cs : List Coding). IsReady frame cs c.args.colours.convert 0 c.in_ok-giver.giver)
            c.components.ensures.codings c.in_ok-giver.ensures.ready)
            (ap (λ (x : Interval). counted x []) i.ensures) (ap (λ (x : Interval). x.decoder) i.ensures);
      });
    }
