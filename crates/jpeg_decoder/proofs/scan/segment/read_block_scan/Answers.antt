use Rattle.std.proofs.Common.{◌≡◌, ◌∙◌, ap, refl, rules, Option, Some, subst, sym, ℕ}
use Rattle.jpeg_segments.specs.Frame.{Frame}
use Rattle.jpeg_segments.specs.FrameView.{frame_in}
use Rattle.jpeg_segments.specs.ScanHeader.{IsScanOf}
use Rattle.jpeg_meaning.specs.Found.{Found}
use Rattle.jpeg_meaning.specs.InTurn.{AreArrays}
use Rattle.jpeg_meaning.specs.ScanSegments.{once_scanned}
use Rattle.jpeg_meaning.specs.Sound.{IsDecodedFrame, IsSound}
use Rattle.jpeg_meaning.specs.States.{OnTold}
use Rattle.jpeg_decoder.specs.Reaching.{data_reached}
use Rattle.jpeg_bits.specs.declared.beyond.Beyond.{Beyond}
use Rattle.jpeg_decoder.specs.Walks.{AfterWalk}
use Rattle.jpeg_decoder.specs.Seen.{found_of}
use Rattle.jpeg_decoder.specs.Steps.{IsDct, turn_of, with_decoded}
use Rattle.jpeg_decoder.specs.declared.stream.state.Step.{Step}
use Rattle.jpeg_decoder.proofs.Partial.EndedScans.{HasEnded, blocks-whole, decoded-sound, end-answers, end-leaves, end-sound}
use Rattle.jpeg_decoder.proofs.Partial.EndedScans.{end-steps, no-blocks-after, passed-after, unread-answers, unread-leaves}
use Rattle.jpeg_decoder.proofs.Partial.PassedData.{passed, passed-met, passed-told}
use Rattle.jpeg_decoder.proofs.Partial.ReachedScans.{brings-blocks}
use Rattle.jpeg_decoder.proofs.Scans.ReadableScans.{header-legal, of-found, ready, scanned-before}
use Rattle.jpeg_decoder.proofs.Scans.ScanData.{before-as}
use Rattle.jpeg_decoder.proofs.scan.segment.read_block_scan.Given as given
use Rattle.jpeg_decoder.proofs.scan.segment.read_block_scan.Goals.{After-rows_given-given, After-spare_tables}
use Rattle.jpeg_decoder.proofs.scan.segment.read_block_scan.Goals as goal

-- what was found, and the frame
framed : (g : given.Over) (c : After-spare_tables g)
    → (found_of c.state.inside.said c.state.inside.decoded).said.frame ≡ Some (frame_in c.in-Some.frame)
framed g c = search rules

found-framed : (g : given.Over) (c : After-spare_tables g) → c.args.state.now.said.frame ≡ Some (frame_in c.in-Some.frame)
found-framed g c = ap (λ (f : Found). f.said.frame) (sym c.state.view_is) ∙ framed g c

decoded : (g : given.Over) (c : After-spare_tables g) → IsDecodedFrame (frame_in c.in-Some.frame)
decoded g c = c.requires.sound.frames (frame_in c.in-Some.frame) (found-framed g c)

process : (g : given.Over) (c : After-spare_tables g) → IsDct (frame_in c.in-Some.frame).process
process g c = of-found (λ (f : Frame). IsDct f.process) _ _ (found-framed g c) c.requires.process

legal : (g : given.Over) (c : After-spare_tables g) → IsScanOf (frame_in c.in-Some.frame) c.args.header.now
legal g c = header-legal c.args.state.now (frame_in c.in-Some.frame) c.args.header.now (found-framed g c) c.requires.header

pub block_scan_of-requires-clause-frame : goal.block_scan_of-requires-clause-frame
block_scan_of-requires-clause-frame g c = decoded g (goal.at.block_scan_of-requires-clause-frame g c).After-spare_tables

pub block_scan_of-requires-clause-process : goal.block_scan_of-requires-clause-process
block_scan_of-requires-clause-process g c =
    process g (goal.at.block_scan_of-requires-clause-process g c).After-spare_tables

pub block_scan_of-requires-clause-legal : goal.block_scan_of-requires-clause-legal
block_scan_of-requires-clause-legal g c = legal g (goal.at.block_scan_of-requires-clause-legal g c).After-spare_tables

pub returns-in_err-scan-clause-reads : goal.returns-in_err-scan-clause-reads
returns-in_err-scan-clause-reads g c =
    let at = (goal.at.returns-in_err-scan-clause-reads g c).After-spare_tables in
    unread-answers c.args.beyond _ c.args.state.now c.args.header.now _ _ _ _ c.from_residual-in_err-scan.ensures.1
    (no-blocks-after c.args.beyond c.args.state.now (frame_in c.in-Some.frame) c.args.header.now c.args.source.now _
    (found-framed g at) (process g at) (search rules))

pub returns-in_err-scan-clause-leaves : goal.returns-in_err-scan-clause-leaves
returns-in_err-scan-clause-leaves g c =
    let at = (goal.at.returns-in_err-scan-clause-leaves g c).After-spare_tables in
    unread-leaves c.args.beyond c.args.state.now _ c.args.header.now c.args.rows.now _ _ _ _
    c.from_residual-in_err-scan.ensures.1 refl c.requires.rows
    (no-blocks-after c.args.beyond c.args.state.now (frame_in c.in-Some.frame) c.args.header.now c.args.source.now _
    (found-framed g at) (process g at) (search rules))

pub read-read-requires-clause-ready : goal.read-read-requires-clause-ready
read-read-requires-clause-ready g c =
    let at = (goal.at.read-read-requires-clause-ready g c).After-spare_tables in
    let scan = c.in_ok-scan.ensures.scan in
    ready (found_of c.state.inside.said c.state.inside.decoded) (frame_in c.in-Some.frame) c.args.header.now _
    (decoded g at) (legal g at) scan.codings scan.count

pub read-read-requires-clause-kept : goal.read-read-requires-clause-kept
read-read-requires-clause-kept g c =
    let now = found_of c.state.inside.said c.state.inside.decoded in
    let frame = frame_in c.in-Some.frame in
    subst (AreArrays frame.components) (before-as now c.state.inside.decoded frame _
    (scanned-before c.said.inside _ c.said.view_is))
    ((subst IsSound (sym c.state.view_is) c.requires.sound).kept frame
    (framed g (goal.at.read-read-requires-clause-kept g c).After-spare_tables))

-- what is known after the data and the restart markers after them
ended : (g : given.Over) (c : After-rows_given-given g) → HasEnded c.args.beyond c.args.state.now
    (with_decoded (found_of c.state.inside.said c.state.inside.decoded) c.read-read.new.self) c.args.header.now
    c.rows_given-given.result c.args.source.now c.pass_after-read.new.source c.pass_after-read.result
ended g c =
    let now = found_of c.state.inside.said c.state.inside.decoded in
    let frame = frame_in c.in-Some.frame in
    let framed : now.said.frame ≡ Some frame = search rules in
    let process = of-found (λ (f : Frame). IsDct f.process) _ _
    (ap (λ (f : Found). f.said.frame) (sym c.state.view_is) ∙ framed) c.requires.process in
    let scan = c.in_ok-scan.ensures.scan in
    let s = c.in_ok-scan.scan in
    let r = c.read-read in
    let q = c.pass_after-read in
    let old = c.args.source.now in
    let read = r.ensures.data now (record {
      scanned = scanned-before c.said.inside _ c.said.view_is;
      restart = scan.restart;
    }) in
    subst (λ (f : Found). HasEnded c.args.beyond f (with_decoded now r.new.self) c.args.header.now
    c.rows_given-given.result old q.new.source q.result) c.state.view_is (record {
      zeros = λ is. blocks-whole (once_scanned (with_decoded now r.new.self)) now frame c.args.header.now s.pass s.codings
          old r.new.source q.new.source r.result q.result framed process scan.codings scan.pass
          (read.answers (c.in_ok-scan.ensures.beyond ∙ is)) q.ensures.passed q.ensures.refused;
      brings = λ is.
          let stops = c.in_ok-scan.ensures.beyond ∙ is in record {
            gives = λ bytes. passed (data_reached now frame s.pass s.codings bytes);
            whole = brings-blocks now frame c.args.header.now _ _ framed process scan.codings scan.pass;
            leads = passed-told _ old r.new.source q.new.source r.result q.result q.ensures.refused (read.found stops);
            met = passed-met (λ bytes. (data_reached now frame s.pass s.codings bytes).met) old r.new.source
                q.new.source r.result q.result q.ensures.passed q.ensures.refused (read.met stops);
            rows = subst (λ (n : Option ℕ). OnTold old q.new.source q.result
                (n ≡ (data_reached now frame s.pass s.codings old.bytes).rows)) (sym (c.rows_given-given.ensures.nothing is))
                (passed-told _ old r.new.source q.new.source r.result q.result q.ensures.refused (read.rows stops));
          };
      none = c.rows_given-given.ensures.zeros;
      said = refl;
      sound = passed-after _ c.args.beyond r.new.source q.new.source r.result q.result q.ensures.refused
          (subst (λ (b : Beyond). AfterWalk b r.result (IsSound (once_scanned (with_decoded now r.new.self))))
          c.in_ok-scan.ensures.beyond (decoded-sound s.beyond now c.state.inside.decoded r.new.self frame r.result
          (subst IsSound (sym c.state.view_is) c.requires.sound) framed r.ensures.kept r.ensures.planes
          r.ensures.samples));
    })

pub returns-clause-reads : goal.returns-clause-reads
returns-clause-reads g c =
    end-answers c.args.beyond (λ (s : Step). turn_of c.end_read.new.state s) c.args.state.now _ c.args.header.now _ _ _ _ _
    (ended g (goal.at.returns-clause-reads g c).After-rows_given-given) c.end_read.ensures.step

pub returns-clause-leaves : goal.returns-clause-leaves
returns-clause-leaves g c =
    end-leaves c.args.beyond (λ (s : Step). turn_of c.end_read.new.state s) c.args.state.now _ c.end_read.new.state
    c.args.header.now _ c.end_read.new.rows c.args.rows.now _ _ _ _
    (ended g (goal.at.returns-clause-leaves g c).After-rows_given-given) c.end_read.ensures.found c.requires.rows
    c.end_read.ensures.rows c.end_read.ensures.step

pub returns-clause-sound : goal.returns-clause-sound
returns-clause-sound g c =
    end-sound c.args.beyond (λ (s : Step). turn_of c.end_read.new.state s) c.args.state.now _ c.end_read.new.state
    c.args.header.now _ _ _ _ _ (ended g (goal.at.returns-clause-sound g c).After-rows_given-given)
    c.end_read.ensures.found c.end_read.ensures.step

pub returns-clause-steps : goal.returns-clause-steps
returns-clause-steps g c =
    let at = goal.at.returns-clause-steps g c in
    end-steps c.args.beyond (λ (s : Step). turn_of c.end_read.new.state s) c.args.state.now _ c.end_read.new.state
    (frame_in c.in-Some.frame) c.args.header.now _ _ _ _ _ (ended g at.After-rows_given-given)
    (found-framed g at.After-spare_tables) c.end_read.ensures.found c.end_read.ensures.step
