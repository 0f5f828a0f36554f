use Rattle.std.proofs.Common.{◌≡◌, ◌∙◌, ap, List, Ok, Option, refl, rules, Some, subst, sym, ℕ}
use Rattle.jpeg_bits.specs.Reading.{Answers}
use Rattle.jpeg_bits.specs.declared.marker.Marker.{Marker}
use Rattle.jpeg_segments.specs.Frame.{Frame}
use Rattle.jpeg_segments.specs.FrameView.{frame_in}
use Rattle.jpeg_segments.specs.declared.frame.CodingProcess.TheVariants.{Lossless}
use Rattle.jpeg_meaning.specs.Found.{Found}
use Rattle.jpeg_meaning.specs.LosslessScans.{LosslessCoding}
use Rattle.jpeg_meaning.specs.ScanSegments.{once_scanned}
use Rattle.jpeg_meaning.specs.Sound.{IsSound}
use Rattle.jpeg_meaning.specs.States.{OnTold}
use Rattle.jpeg_decoder.specs.Reaching.{sample_codings, samples_reached, UnlessRefused}
use Rattle.jpeg_decoder.specs.Seen.{found_of}
use Rattle.jpeg_decoder.specs.Steps.{read_after, samples_read, turn_of, with_decoded}
use Rattle.jpeg_decoder.specs.Walks.{AfterWalk}
use Rattle.jpeg_decoder.specs.declared.stream.state.Step.{Step}
use Rattle.jpeg_decoder.proofs.LosslessFrames.SampleScans.{scan-codings}
use Rattle.jpeg_decoder.proofs.Partial.LostScans.{unless-after}
use Rattle.jpeg_decoder.proofs.Partial.EndedScans.{HasEnded, end-answers, end-leaves, end-sound, end-steps, no-samples-after}
use Rattle.jpeg_decoder.proofs.Partial.EndedScans.{reads-samples, unread-answers, unread-leaves}
use Rattle.jpeg_decoder.proofs.Partial.ReachedScans.{brings-samples, moved}
use Rattle.jpeg_decoder.proofs.Scans.ReadableScans.{header-legal, of-found}
use Rattle.jpeg_decoder.proofs.Scans.ScanReads.{answers-as}
use Rattle.jpeg_decoder.proofs.scan.segment.read_lossless_scan.Given as given
use Rattle.jpeg_decoder.proofs.scan.segment.read_lossless_scan.Goals.{After-rows_given-given, After-sample_scan_of}
use Rattle.jpeg_decoder.proofs.scan.segment.read_lossless_scan.Goals as goal

-- the frame that was found
framed : (g : given.Over) (c : After-sample_scan_of g)
    → (found_of c.state.inside.said c.state.inside.decoded).said.frame ≡ Some (frame_in c.in-Some.frame)
framed g c = search rules

found-framed : (g : given.Over) (c : After-sample_scan_of g)
    → c.args.state.now.said.frame ≡ Some (frame_in c.in-Some.frame)
found-framed g c = ap (λ (f : Found). f.said.frame) (sym c.state.view_is) ∙ framed g c

process : (g : given.Over) (c : After-sample_scan_of g) → (frame_in c.in-Some.frame).process ≡ Lossless
process g c = of-found (λ (f : Frame). f.process ≡ Lossless) _ _ (found-framed g c) c.requires.process

pub returns-in_err-scan-clause-reads : goal.returns-in_err-scan-clause-reads
returns-in_err-scan-clause-reads g c =
    let at = (goal.at.returns-in_err-scan-clause-reads g c).After-sample_scan_of in
    unread-answers c.args.beyond _ c.args.state.now c.args.header.now _ _ _ _ c.from_residual.ensures.1
    (no-samples-after c.args.beyond c.args.state.now (frame_in c.in-Some.frame) c.args.header.now c.args.source.now _
    (found-framed g at) (process g at) (search rules))

pub returns-in_err-scan-clause-leaves : goal.returns-in_err-scan-clause-leaves
returns-in_err-scan-clause-leaves g c =
    let at = (goal.at.returns-in_err-scan-clause-leaves g c).After-sample_scan_of in
    unread-leaves c.args.beyond c.args.state.now _ c.args.header.now c.args.rows.now _ _ _ _
    c.from_residual.ensures.1 refl c.requires.rows
    (no-samples-after c.args.beyond c.args.state.now (frame_in c.in-Some.frame) c.args.header.now c.args.source.now _
    (found-framed g at) (process g at) (search rules))

-- what is known after the data and the restart markers after them
ended : (g : given.Over) (c : After-rows_given-given g) → HasEnded c.args.beyond c.args.state.now
    (with_decoded (found_of c.state.inside.said c.state.inside.decoded) c.read_samples-read.new.decoded) c.args.header.now
    c.rows_given-given.result c.args.source.now c.read_samples-read.new.source c.read_samples-read.result
ended g c =
    let now = found_of c.state.inside.said c.state.inside.decoded in
    let old = c.args.source.now in
    let q = c.read_samples-read in
    let new = q.new.source in
    let r = q.result in
    let frame = frame_in c.in-Some.frame in
    let scan = c.args.header.now in
    let given = c.in_ok-scan.ensures.given in
    let framed : now.said.frame ≡ Some frame = search rules in
    let found-framed = ap (λ (f : Found). f.said.frame) (sym c.state.view_is) ∙ framed in
    let process = of-found (λ (f : Frame). f.process ≡ Lossless) _ _ found-framed c.requires.process in
    let codings = scan-codings now.said frame scan c.in_ok-scan.scan c.in_ok-scan.ensures.scan
    (header-legal c.args.state.now frame scan found-framed c.requires.header) in
    subst (λ (f : Found). HasEnded c.args.beyond f (with_decoded now q.new.decoded) scan c.rows_given-given.result old new r)
    c.state.view_is (record {
      zeros = λ is. answers-as (λ (m : Option Marker). (once_scanned (with_decoded now q.new.decoded), m))
          (samples_read now frame scan) (read_after now scan) old new r (reads-samples now frame scan old.bytes framed process)
          (moved given.0 given.1 given.2 (λ s f h. Answers
          (λ (m : Option Marker). (once_scanned (found_of s q.new.decoded), m))
          (samples_read (found_of s c.state.inside.decoded) (frame_in f) h) old r new) (q.ensures.reads is));
      brings = λ is. record {
        gives = samples_reached now frame scan codings.0;
        whole = brings-samples now frame scan codings.0 framed process codings.1;
        leads = moved given.0 given.1 given.2 (λ s f h. (l : List LosslessCoding)
            → sample_codings s (frame_in f) h ≡ Ok l
            → OnTold old new r (once_scanned (found_of s q.new.decoded)
            ≡ (samples_reached (found_of s c.state.inside.decoded) (frame_in f) h l old.bytes).found))
            (q.ensures.found is) codings.0 codings.1;
        met = moved given.0 given.1 given.2 (λ s f h. (l : List LosslessCoding)
            → sample_codings s (frame_in f) h ≡ Ok l
            → UnlessRefused r (Answers (λ (m : Option Marker). m) (λ bytes. (samples_reached
            (found_of s c.state.inside.decoded) (frame_in f) h l bytes).met) old r new))
            (q.ensures.met is) codings.0 codings.1;
        rows = moved given.0 given.1 given.2 (λ s f h. (l : List LosslessCoding)
            → sample_codings s (frame_in f) h ≡ Ok l
            → OnTold old new r (c.rows_given-given.result
            ≡ (samples_reached (found_of s c.state.inside.decoded) (frame_in f) h l old.bytes).rows))
            (λ l h. subst (λ (n : Option ℕ). OnTold old new r (n ≡ (samples_reached
            (found_of c.in_ok-scan.scan.said.now c.state.inside.decoded) (frame_in c.in_ok-scan.scan.frame.now)
            c.in_ok-scan.scan.header.now l old.bytes).rows)) (sym (c.rows_given-given.ensures.nothing is))
            (q.ensures.rows is l h)) codings.0 codings.1;
      };
      none = c.rows_given-given.ensures.zeros;
      said = refl;
      sound = subst (λ s. AfterWalk c.args.beyond r (IsSound (once_scanned (found_of s q.new.decoded)))) given.0
          (unless-after _ c.args.beyond r q.ensures.sound);
    })

pub returns-clause-reads : goal.returns-clause-reads
returns-clause-reads g c =
    end-answers c.args.beyond (λ (s : Step). turn_of c.end_read.new.state s) c.args.state.now _ c.args.header.now _ _ _ _ _
    (ended g (goal.at.returns-clause-reads g c).After-rows_given-given) c.end_read.ensures.step

pub returns-clause-leaves : goal.returns-clause-leaves
returns-clause-leaves g c =
    end-leaves c.args.beyond (λ (s : Step). turn_of c.end_read.new.state s) c.args.state.now _ c.end_read.new.state
    c.args.header.now _ c.end_read.new.rows c.args.rows.now _ _ _ _
    (ended g (goal.at.returns-clause-leaves g c).After-rows_given-given) c.end_read.ensures.found c.requires.rows
    c.end_read.ensures.rows c.end_read.ensures.step

pub returns-clause-sound : goal.returns-clause-sound
returns-clause-sound g c =
    end-sound c.args.beyond (λ (s : Step). turn_of c.end_read.new.state s) c.args.state.now _ c.end_read.new.state
    c.args.header.now _ _ _ _ _ (ended g (goal.at.returns-clause-sound g c).After-rows_given-given)
    c.end_read.ensures.found c.end_read.ensures.step

pub returns-clause-steps : goal.returns-clause-steps
returns-clause-steps g c =
    let at = goal.at.returns-clause-steps g c in
    end-steps c.args.beyond (λ (s : Step). turn_of c.end_read.new.state s) c.args.state.now _ c.end_read.new.state
    (frame_in c.in-Some.frame) c.args.header.now _ _ _ _ _ (ended g at.After-rows_given-given)
    (found-framed g at.After-sample_scan_of) c.end_read.ensures.found c.end_read.ensures.step
