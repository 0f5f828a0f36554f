use Rattle.std.proofs.Common.{◌≡◌, Ok, rules}
use Rattle.std.proofs.lemmas.Result.{err_from_is_err_and}
use Rattle.jpeg_meaning.specs.Found.{with_said}
use Rattle.jpeg_meaning.specs.Stream.{sized_header_at, sized_to}
use Rattle.jpeg_meaning.proofs.Soundness.{said-sized, sized-read, sized-refused}
use Rattle.jpeg_decoder.proofs.Scans.ScanData.{answers-err}
use Rattle.jpeg_decoder.proofs.Segments.ScaledHeaders.{answers-changed}
use Rattle.jpeg_decoder.proofs.decoder.Decoder.scale.Goals as goal

pub returns-in_err-read_info-clause-reads : goal.returns-in_err-read_info-clause-reads
returns-in_err-read_info-clause-reads g c =
    search (rules, err_from_is_err_and, answers-err, sized-refused)

pub returns-clause-reads : goal.returns-clause-reads
returns-clause-reads g c =
    let w = c.args.requested_width in
    let h = c.args.requested_height in
    let scaled : c.scale_state.new.state ≡ with_said (sized_to w h) c.read_info.new.self.found
    = search (rules, said-sized) in
    let same : c.self.inside.source ≡ c.read_info.new.self.source = search rules in
    λ fresh. answers-changed (sized_to w h) (sized_header_at w h) c.args.self.now.source c.read_info.new.self.source
    c.self.inside.source c.read_info.new.self.found c.scale_state.new.state (tt {0})
    (Ok c.scale_state.result) (sized-read w h) (search rules) c.in_ok-read_info.ensures.framed
    (c.in_ok-read_info.ensures.reads fresh) same scaled
