use Rattle.std.proofs.Common.{◌≡◌, Ok, rules}
use Rattle.std.proofs.lemmas.Result.{err_from_is_err_and}
use Rattle.jpeg_meaning.specs.Found.{with_said}
use Rattle.jpeg_meaning.specs.Stream.{scaled_header_at, scaled_to}
use Rattle.jpeg_meaning.proofs.Soundness.{scaled-read, scaled-refused}
use Rattle.jpeg_decoder.proofs.Scans.ScanData.{answers-err}
use Rattle.jpeg_decoder.proofs.Segments.ScaledHeaders.{answers-changed}
use Rattle.jpeg_decoder.proofs.decoder.Decoder.set_scale.Goals as goal

pub returns-in_err-read_info-clause-reads : goal.returns-in_err-read_info-clause-reads
returns-in_err-read_info-clause-reads g c =
    search (rules, err_from_is_err_and, answers-err, scaled-refused)

pub returns-clause-reads : goal.returns-clause-reads
returns-clause-reads g c =
    let scale = c.args.scale in
    let scaled : c.scale_state.new.state ≡ with_said (scaled_to scale) c.read_info.new.self.found
    = search rules in
    let same : c.self.inside.source ≡ c.read_info.new.self.source = search rules in
    λ fresh. answers-changed (scaled_to scale) (scaled_header_at scale) c.args.self.now.source
    c.read_info.new.self.source c.self.inside.source c.read_info.new.self.found
    c.scale_state.new.state (tt {0}) (Ok c.scale_state.result) (scaled-read scale) (search rules)
    c.in_ok-read_info.ensures.framed (c.in_ok-read_info.ensures.reads fresh) same scaled
