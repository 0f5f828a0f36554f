use Rattle.std.proofs.Common.{rules, ◌≡◌, Some}
use Rattle.jpeg_segments.specs.FrameView.{frame_in}
use Rattle.jpeg_decoder.proofs.ByRows.FedLines.{framed-few, ready-frames}
use Rattle.jpeg_decoder.proofs.fed_rows.FedRows.line_bytes.Goals as goal

pub line_bytes-requires : goal.line_bytes-requires
line_bytes-requires c =
    let s = c.self.inside in
    framed-few s.state (frame_in c.in-Some.frame)
    (ready-frames s.settings s.state s.ahead (search rules) c.self.invariant) (search rules)
