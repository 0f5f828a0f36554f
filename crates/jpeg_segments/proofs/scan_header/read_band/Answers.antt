use Rattle.std.proofs.Common.{map, sym, ◌∙◌, arith}
use Rattle.std.proofs.lemmas.List.{length-map}
use Rattle.jpeg_segments.specs.ScanHeader.{scan_of}
use Rattle.jpeg_segments.specs.FrameView.{frame_in, selector_of}
use Rattle.jpeg_segments.proofs.ScanLemmas.{is-scan}
use Rattle.jpeg_segments.proofs.scan_header.read_band.Goals as goal

pub returns-clause-scan : goal.returns-clause-scan
unfolding scan_of
returns-clause-scan g c =
    let count = length-map c.args.selectors.now selector_of in
    rw c.header_of.ensures (is-scan (frame_in c.args.frame.now) (map selector_of c.args.selectors.now)
    _ _ c.in_ok-levels.levels (rw count c.requires.some) (rw count c.requires.most) c.requires.indices
    c.requires.rising c.requires.mcu (rw count (sym c.is_band.ensures.value ∙ c.if-not-is_band.false))
    (omega (arith, c.if-band-frame.false)))
