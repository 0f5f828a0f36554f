use Rattle.jpeg_decoder.proofs.Strips.SpotsInFrame.{spot-shifted}
use Rattle.jpeg_decoder.proofs.scan.rows.in_frame.Goals as goal

pub returns-in-Some : goal.returns-in-Some
returns-in-Some c =
    spot-shifted c.args.codings.now c.args.row c.index_in_frame-index.result c.args.spot c.in_ok-spot.spot
    c.in-Some.coded.now (c.in_ok-spot.was) (c.in-Some.ensures.lookup.1) c.index_in_frame-index.ensures
