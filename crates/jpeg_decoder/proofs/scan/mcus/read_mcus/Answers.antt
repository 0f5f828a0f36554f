use Rattle.jpeg_bits.specs.Entropy.{upcoming}
use Rattle.jpeg_decoder.specs.Scanning.{arrays_in, counted, scan_vias}
use Rattle.jpeg_decoder.specs.Through.{counted_reached}
use Rattle.jpeg_decoder.proofs.Kept.ReachedSpots.{told-beside}
use Rattle.jpeg_decoder.proofs.scan.mcus.read_mcus.Goals as goal

pub returns-clause-reached : goal.returns-clause-reached
returns-clause-reached g c stops old =
    let i = c.args.interval.now in
    told-beside (counted_reached c.args.scan.now.pass (scan_vias c.args.scan.now) c.args.n c.args.spots.now
    (counted i (arrays_in c.args.arrays.now.items)) (upcoming i.decoder c.args.source.now.bytes))
    (arrays_in c.read_spots.new.arrays.items) c.read_spots.new.interval.unread c.args.source.now
    c.read_spots.new.source c.read_spots.result
    (c.read_spots.ensures.reached (c.keeps_ac.ensures.scan.kept stops) old)
