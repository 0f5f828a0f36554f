use Rattle.std.proofs.Common.{◌≡◌, length, true}
use Rattle.std.specs.List.{AllByRecursion}
use Rattle.jpeg_bits.proofs.BandLoop.{Leaves}
use Rattle.jpeg_bits.specs.Entropy.{upcoming}
use Rattle.jpeg_meaning.specs.InTurn.{blocks_from}
use Rattle.jpeg_decoder.specs.Scanning.{scan_vias, arrays_in, counted, kept_blocks, sizes_of, IsSpotOf}
use Rattle.jpeg_decoder.specs.Through.{counted_reached}
use Rattle.jpeg_decoder.proofs.scan.blocks.read_spots.Given as goal

abbrev pub invariant-loop-spot : goal.invariant-loop-spot
invariant-loop-spot g l = record {
  sizes : sizes_of l.arrays.items ≡ sizes_of l.fn.arrays.items;
  spots : AllByRecursion (IsSpotOf (length l.fn.scan.codings) (sizes_of l.fn.arrays.items)) l.spots;
  blocks : Leaves (kept_blocks l.fn.scan.keeps_ac (blocks_from l.fn.scan.pass
      (scan_vias l.fn.scan) l.fn.n l.fn.spots
      (counted l.fn.interval (arrays_in l.fn.arrays.items))))
      l.fn.interval.decoder l.fn.source
      (kept_blocks l.fn.scan.keeps_ac (blocks_from l.fn.scan.pass (scan_vias l.fn.scan)
      l.fn.n l.spots (counted l.interval (arrays_in l.arrays.items))))
      l.interval.decoder l.source;
  goes : l.fn.scan.keeps_ac ≡ true → l.fn.source.known ≡ true
      → counted_reached l.fn.scan.pass (scan_vias l.fn.scan) l.fn.n l.fn.spots
      (counted l.fn.interval (arrays_in l.fn.arrays.items))
      (upcoming l.fn.interval.decoder l.fn.source.bytes)
      ≡ counted_reached l.fn.scan.pass (scan_vias l.fn.scan) l.fn.n l.spots
      (counted l.interval (arrays_in l.arrays.items))
      (upcoming l.interval.decoder l.source.bytes);
  beyond : l.interval.beyond ≡ l.fn.interval.beyond;
  unread : l.interval.unread ≡ l.fn.interval.unread;
}

abbrev pub decreases-loop-spot : goal.decreases-loop-spot
decreases-loop-spot g l = length l.spots
