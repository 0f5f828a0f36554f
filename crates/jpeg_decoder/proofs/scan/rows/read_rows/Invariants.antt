use Rattle.std.proofs.Common.{◌≡◌, ◌<◌, ◌*◌, ◌-◌, [], None, length, map, take, true, ℕ}
use Rattle.std.specs.List.{AllByRecursion, range_with_len}
use Rattle.jpeg_bits.proofs.BandLoop.{Leaves}
use Rattle.jpeg_bits.specs.Entropy.{upcoming}
use Rattle.jpeg_bits.specs.declared.beyond.Beyond.TheVariants.{Nothing}
use Rattle.jpeg_meaning.specs.InTurn.{AreApart}
use Rattle.jpeg_decoder.specs.Scanning.{IsSpotOf, counted, down_in, sizes_of, scan_vias}
use Rattle.jpeg_decoder.specs.GrowingView.{GrowsFor, growing_in, is_joint}
use Rattle.jpeg_decoder.specs.Strips.{no_samples, row_sizes, strip_samples, strips_from}
use Rattle.jpeg_decoder.specs.Through.{strips_reached}
use Rattle.jpeg_decoder.specs.Walk.{walk_of_row, walks_of_rows}
use Rattle.jpeg_decoder.proofs.scan.rows.read_rows.Given as goal

abbrev pub invariant-loop-row : goal.invariant-loop-row
invariant-loop-row g l = record {
  sizes : sizes_of l.rows.items ≡ row_sizes l.fn.scan.codings;
  spots : AllByRecursion (AllByRecursion (IsSpotOf (length l.fn.scan.codings)
      (row_sizes l.fn.scan.codings)))
      (map (walk_of_row l.fn.order) (range_with_len l.row (l.fn.order.rows - l.row)));
  apart : AllByRecursion AreApart (map (walk_of_row l.fn.order) (range_with_len l.row (l.fn.order.rows - l.row)));
  growing : GrowsFor l.fn.scan.codings l.planes;
  kind : is_joint l.planes ≡ is_joint l.fn.planes;
  some : 0 < length (growing_in l.planes) → 0 < length (growing_in l.fn.planes);
  lengths : (k : ℕ) → growing_in l.fn.planes ≡ take k (no_samples l.fn.scan.codings)
      → map length (growing_in l.planes)
      ≡ take k (map (λ c. strip_samples (l.row * down_in c) c) l.fn.scan.codings);
  beyond : l.interval.beyond ≡ l.fn.scan.beyond;
  unread : l.interval.unread ≡ None;
  strips : Leaves (strips_from l.fn.scan.pass
      (scan_vias l.fn.scan) l.fn.order.interval l.fn.scan.codings
      (walks_of_rows l.fn.order) (growing_in l.fn.planes) (counted l.fn.interval []))
      l.fn.interval.decoder l.fn.source
      (strips_from l.fn.scan.pass (scan_vias l.fn.scan) l.fn.order.interval
      l.fn.scan.codings
      (map (walk_of_row l.fn.order) (range_with_len l.row (l.fn.order.rows - l.row)))
      (growing_in l.planes) (counted l.interval []))
      l.interval.decoder l.source;
  reached : l.fn.scan.beyond ≡ Nothing → l.fn.source.known ≡ true
      → strips_reached l.fn.scan.pass (scan_vias l.fn.scan) l.fn.order.interval l.fn.scan.codings 0
      (walks_of_rows l.fn.order) (growing_in l.fn.planes) (counted l.fn.interval [])
      (upcoming l.fn.interval.decoder l.fn.source.bytes)
      ≡ strips_reached l.fn.scan.pass (scan_vias l.fn.scan) l.fn.order.interval l.fn.scan.codings l.row
      (map (walk_of_row l.fn.order) (range_with_len l.row (l.fn.order.rows - l.row)))
      (growing_in l.planes) (counted l.interval []) (upcoming l.interval.decoder l.source.bytes);
}
