use Rattle.std.proofs.Common.{◌≡◌, ◌<◌, ◌-◌, length, map}
use Rattle.jpeg_decoder.specs.Scanning.{arrays_in}
use Rattle.jpeg_decoder.specs.GrowingView.{GrowsFor, growing_in, is_joint}
use Rattle.jpeg_decoder.specs.Steps.{coding_in}
use Rattle.jpeg_decoder.specs.Strips.{with_strips}
use Rattle.jpeg_decoder.specs.Through.{zero_strips}
use Rattle.jpeg_decoder.proofs.scan.rows.append_rest.Given as goal

abbrev pub invariant-loop : goal.invariant-loop
invariant-loop l = record {
  growing : GrowsFor (map coding_in l.codings) l.planes;
  kind : is_joint l.planes ≡ is_joint l.fn.planes;
  some : 0 < length (growing_in l.planes) → 0 < length (growing_in l.fn.planes);
  strips : zero_strips (l.left - l.counter) (map coding_in l.codings) (growing_in l.planes)
      ≡ zero_strips l.left (map coding_in l.codings)
      (with_strips (map coding_in l.codings) (arrays_in l.fn.rows.items) (growing_in l.fn.planes));
}
