use Rattle.std.proofs.Common.{◌≡◌, ◌≤◌, ◌*◌, sum_by, take}
use Rattle.jpeg_segments.proofs.scan_header.total.Given as goal

abbrev pub invariant-loop-selector : goal.invariant-loop-selector
invariant-loop-selector l = record {
  sum : l.total ≡ sum_by (λ s. s.blocks) (take l.selector-index l.selectors);
  small : l.total ≤ 65535 * l.selector-index;
}
