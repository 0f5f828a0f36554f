use Rattle.std.proofs.Common.{◌≡◌}
use Rattle.jpeg_pixels.specs.Workers.{with_rows}
use Rattle.jpeg_pixels.proofs.worker.ImmediateWorker.append_rows.Given as goal

abbrev pub invariant-loop-index : goal.invariant-loop-index
invariant-loop-index g l = l.self ≡ with_rows l.fn.self l.yielded
