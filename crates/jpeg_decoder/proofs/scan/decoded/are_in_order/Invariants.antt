use Rattle.std.proofs.Common.{◌≡◌, ◌<◌, get_or, ℕ}
use Rattle.jpeg_decoder.specs.declared.scan.coded.Coded.{Coded}
use Rattle.jpeg_decoder.proofs.scan.decoded.are_in_order.Given as goal

abbrev pub invariant-loop-slot : goal.invariant-loop-slot
invariant-loop-slot l = (k : ℕ) (d : Coded) → k < l.slot → (get_or l.codings k d).index ≡ k
