use Rattle.std.proofs.Common.{◌≡◌, ◌<◌, slice_index_or, ℕ}
use Rattle.jpeg_decoder.specs.declared.scan.coded.Coded.{Coded}
use Rattle.jpeg_decoder.proofs.scan.coded.wants_ac.Given as goal

abbrev pub invariant-loop-coded : goal.invariant-loop-coded
invariant-loop-coded l = (k : ℕ) (d : Coded) → k < l.coded-index
    → (slice_index_or l.codings k d).component.now.dct_scale ≡ 1
