use Rattle.std.proofs.Common.{◌≤◌}
use Rattle.std.specs.List.{AllWithin}
use Rattle.jpeg_decoder.specs.Steps.{coding_in, IsDecided}
use Rattle.jpeg_decoder.specs.declared.scan.coded.Coded.{Coded}
use Rattle.jpeg_decoder.proofs.scan.decoded.Decoded.count_wanted.Given as goal

abbrev pub invariant-loop-slot : goal.invariant-loop-slot
invariant-loop-slot l = record {
  within : l.count ≤ l.slot;
  decided : AllWithin (λ (c : Coded). IsDecided l.self.planes (coding_in c)) l.codings l.count l.slot;
}
