use Rattle.std.proofs.Common.{◌≡◌, length, map}
use Rattle.jpeg_lossless.specs.Pictures.{AreWide}
use Rattle.jpeg_lossless.proofs.stretching.zero_lines.Given as goal

abbrev pub invariant-loop : goal.invariant-loop
invariant-loop l = record {
  count : length l.lines.items ≡ l.counter;
  wide : AreWide l.width (map (λ v. v.items) l.lines.items);
}
