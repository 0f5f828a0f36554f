use Rattle.std.proofs.Common.{◌≡◌, ◌*◌, length, take}
use Rattle.std.specs.List.{concat}
use Rattle.jpeg_lossless.proofs.picture.SampleLines.into_picture.Given as goal

abbrev pub invariant-loop-row : goal.invariant-loop-row
invariant-loop-row l = record {
  same : l.self ≡ l.fn.self;
  bytes : l.picture.items ≡ concat (take l.row l.self);
  long : length l.picture.items ≡ l.row * l.size;
}
