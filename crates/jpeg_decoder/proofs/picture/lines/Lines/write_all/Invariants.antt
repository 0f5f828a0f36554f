use Rattle.std.proofs.Common.{◌≡◌, ◌*◌, length, take}
use Rattle.std.specs.List.{concat}
use Rattle.jpeg_decoder.proofs.picture.lines.Lines.write_all.Given as goal

abbrev pub invariant-loop-row : goal.invariant-loop-row
invariant-loop-row l = record {
  same : l.self ≡ l.fn.self;
  long : length l.picture ≡ length l.fn.picture;
  written : take (l.row * l.size) l.picture ≡ concat (take l.row l.self);
}
