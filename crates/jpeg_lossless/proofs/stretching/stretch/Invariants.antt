use Rattle.std.proofs.Common.{◌≡◌, take}
use Rattle.jpeg_lossless.proofs.StretchedLines.{IsColumn, stretched}
use Rattle.jpeg_lossless.proofs.stretching.stretch.Given as goal

abbrev pub invariant-loop-x : goal.invariant-loop-x
invariant-loop-x l = record {
  column : IsColumn l.factor l.most l.x l.column l.rest;
  line : take l.x l.line ≡ stretched l.own l.factor l.most l.x;
}
