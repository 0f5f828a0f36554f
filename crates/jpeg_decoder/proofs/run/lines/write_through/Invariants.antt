use Rattle.std.proofs.Common.{◌≡◌, ◌++◌, ◌*◌, ◌<◌, ℕ, List, length, take}
use Rattle.std.specs.Io.KnownBytes.{Appends}
use Rattle.std.specs.List.{concat}
use Rattle.jpeg_decoder.proofs.run.lines.write_through.Given as goal

abbrev pub invariant-loop-row : goal.invariant-loop-row
invariant-loop-row g l = record {
  same : l.lines ≡ l.fn.lines;
  piece : (count : ℕ) × (k : ℕ) × (length l.piece ≡ count * l.size) × (l.filled ≡ k * l.size)
      × (k < count);
  written : (w : List ℕ) × Appends (g.W.Write.contents l.fn.writer) (g.W.Write.contents l.writer) w
      × (w ++ take l.filled l.piece ≡ concat (take l.row l.lines));
}
