use Rattle.std.proofs.Common.{◌≡◌, ℕ, List, Option, true}
use Rattle.jpeg_meaning.specs.Sound.{IsSound}
use Rattle.jpeg_decoder.specs.Fed.{IsCheckpoint}
use Rattle.jpeg_decoder.specs.Walks.{IsGoing}
use Rattle.jpeg_decoder.proofs.fed.checkpoint.read_all.Given as goal

abbrev pub invariant-loop : goal.invariant-loop
invariant-loop l = record {
  reads : (limit : Option ℕ) (bytes : List ℕ)
      → IsCheckpoint limit bytes l.fn.walk.budget.left l.fn.first l.fn.state l.fn.source.bytes
      → IsCheckpoint limit bytes l.walk.budget.left l.last l.state l.source.bytes;
  known : l.source.known ≡ true;
  going : IsGoing l.walk;
  sound : IsSound l.state;
}
