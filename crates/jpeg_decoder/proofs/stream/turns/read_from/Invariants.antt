use Rattle.std.proofs.Common.{◌≡◌, true, false, is_some}
use Rattle.jpeg_meaning.specs.Sound.{IsSound}
use Rattle.jpeg_decoder.specs.Walks.{IsGoing}
use Rattle.jpeg_decoder.proofs.Segments.TurnLoops.{IsWalked}
use Rattle.jpeg_decoder.proofs.stream.turns.read_from.Given as goal

abbrev pub invariant-loop : goal.invariant-loop
invariant-loop g l = record {
  walked : IsWalked l.fn.walk.budget.left l.fn.beyond false l.fn.first l.fn.state l.fn.source l.counter l.walk.budget.left
      l.last l.state l.source;
  going : IsGoing l.walk;
  stays : is_some l.fn.state.said.frame ≡ true → l.state.said.frame ≡ l.fn.state.said.frame;
  sound : IsSound l.state;
}
