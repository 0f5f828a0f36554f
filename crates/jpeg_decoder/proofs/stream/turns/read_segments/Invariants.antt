use Rattle.std.proofs.Common.{◌≡◌, ◌<◌, true, None, is_some}
use Rattle.jpeg_bits.specs.Reading.{IsShort}
use Rattle.jpeg_meaning.specs.Sound.{IsSound, IsUnread}
use Rattle.jpeg_decoder.specs.Walks.{IsGoing}
use Rattle.jpeg_decoder.proofs.Segments.TurnLoops.{IsWalked, onward_step}
use Rattle.jpeg_decoder.proofs.stream.turns.read_segments.Given as goal

abbrev pub invariant-loop : goal.invariant-loop
invariant-loop g l = record {
  walked : IsWalked l.fn.walk.budget.left l.fn.beyond l.fn.header onward_step l.fn.state l.fn.source l.counter
      l.walk.budget.left l.last l.state l.source;
  going : IsGoing l.walk;
  short : 0 < l.counter → IsShort l.fn.source;
  stays : is_some l.fn.state.said.frame ≡ true → l.state.said.frame ≡ l.fn.state.said.frame;
  sound : IsSound l.state;
  unread : l.fn.header ≡ true → l.fn.state.said.frame ≡ None → IsUnread l.state;
  first : l.counter ≡ 0 → (l.last.met ≡ None) × (l.source ≡ l.fn.source);
}
