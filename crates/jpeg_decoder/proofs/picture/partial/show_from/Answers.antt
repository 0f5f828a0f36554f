use Rattle.std.proofs.Common.{false, sym}
use Rattle.std.proofs.lemmas.Bool.{true≢false}
use Rattle.jpeg_bits.specs.declared.beyond.Beyond.TheVariants.{Nothing}
use Rattle.jpeg_decoder.specs.Walks.{known_if, steps_over}
use Rattle.jpeg_decoder.proofs.Partial.ShownWalks.{walk-bytes, walk-ended}
use Rattle.jpeg_decoder.proofs.picture.partial.show_from.Goals as goal

pub show_ended-requires : goal.show_ended-requires
show_ended-requires g c = record {
  sound = c.read_from-ended.ensures.sound;
  fault = walk-bytes (λ (u : Unit {0}). c.read_from-ended.new.state)
      (λ bytes. steps_over c.args.walk.now.budget.left Nothing c.args.state.now c.args.first bytes)
      (known_if false c.args.source.now) c.read_from-ended.new.source c.read_from-ended.result
      (c.read_from-ended.ensures.reads false (λ is. absurd (true≢false (sym is))));
}

pub returns-clause-shows : goal.returns-clause-shows
returns-clause-shows g c k h =
    c.show_ended.ensures.shows _ (known_if k c.args.source.now) c.read_from-ended.new.source
    (walk-ended (λ (u : Unit {0}). c.read_from-ended.new.state)
    (λ bytes. steps_over c.args.walk.now.budget.left Nothing c.args.state.now c.args.first bytes)
    (known_if k c.args.source.now) c.read_from-ended.new.source c.read_from-ended.result
    c.read_from-ended.new.state c.read_from-ended.new.walk (c.read_from-ended.ensures.reads k h)
    (c.read_from-ended.ensures.leaves k h) (c.read_from-ended.ensures.exceeded k h))
