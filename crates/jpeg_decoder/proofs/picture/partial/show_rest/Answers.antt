use Rattle.jpeg_meaning.specs.Stream.{all_brought}
use Rattle.jpeg_decoder.proofs.Partial.ShownWalks.{walk-bytes, walk-ended}
use Rattle.jpeg_decoder.proofs.picture.partial.show_rest.Goals as goal

pub show_ended-requires : goal.show_ended-requires
show_ended-requires g c = record {
  sound = c.read_segments-ended.ensures.sound;
  fault = walk-bytes (λ (u : Unit {0}). c.read_segments-ended.new.state)
      (λ bytes. all_brought c.args.settings.max_blocks c.args.state.now bytes) c.args.source.now
      c.read_segments-ended.new.source c.read_segments-ended.result c.read_segments-ended.ensures.reads;
}

pub returns-clause-shows : goal.returns-clause-shows
returns-clause-shows g c =
    c.show_ended.ensures.shows _ c.args.source.now c.read_segments-ended.new.source
    (walk-ended (λ (u : Unit {0}). c.read_segments-ended.new.state)
    (λ bytes. all_brought c.args.settings.max_blocks c.args.state.now bytes) c.args.source.now
    c.read_segments-ended.new.source c.read_segments-ended.result c.read_segments-ended.new.state
    c.read_segments-ended.new.walk c.read_segments-ended.ensures.reads c.read_segments-ended.ensures.leaves
    c.read_segments-ended.ensures.exceeded)
