use Rattle.std.proofs.Common.{◌≡◌, ℕ, ◌<◌, length, None, get_or}
use Rattle.jpeg_meaning.specs.Segments.{updated}
use Rattle.jpeg_decoder.proofs.stream.tables.update.Given as goal

abbrev pub invariant-loop-destination : goal.invariant-loop-destination
invariant-loop-destination g l = record {
  same : updated l.old l.new ≡ updated l.initial.old l.initial.new;
  old_length : length l.old ≡ length l.initial.old;
  new_length : length l.new ≡ length l.initial.new;
  gone : (k : ℕ) → k < l.destination → get_or l.new k None ≡ None;
}
