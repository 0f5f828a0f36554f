use Rattle.std.proofs.Common.{◌≡◌, length}
use Rattle.zaxbriar_strict.specs.Progress.{NotesBand}
use Rattle.zaxbriar_strict.proofs.scan.note_band.Given as goal

abbrev pub invariant-loop-place : goal.invariant-loop-place
invariant-loop-place l = record {
  sized : length l.lowest ≡ length l.fn.lowest;
  noted : NotesBand l.fn.band.0 l.place l.before l.low l.fn.lowest l.lowest;
}
