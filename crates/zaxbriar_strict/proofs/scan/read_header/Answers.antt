use Rattle.zaxbriar_strict.proofs.ScanHeaders.{reads-header}
use Rattle.zaxbriar_strict.proofs.scan.read_header.Goals as goal

pub returns-in-Ok-note : goal.returns-in-Ok-note
returns-in-Ok-note c = λ made.
    reads-header c.args.part.rest.now c.in-Ok.scan c.args.frame.now c.note.new.frame c.in-Ok.ensures
    c.in-Ok-note.ensures made
