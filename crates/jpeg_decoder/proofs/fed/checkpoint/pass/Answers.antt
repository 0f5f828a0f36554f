use Rattle.std.proofs.Common.{List, ℕ, [], ◌++◌, subst, sym}
use Rattle.jpeg_decoder.specs.Fed.{IsCheckpoint}
use Rattle.jpeg_decoder.proofs.Checkpoints.{checkpoint-fed}
use Rattle.jpeg_decoder.proofs.fed.checkpoint.pass.Goals as goal

pub returns-in-Ok-clause-reads : goal.returns-in-Ok-clause-reads
returns-in-Ok-clause-reads c is limit bytes h =
    let old = c.args.checkpoint.now in
    let piece = c.args.piece.now in
    c.in-Ok.ensures.reads limit (bytes ++ piece)
    (subst (λ (rest : List ℕ). IsCheckpoint limit (bytes ++ piece) old.left old.step old.state rest)
    (sym c.in_ok-source.ensures.bytes) (checkpoint-fed limit bytes piece old.left old.step old.state [] h))
