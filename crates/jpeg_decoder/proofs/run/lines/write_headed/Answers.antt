use Rattle.std.proofs.lemmas.Result.{on_err_weaker, err_from_is_err_and}
use Rattle.std.specs.List.{concat}
use Rattle.jpeg_meaning.proofs.Written.WriterLemmas.{TakesBeginning-front, TakesBeginning-after}
use Rattle.jpeg_decoder.proofs.run.lines.write_headed.Goals as goal

pub returns-in_err-write_fully-clause-err : goal.returns-in_err-write_fully-clause-err
returns-in_err-write_fully-clause-err g c =
    let p = err_from_is_err_and c.from_residual.result c.from_residual.ensures.1 in
    rw p.1 (TakesBeginning-front _ _ c.args.head.now (concat c.args.lines.now) c.in_err-write_fully.ensures.err)

pub returns-clause-err : goal.returns-clause-err
returns-clause-err g c = on_err_weaker c.write_through.result (λ h. TakesBeginning-after _ _ _ c.args.head.now
    (concat c.args.lines.now) c.in_ok-write_fully.ensures.ok h) c.write_through.ensures.err
