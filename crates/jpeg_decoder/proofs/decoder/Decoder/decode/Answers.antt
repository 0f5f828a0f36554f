use Rattle.std.proofs.Common.{Global, Vec, rules, ℕ}
use Rattle.std.proofs.lemmas.Result.{err_from_is_err_and}
use Rattle.std.specs.List.{concat}
use Rattle.jpeg_decoder.proofs.Pictures.DecodedLines.{decodes-as, decodes-err, decodes-lost, decoded-reading}
use Rattle.jpeg_decoder.proofs.decoder.Decoder.decode.Goals as goal

pub returns-in_err-lines-clause-decodes : goal.returns-in_err-lines-clause-decodes
returns-in_err-lines-clause-decodes g c =
    let p = err_from_is_err_and c.from_residual.result c.from_residual.ensures.1 in
    rw (p.1, p.2) (decodes-err {Y = Vec ℕ Global} concat (λ v. v.items) _ _ _ c.in_err-lines.ensures.decodes)

pub returns-in-Ok-clause-decodes : goal.returns-in-Ok-clause-decodes
returns-in-Ok-clause-decodes g c =
    decodes-as concat (λ v. v.items) _ _ c.in_ok-lines.lines _ c.in-Ok.ensures c.in_ok-lines.ensures.decodes

pub returns-in-Err-clause-decodes : goal.returns-in-Err-clause-decodes
returns-in-Err-clause-decodes g c =
    decodes-lost concat (λ v. v.items) _ _ _ c.in_ok-lines.lines _ c.in-Err.ensures (search rules)
    c.in_ok-lines.ensures.decodes

pub returns-in-Err-clause-still : goal.returns-in-Err-clause-still
returns-in-Err-clause-still g c n =
    absurd (n (decoded-reading c.args.self.now.stage _ c.in_ok-lines.lines c.in_ok-lines.ensures.decodes.stage))
