use Rattle.jpeg_decoder.proofs.ByRows.DecodedRows.{dropped-decoded, reads-end, reads-refused, reads-row}
use Rattle.jpeg_decoder.proofs.decoder.Decoder.read_lines.Goals as goal

pub returns-in-Ok-true-clause-gives : goal.returns-in-Ok-true-clause-gives
returns-in-Ok-true-clause-gives g c start =
    reads-row start _ _ _ _ _ _ _ _ _ c.in-Ok-true.field-0-test c.self.view_is c.in-Ok-true.ensures.goes

pub returns-in-Ok-false-clause-gives : goal.returns-in-Ok-false-clause-gives
returns-in-Ok-false-clause-gives g c start =
    reads-end start _ _ _ c.read_more-more.new.rows c.read_more-more.new.state _ _ _ _ c.in-Ok-false.field-0-test
    c.self.view_is c.in-Ok-false.ensures.goes c.read_more-more.ensures.stays (record {
      told = c.drop_decoded.ensures.told;
      emptied = c.drop_decoded.ensures.emptied;
    })

pub returns-in-Err-clause-gives : goal.returns-in-Err-clause-gives
returns-in-Err-clause-gives g c start =
    reads-refused start _ _ _ c.read_more-more.new.rows c.read_more-more.new.state _ _ _ _ c.self.view_is
    c.in-Err.ensures.goes c.read_more-more.ensures.stays (record {
      told = c.drop_decoded-in-Err.ensures.told;
      emptied = c.drop_decoded-in-Err.ensures.emptied;
    })

pub invariant_of-self-in-Ok-false : goal.invariant_of-self-in-Ok-false
invariant_of-self-in-Ok-false g c =
    let there = dropped-decoded c.args.self.now _ c.args.rows.now c.read_more-more.new.state c.drop_decoded.new.state
    c.requires.giving c.self.view_is c.read_more-more.ensures.stays c.drop_decoded.ensures.told
    c.in-Ok-false.ensures.frames in
    (λ e. absurd cc, λ _. there.0, λ _. there.1, λ e. absurd cc, λ k. absurd k)
