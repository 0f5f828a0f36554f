use Rattle.std.proofs.Common.{inl, ◌++◌}
use Rattle.std.proofs.lemmas.Result.{err_from_is_err_and}
use Rattle.zaxbriar_pictures.proofs.ReadRows.{all-given, fewer-left, more-given, outside-rows}
use Rattle.zaxbriar_pictures.proofs.WriterErrors.{of-writer}
use Rattle.zaxbriar_pictures.proofs.by_rows.take_rows.Goals as goal

pub loop-is_more-init : goal.loop-is_more-init
loop-is_more-init g c = record {
  given = λ start bytes h. (bytes, h);
  taken = λ start plan bytes before h t. record {
    bytes = bytes;
    given = h;
    taken = t;
  };
}

pub loop-is_more-preserved : goal.loop-is_more-preserved
loop-is_more-preserved g c = record {
  given = λ start bytes h.
      let k = c.loop-is_more.invariant.given start bytes h in (
        k.0 ++ c.lines.result.now,
        c.in_ok-is_more.ensures.gives start (k.0 ++ c.lines.result.now) (more-given start k.0 c.lines.result.now
            c.loop-is_more.is_more c.loop-is_more.rows c.loop-is_more-test.true k.1 c.lines.ensures),
      );
  taken = λ start plan bytes before h t.
      let k = c.loop-is_more.invariant.taken start plan bytes before h t in record {
        bytes = k.bytes ++ c.lines.result.now;
        given = c.in_ok-is_more.ensures.gives start (k.bytes ++ c.lines.result.now) (more-given start k.bytes
            c.lines.result.now c.loop-is_more.is_more c.loop-is_more.rows c.loop-is_more-test.true k.given
            c.lines.ensures);
        taken = c.in_ok-take.ensures.taken plan k.bytes before k.taken;
      };
}

pub loop-is_more-smaller : goal.loop-is_more-smaller
loop-is_more-smaller g c =
    fewer-left c.loop-is_more.is_more _ _ _ c.loop-is_more-test.true c.in_ok-is_more.ensures.fewer

pub returns-clause-taken : goal.returns-clause-taken
returns-clause-taken g c start plan bytes before h t =
    let k = c.loop-is_more.invariant.taken start plan bytes before h t in (
      k.bytes,
      all-given start k.bytes c.loop-is_more.is_more c.loop-is_more.rows c.loop-is_more-test.false k.given,
      k.taken,
    )

-- ---- refusals

pub returns-in_err-is_more-clause-refused : goal.returns-in_err-is_more-clause-refused
returns-in_err-is_more-clause-refused g c start bytes h =
    let k = c.loop-is_more.invariant.given start bytes h in
    let p = err_from_is_err_and c.from_residual-in_err-is_more.result c.from_residual-in_err-is_more.ensures.1 in
    rw (p.1, p.2) (inl (
      c.read.new.self.decoder,
      k.0 ++ c.lines.result.now,
      c.in_err-is_more.ensures.gives start (k.0 ++ c.lines.result.now) (more-given start k.0 c.lines.result.now
          c.loop-is_more.is_more c.loop-is_more.rows c.loop-is_more-test.true k.1 c.lines.ensures),
    ))

pub returns-in_err-take-clause-refused : goal.returns-in_err-take-clause-refused
returns-in_err-take-clause-refused g c start bytes h =
    let p = err_from_is_err_and c.from_residual.result c.from_residual.ensures.1 in
    rw (p.1, p.2) (outside-rows start _ (of-writer _ c.in_err-take.ensures.refused))
