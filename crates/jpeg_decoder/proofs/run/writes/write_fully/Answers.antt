use Rattle.std.proofs.Common.{rules, take, length}
use Rattle.std.proofs.lemmas.Result.{err_from_is_err_and}
use Rattle.std.specs.Io.KnownBytes.{Appends}
use Rattle.jpeg_meaning.proofs.Written.WriterLemmas.{Took-more, Took-kept}
use Rattle.jpeg_decoder.specs.Writes.{all_interrupted}
use Rattle.jpeg_decoder.proofs.Interrupted.{stops-failed, stops-none, some-left}
use Rattle.jpeg_decoder.proofs.run.writes.write_fully.Goals as goal

pub loop-rest-preserved : goal.loop-rest-preserved
loop-rest-preserved g c =
    let taken : Appends (g.W.Write.contents c.loop-rest.writer) (g.W.Write.contents c.write_by_turns.new.writer)
    (take c.in_ok-count-in-Some.count c.loop-rest.rest.now) = search rules in
    rw c.split_at.ensures.back (Took-more c.args.bytes.now c.loop-rest.rest.now _ _ _ c.in_ok-count-in-Some.count
    c.loop-rest.invariant taken)

pub returns-in-None-clause-err : goal.returns-in-None-clause-err
returns-in-None-clause-err g c =
    let kept = Took-kept c.args.bytes.now c.loop-rest.rest.now _ _ _ c.loop-rest.invariant
    c.in-None.ensures.kept in
    (kept.0, c.loop-rest.rest.now, kept.1, kept.2)

pub returns-in_err-count-in-Some-clause-stops : goal.returns-in_err-count-in-Some-clause-stops
returns-in_err-count-in-Some-clause-stops g c =
    let p = err_from_is_err_and c.from_residual.result c.from_residual.ensures.1 in
    let later = rw c.in_err-count-in-Some.was at c.in-Some.ensures.answered in
    let kind = rw c.in_err-count-in-Some.was at c.in-Some.ensures.passed_on in
    rw (p.1, p.2) (stops-failed g.W.Offered.answers c.loop-rest.writer c.write_by_turns.new.writer c.loop-rest.rest.now _
    later kind)

pub returns-then-count-eq0-clause-stops : goal.returns-then-count-eq0-clause-stops
returns-then-count-eq0-clause-stops g c =
    let later = rw c.in_ok-count-in-Some.was at c.in-Some.ensures.answered in
    stops-none g.W.Offered.answers c.loop-rest.writer c.write_by_turns.new.writer c.loop-rest.rest.now
    c.in_ok-count-in-Some.count c.new-error.result later c.if-count-eq0.true
    (some-left (length c.loop-rest.rest.now) c.loop-rest-test.ensures) c.new-error.ensures.kind

pub returns-in-None-clause-stops : goal.returns-in-None-clause-stops
returns-in-None-clause-stops g c =
    all_interrupted (c.loop-rest.writer, c.write_by_turns.new.writer, c.in-None.ensures.given_up) tt
