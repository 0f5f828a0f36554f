use Rattle.std.proofs.Common.{◌∙◌, rules}
use Rattle.std.proofs.lemmas.Bool.{and_parts}
use Rattle.zaxbriar_calls.proofs.Outcomes.{stream-described}
use Rattle.zaxbriar_calls.proofs.PlainLines.{header-line, none-taken}
use Rattle.zaxbriar_calls.proofs.TakenSteps.{described-err, described-ok}
use Rattle.zaxbriar_calls.specs.Limits.{are_known}
use Rattle.zaxbriar_calls.specs.TakenLines.{is_plain}
use Rattle.zaxbriar_calls.proofs.rows.begin.Goals as goal

pub returns-in-Err-clause-described : goal.returns-in-Err-clause-described
returns-in-Err-clause-described c =
    let same = c.in_ok-decoder.ensures.bytes in
    let done = c.describe-described.ensures in
    let known = c.in_ok-decoder.ensures.known in
    described-err c.args.options.now c.args.jpeg.now c.args.picture.now _ c.describe-described.result c.in-Err.refusal
    c.in-Err.is
    (stream-described c.args.options.now c.args.jpeg.now c.density_of-density.result c.in_ok-decoder.decoder
    c.describe-described.new.decoder c.args.picture.now c.describe-described.new.picture c.bytes_read-picture.result
    c.describe-described.result
    (and_parts (are_known c.args.options.now) (is_plain c.args.options.now) c.requires.known).0 (record {
      source_known = known;
      source_bytes = same;
      reads = done.reads;
      unexceeded = done.exceeded ∙ c.in_ok-decoder.ensures.exceeded;
      info = done.info;
      precision = done.precision;
      oriented = done.oriented;
      lines = done.lines;
      told = done.told;
      within = rw same at (done.within known);
      large = rw same at (done.large known);
      stands = rw same at (done.after known);
      limited = rw same at (done.limited known);
      named = rw same at (done.named known);
      misfit = rw same at (done.misfit known);
      other = done.other;
      whole = done.whole;
      kept = done.kept;
    }) done.rowless (record {
      most = c.bytes_read-picture.ensures.most;
      counts = c.bytes_read-picture.ensures.counts;
    }))

pub returns-in-Ok-clause-described : goal.returns-in-Ok-clause-described
returns-in-Ok-clause-described c =
    let same = c.in_ok-decoder.ensures.bytes in
    let done = c.describe-described.ensures in
    let known = c.in_ok-decoder.ensures.known in
    described-ok c.args.options.now c.args.jpeg.now c.args.picture.now _ c.describe-described.result _ _ c.in-Ok.is
    (stream-described c.args.options.now c.args.jpeg.now c.density_of-density.result c.in_ok-decoder.decoder
    c.describe-described.new.decoder c.args.picture.now c.describe-described.new.picture c.bytes_read-picture.result
    c.describe-described.result
    (and_parts (are_known c.args.options.now) (is_plain c.args.options.now) c.requires.known).0 (record {
      source_known = known;
      source_bytes = same;
      reads = done.reads;
      unexceeded = done.exceeded ∙ c.in_ok-decoder.ensures.exceeded;
      info = done.info;
      precision = done.precision;
      oriented = done.oriented;
      lines = done.lines;
      told = done.told;
      within = rw same at (done.within known);
      large = rw same at (done.large known);
      stands = rw same at (done.after known);
      limited = rw same at (done.limited known);
      named = rw same at (done.named known);
      misfit = rw same at (done.misfit known);
      other = done.other;
      whole = done.whole;
      kept = done.kept;
    }) done.rowless (record {
      most = c.bytes_read-picture.ensures.most;
      counts = c.bytes_read-picture.ensures.counts;
    }))

pub returns-in-Ok-clause-begins : goal.returns-in-Ok-clause-begins
returns-in-Ok-clause-begins c =
    let done = c.in-Ok.ensures in
    let line = header-line c.args.options.now c.in_ok-decoder.decoder c.describe-described.new.decoder _ _ _ _
    c.requires.known c.in_ok-decoder.ensures.known done.reads done.lines done.info done.precision in
    let taken = none-taken c.describe-described.new.decoder _ c.new.result c.new.ensures done.reads.stage line in
    search rules
