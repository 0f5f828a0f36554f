use Rattle.std.proofs.Common.{◌∙◌}
use Rattle.std.proofs.lemmas.Bool.{and_parts}
use Rattle.zaxbriar_calls.proofs.Outcomes.{stream-described}
use Rattle.zaxbriar_calls.proofs.TakenSteps.{described-err, described-ok}
use Rattle.zaxbriar_calls.specs.Limits.{are_known, is_full_size}
use Rattle.zaxbriar_calls.specs.TakenLines.{are_for_rows, is_plain}
use Rattle.zaxbriar_calls.proofs.fed_rows.describe_settings.Goals as goal

pub returns-in-Ok-clause-described : goal.returns-in-Ok-clause-described
returns-in-Ok-clause-described c =
    let same = c.in_ok-decoder.ensures.bytes in
    let done = c.describe-described.ensures in
    let known = c.in_ok-decoder.ensures.known in
    let options = c.args.options.now in
    described-ok options c.args.jpeg.now c.args.picture.now _ c.describe-described.result _ _ c.in-Ok.is
    (stream-described options c.args.jpeg.now c.density_of.result c.in_ok-decoder.decoder
    c.describe-described.new.decoder c.args.picture.now c.describe-described.new.picture c.bytes_read-picture.result
    c.describe-described.result
    (and_parts (are_known options) (is_plain options)
    (and_parts (are_for_rows options) (is_full_size options) c.requires.known).0).0 (record {
      source_known = known;
      source_bytes = same;
      reads = done.reads;
      unexceeded = done.exceeded ∙ c.in_ok-decoder.ensures.exceeded;
      info = done.info;
      precision = done.precision;
      oriented = done.oriented;
      lines = done.lines;
      told = done.told;
      within = rw same at (done.within known);
      large = rw same at (done.large known);
      stands = rw same at (done.after known);
      limited = rw same at (done.limited known);
      named = rw same at (done.named known);
      misfit = rw same at (done.misfit known);
      other = done.other;
      whole = done.whole;
      kept = done.kept;
    }) done.rowless (record {
      most = c.bytes_read-picture.ensures.most;
      counts = c.bytes_read-picture.ensures.counts;
    }))

pub returns-clause-described : goal.returns-clause-described
returns-clause-described c =
    let same = c.in_ok-decoder.ensures.bytes in
    let done = c.describe-described.ensures in
    let known = c.in_ok-decoder.ensures.known in
    let options = c.args.options.now in
    described-err options c.args.jpeg.now c.args.picture.now _ c.describe-described.result c.in-Err.refusal
    c.in-Err.is
    (stream-described options c.args.jpeg.now c.density_of.result c.in_ok-decoder.decoder
    c.describe-described.new.decoder c.args.picture.now c.describe-described.new.picture c.bytes_read-picture.result
    c.describe-described.result
    (and_parts (are_known options) (is_plain options)
    (and_parts (are_for_rows options) (is_full_size options) c.requires.known).0).0 (record {
      source_known = known;
      source_bytes = same;
      reads = done.reads;
      unexceeded = done.exceeded ∙ c.in_ok-decoder.ensures.exceeded;
      info = done.info;
      precision = done.precision;
      oriented = done.oriented;
      lines = done.lines;
      told = done.told;
      within = rw same at (done.within known);
      large = rw same at (done.large known);
      stands = rw same at (done.after known);
      limited = rw same at (done.limited known);
      named = rw same at (done.named known);
      misfit = rw same at (done.misfit known);
      other = done.other;
      whole = done.whole;
      kept = done.kept;
    }) done.rowless (record {
      most = c.bytes_read-picture.ensures.most;
      counts = c.bytes_read-picture.ensures.counts;
    }))
