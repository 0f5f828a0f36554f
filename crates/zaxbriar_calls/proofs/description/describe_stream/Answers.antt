use Rattle.std.proofs.Common.{arith, ◌≡◌, ◌∙◌, true}
use Rattle.zaxbriar_calls.proofs.Outcomes.{stream-described}
use Rattle.zaxbriar_calls.specs.Limits.{are_known}
use Rattle.zaxbriar_calls.proofs.description.describe_stream.Goals as goal

pub returns : goal.returns
returns c =
    let known = c.in_ok-decoder.ensures.known in
    let same = c.in_ok-decoder.ensures.bytes in
    let done = c.describe-described.ensures in
    let asked : are_known c.args.options.now ≡ true = grind arith in
    stream-described c.args.options.now c.args.jpeg.now c.density_of-density.result c.in_ok-decoder.decoder
    c.describe-described.new.decoder c.args.picture.now c.describe-described.new.picture c.bytes_read-picture.result
    c.describe-described.result asked (record {
      source_known = known;
      source_bytes = same;
      reads = done.reads;
      unexceeded = done.exceeded ∙ c.in_ok-decoder.ensures.exceeded;
      info = done.info;
      precision = done.precision;
      oriented = done.oriented;
      lines = done.lines;
      told = done.told;
      within = rw same at (done.within known);
      large = rw same at (done.large known);
      stands = rw same at (done.after known);
      limited = rw same at (done.limited known);
      named = rw same at (done.named known);
      misfit = rw same at (done.misfit known);
      other = done.other;
      whole = done.whole;
      kept = done.kept;
    }) done.rowless (record {
      most = c.bytes_read-picture.ensures.most;
      counts = c.bytes_read-picture.ensures.counts;
    })
