use Rattle.std.proofs.Common.{◌∙◌, sym}
use Rattle.zaxbriar_calls.proofs.Outcomes.{stream-decoded}
use Rattle.zaxbriar_calls.specs.declared.extents.Extent.TheVariants.{Partial}
use Rattle.zaxbriar_calls.proofs.fed.show_read.Goals as goal

pub returns : goal.returns
returns c =
    let known = c.in-Ok.ensures.known in
    let same = c.in-Ok.ensures.bytes in
    let done = c.describe-described.ensures in
    rw (sym c.bytes-jpeg.ensures, c.has_exceeded_max_blocks.ensures) (stream-decoded Partial c.args.options.now
    c.bytes-jpeg.result.now c.args.pixels.now c.show_described-decoded.new.pixels c.density_of-density.result
    c.in-Ok.decoder c.describe-described.new.decoder c.show_described-decoded.new.decoder c.args.picture.now
    c.describe-described.new.picture c.bytes_read-picture.result c.describe-described.result
    c.show_described-decoded.result c.requires.known (record {
      source_known = known;
      source_bytes = same;
      reads = done.reads;
      unexceeded = done.exceeded ∙ c.in-Ok.ensures.exceeded;
      info = done.info;
      precision = done.precision;
      oriented = done.oriented;
      lines = done.lines;
      told = done.told;
      within = rw same at (done.within known);
      large = rw same at (done.large known);
      stands = rw same at (done.after known);
      limited = rw same at (done.limited known);
      named = rw same at (done.named known);
      misfit = rw same at (done.misfit known);
      other = done.other;
      whole = done.whole;
      kept = done.kept;
    }) c.show_described-decoded.ensures (record {
      most = c.bytes_read-picture.ensures.most;
      counts = c.bytes_read-picture.ensures.counts;
    }))
