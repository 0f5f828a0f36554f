use Rattle.std.proofs.Common.{sym}
use Rattle.jpeg_segments.specs.HuffmanTables.{class_of}
use Rattle.zaxbriar_strict.specs.Tables.{codes_in}
use Rattle.zaxbriar_strict.proofs.transform.check_codes.Goals as goal

pub returns : goal.returns
returns c = λ small near. record {
  table = codes_in (class_of c.args.class) c.in-Some.table.now;
  is = sym (c.in-Some.ensures small near);
}
