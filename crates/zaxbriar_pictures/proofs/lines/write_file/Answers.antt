use Rattle.zaxbriar_pictures.proofs.WriterErrors.{refused-of-writer}
use Rattle.zaxbriar_pictures.proofs.lines.write_file.Goals as goal

pub returns-then-not-is_by_lines-clause-refused : goal.returns-then-not-is_by_lines-clause-refused
returns-then-not-is_by_lines-clause-refused g c =
    refused-of-writer c.write_file.result c.write_file.ensures.refused
