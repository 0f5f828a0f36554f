use Rattle.std.proofs.Common.{◌≡◌, ◌+◌, ◌*◌, Option, None, Some, ap, sym, ◌∙◌, get_or, arith}
use Rattle.std.specs.Prelude.{option_map}
use Rattle.std.proofs.lemmas.Grind.{common_steps}
use Rattle.jpeg_segments.specs.HuffmanTables.{class_of}
use Rattle.zaxbriar_strict.specs.Tables.{codes_in}
use Rattle.zaxbriar_strict.specs.declared.huffman.HuffmanTable.{HuffmanTable}
use Rattle.zaxbriar_strict.proofs.Installs.{class-at}
use Rattle.zaxbriar_strict.proofs.tables.Tables.codes.Goals as goal
use Rattle.zaxbriar_strict.proofs.tables.Tables.codes.Goals.{in_default-via-in-Some+in_default, in_default-via-in_default}

pub returns-in-Some-Some : goal.returns-in-Some-Some
returns-in-Some-Some c = λ classed placed.
    let items = c.args.self.now.codes.items in
    let t = c.in-Some-Some.table in
    let found : get_or items (4 * c.args.class + c.args.destination) None ≡ Some t = grind (arith, common_steps) in
    ap (λ (o : Option HuffmanTable). option_map (codes_in (class_of c.args.class)) o) (sym found)
    ∙ class-at items c.args.class c.args.destination classed placed

pub returns-in_default : goal.returns-in_default
returns-in_default c = λ classed placed.
    let items = c.args.self.now.codes.items in
    let found : get_or items (4 * c.args.class + c.args.destination) None ≡ None =
    elim c.in_default.branch [
      | in_default-via-in-Some+in_default w ↦ grind (arith, common_steps)
      | in_default-via-in_default w ↦ grind (arith, common_steps)
    ] in
    ap (λ (o : Option HuffmanTable). option_map (codes_in (class_of c.args.class)) o) (sym found)
    ∙ class-at items c.args.class c.args.destination classed placed
