use Rattle.std.proofs.Common.{ℕ, Some, ap, ◌∙◌, set}
use Rattle.zaxbriar_strict.proofs.Installs.{class-put, codes_by}
use Rattle.zaxbriar_strict.proofs.tables.Tables.put_codes.Goals as goal

pub returns-in-Some-clause-codes : goal.returns-in-Some-clause-codes
returns-in-Some-clause-codes c = λ classed placed.
    let items = c.args.self.now.codes.items in
    ap (λ (k : ℕ). codes_by (set items k (Some c.args.table))) c.place_of.ensures
    ∙ class-put items c.args.class c.args.destination c.args.table classed placed
