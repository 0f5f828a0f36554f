use Rattle.std.proofs.Common.{ℕ, ℤ, [], ◌∷◌, ◌++◌, subst, rules}
use Rattle.std.specs.declared.vec.Vec.{Vec}
use Rattle.std.specs.declared.alloc.Global.{Global}
use Rattle.std.specs.Iterator.{Yields}
use Rattle.jpeg_pixels.proofs.GivenRows.{yields_more, with_rows_more, last_is_row}
use Rattle.jpeg_pixels.proofs.worker.ImmediateWorker.append_rows.Goals as goal

pub append-requires : goal.append-requires
append-requires g c =
    let row : ℕ × Vec ℤ Global = (c.in-Some.index, c.in-Some.coefficients) in
    let rows = c.loop-index.yielded in
    let given = yields_more g.I.Iterator.next_gives c.into_iter-index-iterator.result c.loop-index.index-iterator
    c.next.new.self rows row
    c.loop-index.yielded_by c.in-Some.ensures.steps in
    let are = c.requires.rows (rows ++ row ∷ []) c.next.new.self
    (subst (λ i. Yields g.I.Iterator.next_gives i (rows ++ row ∷ []) c.next.new.self)
    c.into_iter-index-iterator.ensures.into_iter_gives given) in
    let last = last_is_row c.args.self.now rows row are in
    record { index = last.0; row = rw (c.loop-index.invariant, c.deref.ensures.value) last.1 }

pub loop-index-preserved : goal.loop-index-preserved
loop-index-preserved g c = search (rules, with_rows_more)
