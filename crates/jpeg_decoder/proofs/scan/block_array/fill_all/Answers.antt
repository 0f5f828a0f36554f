use Rattle.std.proofs.Common.{rules, ◌≡◌, ◌∙◌, ap, get_or, length, List}
use Rattle.jpeg_bits.specs.Passes.{Block}
use Rattle.jpeg_decoder.proofs.Kept.BlockArrays.{arrays-same, full-next, sizes-put}
use Rattle.jpeg_decoder.proofs.scan.block_array.fill_all.Goals as goal

pub loop-slot-preserved : goal.loop-slot-preserved
loop-slot-preserved c =
    let l = c.loop-slot in
    let vs = l.arrays.items in
    let v = c.index_mut.result.now in
    let w = c.fill.new.self in
    let is : v ≡ get_or vs l.slot v = c.index_mut.ensures.value in
    let same = c.in_ok-fill.ensures.blocks in
    record {
      within = search rules;
      arrays = arrays-same vs l.slot v w is same ∙ l.invariant.arrays;
      sizes = sizes-put vs l.slot v w (ap (λ (b : List Block). length b) same) is ∙ l.invariant.sizes;
      full = full-next vs l.slot w (search rules) c.in_ok-fill.ensures.full l.invariant.full;
    }

pub returns-in_err-fill-clause-sizes : goal.returns-in_err-fill-clause-sizes
returns-in_err-fill-clause-sizes c =
    let l = c.loop-slot in
    sizes-put l.arrays.items l.slot c.index_mut.result.now c.fill.new.self
    (ap (λ (b : List Block). length b) c.in_err-fill.ensures.blocks) c.index_mut.ensures.value ∙ l.invariant.sizes
