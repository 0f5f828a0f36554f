use Rattle.std.proofs.Common.{◌≡◌, ◌∙◌, ap, refl, sym, get_or, length, replicate, List, ℤ, pos, arith}
use Rattle.std.proofs.lemmas.List.{with_items_is}
use Rattle.std.specs.Vec.{with_items}
use Rattle.jpeg_decoder.proofs.Kept.BlockArrays.{Held}
use Rattle.jpeg_decoder.proofs.Strips.RowBuffers.{cleared-next}
use Rattle.jpeg_decoder.proofs.scan.strips.clear_rows.Goals as goal

pub loop-row-preserved : goal.loop-row-preserved
loop-row-preserved c =
    let l = c.loop-row in
    let v : Held = get_or l.row-items l.row-index c.row-item.result in
    let is : v ≡ get_or l.row-items l.row-index v = ap (λ (d : Held). get_or l.row-items l.row-index d) c.row-item.is in
    let new = c.clear_blocks.new.blocks in
    let same : length new ≡ length v.blocks.items = c.clear_blocks.auto.blocks
    ∙ ap (λ (x : List (List ℤ)). length x) c.deref_mut.ensures.value in
    let zeros : new ≡ replicate (length v.blocks.items) (replicate 64 (pos 0))
    = c.clear_blocks.ensures ∙ ap (λ (x : List (List ℤ)). replicate (length x) (replicate 64
    (pos 0))) c.deref_mut.ensures.value in
    cleared-next c.args.rows.now.items l.row-items l.row-index v (record { blocks = with_items v.blocks new; count = v.count })
    (omega arith) l.invariant.0 l.invariant.1 is refl
    (with_items_is v.blocks new (same ∙ sym v.blocks.ok.0) ∙ zeros)
