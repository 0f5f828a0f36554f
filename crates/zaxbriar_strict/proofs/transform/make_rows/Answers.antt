use Rattle.std.proofs.Common.{◌≡◌, ◌∙◌, ◌++◌, ◌∷◌, [], List, ℤ, ap, refl, map, replicate}
use Rattle.std.specs.List.{each_same}
use Rattle.std.proofs.lemmas.List.{map-append}
use Rattle.jpeg_meaning.specs.WrittenData.{no_numbers}
use Rattle.zaxbriar_strict.specs.Changes.{block_of}
use Rattle.zaxbriar_strict.proofs.KeptBlocks.{rows-pushed}
use Rattle.zaxbriar_strict.proofs.transform.make_rows.Goals as goal

pub loop-init : goal.loop-init
loop-init c = λ j k. refl

pub loop-preserved : goal.loop-preserved
loop-preserved c = λ j k.
    let rows = c.loop.rows.items in
    let blocks = c.in_ok-blocks.blocks in
    let made : blocks.items ≡ replicate c.args.columns (no_numbers 64) = c.in_ok-blocks.ensures.items_if_clones_equal (λ y h. each_same _ y h.whole) in
    ap (λ (l : List (List (List ℤ))). block_of l j k)
    (ap (map (λ r. r.items)) c.in-Ok.ensures.items ∙ map-append (λ r. r.items) rows (blocks ∷ [])
    ∙ ap (λ (l : List (List ℤ)). map (λ r. r.items) rows ++ l ∷ []) made)
    ∙ rows-pushed (map (λ r. r.items) rows) c.args.columns j k ∙ c.loop.invariant j k
