use Rattle.std.proofs.Common.{◌≡◌, ◌≤◌, ◌*◌, arith, drop, length, refl, rules, take}
use Rattle.std.specs.Prelude.{min}
use Rattle.std.proofs.lemmas.Grind.{common_steps}
use Rattle.std.proofs.Math.Nat.{min-le_right}
use Rattle.jpeg_decoder.proofs.Strips.StoredRows.{rest-next, row-appended, rows-appended}
use Rattle.jpeg_decoder.proofs.Strips.StripRows.{drop-none, none-yet, rows-fit}
use Rattle.jpeg_decoder.proofs.scan.strips.append_stored.Goals as goal

pub loop-init : goal.loop-init
loop-init c = grind (arith, common_steps, drop-none, none-yet)

pub split_at-requires : goal.split_at-requires
split_at-requires c = grind (arith, common_steps, min-le_right)

pub loop-preserved : goal.loop-preserved
loop-preserved c =
    let l = c.loop in
    let wide = c.from-wide.result in
    let high = c.args.component.now.block_size.height in
    let stored = c.args.blocks.now in
    let n = high * wide in
    let rest = l.rest.now in
    let row : c.split_at.result.0.now ≡ take (min wide (length rest)) rest = search rules in
    let others : c.split_at.result.1.now ≡ drop (min wide (length rest)) rest = search rules in
    let few : length stored ≤ n = grind (arith, common_steps) in
    let fits = rows-fit l.counter high wide n (grind (arith, common_steps)) refl in (
      rest-next wide l.counter stored rest c.split_at.result.1.now l.invariant.0 others,
      row-appended c.args.component.now.dct_scale wide l.counter n c.args.table.now stored rest
          c.split_at.result.0.now c.args.plane.now.items l.plane.items c.append_row.new.plane.items fits few
          l.invariant.0 row l.invariant.1 (grind (arith, common_steps)),
    )

pub returns : goal.returns
returns c = grind (arith, common_steps, rows-appended)
