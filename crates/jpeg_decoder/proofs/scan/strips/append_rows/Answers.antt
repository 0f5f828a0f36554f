use Rattle.std.proofs.Common.{◌≡◌, ◌<◌, [], ℕ, get_or, length, rules}
use Rattle.std.proofs.lemmas.Result.{on_ok_weaker}
use Rattle.jpeg_decoder.proofs.Strips.StripRows.{raster-rows}
use Rattle.jpeg_decoder.proofs.scan.strips.append_rows.Goals as goal

pub returns : goal.returns
returns c =
    let component = c.args.component.now in
    let blocks = c.args.blocks.now in
    let wide : c.from-wide.result ≡ component.block_size.width = search rules in
    let high : c.from.result ≡ c.args.high = search rules in
    let sized : (i : ℕ) → i < length blocks → length (get_or blocks i []) ≡ 64 = search rules in
    on_ok_weaker c.append_strips.result (λ done.
    raster-rows component.dct_scale c.args.table.now c.from-wide.result component.block_size.width c.args.high
    c.from.result blocks c.args.plane.now.items c.append_strips.new.plane.items wide high c.requires.size sized done)
    c.append_strips.ensures.ok
