use Rattle.std.proofs.Common.{rules, ◌≡◌, ◌∙◌, [], ap, true}
use Rattle.std.specs.Prelude.{is_ok}
use Rattle.jpeg_bits.specs.Entropy.{Ahead}
use Rattle.jpeg_decoder.proofs.ByRows.LaterRows.{settled-by}
use Rattle.jpeg_decoder.proofs.by_rows.arriving.is_settled.Goals as goal

pub returns : goal.returns
returns g c ok known =
    let is : is_ok c.take_marker.result ≡ true = search rules in
    settled-by c.args.decoder.now c.reset.new.self c.take_marker.result c.args.source.now c.take_marker.new.source
    (c.reset.ensures ∙ ap (λ (a : Ahead). record a { bits = [] }) c.copied-ahead.ensures)
    c.take_marker.ensures.answers is known
