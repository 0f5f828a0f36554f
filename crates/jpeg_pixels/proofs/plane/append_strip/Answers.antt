use Rattle.std.proofs.Common.{◌∙◌, ◌++◌, List, ℕ, ap}
use Rattle.std.proofs.lemmas.Result.{on_ok_weaker}
use Rattle.jpeg_pixels.proofs.PlaneRows.{one-row}
use Rattle.jpeg_pixels.proofs.plane.append_strip.Goals as goal

pub returns-clause-ok : goal.returns-clause-ok
returns-clause-ok c =
    on_ok_weaker c.append_strips.result (λ e. e ∙ ap (λ (l : List ℕ). c.args.plane.now.items ++ l)
    (one-row c.args.scale c.args.table.now c.args.blocks.now)) c.append_strips.ensures.ok
