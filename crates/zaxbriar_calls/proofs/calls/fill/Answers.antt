use Rattle.zaxbriar_calls.proofs.calls.fill.Goals as goal

pub returns : goal.returns
returns c =
    c.tell.ensures c.args.options.now c.args.jpeg.now c.args.pixels.now c.decode_into-outcome.new.pixels
    c.decode_into-outcome.ensures
