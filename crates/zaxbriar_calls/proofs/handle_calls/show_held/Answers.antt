use Rattle.std.proofs.Common.{ap}
use Rattle.std.specs.declared.option.Option.TheVariants.{Some}
use Rattle.zaxbriar_calls.specs.Arrived.{Arrived}
use Rattle.zaxbriar_calls.specs.declared.handle.Handle.TheVariants.{Stream}
use Rattle.zaxbriar_calls.proofs.handle_calls.show_held.Goals as goal

pub returns : goal.returns
returns c =
    rw c.in-Stream.is (
      ap (λ (s : Arrived). Some (Stream s)) c.show_into-outcome.ensures.same,
      c.tell.ensures c.in-Stream.stream.options c.in-Stream.stream.bytes c.args.pixels.now
          c.show_into-outcome.new.pixels c.show_into-outcome.ensures.shows,
    )
