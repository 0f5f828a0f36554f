use Rattle.std.proofs.lemmas.Grind.{common_steps}
use Rattle.std.proofs.Common.{◌≡◌, ◌∙◌, ◌<◌, arith, length, sym, below_more, get_or-set_other}
use Rattle.std.proofs.Common.{get_or-set_same, length-set}
use Rattle.jpeg_meaning.proofs.ProfileLemmas.{moved-some, moved-none, updated-none}
use Rattle.jpeg_decoder.proofs.stream.tables.update.Goals as goal
use Rattle.jpeg_decoder.proofs.stream.tables.update.Goals.{in-Some+in-Some-1, in-Some+in-None-1}
use Rattle.jpeg_decoder.proofs.stream.tables.update.Goals.{in_default}

pub returns : goal.returns
returns g c = sym (updated-none _ _ (λ k h. c.loop-destination.invariant.gone k (omega arith))) ∙
    c.loop-destination.invariant.same

pub loop-destination-preserved : goal.loop-destination-preserved
loop-destination-preserved g c =
    let few : c.loop-destination.destination < length c.loop-destination.old = omega arith in
    let same_length : length c.loop-destination.old ≡ length c.loop-destination.new = omega arith in
    let room : c.loop-destination.destination < length c.loop-destination.new = omega arith in
    record {
      same = grind (arith, common_steps, in-Some+in-Some-1, moved-some, in-Some+in-None-1, in_default, moved-none);
      old_length = omega arith;
      new_length = omega (
        arith,
        length-set c.loop-destination.new c.loop-destination.destination
            c.take.new.self,
      );
      gone = grind (arith, common_steps, below_more, get_or-set_other, get_or-set_same);
    }
