use Rattle.zaxbriar_calls.proofs.OwnPlanes.{none-reached, planes-refused}
use Rattle.zaxbriar_calls.specs.declared.extents.Extent.TheVariants.{Planes}
use Rattle.zaxbriar_calls.proofs.decode.decode_planes.Goals as goal

pub returns-in-Err-clause-reaches : goal.returns-in-Err-clause-reaches
returns-in-Err-clause-reaches g c known lines =
    none-reached Planes lines c.in-Err.refusal c.args.decoder.now c.read_planes.new.decoder c.args.samples.now
    c.args.samples.now c.in-Err.ensures.own

pub returns-in-Err-clause-named : goal.returns-in-Err-clause-named
returns-in-Err-clause-named g c known =
    planes-refused c.in-Err.refusal c.args.decoder.now (c.in-Err.ensures.named known)
