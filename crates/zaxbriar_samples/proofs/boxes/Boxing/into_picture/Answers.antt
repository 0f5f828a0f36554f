use Rattle.zaxbriar_samples.proofs.Boxings.{has-all}
use Rattle.zaxbriar_samples.proofs.boxes.Boxing.into_picture.Goals as goal

pub returns : goal.returns
returns c pixels info precision size h = has-all pixels info precision size c.args.self h
