use Rattle.std.proofs.Common.{arith}
use Rattle.std.proofs.lemmas.Grind.{common_steps}
use Rattle.jpeg_segments.proofs.TableSegments.{dqt-read, dht-read}
use Rattle.jpeg_segments.proofs.OtherSegments.{dri-read}
use Rattle.jpeg_segments.proofs.ApplicationParts.{app-read}
use Rattle.jpeg_segments.proofs.HeaderSegments.{sof-read, sos-read}
use Rattle.jpeg_segments.proofs.laws.written_segments_are_read.Goals as goal

pub returns : goal.returns
returns c = grind (arith, common_steps, dqt-read, dht-read, dri-read, app-read, sof-read, sos-read)
