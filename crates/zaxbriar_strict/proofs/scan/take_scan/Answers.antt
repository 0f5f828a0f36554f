use Rattle.std.proofs.Common.{refl}
use Rattle.std.specs.Prelude.{slice_index_or}
use Rattle.zaxbriar_strict.proofs.ScanHeaders.{takes-scan, three-are}
use Rattle.zaxbriar_strict.proofs.scan.take_scan.Goals as goal

pub returns : goal.returns
returns c =
    let after = c.take_members.new.part.rest.now in
    let is = c.in_ok-members.ensures in
    takes-scan c.args.frame.now _ c.in-Some.count (slice_index_or after 2 0) c.args.part.rest.now _ after c.from.ensures
    is.some is.most is.sized c.in-Some.ensures is.bytes
    (three-are after c.in-len3.len_at_least c.in-len3.len_below) refl refl is.members
