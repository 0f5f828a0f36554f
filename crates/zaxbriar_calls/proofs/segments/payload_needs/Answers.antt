use Rattle.std.proofs.Common.{arith, ◌≡◌, ◌+◌, ◌*◌, max, slice_index}
use Rattle.zaxbriar_calls.proofs.FoundSegments.{needs-length, needs-low, needs-payload, some-left}
use Rattle.zaxbriar_calls.proofs.segments.payload_needs.Goals as goal

pub returns-in-empty : goal.returns-in-empty
returns-in-empty c = needs-length c.args.bytes.now c.in-empty.len_below

pub returns-in-len1 : goal.returns-in-len1
returns-in-len1 c =
    let least : c.max.result ≡ max (256 * slice_index c.args.bytes.now 0) 2 = grind arith in
    needs-low c.args.bytes.now c.max.result c.in-len1.len_at_least c.in-len1.len_below least

pub returns-else-size-lt2 : goal.returns-else-size-lt2
returns-else-size-lt2 c =
    let bytes = c.args.bytes.now in
    let size = 256 * c.from-in-len2-up.result + c.from-in-len2-up-2.result in
    let is : size ≡ 256 * slice_index bytes 0 + slice_index bytes 1 = grind arith in
    needs-payload bytes size c.in-len2-up.len_at_least is
    (some-left bytes size c.requires.cut c.in-len2-up.len_at_least is c.if-size-lt2.false)
