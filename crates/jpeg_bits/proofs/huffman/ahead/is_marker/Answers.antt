use Rattle.std.proofs.Common.{◌≡◌, Some}
use Rattle.jpeg_bits.specs.declared.huffman.ahead.DataEnd.TheVariants as ends
use Rattle.jpeg_bits.proofs.BufferedBits.{none_buffered}
use Rattle.jpeg_bits.proofs.huffman.ahead.is_marker.Goals as goal

pub returns-in-Some-Marker : goal.returns-in-Some-Marker
returns-in-Some-Marker c e beyond bits bytes none =
    let m = c.in-Some-Marker.field-0-0 in
    let is : c.args.end ≡ Some c.in-Some-Marker.field-0 = c.in-Some-Marker.is in
    let marker : c.in-Some-Marker.field-0 ≡ ends.Marker m = rw is at c.in-Some-Marker.field-0-is in
    rw (is, marker) (none_buffered bits m bytes none)
