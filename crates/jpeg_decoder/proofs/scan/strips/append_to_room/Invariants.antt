use Rattle.std.proofs.Common.{◌≡◌, ◌++◌, map, take}
use Rattle.std.specs.List.{concat}
use Rattle.jpeg_decoder.specs.Scanning.{arrays_in}
use Rattle.jpeg_decoder.specs.Steps.{coding_in}
use Rattle.jpeg_decoder.specs.Strips.{strips_of}
use Rattle.jpeg_decoder.proofs.scan.strips.append_to_room.Given as goal

abbrev pub invariant-loop-slot : goal.invariant-loop-slot
invariant-loop-slot l = l.samples.items ≡ l.fn.samples.items
    ++ concat (take l.slot (strips_of (map coding_in l.codings) (arrays_in l.rows)))
