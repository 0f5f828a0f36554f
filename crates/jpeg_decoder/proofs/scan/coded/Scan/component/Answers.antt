use Rattle.std.proofs.Common.{rules}
use Rattle.jpeg_decoder.proofs.Scans.PlacedCodings.{component-at}
use Rattle.jpeg_decoder.proofs.scan.coded.Scan.component.Goals as goal

pub returns-clause-component : goal.returns-clause-component
returns-clause-component c = component-at c.as_slice.result.now c.args.self.now.codings c.args.slot c.index-as_slice-slot.result
    (search rules) (search rules) (search rules)
