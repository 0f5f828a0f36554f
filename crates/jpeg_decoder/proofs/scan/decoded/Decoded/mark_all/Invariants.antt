use Rattle.std.proofs.Common.{◌≡◌, drop, map}
use Rattle.jpeg_bits.specs.Passes.{whole_pass}
use Rattle.jpeg_decoder.specs.Steps.{coding_in}
use Rattle.jpeg_decoder.proofs.ByRows.MarkedScans.{AreMarkedTo, marks_of}
use Rattle.jpeg_decoder.proofs.scan.decoded.Decoded.mark_all.Given as goal

abbrev pub invariant-loop-coded : goal.invariant-loop-coded
invariant-loop-coded l =
    let p = l.scan.pass in
    let codings = map coding_in l.codings in
    record {
      kept : l.self.kept ≡ l.fn.self.kept;
      samples : l.self.samples ≡ l.fn.self.samples;
      planes : l.self.planes ≡ l.fn.self.planes;
      marks : marks_of p (drop l.coded-index codings) l.self.finished ≡ marks_of p codings l.fn.self.finished;
      all : p ≡ whole_pass → AreMarkedTo l.self.finished l.codings l.coded-index;
    }
