use Rattle.std.proofs.Common.{arith, [], rules}
use Rattle.std.proofs.lemmas.Result.{err_from_is_err_and}
use Rattle.jpeg_bits.specs.Reading.{Fault}
use Rattle.jpeg_segments.specs.FrameView.{frame_in}
use Rattle.jpeg_decoder.specs.Steps.{coding_in}
use Rattle.jpeg_decoder.proofs.Scans.ScanCodings.{codings-more, codings-fail, codings-all, codings-none}
use Rattle.jpeg_decoder.proofs.scan.codings.codings_of.Goals as goal
use Rattle.std.proofs.lemmas.Grind.{common_steps}

pub returns-in_err-first-clause-codings : goal.returns-in_err-first-clause-codings
returns-in_err-first-clause-codings c =
    let frame = frame_in c.args.frame.now in
    let scan = c.args.header.now in
    let fails = λ (f : Fault). codings-fail c.args.said.now frame scan 0 [] f c.requires.legal.some c.requires.legal
    (codings-none c.args.said.now frame scan) in
    grind (arith, common_steps, err_from_is_err_and, fails)

pub loop-slot-init : goal.loop-slot-init
loop-slot-init c =
    let said = c.args.said.now in
    let frame = frame_in c.args.frame.now in
    let scan = c.args.header.now in
    record {
      whole = rw c.new-codings.ensures (codings-more said frame scan 0 [] (coding_in c.in_ok-first.first)
          c.requires.legal.some c.requires.legal (codings-none said frame scan) c.in_ok-first.ensures.coding);
      count = rw c.new-codings.ensures (search rules);
    }

pub loop-slot-preserved : goal.loop-slot-preserved
loop-slot-preserved c = grind (arith, common_steps, codings-more)

pub returns-in_err-coded-clause-codings : goal.returns-in_err-coded-clause-codings
returns-in_err-coded-clause-codings c =
    let fails = λ (f : Fault). codings-fail c.args.said.now (frame_in c.args.frame.now) c.args.header.now
    c.loop-slot.slot c.loop-slot.codings f in
    grind (arith, common_steps, err_from_is_err_and, fails)

pub returns-clause-codings : goal.returns-clause-codings
returns-clause-codings c = grind (arith, common_steps, codings-all)
