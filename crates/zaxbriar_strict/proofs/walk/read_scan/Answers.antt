use Rattle.std.proofs.Common.{refl}
use Rattle.std.proofs.lemmas.Result.{IfOk-weaker}
use Rattle.zaxbriar_strict.specs.Heads.{IsMade}
use Rattle.zaxbriar_strict.specs.ScanData.{ReadsIfEight}
use Rattle.zaxbriar_strict.specs.ScanSamples.{ReadsIfLossless}
use Rattle.zaxbriar_strict.specs.Walks.{ReadsScan}
use Rattle.zaxbriar_strict.specs.declared.cursor.Cursor.{Cursor}
use Rattle.zaxbriar_strict.proofs.SameFrames.{is-lossless, same-none}
use Rattle.zaxbriar_strict.proofs.SentPasses.{not-sent}
use Rattle.zaxbriar_strict.proofs.walk.read_scan.Goals as goal

pub returns-in_default : goal.returns-in_default
returns-in_default c =
    let header = c.args.part.rest.now in
    let start = c.args.start.rest.now in
    let old = c.args.frame.now in
    let between = c.read_header.new.frame in
    let new = c.read_scan-in_default.new.frame in
    let t = c.args.tables.now in
    IfOk-weaker c.read_scan-in_default.result
    (λ (rest : Cursor). ReadsIfEight t between new c.in_ok-scan.scan start rest.rest.now)
    (λ (rest : Cursor). IsMade old → ReadsScan header start rest.rest.now t old new)
    (λ rest read made. record {
      scan = c.in_ok-scan.scan;
      between = between;
      sized = let h = rw c.in_ok-scan.was at c.read_header.type_inv in h.1.1.1.1.0.1.1.0.1.0.1;
      headed = c.in_ok-scan.ensures made;
      read = read;
      samples = λ again lossless has. absurd (c.in_default.not-Lossless (is-lossless between.process lossless));
      same = c.read_scan-in_default.ensures.same;
      sent = c.read_scan-in_default.ensures.sent;
      lowest = c.read_scan-in_default.ensures.lowest;
    }) c.read_scan-in_default.ensures.read

pub returns-in_ok-check_memory-in-Lossless : goal.returns-in_ok-check_memory-in-Lossless
returns-in_ok-check_memory-in-Lossless c =
    let header = c.args.part.rest.now in
    let start = c.args.start.rest.now in
    let old = c.args.frame.now in
    let between = c.read_header.new.frame in
    let t = c.args.tables.now in
    IfOk-weaker c.read_scan.result
    (λ (rest : Cursor). ReadsIfLossless t between c.in_ok-scan.scan start rest.rest.now)
    (λ (rest : Cursor). IsMade old → ReadsScan header start rest.rest.now t old between)
    (λ rest read made. record {
      scan = c.in_ok-scan.scan;
      between = between;
      sized = let h = rw c.in_ok-scan.was at c.read_header.type_inv in h.1.1.1.1.0.1.1.0.1.0.1;
      headed = c.in_ok-scan.ensures made;
      read = λ p again sends eight has. absurd (not-sent between c.in_ok-scan.scan p c.in-Lossless.is sends);
      samples = read;
      same = same-none between;
      sent = refl;
      lowest = refl;
    }) c.read_scan.ensures
