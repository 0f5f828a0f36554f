use Rattle.std.proofs.lemmas.Result.{err_from_is_err_and}
use Rattle.zaxbriar_calls.proofs.BegunFedLines.{header-refused, lines-begun, lines-refused}
use Rattle.zaxbriar_calls.proofs.handle_calls.begin_fed_reading.Goals as goal

pub returns-in_err-settings : goal.returns-in_err-settings
returns-in_err-settings c =
    let d = c.describe_settings in
    let p = err_from_is_err_and c.from_residual.result c.from_residual.ensures.1 in
    rw (c.in-Stream.is, p.1, p.2) (header-refused c.in-Stream.stream d.new.picture d.result c.in_err-settings.field-0.0
    c.in_err-settings.was (rw (c.options.ensures, c.bytes.ensures, c.requires.none) at d.ensures.described))

pub returns-in-Ok : goal.returns-in-Ok
returns-in-Ok c =
    let d = c.describe_settings in
    let n = c.in-Ok.ensures in
    rw c.in-Stream.is (lines-begun c.in-Stream.stream d.new.picture d.result c.in_ok-settings.settings c.in-Ok.reader
    c.in_ok-settings.was (rw (c.options.ensures, c.bytes.ensures, c.requires.none) at d.ensures.described)
    (rw (c.options.ensures, c.bytes.ensures) at c.in_ok-settings.ensures.settings) n.settings
    (rw c.bytes-2.ensures at n.taken) n.open n.answer n.reason)

pub returns-in-Err : goal.returns-in-Err
returns-in-Err c =
    rw (c.in-Stream.is, c.from.ensures, c.in-Err.ensures.memory) (lines-refused c.in-Stream.stream
    (rw c.in-Stream.is at c.requires.stream))
