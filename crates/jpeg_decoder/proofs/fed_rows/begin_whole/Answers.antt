use Rattle.std.proofs.Common.{◌≡◌, ◌∙◌, [], Bool, ap, inl, subst, sym}
use Rattle.std.proofs.lemmas.Result.{err_from_is_err_and}
use Rattle.jpeg_bits.specs.Stream.{Stream}
use Rattle.jpeg_meaning.specs.Found.{Found}
use Rattle.jpeg_meaning.specs.States.{Decoding}
use Rattle.jpeg_decoder.specs.FedRows.{IsReadyBegun, IsRefused, StartsLines, fed_start}
use Rattle.jpeg_decoder.proofs.ByRows.FedLines.{IsKept, begun-lines, begun-ready, begun-refused}
use Rattle.jpeg_decoder.proofs.fed_rows.begin_whole.Goals as goal

pub returns-in_err-left-clause-refused : goal.returns-in_err-left-clause-refused
returns-in_err-left-clause-refused c =
    let p = err_from_is_err_and c.from_residual-in_err-left.result c.from_residual-in_err-left.ensures.1 in
    rw (p.1, p.2) (inl c.in_err-left.ensures.err)

pub returns-in-Err-clause-refused : goal.returns-in-Err-clause-refused
returns-in-Err-clause-refused c =
    let start = fed_start c.args.settings c.args.bytes.now in
    let r = c.error_of_bytes.result in
    subst (λ (b : Bool). IsRefused start r [] b) (sym c.has_exceeded_max_blocks.ensures)
    (begun-refused c.args.settings c.args.bytes.now c.set_all.new.self c.begin_lines.new.self c.in-Err.error r
    (c.set_all.ensures ∙ ap (λ (d : Decoding). record d { settings = c.args.settings }) c.in_ok-decoder.ensures.ok)
    c.in-Err.ensures.starts
    (subst (λ (b : Bool). IsKept c.in-Err.error b r) c.has_read_failed.ensures c.error_of_bytes.ensures))

pub returns-clause-starts : goal.returns-clause-starts
returns-clause-starts c =
    let bytes = c.args.bytes.now in
    let left = c.in_ok-left.left.items in
    let now = c.begin_lines.new.self in
    let p = c.into_parts-state in
    let same : p.result.1 ≡ now.source = p.ensures.source in
    subst (λ (f : Found). StartsLines (fed_start c.args.settings bytes) c.args.settings f left c.in-Ok.begun)
    (sym p.ensures.state)
    (begun-lines c.args.settings bytes left c.set_all.new.self now c.in-Ok.begun
    (c.set_all.ensures ∙ ap (λ (d : Decoding). record d { settings = c.args.settings }) c.in_ok-decoder.ensures.ok)
    c.begin_lines.ensures.settings
    (λ k. c.in_ok-left.ensures.bytes (ap (λ (s : Stream). s.known) same ∙ k) ∙ ap (λ (s : Stream). s.bytes) same)
    (sym (ap (λ (s : Stream). s.failed) same) ∙ c.in_ok-left.ensures.failed) c.in-Ok.ensures.starts)

pub returns-clause-ready : goal.returns-clause-ready
returns-clause-ready c =
    let left = c.in_ok-left.left.items in
    let set = c.set_all.new.self in
    let now = c.begin_lines.new.self in
    let p = c.into_parts-state in
    let same : p.result.1 ≡ now.source = p.ensures.source in
    subst (λ (f : Found). IsReadyBegun c.args.settings f c.in-Ok.begun) (sym p.ensures.state)
    (begun-ready c.args.settings left set now c.in-Ok.begun
    (c.begin_lines.ensures.settings ∙ ap (λ (d : Decoding). d.settings) c.set_all.ensures)
    (λ k. c.in_ok-left.ensures.bytes (ap (λ (s : Stream). s.known) same ∙ k) ∙ ap (λ (s : Stream). s.bytes) same)
    (sym (ap (λ (s : Stream). s.failed) same) ∙ c.in_ok-left.ensures.failed) c.in-Ok.ensures.starts
    c.in-Ok.ensures.framed)
