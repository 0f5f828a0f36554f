use Rattle.std.proofs.Common.{◌≡◌, ◌∙◌, [], ap, List, ℕ, true}
use Rattle.jpeg_decoder.specs.FedRows.{FedRowsState, UnreadBytes, all_unread}
use Rattle.jpeg_decoder.specs.declared.fed_rows.Ahead.TheVariants as ahead
use Rattle.std.proofs.lemmas.Result.{err_from_is_err_and}
use Rattle.jpeg_decoder.proofs.ByRows.FedLines.{all-tried, at-state, ended-refused, fed-refused, first-less, put-all}
use Rattle.jpeg_decoder.proofs.ByRows.FedLines.{whole-calls, whole-fed, whole-ready}
use Rattle.jpeg_decoder.proofs.fed_rows.FedRows.begin_whole.Goals as goal

pub returns-in_err-start-clause-gives : goal.returns-in_err-start-clause-gives
returns-in_err-start-clause-gives c fed given h =
    let s = c.self.inside in
    let exceeded = c.begin_whole.new.exceeded in
    let e = c.in_err-start.field-0.0 in
    let p = err_from_is_err_and c.from_residual-in_err-start.result c.from_residual-in_err-start.ensures.1 in
    rw (p.1, p.2) (ended-refused e s.settings s.has_ended fed given exceeded
    (ap (λ (d : FedRowsState). d.has_ended) c.self.view_is ∙ c.requires)
    (fed-refused s.settings e (all_unread s.unread) c.tried.result.now fed given exceeded
    (all-tried s.unread c.widen_to_all.new.self c.tried.result.now c.in_ok-widen_to_all.ensures.all c.tried.ensures)
    c.in_err-start.ensures.refused (at-state c.args.self.now _ fed given ahead.Start c.self.view_is h)))

pub returns-clause-gives : goal.returns-clause-gives
returns-clause-gives c fed given h =
    let s = c.self.inside in
    let start = c.in_ok-start.start in
    whole-fed s.settings s.has_ended start.state start.begun c.put_ahead-2.new.place (all_unread s.unread)
    c.tried.result.now start.left.items (all_unread c.put_back.new.self) fed given
    (ap (λ (d : FedRowsState). d.has_ended) c.self.view_is ∙ c.requires)
    (all-tried s.unread c.widen_to_all.new.self c.tried.result.now c.in_ok-widen_to_all.ensures.all c.tried.ensures)
    (put-all start.left.items c.put_back.new.self c.put_back.ensures) (c.put_ahead-2.ensures ∙ c.ahead_of.ensures) c.in_ok-start.ensures.starts
    (at-state c.args.self.now _ fed given ahead.Start c.self.view_is h)

pub returns-clause-fewer : goal.returns-clause-fewer
returns-clause-fewer c =
    let s = c.self.inside in
    let start = c.in_ok-start.start in
    let less = whole-calls s.settings start.state start.begun c.put_ahead-2.new.place s.unread c.widen_to_all.new.self
    c.put_back.new.self c.tried.result.now start.left.items (c.put_ahead-2.ensures ∙ c.ahead_of.ensures)
    c.in_ok-widen_to_all.ensures.all c.tried.ensures c.put_back.ensures c.in_ok-start.ensures.most
    c.in_ok-start.ensures.ready in
    λ _. first-less c.args.self.now _ _ c.self.view_is less

pub invariant_of-self-2 : goal.invariant_of-self-2
invariant_of-self-2 c =
    let start = c.in_ok-start.start in
    whole-ready c.self.inside.settings start.state start.begun c.put_ahead-2.new.place
    (c.put_ahead-2.ensures ∙ c.ahead_of.ensures) c.in_ok-start.ensures.ready
