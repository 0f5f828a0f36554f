use Rattle.std.proofs.Common.{rules, ◌≡◌, ◌∙◌, ◌+◌, ◌-◌, ◌++◌, ℕ, List, ap, append_assoc, arith, drop, sym, take}
use Rattle.std.proofs.lemmas.List.{drop-drop, take-append-drop}
use Rattle.jpeg_decoder.specs.FedRows.{UnreadBytes, all_unread}
use Rattle.jpeg_decoder.proofs.fed_rows.unread.Unread.widen_by.Goals as goal

-- Some more are taken from the queue.
moved : (tried now queue : List ℕ) (from more : ℕ) → now ≡ tried ++ take (from + more - from) (drop from queue)
    → now ++ drop (from + more) queue ≡ tried ++ drop from queue
moved tried now queue from more e =
    let n : from + more - from ≡ more = omega arith in
    let next : drop (from + more) queue ≡ drop more (drop from queue) = sym (drop-drop more from queue) in
    ap (λ (l : List ℕ). l ++ drop (from + more) queue) (e ∙ ap (λ (k : ℕ). tried ++ take k (drop from queue)) n)
    ∙ append_assoc tried (take more (drop from queue)) (drop (from + more) queue)
    ∙ ap (λ (l : List ℕ). tried ++ (take more (drop from queue) ++ l)) next
    ∙ ap (λ (l : List ℕ). tried ++ l) (take-append-drop more (drop from queue))

pub returns-clause-same : goal.returns-clause-same
returns-clause-same c =
    let s = c.self.inside in
    ap all_unread c.drop_moved.ensures
    ∙ moved s.tried.items c.extend_from_slice.new.self.items s.queue.items s.moved c.min.result (search rules)
    ∙ ap all_unread c.self.view_is
