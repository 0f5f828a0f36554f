use Rattle.std.proofs.Common.{Global, Vec, map, rules, ℕ}
use Rattle.std.proofs.lemmas.Result.{err_from_is_err_and}
use Rattle.jpeg_decoder.proofs.Pictures.DecodedLines.{begun-seen, planes-rest, planes-unbegun, read-holds}
use Rattle.jpeg_decoder.proofs.decoder.Decoder.decode_planes.Goals as goal

-- ---- the header was refused

pub returns-in_err-begin-clause-decodes : goal.returns-in_err-begin-clause-decodes
returns-in_err-begin-clause-decodes g c =
    let p = err_from_is_err_and c.from_residual.result c.from_residual.ensures.1 in
    rw (p.1, p.2) (planes-unbegun {X = Vec (Vec ℕ Global) Global} (λ v. map (λ p. p.items) v.items) _ _ _ (record {
      stage = c.in_err-begin.ensures.stage;
      ended = c.in_err-begin.ensures.ended;
      reads = c.in_err-begin.ensures.reads;
      tells = c.in_err-begin.ensures.told;
      turns = c.in_err-begin.ensures.turns;
      still = c.in_err-begin.ensures.still;
      exceeded = c.in_err-begin.ensures.exceeded;
      emptied = c.in_err-begin.ensures.emptied;
    }))

-- ---- the rest was read

pub returns-clause-decodes : goal.returns-clause-decodes
returns-clause-decodes g c =
    planes-rest {X = Vec (Vec ℕ Global) Global} (λ v. map (λ p. p.items) v.items) _ _ _ c.read_rest_planes-result.result
    (begun-seen _ _ _ c.self.view_is c.in_ok-begin.ensures.reads c.in_ok-begin.ensures.still
    c.in_ok-begin.ensures.settings) (search rules) (record {
      reads = c.read_rest_planes-result.ensures.reads;
      tells = c.read_rest_planes-result.ensures.told;
      turns = c.read_rest_planes-result.ensures.turns;
      exceeded = c.read_rest_planes-result.ensures.exceeded;
    }) c.read_rest_planes-result.ensures.emptied

pub invariant_of-self : goal.invariant_of-self
invariant_of-self g c =
    read-holds c.read_rest_planes-result.new.state c.read_rest_planes-result.new.exceeded c.read_rest_planes-result.result _
    c.progress_after-self-inside.result c.is_ok.ensures.value c.progress_after-self-inside.ensures
    c.read_rest_planes-result.ensures.framed c.read_rest_planes-result.ensures.frames
