use Rattle.std.proofs.Common.{◌≡◌, Bool, true, false, not, sym, ◌∙◌, ap, refl}
use Rattle.std.proofs.lemmas.Bool.{false≢true}
use Rattle.zaxbriar_strict.proofs.SameFrames.{plain-process}
use Rattle.zaxbriar_strict.proofs.transform.band_of.Goals as goal

pub returns-then-is_progressive-clause-whole : goal.returns-then-is_progressive-clause-whole
returns-then-is_progressive-clause-whole c = λ few.
    absurd (false≢true
    (sym (c.is_progressive.ensures ∙ plain-process c.args.frame.now.process few) ∙ c.if-is_progressive.true))

twice : (b : Bool) → not (not b) ≡ b
twice true = refl
twice false = refl

pub returns-then-is_progressive-clause-sent : goal.returns-then-is_progressive-clause-sent
returns-then-is_progressive-clause-sent c = λ is last low.
    let q = c.sent.ensures last low in
    record {
      first = q.first;
      last = q.last;
      low = q.low;
      refined = q.refined ∙ ap not (twice _);
      progressive = q.progressive;
    }

pub returns-else-is_progressive-clause-sent : goal.returns-else-is_progressive-clause-sent
returns-else-is_progressive-clause-sent c = λ is.
    absurd (false≢true (sym c.if-is_progressive.false ∙ c.is_progressive.ensures ∙ is))
