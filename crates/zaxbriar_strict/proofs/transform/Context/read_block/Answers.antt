use Rattle.std.proofs.Common.{Bool, sym, ◌∷◌, [], subst, set}
use Rattle.zaxbriar_strict.specs.Changes.{kept_in}
use Rattle.zaxbriar_strict.specs.Loaded.{data_of}
use Rattle.zaxbriar_strict.specs.Runs.{ReadsRun}
use Rattle.zaxbriar_strict.proofs.transform.Context.read_block.Goals as goal

pub returns-then-self-clause-read : goal.returns-then-self-clause-read
returns-then-self-clause-read c = λ p vias via index cs g e f.
    let kept = c.if-self.true in
    subst (λ (k : Bool). ReadsRun k p (via ∷ [])
    (record { index = index; row = c.args.place.1; column = c.args.place.0 } ∷ []) c.args.past.now
    c.read_sent.new.past (kept_in cs) (kept_in (set cs index c.read_sent.new.component)) (data_of c.args.bits.now)
    (data_of c.read_sent.new.bits)) (sym kept)
    (c.in_ok-read_sent.ensures.read p vias via index cs g kept e f)

pub returns-in-Ok-clause-read : goal.returns-in-Ok-clause-read
returns-in-Ok-clause-read c = λ p vias via index cs g e f.
    let plain = c.if-self.false in
    subst (λ (k : Bool). ReadsRun k p (via ∷ [])
    (record { index = index; row = c.args.place.1; column = c.args.place.0 } ∷ []) c.args.past.now
    c.read_whole.new.past (kept_in cs) (kept_in (set cs index c.args.component.now)) (data_of c.args.bits.now)
    (data_of c.read_whole.new.bits)) (sym plain)
    (c.in-Ok.ensures p vias via _ _ _ g plain e)
