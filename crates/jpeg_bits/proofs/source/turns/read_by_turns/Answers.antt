use Rattle.std.proofs.Common.{rules, ◌≡◌, subst, ℕ}
use Rattle.std.proofs.KnownBytes.{Keeps-refl, Keeps-trans}
use Rattle.jpeg_bits.specs.Turns.{Interruptions, no_call, one_more, read_fails}
use Rattle.jpeg_bits.proofs.source.turns.read_by_turns.Goals as goal

pub loop-turn-init : goal.loop-turn-init
loop-turn-init g c = record { interrupted = no_call; kept = Keeps-refl (g.R.Read.remaining c.args.reader.now) }

pub loop-turn-preserved : goal.loop-turn-preserved
loop-turn-preserved g c = record {
  interrupted = one_more {e = c.in-Err.e} c.loop-turn.invariant.interrupted
      (c.ask.new.buffer, search rules) (search rules);
  kept = search (rules, Keeps-trans);
}

pub returns-in-Ok-clause-answered : goal.returns-in-Ok-clause-answered
returns-in-Ok-clause-answered g c =
    (c.loop-turn._turn, c.loop-turn.reader, c.loop-turn.invariant.interrupted, search rules)

pub returns-then-ne-clause-answered : goal.returns-then-ne-clause-answered
returns-then-ne-clause-answered g c =
    (c.loop-turn._turn, c.loop-turn.reader, c.loop-turn.invariant.interrupted, search rules)

pub returns-clause-given_up : goal.returns-clause-given_up
returns-clause-given_up g c =
    let all : c.loop-turn._turn ≡ 18446744073709551615 = search rules in
    let P : ℕ → Type 0 = λ n. Interruptions (read_fails g.R.Asked.answers) n c.args.reader.now c.loop-turn.reader in
    subst P all c.loop-turn.invariant.interrupted
