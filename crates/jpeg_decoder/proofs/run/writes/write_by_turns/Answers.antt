use Rattle.std.proofs.Common.{rules, ◌≡◌, subst, ℕ}
use Rattle.std.proofs.KnownBytes.{Keeps-refl, Keeps-trans}
use Rattle.jpeg_bits.specs.Turns.{Interruptions, no_call, one_more}
use Rattle.jpeg_decoder.specs.Writes.{write_fails}
use Rattle.jpeg_decoder.proofs.run.writes.write_by_turns.Goals as goal

pub loop-turn-init : goal.loop-turn-init
loop-turn-init g c = record { interrupted = no_call; kept = Keeps-refl (g.W.Write.contents c.args.writer.now) }

pub loop-turn-preserved : goal.loop-turn-preserved
loop-turn-preserved g c = record {
  interrupted = one_more {e = c.in-Err.e} c.loop-turn.invariant.interrupted
      (c.args.bytes.now, search rules) (search rules);
  kept = search (rules, Keeps-trans);
}

pub returns-in-Ok-clause-answered : goal.returns-in-Ok-clause-answered
returns-in-Ok-clause-answered g c =
    (c.loop-turn._turn, c.loop-turn.writer, c.loop-turn.invariant.interrupted, search rules)

pub returns-then-ne-clause-answered : goal.returns-then-ne-clause-answered
returns-then-ne-clause-answered g c =
    (c.loop-turn._turn, c.loop-turn.writer, c.loop-turn.invariant.interrupted, search rules)

pub returns-clause-given_up : goal.returns-clause-given_up
returns-clause-given_up g c =
    let all : c.loop-turn._turn ≡ 18446744073709551615 = search rules in
    let P : ℕ → Type 0 = λ n. Interruptions (write_fails g.W.Offered.answers) n c.args.writer.now c.loop-turn.writer in
    subst P all c.loop-turn.invariant.interrupted
