use Rattle.std.proofs.Common.{List, Ok, Option, ℕ}
use Rattle.jpeg_decoder.specs.Rows.{GivesNext, calls_left}
use Rattle.jpeg_meaning.specs.States.{Decoding}
use Rattle.zaxbriar_samples.specs.LineTakers.{HasTakenBytes}
use Rattle.zaxbriar_samples.specs.declared.line_takers.Plan.{Plan}
use Rattle.zaxbriar_pictures.proofs.ReadRows.{GivenAndTaken, turns_left}
use Rattle.zaxbriar_pictures.proofs.by_rows.take_rows.Given as goal

abbrev pub invariant-loop-is_more : goal.invariant-loop-is_more
invariant-loop-is_more g l = record {
  given : (start : Decoding) (bytes : List ℕ) → GivesNext start bytes (Ok l.fn.is_more) l.fn.rows
      → (so_far : List ℕ) × GivesNext start so_far (Ok l.is_more) l.rows;
  taken : (start : Decoding) (plan : Plan) (bytes : List ℕ) (before : Option (List ℕ))
      → GivesNext start bytes (Ok l.fn.is_more) l.fn.rows
      → HasTakenBytes plan bytes l.fn.taker before (g.W.Write.contents l.fn.writer)
      → GivenAndTaken start plan l.is_more l.rows l.taker before (g.W.Write.contents l.writer);
}

abbrev pub decreases-loop-is_more : goal.decreases-loop-is_more
decreases-loop-is_more g l = turns_left l.is_more (calls_left l.rows.ahead)
