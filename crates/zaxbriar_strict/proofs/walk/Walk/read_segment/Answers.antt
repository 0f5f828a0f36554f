use Rattle.std.proofs.lemmas.Result.{IfOk-weaker}
use Rattle.zaxbriar_strict.specs.Walks.{WalksScan, WalksSegment}
use Rattle.zaxbriar_strict.specs.Walks.WalksSegment.{of_frame, of_other, of_scan}
use Rattle.zaxbriar_strict.specs.declared.cursor.Cursor.{Cursor}
use Rattle.zaxbriar_strict.proofs.walk.Walk.read_segment.Goals as goal

pub returns-then-is_other : goal.returns-then-is_other
returns-then-is_other c =
    of_other c.in_ok-part.part.rest.now (c.is_other.ensures c.if-is_other.true) c.in_ok-part.ensures
    c.in_ok-read_other.ensures

pub returns-in_ok-part-in-218 : goal.returns-in_ok-part-in-218
returns-in_ok-part-in-218 c =
    let header = c.in_ok-part-in-218.part.rest.now in
    let start = c.segment-in-218.new.self.rest.now in
    let new = c.read_scan.new.self in
    IfOk-weaker c.read_scan.result
    (λ (rest : Cursor). WalksScan header start rest.rest.now c.args.self.now new)
    (λ (rest : Cursor). WalksSegment c.args.code c.args.cursor.rest.now rest.rest.now c.args.self.now new)
    (λ rest t. of_scan header start c.in-218.is c.in_ok-part-in-218.ensures t) c.read_scan.ensures

pub returns-in_ok-read_frame-in-192-to-199 : goal.returns-in_ok-read_frame-in-192-to-199
returns-in_ok-read_frame-in-192-to-199 c =
    of_frame c.in_ok-part-in-192-to-199.part.rest.now c.in_ok-part-in-192-to-199.ensures
    c.in_ok-read_frame-in-192-to-199.ensures
