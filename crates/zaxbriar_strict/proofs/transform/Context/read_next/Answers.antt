use Rattle.std.proofs.Common.{List, ap, subst, sym}
use Rattle.jpeg_bits.specs.Passes.{Via}
use Rattle.zaxbriar_strict.specs.Changes.{kept_in}
use Rattle.zaxbriar_strict.specs.Contexts.{unit_of, unit_places}
use Rattle.zaxbriar_strict.specs.Data.{Data}
use Rattle.zaxbriar_strict.specs.Heads.{members_of}
use Rattle.zaxbriar_strict.specs.Loaded.{data_of}
use Rattle.zaxbriar_strict.specs.Runs.{ReadsRun}
use Rattle.zaxbriar_strict.specs.declared.intervals.Intervals.{Intervals}
use Rattle.zaxbriar_strict.proofs.Runs.{one-more}
use Rattle.zaxbriar_strict.proofs.SameFrames.{kept-none}
use Rattle.zaxbriar_strict.proofs.transform.Context.read_next.Goals as goal

pub returns-in_err-go_on-clause-kept : goal.returns-in_err-go_on-clause-kept
returns-in_err-go_on-clause-kept c = kept-none _

pub returns-clause-read : goal.returns-clause-read
returns-clause-read c = λ p vias unit every bytes count places from x wide high u a.
    let b = c.in_ok-go_on.ensures c.args.self.now.is_progressive p unit every bytes count places from _ a in
    let e = c.count.ensures in
    let scan = c.args.self.now.scan.now in
    let cs = c.args.frame.now.components.items in
    let ds = c.read_unit.new.frame.components.items in
    let k = c.args.self.now.is_progressive in
    let ms = members_of scan in
    let ways = unit_of scan.count cs ms vias in
    let places = unit_places scan.count cs ms c.args.place.1 c.args.place.0 in
    let r = subst (λ (d : Data). ReadsRun k p ways places c.go_on.new.past c.read_unit.new.past (kept_in cs) (kept_in ds)
    d (data_of c.read_unit.new.bits)) (ap (λ (i : Intervals). data_of i.bits) e)
    (c.in_ok-read_unit.ensures.read p vias x wide high) in
    let own = subst (λ (w : List Via). ReadsRun k p w places c.go_on.new.past c.read_unit.new.past (kept_in cs)
    (kept_in ds) (data_of c.go_on.new.intervals.bits) (data_of c.read_unit.new.bits)) (sym u) r in
    one-more c.go_on.new.intervals _ c.go_on.new.past _ b (ap (λ (i : Intervals). i.every) e)
    (ap (λ (i : Intervals). i.left) e) (ap (λ (i : Intervals). i.next) e) own
