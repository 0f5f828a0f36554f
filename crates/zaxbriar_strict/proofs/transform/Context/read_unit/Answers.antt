use Rattle.std.proofs.Common.{◌≡◌, ◌≤◌, ◌++◌, ℕ, List, length, take, replicate, ap, sym, ◌∙◌, arith}
use Rattle.zaxbriar_strict.specs.Changes.{Place, kept_in}
use Rattle.zaxbriar_strict.specs.Contexts.{unit_of, unit_places}
use Rattle.zaxbriar_strict.specs.Heads.{members_of}
use Rattle.zaxbriar_strict.specs.Loaded.{data_of}
use Rattle.zaxbriar_strict.proofs.Contexts.{context-length, element, places-more, unit-all, unit-more}
use Rattle.zaxbriar_strict.proofs.Runs.{run-as, run-none, run-then}
use Rattle.zaxbriar_strict.proofs.SameFrames.{kept-blocks-at, kept-none, kept-places-at, kept-then}
use Rattle.zaxbriar_strict.proofs.transform.Context.read_unit.Goals as goal
use Rattle.std.proofs.lemmas.List.{take_all}

pub loop-slot-init : goal.loop-slot-init
unfolding unit_of unit_places
loop-slot-init c = record {
  kept = kept-none c.args.frame.now;
  read = λ p vias g wide high.
      run-none c.args.self.now.is_progressive p c.args.past.now (kept_in c.args.frame.now.components.items)
      (data_of c.args.bits.now);
}

pub returns-in_err-read_part-clause-kept : goal.returns-in_err-read_part-clause-kept
returns-in_err-read_part-clause-kept c = kept-then c.loop-slot.invariant.kept c.in_err-read_part.ensures.kept

pub loop-slot-preserved : goal.loop-slot-preserved
loop-slot-preserved c = record {
  kept = kept-then c.loop-slot.invariant.kept c.in_ok-read_part.ensures.kept;
  read = λ p vias g wide high.
      let i = c.loop-slot.invariant in
      let scan = c.args.self.now.scan.now in
      let ms = members_of scan in
      let cs = c.args.frame.now.components.items in
      let slot = c.loop-slot.slot in
      let row = c.args.place.1 in
      let column = c.args.place.0 in
      let end : length c.members-slot-end.result.now ≡ length ms = ap length c.members-slot-end.ensures in
      let lt = c.loop-slot-test.true in
      let same = context-length g in
      let m = element ms slot (omega (arith, lt, end)) in
      let v = element vias slot (omega (arith, lt, end, same)) in
      let part = c.in_ok-read_part.ensures.read p vias v.0 m.0 g wide high v.1 m.1 in
      let at = kept-blocks-at scan.count i.kept m.0.component in
      let first = unit_of scan.count cs (take slot ms) (take slot vias) in
      let more = ap (λ (n : ℕ). first ++ replicate n v.0) at in
      let all = unit-more scan.count cs ms vias slot m.0 v.0 m.1 v.1 in
      let placed = ap (λ (l : List Place). unit_places scan.count cs (take slot ms) row column ++ l)
      (kept-places-at scan.count row column m.0.component i.kept)
      ∙ sym (places-more scan.count cs ms row column slot m.0 m.1) in
      run-as (more ∙ sym all) placed (run-then (i.read p vias g wide high) part);
}

pub returns-clause-read : goal.returns-clause-read
returns-clause-read c = λ p vias g wide high.
    let i = c.loop-slot.invariant in
    let scan = c.args.self.now.scan.now in
    let ms = members_of scan in
    let cs = c.args.frame.now.components.items in
    let end : length c.members-slot-end.result.now ≡ length ms = ap length c.members-slot-end.ensures in
    let over = c.loop-slot-test.false in
    let most : length ms ≤ c.loop-slot.slot = omega (arith, over, end) in
    let all = unit-all scan.count cs ms vias c.loop-slot.slot (context-length g) most in
    run-as all (ap (λ l. unit_places scan.count cs l c.args.place.1 c.args.place.0) (take_all c.loop-slot.slot ms most))
    (i.read p vias g wide high)
