use Rattle.std.proofs.Common.{◌≡◌, ◌∙◌, ◌+◌, ◌-◌, ◌*◌, ◌<◌, ◌≤◌, ℕ, List, arith, length, subst, sym}
use borrow.Rule.Slice.PartMut.{put_mid}
use Rattle.zaxbriar_calls.proofs.TurnedRuns.{IsRunTo, run-fits, run-more, run-none}
use Rattle.zaxbriar_calls.proofs.lines.put_sized_run.Goals as goal

pub loop-place-init : goal.loop-place-init
loop-place-init c = run-none c.args.source.now c.args.step c.args.count c.args.is_flipped
    c.args.pixel_bytes c.args.run.now

pub loop-place-preserved : goal.loop-place-preserved
loop-place-preserved c =
    let bytes : ℕ = c.args.pixel_bytes in
    let index : ℕ = c.loop-place.place in
    let from : ℕ = c.pixel_at.result * c.args.step in
    let k : index * bytes + bytes - index * bytes ≡ bytes = omega arith in
    let j : from + bytes - from ≡ bytes = omega arith in
    let inside : index < c.args.count = omega arith in
    let room : index * bytes + bytes ≤ length c.loop-place.run =
    run-fits c.args.count bytes index (length c.loop-place.run) inside
    (c.loop-place.auto.run ∙ c.requires.run) in
    let source : from + bytes ≤ length c.args.source.now =
    c.requires.source c.pixel_at.result c.pixel_at.ensures.inside in
    subst (λ (l : List ℕ). IsRunTo c.args.source.now c.args.step c.args.count c.args.is_flipped
    bytes (index + 1)
    (put_mid (index * bytes) (index * bytes + bytes - index * bytes) c.loop-place.run l))
    (sym c.copy_from_slice.ensures.after)
    (run-more c.args.source.now c.args.step c.args.count c.args.is_flipped bytes index
    c.pixel_at.result (index * bytes + bytes - index * bytes) (from + bytes - from)
    c.loop-place.run c.loop-place.invariant k j c.pixel_at.ensures.is source room)

pub returns : goal.returns
returns c =
    let all : c.loop-place.place ≡ c.args.count = omega arith in
    subst (λ n. IsRunTo c.args.source.now c.args.step c.args.count c.args.is_flipped
    c.args.pixel_bytes n c.loop-place.run) all c.loop-place.invariant
