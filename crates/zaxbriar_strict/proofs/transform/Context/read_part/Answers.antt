use Rattle.std.proofs.Common.{◌≡◌, ◌∙◌, ℕ, replicate, refl, ap, sym, slice_get}
use Rattle.std.proofs.lemmas.Option.{same_Some}
use Rattle.zaxbriar_strict.specs.Changes.{kept_in}
use Rattle.zaxbriar_strict.specs.Contexts.{blocks_at, places_at}
use Rattle.zaxbriar_strict.specs.Heads.{members_of}
use Rattle.zaxbriar_strict.specs.Loaded.{data_of}
use Rattle.zaxbriar_strict.specs.declared.scan.Member.{Member}
use Rattle.zaxbriar_strict.proofs.Contexts.{blocks-found, blocks-past, found, place-found, place-past}
use Rattle.zaxbriar_strict.proofs.Runs.{run-as, run-none}
use Rattle.zaxbriar_strict.proofs.SameFrames.{kept-item}
use Rattle.zaxbriar_strict.proofs.transform.Context.read_part.Goals as goal

pub returns-in_err-read_blocks-clause-kept : goal.returns-in_err-read_blocks-clause-kept
returns-in_err-read_blocks-clause-kept c =
    kept-item _ _ c.in-Some.member.now.component c.in-Some-get_mut.component.now c.read_blocks.new.component
    c.in-Some-get_mut.ensures.value c.in_err-read_blocks.ensures.kept refl refl refl refl refl refl refl

pub returns-clause-kept : goal.returns-clause-kept
returns-clause-kept c =
    kept-item _ _ c.in-Some.member.now.component c.in-Some-get_mut.component.now c.read_blocks.new.component
    c.in-Some-get_mut.ensures.value c.in_ok-read_blocks.ensures.kept refl refl refl refl refl refl refl

pub returns-clause-read : goal.returns-clause-read
returns-clause-read c = λ p vias via m g wide high e f.
    let scan = c.args.self.now.scan.now in
    let cs = c.args.frame.now.components.items in
    let n = c.in-Some.member.now in
    let one = c.in-Some-get_mut.component.now in
    let row = c.args.place.1 in
    let column = c.args.place.0 in
    let at = found c.members.result.now (members_of scan) c.args.slot n c.members.ensures c.in-Some.ensures.lookup.3.0
    c.in-Some.ensures.lookup.1 in
    let same : n ≡ m = same_Some n m (sym at ∙ f) in
    let here = found cs cs n.component one refl c.in-Some-get_mut.ensures.item.3.0 c.in-Some-get_mut.ensures.value in
    let size = sym (blocks-found scan.count cs n.component one here)
    ∙ ap (λ (k : Member). blocks_at scan.count cs k.component) same in
    let placed = place-found scan.count row column n.component (slice_get cs n.component) one here
    ∙ ap (λ (k : Member). places_at scan.count row column k.component (slice_get cs k.component)) same in
    run-as (ap (λ (k : ℕ). replicate k via) size) placed
    (c.in_ok-read_blocks.ensures.read p vias via n.component cs g wide high e here)

pub returns-in_default-get_mut-clause-read : goal.returns-in_default-get_mut-clause-read
returns-in_default-get_mut-clause-read c = λ p vias via m g wide high e f.
    let scan = c.args.self.now.scan.now in
    let cs = c.args.frame.now.components.items in
    let n = c.in-Some.member.now in
    let row = c.args.place.1 in
    let column = c.args.place.0 in
    let at = found c.members.result.now (members_of scan) c.args.slot n c.members.ensures c.in-Some.ensures.lookup.3.0
    c.in-Some.ensures.lookup.1 in
    let same : n ≡ m = same_Some n m (sym at ∙ f) in
    let past = c.in_default-get_mut.ensures.item.3 in
    let none = sym (blocks-past scan.count cs n.component past)
    ∙ ap (λ (k : Member). blocks_at scan.count cs k.component) same in
    let placed = sym (place-past scan.count row column n.component cs n.component past)
    ∙ ap (λ (k : Member). places_at scan.count row column k.component (slice_get cs k.component)) same in
    run-as (ap (λ (k : ℕ). replicate k via) none) placed
    (run-none c.args.self.now.is_progressive p c.args.past.now (kept_in cs) (data_of c.args.bits.now))
