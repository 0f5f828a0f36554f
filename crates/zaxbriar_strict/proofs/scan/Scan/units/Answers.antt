use Rattle.std.proofs.Common.{◌≡◌, ◌≤◌, ◌*◌, ℕ, List, length, get_or, sym, ap, ◌∙◌, arith}
use Rattle.std.proofs.lemmas.Bool.{ltb-true as is-less}
use borrow.Author.Tests.{ltb-true, ltb-false}
use Rattle.jpeg_segments.specs.Frame.{ceiling}
use Rattle.zaxbriar_strict.specs.Heads.{members_of, written_frame}
use Rattle.zaxbriar_strict.proofs.Codings.{no_member, scan-alone}
use Rattle.zaxbriar_strict.proofs.Contexts.{found}
use Rattle.zaxbriar_strict.proofs.FrameComponents.{most-across, most-down, own-high, own-wide, units-alone}
use Rattle.zaxbriar_strict.proofs.SampledFrames.{ceiling-one, samples-alone, samples-several}
use Rattle.zaxbriar_strict.proofs.FrameComponents.{units-several}
use Rattle.zaxbriar_strict.proofs.scan.Scan.units.Goals as goal
use Rattle.zaxbriar_strict.proofs.scan.Scan.units.Goals.{in_default-via-then-members-lt1}
use Rattle.zaxbriar_strict.proofs.scan.Scan.units.Goals.{in_default-via-else-members-lt1+else-this-lt2}

pub returns-in-Some-clause-as_blocks : goal.returns-in-Some-clause-as_blocks
returns-in-Some-clause-as_blocks c = λ eight made has.
    let f = c.args.frame.now in
    let x = c.in-Some.component.now in
    let m = get_or c.members.result.now 0 no_member in
    let one : length c.members.result.now ≡ 1 = omega arith in
    let at =
    found c.deref.result.now f.components.items m.component x c.deref.ensures.value
    (is-less m.component (length c.deref.result.now) (sym c.in-Some.ensures.lookup.0))
    c.in-Some.ensures.lookup.1 in
    let units = units-alone f (members_of c.args.self.now) m x made (scan-alone c.args.self.now c.members.result.now
    c.members.ensures one) at in
    let some : 1 ≤ c.args.side = omega (arith, eight) in (
      c.own_units.ensures.across made.wide (most-across f made).0 some
          ∙ ap (λ (n : ℕ). ceiling (ceiling (f.width * x.across) f.most_across) n) eight ∙ own-wide f x ∙ sym units.0,
      c.own_units.ensures.down made.high (most-down f made).0 some
          ∙ ap (λ (n : ℕ). ceiling (ceiling (f.height * x.down) f.most_down) n) eight ∙ own-high f x ∙ sym units.1,
    )

pub returns-in_default-clause-as_blocks : goal.returns-in_default-clause-as_blocks
returns-in_default-clause-as_blocks c = λ eight made has.
    let f = c.args.frame.now in
    let ms = members_of c.args.self.now in
    let same = ap (λ (l : List _). length l) c.members.ensures in
    let ne : length c.members.result.now ≡ 1 → ⊥ =
    λ one. elim c.in_default.branch [
      | in_default-via-then-members-lt1 w ↦ omega (arith, ltb-true, ltb-false)
      | in_default-via-else-members-lt1+else-this-lt2 w ↦ omega (arith, ltb-true, ltb-false)
    ] in
    let several = units-several (written_frame f) ms (λ one. ne (same ∙ one)) in
    let units = c.units.ensures.as_blocks eight made in
    (units.0 ∙ sym several.0, units.1 ∙ sym several.1)

pub returns-in-Some-clause-as_samples : goal.returns-in-Some-clause-as_samples
returns-in-Some-clause-as_samples c = λ one_is made has.
    let f = c.args.frame.now in
    let x = c.in-Some.component.now in
    let m = get_or c.members.result.now 0 no_member in
    let one : length c.members.result.now ≡ 1 = omega arith in
    let at =
    found c.deref.result.now f.components.items m.component x c.deref.ensures.value
    (is-less m.component (length c.deref.result.now) (sym c.in-Some.ensures.lookup.0))
    c.in-Some.ensures.lookup.1 in
    let units = samples-alone f (members_of c.args.self.now) m x made (scan-alone c.args.self.now c.members.result.now
    c.members.ensures one) at in
    let some : 1 ≤ c.args.side = omega (arith, one_is) in (
      c.own_units.ensures.across made.wide (most-across f made).0 some
          ∙ ceiling-one (ceiling (f.width * x.across) f.most_across) c.args.side one_is ∙ sym units.0,
      c.own_units.ensures.down made.high (most-down f made).0 some
          ∙ ceiling-one (ceiling (f.height * x.down) f.most_down) c.args.side one_is ∙ sym units.1,
    )

pub returns-in_default-clause-as_samples : goal.returns-in_default-clause-as_samples
returns-in_default-clause-as_samples c = λ one_is made has.
    let f = c.args.frame.now in
    let ms = members_of c.args.self.now in
    let same = ap (λ (l : List _). length l) c.members.ensures in
    let ne : length c.members.result.now ≡ 1 → ⊥ =
    λ one. elim c.in_default.branch [
      | in_default-via-then-members-lt1 w ↦ omega (arith, ltb-true, ltb-false)
      | in_default-via-else-members-lt1+else-this-lt2 w ↦ omega (arith, ltb-true, ltb-false)
    ] in
    let several = samples-several f ms made (λ one. ne (same ∙ one)) in
    let units = c.units.ensures.as_samples one_is made in
    (units.0 ∙ sym several.0, units.1 ∙ sym several.1)
