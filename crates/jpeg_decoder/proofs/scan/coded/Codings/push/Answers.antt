use Rattle.std.proofs.Common.{◌≡◌, ◌+◌, ◌-◌, ◌<◌, ◌++◌, ◌∷◌, [], ◌∙◌, ℕ, suc, List, ap, arith, length, map}
use Rattle.std.proofs.Common.{replicate, rules, take}
use Rattle.jpeg_meaning.specs.ScanSegments.{Coding}
use Rattle.std.proofs.lemmas.Grind.{common_steps}
use Rattle.std.proofs.Common.{length-append}
use Rattle.std.proofs.lemmas.List.{length-drop, length-map, length-take, map-append}
use Rattle.std.proofs.Math.Seq.{take-append-add}
use borrow.Rule.Slice.PartMut.{put_mid}
use Rattle.jpeg_decoder.specs.declared.scan.coded.Coded.{Coded}
use Rattle.jpeg_decoder.specs.Steps.{coding_in}
use Rattle.jpeg_decoder.proofs.scan.coded.Codings.push.Goals as goal

few : (count : ℕ) (cs : List Coded) → length (map coding_in (take count cs)) < 4 → length cs ≡ 4 → count < 4
few count cs h four = omega (arith, length-map (take count cs) coding_in, length-take count cs)

-- one more is written, with repetitions of it
more : (count : ℕ) (cs new : List Coded) (c : Coded) → count < 4 → length cs ≡ 4 → new ≡ replicate (4 - count) c
    → take (count + 1) (put_mid count (4 - count) cs new) ≡ take count cs ++ c ∷ []
more count cs new c h four is =
    let some : 4 - count ≡ suc (3 - count) = omega arith in
    let long : length (take count cs) ≡ count = omega (arith, length-take count cs) in
    grind (arith, common_steps, take-append-add, put_mid)

same-long : (count : ℕ) (cs new : List Coded) → count < 4 → length cs ≡ 4 → length new ≡ 4 - count
    → length (put_mid count (4 - count) cs new) ≡ 4
same-long count cs new h four long = grind (arith, common_steps, length-append, length-take, length-drop, put_mid)

pub invariant_of-self : goal.invariant_of-self
invariant_of-self c =
    let count = c.self.inside.count in
    let cs = c.self.inside.components in
    let four = c.self.invariant.1 in
    let some = few count cs (rw c.self.view_is c.requires) four in
    (omega (arith, some), same-long count cs c.fill.new.self some four (grind (arith, common_steps, length-take, length-drop)))

pub returns : goal.returns
returns c =
    let count = c.self.inside.count in
    let cs = c.self.inside.components in
    let four = c.self.invariant.1 in
    ap (map coding_in) (more count cs c.fill.new.self c.args.coded (few count cs (rw c.self.view_is c.requires) four) four
    (search rules))
    ∙ map-append coding_in (take count cs) (c.args.coded ∷ [])
    ∙ ap (λ (l : List Coding). l ++ coding_in c.args.coded ∷ []) c.self.view_is
