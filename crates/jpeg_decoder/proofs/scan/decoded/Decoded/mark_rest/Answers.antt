use Rattle.std.proofs.lemmas.Grind.{common_steps}
use Rattle.std.proofs.lemmas.List.{drop_all, drop-map, get_or_default, length-map, take_rest}
use Rattle.std.proofs.Common.{rules, ◌≡◌, ◌∙◌, ◌-◌, [], ap, arith, drop, length, map, subst, sym, take, ℕ, List, Option}
use Rattle.jpeg_meaning.specs.ScanSegments.{Coding}
use Rattle.jpeg_decoder.specs.Steps.{coding_in, marks_after, with_decoded, with_planes, IsDecided}
use Rattle.jpeg_decoder.specs.Strips.{no_samples}
use Rattle.jpeg_decoder.specs.declared.scan.coded.Coded.{Coded}
use Rattle.jpeg_decoder.proofs.Scans.DecidedScans.{mark-step}
use Rattle.jpeg_decoder.proofs.Scans.PlacedCodings.{coding-at, seen-long}
use Rattle.jpeg_decoder.proofs.scan.decoded.Decoded.mark_rest.Goals as goal

-- the components from a slot on
rest-seen : (cs : List Coded) (codings : List Coding) (slot : ℕ) → map coding_in cs ≡ codings
    → map coding_in (take (length cs - slot) (drop slot cs)) ≡ drop slot codings
rest-seen cs codings slot same =
    ap (map coding_in) (take_rest cs slot) ∙ sym (drop-map coding_in slot cs) ∙ ap (drop slot) same

pub loop-coded-preserved : goal.loop-coded-preserved
loop-coded-preserved c =
    let l = c.loop-coded in
    let p = c.args.scan.now.pass in
    let all = c.components.result.now in
    let cs = take (length all - c.args.from) (drop c.args.from all) in
    let rest = drop c.args.from c.args.scan.now.codings in
    let same : map coding_in cs ≡ rest =
    rest-seen all c.args.scan.now.codings c.args.from c.components.ensures.codings in
    let coded = c.coded-item.result in
    let within = c.loop-coded-test.true in
    let is = c.coded-item.is in
    let marked : c.finish.new.marks ≡ marks_after p l.self.finished coded.index =
    grind (arith, common_steps, get_or_default) in
    let there = subst (IsDecided c.args.self.now.planes) (coding-at cs rest l.coded-index coded same within is)
    (c.requires.decided l.coded-index (coding_in coded) (omega (arith, within, seen-long cs rest same))) in
    let decided = subst (λ (planes : List (Option (List ℕ))). IsDecided planes (coding_in coded))
    (sym l.invariant.planes) there in
    record {
      kept = search rules;
      samples = search rules;
      planes = search rules;
      added = λ base.
          mark-step p cs l.coded-index coded (with_decoded base l.self) c.finish.new.marks within is decided marked
          ∙ l.invariant.added base;
    }

pub returns-clause-planes : goal.returns-clause-planes
unfolding with_planes
returns-clause-planes c base =
    let l = c.loop-coded in
    let p = c.args.scan.now.pass in
    let all = c.components.result.now in
    let cs = take (length all - c.args.from) (drop c.args.from all) in
    let codings = map coding_in cs in
    let done : drop l.coded-index codings ≡ [] =
    drop_all l.coded-index codings (omega (arith, c.loop-coded-test.false, length-map cs coding_in)) in
    let none = drop l.coded-index (no_samples codings) in
    sym (ap (λ (left : List Coding). with_planes p left none (with_decoded base l.self)) done)
    ∙ l.invariant.added base
    ∙ ap (λ (left : List Coding). with_planes p left (no_samples left) (with_decoded base c.args.self.now))
    (rest-seen all c.args.scan.now.codings c.args.from c.components.ensures.codings)
