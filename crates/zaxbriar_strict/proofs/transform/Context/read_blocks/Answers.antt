use Rattle.std.proofs.Common.{◌≡◌, ◌+◌, ◌*◌, ◌++◌, ◌∷◌, [], ℕ, List, replicate, ap, ap₂, sym, ◌∙◌, arith, refl}
use Rattle.std.proofs.Common.{append-nil, append_assoc, set}
use Rattle.std.proofs.lemmas.List.{replicate-append-replicate}
use Rattle.std.proofs.lemmas.Result.{IfOk-weaker}
use Rattle.std.specs.List.{flat_map, range_with_len}
use Rattle.jpeg_bits.specs.Passes.{Via}
use Rattle.zaxbriar_strict.specs.Changes.{Place, kept_in}
use Rattle.zaxbriar_strict.specs.Contexts.{part_line, part_place}
use Rattle.zaxbriar_strict.specs.Loaded.{data_of}
use Rattle.zaxbriar_strict.proofs.Contexts.{blocks-alone, blocks-several, part-alone, part-several}
use Rattle.zaxbriar_strict.proofs.Places.{flat-more, line-more, place-by, set-here, set-here-get, set-twice}
use Rattle.zaxbriar_strict.proofs.Runs.{run-as, run-from, run-none, run-then}
use Rattle.zaxbriar_strict.proofs.transform.Context.read_blocks.Goals as goal

pub loop-below-init : goal.loop-below-init
loop-below-init c = record {
  kept = record { factors = refl; sent = refl; lowest = refl };
  read = λ p vias via index cs g wide high e f.
      let none : 0 ≡ 0 * c.side_of-across.result = omega arith in
      let k = c.args.self.now.is_progressive in
      run-from (sym (set-here cs index c.args.component.now f))
      (run-as (ap (λ (n : ℕ). replicate n via) none) refl
      (run-none k p c.args.past.now (kept_in cs) (data_of c.args.bits.now)));
}

pub loop-beside-init : goal.loop-beside-init
loop-beside-init c = record {
  kept = c.loop-below.invariant.kept;
  read = λ p vias via index cs g wide high e f.
      let n = c.loop-below.below * c.side_of-across.result in
      let same : n ≡ n + 0 = omega arith in
      run-as (ap (λ (n : ℕ). replicate n via) same) (sym (append-nil _))
      (c.loop-below.invariant.read p vias via index cs g wide high e f);
}

pub loop-beside-preserved : goal.loop-beside-preserved
loop-beside-preserved c = record {
  kept = record {
    factors = c.in_ok-read_block.ensures.kept.factors ∙ c.loop-beside.invariant.kept.factors;
    sent = c.in_ok-read_block.ensures.kept.sent ∙ c.loop-beside.invariant.kept.sent;
    lowest = c.in_ok-read_block.ensures.kept.lowest ∙ c.loop-beside.invariant.kept.lowest;
  };
  read = λ p vias via index cs g wide high e f.
      let one = c.args.component.now in
      let below = c.loop-below.below in
      let beside = c.loop-beside.beside in
      let rows = below * c.side_of-across.result in
      let n = rows + beside in
      let more : n + 1 ≡ rows + (beside + 1) = omega arith in
      let last : List Via = via ∷ [] in
      let whole : replicate n via ++ last ≡ replicate (rows + (beside + 1)) via =
      replicate-append-replicate n 1 via ∙ ap (λ (k : ℕ). replicate k via) more in
      let ds = set cs index c.loop-beside.component in
      let row = c.args.place.1 in
      let column = c.args.place.0 in
      let line = part_line row column index one beside below in
      let lines = flat_map (part_line row column index one one.across) (range_with_len 0 below) in
      let place = place-by index row column one below beside c.side_of-across.result c.side_of-down.result _ _ _ _ wide
      high c.side_of-across.ensures.most c.side_of-down.ensures.most c.loop-beside-test.true c.loop-below-test.true
      c.side_of-across.ensures.same c.side_of-down.ensures.same c.saturating_mul-left.ensures
      c.saturating_mul-top.ensures c.saturating_add.ensures c.saturating_add-in-loop-beside.ensures in
      let placed : (lines ++ line) ++ _ ∷ [] ≡ lines ++ part_line row column index one (beside + 1) below =
      append_assoc lines line _ ∙ ap (λ (l : List Place). lines ++ (line ++ l)) (ap (λ (q : Place). q ∷ []) place)
      ∙ ap (λ (l : List Place). lines ++ l) (sym (line-more (part_place row column index one below) beside)) in
      let b = c.in_ok-read_block.ensures.read p vias via index ds g e (set-here-get cs index one _ f) in
      run-from (set-twice cs index c.loop-beside.component _)
      (run-as whole placed (run-then (c.loop-beside.invariant.read p vias via index cs g wide high e f) b));
}

pub loop-below-preserved : goal.loop-below-preserved
loop-below-preserved c = record {
  kept = c.loop-beside.invariant.kept;
  read = λ p vias via index cs g wide high e f.
      let one = c.args.component.now in
      let over = c.loop-beside-test.false in
      let most = c.loop-beside.auto.beside-end in
      let across = c.side_of-across.result in
      let all : c.loop-beside.beside ≡ across = omega (arith, over, most) in
      let n = c.loop-below.below in
      let whole : n * across + c.loop-beside.beside ≡ (n + 1) * across = omega (arith, all) in
      let line = part_line c.args.place.1 c.args.place.0 index one in
      let lines = flat_map (line one.across) (range_with_len 0 n) in
      run-as (ap (λ (n : ℕ). replicate n via) whole)
      (ap (λ (k : ℕ). lines ++ line k n) (all ∙ c.side_of-across.ensures.same) ∙ sym (flat-more (line one.across) n))
      (c.loop-beside.invariant.read p vias via index cs g wide high e f);
}

pub returns-then-self-eq1-clause-read : goal.returns-then-self-eq1-clause-read
returns-then-self-eq1-clause-read c =
    let one = c.args.component.now in
    let count = c.args.self.now.scan.now.count in
    let alone = c.if-self-eq1.true in
    IfOk-weaker c.read_block.result _ _ (λ _ read p vias via index cs g wide high e f.
    run-as (ap (λ (n : ℕ). replicate n via) (sym (blocks-alone count one alone)))
    (sym (part-alone count c.args.place.1 c.args.place.0 index one alone)) (read p vias via index cs g e f))
    c.read_block.ensures.read

pub returns-clause-read : goal.returns-clause-read
returns-clause-read c = λ p vias via index cs g wide high e f.
    let over = c.loop-below-test.false in
    let most = c.loop-below.auto.below-end in
    let one = c.args.component.now in
    let count = c.args.self.now.scan.now.count in
    let all : c.loop-below.below ≡ one.down = omega (arith, over, most, c.side_of-down.ensures.same) in
    let whole : c.loop-below.below * c.side_of-across.result ≡ one.down * one.across =
    ap₂ (λ (m n : ℕ). m * n) all c.side_of-across.ensures.same in
    let line = part_line c.args.place.1 c.args.place.0 index one one.across in
    run-as (ap (λ (n : ℕ). replicate n via) (whole ∙ sym (blocks-several count one c.if-self-eq1.false)))
    (ap (λ (n : ℕ). flat_map line (range_with_len 0 n)) all
    ∙ sym (part-several count c.args.place.1 c.args.place.0 index one c.if-self-eq1.false))
    (c.loop-below.invariant.read p vias via index cs g wide high e f)
