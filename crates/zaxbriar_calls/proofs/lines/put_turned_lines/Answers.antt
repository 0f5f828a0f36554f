use Rattle.std.proofs.Common.{◌≡◌, ◌∙◌, ◌-◌, ◌*◌, ℕ, List, ap, arith, length, min, refl, subst}
use Rattle.std.specs.List.{concat}
use Rattle.zaxbriar_calls.specs.Upright.{AreLines, turned_byte}
use Rattle.zaxbriar_calls.proofs.TurnedLines.{all-written, AreAbove, band-more, lines-meant}
use Rattle.zaxbriar_calls.proofs.TurnedLines.{writes-none}
use Rattle.zaxbriar_calls.proofs.lines.put_turned_lines.Goals as goal

pub loop-index-init : goal.loop-index-init
loop-index-init c =
    let lines = c.args.lines in
    let old : List ℕ = c.args.pixels.now in
    record {
      pixels = writes-none lines (turned_byte lines (concat c.args.picture.now) old)
          (AreAbove lines 0) old
          (λ x y these. let none : ⊥ = omega (arith, these.2) in none);
      picture = refl;
      row = refl;
      band = refl;
    }

pub loop-index-preserved : goal.loop-index-preserved
loop-index-preserved c =
    let lines = c.args.lines in
    let old : List ℕ = c.args.pixels.now in
    let picture : List (List ℕ) = c.args.picture.now in
    let index : ℕ = c.loop-index.index in
    let from : ℕ = index * 32 in
    let count : ℕ = c.min-count.result in
    let few : count ≡ min 32 (lines.turn.height - from) = c.min-count.ensures
    ∙ ap (λ n. min 32 (n - from)) c.from-height.ensures in
    let are : AreLines lines picture from count c.read_band.new.band =
    subst (λ (l : List (List ℕ)). AreLines lines l from count c.read_band.new.band)
    c.loop-index.invariant.picture
    c.read_band.ensures.lines in
    record {
      pixels = band-more lines (turned_byte lines (concat picture) old) index from count old
          c.loop-index.pixels
          c.put_band.new.pixels refl few c.loop-index.invariant.pixels
          (c.put_band.ensures (turned_byte lines (concat picture) old)
          (lines-meant lines picture old c.read_band.new.band (length c.args.row.now) (length old)
          from count c.requires.stored c.requires.room (omega arith) are));
      picture = c.read_band.ensures.same ∙ c.loop-index.invariant.picture;
      row = c.read_band.auto.row ∙ c.loop-index.invariant.row;
      band = c.read_band.auto.band ∙ c.loop-index.invariant.band;
    }

pub returns : goal.returns
returns c =
    let lines = c.args.lines in
    let old : List ℕ = c.args.pixels.now in
    all-written lines (concat c.args.picture.now) old c.loop-index.pixels c.loop-index.index
    c.requires.room c.loop-index.auto.pixels (omega arith) c.loop-index.invariant.pixels
