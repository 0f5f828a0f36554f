-- What was read of a block of a progressive frame is what a writer sends of it.
use Rattle.std.proofs.Common.{◌≡◌, ◌≢◌, ℕ, ◌^◌, ◌≤◌, Bool, List, [], ◌∷◌, length, drop}
use Rattle.std.proofs.Common.{map, get_or, set, ◌*ℤ◌, refl, sym, ap, ◌∙◌, subst, arith, ℤ, pos}
use Rattle.std.proofs.Common.{append-nil}
use Rattle.std.proofs.lemmas.List.{length-map}
use Rattle.jpeg_bits.specs.Passes.{Pass, Via, band_of, band_size, before_band, with_band}
use Rattle.jpeg_meaning.specs.Levels.{floor_at, numbers_at, toward_zero}
use Rattle.jpeg_meaning.specs.WrittenData.{WritesAc, WritesDc}
use Rattle.jpeg_meaning.specs.WrittenData.WritesAc.{no_band}
use Rattle.jpeg_meaning.specs.WrittenData.WritesDc.{other_band}
use Rattle.jpeg_meaning.proofs.Written.CutLevels.{band-map}
use Rattle.zaxbriar_strict.specs.Bands.{block_in}
use Rattle.zaxbriar_strict.specs.Blocks.{WritesTurns}
use Rattle.zaxbriar_strict.specs.Data.{Data, Reads}
use Rattle.zaxbriar_strict.specs.Sent.{ReadsSentAc, ReadsSentDc, scaled_by}
use Rattle.zaxbriar_strict.proofs.CutBlocks.{band-placed}
use Rattle.zaxbriar_strict.proofs.SentAcs.{toward-all}
use Rattle.zaxbriar_strict.proofs.SentBlocks.{dc_pass, floor-scaled}
use Rattle.zaxbriar_strict.proofs.Turns.{turn-by}

-- A block of DC.
pub dc-turn : (first : Bool) (al : ℕ) (via : Via) (predictors : List ℤ) (run : ℕ) (after : ℤ) (old new : List ℤ)
    {from to : Data}
    → ReadsSentDc (dc_pass first al) via.dc (get_or predictors via.component (pos 0)) after old new from to
    → Reads (WritesTurns (dc_pass first al) predictors run (set predictors via.component after) run
    ((via, numbers_at al (block_in new)) ∷ [])) from to
dc-turn first al via predictors run after old new r =
    let p = dc_pass first al in
    let u = numbers_at al (block_in new) in
    let number : r.number ≡ u.dc = sym (floor-scaled al r.number) ∙ ap (floor_at al) (sym (r.is refl)) in
    record {
      own = r.read.own;
      taken = r.read.taken;
      holds = subst (λ (l : List Bool). WritesTurns p predictors run (set predictors via.component after) run
          ((via, u) ∷ []) l) (append-nil r.read.own)
          (turn-by p via u predictors run run after r.read.own []
          (subst (λ (z : ℤ). WritesDc p via.dc z (get_or predictors via.component (pos 0)) r.read.own after) number
          r.read.holds) (no_band run));
    }

-- A block of AC.
pub acs-turn : (p : Pass) (via : Via) (predictors : List ℤ) (run left : ℕ) (old new : List ℤ) {from to : Data}
    → 1 ≤ p.ss → before_band p ≤ length (drop 1 old) → ReadsSentAc p via.ac run left old new from to
    → set predictors via.component (get_or predictors via.component (pos 0)) ≡ predictors
    → Reads (WritesTurns p predictors run predictors left ((via, numbers_at p.al (block_in new)) ∷ [])) from to
acs-turn p via predictors run left old new some long r same =
    let u = numbers_at p.al (block_in new) in
    let sent = scaled_by p.al r.numbers in
    let size : length sent ≡ band_size p = length-map r.numbers (λ z. z *ℤ pos (2 ^ p.al)) ∙ r.sized in
    let band : r.numbers ≡ band_of p u.acs =
    sym (toward-all p.al r.numbers) ∙ ap (map (toward_zero p.al)) (sym (band-placed p (drop 1 old) sent long size))
    ∙ sym (band-map p (toward_zero p.al) (with_band p (drop 1 old) sent))
    ∙ ap (λ (l : List ℤ). band_of p (map (toward_zero p.al) (drop 1 l))) (sym r.are) in
    let ne : p.ss ≢ 0 = λ e. omega (arith, some, e) in
    record {
      own = r.read.own;
      taken = r.read.taken;
      holds = subst (λ (l : List ℤ). WritesTurns p predictors run l left ((via, u) ∷ []) r.read.own) same
          (turn-by p via u predictors run left (get_or predictors via.component (pos 0)) [] r.read.own
          (other_band u.dc (get_or predictors via.component (pos 0)) ne)
          (subst (λ (l : List ℤ). WritesAc p via.ac l run r.read.own left) band r.read.holds));
    }
