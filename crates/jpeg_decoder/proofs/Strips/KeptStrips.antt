-- Strips of which what is kept of the blocks is enough: where a block gives one sample, it is of DC alone.
use Rattle.std.proofs.lemmas.Grind.{common_steps}
use Rattle.std.proofs.Common.{◌≡◌, ℕ, ◌+◌, ◌-◌, ◌<◌, ◌++◌, Bool, true, false, List, ◌∷◌, map}
use Rattle.std.proofs.Common.{length, get_or, drop, Result, Ok, Err, refl, sym, ap, ap₂, ◌∙◌, arith}
use Rattle.std.proofs.Common.{[]}
use Rattle.std.specs.List.{AllByRecursion, range_with_len}
use Rattle.jpeg_bits.specs.Reading.{Fault}
use Rattle.jpeg_bits.specs.Entropy.{Text}
use Rattle.jpeg_bits.specs.Readers.{read_on}
use Rattle.jpeg_bits.specs.Passes.{Block, Pass, Via, zero_block}
use Rattle.jpeg_bits.specs.Skips.{dc_alone}
use Rattle.jpeg_bits.specs.Zigzag.{coefficients_in_block_order, zigzag_indices}
use Rattle.jpeg_pixels.specs.Planes.{plane_of}
use Rattle.jpeg_pixels.specs.Samples.{dequantized}
use Rattle.jpeg_pixels.specs.Scaled.{sample_at, sample_of_1}
use Rattle.jpeg_meaning.specs.InTurn.{Counted, blocks_from}
use Rattle.jpeg_meaning.specs.McuRows.{on_arrays, zero_rows}
use Rattle.jpeg_meaning.specs.Order.{Spot}
use Rattle.jpeg_meaning.specs.Rasters.{ordered}
use Rattle.jpeg_meaning.specs.Scans.{Arrays}
use Rattle.jpeg_meaning.specs.ScanSegments.{Coding, components_of}
use Rattle.jpeg_meaning.proofs.Order.Apart.{map-same}
use Rattle.jpeg_decoder.specs.Scanning.{kept_after, kept_arrays, kept_counted}
use Rattle.jpeg_decoder.specs.Strips.{samples_of, strips_from, with_strips}
use Rattle.std.proofs.Math.ListN.{get_or-map}
use Rattle.jpeg_decoder.proofs.Strips.StripSteps.{strips_step}

-- one sample of a block is of DC alone
one-sample : (b : Block) (q : List ℕ) (x y : ℕ) → sample_at 1 (ordered b) q x y ≡ sample_at 1 (ordered (dc_alone b)) q x y
unfolding sample_at sample_of_1 dequantized coefficients_in_block_order zigzag_indices
one-sample b q x y = refl

block-alike : (a b : List Block) (i : ℕ) → map dc_alone a ≡ map dc_alone b
    → dc_alone (get_or a i zero_block) ≡ dc_alone (get_or b i zero_block)
block-alike a b i e =
    sym (get_or-map dc_alone a i zero_block) ∙ ap (λ (l : List Block). get_or l i (dc_alone zero_block)) e
    ∙ get_or-map dc_alone b i zero_block

samples-alike : (high : ℕ) (c : Coding) (a b : List Block) → c.component.scale ≡ 1 → map dc_alone a ≡ map dc_alone b
    → samples_of high c a ≡ samples_of high c b
unfolding samples_of plane_of
samples-alike high c a b one e = grind (arith, common_steps, one-sample, block-alike, map-same)

strips-alike : (codings : List Coding) (a b : Arrays) (planes : List (List ℕ))
    → AllByRecursion (λ c. c.component.scale ≡ 1) codings → kept_arrays false a ≡ kept_arrays false b
    → with_strips codings a planes ≡ with_strips codings b planes
unfolding with_strips
strips-alike [] a b planes all e = refl
strips-alike (c ∷ codings) [] [] planes all e = refl
strips-alike (c ∷ codings) (x ∷ a) (y ∷ b) [] all e = refl
strips-alike (c ∷ codings) (x ∷ a) (y ∷ b) (p ∷ planes) all e =
    ap₂ (λ (l : List ℕ) (m : List (List ℕ)). (p ++ l) ∷ m)
    (samples-alike c.component.factors.vertical c x y all.0 (ap (λ (l : Arrays). get_or l 0 []) e))
    (strips-alike codings a b planes all.1 (ap (λ (l : Arrays). drop 1 l) e))
strips-alike _ _ _ planes all e = absurd (let n = ap (λ (l : Arrays). length l) e in omega arith)

kept-strips : (keeps : Bool) (codings : List Coding) (a b : Arrays) (planes : List (List ℕ))
    → (keeps ≡ false → AllByRecursion (λ c. c.component.scale ≡ 1) codings)
    → kept_arrays keeps a ≡ kept_arrays keeps b → with_strips codings a planes ≡ with_strips codings b planes
kept-strips true codings a b planes all e = ap (λ (l : Arrays). with_strips codings l planes) e
kept-strips false codings a b planes all e = strips-alike codings a b planes (all refl) e

pub kept-refused : (keeps : Bool) (o : Result (Counted × Text) Fault) (f : Fault)
    → read_on (kept_after keeps) o ≡ Err f → o ≡ Err f
kept-refused keeps (Ok r) f e = cc
kept-refused keeps (Err g) f e = e

-- a row of MCUs of which what is kept was read
pub strips_kept : (keeps : Bool) (p : Pass) (vias : List Via) (n : ℕ) (codings : List Coding) (f : ℕ → List Spot)
    (spots : List Spot) (k high : ℕ) (planes : List (List ℕ)) (zeros : Arrays) (old new : Counted) (t u : Text)
    → (keeps ≡ false → AllByRecursion (λ c. c.component.scale ≡ 1) codings)
    → k < high → zeros ≡ zero_rows 1 (components_of codings) → spots ≡ f k
    → read_on (kept_after keeps) (blocks_from p vias n spots (on_arrays zeros old) t) ≡ Ok (kept_counted keeps new, u)
    → strips_from p vias n codings (map f (range_with_len k (high - k))) planes old t
    ≡ strips_from p vias n codings (map f (range_with_len (k + 1) (high - (k + 1))))
    (with_strips codings new.reached.arrays planes) (on_arrays [] new) u
strips_kept keeps p vias n codings f spots k high planes zeros old new t u all h e is r =
    go (blocks_from p vias n spots (on_arrays zeros old) t) refl r
  where
    go : (o : Result (Counted × Text) Fault) → blocks_from p vias n spots (on_arrays zeros old) t ≡ o
        → read_on (kept_after keeps) o ≡ Ok (kept_counted keeps new, u)
        → strips_from p vias n codings (map f (range_with_len k (high - k))) planes old t
        ≡ strips_from p vias n codings (map f (range_with_len (k + 1) (high - (k + 1))))
        (with_strips codings new.reached.arrays planes) (on_arrays [] new) u
    go (Ok x) was r =
        let rest = strips_from p vias n codings (map f (range_with_len (k + 1) (high - (k + 1)))) in
        let same : kept_counted keeps x.0 ≡ kept_counted keeps new = grind arith in
        let strips = kept-strips keeps codings x.0.reached.arrays new.reached.arrays planes all
        (ap (λ (c : Counted). c.reached.arrays) same) in
        strips_step p vias n codings f spots k high planes zeros old x.0 t x.1 h e is was
        ∙ grind arith
    go (Err fault) was r = absurd (let n : ⊥ = cc in n)
