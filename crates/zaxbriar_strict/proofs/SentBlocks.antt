-- What a block was before a pass of a progressive frame, and what the pass sends of it.
use Rattle.std.proofs.Common.{◌≡◌, ℕ, zero, suc, ◌+◌, ◌-◌, ◌*◌, ◌/◌, ◌^◌, ◌<◌, Bool, true, false, List}
use Rattle.std.proofs.Common.{drop, refl, sym, ap, ◌∙◌, arith, ℤ, pos, negsuc, neg_ℤ, ◌*ℤ◌}
use Rattle.std.proofs.Common.{pow_pos, Option}
use Rattle.std.proofs.lemmas.Nat.{div-mul-add}
use Rattle.std.proofs.Math.Nat.{add-mul, mul-div_cancel, one-mul, zero-mul}
use Rattle.jpeg_bits.specs.BlockView.{dc_in}
use Rattle.jpeg_bits.specs.Codes.{Table}
use Rattle.jpeg_bits.specs.Passes.{Block, Pass}
use Rattle.jpeg_meaning.specs.Levels.{IsLegal, Levels, cut, cut_acs, cut_by, floor_at, sent_after, toward_zero}
use Rattle.jpeg_meaning.proofs.Written.CutLevels.{half-floor}
use Rattle.jpeg_meaning.proofs.Written.SentBlocks.{floor_half}
use Rattle.zaxbriar_strict.specs.Bands.{block_in}
use Rattle.zaxbriar_strict.specs.Changes.{IsReady}
use Rattle.zaxbriar_strict.specs.Data.{Data}
use Rattle.zaxbriar_strict.specs.Sent.{ReadsSentDc}

-- ---- numbers at a level, of coefficients that have no lower bits

zero-over : (al : ℕ) → 0 / 2 ^ al ≡ 0
zero-over al = ap (λ (n : ℕ). n / 2 ^ al) (sym (zero-mul (2 ^ al))) ∙ mul-div_cancel 0 (pow_pos al)

toward-neg : (al m : ℕ) → toward_zero al (neg_ℤ (pos m)) ≡ neg_ℤ (pos (m / 2 ^ al))
toward-neg al zero = ap pos (zero-over al) ∙ sym (ap (λ (n : ℕ). neg_ℤ (pos n)) (zero-over al))
toward-neg al (suc m) = refl

pub toward-scaled : (al : ℕ) (u : ℤ) → toward_zero al (u *ℤ pos (2 ^ al)) ≡ u
toward-scaled al (pos n) = ap pos (mul-div_cancel n (pow_pos al))
toward-scaled al (negsuc n) =
    toward-neg al (suc n * 2 ^ al) ∙ ap (λ (k : ℕ). neg_ℤ (pos k)) (mul-div_cancel (suc n) (pow_pos al))

pub floor-scaled : (al : ℕ) (u : ℤ) → floor_at al (u *ℤ pos (2 ^ al)) ≡ u
floor-scaled al (pos n) = ap pos (mul-div_cancel n (pow_pos al))
floor-scaled al (negsuc n) =
    let k = 2 ^ al in
    let some = pow_pos al in
    let s : suc n ≡ n + 1 = omega arith in
    let e : suc n * k ≡ suc (n * k + (k - 1)) = (
    let a = ap (λ (m : ℕ). m * k) s ∙ add-mul n 1 k in
    let b = one-mul k in
    omega (arith, a, b, some)
    ) in
    let lt : k - 1 < k = omega (arith, some) in
    ap (λ (m : ℕ). floor_at al (neg_ℤ (pos m))) e ∙ ap negsuc (div-mul-add n k (k - 1) lt)

half-one : (z : ℤ) → floor_at 1 z ≡ floor_half z
half-one (pos n) = refl
half-one (negsuc n) = refl

-- ---- a scan of DC

abbrev pub dc_pass : Bool → ℕ → Pass
dc_pass first al = record { is_first = first; ss = 0; se = 0; al = al }

-- DC before the pass, by the number that it has after it
dc-back : (first : Bool) (al : ℕ) (table : Table) (before after : ℤ) (old new : List ℤ) (from to : Data) (l : Levels)
    (dc : ℤ) → IsReady (dc_pass first al) old → ReadsSentDc (dc_pass first al) table before after old new from to
    → IsLegal (dc_pass first al) l → dc_in new ≡ floor_at al dc *ℤ pos (2 ^ al) → dc_in old ≡ cut_by floor_at dc l.dc
dc-back true al table before after old new from to l dc ready r legal e =
    ready.dc_first refl refl ∙ sym (ap (λ (o : Option ℕ). cut_by floor_at dc o) (legal.dc_unsent refl refl))
dc-back false al table before after old new from to l dc ready r legal e =
    let number : r.number ≡ floor_at al dc =
    sym (floor-scaled al r.number) ∙ ap (floor_at al) (sym (r.is refl) ∙ e) ∙ floor-scaled al (floor_at al dc) in
    r.was refl refl
    ∙ ap (λ (z : ℤ). z *ℤ pos (2 ^ suc al)) (ap (floor_at 1) number ∙ half-one (floor_at al dc) ∙ half-floor al dc)
    ∙ sym (ap (λ (o : Option ℕ). cut_by floor_at dc o) (legal.dc_sent refl refl))

pub dc-next : (first : Bool) (al : ℕ) (table : Table) (before after : ℤ) (old new : List ℤ) (from to : Data)
    (l : Levels) (u : Block) → IsReady (dc_pass first al) old
    → ReadsSentDc (dc_pass first al) table before after old new from to → IsLegal (dc_pass first al) l
    → block_in new ≡ cut (sent_after (dc_pass first al) l) u → block_in old ≡ cut l u
dc-next first al table before after old new from to l u ready r legal e =
    let dc = dc-back first al table before after old new from to l u.dc ready r legal (ap (λ (b : Block). b.dc) e) in
    let acs : drop 1 old ≡ cut_acs u.acs l.acs = sym r.others ∙ ap (λ (b : Block). b.acs) e in
    λ i. record { dc = dc i; acs = acs i }
