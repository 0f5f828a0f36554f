-- Blocks that have the bits of some levels and no others, before and after a scan.
use Rattle.std.proofs.Common.{◌≡◌, ◌≢◌, ℕ, zero, suc, ◌+◌, ◌*◌, ◌^◌, ◌≤◌, ◌==◌, Bool, true, false}
use Rattle.std.proofs.Common.{List, [], ◌∷◌, ◌++◌, length, drop, take, map, replicate, refl, sym, ap, ap₂, ◌∙◌, subst, arith}
use Rattle.std.proofs.Common.{ℤ, pos, negsuc, neg_ℤ, ◌*ℤ◌, Option, Some, None, length-drop, length-take}
use Rattle.std.proofs.Common.{mul_assoc, pow-suc}
use Rattle.std.proofs.Math.Nat.{zero-mul}
use Rattle.std.proofs.lemmas.Bool.{eq-eqb, eqb-true, ne_eqb}
use Rattle.std.proofs.lemmas.List.{drop_at, length-map, length-replicate, take_at}
use Rattle.std.specs.List.{AllByRecursion}
use Rattle.std.specs.Prelude.{if◌then◌else◌}
use Rattle.jpeg_bits.specs.BlockView.{dc_in}
use Rattle.jpeg_bits.specs.Passes.{Block, Pass, band_of, band_size, before_band, with_band}
use Rattle.jpeg_meaning.specs.Levels.{IsLegal, Levels, cut, cut_acs, cut_by, floor_at, numbers_at, sent_after, toward_zero}
use Rattle.jpeg_meaning.specs.WrittenData.{no_numbers}
use Rattle.jpeg_meaning.proofs.Written.CutLevels.{all-same, around-band, band-cut, band-map, cut-append, cut-drop, cut-sent, cut-take}
use Rattle.jpeg_meaning.proofs.Written.CutLevels.{cut-unsent, half-floor, halved-toward, map-map, same-band, same-take}
use Rattle.jpeg_meaning.proofs.Written.SentBlocks.{floor_half, halved, scaled}
use Rattle.jpeg_meaning.proofs.Written.WrittenRefinements.{neg-times}
use Rattle.zaxbriar_strict.specs.Bands.{block_in}
use Rattle.zaxbriar_strict.specs.Changes.{IsCutAt, IsReady}
use Rattle.zaxbriar_strict.specs.Sent.{IsBand, scaled_by}
use Rattle.zaxbriar_strict.specs.Sent.IsBand.{of_acs, of_dc}
use Rattle.zaxbriar_strict.proofs.SentBlocks.{floor-scaled, toward-scaled}
use Rattle.zaxbriar_strict.proofs.SentAcs.{toward-all}

-- ---- what may be sent of a block

band-long : {A : Type 0} (p : Pass) (xs : List A) → IsBand p → length xs ≡ 63 → 1 ≤ p.ss
    → length (band_of p xs) ≡ band_size p
band-long p xs (of_dc s e) sized some = absurd (omega (arith, s, some))
band-long p xs (of_acs least within most) sized some =
    let j = length-take (band_size p) (drop (before_band p) xs) in
    let k = length-drop (before_band p) xs in
    omega (arith, j, k, sized, least, within, most)

-- A block that has the bits that were sent may be sent in a pass that may come.
pub ready-cut : (p : Pass) (l : Levels) (zs : List ℤ) → IsBand p → length l.acs ≡ 63 → IsLegal p l → IsCutAt l zs
    → IsReady p zs
ready-cut p l zs banded sized legal c =
    let u = block_in zs in
    let dc : u.dc ≡ cut_by floor_at u.dc l.dc = ap (λ (b : Block). b.dc) c.same in
    let acs : u.acs ≡ cut_acs u.acs l.acs = ap (λ (b : Block). b.acs) c.same in
    let sizes : length (band_of p u.acs) ≡ length (band_of p l.acs) =
    same-band p u.acs l.acs (c.sized ∙ sym sized) in
    let band : band_of p u.acs ≡ cut_acs (band_of p u.acs) (band_of p l.acs) =
    ap (band_of p) acs ∙ band-cut p u.acs l.acs in
    record {
      dc_first = λ s f. dc ∙ ap (λ (o : Option ℕ). cut_by floor_at u.dc o) (legal.dc_unsent s f);
      dc_again = λ s f. record {
        number = floor_at (suc p.al) u.dc;
        is = dc ∙ ap (λ (o : Option ℕ). cut_by floor_at u.dc o) (legal.dc_sent s f);
      };
      acs_first = λ some f.
          band ∙ cut-unsent (band_of p u.acs) (band_of p l.acs) sizes (legal.acs_unsent f)
          ∙ ap no_numbers (band-long p u.acs banded c.sized some);
      acs_again = λ some f. record {
        numbers = map (toward_zero (suc p.al)) (band_of p u.acs);
        are = band ∙ cut-sent (suc p.al) (band_of p u.acs) (band_of p l.acs) sizes (legal.acs_sent f)
            ∙ sym (map-map (toward_zero (suc p.al)) (scaled (suc p.al))
            (λ z. scaled (suc p.al) (toward_zero (suc p.al) z)) (λ z. refl) (band_of p u.acs));
      };
    }

-- ---- levels of a coefficient, of which the other one is the next

pub data IsNextLevel : Option ℕ → Option ℕ → Type 0 where
  same_level : (l : Option ℕ) → IsNextLevel l l
  first_level : (a : ℕ) → IsNextLevel None (Some a)
  next_level : (a : ℕ) → IsNextLevel (Some (suc a)) (Some a)

-- numbers at a level: of a number at a level, and of one at the next
record IsPoint (at : ℕ → ℤ → ℤ) : Type 0 where
  scaled_back : (a : ℕ) (u : ℤ) → at a (u *ℤ pos (2 ^ a)) ≡ u
  half : ℤ → ℤ
  halves : (a : ℕ) (u : ℤ) → half (at a u) ≡ at (suc a) u

floor-point : IsPoint floor_at
floor-point = record { scaled_back = floor-scaled; half = floor_half; halves = half-floor }

toward-point : IsPoint toward_zero
toward-point = record { scaled_back = toward-scaled; half = halved; halves = halved-toward }

double-unit : (a : ℕ) (u : ℤ) → u *ℤ pos (2 ^ suc a) ≡ (u *ℤ pos 2) *ℤ pos (2 ^ a)
double-unit a (pos n) =
    let e : 2 ^ suc a ≡ 2 * 2 ^ a = (let p = pow-suc 2 a in omega (arith, p)) in
    ap (λ (k : ℕ). pos (n * k)) e ∙ ap pos (sym (mul_assoc n 2 (2 ^ a)))
double-unit a (negsuc n) =
    let e : 2 ^ suc a ≡ 2 * 2 ^ a = (let p = pow-suc 2 a in omega (arith, p)) in
    let m : suc n * 2 ^ suc a ≡ suc n * 2 * 2 ^ a =
    ap (λ (k : ℕ). suc n * k) e ∙ sym (mul_assoc (suc n) 2 (2 ^ a)) in
    let f = neg-times (suc n) (2 ^ suc a) in
    let g = neg-times (suc n) 2 in
    let h = neg-times (suc n * 2) (2 ^ a) in
    ap (λ (k : ℕ). neg_ℤ (pos k)) m ∙ twice a (suc n * 2)
  where
    twice : (a m : ℕ) → neg_ℤ (pos (m * 2 ^ a)) ≡ neg_ℤ (pos m) *ℤ pos (2 ^ a)
    twice a zero = ap (λ (k : ℕ). neg_ℤ (pos k)) (zero-mul (2 ^ a)) ∙ sym (ap pos (zero-mul (2 ^ a)))
    twice a (suc m) = refl

module _ (at : ℕ → ℤ → ℤ) (point : IsPoint at) where
  at-zero : (a : ℕ) → at a (pos 0) ≡ pos 0
  at-zero a =
      let e : pos 0 ≡ pos 0 *ℤ pos (2 ^ a) = ap pos (sym (zero-mul (2 ^ a))) in
      ap (at a) e ∙ point.scaled_back a (pos 0)

  -- a number that is cut at a level is cut at the next one
  cut-next : (l m : Option ℕ) (z : ℤ) → IsNextLevel l m → z ≡ cut_by at z l → z ≡ cut_by at z m
  cut-next l m z (same_level k) e = e
  cut-next l m z (first_level a) e =
      e ∙ sym (ap (λ (x : ℤ). at a x *ℤ pos (2 ^ a)) e ∙ ap (λ (x : ℤ). x *ℤ pos (2 ^ a)) (at-zero a)
      ∙ ap pos (zero-mul (2 ^ a)))
  cut-next l m z (next_level a) e =
      let u = at (suc a) z *ℤ pos 2 in
      let f : z ≡ u *ℤ pos (2 ^ a) = e ∙ double-unit a (at (suc a) z) in
      f ∙ sym (ap (λ (x : ℤ). at a x *ℤ pos (2 ^ a)) f ∙ ap (λ (x : ℤ). x *ℤ pos (2 ^ a)) (point.scaled_back a u))

  -- what is cut at a level of what was cut at the next one is cut at that level
  cut-before : (l m : Option ℕ) (z : ℤ) → IsNextLevel l m → cut_by at (cut_by at z m) l ≡ cut_by at z l
  cut-before l m z (same_level None) = refl
  cut-before l m z (same_level (Some a)) =
      ap (λ (x : ℤ). x *ℤ pos (2 ^ a)) (point.scaled_back a (at a z))
  cut-before l m z (first_level a) = refl
  cut-before l m z (next_level a) =
      ap (λ (x : ℤ). x *ℤ pos (2 ^ suc a))
      (sym (point.halves a (at a z *ℤ pos (2 ^ a))) ∙ ap point.half (point.scaled_back a (at a z))
      ∙ point.halves a z)

-- ---- levels of a block

-- those of AC coefficients
unfoldable AreNextLevels : List (Option ℕ) → List (Option ℕ) → Type 0
AreNextLevels [] [] = Unit {0}
AreNextLevels (l ∷ ls) (m ∷ ms) = IsNextLevel l m × AreNextLevels ls ms
AreNextLevels _ _ = ⊥

next-same : (ls : List (Option ℕ)) → AreNextLevels ls ls
unfolding AreNextLevels
next-same [] = tt
next-same (l ∷ ls) = (same_level l, next-same ls)

next-append : (ls ms xs ys : List (Option ℕ)) → AreNextLevels ls ms → AreNextLevels xs ys
    → AreNextLevels (ls ++ xs) (ms ++ ys)
unfolding AreNextLevels
next-append [] [] xs ys a b = b
next-append [] (m ∷ ms) xs ys a b = absurd a
next-append (l ∷ ls) [] xs ys a b = absurd a
next-append (l ∷ ls) (m ∷ ms) xs ys a b = (a.0, next-append ls ms xs ys a.1 b)

next-each : (before : Option ℕ) (al : ℕ) (ls : List (Option ℕ)) → IsNextLevel before (Some al)
    → AllByRecursion (λ x. x ≡ before) ls → AreNextLevels ls (replicate (length ls) (Some al))
unfolding AreNextLevels
next-each before al [] n all = tt
next-each before al (l ∷ ls) n all =
    (subst (λ (o : Option ℕ). IsNextLevel o (Some al)) (sym all.0) n, next-each before al ls n all.1)

next-acs : (p : Pass) (l : Levels) → IsLegal p l → AreNextLevels l.acs (sent_after p l).acs
next-acs p l legal =
    let band = band_of p l.acs in
    subst (λ (ls : List (Option ℕ)). AreNextLevels ls (sent_after p l).acs) (around-band p l.acs)
    (next-append (take (before_band p) l.acs) (take (before_band p) l.acs) _ _ (next-same _)
    (next-append band (replicate (length band) (Some p.al)) _ _ (go p.is_first refl) (next-same _)))
  where
    go : (f : Bool) → p.is_first ≡ f
        → AreNextLevels (band_of p l.acs) (replicate (length (band_of p l.acs)) (Some p.al))
    go true f = next-each None p.al (band_of p l.acs) (first_level p.al) (legal.acs_unsent f)
    go false f = next-each (Some (suc p.al)) p.al (band_of p l.acs) (next_level p.al) (legal.acs_sent f)

next-dc : (p : Pass) (l : Levels) → IsLegal p l → IsNextLevel l.dc (sent_after p l).dc
next-dc p l legal = go (p.ss == 0) refl
  where
    again : (f : Bool) → p.is_first ≡ f → p.ss ≡ 0 → IsNextLevel l.dc (Some p.al)
    again true f z = subst (λ (o : Option ℕ). IsNextLevel o (Some p.al)) (sym (legal.dc_unsent z f)) (first_level p.al)
    again false f z = subst (λ (o : Option ℕ). IsNextLevel o (Some p.al)) (sym (legal.dc_sent z f)) (next_level p.al)

    go : (b : Bool) → (p.ss == 0) ≡ b → IsNextLevel l.dc (if b then Some p.al else l.dc)
    go true e = again p.is_first refl (eqb-true p.ss 0 e)
    go false e = same_level l.dc

acs-cut-next : (ls ms : List (Option ℕ)) (zs : List ℤ) → AreNextLevels ls ms → zs ≡ cut_acs zs ls
    → zs ≡ cut_acs zs ms
unfolding cut_acs AreNextLevels
acs-cut-next [] [] zs n e = e
acs-cut-next [] (m ∷ ms) zs n e = absurd n
acs-cut-next (l ∷ ls) [] zs n e = absurd n
acs-cut-next (l ∷ ls) (m ∷ ms) [] n e = refl
acs-cut-next (l ∷ ls) (m ∷ ms) (z ∷ zs) n e =
    let head : z ≡ cut_by toward_zero z l = cc in
    let tail : zs ≡ cut_acs zs ls = cc in
    ap₂ (λ (x : ℤ) (l : List ℤ). x ∷ l) (cut-next toward_zero toward-point l m z n.0 head)
    (acs-cut-next ls ms zs n.1 tail)

acs-cut-before : (ls ms : List (Option ℕ)) (zs : List ℤ) → AreNextLevels ls ms
    → cut_acs (cut_acs zs ms) ls ≡ cut_acs zs ls
unfolding cut_acs AreNextLevels
acs-cut-before [] [] [] n = refl
acs-cut-before [] [] (z ∷ zs) n = refl
acs-cut-before [] (m ∷ ms) zs n = absurd n
acs-cut-before (l ∷ ls) [] zs n = absurd n
acs-cut-before (l ∷ ls) (m ∷ ms) [] n = refl
acs-cut-before (l ∷ ls) (m ∷ ms) (z ∷ zs) n =
    ap₂ (λ (x : ℤ) (l : List ℤ). x ∷ l) (cut-before toward_zero toward-point l m z n.0)
    (acs-cut-before ls ms zs n.1)

-- A block that a scan leaves as it is has the bits that are sent after it.
pub still-cut : (p : Pass) (l : Levels) (zs : List ℤ) → IsLegal p l → IsCutAt l zs → IsCutAt (sent_after p l) zs
still-cut p l zs legal c =
    let u = block_in zs in
    let dc = cut-next floor_at floor-point l.dc (sent_after p l).dc u.dc (next-dc p l legal)
    (ap (λ (b : Block). b.dc) c.same) in
    let acs = acs-cut-next l.acs (sent_after p l).acs u.acs (next-acs p l legal) (ap (λ (b : Block). b.acs) c.same) in
    record { sized = c.sized; same = λ i. record { dc = dc i; acs = acs i } }

-- So it has those of another block before the scan, if it has them after it.
pub back-still : (p : Pass) (l : Levels) (zs : List ℤ) (u : Block) → IsLegal p l → IsCutAt l zs
    → block_in zs ≡ cut (sent_after p l) u → block_in zs ≡ cut l u
back-still p l zs u legal c e =
    let dc = cut-before floor_at floor-point l.dc (sent_after p l).dc u.dc (next-dc p l legal) in
    let acs = acs-cut-before l.acs (sent_after p l).acs u.acs (next-acs p l legal) in
    let twice : cut l (cut (sent_after p l) u) ≡ cut l u = λ i. record { dc = dc i; acs = acs i } in
    c.same ∙ ap (cut l) e ∙ twice

-- ---- what a pass sends of a block

-- Two blocks have the same numbers in the band of a pass.
pub record IsSameBand (p : Pass) (a b : Block) : Type 0 where
  pub dc : p.ss ≡ 0 → a.dc ≡ b.dc
  pub acs : band_of p a.acs ≡ band_of p b.acs

-- the band of a list that was put there
pub band-placed : {A : Type 0} (p : Pass) (xs band : List A) → before_band p ≤ length xs → length band ≡ band_size p
    → band_of p (with_band p xs band) ≡ band
band-placed p xs band long sized =
    let b = before_band p in
    let rest = drop (b + band_size p) xs in
    let front : length (take b xs) ≡ b = (let k = length-take b xs in omega (arith, k, long)) in
    ap (take (band_size p)) (drop_at (take b xs) (band ++ rest) b front) ∙ take_at band rest (band_size p) sized

band-levels : (p : Pass) (l : Levels) → IsBand p → length l.acs ≡ 63
    → band_of p (sent_after p l).acs ≡ replicate (length (band_of p l.acs)) (Some p.al)
band-levels p l (of_dc s e) sized =
    let b : before_band p ≡ 0 = omega (arith, s) in
    let n : band_size p ≡ 0 = omega (arith, s, e) in
    ap (λ (k : ℕ). take k (drop (before_band p) (sent_after p l).acs)) n
    ∙ sym (ap (λ (k : ℕ). replicate (length (take k (drop (before_band p) l.acs))) (Some p.al)) n)
band-levels p l (of_acs some within most) sized =
    let band = band_of p l.acs in
    let own = replicate (length band) (Some p.al) in
    band-placed p l.acs own (omega (arith, sized, within, most))
    (length-replicate (length band) (Some p.al) ∙ band-long p l.acs (of_acs some within most) sized some)

-- What a scan sends of a block that has the bits of another one is what it sends of that.
pub same-sent : (p : Pass) (l : Levels) (b u : Block) → IsBand p → length l.acs ≡ 63 → length u.acs ≡ 63
    → b ≡ cut (sent_after p l) u → IsSameBand p (numbers_at p.al b) (numbers_at p.al u)
same-sent p l b u banded sized many e =
    let own = replicate (length (band_of p l.acs)) (Some p.al) in
    let sizes : length (band_of p u.acs) ≡ length own =
    same-band p u.acs l.acs (many ∙ sym sized) ∙ sym (length-replicate (length (band_of p l.acs)) (Some p.al)) in
    record {
      dc = λ z.
          ap (λ (x : Block). floor_at p.al x.dc) e
          ∙ ap (λ (t : Bool). floor_at p.al (cut_by floor_at u.dc (if t then Some p.al else l.dc))) (eq-eqb p.ss 0 z)
          ∙ floor-scaled p.al (floor_at p.al u.dc);
      acs =
          band-map p (toward_zero p.al) b.acs
          ∙ ap (λ (x : Block). map (toward_zero p.al) (band_of p x.acs)) e
          ∙ ap (map (toward_zero p.al)) (band-cut p u.acs (sent_after p l).acs
          ∙ ap (λ (ls : List (Option ℕ)). cut_acs (band_of p u.acs) ls) (band-levels p l banded sized)
          ∙ cut-sent p.al (band_of p u.acs) own sizes (all-same (Some p.al) (length (band_of p l.acs))))
          ∙ map-map (λ z. scaled p.al (toward_zero p.al z)) (toward_zero p.al) (toward_zero p.al)
          (λ z. toward-scaled p.al (toward_zero p.al z)) (band_of p u.acs)
          ∙ sym (band-map p (toward_zero p.al) u.acs);
    }

-- ---- after a scan

-- A scan of DC leaves a block with the bits that are sent after it.
pub dc-cut : (first : Bool) (al : ℕ) (l : Levels) (old new : List ℤ) (number : ℤ)
    → dc_in new ≡ number *ℤ pos (2 ^ al) → drop 1 new ≡ drop 1 old → IsCutAt l old
    → IsCutAt (sent_after (record { is_first = first; ss = 0; se = 0; al = al }) l) new
dc-cut first al l old new number e others c =
    let dc : dc_in new ≡ floor_at al (dc_in new) *ℤ pos (2 ^ al) =
    e ∙ ap (λ (z : ℤ). z *ℤ pos (2 ^ al)) (sym (ap (floor_at al) e ∙ floor-scaled al number)) in
    let acs : drop 1 new ≡ cut_acs (drop 1 new) l.acs =
    others ∙ ap (λ (b : Block). b.acs) c.same ∙ ap (λ (zs : List ℤ). cut_acs zs l.acs) (sym others) in
    record { sized = ap length others ∙ c.sized; same = λ i. record { dc = dc i; acs = acs i } }

-- So does a scan of AC.
pub acs-cut : (p : Pass) (l : Levels) (old new numbers : List ℤ) → 1 ≤ p.ss → p.ss ≤ p.se → p.se ≤ 63
    → length l.acs ≡ 63 → length numbers ≡ band_size p → dc_in new ≡ dc_in old
    → drop 1 new ≡ with_band p (drop 1 old) (scaled_by p.al numbers) → length (drop 1 new) ≡ length (drop 1 old)
    → IsCutAt l old → IsCutAt (sent_after p l) new
acs-cut p l old new numbers some within most sized many same put long c =
    let b = before_band p in
    let s = band_size p in
    let xs = drop 1 old in
    let sent = scaled_by p.al numbers in
    let band = band_of p l.acs in
    let own = replicate (length band) (Some p.al) in
    let rest = drop (b + s) l.acs in
    let acs : xs ≡ cut_acs xs l.acs = ap (λ (u : Block). u.acs) c.same in
    let ne : p.ss ≢ 0 = λ z. omega (arith, some, z) in
    let level : (if p.ss == 0 then Some p.al else l.dc) ≡ l.dc =
    ap (λ (t : Bool). if t then Some p.al else l.dc) (ne_eqb p.ss 0 ne) in
    let dc : dc_in new ≡ cut_by floor_at (dc_in new) (sent_after p l).dc =
    same ∙ ap (λ (u : Block). u.dc) c.same
    ∙ ap₂ (λ (z : ℤ) (o : Option ℕ). cut_by floor_at z o) (sym same) (sym level) in
    let front : take b xs ≡ cut_acs (take b xs) (take b l.acs) = ap (take b) acs ∙ cut-take b xs l.acs in
    let end : drop (b + s) xs ≡ cut_acs (drop (b + s) xs) rest = ap (drop (b + s)) acs ∙ cut-drop (b + s) xs l.acs in
    let size : length sent ≡ length own =
    length-map numbers (λ z. z *ℤ pos (2 ^ p.al)) ∙ many
    ∙ sym (length-replicate (length band) (Some p.al) ∙ band-long p l.acs (of_acs some within most) sized some) in
    let middle : sent ≡ cut_acs sent own =
    sym (cut-sent p.al sent own size (all-same (Some p.al) (length band))
    ∙ sym (map-map (toward_zero p.al) (scaled p.al) (λ z. scaled p.al (toward_zero p.al z)) (λ z. refl) sent)
    ∙ ap (scaled_by p.al) (toward-all p.al numbers)) in
    let fronts : length (take b xs) ≡ length (take b l.acs) = same-take b xs l.acs (c.sized ∙ sym sized) in
    let whole : with_band p xs sent ≡ cut_acs (with_band p xs sent) (sent_after p l).acs =
    ap₂ (λ (x y : List ℤ). x ++ y) front (ap₂ (λ (x y : List ℤ). x ++ y) middle end
    ∙ sym (cut-append sent (drop (b + s) xs) own rest size))
    ∙ sym (cut-append (take b xs) (sent ++ drop (b + s) xs) (take b l.acs) (own ++ rest) fronts) in
    let now : drop 1 new ≡ cut_acs (drop 1 new) (sent_after p l).acs =
    put ∙ whole ∙ ap (λ (zs : List ℤ). cut_acs zs (sent_after p l).acs) (sym put) in
    record { sized = long ∙ c.sized; same = λ i. record { dc = dc i; acs = now i } }
