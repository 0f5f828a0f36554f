-- What was cut at the bits that were sent stays where it is cut at those that are sent later.
use Rattle.std.proofs.Common.{◌≡◌, ℕ, suc, ◌+◌, ◌*◌, ◌^◌, Bool, true, false, List, [], ◌∷◌, ◌++◌, length, take}
use Rattle.std.proofs.Common.{replicate, ℤ, pos, negsuc, neg_ℤ, ◌*ℤ◌, Option, Some, None, refl, sym, ap, ap₂, ◌∙◌}
use Rattle.std.proofs.Common.{subst, arith}
use Rattle.std.specs.Prelude.{◌==◌}
use Rattle.std.specs.List.{AllByRecursion}
use Rattle.std.proofs.Math.Nat.{mul_assoc, zero-mul}
use Rattle.std.proofs.lemmas.Bool.{eqb-true}
use lib.Pow.{pow-add}
use Rattle.jpeg_bits.specs.Passes.{Block, Pass, band_of, before_band}
use Rattle.jpeg_meaning.specs.Levels.{IsLegal, Levels, cut, cut_acs, cut_by, floor_at, sent_after, toward_zero}
use Rattle.jpeg_meaning.proofs.Written.CutLevels.{around-band, half-floor, halved-toward}
use Rattle.jpeg_meaning.proofs.Written.SentBlocks.{floor_half, halved}
use Rattle.jpeg_meaning.proofs.Written.WrittenRefinements.{neg-times}
use Rattle.jpeg_evidence.proofs.Taken.TakenLevels.{floor-scaled, toward-scaled}

-- ---- numbers

-- at the next level a number is twice another one
twice : (n b : ℕ) → n * 2 ^ suc b ≡ n * 2 * 2 ^ b
twice n b =
    ap (λ (k : ℕ). n * k) (ap (λ (k : ℕ). 2 ^ k) (let e : suc b ≡ 1 + b = omega arith in e) ∙ pow-add 2 1 b)
    ∙ sym (mul_assoc n 2 (2 ^ b))

as-twice : (q : ℤ) (b : ℕ) → q *ℤ pos (2 ^ suc b) ≡ q *ℤ pos 2 *ℤ pos (2 ^ b)
as-twice (pos n) b = ap pos (twice n b)
as-twice (negsuc n) b = ap (λ (k : ℕ). neg_ℤ (pos k)) (twice (suc n) b) ∙ sym (neg-times (suc n * 2) (2 ^ b))

-- A level that comes at once after another one, or is the same.
pub data IsLater : Option ℕ → Option ℕ → Type 0 where
  same : (l : Option ℕ) → IsLater l l
  first : (l : Option ℕ) → IsLater None l
  next : (b : ℕ) → IsLater (Some (suc b)) (Some b)

module _ (number_at : ℕ → ℤ → ℤ) (back : (b : ℕ) (q : ℤ) → number_at b (q *ℤ pos (2 ^ b)) ≡ q) where
  zero-back : (b : ℕ) → number_at b (pos 0) *ℤ pos (2 ^ b) ≡ pos 0
  zero-back b =
      let z : 0 * 2 ^ b ≡ 0 = zero-mul (2 ^ b) in
      ap (λ (x : ℤ). number_at b x *ℤ pos (2 ^ b)) (ap pos (sym z))
      ∙ ap (λ (x : ℤ). x *ℤ pos (2 ^ b)) (back b (pos 0)) ∙ ap pos z

  by-again : (q : ℤ) (b : ℕ) → number_at b (q *ℤ pos (2 ^ b)) *ℤ pos (2 ^ b) ≡ q *ℤ pos (2 ^ b)
  by-again q b = ap (λ (x : ℤ). x *ℤ pos (2 ^ b)) (back b q)

  zero-again : (l : Option ℕ) → cut_by number_at (pos 0) l ≡ pos 0
  zero-again None = refl
  zero-again (Some b) = zero-back b

  pub cut-again : (x : ℤ) (old new : Option ℕ) → IsLater old new
      → cut_by number_at (cut_by number_at x old) new ≡ cut_by number_at x old
  cut-again x None new (same l) = zero-again new
  cut-again x (Some b) new (same l) = by-again (number_at b x) b
  cut-again x old new (first l) = zero-again new
  cut-again x old new (next b) =
      let q = number_at (suc b) x in
      ap (λ (y : ℤ). number_at b y *ℤ pos (2 ^ b)) (as-twice q b) ∙ by-again (q *ℤ pos 2) b ∙ sym (as-twice q b)

-- ---- lists

abbrev pub AllLater : List (Option ℕ) → List (Option ℕ) → Type 0
AllLater [] [] = Unit {0}
AllLater (a ∷ olds) (b ∷ news) = IsLater a b × AllLater olds news
AllLater _ _ = ⊥

acs-again : (cs : List ℤ) (olds news : List (Option ℕ)) → AllLater olds news
    → cut_acs (cut_acs cs olds) news ≡ cut_acs cs olds
unfolding cut_acs
acs-again [] olds news h = refl
acs-again (c ∷ cs) [] [] h = refl
acs-again (c ∷ cs) (a ∷ olds) (b ∷ news) h =
    ap₂ (λ (x : ℤ) (xs : List ℤ). x ∷ xs) (cut-again toward_zero toward-scaled c a b h.0) (acs-again cs olds news h.1)
acs-again (c ∷ cs) [] (b ∷ news) h = absurd h
acs-again (c ∷ cs) (a ∷ olds) [] h = absurd h

all-themselves : (ls : List (Option ℕ)) → AllLater ls ls
all-themselves [] = tt
all-themselves (l ∷ ls) = (same l, all-themselves ls)

all-later : (olds news xs ys : List (Option ℕ)) → AllLater olds news → AllLater xs ys
    → AllLater (olds ++ xs) (news ++ ys)
all-later [] [] xs ys h k = k
all-later (o ∷ olds) (n ∷ news) xs ys h k = (h.0, all-later olds news xs ys h.1 k)
all-later [] (n ∷ news) xs ys h k = absurd h
all-later (o ∷ olds) [] xs ys h k = absurd h

all-as : (P : Option ℕ → Type 0) (l : Option ℕ) → ((x : Option ℕ) → P x → IsLater x l) → (ls : List (Option ℕ))
    → AllByRecursion P ls → AllLater ls (replicate (length ls) l)
all-as P l later [] h = tt
all-as P l later (a ∷ ls) h = (later a h.0, all-as P l later ls h.1)

-- ---- a block

pub record AreLater (old new : Levels) : Type 0 where
  dc : IsLater old.dc new.dc
  acs : AllLater old.acs new.acs

pub later-themselves : (l : Levels) → AreLater l l
later-themselves l = record { dc = same l.dc; acs = all-themselves l.acs }

-- The levels after a legal scan are later.
pub later-sent : (p : Pass) (l : Levels) → IsLegal p l → AreLater l (sent_after p l)
later-sent p l legal = record {
  dc = dc_later (p.ss == 0) refl p.is_first refl;
  acs = subst (λ (olds : List (Option ℕ)). AllLater olds (sent_after p l).acs) (around-band p l.acs)
      (all-later (take (before_band p) l.acs) (take (before_band p) l.acs) _ _
      (all-themselves (take (before_band p) l.acs))
      (all-later (band_of p l.acs) (replicate (length (band_of p l.acs)) (Some p.al)) _ _ (band_later p.is_first refl)
      (all-themselves _)));
}
  where
    dc_later : (b : Bool) → (p.ss == 0) ≡ b → (f : Bool) → p.is_first ≡ f → IsLater l.dc (sent_after p l).dc
    dc_later false e f g = rw e (same l.dc)
    dc_later true e true g = rw (e, legal.dc_unsent (eqb-true p.ss 0 e) g) (first (Some p.al))
    dc_later true e false g = rw (e, legal.dc_sent (eqb-true p.ss 0 e) g) (next p.al)

    band_later : (f : Bool) → p.is_first ≡ f
        → AllLater (band_of p l.acs) (replicate (length (band_of p l.acs)) (Some p.al))
    band_later true g = all-as (λ x. x ≡ None) (Some p.al)
        (λ x e. subst (λ (x : Option ℕ). IsLater x (Some p.al)) (sym e) (first (Some p.al))) (band_of p l.acs)
        (legal.acs_unsent g)
    band_later false g = all-as (λ x. x ≡ Some (suc p.al)) (Some p.al)
        (λ x e. subst (λ (x : Option ℕ). IsLater x (Some p.al)) (sym e) (next p.al)) (band_of p l.acs)
        (legal.acs_sent g)

-- A block that was cut stays where it is cut at later levels.
pub cut-later : (old new : Levels) (c : Block) → AreLater old new → cut new (cut old c) ≡ cut old c
cut-later old new c h =
    ap₂ (λ (x : ℤ) (xs : List ℤ). record { dc = x; acs = xs }) (cut-again floor_at floor-scaled c.dc old.dc new.dc h.dc)
    (acs-again c.acs old.acs new.acs h.acs)

-- ---- levels at which a later cut was cut

module _ (number_at : ℕ → ℤ → ℤ) (half : ℤ → ℤ)
    (back : (b : ℕ) (q : ℤ) → number_at b (q *ℤ pos (2 ^ b)) ≡ q)
    (halves : (b : ℕ) (x : ℤ) → half (number_at b x) ≡ number_at (suc b) x) where
  cut-before : (x : ℤ) (old new : Option ℕ) → IsLater old new
      → cut_by number_at (cut_by number_at x new) old ≡ cut_by number_at x old
  cut-before x old new (same l) = cut-again number_at back x l l (same l)
  cut-before x old new (first l) = refl
  cut-before x old new (next b) =
      ap (λ (y : ℤ). y *ℤ pos (2 ^ suc b))
      (sym (halves b (number_at b x *ℤ pos (2 ^ b))) ∙ ap half (back b (number_at b x)) ∙ halves b x)

acs-before : (cs : List ℤ) (olds news : List (Option ℕ)) → AllLater olds news
    → cut_acs (cut_acs cs news) olds ≡ cut_acs cs olds
unfolding cut_acs
acs-before [] olds news h = refl
acs-before (c ∷ cs) [] [] h = refl
acs-before (c ∷ cs) (a ∷ olds) (b ∷ news) h =
    ap₂ (λ (x : ℤ) (xs : List ℤ). x ∷ xs) (cut-before toward_zero halved toward-scaled halved-toward c a b h.0)
    (acs-before cs olds news h.1)
acs-before (c ∷ cs) [] (b ∷ news) h = absurd h
acs-before (c ∷ cs) (a ∷ olds) [] h = absurd h

-- A block that is cut at later levels gives the same at the earlier ones.
pub cut-earlier : (old new : Levels) (c : Block) → AreLater old new → cut old (cut new c) ≡ cut old c
cut-earlier old new c h =
    ap₂ (λ (x : ℤ) (xs : List ℤ). record { dc = x; acs = xs })
    (cut-before floor_at floor_half floor-scaled half-floor c.dc old.dc new.dc h.dc)
    (acs-before c.acs old.acs new.acs h.acs)

pub cut-count : (cs : List ℤ) (ls : List (Option ℕ)) → length cs ≡ length ls → length (cut_acs cs ls) ≡ length cs
unfolding cut_acs
cut-count [] [] h = refl
cut-count (c ∷ cs) (l ∷ ls) h = ap suc (cut-count cs ls (omega arith))
cut-count [] (l ∷ ls) h = absurd (omega arith)
cut-count (c ∷ cs) [] h = absurd (omega arith)
