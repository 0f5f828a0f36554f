-- Bands that are refined code by code.
use Rattle.std.proofs.Common.{◌≡◌, ◌≢◌, ℕ, zero, suc, ◌+◌, ◌-◌, ◌*◌, ◌%◌, ◌^◌, ◌<◌, ◌≤◌, Bool, true, false}
use Rattle.std.proofs.Common.{List, [], ◌∷◌, ◌++◌, length}
use Rattle.std.proofs.Common.{set, map, refl, sym, ap, ap₂, ◌∙◌, subst, arith, ℤ, pos, negsuc, ◌*ℤ◌}
use Rattle.std.proofs.Common.{unsigned_abs, append_assoc, append-nil}
use Rattle.std.proofs.Common.{length-append, pow_pos, slice_index_or}
use Rattle.std.proofs.lemmas.Bool.{leb-true}
use Rattle.std.proofs.lemmas.Int.{ints}
use Rattle.std.proofs.lemmas.List.{length-map, map-append, set_at}
use Rattle.std.proofs.Math.Nat.{mul-le-mul, le_refl, one-mul}
use Rattle.std.proofs.Math.Seq.{get_or-append_seam}
use Rattle.std.specs.List.{AllByRecursion}
use Rattle.jpeg_bits.specs.Codes.{Table}
use Rattle.jpeg_bits.specs.Written.{IsCoded, bit, low_bits}
use Rattle.jpeg_meaning.specs.Levels.{toward_zero}
use Rattle.jpeg_meaning.specs.WrittenData.{NoneNew, WritesRefinement, corrections, count_unknown, is_old}
use Rattle.jpeg_meaning.specs.WrittenData.{sign_bit}
use Rattle.jpeg_meaning.specs.WrittenData.WritesRefinement.{found, none_left, passed, refined}
use Rattle.jpeg_meaning.proofs.Written.WrittenBands.{scaled-zero}
use Rattle.jpeg_meaning.proofs.Written.WrittenRefinements.{corrections-old, count-old, count-zero, map-scaled}
use Rattle.jpeg_meaning.proofs.Written.WrittenRefinements.{neg-times}
use Rattle.zaxbriar_strict.specs.BandCodes.{AreCorrections, CorrectsOne, PassesZeros, ReadsNew, ReadsRun}
use Rattle.zaxbriar_strict.specs.BandCodes.{Refines}
use Rattle.zaxbriar_strict.specs.BandCodes.{RefinesCodes, RefinesFront}
use Rattle.zaxbriar_strict.specs.Bands.{IsInner}
use Rattle.zaxbriar_strict.specs.Data.{Data, Reads, Takes}
use Rattle.zaxbriar_strict.specs.Sent.{AllInner, scaled_by}
use Rattle.zaxbriar_strict.proofs.Taken.{takes-then}

-- ---- lists of numbers

pub none-append : (us vs : List ℤ) → NoneNew us → NoneNew vs → NoneNew (us ++ vs)
unfolding NoneNew
none-append [] vs a b = b
none-append (u ∷ us) vs a b = (a.0, none-append us vs a.1 b)

pub none-one : (u : ℤ) → unsigned_abs u ≢ 1 → NoneNew (u ∷ [])
unfolding NoneNew
none-one u h = (h, tt)

pub none-empty : NoneNew []
unfolding NoneNew
none-empty = tt

pub no-corrections : corrections [] ≡ []
unfolding corrections
no-corrections = refl

pub none-counted : count_unknown [] ≡ 0
unfolding count_unknown
none-counted = refl

pub corrections-other : (u : ℤ) (us : List ℤ) → is_old u ≡ false → corrections (u ∷ us) ≡ corrections us
unfolding corrections
corrections-other u us o = rw (o, corrections) refl

pub corrections-append : (us vs : List ℤ) → corrections (us ++ vs) ≡ corrections us ++ corrections vs
corrections-append [] vs = ap (λ (l : List Bool). l ++ corrections vs) (sym no-corrections)
corrections-append (u ∷ us) vs = go (is_old u) refl (corrections-append us vs)
  where
    go : (b : Bool) → is_old u ≡ b → corrections (us ++ vs) ≡ corrections us ++ corrections vs
        → corrections (u ∷ (us ++ vs)) ≡ corrections (u ∷ us) ++ corrections vs
    go true o e = corrections-old u (us ++ vs) o ∙ ap (λ (l : List Bool). bit (unsigned_abs u % 2) ∷ l) e
        ∙ ap (λ (l : List Bool). l ++ corrections vs) (sym (corrections-old u us o))
    go false o e = corrections-other u (us ++ vs) o ∙ e
        ∙ ap (λ (l : List Bool). l ++ corrections vs) (sym (corrections-other u us o))

pub count-other : (u : ℤ) (us : List ℤ) → is_old u ≡ false → count_unknown (u ∷ us) ≡ suc (count_unknown us)
unfolding count_unknown
count-other u us o = rw (o, count_unknown) refl

pub count-append : (us vs : List ℤ) → count_unknown (us ++ vs) ≡ count_unknown us + count_unknown vs
count-append [] vs = let e = none-counted in omega (arith, e)
count-append (u ∷ us) vs = go (is_old u) refl (count-append us vs)
  where
    go : (b : Bool) → is_old u ≡ b → count_unknown (us ++ vs) ≡ count_unknown us + count_unknown vs
        → count_unknown (u ∷ (us ++ vs)) ≡ count_unknown (u ∷ us) + count_unknown vs
    go true o e = omega (arith, count-old u (us ++ vs) o, count-old u us o, e)
    go false o e = omega (arith, count-other u (us ++ vs) o, count-other u us o, e)

grows-left : (k n : ℕ) → 0 < n → k ≤ n * k
grows-left k n h = let e : 1 * k ≤ n * k = mul-le-mul h (le_refl k) in omega (arith, e, one-mul k)

pub zero-number : (al : ℕ) (m : ℤ) → m *ℤ pos (2 ^ al) ≡ pos 0 → m ≡ pos 0
zero-number al (pos n) e = go n (ap unsigned_abs e)
  where
    go : (n : ℕ) → n * 2 ^ al ≡ 0 → pos n ≡ pos 0
    go zero h = refl
    go (suc n) h =
        let p = pow_pos al in
        let g : 2 ^ al ≤ suc n * 2 ^ al = grows-left (2 ^ al) (suc n) (omega arith) in
        absurd (omega (arith, p, g, h))
zero-number al (negsuc n) e =
    let p = pow_pos al in
    let g : 2 ^ al ≤ suc n * 2 ^ al = grows-left (2 ^ al) (suc n) (omega arith) in
    let q = neg-times (suc n) (2 ^ al) in
    absurd (omega (arith, ints, p, g, q, e))

-- the first of what stands after some coefficients
pub all-after : (P : ℤ → Type 0) (front more : List ℤ) → AllByRecursion P (front ++ more) → AllByRecursion P more
all-after P [] more h = h
all-after P (x ∷ front) more h = all-after P front more h.1

pub index-after : (front more : List ℤ) (x : ℤ) (place : ℕ) → length front ≡ place
    → slice_index_or (front ++ x ∷ more) place (pos 0) ≡ x
index-after front more x place l =
    ap (λ (k : ℕ). slice_index_or (front ++ x ∷ more) k (pos 0)) (sym l) ∙ get_or-append_seam front x more (pos 0)

-- a coefficient was put that is inner only where the one before was
pub inner-set : (l : List ℤ) (place : ℕ) (v : ℤ) → (IsInner v → IsInner (slice_index_or l place (pos 0)))
    → AllInner (set l place v) → AllInner l
inner-set [] place v h all = tt
inner-set (x ∷ l) zero v h all = (h all.0, all.1)
inner-set (x ∷ l) (suc place) v h all = (all.0, inner-set l place v h all.1)

-- ---- from a place on

pub refines-start : (P : List ℤ → List Bool → Type 0) (al place : ℕ) (front kept tail block : List ℤ) (old : Data)
    → P [] [] → length front ≡ place → block ≡ front ++ (scaled_by (suc al) kept ++ tail) → Takes [] old old
    → Refines P al place front kept tail block old old
refines-start P al place front kept tail block old h l e t = record {
  numbers = [];
  others = kept;
  was = refl;
  sized = omega (arith, l);
  are = e;
  read = record { own = []; taken = t; holds = h };
}

-- what stands before the next coefficient
pub before-place : (al place : ℕ) (front numbers : List ℤ) → length front + length numbers ≡ place
    → length (front ++ scaled_by al numbers) ≡ place
before-place al place front numbers s =
    omega (arith, length-append front (scaled_by al numbers), length-map numbers (λ (u : ℤ). u *ℤ pos (2 ^ al)), s)

-- how many coefficients are left
pub left-over : {P : List ℤ → List Bool → Type 0} {al place : ℕ} {front kept tail block : List ℤ} {a b : Data} (count start : ℕ)
    → (r : Refines P al place front kept tail block a b) → length front ≡ start → start + length kept ≡ count
    → place + length r.others ≡ count
left-over {kept = kept} count start r l size =
    let s = r.sized in
    let k = ap (λ (l : List ℤ). length l) r.was in
    omega (arith, s, k, l, size, length-append (map (toward_zero 1) r.numbers) r.others, length-map r.numbers (toward_zero 1))

-- the coefficients are those before a place, and from it on
pub from-place : {P : List ℤ → List Bool → Type 0} {al place : ℕ} {front kept tail block : List ℤ} {a b : Data}
    → (r : Refines P al place front kept tail block a b)
    → block ≡ (front ++ scaled_by al r.numbers) ++ (scaled_by (suc al) r.others ++ tail)
from-place {al = al} {front = front} r = r.are ∙ sym (append_assoc front (scaled_by al r.numbers) _)

-- what is left is inner where all that was kept is
pub inner-others : {P : List ℤ → List Bool → Type 0} {al place : ℕ} {front kept tail block : List ℤ} {a b : Data}
    → (r : Refines P al place front kept tail block a b) → AllInner (scaled_by (suc al) kept)
    → AllInner (scaled_by (suc al) r.others)
inner-others {al = al} r inner =
    let before = map (toward_zero 1) r.numbers in
    all-after IsInner (scaled_by (suc al) before) (scaled_by (suc al) r.others)
    (subst (λ (l : List ℤ). AllInner l) (ap (scaled_by (suc al)) r.was ∙ map-scaled (suc al) before r.others) inner)

-- the next coefficient, and those after it
pub record NextIs (al place : ℕ) (others block : List ℤ) : Type 0 where
  pub kept : ℤ
  pub more : List ℤ
  pub first : others ≡ kept ∷ more
  pub is : slice_index_or block place (pos 0) ≡ kept *ℤ pos (2 ^ suc al)

pub next-is : {P : List ℤ → List Bool → Type 0} {al place : ℕ} {front kept tail block : List ℤ} {a b : Data}
    → (r : Refines P al place front kept tail block a b) → 1 ≤ length r.others → NextIs al place r.others block
next-is {al = al} {place = place} {front = front} {tail = tail} {block = block} r some =
    go r.others (front ++ scaled_by al r.numbers) (before-place al place front r.numbers r.sized) (from-place r) some
  where
    go : (others before : List ℤ) → length before ≡ place → block ≡ before ++ (scaled_by (suc al) others ++ tail)
        → 1 ≤ length others → NextIs al place others block
    go [] before l e some = absurd (omega arith)
    go (m ∷ more) before l e some = record {
      kept = m;
      more = more;
      first = refl;
      is = ap (λ (k : List ℤ). slice_index_or k place (pos 0)) e
          ∙ index-after before (scaled_by (suc al) more ++ tail) (m *ℤ pos (2 ^ suc al)) place l;
    }

-- one more number, of the next coefficient
pub refines-more : {P Q : List ℤ → List Bool → Type 0} {al place : ℕ} {front kept tail block : List ℤ} {a b c : Data}
    → (r : Refines P al place front kept tail block a b) → (n : NextIs al place r.others block)
    → (u : ℤ) (more : List ℤ) → toward_zero 1 u ≡ n.kept
    → more ≡ set block place (u *ℤ pos (2 ^ al)) → {from : Data} (own : List Bool)
    → Takes own from c → Q (r.numbers ++ u ∷ []) own → Refines Q al (place + 1) front kept tail more from c
refines-more {al = al} {place = place} {front = front} {kept = kept} {tail = tail} {block = block} r n u more was e own t h =
    let before = front ++ scaled_by al r.numbers in
    let l = before-place al place front r.numbers r.sized in
    let v = u *ℤ pos (2 ^ al) in
    let rest = scaled_by (suc al) n.more ++ tail in
    let parts : block ≡ before ++ (n.kept *ℤ pos (2 ^ suc al)) ∷ rest =
    from-place r ∙ ap (λ (k : List ℤ). before ++ (scaled_by (suc al) k ++ tail)) n.first in
    record {
      numbers = r.numbers ++ u ∷ [];
      others = n.more;
      was = r.was ∙ ap (λ (k : List ℤ). map (toward_zero 1) r.numbers ++ k) n.first
          ∙ ap (λ (x : ℤ). map (toward_zero 1) r.numbers ++ x ∷ n.more) (sym was)
          ∙ sym (append_assoc (map (toward_zero 1) r.numbers) (toward_zero 1 u ∷ []) n.more)
          ∙ ap (λ (k : List ℤ). k ++ n.more) (sym (map-append (toward_zero 1) r.numbers (u ∷ [])));
      sized = (let s = r.sized in omega (arith, s, length-append r.numbers (u ∷ [])));
      are = e ∙ ap (λ (k : List ℤ). set k place v) parts
          ∙ set_at before (n.kept *ℤ pos (2 ^ suc al)) rest v place l
          ∙ append_assoc front (scaled_by al r.numbers) (v ∷ rest)
          ∙ ap (λ (k : List ℤ). front ++ k) (sym (append_assoc (scaled_by al r.numbers) (v ∷ []) rest))
          ∙ ap (λ (k : List ℤ). front ++ (k ++ rest)) (sym (map-scaled al r.numbers (u ∷ [])));
      read = record { own = own; taken = t; holds = h };
    }

-- ---- corrections

pub corrected-one : (us : List ℤ) (u : ℤ) (a b : List Bool) → is_old u ≡ true → AreCorrections us a
    → corrections (u ∷ []) ≡ b → AreCorrections (us ++ u ∷ []) (a ++ b)
corrected-one us u a b o c e = record {
  none = none-append us (u ∷ []) c.none (none-one u (λ h. let k = leb-true 2 (unsigned_abs u) o in omega (arith, h, k)));
  are = corrections-append us (u ∷ []) ∙ ap₂ (λ (x y : List Bool). x ++ y) c.are e;
}

pub passed-zero : (us : List ℤ) (a : List Bool) → AreCorrections us a → AreCorrections (us ++ pos 0 ∷ []) a
passed-zero us a c = record {
  none = none-append us (pos 0 ∷ []) c.none (none-one (pos 0) (λ h. omega (arith, h)));
  are = corrections-append us (pos 0 ∷ []) ∙ ap₂ (λ (x y : List Bool). x ++ y) c.are
      (corrections-other (pos 0) [] refl ∙ no-corrections) ∙ append-nil a;
}

-- one more coefficient was corrected, of a block before it is put there
pub corrects-next : {Q : List ℤ → List Bool → Type 0} {al place : ℕ} {front kept tail block more : List ℤ} {a b c : Data}
    → (R : List ℤ → List Bool → Type 0)
    → ((us : List ℤ) (u : ℤ) (x y : List Bool) → is_old u ≡ true → Q us x → corrections (u ∷ []) ≡ y → R (us ++ u ∷ []) (x ++ y))
    → (r : Refines Q al place front kept tail block a b) → (n : NextIs al place r.others block)
    → (v : ℤ) → CorrectsOne al n.kept v b c → more ≡ set block place v
    → Refines R al (place + 1) front kept tail more a c
corrects-next {al = al} {place = place} {block = block} R step r n v o e =
    refines-more {Q = R} r n o.number _ o.was (e ∙ ap (λ (x : ℤ). set block place x) o.are)
    (r.read.own ++ corrections (o.number ∷ [])) (takes-then r.read.taken o.read)
    (step r.numbers o.number r.read.own (corrections (o.number ∷ [])) o.is_old r.read.holds refl)

-- a coefficient that isn't known yet stays
pub zero-next : {Q : List ℤ → List Bool → Type 0} {al place : ℕ} {front kept tail block : List ℤ} {a b : Data}
    → (R : List ℤ → List Bool → Type 0)
    → ((us : List ℤ) (x : List Bool) → Q us x → R (us ++ pos 0 ∷ []) x)
    → (r : Refines Q al place front kept tail block a b) → (n : NextIs al place r.others block)
    → slice_index_or block place (pos 0) ≡ pos 0
    → Refines R al (place + 1) front kept tail block a b
zero-next {al = al} {place = place} {block = block} R step r n z =
    refines-more {Q = R} r n (pos 0) block (sym (zero-number (suc al) n.kept (sym n.is ∙ z)))
    (same-set block place (pos 0 *ℤ pos (2 ^ al)) (z ∙ sym (scaled-zero al)))
    r.read.own r.read.taken (step r.numbers r.read.own r.read.holds)
  where
    same-set : (l : List ℤ) (i : ℕ) (v : ℤ) → slice_index_or l i (pos 0) ≡ v → l ≡ set l i v
    same-set [] i v h = refl
    same-set (x ∷ l) zero v h = ap (λ (y : ℤ). y ∷ l) h
    same-set (x ∷ l) (suc i) v h = ap (λ (k : List ℤ). x ∷ k) (same-set l i v h)

pub passes-old : (many : ℕ) (us : List ℤ) (u : ℤ) (x y : List Bool) → is_old u ≡ true → PassesZeros many us x
    → corrections (u ∷ []) ≡ y → PassesZeros many (us ++ u ∷ []) (x ++ y)
passes-old many us u x y o p e = record {
  corrected = corrected-one us u x y o p.corrected e;
  count = (let c = p.count in omega (arith, count-append us (u ∷ []), count-old u [] o, none-counted, c));
}

pub passes-zero : (many : ℕ) (us : List ℤ) (x : List Bool) → PassesZeros many us x
    → PassesZeros (suc many) (us ++ pos 0 ∷ []) x
passes-zero many us x p = record {
  corrected = passed-zero us x p.corrected;
  count = (let c = p.count in omega (arith, count-append us (pos 0 ∷ []), count-zero [], none-counted, c));
}

pub none-corrected : AreCorrections [] []
none-corrected = record { none = none-empty; are = no-corrections }

pub none-passed : PassesZeros 0 [] []
none-passed = record { corrected = none-corrected; count = none-counted }

-- ---- fronts

pub front-empty : (table : Table) → RefinesFront table [] []
front-empty table more bits run w = w

pub front-then : (table : Table) (a b : List ℤ) (own more : List Bool) → RefinesFront table a own
    → RefinesFront table b more → RefinesFront table (a ++ b) (own ++ more)
front-then table a b own more f g rest bits run w =
    rw (append_assoc a b rest, append_assoc own more bits) (f (b ++ rest) (more ++ bits) run (g rest bits run w))

pub front-found : (table : Table) (r : ℕ) (front : List ℤ) (u : ℤ) (code own : List Bool) → r ≤ 15
    → PassesZeros r front own → unsigned_abs u ≡ 1 → IsCoded table (16 * r + 1) code
    → RefinesFront table (front ++ u ∷ []) (code ++ (bit (sign_bit u) ∷ own))
front-found table r front u code own few p one coded more bits run w =
    let b = bit (sign_bit u) in
    let f : WritesRefinement table (front ++ u ∷ more) (code ++ (b ∷ (corrections front ++ bits))) run =
    found r front u code more bits run few p.corrected.none p.count one coded w in
    rw (append_assoc front (u ∷ []) more, append_assoc code (b ∷ own) bits)
    (subst (λ (l : List Bool). WritesRefinement table (front ++ u ∷ more) (code ++ (b ∷ (l ++ bits))) run) p.corrected.are f)

pub front-passed : (table : Table) (front : List ℤ) (code own : List Bool)
    → PassesZeros 15 front own → IsCoded table (16 * 15 + 0) code
    → RefinesFront table (front ++ pos 0 ∷ []) (code ++ own)
front-passed table front code own p coded more bits run w =
    let f : WritesRefinement table (front ++ pos 0 ∷ more) (code ++ (corrections front ++ bits)) run =
    passed front code more bits run p.corrected.none p.count coded w in
    rw (append_assoc front (pos 0 ∷ []) more, append_assoc code own bits)
    (subst (λ (l : List Bool). WritesRefinement table (front ++ pos 0 ∷ more) (code ++ (l ++ bits)) run) p.corrected.are f)

-- ---- a step

pub step-found : {table : Table} {al at many : ℕ} {front kept tail block more : List ℤ} {a b c d : Data}
    → (value : ℤ) → many ≤ 15 → Reads (IsCoded table (16 * many + 1)) a b → ReadsNew al value b c
    → (r : Refines (PassesZeros many) al at front kept tail block c d) → (n : NextIs al at r.others block)
    → slice_index_or block at (pos 0) ≡ pos 0 → more ≡ set block at value
    → Refines (RefinesFront table) al (at + 1) front kept tail more a d
step-found {table} {al} {at} {many} {block = block} value few code new r n z e =
    refines-more {Q = RefinesFront table} r n new.number _ (toward-new new.number new.is_new
    ∙ sym (zero-number (suc al) n.kept (sym n.is ∙ z)))
    (e ∙ ap (λ (x : ℤ). set block at x) new.are)
    (code.own ++ (bit (sign_bit new.number) ∷ r.read.own))
    (takes-then code.taken (takes-then new.read r.read.taken))
    (front-found table many r.numbers new.number code.own r.read.own few r.read.holds new.is_new code.holds)
  where
    toward-new : (u : ℤ) → unsigned_abs u ≡ 1 → toward_zero 1 u ≡ pos 0
    toward-new (pos k) h = rw h refl
    toward-new (negsuc k) h = rw h refl

pub step-passed : {table : Table} {al at many : ℕ} {front kept tail block more : List ℤ} {a b c d : Data}
    → (value : ℤ) → many ≡ 15 → value ≡ pos 0 → Reads (IsCoded table (16 * 15 + 0)) a b → Takes [] b c
    → (r : Refines (PassesZeros many) al at front kept tail block c d) → (n : NextIs al at r.others block)
    → slice_index_or block at (pos 0) ≡ pos 0 → more ≡ set block at value
    → Refines (RefinesFront table) al (at + 1) front kept tail more a d
step-passed {table} {al} {at} {block = block} value all none code t r n z e =
    refines-more {Q = RefinesFront table} r n (pos 0) _ (sym (zero-number (suc al) n.kept (sym n.is ∙ z)))
    (e ∙ ap (λ (x : ℤ). set block at x) (none ∙ sym (scaled-zero al)))
    (code.own ++ r.read.own)
    (takes-then code.taken (takes-then t r.read.taken))
    (front-passed table r.numbers code.own r.read.own
    (subst (λ (k : ℕ). PassesZeros k r.numbers r.read.own) all r.read.holds) code.holds)

-- ---- codes

-- what was read from a place on goes on from what was read up to it
pub refines-then : {P Q R : List ℤ → List Bool → Type 0} {al place next : ℕ} {front kept tail block more : List ℤ} {a b c : Data}
    → (r : Refines P al place front kept tail block a b)
    → (s : Refines Q al next (front ++ scaled_by al r.numbers) r.others tail more b c)
    → R (r.numbers ++ s.numbers) (r.read.own ++ s.read.own)
    → Refines R al next front kept tail more a c
refines-then {al = al} {place = place} {next = next} {front = front} {kept = kept} {tail = tail} r s h = record {
  numbers = r.numbers ++ s.numbers;
  others = s.others;
  was = r.was ∙ ap (λ (l : List ℤ). map (toward_zero 1) r.numbers ++ l) s.was
      ∙ sym (append_assoc (map (toward_zero 1) r.numbers) (map (toward_zero 1) s.numbers) s.others)
      ∙ ap (λ (l : List ℤ). l ++ s.others) (sym (map-append (toward_zero 1) r.numbers s.numbers));
  sized = (let p = before-place al place front r.numbers r.sized in let o = r.sized in let q = s.sized in
      omega (arith, length-append r.numbers s.numbers, p, o, q));
  are = s.are ∙ append_assoc front (scaled_by al r.numbers) _
      ∙ ap (λ (l : List ℤ). front ++ l) (sym (append_assoc (scaled_by al r.numbers) (scaled_by al s.numbers) _))
      ∙ ap (λ (l : List ℤ). front ++ (l ++ (scaled_by (suc al) s.others ++ tail))) (sym (map-scaled al r.numbers s.numbers));
  read = record { own = r.read.own ++ s.read.own; taken = takes-then r.read.taken s.read.taken; holds = h };
}

pub steps-then : {table : Table} {al place next : ℕ} {front kept tail block more : List ℤ} {a b c : Data}
    → (r : Refines (RefinesFront table) al place front kept tail block a b)
    → Refines (RefinesFront table) al next (front ++ scaled_by al r.numbers) r.others tail more b c
    → Refines (RefinesFront table) al next front kept tail more a c
steps-then {table} r s =
    refines-then {R = RefinesFront table} r s (front-then table r.numbers s.numbers r.read.own s.read.own r.read.holds s.read.holds)

-- the same numbers, of which something else holds with more bits
pub refines-as : {P Q : List ℤ → List Bool → Type 0} {al place : ℕ} {front kept tail block : List ℤ} {a b c : Data}
    → (r : Refines P al place front kept tail block a b) → (more : List Bool) → Takes more b c
    → Q r.numbers (r.read.own ++ more) → Refines Q al place front kept tail block a c
refines-as r more t h = record {
  numbers = r.numbers;
  others = r.others;
  was = r.was;
  sized = r.sized;
  are = r.are;
  read = record { own = r.read.own ++ more; taken = takes-then r.read.taken t; holds = h };
}

all-codes : (table : Table) (us : List ℤ) (own : List Bool) → RefinesFront table us own → RefinesCodes table 0 0 us (own ++ [])
all-codes table us own f [] l none =
    subst (λ (k : List Bool). WritesRefinement table (us ++ []) ((own ++ []) ++ k) 0) (sym no-corrections)
    (rw (append-nil (own ++ [])) (f [] [] 0 refined))
all-codes table us own f (x ∷ more) l none = absurd (omega (arith, l))

pub codes-done : {table : Table} {al place last : ℕ} {front kept tail block : List ℤ} {a b : Data}
    → Refines (RefinesFront table) al place front kept tail block a b → Takes [] b b → last < place
    → Refines (RefinesCodes table (suc last - place) 0) al place front kept tail block a b
codes-done {table} {al} {place} {last} {front} {kept} {tail} {block} {a} {b} r t above =
    let e : 0 ≡ suc last - place = omega arith in
    subst (λ (n : ℕ). Refines (RefinesCodes table n 0) al place front kept tail block a b) e
    (refines-as {Q = RefinesCodes table 0 0} r [] t (all-codes table r.numbers r.read.own r.read.holds))

ended-codes : (table : Table) (us : List ℤ) (own code : List Bool) (left order run : ℕ) {a b : Data}
    → RefinesFront table us own → 1 ≤ left → order ≤ 14 → IsCoded table (16 * order) code → (r : ReadsRun order run a b)
    → RefinesCodes table left run us (own ++ (code ++ low_bits order r.e))
ended-codes table us own code left order run f some few coded r [] l none = absurd (omega (arith, l, some))
ended-codes table us own code left order run f some few coded r (u ∷ others) l none =
    let p = pow_pos order in
    let h = r.are in
    let low = low_bits order r.e in
    let fix = corrections (u ∷ others) in
    let e : 2 ^ order - 1 + r.e ≡ run - 1 = omega (arith, p, h) in
    let same : 16 * order ≡ 16 * order + 0 = omega arith in
    let w : WritesRefinement table (u ∷ others) (code ++ (low ++ fix)) (2 ^ order - 1 + r.e) =
    none_left order r.e u others code few r.below none (subst (λ (k : ℕ). IsCoded table k code) same coded) in
    let g : WritesRefinement table (u ∷ others) (code ++ (low ++ fix)) (run - 1) =
    subst (λ (k : ℕ). WritesRefinement table (u ∷ others) (code ++ (low ++ fix)) k) e w in
    rw (append_assoc own (code ++ low) fix, append_assoc code low fix) (f (u ∷ others) (code ++ (low ++ fix)) (run - 1) g)

pub codes-ended : {table : Table} {al place last order run : ℕ} {front kept tail block : List ℤ} {a b c d : Data}
    → Refines (RefinesFront table) al place front kept tail block a b → place ≤ last → order ≤ 14
    → Reads (IsCoded table (16 * order)) b c → ReadsRun order run c d
    → Refines (RefinesCodes table (suc last - place) run) al place front kept tail block a d
codes-ended {table} {al} {place} {last} {order} {run} r within few code e =
    refines-as {Q = RefinesCodes table (suc last - place) run} r (code.own ++ low_bits order e.e) (takes-then code.taken e.read)
    (ended-codes table r.numbers r.read.own code.own (suc last - place) order run r.read.holds (omega arith) few code.holds e)

-- ---- the coefficient at a place, as it is read there

-- what stands at a place that is corrected
pub corrects-at : {Q : List ℤ → List Bool → Type 0} {al place last start : ℕ} {front kept tail block more : List ℤ} {a b c : Data}
    → (R : List ℤ → List Bool → Type 0)
    → ((us : List ℤ) (u : ℤ) (x y : List Bool) → is_old u ≡ true → Q us x → corrections (u ∷ []) ≡ y → R (us ++ u ∷ []) (x ++ y))
    → Refines Q al place front kept tail block a b → length front ≡ start → start + length kept ≡ suc last → place ≤ last
    → AllInner (scaled_by (suc al) kept) → (x v : ℤ) → x ≡ slice_index_or block place (pos 0) → x ≢ pos 0
    → ((m : ℤ) → x ≡ m *ℤ pos (2 ^ suc al) → x ≢ pos 0 → IsInner x → CorrectsOne al m v b c)
    → more ≡ set block place v → Refines R al (place + 1) front kept tail more a c
corrects-at {al = al} {last = last} {start = start} R step r l size within inner x v is some corrects e =
    let n = next-is r (let k = left-over (suc last) start r l size in omega (arith, k, within)) in
    let i : AllInner (scaled_by (suc al) (n.kept ∷ n.more)) =
    subst (λ (k : List ℤ). AllInner (scaled_by (suc al) k)) n.first (inner-others r inner) in
    let same : x ≡ n.kept *ℤ pos (2 ^ suc al) = is ∙ n.is in
    corrects-next R step r n v (corrects n.kept same some (subst IsInner (sym same) i.0)) e

-- what stands at a place and is 0
pub zero-at : {Q : List ℤ → List Bool → Type 0} {al place last start : ℕ} {front kept tail block : List ℤ} {a b : Data}
    → (R : List ℤ → List Bool → Type 0)
    → ((us : List ℤ) (x : List Bool) → Q us x → R (us ++ pos 0 ∷ []) x)
    → Refines Q al place front kept tail block a b → length front ≡ start → start + length kept ≡ suc last → place ≤ last
    → slice_index_or block place (pos 0) ≡ pos 0 → Refines R al (place + 1) front kept tail block a b
zero-at {last = last} {start = start} R step r l size within z =
    zero-next R step r (next-is r (let k = left-over (suc last) start r l size in omega (arith, k, within))) z

pub next-at : {P : List ℤ → List Bool → Type 0} {al place last start : ℕ} {front kept tail block : List ℤ} {a b : Data}
    → (r : Refines P al place front kept tail block a b) → length front ≡ start → start + length kept ≡ suc last → place ≤ last
    → NextIs al place r.others block
next-at {last = last} {start = start} r l size within =
    next-is r (let k = left-over (suc last) start r l size in omega (arith, k, within))
