-- What is noted of the band of a scan.
use Rattle.std.proofs.Common.{◌≡◌, ◌≢◌, ℕ, suc, ◌+◌, ◌-◌, ◌<◌, ◌≤◌, ◌==◌, Bool, true, false, true≢false, List, [], ◌∷◌, ◌++◌}
use Rattle.std.proofs.Common.{length, take, drop, get_or, set, replicate, refl, sym, ap, ap₂, ◌∙◌, subst, arith}
use Rattle.std.proofs.Common.{append_assoc, length-append, length-drop, length-take, take-append-drop, Option, Some, None}
use Rattle.std.proofs.Math.Seq.{drop-cons, set-append_seam}
use Rattle.std.proofs.Common.{eqb, not}
use Rattle.std.specs.Option.{option_eq}
use Rattle.std.proofs.lemmas.Bool.{eq-eqb, eqb-true, false≢true, ne_eqb}
use Rattle.std.proofs.lemmas.List.{get_or-drop, length-replicate, length-take-le, replicate-append-replicate, take_more}
use Rattle.std.specs.List.{AllByRecursion}
use Rattle.std.specs.Prelude.{if◌then◌else◌}
use Rattle.jpeg_bits.specs.Passes.{Pass, band_of, with_band}
use Rattle.zaxbriar_strict.specs.Progress.{NotesBand, NotesPass, level_before, levels_in}
use Rattle.zaxbriar_strict.specs.Sent.{IsBand}
use Rattle.zaxbriar_strict.specs.Sent.IsBand.{of_acs, of_dc}
use Rattle.zaxbriar_strict.proofs.Segments.{all-push}

abbrev Lowest : Type 0
Lowest = List (Option ℕ)

-- ---- place by place

-- the first n coefficients of a band
pub record NotesSome (first n : ℕ) (before : Option ℕ) (low : ℕ) (old new : Lowest) : Type 0 where
  pub was : AllByRecursion (λ x. x ≡ before) (take n (drop first old))
  pub is : new ≡ take first old ++ (replicate n (Some low) ++ drop (first + n) old)

pub some-band : (first n end low : ℕ) (before : Option ℕ) (old new : Lowest) → first + n ≡ end
    → NotesSome first n before low old new → NotesBand first end before low old new
some-band first n end low before old new e s =
    let k : n ≡ end - first = omega (arith, e) in
    record {
      was = subst (λ (m : ℕ). AllByRecursion (λ (x : Option ℕ). x ≡ before) (take m (drop first old))) k s.was;
      is = s.is ∙ ap₂ (λ (m e : ℕ). take first old ++ (replicate m (Some low) ++ drop e old)) k e;
    }

pub band-some : (first n end low : ℕ) (before : Option ℕ) (old new : Lowest) → first + n ≡ end
    → NotesBand first end before low old new → NotesSome first n before low old new
band-some first n end low before old new e s =
    let k : end - first ≡ n = omega (arith, e) in
    record {
      was = subst (λ (m : ℕ). AllByRecursion (λ (x : Option ℕ). x ≡ before) (take m (drop first old))) k s.was;
      is = s.is ∙ ap₂ (λ (m e : ℕ). take first old ++ (replicate m (Some low) ++ drop e old)) k (sym e);
    }

pub none-noted : (first low : ℕ) (before : Option ℕ) (old : Lowest) → NotesBand first first before low old old
none-noted first low before old =
    let e : first ≡ first + 0 = omega arith in
    some-band first 0 first low before old old (sym e) (record {
      was = tt;
      is = sym (take-append-drop first old) ∙ ap (λ (n : ℕ). take first old ++ drop n old) e;
    })

seam : {A : Type 0} (xs : List A) (y : A) (ys : List A) (d : A) → get_or (xs ++ y ∷ ys) (length xs) d ≡ y
seam [] y ys d = refl
seam (x ∷ xs) y ys d = seam xs y ys d

some-more : (first n low : ℕ) (before d : Option ℕ) (old new : Lowest) → first + n < length old
    → get_or new (first + n) d ≡ before → NotesSome first n before low old new
    → NotesSome first (n + 1) before low old (set new (first + n) (Some low))
some-more first n low before d old new lt at s =
    let y = get_or old (first + n) d in
    let rest = drop (suc (first + n)) old in
    let front = take first old ++ replicate n (Some low) in
    let split = drop-cons old (first + n) d lt in
    let whole : new ≡ front ++ y ∷ rest =
    s.is ∙ ap (λ (l : Lowest). take first old ++ (replicate n (Some low) ++ l)) split
    ∙ sym (append_assoc (take first old) (replicate n (Some low)) (y ∷ rest)) in
    let a = length-append (take first old) (replicate n (Some low)) in
    let b : length (take first old) ≡ first = length-take-le first old (omega (arith, lt)) in
    let c = length-replicate n (Some low) in
    let long : length front ≡ first + n = omega (arith, a, b, c) in
    let here : y ≡ before =
    sym (seam front y rest d) ∙ ap₂ (λ (l : Lowest) (i : ℕ). get_or l i d) (sym whole) long ∙ at in
    let e : suc (first + n) ≡ first + (n + 1) = omega arith in
    let inside : n < length (drop first old) = (let k = length-drop first old in omega (arith, k, lt)) in
    let last : get_or (drop first old) n d ≡ before = get_or-drop first old n d ∙ here in
    record {
      was = subst (λ (l : Lowest). AllByRecursion (λ (x : Option ℕ). x ≡ before) l)
          (sym (take_more (drop first old) n d inside))
          (all-push (λ (x : Option ℕ). x ≡ before) (take n (drop first old)) (get_or (drop first old) n d) s.was last);
      is = ap₂ (λ (l : Lowest) (i : ℕ). set l i (Some low)) whole (sym long)
          ∙ set-append_seam front y rest (Some low)
          ∙ append_assoc (take first old) (replicate n (Some low)) (Some low ∷ rest)
          ∙ ap (λ (l : Lowest). take first old ++ l)
          (sym (append_assoc (replicate n (Some low)) (Some low ∷ []) rest)
          ∙ ap₂ (λ (l m : Lowest). l ++ m) (replicate-append-replicate n 1 (Some low))
          (ap (λ (i : ℕ). drop i old) e));
    }

pub more-noted : (first place low : ℕ) (before d : Option ℕ) (old new : Lowest) → first ≤ place → place < length old
    → get_or new place d ≡ before → NotesBand first place before low old new
    → NotesBand first (place + 1) before low old (set new place (Some low))
more-noted first place low before d old new least lt at b =
    let n = place - first in
    let e : first + n ≡ place = omega (arith, least) in
    let next : first + (n + 1) ≡ place + 1 = omega (arith, least) in
    let inside : first + n < length old = omega (arith, e, lt) in
    let s = some-more first n low before d old new inside (ap (λ (i : ℕ). get_or new i d) e ∙ at)
    (band-some first n place low before old new e b) in
    some-band first (n + 1) (place + 1) low before old (set new place (Some low)) next
    (subst (λ (i : ℕ). NotesSome first (n + 1) before low old (set new i (Some low))) e s)

-- ---- the pass

-- the level before a pass
abbrev pub before_of : Bool → ℕ → Option ℕ
before_of true al = None
before_of false al = Some (suc al)

all-given : (first : Bool) (al : ℕ) (before : Option ℕ) (ls : Lowest) → before ≡ before_of first al
    → AllByRecursion (λ x. x ≡ before) ls → AllByRecursion (λ x. x ≡ before_of first al) ls
all-given first al before ls e all =
    subst (λ (o : Option ℕ). AllByRecursion (λ (x : Option ℕ). x ≡ o) ls) e all

-- of DC
pub dc-noted : (first : Bool) (al : ℕ) (old new : Lowest) → 1 ≤ length old
    → NotesBand 0 1 (before_of first al) al old new
    → NotesPass (record { is_first = first; ss = 0; se = 0; al = al }) old new
dc-noted first al [] new some b = absurd (omega (arith, some))
dc-noted true al (x ∷ xs) new some b = record {
  legal = λ low. record {
    low = low;
    dc_unsent = λ e f. b.was.0;
    dc_sent = λ e f. absurd (true≢false f);
    dc_before = λ ne. absurd (ne refl);
    acs_unsent = λ e. tt;
    acs_sent = λ e. tt;
  };
  after = ap levels_in b.is;
}
dc-noted false al (x ∷ xs) new some b = record {
  legal = λ low. record {
    low = low;
    dc_unsent = λ e f. absurd (false≢true f);
    dc_sent = λ e f. b.was.0;
    dc_before = λ ne. absurd (ne refl);
    acs_unsent = λ e. tt;
    acs_sent = λ e. tt;
  };
  after = ap levels_in b.is;
}

-- of AC
pub acs-noted : (first : Bool) (al b se : ℕ) (old new : Lowest) → b < se → se ≤ 63 → length old ≡ 64
    → get_or old 0 None ≢ None
    → NotesBand (suc b) (suc se) (before_of first al) al old new
    → NotesPass (record { is_first = first; ss = suc b; se = se; al = al }) old new
acs-noted first al b se [] new lt most sized dc n = absurd (omega (arith, sized))
acs-noted first al b se (x ∷ xs) new lt most sized dc n =
    let p : Pass = record { is_first = first; ss = suc b; se = se; al = al } in
    let e : suc b - 1 ≡ b = omega arith in
    let k : suc se - suc b ≡ se - (suc b - 1) = omega (arith, lt) in
    let same : take (suc se - suc b) (drop b xs) ≡ band_of p xs =
    ap₂ (λ (i j : ℕ). take i (drop j xs)) k (sym e) in
    let was : AllByRecursion (λ y. y ≡ before_of first al) (band_of p xs) =
    subst (λ (l : Lowest). AllByRecursion (λ (y : Option ℕ). y ≡ before_of first al) l) same n.was in
    let ne : suc b ≢ 0 = λ z. omega (arith, z) in
    let j = length-take (se - (suc b - 1)) (drop (suc b - 1) xs) in
    let m = length-drop (suc b - 1) xs in
    let size : suc se - suc b ≡ length (band_of p xs) = omega (arith, j, m, e, lt, most, sized) in
    let end : se ≡ suc b - 1 + (se - (suc b - 1)) = omega (arith, lt) in
    let level : get_or new 0 None ≡ (if suc b == 0 then Some al else x) =
    ap (λ (l : Lowest). get_or l 0 None) n.is
    ∙ sym (ap (λ (t : Bool). if t then Some al else x) (ne_eqb (suc b) 0 ne)) in
    let levels : drop 1 new ≡ with_band p xs (replicate (length (band_of p xs)) (Some al)) =
    ap (λ (l : Lowest). drop 1 l) n.is
    ∙ ap (λ (i : ℕ). take i xs ++ (replicate (suc se - suc b) (Some al) ++ drop se xs)) (sym e)
    ∙ ap₂ (λ (i j : ℕ). take (suc b - 1) xs ++ (replicate i (Some al) ++ drop j xs)) size end in
    record {
      legal = λ low. record {
        low = low;
        dc_unsent = λ z f. absurd (ne z);
        dc_sent = λ z f. absurd (ne z);
        dc_before = λ z. dc;
        acs_unsent = λ f. subst (λ (c : Bool). AllByRecursion (λ (y : Option ℕ). y ≡ before_of c al) (band_of p xs)) f was;
        acs_sent = λ f. subst (λ (c : Bool). AllByRecursion (λ (y : Option ℕ). y ≡ before_of c al) (band_of p xs)) f was;
      };
      after = λ i. record { dc = level i; acs = levels i };
    }

-- of either
pub pass-noted : (p : Pass) (old new : Lowest) → IsBand p → length old ≡ 64 → (p.ss ≢ 0 → get_or old 0 None ≢ None)
    → NotesBand p.ss (p.se + 1) (before_of p.is_first p.al) p.al old new → NotesPass p old new
pass-noted p old new (of_dc s e) sized dc n =
    let same : record { is_first = p.is_first; ss = 0; se = 0; al = p.al } ≡ p =
    λ i. record { is_first = p.is_first; ss = sym s i; se = sym e i; al = p.al } in
    subst (λ (q : Pass). NotesPass q old new) same
    (dc-noted p.is_first p.al old new (omega (arith, sized))
    (subst (λ (k : ℕ). NotesBand 0 k (before_of p.is_first p.al) p.al old new)
    (let k : p.se + 1 ≡ 1 = omega (arith, e) in k)
    (subst (λ (k : ℕ). NotesBand k (p.se + 1) (before_of p.is_first p.al) p.al old new) s n)))
pass-noted p old new (of_acs some within most) sized dc n =
    let b = p.ss - 1 in
    let s : suc b ≡ p.ss = omega (arith, some) in
    let e : p.se + 1 ≡ suc p.se = omega arith in
    let same : record { is_first = p.is_first; ss = suc b; se = p.se; al = p.al } ≡ p =
    λ i. record { is_first = p.is_first; ss = s i; se = p.se; al = p.al } in
    subst (λ (q : Pass). NotesPass q old new) same
    (acs-noted p.is_first p.al b p.se old new (omega (arith, s, within)) most sized
    (dc (λ z. omega (arith, some, z)))
    (subst (λ (k : ℕ). NotesBand (suc b) k (before_of p.is_first p.al) p.al old new) e
    (subst (λ (k : ℕ). NotesBand k (p.se + 1) (before_of p.is_first p.al) p.al old new) (sym s) n)))

pub spans : (p : Pass) → IsBand p → p.ss ≤ p.se
spans p (of_dc s e) = omega (arith, s, e)
spans p (of_acs some within most) = within

-- the level before a pass, by its Ah
pub level-given : (high low : ℕ) → (high ≢ 0 → high ≡ low + 1) → level_before high ≡ before_of (high == 0) low
level-given high low rule = go (high == 0) refl
  where
    go : (c : Bool) → (high == 0) ≡ c → (if c then None else Some high) ≡ before_of c low
    go true h = refl
    go false h =
        let e = rule (λ z. false≢true (sym h ∙ eq-eqb high 0 z)) in
        ap Some (let k : high ≡ suc low = omega (arith, e) in k)

-- levels that are told to be equal
pub same-level : (a b : Option ℕ) (ne : Bool) → ne ≡ not (option_eq eqb a b) → ne ≡ false → a ≡ b
same-level None None ne e f = refl
same-level None (Some y) ne e f = absurd (false≢true (sym f ∙ e))
same-level (Some x) None ne e f = absurd (false≢true (sym f ∙ e))
same-level (Some x) (Some y) ne e f = ap Some (go (eqb x y) refl)
  where
    go : (c : Bool) → eqb x y ≡ c → x ≡ y
    go true h = eqb-true x y h
    go false h = absurd (false≢true (sym f ∙ e ∙ ap not h))
