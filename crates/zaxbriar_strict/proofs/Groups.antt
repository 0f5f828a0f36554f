-- Intervals of a number of parts, of which one more is written.
use Rattle.std.proofs.Common.{◌≡◌, ◌≢◌, ℕ, zero, suc, ◌+◌, ◌%◌, ◌≤◌, Bool, List, [], ◌∷◌, ◌++◌, length, take, drop, refl}
use Rattle.std.proofs.Common.{sym, ap, ◌∙◌, subst, arith, append_assoc, length-append, length-drop}
use Rattle.std.proofs.lemmas.List.{drop_all, drop_at, take_all, take_at}
use Rattle.jpeg_bits.specs.Intervals.{first_group, groups, other_groups}
use Rattle.jpeg_bits.specs.Written.{WritesInterval, WritesIntervals, marker}
use Rattle.jpeg_bits.specs.Written.WritesIntervals.{another, last}
use Rattle.jpeg_bits.proofs.WrittenIntervals.{marker-append}
use Rattle.zaxbriar_strict.specs.Runs.{Closes, WritesGroups}
use Rattle.zaxbriar_strict.specs.Markers.{BeginsMarker}
use Rattle.zaxbriar_strict.proofs.Turns.{IsInterval}

-- ---- groups

groups-enough : {A : Type 0} (a b n : ℕ) (xs : List A) → length xs ≤ a → length xs ≤ b
    → groups a (suc n) xs ≡ groups b (suc n) xs
unfolding groups
groups-enough a b n [] h k = refl
groups-enough zero b n (x ∷ xs) h k = absurd (omega arith)
groups-enough (suc a) zero n (x ∷ xs) h k = absurd (omega arith)
groups-enough {A} (suc a) (suc b) n (x ∷ xs) h k =
    ap (λ (l : List (List A)). take (suc n) (x ∷ xs) ∷ l)
    (groups-enough a b n (drop n xs) (omega (arith, length-drop n xs)) (omega (arith, length-drop n xs)))

others-after : {A : Type 0} (n : ℕ) (one : List A) (x : A) (xs : List A) → length one ≡ suc n
    → other_groups (suc n) (one ++ x ∷ xs) ≡ first_group (suc n) (x ∷ xs) ∷ other_groups (suc n) (x ∷ xs)
unfolding groups
others-after {A} n one x xs h =
    let all = one ++ x ∷ xs in
    let l = length-append one (x ∷ xs) in
    ap (λ (k : List A). groups (length all) (suc n) k) (drop_at one (x ∷ xs) (suc n) h)
    ∙ groups-enough (length all) (suc (length xs)) n (x ∷ xs) (omega (arith, l)) (omega arith)
    ∙ ap (λ (k : List (List A)). take (suc n) (x ∷ xs) ∷ k)
    (groups-enough (length xs) (suc (length xs)) n (drop n xs) (omega (arith, length-drop n xs))
    (omega (arith, length-drop n xs)))

-- ---- intervals

-- The parts of an interval are written so.
module _ {A : Type 0} (writes : List A → List Bool → Type 0) where
  group-written : (n k fill : ℕ) (one more : List A) (bytes tail : List ℕ) → length one ≡ suc n → 1 ≤ length more
      → WritesInterval (writes one) bytes → WritesGroups writes (suc n) (suc k) more tail
      → WritesGroups writes (suc n) k (one ++ more) (bytes ++ marker fill (0xD0 + k % 8) tail)
  group-written n k fill one [] bytes tail size some w ws = absurd (omega arith)
  group-written n k fill one (x ∷ xs) bytes tail size some w ws =
      let all = bytes ++ marker fill (0xD0 + k % 8) tail in
      let next = first_group (suc n) (x ∷ xs) in
      let others = other_groups (suc n) (x ∷ xs) in
      subst (λ (g : List A). WritesIntervals writes k g (other_groups (suc n) (one ++ x ∷ xs)) all)
      (sym (take_at one (x ∷ xs) (suc n) size))
      (subst (λ (gs : List (List A)). WritesIntervals writes k one gs all) (sym (others-after n one x xs size))
      (another k fill one next others bytes tail w ws))

  pub last-written : (every k : ℕ) (turns : List A) (bytes : List ℕ) → (every ≢ 0 → length turns ≤ every)
      → WritesInterval (writes turns) bytes → WritesGroups writes every k turns bytes
  unfolding groups
  last-written zero k turns bytes few w = last k turns bytes w
  last-written (suc n) k turns bytes few w =
      let ne : suc n ≢ 0 = omega arith in
      let short : length turns ≤ suc n = few ne in
      subst (λ (g : List A). WritesIntervals writes k g (other_groups (suc n) turns) bytes)
      (sym (take_all (suc n) turns short))
      (subst (λ (l : List A). WritesIntervals writes k turns (groups (length turns) (suc n) l) bytes)
      (sym (drop_all (suc n) turns short)) (last k turns bytes w))

  -- ---- intervals that are closed

  pub closes-none : (every : ℕ) (bytes : List ℕ) → Closes writes every [] 0 bytes bytes
  closes-none every bytes = record { front = []; parts = refl; goes_on = λ more tail some w. w }

  joined : (front own tail : List ℕ) (fill code : ℕ)
      → (front ++ (own ++ marker fill code [])) ++ tail ≡ front ++ (own ++ marker fill code tail)
  joined front own tail fill code =
      append_assoc front (own ++ marker fill code []) tail
      ∙ ap (λ (l : List ℕ). front ++ l) (append_assoc own (marker fill code []) tail
      ∙ ap (λ (l : List ℕ). own ++ l) (marker-append fill code [] tail))

  pub closes-more : (every k n : ℕ) (closed one : List A) (bytes rest between after : List ℕ) → every ≢ 0
      → length one ≡ every → n % 8 ≡ k % 8 → Closes writes every closed k bytes rest → IsInterval (writes one) rest between
      → BeginsMarker (0xD0 + n % 8) between after → Closes writes every (closed ++ one) (suc k) bytes after
  closes-more zero k n closed one bytes rest between after ne size number c i m = absurd (ne refl)
  closes-more (suc e) k n closed one bytes rest between after ne size number c i m =
      let code = 0xD0 + k % 8 in
      let marked : between ≡ marker m.fill code after =
      m.parts ∙ ap (λ (r : ℕ). marker m.fill (0xD0 + r) after) number in
      record {
        front = c.front ++ (i.front ++ marker m.fill code []);
        parts = c.parts
            ∙ ap (λ (l : List ℕ). c.front ++ l) (i.parts ∙ ap (λ (l : List ℕ). i.front ++ l) marked)
            ∙ sym (joined c.front i.front after m.fill code);
        goes_on = λ more tail some w.
            let l : 1 ≤ length (one ++ more) = omega (arith, length-append one more, some) in
            let own = i.front ++ marker m.fill code tail in
            let g = c.goes_on (one ++ more) own l
            (group-written e k m.fill one more i.front tail size some i.written w) in
            subst (λ (t : List A). WritesGroups writes (suc e) 0 t ((c.front ++ (i.front ++ marker m.fill code [])) ++ tail))
            (sym (append_assoc closed one more))
            (subst (λ (b : List ℕ). WritesGroups writes (suc e) 0 (closed ++ (one ++ more)) b)
            (sym (joined c.front i.front tail m.fill code)) g);
      }
