-- Which components of a frame have scans, and what scans have sent of them.
use Rattle.std.proofs.Common.{◌≡◌, ℕ, zero, suc, ◌<◌, Bool, true, false, List, [], ◌∷◌, length, map}
use Rattle.std.proofs.Common.{get_or, set, refl, sym, ap, ◌∙◌, subst, arith, inl, inr}
use Rattle.std.specs.List.{AllByRecursion}
use Rattle.std.proofs.lemmas.Bool.{eq-eqb, false≢true, ne_eqb}
use Rattle.std.proofs.lemmas.List.{get_or-set_other, length-set}
use Rattle.jpeg_bits.specs.Passes.{whole_pass}
use Rattle.jpeg_meaning.specs.Levels.{Levels, nothing_sent, sent_after}
use Rattle.jpeg_meaning.specs.WrittenScans.{levels_after, levels_of_one}
use Rattle.jpeg_meaning.proofs.Order.Apart.{At, at-all}
use Rattle.zaxbriar_strict.specs.Heads.{AreUnsent, IsUnread, sent_with}
use Rattle.zaxbriar_strict.specs.declared.frame.Component.{Component}
use Rattle.zaxbriar_strict.specs.declared.scan.Member.{Member}
use Rattle.zaxbriar_strict.proofs.DecidedFrames.{equal}

-- ---- components that have scans

pub here-set : (sent : List Bool) (k : ℕ) → get_or (set sent k true) k true ≡ true
here-set [] k = refl
here-set (b ∷ bs) zero = refl
here-set (b ∷ bs) (suc k) = here-set bs k

still-set : (sent : List Bool) (k i : ℕ) → get_or sent i true ≡ true → get_or (set sent k true) i true ≡ true
still-set [] k i e = e
still-set (b ∷ bs) zero zero e = refl
still-set (b ∷ bs) zero (suc i) e = e
still-set (b ∷ bs) (suc k) zero e = e
still-set (b ∷ bs) (suc k) (suc i) e = still-set bs k i e

-- one that has none is in the list
pub unsent-within : (sent : List Bool) (i : ℕ) → get_or sent i true ≡ false → i < length sent
unsent-within [] i e = absurd (false≢true (sym e))
unsent-within (b ∷ bs) zero e = omega arith
unsent-within (b ∷ bs) (suc i) e = let lt = unsent-within bs i e in omega (arith, lt)

-- those that have scans have them after another one
pub still-sent : (ms : List Member) (sent : List Bool) (i : ℕ) → get_or sent i true ≡ true
    → get_or (sent_with ms sent) i true ≡ true
unfolding sent_with
still-sent [] sent i e = e
still-sent (m ∷ ms) sent i e = still-sent ms (set sent m.component true) i (still-set sent m.component i e)

-- and so have its components
pub sent-member : (ms : List Member) (sent : List Bool) (slot : ℕ) (m : Member) → At slot ms m
    → get_or (sent_with ms sent) m.component true ≡ true
unfolding sent_with
sent-member [] sent slot m here = absurd here
sent-member (n ∷ ms) sent zero m here =
    subst (λ (x : Member). get_or (sent_with ms (set sent n.component true)) x.component true ≡ true) here
    (still-sent ms (set sent n.component true) n.component (here-set sent n.component))
sent-member (n ∷ ms) sent (suc slot) m here = sent-member ms (set sent n.component true) slot m here

pub unsent-member : (ms : List Member) (sent : List Bool) (slot : ℕ) (m : Member) → AreUnsent sent ms → At slot ms m
    → get_or sent m.component true ≡ false
unsent-member ms sent slot m unsent here =
    at-all (λ (x : Member). get_or sent x.component true ≡ false) slot ms m unsent here

-- all of a list
pub sent-all : (xs : List Component) → AllByRecursion (λ (c : Component). c.has_scan ≡ true) xs
    → (i : ℕ) → get_or (map (λ (c : Component). c.has_scan) xs) i true ≡ true
sent-all [] all i = refl
sent-all (x ∷ xs) all zero = all.0
sent-all (x ∷ xs) all (suc i) = sent-all xs all.1 i

-- none of a list
pub unsent-all : (xs : List Component) → AllByRecursion IsUnread xs
    → (i : ℕ) → i < length (map (λ (c : Component). c.has_scan) xs)
    → get_or (map (λ (c : Component). c.has_scan) xs) i true ≡ false
unsent-all [] all i lt = absurd (omega arith)
unsent-all (x ∷ xs) all zero lt = all.0.unsent
unsent-all (x ∷ xs) all (suc i) lt = unsent-all xs all.1 i (omega arith)

-- ---- what was sent of them

-- Nothing was sent of a component without a scan, and all of one with a scan.
abbrev pub level_of : Bool → Levels
level_of true = sent_after whole_pass nothing_sent
level_of false = nothing_sent

abbrev pub AreLevels : List Bool → (ℕ → Levels) → Type 0
AreLevels sent levels = (k : ℕ) → k < length sent → levels k ≡ level_of (get_or sent k true)

sent-again : (b : Bool) → sent_after whole_pass (level_of b) ≡ level_of true
sent-again true = refl
sent-again false = refl

levels-set : (sent : List Bool) (levels : ℕ → Levels) (i : ℕ) → AreLevels sent levels
    → AreLevels (set sent i true) (levels_of_one whole_pass i levels)
levels-set sent levels i are k lt =
    let within : k < length sent = (let l = length-set sent i true in omega (arith, lt, l)) in
    elim (equal k i) [
      | inl e ↦ ap (λ (b : Bool). elim b as (λ _. Levels)
          [ true ↦ sent_after whole_pass (levels k) | false ↦ levels k ]) (eq-eqb k i e)
          ∙ ap (λ (l : Levels). sent_after whole_pass l) (are k within)
          ∙ sent-again (get_or sent k true)
          ∙ ap level_of (sym (here-set sent i) ∙ ap (λ (j : ℕ). get_or (set sent i true) j true) (sym e))
      | inr ne ↦ ap (λ (b : Bool). elim b as (λ _. Levels)
          [ true ↦ sent_after whole_pass (levels k) | false ↦ levels k ]) (ne_eqb k i ne)
          ∙ are k within
          ∙ ap level_of (sym (get_or-set_other sent i k true true ne))
    ]

-- after a scan of some components
pub levels-sent : (ms : List Member) (sent : List Bool) (levels : ℕ → Levels) → AreLevels sent levels
    → AreLevels (sent_with ms sent) (levels_after whole_pass (map (λ (m : Member). m.component) ms) levels)
unfolding sent_with levels_after
levels-sent [] sent levels are = are
levels-sent (m ∷ ms) sent levels are =
    levels-sent ms (set sent m.component true) (levels_of_one whole_pass m.component levels)
    (levels-set sent levels m.component are)
