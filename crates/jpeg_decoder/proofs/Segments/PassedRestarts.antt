-- Restart markers after a scan.
use Rattle.std.proofs.lemmas.Grind.{common_steps}
use Rattle.std.proofs.Common.{◌≡◌, ◌<◌, ℕ, zero, suc, List, Result, Ok, Err, true, false, Option}
use Rattle.std.proofs.Common.{Some, refl, sym, ◌∙◌, length, arith}
use Rattle.jpeg_bits.specs.Reading.{Outcome, Fault, ◌>>=◌}
use Rattle.jpeg_bits.specs.Marker.{next_marker}
use Rattle.jpeg_bits.specs.declared.marker.Marker.{Marker}
use Rattle.jpeg_bits.proofs.PieceWalks.{by_bool}
use Rattle.jpeg_meaning.specs.ScanSegments.{after_restarts}
use Rattle.jpeg_decoder.specs.Steps.{is_restart_marker, after_all}
use Rattle.jpeg_meaning.proofs.Shorter.{LeavesBelow, below-at, marker-below}

bind-same : {A B : Type 0} (r : Result A Fault) (f g : A → Result B Fault) → ((x : A) → r ≡ Ok x → f x ≡ g x)
    → r >>= f ≡ r >>= g
bind-same r f g h = grind (arith, common_steps)

-- the markers after the first, which is a restart marker
abbrev pub others : ℕ → List ℕ → Outcome (Option Marker)
others turns bytes = next_marker bytes >>= (λ (m : Marker × List ℕ). after_restarts turns (Some m.0) m.1)

restarts-none : (turns : ℕ) (met : Option Marker) (bytes : List ℕ) → is_restart_marker met ≡ false
    → after_restarts (suc turns) met bytes ≡ Ok (met, bytes)
unfolding after_restarts
restarts-none turns met bytes e = grind (arith, common_steps)

restarts-more : (turns : ℕ) (met : Option Marker) (bytes : List ℕ) → is_restart_marker met ≡ true
    → after_restarts (suc turns) met bytes ≡ others turns bytes
unfolding after_restarts
restarts-more turns met bytes e = grind (arith, common_steps)

-- more turns than bytes change nothing
restarts-enough : (m n : ℕ) (met : Option Marker) (bytes : List ℕ) → length bytes < m → length bytes < n
    → after_restarts m met bytes ≡ after_restarts n met bytes
restarts-enough (suc m) (suc n) met bytes p q =
    by_bool (is_restart_marker met)
    (λ e. restarts-more m met bytes e ∙ bind-same (next_marker bytes) _ _ (λ r is.
    let less : length r.1 < length bytes = below-at (length bytes) (next_marker bytes) r (marker-below bytes) is in
    restarts-enough m n (Some r.0) r.1 (omega arith) (omega arith)) ∙ sym (restarts-more n met bytes e))
    (λ e. restarts-none m met bytes e ∙ sym (restarts-none n met bytes e))
restarts-enough _ _ met bytes p q = absurd (omega arith)

pub marker-takes : (bytes : List ℕ) (r : Marker × List ℕ) → next_marker bytes ≡ Ok r → length r.1 < length bytes
marker-takes bytes r is = below-at (length bytes) (next_marker bytes) r (marker-below bytes) is

-- ---- all of them

pub after-done : (met : Option Marker) (bytes : List ℕ) → is_restart_marker met ≡ false
    → after_all met bytes ≡ Ok (met, bytes)
unfolding after_all
after-done met bytes e = restarts-none (length bytes) met bytes e

pub after-refused : (met : Option Marker) (bytes : List ℕ) (fault : Fault) → is_restart_marker met ≡ true
    → next_marker bytes ≡ Err fault → after_all met bytes ≡ Err fault
unfolding after_all
after-refused met bytes fault e q = restarts-more (length bytes) met bytes e ∙ rw q refl

pub after-next : (met : Option Marker) (bytes rest : List ℕ) (m : Marker) → is_restart_marker met ≡ true
    → next_marker bytes ≡ Ok (m, rest) → after_all met bytes ≡ after_all (Some m) rest
unfolding after_all
after-next met bytes rest m e q =
    let less : length rest < length bytes = marker-takes bytes (m, rest) q in
    grind (arith, common_steps, restarts-more, restarts-enough)

-- Fewer bytes are left than the limit, and no restart marker is met.
unfoldable pub Passes : ℕ → Outcome (Option Marker) → Type 0
Passes limit (Ok x) = (length x.1 < limit) × (is_restart_marker x.0 ≡ false)
Passes limit (Err fault) = Unit {0}

bind-passes : (limit first : ℕ) (r : Outcome Marker) (f : Marker × List ℕ → Outcome (Option Marker))
    → LeavesBelow first r → ((x : Marker × List ℕ) → length x.1 < first → Passes limit (f x)) → Passes limit (r >>= f)
unfolding Passes LeavesBelow
bind-passes limit first r f p q = grind (arith, common_steps)

restarts-pass : (limit turns : ℕ) (met : Option Marker) (bytes : List ℕ) → length bytes < limit
    → Passes limit (after_restarts turns met bytes)
unfolding after_restarts Passes
restarts-pass limit zero met bytes h = tt
restarts-pass limit (suc turns) met bytes h =
    by_bool (is_restart_marker met)
    (λ e. rw (restarts-more turns met bytes e) (bind-passes limit (length bytes) (next_marker bytes) _
    (marker-below bytes) (λ m p. restarts-pass limit turns (Some m.0) m.1 (omega arith))))
    (λ e. rw (restarts-none turns met bytes e) (h, e))

pub after-passes : (limit : ℕ) (met : Option Marker) (bytes : List ℕ) → length bytes < limit
    → Passes limit (after_restarts (suc (length bytes)) met bytes)
after-passes limit met bytes h = restarts-pass limit (suc (length bytes)) met bytes h
