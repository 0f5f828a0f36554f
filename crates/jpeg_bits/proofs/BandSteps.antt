-- Steps of loops over a decoder.
use Rattle.std.proofs.Common.{◌≡◌, ℕ, ◌<◌, List, Result, Ok, Err, refl, ◌∙◌, arith, ◌++◌, append_assoc, ℤ}
use Rattle.jpeg_bits.specs.Stream.{Stream}
use Rattle.jpeg_bits.specs.Reading.{Fault, ◌>>=◌}
use Rattle.jpeg_bits.specs.Entropy.{Text, Ahead, Takes, bits_from, same_text}
use Rattle.jpeg_bits.specs.declared.error.Error.{Error}
use Rattle.jpeg_bits.specs.Bands.{Band}
use Rattle.jpeg_bits.proofs.BandLoop.{Leaves}
use Rattle.jpeg_bits.proofs.Fast.{no-bits}
use Rattle.jpeg_bits.proofs.Loops.{second_ok}
use Rattle.jpeg_bits.specs.Pieces.{before}

-- one step of the whole
pub Leaves-ok : {X Y W : Type 0} (view : X → W) (whole rest next : Text → Result (Y × Text) Fault) (read : Text
    → Result (W × Text) Fault) (a b d : Ahead) (old cur new : Stream) (x : X)
    → ((t u : Text) → read t ≡ Ok (view x, u) → rest t ≡ next u) → Leaves whole a old rest b cur
    → Takes view read b cur (Ok x) d new → Leaves whole a old next d new
Leaves-ok view whole rest next read a b d old cur new x step p q = grind arith

-- bits are buffered
pub Leaves-buffered : {Y : Type 0} (whole rest : Text → Result (Y × Text) Fault) (a b d : Ahead) (old cur mid : Stream)
    → Leaves whole a old rest b cur → Takes (λ (u : Unit {0}). 0) same_text b cur (Ok tt) d mid
    → Leaves whole a old rest d mid
Leaves-buffered whole rest a b d old cur mid p q = grind (arith, second_ok)

-- a refusal after a part of the whole
pub Leaves-err : {X Y Z W : Type 0} (v : X → Y) (view : Z → W) (whole rest : Text → Result (Y × Text) Fault)
    (read : Text → Result (W × Text) Fault) (a b d : Ahead) (old cur new : Stream) (e : Error)
    → ((t : Text) (f : Fault) → read t ≡ Err f → rest t ≡ Err f) → Leaves whole a old rest b cur
    → Takes view read b cur (Err e) d new → Takes v whole a old (Err e) d new
Leaves-err v view whole rest read a b d old cur new e through p q = grind arith

-- the end of the whole
pub Leaves-end : {X Y : Type 0} (v : X → Y) (whole rest : Text → Result (Y × Text) Fault) (a b : Ahead)
    (old new : Stream) (x : X)
    → ((t : Text) → rest t ≡ Ok (v x, t)) → Leaves whole a old rest b new → Takes v whole a old (Ok x) b new
Leaves-end v whole rest a b old new x e p = (p.0, λ k. let at = p.1 k in (at.0, at.1 ∙ e _))

pub Leaves-whole : {Y : Type 0} (whole : Text → Result (Y × Text) Fault) (a : Ahead) (old : Stream)
    → Leaves whole a old whole a old
Leaves-whole whole a old = (refl, λ k. (k, refl))

pub bind_same : {A B : Type 0} (r : Result A Fault) (f g : A → Result B Fault) → ((x : A) → f x ≡ g x)
    → (r >>= f) ≡ (r >>= g)
bind_same r f g h = grind arith

pub before-before : (a b : List ℤ) (o : Result (Band × Text) Fault) → before a (before b o) ≡ before (a ++ b) o
before-before a b o = grind (arith, append_assoc)

pub pos-of-ne : (n : ℕ) → (n ≡ 0 → ⊥) → 0 < n
pos-of-ne n h = grind arith

-- no bits are 0, and change nothing
pub no_bits_taken : (r : ℕ) (t : Text) → r ≡ 0 → bits_from r t ≡ Ok (0, t)
no_bits_taken r t e = rw e (no-bits t)
