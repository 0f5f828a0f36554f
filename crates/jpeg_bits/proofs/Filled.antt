-- A buffer that is filled from the front by reads.
use Rattle.jpeg_bits.specs.declared.error.Error.TheVariants as errors
use Rattle.std.proofs.Common.{◌≡◌, ℕ, ◌<◌, ◌≤◌, ◌^◌, Bool, true, false, not, ◌&&◌, List, ◌++◌, length, take, ◌∙◌}
use Rattle.std.proofs.Common.{Option, Result, Ok, arith, length-append, ltb, zero, suc, ◌+◌, ◌-◌, [], ◌∷◌, Err, refl, sym, ap, subst}
use Rattle.std.proofs.Common.{append_assoc, drop, length-take, length-take-le}
use Rattle.std.specs.Io.KnownBytes.{Keeps, Consumes, IsAtEnd}
use Rattle.std.proofs.lemmas.Bool.{false≢true}
use Rattle.jpeg_bits.specs.Stream.{Stream, stream_of}
use Rattle.jpeg_bits.specs.Reading.{ReadsSome, Outcome, Fault, End, Answers, MayFail, Names, next_byte, times, ◌>>=◌, skip_at}
use Rattle.std.proofs.lemmas.List.{append-nil, take-append-le, take_all}
use Rattle.std.proofs.Math.Seq.{take-append-add}
use borrow.Rule.Slice.PartMut.{put_mid}
use Rattle.jpeg_bits.specs.declared.error.Error.{Error}
use Rattle.jpeg_bits.proofs.Loops.{bind_at, bind_err}
use Rattle.jpeg_bits.specs.Turns.{AnswersLater, IsAnswered, read_fails, read_answers}
use Rattle.std.specs.declared.io.Error.{Error as IoError}
use Rattle.std.proofs.KnownBytes.{Keeps-trans}

-- both conjuncts of a flag that is true
pub known_parts : (e f t : Bool) → not e && (not f && t) ≡ true → (e ≡ false) × (f ≡ false) × (t ≡ true)
known_parts e f t h = grind (arith, false≢true)

pub known_from : (e f t : Bool) → e ≡ false → f ≡ false → t ≡ true → not e && (not f && t) ≡ true
known_from e f t p q r = rw (p, q) r

shorter : (xs ys zs : List ℕ) → xs ≡ ys ++ zs → ltb (length xs) (2 ^ 64) ≡ true → ltb (length zs) (2 ^ 64) ≡ true
shorter xs ys zs e h = grind (arith, length-append)

-- a read that took some bytes
pub reads_some : (a b : Option (List ℕ)) (f e : Bool) (n : ℕ) (buffer : List ℕ) → n ≤ length buffer
    → Consumes a b (take n buffer) → (n ≡ 0 → 0 < length buffer → IsAtEnd b)
    → ReadsSome (stream_of a f e) (Ok n) buffer (stream_of b f e)
reads_some a b f e n buffer le h end = grind (arith, known_parts, false≢true, known_from, shorter)

-- what follows reads that changed nothing
consumes-after : (a b c : Option (List ℕ)) (bytes : List ℕ) → Keeps a b → Consumes b c bytes → Consumes a c bytes
consumes-after a b c bytes kept consumes = grind (arith, false≢true)

pub answers-after : {S : Type 0} (remaining : S → Option (List ℕ)) (s m t : S) (answer : Result ℕ IoError)
    (buffer : List ℕ) → Keeps (remaining s) (remaining m) → read_answers remaining m answer buffer t
    → read_answers remaining s answer buffer t
answers-after remaining s m t (Ok n) buffer kept h =
    (h.0, (consumes-after (remaining s) (remaining m) (remaining t) (take n buffer) kept h.1.0, h.1.1))
answers-after remaining s m t (Err e) buffer kept h =
    (h.0, Keeps-trans (remaining s) (remaining m) (remaining t) kept h.1)

-- an error that is passed on
pub answered-later : {S : Type 0} (answers : S → Result ℕ IoError → List ℕ → S → Type 0) (s t : S) (e : IoError)
    (buffer : List ℕ) → AnswersLater answers s (Err e) buffer t → IsAnswered (read_fails answers) e
answered-later answers s t e buffer h = (h.1, t, (buffer, h.3))

-- ---- a buffer that is filled from the front by reads

pub bytes-read : (bytes rest : List ℕ) → times (length bytes) next_byte (bytes ++ rest) ≡ Ok (bytes, rest)
unfolding times
bytes-read [] rest = refl
bytes-read (b ∷ bytes) rest = grind (arith, bind_at, bytes-read bytes rest)

bytes-end : (bytes : List ℕ) (n : ℕ) → length bytes < n → times n next_byte bytes ≡ Err End
unfolding times
bytes-end bytes zero h = absurd (omega (arith, h))
bytes-end [] (suc n) h = refl
bytes-end (b ∷ bytes) (suc n) h = bind_err _ (times n next_byte bytes) End (bytes-end bytes n (omega (arith, h)))

-- the bytes of old are front and those of new
abbrev pub HasFilled : Stream → List ℕ → Stream → Type 0
HasFilled old front new =
    (new.failed ≡ old.failed) × (old.known ≡ true → (new.known ≡ true) × (old.bytes ≡ front ++ new.bytes))

-- n bytes that were read into the part after the first `at`
put-front : (at n k : ℕ) (items part : List ℕ) → at ≤ length items → n ≤ length part
    → take (at + n) (put_mid at k items part) ≡ take at items ++ take n part
put-front at n k items part le fits = grind (arith, length-take, take-append-add, take-append-le)

pub filled-more : (old cur new : Stream) (at n k : ℕ) (items part : List ℕ) → at ≤ length items
    → HasFilled old (take at items) cur → ReadsSome cur (Ok n) part new
    → HasFilled old (take (at + n) (put_mid at k items part)) new
filled-more old cur new at n k items part le p r = grind (arith, append_assoc, put-front)

-- the buffer is full
pub filled-all : (old new : Stream) (at n : ℕ) (items : List ℕ) → length items ≡ n → n ≤ at
    → HasFilled old (take at items) new
    → Answers (λ (u : Unit {0}). items) (times n next_byte) old (Ok tt) new
filled-all old new at n items long full p = grind (arith, take_all, bytes-read)

-- no byte is left before the buffer is full
named-end : (n at : ℕ) (items bytes rest : List ℕ) (e : Error) → length items ≡ n → at < n
    → bytes ≡ take at items ++ rest → Names e (next_byte rest) → Names e (times n next_byte bytes)
named-end n at items bytes [] (errors.Io x) long less is h =
    let short : length bytes < n = grind (arith, append-nil, length-take-le) in
    (bytes-end bytes n short, h.1)
named-end n at items bytes (b ∷ rest) (errors.Io x) long less is h = grind arith
named-end n at items bytes [] (errors.Format text) long less is h = grind arith
named-end n at items bytes (b ∷ rest) (errors.Format text) long less is h = grind arith
named-end n at items bytes [] (errors.Unsupported feature) long less is h = grind arith
named-end n at items bytes (b ∷ rest) (errors.Unsupported feature) long less is h = grind arith
named-end n at items bytes rest (errors.Internal text) long less is h = absurd h
named-end n at items bytes rest errors.OutOfMemory long less is h = tt

-- a read is refused, or the bytes end before the buffer is full
pub filled-err : (old cur new : Stream) (at n : ℕ) (items : List ℕ) (e : Error) → length items ≡ n
    → at < n → HasFilled old (take at items) cur → Answers (λ (b : ℕ). b) next_byte cur (Err e) new
    → Answers (λ (u : Unit {0}). items) (times n next_byte) old (Err e) new
filled-err old cur new at n items e long less p r = (
  subst (λ (f : Bool). MayFail e f new.failed) p.0 r.0,
  λ known left. named-end n at items old.bytes cur.bytes e long less (p.1 known).1 (r.1 (p.1 known).0 left),
  λ known lost. r.2 (p.1 known).0 lost,
)

-- passing over bytes is reading some, and passing over the others
skip-bytes : (n more : ℕ) (bytes : List ℕ)
    → skip_at (n + more) bytes ≡ (times n next_byte bytes >>= λ (x : List ℕ × List ℕ). skip_at more x.1)
unfolding times skip_at
skip-bytes zero more bytes = let e : 0 + more ≡ more = omega arith in ap (λ m. skip_at m bytes) e
skip-bytes (suc n) more [] = let e : suc n + more ≡ suc (n + more) = omega arith in ap (λ m. skip_at m []) e
skip-bytes (suc n) more (b ∷ bytes) =
    let e : suc n + more ≡ suc (n + more) = omega arith in
    ap (λ m. skip_at m (b ∷ bytes)) e
    ∙ (after (λ rest. Ok (tt, rest)) (times (n + more) next_byte bytes)
    ∙ skip-bytes n more bytes ∙ sym (after (skip_at more) (times n next_byte bytes)))
  where
    after : (f : List ℕ → Outcome (Unit {0})) (o : Outcome (List ℕ)) → ((o >>= λ (x : List ℕ × List ℕ).
        Ok (b ∷ x.0, x.1)) >>= λ (x : List ℕ × List ℕ). f x.1) ≡ (o >>= λ (x : List ℕ × List ℕ). f x.1)
    after f o = grind arith

skip-step : (n left : ℕ) (bytes : List ℕ) → n ≤ left
    → skip_at left bytes ≡ (times n next_byte bytes >>= λ (x : List ℕ × List ℕ). skip_at (left - n) x.1)
skip-step n left bytes le = let e : left ≡ n + (left - n) = omega arith in grind (arith, skip-bytes)

pub skip-refused : (n left : ℕ) (bytes : List ℕ) (f : Fault) → n ≤ left → times n next_byte bytes ≡ Err f
    → skip_at left bytes ≡ Err f
skip-refused n left bytes f le e = skip-step n left bytes le ∙ bind_err _ (times n next_byte bytes) f e

pub skip-goes : (n left : ℕ) (bytes front rest : List ℕ) → n ≤ left → times n next_byte bytes ≡ Ok (front, rest)
    → skip_at left bytes ≡ skip_at (left - n) rest
skip-goes n left bytes front rest le e =
    skip-step n left bytes le ∙ bind_at _ (times n next_byte bytes) (front, rest) e

pub skip-none : (n : ℕ) (bytes : List ℕ) → n ≤ 0 → skip_at n bytes ≡ Ok (tt, bytes)
unfolding skip_at times
skip-none n bytes h = grind arith

-- bytes that are there are passed over
pub skip-front : (n : ℕ) (bytes rest : List ℕ) → n ≤ length bytes → skip_at n (bytes ++ rest)
    ≡ Ok (tt, drop n bytes ++ rest)
unfolding skip_at times
skip-front zero bytes rest h = refl
skip-front (suc n) [] rest h = absurd (omega (arith, h))
skip-front (suc n) (b ∷ bytes) rest h =
    let e : suc n - 1 ≡ n = omega arith in
    skip-goes 1 (suc n) (b ∷ (bytes ++ rest)) (b ∷ []) (bytes ++ rest) (omega arith) refl
    ∙ ap (λ m. skip_at m (bytes ++ rest)) e ∙ skip-front n bytes rest (omega (arith, h))
