-- Taking bits that are buffered.
use Rattle.jpeg_bits.specs.declared.huffman.ahead.DataEnd.TheVariants as ends
use Rattle.std.proofs.Common.{◌≡◌, ℕ, ◌+◌, ◌-◌, ◌*◌, ◌^◌, ◌≤◌, Bool, true, false, cond, List, [], ◌++◌, length, take}
use Rattle.std.proofs.Common.{drop, replicate, Option, Some, Result, Ok, Err, sym, ap, ◌∙◌, arith, length-append}
use Rattle.std.proofs.Common.{length-drop, add-one, pow-suc, is_ok, subst, get_or, None, refl}
use Rattle.std.proofs.Math.Seq.{drop-nil}
use Rattle.std.proofs.lemmas.List.{length-replicate, drop-drop, drop-replicate, drop-append-le, take-append-le}
use Rattle.jpeg_bits.specs.Reading.{Fault, ◌>>=◌, Names, MayFail, Answers, Gives, Malformed, NamesFormat}
use Rattle.jpeg_bits.specs.Entropy.{Ending, Text, upcoming_by, upcoming, bits_from, has_bits}
use Rattle.jpeg_bits.specs.Entropy.{number_of, advance, IsFilled, Ahead, Takes, same_text, IsWithin}
use Rattle.jpeg_bits.specs.Entropy.{has_buffered, ending_of, marker_at_end, marker_from, text_at}
use Rattle.jpeg_bits.specs.Stream.{Stream}
use Rattle.jpeg_bits.specs.Entropy.{At, IsUnmet, Met, Unmet, met_of}
use Rattle.jpeg_bits.specs.declared.beyond.Beyond.{Beyond}
use Rattle.jpeg_bits.specs.declared.huffman.ahead.DataEnd.{DataEnd}
use Rattle.std.proofs.lemmas.Bool.{false≢true}
use Rattle.jpeg_bits.specs.declared.error.Error.{Error}
use Rattle.jpeg_bits.proofs.Loops.{bind_err, still_known, same, none_left, second_ok, Takes-marker, Takes-no_marker}
use Rattle.jpeg_bits.specs.declared.marker.Marker.{Marker}
use Rattle.jpeg_bits.specs.Codes.{Table, code_in, code_lengths, next_16, code_from}

-- a value and the text after it, where the bits of it can be taken
abbrev pub if_buffered : {A : Type 0} → A → Text → Result (Unit {0}) Fault → Result (A × Text) Fault
if_buffered x t o = o >>= λ _. Ok (x, t)

pub has_enough : (n : ℕ) (bits : List Bool) (e : Ending) → n ≤ length bits → has_bits n bits e ≡ Ok tt
has_enough n bits e h = grind arith

after : (n l : ℕ) (x : List ℕ) (ys : List (List ℕ)) → n ≤ l → drop n (drop 56 (replicate l x ++ ys))
    ≡ drop 56 (replicate (l - n) x ++ ys)
after n l x ys h =
    let zs = replicate l x ++ ys in
    let e : 56 + n ≡ n + 56 = omega arith in
    drop-drop n 56 zs ∙ ap (λ k. drop k zs) e ∙ sym (drop-drop 56 n zs)
    ∙ ap (drop 56) (drop-append-le n (replicate l x) ys (omega (arith, length-replicate l x))
    ∙ ap (λ zs. zs ++ ys) (drop-replicate n l x))

-- the text after bits that are buffered
pub advance-buffered : (n : ℕ) (bits : List Bool) (met : Met) (bytes : List ℕ) →
    IsFilled n bits met
    → advance n (upcoming_by bits met bytes) ≡ upcoming_by (drop n bits) met bytes
advance-buffered n bits met bytes h =
    grind (arith, drop-append-le, after, length-drop, same, none_left, drop-nil)

has_bits-same : (n : ℕ) (bits : List Bool) (end : DataEnd) (bytes : List ℕ) → has_bits n bits (ending_of end bytes)
    ≡ has_bits n bits (ending_of end [])
has_bits-same n bits end bytes = grind arith

-- whether bits can be taken is seen from those that are buffered
pub has_bits-buffered : (n : ℕ) (bits : List Bool) (met : Met) (bytes : List ℕ) →
    IsFilled n bits met
    → has_bits n (upcoming_by bits met bytes).bits (upcoming_by bits met bytes).ending ≡
    has_buffered n bits met
has_bits-buffered n bits met bytes h = grind (arith, has_enough, length-append, has_bits-same)

front-buffered : (n : ℕ) (bits : List Bool) (met : Met) (bytes : List ℕ) → IsFilled n
    bits met
    → take n ((upcoming_by bits met bytes).bits ++ replicate n false) ≡ take n (bits ++ replicate n false)
front-buffered n bits met bytes h = grind (arith, take-append-le, length-append)

pub ok_unit : (r : Result (Unit {0}) Fault) → is_ok r ≡ true → r ≡ Ok tt
ok_unit r h = grind (arith, false≢true)

-- taking bits that are buffered
pub bits_from-buffered : (n : ℕ) (bits : List Bool) (met : Met) (bytes : List ℕ) →
    IsFilled n bits met
    → bits_from n (upcoming_by bits met bytes) ≡ (has_buffered n bits met
    >>= λ (u : Unit {0}). Ok (number_of (take n (bits ++ replicate n false)), upcoming_by (drop n bits) met bytes))
unfolding bits_from
bits_from-buffered n bits met bytes h = grind (arith, has_bits-buffered, front-buffered, advance-buffered)

pub Takes-buffered : (n : ℕ) (u : Unit {0}) (a b c : Ahead) (old new : Stream) (x : ℕ) → IsFilled n
    b.bits b.met
    → is_ok (has_buffered n b.bits b.met) ≡ true
    → x ≡ number_of (take n (b.bits ++ replicate n false)) → c.bits ≡ drop n b.bits → c.met ≡ b.met
    → Takes (λ (x : Unit {0}). 0) same_text a old (Ok u) b new → Takes (λ (x : ℕ). x) (bits_from n) a old (Ok x) c new
unfolding upcoming
Takes-buffered n u a b c old new x h ok ex eb em p = grind (arith, same, second_ok, bits_from-buffered, ok_unit)

-- a refusal for lack of bits fails no source
pub Takes-refused : (n : ℕ) (u : Unit {0}) (a b c : Ahead) (old new : Stream) (e : Error) → IsFilled n b.bits b.met
    → Names e (has_buffered n b.bits b.met) → MayFail e new.failed new.failed
    → Takes (λ (x : Unit {0}). 0) same_text a old (Ok u) b new → Takes (λ (x : ℕ). x) (bits_from n) a old (Err e) c new
unfolding upcoming
Takes-refused n u a b c old new e h want f p =
    grind (arith, same, second_ok, bits_from-buffered, bind_err, still_known)

pub MayFail-same : {Y : Type 0} (e : Error) (o : Result Y Fault) (b : Bool) → Names e o → MayFail e b b
MayFail-same e o b n = grind arith

-- enough bits are buffered for fewer
pub filled-less : (n m : ℕ) (bits : List Bool) (met : Met) → n ≤ m → IsFilled m bits met
    → IsFilled n bits met
filled-less n m bits met h f = grind arith

pub filled-long : (n : ℕ) (bits : List Bool) (met : Met) → n ≤ length bits → IsWithin (length bits) met
    → IsFilled n bits met
filled-long n bits met h w = grind arith

pub bit_le : (b : Bool) → cond b 1 0 ≤ 1
bit_le b = grind arith

pub pow_more : (i : ℕ) → 2 ^ (i + 1) ≡ 2 * 2 ^ i
pow_more i = rw add-one (omega (arith, pow-suc 2 i))

pub takes_end : (u : Unit {0}) (a b : Ahead) (old new : Stream) (met : Met)
    (r : Result (Option Marker) Error) → IsFilled 57 b.bits b.met → b.met ≡ met → Gives
    (marker_at_end met) r
    → Takes (λ (x : Unit {0}). 0) same_text a old (Ok u) b new
    → Answers (λ (m : Option Marker). m) (λ bytes. marker_from (upcoming a bytes)) old r new
takes_end u a b old new met (Ok m) h e g p = Takes-marker u a b old new m h (ap marker_at_end e ∙ g) p
takes_end u a b old new met (Err e) h is g p =
    Takes-no_marker u a b old new e h (rw is g) (MayFail-same e (marker_at_end b.met) new.failed (rw is g)) p

-- after a marker zeros come without end
pub none_buffered : (bits : List Bool) (m : Marker) (bytes : List ℕ) → length bits ≡ 0
    → bits_from 1 (upcoming_by bits (At (ends.Marker m)) bytes)
    ≡ Ok (0, upcoming_by bits (At (ends.Marker m)) bytes)
unfolding bits_from
none_buffered bits m bytes e = grind arith

abbrev pub GivesZero : List Bool → Met → List ℕ → Type 0
GivesZero bits met bytes = bits_from 1 (upcoming_by bits met bytes) ≡ Ok (0, upcoming_by bits met bytes)

pub zero_next : (a b : Ahead) (beyond : Beyond) (end : Option DataEnd) (bytes : List ℕ) → b ≡ a
    → b.met ≡ met_of beyond end → length b.bits ≡ 0
    → ((beyond : Beyond) (bits : List Bool) (bytes : List ℕ) → length bits ≡ 0
    → GivesZero bits (met_of beyond end) bytes)
    → bits_from 1 (upcoming a bytes) ≡ Ok (0, upcoming a bytes)
unfolding upcoming
zero_next a b beyond end bytes e is none h =
    subst (λ (a : Ahead). GivesZero a.bits a.met bytes) e
    (subst (λ (m : Met). GivesZero b.bits m bytes) (sym is) (h beyond b.bits bytes none))

-- where no end was met, none is kept
pub unmet : (beyond : Beyond) (end : Option DataEnd) → IsUnmet (met_of beyond end)
    → met_of beyond end ≡ Unmet beyond
unmet beyond None h = refl
unmet beyond (Some e) h = absurd h

-- ---- taking a symbol of bits that are buffered

pub next_buffered : (bits : List Bool) (met : Met) (bytes : List ℕ) → IsFilled 16 bits
    met
    → next_16 (upcoming_by bits met bytes).bits ≡ next_16 bits
next_buffered bits (Unmet beyond) bytes h =
    let t = text_at bytes in
    take-append-le 16 (bits ++ t.bits) (replicate 16 false) (omega (arith, length-append bits t.bits))
    ∙ take-append-le 16 bits t.bits h ∙ sym (take-append-le 16 bits (replicate 16 false) h)
next_buffered bits (At m) bytes h = refl

pub code_from-buffered : (table : Table) (bits : List Bool) (met : Met) (bytes : List ℕ)
    (c : ℕ × ℕ)
    → IsFilled 16 bits met → c.1 ≤ 16 → code_in (code_lengths table.counts) (next_16 bits) ≡ Some c
    → code_from table (upcoming_by bits met bytes)
    ≡ if_buffered (c.1, get_or table.symbols c.0 0) (upcoming_by (drop c.1 bits) met bytes)
    (has_buffered c.1 bits met)
unfolding code_from
code_from-buffered table bits met bytes c h le e =
    grind (arith, filled-less, next_buffered, has_bits-buffered, advance-buffered)

pub code_from-none : (table : Table) (bits : List Bool) (met : Met) (bytes : List ℕ) → IsFilled 16 bits met
    → code_in (code_lengths table.counts) (next_16 bits) ≡ None → code_from table (upcoming_by bits met bytes)
    ≡ Err Malformed
unfolding code_from
code_from-none table bits met bytes h e = grind (arith, next_buffered)

pub names_format : {Y : Type 0} (e : Error) (o : Result Y Fault) → NamesFormat e → o ≡ Err Malformed → Names e o
names_format e o n h = grind arith

pub may_fail_format : (e : Error) (a b : Bool) → NamesFormat e → b ≡ a → MayFail e a b
may_fail_format e a b n h = grind arith
