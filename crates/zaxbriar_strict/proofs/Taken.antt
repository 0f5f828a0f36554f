-- Bits that are taken one after the other.
use Rattle.std.proofs.Common.{◌≡◌, ◌≢◌, ℕ, zero, suc, ◌+◌, ◌-◌, ◌*◌, ◌/◌, ◌%◌, ◌^◌, ◌<◌, ◌≤◌, ◌==◌, Bool, true, false, List, []}
use Rattle.std.proofs.Common.{◌∷◌, ◌++◌, length, take, drop, replicate, refl, sym, ap, ap₂, ◌∙◌, arith, subst, append_assoc}
use Rattle.std.proofs.Common.{append-nil, pow-add, pow-suc, pow_pos, take-append-drop, mul_assoc, length-append}
use Rattle.std.proofs.lemmas.Bool.{eqb-true}
use Rattle.std.proofs.lemmas.Nat.{div-add-mod', div-mul-add}
use Rattle.std.proofs.lemmas.List.{take-append-le, take_all, take-take, length-replicate}
use Rattle.jpeg_bits.specs.Codes.{Table, next_16}
use Rattle.jpeg_bits.specs.Entropy.{bits_of}
use Rattle.jpeg_bits.specs.Written.{bit, bits_of_bytes, low_bits, stuffed, IsCoded}
use Rattle.jpeg_bits.proofs.Reservoirs.{low_bits-high, low_bits-append, low_bits-take, low_bits-drop}
use Rattle.jpeg_bits.proofs.Reservoirs.{low_bits-zeros, byte_bits, same_zeros}
use Rattle.jpeg_bits.proofs.WrittenBits.{length_low_bits}
use Rattle.zaxbriar_strict.specs.Data.{Data, Takes, Reads, IsFilling, data_at}

-- ---- bytes

pub stuffed-append : (a b : List ℕ) → stuffed (a ++ b) ≡ stuffed a ++ stuffed b
unfolding stuffed
stuffed-append [] b = refl
stuffed-append (x ∷ a) b = go (x == 255) (stuffed-append a b)
  where
    go : (t : Bool) → stuffed (a ++ b) ≡ stuffed a ++ stuffed b
        → (elim t as (λ _. List ℕ) [ true ↦ 255 ∷ 0 ∷ stuffed (a ++ b) | false ↦ x ∷ stuffed (a ++ b) ])
        ≡ (elim t as (λ _. List ℕ) [ true ↦ 255 ∷ 0 ∷ stuffed a | false ↦ x ∷ stuffed a ]) ++ stuffed b
    go true e = ap (λ (l : List ℕ). 255 ∷ 0 ∷ l) e
    go false e = ap (λ (l : List ℕ). x ∷ l) e

pub bits-append : (a b : List ℕ) → bits_of_bytes (a ++ b) ≡ bits_of_bytes a ++ bits_of_bytes b
unfolding bits_of_bytes
bits-append [] b = refl
bits-append (x ∷ a) b =
    ap (λ (l : List Bool). bits_of x ++ l) (bits-append a b) ∙ sym (append_assoc (bits_of x) (bits_of_bytes a)
    (bits_of_bytes b))

pub stuffed-full : (rest : List ℕ) → 255 ∷ 0 ∷ rest ≡ stuffed (255 ∷ []) ++ rest
unfolding stuffed
stuffed-full rest = refl

pub stuffed-plain : (b : ℕ) (rest : List ℕ) → (b == 255) ≡ false → b ∷ rest ≡ stuffed (b ∷ []) ++ rest
unfolding stuffed
stuffed-plain b rest h = rw (h, stuffed) refl

pub stuffed-other : (b : ℕ) (old rest : List ℕ) → b ≢ 255 → old ≡ b ∷ rest → old ≡ stuffed (b ∷ []) ++ rest
stuffed-other b old rest ne e = e ∙ go (b == 255) refl
  where
    go : (t : Bool) → (b == 255) ≡ t → b ∷ rest ≡ stuffed (b ∷ []) ++ rest
    go true h = absurd (ne (eqb-true b 255 h))
    go false h = stuffed-plain b rest h

pub stuffed-zero : (b z : ℕ) (old middle new : List ℕ) → old ≡ b ∷ middle → b ≡ 255 → middle ≡ z ∷ new → z ≡ 0
    → old ≡ stuffed (255 ∷ []) ++ new
stuffed-zero b z old middle new e f g h =
    e ∙ ap₂ (λ (x : ℕ) (l : List ℕ). x ∷ l) f (g ∙ ap (λ (x : ℕ). x ∷ new) h) ∙ stuffed-full new

-- ---- what was taken

pub takes-none : (d : Data) → Takes [] d d
unfolding stuffed bits_of_bytes
takes-none d = record { data_bytes = []; parts = refl; has_bits = append-nil d.bits }

pub takes-then : {x y : List Bool} {a b c : Data} → Takes x a b → Takes y b c → Takes (x ++ y) a c
takes-then {x} {y} {a} {b} {c} p q = record {
  data_bytes = p.data_bytes ++ q.data_bytes;
  parts = p.parts ∙ ap (λ (l : List ℕ). stuffed p.data_bytes ++ l) q.parts
      ∙ sym (append_assoc (stuffed p.data_bytes) (stuffed q.data_bytes) c.bytes)
      ∙ ap (λ (l : List ℕ). l ++ c.bytes) (sym (stuffed-append p.data_bytes q.data_bytes));
  has_bits = ap (λ (l : List Bool). a.bits ++ l) (bits-append p.data_bytes q.data_bytes)
      ∙ sym (append_assoc a.bits (bits_of_bytes p.data_bytes) (bits_of_bytes q.data_bytes))
      ∙ ap (λ (l : List Bool). l ++ bits_of_bytes q.data_bytes) p.has_bits
      ∙ append_assoc x b.bits (bits_of_bytes q.data_bytes)
      ∙ ap (λ (l : List Bool). x ++ l) q.has_bits
      ∙ sym (append_assoc x y c.bits);
}

-- after bits were loaded
pub reads-after : {P : List Bool → Type 0} {a b c : Data} → Takes [] a b → Reads P b c → Reads P a c
reads-after p r = record { own = r.own; taken = takes-then p r.taken; holds = r.holds }

-- the first n bits that are loaded
pub takes-front : (n : ℕ) (bits : List Bool) (bytes : List ℕ)
    → Takes (take n bits) (record { bits = bits; bytes = bytes }) (record { bits = drop n bits; bytes = bytes })
unfolding stuffed bits_of_bytes
takes-front n bits bytes =
    record { data_bytes = []; parts = refl; has_bits = append-nil bits ∙ sym (take-append-drop n bits) }

-- a byte that is loaded
pub takes-byte : (b : ℕ) (bits : List Bool) (old new : List ℕ) → old ≡ stuffed (b ∷ []) ++ new
    → Takes [] (record { bits = bits; bytes = old }) (record { bits = bits ++ bits_of b; bytes = new })
unfolding bits_of_bytes
takes-byte b bits old new e =
    record { data_bytes = b ∷ []; parts = e; has_bits = ap (λ (l : List Bool). bits ++ l) (append-nil (bits_of b)) }

-- ---- bits in a word

pub low_bits-mod : (n v : ℕ) → low_bits n (v % 2 ^ n) ≡ low_bits n v
low_bits-mod n v =
    sym (low_bits-high n (v / 2 ^ n) (v % 2 ^ n)) ∙ ap (low_bits n) (div-add-mod' v (2 ^ n))

-- bits above those of a longer number do not count
pub low_bits-less : (n m v : ℕ) → n ≤ m → low_bits n (v % 2 ^ m) ≡ low_bits n v
low_bits-less n m v h =
    let e : m ≡ m - n + n = omega arith in
    let q = v / 2 ^ m in
    let p : q * 2 ^ m ≡ q * 2 ^ (m - n) * 2 ^ n =
    ap (λ (k : ℕ). q * 2 ^ k) e ∙ ap (λ (k : ℕ). q * k) (pow-add 2 (m - n) n) ∙ sym (mul_assoc q (2 ^ (m - n)) (2 ^ n)) in
    sym (low_bits-high n (q * 2 ^ (m - n)) (v % 2 ^ m))
    ∙ ap (λ (k : ℕ). low_bits n (k + v % 2 ^ m)) (sym p) ∙ ap (low_bits n) (div-add-mod' v (2 ^ m))

-- a byte after the bits of a word
pub loaded-byte : (window left b : ℕ) → left ≤ 56 → b < 256
    → low_bits (left + 8) (window % 72057594037927936 * 256 + b) ≡ low_bits left window ++ bits_of b
loaded-byte window left b few small =
    low_bits-append left 8 (window % 2 ^ 56) b small
    ∙ ap (λ (l : List Bool). l ++ low_bits 8 b) (low_bits-less left 56 window few)
    ∙ ap (λ (l : List Bool). low_bits left window ++ l) (byte_bits b)

-- the first n bits of a word, and those after them
pub front-bits : (n m window : ℕ) → take n (low_bits (n + m) window) ≡ low_bits n (window / 2 ^ m % 2 ^ n)
front-bits n m window = low_bits-take n m window ∙ sym (low_bits-mod n (window / 2 ^ m))

pub rest-bits : (n m window : ℕ) → drop n (low_bits (n + m) window) ≡ low_bits m window
rest-bits n m window = low_bits-drop n m window ∙ low_bits-mod m window

-- n bits as a number
pub takes-number : (n left window : ℕ) (bytes : List ℕ) → n ≤ left
    → Takes (low_bits n (window / 2 ^ (left - n) % 2 ^ n)) (record { bits = low_bits left window; bytes = bytes })
    (record { bits = low_bits (left - n) window; bytes = bytes })
takes-number n left window bytes h =
    let e : n + (left - n) ≡ left = omega arith in
    subst (λ (k : ℕ). Takes (low_bits n (window / 2 ^ (left - n) % 2 ^ n)) (record { bits = low_bits k window; bytes = bytes })
    (record { bits = low_bits (left - n) window; bytes = bytes })) e
    (rw (← front-bits n (left - n) window, ← rest-bits n (left - n) window)
    (takes-front n (low_bits (n + (left - n)) window) bytes))

-- the next 16 bits, of more
pub sixteen-of-more : (left window : ℕ) → 16 ≤ left
    → low_bits 16 (window / 2 ^ (left - 16) % 65536) ≡ next_16 (low_bits left window)
sixteen-of-more left window h =
    let e : 16 + (left - 16) ≡ left = omega arith in
    let l = length_low_bits left window in
    sym (front-bits 16 (left - 16) window)
    ∙ ap (λ (k : ℕ). take 16 (low_bits k window)) e
    ∙ sym (take-append-le 16 (low_bits left window) (replicate 16 false) (omega (arith, l)))

-- the next 16 bits, of fewer
pub sixteen-of-fewer : (left window : ℕ) → left < 16
    → low_bits 16 (window * 2 ^ (16 - left) % 18446744073709551616 % 65536) ≡ next_16 (low_bits left window)
sixteen-of-fewer left window h =
    let k = 16 - left in
    let e : left + k ≡ 16 = omega arith in
    low_bits-mod 16 (window * 2 ^ k % 2 ^ 64) ∙ low_bits-less 16 64 (window * 2 ^ k) (omega arith)
    ∙ ap (λ (n : ℕ). low_bits n (window * 2 ^ k)) (sym e)
    ∙ ap (low_bits (left + k)) (omega arith)
    ∙ low_bits-append left k window 0 (pow_pos k)
    ∙ ap (λ (l : List Bool). low_bits left window ++ l) (low_bits-zeros k)
    ∙ filled (low_bits left window) k left e (length_low_bits left window)
  where
    filled : (bits : List Bool) (k left : ℕ) → left + k ≡ 16 → length bits ≡ left
        → bits ++ replicate k false ≡ take 16 (bits ++ replicate 16 false)
    filled bits k left e l =
        sym (take_all 16 (bits ++ replicate k false)
        (omega (arith, length-append bits (replicate k false), length-replicate k false, e, l)))
        ∙ same_zeros bits 16 k 16 (omega (arith, e, l)) (omega (arith, l))

-- what fills a last byte
pub all-ones : (n : ℕ) → low_bits n (2 ^ n - 1) ≡ replicate n true
unfolding low_bits
all-ones zero = refl
all-ones (suc n) =
    let p = pow-suc 2 n in
    let q = pow_pos n in
    let e : 2 ^ suc n - 1 ≡ 1 * 2 ^ n + (2 ^ n - 1) = omega (arith, p, q) in
    let top : (2 ^ suc n - 1) / 2 ^ n ≡ 1 = ap (λ (k : ℕ). k / 2 ^ n) e ∙ div-mul-add 1 (2 ^ n) (2 ^ n - 1) (omega (arith, q)) in
    ap₂ (λ (b : Bool) (l : List Bool). b ∷ l) (ap (λ (k : ℕ). bit (k % 2)) top)
    (ap (low_bits n) e ∙ low_bits-high n 1 (2 ^ n - 1) ∙ all-ones n)

-- the bits of a word that are all ones fill a byte
pub filling : (n window : ℕ) → n ≤ 7 → window % 2 ^ n ≡ 2 ^ n - 1 → IsFilling (low_bits n window)
filling n window few h = record {
  count = n;
  few = few;
  are = sym (all-ones n) ∙ ap (low_bits n) (sym h) ∙ low_bits-mod n window;
}

-- a byte that is loaded into a word
pub takes-loaded : (window left b : ℕ) (old new : List ℕ) → left ≤ 56 → b < 256 → old ≡ stuffed (b ∷ []) ++ new
    → Takes [] (record { bits = low_bits left window; bytes = old })
    (record { bits = low_bits (left + 8) (window % 72057594037927936 * 256 + b); bytes = new })
takes-loaded window left b old new few small e =
    subst (λ (l : List Bool). Takes [] (record { bits = low_bits left window; bytes = old }) (record { bits = l; bytes = new }))
    (sym (loaded-byte window left b few small)) (takes-byte b (low_bits left window) old new e)

pub takes-same : (bits : List Bool) (old new : List ℕ) → new ≡ old
    → Takes [] (record { bits = bits; bytes = old }) (record { bits = bits; bytes = new })
takes-same bits old new e =
    subst (λ (l : List ℕ). Takes [] (record { bits = bits; bytes = old }) (record { bits = bits; bytes = l })) (sym e)
    (takes-none (record { bits = bits; bytes = old }))

-- all bits that are loaded
pub takes-rest : (bits : List Bool) (bytes : List ℕ) → Takes bits (record { bits = bits; bytes = bytes }) (data_at bytes)
unfolding stuffed bits_of_bytes
takes-rest bits bytes = record { data_bytes = []; parts = refl; has_bits = refl }

-- a code that begins the bits that are loaded
pub reads-code : (table : Table) (symbol size sixteen left window : ℕ) (bytes : List ℕ)
    → IsCoded table symbol (take size (low_bits 16 sixteen)) → low_bits 16 sixteen ≡ next_16 (low_bits left window)
    → size ≤ left → size ≤ 16
    → Reads (IsCoded table symbol) (record { bits = low_bits left window; bytes = bytes })
    (record { bits = low_bits (left - size) window; bytes = bytes })
reads-code table symbol size sixteen left window bytes coded next enough most =
    let bits = low_bits left window in
    let l = length_low_bits left window in
    let zeros = replicate 16 false in
    let same : take size (low_bits 16 sixteen) ≡ take size bits =
    ap (take size) next ∙ take-take size 16 (bits ++ zeros) most
    ∙ take-append-le size bits zeros (omega (arith, l)) in
    let e : size + (left - size) ≡ left = omega arith in
    let rest : drop size bits ≡ low_bits (left - size) window =
    ap (λ (k : ℕ). drop size (low_bits k window)) (sym e) ∙ rest-bits size (left - size) window in
    record {
      own = take size bits;
      taken = subst (λ (k : List Bool). Takes (take size bits) (record { bits = bits; bytes = bytes })
          (record { bits = k; bytes = bytes })) rest (takes-front size bits bytes);
      holds = subst (IsCoded table symbol) same coded;
    }
