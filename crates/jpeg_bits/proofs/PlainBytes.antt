-- Bytes none of which is FF, eight of them in a word.
use Rattle.std.proofs.lemmas.Bool.Decides.{nat_tests}
use Rattle.std.proofs.Common.{◌≡◌, ℕ, zero, suc, ◌+◌, ◌-◌, ◌*◌, ◌/◌, ◌%◌, ◌^◌, ◌<◌, ◌≤◌, ◌≢◌, Bool, List, ◌∷◌}
use Rattle.std.proofs.Common.{◌++◌, length, take, drop, slice_range, refl, sym, ap, ◌∙◌, arith, bit_and, Ok, None, Option, true}
use Rattle.std.proofs.Common.{append_assoc, length-append, drop-drop, take_at, take-append-drop, pow-suc, pow-add}
use Rattle.std.proofs.Common.{length-take-le, length-drop, take-take, mul_assoc, inl, inr}
use Rattle.std.proofs.Math.Nat.{div-div-eq-div-mul}
use Rattle.std.proofs.lemmas.Nat.{div-add-mod', and_block, and_mod}
use Rattle.std.proofs.lemmas.Bool.{cases_lt}
use Rattle.std.proofs.lemmas.List.{append-nil, drop-take}
use Rattle.std.specs.Int.{byte_at, bytes_high_first, to_be_bytes, w64}
use Rattle.jpeg_bits.specs.BytesAhead.{HasNoFf, PassesPlain}
use Rattle.jpeg_bits.specs.Stream.{Stream}
use Rattle.jpeg_bits.specs.Written.{low_bits}
use Rattle.jpeg_bits.specs.Entropy.{Ahead, Takes, Text, bits_of, piece_at, same_text, upcoming, upcoming_by}
use Rattle.jpeg_bits.specs.Entropy.{Met, Unmet}
use Rattle.jpeg_bits.specs.declared.beyond.Beyond.{Beyond}
use Rattle.jpeg_bits.proofs.WrittenBits.{length_low_bits}
use Rattle.jpeg_bits.specs.declared.huffman.ahead.Piece.TheVariants.{Byte}
use Rattle.jpeg_bits.proofs.Reservoirs.{low_bits-high, low_bits-split, byte_bits}
use Rattle.jpeg_bits.proofs.Loops.{upcoming-byte}

-- ---- the test of a word for FF

-- n bytes, each of them 1
ones : ℕ → ℕ
ones zero = 0
ones (suc n) = ones n * 256 + 1

-- n bytes, each of them 128
highs : ℕ → ℕ
highs zero = 0
highs (suc n) = highs n * 256 + 128

-- the low byte: the sum of both and 2 is 256 or 512
low-byte : (e b s m : ℕ) → e < 256 → b < 256 → s * 256 + e + b + 2 ≡ m * 256 → bit_and (bit_and e b) 128 ≡ 0
    → (b ≢ 255) × (s + 1 ≡ m)
low-byte e b s m he hb sum none =
    elim (cases_lt b 255) [
      | inl lt ↦ (λ (is : b ≡ 255). omega (arith, lt, is), omega (arith, sum, lt, he))
      | inr ge ↦
          let eb : b ≡ 255 = omega (arith, ge, hb) in
          let ee : e ≡ 255 = omega (arith, sum, eb, he) in
          let f : bit_and (bit_and e b) 128 ≡ 128
          = ap (λ (x : ℕ). bit_and (bit_and x b) 128) ee ∙ ap (λ (y : ℕ). bit_and (bit_and 255 y) 128) eb in
          absurd (omega (arith, f, none))
    ]

byte-above : (k w : ℕ) → byte_at (suc k) w ≡ byte_at k (w / 256)
byte-above zero w = refl
byte-above (suc k) w =
    let p : 256 ^ suc (suc k) ≡ 256 * 256 ^ suc k = omega (arith, pow-suc 256 (suc k)) in
    ap (λ (d : ℕ). w / d % 256) p ∙ ap (λ (x : ℕ). x % 256) (sym (div-div-eq-div-mul w 256 (256 ^ suc k)))

by-place : (n w : ℕ) → w % 256 ≢ 255 → ((k : ℕ) → k < n → byte_at k (w / 256) ≢ 255) → (k : ℕ) → k < suc n
    → byte_at k w ≢ 255
by-place n w low above zero lt = low
by-place n w low above (suc k) lt = λ is. above k (omega (arith, lt)) (sym (byte-above k w) ∙ is)

and_small : (a b : ℕ) → a < 256 → b < 256 → bit_and a b < 256
and_small a b ha hb =
    let m : bit_and a b % 256 < 256 = omega arith in
    let p : a % 256 ≡ a = omega (arith, ha) in
    let q : b % 256 ≡ b = omega (arith, hb) in
    let e : bit_and a b % 256 ≡ bit_and a b
    = and_mod a b 8 ∙ ap (λ (x : ℕ). bit_and x (b % 256)) p ∙ ap (bit_and a) q in
    omega (arith, m, e)

no_ff-below : (n d w m : ℕ) → d + ones n + w + 1 ≡ m * 256 ^ n → bit_and (bit_and d w) (highs n) ≡ 0
    → (k : ℕ) → k < n → byte_at k w ≢ 255
unfolding ones highs
no_ff-below zero d w m sum none k lt = absurd (omega arith)
no_ff-below (suc n) d w m sum none k lt =
    let he : d % 256 < 256 = omega arith in
    let hb : w % 256 < 256 = omega arith in
    let small : bit_and (d % 256) (w % 256) < 256 = and_small (d % 256) (w % 256) he hb in
    let whole : bit_and d w ≡ bit_and (d / 256) (w / 256) * 256 + bit_and (d % 256) (w % 256)
    = ap (λ (x : ℕ). bit_and x w) (sym (div-add-mod' d 256))
    ∙ ap (λ (y : ℕ). bit_and (d / 256 * 256 + d % 256) y) (sym (div-add-mod' w 256))
    ∙ and_block 8 (d / 256) (w / 256) (d % 256) (w % 256) he hb in
    let apart : bit_and (bit_and d w) (highs n * 256 + 128) ≡ bit_and (bit_and (d / 256) (w / 256)) (highs n) * 256
    + bit_and (bit_and (d % 256) (w % 256)) 128
    = ap (λ (x : ℕ). bit_and x (highs n * 256 + 128)) whole
    ∙ and_block 8 (bit_and (d / 256) (w / 256)) (highs n) (bit_and (d % 256) (w % 256)) 128 small (omega arith) in
    let q : 256 ^ suc n ≡ 256 ^ n * 256 = omega (arith, pow-suc 256 n) in
    let p : m * 256 ^ suc n ≡ m * 256 ^ n * 256 = ap (λ (x : ℕ). m * x) q ∙ sym (mul_assoc m (256 ^ n) 256) in
    let o : ones (suc n) ≡ ones n * 256 + 1 = refl in
    let zero-all : bit_and (bit_and d w) (highs n * 256 + 128) ≡ 0 = none in
    let low = low-byte (d % 256) (w % 256) (d / 256 + ones n + w / 256) (m * 256 ^ n) he hb (omega (arith, sum, p, o))
    (omega (arith, apart, zero-all)) in
    by-place n w low.0 (no_ff-below n (d / 256) (w / 256) m (omega (arith, low.1)) (omega (arith, apart, zero-all))) k lt

pub no_ff : (w : ℕ) → w < 2 ^ 64
    → bit_and (bit_and ((18446744073709551615 - w + 18374403900871474943) % 18446744073709551616) w) 9259542123273814144 ≡ 0
    → HasNoFf w
unfolding ones highs
no_ff w small none =
    let x = 18446744073709551615 - w + 18374403900871474943 in
    let o : ones 8 ≡ 72340172838076673 = refl in
    no_ff-below 8 (x % 18446744073709551616) w (2 - x / 18446744073709551616) (omega (arith, small, o)) none

-- ---- the bits of a word's front

bits-mod : (n x : ℕ) → low_bits n (x % 2 ^ n) ≡ low_bits n x
bits-mod n x = sym (low_bits-high n (x / 2 ^ n) (x % 2 ^ n)) ∙ ap (low_bits n) (div-add-mod' x (2 ^ n))

bytes-bits : (k : ℕ) → 2 ^ (8 * k) ≡ 256 ^ k
bytes-bits zero = refl
bytes-bits (suc k) =
    let e : 8 * suc k ≡ 8 + 8 * k = omega arith in
    ap (λ (n : ℕ). 2 ^ n) e ∙ omega (arith, pow-add 2 8 (8 * k), bytes-bits k, pow-suc 256 k)

byte-of : (k w : ℕ) → byte_at k w ≡ w / 2 ^ (8 * k) % 256
byte-of zero w = let e : w / 1 ≡ w = omega arith in ap (λ (x : ℕ). x % 256) (sym e)
byte-of (suc k) w = ap (λ (d : ℕ). w / d % 256) (sym (bytes-bits (suc k)))

byte-front : (k c w : ℕ) → c ≤ k → low_bits (8 * suc c) (w / 2 ^ (8 * (suc k - suc c)))
    ≡ bits_of (byte_at k w) ++ low_bits (8 * c) (w / 2 ^ (8 * (k - c)))
byte-front k c w le =
    let x = w / 2 ^ (8 * (k - c)) in
    let d : suc k - suc c ≡ k - c = omega arith in
    let e : 8 * suc c ≡ 8 + 8 * c = omega arith in
    let f : 8 * (k - c) + 8 * c ≡ 8 * k = omega (arith, le) in
    let top : x / 2 ^ (8 * c) ≡ w / 2 ^ (8 * k)
    = div-div-eq-div-mul w (2 ^ (8 * (k - c))) (2 ^ (8 * c)) ∙ ap (λ (n : ℕ). w / n) (sym (pow-add 2 (8 * (k - c)) (8 * c)))
    ∙ ap (λ (n : ℕ). w / 2 ^ n) f in
    let high : low_bits 8 (x / 2 ^ (8 * c)) ≡ bits_of (byte_at k w)
    = ap (low_bits 8) top ∙ sym (bits-mod 8 (w / 2 ^ (8 * k))) ∙ ap (low_bits 8) (sym (byte-of k w))
    ∙ byte_bits (byte_at k w) in
    ap (λ (n : ℕ). low_bits (8 * suc c) (w / 2 ^ (8 * n))) d ∙ ap (λ (n : ℕ). low_bits n x) e
    ∙ low_bits-split 8 (8 * c) x ∙ ap (λ (l : List Bool). l ++ low_bits (8 * c) (x % 2 ^ (8 * c))) high
    ∙ ap (λ (l : List Bool). bits_of (byte_at k w) ++ l) (bits-mod (8 * c) x)

-- ---- the text of bytes none of which is FF

plain-byte : (b : ℕ) (rest : List ℕ) → b ≢ 255 → piece_at (b ∷ rest) ≡ Ok (Byte b, rest)
unfolding piece_at
plain-byte b rest is = grind (arith, nat_tests)

pub plain-text : (beyond : Beyond) (k c w : ℕ) (bits : List Bool) (bytes rest : List ℕ) → c ≤ k
    → ((j : ℕ) → j < k → byte_at j w ≢ 255) → length bits + 8 * c ≤ 64
    → bytes ≡ take c (bytes_high_first k w) ++ rest
    → upcoming_by (bits ++ low_bits (8 * c) (w / 2 ^ (8 * (k - c)))) (Unmet beyond) rest ≡ upcoming_by bits (Unmet beyond) bytes
unfolding low_bits
plain-text beyond k zero w bits bytes rest le plain room is =
    ap (λ (b : List Bool). upcoming_by b (Unmet beyond) rest) (append-nil bits)
    ∙ ap (λ (r : List ℕ). upcoming_by bits (Unmet beyond) r) (sym is)
plain-text beyond zero (suc c) w bits bytes rest le plain room is = absurd (omega (arith, le))
plain-text beyond (suc k) (suc c) w bits bytes rest le plain room is =
    let b = byte_at k w in
    let mid = take c (bytes_high_first k w) ++ rest in
    let first : upcoming_by (bits ++ bits_of b) (Unmet beyond) mid ≡ upcoming_by bits (Unmet beyond) bytes
    = upcoming-byte beyond bits bytes mid b (omega (arith, room))
    (ap piece_at is ∙ plain-byte b mid (plain k (omega arith))) in
    let longer : length (bits ++ bits_of b) ≡ length bits + 8 = length-append bits (bits_of b) in
    let more = plain-text beyond k c w (bits ++ bits_of b) mid rest (omega (arith, le)) (λ j l. plain j (omega (arith, l)))
    (omega (arith, longer, room)) refl in
    let others = low_bits (8 * c) (w / 2 ^ (8 * (k - c))) in
    ap (λ (l : List Bool). upcoming_by (bits ++ l) (Unmet beyond) rest) (byte-front k c w (omega (arith, le)))
    ∙ ap (λ (l : List Bool). upcoming_by l (Unmet beyond) rest) (sym (append_assoc bits (bits_of b) others))
    ∙ more ∙ first

-- ---- what is taken of a buffer

pub slice-length : (xs : List ℕ) (s e : ℕ) → e ≤ length xs → length (slice_range xs s e) ≡ e - s
slice-length xs s e le = grind (arith, length-take-le, length-drop)

pub slice-rest : (xs : List ℕ) (s e n : ℕ) → s + n ≤ e → slice_range xs (s + n) e ≡ drop n (slice_range xs s e)
slice-rest xs s e n le =
    let whole : n + (e - (s + n)) ≡ e - s = omega arith in
    ap (take (e - (s + n))) (sym (drop-drop n s xs)) ∙ sym (drop-take n (e - (s + n)) (drop s xs))
    ∙ ap (λ (k : ℕ). drop n (take k (drop s xs))) whole

pub taken-into : (items all part buffer : List ℕ) (s e n : ℕ) → s + n ≤ e → all ≡ slice_range items s e
    → n ≤ length all → part ≡ take n all → all ≡ take n (part ++ drop n buffer) ++ slice_range items (s + n) e
taken-into items all part buffer s e n le is fits front =
    let long : length part ≡ n = ap length front ∙ length-take-le n all fits in
    sym (ap (λ (l : List ℕ). l ++ slice_range items (s + n) e) (take_at part (drop n buffer) n long ∙ front)
    ∙ ap (λ (l : List ℕ). take n all ++ l) (slice-rest items s e n le ∙ ap (drop n) (sym is)) ∙ take-append-drop n all)

pub taken-plain : (items all : List ℕ) (s e c w : ℕ) → s + 8 ≤ e → all ≡ slice_range items s e → c ≤ 8
    → to_be_bytes w64 w ≡ take 8 (drop s items)
    → all ≡ take c (to_be_bytes w64 w) ++ slice_range items (s + c) e
taken-plain items all s e c w some is le word =
    let xs = drop s items in
    let front : take c (to_be_bytes w64 w) ≡ take c all
    = ap (take c) word ∙ take-take c 8 xs le ∙ sym (take-take c (e - s) xs (omega (arith, some, le)))
    ∙ ap (take c) (sym is) in
    sym (ap (λ (l : List ℕ). l ++ slice_range items (s + c) e) front
    ∙ ap (λ (l : List ℕ). take c all ++ l) (slice-rest items s e c (omega (arith, some, le)) ∙ ap (drop c) (sym is))
    ∙ take-append-drop c all)

-- ---- as many whole bytes as there is room for

pub pushed-length : (bits more : List Bool) (n x : ℕ) → n ≡ length bits → n ≤ 56
    → more ≡ bits ++ low_bits (8 * ((64 - n) / 8)) x → (57 ≤ length more) × (length more ≤ 64)
pushed-length bits more n x count few is =
    let c = 8 * ((64 - n) / 8) in
    let long : length more ≡ length bits + c
    = ap length is ∙ length-append bits (low_bits c x)
    ∙ ap (λ (k : ℕ). length bits + k) (length_low_bits c x) in
    (omega (arith, long, count, few), omega (arith, long, count, few))

pub pushed-text : (beyond : Beyond) (a b : Ahead) (old new : Stream) (n w : ℕ) → n ≡ length a.bits → n ≤ 56
    → a.met ≡ Unmet beyond → b.met ≡ Unmet beyond
    → b.bits ≡ a.bits ++ low_bits (8 * ((64 - n) / 8)) (w / 2 ^ (64 - 8 * ((64 - n) / 8)))
    → PassesPlain w ((64 - n) / 8) old new → Takes {X = Unit {0}} (λ _. 0) same_text a old (Ok tt) b new
unfolding upcoming
pushed-text beyond a b old new n w count few unended still is p =
    let c = (64 - n) / 8 in
    let e : 64 - 8 * c ≡ 8 * (8 - c) = omega arith in
    let same : old.known ≡ true → upcoming a old.bytes ≡ upcoming b new.bytes
    = λ known. ap (λ (m : Met). upcoming_by a.bits m old.bytes) unended
    ∙ sym (plain-text beyond 8 c w a.bits old.bytes new.bytes (omega arith) p.0 (omega (arith, count, few)) (p.2 known).1)
    ∙ ap (λ (k : ℕ). upcoming_by (a.bits ++ low_bits (8 * c) (w / 2 ^ k)) (Unmet beyond) new.bytes) (sym e)
    ∙ ap (λ (l : List Bool). upcoming_by l (Unmet beyond) new.bytes) (sym is)
    ∙ ap (λ (m : Met). upcoming_by b.bits m new.bytes) (sym still) in
    (p.1, λ known. ((p.2 known).0, ap (λ (t : Text). Ok (0, t)) (same known)))
