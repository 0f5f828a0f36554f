-- Steps of the loops that write samples as bytes.
use Rattle.std.proofs.lemmas.Grind.{common_steps}
use Rattle.std.proofs.Common.{◌≡◌, ℕ, ◌+◌, ◌-◌, ◌*◌, ◌%◌, ◌<◌, ◌≤◌, List, [], ◌∷◌, ◌++◌, length, take, set}
use Rattle.std.proofs.Common.{slice_index, slice_index_or, arith, refl, sym, ap, ap₂, ◌∙◌, drop}
use Rattle.std.proofs.Common.{append_assoc, le-leb, get_or-take, get_or-drop}
use Rattle.std.proofs.lemmas.List.{take_more_set, length-set, length-map}
use Rattle.std.proofs.Common.{map, Vec, Global}
use Rattle.std.proofs.Math.ListN as lists
use Rattle.jpeg_lossless.specs.Pictures.{AreLong, line_from, bytes_at, sample_bytes, sample_size}
use Rattle.jpeg_lossless.proofs.ImageLoops.{line-none, line-more, long-at}

-- a sample of a piece of a plane
sample-at : (from n x : ℕ) (plane : List ℕ) → x < n
    → slice_index_or (take (from + n - from) (drop from plane)) x 0 ≡ slice_index plane (from + x)
sample-at from n x plane h =
    let e : from + n - from ≡ n = omega arith in
    ap (λ (k : ℕ). slice_index_or (take k (drop from plane)) x 0) e
    ∙ get_or-take n (drop from plane) x 0 h ∙ get_or-drop from plane x 0

byte-of : (precision v : ℕ) → precision ≤ 8 → sample_bytes precision v ≡ v % 256 ∷ []
byte-of precision v h = rw (le-leb precision 8 h, sample_bytes) refl

byte-at : (precision at : ℕ) (plane : List ℕ) → precision ≤ 8
    → bytes_at precision (plane ∷ []) at ≡ slice_index plane at % 256 ∷ []
unfolding bytes_at
byte-at precision at plane h = ap (λ (l : List ℕ). l ++ []) (byte-of precision (slice_index plane at) h)

three-at : (precision at : ℕ) (a b c : List ℕ) → precision ≤ 8
    → bytes_at precision (a ∷ b ∷ c ∷ []) at
    ≡ slice_index a at % 256 ∷ slice_index b at % 256 ∷ slice_index c at % 256 ∷ []
unfolding bytes_at
three-at precision at a b c h =
    ap₂ (λ (l m : List ℕ). l ++ m) (byte-of precision (slice_index a at) h)
    (ap₂ (λ (l m : List ℕ). l ++ m) (byte-of precision (slice_index b at) h)
    (ap (λ (l : List ℕ). l ++ []) (byte-of precision (slice_index c at) h)))

-- one byte more
pub byte_step : (precision from n x : ℕ) (plane line : List ℕ) → precision ≤ 8 → x < n → x < length line
    → take x line ≡ line_from precision (plane ∷ []) from x
    → take (x + 1) (set line x (slice_index_or (take (from + n - from) (drop from plane)) x 0 % 256))
    ≡ line_from precision (plane ∷ []) from (x + 1)
byte_step precision from n x plane line small h k e =
    take_more_set line x _ k
    ∙ ap₂ (λ (a : List ℕ) (v : ℕ). a ++ (v % 256 ∷ [])) e (sample-at from n x plane h)
    ∙ ap (λ (l : List ℕ). line_from precision (plane ∷ []) from x ++ l)
    (sym (byte-at precision (from + x) plane small))
    ∙ sym (line-more precision from x (plane ∷ []))

-- three elements more
three-set : (k : ℕ) (xs : List ℕ) (p q r : ℕ) → k + 2 < length xs
    → take (k + 3) (set (set (set xs k p) (k + 1) q) (k + 2) r) ≡ take k xs ++ (p ∷ q ∷ r ∷ [])
three-set k xs p q r h =
    let one = set xs k p in
    let two = set one (k + 1) q in
    let l1 : length one ≡ length xs = length-set xs k p in
    let l2 : length two ≡ length one = length-set one (k + 1) q in
    let n3 : k + 3 ≡ k + 2 + 1 = omega arith in
    let n2 : k + 2 ≡ k + 1 + 1 = omega arith in
    ap (λ (n : ℕ). take n (set two (k + 2) r)) n3
    ∙ take_more_set two (k + 2) r (omega (arith, h, l1, l2))
    ∙ ap (λ (n : ℕ). take n two ++ r ∷ []) n2
    ∙ ap (λ (l : List ℕ). l ++ r ∷ []) (take_more_set one (k + 1) q (omega (arith, h, l1)))
    ∙ ap (λ (l : List ℕ). (l ++ q ∷ []) ++ r ∷ []) (take_more_set xs k p (omega (arith, h)))
    ∙ append_assoc (take k xs ++ p ∷ []) (q ∷ []) (r ∷ [])
    ∙ append_assoc (take k xs) (p ∷ []) (q ∷ r ∷ [])

-- one pixel more
pub pixel_step : (precision from n x : ℕ) (a b c line : List ℕ) → precision ≤ 8 → x < n → length line ≡ n * 3
    → take (3 * x) line ≡ line_from precision (a ∷ b ∷ c ∷ []) from x
    → take (3 * (x + 1)) (set (set (set line (3 * x)
    (slice_index_or (take (from + n - from) (drop from a)) x 0 % 256)) (3 * x + 1)
    (slice_index_or (take (from + n - from) (drop from b)) x 0 % 256)) (3 * x + 2)
    (slice_index_or (take (from + n - from) (drop from c)) x 0 % 256))
    ≡ line_from precision (a ∷ b ∷ c ∷ []) from (x + 1)
pixel_step precision from n x a b c line small h long e =
    let n3 : 3 * (x + 1) ≡ 3 * x + 3 = omega arith in
    rw (sample-at from n x a h, sample-at from n x b h, sample-at from n x c h, n3)
    (three-set (3 * x) line _ _ _ (omega (arith, h, long))
    ∙ ap₂ (λ (f g : List ℕ). f ++ g) e (sym (three-at precision (from + x) a b c small))
    ∙ sym (line-more precision from x (a ∷ b ∷ c ∷ [])))

pub ruleset one_steps = (line-none, byte_step, common_steps)

pub ruleset three_steps = (line-none, pixel_step, common_steps)

-- a plane has the samples
pub plane_long : (n i : ℕ) (planes : List (Vec ℕ Global)) (r : Vec ℕ Global) (slice : List ℕ)
    → AreLong n (map (λ v. v.items) planes) → i < length planes → r ≡ slice_index_or planes i r
    → slice ≡ r.items → n ≤ length slice
plane_long n i planes r slice long h is e =
    let lines = map (λ v. v.items) planes in
    let inside : i < length lines = omega (arith, length-map planes (λ v. v.items)) in
    let here : slice_index_or lines i r.items ≡ (slice_index_or planes i r).items
    = lists.get_or-map (λ v. v.items) planes i r in
    let b : n ≤ length (slice_index_or lines i r.items) = long-at n i lines r.items long inside in
    omega (arith, b, ap length here, ap length e, ap (λ (v : Vec ℕ Global). length v.items) is)

-- how long a line is
pub room_one : (width count precision long : ℕ) → precision ≤ 8 → count ≡ 1
    → long ≡ width * (count * sample_size precision) → long ≡ width
room_one width count precision long small one e =
    let s : sample_size precision ≡ 1 = rw (le-leb precision 8 small, sample_size) refl in
    e ∙ ap₂ (λ (c k : ℕ). width * (c * k)) one s ∙ omega arith

pub room_three : (width count precision long : ℕ) → precision ≤ 8 → count ≡ 3
    → long ≡ width * (count * sample_size precision) → long ≡ width * 3
room_three width count precision long small three e =
    let s : sample_size precision ≡ 1 = rw (le-leb precision 8 small, sample_size) refl in
    e ∙ ap₂ (λ (c k : ℕ). width * (c * k)) three s
