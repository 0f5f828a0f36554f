-- Lines of one length, one after the other, and as they are written.
use Rattle.std.proofs.Common.{◌≡◌, ℕ, zero, suc, ◌+◌, ◌-◌, ◌*◌, ◌<◌, ◌/◌, ◌%◌, List, [], ◌∷◌, ◌++◌}
use Rattle.std.proofs.Common.{length, get_or, map, sym, ap, ◌∙◌, arith, length-append, rules, take}
use Rattle.std.proofs.lemmas.List.{ext_get_or, get_or-append_right, get_or_append_left, get_or-map}
use Rattle.std.proofs.lemmas.List.FromFn.{length-map-range_with_len, get_or-map-range_with_len}
use Rattle.std.proofs.Math.Nat.{mul_comm, div-lt_iff_lt-mul, mod-lt, div-add-mod}
use Rattle.std.specs.List.{range_with_len, concat}
use Rattle.jpeg_pixels.specs.JointPlanes.{HaveWidth}

pub AreLong-more : (n : ℕ) (l : List ℕ) (lines : List (List ℕ)) → HaveWidth n (l ∷ lines) →
    HaveWidth n lines
AreLong-more n l lines long = record { each = λ k h. long.each (suc k) (omega arith) }

pub joined-length : (n : ℕ) (lines : List (List ℕ)) → HaveWidth n lines → length (concat lines) ≡
    length lines * n
joined-length n [] long = omega arith
joined-length n (l ∷ lines) long =
    let first : length l ≡ n = long.each 0 (omega arith) in
    let others : length (concat lines) ≡ length lines * n = joined-length n lines (AreLong-more n l lines long) in
    length-append l (concat lines) ∙ omega arith

-- the entry at an index of a line
pub joined-at : (n : ℕ) (lines : List (List ℕ)) (k x : ℕ) → HaveWidth n lines → k < length lines →
    x < n
    → get_or (concat lines) (k * n + x) 0 ≡ get_or (get_or lines k []) x 0
joined-at n [] k x long h lt = absurd (omega arith)
joined-at n (l ∷ lines) zero x long h lt =
    let first : length l ≡ n = long.each 0 (omega arith) in
    let inside : x < length l = omega arith in
    let at : 0 * n + x ≡ x = omega arith in
    ap (λ i. get_or (l ++ concat lines) i 0) at ∙ get_or_append_left l (concat lines) 0 x inside
joined-at n (l ∷ lines) (suc k) x long h lt =
    let first : length l ≡ n = long.each 0 (omega arith) in
    let others : get_or (concat lines) (k * n + x) 0 ≡ get_or (get_or lines k []) x 0 =
    search (rules, joined-at n lines k x (AreLong-more n l lines long) (omega arith) lt) in
    let at : suc k * n + x - n ≡ k * n + x = omega arith in
    get_or-append_right l (concat lines) n (suc k * n + x) 0 first (omega arith)
    ∙ ap (λ i. get_or (concat lines) i 0) at ∙ others

-- a list that has at each index what lines made of numbers have there
pub by_pixels : (n width : ℕ) (pixel : ℕ → List ℕ) (out : List ℕ) → 0 < n → ((x : ℕ) → length (pixel x) ≡ n)
    → length out ≡ n * width
    → ((x k : ℕ) → x < width → k < n → get_or out (n * x + k) 0 ≡ get_or (pixel x) k 0)
    → out ≡ concat (map pixel (range_with_len 0 width))
by_pixels n width pixel out some sizes long each =
    let lines = map pixel (range_with_len 0 width) in
    let count : length lines ≡ width = length-map-range_with_len pixel 0 width in
    let line_is : (k : ℕ) → k < width → get_or lines k [] ≡ pixel k = λ k h. get_or-map-range_with_len pixel 0 width k k
    [] h (omega arith) in
    let are_long : HaveWidth n lines = search (rules, each) in
    let all : length (concat lines) ≡ length lines * n = joined-length n lines are_long in
    let turned : n * width ≡ width * n = mul_comm n width in
    ext_get_or 0 out (concat lines) (long ∙ turned ∙ ap (λ m. m * n) (sym count) ∙ sym all)
    (λ i h.
    let below : i < width * n = omega (arith, long, turned) in
    let index : i % n < n = mod-lt i some in
    let line : i / n < width = (div-lt_iff_lt-mul {k = n} {x = i} {y = width} some).1 below in
    let is : n * (i / n) + i % n ≡ i = div-add-mod i n in
    let is' : i / n * n + i % n ≡ i = (λ j. mul_comm (i / n) n j + i % n) ∙ is in
    ap (λ m. get_or out m 0) (sym is)
    ∙ each (i / n) (i % n) line index
    ∙ ap (λ (l : List ℕ). get_or l (i % n) 0) (sym (line_is (i / n) line))
    ∙ sym (joined-at n lines (i / n) (i % n) are_long (omega (arith, count)) index)
    ∙ ap (λ m. get_or (concat lines) m 0) is')

-- the samples of a pixel stand in the lines
pub sample-at : (n : ℕ) (lines : List (List ℕ)) (k x : ℕ) → HaveWidth n lines → k < length lines →
    x < n
    → get_or (map (λ (l : List ℕ). get_or l x 0) lines) k 0 ≡ get_or (concat lines) (k * n + x) 0
sample-at n lines k x long h lt = search (rules, get_or, get_or-map, joined-at)

pub no-lines : (line : ℕ) (out : List ℕ) → take (0 * line) out ≡ []
no-lines line out = let e : 0 * line ≡ 0 = omega arith in ap (λ (n : ℕ). take n out) e
