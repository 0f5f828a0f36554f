-- The colours of pixels in lanes: of unsigned numbers, of signed ones, and bytes of them.
use Rattle.std.proofs.Common.{◌≡◌, ℕ, ◌+◌, ◌-◌, ◌*◌, ◌/◌, ◌%◌, ◌^◌, ◌<◌, ◌≤◌, List, map, length, get_or, ℤ, pos, negsuc}
use Rattle.std.proofs.Common.{◌+ℤ◌, ◌-ℤ◌, ◌*ℤ◌, ap, sym, ◌∙◌, replicate, FitsSigned, of_z, to_z, arith, unsigned_abs, refl}
use Rattle.std.proofs.Common.{zero, suc, [], ◌∷◌, lit<, w8, subst}
use Rattle.std.proofs.lemmas.Simd.{zip2_of_maps, splat_is_map, map-map}
use Rattle.std.proofs.lemmas.List.FromFn.{fill_by_all, length-range_with_len, get_or-map-range_with_len}
use Rattle.std.proofs.lemmas.Int.{ints, to_z-of_z, int_wrap_fits, fits_signed_from_abs, unsigned_abs-mul}
use Rattle.std.proofs.Math.Nat.{mul-le-mul}
use Rattle.std.specs.Int.{Width, w16, w32, int_shr, int_wrap}
use Rattle.std.specs.List.{range_with_len}
use lib.Lanes.{zip2, Each1}
use mir.Val.{Fits}
use Rattle.jpeg_pixels.specs.Lanes.{lane}
use Rattle.jpeg_pixels.specs.Colour.{centred_of}
use Rattle.jpeg_pixels.specs.Samples.{clamped}
use Rattle.jpeg_pixels.proofs.LaneSums.{residue_bits, residue_mul}
use Rattle.jpeg_pixels.proofs.ShortLanes.{IsSigned, signed_same, signed_splat, signed_sub, signed_mul, signed_add}
use Rattle.jpeg_pixels.proofs.ShortLanes.{signed_shr, signed_given}
use Rattle.jpeg_pixels.proofs.HalfLanes.{byte_kept, byte_read}

-- ---- unsigned numbers of 16 bits

-- in each lane stands a number
pub record IsUnsigned (n : ℕ) (v : List ℕ) (f : ℕ → ℕ) : Type 0 where
  pub is : v ≡ map f (range_with_len 0 n)
  pub fits : (j : ℕ) → f j < 65536

-- bytes that are given
pub unsigned_bytes : {n : ℕ} (v : List ℕ) → length v ≡ n → ((j : ℕ) → get_or v j 0 < 256)
    → IsUnsigned n (map (λ a. a) v) (λ j. get_or v j 0)
unsigned_bytes {n} v long small = record {
  is = ap (map (λ a. a)) (fill_by_all (λ j. get_or v j 0) v n 0 long (λ k h. refl))
      ∙ map-map (λ a. a) (λ j. get_or v j 0) (range_with_len 0 n);
  fits = λ j. let h = small j in omega (arith, h);
}

pub unsigned_splat : {n : ℕ} (k : ℕ) → k < 65536 → IsUnsigned n (replicate n k) (λ _. k)
unsigned_splat {n} k h = record {
  is = splat_is_map (range_with_len 0 n) n k (length-range_with_len 0 n);
  fits = λ _. h;
}

-- what two lanes give, where it isn't reduced
unsigned_each : {n : ℕ} {v u : List ℕ} {f g : ℕ → ℕ} (op z : ℕ → ℕ → ℕ) → IsUnsigned n v f → IsUnsigned n u g
    → ((j : ℕ) → z (f j) (g j) < 65536) → ((j : ℕ) → op (f j) (g j) ≡ z (f j) (g j))
    → IsUnsigned n (zip2 op v u) (λ j. z (f j) (g j))
unsigned_each {n} {v} {u} {f} {g} op z a b small same = record {
  is = zip2_of_maps op f g (range_with_len 0 n) a.is b.is ∙ (λ i. map (λ j. same j i) (range_with_len 0 n));
  fits = small;
}

pub unsigned_add : {n : ℕ} {v u : List ℕ} {f g : ℕ → ℕ} → IsUnsigned n v f → IsUnsigned n u g
    → ((j : ℕ) → f j + g j < 65536) → IsUnsigned n (zip2 (λ a b. (a + b) % 65536) v u) (λ j. f j + g j)
unsigned_add {n} {v} {u} {f} {g} a b small =
    unsigned_each (λ a b. (a + b) % 65536) (λ a b. a + b) a b small (λ j. let h = small j in omega (arith, h))

pub unsigned_mul : {n : ℕ} {v u : List ℕ} {f g : ℕ → ℕ} → IsUnsigned n v f → IsUnsigned n u g
    → ((j : ℕ) → f j * g j < 65536) → IsUnsigned n (zip2 (λ a b. (a * b) % 65536) v u) (λ j. f j * g j)
unsigned_mul {n} {v} {u} {f} {g} a b small =
    unsigned_each (λ a b. (a * b) % 65536) (λ a b. a * b) a b small (λ j. let h = small j in omega (arith, h))

pub unsigned_sub : {n : ℕ} {v u : List ℕ} {f g : ℕ → ℕ} → IsUnsigned n v f → IsUnsigned n u g
    → ((j : ℕ) → g j ≤ f j) → IsUnsigned n (zip2 (λ a b. (a + (65536 - b)) % 65536) v u) (λ j. f j - g j)
unsigned_sub {n} {v} {u} {f} {g} a b below =
    unsigned_each (λ a b. (a + (65536 - b)) % 65536) (λ a b. a - b) a b
    (λ j. let h = a.fits j in omega (arith, h))
    (λ j. let h = a.fits j in let l = below j in omega (arith, h, l))

pub unsigned_shr : {n : ℕ} {v : List ℕ} {f : ℕ → ℕ} (s : ℕ) → IsUnsigned n v f → ((j : ℕ) → f j / 2 ^ s < 65536)
    → IsUnsigned n (zip2 (λ a b. a / 2 ^ b) v (replicate n s)) (λ j. f j / 2 ^ s)
unsigned_shr {n} {v} {f} s a small = record {
  is = zip2_of_maps (λ a b. a / 2 ^ b) f (λ _. s) (range_with_len 0 n) a.is
      (splat_is_map (range_with_len 0 n) n s (length-range_with_len 0 n));
  fits = small;
}

-- what is asked of each lane
pub each_unsigned : {n : ℕ} {v : List ℕ} {f : ℕ → ℕ} → IsUnsigned n v f → (P : ℕ → Type 0) → ((j : ℕ) → P (f j))
    → Each1 P v
each_unsigned {n} {v} {f} s P h = subst (Each1 P) (sym s.is) (go (range_with_len 0 n))
  where
    go : (places : List ℕ) → Each1 P (map f places)
    go [] = tt
    go (j ∷ places) = (h j, go places)

-- the bytes of a vector
byte_at : (v : List ℕ) → Each1 (Fits w8) v → (j : ℕ) → get_or v j 0 < 256
byte_at [] each j = lit< tt
byte_at (x ∷ xs) each zero = each.0.fits
byte_at (x ∷ xs) each (suc j) = byte_at xs each.1 j

-- ---- signed numbers

-- a number by its magnitude
short_fits : (z : ℤ) (m : ℕ) → unsigned_abs z ≤ m → m < 32768 → FitsSigned w16 z
short_fits z m h l = fits_signed_from_abs w16 z (omega (arith, h, l))

long_fits : (z : ℤ) → unsigned_abs z ≤ 33554432 → FitsSigned w32 z
long_fits z h = fits_signed_from_abs w32 z (omega (arith, h))

wide_fits : (z : ℤ) → FitsSigned w16 z → FitsSigned w32 z
wide_fits z f = let h = f.sfits in record { sfits = omega (arith, h) }

-- unsigned numbers, as signed ones
pub unsigned_signed : {n : ℕ} {v : List ℕ} {f : ℕ → ℕ} → IsUnsigned n v f → ((j : ℕ) → f j < 32768)
    → IsSigned w16 n (map (λ a. a) v) (λ j. pos (f j))
unsigned_signed {n} {v} {f} a small = record {
  is = ap (map (λ a. a)) a.is ∙ map-map (λ a. a) f (range_with_len 0 n);
  fits = λ j. record { sfits = small j };
}

pub signed_bytes : {n : ℕ} (v : List ℕ) → length v ≡ n → ((j : ℕ) → get_or v j 0 < 256)
    → IsSigned w16 n (map (λ a. a) v) (λ j. pos (get_or v j 0))
signed_bytes {n} v long small = record {
  is = ap (map (λ a. a)) (fill_by_all (λ j. get_or v j 0) v n 0 long (λ k h. refl))
      ∙ map-map (λ a. a) (λ j. get_or v j 0) (range_with_len 0 n);
  fits = λ j. let h = small j in record { sfits = omega (arith, h) };
}

-- numbers that were wrapped, but fit
pub signed_exact : {w : Width} {n : ℕ} {v : List ℕ} {f : ℕ → ℤ} → IsSigned w n v (λ j. int_wrap w (f j))
    → ((j : ℕ) → FitsSigned w (f j)) → IsSigned w n v f
signed_exact {w} {n} {v} {f} s fits = signed_same s (λ j. int_wrap_fits w (f j) (fits j))

-- lanes of 16 bits, as lanes of 32
pub signed_wide : {n : ℕ} {v : List ℕ} {f : ℕ → ℤ} → IsSigned w16 n v f
    → IsSigned w32 n (map (λ a. of_z w32 (to_z w16 a)) v) f
signed_wide {n} {v} {f} s = record {
  is = ap (map (λ a. of_z w32 (to_z w16 a))) s.is
      ∙ map-map (λ a. of_z w32 (to_z w16 a)) (λ j. of_z w16 (f j)) (range_with_len 0 n)
      ∙ (λ i. map (λ j. of_z w32 (to_z-of_z w16 (f j) (s.fits j) i)) (range_with_len 0 n));
  fits = λ j. wide_fits (f j) (s.fits j);
}

-- products that fit
pub signed_times : {n : ℕ} {v u : List ℕ} {f g : ℕ → ℤ} → IsSigned w32 n v f → IsSigned w32 n u g
    → ((j : ℕ) → FitsSigned w32 (f j *ℤ g j))
    → IsSigned w32 n (zip2 (λ a b. (a * b) % 4294967296) v u) (λ j. f j *ℤ g j)
signed_times {n} {v} {u} {f} {g} a b fits = record {
  is = zip2_of_maps (λ a b. (a * b) % 4294967296) (λ j. of_z w32 (f j)) (λ j. of_z w32 (g j)) (range_with_len 0 n)
      a.is b.is ∙ (λ i. map (λ j. product (f j) (g j) (a.fits j) (b.fits j) (fits j) i) (range_with_len 0 n));
  fits = fits;
}
  where
    product : (x y : ℤ) → FitsSigned w32 x → FitsSigned w32 y → FitsSigned w32 (x *ℤ y)
        → (of_z w32 x * of_z w32 y) % 4294967296 ≡ of_z w32 (x *ℤ y)
    product x y fx fy fxy = (λ i. (residue_bits x fx i * residue_bits y fy i) % 4294967296) ∙ residue_mul x y
        ∙ sym (residue_bits (x *ℤ y) fxy)

-- the lanes of a vector, read
pub signed_at : {w : Width} {n : ℕ} {v : List ℕ} {f : ℕ → ℤ} → IsSigned w n v f → (x : ℕ) → x < n
    → get_or (map (to_z w) v) x (pos 0) ≡ f x
signed_at {w} {n} {v} {f} s x h = ap (λ (l : List ℕ). get_or (map (to_z w) l) x (pos 0)) s.is
    ∙ ap (λ (l : List ℤ). get_or l x (pos 0)) (map-map (to_z w) (λ j. of_z w (f j)) (range_with_len 0 n))
    ∙ get_or-map-range_with_len (λ j. to_z w (of_z w (f j))) 0 n x x (pos 0) h (omega arith)
    ∙ to_z-of_z w (f x) (s.fits x)

-- bytes of clamped numbers, read
pub bytes_at : {w : Width} {n : ℕ} {v : List ℕ} (f : ℕ → ℤ) → IsSigned w n v (λ j. byte_kept (f j)) → (x : ℕ) → x < n
    → get_or (map (λ (a : ℕ). unsigned_abs (to_z w a)) v) x 0 ≡ clamped (f x)
bytes_at {w} {n} {v} f s x h = ap (λ (l : List ℕ). get_or (map (λ (a : ℕ). unsigned_abs (to_z w a)) l) x 0) s.is
    ∙ ap (λ (l : List ℕ). get_or l x 0)
    (map-map (λ (a : ℕ). unsigned_abs (to_z w a)) (λ j. of_z w (byte_kept (f j))) (range_with_len 0 n))
    ∙ get_or-map-range_with_len (λ j. unsigned_abs (to_z w (of_z w (byte_kept (f j))))) 0 n x x 0 h (omega arith)
    ∙ byte_read (f x) (s.fits x)

-- what is bounded in each lane is bounded beyond them too
bounded : (v : List ℤ) (most : ℕ) → ((x : ℕ) → x < length v → unsigned_abs (lane v x) ≤ most)
    → (x : ℕ) → unsigned_abs (lane v x) ≤ most
bounded [] most each x = omega arith
bounded (z ∷ v) most each zero = each 0 (omega arith)
bounded (z ∷ v) most each (suc x) = bounded v most (λ k h. each (suc k) (omega (arith, h))) x

-- ---- red and blue

centred_fits : (c : ℕ) → c < 256 → FitsSigned w16 (centred_of c)
centred_fits c h = omega (arith, ints, h)

eighths_small : (c : ℕ) → c < 256 → unsigned_abs (pos 8 *ℤ centred_of c) ≤ 1024
eighths_small c h = omega (arith, ints, h)

factor_small : (z : ℤ) → FitsSigned w16 z → unsigned_abs z ≤ 32768
factor_small (pos m) f = let h = f.sfits in omega (arith, ints, h)
factor_small (negsuc m) f = let h = f.sfits in omega (arith, ints, h)

-- the upper half of a product
upper_small : (z : ℤ) → unsigned_abs z ≤ 33554432 → unsigned_abs (int_shr z 16) ≤ 512
upper_small (pos m) h = omega (arith, ints, h)
upper_small (negsuc m) h = omega (arith, ints, h)

apart_small : (m : ℕ) → m ≤ 600 → unsigned_abs (pos m -ℤ pos 134) ≤ 1000
apart_small m h = omega (arith, ints, h)

apart_fits : (m : ℕ) → m < 32768 → FitsSigned w16 (pos m -ℤ pos 134)
apart_fits m h = omega (arith, ints, h)

rounds_fit : (z : ℤ) → unsigned_abs z ≤ 512 → FitsSigned w16 (z +ℤ pos 1)
rounds_fit z h = omega (arith, ints, h)

-- half of a number
half_of : (z : ℤ) → unsigned_abs z ≤ 513 → unsigned_abs (int_shr z 1) ≤ 1000
half_of (pos m) h = omega (arith, ints, h)
half_of (negsuc m) h = omega (arith, ints, h)

half_small : (z : ℤ) → unsigned_abs z ≤ 512 → unsigned_abs (int_shr (z +ℤ pos 1) 1) ≤ 1000
half_small z h = half_of (z +ℤ pos 1) (omega (arith, ints, h))

-- the eighths of colour differences times a factor, and the upper halves of these
module _ {n : ℕ} (c : List ℕ) (factor : ℤ) (bits : ℕ) (long : length c ≡ n) (each : Each1 (Fits w8) c)
    (is : bits ≡ of_z w32 factor) (fits : FitsSigned w16 factor) where
  abbrev pub upper_at : ℕ → ℤ
  upper_at j = int_shr (pos 8 *ℤ centred_of (get_or c j 0) *ℤ factor) 16

  product_small : (j : ℕ) → unsigned_abs (pos 8 *ℤ centred_of (get_or c j 0) *ℤ factor) ≤ 33554432
  product_small j =
      let abs = unsigned_abs-mul (pos 8 *ℤ centred_of (get_or c j 0)) factor in
      let most = mul-le-mul (eighths_small (get_or c j 0) (byte_at c each j)) (factor_small factor fits) in
      omega (arith, abs, most)

  pub upper_fits : (j : ℕ) → FitsSigned w16 (upper_at j)
  upper_fits j = short_fits (upper_at j) 512
      (upper_small (pos 8 *ℤ centred_of (get_or c j 0) *ℤ factor) (product_small j)) (lit< tt)

  pub rounds : (j : ℕ) → FitsSigned w16 (upper_at j +ℤ pos 1)
  rounds j = rounds_fit (upper_at j) (upper_small (pos 8 *ℤ centred_of (get_or c j 0) *ℤ factor) (product_small j))

  pub scaled_small : (j : ℕ) → unsigned_abs (int_shr (upper_at j +ℤ pos 1) 1) ≤ 1000
  scaled_small j =
      half_small (upper_at j) (upper_small (pos 8 *ℤ centred_of (get_or c j 0) *ℤ factor) (product_small j))

  pub upper_lanes : IsSigned w32 n (zip2 (λ a b. of_z w32 (int_shr (to_z w32 a) b))
      (zip2 (λ a b. (a * b) % 4294967296) (map (λ a. of_z w32 (to_z w16 a)) (zip2 (λ a b. (a * b) % 65536) (replicate n 8)
      (zip2 (λ a b. (a + (65536 - b)) % 65536) (map (λ a. a) c) (replicate n 128)))) (replicate n bits)) (replicate n 16))
      upper_at
  upper_lanes =
      let bytes = signed_bytes {n = n} c long (byte_at c each) in
      let centred = signed_exact (signed_sub bytes (signed_splat w16 128 (pos 128) refl (omega (arith, ints))))
      (λ j. centred_fits (get_or c j 0) (byte_at c each j)) in
      let eighths = signed_exact (signed_mul (signed_splat w16 8 (pos 8) refl (omega (arith, ints))) centred)
      (λ j. short_fits (pos 8 *ℤ centred_of (get_or c j 0)) 1024 (eighths_small (get_or c j 0) (byte_at c each j)) (lit< tt)) in
      signed_shr 16 (signed_times (signed_wide eighths) (signed_splat w32 bits factor is (wide_fits factor fits))
      (λ j. long_fits (pos 8 *ℤ centred_of (get_or c j 0) *ℤ factor) (product_small j)))

-- ---- green

-- what green differs from the brightness, by parts of 16 bits
module _ {n : ℕ} (cb cr : List ℕ) (b_long : length cb ≡ n) (r_long : length cr ≡ n) (b_each : Each1 (Fits w8) cb)
    (r_each : Each1 (Fits w8) cr) where
  abbrev fine_at : ℕ → ℕ
  fine_at j = 14080 - 25 * get_or cb j 0 - 30 * get_or cr j 0

  abbrev middle_at : ℕ → ℕ
  middle_at j = 14866 - 6 * get_or cb j 0 - 52 * get_or cr j 0 + fine_at j / 2 ^ 6

  abbrev sum_at : ℕ → ℕ
  sum_at j = 34437 - 44 * get_or cb j 0 - 91 * get_or cr j 0 + middle_at j / 2 ^ 7

  -- a number less multiples of both
  abbrev both_less : ℕ → ℕ → ℕ → List ℕ
  both_less start p q = zip2 (λ a b. (a + (65536 - b)) % 65536) (zip2 (λ a b. (a + (65536 - b)) % 65536)
      (replicate n start) (zip2 (λ a b. (a * b) % 65536) (replicate n p) (map (λ a. a) cb)))
      (zip2 (λ a b. (a * b) % 65536) (replicate n q) (map (λ a. a) cr))

  less_fine : IsUnsigned n (both_less 14080 25 30) (λ j. 14080 - 25 * get_or cb j 0 - 30 * get_or cr j 0)
  less_fine =
      let b = unsigned_bytes {n = n} cb b_long (byte_at cb b_each) in
      let r = unsigned_bytes {n = n} cr r_long (byte_at cr r_each) in
      unsigned_sub (unsigned_sub (unsigned_splat 14080 (lit< tt))
      (unsigned_mul (unsigned_splat 25 (lit< tt)) b (λ j. let h = byte_at cb b_each j in omega (arith, h)))
      (λ j. let h = byte_at cb b_each j in omega (arith, h)))
      (unsigned_mul (unsigned_splat 30 (lit< tt)) r (λ j. let h = byte_at cr r_each j in omega (arith, h)))
      (λ j. let h = byte_at cb b_each j in let l = byte_at cr r_each j in omega (arith, h, l))

  less_middle : IsUnsigned n (both_less 14866 6 52) (λ j. 14866 - 6 * get_or cb j 0 - 52 * get_or cr j 0)
  less_middle =
      let b = unsigned_bytes {n = n} cb b_long (byte_at cb b_each) in
      let r = unsigned_bytes {n = n} cr r_long (byte_at cr r_each) in
      unsigned_sub (unsigned_sub (unsigned_splat 14866 (lit< tt))
      (unsigned_mul (unsigned_splat 6 (lit< tt)) b (λ j. let h = byte_at cb b_each j in omega (arith, h)))
      (λ j. let h = byte_at cb b_each j in omega (arith, h)))
      (unsigned_mul (unsigned_splat 52 (lit< tt)) r (λ j. let h = byte_at cr r_each j in omega (arith, h)))
      (λ j. let h = byte_at cb b_each j in let l = byte_at cr r_each j in omega (arith, h, l))

  less_sum : IsUnsigned n (both_less 34437 44 91) (λ j. 34437 - 44 * get_or cb j 0 - 91 * get_or cr j 0)
  less_sum =
      let b = unsigned_bytes {n = n} cb b_long (byte_at cb b_each) in
      let r = unsigned_bytes {n = n} cr r_long (byte_at cr r_each) in
      unsigned_sub (unsigned_sub (unsigned_splat 34437 (lit< tt))
      (unsigned_mul (unsigned_splat 44 (lit< tt)) b (λ j. let h = byte_at cb b_each j in omega (arith, h)))
      (λ j. let h = byte_at cb b_each j in omega (arith, h)))
      (unsigned_mul (unsigned_splat 91 (lit< tt)) r (λ j. let h = byte_at cr r_each j in omega (arith, h)))
      (λ j. let h = byte_at cb b_each j in let l = byte_at cr r_each j in omega (arith, h, l))

  middle_lanes : IsUnsigned n (zip2 (λ a b. (a + b) % 65536) (both_less 14866 6 52)
      (zip2 (λ a b. a / 2 ^ b) (both_less 14080 25 30) (replicate n 6))) middle_at
  middle_lanes = unsigned_add less_middle (unsigned_shr 6 less_fine (λ j. omega arith)) (λ j. omega arith)

  pub green_lanes : IsUnsigned n (zip2 (λ a b. a / 2 ^ b) (zip2 (λ a b. (a + b) % 65536) (both_less 34437 44 91)
      (zip2 (λ a b. a / 2 ^ b) (zip2 (λ a b. (a + b) % 65536) (both_less 14866 6 52)
      (zip2 (λ a b. a / 2 ^ b) (both_less 14080 25 30) (replicate n 6))) (replicate n 7))) (replicate n 7))
      (λ j. sum_at j / 2 ^ 7)
  green_lanes = unsigned_shr 7 (unsigned_add less_sum (unsigned_shr 7 middle_lanes (λ j. omega arith)) (λ j. omega arith))
      (λ j. omega arith)

  pub green_at : (j : ℕ) → sum_at j / 2 ^ 7
      ≡ (360857 * (255 - get_or cb j 0) + 748830 * (255 - get_or cr j 0) + 103223) / 1048576
  green_at j =
      let b = byte_at cb b_each j in
      let r = byte_at cr r_each j in
      omega (arith, b, r)

  pub green_small : (j : ℕ) → sum_at j / 2 ^ 7 < 32768
  green_small j = omega arith

  pub differ_small : (j : ℕ) → unsigned_abs (pos (sum_at j / 2 ^ 7) -ℤ pos 134) ≤ 1000
  differ_small j = let h : sum_at j / 2 ^ 7 ≤ 600 = omega arith in apart_small (sum_at j / 2 ^ 7) h

  pub green_less : (j : ℕ) → FitsSigned w16 (pos (sum_at j / 2 ^ 7) -ℤ pos 134)
  green_less j = let h = green_small j in apart_fits (sum_at j / 2 ^ 7) h

-- ---- the sums

-- brightnesses and differences, added
pub summed : {n : ℕ} (y : List ℕ) (d : List ℤ) → length y ≡ n → Each1 (Fits w8) y → length d ≡ n
    → ((x : ℕ) → x < n → unsigned_abs (lane d x) ≤ 1000)
    → IsSigned w16 n (zip2 (λ a b. (a + b) % 65536) (map (λ a. a) y) (map (of_z w16) d))
    (λ j. pos (get_or y j 0) +ℤ lane d j)
summed {n} y d y_long each d_long small =
    let most = bounded d 1000 (λ x h. small x (omega (arith, h, d_long))) in
    signed_exact (signed_add (signed_bytes {n = n} y y_long (byte_at y each))
    (signed_given d d_long (λ j. short_fits (lane d j) 1000 (most j) (lit< tt))))
    (λ j. sum_fits (get_or y j 0) (lane d j) (byte_at y each j) (most j))
  where
    sum_fits : (a : ℕ) (b : ℤ) → a < 256 → unsigned_abs b ≤ 1000 → FitsSigned w16 (pos a +ℤ b)
    sum_fits a b h l = omega (arith, ints, h, l)

pub none : {n : ℕ} → IsSigned w16 n (replicate n 0) (λ _. pos 0)
none = signed_splat w16 0 (pos 0) refl (omega (arith, ints))

pub full : {n : ℕ} → IsSigned w16 n (replicate n 255) (λ _. pos 255)
full = signed_splat w16 255 (pos 255) refl (omega (arith, ints))

pub one : {n : ℕ} → IsSigned w16 n (replicate n 1) (λ _. pos 1)
one = signed_splat w16 1 (pos 1) refl (omega (arith, ints))

-- a small number in a lane, through its bits and back
pub through_at : (v : List ℤ) (x : ℕ) → unsigned_abs (lane v x) ≤ 1000
    → lane (map (to_z w16) (map (of_z w16) v)) x ≡ lane v x
through_at [] x h = refl
through_at (z ∷ v) zero h = to_z-of_z w16 z (short_fits z 1000 h (lit< tt))
through_at (z ∷ v) (suc x) h = through_at v x h

pub through_small : (v : List ℤ) (x : ℕ) → unsigned_abs (lane v x) ≤ 1000
    → unsigned_abs (lane (map (to_z w16) (map (of_z w16) v)) x) ≤ 1000
through_small v x h = subst (λ z. unsigned_abs z ≤ 1000) (sym (through_at v x h)) h
