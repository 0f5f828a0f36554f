-- What is found with blocks that are the same above some row has the first rows of one picture.
use Rattle.std.proofs.Common.{◌≡◌, ℕ, zero, suc, ◌+◌, ◌*◌, ◌≤◌, Bool, true, false, List, []}
use Rattle.std.proofs.Common.{◌∷◌, length, take, set, get_or, Option, Some, None, refl, sym, ap, ◌∙◌}
use Rattle.std.proofs.Common.{subst, arith, if◌then◌else◌}
use Rattle.std.proofs.Math.Nat.{mul-le-mul_right}
use Rattle.std.specs.Prelude.{slice_index_or}
use Rattle.std.specs.List.{list_all}
use Rattle.jpeg_bits.specs.Passes.{Block, Pass}
use Rattle.jpeg_segments.specs.Frame.{Component, Frame}
use Rattle.jpeg_segments.specs.ScanHeader.{Scan}
use Rattle.jpeg_meaning.specs.Found.{Found, none_finished}
use Rattle.jpeg_meaning.specs.Rasters.{plane_by, plane_of_blocks}
use Rattle.jpeg_meaning.specs.Scans.{Arrays}
use Rattle.jpeg_meaning.specs.ScanSegments.{Coding, after_scan, arrays_before, decided, finished_by}
use Rattle.jpeg_meaning.specs.ScanSegments.{is_progressive, pass_of, put_arrays, with_arrays, with_blocks}
use Rattle.jpeg_meaning.specs.ScanSegments.{with_plane}
use Rattle.jpeg_meaning.proofs.Order.Apart.{At, at-one}
use Rattle.jpeg_meaning.proofs.Order.McuRows.{IsOf}
use Rattle.jpeg_meaning.proofs.Written.WrittenPictures.{plane-length}
use Rattle.jpeg_evidence.specs.CompleteRows.{first_lines, lines_for}
use Rattle.jpeg_evidence.proofs.Rows.FirstBlockRows.{RowsSame, planes-first}

-- ---- lists

take-less : (m n : ℕ) (p q : List ℕ) → m ≤ n → take n p ≡ take n q → take m p ≡ take m q
take-less zero n p q le e = refl
take-less (suc m) zero p q le e = absurd (omega arith)
take-less (suc m) (suc n) [] [] le e = refl
take-less (suc m) (suc n) [] (y ∷ q) le e = absurd cc
take-less (suc m) (suc n) (x ∷ p) [] le e = absurd cc
take-less (suc m) (suc n) (x ∷ p) (y ∷ q) le e =
    let first : x ≡ y = cc in
    let more = take-less m n p q (omega arith) cc in
    ap (λ (z : ℕ). z ∷ take m p) first ∙ ap (λ (l : List ℕ). y ∷ l) more

-- elements of two lists that are alike, by their indices
abbrev pub Pairs : {A : Type 0} (R : ℕ → A → A → Type 0) → ℕ → List A → List A → Type 0
Pairs R i [] [] = Unit {0}
Pairs R i (x ∷ xs) (y ∷ ys) = R i x y × Pairs R (i + 1) xs ys
Pairs R i _ _ = ⊥

pairs-same : {A : Type 0} (R : ℕ → A → A → Type 0) (i : ℕ) (xs : List A) → ((j : ℕ) (x : A) → R j x x) → Pairs R i xs xs
pairs-same R i [] each = tt
pairs-same R i (x ∷ xs) each = (each i x, pairs-same R (i + 1) xs each)

pub pairs-set : {A : Type 0} (R : ℕ → A → A → Type 0) (i j : ℕ) (xs ys : List A) (x y : A) → Pairs R i xs ys
    → R (i + j) x y → Pairs R i (set xs j x) (set ys j y)
pairs-set R i j [] [] x y p r = tt
pairs-set R i zero (a ∷ xs) (b ∷ ys) x y p r =
    let start : i + 0 ≡ i = omega arith in (subst (λ (n : ℕ). R n x y) start r, p.1)
pairs-set R i (suc j) (a ∷ xs) (b ∷ ys) x y p r =
    let next : i + suc j ≡ (i + 1) + j = omega arith in
    (p.0, pairs-set R (i + 1) j xs ys x y p.1 (subst (λ (n : ℕ). R n x y) next r))
pairs-set R i j [] (b ∷ ys) x y p r = absurd p
pairs-set R i j (a ∷ xs) [] x y p r = absurd p

pub pairs-get : {A : Type 0} (R : ℕ → A → A → Type 0) (i j : ℕ) (xs ys : List A) (d : A) → Pairs R i xs ys
    → R (i + j) d d → R (i + j) (get_or xs j d) (get_or ys j d)
pairs-get R i j [] [] d p r = r
pairs-get R i zero (a ∷ xs) (b ∷ ys) d p r =
    let start : i ≡ i + 0 = omega arith in subst (λ (n : ℕ). R n a b) start p.0
pairs-get R i (suc j) (a ∷ xs) (b ∷ ys) d p r =
    let next : (i + 1) + j ≡ i + suc j = omega arith in
    subst (λ (n : ℕ). R n (get_or xs j d) (get_or ys j d)) next
    (pairs-get R (i + 1) j xs ys d p.1 (subst (λ (n : ℕ). R n d d) (sym next) r))
pairs-get R i j [] (b ∷ ys) d p r = absurd p
pairs-get R i j (a ∷ xs) [] d p r = absurd p

module _ (frame : Frame) (rows : ℕ) where
  -- ---- planes

  -- two planes of a component that are the same in the lines that these rows need
  abbrev pub Begin : Component → List ℕ → List ℕ → Type 0
  Begin c p q =
      (length p ≡ length q) × (first_lines c (lines_for frame rows c) p ≡ first_lines c (lines_for frame rows c) q)

  -- and perhaps no planes
  abbrev pub BothBegin : Component → Option (List ℕ) → Option (List ℕ) → Type 0
  BothBegin c None None = Unit {0}
  BothBegin c (Some p) (Some q) = Begin c p q
  BothBegin c _ _ = ⊥

  -- blocks whose planes are so, by any quantization table
  abbrev pub BlocksBegin : Component → List Block → List Block → Type 0
  BlocksBegin c xs ys = (table : List ℕ) → Begin c (plane_by c table xs) (plane_by c table ys)

  -- blocks that are the same in enough rows
  pub blocks-begin : (c : Component) (high : ℕ) (xs ys : List Block) → RowsSame high c.blocks_wide xs ys
      → lines_for frame rows c ≤ high * c.scale → BlocksBegin c xs ys
  unfolding plane_by plane_of_blocks
  blocks-begin c high xs ys same le table = (
    plane-length c.scale _ c.blocks_wide c.blocks_high _ ∙ sym (plane-length c.scale _ c.blocks_wide c.blocks_high _),
    take-less (lines_for frame rows c * (c.blocks_wide * c.scale)) (high * c.scale * (c.blocks_wide * c.scale)) _ _
        (mul-le-mul_right (c.blocks_wide * c.scale) le) (planes-first c table high xs ys same),
  )

  both-same : (c : Component) (o : Option (List ℕ)) → BothBegin c o o
  both-same c None = tt
  both-same c (Some p) = (refl, refl)

  pub both-decided : (c : Component) (o u : Option (List ℕ)) (p q : List ℕ) → BothBegin c o u → Begin c p q
      → BothBegin c (decided o p) (decided u q)
  both-decided c None None p q both b = b
  both-decided c (Some x) (Some y) p q both b = both
  both-decided c None (Some y) p q both b = absurd both
  both-decided c (Some x) None p q both b = absurd both

  -- ---- states

  -- the planes and blocks of a component of the frame, by its index
  abbrev pub PlaneAt : ℕ → Option (List ℕ) → Option (List ℕ) → Type 0
  PlaneAt i o u = (c : Component) → At i frame.components c → BothBegin c o u

  abbrev pub KeptAt : ℕ → List Block → List Block → Type 0
  KeptAt i xs ys = (c : Component) → At i frame.components c → BlocksBegin c xs ys

  -- What was found twice, with planes and blocks that are the same as far as these rows need them.
  pub record Alike (f g : Found) : Type 0 where
    pub said : f.said ≡ g.said
    pub framed : f.said.frame ≡ Some frame
    pub finished : f.finished ≡ g.finished
    pub planes : Pairs PlaneAt 0 f.planes g.planes
    pub kept : Pairs KeptAt 0 f.kept g.kept

  -- ---- a scan

  -- the blocks of a scan's components
  abbrev pub Coded : List Coding → Arrays → Arrays → Type 0
  Coded [] [] [] = Unit {0}
  Coded (k ∷ codings) (xs ∷ us) (ys ∷ vs) = IsOf frame k × BlocksBegin k.component xs ys × Coded codings us vs
  Coded _ _ _ = ⊥

  at-index : (k : Coding) (i : ℕ) → IsOf frame k → (P : Component → Type 0) → P k.component → (c : Component)
      → At (0 + k.index) frame.components c → P c
  at-index k i of P p c t =
      let start : 0 + k.index ≡ k.index = omega arith in
      subst P (at-one k.index frame.components k.component c of.here
      (subst (λ (n : ℕ). At n frame.components c) start t)) p

  plane-with : (k : Coding) (xs ys : List Block) (marks : List Bool) (ps qs : List (Option (List ℕ))) → IsOf frame k
      → BlocksBegin k.component xs ys → Pairs PlaneAt 0 ps qs
      → Pairs PlaneAt 0 (with_plane k xs marks ps) (with_plane k ys marks qs)
  unfolding with_plane
  plane-with k xs ys marks ps qs of b pairs = go (list_all (λ mark. mark) marks)
    where
      old : PlaneAt (0 + k.index) (slice_index_or ps k.index None) (slice_index_or qs k.index None)
      old = pairs-get PlaneAt 0 k.index ps qs None pairs (λ c t. tt)

      new : PlaneAt (0 + k.index) (decided (slice_index_or ps k.index None) (plane_by k.component k.quantization xs))
          (decided (slice_index_or qs k.index None) (plane_by k.component k.quantization ys))
      new c t =
          both-decided c _ _ _ _ (old c t)
          (at-index k 0 of (λ (c : Component). Begin c (plane_by k.component k.quantization xs)
          (plane_by k.component k.quantization ys)) (b k.quantization) c t)

      go : (whole : Bool) → Pairs PlaneAt 0 (if whole
          then set ps k.index (decided (slice_index_or ps k.index None) (plane_by k.component k.quantization xs))
          else ps) (if whole
          then set qs k.index (decided (slice_index_or qs k.index None) (plane_by k.component k.quantization ys))
          else qs)
      go true = pairs-set PlaneAt 0 k.index ps qs _ _ pairs new
      go false = pairs

  one-with : (p : Pass) (k : Coding) (xs ys : List Block) (f g : Found) → IsOf frame k
      → BlocksBegin k.component xs ys → Alike f g → Alike (with_blocks p k xs f) (with_blocks p k ys g)
  unfolding with_blocks
  one-with p k xs ys f g of b a = record {
    said = a.said;
    framed = a.framed;
    finished = ap (λ (l : List (List Bool)). set l k.index (marks l)) a.finished;
    planes = subst (λ (l : List (List Bool)). Pairs PlaneAt 0 (with_plane k xs (marks f.finished) f.planes)
        (with_plane k ys (marks l) g.planes)) a.finished
        (plane-with k xs ys (marks f.finished) f.planes g.planes of b a.planes);
    kept = a.kept;
  }
    where
      marks : List (List Bool) → List Bool
      marks l = finished_by p (slice_index_or l k.index none_finished)

  all-with : (p : Pass) (codings : List Coding) (us vs : Arrays) (f g : Found) → Coded codings us vs → Alike f g
      → Alike (with_arrays p codings us f) (with_arrays p codings vs g)
  unfolding with_arrays
  all-with p [] [] [] f g c a = a
  all-with p (k ∷ codings) (xs ∷ us) (ys ∷ vs) f g c a =
      all-with p codings us vs (with_blocks p k xs f) (with_blocks p k ys g) c.2
      (one-with p k xs ys f g c.0 c.1 a)
  all-with p [] [] (ys ∷ vs) f g c a = absurd c
  all-with p [] (xs ∷ us) vs f g c a = absurd c
  all-with p (k ∷ codings) [] vs f g c a = absurd c
  all-with p (k ∷ codings) (xs ∷ us) [] f g c a = absurd c

  all-put : (codings : List Coding) (us vs xs ys : Arrays) → Coded codings us vs → Pairs KeptAt 0 xs ys
      → Pairs KeptAt 0 (put_arrays codings us xs) (put_arrays codings vs ys)
  unfolding put_arrays
  all-put [] [] [] xs ys c pairs = pairs
  all-put (k ∷ codings) (a ∷ us) (b ∷ vs) xs ys c pairs =
      all-put codings us vs (set xs k.index a) (set ys k.index b) c.2
      (pairs-set KeptAt 0 k.index xs ys a b pairs
      (λ d t. at-index k 0 c.0 (λ (d : Component). BlocksBegin d a b) c.1 d t))
  all-put [] [] (b ∷ vs) xs ys c pairs = absurd c
  all-put [] (a ∷ us) vs xs ys c pairs = absurd c
  all-put (k ∷ codings) [] vs xs ys c pairs = absurd c
  all-put (k ∷ codings) (a ∷ us) [] xs ys c pairs = absurd c

  blocks-same : (i : ℕ) (xs : List Block) → KeptAt i xs xs
  blocks-same i xs c t table = (refl, refl)

  -- After a scan of blocks that are the same as far as these rows need them, what was found is so.
  pub scan-alike : (before : Found) (scan : Scan) (codings : List Coding) (us vs : Arrays)
      → before.said.frame ≡ Some frame → Coded codings us vs
      → Alike (after_scan before frame scan codings us) (after_scan before frame scan codings vs)
  unfolding after_scan
  scan-alike before scan codings us vs framed c =
      all-with (pass_of scan) codings us vs _ _ c (record {
        said = refl;
        framed = framed;
        finished = refl;
        planes = pairs-same PlaneAt 0 before.planes (λ i o c t. both-same c o);
        kept = go (is_progressive frame.process);
      })
    where
      go : (b : Bool) → Pairs KeptAt 0 (if b then put_arrays codings us (arrays_before before frame) else [])
          (if b then put_arrays codings vs (arrays_before before frame) else [])
      go true = all-put codings us vs _ _ c (pairs-same KeptAt 0 (arrays_before before frame) blocks-same)
      go false = tt
