-- Blocks that are kept of a frame, and one of them that is changed.
use Rattle.std.proofs.Common.{◌≡◌, ◌≢◌, ℕ, zero, suc, ◌<◌, List, [], ◌∷◌, ◌++◌, length, map, get_or, set, replicate, refl, sym, ap, ap₂}
use Rattle.std.proofs.Common.{◌∙◌, subst, arith, inl, inr, ℤ, Some, slice_get, Bool, false, ◌||◌}
use Rattle.std.proofs.lemmas.Bool.{or_parts}
use Rattle.std.proofs.lemmas.List.{get_or-set_other, get_or-set_same, length-map, map-set}
use Rattle.std.proofs.lemmas.Option.{slice_get_within}
use Rattle.jpeg_meaning.specs.WrittenData.{no_numbers}
use Rattle.zaxbriar_strict.specs.Changes.{IsMadeChange, block_of, kept_in, rows_of}
use Rattle.zaxbriar_strict.specs.declared.frame.Component.{Component}
use Rattle.zaxbriar_strict.proofs.DecidedFrames.{equal}

abbrev Rows : Type 0
Rows = List (List (List ℤ))

-- ---- rows that are made

zero-row : (n column : ℕ) → get_or (replicate n (no_numbers 64)) column (no_numbers 64) ≡ no_numbers 64
zero-row zero column = refl
zero-row (suc n) zero = refl
zero-row (suc n) (suc column) = zero-row n column

pub rows-pushed : (rows : Rows) (n row column : ℕ)
    → block_of (rows ++ replicate n (no_numbers 64) ∷ []) row column ≡ block_of rows row column
rows-pushed [] n zero column = zero-row n column
rows-pushed [] n (suc row) column = refl
rows-pushed (r ∷ rows) n zero column = refl
rows-pushed (r ∷ rows) n (suc row) column = rows-pushed rows n row column

-- ---- a block that is changed

-- one in place of another, in rows
abbrev pub with_block : Rows → ℕ → ℕ → List ℤ → Rows
with_block rows row column new = set rows row (set (get_or rows row []) column new)

block-here : (rows : Rows) (row column : ℕ) (new : List ℤ) → row < length rows → column < length (get_or rows row [])
    → block_of (with_block rows row column new) row column ≡ new
block-here rows row column new high wide =
    ap (λ (l : List (List ℤ)). get_or l column (no_numbers 64)) (get_or-set_same rows row _ [] high)
    ∙ get_or-set_same (get_or rows row []) column new (no_numbers 64) wide

block-beside : (rows : Rows) (row column k : ℕ) (new : List ℤ) → row < length rows → k ≢ column
    → block_of (with_block rows row column new) row k ≡ block_of rows row k
block-beside rows row column k new high ne =
    ap (λ (l : List (List ℤ)). get_or l k (no_numbers 64)) (get_or-set_same rows row _ [] high)
    ∙ get_or-set_other (get_or rows row []) column k new (no_numbers 64) ne

block-below : (rows : Rows) (row column j k : ℕ) (new : List ℤ) → j ≢ row
    → block_of (with_block rows row column new) j k ≡ block_of rows j k
block-below rows row column j k new ne =
    ap (λ (l : List (List ℤ)). get_or l k (no_numbers 64)) (get_or-set_other rows row j _ [] ne)

rows-at : (cs : List Component) (index : ℕ) (c : Component) → slice_get cs index ≡ Some c
    → get_or (map rows_of cs) index [] ≡ rows_of c
rows-at [] index c e = absurd cc
rows-at (x ∷ cs) zero c e = let same : x ≡ c = cc in ap rows_of same
rows-at (x ∷ cs) (suc index) c e = rows-at cs index c e

-- what was found in a list, in what was made of each of its elements
pub found-in : {A B : Type 0} (f : A → B) (xs : List A) (i : ℕ) (x : A) (d : B) → i < length xs → x ≡ get_or xs i x
    → get_or (map f xs) i d ≡ f x
found-in f [] i x d lt e = absurd (omega (arith, lt))
found-in f (y ∷ ys) zero x d lt e = ap f (sym e)
found-in f (y ∷ ys) (suc i) x d lt e = found-in f ys i x d (omega (arith, lt)) e

-- A component that is wide if it was before.
pub wide-before : (cs : List Component) (index : ℕ) (c next : Component) → slice_get cs index ≡ Some c
    → (next.is_wide ≡ false → c.is_wide ≡ false) → (kept_in (set cs index next)).is_wide ≡ false
    → (kept_in cs).is_wide ≡ false
wide-before [] index c next e h n = n
wide-before (x ∷ xs) zero c next e h n =
    let same : x ≡ c = cc in
    let p = or_parts next.is_wide (kept_in xs).is_wide n in
    ap₂ (λ (a b : Bool). a || b) (ap (λ (y : Component). y.is_wide) same ∙ h p.0) p.1
wide-before (x ∷ xs) (suc index) c next e h n =
    let p = or_parts x.is_wide (kept_in (set xs index next)).is_wide n in
    ap₂ (λ (a b : Bool). a || b) p.0 (wide-before xs index c next e h p.1)

pub wide-itself : (cs : List Component) (index : ℕ) (next : Component) → index < length cs
    → (kept_in (set cs index next)).is_wide ≡ false → next.is_wide ≡ false
wide-itself [] index next lt n = absurd (omega (arith, lt))
wide-itself (x ∷ xs) zero next lt n = (or_parts next.is_wide (kept_in xs).is_wide n).0
wide-itself (x ∷ xs) (suc index) next lt n =
    wide-itself xs index next (omega (arith, lt)) (or_parts x.is_wide (kept_in (set xs index next)).is_wide n).1

-- The block at a place of a frame is changed, where rows were made for it.
pub block-changed : (cs : List Component) (index row column : ℕ) (c next : Component) (rows : Rows) (new : List ℤ)
    → slice_get cs index ≡ Some c
    → ((j k : ℕ) → block_of rows j k ≡ block_of (rows_of c) j k) → row < length rows
    → column < length (get_or rows row []) → rows_of next ≡ with_block rows row column new
    → IsMadeChange (record {
      place = record { index = index; row = row; column = column };
      old = block_of rows row column;
      new = new;
    }) (kept_in cs) (kept_in (set cs index next))
block-changed cs index row column c next rows new at same high wide is =
    let within : index < length (map rows_of cs) = (
    let lt = slice_get_within cs index c at in
    let l = length-map cs rows_of in
    omega (arith, lt, l)
    ) in
    let put : map rows_of (set cs index next) ≡ set (map rows_of cs) index (rows_of next) = map-set rows_of cs index next in
    let here : get_or (map rows_of (set cs index next)) index [] ≡ with_block rows row column new =
    ap (λ (l : List Rows). get_or l index []) put ∙ get_or-set_same (map rows_of cs) index (rows_of next) [] within
    ∙ is in
    let before = rows-at cs index c at in
    record {
      was = ap (λ (l : Rows). block_of l row column) before ∙ sym (same row column);
      is = ap (λ (l : Rows). block_of l row column) here ∙ block-here rows row column new high wide;
      others = λ q ne. elim (equal q.index index) [
        | inl i ↦
            let now = ap (λ (k : ℕ). get_or (map rows_of (set cs index next)) k []) i ∙ here in
            let past = ap (λ (k : ℕ). get_or (map rows_of cs) k []) i ∙ before in
            let other : block_of (with_block rows row column new) q.row q.column ≡ block_of rows q.row q.column =
            elim (equal q.row row) [
              | inl y ↦ elim (equal q.column column) [
                | inl x ↦ absurd (ne (λ t. record { index = i t; row = y t; column = x t }))
                | inr n ↦ subst (λ (j : ℕ). block_of (with_block rows row column new) j q.column
                    ≡ block_of rows j q.column) (sym y) (block-beside rows row column q.column new high n)
              ]
              | inr n ↦ block-below rows row column q.row q.column new n
            ] in
            ap (λ (l : Rows). block_of l q.row q.column) now ∙ other ∙ same q.row q.column
            ∙ sym (ap (λ (l : Rows). block_of l q.row q.column) past)
        | inr n ↦
            ap (λ (l : List Rows). block_of (get_or l q.index []) q.row q.column) put
            ∙ ap (λ (l : Rows). block_of l q.row q.column)
            (get_or-set_other (map rows_of cs) index q.index (rows_of next) [] n)
      ];
    }
