-- Blocks that are taken out of those that are kept, and put back.
use Rattle.std.proofs.Common.{rules, ◌≡◌, ◌<◌, ℕ, zero, suc, ◌+◌, List, [], ◌∷◌, ◌++◌, refl, sym, ap}
use Rattle.std.proofs.Common.{◌∙◌, length, get_or, set, map, take, arith}
use Rattle.std.proofs.Math.Logic.{inl, inr}
use Rattle.std.proofs.lemmas.List.{get_or-map, get_or-set_other, map-append, map-set, set-set, set_comm}
use Rattle.std.proofs.lemmas.List.{take_more}
use Rattle.jpeg_bits.specs.Passes.{Block}
use Rattle.jpeg_decoder.specs.declared.scan.coded.Coded.{Coded}
use Rattle.jpeg_meaning.specs.InTurn.{AreApart, IsIn}
use Rattle.jpeg_meaning.specs.Scans.{Arrays}
use Rattle.jpeg_decoder.specs.Scanning.{arrays_in, blocks_in}
use Rattle.jpeg_decoder.specs.Steps.{blocks_at, coding_in, without_blocks}
use Rattle.jpeg_decoder.proofs.Kept.BlockArrays.{Held}
use Rattle.jpeg_meaning.specs.ScanSegments.{put_arrays, Coding}
use Rattle.std.proofs.lemmas.Grind.{common_steps}

abbrev pub indices_of : List Coding → List ℕ
indices_of codings = map (λ c. c.index) codings

-- what is left elsewhere
pub left-elsewhere : (codings : List Coding) (kept : Arrays) (index : ℕ) → (IsIn index (indices_of
    codings) → ⊥)
    → get_or (without_blocks codings kept) index [] ≡ get_or kept index []
unfolding without_blocks
left-elsewhere [] kept index n = refl
left-elsewhere (c ∷ more) kept index n =
    let more = left-elsewhere more (set kept c.index []) index (λ i. n (inr i)) in
    grind (arith, common_steps, get_or-set_other, more)

-- An index elsewhere may be set before or after.
set-after : (codings : List Coding) (kept : Arrays) (index : ℕ) (blocks : List Block)
    → (IsIn index (indices_of codings) → ⊥) → set (without_blocks codings kept) index blocks
    ≡ without_blocks codings (set kept index blocks)
unfolding without_blocks
set-after [] kept index blocks n = refl
set-after (c ∷ more) kept index blocks n =
    search (rules, set_comm, set-after more (set kept c.index []) index blocks (λ i. n (inr i)))

-- The blocks of a scan's components are put at the same indices, whether those were emptied before or not.
pub put-back : (codings : List Coding) (arrays kept : Arrays) → AreApart (indices_of codings)
    → length arrays ≡ length codings
    → put_arrays codings arrays (without_blocks codings kept) ≡ put_arrays codings arrays kept
unfolding put_arrays without_blocks
put-back [] arrays kept apart e = refl
put-back (c ∷ more) [] kept apart e = absurd (omega arith)
put-back (c ∷ more) (blocks ∷ arrays) kept apart e =
    let r = put-back more arrays (set (set kept c.index []) c.index blocks) apart.1 (omega arith) in
    grind (arith, common_steps, set-after, set-set, r)

-- ---- one component more

left-one : (codings : List Coding) (c : Coding) (kept : Arrays)
    → without_blocks (codings ++ c ∷ []) kept ≡ set (without_blocks codings kept) c.index []
unfolding without_blocks
left-one [] c kept = refl
left-one (d ∷ more) c kept = left-one more c (set kept d.index [])

more-codings : (cs : List Coded) (i : ℕ) (c : Coded) → i < length cs → c ≡ get_or cs i c
    → map coding_in (take (i + 1) cs) ≡ map coding_in (take i cs) ++ coding_in c ∷ []
more-codings cs i c h e = grind (arith, common_steps, take_more, map-append)

not-before : (cs : List Coded) (i : ℕ) (c : Coded) → i < length cs → c ≡ get_or cs i c
    → AreApart (map (λ (x : Coded). x.index) cs) → IsIn c.index (indices_of (map coding_in (take i
    cs))) → ⊥
not-before [] i c h e apart n = absurd (omega arith)
not-before (x ∷ cs) zero c h e apart n = n
not-before (x ∷ cs) (suc i) c h e apart (inl same) = apart.0 (is-in cs i c x.index (omega arith) e
    (sym same))
  where
    is-in : (cs : List Coded) (i : ℕ) (c : Coded) (p : ℕ) → i < length cs → c ≡ get_or cs i c →
        c.index ≡ p
        → IsIn p (map (λ (x : Coded). x.index) cs)
    is-in [] i c p h e same = absurd (omega arith)
    is-in (x ∷ cs) zero c p h e same = inl (ap (λ (y : Coded). y.index) (sym e) ∙ same)
    is-in (x ∷ cs) (suc i) c p h e same = inr (is-in cs i c p (omega arith) e same)
not-before (x ∷ cs) (suc i) c h e apart (inr n) = not-before cs i c (omega arith) e apart.1 n

blocks-of : (vs : List Held) (i : ℕ) (v : Held) → i < length vs → v ≡ get_or vs i v
    → get_or (arrays_in vs) i [] ≡ blocks_in v
blocks-of vs i v h e = grind (arith, common_steps, get_or-map)

-- one component more is taken
pub taken-more : (cs : List Coded) (i : ℕ) (c : Coded) (old now taken : List Held) (v : Held) → i < length cs
    → c ≡ get_or cs i c → AreApart (map (λ (x : Coded). x.index) cs)
    → c.index < length now → v ≡ get_or now c.index v
    → arrays_in now ≡ without_blocks (map coding_in (take i cs)) (arrays_in old)
    → arrays_in taken ≡ blocks_at (map coding_in (take i cs)) (arrays_in old)
    → arrays_in (taken ++ v ∷ []) ≡ blocks_at (map coding_in (take (i + 1) cs)) (arrays_in old)
taken-more cs i c old now taken v h e apart within is left so_far =
    grind (arith, common_steps, map-append, blocks-of, left-elsewhere, not-before, more-codings)

-- and none of its blocks are left
pub left-more : (cs : List Coded) (i : ℕ) (c : Coded) (old now : List Held) (empty : Held)
    → i < length cs → c ≡ get_or cs i c → blocks_in empty ≡ [] → arrays_in now
    ≡ without_blocks (map coding_in (take i cs)) (arrays_in old) → arrays_in (set now c.index empty)
    ≡ without_blocks (map coding_in (take (i + 1) cs)) (arrays_in old)
left-more cs i c old now empty h e none left = grind (arith, common_steps, map-set, more-codings, left-one)

-- before the first, and after the last
pub none-taken : (cs : List Coded) (old : List Held)
    → arrays_in old ≡ without_blocks (map coding_in (take 0 cs)) (arrays_in old)
unfolding without_blocks
none-taken cs old = refl
