-- The loops that add the planes and the blocks of a scan's components, one after the other.
use Rattle.std.proofs.Common.{rules, ◌≡◌, ◌<◌, ◌≤◌, ℕ, zero, suc, ◌+◌, ◌*◌, List, [], ◌∷◌, refl, sym}
use Rattle.std.proofs.Common.{ap, ◌∙◌, length, get_or, set, map, drop, arith}
use Rattle.std.proofs.lemmas.List.{drop-set-lt, drop_more, get_or-map, length-map, map-set}
use Rattle.std.specs.declared.alloc.Global.{Global}
use Rattle.std.specs.declared.vec.Vec.{Vec}
use Rattle.jpeg_bits.specs.Passes.{Pass, Block}
use Rattle.jpeg_decoder.specs.declared.scan.coded.Coded.{Coded}
use Rattle.jpeg_decoder.specs.Scanning.{arrays_in, blocks_in}
use Rattle.jpeg_decoder.proofs.Kept.BlockArrays.{Held}
use Rattle.jpeg_decoder.specs.Steps.{coding_in, with_its_plane, with_planes, decided_planes}
use Rattle.jpeg_meaning.specs.Rasters.{plane_by}
use Rattle.jpeg_meaning.specs.ScanSegments.{put_arrays, with_arrays, with_blocks, with_plane}
use Rattle.jpeg_meaning.specs.ScanSegments.{Coding, components_of}
use Rattle.jpeg_meaning.specs.Found.{Found}
use Rattle.jpeg_meaning.specs.InTurn.{AreArrays}
use Rattle.std.proofs.lemmas.Grind.{common_steps}

-- the first of those that are left, in a list that is seen by a function
pub seen-any : {A B : Type 0} (f : A → B) (xs : List A) (i : ℕ) (d : A) → i < length xs
    → drop i (map f xs) ≡ f (get_or xs i d) ∷ drop (i + 1) (map f xs)
seen-any f xs i d h =
    drop_more (map f xs) i (f d) (omega (arith, length-map xs f))
    ∙ ap (λ (y : _). y ∷ drop (i + 1) (map f xs)) (get_or-map f xs i d (f d) h)

pub seen-at : {A B : Type 0} (f : A → B) (xs : List A) (i : ℕ) (x : A) → i < length xs → x ≡ get_or xs i x
    → drop i (map f xs) ≡ f x ∷ drop (i + 1) (map f xs)
seen-at f xs i x h e = seen-any f xs i x h ∙ ap (λ (y : _). f y ∷ drop (i + 1) (map f xs)) (sym e)

pub none-left : {A B : Type 0} (f : A → B) (xs : List A) → drop (length xs) (map f xs) ≡ []
none-left f [] = refl
none-left f (x ∷ xs) = none-left f xs

-- ---- blocks

pub blocks-are : (p : Pass) (c : Coding) (blocks : List Block) (found : Found)
    → with_blocks p c blocks found ≡ with_its_plane p c.index (plane_by c.component c.quantization
    blocks) found
unfolding with_blocks with_plane with_its_plane decided_planes
blocks-are p c blocks found = refl

-- one component more: where its blocks are taken from is empty afterwards
pub put-step : (cs : List Coded) (i : ℕ) (d : Coded) (arrays kept : List Held) (empty blocks : Held)
    → i < length cs → length arrays ≡ length cs → blocks ≡ get_or arrays i blocks
    → put_arrays (drop (i + 1) (map coding_in cs)) (drop (i + 1) (arrays_in (set arrays i empty)))
    (arrays_in (set kept (get_or cs i d).index blocks))
    ≡ put_arrays (drop i (map coding_in cs)) (drop i (arrays_in arrays)) (arrays_in kept)
unfolding put_arrays
put-step cs i d arrays kept empty blocks h e is =
    search (rules, seen-any, seen-at, map-set, drop-set-lt)

-- ---- the planes and the blocks of a slot

pub planes-step : (p : Pass) (cs : List Coded) (i : ℕ) (d : Coded) (planes : List (Vec ℕ Global))
    (empty plane : Vec ℕ Global) (before after : Found)
    → i < length planes → length planes ≤ length cs → plane ≡ get_or planes i plane
    → after ≡ with_its_plane p (get_or cs i d).index plane.items before
    → with_planes p (drop (i + 1) (map coding_in cs))
    (drop (i + 1) (map (λ (v : Vec ℕ Global). v.items) (set planes i empty))) after
    ≡ with_planes p (drop i (map coding_in cs)) (drop i (map (λ (v : Vec ℕ Global). v.items) planes)) before
unfolding with_planes
planes-step p cs i d planes empty plane before after h e is made =
    grind (arith, common_steps, seen-any, seen-at, map-set, drop-set-lt)

pub arrays-step : (p : Pass) (cs : List Coded) (i : ℕ) (d : Coded) (arrays : List Held) (blocks : Held)
    (before after : Found)
    → i < length cs → i < length arrays → blocks ≡ get_or arrays i blocks
    → after ≡ with_its_plane p (get_or cs i d).index (plane_by (coding_in (get_or cs i d)).component
    (coding_in (get_or cs i d)).quantization (blocks_in blocks)) before
    → with_arrays p (drop (i + 1) (map coding_in cs)) (drop (i + 1) (arrays_in arrays)) after
    ≡ with_arrays p (drop i (map coding_in cs)) (drop i (arrays_in arrays)) before
unfolding with_arrays
arrays-step p cs i d arrays blocks before after h k is made =
    search (rules, arith, seen-any, seen-at, blocks-are)

-- each component has its blocks
pub sized-at : (cs : List Coded) (vs : List Held) (i : ℕ) (d : Coded) (v : Held)
    → AreArrays (components_of (map coding_in cs)) (arrays_in vs) → i < length cs
    → (i < length vs) × (length (blocks_in (get_or vs i v)) ≡ (coding_in (get_or cs i d)).component.blocks_high
    * (coding_in (get_or cs i d)).component.blocks_wide)
unfolding AreArrays
sized-at [] vs i d v a h = absurd (omega arith)
sized-at (c ∷ cs) [] i d v a h = absurd a
sized-at (c ∷ cs) (x ∷ vs) zero d v a h = (omega arith, a.0)
sized-at (c ∷ cs) (x ∷ vs) (suc i) d v a h =
    let r = sized-at cs vs i d v a.1 (omega arith) in (omega (arith, r.0), r.1)

pub long-at : (cs : List Coded) (vs : List Held) (i : ℕ) → AreArrays (components_of (map coding_in cs)) (arrays_in vs) → i < length cs
    → i < length vs
unfolding AreArrays
long-at [] vs i a h = absurd (omega arith)
long-at (c ∷ cs) [] i a h = absurd a
long-at (c ∷ cs) (x ∷ vs) zero a h = omega arith
long-at (c ∷ cs) (x ∷ vs) (suc i) a h = let r = long-at cs vs i a.1 (omega arith) in omega (arith, r)

pub ruleset put_rules = (common_steps, put-step, none-left)
