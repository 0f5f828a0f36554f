-- Blocks of which the first ones are stored, and the others are zeros.
use Rattle.std.proofs.Common.{◌≡◌, ◌<◌, ◌≤◌, ℕ, zero, suc, ◌+◌, ◌-◌, ℤ, pos, Bool, true, false}
use Rattle.std.proofs.Common.{List, [], ◌∷◌, ◌++◌, if◌then◌else◌, refl, sym, ap, ◌∙◌, subst, arith}
use Rattle.std.proofs.Common.{length, get_or, set, map, take, replicate}
use Rattle.std.specs.Prelude.{All}
use Rattle.std.specs.Vec.{with_item}
use Rattle.std.proofs.lemmas.Grind.{common_steps}
use Rattle.std.proofs.lemmas.List.{append-nil, append_assoc, map-append, map-set, take_all, get_or-map}
use Rattle.std.proofs.lemmas.List.{length-append, length-map, length-replicate, length-set}
use Rattle.std.proofs.lemmas.List.{replicate-append-replicate, get_or_append_left, set-append_left}
use Rattle.jpeg_bits.specs.BlockView.{to_block}
use Rattle.jpeg_bits.specs.Passes.{Block, zero_block}
use Rattle.jpeg_meaning.specs.Scans.{Arrays}
use Rattle.jpeg_decoder.specs.declared.scan.block_array.BlockArray.{BlockArray}
use Rattle.jpeg_decoder.specs.Scanning.{arrays_in, blocks_in, sizes_of, IsFull}
use Rattle.jpeg_decoder.proofs.Scans.BlocksBefore.{zero-blocks}

abbrev pub Held : Type 0
Held = BlockArray

abbrev zero_array : List ℤ
zero_array = replicate 64 (pos 0)

-- the blocks of which these are stored
abbrev pub seen : List (List ℤ) → ℕ → List Block
seen stored count = map to_block stored ++ replicate (count - length stored) zero_block

pub seen-is : (a : Held) → blocks_in a ≡ seen a.blocks.items a.count
unfolding blocks_in
seen-is a = refl

pub seen-count : (a : Held) → length (blocks_in a) ≡ length a.blocks.items + (a.count - length a.blocks.items)
seen-count a =
    ap (λ (l : List Block). length l) (seen-is a)
    ∙ length-append (map to_block a.blocks.items) (replicate (a.count - length a.blocks.items) zero_block)
    ∙ ap (λ (n : ℕ). n + length (replicate (a.count - length a.blocks.items) zero_block))
    (length-map a.blocks.items to_block)
    ∙ ap (λ (n : ℕ). length a.blocks.items + n)
    (length-replicate (a.count - length a.blocks.items) zero_block)

-- ---- blocks that are stored

zeros-more : (xs : List (List ℤ)) (more count : ℕ) → length xs + more ≤ count
    → seen (xs ++ replicate more zero_array) count ≡ seen xs count
zeros-more xs more count h =
    let zeros = replicate more zero_array in
    let rest = count - length (xs ++ zeros) in
    let all : more + (count - length (xs ++ zeros)) ≡ count - length xs
    = omega (arith, h, length-append xs zeros, length-replicate more zero_array) in
    ap (λ (l : List Block). l ++ replicate rest zero_block)
    (map-append to_block xs zeros ∙ ap (λ (l : List Block). map to_block xs ++ l) (zero-blocks more))
    ∙ append_assoc (map to_block xs) (replicate more zero_block) (replicate rest zero_block)
    ∙ ap (λ (l : List Block). map to_block xs ++ l)
    (replicate-append-replicate more rest zero_block ∙ ap (λ (n : ℕ). replicate n zero_block) all)

grown : (xs ys : List (List ℤ)) (ok : Bool) (len end count : ℕ) → len ≡ length xs → length xs ≤ end → end ≤ count
    → ys ≡ (if ok then take end xs ++ replicate (end - len) zero_array else xs)
    → seen ys count ≡ seen xs count
grown xs ys true len end count l h w e =
    ap (λ (x : List (List ℤ)). seen x count)
    (e ∙ ap (λ (x : List (List ℤ)). x ++ replicate (end - len) zero_array) (take_all end xs h))
    ∙ zeros-more xs (end - len) count (omega (arith, l, h, w))
grown xs ys false len end count l h w e = ap (λ (x : List (List ℤ)). seen x count) e

-- More blocks are stored, or memory ran out: they are the same.
pub stored-more : (old new : Held) (ok : Bool) (end : ℕ) → new.count ≡ old.count → length old.blocks.items ≤ end
    → end ≤ old.count → new.blocks.items ≡ (if ok then take end old.blocks.items
    ++ replicate (end - old.blocks.len) (replicate 64 (pos 0)) else old.blocks.items)
    → blocks_in new ≡ blocks_in old
stored-more old new ok end same h w e =
    seen-is new
    ∙ ap (λ (n : ℕ). seen new.blocks.items n) same
    ∙ grown old.blocks.items new.blocks.items ok old.blocks.len end old.count old.blocks.ok.0 h w e
    ∙ sym (seen-is old)

pub none-stored : (a : Held) → a.blocks.items ≡ [] → blocks_in a ≡ replicate a.count zero_block
none-stored a e =
    seen-is a
    ∙ ap (λ (x : List (List ℤ)). seen x a.count) e
    ∙ ap (λ (n : ℕ). replicate n zero_block) (omega arith)

pub all-stored : (a : Held) → a.count ≤ length a.blocks.items → IsFull a
all-stored a h =
    let none : a.count - length a.blocks.items ≡ 0 = omega (arith, h) in
    seen-is a
    ∙ ap (λ (n : ℕ). map to_block a.blocks.items ++ replicate n zero_block) none
    ∙ append-nil (map to_block a.blocks.items)

pub full-count : (a : Held) → IsFull a → length a.blocks.items ≡ length (blocks_in a)
full-count a full = sym (ap (λ (l : List Block). length l) full ∙ length-map a.blocks.items to_block)

pub full-there : (vs : List Held) (slot : ℕ) (v : Held) → All IsFull vs → slot < length vs → v ≡ get_or vs slot v
    → IsFull v
full-there vs slot v full h is = subst IsFull (sym is) (full slot v h)

-- All stored blocks become zeros.
pub cleared : (v w : Held) → w.count ≡ v.count → w.blocks.items ≡ replicate (length v.blocks.items) zero_array
    → blocks_in w ≡ replicate (length (blocks_in v)) zero_block
cleared v w same e =
    let n = length v.blocks.items in
    seen-is w
    ∙ ap (λ (m : ℕ). seen w.blocks.items m) same
    ∙ ap (λ (x : List (List ℤ)). seen x v.count) e
    ∙ ap (λ (l : List Block). l ++ replicate (v.count - length (replicate n zero_array)) zero_block) (zero-blocks n)
    ∙ replicate-append-replicate n (v.count - length (replicate n zero_array)) zero_block
    ∙ ap (λ (m : ℕ). replicate m zero_block)
    (ap (λ (m : ℕ). n + (v.count - m)) (length-replicate n zero_array) ∙ sym (seen-count v))

-- ---- a block that is stored

abbrev pub with_block : Held → ℕ → List ℤ → Held
with_block v index x = record { blocks = with_item v.blocks index x; count = v.count }

pub block-set : (v : Held) (index : ℕ) (x : List ℤ) → index < length v.blocks.items
    → blocks_in (with_block v index x) ≡ set (blocks_in v) index (to_block x)
block-set v index x h =
    let zeros = replicate (v.count - length v.blocks.items) zero_block in
    seen-is (with_block v index x)
    ∙ ap (λ (n : ℕ). map to_block (set v.blocks.items index x) ++ replicate (v.count - n) zero_block)
    (length-set v.blocks.items index x)
    ∙ ap (λ (l : List Block). l ++ zeros) (map-set to_block v.blocks.items index x)
    ∙ sym (set-append_left (map to_block v.blocks.items) zeros index (to_block x)
    (omega (arith, h, length-map v.blocks.items to_block)))
    ∙ ap (λ (l : List Block). set l index (to_block x)) (sym (seen-is v))

pub block-there : (v : Held) (index : ℕ) (x : List ℤ) → index < length v.blocks.items
    → x ≡ get_or v.blocks.items index x → get_or (blocks_in v) index zero_block ≡ to_block x
block-there v index x h e =
    ap (λ (l : List Block). get_or l index zero_block) (seen-is v)
    ∙ get_or_append_left (map to_block v.blocks.items) (replicate (v.count - length v.blocks.items) zero_block)
    zero_block index (omega (arith, h, length-map v.blocks.items to_block))
    ∙ get_or-map to_block v.blocks.items index x zero_block h
    ∙ ap to_block (sym e)

-- ---- arrays of several components

pub arrays-same : (vs : List Held) (slot : ℕ) (v w : Held) → v ≡ get_or vs slot v → blocks_in w ≡ blocks_in v
    → arrays_in (set vs slot w) ≡ arrays_in vs
arrays-same [] slot v w e same = refl
arrays-same (u ∷ vs) zero v w e same =
    ap (λ (l : List Block). l ∷ arrays_in vs) (same ∙ ap (λ (x : Held). blocks_in x) e)
arrays-same (u ∷ vs) (suc slot) v w e same = ap (λ (a : Arrays). blocks_in u ∷ a) (arrays-same vs slot v w e same)

pub sizes-put : (vs : List Held) (slot : ℕ) (v w : Held) → length (blocks_in w) ≡ length (blocks_in v)
    → v ≡ get_or vs slot v → sizes_of (set vs slot w) ≡ sizes_of vs
sizes-put [] slot v w l e = refl
sizes-put (u ∷ vs) zero v w l e =
    ap (λ (n : ℕ). n ∷ sizes_of vs) (l ∙ ap (λ (x : Held). length (blocks_in x)) e)
sizes-put (u ∷ vs) (suc slot) v w l e = ap (λ (m : List ℕ). length (blocks_in u) ∷ m) (sizes-put vs slot v w l e)

pub sizes-long : (vs : List Held) → length (sizes_of vs) ≡ length vs
sizes-long [] = refl
sizes-long (v ∷ vs) = ap (λ (n : ℕ). suc n) (sizes-long vs)

pub size-at : (vs : List Held) (slot : ℕ) (v : Held) → slot < length (sizes_of vs) → v ≡ get_or vs slot v
    → get_or (sizes_of vs) slot 0 ≡ length (blocks_in v)
size-at vs slot v h e = grind (arith, common_steps, get_or-map, sizes-long)

-- one array more is full
pub full-next : (vs : List Held) (slot : ℕ) (w : Held) → slot < length vs → IsFull w
    → ((k : ℕ) (d : Held) → k < slot → IsFull (get_or vs k d))
    → (k : ℕ) (d : Held) → k < slot + 1 → IsFull (get_or (set vs slot w) k d)
full-next [] slot w h full before k d lt = absurd (omega (arith, h))
full-next (u ∷ vs) zero w h full before zero d lt = full
full-next (u ∷ vs) zero w h full before (suc k) d lt = absurd (omega (arith, lt))
full-next (u ∷ vs) (suc slot) w h full before zero d lt = before 0 d (omega arith)
full-next (u ∷ vs) (suc slot) w h full before (suc k) d lt =
    full-next vs slot w (omega (arith, h)) full (λ n e l. before (suc n) e (omega (arith, l))) k d (omega (arith, lt))
