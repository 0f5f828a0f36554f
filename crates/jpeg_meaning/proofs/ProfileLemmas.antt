-- The parts of a profile.
use Rattle.std.proofs.Common.{rules, ◌≡◌, ◌+◌, ◌<◌, ◌≤◌, ℕ, zero, suc, List, [], ◌∷◌, ◌++◌, Option, Some, None, refl}
use Rattle.std.proofs.Common.{length, map, append_assoc, arith, Ok, false, ap, get_or}
use Rattle.std.proofs.lemmas.Grind.{common_steps}
use Rattle.std.proofs.lemmas.List.{append-nil, get_or_default}
use Rattle.std.specs.Prelude.{◌==◌, filter_map, flat_map, option_map, is_some}
use Rattle.std.specs.List.{find, range_with_len}
use Rattle.jpeg_segments.specs.declared.application.IccChunk.{IccChunk}
use Rattle.jpeg_segments.specs.Application.{Chunk, Application, app_at}
use Rattle.jpeg_segments.specs.FrameView.{chunk_in, frame_in}
use Rattle.jpeg_segments.specs.declared.frame.FrameInfo.{FrameInfo}
use Rattle.jpeg_segments.specs.Frame.{Frame, sof_at}
use Rattle.jpeg_meaning.specs.Segments.{with_application, frame_segment, accepted, onward, application_segment, updated}
use Rattle.jpeg_meaning.specs.Found.{Found, Metadata, with_said}
use Rattle.std.proofs.Math.ListN.{set}

-- the bytes of the first part of this number
abbrev pub part : ℕ → List Chunk → Option (List ℕ)
part number chunks = option_map (λ (c : Chunk). c.bytes) (find (λ (c : Chunk). c.number == number) chunks)

pub part_find : (number : ℕ) (chunks : List IccChunk)
    → part number (map chunk_in chunks) ≡ option_map (λ (c : IccChunk). c.bytes.items)
    (find (λ (c : IccChunk). c.seq_no == number) chunks)
part_find number [] = refl
part_find number (c ∷ chunks) = search (rules, part_find number chunks)

-- the first n parts, without those that are missing
abbrev pub parts_to : List Chunk → ℕ → List Chunk
parts_to all n = filter_map (λ k. find (λ (c : Chunk). c.number == k) all) (range_with_len 1 n)

-- this many parts are there, and are joined
pub record Joins (all : List Chunk) (index : ℕ) (bytes : List ℕ) : Type 0 where
  pub count : length (parts_to all index) ≡ index
  pub joined : flat_map (λ (c : Chunk). c.bytes) (parts_to all index) ≡ bytes

module _ {X : Type 0} (h : ℕ → Option X) (f : X → List ℕ) where
  abbrev found : ℕ → ℕ → List X
  found a n = filter_map h (range_with_len a n)

  one-more : (a n j : ℕ) (more : List ℕ) → a + n ≡ j → option_map f (h j) ≡ Some more
      → (length (found a (n + 1)) ≡ length (found a n) + 1)
      × (flat_map f (found a (n + 1)) ≡ flat_map f (found a n) ++ more)
  one-more a zero j more e is = grind (arith, common_steps, append-nil)
  one-more a (suc n) j more e is = search (rules, arith, append_assoc, one-more (a + 1) n j more)

  no-more : (a n : ℕ) → length (found a n) ≤ n
  no-more a zero = omega arith
  no-more a (suc n) = search (rules, no-more (a + 1) n)

  missing : (a n i j : ℕ) → i < n → a + i ≡ j → option_map f (h j) ≡ None → length (found a n) < n
  missing a zero i j lt e is = absurd (omega arith)
  missing a (suc n) zero j lt e is = grind (arith, no-more (a + 1) n)
  missing a (suc n) (suc i) j lt e is = search (rules, missing (a + 1) n i j)

pub joins-more : (all : List Chunk) (index : ℕ) (bytes more : List ℕ) → part (index + 1) all ≡ Some more
    → Joins all index bytes → Joins all (index + 1) (bytes ++ more)
joins-more all index bytes more is h =
    let e = one-more (λ k. find (λ (c : Chunk). c.number == k) all) (λ (c : Chunk). c.bytes) 1 index (index + 1) more
    (omega arith) is in
    record { count = cc; joined = cc }

pub joins-missing : (all : List Chunk) (count index : ℕ) → index < count → part (index + 1) all ≡ None
    → length (parts_to all count) < count
joins-missing all count index lt is = missing (λ k. find (λ (c : Chunk). c.number == k) all) (λ (c : Chunk). c.bytes) 1
    count index (index + 1) lt (omega arith) is

pub no-frame : (o : Option FrameInfo) → is_some o ≡ false → is_some (option_map frame_in o) ≡ false
no-frame None e = refl
no-frame (Some f) e = absurd (let n : ⊥ = cc in n)

pub frame-read : (number : ℕ) (found : Found) (bytes rest : List ℕ) (frame : Frame) → is_some found.said.frame ≡ false
    → sof_at number bytes ≡ Ok (frame, rest) → accepted frame ≡ Ok frame
    → frame_segment number found bytes ≡ Ok (onward (with_said (λ said. record said { frame = Some frame }) found), rest)
unfolding frame_segment
frame-read number found bytes rest frame none e a = rw (none, e, a) refl

pub application-read : (number : ℕ) (found : Found) (bytes rest : List ℕ) (said : Option Application) (m : Metadata)
    → app_at number bytes ≡ Ok (said, rest) → m ≡ with_application found.said.metadata said
    → application_segment number found bytes ≡ Ok (onward (with_said (λ said. record said { metadata = m }) found), rest)
application-read number found bytes rest said m e a = rw (e, a) refl

-- a table that is moved to its destination
pub updated-set : {A : Type 0} (xs ys : List (Option A)) (i : ℕ) (t : A) → i < length xs → i < length ys
    → get_or ys i None ≡ Some t → updated (set xs i (Some t)) (set ys i None) ≡ updated xs ys
unfolding updated
updated-set (x ∷ xs) (y ∷ ys) (suc i) t p q e =
    search (rules, updated-set xs ys i t (omega arith) (omega arith) e)
updated-set xs ys i t p q e = search rules

-- where no table is left, nothing changes
pub updated-none : {A : Type 0} (xs ys : List (Option A)) → ((k : ℕ) → k < length xs → get_or ys k None ≡ None)
    → updated xs ys ≡ xs
unfolding updated
updated-none (x ∷ xs) (None ∷ ys) h = ap (λ r. x ∷ r) (updated-none xs ys (λ k lt. h (suc k) (omega arith)))
updated-none (x ∷ xs) (Some s ∷ ys) h = let e : Some s ≡ None = h 0 (omega arith) in absurd (let n : ⊥ = cc in n)
updated-none xs ys h = refl

-- no table to move
pub updated-keep : {A : Type 0} (xs ys : List (Option A)) (i : ℕ) → get_or ys i None ≡ None
    → updated xs (set ys i None) ≡ updated xs ys
unfolding updated
updated-keep (x ∷ xs) (y ∷ ys) (suc i) e = search (rules, updated-keep xs ys i)
updated-keep xs ys i e = search rules

-- a destination is moved
pub moved-some : {A : Type 0} (xs ys xs' ys' : List (Option A)) (i : ℕ) (found d v : Option A) (t : A) → i < length xs
    → length xs ≡ length ys → found ≡ get_or ys i d → v ≡ None → found ≡ Some t
    → xs' ≡ set xs i (Some t) → ys' ≡ set ys i v → updated xs' ys' ≡ updated xs ys
moved-some xs ys xs' ys' i found d v t p l f n s a b = search (rules, updated-set, get_or_default)

pub moved-none : {A : Type 0} (xs ys xs' ys' : List (Option A)) (i : ℕ) (found d v : Option A) → i < length xs
    → length xs ≡ length ys → found ≡ get_or ys i d → v ≡ None → found ≡ None
    → xs' ≡ xs → ys' ≡ set ys i v → updated xs' ys' ≡ updated xs ys
moved-none xs ys xs' ys' i found d v p l f n s a b = search (rules, updated-keep, get_or_default)
