-- The blocks of a frame that are kept, and how a scan changes them, one after the other (T.81,
-- G.1).
use Rattle.std.specs.Prelude.{◌≡◌, ◌≢◌, ◌≤◌, ◌*ℤ◌, ◌^◌, ◌∷◌, [], ℕ, suc, Bool, true, false, List, ℤ}
use Rattle.std.specs.Prelude.{drop, get_or, length, map, pos}
use Rattle.std.specs.List.{AllByRecursion, list_any}
use Rattle.jpeg_bits.specs.BlockView.{dc_in}
use Rattle.jpeg_bits.specs.Passes.{Block, Pass, band_of, band_size}
use Rattle.jpeg_meaning.specs.Levels.{Is8Bit, IsLegal, Levels, cut, numbers_at, sent_after}
use Rattle.jpeg_meaning.specs.WrittenData.{no_numbers}
use Rattle.zaxbriar_strict.specs.Bands.{block_in}
use Rattle.zaxbriar_strict.specs.Sent.{AllInner, scaled_by}
use Rattle.zaxbriar_strict.specs.declared.frame.Component.{Component}

-- ---- what is kept

-- A block of a frame: the index of its component, and its row and column among the blocks of that.
pub record Place : Type 0 where
  pub index : ℕ
  pub row : ℕ
  pub column : ℕ

-- The 64 coefficients in zigzag order of each block, and whether some number was at an end of the
-- range of 16 bits after a scan.
pub record Kept : Type 0 where
  pub block : Place → List ℤ
  pub is_wide : Bool

-- blocks by rows: one that isn't there is zeros
abbrev pub block_of : List (List (List ℤ)) → ℕ → ℕ → List ℤ
block_of rows row column = get_or (get_or rows row []) column (no_numbers 64)

abbrev pub rows_of : Component → List (List (List ℤ))
rows_of c = map (λ r. r.items) c.rows.items

-- what is kept of a component
abbrev pub kept_of : Component → List (List (List ℤ)) × Bool
kept_of c = (rows_of c, c.is_wide)

-- All of its blocks are in the range of blocks of 8-bit samples.
abbrev pub IsComponentInRange : Component → Type 0
IsComponentInRange c =
    AllByRecursion (λ r. AllByRecursion (λ b. Is8Bit (block_in b)) r.items) c.rows.items

abbrev pub kept_in : List Component → Kept
kept_in cs = record {
  block = λ q. block_of (get_or (map rows_of cs) q.index []) q.row q.column;
  is_wide = list_any (λ b. b) (map (λ c. c.is_wide) cs);
}

-- ---- what is changed

-- A block before and after a scan sends of it.
pub record Change : Type 0 where
  pub place : Place
  pub old : List ℤ
  pub new : List ℤ

-- The change was made, and no other block was changed.
pub record IsMadeChange (c : Change) (before after : Kept) : Type 0 where
  pub was : before.block c.place ≡ c.old
  pub is : after.block c.place ≡ c.new
  pub others : (q : Place) → q ≢ c.place → after.block q ≡ before.block q

-- So were these, one after the other.
unfoldable pub AreMade : List Change → Kept → Kept → Type 0
AreMade [] before after = (q : Place) → after.block q ≡ before.block q
AreMade (c ∷ cs) before after =
    (between : Kept) × (IsMadeChange c before between × AreMade cs between after)

-- ---- what a pass changes

-- the numbers that a pass sends of a block
abbrev pub sent_by : Pass → Change → Block
sent_by p c = numbers_at p.al (block_in c.new)

-- A coefficient has no bits below a level.
pub record HasLevel (al : ℕ) (z : ℤ) : Type 0 where
  pub number : ℤ
  pub is : z ≡ number *ℤ pos (2 ^ al)

-- The same of a band.
pub record HaveLevel (al : ℕ) (zs : List ℤ) : Type 0 where
  pub numbers : List ℤ
  pub are : zs ≡ scaled_by al numbers

-- What a pass sends of a block may be sent: nothing was sent of it before a first pass, and all
-- bits above before a refinement.
pub record IsReady (p : Pass) (old : List ℤ) : Type 0 where
  pub dc_first : p.ss ≡ 0 → p.is_first ≡ true → dc_in old ≡ pos 0
  pub dc_again : p.ss ≡ 0 → p.is_first ≡ false → HasLevel (suc p.al) (dc_in old)
  pub acs_first : 1 ≤ p.ss → p.is_first ≡ true → band_of p (drop 1 old) ≡ no_numbers (band_size p)
  pub acs_again : 1 ≤ p.ss → p.is_first ≡ false → HaveLevel (suc p.al) (band_of p (drop 1 old))

-- What is asked of a change in a frame whose blocks are kept.
pub record IsGood (p : Pass) (c : Change) : Type 0 where
  pub ready : IsReady p c.old
  pub inner : AllInner c.new

-- A block has the bits that were sent by these levels, and no others.
pub record IsCutAt (l : Levels) (zs : List ℤ) : Type 0 where
  pub sized : length (block_in zs).acs ≡ 63
  pub same : block_in zs ≡ cut l (block_in zs)

-- What a block was before a pass of which this came.
pub record IsNext (p : Pass) (c : Change) : Type 0 where
  pub back : (l : Levels) (u : Block) → length u.acs ≡ 63 → length l.acs ≡ 63 → IsLegal p l
      → block_in c.new ≡ cut (sent_after p l) u → block_in c.old ≡ cut l u
  pub in_range : p.al ≤ 7 → Is8Bit (block_in c.new) → Is8Bit (block_in c.old)
  pub onward : (l : Levels) → length l.acs ≡ 63 → IsLegal p l → IsCutAt l c.old
      → IsCutAt (sent_after p l) c.new
