-- What a scan of a progressive frame sends of a block, and what the block was before (T.81, G.1.2).
use Rattle.std.specs.Prelude.{◌∷◌, [], ℕ, List, ℤ}
use Rattle.jpeg_bits.specs.BlockView.{dc_in}
use Rattle.jpeg_bits.specs.Passes.{Pass, Via}
use Rattle.zaxbriar_strict.specs.Bands.{IsInner}
use Rattle.zaxbriar_strict.specs.Blocks.{WritesTurns}
use Rattle.zaxbriar_strict.specs.Changes.{Change, IsGood, IsNext, IsReady, Place}
use Rattle.zaxbriar_strict.specs.Data.{Data, Reads}
use Rattle.zaxbriar_strict.specs.Runs.{turns_by}
use Rattle.zaxbriar_strict.specs.Sent.{AllInner, ReadsSentAc, ReadsSentDc}
use Rattle.zaxbriar_strict.specs.declared.transform.Past.{Past}

-- DC of a block was read, if it may be sent.
abbrev pub ReadsDc : Pass → Via → ℤ → ℤ → List ℤ → List ℤ → Data → Data → Type 0
ReadsDc p via before after old new from to =
    IsReady p old → IsInner (dc_in new) → ReadsSentDc p via.dc before after old new from to

-- The band of a block was read, if it may be sent.
abbrev pub ReadsAcs : Pass → Via → ℕ → ℕ → List ℤ → List ℤ → Data → Data → Type 0
ReadsAcs p via run left old new from to =
    IsReady p old → AllInner new → ReadsSentAc p via.ac run left old new from to

-- So was what is sent of a block at any place.
pub record ReadsSent (p : Pass) (via : Via) (before after : Past) (old new : List ℤ)
    (from to : Data) : Type 0 where
  pub next : (q : Place) → let c : Change = record { place = q; old = old; new = new } in
      IsGood p c → IsNext p c
  pub read : (q : Place) → let c : Change = record { place = q; old = old; new = new } in
      IsGood p c → Reads (WritesTurns p before.dc before.run after.dc after.run
      (turns_by p (via ∷ []) (c ∷ []))) from to
