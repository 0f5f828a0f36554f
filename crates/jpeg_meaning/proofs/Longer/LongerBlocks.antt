-- The blocks that shorter data of a scan bring are those that longer data bring.
use Rattle.std.proofs.Common.{◌≡◌, inl, inr, ℕ, List, refl, sym, ◌∙◌, subst, Ok, Option}
use Rattle.jpeg_bits.specs.Intervals.{first_group, other_groups}
use Rattle.jpeg_bits.specs.Passes.{Pass, Via}
use Rattle.jpeg_bits.specs.declared.marker.Marker.{Marker}
use Rattle.jpeg_meaning.specs.InTurn.{AreApart, IsIn}
use Rattle.jpeg_meaning.specs.Order.{Spot}
use Rattle.jpeg_meaning.specs.Brought.{scan_reached}
use Rattle.jpeg_meaning.specs.Scans.{Arrays, arrays_at, block_at, put_block}
use Rattle.jpeg_meaning.proofs.Order.CountedScans.{apart-between, in-front, kept-after, scans-in-turn}
use Rattle.jpeg_meaning.proofs.Partial.ReachedIntervals.{intervals-read}
use Rattle.jpeg_meaning.specs.LongerStreams.{HoldsFirst, Puts, ReadsOn}
use Rattle.jpeg_meaning.specs.LongerStreams.Puts.{finished, put}

-- what is put at these spots leaves the other blocks
pub puts-elsewhere : (q : Spot) (spots : List Spot) (before after : Arrays) → Puts spots before after
    → (IsIn q spots → ⊥) → block_at after q ≡ block_at before q
puts-elsewhere q spots before after (finished arrays) n = refl
puts-elsewhere q spots before after (put s rest b old new p) n =
    puts-elsewhere q rest (put_block s b before) after p (λ t. n (inr t))
    ∙ kept-after s q b before (λ e. n (inl e))

-- In a scan whose spots are apart, the blocks of shorter data are those of longer ones, and no other is touched.
pub brought-stay : (spots : List Spot) (before shorter longer : Arrays) → AreApart spots
    → (r : ReadsOn spots before shorter longer) → (s : Spot) → IsIn s r.done → block_at shorter s ≡ block_at longer s
brought-stay spots before shorter longer apart r s t =
    let f = r.further in
    let all = subst AreApart r.parts apart in
    sym (puts-elsewhere s f.done shorter longer f.puts (λ u. apart-between s r.done r.others all t
    (subst (λ (l : List Spot). IsIn s l) (sym f.parts) (in-front s f.done f.others u))))

pub others-stay : (spots : List Spot) (before shorter longer : Arrays) (r : ReadsOn spots before shorter longer)
    (s : Spot) → (IsIn s r.done → ⊥) → block_at shorter s ≡ block_at before s
others-stay spots before shorter longer r s n = puts-elsewhere s r.done before shorter r.puts n

pub blocks_stay : (spots : List Spot) (before shorter longer : Arrays) → AreApart spots
    → ReadsOn spots before shorter longer → HoldsFirst spots before shorter longer
blocks_stay spots before shorter longer apart r =
    record {
      done = r.done;
      others = r.others;
      parts = r.parts;
      same = brought-stay spots before shorter longer apart r;
      kept = others-stay spots before shorter longer r;
    }

-- A scan that is reached up to the marker after it is read as the same blocks.
pub reached_are_read : (p : Pass) (n : ℕ) (vias : List Via) (spots : List Spot) (arrays : Arrays) (bytes : List ℕ)
    (x : Option Marker × List ℕ) → AreApart spots → (scan_reached p n vias spots arrays bytes).rest ≡ Ok x
    → (m : Option Marker) × (rest : List ℕ)
    × (arrays_at p n vias spots arrays bytes ≡ Ok (((scan_reached p n vias spots arrays bytes).reached, m), rest))
reached_are_read p n vias spots arrays bytes x apart h =
    let r = intervals-read p vias 0 (first_group n spots) (other_groups n spots) arrays bytes x h in
    (r.0.0, r.0.1, scans-in-turn p n vias spots arrays bytes apart ∙ r.1)
