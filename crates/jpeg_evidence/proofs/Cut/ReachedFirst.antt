-- The first blocks of a scan whose data stand whole in some bytes can be read of these.
use Rattle.std.proofs.Common.{◌≡◌, ℕ, suc, ◌+◌, ◌%◌, ◌≤◌, Bool, List, [], ◌∷◌, ◌++◌, map, take, drop, refl, sym, ap}
use Rattle.std.proofs.Common.{◌∙◌, subst, Ok, Err, Result, Option, append_assoc, take-append-drop}
use Rattle.std.specs.List.{AllByRecursion}
use Rattle.std.proofs.lemmas.List.{take-map}
use Rattle.jpeg_bits.specs.Reading.{Fault, End, Outcome}
use Rattle.jpeg_bits.specs.Reading as outcomes
use Rattle.jpeg_bits.specs.Entropy.{Broken, Text, text_at}
use Rattle.jpeg_bits.specs.Intervals.{first_group, other_groups}
use Rattle.jpeg_bits.specs.Passes.{Block, Pass, Via, predictors_at_start}
use Rattle.jpeg_bits.specs.Readers.{text}
use Rattle.jpeg_bits.specs.Written.{marker}
use Rattle.jpeg_bits.specs.declared.marker.Marker.{Marker}
use Rattle.jpeg_bits.specs.declared.marker.Marker.TheVariants.{RST}
use Rattle.jpeg_bits.proofs.ReadIntervals.{all-take}
use Rattle.jpeg_bits.proofs.WrittenIntervals.{all-groups}
use Rattle.jpeg_segments.proofs.Codecs.{err-ok, ok-same}
use Rattle.jpeg_meaning.specs.Brought.{after_interval, interval_reached}
use Rattle.jpeg_meaning.specs.InTurn.{AreApart, IsIn, Reached, at_start, turns_from}
use Rattle.jpeg_meaning.specs.Order.{Spot}
use Rattle.jpeg_meaning.specs.Scans.{Arrays, turns_of, via_at}
use Rattle.jpeg_meaning.proofs.Order.CountedScans.{all_of, apart-back, apart-front, arrays_in, in-front}
use Rattle.jpeg_meaning.proofs.Written.WrittenFrameScans.{IsReadyAt, all-in}
use Rattle.jpeg_evidence.specs.FirstBlocks.{BeginsInterval, BeginsIntervals, WritesFirst}
use Rattle.jpeg_evidence.specs.FirstBlocks.BeginsIntervals.{beyond, within}
use Rattle.jpeg_meaning.proofs.Longer.LongerData.{CanReadOf}
use Rattle.jpeg_meaning.proofs.Longer.LongerScans.{CanReach, CanReachOf}
use Rattle.jpeg_meaning.proofs.Longer.LongerScans.CanReach.{here, later}
use Rattle.jpeg_evidence.proofs.Cut.StandingBlocks.{turns-length}
use Rattle.jpeg_evidence.proofs.Taken.StuffedTexts.{stuffed-begins}
use Rattle.jpeg_evidence.proofs.Cut.WrittenCuts.{after_blocks, first-taken, groups-are, interval-written, restart-met}
use Rattle.jpeg_evidence.proofs.Cut.WrittenCuts.{rst-marker, stays-ready}

-- ---- the blocks of an interval

pub turns-take : (vias : List Via) (spots : List Spot) (u : Spot → Block) (n : ℕ)
    → take n (turns_of vias spots u) ≡ turns_of vias (take n spots) u
unfolding turns_of
turns-take vias spots u n = take-map (λ (s : Spot). (via_at vias s.slot, u s)) n spots

-- what is put back was read
some-read : (o : Result (Reached × Text) Fault) (y : Arrays × Text) → arrays_in o ≡ Ok y
    → (r : Reached × Text) × (o ≡ Ok r) × (r.1.bits ≡ y.1.bits)
some-read (Ok r) y e = (r, refl, ap (λ (x : Arrays × Text). x.1.bits) (ok-same (r.0.arrays, r.1) y e))
some-read (Err g) y e = absurd (err-ok g y e)

-- The first blocks of an interval are read of the bits that they are written in.
pub first-turns : (p : Pass) (vias : List Via) (spots : List Spot) (arrays : Arrays) (u : Spot → Block) (count : ℕ)
    (bits tail : List Bool) (ps : List (List ℕ)) → AreApart spots → AllByRecursion (IsReadyAt p vias arrays u) spots
    → WritesFirst p predictors_at_start 0 (take count (turns_of vias spots u)) bits
    → (r : Reached × Text)
    × (turns_from p vias (take count spots) (at_start arrays) (text (bits ++ tail) ps (Broken End)) ≡ Ok r)
    × (r.1.bits ≡ tail)
first-turns p vias spots arrays u count bits tail ps apart ready coded =
    let some = take count spots in
    let is_apart = apart-front some (drop count spots) (subst AreApart (sym (take-append-drop count spots)) apart) in
    let w = subst (λ (l : List (Via × Block)). WritesFirst p predictors_at_start 0 l bits)
    (turns-take vias spots u count) coded in
    some-read (turns_from p vias some (at_start arrays) (text (bits ++ tail) ps (Broken End))) _
    ((first-taken p vias some arrays u bits is_apart (all-take (IsReadyAt p vias arrays u) count spots ready) w).read
    tail ps (Broken End))

-- The first blocks of an interval, whose data stand in these bytes, can be read of them.
first-can : (p : Pass) (vias : List Via) (spots : List Spot) (arrays : Arrays) (u : Spot → Block) (bytes : List ℕ)
    (count : ℕ) → AreApart spots → AllByRecursion (IsReadyAt p vias arrays u) spots
    → BeginsInterval p (turns_of vias spots u) count bytes → CanReadOf p vias spots arrays bytes count
first-can p vias spots arrays u bytes count apart ready b =
    let t = stuffed-begins b.data_bytes b.more_bytes in
    let left = (text_at b.more_bytes).bits in
    let tail = b.more_bits ++ left in
    let bits : (text_at bytes).bits ≡ b.bits ++ tail
    = ap (λ (l : List ℕ). (text_at l).bits) b.begins ∙ t.are ∙ ap (λ (l : List Bool). l ++ left) b.whole
    ∙ append_assoc b.bits b.more_bits left in
    record {
      are_there = subst (λ (n : ℕ). count ≤ n) (turns-length vias spots u) b.are_there;
      read = λ ps.
          let read = first-turns p vias spots arrays u count b.bits tail ps apart ready b.coded in (
            read.0,
            ap (λ (l : List Bool). turns_from p vias (take count spots) (at_start arrays) (text l ps (Broken End))) bits
                ∙ read.1,
          );
    }

-- ---- the intervals

first-reach : (p : Pass) (vias : List Via) (u : Spot → Block) (k : ℕ) (spots : List Spot) (groups : List (List Spot))
    (arrays : Arrays) (bytes : List ℕ) (count : ℕ) → AreApart (spots ++ all_of groups)
    → ((s : Spot) → IsIn s (spots ++ all_of groups) → IsReadyAt p vias arrays u s)
    → BeginsIntervals p k (turns_of vias spots u) (map (λ (g : List Spot). turns_of vias g u) groups) count bytes
    → CanReach p vias k spots groups arrays bytes count
first-reach p vias u k spots [] arrays bytes count apart ready (within k' one more count' bytes' b) =
    here k spots [] arrays bytes count (first-can p vias spots arrays u bytes count (apart-front spots [] apart)
    (all-in (IsReadyAt p vias arrays u) spots (λ s t. ready s (in-front s spots [] t))) b)
first-reach p vias u k spots (next ∷ groups) arrays bytes count apart ready (within k' one more count' bytes' b) =
    let others = all_of (next ∷ groups) in
    here k spots (next ∷ groups) arrays bytes count (first-can p vias spots arrays u bytes count
    (apart-front spots others apart)
    (all-in (IsReadyAt p vias arrays u) spots (λ s t. ready s (in-front s spots others t))) b)
first-reach p vias u k spots (next ∷ groups) arrays bytes count apart ready
    (beyond k' fill one next' more count' first after w b) =
    let others = all_of (next ∷ groups) in
    let now = after_blocks p u spots arrays in
    let all = first ++ marker fill (0xD0 + k % 8) after in
    let is = interval-written p vias spots arrays u first fill (0xD0 + k % 8) (RST (k % 8)) after
    (apart-front spots others apart)
    (all-in (IsReadyAt p vias arrays u) spots (λ s t. ready s (in-front s spots others t))) (rst-marker k) w in
    let ends : outcomes.◌>>=◌ (interval_reached p vias spots arrays all).rest (after_interval k) ≡ Ok after
    = ap (λ (q : Arrays × Outcome (Option Marker)). outcomes.◌>>=◌ q.1 (after_interval k)) is
    ∙ restart-met k after in
    let more = first-reach p vias u (suc k) next groups now after count' (apart-back spots others apart)
    (stays-ready p vias spots others arrays u apart ready) b in
    subst (λ (n : ℕ). CanReach p vias k spots (next ∷ groups) arrays all (n + count'))
    (sym (turns-length vias spots u))
    (later k spots next groups arrays all after count' ends
    (subst (λ (a : Arrays). CanReach p vias (suc k) next groups a after count')
    (sym (ap (λ (q : Arrays × Outcome (Option Marker)). q.0) is)) more))

-- the first blocks of groups of a scan's turns stand whole in these bytes
abbrev pub BeginsGroups : Pass → ℕ → List ℕ → List (Via × Block) × List (List (Via × Block)) → Type 0
BeginsGroups p count bytes groups = BeginsIntervals p 0 groups.0 groups.1 count bytes

-- The first blocks of a scan, whose data stand whole in these bytes, can be read of them.
pub first_blocks_are_reached : (p : Pass) (n : ℕ) (vias : List Via) (u : Spot → Block) (spots : List Spot)
    (arrays : Arrays) (bytes : List ℕ) (count : ℕ) → AreApart spots
    → ((s : Spot) → IsIn s spots → IsReadyAt p vias arrays u s)
    → BeginsIntervals p 0 (first_group n (turns_of vias spots u)) (other_groups n (turns_of vias spots u)) count bytes
    → CanReachOf p n vias spots arrays bytes count
first_blocks_are_reached p n vias u spots arrays bytes count apart ready w =
    let all = all-groups n spots in
    first-reach p vias u 0 (first_group n spots) (other_groups n spots) arrays bytes count
    (subst AreApart (sym all) apart) (λ s t. ready s (subst (λ (l : List Spot). IsIn s l) all t))
    (subst (BeginsGroups p count bytes) (groups-are vias spots u n) w)
