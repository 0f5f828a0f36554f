-- The first blocks of a written scan that can be read of a beginning of its data stand whole in this.
use Rattle.std.proofs.Common.{◌≡◌, ℕ, suc, ◌+◌, ◌%◌, ◌≤◌, Bool, List, [], ◌∷◌, ◌++◌, length, map, take, sym, ap, ◌∙◌}
use Rattle.std.proofs.Common.{subst, Ok, Option, Some, append_assoc, append-nil}
use Rattle.std.specs.List.{AllByRecursion}
use Rattle.std.proofs.lemmas.List.{append_cancel_right}
use Rattle.jpeg_bits.specs.Reading.{End, Outcome}
use Rattle.jpeg_bits.specs.Entropy.{Broken, Text, text_at}
use Rattle.jpeg_bits.specs.Intervals.{first_group, other_groups}
use Rattle.jpeg_bits.specs.Passes.{Block, Pass, Via, predictors_at_start}
use Rattle.jpeg_bits.specs.Readers.{text}
use Rattle.jpeg_bits.specs.Written.{WritesInterval, WritesIntervals, marker}
use Rattle.jpeg_bits.specs.Written.WritesIntervals.{another, last}
use Rattle.jpeg_bits.specs.declared.marker.Marker.{Marker}
use Rattle.jpeg_bits.specs.declared.marker.Marker.TheVariants.{RST}
use Rattle.jpeg_bits.proofs.WrittenIntervals.{all-groups, marker-append}
use Rattle.jpeg_segments.proofs.Codecs.{bind-ok, err-ok, ok-same}
use Rattle.jpeg_meaning.specs.Brought.{after_interval, interval_reached}
use Rattle.jpeg_meaning.specs.InTurn.{AreApart, IsIn, Reached, at_start, turns_from}
use Rattle.jpeg_meaning.specs.Order.{Spot}
use Rattle.jpeg_meaning.specs.Scans.{Arrays, turns_of}
use Rattle.jpeg_meaning.specs.WrittenData.{WritesBlocks}
use Rattle.jpeg_meaning.proofs.Order.CountedScans.{all_of, apart-back, apart-front, in-front}
use Rattle.jpeg_meaning.proofs.Partial.ReachedIntervals.{restart-stands}
use Rattle.jpeg_meaning.proofs.Written.WrittenFrameScans.{IsReadyAt, all-in}
use Rattle.jpeg_evidence.specs.FirstBlocks.{BeginsInterval, BeginsIntervals}
use Rattle.jpeg_evidence.specs.FirstBlocks.BeginsIntervals.{beyond, within}
use Rattle.jpeg_meaning.proofs.Longer.FrontReaders.{Front, TakesFront, fault-read}
use Rattle.jpeg_meaning.proofs.Longer.FrontReaders.Front.{failed, gave}
use Rattle.jpeg_meaning.proofs.Longer.LongerBits.{AreSized, turns-front}
use Rattle.jpeg_meaning.proofs.Longer.LongerData.{CanReadOf, both, interval-stays, text-grows}
use Rattle.jpeg_meaning.proofs.Longer.LongerScans.{CanReach, CanReachOf}
use Rattle.jpeg_meaning.proofs.Longer.LongerScans.CanReach.{here, later}
use Rattle.jpeg_evidence.proofs.Cut.ReachedFirst.{BeginsGroups, first-turns}
use Rattle.jpeg_evidence.proofs.Cut.StandingBlocks.{front-bits, turns-length}
use Rattle.jpeg_evidence.proofs.Taken.StuffedTexts.{stuffed-begins, unstuffed}
use Rattle.jpeg_evidence.proofs.Cut.WrittenCuts.{after_blocks, groups-are, groups-coded, interval-written, rst-marker}
use Rattle.jpeg_evidence.proofs.Cut.WrittenCuts.{stays-ready}

-- ---- an interval

-- What is read of bits, and of longer ones that begin with the bits that it was written in, begins with these.
own-bits : (p : Pass) (vias : List Via) (spots : List Spot) (old : Reached) (bits more own others : List Bool)
    → Front (AreSized vias) (turns_from p vias spots old) bits
    → (r : Reached × Text) × (turns_from p vias spots old (text bits [] (Broken End)) ≡ Ok r)
    → (r : Reached × Text) × (turns_from p vias spots old (text (own ++ others) [] (Broken End)) ≡ Ok r)
    × (r.1.bits ≡ others)
    → bits ++ more ≡ own ++ others → (left : List Bool) × (bits ≡ own ++ left)
own-bits p vias spots old bits more own others (failed g is) r q e =
    absurd (err-ok g r.0 (sym (fault-read _ bits g [] is) ∙ r.1))
own-bits p vias spots old bits more own others (gave taken left x is just) r q e =
    let same : taken ++ (left ++ more) ≡ own ++ others
    = sym (append_assoc taken left more) ∙ ap (λ (l : List Bool). l ++ more) (sym is) ∙ e in
    let rest : left ++ more ≡ others
    = ap (λ (y : Reached × Text). y.1.bits) (ok-same _ q.0 (sym (just.read (left ++ more) [] (Broken End))
    ∙ ap (λ (l : List Bool). turns_from p vias spots old (text l [] (Broken End))) same ∙ q.1)) ∙ q.2 in
    let first : taken ≡ own
    = append_cancel_right taken own others (ap (λ (l : List Bool). taken ++ l) (sym rest) ∙ same) in
    (left, is ∙ ap (λ (l : List Bool). l ++ left) first)

module _ (p : Pass) (vias : List Via) (u : Spot → Block) where
  -- The first blocks of a written interval, where they can be read of a beginning of the data, stand in this.
  first-stands : (spots : List Spot) (arrays : Arrays) (bytes tail front more : List ℕ) (count : ℕ)
      → AreApart spots → AllByRecursion (IsReadyAt p vias arrays u) spots
      → WritesInterval (WritesBlocks p predictors_at_start 0 (turns_of vias spots u)) bytes
      → bytes ++ tail ≡ front ++ more → CanReadOf p vias spots arrays front count
      → BeginsInterval p (turns_of vias spots u) count front
  unfolding TakesFront
  first-stands spots arrays bytes tail front more count apart ready w parts c =
      let some = take count spots in
      let f = front-bits p predictors_at_start 0 (turns_of vias spots u) w.bits count w.coded in
      let t = stuffed-begins w.data_bytes tail in
      let others = f.others ++ (w.filling ++ (text_at tail).bits) in
      let g = text-grows front more in
      let written : (text_at (front ++ more)).bits ≡ f.first ++ others
      = ap (λ (l : List ℕ). (text_at l).bits) (sym parts ∙ ap (λ (l : List ℕ). l ++ tail) (sym w.has_bytes))
      ∙ t.are
      ∙ ap (λ (l : List Bool). l ++ (text_at tail).bits) (w.whole ∙ ap (λ (l : List Bool). l ++ w.filling) f.parts)
      ∙ append_assoc (f.first ++ f.others) w.filling (text_at tail).bits
      ∙ append_assoc f.first f.others (w.filling ++ (text_at tail).bits) in
      let own = own-bits p vias some (at_start arrays) (text_at front).bits g.bits f.first others
      (turns-front p vias some (at_start arrays) (text_at front).bits) (c.read [])
      (first-turns p vias spots arrays u count f.first others [] apart ready f.coded) (sym g.are ∙ written) in
      let whole = unstuffed front in
      record {
        bits = f.first;
        more_bits = own.0;
        data_bytes = whole.data_bytes;
        more_bytes = whole.more_bytes;
        are_there = subst (λ (n : ℕ). count ≤ n) (sym (turns-length vias spots u)) c.are_there;
        coded = f.coded;
        whole = sym whole.are ∙ own.1;
        begins = whole.begins;
      }

  -- ---- the intervals

  first-stand : (k : ℕ) (spots : List Spot) (groups : List (List Spot)) (arrays : Arrays)
      (bytes front more : List ℕ) (count : ℕ) → AreApart (spots ++ all_of groups)
      → ((s : Spot) → IsIn s (spots ++ all_of groups) → IsReadyAt p vias arrays u s)
      → WritesIntervals (WritesBlocks p predictors_at_start 0) k (turns_of vias spots u)
      (map (λ (g : List Spot). turns_of vias g u) groups) bytes
      → bytes ≡ front ++ more → CanReach p vias k spots groups arrays front count
      → BeginsIntervals p k (turns_of vias spots u) (map (λ (g : List Spot). turns_of vias g u) groups) count front
  first-stand k spots [] arrays bytes front more count apart ready (last k' one bytes' w) parts
      (here k'' spots' groups' arrays' front' count' c) =
      within k (turns_of vias spots u) [] count front (first-stands spots arrays bytes [] front more count
      (apart-front spots [] apart)
      (all-in (IsReadyAt p vias arrays u) spots (λ s t. ready s (in-front s spots [] t))) w
      (append-nil bytes ∙ parts) c)
  first-stand k spots (next ∷ groups) arrays bytes front more count apart ready
      (another k' fill one next' others first after w ws) parts (here k'' spots' groups' arrays' front' count' c) =
      let all = all_of (next ∷ groups) in
      within k (turns_of vias spots u) (map (λ (g : List Spot). turns_of vias g u) (next ∷ groups)) count front
      (first-stands spots arrays first (marker fill (0xD0 + k % 8) after) front more count
      (apart-front spots all apart)
      (all-in (IsReadyAt p vias arrays u) spots (λ s t. ready s (in-front s spots all t))) w parts c)
  first-stand k spots (next ∷ groups) arrays bytes front more count apart ready
      (another k' fill one next' others first after w ws) parts
      (later k'' spots' next'' groups' arrays' front' left count' e c) =
      let all = all_of (next ∷ groups) in
      let code = 0xD0 + k % 8 in
      let now = after_blocks p u spots arrays in
      let r = interval_reached p vias spots arrays front in
      let x = bind-ok r.rest (after_interval k) left e in
      let stays = interval-stays p vias spots arrays front more x.0 x.1 in
      let whole = interval-written p vias spots arrays u first fill code (RST (k % 8)) after
      (apart-front spots all apart)
      (all-in (IsReadyAt p vias arrays u) spots (λ s t. ready s (in-front s spots all t))) (rst-marker k) w in
      let same : ◌≡◌ {A = Arrays × Outcome (Option Marker)} (r.reached, Ok (x.0.0, x.0.1 ++ more))
      (now, Ok (Some (RST (k % 8)), after))
      = sym stays ∙ ap (λ (l : List ℕ). both (interval_reached p vias spots arrays l)) (sym parts) ∙ whole in
      let rest : after ≡ left ++ more
      = sym (ap (λ (y : Option Marker × List ℕ). y.1)
      (ok-same _ _ (ap (λ (y : Arrays × Outcome (Option Marker)). y.1) same)))
      ∙ ap (λ (l : List ℕ). l ++ more) (restart-stands k x.0 left x.2).1 in
      let begun : front ≡ first ++ marker fill code left
      = append_cancel_right front (first ++ marker fill code left) more (sym parts
      ∙ ap (λ (l : List ℕ). first ++ marker fill code l) rest
      ∙ sym (append_assoc first (marker fill code left) more
      ∙ ap (λ (l : List ℕ). first ++ l) (marker-append fill code left more))) in
      let on = first-stand (suc k) next groups now after left more count' (apart-back spots all apart)
      (stays-ready p vias spots all arrays u apart ready) ws rest
      (subst (λ (a : Arrays). CanReach p vias (suc k) next groups a left count')
      (ap (λ (y : Arrays × Outcome (Option Marker)). y.0) same) c) in
      subst (λ (n : ℕ). BeginsIntervals p k (turns_of vias spots u)
      (map (λ (g : List Spot). turns_of vias g u) (next ∷ groups)) (n + count') front) (turns-length vias spots u)
      (subst (λ (l : List ℕ). BeginsIntervals p k (turns_of vias spots u)
      (map (λ (g : List Spot). turns_of vias g u) (next ∷ groups)) (length (turns_of vias spots u) + count') l)
      (sym begun)
      (beyond k fill (turns_of vias spots u) (turns_of vias next u) (map (λ (g : List Spot). turns_of vias g u) groups)
      count' first left w on))

-- The first blocks of a written scan that can be read of a beginning of its data stand whole in this.
pub first_blocks_are_written : (p : Pass) (n : ℕ) (vias : List Via) (u : Spot → Block) (spots : List Spot)
    (arrays : Arrays) (bytes front more : List ℕ) (count : ℕ) → AreApart spots
    → ((s : Spot) → IsIn s spots → IsReadyAt p vias arrays u s)
    → WritesIntervals (WritesBlocks p predictors_at_start 0) 0 (first_group n (turns_of vias spots u))
    (other_groups n (turns_of vias spots u)) bytes
    → bytes ≡ front ++ more → CanReachOf p n vias spots arrays front count
    → BeginsIntervals p 0 (first_group n (turns_of vias spots u)) (other_groups n (turns_of vias spots u)) count front
first_blocks_are_written p n vias u spots arrays bytes front more count apart ready w parts c =
    let all = all-groups n spots in
    subst (BeginsGroups p count front) (sym (groups-are vias spots u n))
    (first-stand p vias u 0 (first_group n spots) (other_groups n spots) arrays bytes front more count
    (subst AreApart (sym all) apart) (λ s t. ready s (subst (λ (l : List Spot). IsIn s l) all t))
    (groups-coded vias spots u p n bytes w) parts c)
