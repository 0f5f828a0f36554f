-- The complete rows of a written image that is cut: those above the first block that a scan lacks, or all; or none.
use Rattle.std.proofs.Common.{◌≡◌, ◌⊎◌, inl, inr, ℕ, zero, suc, ◌+◌, ◌<◌, ◌&&◌, ◌≢◌, Bool, true, false, List, [], ◌∷◌}
use Rattle.std.proofs.Common.{◌++◌, length, slice_get, Option, Some, None, Result, Ok, Err, refl, sym, ap, ◌∙◌, subst, arith}
use Rattle.std.proofs.Common.{is_some, true≢false}
use Rattle.std.specs.Prelude.{option_map, slice_index_or, unwrap_or}
use Rattle.std.specs.List.{enumerate_from, range_with_len}
use Rattle.std.proofs.lemmas.Bool.{and_parts}
use Rattle.jpeg_bits.specs.Reading.{Fault}
use Rattle.jpeg_bits.specs.Written.{marker}
use Rattle.jpeg_segments.specs.Checks.{check, gathered, needed}
use Rattle.jpeg_segments.specs.Frame.{Component, Frame}
use Rattle.jpeg_segments.specs.declared.frame.CodingProcess.{CodingProcess}
use Rattle.jpeg_segments.specs.declared.frame.CodingProcess.TheVariants.{Lossless}
use Rattle.jpeg_meaning.specs.Found.{Found, Said}
use Rattle.jpeg_meaning.specs.FoundPictures.{plane_at_end}
use Rattle.jpeg_meaning.specs.Levels.{Levels, nothing_sent}
use Rattle.jpeg_meaning.specs.Order.{Spot}
use Rattle.jpeg_meaning.specs.ScanSegments.{is_progressive}
use Rattle.jpeg_meaning.specs.Shown.{planes_by, rows_of_found, rows_of_frame}
use Rattle.jpeg_meaning.specs.WholeRows.{rows_above}
use Rattle.jpeg_meaning.specs.WrittenImages.{ClosesImage}
use Rattle.jpeg_meaning.specs.WrittenScans.{Coefficients, HasTable, IsComplete}
use Rattle.jpeg_meaning.proofs.Order.Apart.{At, all-from, at-all}
use Rattle.jpeg_meaning.proofs.Written.BroughtLevels.{Framed, PlaneSo, Shaped, is_whole}
use Rattle.jpeg_meaning.proofs.Encoded.EncodedParts.{in-range}
use Rattle.jpeg_meaning.proofs.Partial.CompletedPictures.{plane-goes, plane_of_parts}
use Rattle.jpeg_meaning.proofs.Partial.FittingFrames.{checked}
use Rattle.jpeg_meaning.proofs.Order.OwnSpots.{at-below, at-within, in-below}
use Rattle.jpeg_meaning.proofs.Written.ReadTurns.{bind-ok, gathered-more, needed-some}
use Rattle.jpeg_meaning.proofs.Written.WalkedStreams.{beside, closes}
use Rattle.jpeg_meaning.proofs.Written.WrittenFrameScans.{in-all}
use Rattle.jpeg_meaning.proofs.Written.WrittenPictures.{Progress, bring, end-decided, end-kept, some-there}
use Rattle.jpeg_evidence.specs.CutImages.{HasRows, rows_before}
use Rattle.jpeg_evidence.proofs.Cut.CutBlocks.{NoneOrAll}
use Rattle.jpeg_evidence.proofs.Cut.CutFronts.{Unmixed, all-whole}
use Rattle.jpeg_evidence.proofs.Cut.SentCuts.{complete-after}
use Rattle.jpeg_meaning.proofs.Longer.FrontNumbers.{none-is}
use Rattle.jpeg_meaning.proofs.Longer.FirstSpots.{get-after}

-- ---- lists

-- what each element gives, beside its index
abbrev Each : (ℕ × Component → Result (List ℕ) Fault) → ℕ → List Component → Type 0
Each g i cs = (j : ℕ) (c : Component) → At j cs c → (y : List ℕ) × (g (i + j, c) ≡ Ok y)

all-gathered : (g : ℕ × Component → Result (List ℕ) Fault) (i : ℕ) (cs : List Component) → Each g i cs
    → (ys : List (List ℕ)) × (gathered g (enumerate_from i cs) ≡ Ok ys)
unfolding gathered
all-gathered g i [] each = ([], refl)
all-gathered g i (c ∷ cs) each =
    let start : i + 0 ≡ i = omega arith in
    let y = each 0 c refl in
    let more = all-gathered g (i + 1) cs (λ j d t.
    let next : i + suc j ≡ (i + 1) + j = omega arith in
    subst (λ (n : ℕ). (y : List ℕ) × (g (n, d) ≡ Ok y)) next (each (suc j) d t)) in (
      y.0 ∷ more.0,
      gathered-more g (i, c) (enumerate_from (i + 1) cs) y.0 more.0
          (subst (λ (n : ℕ). g (n, c) ≡ Ok y.0) start y.1) more.1,
    )

each-gathered : (g : ℕ × Component → Result (List ℕ) Fault) (i : ℕ) (cs : List Component) (ys : List (List ℕ))
    → gathered g (enumerate_from i cs) ≡ Ok ys → Each g i cs
unfolding gathered
each-gathered g i [] ys e j c t = absurd t
each-gathered g i (d ∷ cs) ys e zero c t =
    let start : i ≡ i + 0 = omega arith in
    let first = bind-ok (g (i, d)) _ ys e in
    (first.0, subst (λ (n : ℕ). g (n, c) ≡ Ok first.0) start (ap (λ (x : Component). g (i, x)) (sym t) ∙ first.1))
each-gathered g i (d ∷ cs) ys e (suc j) c t =
    let next : (i + 1) + j ≡ i + suc j = omega arith in
    let more = bind-ok (gathered g (enumerate_from (i + 1) cs)) _ ys (bind-ok (g (i, d)) _ ys e).2 in
    subst (λ (n : ℕ). (y : List ℕ) × (g (n, c) ≡ Ok y)) next (each-gathered g (i + 1) cs more.0 more.1 j c t)

-- ---- one plane

-- a plane at the end was decided, or it is that of blocks that were kept
abbrev IsMade : Found → Frame → ℕ → Component → Type 0
IsMade found f k c =
    ((plane : List ℕ) × (slice_index_or found.planes k None ≡ Some plane))
    ⊎ (((is_progressive f.process && found.said.scanned) ≡ true) × HasTable found.said c)

plane-made : (found : Found) (f : Frame) (k : ℕ) (c : Component) (y : List ℕ)
    → plane_at_end found f (k, c) ≡ Ok y → IsMade found f k c
plane-made found f k c y e =
    go (slice_index_or found.planes k None) refl (sym (plane-goes found f (k, c)) ∙ e)
  where
    go : (o : Option (List ℕ)) → slice_index_or found.planes k None ≡ o
        → plane_of_parts found.said found.kept f (k, c) o ≡ Ok y → IsMade found f k c
    go (Some plane) h e = inl (plane, h)
    go None h e =
        let b = is_progressive f.process && found.said.scanned in
        let a = bind-ok (check b) _ y e in
        let t = bind-ok (needed (slice_index_or found.said.quantization c.factors.quantization None)) _ y a.2 in
        inr (checked b a.0 a.1, ap is_some (needed-some _ t.0 t.1))

-- ---- the picture

pub lossy-planes : (process : CodingProcess) (found : Found) (f : Frame) → process ≢ Lossless
    → planes_by process found f ≡ gathered (plane_at_end found f) (enumerate_from 0 f.components)
lossy-planes Lossless found f n = absurd (n refl)
lossy-planes process found f n = refl

none-whole : is_whole nothing_sent ≡ false
none-whole = refl

module _ (said : Said) (array : Coefficients) (levels : ℕ → Levels) (x : Progress) (u : Unmixed said levels)
    (shaped : (f : Frame) → said.frame ≡ Some f → Shaped f)
    (framed : (f : Frame) → said.frame ≡ Some f → Framed said f array levels said.scanned x.0 x.1 x.2) where
  abbrev found : Found
  found = beside bring said x

  abbrev Closes : Type 0
  Closes = ClosesImage said levels (marker 0 217 [])

  decided-whole : (f : Frame) → said.frame ≡ Some f → (k : ℕ) (c : Component) → At k f.components c
      → (plane : List ℕ) → slice_index_or found.planes k None ≡ Some plane → is_whole (levels k) ≡ true
  decided-whole f e k c t plane p = go (is_whole (levels k)) refl
    where
      go : (b : Bool) → is_whole (levels k) ≡ b → b ≡ true
      go true h = refl
      go false h = absurd (none-is plane (sym (((framed f e).marked.planes k c t).undecided h) ∙ p))

  -- where the image may end, each component has its plane
  plane-there_at : (c : Closes) (k : ℕ) (d : Component) → At k c.frame.components d
      → (y : List ℕ) × (plane_at_end found c.frame (k, d) ≡ Ok y)
  plane-there_at c k d t = go (is_whole (levels k)) refl (is_progressive c.frame.process) refl
    where
      so : PlaneSo said array (levels k) x.2 k d
      so = (framed c.frame c.is_said).marked.planes k d t

      complete : is_progressive c.frame.process ≡ false → IsComplete (levels k)
      complete q =
          in-all (λ (j : ℕ). IsComplete (levels j)) (range_with_len 0 (length c.frame.components)) k (c.ended.2 q)
          (in-below k (length c.frame.components) (at-within k c.frame.components d t))

      either : is_progressive c.frame.process ≡ false → is_whole (levels k) ≡ false → NoneOrAll (levels k) → ⊥
      either q h (inl n) = none-is 0 (ap (λ (l : Levels). l.dc) (sym n) ∙ (complete q).dc)
      either q h (inr a) = true≢false (sym all-whole ∙ sym (ap is_whole a) ∙ h)

      go : (b : Bool) → is_whole (levels k) ≡ b → (p : Bool) → is_progressive c.frame.process ≡ p
          → (y : List ℕ) × (plane_at_end found c.frame (k, d) ≡ Ok y)
      go true h p q = let o = so.decided h in (_, end-decided found c.frame k d _ o.plane)
      go false h true q =
          let table = some-there _ (at-all (HasTable said) k c.frame.components d c.ended.1 t) in
          (_, end-kept found c.frame k d table.0 (so.undecided h) q c.ended.0 table.1)
      go false h false q = absurd (either q h (u.whole c.frame c.is_said q k))

  -- Where each has its plane, the image may end.
  module _ (f : Frame) (e : said.frame ≡ Some f) (planes : List (List ℕ))
      (are : gathered (plane_at_end found f) (enumerate_from 0 f.components) ≡ Ok planes) where
    made : (k : ℕ) (c : Component) → At k f.components c → IsMade found f k c
    made k c t =
        let start : 0 + k ≡ k = omega arith in
        let y = each-gathered (plane_at_end found f) 0 f.components planes are k c t in
        subst (λ (n : ℕ). IsMade found f n c) start (plane-made found f (0 + k) c y.0 y.1)

    is_scanned : said.scanned ≡ true
    is_scanned = go said.scanned refl
      where
        first : (c : Component) × At 0 f.components c
        first = at-below 0 f.components (u.some f e)

        go : (b : Bool) → said.scanned ≡ b → b ≡ true
        go true h = refl
        go false h = by (made 0 first.0 first.1)
          where
            by : IsMade found f 0 first.0 → false ≡ true
            by (inl p) =
                sym none-whole ∙ sym (ap is_whole (u.unsent h 0)) ∙ decided-whole f e 0 first.0 first.1 p.0 p.1
            by (inr p) = sym h ∙ (and_parts (is_progressive f.process) said.scanned p.0).1

    has_table : (k : ℕ) (c : Component) → At k f.components c → HasTable said c
    has_table k c t = by (made k c t)
      where
        by : IsMade found f k c → HasTable said c
        by (inl p) = ap is_some (((framed f e).marked.planes k c t).decided (decided-whole f e k c t p.0 p.1)).is_table
        by (inr p) = p.1

    complete : is_progressive f.process ≡ false → (k : ℕ) → k < length f.components → IsComplete (levels k)
    complete q k lt = by (made k c.0 c.1) (u.whole f e q k)
      where
        c : (c : Component) × At k f.components c
        c = at-below k f.components lt

        by : IsMade found f k c.0 → NoneOrAll (levels k) → IsComplete (levels k)
        by (inr p) either =
            absurd (true≢false (sym (and_parts (is_progressive f.process) said.scanned p.0).0 ∙ q))
        by (inl p) (inr a) = subst IsComplete (sym a) complete-after
        by (inl p) (inl n) =
            absurd (true≢false (sym (decided-whole f e k c.0 c.1 p.0 p.1) ∙ ap is_whole n ∙ none-whole))

    closed : Closes
    closed =
        closes said f 0 e (
          is_scanned,
          all-from (HasTable said) f.components has_table,
          λ q. in-range (λ (k : ℕ). IsComplete (levels k)) 0 (length f.components)
              (λ k le lt. complete q k (omega arith)),
        )

  abbrev rows_with : Option ℕ → Frame → Result (List (List ℕ)) Fault → ℕ
  rows_with rows f o = elim o as (λ _. ℕ) [ Ok planes ↦ unwrap_or rows f.output_height | Err fault ↦ 0 ]

  -- So many rows are complete by the rows above the block at which a scan stops, if one does.
  pub has-rows : (rows : Option ℕ) (above : Frame → ℕ)
      → ((f : Frame) → said.frame ≡ Some f → unwrap_or rows f.output_height ≡ above f)
      → HasRows said levels above (rows_of_found rows found)
  has-rows rows above are = record {
    closed = λ c.
        let planes = all-gathered (plane_at_end found c.frame) 0 c.frame.components (λ k d t.
        let start : k ≡ 0 + k = omega arith in
        subst (λ (n : ℕ). (y : List ℕ) × (plane_at_end found c.frame (n, d) ≡ Ok y)) start (plane-there_at c k d t)) in
        ap (λ (o : Option Frame). unwrap_or (option_map (rows_of_frame rows found) o) 0) c.is_said
        ∙ ap (rows_with rows c.frame)
        (lossy-planes c.frame.process found c.frame (shaped c.frame c.is_said).lossy ∙ planes.1)
        ∙ are c.frame c.is_said;
    lacking = λ n. by n said.frame refl;
  }
    where
      none : (Closes → ⊥) → (f : Frame) → said.frame ≡ Some f → (o : Result (List (List ℕ)) Fault)
          → planes_by f.process found f ≡ o → rows_with rows f o ≡ 0
      none n f e (Err g) h = refl
      none n f e (Ok planes) h =
          absurd (n (closed f e planes (sym (lossy-planes f.process found f (shaped f e).lossy) ∙ h)))

      by : (Closes → ⊥) → (o : Option Frame) → said.frame ≡ o
          → unwrap_or (option_map (rows_of_frame rows found) o) 0 ≡ 0
      by n None e = refl
      by n (Some f) e = none n f e (planes_by f.process found f) refl

-- Above the first block that is lacking are so many rows.
pub rows-first : (f : Frame) (components : List Component) (spots done others : List Spot) (rows : Option ℕ)
    → spots ≡ done ++ others → rows ≡ option_map (rows_above f components) (slice_get spots (length done))
    → unwrap_or rows f.output_height ≡ rows_before f components others
rows-first f components spots done others rows parts are =
    let start : length done ≡ length done + 0 = omega arith in
    ap (λ (o : Option ℕ). unwrap_or o f.output_height) are
    ∙ ap (λ (o : Option Spot). unwrap_or (option_map (rows_above f components) o) f.output_height)
    (ap (λ (l : List Spot). slice_get l (length done)) parts ∙ ap (slice_get (done ++ others)) start
    ∙ get-after done others 0)
    ∙ by others
  where
    by : (others : List Spot) → unwrap_or (option_map (rows_above f components) (slice_get others 0)) f.output_height
        ≡ rows_before f components others
    by [] = refl
    by (s ∷ others) = refl
