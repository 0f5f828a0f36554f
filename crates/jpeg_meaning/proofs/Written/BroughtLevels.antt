-- A written stream is read as the blocks of its array, cut at the levels that were sent.
use Rattle.std.proofs.Common.{rules, ◌≡◌, ℕ, zero, suc, Bool, true, false, List, [], ◌∷◌, ◌++◌, map, take, drop}
use Rattle.std.proofs.Common.{replicate, length, Option, Some, None, refl, sym, ap, ◌∙◌, arith, ◌==◌, ◌≤◌, length-take}
use Rattle.std.proofs.Common.{length-drop, ◌≢◌, ◌⊎◌, inl, inr, ◌-◌, ◌<◌, get_or, set, slice_index_or, length-set}
use Rattle.std.proofs.Common.{get_or-set_same, get_or-set_other, ◌*◌, Ok, subst, true≢false, length-append}
use Rattle.std.proofs.lemmas.Grind.{common_steps}
use Rattle.std.proofs.lemmas.Bool.{eqb-true, eq-eqb, not-true, or_cases}
use Rattle.jpeg_bits.proofs.WrittenIntervals.{not-equal}
use Rattle.jpeg_meaning.proofs.Written.CutLevels.{around-band}
use lib.ListN.{length-map}
use Rattle.std.specs.List.{AllByRecursion, list_all}
use Rattle.jpeg_bits.specs.Passes.{Pass, band_of, with_band, before_band, band_size, Block, whole_pass, zero_block}
use Rattle.jpeg_meaning.specs.Levels.{Levels, IsLegal, sent_after, nothing_sent, Is8Bit}
use Rattle.std.proofs.lemmas.List.{take-map, drop-map, get_or-map, map-append, length-replicate}
use Rattle.jpeg_meaning.specs.ScanSegments.{finished_by, with_plane, decided, Coding, put_arrays, with_arrays}
use Rattle.jpeg_meaning.specs.ScanSegments.{with_blocks, arrays_before, pass_of, is_progressive, after_scan}
use Rattle.jpeg_meaning.specs.ScanSegments.{blocks_after, codings_of, scan_arrays}
use Rattle.jpeg_meaning.specs.Found.{none_finished, Found, Said}
use Rattle.std.proofs.lemmas.Bool.Decides.{leb_tells}
use Rattle.std.proofs.lemmas.List.Folds.{list_all_at}
use Rattle.jpeg_segments.specs.Frame.{Frame, Component, Factors, IsInRange, frame_of}
use Rattle.jpeg_meaning.specs.Order.{grid_of}
use Rattle.jpeg_meaning.specs.Scans.{Arrays, zero_arrays}
use Rattle.jpeg_meaning.specs.Rasters.{plane_by}
use Rattle.jpeg_meaning.specs.WrittenScans.{Coefficients, levels_of_one, levels_after, IsLegalScan, WritesScan}
use Rattle.jpeg_meaning.proofs.Order.OwnSpots.{IsAbsent, AreApart, At, at-below, at-within, at-get, Fits}
use Rattle.jpeg_meaning.proofs.Written.WrittenFrameScans.{HoldsOwn, HasGood, SlotReady, SpotsSuit, dc_alone, none_read}
use Rattle.jpeg_meaning.proofs.Written.WrittenFrameScans.{one_component, ReadsScan, scan-is_read, cut-nothing}
use Rattle.jpeg_meaning.proofs.Order.Apart.{all-from, at-one, at-all, get-at}
use Rattle.jpeg_bits.specs.Codes.{IsTable}
use Rattle.jpeg_bits.proofs.Tables.{good-table}
use Rattle.jpeg_bits.specs.declared.marker.Marker.{Marker}
use Rattle.jpeg_segments.specs.declared.frame.CodingProcess.TheVariants.{Lossless}
use Rattle.jpeg_segments.specs.ScanHeader.{Scan, is_progressive_band}
use Rattle.jpeg_segments.specs.Scales.{frame_at}
use Rattle.jpeg_bits.specs.Written.{marker, IsMarker}
use Rattle.jpeg_meaning.proofs.Written.CodingsInForce.{codings-found}
use Rattle.jpeg_meaning.proofs.Written.ReadTurns.{codings-each, codings-indices}

-- ---- finished indices

-- The indices that scans have finished, of any stream.
pub record Finished : Type 0 where
  pub dc : Bool
  pub acs : List Bool

-- A scan with al = 0 finishes its band.
abbrev pub finish : Pass → Finished → Finished
finish p f = elim (p.al == 0) as (λ _. Finished) [
  | true ↦ record {
    dc = elim (p.ss == 0) as (λ _. Bool) [ true ↦ true | false ↦ f.dc ];
    acs = with_band p f.acs (replicate (length (band_of p f.acs)) true);
  }
  | false ↦ f
]

abbrev pub is_level_0 : Option ℕ → Bool
is_level_0 None = false
is_level_0 (Some zero) = true
is_level_0 (Some (suc a)) = false

-- The indices at level 0.
abbrev pub at_level_0 : Levels → Finished
at_level_0 l = record { dc = is_level_0 l.dc; acs = map is_level_0 l.acs }

-- ---- laws

pub map-replicate : (n : ℕ) (a : Option ℕ) → map is_level_0 (replicate n a) ≡ replicate n (is_level_0 a)
map-replicate zero a = refl
map-replicate (suc n) a = ap (λ (l : List Bool). is_level_0 a ∷ l) (map-replicate n a)

pub map-band : (p : Pass) (ls : List (Option ℕ)) → map is_level_0 (band_of p ls) ≡ band_of p (map is_level_0 ls)
map-band p ls = search (rules, take-map, drop-map)

not-done : (a : Option ℕ) → is_level_0 a ≡ false → (ls : List (Option ℕ)) → AllByRecursion (λ x. x ≡ a) ls
    → map is_level_0 ls ≡ replicate (length ls) false
not-done a h [] all = refl
not-done a h (l ∷ ls) all = search (rules, not-done a h ls all.1)

pub finish-no : (p : Pass) (f : Finished) (a : ℕ) → p.al ≡ suc a → finish p f ≡ f
finish-no p f a e = rw (not-equal p.al 0 (λ g. absurd (omega arith)), finish) refl

levels-acs : (p : Pass) (l : Levels) → map is_level_0 (sent_after p l).acs
    ≡ with_band p (map is_level_0 l.acs)
    (replicate (length (band_of p (map is_level_0 l.acs))) (is_level_0 (Some p.al)))
levels-acs p l =
    grind (arith, common_steps, map-band, map-append, take-map, drop-map, map-replicate)

-- the band of a legal scan isn't finished
band-open : (p : Pass) (l : Levels) → IsLegal p l → (f : Bool) → p.is_first ≡ f
    → band_of p (map is_level_0 l.acs) ≡ replicate (length (band_of p (map is_level_0 l.acs))) false
band-open p l legal f k =
    let n = length (band_of p l.acs) in
    let size = sym (ap length (sym (map-band p l.acs)) ∙ length-map (band_of p l.acs) is_level_0) in
    sym (map-band p l.acs) ∙ open_band f k ∙ ap (λ (j : ℕ). replicate j false) size
  where
    open_band : (f : Bool) → p.is_first ≡ f
        → map is_level_0 (band_of p l.acs) ≡ replicate (length (band_of p l.acs)) false
    open_band true k = not-done None refl (band_of p l.acs) (legal.acs_unsent k)
    open_band false k = not-done (Some (suc p.al)) refl (band_of p l.acs) (legal.acs_sent k)

pub dc-open : (p : Pass) (l : Levels) → IsLegal p l → p.ss ≡ 0 → (f : Bool) → p.is_first ≡ f → is_level_0 l.dc ≡ false
dc-open p l legal e true k = ap is_level_0 (legal.dc_unsent e k)
dc-open p l legal e false k = ap is_level_0 (legal.dc_sent e k)

pub finish-legal : (p : Pass) (l : Levels) → IsLegal p l → finish p (at_level_0 l) ≡ at_level_0 (sent_after p l)
finish-legal p l legal = search (rules, eq-eqb, levels-acs, finish-no, band-open, around-band, dc-open, eqb-true)

-- ---- the marks of finished indices are the levels that are 0

-- the marks of a block at these levels
abbrev pub marks_of : Levels → List Bool
marks_of l = is_level_0 l.dc ∷ map is_level_0 l.acs

-- the band of a pass is within the block, and is not empty
pub record IsBand (p : Pass) : Type 0 where
  pub rising : p.ss ≤ p.se
  pub within : p.se ≤ 63

abbrev pub marks_listed : Finished → List Bool
marks_listed f = f.dc ∷ f.acs

pub finished-listed : (p : Pass) (f : Finished) → IsBand p → length f.acs ≡ 63
    → finished_by p (marks_listed f) ≡ marks_listed (finish p f)
unfolding finished_by
finished-listed p f band h = grind (arith, length-take, length-drop)

pub marks-after : (p : Pass) (l : Levels) → IsLegal p l → IsBand p → length l.acs ≡ 63
    → finished_by p (marks_of l) ≡ marks_of (sent_after p l)
marks-after p l legal band h =
    finished-listed p (at_level_0 l) band (length-map l.acs is_level_0 ∙ h) ∙ ap marks_listed (finish-legal p l legal)

pub marks-start : none_finished ≡ marks_of nothing_sent
marks-start = refl

-- ---- what a decoder holds after the scans of a written stream

-- what was said, with what scans have brought
abbrev pub reading : Said → Bool → Arrays → List (List Bool) → List (Option (List ℕ)) → Found
reading w s h fi pl = record {
  said = record w { scanned = s };
  kept = h;
  finished = fi;
  planes = pl;
  samples = replicate 4 None;
}

abbrev pub is_whole : Levels → Bool
is_whole l = list_all (λ mark. mark) (marks_of l)

-- the plane of a component is decided, of its own blocks
pub record HasPlane (w : Said) (array : Coefficients) (l : Levels) (pl : List (Option (List ℕ))) (k : ℕ)
    (c : Component) : Type 0 where
  pub table : List ℕ
  pub is_table : slice_index_or w.quantization c.factors.quantization None ≡ Some table
  pub blocks : List Block
  pub holds : HoldsOwn (grid_of c) (array k) l blocks
  pub plane : slice_index_or pl k None ≡ Some (plane_by c table blocks)

pub record PlaneSo (w : Said) (array : Coefficients) (l : Levels) (pl : List (Option (List ℕ))) (k : ℕ)
    (c : Component) : Type 0 where
  pub decided : is_whole l ≡ true → HasPlane w array l pl k c
  pub undecided : is_whole l ≡ false → slice_index_or pl k None ≡ None

-- the marks and the planes are those of the levels
pub record Marked (w : Said) (frame : Frame) (array : Coefficients) (levels : ℕ → Levels) (fi : List (List Bool))
    (pl : List (Option (List ℕ))) : Type 0 where
  pub fi_count : length fi ≡ 4
  pub pl_count : length pl ≡ 4
  pub marks : (k : ℕ) (c : Component) → At k frame.components c
      → slice_index_or fi k none_finished ≡ marks_of (levels k)
  pub planes : (k : ℕ) (c : Component) → At k frame.components c → PlaneSo w array (levels k) pl k c

-- ---- numbers and lists

pub eqb_cases : (a b : ℕ) → (a ≡ b) ⊎ (a ≢ b)
eqb_cases a b = search (rules, leb_tells)

pub first-of_band : {A : Type 0} (Q : A → Type 0) (d : A) (b n : ℕ) (xs : List A)
    → AllByRecursion Q (take (suc n) (drop b xs)) → b < length xs → Q (get_or xs b d)
first-of_band Q d (suc b) n (x ∷ xs) h lt = first-of_band Q d b n xs h (omega arith)
first-of_band Q d b n xs h lt = search rules

-- ---- levels

pub one-same : (p : Pass) (index : ℕ) (levels : ℕ → Levels)
    → levels_of_one p index levels index ≡ sent_after p (levels index)
one-same p index levels = rw (eq-eqb index index refl, levels_of_one) refl

pub one-other : (p : Pass) (index k : ℕ) (levels : ℕ → Levels) → k ≢ index → levels_of_one p index
    levels k ≡ levels k
one-other p index k levels n = rw (not-equal k index n, levels_of_one) refl

-- a legal scan finds something that isn't finished
pub legal-open : (p : Pass) (l : Levels) → IsLegal p l → IsBand p → length l.acs ≡ 63 → is_whole l ≡ false
legal-open p l legal band h = go p.ss refl
  where
    first_at : (b : ℕ) → p.ss ≡ suc b → (v : Option ℕ) → is_level_0 v ≡ false
        → AllByRecursion (λ x. x ≡ v) (band_of p l.acs) → is_level_0 (get_or l.acs b None) ≡ false
    first_at b e v unfinished all =
        let n : band_size p ≡ suc (p.se - p.ss) = let r = band.rising in omega arith in
        let s : before_band p ≡ b = omega arith in
        let here : AllByRecursion (λ x. x ≡ v) (take (suc (p.se - p.ss)) (drop b l.acs)) = search rules in
        ap is_level_0 (first-of_band (λ x. x ≡ v) None b (p.se - p.ss) l.acs here
        (let r = band.rising in let t = band.within in omega arith)) ∙ unfinished

    first_open : (b : ℕ) → p.ss ≡ suc b → (f : Bool) → p.is_first ≡ f → is_level_0 (get_or l.acs b None) ≡ false
    first_open b e true f = first_at b e None refl (legal.acs_unsent f)
    first_open b e false f = first_at b e (Some (suc p.al)) refl (legal.acs_sent f)

    go : (n : ℕ) → p.ss ≡ n → is_whole l ≡ false
    go zero e = search (rules, list_all_at, dc-open)
    go (suc b) e =
        let within : b < length l.acs = let r = band.rising in let t = band.within in omega arith in
        let count = length-map l.acs is_level_0 in
        list_all_at (λ (mark : Bool). mark) (marks_of l) (suc b) true (omega arith)
        (get_or-map is_level_0 l.acs b None true within ∙ first_open b e p.is_first refl)

-- ---- one component of a scan

-- a component of the scan, and its blocks after it
pub record CodingDone (w : Said) (frame : Frame) (p : Pass) (array : Coefficients) (levels : ℕ → Levels) (k : Coding)
    (blocks : List Block) : Type 0 where
  pub at : At k.index frame.components k.component
  pub table : slice_index_or w.quantization k.component.factors.quantization None ≡ Some k.quantization
  pub legal : IsLegal p (levels k.index)
  pub sized : length (levels k.index).acs ≡ 63
  pub holds : HoldsOwn (grid_of k.component) (array k.index) (sent_after p (levels k.index)) blocks

plane-yes : (k : Coding) (blocks : List Block) (marks : List Bool) (pl : List (Option (List ℕ)))
    → list_all (λ mark. mark) marks ≡ true → with_plane k blocks marks pl ≡ set pl k.index
    (decided (slice_index_or pl k.index None) (plane_by k.component k.quantization blocks))
unfolding with_plane
plane-yes k blocks marks pl e = rw (e, with_plane) refl

plane-no : (k : Coding) (blocks : List Block) (marks : List Bool) (pl : List (Option (List ℕ)))
    → list_all (λ mark. mark) marks ≡ false → with_plane k blocks marks pl ≡ pl
unfolding with_plane
plane-no k blocks marks pl e = rw (e, with_plane) refl

plane-count : (k : Coding) (blocks : List Block) (marks : List Bool) (pl : List (Option (List ℕ)))
    → length (with_plane k blocks marks pl) ≡ length pl
plane-count k blocks marks pl = search (rules, plane-yes, length-set, plane-no)

plane-other : (k : Coding) (blocks : List Block) (marks : List Bool) (pl : List (Option (List ℕ)))
    (j : ℕ) → j ≢ k.index
    → slice_index_or (with_plane k blocks marks pl) j None ≡ slice_index_or pl j None
plane-other k blocks marks pl j n = search (rules, plane-yes, get_or-set_other, plane-no)

module _ (w : Said) (frame : Frame) (p : Pass) (array : Coefficients) (levels : ℕ → Levels) (k : Coding)
    (blocks : List Block) (fi : List (List Bool)) (pl : List (Option (List ℕ)))
    (few : length frame.components ≤ 4) (band : IsBand p) (done : CodingDone w frame p array levels k blocks)
    (before : Marked w frame array levels fi pl) where
  abbrev marks : List Bool
  marks = finished_by p (slice_index_or fi k.index none_finished)

  abbrev next : Levels
  next = sent_after p (levels k.index)

  marks-are : marks ≡ marks_of next
  marks-are = grind (arith, common_steps, marks-after)

  was-open : is_whole (levels k.index) ≡ false
  was-open = legal-open p (levels k.index) done.legal band done.sized

  was-none : slice_index_or pl k.index None ≡ None
  was-none = (before.planes k.index k.component done.at).undecided was-open

  index-in : k.index < 4
  index-in = let h = at-within k.index frame.components k.component done.at in omega arith

  plane-own : PlaneSo w array next (with_plane k blocks marks pl) k.index k.component
  plane-own = search (rules, plane-yes, marks-are, get_or-set_same, index-in, was-none, plane-no)

  plane-moved : (j : ℕ) (c : Component) → At j frame.components c → (j ≡ k.index) ⊎ (j ≢ k.index)
      → PlaneSo w array (levels_of_one p k.index levels j) (with_plane k blocks marks pl) j c
  plane-moved j c h (inl e) = grind (arith, common_steps, at-one, one-same, plane-own)
  plane-moved j c h (inr n) = grind (arith, common_steps, plane-other, one-other)

  marks-moved : (j : ℕ) (c : Component) → At j frame.components c → (j ≡ k.index) ⊎ (j ≢ k.index)
      → slice_index_or (set fi k.index marks) j none_finished ≡ marks_of (levels_of_one p k.index
      levels j)
  marks-moved j c h (inl e) = search (rules, get_or-set_same, index-in, marks-are, one-same)
  marks-moved j c h (inr n) = grind (arith, common_steps, get_or-set_other, one-other)

  pub marked-one : Marked w frame array (levels_of_one p k.index levels) (set fi k.index marks)
      (with_plane k blocks marks pl)
  marked-one = search (rules, length-set, plane-count, marks-moved, eqb_cases, plane-moved)

-- ---- all components of a scan

abbrev pub AllDone : Said → Frame → Pass → Coefficients → (ℕ → Levels) → List Coding → Arrays → Type 0
AllDone w frame p array levels [] [] = Unit {0}
AllDone w frame p array levels [] (b ∷ arrays) = ⊥
AllDone w frame p array levels (k ∷ codings) [] = ⊥
AllDone w frame p array levels (k ∷ codings) (b ∷ arrays) = CodingDone w frame p array levels k b
    × AllDone w frame p array levels codings arrays

abbrev pub indices_of : List Coding → List ℕ
indices_of codings = map (λ c. c.index) codings

-- the others are as they were
pub done-others : (w : Said) (frame : Frame) (p : Pass) (array : Coefficients) (levels : ℕ → Levels)
    (index : ℕ) (codings : List Coding) (arrays : Arrays) → IsAbsent index (indices_of codings)
    → AllDone w frame p array levels codings arrays → AllDone w frame p array
    (levels_of_one p index levels) codings arrays
done-others w frame p array levels index (k ∷ codings) (b ∷ arrays) apart h =
    search (rules, one-other, done-others w frame p array levels index codings arrays apart.1 h.1)
done-others w frame p array levels index codings arrays apart h = search rules

-- What scans have brought, after the components of one.
pub record Brought (w : Said) (frame : Frame) (p : Pass) (array : Coefficients) (levels : ℕ → Levels)
    (codings : List Coding) (arrays : Arrays) (s : Bool) (h : Arrays)
    (fi : List (List Bool)) (pl : List (Option (List ℕ))) : Type 0 where
  pub finished : List (List Bool)
  pub planes : List (Option (List ℕ))
  pub is : with_arrays p codings arrays (reading w s h fi pl) ≡ reading w s h finished planes
  pub marked : Marked w frame array (levels_after p (indices_of codings) levels) finished planes

pub brings : (w : Said) (frame : Frame) (p : Pass) (array : Coefficients) (levels : ℕ → Levels)
    (codings : List Coding) (arrays : Arrays) (s : Bool) (h : Arrays) (fi : List (List Bool))
    (pl : List (Option (List ℕ))) → length frame.components ≤ 4 → IsBand p
    → AreApart (indices_of codings) → AllDone w frame p array levels codings arrays
    → Marked w frame array levels fi pl → Brought w frame p array levels codings arrays s h fi pl
unfolding levels_after with_arrays with_blocks
brings w frame p array levels [] [] s h fi pl few band apart done before = search rules
brings w frame p array levels (k ∷ codings) (b ∷ arrays) s h fi pl few band apart done before =
    let marks = finished_by p (slice_index_or fi k.index none_finished) in
    let more = brings w frame p array (levels_of_one p k.index levels) codings arrays s h (set fi
    k.index marks)
    (with_plane k b marks pl) few band apart.1
    (done-others w frame p array levels k.index codings arrays apart.0 done.1)
    (marked-one w frame p array levels k b fi pl few band done.0 before) in
    search rules
brings w frame p array levels codings arrays s h fi pl few band apart done before = absurd done

-- ---- kept between scans

pub record AllKept (frame : Frame) (array : Coefficients) (levels : ℕ → Levels) (arrays : Arrays) :
    Type 0 where
  pub count : length arrays ≡ length frame.components
  pub each : (k : ℕ) (c : Component) → At k frame.components c
      → HoldsOwn (grid_of c) (array k) (levels k) (get_or arrays k [])

pub blocks-after : (w : Said) (frame : Frame) (p : Pass) (array : Coefficients)
    (levels : ℕ → Levels) (codings : List Coding) (arrays kept : Arrays)
    → AreApart (indices_of codings) → AllDone w frame p array levels codings arrays
    → AllKept frame array levels kept → AllKept frame array
    (levels_after p (indices_of codings) levels) (put_arrays codings arrays kept)
unfolding levels_after put_arrays
blocks-after w frame p array levels (k ∷ codings) (b ∷ arrays) kept apart done before =
    blocks-after w frame p array (levels_of_one p k.index levels) codings arrays (set kept k.index
    b) apart.1
    (done-others w frame p array levels k.index codings arrays apart.0 done.1)
    (search (rules, length-set, eqb_cases, at-one, at-within, one-same, get_or-set_same, one-other, get_or-set_other))
blocks-after w frame p array levels codings arrays kept apart n before = search rules

-- ---- what a scan header says

-- what the process says of a scan
pub data PassSo (f : Frame) (s : Scan) : Type 0 where
  sequential : is_progressive f.process ≡ false → pass_of s ≡ whole_pass → PassSo f s
  progressive : is_progressive f.process ≡ true → (s.first ≡ 0 → s.after - 1 ≡ 0)
      → (s.first ≡ 0) ⊎ (length s.components ≡ 1) → s.first < s.after → s.after ≤ 64 → PassSo f s

-- what a scan header says
pub record ScanFacts (f : Frame) (s : Scan) : Type 0 where
  pub some : 1 ≤ length s.components
  pub dc_length : length s.dc_destinations ≡ length s.components
  pub ac_length : length s.ac_destinations ≡ length s.components
  pub apart : AreApart s.components
  pub so : PassSo f s

-- ---- the frame

-- a frame that is made of factors, at a scale
pub record Made (f : Frame) : Type 0 where
  pub number : ℕ
  pub precision : ℕ
  pub width : ℕ
  pub height : ℕ
  pub factors : List Factors
  pub in_range : AllByRecursion IsInRange factors
  pub some_width : 0 < width
  pub some_height : 0 < height
  pub scale : ℕ
  pub some_scale : 0 < scale
  pub is : f ≡ frame_at scale (frame_of number precision width height factors)

pub record Shaped (f : Frame) : Type 0 where
  pub made : Made f
  pub few : length f.components ≤ 4
  pub fits : (k : ℕ) (c : Component) → At k f.components c → Fits f c
  pub lossy : f.process ≢ Lossless

-- blocks that are kept, finished indices and decided planes
abbrev pub Progress : Type 0
Progress = Arrays × List (List Bool) × List (Option (List ℕ))

-- what is kept, finished and decided after some scans
pub record Framed (w : Said) (f : Frame) (array : Coefficients) (levels : ℕ → Levels) (sc : Bool) (h : Arrays)
    (fi : List (List Bool)) (pl : List (Option (List ℕ))) : Type 0 where
  pub marked : Marked w f array levels fi pl
  pub sized : (k : ℕ) → length (levels k).acs ≡ 63
  pub kept : is_progressive f.process ≡ true → AllKept f array levels (arrays_before (reading w sc
      h fi pl) f)
  pub fresh : is_progressive f.process ≡ false → (k : ℕ) → (levels k).dc ≡ None → levels k ≡ nothing_sent

pub get-same : {A : Type 0} (x : A) (n k : ℕ) → get_or (replicate n x) k x ≡ x
get-same x (suc n) (suc k) = get-same x n k
get-same x n k = refl

get-replicate : (n i : ℕ) → get_or (replicate n zero_block) i zero_block ≡ zero_block
get-replicate n i = get-same zero_block n i

pub zeros-everywhere : (components : List Component) (nth index : ℕ)
    → get_or (get_or (zero_arrays components) nth []) index zero_block ≡ zero_block
unfolding zero_arrays
zeros-everywhere (c ∷ more) (suc nth) index = zeros-everywhere more nth index
zeros-everywhere components nth index = search (rules, get-replicate)

pub zero-at : (components : List Component) (k : ℕ) (c : Component) → At k components c
    → get_or (zero_arrays components) k [] ≡ replicate (c.blocks_high * c.blocks_wide) zero_block
unfolding zero_arrays
zero-at components k c h = search (rules, at-get)

pub zero-holds : (array : ℕ → ℕ → Block) (c : Component) → ((row column : ℕ) → length (array row column).acs ≡ 63)
    → HoldsOwn (grid_of c) array nothing_sent (replicate (c.blocks_high * c.blocks_wide) zero_block)
zero-holds array c counts = search (rules, length-replicate, get-replicate, cut-nothing)

-- before the first scan
pub framed-start : (w : Said) (f : Frame) (array : Coefficients) (h : Arrays) (fi : List (List Bool))
    (pl : List (Option (List ℕ))) → ((nth row column : ℕ) → Is8Bit (array nth row column))
    → fi ≡ replicate 4 none_finished → pl ≡ replicate 4 None → Framed w f array (λ k. nothing_sent) false h fi pl
unfolding arrays_before zero_arrays
framed-start w f array h fi pl range e g = record {
  marked = grind (arith, marks-start);
  sized = λ k. refl;
  kept = λ d. subst (AllKept f array (λ k. nothing_sent)) (sym (search rules))
      (record {
        count = length-map f.components _;
        each = λ k c t. rw (sym (zero-at f.components k c t)) at
            (zero-holds (array k) c (λ row column. (range k row column).count));
      });
  fresh = λ d k n. refl;
}

-- ---- levels

pub after-length : (p : Pass) (indices : List ℕ) (levels : ℕ → Levels)
    → ((j : ℕ) → length (levels j).acs ≡ 63) → (k : ℕ) → length (levels_after p indices levels k).acs ≡ 63
unfolding levels_after
after-length p [] levels h k = h k
after-length p (q ∷ indices) levels h k = after-length p indices (levels_of_one p q levels)
    (λ j. search (rules, length-take, length-drop, length-replicate, length-append)) k

some-none : (a : ℕ) → ◌≡◌ {A = Option ℕ} (Some a) None → ⊥
some-none a e = cc

pub after-fresh : (p : Pass) (indices : List ℕ) (levels : ℕ → Levels) → p ≡ whole_pass
    → ((j : ℕ) → (levels j).dc ≡ None → levels j ≡ nothing_sent) → (k : ℕ)
    → (levels_after p indices levels k).dc ≡ None → levels_after p indices levels k ≡ nothing_sent
unfolding levels_after
after-fresh p [] levels e h k n = h k n
after-fresh p (q ∷ indices) levels e h k n =
    search (rules, some-none, after-fresh p indices (levels_of_one p q levels) e)

-- ---- passes

pub progressive-pass : (count first last high low : ℕ) → is_progressive_band count first last high low ≡ true
    → (first ≡ 0 → last ≡ 0) × ((first ≡ 0) ⊎ (count ≡ 1))
progressive-pass count first last high low e = grind (arith, common_steps, or_cases, eq-eqb, not-true, eqb-true)

pub band-so : (f : Frame) (s : Scan) → PassSo f s → IsBand (pass_of s)
unfolding pass_of
band-so f s (sequential e p) = subst IsBand (sym p) (record { rising = omega arith; within = omega arith })
band-so f s (progressive e d a lt le) = record { rising = omega arith; within = omega arith }

-- ---- a scan

pub single : {A : Type 0} (xs : List A) → length xs ≡ 1 → (x : A) × (xs ≡ x ∷ [])
single [] h = absurd (omega arith)
single (x ∷ []) h = (x, refl)
single (x ∷ y ∷ xs) h = absurd (omega arith)

pub all-good : (codings : List Coding) → AllByRecursion (λ c. IsTable c.dc × IsTable c.ac) codings
    → AllByRecursion HasGood codings
all-good [] h = tt
all-good (k ∷ codings) h = search (rules, good-table, all-good codings h.1)

pub sequential-arrays : (found : Found) (f : Frame) → is_progressive f.process ≡ false
    → arrays_before found f ≡ zero_arrays f.components
unfolding arrays_before
sequential-arrays found f e = rw (e, arrays_before) refl

pub kept-arrays : (w : Said) (h : Arrays) (fi : List (List Bool)) (pl : List (Option (List ℕ)))
    (f : Frame) → is_progressive f.process ≡ true → arrays_before (reading w true h fi pl) f ≡ h
unfolding arrays_before
kept-arrays w h fi pl f e = rw (e, arrays_before) refl

blocks-after_is : (found : Found) (f : Frame) (codings : List Coding) (arrays : Arrays)
    → is_progressive f.process ≡ true
    → blocks_after found f codings arrays ≡ put_arrays codings arrays (arrays_before found f)
blocks-after_is found f codings arrays e = rw (e, blocks_after) refl

-- a coding is of a component of the frame, with its quantization table
pub record CodingFacts (w : Said) (frame : Frame) (k : Coding) : Type 0 where
  pub at : At k.index frame.components k.component
  pub table : slice_index_or w.quantization k.component.factors.quantization None ≡ Some k.quantization

pub all-done : (w : Said) (f : Frame) (p : Pass) (array : Coefficients) (levels : ℕ → Levels)
    (codings : List Coding) (arrays : Arrays) → length arrays ≡ length codings
    → ((k : Coding) (j : ℕ) → At j codings k → HoldsOwn (grid_of k.component) (array k.index)
    (sent_after p (levels k.index)) (get_or arrays j [])) → AllByRecursion (CodingFacts w f) codings
    → AllByRecursion (λ c. IsLegal p (levels c.index)) codings
    → ((k : ℕ) → length (levels k).acs ≡ 63) → AllDone w f p array levels codings arrays
all-done w f p array levels [] [] n holds facts legal sized = tt
all-done w f p array levels (k ∷ codings) (b ∷ arrays) n holds facts legal sized = (
  record {
    at = facts.0.at;
    table = facts.0.table;
    legal = legal.0;
    sized = sized k.index;
    holds = holds k 0 refl;
  },
  all-done w f p array levels codings arrays (omega arith) (λ c j t. holds c (suc j) t) facts.1 legal.1 sized,
)
all-done w f p array levels codings arrays n holds facts legal sized = absurd (omega arith)

pub scan-apart : (w : Said) (f : Frame) (s : Scan) (codings : List Coding) → ScanFacts f s
    → codings_of w f s ≡ Ok codings → AreApart (indices_of codings)
scan-apart w f s codings says found =
    subst AreApart (sym (codings-indices w f s codings says.dc_length says.ac_length found)) says.apart

-- What is found after a scan of a frame.
pub record AfterScan (w : Said) (f : Frame) (array : Coefficients) (next : ℕ → Levels) (found : Found) : Type 0 where
  pub kept : Arrays
  pub finished : List (List Bool)
  pub planes : List (Option (List ℕ))
  pub after : found ≡ reading w true kept finished planes
  pub framed : Framed w f array next true kept finished planes

-- A scan brings what the levels after it say, where its arrays hold the blocks at these levels.
module _ (w : Said) (f : Frame) (array : Coefficients) (levels : ℕ → Levels) (sc : Bool) (x : Progress) (s : Scan)
    (codings : List Coding) (arrays : Arrays) (shape : Shaped f)
    (framed : Framed w f array levels sc x.0 x.1 x.2) (so : PassSo f s) (apart : AreApart (indices_of codings))
    (done : AllDone w f (pass_of s) array levels codings arrays) where
  abbrev before_scan : Found
  before_scan = reading w sc x.0 x.1 x.2

  abbrev levels_next : ℕ → Levels
  levels_next = levels_after (pass_of s) (indices_of codings) levels

  abbrev after_kept : Arrays
  after_kept = blocks_after before_scan f codings arrays

  brought : Brought w f (pass_of s) array levels codings arrays true after_kept x.1 x.2
  brought = brings w f (pass_of s) array levels codings arrays true after_kept x.1 x.2 shape.few (band-so f s so)
      apart done framed.marked

  fresh-after : PassSo f s → is_progressive f.process ≡ false → (k : ℕ) → (levels_next k).dc ≡ None
      → levels_next k ≡ nothing_sent
  fresh-after (sequential e q) g k n = after-fresh (pass_of s) (indices_of codings) levels q (framed.fresh g) k n
  fresh-after (progressive e d a lt le) g k n = absurd (true≢false (sym e ∙ g))

  kept-now : is_progressive f.process ≡ true
      → AllKept f array levels_next (arrays_before (reading w true after_kept brought.finished brought.planes) f)
  kept-now e =
      rw (sym (kept-arrays w after_kept brought.finished brought.planes f e
      ∙ blocks-after_is before_scan f codings arrays e)) at
      (blocks-after w f (pass_of s) array levels codings arrays (arrays_before before_scan f) apart done
      (framed.kept e))

  pub after-brings : AfterScan w f array levels_next (after_scan before_scan f s codings arrays)
  unfolding after_scan
  after-brings = record {
    kept = after_kept;
    finished = brought.finished;
    planes = brought.planes;
    after = brought.is;
    framed = record {
      marked = brought.marked;
      sized = after-length (pass_of s) (indices_of codings) levels framed.sized;
      kept = kept-now;
      fresh = fresh-after so;
    };
  }

-- what a scan was read as
pub record Scanned (w : Said) (f : Frame) (array : Coefficients) (levels : ℕ → Levels) (sc : Bool) (h : Arrays)
    (fi : List (List Bool)) (pl : List (Option (List ℕ))) (s : Scan)
    (codings : List Coding) (bytes : List ℕ) : Type 0 where
  pub arrays : Arrays
  pub kept : Arrays
  pub finished : List (List Bool)
  pub planes : List (Option (List ℕ))
  pub read : (fill code : ℕ) (m : Marker) (rest : List ℕ) → IsMarker code m
      → scan_arrays (reading w sc h fi pl) f s codings (bytes ++ marker fill code rest) ≡ Ok ((arrays, Some m), rest)
  pub after : after_scan (reading w sc h fi pl) f s codings arrays ≡ reading w true kept finished
      planes
  pub framed : Framed w f array (levels_after (pass_of s) (indices_of codings) levels) true kept
      finished planes

-- What is known of a written scan of a frame, of which so much was said, sent and brought before it.
pub record KnownScan (w : Said) (f : Frame) (array : Coefficients) (levels : ℕ → Levels) (sc : Bool) (x : Progress)
    (s : Scan) (codings : List Coding) (bytes : List ℕ) : Type 0 where
  pub range : (index row column : ℕ) → Is8Bit (array index row column)
  pub shape : Shaped f
  pub framed : Framed w f array levels sc x.0 x.1 x.2
  pub says : ScanFacts f s
  pub exist : AllByRecursion (λ c. IsTable c.dc × IsTable c.ac) codings
  pub legal : IsLegalScan w f levels s codings
  pub written : WritesScan f w.restart (pass_of s) codings array bytes

module _ {w : Said} {f : Frame} {array : Coefficients} {levels : ℕ → Levels} {sc : Bool} {x : Progress} {s : Scan}
    {codings : List Coding} {bytes : List ℕ} (known : KnownScan w f array levels sc x s codings bytes) where
  abbrev now : Found
  now = reading w sc x.0 x.1 x.2

  abbrev p : Pass
  p = pass_of s

  found_codings : codings_of w f s ≡ Ok codings
  found_codings = codings-found w f s codings known.legal.are_in_force

  pub count : length codings ≡ length s.components
  count = sym (length-map codings (λ (c : Coding). c.index)) ∙ ap (λ (l : List ℕ). length l)
      (codings-indices w f s codings known.says.dc_length known.says.ac_length found_codings)

  pub facts : AllByRecursion (CodingFacts w f) codings
  facts = codings-each (CodingFacts w f) w f s codings found_codings (λ index d a k is. record {
    at = get-at k.index f.components k.component is.component;
    table = is.quantization;
  })

  pub apart : AreApart (indices_of codings)
  apart = scan-apart w f s codings known.says found_codings

  pub stands : (k : Coding) (j : ℕ) → At j codings k → At k.index f.components k.component
  stands k j t = (at-all (CodingFacts w f) j codings k facts t).at

  pub is-legal : (k : Coding) (j : ℕ) → At j codings k → IsLegal p (levels k.index)
  is-legal k j t = at-all (λ (c : Coding). IsLegal p (levels c.index)) j codings k known.legal.legal t

  pub low : p.al ≤ 7
  low =
      let some = known.says.some in
      let c = count in
      let first = at-below 0 codings (omega arith) in
      (is-legal first.0 0 first.1).low

  -- nothing was sent of the components of a sequential scan
  pub unsent : is_progressive f.process ≡ false → p ≡ whole_pass → (k : Coding) (j : ℕ) → At j codings k
      → levels k.index ≡ nothing_sent
  unsent e q k j t =
      known.framed.fresh e k.index
      ((is-legal k j t).dc_unsent (ap (λ (y : Pass). y.ss) q) (ap (λ (y : Pass). y.is_first) q))

  pub holds-now : PassSo f s → (k : Coding) (j : ℕ) → At j codings k
      → HoldsOwn (grid_of k.component) (array k.index) (levels k.index) (get_or (arrays_before now f) k.index [])
  holds-now (sequential e q) k j t =
      rw (sequential-arrays now f e)
      (rw (unsent e q k j t) (rw (zero-at f.components k.index k.component (stands k j t))
      (zero-holds (array k.index) k.component (λ row column. (known.range k.index row column).count))))
  holds-now (progressive e d a lt le) k j t = (known.framed.kept e).each k.index k.component (stands k j t)

  -- no block is kept before a sequential scan
  pub zeros-now : is_progressive f.process ≡ false → (nth i : ℕ)
      → get_or (get_or (arrays_before now f) nth []) i zero_block ≡ zero_block
  zeros-now e nth i =
      ap (λ (a : Arrays). get_or (get_or a nth []) i zero_block) (sequential-arrays now f e)
      ∙ zeros-everywhere f.components nth i

  suit-now : PassSo f s → SpotsSuit p (arrays_before now f) codings
  unfolding pass_of
  suit-now (sequential e q) = none_read q (zeros-now e)
  suit-now (progressive e d (inl z) lt le) = dc_alone z (d z) low
  suit-now (progressive e d (inr one) lt le) = let k = single codings (count ∙ one) in one_component k.0 k.1

  -- the components of the scan are ready
  ready : AllByRecursion (SlotReady f p array levels (arrays_before now f)) codings
  ready = all-from (SlotReady f p array levels (arrays_before now f)) codings (λ j k t. record {
    fits = known.shape.fits k.index k.component (stands k j t);
    holds = holds-now known.says.so k j t;
    legal = is-legal k j t;
    sized = known.framed.sized k.index;
  })

  reads-now : ReadsScan f w.restart p codings array levels (arrays_before now f) bytes
  reads-now = scan-is_read f w.restart p codings array levels (arrays_before now f) bytes known.range ready
      (suit-now known.says.so) (all-good codings known.exist) known.written

  -- A written scan brings what the levels after it say.
  pub scan-brings : Scanned w f array levels sc x.0 x.1 x.2 s codings bytes
  unfolding scan_arrays
  scan-brings =
      let done = all-done w f p array levels codings reads-now.arrays reads-now.count reads-now.holds facts
      known.legal.legal known.framed.sized in
      let a = after-brings w f array levels sc x s codings reads-now.arrays known.shape known.framed known.says.so
      apart done in
      record {
        arrays = reads-now.arrays;
        kept = a.kept;
        finished = a.finished;
        planes = a.planes;
        read = reads-now.read;
        after = a.after;
        framed = a.framed;
      }
