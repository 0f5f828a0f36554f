-- Frames of samples, and the data of their scans in the words of a writer (T.81, A.2 and Annex H).
use Rattle.std.proofs.Common.{◌≡◌, ℕ, zero, suc, ◌*◌, ◌/◌, ◌%◌, ◌<◌, ◌≤◌, ◌==◌, ◌||◌, Bool, true, false}
use Rattle.std.proofs.Common.{List, [], ◌∷◌, ◌++◌, length, map, get_or, replicate, refl, sym, ap, ap₂, ◌∙◌, subst}
use Rattle.std.proofs.Common.{arith, Some, mul_comm}
use Rattle.std.proofs.Math.Nat.{mul-pos}
use Rattle.std.specs.List.{AllByRecursion}
use Rattle.std.specs.Prelude.{None, Option, if◌then◌else◌, nat_le, slice_get}
use Rattle.std.proofs.lemmas.Bool.{eq-eqb, leb-true, ne_eqb}
use Rattle.std.proofs.lemmas.List.{drop_all, take_all}
use Rattle.std.proofs.lemmas.Option.{get_or_from_slice_get}
use Rattle.jpeg_bits.specs.Codes.{Table}
use Rattle.jpeg_bits.specs.Intervals.{first_group, groups, other_groups}
use Rattle.jpeg_bits.specs.Written.{WritesIntervals}
use Rattle.jpeg_bits.proofs.PieceWalks.{by_bool}
use Rattle.jpeg_segments.specs.Frame.{Component as WrittenComponent, Factors, Frame as WrittenFrame, ceiling}
use Rattle.jpeg_segments.specs.Frame.{component_of, frame_of, greatest, most_across, most_down}
use Rattle.jpeg_lossless.specs.Differences.{mcu_tables, row_tables}
use Rattle.jpeg_lossless.specs.Scans.{is_of_rows, rows_of_interval}
use Rattle.jpeg_lossless.specs.Written.{WritesRows}
use Rattle.jpeg_meaning.specs.LosslessScans.{LosslessCoding, mcus_across, mcus_down, part_of, parts_of}
use Rattle.jpeg_meaning.specs.WrittenLossless.{AreSampleCodings}
use Rattle.zaxbriar_strict.specs.Heads.{IsMade, header_of, members_of, written_frame}
use Rattle.zaxbriar_strict.specs.Installed.{codes_of}
use Rattle.zaxbriar_strict.specs.Members.{HaveTables}
use Rattle.zaxbriar_strict.specs.Runs.{WritesGroups}
use Rattle.zaxbriar_strict.specs.SampleRows.{Row}
use Rattle.zaxbriar_strict.specs.ScanData.{HasMembers}
use Rattle.zaxbriar_strict.specs.ScanSamples.{ArePlaced, ReadsSamples, codes_or_none, difference_codes, height_of}
use Rattle.zaxbriar_strict.specs.ScanSamples.{sample_slot, samples_high, samples_wide, shares_of, share_at, unit_tables}
use Rattle.zaxbriar_strict.specs.ScanSamples.{width_of}
use Rattle.zaxbriar_strict.specs.declared.frame.Component.{Component}
use Rattle.zaxbriar_strict.specs.declared.frame.Frame.{Frame}
use Rattle.zaxbriar_strict.specs.declared.scan.Member.{Member}
use Rattle.zaxbriar_strict.specs.declared.scan.Scan.{Scan}
use Rattle.zaxbriar_strict.specs.declared.tables.Tables.{Tables}
use Rattle.zaxbriar_strict.proofs.Contexts.{element}
use Rattle.zaxbriar_strict.proofs.FrameComponents.{ceiling-some, component-at, component_in, factors-some, most-across}
use Rattle.zaxbriar_strict.proofs.FrameComponents.{most-down, no_component, written-count}
use Rattle.zaxbriar_strict.proofs.RowIntervals.{HasRows, at-most-factor, rows-count, whole-rows}
use Rattle.zaxbriar_strict.proofs.Shares.{AreInstalledAt}

-- ---- how many MCUs a scan has

pub ceiling-one : (n side : ℕ) → side ≡ 1 → ceiling n side ≡ n
ceiling-one n side e =
    let one : ceiling n 1 ≡ n = omega arith in
    ap (λ (k : ℕ). ceiling n k) e ∙ one

own-factors : (width height across down : ℕ) (cs : List Factors)
    → map (λ (c : WrittenComponent). c.factors) (map (component_of width height across down) cs) ≡ cs
unfolding component_of
own-factors width height across down [] = refl
own-factors width height across down (c ∷ cs) =
    ap (λ (l : List Factors). c ∷ l) (own-factors width height across down cs)

most-same : (f : Frame) → IsMade f → (most_across (written_frame f).components ≡ f.most_across)
    × (most_down (written_frame f).components ≡ f.most_down)
unfolding frame_of
most-same f made =
    let cs = (header_of f).components in
    let own = own-factors f.width f.height (greatest (λ c. c.horizontal) cs) (greatest (λ c. c.vertical) cs) cs in (
      ap (λ (l : List Factors). greatest (λ c. c.horizontal) l) own ∙ sym made.across,
      ap (λ (l : List Factors). greatest (λ c. c.vertical) l) own ∙ sym made.down,
    )

sizes-same : (f : Frame) → ((written_frame f).width ≡ f.width) × ((written_frame f).height ≡ f.height)
unfolding frame_of
sizes-same f = (refl, refl)

whole-scan : (f : Frame) → IsMade f
    → (ceiling (written_frame f).width (most_across (written_frame f).components) ≡ ceiling f.width f.most_across)
    × (ceiling (written_frame f).height (most_down (written_frame f).components) ≡ ceiling f.height f.most_down)
whole-scan f made =
    let m = most-same f made in
    let s = sizes-same f in
    (ap₂ (λ (a b : ℕ). ceiling a b) s.0 m.0, ap₂ (λ (a b : ℕ). ceiling a b) s.1 m.1)

own-sizes : (f : Frame) (x : Component) → ((component_in f x).width ≡ ceiling (f.width * x.across) f.most_across)
    × ((component_in f x).height ≡ ceiling (f.height * x.down) f.most_down)
unfolding component_of
own-sizes f x = (refl, refl)

pub samples-alone : (f : Frame) (ms : List Member) (m : Member) (x : Component) → IsMade f → ms ≡ m ∷ []
    → slice_get f.components.items m.component ≡ Some x
    → (samples_wide (written_frame f) ms ≡ ceiling (f.width * x.across) f.most_across)
    × (samples_high (written_frame f) ms ≡ ceiling (f.height * x.down) f.most_down)
samples-alone f ms m x made e at =
    let one = component-at f m.component x made at in
    let own = own-sizes f x in (
      ap (λ (l : List Member). samples_wide (written_frame f) l) e ∙ ap width_of one ∙ own.0,
      ap (λ (l : List Member). samples_high (written_frame f) l) e ∙ ap height_of one ∙ own.1,
    )

pub samples-several : (f : Frame) (ms : List Member) → IsMade f → (length ms ≡ 1 → ⊥)
    → (samples_wide (written_frame f) ms ≡ ceiling f.width f.most_across)
    × (samples_high (written_frame f) ms ≡ ceiling f.height f.most_down)
samples-several f [] made ne = whole-scan f made
samples-several f (m ∷ []) made ne = absurd (ne refl)
samples-several f (m ∷ n ∷ more) made ne = whole-scan f made

-- there are some
pub samples-some : (f : Frame) (ms : List Member) → IsMade f
    → AllByRecursion (λ (m : Member). m.component < length f.components.items) ms
    → (1 ≤ samples_wide (written_frame f) ms) × (1 ≤ samples_high (written_frame f) ms)
samples-some f ms made within = go ms within
  where
    several : (ns : List Member) → (length ns ≡ 1 → ⊥)
        → (1 ≤ samples_wide (written_frame f) ns) × (1 ≤ samples_high (written_frame f) ns)
    several ns ne = (
        let e = samples-several f ns made ne in
        let w = ceiling-some f.width f.most_across made.legal.wide (most-across f made).0 in
        let h = ceiling-some f.height f.most_down made.legal.high (most-down f made).0 in
        (subst (λ (n : ℕ). 0 < n) (sym e.0) w, subst (λ (n : ℕ). 0 < n) (sym e.1) h)
        )

    go : (ns : List Member) → AllByRecursion (λ (m : Member). m.component < length f.components.items) ns
        → (1 ≤ samples_wide (written_frame f) ns) × (1 ≤ samples_high (written_frame f) ns)
    go [] all = several [] (λ one. absurd (omega (arith, one)))
    go (m ∷ []) all = (
        let x = element f.components.items m.component all.0 in
        let e = samples-alone f (m ∷ []) m x.0 made refl x.1 in
        let some = factors-some _ [] f.components.items m.component x.0 made.legal.components x.1 in
        let wide : 0 < f.width * x.0.across = mul-pos made.legal.wide some.0 in
        let high : 0 < f.height * x.0.down = mul-pos made.legal.high some.1 in
        let w = ceiling-some (f.width * x.0.across) f.most_across wide (most-across f made).0 in
        let h = ceiling-some (f.height * x.0.down) f.most_down high (most-down f made).0 in
        (subst (λ (n : ℕ). 0 < n) (sym e.0) w, subst (λ (n : ℕ). 0 < n) (sym e.1) h)
        )
    go (m ∷ n ∷ more) all = several (m ∷ n ∷ more) (λ one. absurd (omega (arith, one)))

-- ---- its components

-- a component of a scan, with the table that is installed
abbrev pub sample_coding : Tables → WrittenFrame → Member → LosslessCoding
sample_coding t frame m = record {
  index = m.component;
  component = get_or frame.components m.component no_component;
  table = difference_codes t m;
}

abbrev pub sample_codings : Tables → WrittenFrame → List Member → List LosslessCoding
sample_codings t frame ms = map (sample_coding t frame) ms

there : {A : Type 0} (xs : List A) (k : ℕ) (d : A) → k < length xs → slice_get xs k ≡ Some (get_or xs k d)
there [] k d lt = absurd (omega (arith, lt))
there (x ∷ xs) zero d lt = refl
there (x ∷ xs) (suc k) d lt = there xs k d (omega (arith, lt))

pub are-coded : (t : Tables) (frame : WrittenFrame) (ms : List Member)
    → AllByRecursion (λ (m : Member). m.component < length frame.components) ms → AreInstalledAt t ms
    → AreSampleCodings (codes_of t).dc frame (map sample_slot ms) (sample_codings t frame ms)
unfolding AreSampleCodings
are-coded t frame [] within installed = tt
are-coded t frame (m ∷ ms) within installed = (
  record {
    index = refl;
    component = there frame.components m.component no_component within.0;
    table = installed.0.is ∙ ap (λ (k : Table). Some k) (sym (ap codes_or_none installed.0.is));
  },
  are-coded t frame ms within.1 installed.1,
)

mcus-same : (t : Tables) (frame : WrittenFrame) (ms : List Member)
    → AllByRecursion (λ (m : Member). m.component < length frame.components) ms
    → (mcus_across frame (sample_codings t frame ms) ≡ samples_wide frame ms)
    × (mcus_down frame (sample_codings t frame ms) ≡ samples_high frame ms)
unfolding mcus_across mcus_down
mcus-same t frame [] within = (refl, refl)
mcus-same t frame (m ∷ []) within =
    let e = there frame.components m.component no_component within.0 in
    (sym (ap width_of e), sym (ap height_of e))
mcus-same t frame (m ∷ n ∷ ms) within = (refl, refl)

-- a component of a made frame in the words of a writer, by its index
in-frame : (f : Frame) (m : Member) (x : Component) → IsMade f → slice_get f.components.items m.component ≡ Some x
    → get_or (written_frame f).components m.component no_component ≡ component_in f x
in-frame f m x made at =
    get_or_from_slice_get (written_frame f).components m.component (component_in f x) no_component
    (component-at f m.component x made at)

abbrev several_parts : List LosslessCoding → List Table
several_parts codings =
    mcu_tables (map (λ k. part_of k.component.factors.horizontal k.component.factors.vertical k) codings)

own-share : (f : Frame) (x : Component) → x.down * x.across
    ≡ (component_in f x).factors.vertical * (component_in f x).factors.horizontal
unfolding component_of
own-share f x = refl

one-same : (t : Tables) (count : ℕ) (f : Frame) (m : Member) (x : Component) → IsMade f → (count == 1) ≡ false
    → slice_get f.components.items m.component ≡ Some x
    → (let c = get_or (written_frame f).components m.component no_component in
    replicate ((if count == 1 then 1 else x.down) * (if count == 1 then 1 else x.across)) (difference_codes t m)
    ≡ replicate (c.factors.vertical * c.factors.horizontal) (difference_codes t m))
one-same t count f m x made several at =
    ap (λ (b : Bool). replicate ((if b then 1 else x.down) * (if b then 1 else x.across)) (difference_codes t m)) several
    ∙ ap (λ (n : ℕ). replicate n (difference_codes t m)) (own-share f x)
    ∙ ap (λ (c : WrittenComponent). replicate (c.factors.vertical * c.factors.horizontal) (difference_codes t m))
    (sym (in-frame f m x made at))

several-same : (t : Tables) (count : ℕ) (f : Frame) (ms : List Member) → IsMade f → (count == 1) ≡ false
    → AllByRecursion (λ (m : Member). m.component < length f.components.items) ms
    → unit_tables t (shares_of count f.components.items ms)
    ≡ several_parts (sample_codings t (written_frame f) ms)
unfolding shares_of mcu_tables
several-same t count f [] made several within = refl
several-same t count f (m ∷ ms) made several within =
    let cs = f.components.items in
    let x = element cs m.component within.0 in
    ap (λ (o : Option Component). unit_tables t (share_at count m o ++ shares_of count cs ms)) x.1
    ∙ ap₂ (λ (a b : List Table). a ++ b) (one-same t count f m x.0 made several x.1)
    (several-same t count f ms made several within.1)

pub unit-same : (t : Tables) (f : Frame) (ms : List Member) → IsMade f
    → AllByRecursion (λ (m : Member). m.component < length f.components.items) ms
    → unit_tables t (shares_of (length ms) f.components.items ms)
    ≡ mcu_tables (parts_of (sample_codings t (written_frame f) ms))
unfolding parts_of shares_of mcu_tables
unit-same t f [] made within = refl
unit-same t f (m ∷ []) made within =
    let cs = f.components.items in
    let x = element cs m.component within.0 in
    ap (λ (o : Option Component). unit_tables t (share_at 1 m o ++ [])) x.1
unit-same t f (m ∷ n ∷ ms) made within =
    several-same t (length (m ∷ n ∷ ms)) f (m ∷ n ∷ ms) made (ne_eqb (length (m ∷ n ∷ ms)) 1 (omega arith)) within

-- the tables of its components have destinations that there are
pub shares-placed : (count : ℕ) (cs : List Component) (ms : List Member) → HaveTables 3 ms
    → ArePlaced (shares_of count cs ms)
unfolding shares_of
shares-placed count cs [] placed = tt
shares-placed count cs (m ∷ ms) placed = go (slice_get cs m.component) (shares-placed count cs ms placed.1)
  where
    go : (o : Option Component) → ArePlaced (shares_of count cs ms) → ArePlaced (share_at count m o ++ shares_of count cs ms)
    go None more = more
    go (Some x) more = (placed.0.0, more)

-- ---- its intervals

first-whole : (q : ℕ) (rows : List Row) → length rows ≤ q → first_group q rows ≡ rows
first-whole zero rows h = refl
first-whole (suc q) rows h = take_all (suc q) rows h

others-none : (q : ℕ) (rows : List Row) → length rows ≤ q → other_groups q rows ≡ []
unfolding groups
others-none zero rows h = refl
others-none (suc q) rows h =
    ap (λ (l : List Row). groups (length rows) (suc q) l) (drop_all (suc q) rows h)

rows-by : (wide high every : ℕ) (b : Bool) → nat_le (wide * high) every ≡ b
    → rows_of_interval wide high every ≡ (if b then 0 else every / wide)
rows-by wide high every b e = ap (λ (b : Bool). if b then 0 else every / wide) e

-- Rows in intervals of so many MCUs are those in intervals of so many rows.
intervals-same : (wide high every : ℕ) (rows : List Row) (bytes : List ℕ) → 1 ≤ wide → every % wide ≡ 0
    → length rows ≡ high → WritesGroups WritesRows (every / wide) 0 rows bytes
    → WritesGroups WritesRows (rows_of_interval wide high every) 0 rows bytes
intervals-same wide high every rows bytes some whole count w =
    by_bool (nat_le (wide * high) every) all (λ f.
    subst (λ (n : ℕ). WritesGroups WritesRows n 0 rows bytes) (sym (rows-by wide high every false f)) w)
  where
    all : nat_le (wide * high) every ≡ true
        → WritesGroups WritesRows (rows_of_interval wide high every) 0 rows bytes
    all t = (
        let fits : wide * high ≤ every = leb-true (wide * high) every t in
        let e = whole-rows every wide whole in
        let c = mul_comm wide high in
        let most = at-most-factor high (every / wide) wide some (omega (arith, fits, e, c)) in
        let few : length rows ≤ every / wide = omega (arith, count, most) in
        subst (λ (n : ℕ). WritesGroups WritesRows n 0 rows bytes) (sym (rows-by wide high every true t))
        (subst (λ (l : List Row). WritesIntervals WritesRows 0 l [] bytes) (first-whole (every / wide) rows few)
        (subst (λ (gs : List (List Row)). WritesIntervals WritesRows 0 (first_group (every / wide) rows) gs bytes)
        (others-none (every / wide) rows few) w))
        )

-- ---- its data

-- Rows that were read of a scan are its data.
pub samples-read : (t : Tables) (f : Frame) (s : Scan) (wide high : ℕ) (bytes rest : List ℕ) → IsMade f → HasMembers f s
    → AreInstalledAt t (members_of s) → wide ≡ samples_wide (written_frame f) (members_of s)
    → high ≡ samples_high (written_frame f) (members_of s) → t.interval % wide ≡ 0
    → HasRows (row_tables wide (unit_tables t (shares_of s.count f.components.items (members_of s)))) wide t.interval high
    bytes rest → ReadsSamples t (written_frame f) (members_of s) bytes rest
samples-read t f s wide high bytes rest made has installed w h whole r =
    let ms = members_of s in
    let frame = written_frame f in
    let within = subst (λ (n : ℕ). AllByRecursion (λ (m : Member). m.component < n) ms) (sym (written-count f)) has.within in
    let mcus = mcus-same t frame ms within in
    let codings = sample_codings t frame ms in
    let across : wide ≡ mcus_across frame codings = w ∙ sym mcus.0 in
    let down : high ≡ mcus_down frame codings = h ∙ sym mcus.1 in
    let some : 1 ≤ wide = subst (λ (n : ℕ). 1 ≤ n) (sym w) (samples-some f ms made has.within).0 in
    let tables = row_tables wide (unit_tables t (shares_of s.count f.components.items ms)) in
    let unit = ap (λ (n : ℕ). unit_tables t (shares_of n f.components.items ms)) has.counted
    ∙ unit-same t f ms made has.within in
    let rows_are = r.are
    ∙ ap (λ (l : List Table). replicate high (row_tables wide l)) unit
    ∙ ap₂ (λ (m n : ℕ). replicate m (row_tables n (mcu_tables (parts_of codings)))) down across in
    record {
      codings = codings;
      coded = are-coded t frame ms within installed;
      interval = subst (λ (n : ℕ). is_of_rows n (mcus_down frame codings) t.interval ≡ true) across
          (ap (λ (b : Bool). b || nat_le (wide * mcus_down frame codings) t.interval)
          (eq-eqb (t.interval % wide) 0 whole));
      rows = r.rows;
      tables = rows_are;
      data_bytes = r.data_bytes;
      parts = r.parts;
      written = subst (λ (n : ℕ). WritesGroups WritesRows n 0 r.rows r.data_bytes)
          (ap₂ (λ (m n : ℕ). rows_of_interval m n t.interval) across down)
          (intervals-same wide high t.interval r.rows r.data_bytes some whole (rows-count tables high r.rows r.are)
          r.coded);
    }
