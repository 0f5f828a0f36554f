-- The image of a stream with a progressive frame as far as it was read: segments and scans that a writer emits for
-- each array that has what is kept of the blocks.
use Rattle.std.proofs.Common.{◌≡◌, ℕ, zero, suc, ◌+◌, ◌<◌, ◌≤◌, ◌⊎◌, inl, inr, Bool, true, false, List, [], ◌∷◌, ◌++◌, length, get_or}
use Rattle.std.proofs.Common.{Option, Some, map, refl, sym, ap, ap₂, ◌∙◌, subst, arith, append_assoc}
use Rattle.std.proofs.Common.{ℤ, pos, unsigned_abs}
use Rattle.std.specs.List.{AllByRecursion, range_with_len}
use Rattle.std.specs.Prelude.{◌||◌, slice_get}
use Rattle.std.proofs.lemmas.Bool.{false≢true}
use Rattle.std.proofs.lemmas.Int.{ints}
use Rattle.std.proofs.lemmas.Option.{slice_get_within}
use Rattle.jpeg_bits.proofs.PieceWalks.{by_bool}
use Rattle.jpeg_bits.specs.Passes.{Pass}
use Rattle.jpeg_bits.specs.Written.{marker}
use Rattle.jpeg_segments.specs.Frame.{Frame as WrittenFrame}
use Rattle.jpeg_segments.specs.ScanHeaders.{IsScan, scan_payload, scan_written}
use Rattle.jpeg_segments.specs.WrittenSegments.{Segment, marker_code, payload_of, with_length}
use Rattle.jpeg_meaning.specs.Found.{Said, nothing_said}
use Rattle.jpeg_meaning.specs.Levels.{Is8Bit, IsLegal, Levels, cut_acs, nothing_sent}
use Rattle.jpeg_meaning.specs.Order.{spots_of}
use Rattle.jpeg_meaning.specs.SaidSegments.{Stands, said_after}
use Rattle.jpeg_meaning.specs.ScanSegments.{Coding, components_of, pass_of}
use Rattle.jpeg_meaning.specs.WholeImages.{AllComplete}
use Rattle.jpeg_meaning.specs.WrittenData.{no_numbers}
use Rattle.jpeg_meaning.specs.WrittenImages.{MayStandInImage, WritesImageScan, WritesPart}
use Rattle.jpeg_meaning.specs.WrittenScans.{Coefficients, HasTable, IsComplete, WritesScan, levels_after}
use Rattle.jpeg_meaning.specs.WrittenStreams.Writes.{end, scan, segment}
use Rattle.jpeg_meaning.proofs.Order.Apart.{all-from, at-got, spots-apart}
use Rattle.jpeg_meaning.proofs.Written.BroughtLevels.{after-length}
use Rattle.zaxbriar_strict.specs.Bands.{block_in}
use Rattle.zaxbriar_strict.specs.Changes.{Change, IsComponentInRange, IsGood, IsCutAt, Kept, Place, kept_in, rows_of}
use Rattle.zaxbriar_strict.specs.Exact.{HasLaterTables, IsUpTo, IsWhollyWritten, WritesSegments}
use Rattle.zaxbriar_strict.specs.Heads.{IsMade, IsUnread, ReadsHeader, has_scans, header_of, is_progressive_process}
use Rattle.zaxbriar_strict.specs.Heads.{lowest_of, members_of, pass_in, scan_header_of, sent_with, written_frame}
use Rattle.zaxbriar_strict.specs.Installed.{codes_of, steps_of}
use Rattle.zaxbriar_strict.specs.Progress.{levels_in}
use Rattle.zaxbriar_strict.specs.Runs.{AreGood}
use Rattle.zaxbriar_strict.specs.ScanData.{ReadsData, ReadsIfEight}
use Rattle.zaxbriar_strict.specs.ScanData.Sends.{sends_part}
use Rattle.zaxbriar_strict.specs.declared.frame.Component.{Component}
use Rattle.zaxbriar_strict.specs.declared.frame.Frame.{Frame}
use Rattle.zaxbriar_strict.specs.declared.scan.Member.{Member}
use Rattle.zaxbriar_strict.specs.declared.scan.Scan.{Scan}
use Rattle.zaxbriar_strict.specs.declared.tables.Tables.{Tables}
use Rattle.zaxbriar_strict.proofs.Extended.{Extends, changes-good, cuts-after, extends-before, sends-array}
use Rattle.zaxbriar_strict.proofs.ImageParts.{image-closed, onward, segments-part}
use Rattle.zaxbriar_strict.proofs.LegalScans.{AreTabled, coded-rising, has-codings, indices-are, tabled}
use Rattle.zaxbriar_strict.proofs.ProgressLevels.{AreLevelsIn, Lowest, legal-by, levels-noted, steps-by}
use Rattle.zaxbriar_strict.proofs.ProgressTurns.{pass-part, process-progressive, progress-written}
use Rattle.zaxbriar_strict.proofs.SameFrames.{same-kept, same-made, same-precision, same-written}
use Rattle.zaxbriar_strict.proofs.ScanTurns.{all-map, all-replicate}
use Rattle.zaxbriar_strict.proofs.SequentialHeaders.{has-members, same-members}
use Rattle.zaxbriar_strict.proofs.SpotPlaces.{places-apart}
use Rattle.zaxbriar_strict.proofs.UnitWays.{coded-fit}
use Rattle.zaxbriar_strict.proofs.WalkedBytes.{EndsWith, after-marker}

-- ---- the image so far

-- what is written of an array, and which components have tables
pub record Comes (array : Coefficients) (after at : List ℕ) (said : Said) (frame : WrittenFrame) (sent : List Bool)
    (levels : ℕ → Levels) : Type 0 where
  pub part : WritesPart array (IsUpTo at) nothing_said (λ k. nothing_sent) after said levels
  pub tabled : AreTabled said frame sent

-- What was read of an image, from what follows SOI up to these bytes.
pub record ProgressPart (after at : List ℕ) (said : Said) (frame : WrittenFrame) (sent : List Bool) (lowest : Lowest)
    (kept : Kept) : Type 0 where
  pub levels : ℕ → Levels
  pub sized : (k : ℕ) → length (levels k).acs ≡ 63
  pub leveled : AreLevelsIn lowest levels
  pub cuts : (q : Place) → IsCutAt (levels q.index) (kept.block q)
  pub unscanned : said.scanned ≡ false → (i : ℕ) → i < length sent → get_or sent i true ≡ false
  pub written : (array : Coefficients) → Extends array levels kept
      → Comes array after at said frame sent levels ⊎ HasLaterTables after

-- ---- no scan yet

no-rows : (cs : List Component) → AllByRecursion IsUnread cs → (i : ℕ) → get_or (map rows_of cs) i [] ≡ []
no-rows [] all i = refl
no-rows (c ∷ cs) all zero = ap (map (λ r. r.items)) all.0.blocks
no-rows (c ∷ cs) all (suc i) = no-rows cs all.1 i

no-blocks : (cs : List Component) → AllByRecursion IsUnread cs → (q : Place)
    → (kept_in cs).block q ≡ no_numbers 64
no-blocks cs all q =
    ap (λ (rows : List (List (List ℤ))). get_or (get_or rows q.row []) q.column (no_numbers 64)) (no-rows cs all q.index)

no-levels : (cs : List Component) → AllByRecursion IsUnread cs
    → AreLevelsIn (map (λ (c : Component). c.lowest) cs) (λ k. nothing_sent)
no-levels [] all k l at = absurd cc
no-levels (c ∷ cs) all zero l at =
    let same : c.lowest ≡ l = cc in
    ap levels_in (sym all.0.levels ∙ same)
no-levels (c ∷ cs) all (suc k) l at = no-levels cs all.1 k l at

nothing-cut : IsCutAt nothing_sent (no_numbers 64)
unfolding cut_acs
nothing-cut = record { sized = refl; same = refl }

-- a header, and no scan yet
pub progress-headed : (after at : List ℕ) (said : Said) (f : Frame) → WritesSegments nothing_said after said at
    → AllByRecursion IsUnread f.components.items → length (has_scans f) ≡ length (written_frame f).components
    → ((i : ℕ) → i < length (has_scans f) → get_or (has_scans f) i true ≡ false)
    → ProgressPart after at said (written_frame f) (has_scans f) (lowest_of f) (kept_in f.components.items)
progress-headed after at said f segments unread sized unsent = record {
  levels = λ k. nothing_sent;
  sized = λ k. refl;
  leveled = no-levels f.components.items unread;
  cuts = λ q. subst (λ (z : List ℤ). IsCutAt nothing_sent z) (sym (no-blocks f.components.items unread q)) nothing-cut;
  unscanned = λ e. unsent;
  written = λ array e. inl (record {
    part = segments-part array after segments;
    tabled = λ i c is h.
        let lt = slice_get_within (written_frame f).components i c is in
        absurd (false≢true (sym (unsent i (omega (arith, lt, sized))) ∙ h));
  });
}

-- ---- segments

module _ (after at rest : List ℕ) (said : Said) (frame : WrittenFrame) (sent : List Bool) (lowest : Lowest)
    (kept : Kept) (p : ProgressPart after at said frame sent lowest kept) where
  -- One segment more: if it has quantization tables, then there was no scan.
  pub progress-segment : (fill : ℕ) (s : Segment) → length sent ≡ length frame.components
      → at ≡ marker fill (marker_code s) (with_length (payload_of s) ++ rest) → Stands said s
      → MayStandInImage said s → (said_after said s).scanned ≡ said.scanned
      → ((said_after said s).quantization ≡ said.quantization) ⊎ (said.scanned ≡ false)
      → ProgressPart after rest (said_after said s) frame sent lowest kept
  progress-segment fill s sized parts stands may scanned tables = record {
    levels = p.levels;
    sized = p.sized;
    leveled = p.leveled;
    cuts = p.cuts;
    unscanned = λ e. p.unscanned (sym scanned ∙ e);
    written = λ array e. elim (p.written array e) [
      | inl c ↦ inl (record {
        part = onward array (IsUpTo rest) at nothing_said said (said_after said s) (λ k. nothing_sent) p.levels
            p.levels after c.part
            (subst (λ (l : List ℕ). WritesPart array (IsUpTo rest) said p.levels l (said_after said s) p.levels)
            (sym parts) (segment said (said_after said s) p.levels p.levels fill s rest stands may
            (end (said_after said s) p.levels rest refl)));
        tabled = λ i x is h. elim tables [
          | inl same ↦ subst (λ (l : List (Option (List ℕ))). HasTable (record said { quantization = l }) x)
              (sym same) (c.tabled i x is h)
          | inr unscanned ↦
              let lt = slice_get_within frame.components i x is in
              absurd (false≢true (sym (p.unscanned unscanned i (omega (arith, lt, sized))) ∙ h))
        ];
      })
      | inr x ↦ inr x
    ];
  }

  -- quantization tables after a scan
  pub progress-later : (fill : ℕ) (payload : List ℕ) (next : Said) → at ≡ marker fill 219 (with_length payload ++ rest)
      → said.scanned ≡ true → next.scanned ≡ true → ProgressPart after rest next frame sent lowest kept
  progress-later fill payload next is scanned still = record {
    levels = p.levels;
    sized = p.sized;
    leveled = p.leveled;
    cuts = p.cuts;
    unscanned = λ e. absurd (false≢true (sym e ∙ still));
    written = λ array e. inr (elim (p.written array e) [
      | inl c ↦ record {
        array = array;
        said = said;
        sent = p.levels;
        fill = fill;
        payload = payload;
        rest = rest;
        written = subst (λ (l : List ℕ). WritesPart array (IsUpTo l) nothing_said (λ k. nothing_sent) after said
            p.levels) is c.part;
        scanned = scanned;
      }
      | inr x ↦ x
    ]);
  }

-- ---- a scan more

data-of : (k : Bool) (p : Pass) (t : Tables) (frame : WrittenFrame) (ms : List Member) (from to : Kept)
    (bytes rest : List ℕ) → k ≡ true → ReadsData k p t frame ms from to bytes rest
    → ReadsData true p t frame ms from to bytes rest
data-of k p t frame ms from to bytes rest e r = subst (λ (b : Bool). ReadsData b p t frame ms from to bytes rest) e r

good : (p : Pass) (cs : List Change) → AllByRecursion (λ c. IsGood p c) cs → AreGood true p cs
unfolding AreGood
good p cs all = all

-- bytes after a segment and data
pub ends-more : (after at rest : List ℕ) → EndsWith after at → (fill code : ℕ) (own data_bytes : List ℕ)
    → at ≡ marker fill code (own ++ (data_bytes ++ rest)) → EndsWith after rest
ends-more after at rest ends fill code own data_bytes is = record {
  front = ends.front ++ marker fill code (own ++ data_bytes);
  parts = ends.parts ∙ ap (λ (l : List ℕ). ends.front ++ l)
      (is ∙ ap (λ (l : List ℕ). marker fill code l) (sym (append_assoc own data_bytes rest))
      ∙ after-marker fill code (own ++ data_bytes) rest)
      ∙ sym (append_assoc ends.front (marker fill code (own ++ data_bytes)) rest);
}

-- What was read of a scan of a frame. `old` is the frame as scan::read_header found it, `new` as
-- transform::read_scan did; `payload` are the bytes of the scan header.
module _ (start rest payload : List ℕ) (t : Tables) (old new : Frame) (s : Scan) (made : IsMade old)
    (progressive : is_progressive_process old.process ≡ true) (eight : old.precision ≡ 8)
    (sized : length s.members ≡ 4) (head : ReadsHeader payload s old new) (last : Frame)
    (read : ReadsIfEight t new last s start rest) where
  pub scan-data : ReadsData true (pass_in s) t (written_frame old) (members_of s) (kept_in old.components.items)
      (kept_in last.components.items) start rest
  scan-data =
      let process = ap is_progressive_process head.same.process ∙ progressive in
      let members = has-members payload s old new sized head in
      subst (λ (k : Kept). ReadsData true (pass_in s) t (written_frame old) (members_of s) k
      (kept_in last.components.items) start rest) (same-kept old.components.items new.components.items head.kept)
      (subst (λ (f : WrittenFrame). ReadsData true (pass_in s) t f (members_of s) (kept_in new.components.items)
      (kept_in last.components.items) start rest) (same-written head.same)
      (data-of (is_progressive_process new.process) (pass_in s) t (written_frame new) (members_of s)
      (kept_in new.components.items) (kept_in last.components.items) start rest process
      (read (pass_in s) (same-made head.same made) (sends_part process refl (head.part progressive))
      (same-precision head.same ∙ eight) (same-members old new s head.same members))))

  -- no number was beyond 16 bits before the scan, if none is after it
  pub narrow-before : (kept_in last.components.items).is_wide ≡ false → (kept_in old.components.items).is_wide ≡ false
  narrow-before narrow = (scan-data.changed.inner refl narrow).0

  module _ (after at : List ℕ) (fill : ℕ) (said : Said) (steps : steps_of t ≡ said.quantization)
      (codes : codes_of t ≡ said.huffman) (interval : t.interval ≡ said.restart)
      (framed : said.frame ≡ Some (written_frame old)) (same-lowest : lowest_of last ≡ lowest_of new)
      (parts : at ≡ marker fill 218 (with_length (scan_payload (scan_header_of old s)) ++ start)) (low : s.low ≤ 7)
      (narrow : (kept_in last.components.items).is_wide ≡ false) (front : EndsWith after at)
      (p : ProgressPart after at said (written_frame old) (has_scans old) (lowest_of old)
      (kept_in old.components.items)) where
    -- What was read so far, and where the rest begins.
    pub record After : Type 0 where
      pub ends : EndsWith after rest
      pub part : ProgressPart after rest (record said { scanned = true }) (written_frame old)
          (sent_with (members_of s) (has_scans old)) (lowest_of last) (kept_in last.components.items)

    pub progress-scan : After
    progress-scan =
        let frame = written_frame old in
        let h = scan_header_of old s in
        let ms = members_of s in
        let sent = has_scans old in
        let factors = (header_of old).components in
        let pass = pass_in s in
        let final : Said = record said { scanned = true } in
        let part = head.part progressive in
        let legal : IsScan frame h = head.legal_part progressive (omega (arith, low, eight)) in
        let r = scan-data in
        let cs = r.changes in
        let codings = r.installed.codings in
        let coded = r.installed.are in
        let from = kept_in old.components.items in
        let to = kept_in last.components.items in
        let rising = coded-rising pass t frame factors 0 ms codings coded head.choices in
        let spots = spots_of frame (components_of codings) in
        let apart = places-apart codings spots (map (λ (c : Change). c.place) cs) rising r.placed
        (spots-apart frame (components_of codings) (coded-fit pass t old ms codings made coded)) in
        let noted = head.noted progressive in
        let next = levels_after pass (map (λ (m : Member). m.component) ms) p.levels in
        let steps-are = steps-by pass low frame factors t ms codings coded (lowest_of old) (lowest_of new) p.levels
        spots cs head.choices noted p.leveled r.placed in
        let changed = r.changed.made refl in
        let inner = (r.changed.inner refl narrow).1 in
        let all-good = good pass cs
        (changes-good pass cs p.levels next from to part.banded changed apart p.sized steps-are p.cuts inner) in
        let each = r.changed.next refl all-good in
        let groups = r.coded all-good in
        let passes : pass_of (scan_written frame h) ≡ pass =
        pass-part frame h (process-progressive old progressive) (omega (arith, low)) in
        let sent-levels : levels_after (pass_of (scan_written frame h)) (map (λ (c : Coding). c.index) codings) p.levels
        ≡ next = ap₂ (λ (q : Pass) (l : List ℕ). levels_after q l p.levels) passes
        (indices-are pass t frame ms codings coded) in
        let bytes : at ≡ marker fill 218 (with_length (scan_payload h) ++ (groups.data_bytes ++ rest)) =
        parts ∙ ap (λ (l : List ℕ). marker fill 218 (with_length (scan_payload h) ++ l)) groups.parts in
        record {
          ends = ends-more after at rest front fill 218 (with_length (scan_payload h)) groups.data_bytes bytes;
          part = record {
            levels = next;
            sized = after-length pass (map (λ (m : Member). m.component) ms) p.levels p.sized;
            leveled = subst (λ (l : Lowest). AreLevelsIn l next) (sym same-lowest)
                (levels-noted pass ms (lowest_of old) (lowest_of new) p.levels noted p.leveled);
            cuts = cuts-after pass cs p.levels next from to part.banded changed apart p.sized steps-are p.cuts each;
            unscanned = λ e. absurd (false≢true (sym e));
            written = λ array e.
                let before = extends-before pass cs p.levels next from to part.banded changed apart p.sized steps-are
                p.cuts each low array e in
                let sends = sends-array pass cs p.levels next from to part.banded changed apart p.sized steps-are
                p.cuts each low array e in
                let w : WritesScan frame said.restart pass codings array groups.data_bytes =
                subst (λ (n : ℕ). WritesScan frame n pass codings array groups.data_bytes) interval
                (progress-written frame pass codings array t.interval cs groups.data_bytes r.placed sends e.full
                groups.coded) in
                let image : WritesImageScan array said p.levels frame h groups.data_bytes next = record {
                  codings = codings;
                  legal = record {
                    are_in_force = has-codings pass t said frame h factors ms codings refl passes coded steps codes;
                    legal = subst (λ (q : Pass). AllByRecursion (λ (c : Coding). IsLegal q (p.levels c.index)) codings)
                        (sym passes) (legal-by pass low frame factors t ms codings coded (lowest_of old) (lowest_of new)
                        p.levels head.choices noted p.leveled);
                  };
                  written = subst (λ (q : Pass). WritesScan frame said.restart q codings array groups.data_bytes)
                      (sym passes) w;
                  sent = sent-levels;
                } in
                elim (p.written array before) [
                  | inl c ↦ inl (record {
                    part = onward array (IsUpTo rest) at nothing_said said final (λ k. nothing_sent) p.levels next after
                        c.part (subst (λ (l : List ℕ). WritesPart array (IsUpTo rest) said p.levels l final next)
                        (sym bytes) (scan said final p.levels next next frame fill h groups.data_bytes rest framed legal
                        image (end final next rest refl)));
                    tabled = tabled pass t frame said steps ms codings sent coded c.tabled;
                  })
                  | inr x ↦ inr x
                ];
          };
        }

-- ---- its end

-- blocks are in range, also where there are none
zeros-in-range : Is8Bit (block_in (no_numbers 64))
zeros-in-range = record {
  count = refl;
  dc_low = omega (arith, ints);
  dc_high = omega (arith, ints);
  acs = all-replicate (λ (x : ℤ). unsigned_abs x ≤ 1023) 63 (pos 0) (omega (arith, ints));
}

block-in-range : (bs : List (List ℤ)) (column : ℕ) → AllByRecursion (λ b. Is8Bit (block_in b)) bs
    → Is8Bit (block_in (get_or bs column (no_numbers 64)))
block-in-range [] column all = zeros-in-range
block-in-range (b ∷ bs) zero all = all.0
block-in-range (b ∷ bs) (suc column) all = block-in-range bs column all.1

pub blocks-in-range : (cs : List Component) → AllByRecursion IsComponentInRange cs → (q : Place)
    → Is8Bit (block_in ((kept_in cs).block q))
blocks-in-range cs all q = at-component cs all q.index
  where
    at-row : (rows : List (List (List ℤ))) (row : ℕ) → AllByRecursion (λ r. AllByRecursion (λ b. Is8Bit (block_in b)) r) rows
        → Is8Bit (block_in (get_or (get_or rows row []) q.column (no_numbers 64)))
    at-row [] row all = zeros-in-range
    at-row (r ∷ rows) zero all = block-in-range r q.column all.0
    at-row (r ∷ rows) (suc row) all = at-row rows row all.1

    at-component : (cs : List Component) → AllByRecursion IsComponentInRange cs → (i : ℕ)
        → Is8Bit (block_in (get_or (get_or (get_or (map rows_of cs) i []) q.row []) q.column (no_numbers 64)))
    at-component [] all i = zeros-in-range
    at-component (c ∷ cs) all zero = at-row (rows_of c) q.row
        (all-map (λ r. AllByRecursion (λ b. Is8Bit (block_in b)) r) (λ r. r.items) c.rows.items all.0)
    at-component (c ∷ cs) all (suc i) = at-component cs all.1 i

pub narrow-all : (cs : List Component) → AllByRecursion (λ c. c.is_wide ≡ false) cs → (kept_in cs).is_wide ≡ false
narrow-all [] all = refl
narrow-all (c ∷ cs) all = ap₂ (λ (a b : Bool). a || b) all.0 (narrow-all cs all.1)

complete-in : (l : List (Option ℕ)) (levels : Levels) → levels ≡ levels_in l → length levels.acs ≡ 63
    → AllByRecursion (λ x. x ≡ Some 0) l → IsComplete levels
complete-in [] levels e sized all =
    let none : length levels.acs ≡ 0 = ap (λ (x : Levels). length x.acs) e in
    absurd (omega (arith, none, sized))
complete-in (x ∷ l) levels e sized all =
    subst (λ (y : Levels). IsComplete y) (sym e) (record { dc = all.0; acs = all.1 })

pub complete-all : (cs : List Component) (levels : ℕ → Levels) (i : ℕ)
    → ((k : ℕ) (l : List (Option ℕ)) → slice_get (map (λ (c : Component). c.lowest) cs) k ≡ Some l
    → levels (i + k) ≡ levels_in l) → ((k : ℕ) → length (levels k).acs ≡ 63)
    → AllByRecursion (λ c. AllByRecursion (λ x. x ≡ Some 0) c.lowest) cs
    → AllByRecursion (λ k. IsComplete (levels k)) (range_with_len i (length cs))
complete-all [] levels i are sized all = tt
complete-all (c ∷ cs) levels i are sized all =
    let e : i + 0 ≡ i = omega arith in (
      complete-in c.lowest (levels i) (ap (λ (k : ℕ). levels k) (sym e) ∙ are 0 c.lowest refl) (sized i) all.0,
      complete-all cs levels (i + 1) (λ k l at.
          let f : i + 1 + k ≡ i + suc k = omega arith in
          ap (λ (j : ℕ). levels j) f ∙ are (suc k) l at) sized all.1,
    )

-- EOI, where all components have scans and all bits were sent.
pub progress-closed : (after at : List ℕ) (said : Said) (frame : WrittenFrame) (sent : List Bool) (lowest : Lowest)
    (kept : Kept) (fill : ℕ) (p : ProgressPart after at said frame sent lowest kept) → 1 ≤ length sent
    → ((i : ℕ) → get_or sent i true ≡ true) → said.frame ≡ Some frame → at ≡ marker fill 217 []
    → ((q : Place) → Is8Bit (block_in (kept.block q))) → AllComplete frame p.levels
    → IsWhollyWritten (255 ∷ 216 ∷ after) ⊎ HasLaterTables after
progress-closed after at said frame sent lowest kept fill p some all framed closed in_range complete =
    let array : Coefficients = λ index row column.
    block_in (kept.block (record { index = index; row = row; column = column })) in
    let full : (index row column : ℕ) → Is8Bit (array index row column) =
    λ index row column. in_range (record { index = index; row = row; column = column }) in
    let e : Extends array p.levels kept = record { own = λ q. (p.cuts q).same; in_range = in_range; full = full } in
    let scanned : said.scanned ≡ true =
    by_bool said.scanned (λ t. t) (λ f. absurd (false≢true (sym (p.unscanned f 0 some) ∙ all 0))) in
    elim (p.written array e) [
      | inl c ↦
          let tables : AllByRecursion (HasTable said) frame.components =
          all-from (HasTable said) frame.components
          (λ j x here. c.tabled j x (at-got j frame.components x here) (all j)) in
          inl (image-closed array after at said frame p.levels fill full c.part scanned tables complete framed closed)
      | inr x ↦ inr x
    ]
