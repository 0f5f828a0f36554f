-- A row of MCUs is taken: the first of two rows that are kept is removed, the row is added, and lines are given.
use Rattle.std.proofs.Common.{◌≡◌, ℕ, ◌+◌, ◌-◌, ◌*◌, ◌<◌, ◌≤◌, List, map, length, refl, sym, ap}
use Rattle.std.proofs.Common.{◌∙◌}
use Rattle.std.proofs.Common.{subst, arith}
use Rattle.std.specs.Prelude.{min}
use Rattle.std.specs.Vec.{with_items}
use Rattle.std.proofs.lemmas.List.{length-map, with_items_is}
use Rattle.jpeg_segments.specs.Frame.{Component, Frame}
use Rattle.jpeg_segments.specs.FrameView.{component_in}
use Rattle.jpeg_segments.specs.declared.frame.Component as declared
use Rattle.jpeg_pixels.specs.declared.color_convert.ColorConvert.{ColorConvert}
use Rattle.jpeg_meaning.specs.ScanSegments.{Coding, components_of}
use Rattle.jpeg_decoder.specs.ByRows.{AreLines, HaveRows, below, lines_decided}
use Rattle.jpeg_decoder.specs.Givers.{GivesRow, IsEndOf, IsReady}
use Rattle.jpeg_decoder.specs.Scanning.{arrays_in, blocks_in, sizes_of}
use Rattle.jpeg_decoder.specs.Steps.{coding_in}
use Rattle.jpeg_decoder.specs.Strips.{plane_lists, row_sizes, with_strips}
use Rattle.jpeg_decoder.specs.declared.by_rows.giver.RowGiver.{RowGiver}
use Rattle.jpeg_decoder.specs.declared.scan.coded.Coded.{Coded}
use Rattle.jpeg_decoder.proofs.ByRows.Windows.{AreGrown, AreKept, Plane, all-kept, are-grown, decided-grows, have-count}
use Rattle.jpeg_decoder.proofs.ByRows.Windows.{last-kept}
use Rattle.jpeg_decoder.proofs.Kept.BlockArrays.{Held}

-- ---- what is kept before a row is added

pub record IsKept (cs : List Component) (old kept : RowGiver) : Type 0 where
  pub blocks : kept.blocks ≡ old.blocks
  pub tables : kept.tables ≡ old.tables
  pub line : kept.line ≡ old.line
  pub converts : kept.convert ≡ old.convert
  pub taken : kept.rows ≡ old.rows
  pub planes : AreKept cs old.rows (plane_lists old.planes.items) (plane_lists kept.planes.items)

abbrev pub with_planes : RowGiver → List Plane → RowGiver
with_planes g items = record g { planes = with_items g.planes items }

-- of two rows the last
pub last-is-kept : (seen components : List declared.Component) (front items : List Plane) (old kept : RowGiver)
    → 1 < old.rows → HaveRows (min old.rows 2) (map component_in components) (plane_lists old.planes.items)
    → seen ≡ components → front ≡ old.planes.items → length items ≡ length front
    → plane_lists items ≡ below 1 (map component_in seen) (plane_lists front) → kept ≡ with_planes old items
    → IsKept (map component_in components) old kept
last-is-kept seen components front items old kept more have s f long e is =
    let cs = map component_in components in
    let count : length items ≡ length old.planes.items = long ∙ ap length f in
    let now : plane_lists (with_items old.planes items).items ≡ below 1 cs (plane_lists old.planes.items) =
    ap plane_lists (with_items_is old.planes items (count ∙ sym old.planes.ok.0)) ∙ e
    ∙ ap (λ (l : List declared.Component). below 1 (map component_in l) (plane_lists front)) s
    ∙ ap (λ (l : List Plane). below 1 cs (plane_lists l)) f in
    let all : IsKept cs old (with_planes old items) = record {
      blocks = refl;
      tables = refl;
      line = refl;
      converts = refl;
      taken = refl;
      planes = last-kept cs old.rows (plane_lists old.planes.items) _ more have now;
    } in
    subst (IsKept cs old) (sym is) all

pub all-is-kept : (cs : List Component) (old kept : RowGiver) → old.rows ≤ 1
    → HaveRows (min old.rows 2) cs (plane_lists old.planes.items) → kept ≡ old → IsKept cs old kept
all-is-kept cs old kept few have is =
    let all : IsKept cs old old = record {
      blocks = refl;
      tables = refl;
      line = refl;
      converts = refl;
      taken = refl;
      planes = all-kept cs old.rows (plane_lists old.planes.items) _ few have refl;
    } in
    subst (IsKept cs old) (sym is) all

-- as many planes as the scan has components
pub kept-count : (cs : List Component) (scan : List Coded) (old kept : RowGiver) (front : List Plane)
    → components_of (map coding_in scan) ≡ cs → IsKept cs old kept → front ≡ kept.planes.items
    → length front ≡ length scan
kept-count cs scan old kept front same k f =
    ap length f ∙ sym (length-map kept.planes.items (λ (v : Plane). v.items))
    ∙ have-count (min old.rows 1) cs (plane_lists kept.planes.items) k.planes.have
    ∙ sym (ap length same) ∙ length-map (map coding_in scan) (λ (c : Coding). c.component)
    ∙ length-map scan coding_in

-- ---- the row is added

arrays-count : (scan : List Coding) (blocks : List Held) → sizes_of blocks ≡ row_sizes scan
    → length (arrays_in blocks) ≡ length scan
arrays-count scan blocks sizes =
    length-map blocks blocks_in ∙ sym (length-map blocks (λ (a : Held). length (blocks_in a)))
    ∙ ap length sizes ∙ length-map scan (λ (c : Coding). c.component.factors.vertical * c.component.blocks_wide)

pub row-grown : (cs : List Component) (scan : List Coded) (old kept : RowGiver) (rows : List Held)
    (front added : List Plane) → components_of (map coding_in scan) ≡ cs
    → sizes_of old.blocks.items ≡ row_sizes (map coding_in scan) → IsKept cs old kept → rows ≡ kept.blocks.items
    → front ≡ kept.planes.items
    → plane_lists added ≡ with_strips (map coding_in scan) (arrays_in rows) (plane_lists front)
    → AreGrown cs (map coding_in scan) (arrays_in old.blocks.items) old.rows (plane_lists old.planes.items)
    (plane_lists added)
row-grown cs scan old kept rows front added same sizes k r f e =
    are-grown cs (map coding_in scan) (arrays_in old.blocks.items) old.rows (plane_lists old.planes.items)
    (plane_lists kept.planes.items) (plane_lists added) same
    (arrays-count (map coding_in scan) old.blocks.items sizes) k.planes
    (e ∙ ap (λ (l : List Held). with_strips (map coding_in scan) (arrays_in l) (plane_lists front))
    (r ∙ ap (λ v. v.items) k.blocks)
    ∙ ap (λ (l : List Plane). with_strips (map coding_in scan) (arrays_in old.blocks.items) (plane_lists l)) f)

-- the window has the rows that are there
pub window-have : (cs : List Component) (scan : List Coding) (old : RowGiver) (added seen : List Plane) (w : ℕ)
    → AreGrown cs scan (arrays_in old.blocks.items) old.rows (plane_lists old.planes.items) (plane_lists added)
    → w ≡ min (old.rows + 1) 2 → seen ≡ added → HaveRows w cs (plane_lists seen)
window-have cs scan old added seen w g n s =
    subst (λ (l : List Plane). HaveRows w cs (plane_lists l)) (sym s)
    (subst (λ (k : ℕ). HaveRows k cs (plane_lists added)) (sym n) g.have)

pub lines-within : (f : Frame) (r a w first next count : ℕ) → r < f.mcus_high → a ≡ r - 1 → w ≡ min (r + 1) 2
    → first ≡ lines_decided f r → next ≡ lines_decided f (r + 1) → count ≡ next - first
    → first + count ≤ lines_decided f (a + w)
lines-within f r a w first next count lt above rows one two e =
    let sum : a + w ≡ r + 1 = omega arith in
    let grows = decided-grows f r lt in
    let same = ap (lines_decided f) sum in
    omega arith

-- ---- and its lines are made

module _ (f : Frame) (codings : List Coding) (old : RowGiver) (window : List (List ℕ)) (a w : ℕ)
    (grown : AreGrown f.components codings (arrays_in old.blocks.items) old.rows
    (plane_lists old.planes.items) window) (above : a ≡ old.rows - 1) (rows : w ≡ min (old.rows + 1) 2) where
  abbrev after_row : List (List ℕ) → List (List ℕ)
  after_row planes = with_strips codings (arrays_in old.blocks.items) planes

  have-all : (planes : List (List ℕ)) → IsEndOf f planes old → HaveRows (a + w) f.components (after_row planes)
  have-all planes ends =
      let sum : old.rows + 1 ≡ a + w = omega arith in
      subst (λ (k : ℕ). HaveRows k f.components (after_row planes)) sum (grown.rows_have planes ends.rows)

  is-window : (planes : List (List ℕ)) → IsEndOf f planes old → below a f.components (after_row planes) ≡ window
  is-window planes ends =
      let top : a ≡ old.rows + 1 - min (old.rows + 1) 2 = omega arith in
      ap (λ (k : ℕ). below k f.components (after_row planes)) top ∙ grown.ends planes ends.rows ends.are

  ends-after : (new : RowGiver) → new.rows ≡ old.rows + 1 → plane_lists new.planes.items ≡ window
      → (planes : List (List ℕ)) → IsEndOf f planes old → IsEndOf f (after_row planes) new
  ends-after new next same planes ends = record {
    rows = subst (λ (k : ℕ). HaveRows k f.components (after_row planes)) (sym next) (grown.rows_have planes ends.rows);
    are = ap (λ (k : ℕ). below (k - min k 2) f.components (after_row planes)) next
        ∙ grown.ends planes ends.rows ends.are ∙ sym same;
  }

  all-given : (new : RowGiver) → AreLines f old.convert window a w (lines_decided f old.rows)
      (lines_decided f (old.rows + 1) - lines_decided f old.rows) new.lines.items → new.rows ≡ old.rows + 1
      → plane_lists new.planes.items ≡ window → GivesRow f codings old new
  all-given new all next same = record {
    ends = λ planes ends. ends-after new next same planes ends;
    all = λ planes sources ends is. all (after_row planes) sources is (have-all planes ends) (is-window planes ends);
  }

-- by what is given to the call
pub record IsCalled (f : Frame) (old : RowGiver) (convert : ColorConvert) (a w first count : ℕ) : Type 0 where
  pub converts : convert ≡ old.convert
  pub above : a ≡ old.rows - 1
  pub rows : w ≡ min (old.rows + 1) 2
  pub begin : first ≡ lines_decided f old.rows
  pub lines : count ≡ lines_decided f (old.rows + 1) - lines_decided f old.rows

pub row-given : (f : Frame) (codings : List Coding) (old new : RowGiver) (seen added : List Plane)
    (convert : ColorConvert) (a w first count : ℕ) (bytes : List ℕ)
    → AreGrown f.components codings (arrays_in old.blocks.items) old.rows (plane_lists old.planes.items)
    (plane_lists added) → IsCalled f old convert a w first count → seen ≡ added
    → AreLines f convert (plane_lists seen) a w first count bytes → new.lines.items ≡ bytes
    → new.rows ≡ old.rows + 1 → new.planes.items ≡ added → GivesRow f codings old new
row-given f codings old new seen added convert a w first count bytes grown called s all are next same =
    let every : AreLines f old.convert (plane_lists added) a w (lines_decided f old.rows)
    (lines_decided f (old.rows + 1) - lines_decided f old.rows) new.lines.items =
    subst (λ (l : List ℕ). AreLines f old.convert (plane_lists added) a w (lines_decided f old.rows)
    (lines_decided f (old.rows + 1) - lines_decided f old.rows) l) (sym are)
    (subst (λ (n : ℕ). AreLines f old.convert (plane_lists added) a w (lines_decided f old.rows) n bytes)
    called.lines
    (subst (λ (n : ℕ). AreLines f old.convert (plane_lists added) a w n count bytes) called.begin
    (subst (λ (k : ColorConvert). AreLines f k (plane_lists added) a w first count bytes) called.converts
    (subst (λ (l : List Plane). AreLines f convert (plane_lists l) a w first count bytes) s all)))) in
    all-given f codings old (plane_lists added) a w grown called.above called.rows new every next
    (ap plane_lists same)

-- ---- ready for the next row

abbrev pub with_row : RowGiver → List Plane → List ℕ → Plane → RowGiver
with_row kept added line lines = record kept {
  planes = with_items kept.planes added;
  line = with_items kept.line line;
  lines = lines;
  rows = kept.rows + 1;
}

pub added-is : (kept : RowGiver) (front added : List Plane) → front ≡ kept.planes.items → length added ≡ length front
    → (with_items kept.planes added).items ≡ added
added-is kept front added f long = with_items_is kept.planes added (long ∙ ap length f ∙ sym kept.planes.ok.0)

pub ready-after : (f : Frame) (codings : List Coding) (old kept : RowGiver) (front added : List Plane)
    (room line : List ℕ) (lines : Plane) (count : ℕ) → IsReady f codings old.convert old.rows old
    → IsKept f.components old kept
    → AreGrown f.components codings (arrays_in old.blocks.items) old.rows (plane_lists old.planes.items)
    (plane_lists added) → front ≡ kept.planes.items → length added ≡ length front
    → room ≡ kept.line.items → length line ≡ length room
    → length lines.items ≡ count * (length f.components * f.output_width)
    → IsReady f codings old.convert (old.rows + 1) (with_row kept added line lines)
ready-after f codings old kept front added room line lines count ready k grown is long r wide whole =
    let written : (with_items kept.line line).items ≡ line =
    with_items_is kept.line line (wide ∙ ap length r ∙ sym kept.line.ok.0) in
    record {
      sizes = ap (λ v. sizes_of v.items) k.blocks ∙ ready.sizes;
      tables = ap (λ v. v.items) k.tables ∙ ready.tables;
      planes = subst (λ (l : List Plane). HaveRows (min (old.rows + 1) 2) f.components (plane_lists l))
          (sym (added-is kept front added is long)) grown.have;
      line = ap length written ∙ wide ∙ ap length r ∙ ap (λ v. length v.items) k.line ∙ ready.line;
      converts = k.converts;
      taken = ap (λ (n : ℕ). n + 1) k.taken;
      count = count;
      lines = whole;
    }
