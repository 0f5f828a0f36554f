-- The picture that is shown of what was found is that of the blocks that are held.
use Rattle.std.proofs.Common.{◌≡◌, ℕ, zero, suc, ◌+◌, ◌*◌, ◌<◌, ◌≤◌, ◌≢◌, Bool, true, false, List, [], ◌∷◌, length}
use Rattle.std.proofs.Common.{Option, Some, None, Result, Ok, Err, refl, sym, ap, ◌∙◌, subst, arith, replicate, get_or}
use Rattle.std.proofs.Common.{get_or-set_same, get_or-set_other, nat_lt}
use Rattle.std.specs.Prelude.{◌&&◌, fold, slice_index_or, unwrap_or, if◌then◌else◌}
use Rattle.std.specs.List.{enumerate_from}
use Rattle.jpeg_bits.specs.Reading.{Fault, Malformed}
use Rattle.jpeg_segments.specs.Checks.{gathered, needed}
use Rattle.jpeg_segments.specs.Frame.{Component, Frame}
use Rattle.jpeg_segments.specs.declared.frame.CodingProcess.{CodingProcess}
use Rattle.jpeg_segments.specs.declared.frame.CodingProcess.TheVariants.{Lossless}
use Rattle.jpeg_segments.proofs.Codecs.{err-ok}
use Rattle.jpeg_meaning.specs.declared.settings.Settings.{Settings}
use Rattle.jpeg_meaning.specs.ArrayPictures.{as_sent}
use Rattle.jpeg_meaning.specs.Found.{Found, Said}
use Rattle.jpeg_meaning.specs.FoundPictures.{blocks_picture, picture_by, picture_of, plane_at_end}
use Rattle.jpeg_meaning.specs.Levels.{Levels, nothing_sent}
use Rattle.jpeg_meaning.specs.Order.{grid_of}
use Rattle.jpeg_meaning.specs.Rasters.{plane_by, plane_of_blocks}
use Rattle.jpeg_meaning.specs.Scans.{zero_of}
use Rattle.jpeg_meaning.specs.ScanSegments.{arrays_before, decided, is_progressive}
use Rattle.jpeg_meaning.specs.Shown.{blocks_held, completed, picture_shown, shown_by, table_held, with_plane_shown}
use Rattle.jpeg_meaning.specs.WrittenScans.{Coefficients}
use Rattle.jpeg_meaning.proofs.Order.Apart.{At}
use Rattle.jpeg_meaning.proofs.Written.BroughtLevels.{Framed, Shaped, is_whole, zero-at, zero-holds}
use Rattle.jpeg_meaning.proofs.Order.FrameShapes.{scale-made}
use Rattle.jpeg_meaning.proofs.Pictures.LimitedPictures.{limited-same, samples_of, within as within_limit}
use Rattle.jpeg_meaning.proofs.Written.ReadTurns.{then-ok}
use Rattle.jpeg_meaning.proofs.Pictures.UpsampledFactors.{SamePlane}
use Rattle.jpeg_meaning.proofs.Written.WalkedStreams.{beside}
use Rattle.jpeg_meaning.proofs.Written.WrittenFrameScans.{HoldsOwn}
use Rattle.jpeg_meaning.proofs.Written.WrittenPictures.{OnePlane, Progress, bring, end-decided, lossy-picture, plane-same}
use Rattle.jpeg_meaning.proofs.Written.WrittenPictures.{picture-by-same, planes-of}
use Rattle.jpeg_meaning.proofs.Partial.CompletedPictures.{all-stay, all_shown, one-stays}
use Rattle.jpeg_evidence.specs.CutImages.{picture_held}

-- a picture that is within the limit
pub limit-passed : (settings : Settings) (frame : Frame) (x y : Result (List ℕ) Fault) (picture : List ℕ)
    → within_limit settings frame x ≡ Ok picture → within_limit settings frame y ≡ y
limit-passed settings frame x y picture e =
    go (nat_lt settings.limit (samples_of settings frame)) e
  where
    go : (b : Bool) → (if b then Err Malformed else x) ≡ Ok picture → (if b then Err Malformed else y) ≡ y
    go true e = absurd (err-ok Malformed picture e)
    go false e = refl

-- ---- what is completed

-- the plane of a component, by what was found
abbrev plane_held : Frame → Found → ℕ × Component → List ℕ
plane_held frame found c = plane_by c.1 (table_held found c.1) (blocks_held found frame c)

abbrev plane_found : Found → ℕ → Option (List ℕ)
plane_found found k = slice_index_or found.planes k None

one-set : (frame : Frame) (found : Found) (i : ℕ) (c : Component) → i < length found.planes
    → plane_found (with_plane_shown frame found (i, c)) i
    ≡ decided (plane_found found i) (plane_held frame found (i, c))
unfolding with_plane_shown
one-set frame found i c within = get_or-set_same found.planes i _ None within

one-other : (frame : Frame) (found : Found) (i k : ℕ) (c : Component) → k ≢ i
    → plane_found (with_plane_shown frame found (i, c)) k ≡ plane_found found k
unfolding with_plane_shown
one-other frame found i k c n = get_or-set_other found.planes i k _ None n

held-same : (frame : Frame) (found : Found) (i : ℕ) (c : Component) (d : ℕ × Component)
    → plane_held frame (with_plane_shown frame found (i, c)) d ≡ plane_held frame found d
unfolding with_plane_shown
held-same frame found i c d = refl

-- each component has a plane then: the one that was found, or that of its blocks
all-set : (frame : Frame) (cs : List Component) (i j : ℕ) (found : Found) (c : Component) → At j cs c
    → i + length cs ≤ length found.planes
    → plane_found (all_shown frame found i cs) (i + j)
    ≡ decided (plane_found found (i + j)) (plane_held frame found (i + j, c))
all-set frame (d ∷ cs) i zero found c t within =
    let same : d ≡ c = t in
    let now = with_plane_shown frame found (i, d) in
    let start : i + 0 ≡ i = omega arith in
    subst (λ (k : ℕ). plane_found (all_shown frame now (i + 1) cs) k
    ≡ decided (plane_found found k) (plane_held frame found (k, c))) (sym start)
    ((all-stay frame cs (i + 1) now).planes i (omega arith) ∙ one-set frame found i d (omega arith)
    ∙ ap (λ (x : Component). decided (plane_found found i) (plane_held frame found (i, x))) same)
all-set frame (d ∷ cs) i (suc j) found c t within =
    let now = with_plane_shown frame found (i, d) in
    let next : (i + 1) + j ≡ i + suc j = omega arith in
    let room : (i + 1) + length cs ≤ length now.planes =
    let s = (one-stays frame found i d).count in omega arith in
    subst (λ (k : ℕ). plane_found (all_shown frame now (i + 1) cs) k
    ≡ decided (plane_found found k) (plane_held frame found (k, c))) next
    (all-set frame cs (i + 1) j now c t room
    ∙ ap (λ (o : Option (List ℕ)). decided o (plane_held frame now ((i + 1) + j, c)))
    (one-other frame found i ((i + 1) + j) d (λ e. absurd (omega arith)))
    ∙ ap (λ (p : List ℕ). decided (plane_found found ((i + 1) + j)) p)
    (held-same frame found i d ((i + 1) + j, c)))
all-set frame [] i j found c t within = absurd t

pub lossy-completed : (process : CodingProcess) (found : Found) (frame : Frame) → process ≢ Lossless
    → fold (shown_by process frame) found (enumerate_from 0 frame.components)
    ≡ all_shown frame found 0 frame.components
lossy-completed Lossless found frame n = absurd (n refl)
lossy-completed process found frame n = refl

-- ---- one plane

-- The levels of a sequential frame are those of no scan, or no bit is missing.
abbrev pub AllOrNone : Frame → (ℕ → Levels) → Type 0
AllOrNone f levels =
    is_progressive f.process ≡ false → (k : ℕ) → is_whole (levels k) ≡ false → levels k ≡ nothing_sent

table-of : (o : Option (List ℕ)) (t : List ℕ) → o ≡ Some t → unwrap_or o (replicate 64 1) ≡ t
table-of o t e = rw e refl

module _ (settings : Settings) (said : Said) (f : Frame) (array : Coefficients) (levels : ℕ → Levels) (x : Progress)
    (counts : (index row column : ℕ) → length (array index row column).acs ≡ 63) (shape : Shaped f)
    (is_said : said.frame ≡ Some f) (framed : Framed said f array levels said.scanned x.0 x.1 x.2)
    (whole : AllOrNone f levels) where
  abbrev found : Found
  found = beside bring said x

  abbrev table_of : Component → List ℕ
  table_of c = unwrap_or (slice_index_or said.quantization c.factors.quantization None) (replicate 64 1)

  abbrev theirs_of : ℕ × Component → Result (List ℕ) Fault
  theirs_of c = Ok (plane_of_blocks c.1 (table_of c.1) (as_sent array levels c.0))

  -- the blocks of a component that lacks its plane
  holds-blocks : (k : ℕ) (c : Component) → At k f.components c → is_whole (levels k) ≡ false
      → HoldsOwn (grid_of c) (array k) (levels k) (blocks_held found f (k, c))
  unfolding arrays_before
  holds-blocks k c t lacks = go (is_progressive f.process) refl said.scanned refl
    where
      zeros : levels k ≡ nothing_sent → HoldsOwn (grid_of c) (array k) (levels k) (zero_of c)
      zeros e = rw e (zero-holds (array k) c (counts k))

      go : (p : Bool) → is_progressive f.process ≡ p → (s : Bool) → said.scanned ≡ s
          → HoldsOwn (grid_of c) (array k) (levels k) (if p && s then get_or x.0 k [] else zero_of c)
      go false e s g = zeros (whole e k lacks)
      go true e true g = rw (e, g) at ((framed.kept e).each k c t)
      go true e false g =
          rw (zero-at f.components k c t) at (rw (e, g) at ((framed.kept e).each k c t))

  -- ---- all planes

  abbrev all : Found
  all = all_shown f found 0 f.components

  plane-end : (k : ℕ) (c : Component) (t : At k f.components c) (plane : List ℕ)
      → decided (plane_found found k) (plane_held f found (k, c)) ≡ Some plane → plane_at_end all f (k, c) ≡ Ok plane
  plane-end k c t plane is =
      let start : 0 + k ≡ k = omega arith in
      let room : 0 + length f.components ≤ length found.planes =
      let few = shape.few in let n = framed.marked.pl_count in omega arith in
      end-decided all f k c plane
      (subst (λ (j : ℕ). plane_found all j ≡ decided (plane_found found j) (plane_held f found (j, c))) start
      (all-set f f.components 0 k found c t room) ∙ is)

  -- the plane of a component is that of its blocks
  shows : (k : ℕ) (c : Component) → At k f.components c → OnePlane (plane_at_end all f) theirs_of k c
  shows k c t = go (is_whole (levels k)) refl
    where
      go : (b : Bool) → is_whole (levels k) ≡ b → OnePlane (plane_at_end all f) theirs_of k c
      go true e =
          let o = (framed.marked.planes k c t).decided e in
          record {
            plane = plane_by c o.table o.blocks;
            other = plane_of_blocks c (table_of c) (as_sent array levels k);
            is = plane-end k c t _ (ap (λ (q : Option (List ℕ)). decided q (plane_held f found (k, c))) o.plane);
            other_is = refl;
            same = subst (λ (q : List ℕ). SamePlane (c.blocks_wide * c.scale) c.width c.height
                (plane_by c o.table o.blocks) (plane_of_blocks c q (as_sent array levels k)))
                (sym (table-of _ o.table o.is_table))
                (plane-same f c o.table (levels k) (array k) o.blocks (scale-made f shape.made k c t)
                (shape.fits k c t) o.holds);
          }
      go false e = record {
        plane = plane_held f found (k, c);
        other = plane_of_blocks c (table_of c) (as_sent array levels k);
        is = plane-end k c t _ (ap (λ (q : Option (List ℕ)). decided q (plane_held f found (k, c)))
            ((framed.marked.planes k c t).undecided e));
        other_is = refl;
        same = plane-same f c (table_of c) (levels k) (array k) (blocks_held found f (k, c))
            (scale-made f shape.made k c t) (shape.fits k c t) (holds-blocks k c t e);
      }

  -- ---- the picture

  all-same : (g : Found) → g ≡ all → picture_of settings g ≡ picture_held settings said (as_sent array levels)
  unfolding picture_of picture_held blocks_picture
  all-same g e =
      let b = planes-of (plane_at_end all f) theirs_of f.components shows in
      let s = all-stay f f.components 0 found in
      let said_same : all.said ≡ said = s.said in
      rw e (limited-same settings all.said said f f _ _ (ap (λ (w : Said). w.frame) said_same ∙ is_said) is_said refl
      (lossy-picture settings all f f.process shape.lossy
      ∙ then-ok (gathered (plane_at_end all f) (enumerate_from 0 f.components)) _ b.ours _ b.ours_are
      (ap (λ (w : Said). picture_by settings w.metadata f f.components b.ours) said_same
      ∙ picture-by-same settings said.metadata f f.components b.ours b.theirs refl shape.made b.alike)
      ∙ sym (then-ok (gathered theirs_of (enumerate_from 0 f.components)) _ b.theirs _ b.theirs_are refl)))

  -- The picture that is shown is that of the blocks.
  pub shown-same : picture_shown settings (beside bring said x) ≡ picture_held settings said (as_sent array levels)
  unfolding picture_shown completed
  shown-same =
      then-ok (needed said.frame) _ f _ (ap needed is_said)
      (all-same (completed found f) (lossy-completed f.process found f shape.lossy))
