-- Where each component of a picture is there, nothing is completed.
use Rattle.std.proofs.Common.{◌≡◌, ◌⊎◌, inl, inr, ℕ, zero, suc, ◌+◌, ◌<◌, ◌≤◌, ◌≢◌, Bool, true, false, List, [], ◌∷◌}
use Rattle.std.proofs.Common.{Option, Some, None, Result, Ok, refl, sym, ap, ◌∙◌, arith, get_or, set}
use Rattle.std.proofs.Common.{get_or-set_other, length-set, replicate}
use Rattle.std.specs.Prelude.{◌&&◌, fold, length, slice_index_or, unwrap_or, if◌then◌else◌}
use Rattle.std.specs.List.{enumerate_from}
use Rattle.std.proofs.lemmas.List.{set-get_or}
use Rattle.jpeg_bits.specs.Reading.{Fault, Malformed, ◌>>=◌}
use Rattle.jpeg_segments.specs.declared.frame.CodingProcess.{CodingProcess}
use Rattle.jpeg_segments.specs.declared.frame.CodingProcess.TheVariants.{DctSequential, DctProgressive, Lossless}
use Rattle.jpeg_segments.specs.Checks.{check, gathered, needed}
use Rattle.jpeg_segments.specs.Frame.{Component, Frame}
use Rattle.jpeg_segments.proofs.Codecs.{err-ok, ok-same, bind-ok}
use Rattle.jpeg_meaning.specs.declared.settings.Settings.{Settings}
use Rattle.jpeg_meaning.specs.Found.{Found, Said}
use Rattle.jpeg_meaning.specs.FoundPictures.{blocks_picture, picture_by_process, picture_of, plane_at_end}
use Rattle.jpeg_meaning.specs.Rasters.{plane_by}
use Rattle.jpeg_meaning.specs.Scans.{Arrays, zero_of}
use Rattle.jpeg_meaning.specs.ScanSegments.{decided, is_progressive}
pub use Rattle.jpeg_meaning.proofs.Pictures.LimitedPictures.{limited-at, within}
use Rattle.jpeg_meaning.specs.Shown.{completed, planes_by, shown_by, with_plane_shown, with_samples_shown}

-- ---- a plane

-- what the plane of a component goes by
abbrev pub plane_of_parts : Said → Arrays → Frame → ℕ × Component → Option (List ℕ) → Result (List ℕ) Fault
plane_of_parts said kept frame c (Some plane) = Ok plane
plane_of_parts said kept frame c None =
    check (is_progressive frame.process && said.scanned) >>= (λ _.
    needed (slice_index_or said.quantization c.1.factors.quantization None) >>= (λ table.
    Ok (plane_by c.1 table (get_or kept c.0 []))))

pub plane-goes : (found : Found) (frame : Frame) (c : ℕ × Component)
    → plane_at_end found frame c ≡ plane_of_parts found.said found.kept frame c (slice_index_or found.planes c.0 None)
unfolding plane_at_end
plane-goes found frame c = go (slice_index_or found.planes c.0 None)
  where
    go : (o : Option (List ℕ)) → (elim o [
      | Some plane ↦ Ok plane
      | None ↦ check (is_progressive frame.process && found.said.scanned) >>= (λ _.
          needed (slice_index_or found.said.quantization c.1.factors.quantization None) >>= (λ table.
          Ok (plane_by c.1 table (get_or found.kept c.0 []))))
    ]) ≡ plane_of_parts found.said found.kept frame c o
    go (Some plane) = refl
    go None = refl

-- what stays where planes are completed from an index on
pub record Stays (old new : Found) (i : ℕ) : Type 0 where
  pub said : new.said ≡ old.said
  pub kept : new.kept ≡ old.kept
  pub count : length new.planes ≡ length old.planes
  pub planes : (k : ℕ) → k < i → slice_index_or new.planes k None ≡ slice_index_or old.planes k None

plane-stays : (old new : Found) (i : ℕ) (frame : Frame) (k : ℕ) (c : Component) → Stays old new i → k < i
    → plane_at_end new frame (k, c) ≡ plane_at_end old frame (k, c)
plane-stays old new i frame k c s lt =
    plane-goes new frame (k, c)
    ∙ ap (λ (w : Said). plane_of_parts w new.kept frame (k, c) (slice_index_or new.planes k None)) s.said
    ∙ ap (λ (a : Arrays). plane_of_parts old.said a frame (k, c) (slice_index_or new.planes k None)) s.kept
    ∙ ap (λ (o : Option (List ℕ)). plane_of_parts old.said old.kept frame (k, c) o) (s.planes k lt)
    ∙ sym (plane-goes old frame (k, c))

-- the plane of another index stays
one-other : (frame : Frame) (found : Found) (i k : ℕ) (c d : Component) → k ≢ i
    → plane_at_end (with_plane_shown frame found (i, c)) frame (k, d) ≡ plane_at_end found frame (k, d)
unfolding with_plane_shown
one-other frame found i k c d n =
    let new = with_plane_shown frame found (i, c) in
    plane-goes new frame (k, d)
    ∙ ap (λ (o : Option (List ℕ)). plane_of_parts found.said found.kept frame (k, d) o)
    (get_or-set_other found.planes i k _ None n) ∙ sym (plane-goes found frame (k, d))

set-either : {A : Type 0} (xs : List A) (i : ℕ) (x d : A)
    → (get_or (set xs i x) i d ≡ x) ⊎ (get_or (set xs i x) i d ≡ get_or xs i d)
set-either [] i x d = inr refl
set-either (y ∷ xs) zero x d = inl refl
set-either (y ∷ xs) (suc i) x d = set-either xs i x d

-- of a component that has its plane it stays
one-own : (frame : Frame) (found : Found) (i : ℕ) (c : Component) (y : List ℕ)
    → plane_at_end found frame (i, c) ≡ Ok y → plane_at_end (with_plane_shown frame found (i, c)) frame (i, c) ≡ Ok y
unfolding with_plane_shown
one-own frame found i c y e =
    plane-goes (with_plane_shown frame found (i, c)) frame (i, c)
    ∙ go (slice_index_or found.planes i None) refl (is_progressive frame.process && found.said.scanned)
    (slice_index_or found.said.quantization c.factors.quantization None)
    (sym (plane-goes found frame (i, c)) ∙ e)
  where
    by : Bool → Option (List ℕ) → Option (List ℕ) → Result (List ℕ) Fault
    by held table (Some plane) = Ok plane
    by held table None =
        check held >>= (λ _. needed table >>= (λ table. Ok (plane_by c table (get_or found.kept i []))))

    last : (t : List ℕ) (v : Option (List ℕ)) → slice_index_or found.planes i None ≡ None
        → by true (Some t) None ≡ Ok y
        → (v ≡ Some (plane_by c t (get_or found.kept i []))) ⊎ (v ≡ slice_index_or found.planes i None)
        → by true (Some t) v ≡ Ok y
    last t v s e (inl a) = ap (by true (Some t)) a ∙ e
    last t v s e (inr b) = ap (by true (Some t)) (b ∙ s) ∙ e

    go : (o : Option (List ℕ)) → slice_index_or found.planes i None ≡ o → (held : Bool) (table : Option (List ℕ))
        → by held table o ≡ Ok y
        → by held table (get_or (set found.planes i (decided o (plane_by c (unwrap_or table (replicate 64 1))
        (if held then get_or found.kept i [] else zero_of c)))) i None) ≡ Ok y
    go (Some plane) s held table e =
        ap (λ (l : List (Option (List ℕ))). by held table (get_or l i None))
        (ap (set found.planes i) (sym s) ∙ set-get_or found.planes i None) ∙ ap (by held table) s ∙ e
    go None s false table e = absurd (err-ok Malformed y e)
    go None s true None e = absurd (err-ok Malformed y e)
    go None s true (Some t) e =
        last t (get_or (set found.planes i (Some (plane_by c t (get_or found.kept i [])))) i None) s e
        (set-either found.planes i (Some (plane_by c t (get_or found.kept i []))) None)

pub one-stays : (frame : Frame) (found : Found) (i : ℕ) (c : Component)
    → Stays found (with_plane_shown frame found (i, c)) i
unfolding with_plane_shown
one-stays frame found i c = record {
  said = refl;
  kept = refl;
  count = length-set found.planes i _;
  planes = λ k lt. get_or-set_other found.planes i k _ None (λ e. absurd (omega arith));
}

stays-on : (a b c : Found) (i j : ℕ) → i ≤ j → Stays a b i → Stays b c j → Stays a c i
stays-on a b c i j le p q = record {
  said = q.said ∙ p.said;
  kept = q.kept ∙ p.kept;
  count = q.count ∙ p.count;
  planes = λ k lt. q.planes k (omega arith) ∙ p.planes k lt;
}

abbrev pub all_shown : Frame → Found → ℕ → List Component → Found
all_shown frame found i cs = fold (with_plane_shown frame) found (enumerate_from i cs)

pub all-stay : (frame : Frame) (cs : List Component) (i : ℕ) (found : Found) → Stays found (all_shown frame found i cs) i
all-stay frame [] i found = record { said = refl; kept = refl; count = refl; planes = λ k lt. refl }
all-stay frame (c ∷ cs) i found =
    stays-on found (with_plane_shown frame found (i, c)) _ i (i + 1) (omega arith) (one-stays frame found i c)
    (all-stay frame cs (i + 1) (with_plane_shown frame found (i, c)))

-- planes from a later index on are gathered as before
others-gathered : (frame : Frame) (found : Found) (i : ℕ) (c : Component) (cs : List Component) (j : ℕ) → i < j
    → gathered (plane_at_end (with_plane_shown frame found (i, c)) frame) (enumerate_from j cs)
    ≡ gathered (plane_at_end found frame) (enumerate_from j cs)
unfolding gathered
others-gathered frame found i c [] j lt = refl
others-gathered frame found i c (d ∷ cs) j lt =
    rw (
      one-other frame found i j c d (λ e. absurd (omega arith)),
      others-gathered frame found i c cs (j + 1) (omega arith),
    )
    refl

-- Planes that are all there stay where they are completed.
planes-stay : (frame : Frame) (cs : List Component) (i : ℕ) (found : Found) (planes : List (List ℕ))
    → gathered (plane_at_end found frame) (enumerate_from i cs) ≡ Ok planes
    → gathered (plane_at_end (all_shown frame found i cs) frame) (enumerate_from i cs) ≡ Ok planes
unfolding gathered
planes-stay frame [] i found planes e = e
planes-stay frame (c ∷ cs) i found planes e =
    let first = bind-ok (plane_at_end found frame (i, c)) _ planes e in
    let others = bind-ok (gathered (plane_at_end found frame) (enumerate_from (i + 1) cs)) _ planes first.2 in
    let one = with_plane_shown frame found (i, c) in
    let own = plane-stays one (all_shown frame one (i + 1) cs) (i + 1) frame i c (all-stay frame cs (i + 1) one)
    (omega arith) ∙ one-own frame found i c first.0 first.1 in
    let more = planes-stay frame cs (i + 1) one others.0
    (others-gathered frame found i c cs (i + 1) (omega arith) ∙ others.1) in
    rw (own, more) (ap Ok (ok-same (first.0 ∷ others.0) planes others.2))

-- ---- samples

some-needed : (o : Option (List ℕ)) (x y : List ℕ) → needed o ≡ Ok y → decided o x ≡ o
some-needed (Some z) x y e = refl
some-needed None x y e = absurd (err-ok Malformed y e)

one-held : (frame : Frame) (found : Found) (i : ℕ) (c : Component) (y : List ℕ)
    → needed (slice_index_or found.samples i None) ≡ Ok y → with_samples_shown frame found (i, c) ≡ found
unfolding with_samples_shown
one-held frame found i c y e =
    ap (λ (l : List (Option (List ℕ))). record found { samples = l })
    (ap (set found.samples i) (some-needed (slice_index_or found.samples i None) _ y e)
    ∙ set-get_or found.samples i None)

abbrev sample_of : Found → ℕ × Component → Result (List ℕ) Fault
sample_of found c = needed (slice_index_or found.samples c.0 None)

samples-held : (frame : Frame) (cs : List Component) (i : ℕ) (found : Found) (planes : List (List ℕ))
    → gathered (sample_of found) (enumerate_from i cs) ≡ Ok planes
    → fold (with_samples_shown frame) found (enumerate_from i cs) ≡ found
unfolding gathered
samples-held frame [] i found planes e = refl
samples-held frame (c ∷ cs) i found planes e =
    let first = bind-ok (sample_of found (i, c)) _ planes e in
    let others = bind-ok (gathered (sample_of found) (enumerate_from (i + 1) cs)) _ planes first.2 in
    ap (λ (g : Found). fold (with_samples_shown frame) g (enumerate_from (i + 1) cs))
    (one-held frame found i c first.0 first.1)
    ∙ samples-held frame cs (i + 1) found others.0 others.1

-- ---- the picture

-- what was found, completed by a process
abbrev complete_by : CodingProcess → Found → Frame → Found
complete_by process found frame = fold (shown_by process frame) found (enumerate_from 0 frame.components)

blocks-same : (settings : Settings) (found : Found) (frame : Frame) (planes : List (List ℕ))
    → gathered (plane_at_end found frame) (enumerate_from 0 frame.components) ≡ Ok planes
    → blocks_picture settings (all_shown frame found 0 frame.components) frame ≡ blocks_picture settings found frame
unfolding blocks_picture
blocks-same settings found frame planes e =
    let s = all-stay frame frame.components 0 found in
    let later = planes-stay frame frame.components 0 found planes e in
    rw (e, later, s.said) refl

pictures-same : (process : CodingProcess) (settings : Settings) (found : Found) (frame : Frame)
    (planes : List (List ℕ)) → planes_by process found frame ≡ Ok planes
    → ((complete_by process found frame).said ≡ found.said)
    × (picture_by_process process settings (complete_by process found frame) frame
    ≡ picture_by_process process settings found frame)
pictures-same DctSequential settings found frame planes e =
    ((all-stay frame frame.components 0 found).said, blocks-same settings found frame planes e)
pictures-same DctProgressive settings found frame planes e =
    ((all-stay frame frame.components 0 found).said, blocks-same settings found frame planes e)
pictures-same Lossless settings found frame planes e =
    let s = samples-held frame frame.components 0 found planes e in (
      ap (λ (g : Found). g.said) s,
      ap (λ (g : Found). picture_by_process Lossless settings g frame) s,
    )

-- Where each component has its plane or its samples, the picture of what was found isn't changed by completing it.
pub completed-same : (settings : Settings) (found : Found) (frame : Frame) (planes : List (List ℕ))
    → found.said.frame ≡ Some frame → planes_by frame.process found frame ≡ Ok planes
    → picture_of settings (completed found frame) ≡ picture_of settings found
unfolding picture_of completed
completed-same settings found frame planes f e =
    let same = pictures-same frame.process settings found frame planes e in
    limited-at settings (completed found frame).said frame _ (ap (λ (w : Said). w.frame) same.0 ∙ f)
    ∙ ap (within settings frame) same.1 ∙ sym (limited-at settings found.said frame _ f)
