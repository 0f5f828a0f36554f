-- Pictures of what was found with the same first rows of blocks have the same first rows.
use Rattle.std.proofs.Common.{◌≡◌, ◌≢◌, ℕ, suc, ◌+◌, ◌≤◌, ◌&&◌, Bool, true, false, List, [], ◌∷◌}
use Rattle.std.proofs.Common.{get_or, Option, Some, None, Result, Ok, Err, refl, sym, ap, ◌∙◌, subst, arith}
use Rattle.std.proofs.Common.{if◌then◌else◌, replicate, nat_lt}
use Rattle.std.specs.Prelude.{slice_index_or, unwrap_or}
use Rattle.std.specs.List.{enumerate_from}
use Rattle.jpeg_bits.specs.Passes.{Block}
use Rattle.jpeg_bits.specs.Reading.{Fault, Malformed, ◌>>=◌}
use Rattle.jpeg_segments.specs.Checks.{check, gathered, needed}
use Rattle.jpeg_segments.specs.Frame.{Component, Frame}
use Rattle.jpeg_segments.specs.Scales.{IsSizedFrame}
use Rattle.jpeg_segments.specs.declared.frame.CodingProcess.TheVariants.{Lossless}
use Rattle.jpeg_segments.proofs.Codecs.{bind-ok, err-ok, ok-same}
use Rattle.jpeg_meaning.specs.declared.settings.Settings.{Settings}
use Rattle.jpeg_meaning.specs.Found.{Found, Said}
use Rattle.jpeg_meaning.specs.FoundPictures.{blocks_picture, picture_by, picture_by_process, picture_of, plane_at_end}
use Rattle.jpeg_meaning.specs.Rasters.{plane_by}
use Rattle.jpeg_meaning.specs.Scans.{zero_of}
use Rattle.jpeg_meaning.specs.ScanSegments.{is_progressive}
use Rattle.jpeg_meaning.specs.Shown.{blocks_held, completed, picture_shown, table_held, with_plane_shown}
use Rattle.jpeg_meaning.proofs.Order.Apart.{At, at-one}
use Rattle.jpeg_meaning.proofs.Partial.CompletedPictures.{all_shown, plane-goes, plane_of_parts}
use Rattle.jpeg_meaning.proofs.Pictures.LimitedPictures.{limited-at, samples_of, within}
use Rattle.jpeg_meaning.proofs.Written.WrittenPictures.{lossy-picture}
use Rattle.jpeg_evidence.specs.CompleteRows.{BeginAlike, first_rows}
use Rattle.jpeg_evidence.proofs.Cut.CutPictures.{lossy-completed}
use Rattle.jpeg_evidence.proofs.Rows.AlikeStates.{Alike, Begin, BlocksBegin, BothBegin, KeptAt, PlaneAt}
use Rattle.jpeg_evidence.proofs.Rows.AlikeStates.{both-decided, pairs-get, pairs-set}
use Rattle.jpeg_evidence.proofs.Rows.FirstRows.{rows_of_first_lines}

module _ (frame : Frame) (rows : ℕ) where
  -- ---- what is completed

  held-begin : (f g : Found) (i : ℕ) (c : Component) → At i frame.components c → Alike frame rows f g
      → Begin frame rows c (plane_by c (table_held f c) (blocks_held f frame (i, c)))
      (plane_by c (table_held g c) (blocks_held g frame (i, c)))
  held-begin f g i c t a =
      subst (λ (w : Said). Begin frame rows c (plane_by c (table_in f.said) (blocks_in f f.said))
      (plane_by c (table_in w) (blocks_in g w))) a.said
      (go (is_progressive frame.process && f.said.scanned))
    where
      table_in : Said → List ℕ
      table_in w = unwrap_or (slice_index_or w.quantization c.factors.quantization None) (replicate 64 1)

      blocks_in : Found → Said → List Block
      blocks_in x w =
          if is_progressive frame.process && w.scanned then get_or x.kept i [] else zero_of c

      kept : KeptAt frame rows (0 + i) (get_or f.kept i []) (get_or g.kept i [])
      kept = pairs-get (KeptAt frame rows) 0 i f.kept g.kept [] a.kept (λ c t table. (refl, refl))

      go : (b : Bool) → Begin frame rows c (plane_by c (table_in f.said) (if b then get_or f.kept i [] else zero_of c))
          (plane_by c (table_in f.said) (if b then get_or g.kept i [] else zero_of c))
      go true =
          let start : i ≡ 0 + i = omega arith in
          kept c (subst (λ (n : ℕ). At n frame.components c) start t) (table_in f.said)
      go false = (refl, refl)

  one-shown : (f g : Found) (i : ℕ) (c : Component) → At i frame.components c → Alike frame rows f g
      → Alike frame rows (with_plane_shown frame f (i, c)) (with_plane_shown frame g (i, c))
  unfolding with_plane_shown
  one-shown f g i c t a = record {
    said = a.said;
    framed = a.framed;
    finished = a.finished;
    planes = pairs-set (PlaneAt frame rows) 0 i f.planes g.planes _ _ a.planes (λ d u.
        let start : 0 + i ≡ i = omega arith in
        let same : c ≡ d = at-one i frame.components c d t (subst (λ (n : ℕ). At n frame.components d) start u) in
        both-decided frame rows d _ _ _ _
        (pairs-get (PlaneAt frame rows) 0 i f.planes g.planes None a.planes (λ c t. tt) d u)
        (subst (λ (x : Component). Begin frame rows x (plane_by c (table_held f c) (blocks_held f frame (i, c)))
        (plane_by c (table_held g c) (blocks_held g frame (i, c)))) same (held-begin f g i c t a)));
    kept = a.kept;
  }

  all-alike : (cs : List Component) (i : ℕ) (f g : Found)
      → ((j : ℕ) (c : Component) → At j cs c → At (i + j) frame.components c) → Alike frame rows f g
      → Alike frame rows (all_shown frame f i cs) (all_shown frame g i cs)
  all-alike [] i f g there a = a
  all-alike (c ∷ cs) i f g there a =
      let start : i + 0 ≡ i = omega arith in
      all-alike cs (i + 1) (with_plane_shown frame f (i, c)) (with_plane_shown frame g (i, c))
      (λ j d t.
      let next : i + suc j ≡ (i + 1) + j = omega arith in
      subst (λ (n : ℕ). At n frame.components d) next (there (suc j) d t))
      (one-shown f g i c (subst (λ (n : ℕ). At n frame.components c) start (there 0 c refl)) a)

  -- ---- planes at the end

  end-begin : (f g : Found) (i : ℕ) (c : Component) (p q : List ℕ) → At i frame.components c
      → Alike frame rows f g → plane_at_end f frame (i, c) ≡ Ok p → plane_at_end g frame (i, c) ≡ Ok q
      → Begin frame rows c p q
  end-begin f g i c p q t a x y =
      go (slice_index_or f.planes i None) (slice_index_or g.planes i None)
      (pairs-get (PlaneAt frame rows) 0 i f.planes g.planes None a.planes (λ c t. tt) c here)
      (sym (plane-goes f frame (i, c)) ∙ x)
      (ap (λ (w : Said). plane_of_parts w g.kept frame (i, c) (slice_index_or g.planes i None)) a.said
      ∙ sym (plane-goes g frame (i, c)) ∙ y)
    where
      here : At (0 + i) frame.components c
      here = let start : i ≡ 0 + i = omega arith in subst (λ (n : ℕ). At n frame.components c) start t

      kept : BlocksBegin frame rows c (get_or f.kept i []) (get_or g.kept i [])
      kept = pairs-get (KeptAt frame rows) 0 i f.kept g.kept [] a.kept (λ c t table. (refl, refl)) c here

      by : (b : Bool) (o : Option (List ℕ))
          → (check b >>= (λ _. needed o >>= (λ table. Ok (plane_by c table (get_or f.kept i []))))) ≡ Ok p
          → (check b >>= (λ _. needed o >>= (λ table. Ok (plane_by c table (get_or g.kept i []))))) ≡ Ok q
          → Begin frame rows c p q
      by false o x y = absurd (err-ok Malformed p x)
      by true None x y = absurd (err-ok Malformed p x)
      by true (Some table) x y =
          subst (λ (l : List ℕ). Begin frame rows c l q) (ok-same _ p x)
          (subst (λ (l : List ℕ). Begin frame rows c (plane_by c table (get_or f.kept i [])) l) (ok-same _ q y)
          (kept table))

      go : (o u : Option (List ℕ)) → BothBegin frame rows c o u
          → plane_of_parts f.said f.kept frame (i, c) o ≡ Ok p → plane_of_parts f.said g.kept frame (i, c) u ≡ Ok q
          → Begin frame rows c p q
      go None None b x y =
          by (is_progressive frame.process && f.said.scanned)
          (slice_index_or f.said.quantization c.factors.quantization None) x y
      go (Some m) (Some n) b x y =
          subst (λ (l : List ℕ). Begin frame rows c l q) (ok-same m p x)
          (subst (λ (l : List ℕ). Begin frame rows c m l) (ok-same n q y) b)
      go None (Some n) b x y = absurd b
      go (Some m) None b x y = absurd b

  all-begin : (cs : List Component) (i : ℕ) (f g : Found) (ps qs : List (List ℕ))
      → ((j : ℕ) (c : Component) → At j cs c → At (i + j) frame.components c) → Alike frame rows f g
      → gathered (plane_at_end f frame) (enumerate_from i cs) ≡ Ok ps
      → gathered (plane_at_end g frame) (enumerate_from i cs) ≡ Ok qs → BeginAlike frame rows cs ps qs
  unfolding gathered BeginAlike
  all-begin [] i f g ps qs there a x y =
      subst (λ (l : List (List ℕ)). BeginAlike frame rows [] l qs) (ok-same [] ps x)
      (subst (λ (l : List (List ℕ)). BeginAlike frame rows [] [] l) (ok-same [] qs y) tt)
  all-begin (c ∷ cs) i f g ps qs there a x y =
      let one = bind-ok (plane_at_end f frame (i, c)) _ ps x in
      let two = bind-ok (plane_at_end g frame (i, c)) _ qs y in
      let ones = bind-ok (gathered (plane_at_end f frame) (enumerate_from (i + 1) cs)) _ ps one.2 in
      let twos = bind-ok (gathered (plane_at_end g frame) (enumerate_from (i + 1) cs)) _ qs two.2 in
      let start : i + 0 ≡ i = omega arith in
      let first = end-begin f g i c one.0 two.0
      (subst (λ (n : ℕ). At n frame.components c) start (there 0 c refl)) a one.1 two.1 in
      let more = all-begin cs (i + 1) f g ones.0 twos.0 (λ j d t.
      let next : i + suc j ≡ (i + 1) + j = omega arith in
      subst (λ (n : ℕ). At n frame.components d) next (there (suc j) d t)) a ones.1 twos.1 in
      subst (λ (l : List (List ℕ)). BeginAlike frame rows (c ∷ cs) l qs) (ok-same _ ps ones.2)
      (subst (λ (l : List (List ℕ)). BeginAlike frame rows (c ∷ cs) (one.0 ∷ ones.0) l) (ok-same _ qs twos.2)
      (first.0, first.1, more))

  -- ---- pictures

  within-ok : (settings : Settings) (o : Result (List ℕ) Fault) (x : List ℕ) → within settings frame o ≡ Ok x → o ≡ Ok x
  within-ok settings o x e =
      go (nat_lt settings.limit (samples_of settings frame)) e
    where
      go : (b : Bool) → (if b then Err Malformed else o) ≡ Ok x → o ≡ Ok x
      go true e = absurd (err-ok Malformed x e)
      go false e = e

  pub picture-made : (settings : Settings) (f : Found) (x : List ℕ) → f.said.frame ≡ Some frame
      → frame.process ≢ Lossless → picture_of settings f ≡ Ok x → blocks_picture settings f frame ≡ Ok x
  unfolding picture_of
  picture-made settings f x is lossy e =
      sym (lossy-picture settings f frame frame.process lossy)
      ∙ within-ok settings (picture_by_process frame.process settings f frame) x
      (sym (limited-at settings f.said frame _ is) ∙ e)

  blocks-first : (settings : Settings) (f g : Found) (x y : List ℕ) → IsSizedFrame frame
      → frame.process ≢ Lossless → rows ≤ frame.output_height → Alike frame rows f g → blocks_picture settings f frame ≡ Ok x
      → blocks_picture settings g frame ≡ Ok y → first_rows settings frame rows x ≡ first_rows settings frame rows y
  unfolding blocks_picture
  blocks-first settings f g x y z lossy few a d e =
      let ps = bind-ok (gathered (plane_at_end f frame) (enumerate_from 0 frame.components)) _ x d in
      let qs = bind-ok (gathered (plane_at_end g frame) (enumerate_from 0 frame.components)) _ y e in
      let same = all-begin frame.components 0 f g ps.0 qs.0 (λ j c t.
      let start : j ≡ 0 + j = omega arith in subst (λ (n : ℕ). At n frame.components c) start t) a ps.1 qs.1 in
      rows_of_first_lines settings f.said.metadata frame rows ps.0 qs.0 x y z (λ l. absurd (lossy l)) few same ps.2
      (ap (λ (w : Said). picture_by settings w.metadata frame frame.components qs.0) a.said ∙ qs.2)

  -- The first rows that are shown of what was found.
  pub shown-first : (settings : Settings) (f g : Found) (x y : List ℕ) → IsSizedFrame frame
      → frame.process ≢ Lossless → rows ≤ frame.output_height → Alike frame rows f g
      → picture_shown settings f ≡ Ok x → picture_shown settings g ≡ Ok y
      → first_rows settings frame rows x ≡ first_rows settings frame rows y
  unfolding picture_shown completed
  shown-first settings f g x y z lossy few a d e =
      let u = all_shown frame f 0 frame.components in
      let v = all_shown frame g 0 frame.components in
      let later = all-alike frame.components 0 f g (λ j c t.
      let start : j ≡ 0 + j = omega arith in subst (λ (n : ℕ). At n frame.components c) start t) a in
      blocks-first settings u v x y z lossy few later
      (picture-made settings u x later.framed lossy (of f x a.framed d))
      (picture-made settings v y (ap (λ (w : Said). w.frame) (sym later.said) ∙ later.framed) lossy
      (of g y (ap (λ (w : Said). w.frame) (sym a.said) ∙ a.framed) e))
    where
      of : (h : Found) (x : List ℕ) → h.said.frame ≡ Some frame
          → (needed h.said.frame >>= (λ frame. picture_of settings (completed h frame))) ≡ Ok x
          → picture_of settings (all_shown frame h 0 frame.components) ≡ Ok x
      of h x is e =
          ap (picture_of settings) (sym (lossy-completed frame.process h frame lossy))
          ∙ ap (λ (o : Option Frame). needed o >>= (λ frame. picture_of settings (completed h frame))) (sym is) ∙ e
