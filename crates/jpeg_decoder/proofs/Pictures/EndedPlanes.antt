-- The planes of a frame's components at the end of an image, one after the other.
use Rattle.std.proofs.Common.{◌≡◌, ◌<◌, ◌≤◌, ℕ, zero, suc, ◌+◌, ◌*◌, Bool, true, List, [], ◌∷◌}
use Rattle.std.proofs.Common.{◌++◌, sym, ap, ◌∙◌, length, get_or, map, drop, drop_of_length-le}
use Rattle.std.proofs.Common.{arith, Option, Some, None, Ok, rules, slice_index_or}
use Rattle.std.specs.List.{AllByRecursion, enumerate_from}
use Rattle.std.proofs.lemmas.Bool.{eqb-true}
use Rattle.std.proofs.lemmas.List.{append_assoc, append-nil, get_or-drop, get_or-map}
use Rattle.std.proofs.lemmas.List.{length-drop, length-map}
use Rattle.jpeg_bits.specs.Passes.{Block}
use Rattle.jpeg_segments.specs.Frame.{Frame, Component}
use Rattle.jpeg_bits.specs.Reading.{Names}
use Rattle.jpeg_bits.specs.declared.error.Error.{Error}
use Rattle.jpeg_segments.specs.Checks.{gathered}
use Rattle.jpeg_decoder.proofs.ReadLists.{dropped}
use Rattle.jpeg_segments.proofs.Gathered.{Gathers, gathers-more, gathers-refused, numbered}
use Rattle.std.proofs.lemmas.List.FromFn.{length-enumerate_from}
use Rattle.jpeg_segments.specs.Scales.{component_at, frame_at}
use Rattle.jpeg_pixels.specs.Pictures.{AreWhole}
use Rattle.jpeg_pixels.specs.Scaled.{IsScale}
use Rattle.jpeg_meaning.specs.EndPlanes.{AreBlocksOf, blocks_if, is_kept, plane_or}
use Rattle.jpeg_meaning.specs.InTurn.{AreArrays}
use Rattle.jpeg_meaning.specs.Scans.{Arrays}
use Rattle.jpeg_meaning.specs.Sound.{ArePlanes, IsDecodedFrame, IsPlaneOf, IsSound}
use Rattle.jpeg_meaning.specs.FoundPictures.{plane_at_end}
use Rattle.jpeg_meaning.specs.ScanSegments.{arrays_before}
use Rattle.jpeg_meaning.specs.Found.{Found}
use Rattle.std.proofs.lemmas.Grind.{common_steps}

-- ---- what is left after some indices

-- Lists that are the same from an index on are so there.
pub same-at : {A : Type 0} (xs ys : List A) (i : ℕ) (d : A) → drop i xs ≡ drop i ys → get_or xs i d ≡ get_or ys i d
same-at xs ys i d e = grind (arith, common_steps, get_or-drop)

pub same-within : {A : Type 0} (xs ys : List A) (i : ℕ) → drop i xs ≡ drop i ys → i < length ys → i < length xs
same-within xs ys i e h = omega (arith, length-drop i xs, length-drop i ys, ap length e)

-- an element by what a caller sees of it
pub mapped-or : {A B : Type 0} (f : A → B) (xs : List A) (i : ℕ) (x d : A) (e : B) → i < length xs → x ≡ get_or xs i d
    → f x ≡ get_or (map f xs) i e
mapped-or f xs i x d e h is = ap f is ∙ sym (get_or-map f xs i d e h)

pub none-left : {A B : Type 0} (f : A → B) (xs : List A) (i : ℕ) → length xs ≤ i → drop i (map f xs) ≡ []
none-left f xs i h = drop_of_length-le (map f xs) (omega (arith, length-map xs f, h))

-- ---- all blocks

-- what this many planes make whole, with those after them
abbrev pub AreWholeWith : List Component → ℕ → List (List ℕ) → Type 0
AreWholeWith cs index front =
    (others : List (List ℕ)) → AreWhole (drop index cs) others → AreWhole cs (front ++ others)

pub whole-all : (cs : List Component) (index : ℕ) (front : List (List ℕ)) → AreWholeWith cs index front
    → drop index cs ≡ [] → AreWhole cs front
unfolding AreWhole
whole-all cs index front old e = let h = old [] (rw e tt) in rw append-nil at h

-- ---- what is known at an index

pub plane-at : (cs : List Component) (planes : List (Option (List ℕ))) (i : ℕ) (d : Component) → ArePlanes cs planes
    → i < length cs → IsPlaneOf (get_or cs i d) (get_or planes i None)
unfolding ArePlanes
plane-at (c ∷ cs) (plane ∷ planes) zero d p h = p.0
plane-at (c ∷ cs) (plane ∷ planes) (suc i) d p h = plane-at cs planes i d p.1 (omega arith)
plane-at _ _ i d p h = grind (arith, common_steps)

blocks-at : (cs : List Component) (arrays : Arrays) (i : ℕ) (d : Component) → AreArrays cs arrays → i < length cs
    → length (get_or arrays i []) ≡ (get_or cs i d).blocks_high * (get_or cs i d).blocks_wide
unfolding AreArrays
blocks-at (c ∷ cs) (blocks ∷ arrays) zero d p h = p.0
blocks-at (c ∷ cs) (blocks ∷ arrays) (suc i) d p h = blocks-at cs arrays i d p.1 (omega arith)
blocks-at _ _ i d p h = grind (arith, common_steps)

pub kept-arrays : (found : Found) (frame : Frame) → AreArrays frame.components (arrays_before found frame)
    → is_kept found frame ≡ true → AreArrays frame.components found.kept
unfolding arrays_before
kept-arrays found frame p h = grind (arith, common_steps)

arrays-count : (cs : List Component) (arrays : Arrays) → AreArrays cs arrays → length cs ≤ length arrays
unfolding AreArrays
arrays-count (c ∷ cs) (blocks ∷ arrays) p = omega (arith, arrays-count cs arrays p.1)
arrays-count _ _ p = grind (arith, common_steps)

pub kept-blocks : (found : Found) (frame : Frame) (i : ℕ) (d : Component)
    → AreArrays frame.components (arrays_before found frame) → i < length frame.components
    → AreBlocksOf (get_or frame.components i d) (blocks_if (is_kept found frame) found.kept i)
kept-blocks found frame i d p h = grind (arith, common_steps, blocks-at, kept-arrays)

-- ---- the components of a frame are at a scale

scaled-components : (s width height h v : ℕ) (cs : List Component) → IsScale s
    → AllByRecursion (λ c. IsScale c.scale) (map (component_at s width height h v) cs)
unfolding component_at
scaled-components s width height h v [] p = tt
scaled-components s width height h v (c ∷ cs) p = (p, scaled-components s width height h v cs p)

scaled-frame : (s : ℕ) (f : Frame) → IsScale s → AllByRecursion (λ c. IsScale c.scale) (frame_at s f).components
unfolding frame_at
scaled-frame s f p = scaled-components s f.width f.height _ _ f.components p

pub decoded-scales : (f : Frame) → IsDecodedFrame f → AllByRecursion (λ c. IsScale c.scale) f.components
decoded-scales f p = grind (arith, common_steps, scaled-frame, eqb-true)

pub element : (P : Component → Type 0) (cs : List Component) (i : ℕ) (d : Component) → AllByRecursion P cs
    → i < length cs → P (get_or cs i d)
element P (c ∷ cs) zero d p h = p.0
element P (c ∷ cs) (suc i) d p h = element P cs i d p.1 (omega arith)
element P _ i d p h = absurd (omega arith)

-- ---- at an index of what was found

pub reached-kept : (found : Found) (frame : Frame) (index : ℕ) (kept : Arrays) → IsSound found
    → found.said.frame ≡ Some frame → index < length frame.components → drop index kept ≡ drop index found.kept
    → is_kept found frame ≡ true → index < length kept
reached-kept found frame index kept s f h e b = search (rules, arith, arrays-count, kept-arrays, same-within)

blocks-same : (b : Bool) (kept old : Arrays) (index : ℕ) → drop index kept ≡ drop index old
    → blocks_if b kept index ≡ blocks_if b old index
blocks-same b kept old index e = grind (arith, common_steps, same-at)

-- What is taken for a component of the frame, where its plane and its blocks are left.
pub record IsTaken (found : Found) (frame : Frame) (index : ℕ) (c : Component) (plane : Option (List ℕ))
    (blocks : Option (List Block)) : Type 0 where
  pub within : index < length frame.components
  pub seen : c ≡ get_or frame.components index c
  pub plane_is : plane ≡ get_or found.planes index None
  pub blocks_is : blocks ≡ blocks_if (is_kept found frame) found.kept index

pub taken : {found : Found} {frame : Frame} {index : ℕ} {c : Component} {plane : Option (List ℕ)}
    {blocks : Option (List Block)} (planes : List (Option (List ℕ))) (kept : Arrays) (b : Bool)
    → index < length frame.components → c ≡ get_or frame.components index c
    → drop index planes ≡ drop index found.planes → plane ≡ get_or planes index None
    → drop index kept ≡ drop index found.kept → b ≡ is_kept found frame → blocks ≡ blocks_if b kept index
    → IsTaken found frame index c plane blocks
taken planes kept b h e left is kept_left kept_is given = record {
  within = h;
  seen = e;
  plane_is = grind (arith, common_steps, same-at);
  blocks_is = grind (arith, common_steps, blocks-same);
}

module _ {found : Found} {frame : Frame} {index : ℕ} {c : Component} {plane : Option (List ℕ)}
    {blocks : Option (List Block)} (t : IsTaken found frame index c plane blocks) where
  pub taken-plane : IsSound found → found.said.frame ≡ Some frame → IsPlaneOf c plane
  taken-plane s f =
      let at = plane-at frame.components found.planes index c (s.planes frame f) t.within in
      grind (arith, common_steps)

  pub taken-blocks : IsSound found → found.said.frame ≡ Some frame → AreBlocksOf c blocks
  taken-blocks s f =
      let at = kept-blocks found frame index c (s.kept frame f) t.within in
      grind (arith, common_steps)

  pub taken-scale : IsSound found → found.said.frame ≡ Some frame → IsScale c.scale
  taken-scale s f =
      let at = element (λ x. IsScale x.scale) frame.components index c (decoded-scales frame (s.frames frame f)) t.within in
      grind (arith, common_steps)

  -- its plane, one of those that are gathered
  taken-end : get_or (enumerate_from 0 frame.components) index (0, c) ≡ (index, c)
  taken-end = numbered frame.components index c c t.within t.seen

  end : (table : Option (List ℕ)) → table ≡ slice_index_or found.said.quantization c.factors.quantization None
      → plane_at_end found frame (get_or (enumerate_from 0 frame.components) index (0, c)) ≡ plane_or c table plane blocks
  unfolding plane_at_end
  end table e = rw taken-end (grind (arith, common_steps))

  counted : index < length (enumerate_from 0 frame.components)
  counted = rw (length-enumerate_from 0 frame.components) t.within

  pub taken-more : (table : Option (List ℕ)) (front new : List (List ℕ)) (x : List ℕ)
      → table ≡ slice_index_or found.said.quantization c.factors.quantization None
      → plane_or c table plane blocks ≡ Ok x → new ≡ front ++ x ∷ []
      → Gathers (plane_at_end found frame) (enumerate_from 0 frame.components) index front
      → Gathers (plane_at_end found frame) (enumerate_from 0 frame.components) (index + 1) new
  taken-more table front new x q is joins g =
      gathers-more _ _ index (0, c) x front new counted (end table q ∙ is) joins g

  pub taken-refused : (table : Option (List ℕ)) (front : List (List ℕ)) (e : Error)
      → table ≡ slice_index_or found.said.quantization c.factors.quantization None
      → Names e (plane_or c table plane blocks)
      → Gathers (plane_at_end found frame) (enumerate_from 0 frame.components) index front
      → Names e (gathered (plane_at_end found frame) (enumerate_from 0 frame.components))
  taken-refused table front e q n g = gathers-refused _ _ index (0, c) e front counted (rw (end table q) n) g

  pub taken-whole : (front new : List (List ℕ)) (x : List ℕ) → AreWholeWith frame.components index front
      → IsPlaneOf c (Some x) → new ≡ front ++ x ∷ [] → AreWholeWith frame.components (index + 1) new
  unfolding AreWhole
  taken-whole front new x old l joined =
      let at = dropped frame.components index c t.within t.seen in
      grind (arith, common_steps, append_assoc)
