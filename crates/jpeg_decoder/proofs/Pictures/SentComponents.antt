-- Whether scans have brought the components of a frame, one after the other.
use Rattle.std.proofs.Common.{◌≡◌, ◌≤◌, ◌<◌, ℕ, ◌+◌, Bool, true, false, List, length, get_or, take, ap, sym, ◌∙◌}
use Rattle.std.proofs.Common.{subst}
use Rattle.std.specs.Prelude.{◌&&◌, slice_index_or}
use Rattle.std.specs.List.{enumerate_from, list_all}
use Rattle.std.proofs.lemmas.List.{take_all}
use Rattle.std.proofs.lemmas.List.Folds.{list_all_at, list_all_more}
use Rattle.std.proofs.lemmas.List.FromFn.{length-enumerate_from}
use Rattle.jpeg_segments.proofs.Gathered.{numbered}
use Rattle.jpeg_segments.specs.Frame.{Component, Frame}
use Rattle.jpeg_meaning.specs.EndPlanes.{is_kept}
use Rattle.jpeg_meaning.specs.Found.{Found, none_finished}
use Rattle.jpeg_decoder.specs.Spared.{are_sent, is_component_sent, is_sent}

-- the components that were looked at so far
abbrev pub AreSentTo : ℕ → Found → Frame → Type 0
AreSentTo index found frame =
    list_all (is_sent found frame) (take index (enumerate_from 0 frame.components)) ≡ true

-- What is seen of the component at an index.
pub record IsSeen (found : Found) (frame : Frame) (index : ℕ) (c : Component) (whole kept : Bool) : Type 0 where
  pub within : index < length frame.components
  pub there : c ≡ get_or frame.components index c
  pub finished : whole ≡ list_all (λ mark. mark) (slice_index_or found.finished index none_finished)
  pub keeps : kept ≡ is_kept found frame

module _ {found : Found} {frame : Frame} {index : ℕ} {c : Component} {whole kept : Bool}
    (s : IsSeen found frame index c whole kept) where
  at-index : get_or (enumerate_from 0 frame.components) index (0, c) ≡ (index, c)
  at-index = numbered frame.components index c c s.within s.there

  sent-at : is_sent found frame (get_or (enumerate_from 0 frame.components) index (0, c))
      ≡ is_component_sent whole kept found.said c
  sent-at =
      ap (is_sent found frame) at-index
      ∙ sym (ap (λ (b : Bool). is_component_sent b kept found.said c) s.finished
      ∙ ap (λ (b : Bool). is_component_sent
      (list_all (λ mark. mark) (slice_index_or found.finished index none_finished)) b found.said c) s.keeps)

  counted : index < length (enumerate_from 0 frame.components)
  counted = subst (λ (n : ℕ). index < n) (sym (length-enumerate_from 0 frame.components)) s.within

  pub sent-more : is_component_sent whole kept found.said c ≡ true → AreSentTo index found frame
      → AreSentTo (index + 1) found frame
  sent-more h old =
      list_all_more (is_sent found frame) (enumerate_from 0 frame.components) index (0, c) counted
      ∙ ap (λ (b : Bool). b && is_sent found frame (get_or (enumerate_from 0 frame.components) index (0, c))) old
      ∙ sent-at ∙ h

  pub sent-lacks : is_component_sent whole kept found.said c ≡ false → are_sent found frame ≡ false
  sent-lacks h =
      list_all_at (is_sent found frame) (enumerate_from 0 frame.components) index (0, c) counted (sent-at ∙ h)

pub sent-all : (found : Found) (frame : Frame) (index : ℕ) → length frame.components ≤ index
    → AreSentTo index found frame → are_sent found frame ≡ true
sent-all found frame index h all =
    let long : length (enumerate_from 0 frame.components) ≤ index
    = subst (λ (n : ℕ). n ≤ index) (sym (length-enumerate_from 0 frame.components)) h in
    subst (λ (xs : List (ℕ × Component)). list_all (is_sent found frame) xs ≡ true)
    (take_all index (enumerate_from 0 frame.components) long) all
