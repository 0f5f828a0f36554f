-- What is found where only the luma of a picture is shown, and its other components have planes
-- before scans are read: a plane that is there stays, so that no scan makes one of them.
use Rattle.std.specs.Prelude.{◌≡◌, ◌<◌, ℕ, ◌&&◌, ◌||◌, not, is_some, List, [], ◌∷◌, length}
use Rattle.std.specs.Prelude.{Bool, true, false, Option, Some, None, Result, replicate}
use Rattle.std.specs.Prelude.{get_or, slice_index_or}
use Rattle.std.specs.List.{enumerate_from, list_all}
use Rattle.jpeg_bits.specs.Reading.{Fault, Outcome, ◌>>=◌}
use Rattle.jpeg_segments.specs.Checks.{check, needed}
use Rattle.jpeg_segments.specs.Frame.{Frame, Component}
use Rattle.jpeg_segments.specs.declared.frame.CodingProcess.TheVariants.{Lossless}
use Rattle.jpeg_meaning.specs.EndPlanes.{is_kept}
use Rattle.jpeg_meaning.specs.declared.settings.Settings.{Settings}
use Rattle.jpeg_meaning.specs.Found.{Found, Said, none_finished}
use Rattle.jpeg_meaning.specs.FoundPictures.{picture_of}
use Rattle.jpeg_meaning.specs.Sound.{IsPlaneOf}
use Rattle.jpeg_meaning.specs.Stream.{Told, rest_showing}

-- The picture of a frame is the luma of several components of blocks.
pub record ShowsLuma (settings : Settings) (frame : Frame) : Type 0 where
  pub luma : settings.luma ≡ true
  pub blocks : frame.process ≡ Lossless → ⊥
  pub several : 1 < length frame.components

-- planes, with these in place of those after the first
abbrev pub with_others : List (Option (List ℕ)) → List (Option (List ℕ)) → List (Option (List ℕ))
with_others others [] = []
with_others others (first ∷ more) = first ∷ others

-- what was found, with these planes in place of those of the components after the first
abbrev pub beside : List (Option (List ℕ)) → Found → Found
beside others found = record found { planes = with_others others found.planes }

-- the planes of three components
abbrev pub three_planes : List ℕ → List ℕ → List ℕ → List (Option (List ℕ))
three_planes second third fourth = Some second ∷ Some third ∷ Some fourth ∷ []

-- not all of them are finished
abbrev pub is_unfinished : List Bool → Bool
is_unfinished marks = not (list_all (λ mark. mark) marks)

-- No plane is decided, and of no component all indices are finished.
pub record IsUndecided (planes : List (Option (List ℕ))) (finished : List (List Bool)) : Type 0
  where
    pub none : planes ≡ replicate 4 None
    pub count : length finished ≡ 4
    pub unfinished : list_all is_unfinished finished ≡ true

-- a plane of the component at an index, where there is one
abbrev pub IsPlaneAt : List Component → ℕ → List ℕ → Type 0
IsPlaneAt cs index plane =
    (d : Component) → index < length cs → IsPlaneOf (get_or cs index d) (Some plane)

-- All components but the first have planes now.
pub record HaveOthers (old new : List (Option (List ℕ))) : Type 0 where
  pub second : List ℕ
  pub third : List ℕ
  pub fourth : List ℕ
  pub made : new ≡ with_others (three_planes second third fourth) old

-- All components but the first have planes now, which the picture doesn't show.
pub record AreSpared (settings : Settings) (old new : Found) : Type 0 where
  pub frame : Frame
  pub framed : old.said.frame ≡ Some frame
  pub luma : ShowsLuma settings frame
  pub undecided : IsUndecided old.planes old.finished
  pub others : HaveOthers old.planes new.planes
  pub made : new ≡ record old { planes = new.planes }

-- where they are; else nothing has changed
abbrev pub IfSpared : Bool → Settings → Found → Found → Type 0
IfSpared true settings old new = AreSpared settings old new
IfSpared false settings old new = new ≡ old

-- Scans have brought a component: all indices of its blocks are finished; or blocks are kept, and
-- its quantization table is there.
abbrev pub is_component_sent : Bool → Bool → Said → Component → Bool
is_component_sent finished kept said c =
    finished || (kept && is_some (slice_index_or said.quantization c.factors.quantization None))

-- the component beside its index in the frame
abbrev pub is_sent : Found → Frame → ℕ × Component → Bool
is_sent found frame c =
    is_component_sent (list_all (λ mark. mark) (slice_index_or found.finished c.0 none_finished))
    (is_kept found frame) found.said c.1

-- they have brought all
abbrev pub are_sent : Found → Frame → Bool
are_sent found frame = list_all (is_sent found frame) (enumerate_from 0 frame.components)

-- the picture of what was found, of a frame whose components have all been brought
unfoldable pub sent_picture : Settings → Found → Result (List ℕ) Fault
sent_picture settings found = do
  frame ← needed found.said.frame
  _ ← check (are_sent found frame)
  picture_of settings found

-- the picture of what was found, where planes are spared or not
abbrev pub shown_picture : Bool → Settings → Found → Result (List ℕ) Fault
shown_picture true settings found = sent_picture settings found
shown_picture false settings found = picture_of settings found

-- the rest of a stream after its header, where planes are spared or not
abbrev pub shown_rest : Bool → Settings → Found → List ℕ → Outcome (Told × List ℕ)
shown_rest spared settings found bytes =
    rest_showing settings.max_blocks (shown_picture spared settings) found bytes
