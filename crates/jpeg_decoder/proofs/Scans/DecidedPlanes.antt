-- Planes that scans decide.
use Rattle.std.proofs.Common.{◌≡◌, ℕ, Bool, true, false, List, Option, Some, None, arith}
use Rattle.std.proofs.lemmas.List.{set-get_or}
use Rattle.std.specs.Prelude.{slice_set, slice_index_or}
use Rattle.jpeg_bits.specs.Passes.{Pass}
use Rattle.jpeg_meaning.specs.Found.{Found}
use Rattle.jpeg_decoder.specs.Steps.{decided_planes, is_wanted, marks_after, with_its_plane}
use Rattle.std.proofs.lemmas.Grind.{common_steps}

pub planes_kept : (marks : List Bool) (index : ℕ) (plane : List ℕ) (planes : List (Option (List ℕ)))
    → is_wanted marks (slice_index_or planes index None) ≡ false → decided_planes marks index plane
    planes ≡ planes
unfolding decided_planes
planes_kept marks index plane planes h = grind (arith, common_steps, set-get_or)

-- a component whose plane isn't wanted
pub its_plane_kept : (p : Pass) (index : ℕ) (plane : List ℕ) (found : Found) (finished : List (List
    Bool))
    (planes : List (Option (List ℕ)))
    → finished ≡ slice_set found.finished index (marks_after p found.finished index) → planes ≡
    found.planes
    → is_wanted (marks_after p found.finished index) (slice_index_or found.planes index None) ≡
    false
    → record found { finished = finished; planes = planes } ≡ with_its_plane p index plane found
unfolding with_its_plane
its_plane_kept p index plane found finished planes e k h = grind (arith, common_steps, planes_kept)

-- and one whose plane is
pub its_plane_set : (p : Pass) (index : ℕ) (plane : List ℕ) (found : Found) (finished : List (List
    Bool))
    (planes : List (Option (List ℕ)))
    → finished ≡ slice_set found.finished index (marks_after p found.finished index)
    → planes ≡ slice_set found.planes index (Some plane)
    → is_wanted (marks_after p found.finished index) (slice_index_or found.planes index None) ≡ true
    → record found { finished = finished; planes = planes } ≡ with_its_plane p index plane found
unfolding with_its_plane decided_planes
its_plane_set p index plane found finished planes e k h = grind (arith, common_steps)

pub ruleset plane_rules = (its_plane_kept, its_plane_set)
