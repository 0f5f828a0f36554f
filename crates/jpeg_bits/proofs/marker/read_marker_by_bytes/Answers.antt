use Rattle.std.proofs.Common.{rules, ◌≡◌, ◌∷◌, ℕ, List, None}
use Rattle.jpeg_bits.specs.Marker.{marker_at, next_marker}
use Rattle.jpeg_bits.specs.declared.marker.Marker.{Marker}
use Rattle.jpeg_bits.proofs.Loops.{Continues, Continues-answers, Continues-room, marker-missed}
use Rattle.jpeg_bits.proofs.marker.read_marker_by_bytes.Given as given
use Rattle.jpeg_bits.proofs.marker.read_marker_by_bytes.Goals as goal
use Rattle.jpeg_bits.proofs.marker.read_marker_by_bytes.Goals.{After-find_marker}

missed : (g : given.Over) (c : After-find_marker g) → Continues next_marker c.args.source.now
    (λ (bs : List ℕ). next_marker (c.in_ok-second.second ∷ bs)) c.read_u8-2.new.source
missed g c =
    let none : marker_at c.in_ok-first.first c.in_ok-second.second ≡ None = search rules in
    marker-missed _ c.read_u8.new.source _ _ _ none c.in_ok-first.ensures.answers c.in_ok-second.ensures.answers

pub returns-in-None-clause-answers : goal.returns-in-None-clause-answers
returns-in-None-clause-answers g c = Continues-answers (λ (m : Marker). m) next_marker
    (λ (bs : List ℕ). next_marker (c.in_ok-second.second ∷ bs)) c.args.source.now c.read_u8-2.new.source
    c.find_marker.new.source c.find_marker.result (missed g c) c.find_marker.ensures.answers

pub returns-in-None-clause-room : goal.returns-in-None-clause-room
returns-in-None-clause-room g c known no_room = Continues-room next_marker
    (λ (bs : List ℕ). next_marker (c.in_ok-second.second ∷ bs)) c.args.source.now c.read_u8-2.new.source (missed g c)
    (λ k. c.find_marker.ensures.room k no_room) known
