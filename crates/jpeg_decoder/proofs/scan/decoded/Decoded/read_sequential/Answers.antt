use Rattle.std.proofs.Common.{◌≡◌, ◌∙◌, ◌*◌, ap, false, length, List, map, Option, refl, subst, sym, take, ℕ}
use Rattle.std.specs.Prelude.{option_map, OnErr}
use Rattle.jpeg_bits.specs.declared.beyond.Beyond.TheVariants.{Zeros}
use Rattle.jpeg_segments.specs.Frame.{Component}
use Rattle.jpeg_segments.specs.FrameView.{frame_in}
use Rattle.jpeg_meaning.specs.Found.{Found, nothing_found}
use Rattle.jpeg_meaning.specs.ScanSegments.{Coding, components_of}
use Rattle.jpeg_meaning.specs.Sound.{ArePlanes}
use Rattle.jpeg_decoder.specs.GrowingView.{growing_in}
use Rattle.jpeg_decoder.specs.Reaching.{is_out_of_memory}
use Rattle.jpeg_decoder.specs.Steps.{with_decoded, AreDecidedFrom}
use Rattle.jpeg_decoder.specs.Strips.{no_samples}
use Rattle.jpeg_decoder.specs.Walk.{spot_of}
use Rattle.jpeg_decoder.proofs.Partial.LostScans.{after-there}
use Rattle.jpeg_decoder.proofs.Partial.ReachedPlanes.{planes-counts, planes-lost, ReadsPlanes}
use Rattle.jpeg_decoder.proofs.Scans.DecidedScans.{others-kept}
use Rattle.jpeg_decoder.proofs.Scans.ScanData.{of-frame, planes-whole}
use Rattle.jpeg_decoder.proofs.Segments.WalkedScans.{after-walk}
use Rattle.jpeg_decoder.proofs.Strips.FirstPlanes.{made-long}
use Rattle.jpeg_decoder.proofs.scan.decoded.Decoded.read_sequential.Given as given
use Rattle.jpeg_decoder.proofs.scan.decoded.Decoded.read_sequential.Goals.{After-read_planes-met}
use Rattle.jpeg_decoder.proofs.scan.decoded.Decoded.read_sequential.Goals as goal

-- what was read of the planes of the first k components
reads : (g : given.Over) (c : After-read_planes-met g) (k : ℕ)
    → growing_in c.in_ok-planes.planes ≡ take k (no_samples c.args.scan.now.codings) → let r = c.read_planes-met in
    ReadsPlanes c.args.scan.now (frame_in c.args.frame.now) (take k (no_samples c.args.scan.now.codings))
    (growing_in r.new.planes) (option_map spot_of r.new.unread) c.args.source.now r.result r.new.source
reads g c k first =
    let r = c.read_planes-met in
    let e = r.ensures in
    subst (λ (l : List (List ℕ)). ReadsPlanes c.args.scan.now (frame_in c.args.frame.now) l (growing_in r.new.planes)
    (option_map spot_of r.new.unread) c.args.source.now r.result r.new.source) first
    (record { whole = e.planes; reached = e.reached; unread = e.unread; answers = e.answers })

-- the planes that were made: they are as many as there were, and have the samples of all blocks
abbrev size : Component → ℕ
size c = c.blocks_high * c.scale * (c.blocks_wide * c.scale)

abbrev AreWhole : ℕ → List Coding → List (List ℕ) → Type 0
AreWhole k codings made = map (λ (l : List ℕ). length l) made ≡ take k (map size (components_of codings))

made-whole : (g : given.Over) (c : After-read_planes-met g) → let b = c.args.scan.now.beyond in
    let made = growing_in c.read_planes-met.new.planes in
    (b ≡ Zeros → OnErr c.read_planes-met.result ⊥) → is_out_of_memory c.read_planes-met.result ≡ false
    → (length made ≡ length (growing_in c.in_ok-planes.planes)) × AreWhole (length made) c.args.scan.now.codings made
made-whole g c there memory =
    let codings = c.args.scan.now.codings in
    let start = growing_in c.in_ok-planes.planes in
    let made = growing_in c.read_planes-met.new.planes in
    let first = c.in_ok-planes.ensures.none in
    let all = after-there c.args.scan.now.beyond c.read_planes-met.result there memory
    (c.read_planes-met.ensures.sizes (length start) first) in
    let long = made-long (length start) codings size start made first all in
    (long, subst (λ (n : ℕ). AreWhole n codings made) (sym long) all)

-- The planes of the others are decided.
others : (g : given.Over) (c : After-read_planes-met g) → let made = growing_in c.read_planes-met.new.planes in
    length made ≡ length (growing_in c.in_ok-planes.planes)
    → AreDecidedFrom (length made) c.args.self.now.planes c.args.scan.now.codings
others g c long =
    subst (λ (n : ℕ). AreDecidedFrom n c.args.self.now.planes c.args.scan.now.codings) (sym long)
    c.in_ok-planes.ensures.decided

pub returns-then-is_lost-clause-data : goal.returns-then-is_lost-clause-data
returns-then-is_lost-clause-data g c base b =
    let at = goal.at.returns-then-is_lost-clause-data g c in
    let r = c.read_planes-met in
    let k = length (growing_in c.in_ok-planes.planes) in
    planes-lost base c.args.self.now (frame_in c.args.frame.now) c.args.scan.now k (growing_in r.new.planes)
    (option_map spot_of r.new.unread) c.args.source.now r.new.source r.result c.requires.process b.restart
    c.requires.ready (reads g at.After-read_planes-met k c.in_ok-planes.ensures.none) _ (c.if-is_lost.ensures.lost refl)
    (λ e. c.if-is_lost.ensures.memory refl (c.beyond.ensures.beyond ∙ e))

pub add_grown-requires-clause-sizes : goal.add_grown-requires-clause-sizes
add_grown-requires-clause-sizes g c =
    let at = (goal.at.add_grown-requires-clause-sizes g c).After-read_planes-met in
    (made-whole g at (λ e. c.if-is_lost.ensures.counts refl (c.beyond.ensures.beyond ∙ e))
    (c.if-is_lost.ensures.there refl)).1

pub add_grown-requires-clause-decided : goal.add_grown-requires-clause-decided
add_grown-requires-clause-decided g c =
    let at = (goal.at.add_grown-requires-clause-decided g c).After-read_planes-met in
    others g at (made-whole g at (λ e. c.if-is_lost.ensures.counts refl (c.beyond.ensures.beyond ∙ e))
    (c.if-is_lost.ensures.there refl)).0

pub add_grown-requires-clause-first : goal.add_grown-requires-clause-first
add_grown-requires-clause-first g c =
    let r = c.read_planes-met in
    λ joint. c.in_ok-planes.ensures.first
    (sym (after-there c.args.scan.now.beyond r.result
    (λ e. c.if-is_lost.ensures.counts refl (c.beyond.ensures.beyond ∙ e)) (c.if-is_lost.ensures.there refl)
    r.ensures.kind) ∙ joint)

pub returns-clause-data : goal.returns-clause-data
returns-clause-data g c base b =
    let at = (goal.at.returns-clause-data g c).After-read_planes-met in
    let r = c.read_planes-met in
    let made = growing_in r.new.planes in
    let long = (made-whole g at (λ e. c.if-is_lost.ensures.counts refl (c.beyond.ensures.beyond ∙ e))
    (c.if-is_lost.ensures.there refl)).0 in
    planes-counts base c.args.self.now (frame_in c.args.frame.now) c.args.scan.now made (option_map spot_of r.new.unread)
    c.args.source.now r.new.source r.result c.requires.process b.restart c.requires.ready
    (reads g at (length made) (c.in_ok-planes.ensures.none
    ∙ ap (λ (n : ℕ). take n (no_samples c.args.scan.now.codings)) (sym long)))
    (record c.args.self.now { kept = c.new.result }) c.add_grown.new.self c.rows_above_unread-self.result refl refl refl
    (ap (map _) c.new.ensures.items) (others g at long) c.add_grown.ensures.planes c.rows_above_unread-self.ensures

pub returns-clause-planes : goal.returns-clause-planes
returns-clause-planes g c h =
    let at = (goal.at.returns-clause-planes g c).After-read_planes-met in
    let base = nothing_found in
    let codings = c.args.scan.now.codings in
    let p = c.args.scan.now.pass in
    let frame = frame_in c.args.frame.now in
    let made = growing_in c.read_planes-met.new.planes in
    let one = with_decoded base (record c.args.self.now { kept = c.new.result }) in
    let all = made-whole g at (λ e. c.if-is_lost.ensures.counts refl (c.beyond.ensures.beyond ∙ e))
    (c.if-is_lost.ensures.there refl) in
    after-walk c.args.scan.now.beyond c.read_planes-met.result
    (subst (λ (planes : List (Option (List ℕ))). ArePlanes frame.components planes)
    (sym (ap (λ (x : Found). x.planes) (c.add_grown.ensures.planes base)
    ∙ others-kept p codings made one (others g at all.0)))
    (planes-whole frame p codings made one (of-frame frame codings c.requires.ready.of_frame) all.1 h))
