use Rattle.std.proofs.Common.{◌≡◌, ◌<◌, ◌∷◌, ◌++◌, ◌∙◌, ℕ, List, [], Option, None, Some, Vec, Global, ap, refl, sym}
use Rattle.std.proofs.Common.{arith, drop, get_or, length, map, rules}
use Rattle.std.specs.Prelude.{option_map}
use Rattle.std.proofs.lemmas.List.{drop-set-lt, map-append, map-set}
use Rattle.std.proofs.lemmas.List.FromFn.{length-enumerate_from}
use Rattle.std.specs.List.{enumerate_from}
use Rattle.std.proofs.lemmas.Grind.{common_steps, drop_more_same}
use Rattle.std.proofs.lemmas.Result.{err_from_is_err_and}
use Rattle.jpeg_bits.specs.Reading.{Malformed}
use Rattle.jpeg_segments.specs.Checks.{needed}
use Rattle.jpeg_segments.specs.Frame.{Component}
use Rattle.jpeg_segments.specs.FrameView.{component_in}
use Rattle.jpeg_decoder.specs.PlanesView.{planes_in}
use Rattle.jpeg_decoder.proofs.Pictures.EndedPlanes.{mapped-or, same-at}
use Rattle.jpeg_decoder.proofs.LosslessFrames.LosslessReads.{sample_plane}
use Rattle.jpeg_lossless.proofs.RowLoops.{mapped-within}
use Rattle.jpeg_decoder.specs.LosslessParts.{no_component}
use Rattle.jpeg_segments.proofs.Gathered.{gathers-err, gathers-more, numbered}
use Rattle.jpeg_decoder.proofs.Scans.SlotCodings.{format-refuses}
use Rattle.jpeg_decoder.proofs.picture.whole.samples_at_end.Goals as goal

-- what is gathered at an index: the samples there, of what is left
shown : (left : List (Option (Vec ℕ Global))) (samples : List (Option (List ℕ))) (cs : List Component) (index : ℕ)
    (o d : Option (Vec ℕ Global)) (p : Option (List ℕ)) → index < length cs → index < length left
    → drop index (planes_in left) ≡ drop index samples → o ≡ get_or left index d → option_map (λ v. v.items) o ≡ p
    → sample_plane samples (get_or (enumerate_from 0 cs) index (0, no_component)) ≡ needed p
shown left samples cs index o d p h k same is e =
    ap (sample_plane samples) (numbered cs index no_component _ h refl)
    ∙ ap needed (sym (same-at (planes_in left) samples index None same)
    ∙ sym (mapped-or (λ p. option_map (λ v. v.items) p) left index o d None k is) ∙ e)

pub returns-in_err-needed-clause-planes : goal.returns-in_err-needed-clause-planes
returns-in_err-needed-clause-planes c =
    let l = c.loop-index in
    let cs = map component_in c.args.frame.now.components.items in
    let within = mapped-within component_in c.args.frame.now.components.items l.index (omega arith) in
    let p = err_from_is_err_and c.from_residual-in_err-needed.result c.from_residual-in_err-needed.ensures.1 in
    rw (p.1, p.2) (format-refuses c.in_err-needed.field-0.0 _ c.in_err-needed.ensures.1
    (gathers-err (sample_plane (planes_in c.args.decoded.now.samples)) (enumerate_from 0 cs) l.index (0, no_component)
    Malformed _ (rw (length-enumerate_from 0 cs) within)
    (shown l.decoded.samples _ cs l.index c.take-plane.result _ None within (omega (arith, within, c.requires))
    l.invariant.left c.take-plane.ensures.value (search rules)) l.invariant.given))

pub loop-index-preserved : goal.loop-index-preserved
loop-index-preserved c =
    let l = c.loop-index in
    let cs = map component_in c.args.frame.now.components.items in
    let within = mapped-within component_in c.args.frame.now.components.items l.index (omega arith) in
    let plane = c.in_ok-needed.field-0 in
    let pushed : c.push.new.self.items ≡ l.planes.items ++ plane ∷ [] = search rules in
    record {
      left = grind (arith, common_steps, drop_more_same, map-set, drop-set-lt);
      given = gathers-more (sample_plane (planes_in c.args.decoded.now.samples)) (enumerate_from 0 cs) l.index
          (0, no_component) plane.items _ _ (rw (length-enumerate_from 0 cs) within)
          (shown l.decoded.samples _ cs l.index c.take-plane.result _ (Some plane.items) within
          (omega (arith, within, c.requires)) l.invariant.left c.take-plane.ensures.value (search rules))
          (ap (map (λ v. v.items)) pushed ∙ map-append (λ v. v.items) l.planes.items (plane ∷ [])) l.invariant.given;
      count = search rules;
    }
