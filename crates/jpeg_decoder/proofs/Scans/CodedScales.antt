-- The scales that the components of a scan may have.
use Rattle.std.proofs.Common.{◌≡◌, ◌<◌, ℕ, zero, suc, true, List, [], ◌∷◌}
use Rattle.std.proofs.Common.{map, length, get_or, ap, ◌∙◌, arith}
use Rattle.jpeg_segments.specs.Scales.{is_scale}
use Rattle.std.specs.List.{AllByRecursion}
use Rattle.jpeg_segments.specs.declared.frame.Component as declared
use Rattle.jpeg_segments.specs.FrameView.{component_in}
use Rattle.jpeg_decoder.specs.Steps.{HasScale}

-- what each component of a frame has, the one at an index has
pub scale-at : (cs : List declared.Component) (index : ℕ) (c : declared.Component) → index < length
    cs
    → c ≡ get_or cs index c → AllByRecursion HasScale (map component_in cs) → is_scale c.dct_scale
    ≡ true
scale-at [] index c h e all = absurd (omega arith)
scale-at (x ∷ cs) zero c h e all = ap (λ (y : declared.Component). is_scale y.dct_scale) e ∙ all.0
scale-at (x ∷ cs) (suc index) c h e all = scale-at cs index c (omega arith) e all.1
