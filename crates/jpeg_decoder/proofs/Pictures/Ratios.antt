-- Sampling ratios are refused by name alone.
use Rattle.std.proofs.Common.{◌≡◌, ℕ, List, [], ◌∷◌, Result, Ok, Err, Option, arith, ok_or}
use Rattle.jpeg_bits.specs.Reading.{Fault, End, Lacks, Names, ◌>>=◌}
use Rattle.jpeg_bits.specs.declared.error.Error.{Error}
use Rattle.jpeg_bits.specs.declared.error.UnsupportedFeature.TheVariants.{NonIntegerSubsamplingRatio}
use Rattle.jpeg_segments.specs.Checks.{gathered}
use Rattle.jpeg_segments.specs.Frame.{Component}
use Rattle.jpeg_pixels.specs.declared.upsample_rows.UpsampleRule.{UpsampleRule}
use Rattle.jpeg_pixels.specs.Pictures.{Source, source_of, sources_of}
use Rattle.jpeg_pixels.proofs.SourceLists.{source_with}
use Rattle.jpeg_decoder.specs.Steps.{IsRefusal}
use Rattle.std.proofs.lemmas.Grind.{common_steps}

one : (c : Component) (rule : Option UpsampleRule) (others : Result (List Source) Fault) → (others ≡ Err End → ⊥)
    → ((ok_or rule (Lacks NonIntegerSubsamplingRatio) >>= λ (r : UpsampleRule). Ok (source_with c r))
    >>= λ (s : Source). (others >>= λ (rest : List Source). Ok (s ∷ rest))) ≡ Err End → ⊥
one c rule others h e = grind (arith, common_steps)

never-end : (h v width height : ℕ) (components : List Component)
    → gathered (source_of h v width height) components ≡ Err End → ⊥
unfolding gathered source_of
never-end h v width height [] e = cc
never-end h v width height (c ∷ more) e = grind (arith, common_steps, one, never-end h v width height more)

-- an error that names a refusal of ratios is one of a call with no source
refused : (e : Error) (o : Result (List Source) Fault) → (o ≡ Err End → ⊥) → Names e o → IsRefusal e
refused e o h n = grind (arith, common_steps)

pub ratios_refused : (e : Error) (components : List Component) (width height : ℕ)
    → Names e (sources_of components width height) → IsRefusal e
ratios_refused e components width height n = grind (arith, common_steps, refused, never-end)
