use Rattle.std.proofs.Common.{◌+◌, ◌≤ℤ◌, ◌+ℤ◌, ◌-ℤ◌, ℕ, ℤ, List, pos, ap, ◌∙◌, cond, arith, rules}
use Rattle.std.proofs.Common.{subst, slice_index_or}
use Rattle.std.specs.Int.{w16, int_wrap}
use Rattle.std.specs.Int.Signed.{lt_z}
use Rattle.std.proofs.lemmas.List.FromFn.{get_or-map-range_with_len}
use Rattle.jpeg_pixels.specs.Lanes.{lane}
use Rattle.jpeg_pixels.proofs.LaneSums.{halves_fit}
use Rattle.jpeg_pixels.proofs.ShortLanes.{signed_loaded, signed_add, signed_sub, signed_chosen}
use Rattle.jpeg_pixels.proofs.ShortLanes.{signed_read, both_above, within_limit}
use Rattle.jpeg_pixels.proofs.short_block.slack.Goals as goal

pub returns : goal.returns
returns c j h limit above =
    let coefficients = c.args.coefficients in
    let limits = c.args.limits in
    let z : ℕ → ℤ = λ k. slice_index_or coefficients (c.args.at + k) (pos 0) in
    let l : ℕ → ℤ = λ k. slice_index_or limits (c.args.at + k) (pos 0) in
    let narrow = halves_fit coefficients _ c.well_formed.0.1.1 in
    let cs = signed_loaded coefficients c.args.at (search rules) c.requires narrow in
    let ls = signed_loaded limits c.args.at (search rules) c.requires
    (halves_fit limits _ c.well_formed.1.0.1.1) in
    let less = signed_sub ls cs in
    let more = signed_add ls cs in
    let least : ℕ → ℤ = λ k. cond (lt_z (int_wrap w16 (l k -ℤ z k)) (int_wrap w16 (l k +ℤ z k)))
    (int_wrap w16 (l k -ℤ z k)) (int_wrap w16 (l k +ℤ z k)) in
    let both = both_above _ _ (subst (λ z. pos 0 ≤ℤ z) (ap (λ (v : List ℤ). lane v j)
    (signed_read (signed_chosen less more less more)) ∙ get_or-map-range_with_len least 0 16 j j (pos 0) h (omega arith))
    above) in
    within_limit _ _ limit (narrow (c.args.at + j)) both.0 both.1
