use Rattle.std.proofs.Common.{◌+◌, ◌*◌, ◌/◌, ◌∙◌, ◌++◌, ap, length, List, ℕ, vec_capacity, arith}
use Rattle.jpeg_pixels.proofs.ReservedRows.{done, grown_is, row_fits, row_of_chunks, still_reserved}
use Rattle.jpeg_pixels.proofs.reserved_plane.ReservedPlane.append.Goals as goal

pub invariant_of-self : goal.invariant_of-self
invariant_of-self c =
    let p = c.self.inside in
    let coefficients = c.args.coefficients.now in
    let fits = row_fits p c.args.self.now coefficients c.self.view_is c.requires in
    let size = length p.samples.items + p.scale * p.blocks_wide * (p.scale * p.rows) in
    let made = done c.append_strips.result _ (vec_capacity p.samples) size c.append_strips.ensures.full
    (omega (arith, fits.0, c.self.invariant.reserved)) c.append_strips.ensures.ok in
    still_reserved p coefficients c.append_strips.new.plane c.self.invariant fits.0
    (made ∙ ap (λ (l : List ℕ). p.samples.items ++ l) (row_of_chunks p.scale p.table p.blocks_wide p.rows
    (length coefficients / 64) coefficients c.as_chunks.result.0.now c.as_chunks.ensures.front fits.1))
    c.append_strips.ensures.cap

pub returns-clause-row : goal.returns-clause-row
returns-clause-row c =
    let p = c.self.inside in
    let coefficients = c.args.coefficients.now in
    let fits = row_fits p c.args.self.now coefficients c.self.view_is c.requires in
    let size = length p.samples.items + p.scale * p.blocks_wide * (p.scale * p.rows) in
    let made = done c.append_strips.result _ (vec_capacity p.samples) size c.append_strips.ensures.full
    (omega (arith, fits.0, c.self.invariant.reserved)) c.append_strips.ensures.ok in
    grown_is p c.args.self.now coefficients c.append_strips.new.plane c.self.view_is
    (made ∙ ap (λ (l : List ℕ). p.samples.items ++ l) (row_of_chunks p.scale p.table p.blocks_wide p.rows
    (length coefficients / 64) coefficients c.as_chunks.result.0.now c.as_chunks.ensures.front fits.1))
