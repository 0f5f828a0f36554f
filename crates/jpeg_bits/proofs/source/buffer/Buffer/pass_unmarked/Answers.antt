use Rattle.std.proofs.Common.{◌≡◌, ◌-◌, ◌∙◌, ◌++◌, ◌∷◌, sym, ap, arith, drop, length, List, ℕ}
use Rattle.jpeg_bits.specs.Marker.{next_marker}
use Rattle.jpeg_bits.proofs.PlainBytes.{slice-length, slice-rest}
use Rattle.jpeg_bits.proofs.source.buffer.Buffer.pass_unmarked.Goals as goal

pub returns-clause-same : goal.returns-clause-same
returns-clause-same c =
    let s = c.self.inside in
    let found = c.unmarked-count in
    let n = found.result.0 in
    let same = ap length c.as_slice.ensures in
    let long : length c.args.self.now ≡ s.end - s.start
    = ap length (sym c.self.view_is) ∙ slice-length s.bytes.items s.start s.end c.self.invariant.1 in
    let left = ap (drop n) (c.as_slice.ensures ∙ sym c.self.view_is)
    ∙ sym (slice-rest s.bytes.items s.start s.end n
    (omega (arith, found.ensures.count, same, long, c.self.invariant.0))) in
    λ rest. ap (λ (l : List ℕ). next_marker (c.args.previous ∷ (l ++ rest))) (sym c.as_slice.ensures)
    ∙ found.ensures.same rest ∙ ap (λ (l : List ℕ). next_marker (found.result.1 ∷ (l ++ rest))) left
