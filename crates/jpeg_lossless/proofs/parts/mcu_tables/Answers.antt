use Rattle.std.proofs.Common.{◌≡◌, ◌+◌, ◌*◌, ◌++◌, ◌∙◌, ap, ap₂, sym, map, drop, List, ℕ, replicate, append_assoc}
use Rattle.jpeg_bits.specs.Codes.{Table}
use Rattle.jpeg_lossless.specs.Codings.{part_in}
use Rattle.jpeg_lossless.specs.Differences.{mcu_tables}
use Rattle.jpeg_lossless.proofs.RowLoops.{mapped-at, mapped-within, tables_open}
use Rattle.jpeg_lossless.proofs.parts.mcu_tables.Goals as goal

pub loop-left-init : goal.loop-left-init
loop-left-init c =
    let parts = c.args.parts.now in
    let i = c.loop-i.i in
    let r = c.index-parts-i.result in
    let front = map (λ t. t.now) c.loop-i.tables.items in
    let rest = mcu_tables (drop (i + 1) (map part_in parts)) in
    let product : c.from.result * c.from-in-loop-i.result ≡ r.down * r.across
    = ap₂ (λ (a b : ℕ). a * b) c.from.ensures c.from-in-loop-i.ensures in
    ap (λ (n : ℕ). (front ++ replicate n r.table.now) ++ rest) product
    ∙ append_assoc front (replicate (r.down * r.across) r.table.now) rest
    ∙ ap (λ (l : List Table). front ++ l) (sym (tables_open (map part_in parts) i (part_in r)
    (mapped-within part_in parts i c.loop-i-test.true) (mapped-at part_in parts i r c.index-parts-i.is)))
    ∙ c.loop-i.invariant
