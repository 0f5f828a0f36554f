use Rattle.std.proofs.Common.{◌≡◌, ◌<◌, ◌*◌, ◌∙◌, ap, ap₂, arith, map, take, length, length-set, ℕ, slice_index_or}
use Rattle.std.proofs.Common.{rules}
use Rattle.std.proofs.Math.ListN as lists
use Rattle.std.proofs.lemmas.List.{map-set}
use Rattle.jpeg_lossless.specs.Codings.{part_in}
use Rattle.jpeg_lossless.specs.Scans.{shifted}
use Rattle.jpeg_lossless.proofs.RowLoops.{cut_step, mapped-at, mapped-within}
use Rattle.jpeg_lossless.proofs.scan.finish_all.Goals as goal

pub loop-i-preserved : goal.loop-i-preserved
loop-i-preserved c =
    let point = c.args.point_transform in
    let parts = map part_in c.args.parts.now in
    let i = c.loop-i.i in
    let r = c.index-parts-i.result in
    let part = part_in r in
    let plane = c.index-planes-i.result in
    let old = map (λ v. v.items) c.loop-i.planes in
    let was = (slice_index_or c.loop-i.planes i plane).items in
    let new = c.finish.new.plane.items in
    let inside : i < length parts = mapped-within part_in c.args.parts.now i (omega (arith, c.requires.count)) in
    let within : i < length old = search (rules, mapped-within) in
    let there : slice_index_or parts i part ≡ part = mapped-at part_in c.args.parts.now i r c.index-parts-i.is in
    let same : plane.items ≡ was = ap (λ v. v.items) c.index-planes-i.is in
    let here : slice_index_or old i was ≡ was
    = rw same at (mapped-at (λ v. v.items) c.loop-i.planes i plane c.index-planes-i.is) in
    let product : c.from.result * c.from-in-loop-i.result ≡ part.width * part.height
    = ap₂ (λ (x y : ℕ). x * y) c.from.ensures c.from-in-loop-i.ensures in
    let cut : new ≡ map (shifted point) (take (part.width * part.height) was)
    = c.finish.ensures ∙ ap (λ (n : ℕ). map (shifted point) (take n was)) product in
    let whole : map (λ v. v.items) (lists.set c.loop-i.planes i c.finish.new.plane) ≡ lists.set old i new
    = map-set (λ v. v.items) c.loop-i.planes i c.finish.new.plane in
    search (rules, length-set, cut_step)
