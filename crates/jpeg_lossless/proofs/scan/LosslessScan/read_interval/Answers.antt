use Rattle.std.proofs.Common.{map}
use Rattle.std.proofs.lemmas.Result.{err_from_is_err_and}
use Rattle.jpeg_lossless.specs.Codings.{part_in, way_by}
use Rattle.jpeg_lossless.proofs.ThroughRows.{marker-through, other-error, planes-through, refused-through}
use Rattle.jpeg_lossless.proofs.scan.LosslessScan.read_interval.Goals as goal

pub returns-in_err-read_rows-clause-reached : goal.returns-in_err-read_rows-clause-reached
returns-in_err-read_rows-clause-reached g c =
    let a = c.args in
    let w = way_by a.coding.now.scan (map part_in a.coding.now.parts.now) in
    let planes = map (λ v. v.items) a.self.now.planes.items in
    let p = err_from_is_err_and c.from_residual.result c.from_residual.ensures.1 in
    rw (p.1, p.2) (λ nothing known stays there. planes-through w a.count planes a.beyond c.with_beyond-decoder.result
    c.with_beyond-decoder.ensures nothing a.source.now.bytes _
    (c.in_err-read_rows.ensures.reached known stays (other-error _ there)))

pub returns-in_err-read_rows-clause-met : goal.returns-in_err-read_rows-clause-met
returns-in_err-read_rows-clause-met g c =
    let a = c.args in
    let w = way_by a.coding.now.scan (map part_in a.coding.now.parts.now) in
    let planes = map (λ v. v.items) a.self.now.planes.items in
    let p = err_from_is_err_and c.from_residual.result c.from_residual.ensures.1 in
    rw (p.1, p.2) (λ nothing. refused-through w a.count planes a.beyond c.with_beyond-decoder.result
    c.with_beyond-decoder.ensures nothing (λ (u : Unit {0}). map (λ v. v.items) c.read_rows.new.self.planes.items)
    c.read_rows.new.decoder a.source.now c.read_rows.new.source _ c.in_err-read_rows.ensures.reads)

pub returns-clause-reached : goal.returns-clause-reached
returns-clause-reached g c = λ nothing known stays there.
    let a = c.args in
    let w = way_by a.coding.now.scan (map part_in a.coding.now.parts.now) in
    let planes = map (λ v. v.items) a.self.now.planes.items in
    let read = c.in_ok-read_rows.ensures in
    planes-through w a.count planes a.beyond c.with_beyond-decoder.result c.with_beyond-decoder.ensures nothing
    a.source.now.bytes _ (read.reached known (read.reads.1 known).0 (λ is. cc))

pub returns-clause-met : goal.returns-clause-met
returns-clause-met g c = λ nothing.
    let a = c.args in
    let w = way_by a.coding.now.scan (map part_in a.coding.now.parts.now) in
    let planes = map (λ v. v.items) a.self.now.planes.items in
    marker-through w a.count planes a.beyond c.with_beyond-decoder.result c.with_beyond-decoder.ensures nothing tt
    (λ (u : Unit {0}). map (λ v. v.items) c.read_rows.new.self.planes.items) c.read_rows.new.decoder a.source.now
    c.read_rows.new.source c.take_marker.new.source c.take_marker.result c.in_ok-read_rows.ensures.reads
    c.take_marker.ensures.answers
