use Rattle.std.proofs.Common.{◌≡◌, ◌∙◌, ap, ap₂, refl, ℕ, ◌*◌, List, length, arith}
use Rattle.jpeg_segments.specs.FrameView.{frame_in}
use Rattle.jpeg_meaning.specs.ScanSegments.{Coding, components_of}
use Rattle.jpeg_decoder.specs.Scanning.{scan_components}
use Rattle.jpeg_decoder.specs.Walk.{members_from}
use Rattle.std.proofs.lemmas.List.{length-map}
use Rattle.jpeg_decoder.proofs.Orders.ScanOrders.{several-order}
use Rattle.jpeg_decoder.proofs.scan.order.ScanOrder.several.Goals as goal

pub returns : goal.returns
returns c =
    let v = c.in_ok-members.members in
    let count : c.len.result ≡ length v.items = omega (arith, c.len.ensures, v.ok.0) in
    several-order (frame_in c.args.frame.now) (scan_components c.args.scan.now) c.args.scan.now.restart_interval _
    (omega (arith, c.requires.several, length-map c.args.scan.now.codings (λ (k : Coding). k.component)))
    c.requires.fits
    (c.in_ok-members.ensures.items
    ∙ ap (λ (l : List Coding). members_from 0 (components_of l)) c.components.ensures.codings)
    refl refl refl refl (ap₂ (λ (a b : ℕ). a * b) (c.from.ensures ∙ c.restart_interval.ensures) count)
