use Rattle.std.proofs.Common.{◌≡◌, ◌∙◌, ◌*◌, List, ℕ, ap, length, rules, subst, sym, true}
use Rattle.std.specs.List.{concat}
use Rattle.jpeg_decoder.specs.Bytes.{HaveBytes}
use Rattle.zaxbriar_samples.specs.Boxes.{is_smaller}
use Rattle.zaxbriar_samples.specs.DecodedPictures.{Decoded}
use Rattle.zaxbriar_calls.proofs.Smaller.{cut-bytes, cut-height, cut-together, lines-long}
use Rattle.zaxbriar_calls.specs.Boxed.{fit_samples}
use Rattle.zaxbriar_calls.specs.BoxedLines.{cut_in_lines}
use Rattle.zaxbriar_calls.proofs.boxed.fit_lines.Goals as goal

pub of_pixels-requires : goal.of_pixels-requires
of_pixels-requires c =
    let smaller : is_smaller c.args.size c.args.info ≡ true = search rules in
    lines-long c.args.info c.args.precision c.args.size (concat c.args.picture) c.in_ok-smaller.smaller.pixels.items
    c.args.stored c.from-3.result c.from.result c.from-2.result smaller c.requires.stored
    (ap (λ (p : Decoded). p.pixels) c.in_ok-smaller.ensures) c.from-3.ensures c.from.ensures c.from-2.ensures

pub returns-clause-samples : goal.returns-clause-samples
returns-clause-samples c =
    let smaller : is_smaller c.args.size c.args.info ≡ true = search rules in
    let items : List ℕ = c.in_ok-smaller.smaller.pixels.items in
    let made : items ≡ fit_samples c.args.info c.args.precision c.args.size (concat c.args.picture) =
    ap (λ (p : Decoded). p.pixels) c.in_ok-smaller.ensures in
    ap (λ (l : List (List ℕ)). concat l) c.of_pixels.ensures
    ∙ cut-together (c.from.result * c.from-2.result) c.from-3.result items
    (lines-long c.args.info c.args.precision c.args.size (concat c.args.picture) items c.args.stored c.from-3.result
    c.from.result c.from-2.result smaller c.requires.stored made c.from-3.ensures c.from.ensures c.from-2.ensures)
    ∙ made

pub returns-clause-height : goal.returns-clause-height
returns-clause-height c =
    ap (λ (l : List (List ℕ)). length l) c.of_pixels.ensures
    ∙ cut-height (c.from.result * c.from-2.result) c.from-3.result c.in_ok-smaller.smaller.pixels.items
    ∙ c.from-3.ensures

pub returns-clause-bytes : goal.returns-clause-bytes
returns-clause-bytes c =
    let smaller : is_smaller c.args.size c.args.info ≡ true = search rules in
    let items : List ℕ = c.in_ok-smaller.smaller.pixels.items in
    let made : items ≡ fit_samples c.args.info c.args.precision c.args.size (concat c.args.picture) =
    ap (λ (p : Decoded). p.pixels) c.in_ok-smaller.ensures in
    let bytes : c.from.result * c.from-2.result ≡ c.args.size.width * c.args.stored =
    (λ i. c.from.ensures i * c.from-2.ensures i) in
    subst (λ (l : List (List ℕ)). HaveBytes (c.args.size.width * c.args.stored) l) (sym c.of_pixels.ensures)
    (subst (λ n. HaveBytes n (cut_in_lines (c.from.result * c.from-2.result) c.from-3.result items)) bytes
    (cut-bytes (c.from.result * c.from-2.result) c.from-3.result items
    (lines-long c.args.info c.args.precision c.args.size (concat c.args.picture) items c.args.stored c.from-3.result
    c.from.result c.from-2.result smaller c.requires.stored made c.from-3.ensures c.from.ensures c.from-2.ensures)))
