use Rattle.std.proofs.Common.{arith, ◌≡◌, ◌∙◌, ◌++◌, ◌∷◌, [], ℕ, List, Option, Some, ap, false, sym, true}
use Rattle.std.specs.Prelude.{nat_eq}
use Rattle.std.specs.List.{starts_with}
use Rattle.zaxbriar_metadata.specs.Collected.{exif_name, extension_name, xmp_name}
use Rattle.zaxbriar_metadata.specs.CollectedView.{collection_in, parts_in}
use Rattle.zaxbriar_metadata.proofs.Collecting.{all-after, part-brought, xmp-brought}
use Rattle.zaxbriar_metadata.proofs.collected.add_application_1.Goals as goal

pub returns-in_ok-put_xmp : goal.returns-in_ok-put_xmp
returns-in_ok-put_xmp c =
    let exif : starts_with nat_eq c.args.segment.now exif_name ≡ false = grind arith in
    let xmp : starts_with nat_eq c.args.segment.now xmp_name ≡ true = grind arith in
    ap (λ (packet : Option (List ℕ)). record (collection_in c.args.collected.now) { xmp = packet })
    (c.in_ok-put_xmp.ensures ∙ ap (λ (bytes : List ℕ). Some bytes) (all-after 29 c.args.segment.now))
    ∙ sym (xmp-brought (collection_in c.args.collected.now) c.args.segment.now exif xmp)

pub returns-in_ok-put_extension : goal.returns-in_ok-put_extension
returns-in_ok-put_extension c =
    let exif : starts_with nat_eq c.args.segment.now exif_name ≡ false = grind arith in
    let xmp : starts_with nat_eq c.args.segment.now xmp_name ≡ false = grind arith in
    let extension : starts_with nat_eq c.args.segment.now extension_name ≡ true = grind arith in
    ap (λ (parts : List (List ℕ)). record (collection_in c.args.collected.now) { extensions = parts })
    (c.in_ok-put_extension.ensures
    ∙ ap (λ (part : List ℕ). parts_in c.args.collected.now.extensions.items ++ (part ∷ []))
    (all-after 35 c.args.segment.now))
    ∙ sym (part-brought (collection_in c.args.collected.now) c.args.segment.now exif xmp extension)
