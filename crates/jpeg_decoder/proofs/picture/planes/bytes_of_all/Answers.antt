use Rattle.std.proofs.Common.{◌≡◌, ◌∙◌, ◌++◌, ◌∷◌, [], List, ap, ap₂, arith, get_or, map, rules, sym, ℕ}
use Rattle.std.proofs.lemmas.List.{length-map, map-append}
use Rattle.jpeg_meaning.specs.FoundPlanes.{bytes_of_samples}
use Rattle.jpeg_decoder.proofs.Pictures.EndedPlanes.{mapped-or}
use Rattle.jpeg_decoder.proofs.Pictures.OwnPlanes.{planes-more}
use Rattle.jpeg_decoder.proofs.picture.planes.bytes_of_all.Goals as goal

pub loop-index-preserved : goal.loop-index-preserved
loop-index-preserved c =
    let plane = c.in_ok-bytes_of_samples.field-0 in
    let samples = map (λ v. v.items) c.args.planes.now in
    let pushed : c.push.new.self.items ≡ c.loop-index.all.items ++ plane ∷ [] = search rules in
    let at : c.index-planes-index.result ≡ get_or c.args.planes.now c.loop-index.index c.index-planes-index.result =
    search rules in
    let seen : c.deref.result.now ≡ get_or samples c.loop-index.index [] =
    c.deref.ensures.value ∙ mapped-or (λ v. v.items) c.args.planes.now c.loop-index.index c.index-planes-index.result
    c.index-planes-index.result [] (omega (arith, c.loop-index-test.true)) at in
    ap (map (λ v. v.items)) pushed ∙ map-append (λ v. v.items) c.loop-index.all.items (plane ∷ [])
    ∙ ap₂ (λ (l : List (List ℕ)) (x : List ℕ). l ++ x ∷ []) c.loop-index.invariant
    (c.in_ok-bytes_of_samples.ensures ∙ ap (bytes_of_samples c.args.precision) seen)
    ∙ sym (planes-more c.args.precision c.loop-index.index samples []
    (omega (arith, c.loop-index-test.true, length-map c.args.planes.now (λ v. v.items))))
