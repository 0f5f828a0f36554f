use Rattle.std.proofs.Common.{◌≡◌, ◌<◌, ℤ, List, [], map, set, get_or, length, sym, ap, ◌∙◌, subst, arith}
use Rattle.std.proofs.lemmas.List.{length-map, map-set}
use Rattle.std.proofs.lemmas.Option.{slice_get_within}
use Rattle.jpeg_meaning.specs.WrittenData.{no_numbers}
use Rattle.zaxbriar_strict.specs.Changes.{block_of}
use Rattle.zaxbriar_strict.specs.Loaded.{data_of}
use Rattle.zaxbriar_strict.specs.SentBlocks.{ReadsSent}
use Rattle.zaxbriar_strict.proofs.KeptBlocks.{block-changed, found-in, wide-before, wide-itself, with_block}
use Rattle.zaxbriar_strict.proofs.Runs.{run-sent}
use Rattle.zaxbriar_strict.proofs.transform.Context.read_sent.Goals as goal

pub returns-clause-read : goal.returns-clause-read
returns-clause-read c = λ p vias via index cs g kept e f.
    let row = c.args.place.1 in
    let column = c.args.place.0 in
    let made = c.make_rows.new.rows in
    let blocks = c.in-Some.line.now in
    let old = c.in-Some-get_mut.block.now in
    let new = c.read_coefficients.new.block in
    let rows : List (List (List ℤ)) = map (λ r. r.items) made.items in
    let here = c.in-Some.ensures.item.3 in
    let beside = c.in-Some-get_mut.ensures.item.3 in
    let lt : row < length made.items = here.0 in
    let many : length rows ≡ length made.items = length-map made.items (λ r. r.items) in
    let high : row < length rows = omega (arith, lt, many) in
    let found : get_or rows row [] ≡ blocks.items = found-in (λ r. r.items) made.items row blocks [] lt (here.1 blocks) in
    let wide : column < length (get_or rows row []) =
    subst (λ (l : List (List ℤ)). column < length l) (sym found) beside.0 in
    let was : old ≡ block_of rows row column =
    beside.1 (no_numbers 64) ∙ sym (ap (λ (l : List (List ℤ)). get_or l column (no_numbers 64)) found) in
    let put : with_block rows row column new ≡ set rows row (set blocks.items column new) =
    ap (λ (l : List (List ℤ)). set rows row (set l column new)) found in
    let change = block-changed cs index row column c.args.component.now _ rows new f c.in_ok-make_rows.ensures high wide
    (map-set (λ r. r.items) made.items row _ ∙ sym put) in
    let still = c.is_wide_with-component.ensures in
    let within : index < length cs = slice_get_within cs index c.args.component.now f in
    run-sent p via _ c.args.past.now c.read_coefficients.new.past _ _ _ new change
    (λ n. (
    let inner = still (wide-itself cs index _ within n) in
    (wide-before cs index c.args.component.now _ f (λ e. (still e).0) n, inner.1)
    ))
    (subst (λ (l : List ℤ). ReadsSent p via c.args.past.now c.read_coefficients.new.past l new (data_of c.args.bits.now)
    (data_of c.read_coefficients.new.bits)) was (c.in-Ok.ensures p vias via g kept e))
