use Rattle.std.proofs.lemmas.Grind.{common_steps}
use Rattle.std.proofs.Common.{◌≡◌, ◌==◌, ◌<◌, get_or, length, arith, refl, rules}
use Rattle.std.proofs.lemmas.List.{length-map}
use Rattle.std.specs.Option.{option_copied}
use Rattle.jpeg_segments.specs.FrameView.{component_in, frame_in}
use Rattle.jpeg_segments.specs.ScanHeader.{Scan}
use Rattle.jpeg_meaning.specs.Found.{Said}
use Rattle.jpeg_decoder.specs.Steps.{coding_in_slot, table_if, IsSpareOf}
use Rattle.jpeg_decoder.specs.declared.scan.codings.Spare.{Spare}
use Rattle.std.specs.Prelude.{nat_lt}
use Rattle.jpeg_bits.specs.declared.huffman.codes.HuffmanTableClass.TheVariants as classes
use Rattle.jpeg_meaning.specs.Scans.{no_table}
use Rattle.std.proofs.lemmas.Result.{err_from_is_err_and}
use Rattle.jpeg_bits.proofs.Loops.{bind_err}
use Rattle.jpeg_decoder.specs.Seen.{said_of}
use Rattle.jpeg_decoder.proofs.Scans.SlotCodings.{ac-read, class-in-force, dc-read, format-refuses}
use Rattle.jpeg_decoder.proofs.Scans.SlotCodings.{ac_of, coded_by, dc_of, refused-through, slot-coded}
use Rattle.jpeg_decoder.proofs.Scans.CodedScales.{scale-at}
use Rattle.jpeg_decoder.proofs.scan.codings.coding_of.Goals.{After-table_at-quantization, After-table_in_force-ac}
use Rattle.jpeg_decoder.proofs.scan.codings.coding_of.Goals.{After-table_in_force-dc}
use Rattle.jpeg_decoder.proofs.scan.codings.coding_of.Goals as goal

-- the spare tables, by the fields
spare : {seen said : Said} {scan : Scan} {s : Spare} → seen ≡ said → IsSpareOf said scan s → IsSpareOf seen scan s
spare is h = rw is h

-- what the slot is given, of the tables in force
coded : (c : After-table_at-quantization)
    → coding_in_slot (said_of c.said.inside) (frame_in c.args.frame.now) c.args.header.now c.args.slot
    ≡ coded_by (said_of c.said.inside) c.args.header.now c.args.slot (get_or c.args.header.now.components c.args.slot 0)
    c.in_ok-component.component.now
coded c = slot-coded (said_of c.said.inside) c.args.frame.now c.args.header.now c.args.slot _
    c.in_ok-component.component.now refl (search rules) (search rules)

-- its tables
has-dc : (c : After-table_in_force-dc) → dc_of (said_of c.said.inside) c.args.header.now c.args.slot
    ≡ table_if (c.args.header.now.first == 0) (no_table classes.DC) (option_copied c.table_in_force-dc.result)
has-dc c = dc-read (said_of c.said.inside) c.args.header.now c.args.spare.now c.args.slot _ _
    (spare c.said.view_is c.requires.spare) (omega arith) (search rules)
    (rw c.deref-2.ensures.value at c.table_in_force-dc.ensures)

has-ac : (c : After-table_in_force-ac) → ac_of (said_of c.said.inside) c.args.header.now c.args.slot
    ≡ table_if (nat_lt 1 c.args.header.now.after) (no_table classes.AC) (option_copied c.table_in_force-ac.result)
has-ac c = ac-read (said_of c.said.inside) c.args.header.now c.args.spare.now c.args.slot _ _
    (spare c.said.view_is c.requires.spare) (omega arith) (search rules)
    (rw c.deref-3.ensures.value at c.table_in_force-ac.ensures)

pub returns-in_err-quantization : goal.returns-in_err-quantization
returns-in_err-quantization c =
    let p = err_from_is_err_and c.from_residual-in_err-quantization.result c.from_residual-in_err-quantization.ensures.1 in
    let is = coded (goal.at.returns-in_err-quantization c).After-table_at-quantization in
    rw (← c.said.view_is) (grind (arith, common_steps, format-refuses))

pub returns-in_err-dc : goal.returns-in_err-dc
returns-in_err-dc c =
    let p = err_from_is_err_and c.from_residual-in_err-dc.result c.from_residual-in_err-dc.ensures.1 in
    let at = goal.at.returns-in_err-dc c in
    let is = coded at.After-table_at-quantization in
    let dc = has-dc at.After-table_in_force-dc in
    rw (← c.said.view_is) (grind (arith, common_steps, refused-through, bind_err))

pub returns-in_err-ac : goal.returns-in_err-ac
returns-in_err-ac c =
    let p = err_from_is_err_and c.from_residual-in_err-ac.result c.from_residual-in_err-ac.ensures.1 in
    let at = goal.at.returns-in_err-ac c in
    let is = coded at.After-table_at-quantization in
    let dc = has-dc at.After-table_in_force-dc in
    let ac = has-ac at.After-table_in_force-ac in
    rw (← c.said.view_is) (grind (arith, common_steps, refused-through, bind_err))

pub returns : goal.returns
returns c =
    let at = goal.at.returns c in
    let is = coded at.After-table_at-quantization in
    let dc = has-dc at.After-table_in_force-dc in
    let ac = has-ac at.After-table_in_force-ac in
    rw (← c.said.view_is) (grind (arith, common_steps))

pub invariant_of-result : goal.invariant_of-result
invariant_of-result c =
    let given = rw c.requires.spare.no_ac at c.in_ok-ac.ensures in
    let forced = rw c.deref-3.ensures.value at (rw c.table_in_force-ac.ensures at given) in
    let component = c.in_ok-component.component.now in
    let index = get_or c.args.header.now.components c.args.slot 0 in
    let items = c.args.frame.now.components.items in
    let at : component ≡ get_or items index component = search rules in
    let inside : index < length items = search rules in
    let few : index < 4 = omega (arith, inside, c.requires.few, length-map items component_in) in
    record {
      within = search (rules, few);
      class = class-in-force (said_of c.said.inside) c.args.header.now c.args.spare.now _
          _ _ (spare c.said.view_is c.requires.spare) c.said.invariant forced;
      scale = scale-at items index component inside at c.requires.scales;
    }
