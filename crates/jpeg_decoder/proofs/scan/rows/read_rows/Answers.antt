use Rattle.std.proofs.lemmas.Grind.{common_steps}
use Rattle.std.proofs.Common.{rules, ◌≡◌, ◌<◌, ◌∙◌, ◌-◌, ◌+◌, [], Err, Ok, ap, map, sym, subst, ℕ, List}
use Rattle.std.proofs.Common.{arith, length, refl}
use Rattle.std.specs.List.{AllByRecursion, range_with_len}
use Rattle.std.specs.Prelude.{IfSome, option_map}
use Rattle.std.proofs.lemmas.List.Elements.{recursion_from_All}
use Rattle.jpeg_bits.specs.Entropy.{Text, upcoming}
use Rattle.jpeg_bits.specs.declared.beyond.Beyond.TheVariants.{Nothing}
use Rattle.jpeg_bits.proofs.BandSteps.{Leaves-end}
use Rattle.jpeg_bits.proofs.WholeBlocks.{refused_after}
use Rattle.jpeg_meaning.specs.Brought.{Through}
use Rattle.jpeg_meaning.specs.InTurn.{AreApart, blocks_from}
use Rattle.jpeg_meaning.specs.McuRows.{zero_rows}
use Rattle.jpeg_meaning.specs.Order.{Spot}
use Rattle.jpeg_meaning.specs.ScanSegments.{Coding, components_of}
use Rattle.jpeg_meaning.specs.States.{IfRefused}
use Rattle.jpeg_decoder.specs.GrowingView.{GrowsFor, growing_in}
use Rattle.jpeg_decoder.specs.Scanning.{IsSpotOf, arrays_in, counted}
use Rattle.jpeg_decoder.specs.Scanning.{kept_blocks, kept_counted, sizes_of, scan_vias}
use Rattle.jpeg_decoder.specs.Steps.{coding_in}
use Rattle.jpeg_decoder.specs.Strips.{row_sizes, strips_from, with_strips, zeros_of}
use Rattle.jpeg_decoder.specs.Through.{in_frame, strips_reached, zero_strips}
use Rattle.jpeg_decoder.specs.Walk.{spot_of, walk_of_row, walks_of_rows}
use Rattle.jpeg_decoder.specs.declared.scan.blocks.Interval.{Interval}
use Rattle.jpeg_decoder.specs.declared.scan.strips.GrowingPlanes.{GrowingPlanes}
use Rattle.jpeg_decoder.proofs.Scans.PlacedCodings.{seen-long}
use Rattle.jpeg_decoder.proofs.Segments.WalkedScans.{after-walk, of-walk, zeros-sound}
use Rattle.jpeg_decoder.proofs.Strips.KeptStrips.{kept-refused, strips_kept}
use Rattle.jpeg_decoder.proofs.Strips.RefusedRows.{lengths-rest, row-read, row-refused}
use Rattle.jpeg_decoder.proofs.Strips.StripSteps.{strips_refused, strips_none, whole-rows, first-row}
use Rattle.jpeg_decoder.proofs.Strips.StripSteps.{later-rows, zeros-are, lengths}
use Rattle.jpeg_decoder.proofs.Strips.StripSteps.{lengths-none, lengths-next, row-count, sizes_after}
use Rattle.jpeg_decoder.proofs.Strips.StripRows.{some-before}
use Rattle.jpeg_decoder.proofs.scan.rows.read_rows.Goals.{then-eq+in_ok-append_rest, else-eq}
use Rattle.jpeg_decoder.proofs.scan.rows.read_rows.Goals as goal

pub loop-row-init : goal.loop-row-init
loop-row-init g c =
    let s = c.args.scan.now in
    let cs = s.codings in
    let o = c.args.order.now in
    let planes = growing_in c.args.planes.now in
    let i = c.args.interval.now in
    let rows = whole-rows (walk_of_row o) o.rows in
    record {
      sizes = c.requires.sizes;
      spots = subst (AllByRecursion (AllByRecursion (IsSpotOf (length cs) (row_sizes cs)))) rows c.requires.spots;
      apart = subst (AllByRecursion AreApart) rows c.requires.apart;
      growing = c.requires.planes;
      kind = refl;
      some = λ h. h;
      lengths = λ k. lengths-none k cs planes;
      beyond = c.requires.beyond;
      unread = c.requires.unread;
      strips = grind (arith, common_steps, whole-rows);
      reached = λ _ _. ap (λ (r : List (List Spot)). strips_reached s.pass (scan_vias s) o.interval cs 0 r planes
          (counted i []) (upcoming i.decoder c.args.source.now.bytes)) rows;
    }

pub read_row-requires-clause-spots : goal.read_row-requires-clause-spots
read_row-requires-clause-spots g c =
    let cs = c.args.scan.now.codings in
    let o = c.args.order.now in
    let l = c.loop-row in
    subst (λ (x : List ℕ). AllByRecursion (IsSpotOf (length cs) x) (walk_of_row o l.row)) (sym l.invariant.sizes)
    (first-row (AllByRecursion (IsSpotOf (length cs) (row_sizes cs))) (walk_of_row o) l.row
    o.rows c.loop-row-test.true l.invariant.spots)

pub read_row-requires-clause-apart : goal.read_row-requires-clause-apart
read_row-requires-clause-apart g c =
    let o = c.args.order.now in
    let l = c.loop-row in
    first-row AreApart (walk_of_row o) l.row o.rows c.loop-row-test.true l.invariant.apart

-- ---- a block is refused, or memory ran out

pub returns-in-Err-clause-sizes : goal.returns-in-Err-clause-sizes
returns-in-Err-clause-sizes g c k none =
    let s = c.args.scan.now in
    let cs = s.codings in
    let high = c.args.order.now.rows in
    let l = c.loop-row in
    let planes = growing_in l.planes in
    let read = c.read_row.new.rows.items in
    let P = lengths (growing_in c.if-eq.planes) ≡ sizes_after high k cs in
    elim c.if-eq.branch [
      | then-eq+in_ok-append_rest w ↦
          let made = subst (λ (x : List Coding). growing_in w.append_rest.new.planes
          ≡ zero_strips (high - 1 - l.row) x (with_strips x (arrays_in read) planes))
          c.components-codings.ensures.codings w.in_ok-append_rest.ensures.strips in
          after-walk s.beyond (Err c.in-Err.e)
          (lengths-rest k cs (arrays_in read) planes (growing_in c.if-eq.planes) l.row high c.loop-row-test.true
          (row-count cs read (c.in-Err.ensures.sizes ∙ l.invariant.sizes)) (l.invariant.lengths k none)
          (ap (λ (p : GrowingPlanes). growing_in p) w.planes-is ∙ made))
      | else-eq w ↦
          let other : s.beyond ≡ Nothing → ⊥ = search rules in
          zeros-sound P s.beyond (Err c.in-Err.e) other tt
    ]

pub returns-in-Err-clause-planes : goal.returns-in-Err-clause-planes
returns-in-Err-clause-planes g c =
    let s = c.args.scan.now in
    let cs = s.codings in
    let o = c.args.order.now in
    let p = s.pass in
    let vias = scan_vias s in
    let keeps = s.keeps_ac in
    let f = walk_of_row o in
    let l = c.loop-row in
    let planes = growing_in l.planes in
    let zeros = zeros_of (sizes_of l.rows.items) in
    let none : zeros ≡ zero_rows 1 (components_of cs) = ap zeros_of l.invariant.sizes ∙ zeros-are cs in
    let new = c.read_row.new in
    of-walk s.beyond (Err c.in-Err.e)
    (refused_after (λ (u : Unit {0}). planes) (λ (u : Unit {0}). kept_counted keeps
    (counted new.interval (arrays_in new.rows.items)))
    (strips_from p vias o.interval cs (walks_of_rows o) (growing_in c.args.planes.now)
    (counted c.args.interval.now []))
    (strips_from p vias o.interval cs (map f (range_with_len l.row (o.rows - l.row))) planes (counted l.interval []))
    (kept_blocks keeps (blocks_from p vias o.interval (f l.row) (counted l.interval zeros)))
    c.args.interval.now.decoder l.interval.decoder new.interval.decoder c.args.source.now l.source new.source c.in-Err.e
    (λ t fault h. strips_refused p vias o.interval cs f (f l.row) l.row o.rows planes zeros
    (counted l.interval []) t fault c.loop-row-test.true none refl (kept-refused keeps _ fault h))
    l.invariant.strips c.in-Err.ensures.blocks)

pub returns-in-Err-clause-reached : goal.returns-in-Err-clause-reached
returns-in-Err-clause-reached g c is k m =
    let s = c.args.scan.now in
    let cs = s.codings in
    let seen = c.components-codings.result.now in
    let same = c.components-codings.ensures.codings in
    let o = c.args.order.now in
    let p = s.pass in
    let vias = scan_vias s in
    let f = walk_of_row o in
    let l = c.loop-row in
    let planes = growing_in l.planes in
    let zeros = zeros_of (sizes_of l.rows.items) in
    let none : zeros ≡ zero_rows 1 (components_of cs) = ap zeros_of l.invariant.sizes ∙ zeros-are cs in
    let new = c.read_row.new in
    let e = c.in-Err.e in
    let unread = new.interval.unread in
    let known = (l.invariant.strips.1 k).0 in
    elim c.if-eq.branch [
      | then-eq+in_ok-append_rest w ↦
          let made = subst (λ (x : List Coding). growing_in w.append_rest.new.planes
          ≡ zero_strips (o.rows - 1 - l.row) x (with_strips x (arrays_in new.rows.items) planes)) same
          w.in_ok-append_rest.ensures.strips in
          let shifted : IfSome unread (λ s. IsSpotOf (length seen) (row_sizes (map coding_in seen)) (spot_of s))
          → option_map spot_of c.if-eq.interval.unread ≡ option_map (in_frame cs l.row) (option_map spot_of unread)
          = λ q. ap (λ (i : Interval). option_map spot_of i.unread) w.interval-is
          ∙ w.in_frame-interval.ensures q
          ∙ ap (λ (x : List Coding). option_map (in_frame x l.row) (option_map spot_of unread)) same in
          let all = subst (λ (x : List Coding). AllByRecursion (IsSpotOf (length seen) (row_sizes x)) (f l.row))
          (sym same)
          (subst (λ (n : ℕ). AllByRecursion (IsSpotOf n (row_sizes cs)) (f l.row)) (seen-long seen cs same)
          (first-row (AllByRecursion (IsSpotOf (length cs) (row_sizes cs))) f l.row o.rows c.loop-row-test.true
          l.invariant.spots)) in
          subst (λ (r : Through (List (List ℕ)) Text). IfRefused e ((growing_in c.if-eq.planes ≡ r.reached)
          × (option_map spot_of c.if-eq.interval.unread ≡ r.unread))) (sym (l.invariant.reached is k))
          (row-refused p vias o.interval cs f (f l.row) l.row o.rows planes zeros (counted l.interval [])
          (upcoming l.interval.decoder l.source.bytes) s.keeps_ac c.loop-row-test.true none refl
          (c.beyond.ensures.scan.kept is) e (arrays_in new.rows.items) unread c.if-eq.interval.unread
          (growing_in c.if-eq.planes) (length seen) (row_sizes (map coding_in seen))
          (c.in-Err.ensures.blocks.1 known m) all shifted
          (ap (λ (p : GrowingPlanes). growing_in p) w.planes-is ∙ made)
          (c.in-Err.ensures.reached is (l.invariant.beyond ∙ is) known m))
      | else-eq w ↦ let other : s.beyond ≡ Nothing → ⊥ = search rules in absurd (other is)
    ]

-- ---- a row was read

pub loop-row-preserved : goal.loop-row-preserved
loop-row-preserved g c =
    let s = c.args.scan.now in
    let cs = s.codings in
    let o = c.args.order.now in
    let p = s.pass in
    let vias = scan_vias s in
    let n = o.interval in
    let f = walk_of_row o in
    let l = c.loop-row in
    let high = o.rows in
    let planes = growing_in l.planes in
    let zeros = zeros_of (sizes_of l.rows.items) in
    let none : zeros ≡ zero_rows 1 (components_of cs) = ap zeros_of l.invariant.sizes ∙ zeros-are cs in
    let q = c.in_default.ensures in
    let new = c.read_row.new in
    let read = new.rows.items in
    let sizes : sizes_of read ≡ row_sizes cs = q.sizes ∙ l.invariant.sizes in
    let made : growing_in c.append_strips.new.planes ≡ with_strips cs (arrays_in read) planes = search rules in
    let t = upcoming l.interval.decoder l.source.bytes in
    let u = upcoming new.interval.decoder new.source.bytes in
    record {
      sizes = sizes;
      spots = later-rows (AllByRecursion (IsSpotOf (length cs) (row_sizes cs))) f l.row high
          c.loop-row-test.true l.invariant.spots;
      apart = later-rows AreApart f l.row high c.loop-row-test.true l.invariant.apart;
      growing = subst (λ (x : List Coding). GrowsFor x c.append_strips.new.planes)
          c.components-codings.ensures.codings c.in_ok-append_strips.ensures.growing;
      kind = c.in_ok-append_strips.ensures.kind ∙ l.invariant.kind;
      some = λ h. l.invariant.some
          (some-before cs (arrays_in read) planes (subst (λ (x : List (List ℕ)). 0 < length x) made h));
      lengths = λ k none. ap lengths made ∙ lengths-next k cs (arrays_in read) planes l.row
          (row-count cs read sizes) (l.invariant.lengths k none);
      beyond = q.beyond ∙ l.invariant.beyond;
      unread = q.unread ∙ l.invariant.unread;
      strips = (
        q.blocks.0 ∙ l.invariant.strips.0,
        λ k.
            let at = l.invariant.strips.1 k in
            let by = q.blocks.1 at.0 in (
              by.0,
              at.1
                  ∙ strips_kept s.keeps_ac p vias n cs f (f l.row) l.row high planes
                  zeros (counted l.interval []) (counted new.interval (arrays_in read)) t u
                  (λ alone. recursion_from_All (λ x. x.component.scale ≡ 1) cs
                  (c.components-codings.ensures.scan.dc_alone alone).1)
                  c.loop-row-test.true none refl by.1
                  ∙ ap (λ (x : List (List ℕ)). strips_from p vias n cs (map f (range_with_len
                  (l.row + 1) (high - (l.row + 1)))) x (counted new.interval []) u) (sym made),
            ),
      );
      reached = λ is k. l.invariant.reached is k
          ∙ row-read p vias n cs f (f l.row) l.row high planes zeros (counted l.interval []) t s.keeps_ac
          c.loop-row-test.true none refl (c.components-codings.ensures.scan.kept is)
          (counted new.interval (arrays_in read)) u (q.blocks.1 (l.invariant.strips.1 k).0).1
          ∙ ap (λ (x : List (List ℕ)). strips_reached p vias n cs (l.row + 1) (map f (range_with_len
          (l.row + 1) (high - (l.row + 1)))) x (counted new.interval []) u) (sym made);
    }

-- ---- no row is left

pub returns-clause-sizes : goal.returns-clause-sizes
returns-clause-sizes g c k none =
    let s = c.args.scan.now in
    let l = c.loop-row in
    let end : l.row ≡ c.args.order.now.rows = omega (arith, c.loop-row-test.false, l.auto.row-end) in
    after-walk s.beyond (Ok tt) (l.invariant.lengths k none ∙ ap (λ (row : ℕ). sizes_after row k s.codings) end)

pub returns-clause-planes : goal.returns-clause-planes
returns-clause-planes g c =
    let s = c.args.scan.now in
    let cs = s.codings in
    let o = c.args.order.now in
    let p = s.pass in
    let vias = scan_vias s in
    let l = c.loop-row in
    let planes = growing_in l.planes in
    of-walk s.beyond (Ok tt) (Leaves-end (λ (u : Unit {0}). planes) (strips_from p vias o.interval cs
    (walks_of_rows o) (growing_in c.args.planes.now) (counted c.args.interval.now [])) (strips_from p vias o.interval cs
    (map (walk_of_row o) (range_with_len l.row (o.rows - l.row))) planes (counted l.interval []))
    c.args.interval.now.decoder l.interval.decoder c.args.source.now l.source tt
    (λ t. strips_none p _ _ _ _ _ _ _ _ t c.loop-row-test.false) l.invariant.strips)
