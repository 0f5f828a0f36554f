use Rattle.std.proofs.Common.{◌≡◌, ◌≤◌, ◌<◌, ◌+◌, ◌++◌, ◌∙◌, [], List, ℕ, ap, ap₂, arith, length, length-append}
use Rattle.std.proofs.Common.{rules, slice_index_or, sym, take}
use Rattle.std.specs.List.{concat}
use Rattle.std.proofs.Math.Nat.{add-mul, one-mul}
use Rattle.std.proofs.lemmas.List.{take_all}
use Rattle.jpeg_lossless.proofs.KeptLines.{grown_long, grown_same, line_appended, lines_count, rest_long}
use Rattle.jpeg_lossless.proofs.KeptLines.{size_at, taken_more}
use Rattle.jpeg_lossless.proofs.picture.SampleLines.into_picture.Goals.{After-deref_mut}
use Rattle.jpeg_lossless.proofs.picture.SampleLines.into_picture.Goals as goal

within : (c : After-deref_mut) → c.loop-row.row < length c.args.self
within c = omega (arith, c.loop-row-test.true, c.from-height.ensures, lines_count c.self.inside c.args.self c.self.view_is)

-- a line has the size that was computed
sized : (c : After-deref_mut) → length (slice_index_or c.loop-row.self c.loop-row.row []) ≡ c.in-Some.size
sized c = rw c.loop-row.invariant.same (search (rules, size_at, within c))

begun : (c : After-deref_mut) → c.loop-row.picture.len ≡ length c.loop-row.picture.items
begun c = search rules

long : (c : After-deref_mut) → length c.deref_mut.result.now ≡ c.len-start.result + c.in-Some.size
long c = grown_long c.loop-row.picture.items c.resize.new.self.items c.deref_mut.result.now c.loop-row.picture.len
    c.len-start.result c.in-Some.size (begun c) c.len-start.ensures c.in_ok-resize.ensures.items
    c.deref_mut.ensures.value

pub write_line-requires-clause-row : goal.write_line-requires-clause-row
write_line-requires-clause-row c =
    rw c.loop-row.invariant.same (within (goal.at.write_line-requires-clause-row c).After-deref_mut)

pub write_line-requires-clause-room : goal.write_line-requires-clause-room
write_line-requires-clause-room c =
    let at = goal.at.write_line-requires-clause-room c in
    rest_long c.deref_mut.result.now c.len-start.result c.in-Some.size (long at.After-deref_mut)
    ∙ sym (sized at.After-deref_mut)

pub loop-row-preserved : goal.loop-row-preserved
loop-row-preserved c =
    let at = (goal.at.loop-row-preserved c).After-deref_mut in
    let row = c.loop-row.row in
    let size = c.in-Some.size in
    let line_size : length c.write_line.new.line ≡ size
    = ap (λ (l : List ℕ). length l) c.write_line.ensures.line ∙ sized at in
    let same = grown_same c.loop-row.picture.items c.resize.new.self.items c.deref_mut.result.now
    c.loop-row.picture.len c.len-start.result size (begun at) c.len-start.ensures c.in_ok-resize.ensures.items
    c.deref_mut.ensures.value in
    let appended = line_appended c.resize.new.self c.deref_mut.result.now c.write_line.new.line
    c.loop-row.picture.items c.len-start.result size c.deref_mut.ensures.value (long at) same line_size in
    let inside : row < length c.loop-row.self = rw c.loop-row.invariant.same (within at) in
    record {
      same = c.write_line.ensures.same ∙ c.loop-row.invariant.same;
      bytes = appended
          ∙ ap₂ (λ (a b : List ℕ). a ++ b) c.loop-row.invariant.bytes c.write_line.ensures.line
          ∙ sym (taken_more c.loop-row.self row inside)
          ∙ ap (λ (l : List (List ℕ)). concat (take (row + 1) l)) (sym c.write_line.ensures.same);
      long = ap (λ (l : List ℕ). length l) appended
          ∙ length-append c.loop-row.picture.items c.write_line.new.line
          ∙ omega (arith, c.loop-row.invariant.long, line_size, add-mul row 1 size, one-mul size);
    }

pub returns : goal.returns
returns c =
    let same = c.loop-row.invariant.same in
    let all : length c.loop-row.self ≤ c.loop-row.row
    = omega (
      arith,
      c.loop-row-test.false,
      c.from-height.ensures,
      ap (λ (l : List (List ℕ)). length l) same,
      lines_count c.self.inside c.args.self c.self.view_is,
    ) in
    c.loop-row.invariant.bytes ∙ ap concat (take_all c.loop-row.row c.loop-row.self all) ∙ ap concat same
