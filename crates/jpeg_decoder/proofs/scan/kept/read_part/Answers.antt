use Rattle.std.proofs.Common.{◌≤◌, ◌+◌, ◌-◌, Ok, Err, List, ℤ, length, ap, ◌∙◌, arith}
use Rattle.jpeg_bits.specs.Passes.{Block}
use Rattle.jpeg_bits.specs.Refusals.{kept_refusal}
use Rattle.jpeg_decoder.proofs.Kept.PartTurns.{part-of-array, part-size}
use Rattle.jpeg_decoder.proofs.scan.kept.read_part.Goals as goal

pub returns-then-not-take_bands-clause-size : goal.returns-then-not-take_bands-clause-size
returns-then-not-take_bands-clause-size g c =
    let a = c.args in
    part-size c.reach.new.self c.deref_mut.result.now
    c.take_bands.new.blocks a.first (a.end - a.first) c.deref_mut.ensures.value c.take_bands.auto.blocks
    ∙ ap (λ (l : List Block). length l) c.in_ok-reach.ensures.blocks

pub returns-then-not-take_bands-clause-blocks : goal.returns-then-not-take_bands-clause-blocks
returns-then-not-take_bands-clause-blocks g c others =
    let a = c.args in
    let i = a.interval.now in
    let new = c.take_bands.new in
    let coding = c.coding-coding in
    let read = rw coding.ensures.pass at c.if-not-take_bands.ensures.blocks in
    let stored : a.first + (a.end - a.first) ≤ length c.deref_mut.result.now
    = omega (
      arith,
      c.in_ok-reach.ensures.stored,
      ap (λ (l : List (List ℤ)). length l) c.deref_mut.ensures.value,
      c.requires.some,
    ) in
    rw c.take_refusal.ensures (rw c.in_ok-reach.ensures.blocks at (part-of-array c.reach.new.self c.deref_mut.result.now
    c.take_bands.new.blocks a.first (a.end - a.first) c.deref_mut.ensures.value c.take_bands.auto.blocks
    a.scan.now.pass a.scan.now.codings coding.result.dc_table.now coding.result.ac_table.now others i.carried.predictors
    i.carried.run new.run i.decoder new.decoder a.source.now new.source (Err (kept_refusal new.refusal)) c.requires.alone
    coding.ensures.tables c.requires.four stored read))

pub returns-clause-size : goal.returns-clause-size
returns-clause-size g c =
    let a = c.args in
    part-size c.reach.new.self c.deref_mut.result.now
    c.take_bands.new.blocks a.first (a.end - a.first) c.deref_mut.ensures.value c.take_bands.auto.blocks
    ∙ ap (λ (l : List Block). length l) c.in_ok-reach.ensures.blocks

pub returns-clause-blocks : goal.returns-clause-blocks
returns-clause-blocks g c others =
    let a = c.args in
    let i = a.interval.now in
    let new = c.take_bands.new in
    let coding = c.coding-coding in
    let read = rw coding.ensures.pass at c.if-not-take_bands.ensures.blocks in
    let stored : a.first + (a.end - a.first) ≤ length c.deref_mut.result.now
    = omega (
      arith,
      c.in_ok-reach.ensures.stored,
      ap (λ (l : List (List ℤ)). length l) c.deref_mut.ensures.value,
      c.requires.some,
    ) in
    rw c.in_ok-reach.ensures.blocks at (part-of-array c.reach.new.self c.deref_mut.result.now
    c.take_bands.new.blocks a.first (a.end - a.first) c.deref_mut.ensures.value c.take_bands.auto.blocks
    a.scan.now.pass a.scan.now.codings coding.result.dc_table.now coding.result.ac_table.now others i.carried.predictors
    i.carried.run new.run i.decoder new.decoder a.source.now new.source (Ok tt) c.requires.alone
    coding.ensures.tables c.requires.four stored read)
