use Rattle.std.proofs.lemmas.Result.{err_from_is_err_and}
use Rattle.std.proofs.Common.{◌∙◌, ap}
use Rattle.jpeg_meaning.specs.States.{Decoding}
use Rattle.jpeg_meaning.specs.Stream.{told_of}
use Rattle.zaxbriar_calls.proofs.Images.{header-end-alone, header-refused, header-told-alone, refused-end, scans-end}
use Rattle.zaxbriar_calls.proofs.Images.{scans-named, scans-refused, scans-told}
use Rattle.zaxbriar_calls.proofs.metadata.read_through.Goals as goal
use Rattle.zaxbriar_calls.proofs.metadata.read_through.Goals.{then-whole+in_ok-read_scans, else-whole}

pub returns-in_err-read_info-clause-told : goal.returns-in_err-read_info-clause-told
returns-in_err-read_info-clause-told g c =
    let p = err_from_is_err_and c.from_residual.result c.from_residual.ensures.1 in
    rw (p.1, p.2) (header-refused c.args.max_passes c.args.whole c.args.decoder.now.source c.read_info.new.self.source
    c.args.decoder.now.stage c.args.decoder.now.found _ _ c.requires.fresh
    (c.in_err-read_info.ensures.reads c.requires.fresh).1 (c.in_err-read_info.ensures.told c.requires.fresh))

pub returns-in_err-read_info-clause-named : goal.returns-in_err-read_info-clause-named
returns-in_err-read_info-clause-named g c known =
    let p = err_from_is_err_and c.from_residual.result c.from_residual.ensures.1 in
    rw (p.1, p.2) (λ n. refused-end c.args.max_passes c.args.whole c.args.decoder.now.source.bytes _
    ((c.in_err-read_info.ensures.reads c.requires.fresh).1 known n))

pub returns-in_err-read_scans-clause-told : goal.returns-in_err-read_scans-clause-told
returns-in_err-read_scans-clause-told g c =
    let p = err_from_is_err_and c.from_residual-in_err-read_scans.result c.from_residual-in_err-read_scans.ensures.1 in
    rw (p.1, p.2) (scans-refused c.args.max_passes c.args.whole c.args.decoder.now.source c.read_info.new.self.source
    c.read_scans.new.decoder.source c.read_info.new.self.found _ _ c.if-whole.true
    (c.in_ok-read_info.ensures.reads c.requires.fresh).1 c.in_err-read_scans.ensures.told)

pub returns-in_err-read_scans-clause-named : goal.returns-in_err-read_scans-clause-named
returns-in_err-read_scans-clause-named g c known =
    let p = err_from_is_err_and c.from_residual-in_err-read_scans.result c.from_residual-in_err-read_scans.ensures.1 in
    rw (p.1, p.2) (scans-named c.args.max_passes c.args.whole c.read_info.new.self.settings c.args.decoder.now.source
    c.read_info.new.self.source c.read_scans.new.decoder.source c.read_info.new.self.found _ c.if-whole.true
    (c.in_ok-read_info.ensures.settings ∙ c.requires.plain) (c.in_ok-read_info.ensures.reads c.requires.fresh).1
    c.in_err-read_scans.ensures.named known)

pub returns-clause-told : goal.returns-clause-told
returns-clause-told g c known = elim c.if-whole.branch [
  | then-whole+in_ok-read_scans w ↦
      ap (λ (d : Decoding). told_of d.found.said) w.decoder-is
      ∙ scans-told c.args.max_passes c.args.whole c.args.decoder.now.source c.read_info.new.self.source
      c.read_info.new.self.found _ w.if-whole.true (c.in_ok-read_info.ensures.reads c.requires.fresh).1
      w.in_ok-read_scans.ensures.told known
  | else-whole w ↦
      ap (λ (d : Decoding). told_of d.found.said) w.decoder-is
      ∙ header-told-alone c.args.max_passes c.args.whole c.args.decoder.now.source c.args.decoder.now.stage
      c.args.decoder.now.found _ c.requires.fresh w.if-whole.false (c.in_ok-read_info.ensures.told c.requires.fresh)
      known
]

pub returns-clause-whole : goal.returns-clause-whole
returns-clause-whole g c known = elim c.if-whole.branch [
  | then-whole+in_ok-read_scans w ↦
      scans-end c.args.max_passes c.args.whole c.read_info.new.self.settings c.args.decoder.now.source
      c.read_info.new.self.source c.read_info.new.self.found w.if-whole.true
      (c.in_ok-read_info.ensures.settings ∙ c.requires.plain) (c.in_ok-read_info.ensures.reads c.requires.fresh).1
      w.in_ok-read_scans.ensures.ends known
  | else-whole w ↦
      header-end-alone c.args.max_passes c.args.whole c.args.decoder.now.source c.read_info.new.self.source
      c.read_info.new.self.found w.if-whole.false (c.in_ok-read_info.ensures.reads c.requires.fresh).1 known
]
