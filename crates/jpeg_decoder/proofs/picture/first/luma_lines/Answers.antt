use Rattle.std.proofs.Common.{◌∙◌, refl, rules, sym}
use Rattle.jpeg_segments.specs.FrameView.{frame_in}
use Rattle.jpeg_decoder.proofs.Pictures.LumaPictures.{decoded-some, first-scale, luma-gives, luma-lacks, luma-shown}
use Rattle.jpeg_decoder.proofs.picture.first.luma_lines.Goals as goal

pub index-first-requires : goal.index-first-requires
index-first-requires c =
    let some = decoded-some (frame_in c.args.frame.now) _ refl c.requires.frame in
    search rules

pub lines_within-requires : goal.lines_within-requires
lines_within-requires c =
    first-scale (frame_in c.args.frame.now) _ _ c.requires.frame refl c.index-first.ensures

pub returns-then-has_luma-clause-meant : goal.returns-then-has_luma-clause-meant
returns-then-has_luma-clause-meant c planes there =
    luma-gives c.args.transform (frame_in c.args.frame.now) _ _ planes _ _ c.requires.frame refl
    c.index-first.ensures (sym c.has_luma.ensures ∙ c.if-has_luma.true) there c.lines_within.ensures.cropped

pub returns-then-has_luma-clause-lines : goal.returns-then-has_luma-clause-lines
returns-then-has_luma-clause-lines c =
    luma-shown c.args.transform (frame_in c.args.frame.now) _ _ _ _ c.requires.frame c.requires.process refl
    c.index-first.ensures (sym c.has_luma.ensures ∙ c.if-has_luma.true) c.requires.covers
    c.lines_within.ensures.height c.lines_within.ensures.width

pub returns-clause-meant : goal.returns-clause-meant
returns-clause-meant c planes there =
    luma-lacks c.args.transform (frame_in c.args.frame.now) _ _ planes _ c.requires.frame refl c.index-first.ensures
    (sym c.has_luma.ensures ∙ c.if-has_luma.false) c.luma_error.ensures
