use Rattle.std.proofs.Common.{◌∙◌, ap, refl, subst, sym}
use Rattle.std.proofs.lemmas.Result.{IfOk-weaker}
use Rattle.jpeg_meaning.specs.Sound.{HasDecodedFrame, IsSound}
use Rattle.jpeg_decoder.specs.Seen.{found_of}
use Rattle.jpeg_decoder.specs.declared.scan.decoded.Decoded.{Decoded}
use Rattle.jpeg_decoder.proofs.LosslessFrames.LosslessReads.{on-ok}
use Rattle.jpeg_decoder.proofs.Pictures.PictureSizes.{lines-whole}
use Rattle.jpeg_decoder.proofs.Partial.ShownFaults.{then-holds}
use Rattle.jpeg_decoder.proofs.Partial.ShownWalks.{ended-shows, fault-bytes, memory-shows}
use Rattle.jpeg_decoder.proofs.picture.partial.show_ended.Goals as goal
use Rattle.jpeg_decoder.proofs.picture.partial.show_ended.Goals.{After-show_found}

pub show_found-requires : goal.show_found-requires
show_found-requires c =
    let m = c.is_unknown_end.ensures.memory c.if-is_unknown_end.false in
    record {
      sound = subst IsSound
          (sym (ap (λ (d : Decoded). found_of c.state.inside.said d) c.replace-decoded.ensures.value ∙ c.state.view_is))
          (then-holds c.args.ended (IsSound c.args.state.now) m c.requires.sound);
      fault = fault-bytes c.args.ended c.err.result c.err.ensures.value c.requires.fault;
    }

pub returns-then-is_unknown_end-clause-shows : goal.returns-then-is_unknown_end-clause-shows
returns-then-is_unknown_end-clause-shows c w old new h = memory-shows c.args.settings w old new _ _

pub returns-clause-shows : goal.returns-clause-shows
returns-clause-shows c w old new h =
    ended-shows c.args.settings w old new c.args.ended c.args.state.now
    (found_of c.state.inside.said c.replace-decoded.result) c.args.walk c.err.result c.show_found.result
    (c.is_unknown_end.ensures.memory c.if-is_unknown_end.false)
    (c.is_unknown_end.ensures.interrupted c.if-is_unknown_end.false) c.err.ensures.value
    (ap (λ (d : Decoded). found_of c.state.inside.said d) c.replace-decoded.ensures.value ∙ c.state.view_is)
    c.show_found.ensures.shown c.show_found.ensures.rows c.show_found.ensures.first h

-- the frame is decoded
decoded : (c : After-show_found) → HasDecodedFrame (found_of c.state.inside.said c.state.inside.decoded)
decoded c =
    subst HasDecodedFrame (sym c.state.view_is)
    (then-holds c.args.ended (IsSound c.args.state.now)
    (c.is_unknown_end.ensures.memory c.if-is_unknown_end.false) c.requires.sound).frames

pub returns-clause-frames : goal.returns-clause-frames
returns-clause-frames c = on-ok c.show_found.result (decoded (goal.at.returns-clause-frames c).After-show_found)

pub returns-clause-size : goal.returns-clause-size
returns-clause-size c =
    IfOk-weaker c.show_found.result _ _
    (λ p h. lines-whole c.args.settings (found_of c.state.inside.said c.state.inside.decoded) p.lines _
    (decoded (goal.at.returns-clause-size c).After-show_found) h refl)
    c.show_found.ensures.lines
