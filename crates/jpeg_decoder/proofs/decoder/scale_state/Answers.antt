use Rattle.std.proofs.Common.{◌≡◌, ◌∙◌, Some, ap, rules, subst, sym}
use Rattle.jpeg_meaning.specs.Found.{Said, with_said}
use Rattle.jpeg_meaning.specs.Sound.{HasDecodedFrame, IsSound, IsUnread}
use Rattle.jpeg_segments.specs.FrameView.{frame_in}
use Rattle.jpeg_decoder.specs.Seen.{found_of, said_of}
use Rattle.jpeg_meaning.proofs.Soundness.{frames_scaled, sound_scaled}
use Rattle.jpeg_decoder.proofs.decoder.scale_state.Goals.{After-size_frame}
use Rattle.jpeg_decoder.proofs.decoder.scale_state.Goals as goal

-- what was found, by the fields
opened : (c : After-size_frame) → found_of (said_of c.said.inside) c.state.inside.decoded ≡ c.args.state.now
opened c = ap (λ (s : Said). found_of s c.state.inside.decoded) c.said.view_is ∙ c.state.view_is

pub returns-clause-frames : goal.returns-clause-frames
returns-clause-frames c =
    let old = found_of (said_of c.said.inside) c.state.inside.decoded in
    let same = sym (opened (goal.at.returns-clause-frames c).After-size_frame) in
    frames_scaled c.args.scale old (with_said (λ said. record said { frame = Some (frame_in c.size_frame.new.frame) }) old)
    c.requires.scale (search rules) (subst HasDecodedFrame same c.requires.frames)

pub returns-clause-sound : goal.returns-clause-sound
returns-clause-sound c =
    let old = found_of (said_of c.said.inside) c.state.inside.decoded in
    let same = sym (opened (goal.at.returns-clause-sound c).After-size_frame) in
    λ p u. (
      sound_scaled c.args.scale old (with_said (λ said. record said { frame = Some (frame_in c.size_frame.new.frame) }) old)
          c.requires.scale (search rules) (subst IsSound same p) (subst IsUnread same u),
      subst IsUnread same u,
    )
