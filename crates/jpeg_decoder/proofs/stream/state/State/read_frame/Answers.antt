use Rattle.std.proofs.Common.{◌≡◌, ◌∙◌, ap, refl, rules, subst, sym}
use Rattle.jpeg_segments.specs.FrameView.{frame_in}
use Rattle.jpeg_meaning.specs.Found.{Found, Said}
use Rattle.jpeg_meaning.specs.Segments.{frame_segment}
use Rattle.jpeg_meaning.specs.Sound.{IsSound}
use Rattle.jpeg_meaning.proofs.ProfileLemmas.{no-frame, frame-read}
use Rattle.jpeg_meaning.proofs.Soundness.{sound-framed}
use Rattle.jpeg_decoder.specs.Seen.{found_of, said_of}
use Rattle.jpeg_decoder.proofs.stream.state.State.read_frame.Given as given
use Rattle.jpeg_decoder.proofs.stream.state.State.read_frame.Goals.{In_ok-frame}
use Rattle.jpeg_decoder.proofs.stream.state.State.read_frame.Goals as goal

-- what was found, by the fields
opened : (g : given.Over) (c : In_ok-frame g) → found_of (said_of c.said.inside) c.self.inside.decoded ≡ c.args.self.now
opened g c = ap (λ (s : Said). found_of s c.self.inside.decoded) c.said.view_is ∙ c.self.view_is

pub returns-clause-reads : goal.returns-clause-reads
returns-clause-reads g c =
    let a = c.in_ok-frame.ensures.answers c.args.number refl in
    let old = found_of (said_of c.said.inside) c.self.inside.decoded in
    let same = opened g (goal.at.returns-clause-reads g c).In_ok-frame in (
      a.0,
      λ k.
          let at = a.1 k in (
            at.0,
            ap (λ (f : Found). frame_segment c.args.number f c.args.source.now.bytes) (sym same)
                ∙ frame-read c.args.number old c.args.source.now.bytes c.parse_sof.new.reader.bytes
                (frame_in c.in_ok-frame.frame) (no-frame c.said.inside.frame (sym c.if-is_some.ensures)) at.1
                c.in_ok-check_frame.ensures,
          ),
    )

pub returns-clause-steps : goal.returns-clause-steps
returns-clause-steps g c =
    let old = found_of (said_of c.said.inside) c.self.inside.decoded in
    let same = opened g (goal.at.returns-clause-steps g c).In_ok-frame in
    record {
      kept = search rules;
      framed = search rules;
      stays = search rules;
      sound = λ sound. sound-framed old (frame_in c.in_ok-frame.frame) (subst IsSound (sym same) sound)
          (no-frame c.said.inside.frame (sym c.if-is_some.ensures)) c.in_ok-frame.ensures.made
          c.in_ok-check_frame.ensures;
      unread = search rules;
    }
