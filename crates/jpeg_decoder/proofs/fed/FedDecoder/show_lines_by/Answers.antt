use Rattle.std.proofs.Common.{◌≡◌, ◌∙◌, ap, drop, subst, sym, ℕ, List, Option}
use Rattle.jpeg_bits.specs.declared.beyond.Beyond.TheVariants.{Nothing}
use Rattle.jpeg_meaning.specs.Stream.{all_brought}
use Rattle.jpeg_decoder.specs.Fed.{FedState, IsAt}
use Rattle.jpeg_decoder.specs.Walks.{steps_over}
use Rattle.jpeg_decoder.proofs.FedBytes.{at-frames, at-walks}
use Rattle.jpeg_decoder.proofs.fed.FedDecoder.show_lines_by.Goals as goal

pub show_lines_after-requires-clause-framed : goal.show_lines_after-requires-clause-framed
show_lines_after-requires-clause-framed c =
    let d = c.args.decoder.now in
    at-frames d.settings.max_blocks c.args.self.now.bytes c.in-Some.checkpoint.now d.found d.source.bytes
    (subst (λ (limit : Option ℕ). IsAt limit c.args.self.now.bytes c.in-Some.checkpoint.now) c.max_blocks.ensures
    c.in-Some.ensures.at) c.requires.header c.in-Some.ensures.framed

pub show_lines_after-requires-clause-walks : goal.show_lines_after-requires-clause-walks
show_lines_after-requires-clause-walks c =
    let d = c.args.decoder.now in
    let at = c.in-Some.checkpoint.now in
    subst (λ (l : List ℕ). all_brought d.settings.max_blocks d.found d.source.bytes
    ≡ steps_over at.left Nothing at.state at.step l)
    (sym (c.bytes_after-rest.ensures.rest ∙ ap (λ (l : List ℕ). drop at.offset l)
    (c.deref.ensures.value ∙ ap (λ (f : FedState). f.bytes) c.self.view_is)))
    (at-walks d.settings.max_blocks c.args.self.now.bytes at d.found d.source.bytes
    (subst (λ (limit : Option ℕ). IsAt limit c.args.self.now.bytes at) c.max_blocks.ensures c.in-Some.ensures.at)
    c.requires.header)
