use Rattle.std.proofs.Common.{◌≡◌, ◌∙◌, Some, ap, option_map, refl, sym}
use Rattle.jpeg_meaning.specs.Output.{Tells, default_settings}
use Rattle.jpeg_meaning.specs.Pixels.{info_by}
use Rattle.jpeg_meaning.specs.declared.settings.Settings.{Settings}
use Rattle.jpeg_meaning.specs.Stream.{told_of}
use Rattle.jpeg_decoder.proofs.Callers.{bytes_are_known, known_bytes_are_told, picture_is_counted}
use Rattle.test_example_caller.proofs.described_picture_of.Goals as goal

pub returns-clause-size : goal.returns-clause-size
returns-clause-size c =
    picture_is_counted c.decode.new.self.settings c.decode.new.self.found.said.frame c.unwrap-info.result
    c.unwrap-precision.result
    c.in_ok-pixels.pixels.items c.in_ok-pixels.ensures.size c.in_ok-pixels.ensures.counted
    (sym c.info.ensures ∙ c.unwrap-info.ensures) (sym c.precision.ensures ∙ c.unwrap-precision.ensures)

pub returns-clause-means : goal.returns-clause-means
returns-clause-means c few =
    let bytes = c.args.bytes.now in
    let tells : Tells (Some bytes) bytes = record { told = refl; few = few } in
    let known = bytes_are_known (Some bytes) bytes tells in
    let same = known_bytes_are_told (Some bytes) bytes tells in
    let reads = rw (c.in_ok-decoder.ensures.ok, c.new.ensures) at c.in_ok-pixels.ensures.decodes.reads in
    let plain : c.decode.new.self.settings ≡ default_settings =
    c.in_ok-pixels.ensures.settings ∙ ap (λ d. d.settings) (c.in_ok-decoder.ensures.ok) in
    let whole = ((reads tt).1 known).1 in (
      told_of c.decode.new.self.found.said,
      c.decode.new.self.source.bytes,
      rw same at whole,
      ap (λ (s : Settings). option_map (info_by s) c.decode.new.self.found.said.frame) (sym plain)
          ∙ (sym c.info.ensures ∙ c.unwrap-info.ensures),
      sym c.precision.ensures ∙ c.unwrap-precision.ensures,
    )
