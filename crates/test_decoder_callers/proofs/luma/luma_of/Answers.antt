use Rattle.std.proofs.Common.{◌≡◌, ◌∙◌, Option, ap, ap₂, option_map, sym}
use Rattle.jpeg_segments.specs.Frame.{Frame}
use Rattle.jpeg_meaning.specs.Pixels.{info_by}
use Rattle.jpeg_meaning.specs.declared.settings.Settings.{Settings}
use Rattle.jpeg_meaning.specs.declared.progress.Progress.TheVariants.{HeaderRead}
use Rattle.jpeg_decoder.proofs.Callers.{luma_is_counted}
use Rattle.test_decoder_callers.proofs.luma.luma_of.Goals as goal

pub returns : goal.returns
returns g c blocks few =
    let begun : c.set_luma.new.self.stage ≡ HeaderRead = ap (λ d. d.stage) c.set_luma.ensures ∙ c.requires.header in
    let still = c.in_ok-read_info.ensures.still (λ e. let n : ⊥ = cc in n) in
    let ready : c.read_info.new.self.stage ≡ HeaderRead = ap (λ d. d.stage) still ∙ begun in
    let same : c.decode.new.self.settings ≡ c.read_info.new.self.settings = c.in_ok-pixels.ensures.settings in
    let frame : c.decode.new.self.found.said.frame ≡ c.read_info.new.self.found.said.frame =
    c.in_ok-pixels.ensures.stays ready in
    luma_is_counted c.decode.new.self.settings c.decode.new.self.found.said.frame c.unwrap-info.result
    c.unwrap-precision.result c.in_ok-pixels.pixels.items
    (ap (λ (s : Settings). s.luma) same
    ∙ (ap (λ d. d.settings.luma) still ∙ ap (λ d. d.settings.luma) c.set_luma.ensures))
    c.in_ok-pixels.ensures.size
    (ap₂ (λ (s : Settings) (f : Option Frame). option_map (info_by s) f) same frame
    ∙ (sym c.info.ensures ∙ c.unwrap-info.ensures))
    (ap (λ (f : Option Frame). option_map (λ f. f.precision) f) frame
    ∙ (sym c.precision.ensures ∙ c.unwrap-precision.ensures)) blocks few
