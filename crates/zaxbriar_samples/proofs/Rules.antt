-- Definitions that laws unfold.
use Rattle.std.specs.Prelude.{⊤}
use Rattle.zaxbriar_samples.specs.Boxes.{texts_below}
use Rattle.zaxbriar_samples.specs.Parts.{part_line}
use Rattle.zaxbriar_samples.specs.Turns.{turned_pixels, upright_line, upright_pixel}

-- the pixels of a part, and of a picture that is turned
unfoldable pub shown_parts : ⊤
unfolding texts_below part_line turned_pixels upright_line upright_pixel
shown_parts = tt
