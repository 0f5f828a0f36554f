-- Lemmas that the proofs of functions use, by what they are about.
use Rattle.zaxbriar_files.proofs.ImageIndexes.{all-entries, cut-index, few-entries, images-done, images-pushed, no-count}
use Rattle.zaxbriar_files.proofs.ImageIndexes.{no-header, refused-index, sixteen-each, their-entries, whole-index}

pub ruleset images = (images-pushed, images-done)

pub ruleset directories = (no-header, no-count, few-entries, all-entries, their-entries)

pub ruleset tables = (refused-index, cut-index, whole-index, sixteen-each)
