-- Lemmas that the proofs of functions use, by what they are about.
use Rattle.zaxbriar_metadata.proofs.Collecting.{exif-by-name, other-kept, parts-by-name, resources-by-name, xmp-by-name}
use Rattle.zaxbriar_metadata.proofs.Directories.{cut-second, exif-more, few-bytes, no-first, no-link, part-cut}
use Rattle.zaxbriar_metadata.proofs.Directories.{part-empty, part-whole, second-found}
use Rattle.zaxbriar_metadata.proofs.Extensions.{joined-all, joined-missing, joined-more, name-here, name-later, no-name}
use Rattle.zaxbriar_metadata.proofs.Extensions.{no-value, part-long, value-here, value-later}
use Rattle.zaxbriar_metadata.proofs.Resources.{cut-resource, found-there, none-there, other-resource, passed-there}
use Rattle.zaxbriar_metadata.proofs.Resources.{none-left, nothing-after, whole-resource}

pub ruleset segments = (exif-more)

pub ruleset directories = (few-bytes, no-first, no-link, cut-second, second-found)

pub ruleset parts = (part-cut, part-empty, part-whole)

pub ruleset resources = (other-resource, cut-resource, whole-resource)

pub ruleset ends = (nothing-after)

pub ruleset numbered = (none-there, found-there, passed-there, none-left)

pub ruleset names = (name-here, name-later, no-name)

pub ruleset values = (no-value, value-here, value-later)

pub ruleset joins = (joined-more, joined-missing, joined-all, part-long)

pub ruleset others = (other-kept)

pub ruleset kinds = (exif-by-name, xmp-by-name, parts-by-name, resources-by-name)
