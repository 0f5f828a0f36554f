-- What a caller sees of what was collected.
use Rattle.std.specs.Prelude.{ℕ, List, Option, map, option_map}
use Rattle.std.specs.declared.alloc.Global.{Global}
use Rattle.std.specs.declared.vec.Vec.{Vec}
use Rattle.zaxbriar_metadata.specs.Collected.{Collection}
use Rattle.zaxbriar_metadata.specs.declared.collected.Collected.{Collected}

abbrev pub bytes_in : Option (Vec ℕ Global) → Option (List ℕ)
bytes_in bytes = option_map (λ v. v.items) bytes

abbrev pub parts_in : List (Vec ℕ Global) → List (List ℕ)
parts_in parts = map (λ v. v.items) parts

abbrev pub collection_in : Collected → Collection
collection_in c = record {
  exif = bytes_in c.exif;
  xmp = bytes_in c.xmp;
  extensions = parts_in c.extensions.items;
  resources = c.resources.items;
}
