-- What a caller sees of a plane in reserved memory.
use Rattle.std.specs.Prelude.{◌≤◌, length, vec_capacity}
use Rattle.jpeg_pixels.specs.Scaled.{IsScale}
use Rattle.jpeg_pixels.specs.Workers.{Work}
use Rattle.jpeg_pixels.specs.declared.reserved_plane.ReservedPlane.TheInside.{Inside}

abbrev pub work_in : Inside → Work
work_in p = record {
  scale = p.scale;
  wide = p.blocks_wide;
  down = p.rows;
  table = p.table;
  samples = p.samples.items;
  room = p.room;
}

-- memory for the whole plane is reserved
pub record IsReserved (p : Inside) : Type 0 where
  pub scale : IsScale p.scale
  pub wide : p.blocks_wide ≤ 65535
  pub rows : p.rows ≤ 255
  pub within : length p.samples.items ≤ p.room
  pub reserved : p.room ≤ vec_capacity p.samples
