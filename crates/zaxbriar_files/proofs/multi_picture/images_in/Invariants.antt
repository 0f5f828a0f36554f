use Rattle.std.proofs.Common.{◌≡◌, ◌≤◌, ◌*◌, ◌-◌, ◌++◌, length}
use Rattle.zaxbriar_files.specs.MultiPicture.{images_in}
use Rattle.zaxbriar_files.proofs.multi_picture.images_in.Given as goal

abbrev pub invariant-loop : goal.invariant-loop
invariant-loop l = record {
  made : images_in l.is_little l.base l.count l.table
      ≡ l.images.items ++ images_in l.is_little l.base (l.count - l.counter) l.rest;
  room : 16 * (l.count - l.counter) ≤ length l.rest;
}
