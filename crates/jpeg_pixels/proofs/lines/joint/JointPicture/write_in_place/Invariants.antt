use Rattle.std.proofs.Common.{◌≡◌, ◌*◌, drop, length}
use Rattle.jpeg_pixels.specs.JointPlanes.{joint_row_size}
use Rattle.jpeg_pixels.proofs.JointPictures.{AreWritten}
use Rattle.jpeg_pixels.proofs.lines.joint.JointPicture.write_in_place.Given as goal

abbrev pub invariant-loop-row : goal.invariant-loop-row
invariant-loop-row l = record {
  written : AreWritten l.self.color_convert l.self.shape l.self.width l.fn.room l.height l.row
      l.room;
  unread : drop (l.row * joint_row_size l.self.shape) l.room
      ≡ drop (l.row * joint_row_size l.self.shape) l.fn.room;
  long : length l.room ≡ length l.fn.room;
}
