-- The lines of a part of a picture are its pixels.
use Rattle.std.proofs.Common.{◌≡◌, ◌∙◌, ℕ, ◌+◌, ◌*◌, ◌≤◌, List, length}
use Rattle.std.proofs.Common.{ap, arith, sym, refl, subst, true}
use Rattle.jpeg_decoder.specs.Bytes.{HaveBytes}
use Rattle.jpeg_decoder.specs.LinesView.{AreAtLeast, crop_of}
use Rattle.jpeg_orientation.proofs.Parts.{stored-inside}
use Rattle.jpeg_orientation.specs.Areas.{is_inside}
use Rattle.jpeg_orientation.specs.declared.areas.Area.{Area}
use Rattle.zaxbriar_samples.specs.DecodedPictures.{Decoded, decoded}
use Rattle.zaxbriar_samples.specs.LineTakers.{IsWithin, part_within}
use Rattle.zaxbriar_samples.specs.Parts.{has_part, part_info, pixel_bytes, shown_part, stored_part}
use Rattle.zaxbriar_samples.specs.Files.{file_as}
use Rattle.zaxbriar_samples.specs.Turns.{turn_by, upright}
use Rattle.zaxbriar_samples.specs.declared.files.PictureFormat.{PictureFormat}
use Rattle.std.proofs.Common.{IsSomeAnd, None, Option, Some}
use Rattle.std.specs.Io.KnownBytes.{Appends}
use Rattle.zaxbriar_samples.specs.Png.{line_bytes}
use Rattle.zaxbriar_samples.proofs.PartLines.{at-least, columns-inside, is-there, line-pixels, part-have, part-length, part-pixels}
use Rattle.zaxbriar_pictures.specs.PartLines.{HasPicture, IsAreaOf, IsPartFor, area_for, picture_of}
use Rattle.zaxbriar_pictures.specs.declared.lines.Part.{Part}
use Rattle.zaxbriar_samples.specs.declared.line_takers.Stored.{Stored}

-- A file of the part's lines is one of the part that is asked for.
pub written-part : (format : PictureFormat) (crop : Option Area) (orientation : ℕ) (picture : Decoded)
    (before after : Option (List ℕ)) (p : Part) {stored : Stored}
    → HasPicture (stored_part crop orientation picture) stored p
    → IsSomeAnd (file_as format (upright p.stored.orientation (picture_of p.stored p.lines))) (Appends before after)
    → stored.orientation ≡ orientation
    → IsSomeAnd (file_as format (shown_part crop orientation picture)) (Appends before after)
written-part format crop orientation picture before after p h written same =
    subst (λ (d : Decoded). IsSomeAnd (file_as format d) (Appends before after))
    (ap (λ (o : ℕ). upright o (picture_of p.stored p.lines)) (h.orientation_is ∙ same)
    ∙ ap (upright orientation) h.picture_is) written

-- The area of a part that fits lies in the stored picture.
pub area-within : (crop : Option Area) (stored : Stored) (area : Option Area) → area ≡ area_for crop stored
    → has_part crop stored.orientation stored.info ≡ true → IsWithin area stored
area-within None stored area is h = subst (λ (a : Option Area). IsWithin a stored) (sym is) tt
area-within (Some part) stored area is h =
    subst (λ (a : Option Area). IsWithin a stored) (sym is)
    (stored-inside (turn_by stored.info stored.orientation) part h)

part-stored : (crop : Option Area) (stored : Stored) (pixels : List ℕ)
    → part_within (area_for crop stored) (decoded stored.info stored.precision pixels)
    ≡ stored_part crop stored.orientation (decoded stored.info stored.precision pixels)
part-stored None stored pixels = refl
part-stored (Some part) stored pixels = refl

-- Where the picture isn't turned, that area is the part as it is shown.
pub part-shown : (crop : Option Area) (stored : Stored) (area : Option Area) (pixels : List ℕ)
    → area ≡ area_for crop stored → stored.orientation ≡ 1
    → part_within area (decoded stored.info stored.precision pixels)
    ≡ shown_part crop stored.orientation (decoded stored.info stored.precision pixels)
part-shown crop stored area pixels is one =
    let p : Decoded = decoded stored.info stored.precision pixels in
    ap (λ (a : Option Area). part_within a p) is
    ∙ part-stored crop stored pixels
    ∙ ap (λ (o : ℕ). upright o (stored_part crop stored.orientation p)) (sym one)

-- The lines of an area are those of a part of the picture.
pub is-area : (area : Area) (stored : Stored) (lines : List (List ℕ)) (p : Part)
    → HaveBytes (line_bytes stored.info stored.precision) lines → length lines ≡ stored.info.height
    → is_inside area stored.info.width stored.info.height ≡ true
    → p.stored ≡ record stored { info = part_info area stored.info }
    → p.lines ≡ crop_of area.top area.height (area.left * pixel_bytes stored.info stored.precision)
    (area.width * pixel_bytes stored.info stored.precision) lines
    → IsAreaOf area stored lines p
is-area area stored lines p all high inside said are =
    let h = is-there area stored.info inside in
    let b : ℕ = pixel_bytes stored.info stored.precision in
    let part : List (List ℕ) = crop_of area.top area.height (area.left * b) (area.width * b) lines in
    let room : area.top + area.height ≤ length lines = omega (arith, high, h.bottom) in
    let long : area.left * b + area.width * b ≤ line_bytes stored.info stored.precision
    = columns-inside area stored.info stored.precision h in
    record {
      picture_is = ap (λ (s : Stored). picture_of s p.lines) said
          ∙ ap (λ (ls : List (List ℕ)). picture_of (record stored { info = part_info area stored.info }) ls) are
          ∙ ap (λ (pixels : List ℕ). decoded (part_info area stored.info) stored.precision pixels)
          (part-pixels area stored.info stored.precision lines all high h);
      orientation_is = ap (λ (s : Stored). s.orientation) said;
      format_is = ap (λ (s : Stored). s.info.pixel_format) said;
      height = ap (length {A = List ℕ}) are
          ∙ part-length area.top area.height (area.left * b) (area.width * b) lines room
          ∙ ap (λ (s : Stored). s.info.height) (sym said);
      bytes = subst (λ (s : Stored). HaveBytes (line_bytes s.info s.precision) p.lines) (sym said)
          (subst (λ (n : ℕ). HaveBytes n p.lines) (sym (line-pixels (part_info area stored.info) stored.precision))
          (subst (λ (ls : List (List ℕ)). HaveBytes (area.width * b) ls) (sym are)
          (part-have area.top area.height (area.left * b) (area.width * b) lines
          (at-least (line_bytes stored.info stored.precision) (area.left * b + area.width * b) lines all long))));
    }

-- A part of which the lines are given as they are is all of the picture.
pub all-part : (stored : Stored) (lines : List (List ℕ)) (p : Part) → p.stored ≡ stored → p.lines ≡ lines
    → length lines ≡ stored.info.height → HaveBytes (line_bytes stored.info stored.precision) lines
    → IsPartFor None stored lines p
all-part stored lines p said are high all = record {
  picture_is = ap (λ (s : Stored). picture_of s p.lines) said ∙ ap (picture_of stored) are;
  orientation_is = ap (λ (s : Stored). s.orientation) said;
  format_is = ap (λ (s : Stored). s.info.pixel_format) said;
  height = ap (length {A = List ℕ}) are ∙ high ∙ ap (λ (s : Stored). s.info.height) (sym said);
  bytes = subst (λ (s : Stored). HaveBytes (line_bytes s.info s.precision) p.lines) (sym said)
      (subst (λ (ls : List (List ℕ)). HaveBytes (line_bytes stored.info stored.precision) ls) (sym are) all);
}

-- ---- by the numbers that the code has

pub crop-room : (area : Area) (stored : Stored) (lines : List (List ℕ)) (left width pixel : ℕ)
    → is_inside area stored.info.width stored.info.height ≡ true
    → HaveBytes (line_bytes stored.info stored.precision) lines → left ≡ area.left → width ≡ area.width
    → pixel ≡ pixel_bytes stored.info stored.precision → AreAtLeast (left * pixel + width * pixel) lines
crop-room area stored lines left width pixel inside all l w b =
    let n : ℕ = pixel_bytes stored.info stored.precision in
    let same : left * pixel + width * pixel ≡ area.left * n + area.width * n =
    ap (λ (k : ℕ). left * k + width * k) b ∙ ap (λ (k : ℕ). k * n + width * n) l
    ∙ ap (λ (k : ℕ). area.left * n + k * n) w in
    subst (λ (k : ℕ). AreAtLeast k lines) (sym same)
    (at-least (line_bytes stored.info stored.precision) (area.left * n + area.width * n) lines all
    (columns-inside area stored.info stored.precision (is-there area stored.info inside)))

pub crop-there : (area : Area) (n : ℕ) (lines made : List (List ℕ)) (top height from bytes : ℕ)
    → made ≡ crop_of top height from bytes lines → top ≡ area.top → height ≡ area.height → from ≡ area.left * n
    → bytes ≡ area.width * n → made ≡ crop_of area.top area.height (area.left * n) (area.width * n) lines
crop-there area n lines made top height from bytes is t h f b =
    is ∙ ap (λ (k : ℕ). crop_of k height from bytes lines) t
    ∙ ap (λ (k : ℕ). crop_of area.top k from bytes lines) h
    ∙ ap (λ (k : ℕ). crop_of area.top area.height k bytes lines) f
    ∙ ap (λ (k : ℕ). crop_of area.top area.height (area.left * n) k lines) b
