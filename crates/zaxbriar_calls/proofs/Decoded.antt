-- A picture that was decoded into its lines.
use Rattle.std.proofs.Common.{arith, ◌≡◌, ◌∙◌, ◌+◌, ◌-◌, ◌*◌, ◌==◌, ◌<◌, ◌≤◌, ℕ, Bool, List, Option, Some, None, ap, length, sym, subst, false}
use Rattle.std.proofs.Common.{mul_comm, mul-le-mul_right}
use Rattle.std.proofs.lemmas.Bool.{ne_eqb}
use Rattle.std.specs.Prelude.{if◌then◌else◌, option_map}
use Rattle.jpeg_segments.specs.Frame.{Frame}
use Rattle.jpeg_meaning.specs.Pixels.{info_by, samples_shown}
use Rattle.jpeg_meaning.specs.declared.images.ImageInfo.{ImageInfo}
use Rattle.jpeg_meaning.specs.declared.settings.Settings.{Settings}
use Rattle.jpeg_decoder.specs.Bytes.{AreLinesOf, HaveBytes, IsCounted, bytes_a_sample}
use Rattle.jpeg_decoder.specs.Bytes.{line_bytes, samples_a_pixel, shape_of}
use Rattle.zaxbriar_samples.specs.Parts.{pixel_bytes}
use Rattle.zaxbriar_samples.specs.Png as Png
use Rattle.zaxbriar_calls.proofs.Cropped.{part-held, part-high, part-wide}
use Rattle.zaxbriar_calls.proofs.Smaller.{line-of-pixels, own-or-smaller, same-pixel}
use Rattle.zaxbriar_calls.specs.Boxed.{IsOwnOrSmaller, turned_info, turned_size}
use Rattle.zaxbriar_calls.specs.Crops.{AreOfPart, HasPart, part_turn}
use Rattle.zaxbriar_calls.specs.Layouts.{size_of_lines}
use Rattle.zaxbriar_calls.specs.Lines.{HasLines, turn_of, turn_uncut}
use Rattle.zaxbriar_calls.specs.declared.lines.Lines.{Lines}
use Rattle.zaxbriar_calls.specs.declared.options.Options.{Options}

-- each line of a picture has as many bytes as its pixels are stored in
pub lines-stored : (o : Options) (info : ImageInfo) (precision orientation : ℕ) (lines : Lines) (before after : Settings)
    (old new : Option Frame) (picture : List (List ℕ)) → HasLines o info precision orientation lines → after ≡ before
    → new ≡ old → option_map (info_by before) old ≡ Some info → option_map (λ f. f.precision) old ≡ Some precision
    → IsCounted (option_map (shape_of after) new) → AreLinesOf (option_map (shape_of after) new) picture
    → HaveBytes (info.width * lines.stored) picture
unfolding line_bytes
lines-stored o info precision orientation lines before after old None picture h stay same i p counted are =
    let whole : option_map (info_by before) None ≡ Some info =
    ap (λ (f : Option Frame). option_map (info_by before) f) same ∙ i in
    absurd (cc)
lines-stored o info precision orientation lines before after old (Some f) picture h stay same i p counted are =
    let whole : option_map (info_by after) (Some f) ≡ Some info = (λ j. option_map (info_by (stay j)) (same j)) ∙ i in
    let whole' : option_map (λ f. f.precision) (Some f) ≡ Some precision =
    ap (λ (f : Option Frame). option_map (λ f. f.precision) f) same ∙ p in
    let is : info_by after f ≡ info = cc in
    let is' : f.precision ≡ precision = cc in
    let width : f.output_width ≡ info.width = ap (λ (x : ImageInfo). x.width) is in
    let samples : samples_shown after f ≡ samples_a_pixel info.pixel_format = counted
    ∙ ap (λ (x : ImageInfo). samples_a_pixel x.pixel_format) is in
    let stored : samples_shown after f * bytes_a_sample f.precision ≡ lines.stored =
    (λ i. samples i * bytes_a_sample (is' i)) ∙ sym (ap (λ (l : Lines). l.stored) h.lines_are) in
    subst (λ n. HaveBytes n picture) (λ i. width i * stored i) are.1

-- and there are as many lines as it is high
pub lines-high : (info : ImageInfo) (before after : Settings) (old new : Option Frame) (picture : List (List ℕ))
    → after ≡ before → new ≡ old → option_map (info_by before) old ≡ Some info
    → AreLinesOf (option_map (shape_of after) new) picture → length picture ≡ info.height
lines-high info before after old None picture stay same i are =
    let whole : option_map (info_by before) None ≡ Some info =
    ap (λ (f : Option Frame). option_map (info_by before) f) same ∙ i in
    absurd (cc)
lines-high info before after old (Some f) picture stay same i are =
    let whole : option_map (info_by after) (Some f) ≡ Some info = (λ j. option_map (info_by (stay j)) (same j)) ∙ i in
    let is : info_by after f ≡ info = cc in
    are.0 ∙ ap (λ (x : ImageInfo). x.height) is

-- what is said of the part that lines are of
info-is : (o : Options) (info : ImageInfo) (precision orientation : ℕ) (lines : Lines)
    → HasLines o info precision orientation lines
    → lines.info ≡ turned_info info (part_turn lines.part (turn_of o info orientation))
info-is o info precision orientation lines h =
    ap (λ (l : Lines). l.info) h.lines_are
    ∙ (λ i. turned_info info
    (part_turn (sym (ap (λ (l : Lines). l.part) h.lines_are) i) (turn_of o info orientation)))

-- the bytes of a pixel of it
pub stored-is : (o : Options) (info : ImageInfo) (precision orientation : ℕ) (lines : Lines)
    → HasLines o info precision orientation lines → lines.stored ≡ pixel_bytes lines.info lines.precision
stored-is o info precision orientation lines h =
    subst (λ (l : Lines). l.stored ≡ pixel_bytes l.info l.precision) (sym h.lines_are) (same-pixel info precision)

-- the size that it is made smaller to, if it isn't its own
pub size-is : (o : Options) (info : ImageInfo) (precision orientation : ℕ) (lines : Lines)
    → HasLines o info precision orientation lines → IsOwnOrSmaller lines.info (turned_size lines.turn)
size-is o info precision orientation lines h =
    subst (λ (l : Lines). IsOwnOrSmaller l.info (turned_size l.turn)) (sym h.lines_are)
    (own-or-smaller o info (turn_uncut o info orientation))

-- the part is among the lines of the picture
pub part-there : (o : Options) (info : ImageInfo) (precision orientation : ℕ) (lines : Lines)
    (picture : List (List ℕ)) → HasLines o info precision orientation lines → length picture ≡ info.height
    → HaveBytes (info.width * lines.stored) picture → HasPart lines.part lines.stored picture
part-there o info precision orientation lines picture h high wide =
    part-held o (turn_of o info orientation) lines.part lines.stored picture (ap (λ (l : Lines). l.part) h.lines_are)
    h.inside high wide

-- and its lines are those that are meant
pub part-counted : (o : Options) (info : ImageInfo) (precision orientation : ℕ) (lines : Lines)
    (picture given : List (List ℕ)) → HasLines o info precision orientation lines → length picture ≡ info.height
    → AreOfPart lines.part lines.stored picture given → length given ≡ lines.info.height
part-counted o info precision orientation lines picture given h high of_part =
    part-high lines.part (turn_of o info orientation) lines.stored picture given high of_part
    ∙ sym (ap (λ (k : ImageInfo). k.height) (info-is o info precision orientation lines h))

pub part-stored : (o : Options) (info : ImageInfo) (precision orientation : ℕ) (lines : Lines)
    (picture given : List (List ℕ)) → HasLines o info precision orientation lines
    → HaveBytes (info.width * lines.stored) picture
    → AreOfPart lines.part lines.stored picture given → HaveBytes (Png.line_bytes lines.info lines.precision) given
part-stored o info precision orientation lines picture given h wide of_part =
    subst (λ n. HaveBytes n given)
    (line-of-pixels lines.info lines.precision lines.stored (stored-is o info precision orientation lines h))
    (subst (λ (k : ImageInfo). HaveBytes (k.width * lines.stored) given)
    (sym (info-is o info precision orientation lines h))
    (part-wide lines.part (turn_of o info orientation) lines.stored picture given wide of_part))

-- memory that has room for all lines has room for each
pub lines-fit : (stride row height room y : ℕ) → size_of_lines stride row height ≤ room → y < height
    → y * stride + row ≤ room
lines-fit stride row height room y fits low =
    let some : (height == 0) ≡ false = ne_eqb height 0 (λ e. omega (arith, e, low)) in
    let size : stride * (height - 1) + row ≤ room =
    subst (λ (b : Bool). (if b then 0 else stride * (height - 1) + row) ≤ room) some fits in
    let before : y ≤ height - 1 = omega (arith, low) in
    let few : y * stride ≤ (height - 1) * stride = mul-le-mul_right stride before in
    let same : stride * (height - 1) ≡ (height - 1) * stride = mul_comm stride (height - 1) in
    omega (arith, size, few, same)
