-- Lines that are taken one by one: what has been written of them, and what is boxed of them.
use Rattle.std.proofs.Common.{◌≡◌, ◌∙◌, ℕ, suc, ◌+◌, ◌-◌, ◌*◌, ◌<◌, ◌≤◌, List, [], ◌∷◌, ◌++◌, length, take, drop}
use Rattle.std.proofs.Common.{map, Option, Some, None, Result, Ok, Err, ap, arith, sym, refl, subst, add-mul, append-nil}
use Rattle.std.proofs.Common.{append_assoc, length-append, fold}
use Rattle.std.proofs.Common.{◌⊎◌, inl, inr, Bool, IsSomeAnd, true, false, option_map}
use Rattle.std.proofs.KnownBytes.{Appends-trans}
use Rattle.std.proofs.lemmas.Bool.{cases_lt}
use Rattle.std.proofs.lemmas.Result.{on_ok_weaker}
use Rattle.std.proofs.lemmas.List.{drop-append-le, drop_all, drop_at, length-drop, length-map, length-take-le, map-append, take-append-le, take_all, take_at}
use Rattle.std.proofs.lemmas.List.Folds.{concat-append}
use Rattle.std.specs.Io.KnownBytes.{Appends}
use Rattle.std.specs.List.{concat}
use Rattle.std.specs.Prelude.{◌==◌, OnOk, if◌then◌else◌}
use Rattle.jpeg_bits.specs.declared.error.Error.{Error}
use Rattle.jpeg_meaning.specs.Output.{header_line_of}
use Rattle.jpeg_orientation.specs.declared.areas.Area.{Area}
use Rattle.jpeg_segments.specs.declared.frame.Dimensions.{Dimensions}
use Rattle.jpeg_meaning.specs.declared.images.ImageInfo.{ImageInfo}
use Rattle.zaxbriar_samples.specs.Boxes.{boxed, is_smaller, reduced_bytes, reduction_of, resized, texts_below}
use Rattle.zaxbriar_samples.specs.Boxing.{HasTaken, IsLine}
use Rattle.zaxbriar_samples.specs.DecodedPictures.{Decoded, decoded}
use Rattle.zaxbriar_samples.specs.Files.{file_as, has_pixels}
use Rattle.zaxbriar_samples.specs.LineTakers.{CanBegin, HasTakenLines, HasWritten, HaveBytes, IsTaking, IsWithin}
use Rattle.zaxbriar_samples.specs.LineTakers.{IsWrittenAs, lines_within, part_within, planned, said_of, window_of}
use Rattle.zaxbriar_samples.specs.Netpbm.{header_in}
use Rattle.zaxbriar_samples.specs.Parts.{part_line}
use Rattle.zaxbriar_samples.specs.Png.{adler_byte, filtered_line, line_bytes, line_chunk, png_head, png_tail, sums}
use Rattle.zaxbriar_samples.specs.Turns.{bytes_of, turn_by, turned_info, turned_pixels, upright}
use Rattle.zaxbriar_samples.specs.declared.boxes.Boxing.{Boxing}
use Rattle.zaxbriar_samples.specs.declared.files.PictureFormat.{PictureFormat}
use Rattle.zaxbriar_samples.specs.declared.files.PictureFormat.TheVariants.{Netpbm, Png}
use Rattle.zaxbriar_samples.specs.declared.line_takers.Form.{Form}
use Rattle.zaxbriar_samples.specs.declared.line_takers.Form.TheVariants as forms
use Rattle.zaxbriar_samples.specs.declared.line_takers.LineTaker.{LineTaker}
use Rattle.zaxbriar_samples.specs.declared.line_takers.Plan.{Plan}
use Rattle.zaxbriar_samples.specs.declared.line_takers.SmallFile.{SmallFile}
use Rattle.zaxbriar_samples.specs.declared.line_takers.Stored.{Stored}
use Rattle.zaxbriar_samples.specs.declared.line_takers.Target.{Target}
use Rattle.zaxbriar_samples.specs.declared.line_takers.Target.TheVariants as targets
use Rattle.zaxbriar_samples.specs.declared.line_takers.Window.{Window}
use Rattle.zaxbriar_samples.specs.PngLines.{HasLines}
use Rattle.zaxbriar_samples.specs.declared.png.PngFile.{PngFile}
use Rattle.zaxbriar_samples.proofs.PartLines.{at-least, columns-inside, crop_of, is-there, line-pixels, part-have, part-length, part-pixels}
use Rattle.zaxbriar_samples.proofs.PngSteps.{has-all, has-more, has-none}

-- ---- one line more

pub one-more : (lines : List (List ℕ)) (line : List ℕ) → length (lines ++ (line ∷ [])) ≡ length lines + 1
one-more lines line = length-append lines (line ∷ [])

pub concat-more : (lines : List (List ℕ)) (line more : List ℕ)
    → concat (lines ++ (line ∷ [])) ++ more ≡ concat lines ++ (line ++ more)
concat-more lines line more =
    ap (λ (t : List ℕ). t ++ more) (concat-append lines (line ∷ [])
    ∙ ap (λ (t : List ℕ). concat lines ++ t) (append-nil line))
    ∙ append_assoc (concat lines) line more

pub concat-line : (lines : List (List ℕ)) (line : List ℕ) → concat (lines ++ (line ∷ [])) ≡ concat lines ++ line
concat-line lines line =
    concat-append lines (line ∷ []) ∙ ap (λ (t : List ℕ). concat lines ++ t) (append-nil line)

pub have-more : (n : ℕ) (lines : List (List ℕ)) (line : List ℕ) → HaveBytes n lines → length line ≡ n
    → HaveBytes n (lines ++ (line ∷ []))
have-more n [] line all is = (is, tt)
have-more n (first ∷ lines) line all is = (all.0, have-more n lines line all.1 is)

pub concat-length : (n : ℕ) (lines : List (List ℕ)) → HaveBytes n lines → length (concat lines) ≡ length lines * n
concat-length n [] all = omega arith
concat-length n (line ∷ lines) all =
    let next : suc (length lines) * n ≡ n + length lines * n =
    ap (λ (k : ℕ). k * n) (let e : suc (length lines) ≡ 1 + length lines = omega arith in e)
    ∙ omega (arith, add-mul 1 (length lines) n) in
    length-append line (concat lines) ∙ omega (arith, all.0, concat-length n lines all.1, next)

-- The line that is next in all of them together.
pub line-next : (n : ℕ) (lines : List (List ℕ)) (line more : List ℕ) → HaveBytes n lines → length line ≡ n
    → line ≡ take n (drop (length lines * n) (concat (lines ++ (line ∷ [])) ++ more))
line-next n lines line more all is =
    let text : concat (lines ++ (line ∷ [])) ++ more ≡ concat lines ++ (line ++ more) = concat-more lines line more in
    sym (ap (λ (t : List ℕ). take n (drop (length lines * n) t)) text
    ∙ ap (take n) (drop_at (concat lines) (line ++ more) (length lines * n) (concat-length n lines all))
    ∙ take_at line more n is)

-- ---- a file's lines

pub png-more : (info : ImageInfo) (precision : ℕ) (lines : List (List ℕ)) (line : List ℕ) (old new : PngFile)
    (a b c : Option (List ℕ)) → HaveBytes (line_bytes info precision) lines → length line ≡ line_bytes info precision
    → ((more : List ℕ) → HasLines info precision (concat lines ++ more) (length lines) old a b)
    → (new.info ≡ old.info) × (new.precision ≡ old.precision)
    → new.sums ≡ fold adler_byte old.sums (filtered_line old.info old.precision line 0)
    → Appends b c (line_chunk old.info old.precision line 0) → (more : List ℕ)
    → HasLines info precision (concat (lines ++ (line ∷ [])) ++ more) (length (lines ++ (line ∷ []))) new a c
png-more info precision lines line old new a b c all is h same summed written more =
    let pixels : List ℕ = concat (lines ++ (line ∷ [])) ++ more in
    let kept : HasLines info precision pixels (length lines) old a b =
    subst (λ (p : List ℕ). HasLines info precision p (length lines) old a b) (sym (concat-more lines line more))
    (h (line ++ more)) in
    subst (λ (k : ℕ). HasLines info precision pixels k new a c) (sym (one-more lines line))
    (has-more info precision pixels (length lines) old new a b c line kept same summed written
    (line-next (line_bytes info precision) lines line more all is))

-- ---- a smaller picture's

pub is-next-line : (info : ImageInfo) (precision : ℕ) (lines : List (List ℕ)) (line more : List ℕ)
    → HaveBytes (line_bytes info precision) lines → length line ≡ line_bytes info precision
    → IsLine info precision (concat (lines ++ (line ∷ [])) ++ more) (length lines) line
is-next-line info precision lines line more all is =
    (line-next (line_bytes info precision) lines line more all is, is)

-- ---- a window

-- a line above it, or below
pub above-window : (top height from bytes : ℕ) (lines : List (List ℕ)) (line : List ℕ) → length lines < top
    → crop_of top height from bytes (lines ++ (line ∷ [])) ≡ crop_of top height from bytes lines
above-window top height from bytes lines line above =
    ap (λ (ls : List (List ℕ)). map (λ l. take bytes (drop from l)) (take height ls))
    (drop_all top (lines ++ (line ∷ [])) (omega (arith, one-more lines line))
    ∙ sym (drop_all top lines (omega arith)))

there : (top : ℕ) (lines : List (List ℕ)) (line : List ℕ) → top ≤ length lines
    → drop top (lines ++ (line ∷ [])) ≡ drop top lines ++ (line ∷ [])
there top lines line low = drop-append-le top lines (line ∷ []) low

pub below-window : (top height from bytes : ℕ) (lines : List (List ℕ)) (line : List ℕ) → top ≤ length lines
    → height ≤ length lines - top
    → crop_of top height from bytes (lines ++ (line ∷ [])) ≡ crop_of top height from bytes lines
below-window top height from bytes lines line low below =
    ap (λ (ls : List (List ℕ)). map (λ l. take bytes (drop from l)) ls)
    (ap (take height) (there top lines line low)
    ∙ take-append-le height (drop top lines) (line ∷ []) (omega (arith, length-drop top lines)))

-- a line in it
pub in-window : (top height from bytes : ℕ) (lines : List (List ℕ)) (line : List ℕ) → top ≤ length lines
    → length lines - top < height
    → crop_of top height from bytes (lines ++ (line ∷ []))
    ≡ crop_of top height from bytes lines ++ (take bytes (drop from line) ∷ [])
in-window top height from bytes lines line low inside =
    let f : List ℕ → List ℕ = λ l. take bytes (drop from l) in
    let rest : List (List ℕ) = drop top lines in
    let all : take height rest ≡ rest = take_all height rest (omega (arith, length-drop top lines)) in
    ap (λ (ls : List (List ℕ)). map f (take height ls)) (there top lines line low)
    ∙ ap (map f) (take_all height (rest ++ (line ∷ [])) (omega (arith, one-more rest line, length-drop top lines)))
    ∙ map-append f rest (line ∷ [])
    ∙ ap (λ (ls : List (List ℕ)). map f ls ++ (f line ∷ [])) (sym all)

-- how many of its lines there are
pub window-count : (top height from bytes : ℕ) (lines : List (List ℕ)) → top ≤ length lines
    → length lines - top < height → length (crop_of top height from bytes lines) < height
window-count top height from bytes lines low inside =
    let rest : List (List ℕ) = drop top lines in
    let all : take height rest ≡ rest = take_all height rest (omega (arith, length-drop top lines)) in
    let count : length (crop_of top height from bytes lines) ≡ length (take height rest) =
    length-map (take height rest) (λ l. take bytes (drop from l)) in
    let size : length (take height rest) ≡ length rest = ap (λ (ls : List (List ℕ)). length ls) all in
    omega (arith, count, size, length-drop top lines, inside)

-- ---- where something holds whatever comes after

pub on-ok-each : {X E A : Type 0} (r : Result X E) (P : A → Type 0) → ((a : A) → OnOk r (P a)) → OnOk r ((a : A) → P a)
on-ok-each (Ok x) P h = h
on-ok-each (Err e) P h = tt

-- ---- where lines go

pub written-more : (form : Form) (said : Stored) (bytes more : List ℕ) (before mid after : Option (List ℕ))
    → HasWritten form said bytes before mid → Appends mid after more → HasWritten form said (bytes ++ more) before after
written-more forms.Raw said bytes more before mid after h now =
    let head : List ℕ = header_line_of (Some said.info) in
    subst (Appends before after) (append_assoc head bytes more) (Appends-trans before mid after (head ++ bytes) more h now)
written-more (forms.File Netpbm) said bytes more before mid after h now =
    let head : List ℕ = header_in said.info.pixel_format said.info 255 in
    (h.0, subst (Appends before after) (append_assoc head bytes more) (Appends-trans before mid after (head ++ bytes) more h.1 now))
written-more (forms.File Png) said bytes more before mid after h now = absurd h
written-more (forms.Smaller size format) said bytes more before mid after h now = absurd h

pub writer-takes : (form : Form) (said : Stored) (lines : List (List ℕ)) (line : List ℕ) (before mid after : Option (List ℕ))
    → HasWritten form said (concat lines) before mid → Appends mid after line
    → HasWritten form said (concat (lines ++ (line ∷ []))) before after
writer-takes form said lines line before mid after h now =
    subst (λ (t : List ℕ). HasWritten form said t before after) (sym (concat-line lines line))
    (written-more form said (concat lines) line before mid after h now)

pub png-takes : (r : Result (Unit {0}) Error) (form : Form) (said : Stored) (lines : List (List ℕ)) (line : List ℕ)
    (old new : PngFile) (a b c : Option (List ℕ)) → HaveBytes (line_bytes said.info said.precision) lines
    → length line ≡ line_bytes said.info said.precision
    → (new.info ≡ old.info) × (new.precision ≡ old.precision)
    → OnOk r (new.sums ≡ fold adler_byte old.sums (filtered_line old.info old.precision line 0))
    → OnOk r (Appends b c (line_chunk old.info old.precision line 0))
    → HasTakenLines form said lines (targets.Png old) a b
    → OnOk r (HasTakenLines form said (lines ++ (line ∷ [])) (targets.Png new) a c)
png-takes (Err e) form said lines line old new a b c all is same summed written h = tt
png-takes (Ok u) (forms.File Png) said lines line old new a b c all is same summed written h =
    (h.0, png-more said.info said.precision lines line old new a b c all is h.1 same summed written)
png-takes (Ok u) forms.Raw said lines line old new a b c all is same summed written h = absurd h
png-takes (Ok u) (forms.File Netpbm) said lines line old new a b c all is same summed written h = absurd h
png-takes (Ok u) (forms.Smaller size format) said lines line old new a b c all is same summed written h = absurd h

pub small-takes : (r : Result (Unit {0}) Error) (form : Form) (said : Stored) (lines : List (List ℕ)) (line : List ℕ)
    (old : SmallFile) (new : Boxing) (before after : Option (List ℕ)) → length lines < said.info.height
    → HaveBytes (line_bytes said.info said.precision) lines → length line ≡ line_bytes said.info said.precision
    → ((pixels : List ℕ) (info : ImageInfo) (precision : ℕ) (size : Dimensions) (n : ℕ) → n < info.height
    → IsLine info precision pixels n line → HasTaken pixels info precision size n old.boxing
    → OnOk r (HasTaken pixels info precision size (n + 1) new))
    → HasTakenLines form said lines (targets.Smaller old) before after
    → OnOk r (HasTakenLines form said (lines ++ (line ∷ []))
    (targets.Smaller (record { boxing = new; format = old.format; orientation = old.orientation })) before after)
small-takes r (forms.Smaller size format) said lines line old new before after low all is taken h =
    let each : (more : List ℕ) → OnOk r (HasTaken (concat (lines ++ (line ∷ [])) ++ more) said.info said.precision size
    (length (lines ++ (line ∷ []))) new)
    = λ more.
    let pixels : List ℕ = concat (lines ++ (line ∷ [])) ++ more in
    subst (λ (k : ℕ). OnOk r (HasTaken pixels said.info said.precision size k new)) (sym (one-more lines line))
    (taken pixels said.info said.precision size (length lines) low
    (is-next-line said.info said.precision lines line more all is)
    (subst (λ (p : List ℕ). HasTaken p said.info said.precision size (length lines) old.boxing)
    (sym (concat-more lines line more)) (h.4 (line ++ more)))) in
    on_ok_weaker r (λ f. (h.0, h.1, h.2, h.3, f)) (on-ok-each r (λ (more : List ℕ).
    HasTaken (concat (lines ++ (line ∷ [])) ++ more) said.info said.precision size (length (lines ++ (line ∷ []))) new) each)
small-takes r forms.Raw said lines line old new before after low all is taken h = absurd h
small-takes r (forms.File Netpbm) said lines line old new before after low all is taken h = absurd h
small-takes r (forms.File Png) said lines line old new before after low all is taken h = absurd h

pub png-begins : (form : Form) (said : Stored) (file : PngFile) (before after : Option (List ℕ)) → form ≡ forms.File Png
    → CanBegin form said
    → (file.info ≡ said.info) × (file.precision ≡ said.precision) × (file.sums ≡ sums 1 0)
    → Appends before after (png_head said.info said.precision)
    → HasTakenLines form said [] (targets.Png file) before after
png-begins form said file before after same can is written =
    subst (λ (f : Form). HasTakenLines f said [] (targets.Png file) before after) (sym same) (
      subst (λ (f : Form). CanBegin f said) same can,
      λ more. has-none said.info said.precision more file before after is written,
    )

-- ---- after the lines

pub png-ends : (r : Result (Unit {0}) Error) (form : Form) (said : Stored) (lines : List (List ℕ)) (file : PngFile)
    (before mid after : Option (List ℕ)) → length lines ≡ said.info.height
    → HasTakenLines form said lines (targets.Png file) before mid → OnOk r (Appends mid after (png_tail file.sums))
    → OnOk r (IsWrittenAs form said.orientation (decoded said.info said.precision (concat lines)) before after)
png-ends (Err e) form said lines file before mid after all h tail = tt
png-ends (Ok u) (forms.File Png) said lines file before mid after all h tail =
    rw h.0 (has-all said.info said.precision (concat lines) (length lines) file before mid after
    (subst (λ (t : List ℕ). HasLines said.info said.precision t (length lines) file before mid)
    (append-nil (concat lines)) (h.1 [])) all tail)
png-ends (Ok u) forms.Raw said lines file before mid after all h tail = absurd h
png-ends (Ok u) (forms.File Netpbm) said lines file before mid after all h tail = absurd h
png-ends (Ok u) (forms.Smaller size format) said lines file before mid after all h tail = absurd h

-- The picture keeps its colours where it is made smaller and turned.
pub same-colours : (orientation : ℕ) (size : Dimensions) (p : Decoded)
    → (upright orientation (boxed size p)).info.pixel_format ≡ p.info.pixel_format
same-colours orientation size p = go (is_smaller size p.info) (orientation == 1)
  where
    smaller : Bool → Decoded
    smaller less = if less then decoded (resized p.info size) p.precision
        (reduced_bytes p.pixels (reduction_of p.info p.precision size)) else p

    turned : Bool → Decoded → Decoded
    turned one d = if one then d else decoded (turned_info (turn_by d.info orientation) d.info) d.precision
        (turned_pixels (turn_by d.info orientation) (bytes_of d.info.pixel_format d.precision) d.pixels)

    go : (less one : Bool) → (turned one (smaller less)).info.pixel_format ≡ p.info.pixel_format
    go true true = refl
    go true false = refl
    go false true = refl
    go false false = refl

small-is : (size : Dimensions) (format : PictureFormat) (said : Stored) (lines : List (List ℕ)) (s : SmallFile)
    (small made : Decoded) (before mid : Option (List ℕ)) → length lines ≡ said.info.height
    → HasTakenLines (forms.Smaller size format) said lines (targets.Smaller s) before mid
    → ((pixels : List ℕ) (info : ImageInfo) (precision : ℕ) (size : Dimensions)
    → HasTaken pixels info precision size info.height s.boxing → small ≡ boxed size (decoded info precision pixels))
    → made ≡ upright s.orientation small
    → made ≡ upright said.orientation (boxed size (decoded said.info said.precision (concat lines)))
small-is size format said lines s small made before mid all h into turned =
    turned ∙ ap (λ (o : ℕ). upright o small) h.2
    ∙ ap (upright said.orientation) (into (concat lines) said.info said.precision size
    (subst (λ (n : ℕ). HasTaken (concat lines) said.info said.precision size n s.boxing) all
    (subst (λ (t : List ℕ). HasTaken t said.info said.precision size (length lines) s.boxing) (append-nil (concat lines))
    (h.4 []))))

pub small-pixels : (form : Form) (said : Stored) (lines : List (List ℕ)) (s : SmallFile) (small made : Decoded)
    (before : Option (List ℕ)) → HasTakenLines form said lines (targets.Smaller s) before before
    → length lines ≡ said.info.height
    → ((pixels : List ℕ) (info : ImageInfo) (precision : ℕ) (size : Dimensions)
    → HasTaken pixels info precision size info.height s.boxing → small ≡ boxed size (decoded info precision pixels))
    → made ≡ upright s.orientation small → has_pixels s.format made.info.pixel_format ≡ true
small-pixels (forms.Smaller size format) said lines s small made before h all into turned =
    let p : Decoded = decoded said.info said.precision (concat lines) in
    let is = small-is size format said lines s small made before before all h into turned in
    let same = ap (λ (d : Decoded). d.info.pixel_format) is ∙ same-colours said.orientation size p in
    rw (h.1, same) h.3
small-pixels forms.Raw said lines s small made before h all into turned = absurd h
small-pixels (forms.File Netpbm) said lines s small made before h all into turned = absurd h
small-pixels (forms.File Png) said lines s small made before h all into turned = absurd h

pub small-ends : (r : Result (Unit {0}) Error) (form : Form) (said : Stored) (lines : List (List ℕ)) (s : SmallFile)
    (small made : Decoded) (before mid after : Option (List ℕ)) → length lines ≡ said.info.height
    → HasTakenLines form said lines (targets.Smaller s) before mid
    → ((pixels : List ℕ) (info : ImageInfo) (precision : ℕ) (size : Dimensions)
    → HasTaken pixels info precision size info.height s.boxing → small ≡ boxed size (decoded info precision pixels))
    → made ≡ upright s.orientation small → OnOk r (IsSomeAnd (file_as s.format made) (Appends mid after))
    → OnOk r (IsWrittenAs form said.orientation (decoded said.info said.precision (concat lines)) before after)
small-ends r (forms.Smaller size format) said lines s small made before mid after all h into turned written =
    let is = small-is size format said lines s small made before mid all h into turned in
    on_ok_weaker r (λ w. subst (λ (d : Decoded). IsSomeAnd (file_as format d) (Appends before after)) is
    (subst (λ (f : PictureFormat). IsSomeAnd (file_as f made) (Appends before after)) h.1
    (subst (λ (b : Option (List ℕ)). IsSomeAnd (file_as s.format made) (Appends b after)) h.0 w))) written
small-ends r forms.Raw said lines s small made before mid after all h into turned written = absurd h
small-ends r (forms.File Netpbm) said lines s small made before mid after all h into turned written = absurd h
small-ends r (forms.File Png) said lines s small made before mid after all h into turned written = absurd h

-- ---- the lines of the whole picture

-- What a call does with a line that has gone where lines go, and what it returns.
abbrev pub TakesLine : Result (Unit {0}) Error → List ℕ → Target → Target → Option (List ℕ) → Option (List ℕ) → Type 0
TakesLine r line old new mid after = (form : Form) (said : Stored) (lines : List (List ℕ)) (before : Option (List ℕ))
    → length lines < said.info.height → HaveBytes (line_bytes said.info said.precision) lines
    → length line ≡ line_bytes said.info said.precision → HasTakenLines form said lines old before mid
    → OnOk r (HasTakenLines form said (lines ++ (line ∷ [])) new before after)

some-same : {A : Type 0} (x y : A) → ◌≡◌ {A = Option A} (Some x) (Some y) → x ≡ y
some-same x y e = cc

none-some : {A : Type 0} (x : A) → ◌≡◌ {A = Option A} None (Some x) → ⊥
none-some x e = cc

-- a line of which all goes there
whole-goes : (r : Result (Unit {0}) Error) (form : Form) (stored : Stored) (area : Option Area) (lines : List (List ℕ))
    (line : List ℕ) (old new : Target) (before mid after : Option (List ℕ))
    → ◌≡◌ {A = Option Window} None (option_map (window_of stored) area) → length lines < stored.info.height
    → HaveBytes (line_bytes stored.info stored.precision) lines → length line ≡ line_bytes stored.info stored.precision
    → TakesLine r line old new mid after → HasTakenLines form (said_of stored area) lines old before mid
    → OnOk r (HasTakenLines form (said_of stored area) (lines ++ (line ∷ [])) new before after)
whole-goes r form stored None lines line old new before mid after e low all is takes h =
    takes form stored lines before low all is h
whole-goes r form stored (Some area) lines line old new before mid after e low all is takes h =
    absurd (none-some (window_of stored area) e)

-- a line of which a part goes there
area-goes : (r : Result (Unit {0}) Error) (form : Form) (stored : Stored) (area : Area) (lines : List (List ℕ))
    (line : List ℕ) (old new : Target) (before mid after : Option (List ℕ)) → IsWithin (Some area) stored
    → HaveBytes (line_bytes stored.info stored.precision) lines → length line ≡ line_bytes stored.info stored.precision
    → area.top ≤ length lines → length lines - area.top < area.height
    → TakesLine r (take (window_of stored area).bytes (drop (window_of stored area).from line)) old new mid after
    → HasTakenLines form (said_of stored (Some area)) (lines_within (Some (window_of stored area)) lines) old before mid
    → OnOk r (HasTakenLines form (said_of stored (Some area))
    (lines_within (Some (window_of stored area)) (lines ++ (line ∷ []))) new before after)
area-goes r form stored area lines line old new before mid after inside all is top below takes h =
    let w : Window = window_of stored area in
    let said : Stored = said_of stored (Some area) in
    let n : ℕ = line_bytes stored.info stored.precision in
    let part : List (List ℕ) = crop_of w.top w.height w.from w.bytes lines in
    let long : w.from + w.bytes ≤ n = columns-inside area stored.info stored.precision (is-there area stored.info inside) in
    let size : line_bytes said.info said.precision ≡ w.bytes = line-pixels said.info said.precision in
    let have : HaveBytes (line_bytes said.info said.precision) part =
    subst (λ (k : ℕ). HaveBytes k part) (sym size)
    (part-have w.top w.height w.from w.bytes lines (at-least n (w.from + w.bytes) lines all long)) in
    let cut : length (take w.bytes (drop w.from line)) ≡ line_bytes said.info said.precision =
    length-take-le w.bytes (drop w.from line) (omega (arith, length-drop w.from line, is, long)) ∙ sym size in
    subst (λ (ls : List (List ℕ)). OnOk r (HasTakenLines form said ls new before after))
    (sym (in-window w.top w.height w.from w.bytes lines line top below))
    (takes form said part before (window-count w.top w.height w.from w.bytes lines top below) have cut h)

part-goes : (r : Result (Unit {0}) Error) (form : Form) (stored : Stored) (area : Option Area) (w : Window)
    (lines : List (List ℕ)) (line : List ℕ) (old new : Target) (before mid after : Option (List ℕ))
    → ◌≡◌ {A = Option Window} (Some w) (option_map (window_of stored) area) → IsWithin area stored
    → HaveBytes (line_bytes stored.info stored.precision) lines → length line ≡ line_bytes stored.info stored.precision
    → w.top ≤ length lines → length lines - w.top < w.height
    → TakesLine r (take w.bytes (drop w.from line)) old new mid after
    → HasTakenLines form (said_of stored area) (lines_within (Some w) lines) old before mid
    → OnOk r (HasTakenLines form (said_of stored area) (lines_within (Some w) (lines ++ (line ∷ []))) new before after)
part-goes r form stored None w lines line old new before mid after e inside all is top below takes h =
    absurd (none-some w (sym e))
part-goes r form stored (Some area) w lines line old new before mid after e inside all is top below takes h =
    let same : window_of stored area ≡ w = sym (some-same w (window_of stored area) e) in
    subst (λ (v : Window). v.top ≤ length lines → length lines - v.top < v.height
    → TakesLine r (take v.bytes (drop v.from line)) old new mid after
    → HasTakenLines form (said_of stored (Some area)) (lines_within (Some v) lines) old before mid
    → OnOk r (HasTakenLines form (said_of stored (Some area)) (lines_within (Some v) (lines ++ (line ∷ []))) new before after))
    same (area-goes r form stored area lines line old new before mid after inside all is) top below takes h

-- a line of which nothing goes there
pub none-goes : (w : Window) (lines : List (List ℕ)) (line : List ℕ)
    → (length lines < w.top) ⊎ (w.height ≤ length lines - w.top)
    → lines_within (Some w) (lines ++ (line ∷ [])) ≡ lines_within (Some w) lines
none-goes w lines line (inl above) = above-window w.top w.height w.from w.bytes lines line above
none-goes w lines line (inr below) = go (cases_lt (length lines) w.top)
  where
    go : (length lines < w.top) ⊎ (w.top ≤ length lines)
        → lines_within (Some w) (lines ++ (line ∷ [])) ≡ lines_within (Some w) lines
    go (inl above) = above-window w.top w.height w.from w.bytes lines line above
    go (inr there) = below-window w.top w.height w.from w.bytes lines line there below

-- one line more of them
abbrev pub after_line : LineTaker → Target → LineTaker
after_line t target = record {
  target = target;
  window = t.window;
  line_bytes = t.line_bytes;
  height = t.height;
  taken = t.taken + 1;
}

next-taking : (plan : Plan) (lines : List (List ℕ)) (line : List ℕ) (t : LineTaker) (target : Target)
    (before mid after : Option (List ℕ)) → t.taken < t.height → length line ≡ t.line_bytes
    → IsTaking plan lines t before mid
    → HasTakenLines plan.form (said_of plan.stored plan.area) (lines_within t.window (lines ++ (line ∷ []))) target before after
    → IsTaking plan (lines ++ (line ∷ [])) (after_line t target) before after
next-taking plan lines line t target before mid after more is h given = record {
  window_is = h.window_is;
  bytes_are = h.bytes_are;
  height_is = h.height_is;
  taken_are = omega (arith, h.taken_are, one-more lines line);
  within = h.within;
  low = omega (arith, h.taken_are, h.height_is, more, one-more lines line);
  long = have-more (line_bytes plan.stored.info plan.stored.precision) lines line h.long (is ∙ h.bytes_are);
  given = given;
}

pub whole-taken : (r : Result (Unit {0}) Error) (plan : Plan) (lines : List (List ℕ)) (line : List ℕ) (t : LineTaker)
    (target : Target) (before mid after : Option (List ℕ)) → t.window ≡ None → t.taken < t.height
    → length line ≡ t.line_bytes → TakesLine r line t.target target mid after → IsTaking plan lines t before mid
    → OnOk r (IsTaking plan (lines ++ (line ∷ [])) (after_line t target) before after)
whole-taken r plan lines line t target before mid after none more is takes h =
    let low : length lines < plan.stored.info.height = omega (arith, h.taken_are, h.height_is, more) in
    let given : HasTakenLines plan.form (said_of plan.stored plan.area) lines t.target before mid =
    subst (λ (w : Option Window). HasTakenLines plan.form (said_of plan.stored plan.area) (lines_within w lines) t.target
    before mid) none h.given in
    on_ok_weaker r (λ g. next-taking plan lines line t target before mid after more is h
    (subst (λ (w : Option Window). HasTakenLines plan.form (said_of plan.stored plan.area)
    (lines_within w (lines ++ (line ∷ []))) target before after) (sym none) g))
    (whole-goes r plan.form plan.stored plan.area lines line t.target target before mid after
    (sym none ∙ h.window_is) low h.long (is ∙ h.bytes_are) takes given)

pub part-taken : (r : Result (Unit {0}) Error) (plan : Plan) (lines : List (List ℕ)) (line : List ℕ) (t : LineTaker)
    (w : Window) (target : Target) (before mid after : Option (List ℕ)) → t.window ≡ Some w → t.taken < t.height
    → length line ≡ t.line_bytes → w.top ≤ t.taken → t.taken - w.top < w.height
    → TakesLine r (take w.bytes (drop w.from line)) t.target target mid after → IsTaking plan lines t before mid
    → OnOk r (IsTaking plan (lines ++ (line ∷ [])) (after_line t target) before after)
part-taken r plan lines line t w target before mid after some more is top below takes h =
    let given : HasTakenLines plan.form (said_of plan.stored plan.area) (lines_within (Some w) lines) t.target before mid =
    subst (λ (w : Option Window). HasTakenLines plan.form (said_of plan.stored plan.area) (lines_within w lines) t.target
    before mid) some h.given in
    on_ok_weaker r (λ g. next-taking plan lines line t target before mid after more is h
    (subst (λ (w : Option Window). HasTakenLines plan.form (said_of plan.stored plan.area)
    (lines_within w (lines ++ (line ∷ []))) target before after) (sym some) g))
    (part-goes r plan.form plan.stored plan.area w lines line t.target target before mid after
    (sym some ∙ h.window_is) h.within h.long (is ∙ h.bytes_are)
    (subst (λ (k : ℕ). w.top ≤ k) h.taken_are top)
    (subst (λ (k : ℕ). k - w.top < w.height) h.taken_are below) takes given)

pub none-taken : (plan : Plan) (lines : List (List ℕ)) (line : List ℕ) (t : LineTaker) (w : Window)
    (before after : Option (List ℕ)) → t.window ≡ Some w → t.taken < t.height → length line ≡ t.line_bytes
    → (t.taken < w.top) ⊎ (w.height ≤ t.taken - w.top) → IsTaking plan lines t before after
    → IsTaking plan (lines ++ (line ∷ [])) (after_line t t.target) before after
none-taken plan lines line t w before after some more is outside h =
    let given : HasTakenLines plan.form (said_of plan.stored plan.area) (lines_within (Some w) lines) t.target before after =
    subst (λ (w : Option Window). HasTakenLines plan.form (said_of plan.stored plan.area) (lines_within w lines) t.target
    before after) some h.given in
    next-taking plan lines line t t.target before after after more is h
    (subst (λ (w : Option Window). HasTakenLines plan.form (said_of plan.stored plan.area)
    (lines_within w (lines ++ (line ∷ []))) t.target before after) (sym some)
    (subst (λ (ls : List (List ℕ)). HasTakenLines plan.form (said_of plan.stored plan.area) ls t.target before after)
    (sym (none-goes w lines line
    (subst (λ (k : ℕ). (k < w.top) ⊎ (w.height ≤ k - w.top)) h.taken_are outside))) given))

-- before the first
pub none-taken-yet : (plan : Plan) (t : LineTaker) (before after : Option (List ℕ))
    → t.window ≡ option_map (window_of plan.stored) plan.area
    → t.line_bytes ≡ line_bytes plan.stored.info plan.stored.precision → t.height ≡ plan.stored.info.height
    → t.taken ≡ 0 → IsWithin plan.area plan.stored
    → HasTakenLines plan.form (said_of plan.stored plan.area) [] t.target before after → IsTaking plan [] t before after
none-taken-yet plan t before after window bytes height taken within given = record {
  window_is = window;
  bytes_are = bytes;
  height_is = height;
  taken_are = taken;
  within = within;
  low = omega arith;
  long = tt;
  given = subst (λ (ls : List (List ℕ)). HasTakenLines plan.form (said_of plan.stored plan.area) ls t.target before after)
      (sym (nothing-within t.window)) given;
}
  where
    nothing-within : (w : Option Window) → lines_within w [] ≡ []
    nothing-within None = refl
    nothing-within (Some w) = ap (λ (ls : List (List ℕ)). map (λ l. take w.bytes (drop w.from l)) ls)
        (ap (take w.height) (drop_all w.top [] (omega arith)) ∙ take_all w.height [] (omega arith))

-- after the last
part-end : (r : Result (Unit {0}) Error) (form : Form) (stored : Stored) (area : Option Area) (w : Option Window)
    (lines : List (List ℕ)) (target : Target) (before mid after : Option (List ℕ))
    → w ≡ option_map (window_of stored) area → IsWithin area stored
    → HaveBytes (line_bytes stored.info stored.precision) lines → length lines ≡ stored.info.height
    → ((form : Form) (said : Stored) (lines : List (List ℕ)) (before : Option (List ℕ)) → length lines ≡ said.info.height
    → HasTakenLines form said lines target before mid → OnOk r (IsWrittenAs form said.orientation
    (decoded said.info said.precision (concat lines)) before after))
    → HasTakenLines form (said_of stored area) (lines_within w lines) target before mid
    → OnOk r (IsWrittenAs form stored.orientation
    (part_within area (decoded stored.info stored.precision (concat lines))) before after)
part-end r form stored None w lines target before mid after e inside all high ends h =
    ends form stored lines before high
    (subst (λ (v : Option Window). HasTakenLines form stored (lines_within v lines) target before mid) e h)
part-end r form stored (Some area) w lines target before mid after e inside all high ends h =
    let said : Stored = said_of stored (Some area) in
    let v : Window = window_of stored area in
    let there = is-there area stored.info inside in
    let part : List (List ℕ) = lines_within (Some v) lines in
    let count : length part ≡ area.height =
    part-length area.top area.height v.from v.bytes lines (omega (arith, high, there.bottom)) in
    let same : concat part ≡ texts_below area.height (part_line area (decoded stored.info stored.precision (concat lines))) =
    part-pixels area stored.info stored.precision lines all high there in
    subst (λ (p : List ℕ). OnOk r (IsWrittenAs form stored.orientation (decoded said.info said.precision p) before after)) same
    (ends form said part before count
    (subst (λ (u : Option Window). HasTakenLines form said (lines_within u lines) target before mid) e h))

pub all-taken : (r : Result (Unit {0}) Error) (plan : Plan) (lines : List (List ℕ)) (t : LineTaker)
    (before mid after : Option (List ℕ)) → t.taken ≡ t.height
    → ((form : Form) (said : Stored) (lines : List (List ℕ)) (before : Option (List ℕ)) → length lines ≡ said.info.height
    → HasTakenLines form said lines t.target before mid → OnOk r (IsWrittenAs form said.orientation
    (decoded said.info said.precision (concat lines)) before after))
    → IsTaking plan lines t before mid
    → OnOk r (IsWrittenAs plan.form plan.stored.orientation (planned plan (concat lines)) before after)
all-taken r plan lines t before mid after all ends h =
    part-end r plan.form plan.stored plan.area t.window lines t.target before mid after h.window_is h.within h.long
    (sym h.taken_are ∙ all ∙ h.height_is) ends h.given

-- ---- some lines more

pub bytes-taken : (r : Result (Unit {0}) Error) (plan : Plan) (lines : List (List ℕ)) (all bytes : List ℕ) (new : LineTaker)
    (before after : Option (List ℕ)) → concat lines ≡ all
    → OnOk r ((more : List (List ℕ)) × (concat more ≡ bytes) × IsTaking plan (lines ++ more) new before after)
    → OnOk r ((ls : List (List ℕ)) × (concat ls ≡ all ++ bytes) × IsTaking plan ls new before after)
bytes-taken r plan lines all bytes new before after is h =
    on_ok_weaker r (λ m. (
      lines ++ m.0,
      concat-append lines m.0 ∙ ap (λ (t : List ℕ). t ++ concat m.0) is ∙ ap (λ (t : List ℕ). all ++ t) m.1,
      m.2,
    )) h

-- the lines of a text that were taken of it, before the rest
pub record TakenSome (plan : Plan) (lines : List (List ℕ)) (bytes rest : List ℕ) (t : LineTaker)
    (before after : Option (List ℕ)) : Type 0 where
  pub more : List (List ℕ)
  pub text : concat more ++ rest ≡ bytes
  pub taking : IsTaking plan (lines ++ more) t before after

pub some-more : (plan : Plan) (lines : List (List ℕ)) (bytes rest line left : List ℕ) (old new : LineTaker)
    (before mid after : Option (List ℕ)) → rest ≡ line ++ left → length line ≡ old.line_bytes
    → ((plan : Plan) (lines : List (List ℕ)) (before : Option (List ℕ)) → length line ≡ old.line_bytes
    → IsTaking plan lines old before mid → IsTaking plan (lines ++ (line ∷ [])) new before after)
    → TakenSome plan lines bytes rest old before mid → TakenSome plan lines bytes left new before after
some-more plan lines bytes rest line left old new before mid after is long takes h = record {
  more = h.more ++ (line ∷ []);
  text = concat-more h.more line left ∙ ap (λ (t : List ℕ). concat h.more ++ t) (sym is) ∙ h.text;
  taking = subst (λ (ls : List (List ℕ)). IsTaking plan ls new before after) (append_assoc lines h.more (line ∷ []))
      (takes plan (lines ++ h.more) before long h.taking);
}

pub none-of-text : (plan : Plan) (lines : List (List ℕ)) (bytes : List ℕ) (t : LineTaker) (before after : Option (List ℕ))
    → IsTaking plan lines t before after → TakenSome plan lines bytes bytes t before after
none-of-text plan lines bytes t before after h = record {
  more = [];
  text = refl;
  taking = subst (λ (ls : List (List ℕ)). IsTaking plan ls t before after) (sym (append-nil lines)) h;
}

pub all-of-text : (plan : Plan) (lines : List (List ℕ)) (bytes rest : List ℕ) (t : LineTaker) (before after : Option (List ℕ))
    → rest ≡ [] → TakenSome plan lines bytes rest t before after
    → (more : List (List ℕ)) × (concat more ≡ bytes) × IsTaking plan (lines ++ more) t before after
all-of-text plan lines bytes rest t before after none h = (
  h.more,
  sym (append-nil (concat h.more)) ∙ ap (λ (t : List ℕ). concat h.more ++ t) (sym none) ∙ h.text,
  h.taking,
)
