-- What a decoder gives whose lines are written as they are read.
use Rattle.std.proofs.Common.{inl, inr, ◌≡◌, ◌∙◌, ◌++◌, ℕ, List, [], Option, None, Result, Ok, Err, Bool, true, false, ap, refl}
use Rattle.std.proofs.Common.{Some, arith, length, option_map, subst, suc, sym, ◌<◌}
use Rattle.std.proofs.lemmas.Result.{on_ok_weaker}
use Rattle.std.specs.Prelude.{IfErr, OnOk}
use Rattle.jpeg_bits.specs.Reading.{Outcome, ◌>>=◌}
use Rattle.jpeg_bits.specs.declared.error.Error.{Error}
use Rattle.jpeg_meaning.specs.Output.{IsOutsideOrMemory}
use Rattle.jpeg_meaning.specs.States.{Decoding, IsReading}
use Rattle.jpeg_meaning.specs.Stream.{Told, told_of}
use Rattle.jpeg_meaning.specs.declared.progress.Progress.{Progress}
use Rattle.jpeg_meaning.specs.declared.progress.Progress.TheVariants.{HeaderRead}
use Rattle.jpeg_decoder.specs.ByRows.{rows_ahead, rows_rest}
use Rattle.jpeg_decoder.specs.DecodesRows.{DecodesRows}
use Rattle.jpeg_decoder.specs.Rows.{AreGiven, GivesNext, RowsState, lines_in}
use Rattle.jpeg_decoder.specs.declared.rows.Ahead.{Ahead}
use Rattle.jpeg_decoder.specs.declared.rows.Ahead.TheVariants.{Start}
use Rattle.jpeg_decoder.proofs.ByRows.RowsImages.{rest-means}
use Rattle.jpeg_orientation.specs.declared.areas.Area.{Area}
use Rattle.zaxbriar_samples.proofs.PartLines.{is-there, part-length}
use Rattle.zaxbriar_samples.specs.LineTakers.{CanEnd, CanFinish, HasTakenBytes, HasTakenLines, IsWithin}
use Rattle.zaxbriar_samples.specs.LineTakers.{IsWrittenAs, lines_within, planned, said_of, window_of}
use Rattle.zaxbriar_samples.specs.Refusals.{IsOfWriter}
use Rattle.zaxbriar_samples.specs.declared.files.PictureFormat.TheVariants.{Netpbm, Png}
use Rattle.zaxbriar_samples.specs.declared.line_takers.Form.{Form}
use Rattle.zaxbriar_samples.specs.declared.line_takers.Form.TheVariants as forms
use Rattle.zaxbriar_samples.specs.declared.line_takers.Plan.{Plan}
use Rattle.zaxbriar_samples.specs.declared.line_takers.Stored.{Stored}
use Rattle.zaxbriar_samples.specs.declared.line_takers.Taker.{Taker}
use Rattle.zaxbriar_samples.specs.declared.line_takers.Taker.TheVariants as takers
use Rattle.zaxbriar_samples.specs.declared.line_takers.Target.{Target}
use Rattle.zaxbriar_samples.specs.declared.line_takers.Target.TheVariants as targets
use Rattle.zaxbriar_samples.specs.declared.line_takers.Window.{Window}
use Rattle.zaxbriar_pictures.specs.ByRows.{RefusesRows}
use Rattle.zaxbriar_pictures.specs.Given.{without_fault}
use Rattle.zaxbriar_pictures.specs.Reasons.{NamesOrOutside}
use Rattle.zaxbriar_pictures.specs.Steps.{GivesRest}
use Rattle.zaxbriar_pictures.specs.declared.extents.Extent.TheVariants.{Whole}
use Rattle.zaxbriar_pictures.proofs.Reasons.{answered}
use Rattle.zaxbriar_pictures.proofs.WriterErrors.{of-writer}

reading : (stage : Progress) → stage ≡ HeaderRead → IsReading stage
reading stage at = subst IsReading (sym at) tt

-- All lines are the picture that the rest of the stream means.
pub rows-give : (old new : Decoding) (bytes : List ℕ) → old.stage ≡ HeaderRead → DecodesRows old (Ok tt) new bytes
    → GivesRest Whole old new bytes None
rows-give old new bytes at d known =
    let rows = ((d.reads (reading old.stage at)).1 known).1 in
    let rest = rest-means old.settings old.found old.source.bytes _
    (ap (λ (p : Progress). rows_ahead p old.settings old.found old.source.bytes) (sym at) ∙ rows) in (
      without_fault (told_of new.found.said, bytes),
      ap (λ (o : Outcome (Told × List ℕ)). o >>= (λ m. Ok (without_fault m.0))) rest,
      refl,
      refl,
      tt,
    )

-- A refusal names the fault that the rest has by lines, or is one of the reader, the writer or memory.
pub rows-refuse : (old : Decoding) (e : Error) → old.stage ≡ HeaderRead → old.source.known ≡ true → RefusesRows old e
    → NamesOrOutside (rows_rest old.settings old.found old.source.bytes) e
rows-refuse old e at known (inr h) = inr h
rows-refuse old e at known (inl h) =
    let a = h.2.reads (reading old.stage at) in
    subst (λ (p : Progress). NamesOrOutside (rows_ahead p old.settings old.found old.source.bytes) e) at
    (answered (rows_ahead old.stage old.settings old.found old.source.bytes) old.source h.0.source e a.1 a.2 known)

-- ---- calls of `read`

pub all-given : (start : Decoding) (bytes : List ℕ) (more : Bool) (new : RowsState) → more ≡ false
    → GivesNext start bytes (Ok more) new → DecodesRows start (Ok tt) new.decoder bytes
all-given start bytes more new e h = subst (λ (b : Bool). GivesNext start bytes (Ok b) new) e h

pub more-given : (start : Decoding) (bytes lines : List ℕ) (more : Bool) (new : RowsState) → more ≡ true
    → GivesNext start bytes (Ok more) new → lines ≡ lines_in new.ahead
    → AreGiven start (bytes ++ lines) new.decoder new.ahead
more-given start bytes lines more new e h is =
    subst (λ (b : List ℕ). AreGiven start b new.decoder new.ahead) (sym (ap (λ (l : List ℕ). bytes ++ l) is))
    (subst (λ (b : Bool). GivesNext start bytes (Ok b) new) e h)

-- Lines were given, and taken.
pub record GivenAndTaken (start : Decoding) (plan : Plan) (is_more : Bool) (rows : RowsState) (taker : Taker)
    (before after : Option (List ℕ)) : Type 0 where
  pub bytes : List ℕ
  pub given : GivesNext start bytes (Ok is_more) rows
  pub taken : HasTakenBytes plan bytes taker before after

-- How often lines are still taken, at most.
abbrev pub turns_left : Bool → ℕ → ℕ
turns_left true calls = suc calls
turns_left false calls = 0

pub fewer-left : (was is : Bool) (old new : ℕ) → was ≡ true
    → (◌≡◌ {A = Result Bool Error} (Ok is) (Ok true) → new < old) → turns_left is new < turns_left was old
fewer-left false is old new e h = absurd (let n : ⊥ = cc in n)
fewer-left true true old new e h = let lt : new < old = h refl in omega arith
fewer-left true false old new e h = omega arith

pub outside-rows : (start : Decoding) (e : Error) → IsOutsideOrMemory e → RefusesRows start e
outside-rows start e h = inr h

-- ---- what stands after the lines

can-end : (form : Form) (said : Stored) (lines : List (List ℕ)) (target : Target) (before after : Option (List ℕ))
    → length lines ≡ said.info.height → HasTakenLines form said lines target before after → CanEnd target
can-end form said lines targets.Writer before after high h = tt
can-end form said lines (targets.Png file) before after high h = tt
can-end forms.Raw said lines (targets.Smaller s) before after high h = absurd h
can-end (forms.File Netpbm) said lines (targets.Smaller s) before after high h = absurd h
can-end (forms.File Png) said lines (targets.Smaller s) before after high h = absurd h
can-end (forms.Smaller size format) said lines (targets.Smaller s) before after high h =
    (forms.Smaller size format, said, lines, before, (refl, h.1, h.2, h.3, h.4), high)

part-high : (area : Option Area) (w : Option Window) (stored : Stored) (lines : List (List ℕ))
    → w ≡ option_map (window_of stored) area → IsWithin area stored → length lines ≡ stored.info.height
    → length (lines_within w lines) ≡ (said_of stored area).info.height
part-high None w stored lines e inside high = ap (λ (v : Option Window). length (lines_within v lines)) e ∙ high
part-high (Some area) w stored lines e inside high =
    let v : Window = window_of stored area in
    let there = is-there area stored.info inside in
    ap (λ (u : Option Window). length (lines_within u lines)) e
    ∙ part-length area.top area.height v.from v.bytes lines (omega (arith, high, there.bottom))

-- What has taken lines can write what stands after them.
pub can-finish : (plan : Plan) (bytes : List ℕ) (taker : Taker) (before after : Option (List ℕ))
    → HasTakenBytes plan bytes taker before after → CanFinish taker
can-finish plan bytes takers.Bytes before after h = tt
can-finish plan bytes (takers.Lines t) before after h = λ all.
    let k = h.2 in
    can-end plan.form (said_of plan.stored plan.area) (lines_within t.window h.0) t.target before after
    (part-high plan.area t.window plan.stored h.0 k.window_is k.within (sym k.taken_are ∙ all ∙ k.height_is)) k.given

-- ---- from the first call on

pub none-given : (rows : RowsState) → rows.ahead ≡ Start → AreGiven rows.decoder [] rows.decoder rows.ahead
none-given rows e = subst (λ (a : Ahead). AreGiven rows.decoder [] rows.decoder a) (sym e) (refl, refl)

-- What stands after the lines is written once all were given and taken.
pub rows-end : (r : Result (Unit {0}) Error) (start new : Decoding) (plan : Plan) (taker : Taker)
    (before mid after : Option (List ℕ))
    → ((all : List ℕ) × DecodesRows start (Ok tt) new all × HasTakenBytes plan all taker before mid)
    → ((plan : Plan) (all : List ℕ) (before : Option (List ℕ)) → HasTakenBytes plan all taker before mid
    → OnOk r (IsWrittenAs plan.form plan.stored.orientation (planned plan all) before after))
    → OnOk r ((bytes : List ℕ) × DecodesRows start (Ok tt) new bytes
    × IsWrittenAs plan.form plan.stored.orientation (planned plan bytes) before after)
rows-end r start new plan taker before mid after k ends =
    on_ok_weaker r (λ w. (k.0, k.1, w)) (ends plan k.0 before k.2)

pub outside-refused : (r : Result (Unit {0}) Error) (start : Decoding) → IfErr r IsOfWriter → IfErr r (RefusesRows start)
outside-refused (Ok x) start h = tt
outside-refused (Err e) start h = inr (of-writer e h)

-- and from the decoder on
pub rows-write : (r : Result (Unit {0}) Error) (decoder new : Decoding) (rows : RowsState) (plan : Plan)
    (before after : Option (List ℕ)) → rows ≡ record { decoder = decoder; ahead = Start }
    → OnOk r ((bytes : List ℕ) × DecodesRows rows.decoder (Ok tt) new bytes
    × IsWrittenAs plan.form plan.stored.orientation (planned plan bytes) before after)
    → OnOk r ((new : Decoding) × (bytes : List ℕ) × DecodesRows decoder (Ok tt) new bytes
    × IsWrittenAs plan.form plan.stored.orientation (planned plan bytes) before after)
rows-write (Err e) decoder new rows plan before after is h = tt
rows-write (Ok u) decoder new rows plan before after is h =
    let d : rows.decoder ≡ decoder = ap (λ (r : RowsState). r.decoder) is in
    (new, h.0, subst (λ (x : Decoding). DecodesRows x (Ok tt) new h.0) d h.1, h.2)

pub all-refuse : (r : Result (Unit {0}) Error) (decoder : Decoding) (rows : RowsState)
    → rows ≡ record { decoder = decoder; ahead = Start } → decoder.stage ≡ HeaderRead → decoder.source.known ≡ true
    → IfErr r (RefusesRows rows.decoder)
    → IfErr r (NamesOrOutside (rows_rest decoder.settings decoder.found decoder.source.bytes))
all-refuse (Ok x) decoder rows is at known h = tt
all-refuse (Err e) decoder rows is at known h =
    rows-refuse decoder e at known (subst (λ (x : Decoding). RefusesRows x e) (ap (λ (r : RowsState). r.decoder) is) h)
