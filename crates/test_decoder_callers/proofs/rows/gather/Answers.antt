use Rattle.std.proofs.Common.{◌≡◌, ◌∙◌, ◌++◌, [], ap, refl, subst, sym, Bool, List, ℕ, Ok, true, false}
use Rattle.jpeg_meaning.specs.States.{Decoding}
use Rattle.jpeg_decoder.specs.DecodesRows.{DecodesRows}
use Rattle.jpeg_decoder.specs.Rows.{AreGiven, GivesNext, RowsState, lines_in}
use Rattle.jpeg_decoder.specs.declared.rows.Ahead.{Ahead}
use Rattle.jpeg_decoder.specs.declared.rows.Ahead.TheVariants.{Start}
use Rattle.test_decoder_callers.proofs.rows.gather.Goals as goal

-- before the first call
none-given : (rows : RowsState) (bytes : List ℕ) → rows.ahead ≡ Start → bytes ≡ []
    → AreGiven rows.decoder bytes rows.decoder rows.ahead
none-given rows bytes e none =
    subst (λ (a : Ahead). AreGiven rows.decoder bytes rows.decoder a) (sym e) (refl, none)

all-given : (start : Decoding) (bytes : List ℕ) (more : Bool) (new : RowsState) → more ≡ false
    → GivesNext start bytes (Ok more) new → DecodesRows start (Ok tt) new.decoder bytes
all-given start bytes more new e h = subst (λ (b : Bool). GivesNext start bytes (Ok b) new) e h

more-given : (start : Decoding) (bytes lines all : List ℕ) (more : Bool) (new : RowsState) → more ≡ true
    → GivesNext start bytes (Ok more) new → lines ≡ lines_in new.ahead → all ≡ bytes ++ lines
    → AreGiven start all new.decoder new.ahead
more-given start bytes lines all more new e h is added =
    subst (λ (b : List ℕ). AreGiven start b new.decoder new.ahead) (sym (added ∙ ap (λ (l : List ℕ). bytes ++ l) is))
    (subst (λ (b : Bool). GivesNext start bytes (Ok b) new) e h)

pub loop-picture-init : goal.loop-picture-init
loop-picture-init g c = none-given c.args.rows.now c.args.picture.now.items c.requires.start c.requires.empty

pub returns : goal.returns
returns g c = record {
  all = all-given c.args.rows.now.decoder c.loop-picture.picture.items c.in_ok-read.field-0 c.read.new.self
      c.if-branch.false
      (c.in_ok-read.ensures.gives c.args.rows.now.decoder c.loop-picture.picture.items c.loop-picture.invariant);
}

pub loop-picture-preserved : goal.loop-picture-preserved
loop-picture-preserved g c =
    more-given c.args.rows.now.decoder c.loop-picture.picture.items c.lines.result.now c.extend_from_slice.new.self.items
    c.in_ok-read.field-0 c.read.new.self c.if-branch.true
    (c.in_ok-read.ensures.gives c.args.rows.now.decoder c.loop-picture.picture.items c.loop-picture.invariant) c.lines.ensures
    c.in_ok-extend_from_slice.ensures.items
