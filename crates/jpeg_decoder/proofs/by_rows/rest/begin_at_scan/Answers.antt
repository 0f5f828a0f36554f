use Rattle.std.proofs.Common.{◌≡◌, ℕ, Bool, Ok, Err, [], Option, refl, subst, sym}
use Rattle.std.proofs.lemmas.Result.{err_from_is_err_and}
use Rattle.std.specs.List.{concat}
use Rattle.jpeg_segments.specs.ScanHeader.{Scan}
use Rattle.jpeg_meaning.specs.Sound.{HasDecodedFrame}
use Rattle.jpeg_meaning.specs.States.{OnToldRefusal}
use Rattle.jpeg_meaning.specs.Work.{is_above, work_of_header}
use Rattle.jpeg_decoder.specs.RowScans.{HasHeader, IsTaken, ReadsHeader}
use Rattle.jpeg_decoder.specs.Steps.{header_within}
use Rattle.jpeg_decoder.specs.Walks.{IsKnownIf, known_if}
use Rattle.jpeg_decoder.proofs.ByRows.BegunScans.{WalksOn, begun-at, kept-header, none-ended, none-on-refused}
use Rattle.jpeg_decoder.proofs.ByRows.BegunScans.{none-refused, none-short, says-unread, some-refused}
use Rattle.jpeg_decoder.proofs.ByRows.FromScan.{comes-fits, refusal-if, seen-if}
use Rattle.jpeg_decoder.proofs.by_rows.rest.begin_at_scan.Given.{Over}
use Rattle.jpeg_decoder.proofs.by_rows.rest.begin_at_scan.Goals.{After-colours_for, After-take_lines}
use Rattle.jpeg_decoder.proofs.by_rows.rest.begin_at_scan.Goals as goal

-- ---- the header is refused

unread : (g : Over) (c : goal.After-from_residual g) (k : Bool) → IsKnownIf k 0 c.args.source.now
    → ReadsHeader c.args.settings.max_blocks c.args.state.now (known_if k c.args.source.now)
    (Err c.in_err-header.field-0.0) c.read_header.new.source
unread g c k h =
    subst (λ (l : Option ℕ). ReadsHeader l c.args.state.now (known_if k c.args.source.now)
    (Err c.in_err-header.field-0.0) c.read_header.new.source) c.requires.left
    (seen-if (λ (s : Scan). s) (header_within c.args.walk.now.budget.left c.args.state.now) k c.args.source.now
    c.read_header.new.source (Err c.in_err-header.field-0.0) (λ e. (h e).0) c.in_err-header.ensures.header)

pub returns-in_err-header-clause-begins : goal.returns-in_err-header-clause-begins
returns-in_err-header-clause-begins g c k h =
    let p = err_from_is_err_and c.from_residual.result c.from_residual.ensures.1 in
    rw (p.1, p.2) (says-unread c.args.settings k c.args.state.now c.read_header.new.state c.args.source.now
    c.read_header.new.source c.in_err-header.field-0.0 c.read_header.new.budget.exceeded c.read_header.ensures.stays
    (unread g c k h)
    (refusal-if {X = Scan} (c.read_header.new.budget.exceeded
    ≡ is_above c.args.settings.max_blocks (work_of_header c.args.state.now c.args.source.now.bytes)) k c.args.source.now
    c.read_header.new.source (Err c.in_err-header.field-0.0) (λ e. (h e).0)
    (subst (λ (l : Option ℕ). OnToldRefusal {X = Scan} c.args.source.now c.read_header.new.source
    (Err c.in_err-header.field-0.0) (c.read_header.new.budget.exceeded
    ≡ is_above l (work_of_header c.args.state.now c.args.source.now.bytes))) c.requires.left
    c.in_err-header.ensures.exceeded)))

-- ---- the header is read

head : (g : Over) (c : After-colours_for g) (k : Bool) → IsKnownIf k 0 c.args.source.now
    → HasHeader c.args.settings c.args.settings.max_blocks c.read_header.new.budget.left c.args.state.now
    c.read_header.new.state c.in_ok-header.header (known_if k c.args.source.now) c.read_header.new.source
head g c k h = record {
  sound = c.requires.sound;
  stays = c.read_header.ensures.stays;
  legal = c.in_ok-header.ensures.legal;
  within = refl;
  header = subst (λ (l : Option ℕ). ReadsHeader l c.args.state.now (known_if k c.args.source.now)
      (Ok c.in_ok-header.header) c.read_header.new.source) c.requires.left
      (seen-if (λ (s : Scan). s) (header_within c.args.walk.now.budget.left c.args.state.now) k c.args.source.now
      c.read_header.new.source (Ok c.in_ok-header.header) (λ e. (h e).0) c.in_ok-header.ensures.header);
  taken = subst (λ (l : Option ℕ). IsTaken l c.args.state.now (known_if k c.args.source.now)
      c.read_header.new.budget.left) c.requires.left (λ e. c.in_ok-header.ensures.left (h e).0);
}

-- ---- its lines are given as it is read

pub begin_rows-requires-clause-all : goal.begin_rows-requires-clause-all
begin_rows-requires-clause-all g c =
    comes-fits c.args.settings c.read_header.new.state.said c.in_ok-header.header c.in-Some.colours.transform
    c.in-Some.colours.convert c.read_header.new.state.said.frame c.in-Some.ensures.some

pub returns-in_err-rows-in-Some-clause-begins : goal.returns-in_err-rows-in-Some-clause-begins
returns-in_err-rows-in-Some-clause-begins g c k h =
    let p = err_from_is_err_and c.from_residual-in_err-rows-in-Some.result
    c.from_residual-in_err-rows-in-Some.ensures.1 in
    rw (p.1, p.2) (some-refused c.args.settings k c.read_header.new.budget.left c.args.state.now
    c.read_header.new.state c.in_ok-header.header c.args.source.now c.read_header.new.source
    (head g (goal.at.returns-in_err-rows-in-Some-clause-begins g c).After-colours_for k h)
    c.in-Some.colours.transform c.in-Some.colours.convert c.in_err-rows-in-Some.field-0.0
    c.read_header.new.budget.exceeded c.in_ok-header.ensures.within c.in-Some.ensures.some
    c.in_err-rows-in-Some.ensures.refused)

pub returns-in_ok-rows-in-Some-clause-begins : goal.returns-in_ok-rows-in-Some-clause-begins
returns-in_ok-rows-in-Some-clause-begins g c k h =
    let head = head g (goal.at.returns-in_ok-rows-in-Some-clause-begins g c).After-colours_for k h in (
      c.in_ok-header.ensures.within,
      (
        (c.read_header.ensures.stays, c.in_ok-rows-in-Some.ensures.none),
        begun-at c.args.settings k c.read_header.new.budget.left c.args.state.now c.read_header.new.state
            c.in_ok-header.header c.args.source.now c.read_header.new.source head c.in_ok-rows-in-Some.rows
            c.requires.unread
            (λ u. c.in_ok-rows-in-Some.ensures.begun c.args.settings k c.args.source.now c.read_header.new.source
            (kept-header c.args.settings k c.read_header.new.budget.left c.args.state.now c.read_header.new.state
            c.in_ok-header.header c.args.source.now c.read_header.new.source head) h
            (c.in_ok-header.ensures.within, c.requires.going.1) u c.in-Some.ensures.some),
      ),
    )

pub returns-in_ok-rows-in-Some-clause-frames : goal.returns-in_ok-rows-in-Some-clause-frames
returns-in_ok-rows-in-Some-clause-frames g c =
    subst HasDecodedFrame (sym c.read_header.ensures.stays) c.requires.sound.frames

-- ---- its lines are given at the end

pub returns-in_err-step-in-None-clause-begins : goal.returns-in_err-step-in-None-clause-begins
returns-in_err-step-in-None-clause-begins g c k h =
    let p = err_from_is_err_and c.from_residual-in_err-step-in-None.result
    c.from_residual-in_err-step-in-None.ensures.1 in
    rw (p.1, p.2) (none-refused c.args.settings k c.read_header.new.budget.left c.args.state.now
    c.read_header.new.state c.in_ok-header.header c.args.source.now c.read_header.new.source
    (head g (goal.at.returns-in_err-step-in-None-clause-begins g c).After-colours_for k h)
    c.read_after.new.state c.read_after.new.source c.in_err-step-in-None.field-0.0
    c.read_header.new.budget.exceeded c.in_ok-header.ensures.within (c.in-None.ensures.none refl)
    c.in_err-step-in-None.ensures.steps.kept
    c.in_err-step-in-None.ensures.reads)

pub returns-in_err-read_on-in-None-clause-begins :
    goal.returns-in_err-read_on-in-None-clause-begins
returns-in_err-read_on-in-None-clause-begins g c k h =
    let p = err_from_is_err_and c.from_residual-in_err-read_on-in-None.result
    c.from_residual-in_err-read_on-in-None.ensures.1 in
    let head = head g (goal.at.returns-in_err-read_on-in-None-clause-begins g c).After-colours_for k h in
    let short = none-short c.args.settings k c.read_header.new.budget.left c.args.state.now
    c.read_header.new.state c.in_ok-header.header c.args.source.now c.read_header.new.source head
    c.read_after.new.state c.read_after.new.source c.in_ok-step-in-None.step h c.in_ok-step-in-None.ensures.reads in
    rw (p.1, p.2) (none-on-refused c.args.settings k c.read_header.new.budget.left c.args.state.now
    c.read_header.new.state c.in_ok-header.header c.args.source.now c.read_header.new.source head
    c.read_after.new.state c.read_on.new.state c.read_after.new.source c.read_on.new.source
    c.in_ok-step-in-None.step c.in_err-read_on-in-None.field-0.0 c.read_on.new.walk.budget.exceeded
    (c.in-None.ensures.none refl) c.in_ok-step-in-None.ensures.reads (record {
      reads = c.in_err-read_on-in-None.ensures.reads k short;
      told = c.in_err-read_on-in-None.ensures.told k short;
      turns = c.in_err-read_on-in-None.ensures.turns k short;
      exceeded = c.in_err-read_on-in-None.ensures.exceeded k short;
    }))

-- the walk to the end
walks : (g : Over) (c : After-take_lines g) (k : Bool) → IsKnownIf k 0 c.args.source.now
    → HasHeader c.args.settings c.args.settings.max_blocks c.read_header.new.budget.left c.args.state.now
    c.read_header.new.state c.in_ok-header.header (known_if k c.args.source.now) c.read_header.new.source
    → WalksOn c.read_header.new.budget.left k c.read_after.new.state c.read_on.new.state
    c.in_ok-step-in-None.step c.read_after.new.source (Ok tt) c.read_on.new.source c.read_on.new.walk.budget.exceeded
walks g c k h head =
    let short = none-short c.args.settings k c.read_header.new.budget.left c.args.state.now
    c.read_header.new.state c.in_ok-header.header c.args.source.now c.read_header.new.source head
    c.read_after.new.state c.read_after.new.source c.in_ok-step-in-None.step h c.in_ok-step-in-None.ensures.reads in
    record {
      reads = c.in_ok-read_on-in-None.ensures.reads k short;
      told = tt;
      turns = c.in_ok-read_on-in-None.ensures.turns k short;
      exceeded = c.in_ok-read_on-in-None.ensures.exceeded k short;
    }

pub returns-in_err-shown-in-None-clause-begins : goal.returns-in_err-shown-in-None-clause-begins
returns-in_err-shown-in-None-clause-begins g c k h =
    let p = err_from_is_err_and c.from_residual-in_err-shown-in-None.result
    c.from_residual-in_err-shown-in-None.ensures.1 in
    let at = goal.at.returns-in_err-shown-in-None-clause-begins g c in
    let head = head g at.After-colours_for k h in
    rw (p.1, p.2) (none-ended c.args.settings k c.read_header.new.budget.left c.args.state.now
    c.read_header.new.state c.in_ok-header.header c.args.source.now c.read_header.new.source head
    c.read_after.new.state c.read_on.new.state c.take_lines.new.state.said c.read_after.new.source
    c.read_on.new.source c.in_ok-step-in-None.step (Err c.in_err-shown-in-None.field-0.0)
    c.read_on.new.walk.budget.exceeded [] (c.in-None.ensures.none refl) c.in_ok-step-in-None.ensures.reads
    (walks g at.After-take_lines k h head) c.in_ok-step-in-None.ensures.steps.stays
    c.in_ok-read_on-in-None.ensures.stays c.take_lines.ensures.said (tt, c.in_err-shown-in-None.ensures.meant) refl)

pub returns-in_ok-shown-in-None-clause-begins : goal.returns-in_ok-shown-in-None-clause-begins
returns-in_ok-shown-in-None-clause-begins g c k h =
    let at = goal.at.returns-in_ok-shown-in-None-clause-begins g c in
    let head = head g at.After-colours_for k h in (
      none-ended c.args.settings k c.read_header.new.budget.left c.args.state.now
          c.read_header.new.state c.in_ok-header.header c.args.source.now c.read_header.new.source head
          c.read_after.new.state c.read_on.new.state c.take_lines.new.state.said c.read_after.new.source
          c.read_on.new.source c.in_ok-step-in-None.step (Ok tt) c.read_on.new.walk.budget.exceeded
          (concat c.in_ok-shown-in-None.shown.left) (c.in-None.ensures.none refl) c.in_ok-step-in-None.ensures.reads
          (walks g at.After-take_lines k h head) c.in_ok-step-in-None.ensures.steps.stays
          c.in_ok-read_on-in-None.ensures.stays c.take_lines.ensures.said
          (c.in_ok-shown-in-None.ensures.whole, c.in_ok-shown-in-None.ensures.meant) tt,
      c.in_ok-shown-in-None.ensures.untaken,
    )
