-- What is noted of a scan in its frame.
use Rattle.std.proofs.Common.{◌≡◌, ◌≢◌, ℕ, zero, suc, ◌+◌, ◌<◌, ◌≤◌, Bool, true, false, true≢false, List, [], ◌∷◌, ◌++◌}
use Rattle.std.proofs.Common.{length, map, set, get_or, take, refl, sym, ap, ◌∙◌, subst, arith}
use Rattle.std.proofs.lemmas.List.{map-set, take_all, take_more}
use Rattle.std.proofs.Math.Seq.{map-set_same}
use Rattle.zaxbriar_strict.specs.Changes.{kept_of}
use Rattle.zaxbriar_strict.specs.Heads.{AreUnsent, IsLosslessFrame, IsSameFrame, IsSentOnce, IsSequential, factors_of}
use Rattle.zaxbriar_strict.specs.Heads.{SendsPart, has_scans, is_progressive_process, lowest_of, members_of, number_of, pass_in}
use Rattle.zaxbriar_strict.specs.Heads.{sent_with}
use Rattle.zaxbriar_strict.specs.Progress.{AreNoted, NotesAt, NotesPass}
use Rattle.jpeg_bits.specs.Passes.{Pass}
use Rattle.std.specs.Prelude.{Option, Some, slice_get}
use Rattle.zaxbriar_strict.specs.Members.{HaveTables, NotesScan, Predicts, SendsAll, most_tables}
use Rattle.zaxbriar_strict.specs.declared.frame.Component.{Component}
use Rattle.zaxbriar_strict.specs.declared.frame.Frame.{Frame}
use Rattle.zaxbriar_strict.specs.declared.frame.Process.{Process}
use Rattle.zaxbriar_strict.specs.declared.scan.Member.{Member}
use Rattle.zaxbriar_strict.specs.declared.scan.Scan.{Scan}
use Rattle.zaxbriar_strict.proofs.SameFrames.{same-item, same-none, same-then}
use Rattle.zaxbriar_strict.proofs.Segments.{all-push}

-- ---- which components have a scan

-- what is unset after one was set was unset before
unset-before : (sent : List Bool) (k i : ℕ) → get_or (set sent k true) i true ≡ false → get_or sent i true ≡ false
unset-before [] k i e = e
unset-before (b ∷ bs) zero zero e = absurd (true≢false e)
unset-before (b ∷ bs) zero (suc i) e = e
unset-before (b ∷ bs) (suc k) zero e = e
unset-before (b ∷ bs) (suc k) (suc i) e = unset-before bs k i e

unsent-before : (ms : List Member) (sent : List Bool) (i : ℕ) → get_or (sent_with ms sent) i true ≡ false
    → get_or sent i true ≡ false
unfolding sent_with
unsent-before [] sent i e = e
unsent-before (m ∷ ms) sent i e =
    unset-before sent m.component i (unsent-before ms (set sent m.component true) i e)

sent-push : (ms : List Member) (m : Member) (sent : List Bool)
    → sent_with (ms ++ m ∷ []) sent ≡ set (sent_with ms sent) m.component true
unfolding sent_with
sent-push [] m sent = refl
sent-push (x ∷ xs) m sent = sent-push xs m (set sent x.component true)

none-sent : (sent : List Bool) → sent_with [] sent ≡ sent
unfolding sent_with
none-sent sent = refl

unsent-at : (cs : List Component) (i : ℕ) (c : Component) → i < length cs → c ≡ get_or cs i c → c.has_scan ≡ false
    → get_or (map (λ (x : Component). x.has_scan) cs) i true ≡ false
unsent-at [] i c lt e unsent = absurd (omega arith)
unsent-at (x ∷ xs) zero c lt e unsent = ap (λ (k : Component). k.has_scan) (sym e) ∙ unsent
unsent-at (x ∷ xs) (suc i) c lt e unsent = unsent-at xs i c (omega arith) e unsent

-- ---- the lowest bits that were sent

abbrev Lowest : Type 0
Lowest = List (List (Option ℕ))

noted-push : (p : Pass) (ms : List Member) (m : Member) (a b c : Lowest) → AreNoted p ms a b
    → NotesAt p m.component b c → AreNoted p (ms ++ m ∷ []) a c
unfolding AreNoted
noted-push p [] m a b c n at = (c, (subst (λ (l : Lowest). NotesAt p m.component l c) n at, refl))
noted-push p (x ∷ xs) m a b c n at = (n.0, (n.1.0, noted-push p xs m n.0 b c n.1.1 at))

noted-none : (p : Pass) (a : Lowest) → AreNoted p [] a a
unfolding AreNoted
noted-none p a = refl

lowest-at : (cs : List Component) (i : ℕ) (c : Component) → i < length cs → c ≡ get_or cs i c
    → slice_get (map (λ (x : Component). x.lowest) cs) i ≡ Some c.lowest
lowest-at [] i c lt e = absurd (omega (arith, lt))
lowest-at (x ∷ xs) zero c lt e = ap (λ (k : Component). Some k.lowest) (sym e)
lowest-at (x ∷ xs) (suc i) c lt e = lowest-at xs i c (omega (arith, lt)) e

-- ---- the components of a scan, one after the other

-- What was noted of the first components of a scan.
pub record NotesFirst (s : Scan) (ms : List Member) (old new : Frame) : Type 0 where
  pub same : IsSameFrame old new
  pub unsent : IsSentOnce old → AreUnsent (has_scans old) ms
  pub sent : has_scans new ≡ sent_with ms (has_scans old)
  pub kept : map kept_of new.components.items ≡ map kept_of old.components.items
  pub noted : is_progressive_process old.process ≡ true → AreNoted (pass_in s) ms (lowest_of old) (lowest_of new)

pub none-noted : (s : Scan) (f : Frame) → NotesFirst s [] f f
none-noted s f = record {
  noted = λ e. noted-none (pass_in s) (lowest_of f);
  same = same-none f;
  unsent = λ few. tt;
  sent = sym (none-sent (has_scans f));
  kept = refl;
}

-- The component at an index of a frame was noted, and nothing else of the frame.
pub record NotesOne (s : Scan) (i : ℕ) (c next : Component) (old new : Frame) : Type 0 where
  pub within : i < length old.components.items
  pub is : c ≡ get_or old.components.items i c
  pub items : new.components.items ≡ set old.components.items i next
  pub process : new.process ≡ old.process
  pub precision : new.precision ≡ old.precision
  pub width : new.width ≡ old.width
  pub height : new.height ≡ old.height
  pub across : new.most_across ≡ old.most_across
  pub down : new.most_down ≡ old.most_down
  pub factors : factors_of next ≡ factors_of c
  pub unsent : number_of old.process ≢ 2 → c.has_scan ≡ false
  pub sent : next.has_scan ≡ true
  pub kept : kept_of next ≡ kept_of c
  pub noted : is_progressive_process old.process ≡ true → NotesPass (pass_in s) c.lowest next.lowest

pub one-noted : (s : Scan) (ms : List Member) (m : Member) (c next : Component) (old middle new : Frame) → NotesFirst s ms old middle
    → NotesOne s m.component c next middle new → NotesFirst s (ms ++ m ∷ []) old new
one-noted s ms m c next old middle new n o =
    let items = middle.components.items in
    let i = m.component in
    record {
      same = same-then n.same (same-item middle new i c next o.is o.factors o.items o.process o.precision o.width
          o.height o.across o.down);
      unsent = λ once.
          let first = o.unsent (subst (λ (p : Process). number_of p ≢ 2) (sym n.same.process) once) in
          all-push (λ (x : Member). get_or (has_scans old) x.component true ≡ false) ms m (n.unsent once)
          (unsent-before ms (has_scans old) i
          (ap (λ (l : List Bool). get_or l i true) (sym n.sent) ∙ unsent-at items i c o.within o.is first));
      sent = ap (map (λ (x : Component). x.has_scan)) o.items ∙ map-set (λ (x : Component). x.has_scan) items i next
          ∙ ap (λ (b : Bool). set (has_scans middle) i b) o.sent
          ∙ ap (λ (l : List Bool). set l i true) n.sent ∙ sym (sent-push ms m (has_scans old));
      kept = ap (map kept_of) o.items ∙ map-set_same kept_of items i next c (o.kept ∙ ap kept_of o.is) ∙ n.kept;
      noted = λ e. noted-push (pass_in s) ms m (lowest_of old) (lowest_of middle) (lowest_of new) (n.noted e) (record {
        was = c.lowest;
        next = next.lowest;
        at = lowest-at items i c o.within o.is;
        is = ap (map (λ (x : Component). x.lowest)) o.items ∙ map-set (λ (x : Component). x.lowest) items i next;
        noted = o.noted (ap is_progressive_process n.same.process ∙ e);
      });
    }

-- the next component of a list of them
pub next-noted : (s : Scan) (ms : List Member) (place : ℕ) (d : Member) (c next : Component) (old middle new : Frame)
    → place < length ms → NotesFirst s (take place ms) old middle
    → NotesOne s (get_or ms place d).component c next middle new → NotesFirst s (take (place + 1) ms) old new
next-noted s ms place d c next old middle new lt n o =
    subst (λ (l : List Member). NotesFirst s l old new) (sym (take_more ms place d lt))
    (one-noted s (take place ms) (get_or ms place d) c next old middle new n o)

-- all of them
pub all-noted : (s : Scan) (ms : List Member) (place : ℕ) (old new : Frame) → ms ≡ members_of s → length ms ≤ place
    → NotesFirst s (take place ms) old new → HaveTables (most_tables old.process) (members_of s)
    → (IsSequential old → SendsAll s) → (is_progressive_process old.process ≡ true → SendsPart s)
    → (IsLosslessFrame old → Predicts old.precision s) → NotesScan s old new
all-noted s ms place old new are end n tables whole part predicted =
    let all = subst (λ (l : List Member). NotesFirst s l old new) (take_all place ms end ∙ are) n in
    record {
      tables = tables;
      whole = whole;
      part = part;
      predicted = predicted;
      same = all.same;
      unsent = all.unsent;
      sent = all.sent;
      kept = all.kept;
      noted = all.noted;
    }
