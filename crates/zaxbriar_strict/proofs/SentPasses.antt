-- The pass in which a scan sends its band.
use Rattle.std.proofs.Common.{◌≡◌, ◌≤◌, Bool, true, false, sym, ap, ◌∙◌, subst}
use Rattle.std.proofs.lemmas.Bool.{false≢true}
use Rattle.jpeg_bits.specs.Passes.{Pass, whole_pass}
use Rattle.zaxbriar_strict.specs.Sent.{IsBand, IsPass}
use Rattle.zaxbriar_strict.specs.Heads.{IsSequential, is_progressive_process, pass_in}
use Rattle.zaxbriar_strict.specs.ScanData.{Sends}
use Rattle.zaxbriar_strict.specs.ScanData.Sends.{sends_all, sends_part}
use Rattle.zaxbriar_strict.specs.Whole.{IsWhole}
use Rattle.zaxbriar_strict.specs.declared.blocks.Band.{Band}
use Rattle.zaxbriar_strict.specs.declared.frame.Frame.{Frame}
use Rattle.zaxbriar_strict.specs.declared.frame.Process.TheVariants.{Lossless}
use Rattle.zaxbriar_strict.specs.declared.scan.Scan.{Scan}
use Rattle.zaxbriar_strict.proofs.SameFrames.{not-sequential, plain-process}

-- A band of a frame that is progressive, or sequential, is sent in this pass.
pub record IsSentBy (k : Bool) (b : Band) (p : Pass) : Type 0 where
  pub first : b.first ≡ p.ss
  pub last : b.last ≡ p.se
  pub sequential : k ≡ false → p ≡ whole_pass
  pub passed : k ≡ true → IsPass p b
  pub banded : k ≡ true → IsBand p

pub sent-by : (f : Frame) (s : Scan) (p : Pass) (b : Band) → Sends f s p → (IsSequential f → IsWhole b)
    → (is_progressive_process f.process ≡ true → s.last ≤ 63 → s.low ≤ 13 → IsPass (pass_in s) b)
    → IsSentBy (is_progressive_process f.process) b p
sent-by f s p b (sends_all few e) whole sent =
    let w = whole few in
    let plain = plain-process f.process few in
    record {
      first = w.first ∙ sym (ap (λ (q : Pass). q.ss) e);
      last = w.last ∙ sym (ap (λ (q : Pass). q.se) e);
      sequential = λ h. e;
      passed = λ h. absurd (false≢true (sym plain ∙ h));
      banded = λ h. absurd (false≢true (sym plain ∙ h));
    }
sent-by f s p b (sends_part is e part) whole sent =
    let q = subst (λ (x : Pass). IsPass x b) (sym e) (sent is part.last part.low) in
    record {
      first = q.first;
      last = q.last;
      sequential = λ h. absurd (false≢true (sym h ∙ is));
      passed = λ h. q;
      banded = λ h. subst (λ (x : Pass). IsBand x) (sym e) part.banded;
    }

-- A lossless frame sends nothing so.
pub not-sent : (f : Frame) (s : Scan) (p : Pass) → f.process ≡ Lossless → Sends f s p → ⊥
not-sent f s p e (sends_all few q) = not-sequential f.process e few
not-sent f s p e (sends_part is q part) = false≢true (sym (ap is_progressive_process e) ∙ is)
