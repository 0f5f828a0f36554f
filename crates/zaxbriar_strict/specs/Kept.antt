-- What reading a scan's data leaves of a frame.
use Rattle.std.specs.Prelude.{◌≡◌}
use Rattle.zaxbriar_strict.specs.Heads.{IsSameFrame, factors_of, has_scans, lowest_of}
use Rattle.zaxbriar_strict.specs.declared.frame.Component.{Component}
use Rattle.zaxbriar_strict.specs.declared.frame.Frame.{Frame}

-- Its header is the same, and so is what was noted of its scans.
pub record IsKept (old new : Frame) : Type 0 where
  pub same : IsSameFrame old new
  pub sent : has_scans new ≡ has_scans old
  pub lowest : lowest_of new ≡ lowest_of old

-- the same of a component
pub record IsKeptComponent (old new : Component) : Type 0 where
  pub factors : factors_of new ≡ factors_of old
  pub sent : new.has_scan ≡ old.has_scan
  pub lowest : new.lowest ≡ old.lowest
