-- What a `Kept` owns: nothing where it keeps no handle, and else the handle's block.
use Rattle.std.specs.Prelude.{ℕ}
use base.Fml.{Fml, feq, fsep}
use denote.RawPtr.{Ptr}
use Rattle.std.specs.declared.option.Option.{Option}
use Rattle.std.specs.declared.option.Option.TheVariants.{None, Some}
use Rattle.std.specs.declared.alloc.Global.{Global}
use Rattle.std.specs.contracts.impls.GlobalAllocator.TheImpl.{ghosts}
use Rattle.std_alloc.specs.Box.Ownership.{box_owns}
use Rattle.zaxbriar_calls.specs.declared.handle.Handle.{Handle}
use Rattle.zaxbriar_calls.specs.contracts.handle.Handle.{the_row}

abbrev pub kept_owns : Global → Ptr → ℕ → Option Handle → Fml
kept_owns a at used None = feq ℕ used 0
kept_owns a at used (Some handle) =
    fsep (feq ℕ used 1) (box_owns (ghosts.dealloc_token a) the_row at handle)
