-- A `Kept` may go to another thread, as its handle may.
use Rattle.std.proofs.Common.{ℕ}
use mir.Raw.{raw}
use base.Shift.{Keyless}
use denote.Memory.{lone}
use denote.Param.Send.{IsSend, owning_send, struct_send, sendable}
use denote.RawPtr.{Ptr}
use denote.Builtin.{RawPtr, u64}
use denote.Struct.Struct.{exits_of}
use denote.Struct.Owning.{shape, fields, to}
use Rattle.std_alloc.proofs.SendSync.{quiet, lies}
use Rattle.std.proofs.Crossing.{crosses, frees}
use Rattle.std.specs.declared.alloc.Global.{Global}
use Rattle.std.specs.contracts.alloc.Global as heap
use Rattle.std.specs.declared.option.Option.{Option}
use Rattle.std.specs.declared.option.Option.TheVariants.{None, Some}
use Rattle.zaxbriar_calls.proofs.handle.Handle.TheSendSync.{the_send as inner}
use Rattle.zaxbriar_calls.specs.Kept.{kept_owns}
use Rattle.zaxbriar_calls.specs.declared.handle.Handle.{Handle}
use Rattle.zaxbriar_calls.specs.contracts.handle.Handle as state
use Rattle.zaxbriar_calls.specs.contracts.kept.Kept.{the_row, the_type}

keyless : IsSend state.the_row → (a : Global) (p : Ptr) (n : ℕ) (value : Option Handle) → Keyless (kept_owns a p n value)
keyless s a p n None = tt
keyless s a p n (Some x) = (tt, (lies state.the_row s p x, frees.frees a (raw (lone (state.the_row).mir)) p))

pub send : IsSend the_row
send =
    let pointer : IsSend RawPtr = search sendable in let number : IsSend u64 = search sendable in let handle : IsSend (heap.the_field).row = search (sendable, crosses) depth 40 in
    owning_send the_type (pointer, (number, (handle, tt))) (λ d. keyless inner d.alloc d.at d.used d.value)
    (λ k. quiet (to the_type) (exits_of k (fields the_type)) ((struct_send (shape the_type) (pointer, (number, (handle, tt)))).leaving k))
