-- A reader's handle may go to another thread, as its holder may.
use mir.Raw.{raw}
use mathlib.Core.List.{List, [], ◌∷◌}
use denote.Memory.{lone}
use denote.RawPtr.{Ptr}
use base.Shift.{Keyless}
use denote.Param.Send.{IsSend, owning_send, struct_send, sendable}
use denote.Builtin.{RawPtr}
use denote.Struct.Struct.{exits_of}
use denote.Struct.Owning.{shape, fields, to}
use Rattle.std_alloc.proofs.SendSync.{quiet, lies}
use Rattle.std.proofs.Crossing.{frees}
use Rattle.flowdir_c.specs.Handles.{the_heap, handle_owns}
use Rattle.flowdir_c.specs.contracts.lasting_peeker.LastingPeeker as holder
use Rattle.flowdir_c.proofs.lasting_peeker.LastingPeeker.TheSendSync as holder_crosses
use Rattle.flowdir_c.specs.contracts.lasting_readers.LastingReaderHandle.{the_row, the_type}

held_keyless : (p : Ptr) (xs : List holder.the_row.Denot) → Keyless (handle_owns holder.the_row p xs)
held_keyless p [] = tt
held_keyless p (x ∷ _) =
    (lies holder.the_row holder_crosses.the_send p x, frees.frees the_heap (raw (lone holder.the_row.mir)) p)

pub send : IsSend the_row
send = let O = the_type in let ps : IsSend RawPtr = search sendable in
    owning_send O (ps, tt) (λ d. held_keyless d.at d.holders)
    (λ k. quiet (to O) (exits_of k (fields O)) ((struct_send (shape O) (ps, tt)).leaving k))
