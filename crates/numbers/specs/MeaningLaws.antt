-- The number of a refusal is never that of what is accepted.
use Rattle.std.specs.Prelude.{◌<◌}
use Rattle.std.proofs.Common.{arith}
use Rattle.numbers.specs.Meaning.{refusal_number}
use Rattle.numbers.specs.declared.Refusal.{Refusal}
use Rattle.numbers.specs.declared.Refusal.TheVariants as refusal

pub refusal_above : (refusal : Refusal) → 0 < refusal_number refusal
refusal_above refusal.StateNotValid = omega arith
refusal_above refusal.OutOfRange = omega arith
refusal_above refusal.BadSpan = omega arith
refusal_above refusal.VmUnknown = omega arith
refusal_above refusal.VmKnown = omega arith
refusal_above refusal.PageNotHeld = omega arith
refusal_above refusal.PageClaimed = omega arith
refusal_above refusal.NoSuchUnit = omega arith
refusal_above refusal.MappingDiffers = omega arith
refusal_above refusal.MappingPresent = omega arith
refusal_above refusal.StillInUse = omega arith
refusal_above refusal.PairWrong = omega arith
refusal_above refusal.VmBusy = omega arith
refusal_above refusal.NoRoom = omega arith
refusal_above refusal.PortIdle = omega arith
refusal_above refusal.AccessLacking = omega arith
