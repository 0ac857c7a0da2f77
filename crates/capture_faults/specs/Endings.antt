-- The endings of an input.
use Rattle.capture_faults.specs.declared.fault.CaptureFault.{CaptureFault}
use Rattle.capture_faults.specs.declared.fault.CaptureFault.TheVariants.{ReadFault as NoRead, Memory}
use Rattle.capture_faults.specs.declared.any_fault.AnyFault.{AnyFault}
use Rattle.capture_faults.specs.declared.any_fault.AnyFault.TheVariants.{Capture}
use Rattle.capture_faults.specs.declared.ending.Ending.{Ending}
use Rattle.capture_faults.specs.declared.ending.Ending.TheVariants.{Fault}

-- a fault of an input's bytes: neither the source failed, nor was memory short
abbrev pub IsCaptureFault : CaptureFault → Type 0
IsCaptureFault NoRead = ⊥
IsCaptureFault Memory = ⊥
IsCaptureFault _ = Unit {0}

-- a fault in an ending is one of the input's format
abbrev pub IsFormatFault : AnyFault → Type 0
IsFormatFault (Capture fault) = IsCaptureFault fault
IsFormatFault _ = Unit {0}

abbrev pub IsEnding : Ending → Type 0
IsEnding (Fault fault) = IsFormatFault fault
IsEnding _ = Unit {0}
