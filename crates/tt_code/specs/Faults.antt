-- What a fault of `Program::cut` says about the bytes.
use Rattle.std.specs.Prelude.{ℕ, List}
use Rattle.tt_code.specs.declared.fault.CodeFault.{CodeFault}
use Rattle.tt_code.specs.declared.fault.CodeFault.TheVariants.{CannotCut, Structure, OutOfMemory}
use Rattle.tt_code.specs.Grammar.{HasFault}

-- memory ran out, which is no fault of the bytes
abbrev pub IsMemory : CodeFault → Type 0
IsMemory (OutOfMemory error) = Unit {0}
IsMemory (CannotCut offset) = ⊥
IsMemory (Structure offset) = ⊥

-- the bytes can be cut, and this is the fault of their structure
abbrev pub IsMisnested : List ℕ → CodeFault → Type 0
IsMisnested bytes (Structure offset) = HasFault bytes offset
IsMisnested bytes (CannotCut offset) = ⊥
IsMisnested bytes (OutOfMemory error) = ⊥
