-- Reference points and zone pointers by their numbers (Apple TrueType Reference Manual, "Graphics State").
use Rattle.std.specs.Prelude.{ℕ, ◌==◌, if◌then◌else◌}
use Rattle.tt_code.specs.declared.kinds.Reference.{Reference}
use Rattle.tt_code.specs.declared.kinds.Reference.TheVariants.{Rp0, Rp1, Rp2}
use Rattle.tt_code.specs.declared.kinds.Pointer.{Pointer}
use Rattle.tt_code.specs.declared.kinds.Pointer.TheVariants.{Zp0, Zp1, Zp2}

-- the reference point with this number, for numbers below 3: rp0, rp1, rp2
abbrev pub reference_numbered : ℕ → Reference
reference_numbered i = if i == 0 then Rp0 else if i == 1 then Rp1 else Rp2

-- the zone pointer with this number, for numbers below 3: zp0, zp1, zp2
abbrev pub pointer_numbered : ℕ → Pointer
pointer_numbered i = if i == 0 then Zp0 else if i == 1 then Zp1 else Zp2
