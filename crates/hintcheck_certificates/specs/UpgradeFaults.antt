-- What the fault of an upgrade tells of failed reads and writes.
use Rattle.std.specs.Prelude.{◌≡◌, ◌+◌, ℕ, Result, Ok, Err}
use Rattle.tt_setting.specs.declared.cert_fault.CertFault.{CertFault}
use Rattle.tt_setting.specs.declared.cert_fault.CertFault.TheVariants as fault

-- the count of failed reads goes up by one exactly where the fault is a failed read
abbrev pub CountsReads : {T : Type 0} → Result T CertFault → ℕ → ℕ → Type 0
CountsReads (Ok done) old new = new ≡ old
CountsReads (Err fault.Read) old new = new ≡ old + 1
CountsReads (Err fault.Write) old new = new ≡ old
CountsReads (Err (fault.Form place)) old new = new ≡ old
CountsReads (Err (fault.OutOfMemory error)) old new = new ≡ old

-- the count of failed writes goes up by one exactly where the fault is a failed write
abbrev pub CountsWrites : {T : Type 0} → Result T CertFault → ℕ → ℕ → Type 0
CountsWrites (Ok done) old new = new ≡ old
CountsWrites (Err fault.Write) old new = new ≡ old + 1
CountsWrites (Err fault.Read) old new = new ≡ old
CountsWrites (Err (fault.Form place)) old new = new ≡ old
CountsWrites (Err (fault.OutOfMemory error)) old new = new ≡ old
