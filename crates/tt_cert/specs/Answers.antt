-- What a function that reads from a source, or writes to a sink, returns.
use Rattle.std.specs.Prelude.{◌≡◌, ℕ, ◌+◌, ◌<◌, true, List, [], ◌++◌, length, get_or, Option, Some, is_some, unwrap_or, IfSome, Result, Ok, Err}
use Rattle.std.specs.Borrow.{Bor}
use Rattle.std.specs.Io.KnownBytes.{Consumes}
use Rattle.tt_setting.specs.declared.cert_fault.CertFault.{CertFault}
use Rattle.tt_setting.specs.declared.cert_fault.CertFault.TheVariants as fault
use Rattle.tt_cert.specs.declared.form.Form.{Form}
use Rattle.tt_cert.specs.Readers.{Answer, Input, place_after}
use Rattle.tt_cert.specs.Rules.{Fits}
use Rattle.tt_family.specs.Contents.{Contents}
use Rattle.tt_setting.specs.declared.name.Name.{Name}
use Rattle.tt_cert.specs.Sections.{Section, section_of}
use Rattle.tt_cert.specs.Text.{header_of, section_text}

-- the input at a place of a source that tells its bytes
abbrev pub input_at : ℕ → Option (List ℕ) → Input
input_at place known = record { place = place; bytes = unwrap_or known [] }

-- a fault of form names the place that reading refuses; a failed read and out of memory are
-- unspecified, and no write fails
abbrev pub Fails : {Y : Type 0} → CertFault → Result Y ℕ → Type 0
Fails (fault.Form place) read = read ≡ Err place
Fails fault.Read read = Unit {0}
Fails fault.Write read = ⊥
Fails (fault.OutOfMemory error) read = Unit {0}

-- Where the source tells its bytes, the answer, seen by a view, is what reading gives, except for
-- failed reads and out of memory.
abbrev pub Gives : {X Y : Type 0} → (X → Y) → Option (List ℕ) → Option (List ℕ)
    → Result (X × ℕ) CertFault → Answer Y → Type 0
Gives view old new (Ok x) read = is_some old ≡ true
    → (is_some new ≡ true) × (read ≡ Ok (view x.0, input_at x.1 new))
Gives view old new (Err e) read = is_some old ≡ true → Fails e read

-- the same of a section's name, family and the place after it
abbrev pub GivesSection : Option (List ℕ) → Option (List ℕ)
    → Result (Name × Contents × ℕ) CertFault → Answer Section → Type 0
GivesSection old new (Ok x) read = is_some old ≡ true
    → (is_some new ≡ true) × (read ≡ Ok (section_of x.0 x.1, input_at x.2 new))
GivesSection old new (Err e) read = is_some old ≡ true → Fails e read

-- the same where the family is lent
abbrev pub LendsSection : Option (List ℕ) → Option (List ℕ)
    → Result (Name × Bor Contents × ℕ) CertFault → Answer Section → Type 0
LendsSection old new (Ok x) read = is_some old ≡ true
    → (is_some new ≡ true) × (read ≡ Ok (section_of x.0 x.1.now, input_at x.2 new))
LendsSection old new (Err e) read = is_some old ≡ true → Fails e read

-- the same of a header, with some place after it
abbrev pub GivesHeader : {F : Type 0} → Option (List ℕ) → Option (List ℕ)
    → Result (F × ℕ) CertFault → Answer (F × ℕ) → Type 0
GivesHeader old new (Ok x) read = is_some old ≡ true
    → (is_some new ≡ true) × ((place : ℕ) × (read ≡ Ok (x, input_at place new)))
GivesHeader old new (Err e) read = is_some old ≡ true → Fails e read

-- what was read, taken as an input of its own, is refused only where it ends
pub record IsCutShort {Y : Type 0} (place : ℕ) (old new : Option (List ℕ))
    (read : Input → Answer Y) : Type 0 where
  pub front : List ℕ
  pub consumed : Consumes old new front
  pub refused : read (input_at place (Some front)) ≡ Err (place_after place (length front))

-- Where a read failed, and the source tells its bytes, no unit that was read whole breaks a rule.
abbrev pub StopsAtEnd : {Y : Type 0} → ℕ → Option (List ℕ) → Option (List ℕ)
    → (Input → Answer Y) → CertFault → Type 0
StopsAtEnd place old new read fault.Read = is_some old ≡ true → IsCutShort place old new read
StopsAtEnd place old new read (fault.Form at) = Unit {0}
StopsAtEnd place old new read fault.Write = Unit {0}
StopsAtEnd place old new read (fault.OutOfMemory error) = Unit {0}

-- the count of failed reads goes up by one exactly at a failed read, and no write fails
abbrev pub CountsRead : {T : Type 0} → Result T CertFault → ℕ → ℕ → Type 0
CountsRead (Ok x) old new = new ≡ old
CountsRead (Err fault.Read) old new = new ≡ old + 1
CountsRead (Err (fault.OutOfMemory error)) old new = new ≡ old
CountsRead (Err (fault.Form place)) old new = new ≡ old
CountsRead (Err fault.Write) old new = ⊥

-- the count of failed writes goes up by one exactly at a failed write, and nothing is read
abbrev pub CountsWrite : {T : Type 0} → Result T CertFault → ℕ → ℕ → Type 0
CountsWrite (Ok x) old new = new ≡ old
CountsWrite (Err fault.Write) old new = new ≡ old + 1
CountsWrite (Err (fault.OutOfMemory error)) old new = new ≡ old
CountsWrite (Err (fault.Form place)) old new = ⊥
CountsWrite (Err fault.Read) old new = ⊥

-- bytes are left, where they are known
abbrev pub IsMore : Option (List ℕ) → Type 0
IsMore left = IfSome left (λ bytes. 0 < length bytes)

-- the numbers are bytes
abbrev pub AreBytes : List ℕ → Type 0
AreBytes bytes = (i : ℕ) → get_or bytes i 0 < 256

-- a section that fits was read: its text begins the input, and exactly that text was taken
pub record ReadsSection (form : Form) (input : List ℕ) (start : ℕ) (section : Section)
    (new : Option (List ℕ)) (after : ℕ) : Type 0 where
  pub rest : List ℕ
  pub left : new ≡ Some rest
  pub spelled : input ≡ section_text form section ++ rest
  pub fits : Fits form section
  pub place_is : after ≡ place_after start (length (section_text form section))

-- a header was read: its text begins the input, and exactly that text was taken
pub record ReadsHeader (input : List ℕ) (header : ℕ × ℕ) (new : Option (List ℕ)) : Type 0 where
  pub rest : List ℕ
  pub left : new ≡ Some rest
  pub spelled : input ≡ header_of header.0 header.1 ++ rest

-- the bytes are at fault
abbrev pub IsFormFault : CertFault → Type 0
IsFormFault (fault.Form place) = Unit {0}
IsFormFault fault.Read = ⊥
IsFormFault fault.Write = ⊥
IsFormFault (fault.OutOfMemory error) = ⊥

-- a read failed
abbrev pub IsReadFault : CertFault → Type 0
IsReadFault (fault.Form place) = ⊥
IsReadFault fault.Read = Unit {0}
IsReadFault fault.Write = ⊥
IsReadFault (fault.OutOfMemory error) = ⊥

-- memory ran out
abbrev pub IsOutOfMemory : CertFault → Type 0
IsOutOfMemory (fault.Form place) = ⊥
IsOutOfMemory fault.Read = ⊥
IsOutOfMemory fault.Write = ⊥
IsOutOfMemory (fault.OutOfMemory error) = Unit {0}
