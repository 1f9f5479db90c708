-- What an old certificate's bytes come to when it is upgraded, and the new certificate: one of form
-- 4 with the families that were read, under the same names.
use Rattle.std.specs.Prelude.{◌≡◌, ◌≢◌, ℕ, zero, suc, ◌+◌, ◌≤◌, ◌<◌, List, [], ◌∷◌, ◌++◌, Option, Result, Ok, Err, length}
use Rattle.std.specs.Io.KnownBytes.{Appends}
use Rattle.tt_stream.specs.Streams.{AppendsBeginning}
use Rattle.tt_family.specs.Contents.{Contents}
use Rattle.tt_cert.specs.Families.{family_text}
use Rattle.tt_cert.specs.declared.form.Form.{Form}
use Rattle.tt_cert.specs.declared.form.Form.TheVariants.{Four}
use Rattle.tt_setting.specs.declared.name.Name.{Name}
use Rattle.tt_setting.specs.declared.name.Name.TheVariants as name
use Rattle.tt_cert.specs.Readers.{Answer, Input}
use Rattle.tt_cert.specs.Reading.{header_at}
use Rattle.tt_cert.specs.Text.{header_text}
use Rattle.hintcheck_certificates.specs.Certificates.{HasNoSection, IsSectionOf, after_header}

-- the program whose section has this number: `f`, `p`, `g0`, `g1` and so on
abbrev pub name_at : ℕ → Name
name_at zero = name.Font
name_at (suc zero) = name.Cvt
name_at (suc (suc id)) = name.Glyph id

-- The sections of the programs from this number on can be read one after the other, and they list
-- these families.
pub data AreRead (form : Form) : ℕ → Input → List Contents → Input → Type 0 where
  none : (number : ℕ) (i : Input) → AreRead form number i [] i
  one_more : (number : ℕ) (i after end : Input) (family : Contents) (others : List Contents)
      → IsSectionOf form i (name_at number) family after
      → AreRead form (number + 1) after others end → AreRead form number i (family ∷ others) end

-- what the header of these bytes tells, with the input after it
abbrev pub header_in : List ℕ → Answer (Form × ℕ)
header_in bytes = header_at (record { place = 0; bytes = bytes })

-- A font may have this many programs: the font program, the CVT program and those of at most 65,535
-- glyphs.
pub record IsNumberOfPrograms (count : ℕ) : Type 0 where
  pub some : 2 ≤ count
  pub few : count ≤ 65537

-- The bytes begin with the header of a certificate for this many programs and with the sections of
-- these families, and reading goes on after them.
pub record BeginWith (bytes : List ℕ) (form : Form) (count : ℕ) (families : List Contents)
    (at : Input) : Type 0 where
  pub after : Input
  pub header : header_in bytes ≡ Ok ((form, count), after)
  pub programs : IsNumberOfPrograms count
  pub are_read : AreRead form 0 (after_header after.bytes) families at
  pub few : length families ≤ count

-- The bytes are a certificate of some form that lists these families, each under the name of the
-- program whose turn it is, and nothing else.
pub record AreCertificate (bytes : List ℕ) (families : List Contents) : Type 0 where
  pub form : Form
  pub end : Input
  pub begin : BeginWith bytes form (length families) families end
  pub ended : end.bytes ≡ []

-- How many sections a certificate in these bytes has; or the place at which the bytes are no
-- certificate of any font.
pub data UpgradesTo (bytes : List ℕ) : Result ℕ ℕ → Type 0 where
  upgraded : (families : List Contents) → AreCertificate bytes families
      → UpgradesTo bytes (Ok (length families))
  no_header : (place : ℕ) → header_in bytes ≡ Err place → UpgradesTo bytes (Err place)
  no_font : (form : Form) (count : ℕ) (after : Input) → header_in bytes ≡ Ok ((form, count), after)
      → (IsNumberOfPrograms count → ⊥) → UpgradesTo bytes (Err 6)
  no_section : (form : Form) (count : ℕ) (families : List Contents) (at : Input) (place : ℕ)
      → BeginWith bytes form count families at → length families < count
      → HasNoSection form at (name_at (length families)) place → UpgradesTo bytes (Err place)
  followed : (form : Form) (families : List Contents) (at : Input)
      → BeginWith bytes form (length families) families at → at.bytes ≢ []
      → UpgradesTo bytes (Err at.place)

-- the texts in form 4 of the names of the programs from this number on with these families
abbrev pub family_texts : ℕ → List Contents → List ℕ
family_texts number [] = []
family_texts number (family ∷ others) =
    family_text Four (name_at number) family ++ family_texts (number + 1) others

-- The text is the certificate of form 4 with the families that the bytes list, under the same names
-- and in the same order.
pub record IsUpgradeOf (bytes text : List ℕ) : Type 0 where
  pub families : List Contents
  pub old : AreCertificate bytes families
  pub text_is : text ≡ header_text Four (length families) ++ family_texts 0 families

-- The old and the new certificate list the same families, under the same names and in the same
-- order.
pub record KeepsFamilies (old new : List ℕ) : Type 0 where
  pub families : List Contents
  pub before : AreCertificate old families
  pub after : AreCertificate new families

-- The text is as much of such a certificate as can be made of what was read: nothing; or the header
-- and the texts of the first families.
pub data IsUpgradeBegunOf (bytes : List ℕ) : List ℕ → Type 0 where
  nothing : IsUpgradeBegunOf bytes []
  begun : (form : Form) (count : ℕ) (families : List Contents) (at : Input)
      → BeginWith bytes form count families at
      → IsUpgradeBegunOf bytes (header_text Four count ++ family_texts 0 families)

-- This many families were read from that of a number on, and their texts written in form 4.
-- (Representation: no public clause cites it.)
pub record AreUpgraded (form : Form) (number count : ℕ) (from at : Input)
    (old new : Option (List ℕ)) : Type 0 where
  pub families : List Contents
  pub are_read : AreRead form number from families at
  pub all : length families ≡ count
  pub written : Appends old new (family_texts number families)

-- At most this many were read, and a beginning of their texts was written. (Representation: no
-- public clause cites it.)
pub record AreBegun (form : Form) (number count : ℕ) (from : Input)
    (old new : Option (List ℕ)) : Type 0 where
  pub families : List Contents
  pub at : Input
  pub are_read : AreRead form number from families at
  pub few : length families ≤ count
  pub written : AppendsBeginning old new (family_texts number families)

-- One of this many sections isn't there, and the place of what is wrong. (Representation: no public
-- clause cites it.)
pub record LackSection (form : Form) (number count : ℕ) (from : Input) (place : ℕ) : Type 0 where
  pub families : List Contents
  pub at : Input
  pub are_read : AreRead form number from families at
  pub few : length families < count
  pub absent : HasNoSection form at (name_at (number + length families)) place
