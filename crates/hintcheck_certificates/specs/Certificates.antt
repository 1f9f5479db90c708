-- What a check of a font by a certificate comes to. A certificate has a header, then a section for
-- each program of the font, in their order.
use Rattle.std.specs.Prelude.{◌≡◌, ◌≢◌, ℕ, ◌+◌, List, [], ◌∷◌, Some, Result, Ok, Err, length}
use Rattle.tt_code.specs.Cut.{Instruction, IsCut, CannotBeCut, size}
use Rattle.tt_code.specs.Fonts.{Font}
use Rattle.tt_code.specs.Grammar.{IsFault}
use Rattle.tt_code.specs.Settings.{Setting}
use Rattle.tt_code.specs.declared.reason.Reason.{Reason}
use Rattle.tt_code.specs.declared.reason.Reason.TheVariants as reason
use Rattle.tt_abs.specs.declared.state.State.{State}
use Rattle.tt_abs.specs.StateFlow.{Place}
use Rattle.tt_family.specs.Checks.{IsBrokenFirst, IsFillingBrokenFirst, saturated_offset}
use Rattle.tt_family.specs.Contents.{Contents, family_of}
use Rattle.tt_family.specs.Fillings.{HasGoodFilling}
use Rattle.tt_family.specs.GoodFamilies.{IsGoodFamily}
use Rattle.tt_family.specs.Ascending.{IsFinished}
use Rattle.tt_setting.specs.Spots.{spot_of}
use Rattle.tt_cert.specs.declared.form.Form.{Form}
use Rattle.tt_cert.specs.declared.form.Form.TheVariants.{One, Two, Three, Four}
use Rattle.tt_setting.specs.declared.name.Name.{Name}
use Rattle.tt_setting.specs.declared.name.Name.TheVariants as name
use Rattle.tt_cert.specs.Readers.{Input}
use Rattle.tt_cert.specs.Reading.{header_at, section_at}
use Rattle.tt_cert.specs.Sections.{Section, section_of}
use Rattle.tt_font.specs.Reading.{FontData, GlyphData}
use Rattle.hintcheck_report.specs.declared.refused.Refused.{Refused}
use Rattle.hintcheck_programs.specs.FontPrograms.{cvt_subject, font_of, font_subject, glyph_subject}
use Rattle.hintcheck_programs.specs.Programs.{IsCutInto, Subject}
use Rattle.hintcheck_report.specs.Places.{program_at}

-- A family is good, as a certificate of this form lists it: form 1 lists each state, the others may
-- leave out those that a filling adds.
abbrev pub IsGoodListing : Form → Setting → List (ℕ × ℕ) → Contents → Type 0
IsGoodListing One s functions family = IsGoodFamily s functions (family_of family)
IsGoodListing Two s functions family = HasGoodFilling s functions (family_of family)
IsGoodListing Three s functions family = HasGoodFilling s functions (family_of family)
IsGoodListing Four s functions family = HasGoodFilling s functions (family_of family)

-- what is broken first of a family that isn't good
abbrev pub IsListingBrokenFirst : Form → Setting → List (ℕ × ℕ) → Contents → Place → Reason → Type 0
IsListingBrokenFirst One s functions family = IsBrokenFirst s functions family
IsListingBrokenFirst Two s functions family = IsFillingBrokenFirst s functions family
IsListingBrokenFirst Three s functions family = IsFillingBrokenFirst s functions family
IsListingBrokenFirst Four s functions family = IsFillingBrokenFirst s functions family

-- The program has these instructions, and the family is good for it.
pub record Passes (form : Form) (x : Subject) (instructions : List Instruction)
    (family : Contents) : Type 0 where
  pub cut : IsCutInto x instructions
  pub good : IsGoodListing form (x.setting instructions) x.functions family

-- The program passes so, and these functions are known where it ends.
pub record PassesToEnd (form : Form) (x : Subject) (instructions : List Instruction)
    (family : Contents) (functions : List (ℕ × ℕ)) : Type 0 where
  pub passes : Passes form x instructions family
  pub end : State
  pub at_end : family_of family ([], size instructions) ≡ Some end
  pub functions_are : end.functions ≡ functions

-- Why a program that is checked by a family is refused, where, and the offset that is reported of
-- it: it can't be cut; its structure is at fault; the family isn't good, and an offset of more than
-- 32 bits is reported as the greatest number of 32 bits.
pub data IsBreak (form : Form) (x : Subject) (family : Contents) : Place → ℕ → Reason → Type 0 where
  no_cut : (offset : ℕ) → CannotBeCut x.bytes offset
      → IsBreak form x family ([], offset) offset reason.CannotCut
  no_structure : (instructions : List Instruction) (offset : ℕ) → IsCut x.bytes instructions
      → IsFault instructions offset
      → IsBreak form x family ([], offset) offset reason.Structure
  not_good : (instructions : List Instruction) (p : Place) (r : Reason) → IsCutInto x instructions
      → IsListingBrokenFirst form (x.setting instructions) x.functions family p r
      → IsBreak form x family p (saturated_offset p.1) r

-- The program is refused: the first break is named with its place, and it doesn't pass.
pub record IsCheckRefusal (form : Form) (x : Subject) (family : Contents)
    (r : Refused) : Type 0 where
  pub program : r.program ≡ x.name
  pub at : Place
  pub spot : r.place.program ≡ program_at x.name (spot_of at.0)
  pub broken : IsBreak form x family at r.place.offset r.reason
  pub not_passed : (instructions : List Instruction) → Passes form x instructions family → ⊥

-- The section of this program is read, which lists this family, with its contexts in order.
pub record IsSectionOf (form : Form) (i : Input) (called : Name) (family : Contents)
    (after : Input) : Type 0 where
  pub in_order : IsFinished family
  pub is_read : section_at form i ≡ Ok (section_of called family, after)

-- There is no section of this program, and the place of what is wrong: no section can be read; or
-- the one that is read is another program's.
pub data HasNoSection (form : Form) (i : Input) (called : Name) : ℕ → Type 0 where
  not_read : (place : ℕ) → section_at form i ≡ Err place → HasNoSection form i called place
  of_another : (s : Section) (after : Input) → section_at form i ≡ Ok (s, after) → s.name ≢ called
      → HasNoSection form i called i.place

-- what a check comes to: the refused programs, or the place at which the bytes are no certificate
-- for the font
abbrev pub Finding : Type 0
Finding = Result (List Refused) ℕ

-- a refused program, and then the others
abbrev pub refused_before : Refused → Finding → Finding
refused_before r (Ok rs) = Ok (r ∷ rs)
refused_before r (Err place) = Err place

-- The glyph programs from a number on, each checked by its section, and then the end of the
-- certificate.
pub data AreChecked (form : Form) (font : Font) (functions : List (ℕ × ℕ)) : ℕ → List GlyphData
    → Input → Finding → Type 0 where
  at_end : (id : ℕ) (i : Input) → i.bytes ≡ [] → AreChecked form font functions id [] i (Ok [])
  followed : (id : ℕ) (i : Input) → i.bytes ≢ []
      → AreChecked form font functions id [] i (Err i.place)
  no_section : (id : ℕ) (g : GlyphData) (gs : List GlyphData) (i : Input) (place : ℕ)
      → HasNoSection form i (name.Glyph id) place
      → AreChecked form font functions id (g ∷ gs) i (Err place)
  passed : (id : ℕ) (g : GlyphData) (gs : List GlyphData) (i after : Input) (family : Contents)
      (instructions : List Instruction) (finding : Finding)
      → IsSectionOf form i (name.Glyph id) family after
      → Passes form (glyph_subject font functions id g) instructions family
      → AreChecked form font functions (id + 1) gs after finding
      → AreChecked form font functions id (g ∷ gs) i finding
  refused : (id : ℕ) (g : GlyphData) (gs : List GlyphData) (i after : Input) (family : Contents)
      (r : Refused) (finding : Finding)
      → IsSectionOf form i (name.Glyph id) family after
      → IsCheckRefusal form (glyph_subject font functions id g) family r
      → AreChecked form font functions (id + 1) gs after finding
      → AreChecked form font functions id (g ∷ gs) i (refused_before r finding)

-- The sections of a font's programs: a refused font program or CVT program ends the check, a
-- refused glyph program doesn't.
pub data AreSectionsChecked (d : FontData) (form : Form) (i : Input) : Finding → Type 0 where
  no_font_section : (place : ℕ) → HasNoSection form i name.Font place
      → AreSectionsChecked d form i (Err place)
  font_refused : (family : Contents) (after : Input) (r : Refused)
      → IsSectionOf form i name.Font family after
      → IsCheckRefusal form (font_subject d) family r → AreSectionsChecked d form i (Ok (r ∷ []))
  no_cvt_section : (family : Contents) (after : Input) (f : List Instruction)
      (functions : List (ℕ × ℕ)) (place : ℕ) → IsSectionOf form i name.Font family after
      → PassesToEnd form (font_subject d) f family functions
      → HasNoSection form after name.Cvt place → AreSectionsChecked d form i (Err place)
  cvt_refused : (family other : Contents) (after end : Input) (f : List Instruction)
      (functions : List (ℕ × ℕ)) (r : Refused) → IsSectionOf form i name.Font family after
      → PassesToEnd form (font_subject d) f family functions
      → IsSectionOf form after name.Cvt other end
      → IsCheckRefusal form (cvt_subject d f functions) other r
      → AreSectionsChecked d form i (Ok (r ∷ []))
  both_passed : (family other : Contents) (after end : Input) (f p : List Instruction)
      (functions known : List (ℕ × ℕ)) (glyphs : Finding)
      → IsSectionOf form i name.Font family after
      → PassesToEnd form (font_subject d) f family functions
      → IsSectionOf form after name.Cvt other end
      → PassesToEnd form (cvt_subject d f functions) p other known
      → AreChecked form (font_of d f p) known 0 d.glyphs end glyphs
      → AreSectionsChecked d form i glyphs

-- where the sections begin, after the header
abbrev pub after_header : List ℕ → Input
after_header bytes = record { place = 10; bytes = bytes }

-- The check of a font by these bytes: the header, with as many sections as the font has programs,
-- and the sections.
pub data IsChecked (d : FontData) (bytes : List ℕ) : Finding → Type 0 where
  no_header : (place : ℕ) → header_at (record { place = 0; bytes = bytes }) ≡ Err place
      → IsChecked d bytes (Err place)
  other_number : (form : Form) (sections : ℕ) (after : Input)
      → header_at (record { place = 0; bytes = bytes }) ≡ Ok ((form, sections), after)
      → sections ≢ length d.glyphs + 2 → IsChecked d bytes (Err 6)
  sections_checked : (form : Form) (after : Input) (finding : Finding)
      → header_at (record { place = 0; bytes = bytes }) ≡ Ok ((form, length d.glyphs + 2), after)
      → AreSectionsChecked d form (after_header after.bytes) finding → IsChecked d bytes finding
