-- The text of a font's certificate: a header, and the section of each program, in their order.
use Rattle.std.specs.Prelude.{◌≡◌, ℕ, ◌+◌, List, [], ◌∷◌, ◌++◌, Ok, Option, Some, length}
use Rattle.std.specs.Io.KnownBytes.{Appends}
use Rattle.tt_code.specs.Cut.{Instruction, size}
use Rattle.tt_code.specs.Fonts.{Font}
use Rattle.tt_abs.specs.declared.state.State.{State}
use Rattle.tt_family.specs.Contents.{Contents, family_of}
use Rattle.tt_family.specs.Ascending.{IsFinished}
use Rattle.tt_cert.specs.declared.form.Form.{Form}
use Rattle.tt_cert.specs.declared.form.Form.TheVariants.{Four}
use Rattle.tt_setting.specs.declared.name.Name.{Name}
use Rattle.tt_cert.specs.Rules.{Fits}
use Rattle.tt_cert.specs.Sections.{section_of}
use Rattle.tt_cert.specs.Text.{header_text, section_text}
use Rattle.tt_font.specs.Reading.{FontData, GlyphData}
use Rattle.tt_stream.specs.Streams.{AppendsBeginning}
use Rattle.hintcheck_certificates.specs.Certificates.{IsChecked}
use Rattle.hintcheck_programs.specs.FontPrograms.{cvt_subject, font_of, font_subject, glyph_subject}
use Rattle.hintcheck_programs.specs.Programs.{Subject}
use Rattle.hintcheck_programs.specs.FoundFamilies.{IsLeastListing}

-- what is asked of the family of a program with these instructions
abbrev pub Asked : Type 1
Asked = Subject → List Instruction → Contents → Type 0

-- The section's text of a program with this name and family, which has its contexts in order.
pub record IsTextOf (form : Form) (called : Name) (family : Contents) (text : List ℕ) : Type 0 where
  pub in_order : IsFinished family
  pub text_is : text ≡ section_text form (section_of called family)

-- The family of a font program or a CVT program is as required, this is its section's text, and
-- these functions are known where the program ends.
pub record IsEndedText (Is : Asked) (form : Form) (x : Subject) (instructions : List Instruction)
    (text : List ℕ) (functions : List (ℕ × ℕ)) : Type 0 where
  pub family : Contents
  pub is_asked : Is x instructions family
  pub text_of : IsTextOf form x.name family text
  pub end : State
  pub at_end : family_of family ([], size instructions) ≡ Some end
  pub functions_are : end.functions ≡ functions

-- The section's text of a program whose family is as required.
pub record IsGlyphText (Is : Asked) (form : Form) (x : Subject) (text : List ℕ) : Type 0 where
  pub instructions : List Instruction
  pub family : Contents
  pub is_asked : Is x instructions family
  pub text_of : IsTextOf form x.name family text

-- The texts of the glyph programs' sections from a number on, whose families are as required.
pub data AreGlyphTexts (Is : Asked) (form : Form) (font : Font) (functions : List (ℕ × ℕ)) : ℕ
    → List GlyphData → List ℕ → Type 0 where
  no_glyphs : (id : ℕ) → AreGlyphTexts Is form font functions id [] []
  one_more : (id : ℕ) (g : GlyphData) (gs : List GlyphData) (text rest : List ℕ)
      → IsGlyphText Is form (glyph_subject font functions id g) text
      → AreGlyphTexts Is form font functions (id + 1) gs rest
      → AreGlyphTexts Is form font functions id (g ∷ gs) (text ++ rest)

-- The bytes are a certificate of this form for the font, whose families are as required. The CVT
-- program starts with the functions that are known where the font program ends, and a glyph program
-- with those that are known where the CVT program ends.
pub record IsCertificate (Is : Asked) (form : Form) (d : FontData) (bytes : List ℕ) : Type 0 where
  pub font_program : List Instruction
  pub functions : List (ℕ × ℕ)
  pub font_text : List ℕ
  pub font : IsEndedText Is form (font_subject d) font_program font_text functions
  pub cvt_program : List Instruction
  pub known : List (ℕ × ℕ)
  pub cvt_text : List ℕ
  pub cvt : IsEndedText Is form (cvt_subject d font_program functions) cvt_program cvt_text known
  pub glyph_texts : List ℕ
  pub glyphs : AreGlyphTexts Is form
      (font_of d font_program cvt_program) known 0 d.glyphs glyph_texts
  pub text_is : bytes ≡ header_text form (length d.glyphs + 2)
      ++ (font_text ++ (cvt_text ++ glyph_texts))

-- a certificate with the least families
abbrev pub IsLeastCertificate : Form → FontData → List ℕ → Type 0
IsLeastCertificate form d bytes = IsCertificate IsLeastListing form d bytes

-- a certificate with the least families, by which the check of the font refuses nothing
abbrev pub IsPassingCertificate : FontData → List ℕ → Type 0
IsPassingCertificate d bytes = IsLeastCertificate Four d bytes × IsChecked d bytes (Ok [])

-- The family is as `IsLeastListing` says, and its section keeps the rules by which it is read.
-- (Representation: no public clause cites it.)
abbrev pub IsReadableListing : Subject → List Instruction → Contents → Type 0
IsReadableListing x instructions family =
    IsLeastListing x instructions family × Fits Four (section_of x.name family)

-- a text of which this holds is appended
abbrev pub WritesText : Option (List ℕ) → Option (List ℕ) → (List ℕ → Type 0) → Type 0
WritesText old new Is = (text : List ℕ) × Is text × Appends old new text

-- a beginning of a text of which this holds is appended
abbrev pub WritesBeginning : Option (List ℕ) → Option (List ℕ) → (List ℕ → Type 0) → Type 0
WritesBeginning old new Is = (text : List ℕ) × Is text × AppendsBeginning old new text
