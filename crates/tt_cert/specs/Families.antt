-- The texts of programs' names with their families.
use Rattle.std.specs.Prelude.{ℕ, List}
use Rattle.tt_family.specs.Ascending.{IsFinished}
use Rattle.tt_family.specs.Contents.{Contents}
use Rattle.tt_cert.specs.declared.form.Form.{Form}
use Rattle.tt_setting.specs.declared.name.Name.{Name}
use Rattle.tt_cert.specs.Rules.{Fits}
use Rattle.tt_cert.specs.Sections.{section_of}
use Rattle.tt_cert.specs.Text.{section_text}

-- A name with a family has a text of this form: the family's contexts are in order, its numbers fit
-- the fields, and the rules of a section are kept.
pub record HasText (form : Form) (name : Name) (family : Contents) : Type 0 where
  pub finished : IsFinished family
  pub fits : Fits form (section_of name family)

-- the text of a name with a family
abbrev pub family_text : Form → Name → Contents → List ℕ
family_text form name family = section_text form (section_of name family)
