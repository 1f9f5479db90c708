use Rattle.std.proofs.Common.{◌∙◌, ◌<◌, ◌^◌, ◌≡◌, ℕ, List, [], Some, ap, length, refl, subst, sym}
use Rattle.std.specs.Prelude.{slice_get}
use Rattle.std.specs.Option.{option_map}
use Rattle.tt_font.specs.Reading.{GlyphData, glyph_data}
use Rattle.hintcheck_programs.specs.FontPrograms.{cvt_subject, font_of, font_subject, glyph_subject}
use Rattle.hintcheck_programs.proofs.programs.Programs.next.Goals as goal

pub returns-in-Nothing-clause-some : goal.returns-in-Nothing-clause-some
returns-in-Nothing-clause-some g c = rw c.in-Nothing.is (
  font_subject c.args.self.now.font.now,
  refl,
  record {
    name = refl;
    bytes = sym c.fpgm.ensures;
    kind = λ is. refl;
    few = subst (λ (l : List ℕ). length l < 2 ^ 31) (sym c.fpgm.ensures) c.requires.fpgm.few;
  },
)

pub returns-in-Font-clause-some : goal.returns-in-Font-clause-some
returns-in-Font-clause-some g c = rw c.in-Font.is (
  cvt_subject c.args.self.now.font.now c.in-Font.field-0.program [],
  refl,
  record {
    name = refl;
    bytes = sym c.prep.ensures;
    kind = λ is. refl;
    few = subst (λ (l : List ℕ). length l < 2 ^ 31) (sym c.prep.ensures) c.requires.prep.few;
  },
)

pub returns-in_ok-glyph-in-Both-clause-some : goal.returns-in_ok-glyph-in-Both-clause-some
returns-in_ok-glyph-in-Both-clause-some g c =
    let d = c.args.self.now.font.now in
    let id = c.args.self.now.glyph in
    let glyph : GlyphData = glyph_data c.in_ok-glyph-in-Both.glyph in
    let font = font_of d c.in-Both.field-0 c.in-Both.field-1.program in
    let there : slice_get d.glyphs id ≡ Some glyph = sym c.glyph.ensures ∙ ap (option_map glyph_data) c.in_ok-glyph-in-Both.was in rw c.in-Both.is (
      glyph_subject font [] id glyph,
      ap (option_map (λ (h : GlyphData). glyph_subject font [] id h)) there,
      record { name = refl; bytes = refl; kind = λ is. refl; few = (c.requires.glyphs id glyph there).few },
    )
