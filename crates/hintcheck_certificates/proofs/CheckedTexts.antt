-- The check of a font by the text of its certificate.
use Rattle.std.proofs.Common.{◌≡◌, ℕ, ◌+◌, ◌^◌, ◌<◌, List, [], ◌++◌, length, Ok, refl, sym, subst, arith}
use Rattle.tt_code.specs.Cut.{Instruction}
use Rattle.tt_code.specs.Fonts.{Font}
use Rattle.tt_family.specs.Contents.{Contents}
use Rattle.tt_cert.specs.declared.form.Form.TheVariants.{Four}
use Rattle.tt_setting.specs.declared.name.Name.{Name}
use Rattle.tt_setting.specs.declared.name.Name.TheVariants as name
use Rattle.tt_cert.specs.Readers.{place_after}
use Rattle.tt_cert.specs.Reading.{header_at, section_at}
use Rattle.tt_cert.specs.Rules.{Fits}
use Rattle.tt_cert.specs.Sections.{section_of}
use Rattle.tt_cert.specs.Text.{header_text}
use Rattle.tt_cert.proofs.Codecs.{here}
use Rattle.tt_cert.proofs.Spelled.{header_codec, section_codec}
use Rattle.tt_font.specs.Reading.{FontData, GlyphData}
use Rattle.hintcheck_certificates.specs.Certificates.{AreChecked, AreSectionsChecked, IsChecked, IsSectionOf, Passes, PassesToEnd, after_header, at_end, both_passed, passed, sections_checked}
use Rattle.hintcheck_certificates.specs.CertificateTexts.{AreGlyphTexts, IsCertificate, IsEndedText, IsPassingCertificate, IsReadableListing, IsTextOf, no_glyphs, one_more}
use Rattle.hintcheck_programs.specs.FoundFamilies.{IsLeastListing}
use Rattle.hintcheck_programs.specs.FontPrograms.{cvt_subject, font_of, font_subject, glyph_subject}
use Rattle.hintcheck_programs.specs.Programs.{Subject}

-- programs

section_there : (called : Name) (family : Contents) (text rest : List ℕ) (place : ℕ) → IsTextOf Four called family text → Fits Four (section_of called family) → place < 2 ^ 64
    → IsSectionOf Four (here place (text ++ rest)) called family (here (place_after place (length text)) rest)
section_there called family text rest place is fits lt =
    let S : List ℕ → Type 0 = λ t. section_at Four (here place (t ++ rest)) ≡ Ok (section_of called family, here (place_after place (length t)) rest) in
    record { in_order = is.in_order; is_read = subst S (sym is.text_is) ((section_codec Four).again (section_of called family) place rest fits lt) }

passes_least : (x : Subject) (is : List Instruction) (family : Contents) → IsLeastListing x is family → Passes Four x is family
passes_least x is family least = let accepted = least.0 in record { cut = accepted.cut; good = (accepted.filling, accepted.fills, accepted.good) }

ended_passes : (x : Subject) (is : List Instruction) (text : List ℕ) (functions : List (ℕ × ℕ)) (t : IsEndedText IsReadableListing Four x is text functions)
    → PassesToEnd Four x is t.family functions
ended_passes x is text functions t = record { passes = passes_least x is t.family t.is_asked.0; end = t.end; at_end = t.at_end; functions_are = t.functions_are }

-- glyph programs

glyphs_pass : (font : Font) (functions : List (ℕ × ℕ)) (id : ℕ) (gs : List GlyphData) (text : List ℕ) (place : ℕ) → AreGlyphTexts IsReadableListing Four font functions id gs text
    → place < 2 ^ 64 → AreChecked Four font functions id gs (here place text) (Ok [])
glyphs_pass font functions id gs text place (no_glyphs n) lt = at_end n (here place []) refl
glyphs_pass font functions id gs text place (one_more n g others one rest t more) lt =
    let section = section_there (name.Glyph n) t.family one rest place t.text_of t.is_asked.1 lt in
    passed n g others (here place (one ++ rest)) (here (place_after place (length one)) rest) t.family t.instructions (Ok []) section
    (passes_least (glyph_subject font functions n g) t.instructions t.family t.is_asked.0)
    (glyphs_pass font functions (n + 1) others rest (place_after place (length one)) more (omega arith))

-- the whole certificate

header_there : (n : ℕ) (rest : List ℕ) → n < 2 ^ 32 → header_at (here 0 (header_text Four n ++ rest)) ≡ Ok ((Four, n), here (place_after 0 (length (header_text Four n))) rest)
header_there n rest lt = header_codec.again (Four, n) 0 rest lt (omega arith)

pub certificate_passes : (d : FontData) (bytes : List ℕ) → length d.glyphs + 2 < 2 ^ 32 → IsCertificate IsReadableListing Four d bytes → IsChecked d bytes (Ok [])
certificate_passes d bytes lt t =
    let others : List ℕ = t.cvt_text ++ t.glyph_texts in
    let rest : List ℕ = t.font_text ++ others in
    let n : ℕ = length d.glyphs + 2 in
    let after : ℕ = place_after 10 (length t.font_text) in
    let end : ℕ = place_after after (length t.cvt_text) in
    let font = section_there name.Font t.font.family t.font_text others 10 t.font.text_of t.font.is_asked.1 (omega arith) in
    let cvt = section_there name.Cvt t.cvt.family t.cvt_text t.glyph_texts after t.cvt.text_of t.cvt.is_asked.1 (omega arith) in
    let glyphs = glyphs_pass (font_of d t.font_program t.cvt_program) t.known 0 d.glyphs t.glyph_texts end t.glyphs (omega arith) in
    let sections : AreSectionsChecked d Four (after_header rest) (Ok []) =
    both_passed t.font.family t.cvt.family (here after others) (here end t.glyph_texts) t.font_program t.cvt_program t.functions t.known (Ok []) font
    (ended_passes (font_subject d) t.font_program t.font_text t.functions t.font) cvt
    (ended_passes (cvt_subject d t.font_program t.functions) t.cvt_program t.cvt_text t.known t.cvt) glyphs in
    subst (λ (l : List ℕ). IsChecked d l (Ok [])) (sym t.text_is)
    (sections_checked Four (here (place_after 0 (length (header_text Four n))) rest) (Ok []) (header_there n rest lt) sections)

-- it has the least families

least_ended : (x : Subject) (is : List Instruction) (text : List ℕ) (functions : List (ℕ × ℕ)) → IsEndedText IsReadableListing Four x is text functions
    → IsEndedText IsLeastListing Four x is text functions
least_ended x is text functions t =
    record { family = t.family; is_asked = t.is_asked.0; text_of = t.text_of; end = t.end; at_end = t.at_end; functions_are = t.functions_are }

least_glyphs : (font : Font) (functions : List (ℕ × ℕ)) (id : ℕ) (gs : List GlyphData) (text : List ℕ) → AreGlyphTexts IsReadableListing Four font functions id gs text
    → AreGlyphTexts IsLeastListing Four font functions id gs text
least_glyphs font functions id gs text (no_glyphs n) = no_glyphs n
least_glyphs font functions id gs text (one_more n g others one rest t more) =
    one_more n g others one rest (record { instructions = t.instructions; family = t.family; is_asked = t.is_asked.0; text_of = t.text_of })
    (least_glyphs font functions (n + 1) others rest more)

pub is_passing : (d : FontData) (bytes : List ℕ) → length d.glyphs + 2 < 2 ^ 32 → IsCertificate IsReadableListing Four d bytes → IsPassingCertificate d bytes
is_passing d bytes lt t = (
  record {
    font_program = t.font_program;
    functions = t.functions;
    font_text = t.font_text;
    font = least_ended (font_subject d) t.font_program t.font_text t.functions t.font;
    cvt_program = t.cvt_program;
    known = t.known;
    cvt_text = t.cvt_text;
    cvt = least_ended (cvt_subject d t.font_program t.functions) t.cvt_program t.cvt_text t.known t.cvt;
    glyph_texts = t.glyph_texts;
    glyphs = least_glyphs (font_of d t.font_program t.cvt_program) t.known 0 d.glyphs t.glyph_texts t.glyphs;
    text_is = t.text_is;
  },
  certificate_passes d bytes lt t,
)
