-- An old certificate by which a font is accepted, and the new one, by which it is accepted too.
use Rattle.std.proofs.Common.{◌≡◌, ℕ, ℤ, suc, ◌+◌, ◌^◌, ◌<◌, ◌≤◌, List, [], ◌∷◌, ◌++◌, length, Option, Some, None, Result, Ok, Err, refl, sym, ap, subst, ◌∙◌, arith}
use Rattle.std.specs.Prelude.{IfOk}
use Rattle.tt_code.specs.Cut.{Instruction}
use Rattle.tt_code.specs.Fonts.{Font}
use Rattle.tt_code.specs.Settings.{Setting}
use Rattle.tt_abs.specs.StateFlow.{Place}
use Rattle.tt_abs.specs.declared.state.State.{State}
use Rattle.tt_family.specs.Contents.{Contents, family_of}
use Rattle.tt_family.specs.Fillings.{IsFilling}
use Rattle.tt_cert.specs.Answers.{AreBytes}
use Rattle.tt_cert.specs.Forms.{most_contexts}
use Rattle.tt_cert.specs.Readers.{Input, place_after}
use Rattle.tt_cert.specs.Rules.{EachAfter, EntryFits, Fits, ListFits, StorageFits, StoredFits}
use Rattle.tt_cert.specs.Families.{family_text}
use Rattle.tt_cert.specs.Sections.{Entry, Section, section_of}
use Rattle.tt_cert.specs.Text.{header_text, section_text}
use Rattle.tt_cert.specs.declared.form.Form.{Form}
use Rattle.tt_cert.specs.declared.form.Form.TheVariants.{One, Two, Three, Four}
use Rattle.tt_setting.specs.declared.name.Name.{Name}
use Rattle.tt_setting.specs.declared.name.Name.TheVariants as name
use Rattle.tt_cert.proofs.Codecs.{here}
use Rattle.tt_cert.proofs.Spelled.{header_codec, section_codec}
use Rattle.tt_font.specs.Reading.{FontData, GlyphData}
use Rattle.hintcheck_certificates.specs.Certificates.{AreChecked, AreSectionsChecked, Finding, HasNoSection, IsChecked, IsGoodListing, IsSectionOf, Passes, PassesToEnd, after_header, at_end, both_passed, cvt_refused, followed as followed_by, font_refused, no_cvt_section, no_font_section, no_header as no_header_there, no_section as no_section_there, other_number, passed, refused, sections_checked}
use Rattle.hintcheck_programs.specs.FontPrograms.{cvt_subject, font_of, font_subject, glyph_subject}
use Rattle.hintcheck_programs.specs.Programs.{Subject}
use Rattle.hintcheck_certificates.specs.CertificateFaults.{ComesTo}
use Rattle.tt_setting.specs.declared.cert_fault.CertFault.{CertFault}
use Rattle.tt_setting.specs.declared.cert_fault.CertFault.TheVariants as cert
use Rattle.hintcheck_certificates.specs.Upgrades.{AreCertificate, AreRead, BeginWith, IsUpgradeOf, KeepsFamilies, UpgradesTo, family_texts, followed, header_in, name_at, no_font, no_header, no_section, none, one_more, upgraded}
use Rattle.hintcheck_certificates.proofs.OneFinding.{fails_not, is_there, no_answer, none as nothing, one_answer, one_refuses, one_section, some_refused}

-- a good family is its own good filling

own_filling : (s : Setting) (family : Place → Option State) → IsFilling s family family
own_filling s family = record {
  keeps = λ p a e. e;
  added = λ q t e absent. absurd (some_not t (sym e ∙ absent));
}
  where
    some_not : (t : State) → ◌≡◌ {A = Option State} (Some t) None → ⊥
    some_not t e = cc

good_newest : (form : Form) (s : Setting) (functions : List (ℕ × ℕ)) (family : Contents) → IsGoodListing form s functions family → IsGoodListing Four s functions family
good_newest One s functions family good = (family_of family, own_filling s (family_of family), good)
good_newest Two s functions family good = good
good_newest Three s functions family good = good
good_newest Four s functions family good = good

passes_newest : (form : Form) (x : Subject) (is : List Instruction) (family : Contents) → Passes form x is family → Passes Four x is family
passes_newest form x is family p = record { cut = p.cut; good = good_newest form (x.setting is) x.functions family p.good }

ends_newest : (form : Form) (x : Subject) (is : List Instruction) (family : Contents) (functions : List (ℕ × ℕ)) → PassesToEnd form x is family functions → PassesToEnd Four x is family functions
ends_newest form x is family functions p = record { passes = passes_newest form x is family p.passes; end = p.end; at_end = p.at_end; functions_are = p.functions_are }

-- what fits a form fits the newest one

contexts_newest : (form : Form) (n : ℕ) → n ≤ most_contexts form → n ≤ most_contexts Four
contexts_newest One n le = omega arith
contexts_newest Two n le = omega arith
contexts_newest Three n le = omega arith
contexts_newest Four n le = le

no_storage : (cells : List (ℕ × ℤ)) → cells ≡ [] → ListFits StoredFits cells
no_storage cells e = subst (ListFits StoredFits) (sym e) (record { few = omega arith; each = tt })

storage_newest : (form : Form) (cells : List (ℕ × ℤ)) → StorageFits form cells → StorageFits Four cells
storage_newest One cells e = no_storage cells e
storage_newest Two cells e = no_storage cells e
storage_newest Three cells h = h
storage_newest Four cells h = h

states_newest : (form : Form) (n : ℕ) (before states : List Entry) → EachAfter (EntryFits form n) before states → EachAfter (EntryFits Four n) before states
states_newest form n before [] h = tt
states_newest form n before (e ∷ es) h =
    let s = h.0.state in (
      record { point = h.0.point; state = record { stack = s.stack; graphics = s.graphics; functions = s.functions; storage = storage_newest form e.1.storage s.storage } },
      states_newest form n (before ++ e ∷ []) es h.1,
    )

fits_newest : (form : Form) (s : Section) → Fits form s → Fits Four s
fits_newest form s h = record {
  name = h.name;
  few_contexts = contexts_newest form (length s.contexts) h.few_contexts;
  contexts = h.contexts;
  few_states = h.few_states;
  states = states_newest form (length s.contexts + 1) [] s.states h.states;
}

-- a section that is read can be read from its text in the newest form

pub record IsReadAnew (called : Name) (family : Contents) (after : Input) : Type 0 where
  pub bytes : AreBytes after.bytes
  pub place : after.place < 2 ^ 64
  pub anew : (at : ℕ) (rest : List ℕ) → at < 2 ^ 64
      → IsSectionOf Four (here at (section_text Four (section_of called family) ++ rest)) called family (here (place_after at (length (section_text Four (section_of called family)))) rest)

read_anew : (form : Form) (i after : Input) (called : Name) (family : Contents) → IsSectionOf form i called family after → AreBytes i.bytes → i.place < 2 ^ 64 → IsReadAnew called family after
read_anew form i after called family section bytes lt =
    let s : Section = section_of called family in
    let t = (section_codec form).takes i s after section.is_read bytes lt in
    let fits = fits_newest form s t.1 in
    record {
      bytes = t.2;
      place = omega (arith, t.0.place);
      anew = λ at rest below. record { in_order = section.in_order; is_read = (section_codec Four).again s at rest fits below };
    }

-- glyph programs

pub record AreAllRead (form : Form) (font : Font) (functions : List (ℕ × ℕ)) (id : ℕ) (gs : List GlyphData) (i : Input) : Type 0 where
  pub families : List Contents
  pub end : Input
  pub are_read : AreRead form (suc (suc id)) i families end
  pub all : length families ≡ length gs
  pub ended : end.bytes ≡ []
  pub anew : (at : ℕ) → at < 2 ^ 64 → AreChecked Four font functions id gs (here at (family_texts (suc (suc id)) families)) (Ok [])

all_read : (form : Form) (font : Font) (functions : List (ℕ × ℕ)) (id : ℕ) (gs : List GlyphData) (i : Input) (f : Finding) → AreChecked form font functions id gs i f → f ≡ nothing
    → AreBytes i.bytes → i.place < 2 ^ 64 → AreAllRead form font functions id gs i
all_read form font functions id gs i f (at_end n j ended) e bytes lt =
    record { families = []; end = j; are_read = none (suc (suc n)) j; all = refl; ended = ended; anew = λ at below. at_end n (here at []) refl }
all_read form font functions id gs i f (followed_by n j more) e bytes lt = absurd (fails_not j.place e)
all_read form font functions id gs i f (no_section_there n x xs j place absent) e bytes lt = absurd (fails_not place e)
all_read form font functions id gs i f (refused n x xs j after family r finding section refusal rest) e bytes lt = absurd (some_refused r finding e)
all_read form font functions id gs i f (passed n x xs j after family is finding section passes rest) e bytes lt =
    let text : List ℕ = family_text Four (name.Glyph n) family in
    let read = read_anew form j after (name.Glyph n) family section bytes lt in
    let others = all_read form font functions (n + 1) xs after finding rest e read.bytes read.place in
    let number : suc (suc (n + 1)) ≡ suc (suc n) + 1 = omega arith in
    let A : ℕ → Type 0 = λ m. AreRead form m after others.families others.end in
    record {
      families = family ∷ others.families;
      end = others.end;
      are_read = one_more (suc (suc n)) j after others.end family others.families section (subst A number others.are_read);
      all = ap suc others.all;
      ended = others.ended;
      anew = λ at below.
          let next : ℕ = place_after at (length text) in
          let left : List ℕ = family_texts (suc (suc n) + 1) others.families in
          let C : ℕ → Type 0 = λ m. AreChecked Four font functions (n + 1) xs (here next (family_texts m others.families)) (Ok []) in
          passed n x xs (here at (text ++ left)) (here next left) family is (Ok [])
          (read.anew at left below) (passes_newest form (glyph_subject font functions n x) is family passes)
          (subst C number (others.anew next (omega arith)));
    }

-- the sections of a font's programs

pub record AreSectionsRead (d : FontData) (form : Form) (i : Input) : Type 0 where
  pub families : List Contents
  pub end : Input
  pub are_read : AreRead form 0 i families end
  pub all : length families ≡ length d.glyphs + 2
  pub ended : end.bytes ≡ []
  pub anew : AreSectionsChecked d Four (after_header (family_texts 0 families)) (Ok [])

sections_read : (d : FontData) (form : Form) (i : Input) (f : Finding) → AreSectionsChecked d form i f → f ≡ nothing → AreBytes i.bytes → i.place < 2 ^ 64 → AreSectionsRead d form i
sections_read d form i f (no_font_section place absent) e bytes lt = absurd (fails_not place e)
sections_read d form i f (font_refused family after r section refusal) e bytes lt = absurd (one_refuses r e)
sections_read d form i f (no_cvt_section family after fi functions place section passes absent) e bytes lt = absurd (fails_not place e)
sections_read d form i f (cvt_refused family other after end fi functions r section passes next refusal) e bytes lt = absurd (one_refuses r e)
sections_read d form i f (both_passed family other after end fi pi functions known glyphs section passes next passes_too checked) e bytes lt =
    let s : List ℕ = family_text Four name.Font family in
    let t : List ℕ = family_text Four name.Cvt other in
    let read = read_anew form i after name.Font family section bytes lt in
    let read_too = read_anew form after end name.Cvt other next read.bytes read.place in
    let others = all_read form (font_of d fi pi) known 0 d.glyphs end glyphs checked e read_too.bytes read_too.place in
    let rest : List ℕ = family_texts 2 others.families in
    let after_font : ℕ = place_after 10 (length s) in
    let after_cvt : ℕ = place_after after_font (length t) in
    let all = others.all in
    record {
      families = family ∷ (other ∷ others.families);
      end = others.end;
      are_read = one_more 0 i after others.end family (other ∷ others.families) section (one_more 1 after end others.end other others.families next others.are_read);
      all = omega arith;
      ended = others.ended;
      anew = both_passed family other (here after_font (t ++ rest)) (here after_cvt rest) fi pi functions known (Ok [])
          (read.anew 10 (t ++ rest) (omega arith)) (ends_newest form (font_subject d) fi family functions passes)
          (read_too.anew after_font rest (omega arith)) (ends_newest form (cvt_subject d fi functions) pi other known passes_too)
          (others.anew after_cvt (omega arith));
    }

-- the whole certificate

pub record AreAccepted (d : FontData) (bytes : List ℕ) : Type 0 where
  pub form : Form
  pub after : Input
  pub header : header_in bytes ≡ Ok ((form, length d.glyphs + 2), after)
  pub read : AreSectionsRead d form (after_header after.bytes)

accepted : (d : FontData) (bytes : List ℕ) (f : Finding) → IsChecked d bytes f → f ≡ nothing → AreBytes bytes → AreAccepted d bytes
accepted d bytes f (no_header_there place at) e are = absurd (fails_not place e)
accepted d bytes f (other_number form sections after at differs) e are = absurd (fails_not 6 e)
accepted d bytes f (sections_checked form after finding at checked) e are =
    let t = header_codec.takes (here 0 bytes) (form, length d.glyphs + 2) after at are (omega arith) in
    record { form = form; after = after; header = at; read = sections_read d form (after_header after.bytes) finding checked e t.2 (omega arith) }

-- reading one after the other comes to one end

one_reading : (form : Form) (m : ℕ) (i end end' : Input) (xs ys : List Contents) → AreRead form m i xs end → AreRead form m i ys end' → length xs ≡ length ys → (xs ≡ ys) × (end ≡ end')
one_reading form m i end end' xs ys (none n j) (none n' j') long = (refl, refl)
one_reading form m i end end' xs ys (none n j) (one_more n' j' after' last' family' others' next' more') long = absurd (omega arith)
one_reading form m i end end' xs ys (one_more n j after last family others next more) (none n' j') long = absurd (omega arith)
one_reading form m i end end' xs ys (one_more n j after last family others next more) (one_more n' j' after' last' family' others' next' more') long =
    let same = one_section form j after after' (name_at n) family family' next next' in
    let A : Input → Type 0 = λ a. AreRead form (n + 1) a others' last' in
    let rest = one_reading form (n + 1) after last last' others others' more (subst A (sym same.1) more') (omega arith) in
    ((λ k. same.0 k ∷ rest.0 k), rest.1)

-- where fewer were read than can be, there is a next one
next_there : (form : Form) (m : ℕ) (i at end : Input) (xs ys : List Contents) → AreRead form m i xs at → AreRead form m i ys end → length xs < length ys
    → (family : Contents) × (after : Input) × IsSectionOf form at (name_at (m + length xs)) family after
next_there form m i at end xs ys (none n j) (none n' j') few = absurd (omega arith)
next_there form m i at end xs ys (none n j) (one_more n' j' after' last' family' others' next' more') few =
    let number : n ≡ n + 0 = omega arith in
    let N : ℕ → Type 0 = λ k. IsSectionOf form j (name_at k) family' after' in
    (family', after', subst N number next')
next_there form m i at end xs ys (one_more n j after last family others next more) (none n' j') few = absurd (omega arith)
next_there form m i at end xs ys (one_more n j after last family others next more) (one_more n' j' after' last' family' others' next' more') few =
    let same = one_section form j after after' (name_at n) family family' next next' in
    let A : Input → Type 0 = λ a. AreRead form (n + 1) a others' last' in
    let (t, beyond, is) = next_there form (n + 1) after last last' others others' more (subst A (sym same.1) more') (omega arith) in
    let number : n + 1 + length others ≡ n + suc (length others) = omega arith in
    let N : ℕ → Type 0 = λ k. IsSectionOf form last (name_at k) t beyond in
    (t, beyond, subst N number is)

-- the new certificate

-- a certificate that begins with other sections than those that are read would have another header
begins_so : (d : FontData) (bytes : List ℕ) (form : Form) (count : ℕ) (families : List Contents) (at : Input) (a : AreAccepted d bytes) → BeginWith bytes form count families at
    → (count ≡ length d.glyphs + 2) × (form ≡ a.form) × AreRead a.form 0 (after_header a.after.bytes) families at
begins_so d bytes form count families at a b =
    let same = one_answer ((form, count), b.after) ((a.form, length d.glyphs + 2), a.after) (sym b.header ∙ a.header) in (
      ap (λ (p : (Form × ℕ) × Input). p.0.1) same,
      ap (λ (p : (Form × ℕ) × Input). p.0.0) same,
      subst (λ (p : (Form × ℕ) × Input). AreRead p.0.0 0 (after_header p.1.bytes) families at) same b.are_read,
    )

pub upgrade_passes : (d : FontData) (bytes text : List ℕ) → AreBytes bytes → IsUpgradeOf bytes text → IsChecked d bytes (Ok []) → IsChecked d text (Ok [])
upgrade_passes d bytes text are is checked =
    let a = accepted d bytes (Ok []) checked refl are in
    let begin = is.old.begin in
    let few = begin.programs.few in
    let (count, form, read) = begins_so d bytes is.old.form (length is.families) is.families is.old.end a begin in
    let long : length is.families ≡ length a.read.families = count ∙ sym a.read.all in
    let same = (one_reading a.form 0 (after_header a.after.bytes) is.old.end a.read.end is.families a.read.families read a.read.are_read long).0 in
    let n : ℕ = length d.glyphs + 2 in
    let rest : List ℕ = family_texts 0 a.read.families in
    let text_is : text ≡ header_text Four n ++ rest = is.text_is ∙ (λ k. header_text Four (count k) ++ family_texts 0 (same k)) in
    let after : Input = here (place_after 0 (length (header_text Four n))) rest in
    let header : header_in (header_text Four n ++ rest) ≡ Ok ((Four, n), after) = header_codec.again (Four, n) 0 rest (omega arith) (omega arith) in
    let P : List ℕ → Type 0 = λ l. IsChecked d l (Ok []) in
    subst P (sym text_is) (sections_checked Four after (Ok []) header a.read.anew)

-- the families of the new certificate

record AreReadAnew (number at : ℕ) (families : List Contents) : Type 0 where
  end : Input
  are_read : AreRead Four number (here at (family_texts number families)) families end
  ended : end.bytes ≡ []

read_again : (form : Form) (number : ℕ) (i end : Input) (families : List Contents) → AreRead form number i families end → AreBytes i.bytes → i.place < 2 ^ 64 → (at : ℕ) → at < 2 ^ 64
    → AreReadAnew number at families
read_again form number i end families (none n j) bytes lt at below = record { end = here at []; are_read = none n (here at []); ended = refl }
read_again form number i end families (one_more n j after last family others next more) bytes lt at below =
    let text : List ℕ = family_text Four (name_at n) family in
    let read = read_anew form j after (name_at n) family next bytes lt in
    let beyond : ℕ = place_after at (length text) in
    let left : List ℕ = family_texts (n + 1) others in
    let rest = read_again form (n + 1) after last others more read.bytes read.place beyond (omega arith) in
    record { end = rest.end; are_read = one_more n (here at (text ++ left)) (here beyond left) rest.end family others (read.anew at left below) rest.are_read; ended = rest.ended }

pub keeps_families : (bytes text : List ℕ) → AreBytes bytes → IsUpgradeOf bytes text → KeepsFamilies bytes text
keeps_families bytes text are is =
    let begin = is.old.begin in
    let few = begin.programs.few in
    let n : ℕ = length is.families in
    let t = header_codec.takes (here 0 bytes) (is.old.form, n) begin.after begin.header are (omega arith) in
    let read = read_again is.old.form 0 (after_header begin.after.bytes) is.old.end is.families begin.are_read t.2 (omega arith) 10 (omega arith) in
    let rest : List ℕ = family_texts 0 is.families in
    let after : Input = here (place_after 0 (length (header_text Four n))) rest in
    let header : header_in (header_text Four n ++ rest) ≡ Ok ((Four, n), after) = header_codec.again (Four, n) 0 rest (omega arith) (omega arith) in
    let C : List ℕ → Type 0 = λ l. AreCertificate l is.families in
    record {
      families = is.families;
      before = is.old;
      after = subst C (sym is.text_is) (record {
        form = Four;
        end = read.end;
        begin = record { after = after; header = header; programs = begin.programs; are_read = read.are_read; few = begin.few };
        ended = read.ended;
      });
    }

-- bytes by which a font is accepted are a certificate

pub accepted_is_old : (d : FontData) (bytes : List ℕ) (r : Result ℕ ℕ) (place : ℕ) → AreBytes bytes → length d.glyphs < 2 ^ 16 → IsChecked d bytes (Ok []) → UpgradesTo bytes r → r ≡ Err place → ⊥
accepted_is_old d bytes r place are lt checked (upgraded families certificate) e = cc
accepted_is_old d bytes r place are lt checked (no_header at fails) e =
    let a = accepted d bytes (Ok []) checked refl are in
    no_answer ((a.form, length d.glyphs + 2), a.after) at (sym a.header ∙ fails)
accepted_is_old d bytes r place are lt checked (no_font form count after header other) e =
    let a = accepted d bytes (Ok []) checked refl are in
    let same = one_answer ((form, count), after) ((a.form, length d.glyphs + 2), a.after) (sym header ∙ a.header) in
    let count_is : count ≡ length d.glyphs + 2 = ap (λ (p : (Form × ℕ) × Input). p.0.1) same in
    other (record { some = omega arith; few = omega arith })
accepted_is_old d bytes r place are lt checked (no_section form count families at broken begin few absent) e =
    let a = accepted d bytes (Ok []) checked refl are in
    let (count_is, form_is, read) = begins_so d bytes form count families at a begin in
    let all = a.read.all in
    let (family, after, next) = next_there a.form 0 (after_header a.after.bytes) at a.read.end families a.read.families read a.read.are_read (omega arith) in
    let number : 0 + length families ≡ length families = omega arith in
    let N : ℕ → Type 0 = λ k. IsSectionOf a.form at (name_at k) family after in
    let H : Form → Type 0 = λ f. HasNoSection f at (name_at (length families)) broken in
    is_there a.form at after (name_at (length families)) family broken (subst N number next) (subst H form_is absent)
accepted_is_old d bytes r place are lt checked (followed form families at begin more) e =
    let a = accepted d bytes (Ok []) checked refl are in
    let (count, form_is, read) = begins_so d bytes form (length families) families at a begin in
    let same = one_reading a.form 0 (after_header a.after.bytes) at a.read.end families a.read.families read a.read.are_read (count ∙ sym a.read.all) in
    more (ap (λ (i : Input). i.bytes) same.1 ∙ a.read.ended)

-- so where the check refuses nothing, an upgrade that isn't refused for its form writes what is asked
pub accepts_from : {T : Type 0} (d : FontData) (bytes : List ℕ) (r : Result T CertFault) (Is : T → Type 0) (Writes : T → Type 0) → AreBytes bytes → length d.glyphs < 2 ^ 16 → IsChecked d bytes (Ok [])
    → ComesTo r Is (λ place. UpgradesTo bytes (Err place)) → IfOk r Writes → ComesTo r Writes (λ _. ⊥)
accepts_from d bytes (Ok x) Is Writes are lt checked comes writes = writes
accepts_from d bytes (Err (cert.Form place)) Is Writes are lt checked comes writes = accepted_is_old d bytes (Err place) place are lt checked comes refl
accepts_from d bytes (Err cert.Read) Is Writes are lt checked comes writes = tt
accepts_from d bytes (Err cert.Write) Is Writes are lt checked comes writes = tt
accepts_from d bytes (Err (cert.OutOfMemory error)) Is Writes are lt checked comes writes = tt
