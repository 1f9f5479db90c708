-- What the reading of a section tells of its text.
use Rattle.std.proofs.Common.{◌≡◌, ℕ, ◌^◌, ◌<◌, true, List, ◌++◌, Option, Some, None, is_some, Result, Ok, Err, refl, sym, ap, subst, ◌∙◌, arith, length}
use Rattle.std.specs.Prelude.{IfOk, MatchResult}
use Rattle.tt_family.specs.Contents.{Contents}
use Rattle.tt_setting.specs.declared.cert_fault.CertFault.{CertFault}
use Rattle.tt_setting.specs.declared.cert_fault.CertFault.TheVariants as fault
use Rattle.tt_cert.specs.declared.form.Form.{Form}
use Rattle.tt_setting.specs.declared.name.Name.{Name}
use Rattle.tt_cert.specs.Answers.{AreBytes, Fails, GivesSection, IsFormFault, ReadsSection, input_at}
use Rattle.tt_cert.specs.Readers.{Answer, Input, place_after}
use Rattle.tt_cert.specs.Reading.{section_at}
use Rattle.tt_cert.specs.Rules.{Fits}
use Rattle.tt_cert.specs.Sections.{Section, section_of}
use Rattle.tt_cert.specs.Text.{section_text}
use Rattle.tt_cert.proofs.Codecs.{here, ok_is}
use Rattle.tt_cert.proofs.Spelled.{section_codec}

abbrev Decoded : Type 0
Decoded = Result (Name × Contents × ℕ) CertFault

some_left : (new : Option (List ℕ)) (place : ℕ) → is_some new ≡ true → new ≡ Some (input_at place new).bytes
some_left None place e = absurd cc
some_left (Some xs) place e = refl

pub is_found : (form : Form) (old new : Option (List ℕ)) (start : ℕ) (r : Decoded) → start < 2 ^ 64 → GivesSection old new r (section_at form (input_at start old))
    → IfOk r (λ r. (input : List ℕ) → old ≡ Some input → AreBytes input → ReadsSection form input start (section_of r.0 r.1) new r.2)
is_found form old new start (Err e) lt gives = tt
is_found form old new start (Ok r) lt gives = λ input known bytes.
    let was = gives (ap is_some known) in
    let s : Section = section_of r.0 r.1 in
    let read : section_at form (input_at start (Some input)) ≡ Ok (s, input_at r.2 new) =
    subst (λ (o : Option (List ℕ)). section_at form (input_at start o) ≡ Ok (s, input_at r.2 new)) known was.1 in
    let t = (section_codec form).takes (input_at start (Some input)) s (input_at r.2 new) read bytes lt in
    record { rest = (input_at r.2 new).bytes; left = some_left new r.2 was.0; spelled = t.0.parts; fits = t.1; place_is = t.0.place }

read_as : Section → Input → Answer Section
read_as s j = Ok (s, j)

same_section : (a b : Section) (i j : Input) → read_as a i ≡ read_as b j → a ≡ b
unfolding read_as
same_section a b i j e = ap (λ (p : Section × Input). p.0) (ok_is (a, i) (b, j) e)

no_form : (s : Section) (j : Input) (e : CertFault) → Fails e (read_as s j) → ¬ IsFormFault e
unfolding read_as
no_form s j fault.Read h = λ x. x
no_form s j fault.Write h = λ x. x
no_form s j (fault.OutOfMemory error) h = λ x. x
no_form s j (fault.Form p) h = λ x. absurd cc

pub is_read : (form : Form) (old new : Option (List ℕ)) (start : ℕ) (r : Decoded) → start < 2 ^ 64 → GivesSection old new r (section_at form (input_at start old))
    → (s : Section) (rest : List ℕ) → Fits form s → old ≡ Some (section_text form s ++ rest) → MatchResult r (λ r. section_of r.0 r.1 ≡ s) (λ e. ¬ IsFormFault e)
unfolding read_as
is_read form old new start (Ok r) lt gives s rest fits known =
    let was = gives (ap is_some known) in
    let read : section_at form (input_at start (Some (section_text form s ++ rest))) ≡ Ok (section_of r.0 r.1, input_at r.2 new) =
    subst (λ (o : Option (List ℕ)). section_at form (input_at start o) ≡ Ok (section_of r.0 r.1, input_at r.2 new)) known was.1 in
    same_section (section_of r.0 r.1) s _ _ (sym read ∙ (section_codec form).again s start rest fits lt)
is_read form old new start (Err e) lt gives s rest fits known =
    let was = gives (ap is_some known) in
    let read : Fails e (section_at form (input_at start (Some (section_text form s ++ rest)))) =
    subst (λ (o : Option (List ℕ)). Fails e (section_at form (input_at start o))) known was in
    no_form s _ e (subst (Fails e) ((section_codec form).again s start rest fits lt) read)

-- no section's text begins another one
pub prefix_free : (form : Form) (s t : Section) (a b : List ℕ) → Fits form s → Fits form t → section_text form s ++ a ≡ section_text form t ++ b → (s ≡ t) × (a ≡ b)
unfolding read_as
prefix_free form s t a b p q e =
    let one = (section_codec form).again s 0 a p (omega arith) in
    let two = (section_codec form).again t 0 b q (omega arith) in
    let same = ok_is (s, here (place_after 0 (length (section_text form s))) a) (t, here (place_after 0 (length (section_text form t))) b)
    (sym one ∙ ap (λ (l : List ℕ). section_at form (here 0 l)) e ∙ two) in
    (ap (λ (r : Section × Input). r.0) same, ap (λ (r : Section × Input). r.1.bytes) same)
