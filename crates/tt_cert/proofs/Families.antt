-- A text has one family, and a family has one text.
use Rattle.std.proofs.Common.{◌≡◌, ℕ, List, ◌++◌, Result, Ok, Err, sym, ap, ◌∙◌}
use Rattle.std.specs.Prelude.{IfOk, MatchResult}
use Rattle.tt_family.specs.Ascending.{IsFinished}
use Rattle.tt_family.specs.Contents.{Contents}
use Rattle.tt_family.specs.Contexts.{frames_of}
use Rattle.tt_setting.specs.declared.cert_fault.CertFault.{CertFault}
use Rattle.tt_cert.specs.declared.form.Form.{Form}
use Rattle.tt_setting.specs.declared.name.Name.{Name}
use Rattle.tt_cert.specs.Answers.{IsFormFault}
use Rattle.tt_cert.specs.Families.{HasText, family_text}
use Rattle.tt_cert.specs.Sections.{Section, section_of}
use Rattle.tt_cert.proofs.Decoded.{prefix_free}
use Rattle.tt_cert.proofs.Fitting.{frames_back}

-- a section is that of one name and one finished family
pub one_family : (n m : Name) (c d : Contents) → IsFinished c → IsFinished d → section_of n c ≡ section_of m d → (n ≡ m) × (c ≡ d)
one_family n m c d p q e =
    let contexts : c.contexts ≡ d.contexts = sym (frames_back c p) ∙ ap (λ (s : Section). frames_of s.contexts) e ∙ frames_back d q in
    let states : c.states ≡ d.states = ap (λ (s : Section). s.states) e in
    (ap (λ (s : Section). s.name) e, λ i. record { contexts = contexts i; states = states i })

pub one_family_of_a_text : (form : Form) (n m : Name) (c d : Contents) (a b : List ℕ) → HasText form n c → HasText form m d
    → family_text form n c ++ a ≡ family_text form m d ++ b → (n ≡ m) × (c ≡ d) × (a ≡ b)
one_family_of_a_text form n m c d a b p q e =
    let (same, left) = prefix_free form (section_of n c) (section_of m d) a b p.fits q.fits e in
    let (names, families) = one_family n m c d p.finished q.finished same in
    (names, families, left)

abbrev Decoded : Type 0
Decoded = Result (Name × Contents × ℕ) CertFault

-- what reads the section of a family reads the family
pub is_same : (r : Decoded) (name : Name) (family : Contents) → IfOk r (λ r. IsFinished r.1) → IsFinished family → MatchResult r (λ r. section_of r.0 r.1 ≡ section_of name family) (λ e. ¬ IsFormFault e)
    → MatchResult r (λ r. (r.0 ≡ name) × (r.1 ≡ family)) (λ e. ¬ IsFormFault e)
is_same (Ok r) name family read finished same = one_family r.0 name r.1 family read finished same
is_same (Err e) name family read finished same = same
