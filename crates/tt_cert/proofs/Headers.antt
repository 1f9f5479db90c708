-- What the reading of a header tells of its text.
use Rattle.std.proofs.Common.{◌≡◌, ℕ, zero, suc, ◌^◌, ◌<◌, true, List, ◌++◌, Option, Some, None, is_some, Result, Ok, Err, refl, sym, ap, subst, ◌∙◌, arith}
use Rattle.std.specs.Prelude.{IfOk, MatchResult}
use Rattle.tt_setting.specs.declared.cert_fault.CertFault.{CertFault}
use Rattle.tt_setting.specs.declared.cert_fault.CertFault.TheVariants as fault
use Rattle.tt_cert.specs.declared.form.Form.{Form}
use Rattle.tt_cert.specs.Answers.{AreBytes, Fails, GivesHeader, IsFormFault, ReadsHeader, input_at}
use Rattle.tt_cert.specs.Forms.{IsFormNumber, form_number, form_numbered}
use Rattle.tt_cert.specs.Readers.{Answer, Input}
use Rattle.tt_cert.specs.Reading.{header_at, header_numbers_at, in_numbers}
use Rattle.tt_cert.specs.Text.{header_of, header_text}
use Rattle.tt_cert.proofs.Codecs.{ok_is}
use Rattle.tt_cert.proofs.Spelled.{header_codec}

abbrev Read : Type 0
Read = Result (Form × ℕ) CertFault

pub numbers_read : (i j : Input) (x : Form × ℕ) → header_at i ≡ Ok (x, j) → header_numbers_at i ≡ Ok (in_numbers x, j)
unfolding header_numbers_at
numbers_read i j x e = rw e refl

numbers_refused : (i : Input) (place : ℕ) → header_at i ≡ Err place → header_numbers_at i ≡ Err place
unfolding header_numbers_at
numbers_refused i place e = rw e refl

pub numbers_fail : (i : Input) (e : CertFault) → Fails e (header_at i) → Fails e (header_numbers_at i)
numbers_fail i (fault.Form place) h = numbers_refused i place h
numbers_fail i fault.Read h = tt
numbers_fail i fault.Write h = h
numbers_fail i (fault.OutOfMemory error) h = tt

some_left : (new : Option (List ℕ)) (place : ℕ) → is_some new ≡ true → new ≡ Some (input_at place new).bytes
some_left None place e = absurd cc
some_left (Some xs) place e = refl

pub header_found : (old new : Option (List ℕ)) (r : Read) → GivesHeader old new r (header_at (input_at 0 old))
    → IfOk r (λ x. (input : List ℕ) → old ≡ Some input → AreBytes input → ReadsHeader input (in_numbers x) new)
header_found old new (Err e) gives = tt
header_found old new (Ok x) gives = λ input known bytes.
    let was = gives (ap is_some known) in
    let place = was.1.0 in
    let read : header_at (input_at 0 (Some input)) ≡ Ok (x, input_at place new) =
    subst (λ (o : Option (List ℕ)). header_at (input_at 0 o) ≡ Ok (x, input_at place new)) known was.1.1 in
    let t = header_codec.takes (input_at 0 (Some input)) x (input_at place new) read bytes (omega arith) in
    record { rest = (input_at place new).bytes; left = some_left new place was.0; spelled = t.0.parts }

read_as : Form × ℕ → Input → Answer (Form × ℕ)
read_as x j = Ok (x, j)

no_form : (x : Form × ℕ) (j : Input) (e : CertFault) → Fails e (read_as x j) → ¬ IsFormFault e
unfolding read_as
no_form x j fault.Read h = λ x. x
no_form x j fault.Write h = λ x. x
no_form x j (fault.OutOfMemory error) h = λ x. x
no_form x j (fault.Form p) h = λ x. absurd cc

pub header_read : (old new : Option (List ℕ)) (r : Read) → GivesHeader old new r (header_at (input_at 0 old))
    → (form : Form) (sections : ℕ) (rest : List ℕ) → sections < 2 ^ 32 → old ≡ Some (header_text form sections ++ rest)
    → MatchResult r (λ x. x ≡ (form, sections)) (λ e. ¬ IsFormFault e)
unfolding read_as
header_read old new (Ok x) gives form sections rest few known =
    let was = gives (ap is_some known) in
    let place = was.1.0 in
    let read : header_at (input_at 0 (Some (header_text form sections ++ rest))) ≡ Ok (x, input_at place new) =
    subst (λ (o : Option (List ℕ)). header_at (input_at 0 o) ≡ Ok (x, input_at place new)) known was.1.1 in
    ap (λ (p : (Form × ℕ) × Input). p.0)
    (ok_is (x, input_at place new) ((form, sections), _) (sym read ∙ header_codec.again (form, sections) 0 rest few (omega arith)))
header_read old new (Err e) gives form sections rest few known =
    let was = gives (ap is_some known) in
    let read : Fails e (header_at (input_at 0 (Some (header_text form sections ++ rest)))) =
    subst (λ (o : Option (List ℕ)). Fails e (header_at (input_at 0 o))) known was in
    no_form (form, sections) _ e (subst (Fails e) (header_codec.again (form, sections) 0 rest few (omega arith)) read)

number_back : (n : ℕ) → IsFormNumber n → form_number (form_numbered n) ≡ n
number_back zero h = let some = h.0 in absurd (omega arith)
number_back (suc zero) h = refl
number_back (suc (suc zero)) h = refl
number_back (suc (suc (suc zero))) h = refl
number_back (suc (suc (suc (suc zero)))) h = refl
number_back (suc (suc (suc (suc (suc n))))) h = let few = h.1 in absurd (omega arith)

named_by_number : (form sections : ℕ) (rest : List ℕ) → IsFormNumber form → header_of form sections ++ rest ≡ header_text (form_numbered form) sections ++ rest
named_by_number form sections rest is = ap (λ (n : ℕ). header_of n sections ++ rest) (sym (number_back form is))

-- what a header gives, said of numbers

module _ (old new : Option (List ℕ)) (n : ℕ) (x : Form × ℕ) (is : n ≡ form_number x.0) (gives : GivesHeader old new (Ok x) (header_at (input_at 0 old))) where
  in_numbers_is : ◌≡◌ {A = ℕ × ℕ} (in_numbers x) (n, x.1)
  in_numbers_is = ap (λ (k : ℕ). (k, x.1)) (sym is)

  pub numbers_given : GivesHeader old new (Ok (n, x.1)) (header_numbers_at (input_at 0 old))
  numbers_given = λ known.
      let was = gives known in
      let j : Input = input_at was.1.0 new in
      let R : ℕ × ℕ → Type 0 = λ h. header_numbers_at (input_at 0 old) ≡ Ok (h, j) in
      (was.0, (was.1.0, subst R in_numbers_is (numbers_read (input_at 0 old) j x was.1.1)))

  pub numbers_found : (input : List ℕ) → old ≡ Some input → AreBytes input → ReadsHeader input (n, x.1) new
  numbers_found input known bytes = subst (λ (h : ℕ × ℕ). ReadsHeader input h new) in_numbers_is (header_found old new (Ok x) gives input known bytes)

  pub numbers_only : (form sections : ℕ) (rest : List ℕ) → IsFormNumber form → sections < 2 ^ 32 → old ≡ Some (header_of form sections ++ rest) → ◌≡◌ {A = ℕ × ℕ} (n, x.1) (form, sections)
  numbers_only form sections rest known_form few known =
      let same : x ≡ (form_numbered form, sections) = header_read old new (Ok x) gives (form_numbered form) sections rest few (known ∙ ap Some (named_by_number form sections rest known_form)) in
      sym in_numbers_is ∙ ap in_numbers same ∙ ap (λ (k : ℕ). (k, sections)) (number_back form known_form)

pub no_header : (old new : Option (List ℕ)) (e : CertFault) → GivesHeader {F = Form} old new (Err e) (header_at (input_at 0 old))
    → (form sections : ℕ) (rest : List ℕ) → IsFormNumber form → sections < 2 ^ 32 → old ≡ Some (header_of form sections ++ rest) → ¬ IsFormFault e
no_header old new e gives form sections rest known_form few known =
    header_read old new (Err e) gives (form_numbered form) sections rest few (known ∙ ap Some (named_by_number form sections rest known_form))
