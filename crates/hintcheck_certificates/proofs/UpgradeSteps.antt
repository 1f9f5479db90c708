-- Sections that are read and written again, one after the other.
use Rattle.std.proofs.Common.{◌≡◌, ◌≢◌, ℕ, suc, ◌+◌, ◌≤◌, ◌<◌, List, [], ◌∷◌, ◌++◌, length, take_all, Option, Some, None, Ok, Err, refl, sym, ap, subst, ◌∙◌, arith, append_assoc, append-nil, add-zero, zero-add}
use Rattle.std.specs.Io.KnownBytes.{Appends, IsAtEnd}
use Rattle.std.proofs.KnownBytes.{Appends-nil, Appends-trans}
use Rattle.std.proofs.lemmas.List.{length-append}
use Rattle.tt_stream.specs.Streams.{AppendsBeginning}
use Rattle.tt_family.specs.Contents.{Contents}
use Rattle.tt_cert.specs.Answers.{GivesHeader, IsMore, input_at}
use Rattle.tt_cert.specs.Readers.{Input}
use Rattle.tt_cert.specs.Reading.{header_at}
use Rattle.tt_cert.specs.Families.{family_text}
use Rattle.tt_cert.specs.Text.{header_text}
use Rattle.tt_setting.specs.declared.cert_fault.CertFault.{CertFault}
use Rattle.tt_setting.specs.declared.cert_fault.CertFault.TheVariants as cert
use Rattle.tt_cert.specs.declared.form.Form.{Form}
use Rattle.tt_cert.specs.declared.form.Form.TheVariants.{Four}
use Rattle.tt_setting.specs.declared.name.Name.{Name}
use Rattle.hintcheck_certificates.specs.CertificateFaults.{ComesTo}
use Rattle.hintcheck_certificates.specs.Certificates.{HasNoSection, IsSectionOf}
use Rattle.hintcheck_certificates.specs.CertificateTexts.{WritesBeginning, WritesText}
use Rattle.hintcheck_certificates.specs.CheckedFonts.{IsTold, bytes_in}
use Rattle.hintcheck_certificates.specs.UpgradeFaults.{CountsReads, CountsWrites}
use Rattle.hintcheck_certificates.specs.Upgrades.{AreBegun, AreCertificate, AreRead, AreUpgraded, BeginWith, IsNumberOfPrograms, IsUpgradeBegunOf, IsUpgradeOf, LackSection, UpgradesTo, begun, followed, name_at, no_font, no_header, no_section, family_texts, none, nothing, one_more, upgraded}
use Rattle.hintcheck_certificates.proofs.TextBeginnings.{begins_nothing, begins_on}

-- the end of the bytes

nothing_left : (known : Option (List ℕ)) (place : ℕ) → IsTold known → IsAtEnd known → (input_at place known).bytes ≡ []
nothing_left None place told at = absurd cc
nothing_left (Some xs) place told at = at

something_left : (known : Option (List ℕ)) (place : ℕ) → IsTold known → IsMore known → (input_at place known).bytes ≢ []
something_left None place told more = absurd cc
something_left (Some []) place told more = absurd (omega arith)
something_left (Some (x ∷ xs)) place told more = λ e. absurd cc

-- a family after those before it

read_on : (form : Form) (n : ℕ) (i j k : Input) (xs ys : List Contents) → AreRead form n i xs j → AreRead form (n + length xs) j ys k → AreRead form n i (xs ++ ys) k
read_on form n i j k xs ys (none m l) rest =
    let A : ℕ → Type 0 = λ a. AreRead form a l ys k in
    subst A (add-zero m) rest
read_on form n i j k xs ys (one_more m l after end family others next more) rest =
    let number : m + suc (length others) ≡ m + 1 + length others = omega arith in
    let A : ℕ → Type 0 = λ a. AreRead form a end ys k in
    one_more m l after k family (others ++ ys) next (read_on form (m + 1) after end k others ys more (subst A number rest))

texts_on : (n m : ℕ) (xs ys : List Contents) → m ≡ n + length xs → family_texts n (xs ++ ys) ≡ family_texts n xs ++ family_texts m ys
texts_on n m [] ys is = let same : n ≡ m = omega arith in ap (λ (k : ℕ). family_texts k ys) same
texts_on n m (x ∷ xs) ys is =
    let text : List ℕ = family_text Four (name_at n) x in
    ap (λ (l : List ℕ). text ++ l) (texts_on (n + 1) m xs ys (omega arith)) ∙ sym (append_assoc text (family_texts (n + 1) xs) (family_texts m ys))

pub none_upgraded : (form : Form) (i : Input) (w : Option (List ℕ)) → AreUpgraded form 0 0 i i w w
none_upgraded form i w = record { families = []; are_read = none 0 i; all = refl; written = Appends-nil w }

-- the section of a program, and its text, by the program's number
in_turn : (form : Form) (number : ℕ) (i after : Input) (called : Name) (family : Contents) → IsSectionOf form i called family after → called ≡ name_at number → IsSectionOf form i (name_at number) family after
in_turn form number i after called family section same = subst (λ (n : Name). IsSectionOf form i n family after) same section

one_text : (number : ℕ) (called : Name) (family : Contents) → called ≡ name_at number → family_text Four called family ≡ family_texts number (family ∷ [])
one_text number called family same = ap (λ (n : Name). family_text Four n family) same ∙ sym (append-nil (family_text Four (name_at number) family))

pub one_upgraded : (form : Form) (number : ℕ) (i after : Input) (called : Name) (family : Contents) (old new : Option (List ℕ)) → IsSectionOf form i called family after → called ≡ name_at number
    → Appends old new (family_text Four called family) → AreUpgraded form number 1 i after old new
one_upgraded form number i after called family old new section same appends =
    record {
      families = family ∷ [];
      are_read = one_more number i after after family [] (in_turn form number i after called family section same) (none (number + 1) after);
      all = refl;
      written = subst (Appends old new) (one_text number called family same) appends;
    }

pub one_begun : (form : Form) (number : ℕ) (i after : Input) (called : Name) (family : Contents) (old new : Option (List ℕ)) → IsSectionOf form i called family after → called ≡ name_at number
    → AppendsBeginning old new (family_text Four called family) → AreBegun form number 1 i old new
one_begun form number i after called family old new section same appends =
    record {
      families = family ∷ [];
      at = after;
      are_read = one_more number i after after family [] (in_turn form number i after called family section same) (none (number + 1) after);
      few = omega arith;
      written = subst (AppendsBeginning old new) (one_text number called family same) appends;
    }

pub none_begun : (form : Form) (number count : ℕ) (i : Input) (w : Option (List ℕ)) → AreBegun form number count i w w
none_begun form number count i w = record { families = []; at = i; are_read = none number i; few = omega arith; written = begins_nothing w }

pub upgraded_on : (form : Form) (k : ℕ) (first here there : Input) (a b c : Option (List ℕ)) → AreUpgraded form 0 k first here a b → AreUpgraded form k 1 here there b c
    → AreUpgraded form 0 (k + 1) first there a c
upgraded_on form k first here there a b c before next =
    let number : k ≡ 0 + length before.families = omega (arith, before.all) in
    let A : ℕ → Type 0 = λ m. AreRead form m here next.families there in
    record {
      families = before.families ++ next.families;
      are_read = read_on form 0 first here there before.families next.families before.are_read (subst A number next.are_read);
      all = long before.families next.families before.all next.all;
      written = subst (Appends a c) (sym (texts_on 0 k before.families next.families number))
          (Appends-trans a b c (family_texts 0 before.families) (family_texts k next.families) before.written next.written);
    }
  where
    long : (xs ys : List Contents) → length xs ≡ k → length ys ≡ 1 → length (xs ++ ys) ≡ k + 1
    long xs ys e f = omega (arith, length-append xs ys)

pub begun_on : (form : Form) (k count : ℕ) (first here : Input) (a b c : Option (List ℕ)) → AreUpgraded form 0 k first here a b → AreBegun form k 1 here b c → k < count
    → AreBegun form 0 count first a c
begun_on form k count first here a b c before next lt =
    let number : k ≡ 0 + length before.families = omega (arith, before.all) in
    let A : ℕ → Type 0 = λ m. AreRead form m here next.families next.at in
    let all = before.all in
    let few = next.few in
    record {
      families = before.families ++ next.families;
      at = next.at;
      are_read = read_on form 0 first here next.at before.families next.families before.are_read (subst A number next.are_read);
      few = omega (arith, length-append before.families next.families);
      written = subst (AppendsBeginning a c) (sym (texts_on 0 k before.families next.families number))
          (begins_on a b c (family_texts 0 before.families) (family_texts k next.families) before.written next.written);
    }

pub lack_next : (form : Form) (k count : ℕ) (first here : Input) (a b : Option (List ℕ)) (place : ℕ) → AreUpgraded form 0 k first here a b → k < count → HasNoSection form here (name_at k) place
    → LackSection form 0 count first place
lack_next form k count first here a b place before lt absent =
    let all = before.all in
    let number : k ≡ 0 + length before.families = omega arith in
    let H : ℕ → Type 0 = λ m. HasNoSection form here (name_at m) place in
    record { families = before.families; at = here; are_read = before.are_read; few = omega arith; absent = subst H number absent }

-- faults

pub comes_on : {T U : Type 0} (Is : T → Type 0) (Is' : U → Type 0) (At At' : ℕ → Type 0) (e : CertFault) → ComesTo {T = T} (Err e) Is At → ((place : ℕ) → At place → At' place)
    → ComesTo {T = U} (Err e) Is' At'
comes_on Is Is' At At' (cert.Form place) h f = f place h
comes_on Is Is' At At' cert.Read h f = tt
comes_on Is Is' At At' cert.Write h f = tt
comes_on Is Is' At At' (cert.OutOfMemory error) h f = tt

-- failures are counted from before the call too, where nothing failed till then

pub reads_on : (e : CertFault) (first old new : ℕ) → old ≡ first → CountsReads {T = Unit {0}} (Err e) old new → CountsReads {T = Unit {0}} (Err e) first new
reads_on e first old new same h = let C : ℕ → Type 0 = λ n. CountsReads {T = Unit {0}} (Err e) n new in subst C same h

pub writes_on : (e : CertFault) (first old new : ℕ) → old ≡ first → CountsWrites {T = Unit {0}} (Err e) old new → CountsWrites {T = Unit {0}} (Err e) first new
writes_on e first old new same h = let C : ℕ → Type 0 = λ n. CountsWrites {T = Unit {0}} (Err e) n new in subst C same h

-- the header

pub programs_are : (count : ℕ) → 2 ≤ count → count ≤ 65537 → IsNumberOfPrograms count
programs_are count some few = record { some = some; few = few }

pub too_few : (count : ℕ) → count < 2 → IsNumberOfPrograms count → ⊥
too_few count lt is = let some = is.some in omega arith

pub too_many : (count : ℕ) → 65537 < count → IsNumberOfPrograms count → ⊥
too_many count lt is = let few = is.few in omega arith

begin_with : (old new : Option (List ℕ)) (form : Form) (count : ℕ) (families : List Contents) (at : Input) → GivesHeader old new (Ok (form, count)) (header_at (input_at 0 old))
    → IsNumberOfPrograms count → AreRead form 0 (input_at 10 new) families at → length families ≤ count → IsTold old → BeginWith (bytes_in old) form count families at
begin_with old new form count families at gives programs read few told =
    let (place, header) = (gives told).1 in
    record { after = input_at place new; header = header; programs = programs; are_read = read; few = few }

pub header_fails : {T : Type 0} (Is : T → Type 0) (old new : Option (List ℕ)) (e : CertFault) → GivesHeader old new (Err e) (header_at (input_at 0 old)) → IsTold old
    → ComesTo {T = T} (Err e) Is (λ place. UpgradesTo (bytes_in old) (Err place))
header_fails Is old new (cert.Form p) gives told = no_header p (gives told)
header_fails Is old new cert.Read gives told = tt
header_fails Is old new cert.Write gives told = tt
header_fails Is old new (cert.OutOfMemory e) gives told = tt

pub of_no_font : (old new : Option (List ℕ)) (form : Form) (count : ℕ) → GivesHeader old new (Ok (form, count)) (header_at (input_at 0 old)) → (IsNumberOfPrograms count → ⊥) → IsTold old
    → UpgradesTo (bytes_in old) (Err 6)
of_no_font old new form count gives other told =
    let (place, header) = (gives told).1 in
    no_font form count (input_at place new) header other

-- the sections

pub section_lacks : (old new : Option (List ℕ)) (form : Form) (count place : ℕ) → GivesHeader old new (Ok (form, count)) (header_at (input_at 0 old)) → IsNumberOfPrograms count → IsTold old
    → LackSection form 0 count (input_at 10 new) place → UpgradesTo (bytes_in old) (Err place)
section_lacks old new form count place gives programs told lacks =
    let few = lacks.few in
    let number : 0 + length lacks.families ≡ length lacks.families = zero-add (length lacks.families) in
    let H : ℕ → Type 0 = λ m. HasNoSection form lacks.at (name_at m) place in
    no_section form count lacks.families lacks.at place (begin_with old new form count lacks.families lacks.at gives programs lacks.are_read (omega arith) told) few (subst H number lacks.absent)

-- the end

module _ (old new last : Option (List ℕ)) (form : Form) (count place : ℕ) (a b : Option (List ℕ)) (gives : GivesHeader old new (Ok (form, count)) (header_at (input_at 0 old)))
    (programs : IsNumberOfPrograms count) (told : IsTold old) (all : AreUpgraded form 0 count (input_at 10 new) (input_at place last) a b) where
  whole_begin : BeginWith (bytes_in old) form (length all.families) all.families (input_at place last)
  whole_begin =
      let B : ℕ → Type 0 = λ n. BeginWith (bytes_in old) form n all.families (input_at place last) in
      let long = all.all in
      subst B (sym all.all) (begin_with old new form count all.families (input_at place last) gives programs all.are_read (omega arith) told)

  whole : IsTold last → IsAtEnd last → AreCertificate (bytes_in old) all.families
  whole told_last ended = record { form = form; end = input_at place last; begin = whole_begin; ended = nothing_left last place told_last ended }

  pub all_upgraded : IsTold last → IsAtEnd last → UpgradesTo (bytes_in old) (Ok count)
  all_upgraded told_last ended =
      let U : ℕ → Type 0 = λ n. UpgradesTo (bytes_in old) (Ok n) in
      subst U all.all (upgraded all.families (whole told_last ended))

  pub more_follows : IsTold last → IsMore last → UpgradesTo (bytes_in old) (Err place)
  more_follows told_last more = followed form all.families (input_at place last) whole_begin (something_left last place told_last more)

  pub all_written : (w : Option (List ℕ)) → Appends w a (header_text Four count) → IsTold last → IsAtEnd last → WritesText w b (IsUpgradeOf (bytes_in old))
  all_written w header told_last ended = (
    header_text Four count ++ family_texts 0 all.families,
    record {
      families = all.families;
      old = whole told_last ended;
      text_is = ap (λ (n : ℕ). header_text Four n ++ family_texts 0 all.families) (sym all.all);
    },
    Appends-trans w a b (header_text Four count) (family_texts 0 all.families) header all.written,
  )

pub followed_by_more : {T : Type 0} (Is : T → Type 0) (e : CertFault) (At : ℕ → Type 0) (at : ℕ) (known : Option (List ℕ))
    → ((p : ℕ) → e ≡ cert.Form p → (p ≡ at) × IsMore known) → (IsMore known → At at) → ComesTo {T = T} (Err e) Is At
followed_by_more Is (cert.Form p) At at known named holds = let both = named p refl in subst At (sym both.0) (holds both.1)
followed_by_more Is cert.Read At at known named holds = tt
followed_by_more Is cert.Write At at known named holds = tt
followed_by_more Is (cert.OutOfMemory error) At at known named holds = tt

-- what is written where it ends early

pub nothing_written : (bytes : List ℕ) (w : Option (List ℕ)) → WritesBeginning w w (IsUpgradeBegunOf bytes)
nothing_written bytes w = ([], nothing, begins_nothing w)

module _ (old new : Option (List ℕ)) (form : Form) (count : ℕ) (gives : GivesHeader old new (Ok (form, count)) (header_at (input_at 0 old))) (programs : IsNumberOfPrograms count) (told : IsTold old) where
  pub header_begun : (a b : Option (List ℕ)) → AppendsBeginning a b (header_text Four count) → WritesBeginning a b (IsUpgradeBegunOf (bytes_in old))
  header_begun a b part = (
    header_text Four count ++ [],
    begun form count [] (input_at 10 new) (begin_with old new form count [] (input_at 10 new) gives programs (none 0 (input_at 10 new)) (omega arith) told),
    subst (AppendsBeginning a b) (sym (append-nil (header_text Four count))) part,
  )

  pub sections_begun : (w a b : Option (List ℕ)) → Appends w a (header_text Four count) → AreBegun form 0 count (input_at 10 new) a b → WritesBeginning w b (IsUpgradeBegunOf (bytes_in old))
  sections_begun w a b header part = (
    header_text Four count ++ family_texts 0 part.families,
    begun form count part.families part.at (begin_with old new form count part.families part.at gives programs part.are_read part.few told),
    begins_on w a b (header_text Four count) (family_texts 0 part.families) header part.written,
  )

-- all of a text is a beginning of it
pub all_begun : (form : Form) (count : ℕ) (from at : Input) (a b : Option (List ℕ)) → AreUpgraded form 0 count from at a b → AreBegun form 0 count from a b
all_begun form count from at a b all =
    let long = all.all in
    let text : List ℕ = family_texts 0 all.families in
    record {
      families = all.families;
      at = at;
      are_read = all.are_read;
      few = omega arith;
      written = record { count = length text; appended = subst (Appends a b) (sym (take_all (length text) text (omega arith))) all.written };
    }
