-- An upgrade reads no byte past what it reads, so that what was read before a failed read is at fault nowhere but at its end.
use Rattle.std.proofs.Common.{◌≡◌, ℕ, ◌+◌, ◌<◌, List, [], ◌∷◌, ◌++◌, length, Option, Some, None, Ok, Err, refl, sym, ◌∙◌, ap, subst, arith, append_assoc, append-nil, zero-add}
use Rattle.std.specs.Io.KnownBytes.{Consumes, Keeps}
use Rattle.std.proofs.KnownBytes.{Consumes-trans}
use Rattle.std.proofs.lemmas.List.{length-append}
use Rattle.tt_cert.specs.Answers.{CountsWrite, GivesHeader, StopsAtEnd, input_at}
use Rattle.tt_cert.specs.Readers.{Input, place_after}
use Rattle.tt_cert.specs.Reading.{header_at, section_at}
use Rattle.tt_family.specs.Contents.{Contents}
use Rattle.tt_cert.specs.Sections.{section_of}
use Rattle.tt_setting.specs.declared.cert_fault.CertFault.{CertFault}
use Rattle.tt_setting.specs.declared.cert_fault.CertFault.TheVariants as cert
use Rattle.tt_cert.specs.declared.form.Form.{Form}
use Rattle.tt_cert.proofs.Codecs.{here}
use Rattle.hintcheck_certificates.specs.Certificates.{HasNoSection, not_read}
use Rattle.hintcheck_certificates.specs.CheckedFonts.{IsTold}
use Rattle.hintcheck_certificates.specs.FailedReads.{HasReadOld, IsUnbrokenOld}
use Rattle.hintcheck_certificates.specs.Upgrades.{AreRead, AreUpgraded, IsNumberOfPrograms, LackSection, name_at, no_header, none, one_more}
use Rattle.hintcheck_certificates.proofs.FailedReads.{header_is_ten, header_steady, known_front, section_steady}
use Rattle.hintcheck_certificates.proofs.UpgradeSteps.{all_upgraded, section_lacks}

-- families that were read, whatever follows

record ReadAlways (form : Form) (number : ℕ) (i : Input) (families : List Contents) (at : Input) : Type 0 where
  front : List ℕ
  parts : i.bytes ≡ front ++ at.bytes
  further : (n : ℕ) → place_after at.place n ≡ place_after i.place (length front + n)
  again : (rest : List ℕ) → AreRead form number (here i.place (front ++ rest)) families (here at.place rest)

read_always : (form : Form) (number : ℕ) (i : Input) (families : List Contents) (at : Input) → AreRead form number i families at → ReadAlways form number i families at
read_always form number i families at (none n j) = record { front = []; parts = refl; further = λ n. ap (place_after i.place) (sym (zero-add n)); again = λ rest. none number (here i.place rest) }
read_always form number i families at (one_more n j after end family others next more) =
    let t = (section_steady form).takes i (section_of (name_at number) family) after next.is_read in
    let r = read_always form (number + 1) after others at more in
    record {
      front = t.front ++ r.front;
      parts = t.parts ∙ ap (λ (l : List ℕ). t.front ++ l) r.parts ∙ sym (append_assoc t.front r.front at.bytes);
      further = λ n.
          let long : length t.front + (length r.front + n) ≡ length (t.front ++ r.front) + n = omega (arith, length-append t.front r.front) in
          r.further n ∙ t.further (length r.front + n) ∙ ap (place_after i.place) long;
      again = λ rest.
          let A : List ℕ → Type 0 = λ l. AreRead form number (here i.place l) (family ∷ others) (here at.place rest) in
          subst A (sym (append_assoc t.front r.front rest))
          (one_more number (here i.place (t.front ++ (r.front ++ rest))) (here after.place (r.front ++ rest)) (here at.place rest) family others
          (record { in_order = next.in_order; is_read = t.again (r.front ++ rest) }) (r.again rest));
    }

-- a read failed in a section
pub old_section_cut_short : (form : Form) (number place : ℕ) (old new : Option (List ℕ)) (e : CertFault) → StopsAtEnd place old new (section_at form) e
    → HasReadOld old new (λ front. HasNoSection form (input_at place (Some front)) (name_at number) (place_after place (length front))) e
old_section_cut_short form number place old new (cert.Form at) stops = tt
old_section_cut_short form number place old new cert.Write stops = tt
old_section_cut_short form number place old new (cert.OutOfMemory error) stops = tt
old_section_cut_short form number place old new cert.Read stops = λ told.
    let s = stops told in (s.front, s.consumed, not_read (place_after place (length s.front)) s.refused)

-- a write that failed is no failed read
pub encode_no_read : (old new : Option (List ℕ)) (Is : List ℕ → Type 0) (e : CertFault) (a b : ℕ) → CountsWrite {T = Unit {0}} (Err e) a b → HasReadOld old new Is e
encode_no_read old new Is cert.Write a b counted = tt
encode_no_read old new Is (cert.Form place) a b counted = tt
encode_no_read old new Is cert.Read a b counted = absurd counted
encode_no_read old new Is (cert.OutOfMemory error) a b counted = tt

-- after the families before it
pub lack_after : (form : Form) (k count place at : ℕ) (old mid new : Option (List ℕ)) (a b : Option (List ℕ)) (e : CertFault) → k < count
    → (IsTold old → IsTold mid × AreUpgraded form 0 k (input_at place old) (input_at at mid) a b)
    → HasReadOld mid new (λ front. HasNoSection form (input_at at (Some front)) (name_at k) (place_after at (length front))) e
    → HasReadOld old new (λ front. LackSection form 0 count (input_at place (Some front)) (place_after place (length front))) e
lack_after form k count place at old mid new a b (cert.Form p) lt before has = tt
lack_after form k count place at old mid new a b cert.Write lt before has = tt
lack_after form k count place at old mid new a b (cert.OutOfMemory error) lt before has = tt
lack_after form k count place at old mid new a b cert.Read lt before has = λ told.
    let (told', done) = before told in
    let r = read_always form 0 (input_at place old) done.families (input_at at mid) done.are_read in
    let (front, consumed, absent) = has told' in
    let all = done.all in
    let number : k ≡ 0 + length done.families = omega arith in
    let there : place_after at (length front) ≡ place_after place (length (r.front ++ front)) =
    r.further (length front) ∙ ap (place_after place) (sym (length-append r.front front)) in
    let H : ℕ → Type 0 = λ m. HasNoSection form (input_at at (Some front)) (name_at m) (place_after place (length (r.front ++ front))) in
    let P : ℕ → Type 0 = λ p. HasNoSection form (input_at at (Some front)) (name_at k) p in (
      r.front ++ front,
      Consumes-trans old mid new r.front front (known_front old mid r.front place at told told' r.parts) consumed,
      record { families = done.families; at = input_at at (Some front); are_read = r.again front; few = omega arith; absent = subst H number (subst P there absent) },
    )

-- a read failed in the header
pub old_header_cut_short : (old new : Option (List ℕ)) (e : CertFault) → StopsAtEnd 0 old new header_at e → HasReadOld old new IsUnbrokenOld e
old_header_cut_short old new (cert.Form at) stops = tt
old_header_cut_short old new cert.Write stops = tt
old_header_cut_short old new (cert.OutOfMemory error) stops = tt
old_header_cut_short old new cert.Read stops = λ told.
    let s = stops told in
    (s.front, s.consumed, record { answer = Err (place_after 0 (length s.front)); comes = no_header (place_after 0 (length s.front)) s.refused; at_end = refl })

-- the header, whatever follows

record HeaderAlways (old mid : Option (List ℕ)) (form : Form) (count : ℕ) : Type 0 where
  front : List ℕ
  consumed : Consumes old mid front
  further : (n : ℕ) → place_after 10 n ≡ place_after 0 (length front + n)
  again : (rest : List ℕ) → GivesHeader (Some (front ++ rest)) (Some rest) (Ok (form, count)) (header_at (input_at 0 (Some (front ++ rest))))

header_always : (old mid : Option (List ℕ)) (form : Form) (count : ℕ) → IsTold old → GivesHeader old mid (Ok (form, count)) (header_at (input_at 0 old)) → HeaderAlways old mid form count
header_always old mid form count told gives =
    let (told', (place, at)) = gives told in
    let t = header_steady.takes (input_at 0 old) (form, count) (input_at place mid) at in
    let ten : place ≡ 10 = header_is_ten (input_at 0 old).bytes (form, count) (input_at place mid) at in
    record {
      front = t.front;
      consumed = known_front old mid t.front 0 place told told' t.parts;
      further = λ n. ap (λ (k : ℕ). place_after k n) (sym ten) ∙ t.further n;
      again = λ rest. λ known. (refl, (place, t.again rest));
    }

-- a read failed in the sections
pub old_sections_cut_short : (old mid new : Option (List ℕ)) (form : Form) (count : ℕ) (e : CertFault) → GivesHeader old mid (Ok (form, count)) (header_at (input_at 0 old))
    → IsNumberOfPrograms count → HasReadOld mid new (λ front. LackSection form 0 count (input_at 10 (Some front)) (place_after 10 (length front))) e → HasReadOld old new IsUnbrokenOld e
old_sections_cut_short old mid new form count (cert.Form p) gives programs has = tt
old_sections_cut_short old mid new form count cert.Write gives programs has = tt
old_sections_cut_short old mid new form count (cert.OutOfMemory error) gives programs has = tt
old_sections_cut_short old mid new form count cert.Read gives programs has = λ told.
    let h = header_always old mid form count told gives in
    let (front, consumed, lacks) = has (gives told).0 in
    let p = place_after 10 (length front) in (
      h.front ++ front,
      Consumes-trans old mid new h.front front h.consumed consumed,
      record {
        answer = Err p;
        comes = section_lacks (Some (h.front ++ front)) (Some front) form count p (h.again front) programs refl lacks;
        at_end = h.further (length front) ∙ ap (place_after 0) (sym (length-append h.front front));
      },
    )

-- a read failed after all sections

consumes_none : (a b : Option (List ℕ)) → Keeps a b → Consumes a b []
consumes_none None b k = tt
consumes_none (Some xs) None k = absurd k
consumes_none (Some xs) (Some ys) k = sym k

pub old_end_not_read : (old mid last new : Option (List ℕ)) (form : Form) (count place : ℕ) (a b : Option (List ℕ)) (e : CertFault)
    → GivesHeader old mid (Ok (form, count)) (header_at (input_at 0 old)) → IsNumberOfPrograms count
    → (IsTold mid → IsTold last × AreUpgraded form 0 count (input_at 10 mid) (input_at place last) a b) → (e ≡ cert.Read → Keeps last new) → HasReadOld old new IsUnbrokenOld e
old_end_not_read old mid last new form count place a b (cert.Form p) gives programs done kept = tt
old_end_not_read old mid last new form count place a b cert.Write gives programs done kept = tt
old_end_not_read old mid last new form count place a b (cert.OutOfMemory error) gives programs done kept = tt
old_end_not_read old mid last new form count place a b cert.Read gives programs done kept = λ told.
    let h = header_always old mid form count told gives in
    let (told', all) = done (gives told).0 in
    let r = read_always form 0 (input_at 10 mid) all.families (input_at place last) all.are_read in
    let read = known_front mid last r.front 10 place (gives told).0 told' r.parts in
    let rest : AreUpgraded form 0 count (input_at 10 (Some (r.front ++ []))) (input_at place (Some [])) a b =
    record { families = all.families; are_read = r.again []; all = all.all; written = all.written } in
    let U : List ℕ → Type 0 = λ l. AreUpgraded form 0 count (input_at 10 (Some l)) (input_at place (Some [])) a b in
    let whole = subst U (append-nil r.front) rest in
    let none_left : Consumes last new [] = consumes_none last new (kept refl) in
    let C : List ℕ → Type 0 = λ l. Consumes mid new l in
    let sections = subst C (append-nil r.front) (Consumes-trans mid last new r.front [] read none_left) in (
      h.front ++ r.front,
      Consumes-trans old mid new h.front r.front h.consumed sections,
      record {
        answer = Ok count;
        comes = all_upgraded (Some (h.front ++ r.front)) (Some r.front) (Some []) form count place a b (h.again r.front) programs refl whole refl refl;
        at_end = tt;
      },
    )
