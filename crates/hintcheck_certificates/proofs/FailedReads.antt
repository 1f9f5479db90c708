-- Calls of a session read no byte past what they read, so that what was read before a failed read is refused nowhere but at its end.
use Rattle.std.proofs.Common.{◌≡◌, ℕ, ◌+◌, Bool, cond, true, false, List, [], ◌++◌, length, Option, Some, None, Result, Ok, Err, refl, sym, ◌∙◌, ap, subst, arith, append_assoc, zero-add}
use Rattle.std.specs.Prelude.{IfErr}
use Rattle.std.specs.Int.{w16, w32, from_be_bytes}
use Rattle.std.specs.Io.KnownBytes.{Consumes, Keeps}
use Rattle.std.proofs.KnownBytes.{Consumes-trans}
use Rattle.std.proofs.lemmas.List.{length-append}
use Rattle.tt_family.specs.Contents.{Contents}
use Rattle.tt_cert.specs.Answers.{CountsRead, StopsAtEnd, input_at}
use Rattle.tt_setting.specs.declared.cert_fault.CertFault.{CertFault}
use Rattle.tt_setting.specs.declared.cert_fault.CertFault.TheVariants as cert
use Rattle.tt_cert.specs.declared.form.Form.{Form}
use Rattle.tt_setting.specs.declared.name.Name.{Name}
use Rattle.tt_cert.specs.Forms.{form_of}
use Rattle.tt_cert.specs.Readers.{Answer, Input, and_then, given, list_at, place_after, unit}
use Rattle.tt_cert.specs.Reading.{contexts_at, entry_at, fields_at, form_at, header_at, header_from, is_magic, long_at, magic_at, name_at, section_at, section_from, states_at, word_at}
use Rattle.tt_cert.specs.Sections.{section_of}
use Rattle.tt_cert.proofs.Codecs.{bind_ok, here, ok_is, unit_takes}
use Rattle.tt_cert.proofs.Steady.{IsSteady, and_then_steady, list_steady, made_of_steady, step, step_steady}
use Rattle.tt_cert.proofs.SteadyUnits.{contexts_steady, entry_steady, form_steady, long_steady, magic_steady, name_steady}
use Rattle.tt_font.specs.Reading.{FontData}
use Rattle.hintcheck_report.specs.AnswerFaults.{fault_of_certificate}
use Rattle.hintcheck_certificates.specs.Certificates.{HasNoSection, IsSectionOf, not_read}
use Rattle.hintcheck_certificates.specs.CheckedFonts.{IsTold}
use Rattle.hintcheck_certificates.specs.FailedReads.{EndsInCall, EndsInSection, HasRead, IsCutHeader, after_all, in_header, in_section, in_sections}
use Rattle.hintcheck_certificates.specs.Representation.SessionStages.{read_of}
use Rattle.hintcheck_certificates.specs.Sessions.{AnswersNext, IsFaultAt, IsLast, IsOutcomeBySection, ReadsOn, Standing, at_header, cvt_fails, cvt_passes, font_fails, font_passes, glyph_fails, glyph_passes, standing_at, where_it_was}
use Rattle.hintcheck_programs.specs.Stages.{Stage}
use Rattle.hintcheck_report.specs.declared.answer_fault.AnswerFault.{AnswerFault}
use Rattle.hintcheck_report.specs.declared.answer_fault.AnswerFault.TheVariants as fault
use Rattle.hintcheck_certificates.specs.declared.sections.Progress.{Progress}
use Rattle.hintcheck_programs.specs.declared.report.Outcome.{Outcome}

-- a header has ten bytes

record Advances {A : Type 0} (read : Input → Answer A) (k : ℕ) : Type 0 where
  by : (i : Input) (x : A) (j : Input) → read i ≡ Ok (x, j) → (m : ℕ) → place_after j.place m ≡ place_after i.place (k + m)

unit_advances : (n : ℕ) → Advances (unit n) n
unit_advances n = record { by = λ i u j e m. let t = unit_takes n i u j e in omega (arith, t.0.place, t.1) }

done_advances : {A : Type 0} (x : A) → Advances (λ i. Ok (x, i)) 0
done_advances {A} x = record {
  by = λ i y j e m. ap (λ (p : A × Input). place_after p.1.place m) (sym (ok_is (x, i) (y, j) e)) ∙ ap (place_after i.place) (sym (zero-add m));
}

refused_advances : {A : Type 0} (place k : ℕ) → Advances {A = A} (λ i. Err place) k
refused_advances place k = record { by = λ i x j e m. absurd cc }

given_advances : {A : Type 0} (place : ℕ) (o : Option A) → Advances (given place o) 0
given_advances place None = refused_advances place 0
given_advances place (Some x) = done_advances x

rule_advances : {A : Type 0} (b : Bool) (place : ℕ) (x : A) → Advances (λ i. cond b (Ok (x, i)) (Err place)) 0
rule_advances true place x = done_advances x
rule_advances false place x = refused_advances place 0

step_advances : {A B : Type 0} (first : Input → Answer A) (next : ℕ → A → Input → Answer B) (k l : ℕ) → Advances first k → ((p : ℕ) (x : A) → Advances (next p x) l) → Advances (step first next) (k + l)
step_advances first next k l one two = record {
  by = λ i x j e m.
      let b = bind_ok (first i) (λ a. next i.place a.0 a.1) (x, j) e in
      let long : k + (l + m) ≡ k + l + m = omega arith in
      (two i.place b.0.0).by b.0.1 x j b.2 m ∙ one.by i b.0.0 b.0.1 b.1 (l + m) ∙ ap (place_after i.place) long;
}

word_advances : Advances word_at 2
unfolding word_at
word_advances = step_advances (unit 2) (λ _ u j. Ok (from_be_bytes w16 u, j)) 2 0 (unit_advances 2) (λ _ u. done_advances (from_be_bytes w16 u))

long_advances : Advances long_at 4
unfolding long_at
long_advances = step_advances (unit 4) (λ _ u j. Ok (from_be_bytes w32 u, j)) 4 0 (unit_advances 4) (λ _ u. done_advances (from_be_bytes w32 u))

magic_advances : Advances magic_at 4
unfolding magic_at
magic_advances = step_advances long_at (λ p x j. cond (is_magic x) (Ok (x, j)) (Err p)) 4 0 long_advances (λ p x. rule_advances (is_magic x) p x)

form_advances : Advances form_at 2
unfolding form_at
form_advances = step_advances word_at (λ p n j. given p (form_of n) j) 2 0 word_advances (λ p n. given_advances p (form_of n))

both_advance : {A B : Type 0} (first : Input → Answer A) (second : A → Input → Answer B) (k l : ℕ) → Advances first k → ((x : A) → Advances (second x) l) → Advances (and_then first second) (k + (l + 0))
both_advance {A} {B} first second k l one two =
    step_advances first (λ _ x. step (second x) (λ _ y j. Ok ((x, y), j))) k (l + 0) one
    (λ _ x. step_advances (second x) (λ _ y j. Ok ((x, y), j)) l 0 (two x) (λ _ y. done_advances (x, y)))

header_advances : Advances header_at 10
unfolding header_at
header_advances =
    step_advances (and_then magic_at (λ _. and_then form_at (λ _. long_at))) (λ _ x j. Ok (header_from x, j)) 10 0
    (both_advance magic_at (λ _. and_then form_at (λ _. long_at)) 4 6 magic_advances (λ _. both_advance form_at (λ _. long_at) 2 4 form_advances (λ _. long_advances)))
    (λ _ x. done_advances (header_from x))

pub header_is_ten : (bytes : List ℕ) (x : Form × ℕ) (j : Input) → header_at (here 0 bytes) ≡ Ok (x, j) → j.place ≡ 10
header_is_ten bytes x j e = omega (arith, header_advances.by (here 0 bytes) x j e 0)

-- a section and a header

states_steady : (form : Form) (contexts : ℕ) → IsSteady (states_at form contexts)
unfolding states_at
states_steady form contexts =
    step_steady long_at (λ _ n. list_at (entry_at form contexts) [] n) long_steady (λ _ n. list_steady (entry_at form contexts) (entry_steady form contexts) n [])

pub section_steady : (form : Form) → IsSteady (section_at form)
unfolding section_at
section_steady form =
    made_of_steady section_from (fields_at form)
    (and_then_steady name_at _ name_steady
    (λ _. and_then_steady (contexts_at form) (λ contexts. states_at form (length contexts + 1)) (contexts_steady form) (λ contexts. states_steady form (length contexts + 1))))

pub header_steady : IsSteady header_at
unfolding header_at
header_steady =
    made_of_steady header_from (and_then magic_at (λ _. and_then form_at (λ _. long_at)))
    (and_then_steady magic_at _ magic_steady (λ _. and_then_steady form_at _ form_steady (λ _. long_steady)))

-- known bytes

pub known_front : (old new : Option (List ℕ)) (front : List ℕ) (at there : ℕ) → IsTold old → IsTold new → (input_at at old).bytes ≡ front ++ (input_at there new).bytes → Consumes old new front
known_front None new front at there told told' parts = tt
known_front (Some xs) None front at there told told' parts = absurd cc
known_front (Some xs) (Some ys) front at there told told' parts = parts

-- where a session reads on, whatever follows

-- the place of the next byte
abbrev pub place_so_far : Option (Form × ℕ) → ℕ
place_so_far None = 0
place_so_far (Some read) = read.1

record ReadsOnAlways (s : Standing) (old : Option (List ℕ)) (form : Form) (from : Input) : Type 0 where
  front : List ℕ
  parts : (input_at 0 old).bytes ≡ front ++ from.bytes
  further : (n : ℕ) → place_after from.place n ≡ place_after (place_so_far s.read) (length front + n)
  again : (rest : List ℕ) → ReadsOn s (Some (front ++ rest)) form (here from.place rest)

reads_on_always : (s : Standing) (old : Option (List ℕ)) (form : Form) (from : Input) → ReadsOn s old form from → ReadsOnAlways s old form from
reads_on_always s old form from (where_it_was form1 place is) = record {
  front = [];
  parts = refl;
  further = λ n. ap (λ (r : Option (Form × ℕ)). place_after (place_so_far r) n) (sym is) ∙ ap (place_after (place_so_far s.read)) (sym (zero-add n));
  again = λ rest. where_it_was form place is;
}
reads_on_always s old form from (at_header form1 i none header) =
    let t = header_steady.takes (input_at 0 old) (form, length s.font.glyphs + 2) i header in
    let ten = header_is_ten (input_at 0 old).bytes (form, length s.font.glyphs + 2) i header in
    record {
      front = t.front;
      parts = t.parts;
      further = λ n.
          ap (λ (k : ℕ). place_after k n) (sym ten) ∙ t.further n
          ∙ ap (λ (r : Option (Form × ℕ)). place_after (place_so_far r) (length t.front + n)) (sym none);
      again = λ rest. at_header form (here i.place rest) none (t.again rest);
    }

-- an outcome, whatever follows its section

record SectionAlways (form : Form) (i : Input) (called : Name) (family : Contents) (after : Input) : Type 0 where
  front : List ℕ
  parts : i.bytes ≡ front ++ after.bytes
  further : (n : ℕ) → place_after after.place n ≡ place_after i.place (length front + n)
  again : (rest : List ℕ) → IsSectionOf form (here i.place (front ++ rest)) called family (here after.place rest)

section_always : (form : Form) (i : Input) (called : Name) (family : Contents) (after : Input) → IsSectionOf form i called family after → SectionAlways form i called family after
section_always form i called family after is =
    let t = (section_steady form).takes i (section_of called family) after is.is_read in
    record { front = t.front; parts = t.parts; further = t.further; again = λ rest. record { in_order = is.in_order; is_read = t.again rest } }

record OutcomeAlways (d : FontData) (form : Form) (i after : Input) (s : Stage) (o : Outcome) (t : Stage) : Type 0 where
  front : List ℕ
  parts : i.bytes ≡ front ++ after.bytes
  further : (n : ℕ) → place_after after.place n ≡ place_after i.place (length front + n)
  again : (rest : List ℕ) → IsOutcomeBySection d form (here i.place (front ++ rest)) (here after.place rest) s o t

with_section : (d : FontData) (form : Form) (i after : Input) (called : Name) (family : Contents) (s : Stage) (o : Outcome) (t : Stage) → IsSectionOf form i called family after
    → ((j end : Input) → IsSectionOf form j called family end → IsOutcomeBySection d form j end s o t) → OutcomeAlways d form i after s o t
with_section d form i after called family s o t is then =
    let a = section_always form i called family after is in
    record {
      front = a.front;
      parts = a.parts;
      further = a.further;
      again = λ rest. then (here i.place (a.front ++ rest)) (here after.place rest) (a.again rest);
    }

outcome_always : (d : FontData) (form : Form) (i after : Input) (s : Stage) (o : Outcome) (t : Stage) → IsOutcomeBySection d form i after s o t → OutcomeAlways d form i after s o t
outcome_always d form i after s o t (font_passes family f functions section passes) =
    with_section d form i after _ family s o t section (λ j end is. font_passes family f functions is passes)
outcome_always d form i after s o t (font_fails family r section refusal) =
    with_section d form i after _ family s o t section (λ j end is. font_fails family r is refusal)
outcome_always d form i after s o t (cvt_passes f p functions known family section passes) =
    with_section d form i after _ family s o t section (λ j end is. cvt_passes f p functions known family is passes)
outcome_always d form i after s o t (cvt_fails f functions family r section refusal) =
    with_section d form i after _ family s o t section (λ j end is. cvt_fails f functions family r is refusal)
outcome_always d form i after s o t (glyph_passes f p known id g family instructions there section passes) =
    with_section d form i after _ family s o t section (λ j end is. glyph_passes f p known id g family instructions there is passes)
outcome_always d form i after s o t (glyph_fails f p known id g family r there section refusal) =
    with_section d form i after _ family s o t section (λ j end is. glyph_fails f p known id g family r there is refusal)

-- the answer of a call, whatever follows

pub record NextAlways (s : Standing) (old : Option (List ℕ)) (o : Outcome) (t : Standing) (new : Option (List ℕ)) : Type 0 where
  pub front : List ℕ
  pub consumed : Consumes old new front
  pub further : (n : ℕ) → place_after (place_so_far t.read) n ≡ place_after (place_so_far s.read) (length front + n)
  pub again : (rest : List ℕ) → AnswersNext s (Some (front ++ rest)) (Some o) t (Some rest)

pub next_always : (s t : Standing) (old new : Option (List ℕ)) (o : Outcome) → IsTold old → IsTold new → AnswersNext s old (Some o) t new → NextAlways s old o t new
next_always s t old new o told told' a =
    let r = reads_on_always s old a.form a.from a.reads_on in
    let u = outcome_always s.font a.form a.from (input_at a.place new) s.stage o t.stage a.answers in
    let parts = r.parts ∙ ap (λ (l : List ℕ). r.front ++ l) u.parts ∙ sym (append_assoc r.front u.front (input_at a.place new).bytes) in
    record {
      front = r.front ++ u.front;
      consumed = known_front old new (r.front ++ u.front) 0 a.place told told' parts;
      further = λ n.
          let long : length r.front + (length u.front + n) ≡ length (r.front ++ u.front) + n = omega (arith, length-append r.front u.front) in
          ap (λ (k : Option (Form × ℕ)). place_after (place_so_far k) n) a.read_is ∙ u.further n ∙ r.further (length u.front + n)
          ∙ ap (place_after (place_so_far s.read)) long;
      again = λ rest.
          let R : List ℕ → Type 0 = λ l. ReadsOn s (Some l) a.form (here a.from.place (u.front ++ rest)) in
          record {
            form = a.form;
            from = here a.from.place (u.front ++ rest);
            reads_on = subst R (sym (append_assoc r.front u.front rest)) (r.again (u.front ++ rest));
            place = a.place;
            read_is = a.read_is;
            answers = u.again rest;
          };
    }

-- where a call reads on ends as far from the first byte as the bytes are long
pub ends_there : (s : Standing) (front : List ℕ) (form : Form) (from : Input) → ReadsOn s (Some front) form from
    → place_after from.place (length from.bytes) ≡ place_after (place_so_far s.read) (length front)
ends_there s front form from reads =
    let r = reads_on_always s (Some front) form from reads in
    let long : length r.front + length from.bytes ≡ length front = sym (length-append r.front from.bytes) ∙ ap length (sym r.parts) in
    r.further (length from.bytes) ∙ ap (place_after (place_so_far s.read)) long

-- a read failed

-- in a section
pub section_cut_short : (d : FontData) (form : Form) (stage : Stage) (called : Name) (place : ℕ) (old new : Option (List ℕ)) (e : CertFault) (a b : ℕ) → CountsRead {T = Unit {0}} (Err e) a b
    → ((i : Input) (at : ℕ) → HasNoSection form i called at → IsFaultAt d form i stage at) → StopsAtEnd place old new (section_at form) e
    → HasRead old new (λ front. EndsInSection d form stage (input_at place (Some front))) (fault_of_certificate e)
section_cut_short d form stage called place old new (cert.Form at) a b counted no_section stops = tt
section_cut_short d form stage called place old new cert.Write a b counted no_section stops = absurd counted
section_cut_short d form stage called place old new (cert.OutOfMemory error) a b counted no_section stops = tt
section_cut_short d form stage called place old new cert.Read a b counted no_section stops = λ told.
    let s = stops told in
    let at = place_after place (length s.front) in
    (s.front, s.consumed, in_section (no_section (input_at place (Some s.front)) at (not_read at s.refused)))

-- in a header
pub header_cut_short : (old new : Option (List ℕ)) (e : CertFault) (a b : ℕ) → CountsRead {T = Unit {0}} (Err e) a b → StopsAtEnd 0 old new header_at e → HasRead old new IsCutHeader (fault_of_certificate e)
header_cut_short old new (cert.Form at) a b counted stops = tt
header_cut_short old new cert.Write a b counted stops = absurd counted
header_cut_short old new (cert.OutOfMemory error) a b counted stops = tt
header_cut_short old new cert.Read a b counted stops = λ told. let s = stops told in (s.front, s.consumed, s.refused)

-- nothing was read after all sections
pub end_not_read : (d : FontData) (form : Form) (stage : Stage) (place : ℕ) (old new : Option (List ℕ)) (e : CertFault) (a b : ℕ) → CountsRead {T = Unit {0}} (Err e) a b
    → IsLast d stage → (e ≡ cert.Read → Keeps old new)
    → HasRead old new (λ front. EndsInSection d form stage (input_at place (Some front))) (fault_of_certificate e)
end_not_read d form stage place old new (cert.Form at) a b counted last kept = tt
end_not_read d form stage place old new cert.Write a b counted last kept = absurd counted
end_not_read d form stage place old new (cert.OutOfMemory error) a b counted last kept = tt
end_not_read d form stage place old new cert.Read a b counted last kept = λ told. ([], consumes_none old new (kept refl), after_all last refl)
  where
    consumes_none : (a b : Option (List ℕ)) → Keeps a b → Consumes a b []
    consumes_none None b k = tt
    consumes_none (Some xs) None k = absurd k
    consumes_none (Some xs) (Some ys) k = sym k

-- what was read has this too
pub has_read_weaker : (old new : Option (List ℕ)) (Is Also : List ℕ → Type 0) (e : AnswerFault) → ((front : List ℕ) → Is front → Also front) → HasRead old new Is e → HasRead old new Also e
has_read_weaker old new Is Also (fault.Form place) so has = tt
has_read_weaker old new Is Also (fault.Font font) so has = tt
has_read_weaker old new Is Also fault.Write so has = tt
has_read_weaker old new Is Also (fault.Print failed) so has = tt
has_read_weaker old new Is Also (fault.Exhausted by) so has = tt
has_read_weaker old new Is Also fault.Read so has = λ told. let (front, consumed, is) = has told in (front, consumed, so front is)

-- after the header
pub cut_short_after : (s : Standing) (form : Form) (place : ℕ) (old mid new : Option (List ℕ)) (e : AnswerFault) → (IsTold old → IsTold mid × ReadsOn s old form (input_at place mid))
    → HasRead mid new (λ front. EndsInSection s.font form s.stage (input_at place (Some front))) e → HasRead old new (EndsInCall s) e
cut_short_after s form place old mid new (fault.Form at) reads has = tt
cut_short_after s form place old mid new (fault.Font font) reads has = tt
cut_short_after s form place old mid new fault.Write reads has = tt
cut_short_after s form place old mid new (fault.Print failed) reads has = tt
cut_short_after s form place old mid new (fault.Exhausted by) reads has = tt
cut_short_after s form place old mid new fault.Read reads has = λ told.
    let (told', on) = reads told in
    let r = reads_on_always s old form (input_at place mid) on in
    let (front, consumed, ends) = has told' in (
      r.front ++ front,
      Consumes-trans old mid new r.front front (known_front old mid r.front 0 place told told' r.parts) consumed,
      in_sections form (input_at place (Some front)) (r.again front) ends,
    )

-- a header that isn't read is what is next
pub header_cut_short_in : {T : Type 0} (d : FontData) (stage : Stage) (known : Option Progress) → known ≡ None → (r : Result T AnswerFault) (old new : Option (List ℕ))
    → IfErr r (HasRead old new IsCutHeader) → IfErr r (HasRead old new (EndsInCall (standing_at d stage (read_of known))))
header_cut_short_in d stage known none (Ok x) old new has = tt
header_cut_short_in d stage known none (Err e) old new has =
    let unread : read_of known ≡ None = ap read_of none in
    has_read_weaker old new IsCutHeader (EndsInCall (standing_at d stage (read_of known))) e (λ front cut. in_header unread cut) has
