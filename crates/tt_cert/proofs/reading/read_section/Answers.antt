use Rattle.std.proofs.Common.{◌≡◌, ℕ, ◌+◌, Ok, sym, ap, subst, ◌∙◌, length}
use Rattle.std.proofs.lemmas.Result.{err_from_is_err_and}
use Rattle.tt_family.specs.Contents.{Contents}
use Rattle.tt_family.specs.Contexts.{frames_of}
use Rattle.tt_cert.specs.Answers.{StopsAtEnd, input_at}
use Rattle.tt_cert.specs.Readers.{Answer}
use Rattle.tt_cert.specs.Sections.{Section, contexts_in, section_of}
use Rattle.tt_cert.proofs.Listed.{length_built, listed_back, section_fails, section_steps}
use Rattle.tt_stream.proofs.Beginnings.{consumes_then}
use Rattle.tt_cert.specs.Reading.{contexts_at, fields_at, name_at, section_at, section_from, states_at}
use Rattle.tt_cert.proofs.Stops.{stops_first, stops_made, stops_second}
use Rattle.tt_cert.proofs.SteadyUnits.{after_name, contexts_steady, name_steady}
use Rattle.tt_cert.proofs.reading.read_section.Goals as goal

pub returns-in_err-contexts-clause-beginning : goal.returns-in_err-contexts-clause-beginning
returns-in_err-contexts-clause-beginning g c = consumes_then _ _ _ c.read_name.ensures.beginning c.read_contexts.ensures.beginning

pub returns-in_err-builder-clause-beginning : goal.returns-in_err-builder-clause-beginning
returns-in_err-builder-clause-beginning g c = consumes_then _ _ _ c.read_name.ensures.beginning c.read_contexts.ensures.beginning

pub returns-in_err-builder-2-clause-beginning : goal.returns-in_err-builder-2-clause-beginning
returns-in_err-builder-2-clause-beginning g c = consumes_then _ _ _ (consumes_then _ _ _ c.read_name.ensures.beginning c.read_contexts.ensures.beginning) c.read_states.ensures.beginning

pub returns-clause-beginning : goal.returns-clause-beginning
returns-clause-beginning g c = consumes_then _ _ _ (consumes_then _ _ _ c.read_name.ensures.beginning c.read_contexts.ensures.beginning) c.read_states.ensures.beginning

pub returns-in_err-builder-2-clause-reads : goal.returns-in_err-builder-2-clause-reads
returns-in_err-builder-2-clause-reads g c =
    let p = err_from_is_err_and c.from_residual-in_err-builder-2.result c.from_residual-in_err-builder-2.ensures.1 in
    let contexts = c.in_ok-contexts.contexts.items in
    let is : c.in_ok-builder.builder.contexts ≡ frames_of contexts = c.in_ok-builder.ensures.contexts ∙ ap frames_of c.deref.ensures.value in
    rw (p.1, p.2) (λ known.
    let name = c.in_ok-name.ensures.reads known in
    let read = c.in_ok-contexts.ensures.reads name.0 in
    section_fails c.args.form _ c.in_ok-name.name _ contexts _ (length c.in_ok-builder.builder.contexts) c.in_err-builder-2.field-0.0 name.1 read.1
    (length_built contexts c.in_ok-builder.builder.contexts is) (c.in_err-builder-2.ensures.reads read.0))

pub returns-clause-reads : goal.returns-clause-reads
returns-clause-reads g c = λ known.
    let contexts = c.in_ok-contexts.contexts.items in
    let built = c.in_ok-builder.builder in
    let final = c.in_ok-builder-2.builder in
    let is : built.contexts ≡ frames_of contexts = c.in_ok-builder.ensures.contexts ∙ ap frames_of c.deref.ensures.value in
    let name = c.in_ok-name.ensures.reads known in
    let read = c.in_ok-contexts.ensures.reads name.0 in
    let states = c.in_ok-builder-2.ensures.reads read.0 in
    let whole = section_steps c.args.form _ c.in_ok-name.name _ contexts _ (length built.contexts) final.states _ name.1 read.1 (length_built contexts built.contexts is) states.1 in
    let certificate : c.of.result ≡ final = c.of.ensures in
    let back : contexts_in built.contexts ≡ contexts = listed_back contexts built is c.in_ok-builder.ensures.finished.0 c.in_ok-contexts.ensures.contexts in
    let same : contexts_in c.of.result.contexts ≡ contexts = ap (λ (v : Contents). contexts_in v.contexts) certificate ∙ ap contexts_in c.in_ok-builder-2.ensures.contexts ∙ back in
    let section : section_of c.in_ok-name.name c.of.result ≡ record { name = c.in_ok-name.name; contexts = contexts; states = final.states } =
    (λ i. record { name = c.in_ok-name.name; contexts = same i; states = (certificate i).states }) in
    let answer : Section → Answer Section = λ s. Ok (s, input_at c.in_ok-builder-2.at (g.S.Source.remaining c.read_states.new.source)) in
    (states.0, whole ∙ ap answer (sym section))

pub returns-in_err-contexts-clause-stopped : goal.returns-in_err-contexts-clause-stopped
unfolding section_at
returns-in_err-contexts-clause-stopped g c =
    let p = err_from_is_err_and c.from_residual-in_err-contexts.result c.from_residual-in_err-contexts.ensures.1 in
    let e = c.in_err-contexts.field-0.0 in
    rw (p.1, p.2) (stops_made section_from (fields_at c.args.form) _ _ _ e
    (stops_second name_at (λ _. after_name c.args.form) _ _ _ _ _ _ e name_steady c.in_ok-name.ensures.reads
    (stops_first (contexts_at c.args.form) (λ contexts. states_at c.args.form (length contexts + 1)) _ _ _ e c.in_err-contexts.ensures.stopped)))

pub returns-in_err-builder-2-clause-stopped : goal.returns-in_err-builder-2-clause-stopped
unfolding section_at
returns-in_err-builder-2-clause-stopped g c =
    let p = err_from_is_err_and c.from_residual-in_err-builder-2.result c.from_residual-in_err-builder-2.ensures.1 in
    let e = c.in_err-builder-2.field-0.0 in
    let contexts = c.in_ok-contexts.contexts.items in
    let is : c.in_ok-builder.builder.contexts ≡ frames_of contexts = c.in_ok-builder.ensures.contexts ∙ ap frames_of c.deref.ensures.value in
    let long = length_built contexts c.in_ok-builder.builder.contexts is in
    rw (p.1, p.2) (stops_made section_from (fields_at c.args.form) _ _ _ e
    (stops_second name_at (λ _. after_name c.args.form) _ _ _ _ _ _ e name_steady c.in_ok-name.ensures.reads
    (stops_second (contexts_at c.args.form) (λ contexts. states_at c.args.form (length contexts + 1)) _ _ _ _ _ contexts e (contexts_steady c.args.form) c.in_ok-contexts.ensures.reads
    (subst (λ (n : ℕ). StopsAtEnd c.in_ok-contexts.at (g.S.Source.remaining c.read_contexts.new.source) (g.S.Source.remaining c.read_states.new.source) (states_at c.args.form n) e) long
    c.in_err-builder-2.ensures.stopped))))

pub returns-in_err-name-clause-stopped : goal.returns-in_err-name-clause-stopped
unfolding section_at
returns-in_err-name-clause-stopped g c =
    let p = err_from_is_err_and c.from_residual.result c.from_residual.ensures.1 in
    let e = c.in_err-name.field-0.0 in
    rw (p.1, p.2) (stops_made section_from (fields_at c.args.form) _ _ _ e
    (stops_first name_at (λ _. after_name c.args.form) _ _ _ e c.in_err-name.ensures.stopped))
