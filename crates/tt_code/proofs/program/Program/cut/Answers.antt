use Rattle.std.proofs.Common.{◌≡◌, ◌<◌, [], length, subst, rules}
use Rattle.std.proofs.lemmas.Result.{err_from_is_err_and}
use Rattle.tt_code.specs.Grammar.{IsFault}
use Rattle.tt_code.proofs.ProgramLemmas.{end_fault, no_fault, no_length, only_memory, read_kept}
use Rattle.tt_code.proofs.program.Program.cut.Goals as goal

pub returns-in_err-reading-clause-only : goal.returns-in_err-reading-clause-only
returns-in_err-reading-clause-only c = λ is cut l.
    let e = err_from_is_err_and c.from_residual.result c.from_residual.ensures.1 in
    rw (e.1, e.2) (only_memory _ is c.in_err-reading.field-0.0 cut l c.in_err-reading.ensures.err)

pub returns-then-not-is_empty-clause-unstructured : goal.returns-then-not-is_empty-clause-unstructured
returns-then-not-is_empty-clause-unstructured c = λ offset e.
    let ok = c.in_ok-reading.ensures.ok in
    let some : 0 < length c.in_ok-reading.reading.stack.items = search rules in
    let fault : IsFault ok.0 (length c.args.bytes.now) = end_fault _ ok.0 c.in_ok-reading.reading.stack.items ok.1 some ok.2.leaves in
    let same : length c.args.bytes.now ≡ offset = cc in
    (ok.0, ok.1, subst (λ k. IsFault ok.0 k) same fault)

pub returns-then-not-is_empty-clause-only : goal.returns-then-not-is_empty-clause-only
returns-then-not-is_empty-clause-only c = λ is cut l.
    let ok = c.in_ok-reading.ensures.ok in
    let some : 0 < length c.in_ok-reading.reading.stack.items = search rules in
    no_fault _ ok.0 is (length c.args.bytes.now) ok.1 cut l (end_fault _ ok.0 c.in_ok-reading.reading.stack.items ok.1 some ok.2.leaves)

pub invariant_of-result : goal.invariant_of-result
invariant_of-result c =
    let ok = c.in_ok-reading.ensures.ok in
    let short : length c.in_ok-reading.reading.stack.items ≡ 0 = search rules in
    let none : c.in_ok-reading.reading.stack.items ≡ [] = no_length _ short in
    (read_kept _ ok.0 c.in_ok-reading.reading.stack.items _ _ ok.1 ok.2 none c.requires).0

pub returns-clause-ok : goal.returns-clause-ok
returns-clause-ok c =
    let ok = c.in_ok-reading.ensures.ok in
    let short : length c.in_ok-reading.reading.stack.items ≡ 0 = search rules in
    let none : c.in_ok-reading.reading.stack.items ≡ [] = no_length _ short in
    (read_kept _ ok.0 c.in_ok-reading.reading.stack.items _ _ ok.1 ok.2 none c.requires).0.is_laid.is_cut

pub returns-clause-structured : goal.returns-clause-structured
returns-clause-structured c =
    let ok = c.in_ok-reading.ensures.ok in
    let short : length c.in_ok-reading.reading.stack.items ≡ 0 = search rules in
    let none : c.in_ok-reading.reading.stack.items ≡ [] = no_length _ short in
    (read_kept _ ok.0 c.in_ok-reading.reading.stack.items _ _ ok.1 ok.2 none c.requires).0.structured
