use Rattle.std.proofs.Common.{refl, rules}
use Rattle.hintcheck_programs.proofs.FontSafety.{font_is_safe}
use Rattle.hintcheck.proofs.commands.find_task.find_verdict.Goals as goal

pub returns-clause-given : goal.returns-clause-given
returns-clause-given g c =
    let d = c.in_ok-font.font in
    let bytes = c.deref.result.now in
    let reads = c.in_ok-font.ensures.reads in
    let v = c.in_ok-verdict.verdict in
    let exact = c.in_ok-verdict.ensures.exact in
    let safe = font_is_safe d c.in_ok-font.ensures.range v exact in
    record {
      given = (refl, (bytes, record { font = d; reads = reads; given = exact; safe = safe }));
      safe = λ none. (bytes, record { font = d; reads = reads; safe = safe none });
      refused = λ some. (bytes, record { font = d; reads = reads; judgement = v; given = exact; some = some });
      none = search rules;
    }
