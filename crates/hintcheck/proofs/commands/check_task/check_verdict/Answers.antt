use Rattle.std.proofs.Common.{refl}
use Rattle.hintcheck.proofs.commands.check_task.check_verdict.Goals as goal

pub returns-in-Ok-clause-given : goal.returns-in-Ok-clause-given
returns-in-Ok-clause-given g c =
    let d = c.in_ok-font.font in
    let bytes = c.deref.result.now in
    let reads = c.in_ok-font.ensures.reads in
    let told = c.in-Ok.ensures in
    record {
      given = (refl, (bytes, record { font = d; reads = reads; programs = told.programs; safe = told.safe }));
      safe = λ none. (bytes, record { font = d; reads = reads; safe = told.safe none });
      refused = λ some. (bytes, record { font = d; reads = reads });
      none = tt;
    }

pub returns-clause-faults : goal.returns-clause-faults
returns-clause-faults g c = (c.of_certificate.ensures.checking c.in-Err.ensures.faults, c.of_certificate.ensures.unwritten c.in-Err.ensures.unwritten)
