use Rattle.tt_cert.proofs.reading.Decoder.decode.Goals as goal

pub returns-in-Ok : goal.returns-in-Ok
returns-in-Ok g c =
    let e = c.in-Ok.ensures in
    rw c.insert.ensures.value (record {
      found = e.found;
      only = e.only;
      same = e.same;
      finished = e.finished;
      exact = e.exact;
      beginning = e.beginning;
      whole_units = e.whole_units;
      failures = e.failures;
    })
