use Rattle.std.proofs.Common.{◌≡◌, ℕ, List, subst, sym}
use Rattle.std.specs.Prelude.{Option}
use Rattle.std.specs.Option.{IsSome}
use Rattle.std.proofs.lemmas.Bool.{false≢true}
use Rattle.std.specs.Result.{OnOk}
use Rattle.tt_setting.specs.EntryLists.{IsAt, IsGap}
use Rattle.tt_setting.proofs.EntryEdits.{listed-gap, with-at, with-gap}
use Rattle.tt_setting.proofs.sorted_map.put_entry.Goals as goal

pub returns-in-Ok-clause-ok : goal.returns-in-Ok-clause-ok
returns-in-Ok-clause-ok g c =
    let At = λ (es : List (ℕ × g.row.T.Denot)). IsAt c.args.number es c.in-Ok.at in
    sym (with-at c.args.number c.args.value c.args.entries.now.items c.in-Ok.at (subst At c.as_slice.ensures.value c.in-Ok.ensures.place))

pub returns-in-Err-clause-ok : goal.returns-in-Err-clause-ok
returns-in-Err-clause-ok g c =
    let Gap = λ (es : List (ℕ × g.row.T.Denot)). IsGap c.args.number es c.in-Err.at in
    let New = λ (es : List (ℕ × g.row.T.Denot)). OnOk c.insert_entry.result (c.insert_entry.new.entries.items ≡ es) in
    subst New (sym (with-gap c.args.number c.args.value c.args.entries.now.items c.in-Err.at (subst Gap c.as_slice.ensures.value c.in-Err.ensures.place)))
    c.insert_entry.ensures.ok

pub returns-in-Err-clause-replaced : goal.returns-in-Err-clause-replaced
returns-in-Err-clause-replaced g c =
    let Gap = λ (es : List (ℕ × g.row.T.Denot)). IsGap c.args.number es c.in-Err.at in
    let Is = λ (o : Option (g.row.T.Denot)). IsSome o in
    λ h. absurd (false≢true (subst Is (listed-gap c.args.number c.args.entries.now.items c.in-Err.at (subst Gap c.as_slice.ensures.value c.in-Err.ensures.place)) h))
