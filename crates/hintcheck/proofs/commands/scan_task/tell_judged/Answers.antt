use Rattle.std.proofs.Common.{◌≡◌, ◌∙◌, ℕ, false, refl, subst, sym}
use Rattle.std.proofs.lemmas.Result.{on_ok_weaker}
use Rattle.hintcheck_explain.specs.Texts.{WritesFirst}
use Rattle.hintcheck.specs.JsonObjects.{beginning, request_name}
use Rattle.hintcheck.specs.Representation.Known.{are_alone}
use Rattle.hintcheck.specs.Representation.ScannedFiles.{label_of}
use Rattle.hintcheck.specs.Scans.{is_silent, judged}
use Rattle.hintcheck.proofs.ScannedLines.{json_alone, tells_nothing, tells_object}
use Rattle.hintcheck.proofs.commands.scan_task.tell_judged.Goals as goal

pub returns-then-is_silent-clause-written : goal.returns-then-is_silent-clause-written
returns-then-is_silent-clause-written g c =
    let plan = c.args.plan in
    let given = c.args.font.judged.now in
    tells_nothing plan.options (are_alone plan.options plan.known.now) (label_of c.args.font.label) given.by given.verdict (g.O.Sink.contents c.args.out.now) (sym c.is_silent.ensures ∙ c.if-is_silent.true)

pub returns-in-Json-clause-written : goal.returns-in-Json-clause-written
returns-in-Json-clause-written g c =
    let contents = g.O.Sink.contents in
    let plan = c.args.plan in
    let label = label_of c.args.font.label in
    let given = c.args.font.judged.now in
    let loud : is_silent plan.options (judged given.by given.verdict) ≡ false = sym c.is_silent.ensures ∙ c.if-is_silent.false in
    let old = contents c.args.out.now in
    let new = contents c.print_verdict_object.new.out in
    on_ok_weaker c.print_verdict_object.result
    (λ first. tells_object plan.options (are_alone plan.options plan.known.now) label (judged given.by given.verdict) old new (json_alone plan.options plan.known.now c.in-Json.is) loud c.in-Json.is
    (subst (λ (status : ℕ). WritesFirst (beginning label (request_name given.by) status) old new) c.verdict_status-status.ensures first))
    c.print_verdict_object.ensures.written
