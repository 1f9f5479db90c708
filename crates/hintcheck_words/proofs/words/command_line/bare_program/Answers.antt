use Rattle.std.proofs.Common.{ap, true, ◌∙◌}
use Rattle.std.proofs.lemmas.Result.{IfOk-weaker}
use Rattle.clap.specs.Simple.{app_of_fields}
use Rattle.clap.specs.Words.{App}
use Rattle.hintcheck_words.proofs.words.command_line.bare_program.Goals as goal

pub returns : goal.returns
returns c =
    let required = λ (a : App). record a { top = record a.top { subcommand_required = true } } in
    let versioned = λ (a : App). record a { top = record a.top { has_version = true } } in
    let described = ap app_of_fields c.after_help.ensures ∙ ap app_of_fields c.about.ensures ∙ c.new.ensures.app in
    let complete = ap app_of_fields c.subcommand_required.ensures ∙ ap required (ap app_of_fields c.version.ensures ∙ ap versioned described) in
    IfOk-weaker c.bin_name.result _ _ (λ r h. ap app_of_fields h.0 ∙ complete) c.bin_name.ensures
