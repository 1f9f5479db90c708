use Rattle.std.proofs.Common.{ap, map, ◌∙◌}
use Rattle.std.proofs.lemmas.List.{take_all}
use Rattle.clap.specs.Simple.{app_of_fields}
use Rattle.hintcheck_words.specs.CommandLine.{taking}
use Rattle.hintcheck_words.specs.Representation.Tables.{rule_of_parameter}
use Rattle.hintcheck_words.proofs.Building.{parameter_added}
use Rattle.hintcheck_words.proofs.words.command_line.subcommand_of.Goals as goal

pub loop-parameter-init : goal.loop-parameter-init
loop-parameter-init c = ap app_of_fields c.after_help-command.ensures ∙ ap app_of_fields c.about.ensures ∙ c.new.ensures.app

pub loop-parameter-preserved : goal.loop-parameter-preserved
loop-parameter-preserved c = parameter_added rule_of_parameter c.args.table.name.now c.args.table.parameters.now c.loop-parameter.parameter-index _ _ _ _ c.in_ok-command.ensures c.argument.ensures.local c.argument.ensures.rule c.loop-parameter-test.true c.loop-parameter.invariant

pub returns : goal.returns
returns c = c.loop-parameter.invariant ∙ ap (λ parameters. taking c.args.table.name.now (map rule_of_parameter parameters)) (take_all c.loop-parameter.parameter-index c.args.table.parameters.now c.loop-parameter-test.false)
