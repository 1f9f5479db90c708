use Rattle.std.proofs.Common.{◌≡◌, map, take}
use Rattle.clap.specs.Words.{app_of}
use Rattle.hintcheck_words.specs.CommandLine.{taking}
use Rattle.hintcheck_words.specs.Representation.Tables.{rule_of_parameter}
use Rattle.hintcheck_words.proofs.words.command_line.subcommand_of.Given as goal

abbrev pub invariant-loop-parameter : goal.invariant-loop-parameter
invariant-loop-parameter l = app_of l.command ≡ taking l.table.name.now (map rule_of_parameter (take l.parameter-index l.table.parameters.now))
