use Rattle.std.proofs.Common.{◌≡◌, map, take}
use Rattle.std.specs.Prelude.{fold}
use Rattle.clap.specs.Words.{App, app_of, with_subcommand}
use Rattle.hintcheck_words.specs.CommandLine.{program}
use Rattle.hintcheck_words.specs.Representation.Tables.{app_of_table}
use Rattle.hintcheck_words.proofs.words.command_line.command_line.Given as goal

abbrev pub invariant-loop-table : goal.invariant-loop-table
invariant-loop-table l = app_of l.command ≡ fold (λ (a s : App). with_subcommand a s.top) program (map app_of_table (take l.table-index l.table-items))
