use Rattle.hintcheck_words.specs.CommandLine.{hintcheck}
use Rattle.hintcheck_words.proofs.Building.{table_added, tables_added}
use Rattle.hintcheck_words.proofs.words.command_line.command_line.Goals as goal

pub loop-table-init : goal.loop-table-init
loop-table-init c = c.in_ok-command.ensures

pub loop-table-preserved : goal.loop-table-preserved
loop-table-preserved c = table_added _ _ _ _ _ _ c.in_ok-command-2.ensures c.in_ok-subcommand_of.ensures c.loop-table-test.true c.loop-table.invariant

pub returns : goal.returns
unfolding hintcheck
returns c =
    let added = tables_added _ _ _ c.loop-table-test.false c.loop-table.invariant in
    added
