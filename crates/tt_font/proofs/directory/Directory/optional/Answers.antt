use Rattle.std.proofs.Common.{rules}
use Rattle.tt_font.specs.Directory.{table}
use Rattle.tt_font.proofs.directory.Directory.optional.Goals as goal

pub returns-in_default-clause-table : goal.returns-in_default-clause-table
unfolding table
returns-in_default-clause-table c = search rules

pub returns-clause-table : goal.returns-clause-table
unfolding table
returns-clause-table c = search rules
