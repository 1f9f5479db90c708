use Rattle.std.proofs.Common.{rules}
use Rattle.tt_font.specs.Directory.{table}
use Rattle.tt_font.proofs.directory.Directory.required.Goals as goal

pub returns-clause-table : goal.returns-clause-table
unfolding table
returns-clause-table c = search rules
