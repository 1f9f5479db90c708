use Rattle.std.proofs.Common.{rules, ◌∙◌, sym}
use Rattle.clap.specs.Words.{found_of, rows_of}
use Rattle.hintcheck_words.specs.Requests.{IsOutOfMemory}
use Rattle.hintcheck_words.proofs.Meanings.{asks_for, means, subcommand_is}
use Rattle.hintcheck_words.proofs.words.reading.read_words.Goals as goal

pub task_of-requires : goal.task_of-requires
task_of-requires c =
    let arm = c.in-Some in
    let is = subcommand_is c.in_ok-matches.matches arm.name.now (rows_of (found_of arm.values.now)) arm.ensures.name arm.ensures.rows in
    asks_for _ _ c.in_ok-matches.ensures.meets is

pub returns-in_err-task_of-in-Some-clause-refused : goal.returns-in_err-task_of-in-Some-clause-refused
unfolding IsOutOfMemory
returns-in_err-task_of-in-Some-clause-refused c = search rules

pub returns-clause-asked : goal.returns-clause-asked
returns-clause-asked c =
    let arm = c.in-Some in
    let is = subcommand_is c.in_ok-matches.matches arm.name.now (rows_of (found_of arm.values.now)) arm.ensures.name arm.ensures.rows in
    means _ _ _ (sym c.in_ok-matches.ensures.met ∙ is) c.in_ok-task_of-in-Some.ensures
