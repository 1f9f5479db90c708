use Rattle.std.proofs.Common.{rules, ◌∙◌, ap, sym, subst}
use Rattle.clap.specs.Words.{subcommand_rows_of, App}
use Rattle.hintcheck_words.specs.Requests.{IsOutOfMemory, MeetsSubcommand}
use Rattle.clap.proofs.CallerLemmas.{subcommand_required}
use Rattle.clap.proofs.SimpleLemmas.{plain_fields}
use Rattle.hintcheck_words.specs.CommandLine.{hintcheck}
use Rattle.hintcheck_words.proofs.Meanings.{met_is, rows_met, takes_is}
use Rattle.hintcheck_words.proofs.Names.{asks, fault_is}
use Rattle.hintcheck_words.proofs.words.reading.matches_of.Goals as goal

pub returns-in_err-command-clause-refused : goal.returns-in_err-command-clause-refused
unfolding IsOutOfMemory
returns-in_err-command-clause-refused c = search rules

pub returns-in-Ok-clause-met : goal.returns-in-Ok-clause-met
returns-in-Ok-clause-met c = met_is _ _ (subcommand_rows_of c.in-Ok.matches) c.in_ok-command.ensures (λ s. (c.in-Ok.ensures.matches s).1)

pub returns-in-Ok-clause-meets : goal.returns-in-Ok-clause-meets
unfolding hintcheck
returns-in-Ok-clause-meets c =
    let m = c.in-Ok.matches in
    let plain = plain_fields _ (ap (λ (a : App). a.top.is_plain) c.in_ok-command.ensures) in
    let has = subcommand_required _ m c.in-Ok.ensures.parsed plain.globals (ap (λ (a : App). a.top.subcommand_required) c.in_ok-command.ensures) in
    let p = rows_met m has in
    let is_met = met_is _ _ (subcommand_rows_of m) c.in_ok-command.ensures (λ s. (c.in-Ok.ensures.matches s).1) in
    let faultless = fault_is _ _ c.in_ok-command.ensures c.in-Ok.ensures.kinds in
    subst MeetsSubcommand (sym p.1) (asks _ p.0.0 p.0.1 faultless (sym is_met ∙ p.1))

pub returns-in-OutOfMemory-clause-refused : goal.returns-in-OutOfMemory-clause-refused
unfolding IsOutOfMemory
returns-in-OutOfMemory-clause-refused c = λ taken. tt

pub returns-clause-refused : goal.returns-clause-refused
unfolding IsOutOfMemory
returns-clause-refused c = λ taken. c.in_default.not-OutOfMemory (c.kind.ensures ∙ c.in-Err.ensures.passes (takes_is _ _ c.in_ok-command.ensures taken))
