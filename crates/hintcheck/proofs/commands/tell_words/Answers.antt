use Rattle.std.proofs.Common.{◌≡◌, inl, inr, refl}
use Rattle.hintcheck_words.specs.Requests.{IsOutOfMemory}
use Rattle.hintcheck_words.specs.declared.words.TaskFault.TheVariants.{Words}
use Rattle.hintcheck.specs.Commands.{fault_of_print}
use Rattle.hintcheck.specs.CommandFaults.{IsFaultOfUsage}
use Rattle.hintcheck.specs.declared.commands.faults.CommandFault.{CommandFault}
use Rattle.hintcheck.specs.declared.commands.faults.CommandFault.TheVariants as fault
use Rattle.tt_stream.specs.declared.text.PrintFailed.{PrintFailed}
use Rattle.tt_stream.specs.declared.text.PrintFailed.TheVariants as failed
use Rattle.hintcheck.proofs.commands.tell_words.Goals as goal

-- clap's text isn't printed
unprinted : (e : PrintFailed) (f : CommandFault) → f ≡ fault_of_print e → IsFaultOfUsage f
unprinted failed.Write f is = rw is tt
unprinted failed.Format f is = rw is tt

pub returns-in-OutOfMemory-clause-told : goal.returns-in-OutOfMemory-clause-told
unfolding IsOutOfMemory
returns-in-OutOfMemory-clause-told g c = λ two. (fault.OutOfMemory, inl (rw c.in-OutOfMemory.is tt, refl), c.tell.ensures.status)

pub returns-in-Words-clause-told : goal.returns-in-Words-clause-told
unfolding IsOutOfMemory
returns-in-Words-clause-told g c = λ two. (fault.Usage (Words c.in-Words.text), inr (λ memory. rw c.in-Words.is at memory, tt), c.tell-in-Words.ensures.status)

pub returns-in-Ok-clause-help : goal.returns-in-Ok-clause-help
unfolding IsOutOfMemory
returns-in-Ok-clause-help g c = λ few. (refl, λ memory. rw c.in-Words-2.is at memory)

pub returns-clause-told : goal.returns-clause-told
unfolding IsOutOfMemory
returns-clause-told g c = λ two. (c.from.result, inr (λ memory. rw c.in-Words-2.is at memory, unprinted c.in-Err.failed c.from.result c.from.ensures), c.tell-in-Err.ensures.status)
