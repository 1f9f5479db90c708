use Rattle.std.proofs.Common.{refl}
use Rattle.hintcheck_words.specs.Requests.{asked, check_request}
use Rattle.hintcheck_words.proofs.words.reading.check_task.Goals as goal

pub returns : goal.returns
unfolding asked check_request
returns c = rw (c.in_ok-text.ensures, c.in_ok-text-2.ensures, c.certificate_options.ensures) refl
