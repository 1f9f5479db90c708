use Rattle.std.proofs.Common.{refl}
use Rattle.hintcheck_words.specs.Requests.{asked, find_request}
use Rattle.hintcheck_words.proofs.words.reading.find_task.Goals as goal

pub returns : goal.returns
unfolding asked find_request
returns c = rw (c.in_ok-text.ensures, c.in_ok-text-2.ensures, c.certificate_options.ensures) refl
