use Rattle.std.proofs.Common.{refl}
use Rattle.hintcheck_words.specs.Requests.{asked, list_request}
use Rattle.hintcheck_words.proofs.words.reading.list_task.Goals as goal

pub returns : goal.returns
unfolding asked list_request
returns c = rw (c.in_ok-text.ensures, c.in_ok-text-2.ensures, c.list_options.ensures) refl
