use Rattle.std.proofs.Common.{refl}
use Rattle.hintcheck_words.specs.Requests.{asked, upgrade_request}
use Rattle.hintcheck_words.proofs.words.reading.upgrade_task.Goals as goal

pub returns : goal.returns
unfolding asked upgrade_request
returns c = rw (c.in_ok-text.ensures, c.in_ok-text-2.ensures, c.asked_max_bytes.ensures) refl
