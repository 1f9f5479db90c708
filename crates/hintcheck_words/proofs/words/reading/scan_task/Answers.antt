use Rattle.std.proofs.Common.{refl}
use Rattle.hintcheck_words.specs.Requests.{asked, scan_request}
use Rattle.hintcheck_words.proofs.words.reading.scan_task.Goals as goal

pub returns : goal.returns
unfolding asked scan_request
returns c = rw (c.in_ok-all_texts.ensures, c.scan_options.ensures, c.in_ok-scan_texts.ensures) refl
