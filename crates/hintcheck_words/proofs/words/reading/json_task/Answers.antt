use Rattle.std.proofs.Common.{refl}
use Rattle.hintcheck_words.specs.Requests.{asked}
use Rattle.hintcheck_words.proofs.words.reading.json_task.Goals as goal

pub returns : goal.returns
unfolding asked
returns c = rw (c.in_ok-one_text.ensures, c.in_ok-font.ensures, c.json_options.ensures) refl
