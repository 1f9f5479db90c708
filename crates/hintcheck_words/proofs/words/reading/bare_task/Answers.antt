use Rattle.std.proofs.Common.{refl}
use Rattle.hintcheck_words.specs.Requests.{asked, bare_request}
use Rattle.hintcheck_words.proofs.words.reading.bare_task.Goals as goal

pub returns : goal.returns
unfolding asked bare_request
returns c = rw (c.in_ok-text.ensures, c.number.ensures, c.number-2.ensures, c.number-3.ensures, c.in_ok-optional_text.ensures, c.profile_or_strict.ensures) refl
