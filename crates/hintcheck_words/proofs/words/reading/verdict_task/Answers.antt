use Rattle.std.proofs.Common.{refl, true, false, ◌≡◌, ◌∙◌, sym, codes}
use Rattle.clap.specs.Words.{found_of, rows_of}
use Rattle.hintcheck_words.specs.Requests.{asked, flag_in, verdict_request}
use Rattle.hintcheck_words.proofs.words.reading.verdict_task.Goals as goal

pub returns-then-is_given : goal.returns-then-is_given
unfolding verdict_request
returns-then-is_given c =
    let given : flag_in (rows_of (found_of c.args.values.now)) (codes "JSON") ≡ true = sym c.is_given.ensures ∙ c.if-is_given.true in
    rw (given, ← c.profile_or_strict.ensures) c.json_task.ensures

pub returns : goal.returns
unfolding asked verdict_request
returns c =
    let absent : flag_in (rows_of (found_of c.args.values.now)) (codes "JSON") ≡ false = sym c.is_given.ensures ∙ c.if-is_given.false in
    rw (absent, c.in_ok-text.ensures, c.verdict_options.ensures) refl
