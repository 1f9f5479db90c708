use Rattle.std.proofs.Common.{◌∙◌}
use Rattle.std.specs.Str.Parse.{ParsesBool}
use Rattle.clap.specs.Words.{found_of, one_of, rows_of}
use Rattle.clap.proofs.WalkLemmas.{one_text-rows}
use Rattle.hintcheck_words.proofs.Values.{flag_read}
use Rattle.hintcheck_words.proofs.words.reading.is_given.Goals as goal

pub returns : goal.returns
returns c =
    let f = found_of c.args.values.now in
    let same = one_text-rows f c.args.id.now in
    c.unwrap_or.ensures ∙ flag_read ParsesBool (one_of c.args.id.now (rows_of f)) c.get_one.result (λ t r g. g) (λ none. c.get_one.ensures.none (same ∙ none)) (λ t some. c.get_one.ensures.value t (same ∙ some))
