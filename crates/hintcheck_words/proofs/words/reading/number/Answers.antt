use Rattle.std.proofs.Common.{◌∙◌, ap, ℕ, Option, arith}
use Rattle.std.specs.Prelude.{unwrap_or}
use Rattle.std.specs.Str.Parse.{ParsesUnsigned, ExplainsUnsignedError, HasUnsignedDigitsIfOk}
use Rattle.clap.specs.Words.{found_of, one_of, rows_of}
use Rattle.clap.proofs.WalkLemmas.{one_text-rows}
use Rattle.hintcheck_words.proofs.Values.{number_read}
use Rattle.hintcheck_words.proofs.words.reading.number.Goals as goal

pub returns : goal.returns
returns c =
    let f = found_of c.args.values.now in
    let same = one_text-rows f c.args.id.now in
    c.unwrap_or.ensures ∙ ap (λ (o : Option ℕ). unwrap_or o 0) (number_read (λ bs r. ParsesUnsigned 16 10 bs r × ExplainsUnsignedError 10 bs r × HasUnsignedDigitsIfOk bs r) 16 65535 (one_of c.args.id.now (rows_of f)) c.get_one.result (omega arith) (omega arith)
    (λ t r g. g.0) (λ none. c.get_one.ensures.none (same ∙ none)) (λ t some. c.get_one.ensures.value t (same ∙ some)))
