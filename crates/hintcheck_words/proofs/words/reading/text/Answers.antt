use Rattle.std.proofs.Common.{rules, ◌∙◌, ap, ℕ, List, [], Bor, Option}
use Rattle.std.specs.Prelude.{unwrap_or}
use Rattle.std.proofs.lemmas.Result.{IfOk-weaker}
use Rattle.clap.specs.Words.{found_of}
use Rattle.clap.proofs.WalkLemmas.{first_value-rows}
use Rattle.hintcheck_words.proofs.Values.{text_or_empty}
use Rattle.hintcheck_words.proofs.words.reading.text.Goals as goal

pub returns : goal.returns
returns c =
    let given = ap (λ (s : Bor (List ℕ)). s.now) c.unwrap_or.ensures ∙ text_or_empty c.get_str.result _ (search rules) in
    let rows = ap (λ (o : Option (List ℕ)). unwrap_or o []) (c.get_str.ensures ∙ first_value-rows (found_of c.args.values.now) c.args.id.now) in
    IfOk-weaker c.from_str.result _ _ (λ t h. h ∙ given ∙ rows) c.from_str.ensures.ok
