use Rattle.std.proofs.Common.{[], refl, ap, map, ◌∙◌, Bor, List, ℕ, Option}
use Rattle.std.specs.Prelude.{unwrap_or}
use Rattle.std.proofs.lemmas.List.{take_all}
use Rattle.clap.specs.Words.{found_of}
use Rattle.hintcheck_words.proofs.Values.{all_of-rows, texts_or_none}
use Rattle.hintcheck_words.proofs.words.reading.all_texts.Goals as goal

pub returns : goal.returns
returns c =
    let all = ap (map (λ (s : Bor (List ℕ)). s.now)) (take_all c.loop-text.text-index c.unwrap_or-text-items.result.now c.loop-text-test.false) in
    let given = ap (λ (s : Bor (List (Bor (List ℕ)))). map (λ (v : Bor (List ℕ)). v.now) s.now) c.unwrap_or-text-items.ensures ∙ texts_or_none c.get_strs.result _ refl in
    let rows = ap (λ (o : Option (List (List ℕ))). unwrap_or o []) (c.get_strs.ensures ∙ all_of-rows (found_of c.args.values.now) c.args.id.now) in
    c.loop-text.invariant ∙ all ∙ given ∙ rows
