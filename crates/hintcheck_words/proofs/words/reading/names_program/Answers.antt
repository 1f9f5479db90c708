use Rattle.std.proofs.Common.{◌≡◌, ◌∙◌, sym, ap, refl, codes, is_some, List, Option, None, Some, option_map, Bor, ℕ}
use Rattle.clap.specs.Words.{found_of}
use Rattle.clap.proofs.WalkLemmas.{first_value-rows}
use Rattle.hintcheck_words.proofs.words.reading.names_program.Goals as goal

-- the text of a word is there where the word is
as_text : (word : Option (Bor (List ℕ))) → is_some (option_map (λ s. s.now) word) ≡ is_some word
as_text None = refl
as_text (Some s) = refl

pub returns : goal.returns
returns c =
    c.is_some.ensures ∙ sym (as_text c.get_str.result) ∙ ap (λ (word : Option (List ℕ)). is_some word) (c.get_str.ensures ∙ first_value-rows (found_of c.args.values.now) (codes "PROGRAM"))
