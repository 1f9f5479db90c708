use Rattle.std.proofs.Common.{◌∙◌, ap, codes, List, Option, Some, ℕ}
use Rattle.std.specs.Option.{option_map_or}
use Rattle.clap.specs.Words.{found_of}
use Rattle.clap.proofs.WalkLemmas.{first_value-rows}
use Rattle.hintcheck_words.specs.Requests.{fail_on_named}
use Rattle.hintcheck_words.specs.declared.words.FailOn.TheVariants.{Refused}
use Rattle.hintcheck_words.proofs.words.reading.asked_class.Goals as goal

pub returns-in-Some : goal.returns-in-Some
returns-in-Some c =
    c.class_named.ensures ∙ ap (λ (word : Option (List ℕ)). option_map_or fail_on_named word (Some Refused)) (c.in-Some.ensures ∙ first_value-rows (found_of c.args.values.now) (codes "CLASS"))

pub returns-in-None : goal.returns-in-None
returns-in-None c = ap (λ (word : Option (List ℕ)). option_map_or fail_on_named word (Some Refused)) (c.in-None.ensures ∙ first_value-rows (found_of c.args.values.now) (codes "CLASS"))
