-- From what clap tells of a parse to what the words mean.
use Rattle.std.proofs.Common.{◌≡◌, Bool, true, false, List, Option, Some, None, refl, ap, ◌∙◌, subst, sym, option_map}
use Rattle.std.specs.Prelude.{is_some}
use Rattle.std.specs.Str.{bytes_eq}
use Rattle.std.proofs.lemmas.Slice.Eq.{bytes_eq-Decides}
use Rattle.clap.specs.declared.parser.matches.ArgMatches.{ArgMatches}
use Rattle.clap.specs.Words.{has_subcommand, subcommand_name_of, subcommand_rows_of, App, Row, Text, is_simple, subcommand_of, takes}
use Rattle.clap.proofs.OnLiterals.{clap_on_literals}
use Rattle.hintcheck_words.specs.CommandLine.{hintcheck}
use Rattle.hintcheck_words.specs.Requests.{MeetsSubcommand, Request, is_taken, meaning, met, request_of}

hintcheck_simple : is_simple hintcheck ≡ true
unfolding hintcheck clap_on_literals
hintcheck_simple = refl

pub met_is : (a : App) (words : List Text) (found : Option (Text × List Row)) → a ≡ hintcheck → (is_simple a ≡ true → found ≡ subcommand_of a words) → found ≡ met words
unfolding met
met_is a words found same finds = finds (ap is_simple same ∙ hintcheck_simple) ∙ ap (λ (b : App). subcommand_of b words) same

pub takes_is : (a : App) (words : List Text) → a ≡ hintcheck → is_taken words ≡ true → takes a words ≡ true
unfolding is_taken
takes_is a words same taken = ap (λ (b : App). takes b words) same ∙ taken

option_map_map : {A B C : Type 0} (f : B → C) (g : A → B) (o : Option A) → option_map f (option_map g o) ≡ option_map (λ x. f (g x)) o
option_map_map f g None = refl
option_map_map f g (Some x) = refl

pair_is : (o : Option (Text × List Row)) (name : Text) (rows : List Row) → option_map (λ p. p.0) o ≡ Some name → option_map (λ p. p.1) o ≡ Some rows → o ≡ Some (name, rows)
pair_is None name rows e f = absurd cc
pair_is (Some p) name rows e f =
    let a : p.0 ≡ name = cc in
    let b : p.1 ≡ rows = cc in
    rw (← a, ← b) refl

-- the subcommand that a parse met has this name and these rows
pub subcommand_is : (m : ArgMatches) (name : Text) (rows : List Row) → Some name ≡ subcommand_name_of m → Some rows ≡ option_map (λ p. p.1) (subcommand_rows_of m) → subcommand_rows_of m ≡ Some (name, rows)
subcommand_is m name rows e f = pair_is _ name rows (option_map_map _ _ _ ∙ sym e) (sym f)

pub means : (words : List Text) (p : Text × List Row) (asked : Request) → met words ≡ Some p → request_of p ≡ Some asked → meaning words ≡ Some asked
unfolding meaning
means words p asked found same = rw (found, same) refl

some_mapped : {A B : Type 0} (f : A → B) (o : Option A) → is_some o ≡ true → (y : B) × (option_map f o ≡ Some y)
some_mapped f None e = absurd cc
some_mapped f (Some x) e = (f x, refl)

pub rows_met : (m : ArgMatches) → has_subcommand m ≡ true → (p : Text × List Row) × (subcommand_rows_of m ≡ Some p)
rows_met m e = some_mapped _ _ e

-- a text that is not the name of a subcommand
pub differs : (word name : Text) → (word ≡ name → ⊥) → bytes_eq name word ≡ false
differs word name other = go (bytes_eq name word) refl
  where
    go : (b : Bool) → bytes_eq name word ≡ b → b ≡ false
    go false e = refl
    go true e = absurd (other (sym ((bytes_eq-Decides name word).0 e)))

-- a subcommand that a parse met asks for something
pub asks_for : (o : Option (Text × List Row)) (p : Text × List Row) → MeetsSubcommand o → o ≡ Some p → is_some (request_of p) ≡ true
asks_for o p met e = subst (λ (q : Option (Text × List Row)). MeetsSubcommand q) e met
