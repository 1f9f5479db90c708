-- What adding an argument or a subcommand makes of a command.
use Rattle.std.proofs.Common.{refl, ◌≡◌, ◌∙◌, ◌<◌, ◌≤◌, ◌+◌, ℕ, ap, ap₂, sym, true, false, List, [], ◌∷◌, get_or, length, map, take}
use Rattle.std.specs.Prelude.{fold}
use Rattle.std.proofs.lemmas.List.{map-append, take_all, take_more}
use Rattle.std.proofs.lemmas.List.Sums.{fold-append}
use Rattle.clap.specs.Words.{AddsArg, AddsSubcommand, App, Rule, Text, app_of, new_app, rule_of, with_rule, with_subcommand}
use Rattle.clap.specs.declared.builder.arg.Arg.{Arg}
use Rattle.clap.specs.declared.builder.command.Command.{Command}
use Rattle.clap.proofs.SimpleLemmas.{plain_fields}
use Rattle.hintcheck_words.specs.CommandLine.{program, taking}
use Rattle.hintcheck_words.specs.Representation.Tables.{app_of_table, rule_of_parameter}
use Rattle.hintcheck_words.specs.declared.words.command_line.Subcommand.{Subcommand}

-- what is made of one more element of a list
one_more : {X Y Z : Type 0} (add : Y → Z → Y) (start : Y) (f : X → Z) (xs : List X) (i : ℕ) (d : X) → i < length xs → fold add start (map f (take (i + 1) xs)) ≡ add (fold add start (map f (take i xs))) (f (get_or xs i d))
one_more add start f xs i d within =
    ap (λ ys. fold add start (map f ys)) (take_more xs i d within) ∙ ap (fold add start) (map-append f (take i xs) (get_or xs i d ∷ [])) ∙ fold-append add start (map f (take i xs)) (f (get_or xs i d) ∷ [])

-- one more argument or option of a table
pub parameter_added : {X : Type 0} (rule_in : X → Rule) (name : Text) (xs : List X) (i : ℕ) (d : X) (old new : Command) (a : Arg) → AddsArg old a new → a.global ≡ false → rule_of a ≡ rule_in (get_or xs i d) → i < length xs
    → app_of old ≡ taking name (map rule_in (take i xs)) → app_of new ≡ taking name (map rule_in (take (i + 1) xs))
parameter_added rule_in name xs i d old new a adds local rule within old_is =
    adds.shape local ∙ ap₂ with_rule old_is rule ∙ sym (one_more with_rule (new_app name) rule_in xs i d within)

-- arguments leave a command plain
stays_plain : (rules : List Rule) (a : App) → a.top.is_plain ≡ true → (fold with_rule a rules).top.is_plain ≡ true
stays_plain [] a plain = plain
stays_plain (r ∷ rules) a plain = stays_plain rules (with_rule a r) plain

-- the program with these subcommands
abbrev with_tables : List Subcommand → App
with_tables tables = fold (λ (a s : App). with_subcommand a s.top) program (map app_of_table tables)

-- one more subcommand of a list of tables
pub table_added : (xs : List Subcommand) (i : ℕ) (d : Subcommand) (old sub new : Command) → AddsSubcommand old sub new → app_of sub ≡ app_of_table (get_or xs i d) → i < length xs → app_of old ≡ with_tables (take i xs)
    → app_of new ≡ with_tables (take (i + 1) xs)
table_added xs i d old sub new adds sub_is within old_is =
    let table : Subcommand = get_or xs i d in
    let plain : (app_of_table table).top.is_plain ≡ true = stays_plain (map rule_of_parameter table.parameters.now) (new_app table.name.now) refl in
    let local = (plain_fields sub (ap (λ (b : App). b.top.is_plain) sub_is ∙ plain)).globals in
    adds.shape local ∙ ap₂ with_subcommand old_is (ap (λ (b : App). b.top) sub_is) ∙ sym (one_more (λ (a s : App). with_subcommand a s.top) program app_of_table xs i d within)

-- all subcommands of a list of tables
pub tables_added : (xs : List Subcommand) (i : ℕ) (new : Command) → length xs ≤ i → app_of new ≡ with_tables (take i xs) → app_of new ≡ with_tables xs
tables_added xs i new all added = added ∙ ap with_tables (take_all i xs all)
