-- From which glyph on a table `post` names none.
use Rattle.std.proofs.Common.{◌≡◌, ℕ, ◌≤◌, ◌<◌, List, length, Bool, false, None, Some, refl, ap, arith}
use Rattle.std.specs.Prelude.{nat_lt}
use Rattle.std.specs.Option.{option_and_then}
use Rattle.std.proofs.lemmas.Bool.Decides.{nat_tests}
use Rattle.std.proofs.lemmas.Option.{slice_get_past}
use Rattle.tt_names.specs.Names.{name_of_glyph, printable}
use Rattle.tt_names.specs.Post.{format_of, glyph_count, text_in}
use Rattle.tt_names.specs.Representation.NameCounts.{count_in}
use Rattle.tt_names.specs.Standard.{standard_names}
use Rattle.tt_names.specs.declared.post.Format.{Format}
use Rattle.tt_names.specs.declared.post.Format.TheVariants.{Unnamed, Standard, Listed}

standard_count : length standard_names ≡ 258
unfolding standard_names
standard_count = refl

no_text : (format : Format) (post : List ℕ) (glyph : ℕ) → count_in format post ≤ glyph → text_in format post glyph ≡ None
no_text Unnamed post glyph le = refl
no_text Standard post glyph le = let count = standard_count in slice_get_past standard_names glyph (omega arith)
no_text Listed post glyph le = let e : nat_lt glyph (glyph_count post) ≡ false = grind (arith, nat_tests) in simp e

-- no glyph past the count has a name
pub no_name : (post : List ℕ) (glyph : ℕ) → count_in (format_of post) post ≤ glyph → name_of_glyph post glyph ≡ None
unfolding name_of_glyph
no_name post glyph le = ap (option_and_then printable) (no_text (format_of post) post glyph le)

below_or_not : (a b : ℕ) (test : Bool) → nat_lt a b ≡ test → (b ≤ a → ⊥) → a < b
below_or_not a b test e not_above = grind (arith, nat_tests)

-- a glyph that has a name is below the count
pub named_below : (post name : List ℕ) (glyph : ℕ) → name_of_glyph post glyph ≡ Some name → glyph < count_in (format_of post) post
named_below post name glyph named =
    below_or_not glyph (count_in (format_of post) post) (nat_lt glyph (count_in (format_of post) post)) refl
    (λ le. let none = no_name post glyph le in cc)
