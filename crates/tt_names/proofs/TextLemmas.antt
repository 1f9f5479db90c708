-- Texts of printable bytes.
use Rattle.std.proofs.Common.{◌≡◌, ℕ, zero, suc, ◌<◌, List, [], ◌∷◌, Bool, true, false, length, arith, Bor, ◌∙◌, sym, ap}
use Rattle.std.specs.Prelude.{◌&&◌, ◌==◌, not, IsUtf8, IsAscii, MatchResult, Option, Some, Result, Ok, Err, option_map}
use Rattle.std.specs.Result.{result_ok}
use Rattle.std.specs.Char.{is_ascii_graphic}
use Rattle.std.specs.List.{list_all}
use Rattle.std.proofs.lemmas.Bool.Decides.{nat_tests}
use Rattle.std.proofs.lemmas.Str.{IsUtf8-from_ascii}
use Rattle.tt_names.specs.Names.{is_printable, printable}

and_left : (a b : Bool) → (a && b) ≡ true → a ≡ true
and_left true b e = cc
and_left false b e = cc

and_right : (a b : Bool) → (a && b) ≡ true → b ≡ true
and_right true b e = e
and_right false b e = cc

below_128 : (b : ℕ) → is_ascii_graphic b ≡ true → b < 128
below_128 b e = grind (arith, nat_tests)

all_ascii : (text : List ℕ) → list_all is_ascii_graphic text ≡ true → IsAscii text
all_ascii [] e i = omega arith
all_ascii (b ∷ bs) e zero = below_128 b (and_left (is_ascii_graphic b) _ e)
all_ascii (b ∷ bs) e (suc i) = all_ascii bs (and_right (is_ascii_graphic b) _ e) i

-- a text that counts as a name is UTF-8
pub printable_is_utf8 : (text : List ℕ) → is_printable text ≡ true → IsUtf8 text
printable_is_utf8 text e = IsUtf8-from_ascii text (all_ascii text (and_right (not (length text == 0)) _ e))

counts : (text : List ℕ) → is_printable text ≡ true → printable text ≡ Some text
unfolding printable
counts text e = simp e

-- a text that counts as a name is read as one
pub name_of_text : {E : Type 0} (Tells : E → Type 0) (text : List ℕ) (r : Result (Bor (List ℕ)) E) (name : Option (Bor (List ℕ)))
    → is_printable text ≡ true → MatchResult r (λ s. (s.now ≡ text) × IsUtf8 text) (λ e. ¬ (IsUtf8 text) × Tells e)
    → name ≡ result_ok r → option_map (λ n. n.now) name ≡ printable text
name_of_text Tells text (Ok s) name e cases ok = ap (option_map (λ n. n.now)) ok ∙ ap Some cases.0 ∙ sym (counts text e)
name_of_text Tells text (Err u) name e cases ok = absurd (cases.0 (printable_is_utf8 text e))
