-- Each plain line of the table reads only tested operands, stores and reads only at tested indices, and changes or pushes.
use Rattle.std.proofs.Common.{◌≡◌, ℕ, List, [], ◌∷◌, refl, sym, ◌∙◌, ap, Bool, true, false}
use Rattle.std.specs.Prelude.{◌&&◌, if◌then◌else◌}
use Rattle.std.proofs.lemmas.Bool.{and_parts}
use Rattle.tt_code.specs.Table.{Meaning, Plain, Lists, Line, table, meaning_in, effect_of, is_among}
use Rattle.tt_abs.specs.Representation.Stored.{is_of_one_kind, is_tested_line}
use Rattle.tt_abs.proofs.Rows.{is_readable_line}

-- whether a plain line passes a test
abbrev passes : (Lists → Bool) → Meaning → Bool
passes test (Plain line) = test line
passes test m = true

abbrev all_pass : (Lists → Bool) → List Line → Bool
all_pass test [] = true
all_pass test (l ∷ ls) = passes test l.meaning && all_pass test ls

found_passes : (test : Lists → Bool) (ls : List Line) (code : ℕ) → all_pass test ls ≡ true → passes test (meaning_in ls code) ≡ true
found_passes test [] code h = refl
found_passes test (l ∷ ls) code h = let (one, rest) = and_parts (passes test l.meaning) (all_pass test ls) h in go (is_among l.instructions code) one (found_passes test ls code rest)
  where
    go : (b : Bool) → passes test l.meaning ≡ true → passes test (meaning_in ls code) ≡ true → passes test (if b then l.meaning else meaning_in ls code) ≡ true
    go true one rest = one
    go false one rest = rest

table_readable : all_pass is_readable_line table ≡ true
table_readable = refl

table_of_one_kind : all_pass is_of_one_kind table ≡ true
table_of_one_kind = refl

table_tested : all_pass is_tested_line table ≡ true
table_tested = refl

pub rows_readable : (code : ℕ) (line : Lists) → effect_of code ≡ Plain line → is_readable_line line ≡ true
unfolding effect_of
rows_readable code line e = sym (ap (passes is_readable_line) e) ∙ found_passes is_readable_line table code table_readable

pub rows_tested : (code : ℕ) (line : Lists) → effect_of code ≡ Plain line → is_tested_line line ≡ true
unfolding effect_of
rows_tested code line e = sym (ap (passes is_tested_line) e) ∙ found_passes is_tested_line table code table_tested

pub rows_of_one_kind : (code : ℕ) (line : Lists) → effect_of code ≡ Plain line → is_of_one_kind line ≡ true
unfolding effect_of
rows_of_one_kind code line e = sym (ap (passes is_of_one_kind) e) ∙ found_passes is_of_one_kind table code table_of_one_kind
