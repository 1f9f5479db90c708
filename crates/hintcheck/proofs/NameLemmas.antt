-- A glyph's number as a word, and the names of a font's programs.
use Rattle.std.specs.Prelude.{◌↔◌, IsTrue, option_map, slice_get}
use Rattle.std.specs.Fmt.{decimal}
use Rattle.std.specs.Str.Parse.{AllDigits, ParsesUnsigned, digits_value}
use Rattle.std.proofs.Common.{◌≡◌, ◌≢◌, ◌≤◌, ℕ, zero, suc, ◌<◌, ◌^◌, List, Bool, true, false, Option, None, Some, Result, Ok, Err, IfSome, length, get_or, refl, sym, subst, arith, rules, ◌∙◌}
use Rattle.std.proofs.lemmas.Fmt.{decimal_digit, first_decimal, digits_decimal, decimal-digits_value, decimal_nonempty}
use Rattle.std.proofs.lemmas.Str.Parse.{IsNumeralModel, numerals_by_value, tells_digits, not_in_digits, parse_plain}
use Rattle.std.specs.Result.{OkIff, result_ok}
use Rattle.tt_font.specs.Reading.{FontData, GlyphData}
use Rattle.hintcheck_programs.specs.FontPrograms.{IsFontInRange}
use Rattle.hintcheck.specs.Listing.{Calls, IsNameOf, IsNoName, IsOf16Bits, IsPlain, Names, program_in, by_glyph_name}
use Rattle.tt_names.specs.Names.{IsFirstNamed}
use Rattle.tt_names.specs.Post.{post_of}
use Rattle.tt_setting.specs.declared.name.Name.{Name}
use Rattle.tt_setting.specs.declared.name.Name.TheVariants as name

own : IsNumeralModel (AllDigits 10) (digits_value 10)
own = numerals_by_value (AllDigits 10) tells_digits

-- the decimal digits of a number are such a text

only_zero : (n : ℕ) → n < 2 ^ 32 → get_or (decimal n) 0 0 ≡ 48 → length (decimal n) ≡ 1
only_zero zero small e = subst (λ ds. length ds ≡ 1) (sym (decimal_digit 0 (omega arith))) refl
only_zero (suc n) small e = let h = first_decimal (suc n) (omega arith) (omega arith) in absurd (omega arith)

pub no_letter : (c n : ℕ) → (48 ≤ c → c ≤ 57 → ⊥) → n < 2 ^ 32 → get_or (decimal n) 0 0 ≢ c
no_letter c n other small = not_in_digits own (decimal n) c (digits_decimal own n (omega arith)) (λ h. other h.0 h.1) 0 (decimal_nonempty n (omega arith))

plain_decimal : (n : ℕ) → n < 2 ^ 32 → IsPlain (decimal n)
plain_decimal n small = record {
  unsigned = no_letter 43 n (λ low high. omega arith) small;
  first = only_zero n small;
}

-- such a text is read as the number that it is

pub read_plain : {E : Type 0} (s : List ℕ) (r : Result ℕ E) → IsPlain s → ParsesUnsigned 32 10 s r → IfSome (result_ok r) (λ n. s ≡ decimal n)
read_plain {E} s (Ok n) plain parsed =
    let h : OkIff {E = E} (Ok n) (AllDigits 10 s × (0 < length s) × (digits_value 10 s < 2 ^ 32)) (digits_value 10 s) = parse_plain own {E = E} 32 s (Ok n) parsed plain.unsigned in
    let few : digits_value 10 s < 2 ^ 32 = h.0.2 in
    let e : decimal (digits_value 10 s) ≡ s = decimal-digits_value own s h.0.0 h.0.1 plain.first (omega arith) in
    sym (subst (λ m. decimal m ≡ s) (sym h.1) e)
read_plain s (Err e) plain parsed = search rules

-- so no other text is the digits of a number
pub not_plain : (s t : List ℕ) (b : Bool) → (IsTrue b ↔ IsPlain s) → b ≡ false → s ≡ t → (n : ℕ) → n < 2 ^ 32 → t ≡ decimal n → ⊥
not_plain s t b test isnt same n small e =
    let yes : b ≡ true = test.1 (subst IsPlain (sym (same ∙ e)) (plain_decimal n small)) in cc

-- A name of a program.

-- what a word is read as
abbrev pub IsReadAs : List ℕ → Option Name → Type 0
IsReadAs word read = (called : Name) → IsOf16Bits called → IsNameOf word called → read ≡ Some called

no_such_name : (word : List ℕ) (read : Option Name) → IsReadAs word read → read ≡ None → IsNoName word
no_such_name word read is none = λ called small e. let some : read ≡ Some called = is called small e in cc

pub glyph_called : (bytes word : List ℕ) (read : Option Name) (found : Option ℕ) → IsReadAs word read → read ≡ None
    → IfSome found (IsFirstNamed (post_of bytes) word) → IfSome (option_map name.Glyph found) (Calls bytes word)
glyph_called bytes word read (Some glyph) is none first = by_glyph_name glyph refl (no_such_name word read is none) first
glyph_called bytes word read None is none first = tt

-- a program of a font is a list of fewer than 2^31 bytes

glyph_few : (d : FontData) (id : ℕ) (o : Option GlyphData) → slice_get d.glyphs id ≡ o → IsFontInRange d → (p : List ℕ) → option_map (λ g. g.program) o ≡ Some p → length p < 2 ^ 31
glyph_few d id None at range p e = absurd (cc)
glyph_few d id (Some g) at range p e =
    let same : g.program ≡ p = cc in
    subst (λ x. length x < 2 ^ 31) same (range.glyphs id g at).few

program_few : (d : FontData) → IsFontInRange d → (called : Name) (p : List ℕ) → program_in d called ≡ Some p → length p < 2 ^ 31
program_few d range name.Font p e = let same : d.fpgm ≡ p = cc in subst (λ x. length x < 2 ^ 31) same range.fpgm.few
program_few d range name.Cvt p e = let same : d.prep ≡ p = cc in subst (λ x. length x < 2 ^ 31) same range.prep.few
program_few d range (name.Glyph id) p e = glyph_few d id (slice_get d.glyphs id) refl range p e

pub named_few : (d : FontData) → IsFontInRange d → (bytes word p : List ℕ) → Names bytes word d p → length p < 2 ^ 31
named_few d range bytes word p named = program_few d range named.name p named.there

-- what is said of a value that is there
pub of_some : {T : Type 0} (o : Option T) (x : T) (P : T → Type 0) → o ≡ Some x → IfSome o P → P x
of_some None x P is holds = absurd cc
of_some (Some y) x P is holds = let same : y ≡ x = cc in subst P same holds
