-- What the values of a subcommand give, by the rows of its matches.
use Rattle.std.proofs.Common.{◌≡◌, ◌∙◌, ◌<◌, ◌+◌, ◌^◌, inl, inr, ℕ, Bool, true, false, codes, List, [], Option, Some, None, Result, Ok, Err, refl, sym, ap, arith, Bor}
use Rattle.std.specs.Prelude.{unwrap_or, option_and_then, option_map, find, map}
use Rattle.std.specs.Option.{option_map_or}
use Rattle.std.specs.Str.Parse.{ParsesBool, ParsesUnsigned}
use Rattle.std.specs.Str.{bytes_eq}
use Rattle.std.proofs.lemmas.Bool.{cases_Bool}
use Rattle.std.proofs.lemmas.Slice.Eq.{bytes_eq-Decides}
use Rattle.clap.specs.Facts.{Entry}
use Rattle.clap.specs.Matches.{ReadsOne}
use Rattle.clap.specs.ValueTests.{is_unsigned_in}
use Rattle.clap.specs.Walk.{row_of}
use Rattle.clap.specs.Words.{Row, Text, all_of, matched_of, raw_values, rows_of}
use Rattle.clap.specs.declared.builder.value_parser.ValueParser.TheVariants.{Unsigned}
use Rattle.clap.specs.declared.parser.matches.Found.{Found}
use Rattle.clap.proofs.ValueTestLemmas.{Accepts-accepts, accepts-Accepts}
use Rattle.clap.proofs.WalkLemmas.{find_row}
use Rattle.hintcheck_words.specs.Requests.{spelled}

pub text_or_empty : (o : Option (Bor (List ℕ))) (empty : Bor (List ℕ)) → empty.now ≡ [] → (unwrap_or o empty).now ≡ unwrap_or (option_map (λ s. s.now) o) []
text_or_empty None empty e = e
text_or_empty (Some s) empty e = refl

-- a number that `get_one` reads is the one that the text spells
pub number_read : {E : Type 0} (G : List ℕ → Result ℕ E → Type 0) (bits most : ℕ) (o : Option Text) (n : Option ℕ) → most + 1 ≡ 2 ^ bits → most < 2 ^ 64 → ((t : List ℕ) (r : Result ℕ E) → G t r → ParsesUnsigned bits 10 t r)
    → (o ≡ None → n ≡ None) → ((t : List ℕ) → o ≡ Some t → ReadsOne G t n) → n ≡ option_and_then (spelled most) o
unfolding spelled
number_read G bits most None n size few parses absent reads = absent refl
number_read {E} G bits most (Some t) n size few parses absent reads = go n (reads t refl)
  where
    test : Bool
    test = is_unsigned_in 0 most t

    go : (o : Option ℕ) → ReadsOne G t o → o ≡ spelled most t
    go (Some x) r =
        let is = parses t (Ok x) r in
        rw (Accepts-accepts false (Unsigned 0 most) t (is.0.0, (omega arith), (omega arith), (omega arith))) (ap (λ (y : ℕ). Some y) is.1)
    go None r = elim (cases_Bool test) [
      | inl spelt ↦ let spells = accepts-Accepts false (Unsigned 0 most) t spelt in absurd (parses t (Err r.0) r.1 (spells.0, (omega arith)))
      | inr unspelt ↦ rw unspelt refl
    ]

-- whether a flag is given
pub flag_read : {E : Type 0} (G : List ℕ → Result Bool E → Type 0) (o : Option Text) (n : Option Bool) → ((t : List ℕ) (r : Result Bool E) → G t r → ParsesBool t r) → (o ≡ None → n ≡ None) → ((t : List ℕ) → o ≡ Some t → ReadsOne G t n)
    → unwrap_or n false ≡ option_map_or (λ t. bytes_eq t (codes "true")) o false
flag_read G None n parses absent reads = rw (absent refl) refl
flag_read G (Some t) n parses absent reads = go n (reads t refl)
  where
    go : (b : Option Bool) → ReadsOne G t b → unwrap_or b false ≡ bytes_eq t (codes "true")
    go (Some true) r = rw (parses t (Ok true) r) refl
    go (Some false) r = rw (parses t (Ok false) r) refl
    go None r = elim (cases_Bool (bytes_eq t (codes "true"))) [
      | inl spelt ↦ absurd ((parses t (Err r.0) r.1).0 ((bytes_eq-Decides t (codes "true")).0 spelt))
      | inr unspelt ↦ sym unspelt
    ]

-- the texts of an argument, by the rows
pub all_of-rows : (f : Found) (id : Text) → option_map raw_values (matched_of f id) ≡ all_of id (rows_of f)
all_of-rows f id = go (find (λ e. bytes_eq e.0.now id) f.entries.items) ∙ ap (option_map (λ (r : Row). r.values)) (sym (find_row f.entries.items id))
  where
    go : (o : Option Entry) → option_map raw_values (option_map (λ e. e.1) o) ≡ option_map (λ (r : Row). r.values) (option_map row_of o)
    go None = refl
    go (Some e) = refl

-- the texts that a getter gives, or none
pub texts_or_none : (o : Option (Bor (List (Bor Text)))) (none : Bor (List (Bor Text))) → none.now ≡ []
    → map (λ s. s.now) (unwrap_or o none).now ≡ unwrap_or (option_map (λ s. map (λ v. v.now) s.now) o) []
texts_or_none None none e = rw e refl
texts_or_none (Some s) none e = refl
