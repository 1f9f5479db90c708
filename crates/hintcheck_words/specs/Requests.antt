-- What the words of a command line ask for, by what clap says that a simple command's words mean.
use Rattle.std.specs.Prelude.{◌≡◌, ◌&&◌, not, ℕ, Bool, true, false, if◌then◌else◌, codes, List, [], ◌∷◌, find as first_where, map, Option, Some, None, IsSomeAnd, is_some, unwrap_or, option_map, option_and_then, string_bytes}
use Rattle.std.specs.Option.{option_map_or}
use denote.Ref.{Bor}
use Rattle.std.specs.Str.{bytes_eq}
use Rattle.std.specs.Str.Parse.{digits_value, without_leading_plus}
use Rattle.clap.specs.ValueTests.{is_unsigned_in}
use Rattle.clap.specs.Words.{Row, Text, all_of, first_of, found_of, one_of, rows_of, subcommand_of, takes}
use Rattle.clap.specs.declared.parser.matches.ArgMatches.{ArgMatches}
use Rattle.hintcheck_words.specs.CommandLine.{hintcheck}
use Rattle.hintcheck_words.specs.declared.words.AskedNeeds.{AskedNeeds}
use Rattle.hintcheck_words.specs.declared.words.AskedNeeds.TheVariants as asked_needs
use Rattle.hintcheck_words.specs.declared.words.CertificateOptions.{CertificateOptions}
use Rattle.hintcheck_words.specs.declared.words.Detail.{Detail}
use Rattle.hintcheck_words.specs.declared.words.Detail.TheVariants as detail
use Rattle.hintcheck_words.specs.declared.words.ExplainOptions.{ExplainOptions}
use Rattle.hintcheck_words.specs.declared.words.Faces.{Faces}
use Rattle.hintcheck_words.specs.declared.words.Faces.TheVariants as faces
use Rattle.hintcheck_words.specs.declared.words.FailOn.{FailOn}
use Rattle.hintcheck_words.specs.declared.words.FailOn.TheVariants as fail_on
use Rattle.hintcheck_words.specs.declared.words.FontWords.{FontWords}
use Rattle.hintcheck_words.specs.declared.words.FontWords.TheVariants as font_words
use Rattle.hintcheck_words.specs.declared.words.Format.{Format}
use Rattle.hintcheck_words.specs.declared.words.Format.TheVariants as format
use Rattle.hintcheck_words.specs.declared.words.ListOptions.{ListOptions}
use Rattle.hintcheck_words.specs.declared.words.Profile.{Profile}
use Rattle.hintcheck_words.specs.declared.words.Profile.TheVariants as profile
use Rattle.hintcheck_words.specs.declared.words.ScanOptions.{ScanOptions}
use Rattle.hintcheck_words.specs.declared.words.ScanTexts.{ScanTexts}
use Rattle.hintcheck_words.specs.declared.words.Task.{Task}
use Rattle.hintcheck_words.specs.declared.words.Task.TheVariants as task
use Rattle.hintcheck_words.specs.declared.words.TaskFault.{TaskFault}
use Rattle.hintcheck_words.specs.declared.words.TaskFault.TheVariants as fault
use Rattle.hintcheck_words.specs.declared.words.VerdictOptions.{VerdictOptions}

-- the texts of the words of a command line
abbrev pub texts_of : List (Bor Text) → List Text
texts_of words = map (λ w. w.now) words

-- what the words give the arguments of a subcommand, a row for each argument
abbrev pub rows_in : ArgMatches → List Row
rows_in values = rows_of (found_of values)

-- the names that a scan is given, besides those of its fonts
pub record Texts : Type 0 where
  pub expected : Option Text
  pub written : Option Text
  pub name : Option Text

-- a subcommand and its values
pub data Request : Type 0 where
  bare : Text → ℕ → ℕ → ℕ → Option Text → Profile → Request
  verdict : Text → VerdictOptions → Request
  scan : List Text → ScanOptions → Texts → Request
  explain : Text → Option Text → Option Text → ExplainOptions → Request
  find : Text → Text → CertificateOptions → Request
  check : Text → Text → CertificateOptions → Request
  list : Text → Text → ListOptions → Request
  upgrade : Text → Text → ℕ → Request

-- how many steps a profile may make, if that is limited
abbrev pub max_steps_of : Profile → Option ℕ
max_steps_of (profile.Strict steps) = steps
max_steps_of (profile.Symbolic steps) = steps
max_steps_of (profile.Both steps) = steps

-- the first text that an argument got, empty where it got none
abbrev pub text_in : List Row → Text → Text
text_in rows id = unwrap_or (first_of id rows) []

-- the text that an argument got, if it got one
abbrev pub optional_in : List Row → Text → Option Text
optional_in rows id = first_of id rows

-- all texts that an argument got
abbrev pub texts_in : List Row → Text → List Text
texts_in rows id = unwrap_or (all_of id rows) []

-- the number up to this one that a text spells, if it spells one
unfoldable pub spelled : ℕ → Text → Option ℕ
spelled most text = if is_unsigned_in 0 most text
    then Some (digits_value 10 (without_leading_plus text)) else None

-- the number up to this one that the text of an argument spells, if it got one that does
abbrev pub optional_number_in : ℕ → List Row → Text → Option ℕ
optional_number_in most rows id = option_and_then (spelled most) (one_of id rows)

-- the number of 16 bits that the text of an argument spells, 0 where it spells none
abbrev pub number_in : List Row → Text → ℕ
number_in rows id = unwrap_or (optional_number_in 65535 rows id) 0

-- whether a flag is given, by the text `true` that it gets then
abbrev pub flag_in : List Row → Text → Bool
flag_in rows id = option_map_or (λ t. bytes_eq t (codes "true")) (one_of id rows) false

-- how many steps may be made, if that is limited
abbrev pub max_steps_in : List Row → Option ℕ
max_steps_in rows = optional_number_in 18446744073709551615 rows (codes "STEPS")

-- how many bytes a file may have: 1 GiB where no number is given
abbrev pub max_bytes_in : List Row → ℕ
max_bytes_in rows =
    unwrap_or (optional_number_in 18446744073709551615 rows (codes "BYTES")) 1073741824

-- which faces of a collection are meant: the one that is numbered, or these
abbrev pub faces_in : Faces → List Row → Faces
faces_in otherwise rows = option_map_or (λ number. faces.Numbered number)
    (optional_number_in 4294967295 rows (codes "FACE")) otherwise

-- the profile by whether the strict one and the symbolic one are named: both, unless one alone is
abbrev pub profile_named : Bool → Bool → Option ℕ → Profile
profile_named true false steps = profile.Strict steps
profile_named false true steps = profile.Symbolic steps
profile_named true true steps = profile.Both steps
profile_named false false steps = profile.Both steps

-- the profile that `scan` and `explain` are asked for
abbrev pub profile_or_both_in : List Row → Profile
profile_or_both_in rows = profile_named (flag_in rows (codes "STRICT"))
    (flag_in rows (codes "SYMBOLIC")) (max_steps_in rows)

-- the profile that `verdict` and `bare` are asked for: the strict one, unless another is named
abbrev pub profile_or_strict_in : List Row → Profile
profile_or_strict_in rows = if flag_in rows (codes "BOTH") then profile.Both (max_steps_in rows)
    else (if flag_in rows (codes "SYMBOLIC") then profile.Symbolic (max_steps_in rows)
    else profile.Strict (max_steps_in rows))

-- the form in which answers are printed
abbrev pub format_in : List Row → Format
format_in rows = if flag_in rows (codes "JSON") then format.Json else format.Lines

-- of which numbers it is told what a font needs of them: of all rather than of some
abbrev pub needs_in : List Row → AskedNeeds
needs_in rows = if flag_in rows (codes "ALL_NEEDS") then asked_needs.All
    else (if flag_in rows (codes "NEEDS") then asked_needs.Refused else asked_needs.None)

-- what the words of a scan's fonts are: NULs end the names rather than line feeds
abbrev pub font_words_in : List Row → FontWords
font_words_in rows = if flag_in rows (codes "NULS") then font_words.Nuls
    else (if flag_in rows (codes "LINES") then font_words.Lines else font_words.Fonts)

-- what is listed of an instruction
abbrev pub detail_in : List Row → Detail
detail_in rows = if flag_in rows (codes "NUMBERS") then detail.Numbers else detail.Names

-- for which refused programs a scan fails, by the word that names their class, if it names one
abbrev pub fail_on_named : Text → Option FailOn
fail_on_named word = if bytes_eq word (codes "possible") then Some fail_on.Possible else None

-- for which refused programs a scan is to fail
abbrev pub fail_on_in : List Row → Option FailOn
fail_on_in rows =
    option_map_or fail_on_named (optional_in rows (codes "CLASS")) (Some fail_on.Refused)

-- how a scan is to check fonts, and what it is to print
abbrev pub scan_options_in : List Row → ScanOptions
scan_options_in rows = record {
  profile = profile_or_both_in rows;
  fail_on = fail_on_in rows;
  format = format_in rows;
  has_causes = flag_in rows (codes "CAUSES");
  needs = needs_in rows;
  words = font_words_in rows;
  faces = faces_in faces.All rows;
  max_bytes = max_bytes_in rows;
  is_quiet = flag_in rows (codes "QUIET");
}

-- the names that a scan is given, besides those of its fonts
abbrev pub scan_texts_in : List Row → Texts
scan_texts_in rows = record {
  expected = optional_in rows (codes "FILE");
  written = optional_in rows (codes "NEW");
  name = optional_in rows (codes "NAME");
}

-- how a verdict is to be found, and what is to be printed of it
abbrev pub verdict_options_in : List Row → VerdictOptions
verdict_options_in rows = record {
  profile = profile_or_strict_in rows;
  faces = faces_in faces.Only rows;
  max_bytes = max_bytes_in rows;
  is_quiet = flag_in rows (codes "QUIET");
}

-- how a program is to be explained
abbrev pub explain_options_in : List Row → ExplainOptions
explain_options_in rows = record {
  profile = profile_or_both_in rows;
  format = format_in rows;
  faces = faces_in faces.Only rows;
  max_bytes = max_bytes_in rows;
}

-- how a certificate is to be found or checked
abbrev pub certificate_options_in : List Row → CertificateOptions
certificate_options_in rows = record {
  max_steps = max_steps_in rows;
  faces = faces_in faces.Only rows;
  max_bytes = max_bytes_in rows;
}

-- how instructions are to be listed
abbrev pub list_options_in : List Row → ListOptions
list_options_in rows = record {
  detail = detail_in rows;
  faces = faces_in faces.Only rows;
  max_bytes = max_bytes_in rows;
}

-- how a scan is to tell the verdict on one font as an object of JSON, by this profile
abbrev pub json_options_in : Profile → List Row → ScanOptions
json_options_in by rows = record {
  profile = by;
  fail_on = Some fail_on.Refused;
  format = format.Json;
  has_causes = false;
  needs = asked_needs.None;
  words = font_words.Fonts;
  faces = faces_in faces.Only rows;
  max_bytes = max_bytes_in rows;
  is_quiet = false;
}

-- the verdict on one font as an object of JSON, by this profile, which is a scan of that font
abbrev pub json_request : Profile → List Row → Request
json_request by rows = scan (text_in rows (codes "FONT") ∷ []) (json_options_in by rows)
    (record { expected = None; written = None; name = None })

-- what `scan` asks for, by what its arguments got
unfoldable pub scan_request : List Row → Request
scan_request rows =
    scan (texts_in rows (codes "FONT")) (scan_options_in rows) (scan_texts_in rows)

-- what `explain` asks for, by what its arguments got: without a program, an object of JSON tells the
-- font as `scan` does
unfoldable pub explain_request : List Row → Request
explain_request rows =
    if flag_in rows (codes "JSON") && not (is_some (optional_in rows (codes "PROGRAM")))
    then json_request (profile_or_both_in rows) rows
    else explain (text_in rows (codes "FONT")) (optional_in rows (codes "PROGRAM"))
    (optional_in rows (codes "OFFSET")) (explain_options_in rows)

-- what `verdict` asks for, by what its arguments got
unfoldable pub verdict_request : List Row → Request
verdict_request rows = if flag_in rows (codes "JSON")
    then json_request (profile_or_strict_in rows) rows
    else verdict (text_in rows (codes "FONT")) (verdict_options_in rows)

-- what `list` asks for, by what its arguments got
unfoldable pub list_request : List Row → Request
list_request rows =
    list (text_in rows (codes "FONT")) (text_in rows (codes "PROGRAM")) (list_options_in rows)

-- what `find` asks for, by what its arguments got
unfoldable pub find_request : List Row → Request
find_request rows =
    find (text_in rows (codes "FONT")) (text_in rows (codes "CERT")) (certificate_options_in rows)

-- what `check` asks for, by what its arguments got
unfoldable pub check_request : List Row → Request
check_request rows =
    check (text_in rows (codes "FONT")) (text_in rows (codes "CERT")) (certificate_options_in rows)

-- what `upgrade` asks for, by what its arguments got
unfoldable pub upgrade_request : List Row → Request
upgrade_request rows =
    upgrade (text_in rows (codes "OLD")) (text_in rows (codes "NEW")) (max_bytes_in rows)

-- what `bare` asks for, by what its arguments got
unfoldable pub bare_request : List Row → Request
bare_request rows =
    bare (text_in rows (codes "MAXP")) (number_in rows (codes "CVT"))
    (number_in rows (codes "POINTS")) (number_in rows (codes "CONTOURS"))
    (optional_in rows (codes "PROGRAM")) (profile_or_strict_in rows)

-- each subcommand, and what it asks for by what its arguments got
unfoldable pub requests : List (Text × (List Row → Request))
requests = (codes "scan", scan_request)
    ∷ (codes "explain", explain_request)
    ∷ (codes "verdict", verdict_request)
    ∷ (codes "list", list_request)
    ∷ (codes "find", find_request)
    ∷ (codes "check", check_request)
    ∷ (codes "upgrade", upgrade_request)
    ∷ (codes "bare", bare_request)
    ∷ []

-- what a subcommand asks for
unfoldable pub request_of : Text × List Row → Option Request
request_of p = option_map (λ r. r.1 p.1) (first_where (λ r. bytes_eq r.0 p.0) requests)

-- the subcommand that the words name, with what its arguments got
unfoldable pub met : List Text → Option (Text × List Row)
met words = subcommand_of hintcheck words

-- the request that the words mean
unfoldable pub meaning : List Text → Option Request
meaning words = option_and_then request_of (met words)

-- the command line takes the words
unfoldable pub is_taken : List Text → Bool
is_taken words = takes hintcheck words

-- there is a subcommand, and it asks for something
abbrev pub MeetsSubcommand : Option (Text × List Row) → Type 0
MeetsSubcommand found = IsSomeAnd found (λ p. is_some (request_of p) ≡ true)

-- the names that a scan is given, wherever they lie in memory
abbrev pub texts_spelled : ScanTexts → Texts
texts_spelled texts = record {
  expected = option_map (λ s. string_bytes s) texts.expected;
  written = option_map (λ s. string_bytes s) texts.written;
  name = option_map (λ s. string_bytes s) texts.name;
}

-- what a task asks for, wherever its texts lie in memory
unfoldable pub asked : Task → Request
asked (task.Bare maxp cvt points contours program profile) =
    bare (string_bytes maxp) cvt points contours (option_map (λ s. string_bytes s) program) profile
asked (task.Verdict font options) = verdict (string_bytes font) options
asked (task.Scan fonts options texts) =
    scan (map (λ s. string_bytes s) fonts.items) options (texts_spelled texts)
asked (task.Explain font program place options) =
    explain (string_bytes font) (option_map (λ s. string_bytes s) program)
    (option_map (λ s. string_bytes s) place) options
asked (task.Find font certificate options) =
    find (string_bytes font) (string_bytes certificate) options
asked (task.Check font certificate options) =
    check (string_bytes font) (string_bytes certificate) options
asked (task.List font program options) = list (string_bytes font) (string_bytes program) options
asked (task.Upgrade old new max_bytes) = upgrade (string_bytes old) (string_bytes new) max_bytes

-- memory ran out
unfoldable pub IsOutOfMemory : TaskFault → Type 0
IsOutOfMemory (fault.Words error) = ⊥
IsOutOfMemory (fault.OutOfMemory error) = Unit {0}

-- words that the command line takes are refused only where memory runs out
abbrev pub IsMemoryIfTaken : List Text → TaskFault → Type 0
IsMemoryIfTaken words e = is_taken words ≡ true → IsOutOfMemory e
