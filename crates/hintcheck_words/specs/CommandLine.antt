-- The command line, in the terms of clap's definitions:
--     hintcheck scan [--strict] [--symbolic] [--max-steps STEPS] [--max-bytes BYTES] [--face FACE]
--         [--fail-on CLASS] [--expect FILE] [--write-expect NEW] [--json] [--causes] [--needs]
--         [--all-needs] [--files-from] [-0 | --files-from0] [--name NAME] [--quiet] FONT..
--     hintcheck explain [--strict] [--symbolic] [--max-steps STEPS] [--max-bytes BYTES]
--         [--face FACE] [--json] FONT [PROGRAM] [OFFSET]
--     hintcheck verdict [--symbolic] [--both] [--max-steps STEPS] [--max-bytes BYTES]
--         [--face FACE] [--json] [--quiet] FONT
--     hintcheck list [--numbers] [--max-bytes BYTES] [--face FACE] FONT PROGRAM
--     hintcheck find [--max-steps STEPS] [--max-bytes BYTES] [--face FACE] FONT CERT
--     hintcheck check [--max-steps STEPS] [--max-bytes BYTES] [--face FACE] FONT CERT
--     hintcheck upgrade [--max-bytes BYTES] OLD NEW
--     hintcheck bare [--symbolic] [--both] [--max-steps STEPS] MAXP CVT POINTS CONTOURS [PROGRAM]
--     hintcheck --version
-- The options may also come after the other words of a subcommand, or between them.
use Rattle.std.specs.Prelude.{ℕ, codes, fold, List, [], ◌∷◌, true, pos, Some}
use Rattle.clap.specs.Lexer.{usize_max}
use Rattle.clap.specs.Words.{App, Rule, Text, new_app, new_rule, with_rule, with_subcommand}
use Rattle.clap.specs.declared.builder.action.ArgAction.TheVariants.{SetTrue}
use Rattle.clap.specs.declared.builder.value_parser.ValueParser.TheVariants as parser

-- an argument that may be left out
abbrev pub optional : Text → Rule
optional id = new_rule id

-- an argument that must be given
abbrev pub needed : Text → Rule
needed id = record (new_rule id) { required = true }

-- an argument that must be given a number of 16 bits
abbrev pub needed_number : Text → Rule
needed_number id = record (needed id) { parser = Some (parser.Signed (pos 0) (pos 65535)) }

-- an argument that must be given, and takes one word or more
abbrev pub needed_list : Text → Rule
needed_list id = record (needed id) {
  range = Some (record { start_inclusive = 1; end_inclusive = usize_max });
}

-- an option of this long name, which may be left out, and takes a text otherwise
abbrev pub text_option : Text → Text → Rule
text_option id name = record (new_rule id) { long = Some name }

-- an option of this long name, which may be left out, and takes a number of 32 bits otherwise
abbrev pub number_option_32 : Text → Text → Rule
number_option_32 id name = record (text_option id name) {
  parser = Some (parser.Signed (pos 0) (pos 4294967295));
}

-- an option of this long name, which may be left out, and takes a number of 64 bits otherwise
abbrev pub number_option_64 : Text → Text → Rule
number_option_64 id name = record (text_option id name) {
  parser = Some (parser.Unsigned 0 18446744073709551615);
}

-- an option of this long name, which may be left out, and takes no value
abbrev pub flag : Text → Text → Rule
flag id name = record (text_option id name) { action = Some SetTrue }

-- an option of this long name and this short one, a character, which takes no value
abbrev pub short_flag : Text → Text → ℕ → Rule
short_flag id name short = record (flag id name) { short = Some short }

-- the option `--strict`, which asks for the strict profile alone
abbrev pub strict : Rule
strict = flag (codes "STRICT") (codes "strict")

-- the option `--symbolic`, which asks for the symbolic profile alone
abbrev pub symbolic : Rule
symbolic = flag (codes "SYMBOLIC") (codes "symbolic")

-- the option `--both`, which asks for the strict profile and, where it doesn't accept, the symbolic
abbrev pub both : Rule
both = flag (codes "BOTH") (codes "both")

-- the option `--max-steps`, which limits how often a state may be carried on
abbrev pub max_steps : Rule
max_steps = number_option_64 (codes "STEPS") (codes "max-steps")

-- the option `--max-bytes`, which limits how many bytes a file may have
abbrev pub max_bytes : Rule
max_bytes = number_option_64 (codes "BYTES") (codes "max-bytes")

-- the option `--face`, which numbers a face of a font collection
abbrev pub face : Rule
face = number_option_32 (codes "FACE") (codes "face")

-- the option `--fail-on`, which names the class of reasons for which a scan fails
abbrev pub fail_on : Rule
fail_on = text_option (codes "CLASS") (codes "fail-on")

-- the option `--expect`, which names the file that lists the known refusals
abbrev pub expect : Rule
expect = text_option (codes "FILE") (codes "expect")

-- the option `--write-expect`, which names the file to which the refusals are written
abbrev pub write_expect : Rule
write_expect = text_option (codes "NEW") (codes "write-expect")

-- the option `--json`, which asks for objects of JSON
abbrev pub json : Rule
json = flag (codes "JSON") (codes "json")

-- the option `--causes`, which asks for the causes of the refusals
abbrev pub causes : Rule
causes = flag (codes "CAUSES") (codes "causes")

-- the option `--needs`, which asks what fonts need of the numbers for which programs are refused
abbrev pub needs : Rule
needs = flag (codes "NEEDS") (codes "needs")

-- the option `--all-needs`, which asks what fonts need of all numbers that bound their programs
abbrev pub all_needs : Rule
all_needs = flag (codes "ALL_NEEDS") (codes "all-needs")

-- the option `--files-from`, by which the words of fonts are those of files that list their names
abbrev pub files_from : Rule
files_from = flag (codes "LINES") (codes "files-from")

-- the option `--files-from0` or `-0`, by which these names are ended by NULs
abbrev pub files_from0 : Rule
files_from0 = short_flag (codes "NULS") (codes "files-from0") 48

-- the option `--name`, which gives the only font of a scan the name by which it is told
abbrev pub name : Rule
name = text_option (codes "NAME") (codes "name")

-- the option `--quiet`, which leaves out what most verdicts have in common
abbrev pub quiet : Rule
quiet = flag (codes "QUIET") (codes "quiet")

-- the option `--numbers`, which asks for the numbers that instructions push
abbrev pub numbers : Rule
numbers = flag (codes "NUMBERS") (codes "numbers")

-- a subcommand of this name, which takes these arguments and options
abbrev pub taking : Text → List Rule → App
taking subcommand rules = fold with_rule (new_app subcommand) rules

-- the subcommand `scan`, which checks all programs of each of several font files
abbrev pub scan : App
scan = taking (codes "scan") (needed_list (codes "FONT") ∷ strict ∷ symbolic ∷ max_steps
    ∷ max_bytes ∷ face ∷ fail_on ∷ expect ∷ write_expect ∷ json ∷ causes ∷ needs ∷ all_needs
    ∷ files_from ∷ files_from0 ∷ name ∷ quiet ∷ [])

-- the subcommand `explain`, which tells how one program is checked, or why programs are refused
abbrev pub explain : App
explain = taking (codes "explain") (needed (codes "FONT") ∷ optional (codes "PROGRAM")
    ∷ optional (codes "OFFSET") ∷ strict ∷ symbolic ∷ max_steps ∷ max_bytes ∷ face ∷ json ∷ [])

-- the subcommand `verdict`, which checks all programs of a font file
abbrev pub verdict : App
verdict = taking (codes "verdict") (needed (codes "FONT") ∷ symbolic ∷ both ∷ max_steps
    ∷ max_bytes ∷ face ∷ json ∷ quiet ∷ [])

-- the subcommand `list`, which lists the instructions of one program
abbrev pub list : App
list = taking (codes "list") (needed (codes "FONT") ∷ needed (codes "PROGRAM") ∷ numbers
    ∷ max_bytes ∷ face ∷ [])

-- the subcommand `find`, which writes the certificate of a font file
abbrev pub find : App
find = taking (codes "find") (needed (codes "FONT") ∷ needed (codes "CERT") ∷ max_steps
    ∷ max_bytes ∷ face ∷ [])

-- the subcommand `check`, which checks a font file by its certificate
abbrev pub check : App
check = taking (codes "check") (needed (codes "FONT") ∷ needed (codes "CERT") ∷ max_steps
    ∷ max_bytes ∷ face ∷ [])

-- the subcommand `upgrade`, which writes a certificate in the newest form
abbrev pub upgrade : App
upgrade = taking (codes "upgrade") (needed (codes "OLD") ∷ needed (codes "NEW") ∷ max_bytes ∷ [])

-- the subcommand `bare`, which checks one glyph program
abbrev pub bare : App
bare = taking (codes "bare") (needed (codes "MAXP") ∷ needed_number (codes "CVT")
    ∷ needed_number (codes "POINTS") ∷ needed_number (codes "CONTOURS")
    ∷ optional (codes "PROGRAM") ∷ symbolic ∷ both ∷ max_steps ∷ [])

-- the program, which can be asked for its version, and otherwise must be given a subcommand
abbrev pub program : App
program = record (new_app (codes "hintcheck")) {
  top = record (new_app (codes "hintcheck")).top {
    subcommand_required = true;
    has_version = true;
  };
}

-- the command line: the program with its subcommands
unfoldable pub hintcheck : App
hintcheck = fold (λ a s. with_subcommand a s.top) program
    (scan ∷ explain ∷ verdict ∷ list ∷ find ∷ check ∷ upgrade ∷ bare ∷ [])
