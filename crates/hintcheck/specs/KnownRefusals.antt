-- Which refused programs count for the exit status of a scan: those for which it fails, but for known
-- ones. (Own: the form of their lines is this product's.)
use Rattle.std.specs.Prelude.{ℕ, Bool, codes, false, List, ◌++◌, ◌&&◌, ◌||◌, not, None, Option, option_map, Some, true}
use Rattle.std.specs.Fmt.{decimal}
use Rattle.tt_code.specs.Refusals.{class_of, number_of}
use Rattle.tt_code.specs.declared.reason.Reason.{Reason}
use Rattle.tt_code.specs.declared.reason.ReasonClass.TheVariants.{PossibleFault}
use Rattle.tt_names.specs.Names.{name_of_glyph}
use Rattle.tt_names.specs.Post.{post_of}
use Rattle.tt_setting.specs.Names.{text_of}
use Rattle.tt_setting.specs.declared.name.Name.{Name}
use Rattle.tt_setting.specs.declared.name.Name.TheVariants as name
use Rattle.hintcheck_words.specs.declared.words.FailOn.{FailOn}
use Rattle.hintcheck_words.specs.declared.words.FailOn.TheVariants.{Possible}
use Rattle.hintcheck.specs.FontLabels.{Label, label_text}
use Rattle.hintcheck.specs.RefusalClasses.{is_same}
use Rattle.hintcheck_report.specs.declared.refused.Refused.{Refused}

-- the line of a program of the font file with this label that is refused for this reason, and is called
-- by this word: the number of the reason, the word, and the label
abbrev pub line_called : Label → List ℕ → Reason → List ℕ
line_called label word reason =
    decimal (number_of reason) ++ (codes " " ++ (word ++ (codes " " ++ label_text label)))

-- the line of a refused program by its name, as `28 g350 fonts/DejaVuSans.ttf`
abbrev pub refusal_line : Label → Refused → List ℕ
refusal_line label r = line_called label (text_of r.program) r.reason

-- the name that a font with this table `post` has for the glyph of a program
abbrev pub glyph_name : List ℕ → Name → Option (List ℕ)
glyph_name post (name.Glyph id) = name_of_glyph post id
glyph_name post other = None

-- the line of a refused program by the name of its glyph, after a slash as in PostScript, as
-- `28 /eight fonts/DejaVuSans.ttf`, where the font has a name for it
abbrev pub named_line : Label → List ℕ → Refused → Option (List ℕ)
named_line label post r = option_map (λ word. line_called label (codes "/" ++ word) r.reason)
    (glyph_name post r.program)

-- whether there is a line, and it is known
abbrev pub is_some_known : (List ℕ → Bool) → Option (List ℕ) → Bool
is_some_known is_known None = false
is_some_known is_known (Some line) = is_known line

-- whether one of the two lines of the refused program of the font in these bytes is known
abbrev pub is_listed : (List ℕ → Bool) → Label → List ℕ → Refused → Bool
is_listed is_known label bytes r = is_known (refusal_line label r)
    || is_some_known is_known (named_line label (post_of bytes) r)

-- whether a scan fails for the refused program: where it fails for possible faults alone, whether this
-- is one
abbrev pub fails_for : Option FailOn → Refused → Bool
fails_for (Some Possible) r = is_same (class_of r.reason) PossibleFault
fails_for other r = true

-- by this test no refused program is known
abbrev pub none_listed : Label → List ℕ → Refused → Bool
none_listed label bytes r = false

-- whether a scan fails for the refused program of the font in these bytes, whose file has this label, and
-- it isn't known by this test
abbrev pub is_unknown : Option FailOn → (Label → List ℕ → Refused → Bool)
    → Label → List ℕ → Refused → Bool
is_unknown fail_on is_listed label bytes r = not (is_listed label bytes r) && fails_for fail_on r
