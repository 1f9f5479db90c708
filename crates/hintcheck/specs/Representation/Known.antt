-- Which lines are those of known refusals, as the code keeps them, and what is told with a file of them.
use Rattle.std.specs.Prelude.{Bool, List, false, ℕ}
use Rattle.std.specs.HashSet.{contains_text}
use Rattle.hintcheck_report.specs.declared.refused.Refused.{Refused}
use Rattle.hintcheck_words.specs.declared.words.ScanOptions.{ScanOptions}
use Rattle.hintcheck.specs.FontLabels.{Label}
use Rattle.hintcheck.specs.KnownRefusals.{is_listed}
use Rattle.hintcheck.specs.Scans.{asks_lines_alone}
use Rattle.hintcheck.specs.declared.commands.known_refusals.Known.{Known}
use Rattle.hintcheck.specs.declared.commands.known_refusals.Known.TheVariants as known

-- whether the line is that of a known refusal
abbrev pub is_known_by : Known → List ℕ → Bool
is_known_by known.Nothing line = false
is_known_by (known.Lines lines) line = contains_text lines line

-- whether the refused program of the font in these bytes is known
abbrev pub is_listed_by : Known → Label → List ℕ → Refused → Bool
is_listed_by known.Nothing label bytes r = false
is_listed_by (known.Lines lines) label bytes r = is_listed (contains_text lines) label bytes r

-- whether the lines of a scan with these options are alone: no file of known refusals is named either
abbrev pub are_alone : ScanOptions → Known → Bool
are_alone options known.Nothing = asks_lines_alone options
are_alone options (known.Lines lines) = false
