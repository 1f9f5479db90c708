-- What is printed of a verdict, and of an upgrade.
use Rattle.std.specs.Prelude.{ℕ, Bool, codes, if◌then◌else◌, List, [], ◌∷◌, ◌++◌, length}
use Rattle.std.specs.Fmt.{decimal}
use Rattle.std.specs.List.{flat_map}
use Rattle.tt_setting.specs.declared.name.Name.{Name}
use Rattle.tt_setting.specs.declared.name.Name.TheVariants as name
use Rattle.hintcheck_fonts.specs.declared.request.Request.{Request}
use Rattle.hintcheck_fonts.specs.declared.request.Request.TheVariants.{Strict, Symbolic}
use Rattle.hintcheck_report.specs.declared.refused.Refused.{Refused}
use Rattle.hintcheck_report.specs.Texts.{refused_text}
use Rattle.hintcheck_programs.specs.Verdicts.{Judgement}

-- a line for each refused program
abbrev pub refused_lines : List Refused → List ℕ
refused_lines rs = flat_map (λ r. refused_text r ++ codes "\n") rs

-- what a line that tells a verdict says of the profile by which it was asked for
abbrev pub profile_text : Request → List ℕ
profile_text Strict = []
profile_text (Symbolic steps) = codes " (symbolic)"

-- the end of such a line
abbrev pub line_end : Request → List ℕ
line_end by = profile_text by ++ codes "\n"

-- the last line where a program is refused: the font program or the CVT program, which end the
-- verdict, or this many of the glyph programs
abbrev pub refused_line : Request → ℕ → ℕ → Name → List ℕ
refused_line by count programs name.Font = codes "refused: font program" ++ line_end by
refused_line by count programs name.Cvt = codes "refused: cvt program" ++ line_end by
refused_line by count programs (name.Glyph id) =
    codes "refused: " ++ (decimal count ++ (codes " of " ++ (decimal programs
    ++ (codes " programs" ++ line_end by))))

-- the last line of a verdict
abbrev pub end_line : Request → ℕ → List Refused → List ℕ
end_line by programs [] =
    codes "accepted: " ++ (decimal programs ++ (codes " programs" ++ line_end by))
end_line by programs (r ∷ rs) = refused_line by (length (r ∷ rs)) programs r.program

-- the lines of a verdict
abbrev pub verdict_text : Request → Judgement → List ℕ
verdict_text by j = refused_lines j.refused ++ end_line by j.programs j.refused

-- what is told of a verdict: its lines, or the last one alone
abbrev pub told_text : Bool → Request → Judgement → List ℕ
told_text is_last by j =
    if is_last then end_line by j.programs j.refused else verdict_text by j

-- the line of a certificate file that was upgraded, which has this many sections
abbrev pub upgraded_line : ℕ → List ℕ
upgraded_line count = codes "upgraded: " ++ (decimal count ++ codes " sections\n")
