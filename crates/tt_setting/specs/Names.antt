-- The names of a font's programs.
use Rattle.std.specs.Prelude.{ℕ, codes, List, ◌++◌}
use Rattle.std.specs.Fmt.{decimal}
use Rattle.tt_setting.specs.declared.name.Name.{Name}
use Rattle.tt_setting.specs.declared.name.Name.TheVariants as name

-- a program's name as it is printed, and as a word of the command line names it: `f`, `p`, or `g`
-- and the glyph's number in decimal digits, without leading zeros
abbrev pub text_of : Name → List ℕ
text_of name.Font = codes "f"
text_of name.Cvt = codes "p"
text_of (name.Glyph id) = codes "g" ++ decimal id
