use Rattle.std.proofs.Common.{◌≡◌, IfSome, List, None, Option, Some, rules, ℕ}
use Rattle.tt_setting.specs.Names.{text_of}
use Rattle.tt_setting.specs.declared.name.Name.{Name}
use Rattle.hintcheck.specs.Listing.{IsNameOf, cvt_table, font_table, printed}
use Rattle.hintcheck.proofs.instruction_list.named_by.Goals as goal

pub returns-in-fpgm-clause-read : goal.returns-in-fpgm-clause-read
returns-in-fpgm-clause-read c = font_table (search rules)

pub returns-in-prep-clause-read : goal.returns-in-prep-clause-read
returns-in-prep-clause-read c = cvt_table (search rules)

as_printed : (word : List ℕ) (read : Option Name) → IfSome read (λ called. word ≡ text_of called) → IfSome read (IsNameOf word)
as_printed word None is = tt
as_printed word (Some called) is = printed called is

pub returns-in_default-clause-read : goal.returns-in_default-clause-read
returns-in_default-clause-read c = as_printed c.args.word.now c.read_name.result c.read_name.ensures.read
