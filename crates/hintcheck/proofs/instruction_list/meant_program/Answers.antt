use Rattle.std.proofs.Common.{◌≡◌, IfSome, option_map, rules, subst, sym}
use Rattle.tt_setting.specs.declared.name.Name.TheVariants as name
use Rattle.tt_names.specs.Names.{IsFirstNamed}
use Rattle.tt_names.specs.Post.{post_of}
use Rattle.hintcheck.specs.Listing.{Calls}
use Rattle.hintcheck.proofs.NameLemmas.{glyph_called}
use Rattle.hintcheck.proofs.instruction_list.meant_program.Goals as goal

pub returns : goal.returns
returns c =
    let first : IfSome c.glyph_named.result (IsFirstNamed (post_of c.args.bytes.now) c.args.word.now) =
    subst (λ post. IfSome c.glyph_named.result (IsFirstNamed post c.args.word.now)) c.in_ok-names.ensures.post c.glyph_named.ensures.first in
    let same : c.map.result ≡ option_map name.Glyph c.glyph_named.result = search rules in
    subst (λ meant. IfSome meant (Calls c.args.bytes.now c.args.word.now)) (sym same)
    (glyph_called c.args.bytes.now c.args.word.now c.named_by.result c.glyph_named.result c.named_by.ensures.each c.in_default.is first)
