use Rattle.std.proofs.Common.{◌≡◌, arith}
use Rattle.tt_names.specs.Post.{format_of}
use Rattle.tt_names.specs.declared.post.Format.TheVariants.{Listed}
use Rattle.tt_names.proofs.PostLemmas.{has_indices}
use Rattle.tt_names.proofs.names.GlyphNames.of.Goals as goal

pub string_places-requires-clause-start : goal.string_places-requires-clause-start
string_places-requires-clause-start c =
    let format : format_of c.post_table-post.result.now ≡ Listed = cc in
    let there = has_indices c.post_table-post.result.now format in
    omega arith
