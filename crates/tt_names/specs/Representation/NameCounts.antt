-- How many glyphs a table `post` names at most, by its format. (Representation.)
use Rattle.std.specs.Prelude.{ℕ, List}
use Rattle.tt_names.specs.Post.{glyph_count}
use Rattle.tt_names.specs.declared.post.Format.{Format}
use Rattle.tt_names.specs.declared.post.Format.TheVariants.{Unnamed, Standard, Listed}

-- no glyph from this number on has a name
abbrev pub count_in : Format → List ℕ → ℕ
count_in Unnamed post = 0
count_in Standard post = 258
count_in Listed post = glyph_count post
