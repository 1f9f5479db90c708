use Rattle.std.proofs.Common.{◌∙◌, ap, rules}
use Rattle.std.specs.Prelude.{string_bytes}
use Rattle.std.specs.Slice.Iter.{iter_rest}
use Rattle.std.proofs.lemmas.Iterator.{YieldsList-from_map_by, YieldsList-from_slice}
use Rattle.std.proofs.lemmas.Iterator.Consumers.{map_from_collect}
use Rattle.hintcheck_cli.proofs.as_texts.Goals as goal

pub returns : goal.returns
returns c =
    let words = YieldsList-from_slice c.args.words.now (ap iter_rest c.map.ensures.source ∙ c.iter.ensures.rest) in
    map_from_collect c.collect.result c.collect.ensures.ran (YieldsList-from_map_by _ (λ t. t.now) (λ word. string_bytes word) words c.map.ensures.closure (λ x r q k. search rules))
