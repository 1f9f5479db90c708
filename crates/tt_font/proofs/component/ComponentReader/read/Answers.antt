use Rattle.std.proofs.Common.{arith}
use Rattle.tt_font.specs.Numbers.{u16_at}
use Rattle.tt_font.specs.Components.{component_at}
use Rattle.tt_font.proofs.ComponentLists.{size_is_least}
use Rattle.tt_font.proofs.component.ComponentReader.read.Goals as goal

pub returns-then-glyph-place-clause-component : goal.returns-then-glyph-place-clause-component
unfolding component_at
returns-then-glyph-place-clause-component c =
    let least = size_is_least (u16_at c.args.place c.args.glyph.now) in grind arith
