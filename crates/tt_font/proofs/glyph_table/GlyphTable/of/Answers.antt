use Rattle.std.proofs.Common.{◌≡◌, ◌<◌, ◌∙◌, ap, arith, length}
use Rattle.tt_font.specs.Locations.{entry_fits, loca_format}
use Rattle.tt_font.specs.Directory.{table}
use Rattle.tt_font.specs.Files.{font_glyph_count}
use Rattle.tt_font.specs.Numbers.{u16_at}
use Rattle.tt_font.specs.declared.tag.Tag.TheVariants.{Head, Loca}
use Rattle.tt_font.proofs.FontFacts.{is_font}
use Rattle.tt_font.proofs.glyph_table.GlyphTable.of.Goals as goal

pub table-requires : goal.table-requires
table-requires c = (is_font c.args.bytes.now c.requires.font).directory

pub u16_at-requires : goal.u16_at-requires
u16_at-requires c =
    let head = (is_font c.args.bytes.now c.requires.font).head in
    let same = ap length c.table.ensures.table in
    omega arith

pub table-requires-2 : goal.table-requires-2
table-requires-2 c = (is_font c.args.bytes.now c.requires.font).directory

pub table-requires-3 : goal.table-requires-3
table-requires-3 c = (is_font c.args.bytes.now c.requires.font).directory

pub table-requires-4 : goal.table-requires-4
table-requires-4 c = (is_font c.args.bytes.now c.requires.font).directory

pub u16_at-requires-2 : goal.u16_at-requires-2
u16_at-requires-2 c =
    let maxp = (is_font c.args.bytes.now c.requires.font).maxp in
    let same = ap length c.table-4.ensures.table in
    omega arith

pub invariant_of-result-clause-known : goal.invariant_of-result-clause-known
invariant_of-result-clause-known c =
    let format : c.u16_at.result ≡ loca_format (table Head c.args.bytes.now) = c.u16_at.ensures ∙ ap (u16_at 50) c.table.ensures.table in
    let known = (is_font c.args.bytes.now c.requires.font).known in
    let lt : c.u16_at.result < 2 = omega arith in lt

pub invariant_of-result-clause-placed : goal.invariant_of-result-clause-placed
invariant_of-result-clause-placed c =
    let format : c.u16_at.result ≡ loca_format (table Head c.args.bytes.now) = c.u16_at.ensures ∙ ap (u16_at 50) c.table.ensures.table in
    let count : c.u16_at-2.result ≡ font_glyph_count c.args.bytes.now = c.u16_at-2.ensures ∙ ap (u16_at 4) c.table-4.ensures.table in
    λ i le. ap (λ x. entry_fits x c.table-2.result.now c.table-3.result.now i) format
    ∙ ap (λ x. entry_fits (loca_format (table Head c.args.bytes.now)) x c.table-3.result.now i) c.table-2.ensures.table
    ∙ ap (λ x. entry_fits (loca_format (table Head c.args.bytes.now)) (table Loca c.args.bytes.now) x i) c.table-3.ensures.table
    ∙ (is_font c.args.bytes.now c.requires.font).placed i (omega arith)
