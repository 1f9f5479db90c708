use Rattle.std.proofs.Common.{◌≡◌, ◌+◌, ◌∙◌, ◌∷◌, [], sym, ap, arith, map, Some}
use Rattle.std.specs.Option.{option_map}
use Rattle.std.proofs.lemmas.List.{map-append}
use Rattle.tt_font.specs.declared.fault.FontFault.TheVariants as faults
use Rattle.tt_font.specs.Glyphs.{component_count, component_total, program_of}
use Rattle.tt_font.specs.PlacedGlyphs.{glyphs_of}
use Rattle.tt_font.specs.Representation.GlyphParts.{bytes_of}
use Rattle.tt_font.proofs.CountLemmas.{total_of_none, total_more, total_ascends}
use Rattle.tt_font.proofs.ProgramLists.{no_programs, programs_more, none_truncated, none_truncated_more, first_truncated}
use Rattle.tt_font.proofs.programs.read_programs.Goals as goal

pub loop-id-init : goal.loop-id-init
loop-id-init c = record {
  whole = none_truncated _;
  programs = no_programs _ _ (ap (map bytes_of) c.in_ok-programs.ensures.items);
  counted = let none = total_of_none (glyphs_of c.args.glyphs.now) in omega arith;
}

pub read_glyph_program-requires-clause-room : goal.read_glyph_program-requires-clause-room
read_glyph_program-requires-clause-room c =
    let more = total_more (glyphs_of c.args.glyphs.now) c.loop-id.id in
    let lt = c.loop-id-test.true in
    let ascends = total_ascends (glyphs_of c.args.glyphs.now) (c.loop-id.id + 1) c.args.glyphs.now.count (omega arith) in
    let counted = c.loop-id.invariant.counted in
    let room = c.requires.room in
    let same = ap component_count c.glyph.ensures.bytes in
    omega arith

pub returns-in_default-clause-fault : goal.returns-in_default-clause-fault
returns-in_default-clause-fault c = λ _.
    ap (option_map (λ id. faults.GlyphTruncated id))
    (first_truncated (glyphs_of c.args.glyphs.now) c.loop-id.id c.args.glyphs.now.count c.loop-id.invariant.whole
    (sym (c.in_default.ensures.program ∙ ap program_of c.glyph.ensures.bytes)) c.loop-id-test.true)

pub loop-id-preserved : goal.loop-id-preserved
loop-id-preserved c =
    let here : program_of (glyphs_of c.args.glyphs.now c.loop-id.id) ≡ Some c.in-Some.program.now = sym (c.in-Some.ensures.program ∙ ap program_of c.glyph.ensures.bytes) in
    record {
      whole = none_truncated_more _ _ _ c.loop-id.invariant.whole here;
      programs = programs_more _ _ _ _ _ c.loop-id.invariant.programs
          (ap (map bytes_of) c.in_ok-push.ensures.items ∙ map-append bytes_of c.loop-id.programs.items (c.in-Some.program ∷ [])) here;
      counted =
          let more = total_more (glyphs_of c.args.glyphs.now) c.loop-id.id in
          let counted = c.loop-id.invariant.counted in
          let read = c.read_glyph_program.ensures.counted in
          let same = ap component_count c.glyph.ensures.bytes in
          omega arith;
    }

pub returns-clause-counted : goal.returns-clause-counted
returns-clause-counted c =
    let test = c.loop-id-test.false in
    let end = c.loop-id.auto.id-end in
    let last : c.loop-id.id ≡ c.args.glyphs.now.count = omega arith in
    c.loop-id.invariant.counted ∙ ap (λ n. c.args.reader.now.reads + component_total (glyphs_of c.args.glyphs.now) n) last
