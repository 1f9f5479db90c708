-- Chains of components: put together, cut off, and their lengths.
use Rattle.std.proofs.Common.{◌≡◌, ℕ, zero, suc, ◌<◌, ◌≤◌, List, [], ◌∷◌, ◌++◌, length, true, false, None, refl, sym, ◌∙◌, ap, subst, arith, inl, inr}
use Rattle.std.proofs.lemmas.Bool.{cases_lt}
use Rattle.tt_font.specs.Chains.{end_of, part_of}
use Rattle.tt_font.specs.FileFaults.{font_fault}
use Rattle.tt_font.specs.Files.{font_glyph_count, font_glyphs, font_outlines}
use Rattle.tt_font.specs.Laws.{HasWay, IsWay}
use Rattle.tt_font.specs.Outlines.{Outline, leads_out, parts, starts_chain}
use Rattle.tt_font.proofs.CountLemmas.{outline_past}
use Rattle.tt_font.proofs.FontFacts.{is_font}
use Rattle.tt_font.proofs.LawProofs.{finds_ways_out, starts_ways}
use Rattle.hintcheck_c.specs.MayHint.{Reaches}

way_on : (outlines : ℕ → Outline) (id : ℕ) (way more : List ℕ) → IsWay outlines id way → IsWay outlines (end_of outlines id way) more → IsWay outlines id (way ++ more)
way_on outlines id [] more steps on = on
way_on outlines id (i ∷ way) more steps on = (steps.0, way_on outlines (part_of outlines id i) way more steps.1 on)

end_on : (outlines : ℕ → Outline) (id : ℕ) (way more : List ℕ) → end_of outlines id (way ++ more) ≡ end_of outlines (end_of outlines id way) more
end_on outlines id [] more = refl
end_on outlines id (i ∷ way) more = end_on outlines (part_of outlines id i) way more

-- what is reached from what is reached is reached
pub reached_on : (outlines : ℕ → Outline) (id other last : ℕ) → Reaches outlines id other → Reaches outlines other last → Reaches outlines id last
reached_on outlines id other last first more =
    let W : ℕ → Type 0 = λ x. IsWay outlines x more.way in
    record {
      way = first.way ++ more.way;
      steps = way_on outlines id first.way more.way first.steps (subst W (sym first.ends) more.steps);
      ends = end_on outlines id first.way more.way ∙ ap (λ x. end_of outlines x more.way) first.ends ∙ more.ends;
    }

-- each glyph reaches itself
pub reaches_itself : (outlines : ℕ → Outline) (id : ℕ) → Reaches outlines id id
reaches_itself outlines id = record { way = []; steps = tt; ends = refl }

-- each glyph reaches its components
pub reaches_part : (outlines : ℕ → Outline) (id i : ℕ) → i < length (parts (outlines id)) → Reaches outlines id (part_of outlines id i)
reaches_part outlines id i lt = record { way = i ∷ []; steps = (lt, tt); ends = refl }

-- a chain goes on for as long as one wants
beginning : (outlines : ℕ → Outline) (id n : ℕ) (way : List ℕ) → n ≤ length way → IsWay outlines id way → HasWay outlines n id
beginning outlines id zero way le steps = record { way = []; len = refl; steps = tt }
beginning outlines id (suc n) [] le steps = absurd (omega arith)
beginning outlines id (suc n) (i ∷ way) le steps =
    let rest = beginning outlines (part_of outlines id i) n way (omega arith) steps.1 in
    let len = rest.len in
    record { way = i ∷ rest.way; len = omega arith; steps = (steps.0, rest.steps) }

no_part_past : (bytes : List ℕ) (id i : ℕ) → font_glyph_count bytes ≤ id → i < length (parts (font_outlines bytes id)) → ⊥
no_part_past bytes id i past lt =
    let none : length (parts (font_outlines bytes id)) ≡ 0 = ap (λ o. length (parts o)) (outline_past (font_glyph_count bytes) (font_glyphs bytes) id past) in
    omega arith

-- in a font that is read no chain has more than 16 steps
pub at_most_16 : (bytes : List ℕ) → font_fault bytes ≡ None → (id : ℕ) (way : List ℕ) → IsWay (font_outlines bytes) id way → length way ≤ 16
at_most_16 bytes none id [] steps = omega arith
at_most_16 bytes none id (i ∷ way) steps = elim (cases_lt id (font_glyph_count bytes)) [
  | inr past ↦ absurd (no_part_past bytes id i past steps.0)
  | inl inside ↦ elim (cases_lt 16 (length (i ∷ way))) [
    | inr short ↦ short
    | inl long ↦ (let starts : starts_chain (font_outlines bytes) 17 id ≡ true = (starts_ways (font_outlines bytes) 17 id).1 (beginning (font_outlines bytes) id 17 (i ∷ way) (omega arith) steps) in
        let not : starts_chain (font_outlines bytes) 17 id ≡ false = (is_font bytes none).short id inside in
        absurd (cc))
  ]
]

-- in a font that is read a glyph reaches glyphs of the font alone
pub reached_inside : (bytes : List ℕ) → font_fault bytes ≡ None → (id other : ℕ) → id < font_glyph_count bytes → Reaches (font_outlines bytes) id other → other < font_glyph_count bytes
reached_inside bytes none id other inside reached = by_way reached.way reached.steps reached.ends
  where
    by_way : (way : List ℕ) → IsWay (font_outlines bytes) id way → end_of (font_outlines bytes) id way ≡ other → other < font_glyph_count bytes
    by_way [] steps ends = omega arith
    by_way (i ∷ way) steps ends = elim (cases_lt other (font_glyph_count bytes)) [
      | inl lt ↦ lt
      | inr le ↦ (let leads : leads_out (font_glyph_count bytes) (font_outlines bytes) 16 id ≡ true = (finds_ways_out (font_glyph_count bytes) (font_outlines bytes) 16 id).1 (record {
        way = i ∷ way;
        some = omega arith;
        len = at_most_16 bytes none id (i ∷ way) steps;
        steps = steps;
        out = omega arith;
      }) in
          let no : leads_out (font_glyph_count bytes) (font_outlines bytes) 16 id ≡ false = (is_font bytes none).out id inside in
          absurd (cc))
    ]
