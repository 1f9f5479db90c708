use Rattle.std.proofs.Common.{◌≡◌, ◌<◌, ℕ, arith, zero-add, ap, ◌∙◌, sym, length, List, [], ◌∷◌, None, Some, true, false, refl}
use Rattle.std.specs.Prelude.{◌==◌}
use Rattle.std.proofs.Math.Dec.{eqb-suc-zero}
use Rattle.tt_code.proofs.TableLemmas.{agrees_at}
use Rattle.tt_code.specs.Entries.{named, name_text}
use Rattle.tt_code.specs.Table.{name_of}
use Rattle.tt_code.proofs.table.name.Goals as goal

empty_is_none : (text : List ℕ) → (length text == 0) ≡ true → named text ≡ None
empty_is_none [] e = refl
empty_is_none (c ∷ cs) e = let wrong : false ≡ true = sym (eqb-suc-zero (length cs)) ∙ e in cc

other_is_some : (text : List ℕ) → (length text == 0) ≡ false → named text ≡ Some text
other_is_some [] e = cc
other_is_some (c ∷ cs) e = refl

pub returns-then-is_empty : goal.returns-then-is_empty
returns-then-is_empty c =
    let low : c.args.code < 256 = omega arith in
    sym (empty_is_none _ (sym c.is_empty.ensures ∙ c.if-is_empty.true))
    ∙ agrees_at 256 0 c.args.code c.names.result.now name_text name_of _ low c.names.ensures ∙ ap name_of (zero-add c.args.code)

pub returns-else-is_empty : goal.returns-else-is_empty
returns-else-is_empty c =
    let low : c.args.code < 256 = omega arith in
    sym (other_is_some _ (sym c.is_empty.ensures ∙ c.if-is_empty.false))
    ∙ agrees_at 256 0 c.args.code c.names.result.now name_text name_of _ low c.names.ensures ∙ ap name_of (zero-add c.args.code)
