-- How the crate keeps the table: an array with an effect and one with a name for each instruction
-- code. The functions here say what the entries of these arrays stand for.
use Rattle.std.specs.Prelude.{ℕ, zero, suc, ◌+◌, List, [], ◌∷◌, Option, None, Some}
use denote.Ref.{Bor}
use Rattle.tt_code.specs.Table.{Meaning, NoEntry, Plain, Pushes, Stack, Computes, Controls}
use Rattle.tt_code.specs.declared.kinds.Effect.{Effect}
use Rattle.tt_code.specs.declared.kinds.Effect.TheVariants as effect

-- what an effect stands for; the lists of its row are slices
abbrev pub view : Effect → Meaning
view effect.NoEntry = NoEntry
view (effect.Plain row) = Plain (record {
  operands = row.operands.now;
  uses = row.uses.now;
  updates = row.updates.now;
  pushes = row.pushes.now;
})
view (effect.Push p) = Pushes p
view (effect.Stack s) = Stack s
view (effect.Arithmetic a) = Computes a
view (effect.Control c) = Controls c

-- n codes, from the first one on
abbrev pub codes_from : ℕ → ℕ → List ℕ
codes_from first zero = []
codes_from first (suc n) = first ∷ codes_from (first + 1) n

-- a name as text; the empty one stands for none
abbrev pub named : List ℕ → Option (List ℕ)
named [] = None
named (c ∷ cs) = Some (c ∷ cs)

-- the name that a reference points to
abbrev pub name_text : Bor (List ℕ) → Option (List ℕ)
name_text n = named n.now
