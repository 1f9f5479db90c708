use Rattle.std.proofs.Common.{◌≡◌, refl, ◌+◌, length, reverse, Some, ap, ◌∙◌, arith}
use Rattle.tt_code.specs.Representation.Pass.{step, closed, body_after}
use Rattle.tt_code.proofs.CutLemmas.{some_bytes}
use Rattle.tt_code.proofs.SlotLemmas.{read_refused, read_closed, read_more, Targeted, grown, retargeted}
use Rattle.std.proofs.lemmas.List.{length-set}
use Rattle.tt_code.proofs.reading.Reading.read.Goals as goal
use Rattle.tt_code.proofs.reading.Reading.read.Goals.{in-Passed, in-Closed}

pub returns-in-Refused-clause-refused : goal.returns-in-Refused-clause-refused
returns-in-Refused-clause-refused c = λ _ p r.
    let turn = rw c.in-Refused.is at c.in_ok-apply_keyword.ensures in
    let here : length c.args.self.now.slots.items ≡ c.len-offset.result = omega (arith, c.len-offset.ensures, c.args.self.now.slots.ok.0) in
    read_refused p c.len-offset.result _ _ _ c.args.instruction.now c.keyword_of_code-keyword.result r here c.requires.whole c.keyword_of_code-keyword.ensures turn

pub index_mut-requires : goal.index_mut-requires
index_mut-requires c =
    let turn = rw c.in-Closed.is at c.in_ok-apply_keyword.ensures in
    let so_far = c.requires.so_far in
    let here : length c.args.self.now.slots.items ≡ c.len-offset.result = omega (arith, c.len-offset.ensures, c.args.self.now.slots.ok.0) in
    let less = read_closed so_far.0 c.len-offset.result (reverse c.args.self.now.stack.items) _ c.args.self.now.body c.args.self.now.slots.items c.args.instruction.now c.keyword_of_code-keyword.result c.in-Closed.opener so_far.1 here c.requires.whole c.keyword_of_code-keyword.ensures turn.0 turn.1 in
    rw c.args.self.now.slots.ok.0 less

pub returns-clause-stands : goal.returns-clause-stands
returns-clause-stands c = λ _ p r.
    let slots = c.args.self.now.slots.items in
    let i = c.args.instruction.now in
    let keyword = c.keyword_of_code-keyword.result in
    let offset = c.len-offset.result in
    let here : length slots ≡ offset = omega (arith, c.len-offset.ensures, c.args.self.now.slots.ok.0) in
    let mid : (step keyword offset (reverse c.args.self.now.stack.items) ≡ Some (reverse c.match-branch-2.self.stack.items))
    × Targeted (closed keyword (reverse c.args.self.now.stack.items)) (offset + length i) slots c.match-branch-2.self.slots.items
    × (length c.match-branch-2.self.slots.items ≡ offset)
    × (c.match-branch-2.self.body ≡ c.args.self.now.body) =
    elim c.match-branch-2.branch [
      | in-Passed w ↦ let turn = rw w.in-Passed.is at c.in_ok-apply_keyword.ensures in
          (rw w.self-is turn.0, rw (w.self-is, turn.1) refl, rw w.self-is here, rw w.self-is refl)
      | in-Closed w ↦ let turn = rw w.in-Closed.is at c.in_ok-apply_keyword.ensures in
          let less = read_closed p offset (reverse c.args.self.now.stack.items) _ c.args.self.now.body slots i keyword w.in-Closed.opener r here c.requires.whole c.keyword_of_code-keyword.ensures turn.0 turn.1 in
          (rw w.self-is turn.0, rw (w.self-is, turn.1) (retargeted slots w.in-Closed.opener (offset + length i) _ less w.index_mut.ensures.value), rw w.self-is (length-set slots w.in-Closed.opener _ ∙ here), rw w.self-is refl)
    ] in
    let pushed = c.in_ok-push.ensures.items in
    let filled = c.in_ok-resize.ensures.items in
    read_more p offset (reverse c.args.self.now.stack.items) (reverse c.match-branch-2.self.stack.items) c.args.self.now.body c.next_body-self.result slots c.match-branch-2.self.slots.items c.resize.new.self.items
    c.start-slot.result i keyword r here c.requires.whole c.keyword_of_code-keyword.ensures mid.0 mid.1 (c.next_body-self.ensures ∙ ap (λ b. body_after b keyword offset) mid.3)
    c.start-slot.ensures.length c.start-slot.ensures.body c.start-slot.ensures.target
    (grown c.match-branch-2.self.slots.items c.push.new.self.items c.resize.new.self.items c.start-slot.result offset (length i) mid.2 (some_bytes i c.requires.whole) pushed (filled ∙ rw (c.push.new.self.ok.0, c.inside.ensures) refl))
