use Rattle.std.proofs.Common.{◌≡◌, ◌+◌, ◌-◌, ◌<◌, ◌≤◌, Option, length, take, arith, sym, ◌∙◌, ap, get_or, rules, None, Some, drop}
use Rattle.std.proofs.lemmas.List.{length-take-le, length-drop}
use Rattle.tt_code.specs.Cut.{instruction_at}
use Rattle.tt_code.specs.Representation.Slots.{bodies, body_found, lengths}
use Rattle.tt_code.specs.declared.machine.Body.{Body}
use Rattle.tt_code.proofs.BodyLemmas.{body_found_is, body_none_is, body_only_is}
use Rattle.tt_code.proofs.CutLemmas.{at_kept, kept_fits, kept_instruction, kept_size, piece_at, piece_at_some}
use Rattle.tt_code.proofs.ProgramLemmas.{kept_each, kept_structured, kept_table, length_read}
use Rattle.tt_code.proofs.StructureLaws.{each_bytes, found_stands, stands_found}
use Rattle.tt_code.proofs.StructureLawsOfBodies.{body_value}
use Rattle.tt_code.proofs.program.Program.found_at.Goals as goal

pub returns-in_err-n-clause-instruction : goal.returns-in_err-n-clause-instruction
returns-in_err-n-clause-instruction c =
    let there : get_or (lengths c.self.inside.slots.items) c.args.offset 0 ≡ 0 = length_read _ _ _ _ c.deref.ensures.value (sym c.in_err-n.ensures.none) in
    let none : instruction_at c.args.self.now c.args.offset ≡ None =
    at_kept _ _ _ c.self.invariant.is_laid c.self.view_is c.args.offset ∙ ap (λ t. piece_at t (drop c.args.offset c.self.inside.bytes.now)) there in
    rw c.from_residual.ensures (sym none)

pub returns-in_err-n-clause-body : goal.returns-in_err-n-clause-body
returns-in_err-n-clause-body c =
    let each = kept_each _ _ _ c.self.invariant c.self.view_is in
    let table = kept_table _ _ _ c.self.invariant c.self.view_is in
    let structured = kept_structured _ _ _ c.self.invariant c.self.view_is in
    let read : ◌≡◌ {A = Option Body} None (body_found (bodies c.self.inside.slots.items) c.args.offset) = c.in_err-n.ensures.body ∙ ap (λ t. body_found (bodies t) c.args.offset) c.deref.ensures.value in
    rw c.from_residual.ensures (body_value c.args.self.now c.args.offset None structured each (body_found_is c.args.self.now _ _ c.args.offset _ each table read) (body_none_is c.args.self.now _ _ c.args.offset _ table read))

pub slice_bounds-new-end : goal.slice_bounds-new-end
slice_bounds-new-end c =
    let there : get_or (lengths c.self.inside.slots.items) c.args.offset 0 ≡ c.in_ok-n.n = length_read _ _ _ _ c.deref.ensures.value c.in_ok-n.ensures.length.1 in
    let some : 0 < get_or (lengths c.self.inside.slots.items) c.args.offset 0 = omega (arith, c.in_ok-n.ensures.length.0) in
    let fits : c.args.offset + get_or (lengths c.self.inside.slots.items) c.args.offset 0 ≤ length c.self.inside.bytes.now = kept_fits _ _ c.self.invariant.is_laid c.args.offset some in
    let end : c.args.offset + c.from.result ≤ length c.self.inside.bytes.now = omega (arith, c.from.ensures) in
    search rules

pub new-instruction-requires : goal.new-instruction-requires
new-instruction-requires c =
    let there : get_or (lengths c.self.inside.slots.items) c.args.offset 0 ≡ c.in_ok-n.n = length_read _ _ _ _ c.deref.ensures.value c.in_ok-n.ensures.length.1 in
    let some : 0 < get_or (lengths c.self.inside.slots.items) c.args.offset 0 = omega (arith, c.in_ok-n.ensures.length.0) in
    let is_size : c.args.offset + c.from.result - c.args.offset ≡ get_or (lengths c.self.inside.slots.items) c.args.offset 0 = omega (arith, c.from.ensures) in
    let fits : c.args.offset + get_or (lengths c.self.inside.slots.items) c.args.offset 0 ≤ length c.self.inside.bytes.now = kept_fits _ _ c.self.invariant.is_laid c.args.offset some in
    let room : get_or (lengths c.self.inside.slots.items) c.args.offset 0 ≤ length (drop c.args.offset c.self.inside.bytes.now) = simp length-drop (omega arith) in
    let size_is : length (take (get_or (lengths c.self.inside.slots.items) c.args.offset 0) (drop c.args.offset c.self.inside.bytes.now)) ≡ get_or (lengths c.self.inside.slots.items) c.args.offset 0 = length-take-le _ _ room in
    rw is_size (record { is_instruction = kept_instruction _ _ c.self.invariant.is_laid c.args.offset some; short = omega arith })

pub returns-clause-instruction : goal.returns-clause-instruction
returns-clause-instruction c =
    let there : get_or (lengths c.self.inside.slots.items) c.args.offset 0 ≡ c.in_ok-n.n = length_read _ _ _ _ c.deref.ensures.value c.in_ok-n.ensures.length.1 in
    let some : 0 < get_or (lengths c.self.inside.slots.items) c.args.offset 0 = omega (arith, c.in_ok-n.ensures.length.0) in
    let is_size : c.args.offset + c.from.result - c.args.offset ≡ get_or (lengths c.self.inside.slots.items) c.args.offset 0 = omega (arith, c.from.ensures) in
    let found : instruction_at c.args.self.now c.args.offset ≡ Some c.new-instruction.result =
    at_kept _ _ _ c.self.invariant.is_laid c.self.view_is c.args.offset ∙ piece_at_some _ _ some ∙ ap Some (sym (c.new-instruction.ensures ∙ ap (λ n. take n (drop c.args.offset c.self.inside.bytes.now)) is_size)) in
    sym found

pub returns-clause-body : goal.returns-clause-body
returns-clause-body c =
    let each = kept_each _ _ _ c.self.invariant c.self.view_is in
    let table = kept_table _ _ _ c.self.invariant c.self.view_is in
    let structured = kept_structured _ _ _ c.self.invariant c.self.view_is in
    let read : Some c.in_ok-n.body ≡ body_found (bodies c.self.inside.slots.items) c.args.offset = c.in_ok-n.ensures.body ∙ ap (λ t. body_found (bodies t) c.args.offset) c.deref.ensures.value in
    body_value c.args.self.now c.args.offset (Some c.in_ok-n.body) structured each (body_found_is c.args.self.now _ _ c.args.offset _ each table read) (body_none_is c.args.self.now _ _ c.args.offset _ table read)

pub returns-clause-within : goal.returns-clause-within
returns-clause-within c =
    let there : get_or (lengths c.self.inside.slots.items) c.args.offset 0 ≡ c.in_ok-n.n = length_read _ _ _ _ c.deref.ensures.value c.in_ok-n.ensures.length.1 in
    let some : 0 < get_or (lengths c.self.inside.slots.items) c.args.offset 0 = omega (arith, c.in_ok-n.ensures.length.0) in
    let is_size : c.args.offset + c.from.result - c.args.offset ≡ get_or (lengths c.self.inside.slots.items) c.args.offset 0 = omega (arith, c.from.ensures) in
    let fits : c.args.offset + get_or (lengths c.self.inside.slots.items) c.args.offset 0 ≤ length c.self.inside.bytes.now = kept_fits _ _ c.self.invariant.is_laid c.args.offset some in
    let room : get_or (lengths c.self.inside.slots.items) c.args.offset 0 ≤ length (drop c.args.offset c.self.inside.bytes.now) = simp length-drop (omega arith) in
    let taken : length (take (get_or (lengths c.self.inside.slots.items) c.args.offset 0) (drop c.args.offset c.self.inside.bytes.now)) ≡ get_or (lengths c.self.inside.slots.items) c.args.offset 0 = length-take-le _ _ room in
    rw (c.new-instruction.ensures, is_size, taken, ← kept_size _ _ _ c.self.invariant.is_laid c.self.view_is) fits

pub returns-in_err-n-clause-only : goal.returns-in_err-n-clause-only
returns-in_err-n-clause-only c = λ i b stands is.
    let table = kept_table _ _ _ c.self.invariant c.self.view_is in
    let read : ◌≡◌ {A = Option Body} None (body_found (bodies c.self.inside.slots.items) c.args.offset) = c.in_err-n.ensures.body ∙ ap (λ t. body_found (bodies t) c.args.offset) c.deref.ensures.value in
    absurd (body_none_is c.args.self.now _ _ c.args.offset None table read i stands)

pub returns-in_err-n-clause-none : goal.returns-in_err-n-clause-none
returns-in_err-n-clause-none c =
    let table = kept_table _ _ _ c.self.invariant c.self.view_is in
    let read : ◌≡◌ {A = Option Body} None (body_found (bodies c.self.inside.slots.items) c.args.offset) = c.in_err-n.ensures.body ∙ ap (λ t. body_found (bodies t) c.args.offset) c.deref.ensures.value in
    rw c.from_residual.ensures (body_none_is c.args.self.now _ _ c.args.offset None table read)

pub returns-clause-found : goal.returns-clause-found
returns-clause-found c =
    let there : get_or (lengths c.self.inside.slots.items) c.args.offset 0 ≡ c.in_ok-n.n = length_read _ _ _ _ c.deref.ensures.value c.in_ok-n.ensures.length.1 in
    let some : 0 < get_or (lengths c.self.inside.slots.items) c.args.offset 0 = omega (arith, c.in_ok-n.ensures.length.0) in
    let is_size : c.args.offset + c.from.result - c.args.offset ≡ get_or (lengths c.self.inside.slots.items) c.args.offset 0 = omega (arith, c.from.ensures) in
    let found : instruction_at c.args.self.now c.args.offset ≡ Some c.new-instruction.result =
    at_kept _ _ _ c.self.invariant.is_laid c.self.view_is c.args.offset ∙ piece_at_some _ _ some ∙ ap Some (sym (c.new-instruction.ensures ∙ ap (λ n. take n (drop c.args.offset c.self.inside.bytes.now)) is_size)) in
    let each = kept_each _ _ _ c.self.invariant c.self.view_is in
    let table = kept_table _ _ _ c.self.invariant c.self.view_is in
    let read : Some c.in_ok-n.body ≡ body_found (bodies c.self.inside.slots.items) c.args.offset = c.in_ok-n.ensures.body ∙ ap (λ t. body_found (bodies t) c.args.offset) c.deref.ensures.value in
    (found_stands c.args.self.now c.args.offset c.new-instruction.result found, (body_found_is c.args.self.now _ _ c.args.offset (Some c.in_ok-n.body) each table read).1)

pub returns-clause-only : goal.returns-clause-only
returns-clause-only c = λ i b stands is.
    let there : get_or (lengths c.self.inside.slots.items) c.args.offset 0 ≡ c.in_ok-n.n = length_read _ _ _ _ c.deref.ensures.value c.in_ok-n.ensures.length.1 in
    let some : 0 < get_or (lengths c.self.inside.slots.items) c.args.offset 0 = omega (arith, c.in_ok-n.ensures.length.0) in
    let is_size : c.args.offset + c.from.result - c.args.offset ≡ get_or (lengths c.self.inside.slots.items) c.args.offset 0 = omega (arith, c.from.ensures) in
    let found : instruction_at c.args.self.now c.args.offset ≡ Some c.new-instruction.result =
    at_kept _ _ _ c.self.invariant.is_laid c.self.view_is c.args.offset ∙ piece_at_some _ _ some ∙ ap Some (sym (c.new-instruction.ensures ∙ ap (λ n. take n (drop c.args.offset c.self.inside.bytes.now)) is_size)) in
    let each = kept_each _ _ _ c.self.invariant c.self.view_is in
    let table = kept_table _ _ _ c.self.invariant c.self.view_is in
    let structured = kept_structured _ _ _ c.self.invariant c.self.view_is in
    let read : Some c.in_ok-n.body ≡ body_found (bodies c.self.inside.slots.items) c.args.offset = c.in_ok-n.ensures.body ∙ ap (λ t. body_found (bodies t) c.args.offset) c.deref.ensures.value in
    let same : Some c.in_ok-n.body ≡ Some b = body_only_is c.args.self.now _ _ c.args.offset (Some c.in_ok-n.body) each structured table read i b stands is in
    let stood : instruction_at c.args.self.now c.args.offset ≡ Some i = stands_found c.args.self.now c.args.offset i (each_bytes _ each) stands in
    cc
