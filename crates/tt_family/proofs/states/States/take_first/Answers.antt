use Rattle.tt_family.proofs.StateSlots.{next_there, rest_there, next_state}
use Rattle.tt_family.proofs.states.States.take_first.Goals as goal

pub bounds-self-inside-number : goal.bounds-self-inside-number
bounds-self-inside-number c =
    next_there c.self.inside.slots.now c.self.inside.points c.take_first.new.self c.in_ok-point.point c.in_ok-point.number c.self.invariant c.in_ok-point.ensures.some

pub invariant_of-self-2 : goal.invariant_of-self-2
invariant_of-self-2 c =
    rest_there c.self.inside.slots.now c.self.inside.points c.take_first.new.self c.in_ok-point.point c.in_ok-point.number c.self.invariant c.in_ok-point.ensures.some

pub returns-clause-some : goal.returns-clause-some
returns-clause-some c =
    next_state c.self.inside.slots.now c.self.inside.points c.take_first.new.self c.in_ok-point.point c.in_ok-point.number c.self.invariant c.in_ok-point.ensures.some
    _ c.self.view_is c.index-self-number.result
