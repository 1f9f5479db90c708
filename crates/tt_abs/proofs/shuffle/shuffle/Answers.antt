use Rattle.std.proofs.Common.{refl}
use Rattle.tt_code.specs.declared.kinds.StackOp.TheVariants as op
use Rattle.tt_setting.specs.declared.failed.Role.TheVariants as role
use Rattle.tt_abs.specs.Representation.Taken.{IsNoRole, IsRole}
use Rattle.tt_abs.specs.Failures.{IsRoleOfShuffle}
use Rattle.tt_abs.proofs.Told.{as_none, as_one, stack_answer_as}
use Rattle.tt_abs.proofs.shuffle.shuffle.Goals as goal

pub returns-in-Dup-clause-told : goal.returns-in-Dup-clause-told
returns-in-Dup-clause-told c = rw c.in-Dup.is (stack_answer_as c.duplicate.result IsNoRole (IsRoleOfShuffle op.Dup) c.args.stack.now (as_none (IsRoleOfShuffle op.Dup)) c.duplicate.ensures.told)

pub returns-in-Pop-clause-told : goal.returns-in-Pop-clause-told
returns-in-Pop-clause-told c = rw c.in-Pop.is (stack_answer_as c.discard.result IsNoRole (IsRoleOfShuffle op.Pop) c.args.stack.now (as_none (IsRoleOfShuffle op.Pop)) c.discard.ensures.told)

pub returns-in-Swap-clause-told : goal.returns-in-Swap-clause-told
returns-in-Swap-clause-told c = rw c.in-Swap.is (stack_answer_as c.swap.result IsNoRole (IsRoleOfShuffle op.Swap) c.args.stack.now (as_none (IsRoleOfShuffle op.Swap)) c.swap.ensures.told)

pub returns-in-Depth-clause-told : goal.returns-in-Depth-clause-told
returns-in-Depth-clause-told c = rw c.in-Depth.is (stack_answer_as c.push_depth.result IsNoRole (IsRoleOfShuffle op.Depth) c.args.stack.now (as_none (IsRoleOfShuffle op.Depth)) c.push_depth.ensures.told)

pub returns-in-CopyIndexed-clause-told : goal.returns-in-CopyIndexed-clause-told
returns-in-CopyIndexed-clause-told c = rw c.in-CopyIndexed.is (stack_answer_as c.copy_indexed.result (IsRole role.StackIndex 0) (IsRoleOfShuffle op.CopyIndexed) c.args.stack.now (as_one role.StackIndex 0 (IsRoleOfShuffle op.CopyIndexed) refl) c.copy_indexed.ensures.told)

pub returns-in-MoveIndexed-clause-told : goal.returns-in-MoveIndexed-clause-told
returns-in-MoveIndexed-clause-told c = rw c.in-MoveIndexed.is (stack_answer_as c.move_indexed.result (IsRole role.StackIndex 0) (IsRoleOfShuffle op.MoveIndexed) c.args.stack.now (as_one role.StackIndex 0 (IsRoleOfShuffle op.MoveIndexed) refl) c.move_indexed.ensures.told)

pub returns-in-Roll-clause-told : goal.returns-in-Roll-clause-told
returns-in-Roll-clause-told c = rw c.in-Roll.is (stack_answer_as c.roll.result IsNoRole (IsRoleOfShuffle op.Roll) c.args.stack.now (as_none (IsRoleOfShuffle op.Roll)) c.roll.ensures.told)

pub returns-in-Depth-clause-ok : goal.returns-in-Depth-clause-ok
returns-in-Depth-clause-ok c = rw c.in-Depth.is c.push_depth.ensures.ok
