use Rattle.std.proofs.Common.{IfSome, subst, sym}
use Rattle.hintcheck.specs.Listing.{Calls}
use Rattle.hintcheck.proofs.instruction_list.named_program.Goals as goal

pub returns-clause-there : goal.returns-clause-there
returns-clause-there c =
    let called = subst (λ meant. IfSome meant (Calls c.args.bytes.now c.args.word.now)) c.in-Some.is c.in_ok-name.ensures in
    record { name = c.in-Some.name; text = called; there = sym c.in-Some-program_of.ensures }

pub returns-clause-text : goal.returns-clause-text
returns-clause-text c = subst (λ meant. IfSome meant (Calls c.args.bytes.now c.args.word.now)) c.in-Some.is c.in_ok-name.ensures
