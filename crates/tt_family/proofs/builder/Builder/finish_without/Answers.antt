use Rattle.std.proofs.Common.{◌≡◌, [], subst, sym}
use Rattle.std.proofs.lemmas.List.{nil_from_length}
use Rattle.tt_family.specs.Contents.{Contents}
use Rattle.tt_family.specs.Ascending.{SameWithout}
use Rattle.tt_family.proofs.Moves.{without_itself}
use Rattle.tt_family.proofs.builder.Builder.finish_without.Goals as goal

pub returns-then-is_ascending-clause-same : goal.returns-then-is_ascending-clause-same
returns-then-is_ascending-clause-same c =
    let none : c.args.spare.now.keys ≡ [] = nil_from_length c.args.spare.now.keys (c.is_empty.ensures.0 c.if-is_empty.true) in
    let W : Contents → Type 0 = λ x. SameWithout c.args.self x c.args.spare.now.keys in
    subst W (sym c.of.ensures) (without_itself c.args.self c.args.spare.now.keys none)
