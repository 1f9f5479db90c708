use Rattle.tt_family.proofs.Putting.{joined_built, joined_new, joined_puts, joined_sums, joined_depth, joined_joined}
use Rattle.tt_family.proofs.builder.Builder.put_state.Goals as goal

pub invariant_of-self : goal.invariant_of-self
invariant_of-self c =
    joined_built _ _ _ _ c.self.view_is c.self.invariant c.join.new.self c.args.context c.args.offset c.requires.there c.args.state.now c.requires.theirs
    c.join.result c.join.ensures.put c.join.ensures.fits c.join.ensures.kept

pub returns-clause-put : goal.returns-clause-put
returns-clause-put c =
    joined_puts _ _ _ _ c.self.view_is c.self.invariant c.join.new.self c.args.context c.args.offset c.requires.there c.args.state.now c.requires.theirs
    c.join.result c.join.ensures.put

pub returns-clause-new : goal.returns-clause-new
returns-clause-new c =
    joined_new _ _ _ _ c.self.view_is c.self.invariant c.join.new.self c.args.context c.args.offset c.requires.there c.args.state.now c.requires.theirs
    c.join.result c.join.ensures.new

pub returns-clause-sums : goal.returns-clause-sums
returns-clause-sums c =
    joined_sums _ _ _ _ c.self.view_is c.self.invariant c.join.new.self c.args.context c.args.offset c.requires.there c.args.state.now c.requires.theirs
    c.join.result c.join.ensures.sums

pub returns-clause-depth : goal.returns-clause-depth
returns-clause-depth c =
    joined_depth _ _ _ _ c.self.view_is c.self.invariant c.join.new.self c.args.context c.args.offset c.requires.there c.args.state.now c.requires.theirs
    c.join.result c.join.ensures.depth

pub returns-clause-joined : goal.returns-clause-joined
returns-clause-joined c =
    joined_joined _ _ _ _ c.self.view_is c.self.invariant c.join.new.self c.args.context c.args.offset c.requires.there c.args.state.now c.requires.theirs
    c.join.result c.join.ensures.joined

pub returns-clause-family : goal.returns-clause-family
returns-clause-family c =
    (joined_built _ _ _ _ c.self.view_is c.self.invariant c.join.new.self c.args.context c.args.offset c.requires.there c.args.state.now c.requires.theirs
    c.join.result c.join.ensures.put c.join.ensures.fits c.join.ensures.kept).family
