use Rattle.std.proofs.Common.{rules, arith, refl, ◌∙◌, ap, List}
use Rattle.std.specs.Prelude.{reverse}
use Rattle.tt_code.specs.declared.machine.Frame.{Frame}
use Rattle.tt_family.specs.Contents.{frames_at}
use Rattle.tt_family.specs.Contexts.{frames_of}
use Rattle.tt_family.proofs.Adding.{contexts_is, length_is, context_some, walk_init, walk_step, walk_end}
use Rattle.tt_family.proofs.builder.Builder.read_frames.Goals as goal

pub loop-at-init : goal.loop-at-init
loop-at-init c = record {
  within = let long = length_is _ _ _ _ c.self.view_is c.self.invariant in omega arith;
  frames = walk_init (frames_of c.self.inside.entries.items) c.args.number c.clear.new.self.items c.clear.ensures.items;
}

pub loop-at-smaller : goal.loop-at-smaller
loop-at-smaller c =
    (context_some _ _ _ (record { contexts = frames_of c.self.inside.entries.items; states = c.self.inside.states }) refl c.self.invariant c.self.inside.entries.items refl c.loop-at.at
    (omega arith) c.index-entry.result.now c.index-entry.ensures (let w = c.loop-at.invariant.within in omega arith)).1

pub loop-at-preserved : goal.loop-at-preserved
loop-at-preserved c =
    let step = context_some _ _ _ (record { contexts = frames_of c.self.inside.entries.items; states = c.self.inside.states }) refl c.self.invariant c.self.inside.entries.items refl c.loop-at.at
    (omega arith) c.index-entry.result.now c.index-entry.ensures (let w = c.loop-at.invariant.within in omega arith) in
    let less = step.1 in
    let w = c.loop-at.invariant.within in
    record {
      within = omega arith;
      frames = walk_step (frames_of c.self.inside.entries.items) c.args.number c.loop-at.at c.index-entry.result.now.0 c.index-entry.result.now.1 c.loop-at.frames.items c.push.new.self.items c.loop-at.invariant.frames step.2 (search rules);
    }

pub returns : goal.returns
returns c =
    walk_end _ c.args.number c.loop-at.at c.loop-at.frames.items _ c.self.invariant.family.main (omega arith) c.loop-at.invariant.frames c.reverse.ensures.items
    ∙ ap (λ (x : List (List Frame)). reverse (frames_at x c.args.number)) (contexts_is _ _ _ _ c.self.view_is c.self.invariant)
