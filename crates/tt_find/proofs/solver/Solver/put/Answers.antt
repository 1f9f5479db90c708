use Rattle.std.proofs.Common.{arith, ℕ, Bool, ◌+◌, cond, ◌≡◌, ap, length, sym, ◌∙◌}
use Rattle.tt_abs.specs.States.{state_order}
use Rattle.tt_family.specs.Joins.{is_change}
use Rattle.tt_family.specs.Contents.{Contents, refusal_in}
use Rattle.tt_find.proofs.Placed.{put_new}
use Rattle.tt_setting.proofs.RefusalLemmas.{refused_within}
use Rattle.tt_find.proofs.Steps.{apart_names}
use Rattle.tt_find.proofs.Waits.{length-insert_key, waiting_inserted}
use Rattle.tt_find.proofs.solver.Solver.put.Goals as goal

pub returns-clause-put : goal.returns-clause-put
returns-clause-put c =
    let is = sym c.is_change.ensures ∙ c.if-not-is_change.false in
    let one : ◌≡◌ {A = ℕ} (cond (is_change c.in-Ok.joined) 1 0) 1 = ap (λ (b : Bool). cond {A = ℕ} b 1 0) is in
    record {
      changed = is_change c.in-Ok.joined;
      put = c.in-Ok.ensures.put;
      sums = c.in-Ok.ensures.sums;
      contexts = c.in-Ok.ensures.contexts;
      family = c.in-Ok.ensures.family;
      worklist = waiting_inserted c.args.self.now.worklist c.insert.new.self (c.args.context, c.args.offset) (is_change c.in-Ok.joined) is c.in_default.ensures.ok;
      changes = ap (λ n. c.args.self.now.changes + n) (sym one);
      risen = record {
        worklist = let l = length-insert_key c.args.self.now.worklist (c.args.context, c.args.offset) in let e = ap length c.in_default.ensures.ok in omega arith;
        changes = omega arith;
      };
    }

pub returns-clause-new : goal.returns-clause-new
returns-clause-new c = λ new.
    put_new state_order c.args.self.now.builder c.put_state.new.self c.args.context c.args.offset c.args.state.now (is_change c.in-Ok.joined) c.requires.there c.in-Ok.ensures.put c.in-Ok.ensures.contexts
    c.in-Ok.ensures.family (c.in-Ok.ensures.new.0 new)

pub returns-in-Err-clause-apart : goal.returns-in-Err-clause-apart
returns-in-Err-clause-apart c =
    apart_names c.args.self.now.builder c.args.context c.args.offset c.args.state.now c.in-Err.fault c.refused.result
    (c.refused.ensures ∙ ap (λ (v : Contents). refusal_in v c.args.context c.args.offset c.in-Err.fault) c.in-Err.ensures.kept) c.in-Err.ensures.depth

pub returns-in-Err-clause-within : goal.returns-in-Err-clause-within
returns-in-Err-clause-within c = refused_within _ c.args.offset c.in-Err.fault c.refused.result c.refused.ensures
