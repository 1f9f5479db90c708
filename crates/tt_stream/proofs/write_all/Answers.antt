use Rattle.std.proofs.Common.{◌≡◌, ℕ, List, rules, arith, take, drop, sym, ◌∙◌, subst, length, ◌-◌, take_all, length-drop}
use Rattle.std.specs.Io.KnownBytes.{Appends}
use Rattle.std.proofs.KnownBytes.{Appends-trans}
use lib.Seq.{take-add}
use Rattle.tt_stream.proofs.write_all.Goals as goal

drop_whole : (a : ℕ) (xs : List ℕ) → take (length xs - a) (drop a xs) ≡ drop a xs
drop_whole a xs = take_all (length xs - a) (drop a xs) (simp length-drop (omega arith))

pub loop-at-preserved : goal.loop-at-preserved
loop-at-preserved g c =
    let from = c.loop-at.at in
    let n = c.in_ok-at.field-0 in
    record {
      within = search rules;
      written = subst (Appends _ _) (sym (take-add from n c.args.bytes.now)) (Appends-trans _ _ _ _ _ c.loop-at.invariant.written
          (subst (λ (l : List ℕ). Appends (g.W.Sink.contents c.loop-at.sink) (g.W.Sink.contents c.write.new.self) (take n l)) (drop_whole from c.args.bytes.now) c.in_ok-at.ensures.bytes));
      failures = c.in_ok-at.ensures.failures ∙ c.loop-at.invariant.failures;
    }
