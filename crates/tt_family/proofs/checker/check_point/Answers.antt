use Rattle.std.proofs.Common.{rules, arith, ◌≡◌, ◌<◌, List, Ok, Err, true, false, refl, sym, ◌∙◌, ap, subst}
use Rattle.std.specs.Prelude.{◌^◌, ◌↔◌}
use Rattle.tt_code.specs.Settings.{is_main_end}
use Rattle.tt_code.specs.declared.machine.Frame.{Frame}
use Rattle.tt_abs.specs.Lines.{Precedes}
use Rattle.tt_abs.specs.Moves.{nexts_of}
use Rattle.tt_setting.specs.Settings.{setting_of}
use Rattle.tt_abs.specs.StateFlow.{Place}
use Rattle.tt_abs.specs.States.{abstract_of}
use Rattle.tt_abs.specs.Transfers.{outcome_on_cells}
use Rattle.tt_setting.specs.declared.step_fault.StepFault.{StepFault}
use Rattle.tt_setting.specs.declared.failed.Failed.TheVariants.{Only}
use Rattle.tt_code.specs.declared.reason.Reason.TheVariants.{Storage}
use Rattle.tt_setting.proofs.RefusalLemmas.{for_reason}
use Rattle.tt_family.specs.Contents.{Contents, family_of, frames_at, refusal_in}
use Rattle.tt_family.specs.Puts.{place_of}
use Rattle.tt_family.specs.Representation.Cursors.{MayLeaveOut}
use Rattle.tt_family.specs.Fillings.{IsAfter}
use Rattle.tt_family.specs.declared.meeting.Coverage.TheVariants as coverage
use Rattle.tt_family.proofs.Checked.{broken_here, frames_back, outcome_moved, passed_at_end, passed_here, refusal_moved, refused_here, stores_here}
use Rattle.tt_family.proofs.StoredCells.{stored_above, stored_within}
use Rattle.tt_family.proofs.Turns.{turn_left}
use Rattle.tt_family.proofs.Walking.{line_of}
use Rattle.tt_family.proofs.checker.check_point.Goals as goal

pub returns-then-not-are_stored_within-clause-broken : goal.returns-then-not-are_stored_within-clause-broken
returns-then-not-are_stored_within-clause-broken c =
    let S = setting_of c.args.setting.now in
    let P = place_of c.args.certificate.now c.args.walk.now.context c.args.offset in
    let above : c.are_stored_within.result ≡ false = search rules in
    let within : c.args.offset < 2 ^ 32 = omega arith in
    stores_here S (family_of c.args.certificate.now) (MayLeaveOut c.args.listing S P) P c.args.walk.now.made c.refused.result within
    (c.refused.ensures ∙ ap (λ (v : Contents). refusal_in v c.args.walk.now.context c.args.offset (StepFault.Refused (Only Storage))) c.builder.ensures)
    (stored_above S c.args.walk.now.made c.stored.result.now c.are_stored_within.result c.stored.ensures c.are_stored_within.ensures above)

pub returns-then-is_end-clause-passed : goal.returns-then-is_end-clause-passed
returns-then-is_end-clause-passed c =
    let S = setting_of c.args.setting.now in
    let fs = frames_at c.args.certificate.now.contexts c.args.walk.now.context in
    let P = place_of c.args.certificate.now c.args.walk.now.context c.args.offset in
    let within : c.are_stored_within.result ≡ true = search rules in
    let back = frames_back c.as_slice.result.now _ fs c.as_slice.ensures.value c.requires.walk.frames in
    let ends : is_main_end S fs c.args.offset ≡ true = ap (λ f. is_main_end S f c.args.offset) (sym back) ∙ sym c.is_end.ensures ∙ c.if-is_end.true in
    passed_at_end S (family_of c.args.certificate.now) (MayLeaveOut c.args.listing S P) P c.args.walk.now.made _ c.args.walk.now.made refl
    (stored_within S c.args.walk.now.made c.stored.result.now c.are_stored_within.result c.stored.ensures c.are_stored_within.ensures within) ends

pub returns-in-Err-clause-broken : goal.returns-in-Err-clause-broken
returns-in-Err-clause-broken c =
    let S = setting_of c.args.setting.now in
    let fs = frames_at c.args.certificate.now.contexts c.args.walk.now.context in
    let P = place_of c.args.certificate.now c.args.walk.now.context c.args.offset in
    let within : c.are_stored_within.result ≡ true = search rules in
    let back = frames_back c.as_slice.result.now _ fs c.as_slice.ensures.value c.requires.walk.frames in
    let running : is_main_end S fs c.args.offset ≡ false = ap (λ f. is_main_end S f c.args.offset) (sym back) ∙ sym c.is_end.ensures ∙ c.if-is_end.false in
    let offset_within : c.args.offset < 2 ^ 32 = omega arith in
    refused_here S (family_of c.args.certificate.now) (MayLeaveOut c.args.listing S P) P c.args.walk.now.made
    (stored_within S c.args.walk.now.made c.stored.result.now c.are_stored_within.result c.stored.ensures c.are_stored_within.ensures within) running c.refused-in-Err.result
    c.in-Err.fault offset_within (c.refused-in-Err.ensures ∙ ap (λ (v : Contents). refusal_in v c.args.walk.now.context c.args.offset c.in-Err.fault) c.builder-in-Err.ensures)
    (for_reason c.in-Err.fault _ (λ r. outcome_on_cells S fs c.args.offset (abstract_of c.args.walk.now.made) ≡ Err r)
    (refusal_moved S fs _ c.args.offset _ c.args.walk.now.made _ back refl refl) c.in-Err.ensures.refused)

pub check_successors-requires-clause-turn : goal.check_successors-requires-clause-turn
check_successors-requires-clause-turn c =
    let S = setting_of c.args.setting.now in
    let fs = frames_at c.args.certificate.now.contexts c.args.walk.now.context in
    let back = frames_back c.as_slice.result.now _ fs c.as_slice.ensures.value c.requires.walk.frames in
    let outcome : outcome_on_cells S fs c.args.offset (abstract_of c.args.walk.now.made) ≡ Ok (nexts_of fs c.in-Ok.step.moves (abstract_of c.step_at.new.state)) =
    outcome_moved S fs _ c.args.offset _ c.args.walk.now.made _ back refl refl c.in-Ok.step.moves c.step_at.new.state c.in-Ok.ensures.ok in
    turn_left S fs c.args.offset (abstract_of c.args.walk.now.made) (abstract_of c.step_at.new.state) c.in-Ok.step.moves outcome

pub check_successors-requires-clause-unlisted : goal.check_successors-requires-clause-unlisted
check_successors-requires-clause-unlisted c = λ end is.
    let S = setting_of c.args.setting.now in
    let fs = frames_at c.args.certificate.now.contexts c.args.walk.now.context in
    let back = frames_back c.as_slice.result.now _ fs c.as_slice.ensures.value c.requires.walk.frames in
    let A : List Frame → Type 0 = λ f. (q : Place) → IsAfter f c.left_out_after-after.result q ↔ MayLeaveOut c.args.listing S (f, c.args.offset) q in
    let same_places = subst A back c.left_out_after-after.ensures in
    let line : Precedes S (fs, c.args.offset) (fs, end) = line_of S c.args.listing (fs, c.args.offset) (fs, end) ((same_places (fs, end)).0 (refl, is)) in
    c.requires.unlisted end line.ends.forward

pub check_successors-requires-clause-forward : goal.check_successors-requires-clause-forward
check_successors-requires-clause-forward c = λ end is.
    let S = setting_of c.args.setting.now in
    let fs = frames_at c.args.certificate.now.contexts c.args.walk.now.context in
    let back = frames_back c.as_slice.result.now _ fs c.as_slice.ensures.value c.requires.walk.frames in
    let A : List Frame → Type 0 = λ f. (q : Place) → IsAfter f c.left_out_after-after.result q ↔ MayLeaveOut c.args.listing S (f, c.args.offset) q in
    let same_places = subst A back c.left_out_after-after.ensures in
    let line : Precedes S (fs, c.args.offset) (fs, end) = line_of S c.args.listing (fs, c.args.offset) (fs, end) ((same_places (fs, end)).0 (refl, is)) in
    let lt : c.args.offset < end = line.ends.forward in omega arith

pub returns-in-Err-check_successors-clause-broken : goal.returns-in-Err-check_successors-clause-broken
returns-in-Err-check_successors-clause-broken c =
    let S = setting_of c.args.setting.now in
    let fs = frames_at c.args.certificate.now.contexts c.args.walk.now.context in
    let P = place_of c.args.certificate.now c.args.walk.now.context c.args.offset in
    let within : c.are_stored_within.result ≡ true = search rules in
    let back = frames_back c.as_slice.result.now _ fs c.as_slice.ensures.value c.requires.walk.frames in
    let running : is_main_end S fs c.args.offset ≡ false = ap (λ f. is_main_end S f c.args.offset) (sym back) ∙ sym c.is_end.ensures ∙ c.if-is_end.false in
    let A : List Frame → Type 0 = λ f. (q : Place) → IsAfter f c.left_out_after-after.result q ↔ MayLeaveOut c.args.listing S (f, c.args.offset) q in
    broken_here S (family_of c.args.certificate.now) (MayLeaveOut c.args.listing S P) P c.args.walk.now.made
    (stored_within S c.args.walk.now.made c.stored.result.now c.are_stored_within.result c.stored.ensures c.are_stored_within.ensures within) c.in-Ok.step.moves c.step_at.new.state
    (c.in-Ok.ensures.in_range c.requires.in_range) running
    (outcome_moved S fs _ c.args.offset _ c.args.walk.now.made _ back refl refl c.in-Ok.step.moves c.step_at.new.state c.in-Ok.ensures.ok)
    c.left_out_after-after.result (subst A back c.left_out_after-after.ensures)
    c.in-Err-check_successors.fault c.in-Err-check_successors.ensures.gap

pub returns-in-Ok-Next-clause-passed : goal.returns-in-Ok-Next-clause-passed
returns-in-Ok-Next-clause-passed c =
    let S = setting_of c.args.setting.now in
    let fs = frames_at c.args.certificate.now.contexts c.args.walk.now.context in
    let P = place_of c.args.certificate.now c.args.walk.now.context c.args.offset in
    let within : c.are_stored_within.result ≡ true = search rules in
    let back = frames_back c.as_slice.result.now _ fs c.as_slice.ensures.value c.requires.walk.frames in
    let running : is_main_end S fs c.args.offset ≡ false = ap (λ f. is_main_end S f c.args.offset) (sym back) ∙ sym c.is_end.ensures ∙ c.if-is_end.false in
    let A : List Frame → Type 0 = λ f. (q : Place) → IsAfter f c.left_out_after-after.result q ↔ MayLeaveOut c.args.listing S (f, c.args.offset) q in
    passed_here S (family_of c.args.certificate.now) (MayLeaveOut c.args.listing S P) P c.args.walk.now.made
    (stored_within S c.args.walk.now.made c.stored.result.now c.are_stored_within.result c.stored.ensures c.are_stored_within.ensures within) c.in-Ok.step.moves c.step_at.new.state
    (c.in-Ok.ensures.in_range c.requires.in_range) running
    (outcome_moved S fs _ c.args.offset _ c.args.walk.now.made _ back refl refl c.in-Ok.step.moves c.step_at.new.state c.in-Ok.ensures.ok)
    c.left_out_after-after.result (subst A back c.left_out_after-after.ensures)
    c.args.walk.now.next c.in-Ok-Next.field-0 _ (λ _. refl) (λ e. let no_such : coverage.Next ≡ coverage.Added = sym c.in-Ok-Next.field-0-is ∙ e in absurd (cc)) c.in-Ok-Next.ensures.met

pub returns-in-Ok-Listed-clause-passed : goal.returns-in-Ok-Listed-clause-passed
returns-in-Ok-Listed-clause-passed c =
    let S = setting_of c.args.setting.now in
    let fs = frames_at c.args.certificate.now.contexts c.args.walk.now.context in
    let P = place_of c.args.certificate.now c.args.walk.now.context c.args.offset in
    let within : c.are_stored_within.result ≡ true = search rules in
    let back = frames_back c.as_slice.result.now _ fs c.as_slice.ensures.value c.requires.walk.frames in
    let running : is_main_end S fs c.args.offset ≡ false = ap (λ f. is_main_end S f c.args.offset) (sym back) ∙ sym c.is_end.ensures ∙ c.if-is_end.false in
    let A : List Frame → Type 0 = λ f. (q : Place) → IsAfter f c.left_out_after-after.result q ↔ MayLeaveOut c.args.listing S (f, c.args.offset) q in
    passed_here S (family_of c.args.certificate.now) (MayLeaveOut c.args.listing S P) P c.args.walk.now.made
    (stored_within S c.args.walk.now.made c.stored.result.now c.are_stored_within.result c.stored.ensures c.are_stored_within.ensures within) c.in-Ok.step.moves c.step_at.new.state
    (c.in-Ok.ensures.in_range c.requires.in_range) running
    (outcome_moved S fs _ c.args.offset _ c.args.walk.now.made _ back refl refl c.in-Ok.step.moves c.step_at.new.state c.in-Ok.ensures.ok)
    c.left_out_after-after.result (subst A back c.left_out_after-after.ensures)
    c.args.walk.now.next c.in-Ok-Listed.field-0 _ (λ _. refl) (λ e. let no_such : coverage.Listed ≡ coverage.Added = sym c.in-Ok-Listed.field-0-is ∙ e in absurd (cc)) c.in-Ok-Listed.ensures.met

pub returns-in-Ok-Added-clause-passed : goal.returns-in-Ok-Added-clause-passed
returns-in-Ok-Added-clause-passed c =
    let S = setting_of c.args.setting.now in
    let fs = frames_at c.args.certificate.now.contexts c.args.walk.now.context in
    let P = place_of c.args.certificate.now c.args.walk.now.context c.args.offset in
    let within : c.are_stored_within.result ≡ true = search rules in
    let back = frames_back c.as_slice.result.now _ fs c.as_slice.ensures.value c.requires.walk.frames in
    let running : is_main_end S fs c.args.offset ≡ false = ap (λ f. is_main_end S f c.args.offset) (sym back) ∙ sym c.is_end.ensures ∙ c.if-is_end.false in
    let A : List Frame → Type 0 = λ f. (q : Place) → IsAfter f c.left_out_after-after.result q ↔ MayLeaveOut c.args.listing S (f, c.args.offset) q in
    passed_here S (family_of c.args.certificate.now) (MayLeaveOut c.args.listing S P) P c.args.walk.now.made
    (stored_within S c.args.walk.now.made c.stored.result.now c.are_stored_within.result c.stored.ensures c.are_stored_within.ensures within) c.in-Ok.step.moves c.step_at.new.state
    (c.in-Ok.ensures.in_range c.requires.in_range) running
    (outcome_moved S fs _ c.args.offset _ c.args.walk.now.made _ back refl refl c.in-Ok.step.moves c.step_at.new.state c.in-Ok.ensures.ok)
    c.left_out_after-after.result (subst A back c.left_out_after-after.ensures)
    c.args.walk.now.next c.in-Ok-Added.field-0 c.left_out_after-after.result (λ n. absurd (n c.in-Ok-Added.field-0-is)) (λ e. refl) c.in-Ok-Added.ensures.met
