use Rattle.std.proofs.Common.{rules, arith, ◌≡◌, [], true, false, refl, sym, ◌∙◌, ap, subst}
use Rattle.tt_code.specs.Cut.{size}
use Rattle.tt_code.specs.declared.reason.Reason.{Reason}
use Rattle.tt_abs.specs.Families.{CoversAt}
use Rattle.tt_setting.specs.Settings.{setting_of}
use Rattle.tt_abs.specs.StateFlow.{Place}
use Rattle.tt_abs.specs.States.{state_order}
use Rattle.tt_setting.specs.declared.setting.Setting.{Setting}
use Rattle.tt_abs.specs.declared.state.State.{State}
use Rattle.tt_family.specs.Checks.{IsFirstBreakOnTheWay, IsGap, NamesAt, too_long, no_end}
use Rattle.tt_family.specs.Contents.{Contents, family_of}
use Rattle.tt_family.specs.GoodFamilies.{EndsWell}
use Rattle.tt_family.specs.Representation.Cursors.{MayLeaveOut, to_come}
use Rattle.tt_setting.specs.declared.refusal.Refusal.{Refusal}
use Rattle.tt_family.specs.declared.listing.Listing.{Listing}
use Rattle.std.proofs.lemmas.Result.{IfErr-weaker, IfOk-weaker}
use Rattle.tt_family.proofs.Judged.{not_both, start_broken, way_broken}
use Rattle.tt_family.proofs.Walking.{taken}
use Rattle.tt_family.proofs.checker.check_listed.Goals as goal

abbrev ends : Setting → Contents → Type 0
ends setting v = EndsWell (setting_of setting) (setting_of setting).kind (family_of v)

abbrev covers : Contents → State → Type 0
covers v a = CoversAt state_order (family_of v) ([], 0) a

abbrev gap_told : Contents → Refusal → State → Type 0
gap_told v fault a = NamesAt ([], 0) (IsGap (family_of v) ⊥ ([], 0) a) fault

abbrev first : Setting → Listing → Contents → Place → Reason → Type 0
first setting listing v = IsFirstBreakOnTheWay (setting_of setting) (MayLeaveOut listing (setting_of setting)) v

pub returns-then-not-is_short-clause-first : goal.returns-then-not-is_short-clause-first
returns-then-not-is_short-clause-first c =
    let f : c.is_short.result ≡ false = search rules in
    rw c.in_main.ensures (([], c.args.setting.now.limits.program_size), refl, omega arith, too_long (λ h. not_both c.is_short.result f (c.is_short.ensures.1 h)))

pub check_start-requires-clause-not_next : goal.check_start-requires-clause-not_next
check_start-requires-clause-not_next c = c.in_ok-walk.ensures.not_next

pub returns-in-Err-clause-first : goal.returns-in-Err-clause-first
returns-in-Err-clause-first c =
    let gap = subst (gap_told c.args.certificate.now c.in-Err.fault) c.in_ok-walk.ensures.made c.in-Err.ensures.gap in
    let t : c.is_short.result ≡ true = search rules in
    start_broken (setting_of c.args.setting.now) c.args.setting.now.start.now c.args.certificate.now (first c.args.setting.now c.args.listing c.args.certificate.now) (c.is_short.ensures.0 t)
    c.in-Err.fault gap

pub returns-then-not-ends_well-clause-first : goal.returns-then-not-ends_well-clause-first
returns-then-not-ends_well-clause-first c =
    let start = subst (covers c.args.certificate.now) c.in_ok-walk.ensures.made c.in_default.ensures.covered in
    let t : c.is_short.result ≡ true = search rules in
    let f : c.ends_well.result ≡ false = search rules in
    rw c.in_main-then-not-ends_well.ensures (
      ([], size c.args.setting.now.main.now),
      refl,
      omega arith,
      no_end (c.is_short.ensures.0 t) start (λ h. not_both c.ends_well.result f (c.ends_well.ensures.1 (subst (ends c.args.setting.now) (sym c.builder.ensures) h))),
    )

pub check_points-requires-clause-to_come : goal.check_points-requires-clause-to_come
check_points-requires-clause-to_come c =
    let all : c.args.certificate.now.states ≡ to_come c.check_start.new.walk.next c.take_first.new.self =
    sym c.states-states.ensures.rest ∙ taken c.take_first.result c.states-states.result c.take_first.new.self c.take_first.ensures.none c.take_first.ensures.some
    ∙ ap (λ n. to_come n c.take_first.new.self) (sym (c.check_start.ensures.next ∙ c.in_ok-walk.ensures.next)) in
    record { rest = ([], all); ascends = c.states-states.ensures.ascends; found = c.states-states.ensures.found }

pub returns-clause-sound : goal.returns-clause-sound
returns-clause-sound c =
    let start = subst (covers c.args.certificate.now) c.in_ok-walk.ensures.made c.in_default.ensures.covered in
    let t : c.is_short.result ≡ true = search rules in
    let u : c.ends_well.result ≡ true = search rules in
    IfOk-weaker c.check_points.result _ _
    (λ x through. record {
      short = c.is_short.ensures.0 t;
      start = start;
      ends = subst (ends c.args.setting.now) c.builder.ensures (c.ends_well.ensures.0 u);
      through = through;
    })
    c.check_points.ensures.sound

pub returns-clause-first : goal.returns-clause-first
returns-clause-first c =
    let start = subst (covers c.args.certificate.now) c.in_ok-walk.ensures.made c.in_default.ensures.covered in
    let t : c.is_short.result ≡ true = search rules in
    let u : c.ends_well.result ≡ true = search rules in
    IfErr-weaker c.check_points.result _ _
    (way_broken (setting_of c.args.setting.now) c.args.setting.now.start.now c.args.certificate.now (first c.args.setting.now c.args.listing c.args.certificate.now) (c.is_short.ensures.0 t) start
    (subst (ends c.args.setting.now) c.builder.ensures (c.ends_well.ensures.0 u)))
    c.check_points.ensures.broken
