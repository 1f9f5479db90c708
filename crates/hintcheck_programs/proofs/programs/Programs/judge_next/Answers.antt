use Rattle.std.proofs.Common.{subst}
use Rattle.hintcheck_programs.specs.ProgramVerdicts.{IfRefused}
use Rattle.hintcheck_programs.specs.Representation.ProgramOrder.{start_at, stage_of}
use Rattle.hintcheck_programs.proofs.ProgramSteps.{accepted_end, accepted_glyph, accepted_told, glyph_has_no_end, program_of_setting, refused_told, uncut_next}
use Rattle.hintcheck_programs.proofs.programs.Programs.judge_next.Goals as goal

pub returns-in-Err-clause-answer : goal.returns-in-Err-clause-answer
returns-in-Err-clause-answer g c =
    let d = c.args.self.now.font.now in
    let j = c.args.judge.now in
    let s = stage_of c.args.self.now in
    let (x, next, told) = c.in-Some.ensures.some in
    let e = c.in_ok-refuse-in-Err.ensures in
    refused_told d (g.J.Judge.Accepts j) (g.J.Judge.Ends j) (g.J.Judge.Refuses j) s (stage_of c.refuse.new.self) x c.in-Some.next c.in-Err.fault c.in_ok-refuse-in-Err.field-0 next told.name
    e.outcome e.stage (uncut_next d s x c.in-Some.next c.in-Err.fault (g.J.Judge.Refuses j x (start_at s)) next c.in-Some.ensures.some c.in-Err.ensures.uncut (λ r. c.uncut_facts.ensures x (start_at s) r))

pub returns-in-Err-judge-clause-answer : goal.returns-in-Err-judge-clause-answer
returns-in-Err-judge-clause-answer g c =
    let d = c.args.self.now.font.now in
    let j = c.judge.new.self in
    let s = stage_of c.args.self.now in
    let set = c.setting-setting in
    let fault = c.in-Err-judge.fault in
    let (x, next, told) = c.in-Some.ensures.some in
    let e = c.in_ok-refuse.ensures in
    let program = program_of_setting d s x c.in-Some.next c.in-Ok.program set.result next c.in-Some.ensures.some c.in-Ok.ensures.cut set.ensures.setting set.ensures.main in
    refused_told d (g.J.Judge.Accepts j) (g.J.Judge.Ends j) (g.J.Judge.Refuses j) s (stage_of c.refuse-in-Err-judge.new.self) x c.in-Some.next fault c.in_ok-refuse.field-0 next told.name
    e.outcome e.stage (subst (λ ks. IfRefused x.name fault (g.J.Judge.Refuses j x ks)) c.start-start.ensures (c.in-Err-judge.ensures.refused x program))

pub returns-then-not-has_end-clause-answer : goal.returns-then-not-has_end-clause-answer
returns-then-not-has_end-clause-answer g c =
    let d = c.args.self.now.font.now in
    let j = c.judge.new.self in
    let s = stage_of c.args.self.now in
    let set = c.setting-setting in
    let (x, next, told) = c.in-Some.ensures.some in
    let program = program_of_setting d s x c.in-Some.next c.in-Ok.program set.result next c.in-Some.ensures.some c.in-Ok.ensures.cut set.ensures.setting set.ensures.main in
    accepted_told d (g.J.Judge.Accepts j) (g.J.Judge.Ends j) (g.J.Judge.Refuses j) s (stage_of c.advance.new.self) x c.in-Some.next _ c.accepted.result next told.name c.accepted.ensures
    c.advance.ensures.stage (accepted_glyph d s x c.in-Some.next (g.J.Judge.Accepts j x (start_at s)) (g.J.Judge.Ends j x (start_at s)) set.result.main.now next c.in-Some.ensures.some
    (c.has_end.ensures.no c.if-not-has_end.true) (subst (λ ks. g.J.Judge.Accepts j x ks set.result.main.now) c.start-start.ensures (c.in_default-judge.ensures.accepted x program)))

pub returns-clause-answer : goal.returns-clause-answer
returns-clause-answer g c =
    let d = c.args.self.now.font.now in
    let j = c.judge.new.self in
    let s = stage_of c.args.self.now in
    let set = c.setting-setting in
    let e = c.in_ok-known in
    let (x, next, told) = c.in-Some.ensures.some in
    let program = program_of_setting d s x c.in-Some.next c.in-Ok.program set.result next c.in-Some.ensures.some c.in-Ok.ensures.cut set.ensures.setting set.ensures.main in
    let ends = subst (λ is. g.J.Judge.Ends j x (start_at s) is e.known.items) set.ensures.main
    (subst (λ ks. g.J.Judge.Ends j x ks set.result.main.now e.known.items) c.start-start.ensures (e.ensures.known x program)) in
    accepted_told d (g.J.Judge.Accepts j) (g.J.Judge.Ends j) (g.J.Judge.Refuses j) s (stage_of c.advance-2.new.self) x c.in-Some.next _ c.accepted-2.result next told.name c.accepted-2.ensures
    c.advance-2.ensures.stage (accepted_end d s x c.in-Some.next (g.J.Judge.Accepts j x (start_at s)) (g.J.Judge.Ends j x (start_at s)) _ next c.in-Some.ensures.some
    (c.has_end.ensures.yes c.if-not-has_end.false) ends)

-- what stays of the judge after a glyph program

pub returns-in-Err-judge-clause-keeps_for_glyphs : goal.returns-in-Err-judge-clause-keeps_for_glyphs
returns-in-Err-judge-clause-keeps_for_glyphs g c = λ here. c.judge.ensures.keeps_for_glyphs (glyph_has_no_end c.args.self.now.font.now (stage_of c.args.self.now) c.in-Some.next c.setting-setting.result.kind here c.in-Some.ensures.some c.setting-setting.ensures.kind)

pub returns-in_err-refuse-clause-keeps_for_glyphs : goal.returns-in_err-refuse-clause-keeps_for_glyphs
returns-in_err-refuse-clause-keeps_for_glyphs g c = λ here. c.judge.ensures.keeps_for_glyphs (glyph_has_no_end c.args.self.now.font.now (stage_of c.args.self.now) c.in-Some.next c.setting-setting.result.kind here c.in-Some.ensures.some c.setting-setting.ensures.kind)

pub returns-in_err-known-clause-keeps_for_glyphs : goal.returns-in_err-known-clause-keeps_for_glyphs
returns-in_err-known-clause-keeps_for_glyphs g c = λ here. c.judge.ensures.keeps_for_glyphs (glyph_has_no_end c.args.self.now.font.now (stage_of c.args.self.now) c.in-Some.next c.setting-setting.result.kind here c.in-Some.ensures.some c.setting-setting.ensures.kind)

pub returns-clause-keeps_for_glyphs : goal.returns-clause-keeps_for_glyphs
returns-clause-keeps_for_glyphs g c = λ here. c.judge.ensures.keeps_for_glyphs (glyph_has_no_end c.args.self.now.font.now (stage_of c.args.self.now) c.in-Some.next c.setting-setting.result.kind here c.in-Some.ensures.some c.setting-setting.ensures.kind)
