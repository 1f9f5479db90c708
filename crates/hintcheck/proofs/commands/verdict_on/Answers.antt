use Rattle.std.proofs.Common.{inl, inr, option_map}
use Rattle.std.specs.Prelude.{string_bytes}
use Rattle.std.proofs.lemmas.Result.{IfErr-weaker, IfOk-weaker}
use Rattle.hintcheck_words.specs.Requests.{asked}
use Rattle.hintcheck.proofs.AnswerLemmas.{bare_for, no_bare_for, no_font_verdict}
use Rattle.hintcheck.proofs.ScanLemmas.{refused_by, safe_by}
use Rattle.hintcheck.proofs.commands.verdict_on.Goals as goal

pub returns-in-Bare-clause-given : goal.returns-in-Bare-clause-given
unfolding asked
returns-in-Bare-clause-given g c = IfOk-weaker c.bare_verdict.result _ _ (λ j is. rw c.in-Bare.is (bare_for _ _ _ _ _ _ _ j c.word_or_empty.ensures (rw (← c.deref.ensures) is))) c.bare_verdict.ensures.given

pub returns-in-Bare-clause-faults : goal.returns-in-Bare-clause-faults
unfolding asked
returns-in-Bare-clause-faults g c = IfErr-weaker c.bare_verdict.result _ _ (λ told is. rw c.in-Bare.is (no_bare_for (string_bytes c.in-Bare.maxp) c.in-Bare.cvt c.in-Bare.points c.in-Bare.contours c.word_or_empty.result.now (option_map (λ s. string_bytes s) c.in-Bare.program) c.in-Bare.profile told c.word_or_empty.ensures (rw (← c.deref.ensures) is))) c.bare_verdict.ensures.faults

pub returns-in-Verdict-clause-given : goal.returns-in-Verdict-clause-given
unfolding asked
returns-in-Verdict-clause-given g c =
    let profile = c.in-Verdict.options.profile in
    IfOk-weaker c.file_verdict.result _ _
    (λ j (bytes, given). rw c.in-Verdict.is (record {
      given = (bytes, given);
      safe = λ none. (bytes, safe_by profile j.by bytes j.verdict given none);
      refused = λ some. (bytes, refused_by profile j.by bytes j.verdict given some);
      none = tt;
    }))
    c.file_verdict.ensures.given

pub returns-in-Verdict-clause-faults : goal.returns-in-Verdict-clause-faults
unfolding asked
returns-in-Verdict-clause-faults g c =
    let verdict = c.in-Verdict in
    rw verdict.is (no_font_verdict (string_bytes verdict.font) verdict.options c.file_verdict.result c.file_verdict.ensures.faults c.file_verdict.ensures.unwritten)

pub returns-in-Find-clause-given : goal.returns-in-Find-clause-given
unfolding asked
returns-in-Find-clause-given g c = IfOk-weaker c.find_verdict.result _ _ (λ j is. rw c.in-Find.is (rw (← c.deref-in-Find.ensures, ← c.deref-in-Find-2.ensures) is)) c.find_verdict.ensures.given

pub returns-in-Find-clause-faults : goal.returns-in-Find-clause-faults
unfolding asked
returns-in-Find-clause-faults g c = IfErr-weaker c.find_verdict.result _ _ (λ told is. rw c.in-Find.is (rw (← c.deref-in-Find.ensures, ← c.deref-in-Find-2.ensures) is)) c.find_verdict.ensures.faults

pub returns-in-Check-clause-given : goal.returns-in-Check-clause-given
unfolding asked
returns-in-Check-clause-given g c = IfOk-weaker c.check_verdict.result _ _ (λ j is. rw c.in-Check.is (rw (← c.deref-in-Check.ensures, ← c.deref-in-Check-2.ensures) is)) c.check_verdict.ensures.given

pub returns-in-Check-clause-faults : goal.returns-in-Check-clause-faults
unfolding asked
returns-in-Check-clause-faults g c = IfErr-weaker c.check_verdict.result _ _ (λ told is. rw c.in-Check.is is) c.check_verdict.ensures.faults

pub unreachable-requires : goal.unreachable-requires
unfolding asked
unreachable-requires g c = elim c.in-Scan.is [
  | inl scan ↦ rw scan.3 at c.requires
  | inr rest ↦ elim rest [
    | inl explain ↦ rw explain.4 at c.requires
    | inr others ↦ elim others [ inl list ↦ rw list.3 at c.requires | inr upgrade ↦ rw upgrade.3 at c.requires ]
  ]
]
