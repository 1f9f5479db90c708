use Rattle.std.proofs.lemmas.Result.{IfOk-weaker}
use Rattle.hintcheck.proofs.ExplanationLemmas.{word_told}
use Rattle.hintcheck.proofs.NameLemmas.{named_few, of_some}
use Rattle.hintcheck.proofs.explanation.explain_word.Goals as goal

pub check_site-requires-clause-few : goal.check_site-requires-clause-few
check_site-requires-clause-few g c =
    named_few c.in_ok-read.read c.in_ok-read.ensures.range c.args.font.now c.args.request.word.now c.in-Some.named.bytes.now (of_some _ _ _ c.in-Some.is c.in_ok-named.ensures.there)

pub explain_symbolically-requires-clause-few : goal.explain_symbolically-requires-clause-few
explain_symbolically-requires-clause-few g c =
    named_few c.in_ok-read.read c.in_ok-read.ensures.range c.args.font.now c.args.request.word.now c.in-Some.named.bytes.now (of_some _ _ _ c.in-Some.is c.in_ok-named.ensures.there)

pub returns-in-Strict-clause-answered : goal.returns-in-Strict-clause-answered
returns-in-Strict-clause-answered g c =
    rw c.in-Strict.is (IfOk-weaker c.explain_named.result _ _
    (λ e tells. word_told c.args.font.now c.args.request.word.now c.in_ok-read.read c.in-Some.named.name e c.in_ok-read.ensures.reads (of_some _ _ _ c.in-Some.is c.in_ok-named.ensures.text) tells)
    c.explain_named.ensures.tells)

pub returns-clause-answered : goal.returns-clause-answered
returns-clause-answered g c =
    rw c.in-Symbolic.is (IfOk-weaker c.explain_symbolically.result _ _
    (λ e tells. record {
      font = c.in_ok-read.read;
      reads = c.in_ok-read.ensures.reads;
      program = c.in-Some.named.bytes.now;
      named = record { name = c.in-Some.named.name; text = of_some _ _ _ c.in-Some.is c.in_ok-named.ensures.text; there = of_some _ _ _ c.in-Some.is c.in_ok-named.ensures.program };
      judgement = tells.judgement;
      given = tells.given;
      against = tells.against;
    })
    c.explain_symbolically.ensures.tells)
