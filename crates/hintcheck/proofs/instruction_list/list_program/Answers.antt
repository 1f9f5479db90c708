use Rattle.std.proofs.lemmas.Result.{IfOk-weaker}
use Rattle.hintcheck.proofs.NameLemmas.{named_few, of_some}
use Rattle.hintcheck.proofs.instruction_list.list_program.Goals as goal

pub list_named-requires : goal.list_named-requires
list_named-requires g c = named_few c.in_ok-read.read c.range_facts.ensures c.args.font.now c.args.word.now c.in-Some.named.bytes.now (of_some _ _ _ c.in-Some.is c.in_ok-named.ensures.there)

pub returns-in-Some-clause-told : goal.returns-in-Some-clause-told
returns-in-Some-clause-told g c =
    IfOk-weaker c.list_named.result _ _
    (λ status told one. record {
      font = c.in_ok-read.read;
      reads = c.in_ok-read.ensures.reads;
      name = c.in-Some.named.name;
      text = of_some _ _ _ c.in-Some.is c.in_ok-named.ensures.text;
      program = c.in-Some.named.bytes.now;
      there = of_some _ _ _ c.in-Some.is c.in_ok-named.ensures.program;
      told = told one;
    })
    c.list_named.ensures.told
