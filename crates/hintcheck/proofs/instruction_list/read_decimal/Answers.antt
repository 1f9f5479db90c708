use Rattle.std.proofs.Common.{refl, subst, rules, arith}
use Rattle.std.proofs.lemmas.Fmt.{parse-decimal}
use Rattle.hintcheck.specs.Listing.{IsPlain}
use Rattle.hintcheck.proofs.NameLemmas.{not_plain, read_plain}
use Rattle.hintcheck.proofs.instruction_list.read_decimal.Goals as goal

pub returns-then-not-is_plain-clause-each : goal.returns-then-not-is_plain-clause-each
returns-then-not-is_plain-clause-each c = λ number small e.
    absurd (not_plain c.as_bytes.result.now c.args.text.now c.is_plain.result c.is_plain.ensures (search rules) c.as_bytes.ensures.value number small e)

pub returns-clause-read : goal.returns-clause-read
returns-clause-read c =
    let plain : IsPlain c.args.text.now = subst IsPlain c.as_bytes.ensures.value (c.is_plain.ensures.0 c.if-not-is_plain.false) in
    rw c.ok.ensures.value (read_plain c.args.text.now c.parse.result plain c.parse.ensures.value.0)

pub returns-clause-each : goal.returns-clause-each
returns-clause-each c = λ number small e.
    rw (c.ok.ensures.value, parse-decimal 32 number c.args.text.now c.parse.result small (omega arith) e c.parse.ensures.value.0) refl
