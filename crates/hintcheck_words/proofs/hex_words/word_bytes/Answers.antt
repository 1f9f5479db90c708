use Rattle.std.proofs.Common.{sym, ◌∙◌, inl, inr, arith}
use Rattle.std.proofs.lemmas.Result.{IfErr-weaker, IfOk-weaker}
use Rattle.hex.proofs.HexLemmas.{decode_of-ok, decode_of-digits}
use Rattle.hintcheck_words.proofs.hex_words.word_bytes.Goals as goal

pub returns-clause-ok : goal.returns-clause-ok
returns-clause-ok c =
    IfOk-weaker c.decode.result _ _
    (λ bytes is. let d = decode_of-ok c.args.word.now bytes.items is in (record { even = d.0; digits = d.1; short = c.if-word-gt-MOST_DIGITS.false }, is))
    c.decode.ensures.ok

pub returns-clause-within : goal.returns-clause-within
returns-clause-within c =
    IfOk-weaker c.decode.result _ _
    (λ bytes is. let d = decode_of-ok c.args.word.now bytes.items is in omega (arith, d.2, c.if-word-gt-MOST_DIGITS.false))
    c.decode.ensures.ok

pub returns-clause-bad : goal.returns-clause-bad
returns-clause-bad c =
    IfErr-weaker c.decode.result _ _
    (λ fault is known h. elim is [
      | inl memory ↦ absurd (known memory)
      | inr wrong ↦ let d = decode_of-digits c.args.word.now h.even h.digits in let bad = sym d.1 ∙ wrong in cc
    ])
    c.decode.ensures.err
