use Rattle.std.proofs.Common.{◌≡◌, [], ◌++◌, length, take, drop, sym, ap, subst, ◌∙◌, arith, take_at}
use Rattle.std.proofs.lemmas.List.{length-append, length-drop, length-take, nil_from_length}
use Rattle.std.specs.Io.KnownBytes.{Consumes, IsAtEnd, prepend_known}
use Rattle.tt_stream.proofs.Ahead.{gives_any, gives_kept, kept_then, prepend_known-end, prepend_known-skipped}
use Rattle.tt_stream.proofs.buffered.BufferedSource.read.Goals as goal

pub returns-clause-bytes : goal.returns-clause-bytes
returns-clause-bytes g c =
    let filled = c.fill.new.self in
    let left = c.drop_front.new.self in
    let n = c.min-count.result in
    let kept : c.ahead-ahead.result.now ≡ filled.ahead = c.ahead-ahead.ensures.all in
    let whole : length c.copy_from_slice.new.self ≡ n = omega (arith, c.copy_from_slice.ensures.len, length-take n c.args.buf.now, c.min-count.ensures) in
    let front : take n (c.copy_from_slice.new.self ++ drop n c.args.buf.now) ≡ take n filled.ahead =
    take_at c.copy_from_slice.new.self (drop n c.args.buf.now) n whole ∙ c.copy_from_slice.ensures.after ∙ ap (take n) kept in
    let skipped : Consumes (prepend_known filled.ahead (g.S.Source.remaining filled.source)) (prepend_known left.ahead (g.S.Source.remaining left.source)) (take n filled.ahead) =
    rw c.drop_front.ensures.source (prepend_known-skipped (g.S.Source.remaining filled.source) filled.ahead left.ahead n c.drop_front.ensures.ahead) in (
      subst (Consumes _ _) (sym front) (kept_then _ _ _ _ c.fill.ensures.bytes skipped),
      λ zero some.
          let none : length filled.ahead ≡ 0 = omega (arith, ap length kept, c.min-count.ensures, length-append c.copy_from_slice.new.self (drop n c.args.buf.now), length-drop n c.args.buf.now) in
          let ended = c.in_ok-fill.ensures.at_end (nil_from_length filled.ahead none) in
          let rest : left.ahead ≡ [] = nil_from_length left.ahead (omega (arith, ap length c.drop_front.ensures.ahead, length-drop n filled.ahead)) in
          prepend_known-end (g.S.Source.remaining left.source) left.ahead rest (subst (λ s. IsAtEnd (g.S.Source.remaining s)) (sym c.drop_front.ensures.source) ended),
    )

pub returns-in_err-fill-clause-ahead : goal.returns-in_err-fill-clause-ahead
returns-in_err-fill-clause-ahead g c = gives_any _ _ _ _ c.in_err-fill.ensures.asked

pub returns-clause-ahead : goal.returns-clause-ahead
returns-clause-ahead g c =
    let filled = c.fill.new.self in
    let n = c.min-count.result in
    let kept : c.ahead-ahead.result.now ≡ filled.ahead = c.ahead-ahead.ensures.all in
    let whole : length c.copy_from_slice.new.self ≡ n = omega (arith, c.copy_from_slice.ensures.len, length-take n c.args.buf.now, c.min-count.ensures) in
    let front : take n (c.copy_from_slice.new.self ++ drop n c.args.buf.now) ≡ take n filled.ahead =
    take_at c.copy_from_slice.new.self (drop n c.args.buf.now) n whole ∙ c.copy_from_slice.ensures.after ∙ ap (take n) kept in
    gives_kept c.args.self.now.ahead filled.ahead _ _ n (λ some. ap (λ b. b.ahead) (c.fill.ensures.same some)) (omega (arith, whole, ap length kept, c.min-count.ensures, length-append c.copy_from_slice.new.self (drop n c.args.buf.now), length-drop n c.args.buf.now)) front c.drop_front.ensures.ahead
