use Rattle.std.proofs.Common.{rules, arith, ◌+◌, ◌≡◌, ◌∙◌, ap, subst, length, take, drop, ℕ, ◌-◌, List}
use Rattle.std.specs.Prelude.{min}
use borrow.Rule.Slice.PartMut.{put_mid}
use Rattle.tt_stream.specs.declared.text.TheConstants.{ROOM}
use Rattle.tt_stream.specs.Representation.Windows.{Part, TakesPiece}
use Rattle.tt_stream.proofs.Windows.{drop-min, window_took}
use Rattle.tt_stream.proofs.text.WindowWrite.write_str.Goals as goal

pub returns : goal.returns
returns c =
    let inside = c.self.inside in
    let piece = c.args.s.now in
    let bytes_are = c.as_bytes-bytes.ensures.value in
    let skipped_is : c.min-skipped.result ≡ min inside.skip (length piece) = c.min-skipped.ensures ∙ ap (λ (l : List ℕ). min inside.skip (length l)) bytes_are in
    let rest : List ℕ = take (length c.as_bytes-bytes.result.now - c.min-skipped.result) (drop c.min-skipped.result c.as_bytes-bytes.result.now) in
    let rest_is : rest ≡ drop inside.skip piece =
    ap (λ (l : List ℕ). take (length l - c.min-skipped.result) (drop c.min-skipped.result l)) bytes_are
    ∙ ap (λ (n : ℕ). take (length piece - n) (drop n piece)) skipped_is ∙ drop-min inside.skip piece in
    let whole : length inside.bytes ≡ ROOM = search rules in
    let took = window_took ROOM inside.len inside.skip c.min-skipped.result c.min-count.result inside.bytes piece rest c.copy_from_slice.new.self c.self.invariant whole rest_is c.min-count.ensures c.copy_from_slice.ensures.after in
    let new : Part = record { skip = inside.skip - c.min-skipped.result; kept = take (inside.len + c.min-count.result) (put_mid inside.len (inside.len + c.min-count.result - inside.len) inside.bytes c.copy_from_slice.new.self) } in
    let takes : TakesPiece ROOM (record { skip = inside.skip; kept = take inside.len inside.bytes }) piece new = record { skipped = omega arith; kept = took } in
    record { ok = λ h. subst (λ (p : Part). TakesPiece ROOM p piece new) c.self.view_is takes }
