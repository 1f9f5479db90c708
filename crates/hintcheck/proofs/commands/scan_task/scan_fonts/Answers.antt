use Rattle.std.proofs.Common.{option_map}
use Rattle.std.specs.Prelude.{string_bytes}
use Rattle.std.proofs.lemmas.Result.{IfOk-weaker}
use Rattle.hintcheck.proofs.ScanLemmas.{none_named, none_spelled, scanning}
use Rattle.hintcheck.proofs.commands.scan_task.scan_fonts.Goals as goal

pub returns-clause-printed : goal.returns-clause-printed
returns-clause-printed g c =
    let contents = g.O.Sink.contents in
    IfOk-weaker c.scan_planned.result _ _ (λ status planned.
    let (labels, are, p) = planned in (
      labels,
      are,
      scanning c.args.options c.in_ok-known.known labels (option_map (λ s. string_bytes s) c.args.texts.now.expected) status (contents c.args.out.now) (contents c.scan_planned.new.out)
          (λ none. c.in_ok-known.ensures.none (none_named _ (λ s. string_bytes s) _ _ c.text_in.ensures none))
          (λ nothing. none_spelled _ (λ s. string_bytes s) _ _ c.text_in.ensures (c.in_ok-known.ensures.given nothing)) p,
    )) c.scan_planned.ensures.printed
