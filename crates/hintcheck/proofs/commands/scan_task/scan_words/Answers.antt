use Rattle.std.proofs.Common.{◌≢◌, inl, inr, refl}
use Rattle.hintcheck_words.specs.declared.words.FontWords.TheVariants.{Fonts}
use Rattle.hintcheck.proofs.commands.scan_task.scan_words.Goals.{in-Lines, in-Nuls}
use Rattle.std.specs.Prelude.{map, string_bytes}
use Rattle.std.proofs.lemmas.Result.{IfOk-weaker}
use Rattle.hintcheck_words.specs.Requests.{texts_spelled}
use Rattle.hintcheck.proofs.ScanLemmas.{scan_answered}
use Rattle.hintcheck.proofs.commands.scan_task.scan_words.Goals as goal

pub returns-in-Fonts-clause-answer : goal.returns-in-Fonts-clause-answer
returns-in-Fonts-clause-answer g c =
    let contents = g.O.Sink.contents in
    let words = map (λ s. string_bytes s) c.args.words.now in
    IfOk-weaker c.scan_fonts.result _ _ (λ status p. scan_answered words words c.args.options (texts_spelled c.args.texts.now) status (contents c.args.out.now) (contents c.scan_fonts.new.out) (inl (c.in-Fonts.is, refl)) p) c.scan_fonts.ensures.printed

pub returns-clause-answer : goal.returns-clause-answer
returns-clause-answer g c =
    let contents = g.O.Sink.contents in
    let words = map (λ s. string_bytes s) c.args.words.now in
    let other : c.args.options.words ≢ Fonts = elim c.match-options.branch [ in-Lines w ↦ (λ fonts. let lines = w.in-Lines.is in cc) | in-Nuls w ↦ (λ fonts. let nuls = w.in-Nuls.is in cc) ] in
    IfOk-weaker c.scan_fonts-2.result _ _ (λ status p. scan_answered words (map (λ s. string_bytes s) c.deref.result.now) c.args.options (texts_spelled c.args.texts.now) status (contents c.args.out.now) (contents c.scan_fonts-2.new.out) (inr other) p) c.scan_fonts-2.ensures.printed
