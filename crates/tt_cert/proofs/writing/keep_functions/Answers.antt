use Rattle.tt_cert.proofs.Pushed.{known_text}
use Rattle.tt_cert.proofs.writing.keep_functions.Goals as goal

pub returns-then-has_same : goal.returns-then-has_same
returns-then-has_same c = known_text c.args.before (λ s. s.now.functions) c.args.text.now.items c.args.state.now.functions c.requires (c.has_same.ensures c.if-has_same.true)
