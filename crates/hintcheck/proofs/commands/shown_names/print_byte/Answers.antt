use Rattle.std.proofs.Common.{◌≡◌, ◌∙◌, false, sym, true}
use Rattle.std.specs.Char.{is_ascii_control}
use Rattle.hintcheck.specs.Scans.{shown_byte}
use Rattle.hintcheck.proofs.commands.shown_names.print_byte.Goals as goal

pub returns-then-is_ascii_control-clause-written : goal.returns-then-is_ascii_control-clause-written
unfolding shown_byte
returns-then-is_ascii_control-clause-written g c =
    let control : is_ascii_control c.args.byte ≡ true = sym c.is_ascii_control.ensures.value ∙ c.if-is_ascii_control.true in
    rw control c.write.ensures.written

pub returns-in-Ok-clause-written : goal.returns-in-Ok-clause-written
unfolding shown_byte
returns-in-Ok-clause-written g c =
    let other : is_ascii_control c.args.byte ≡ false = sym c.is_ascii_control.ensures.value ∙ c.if-is_ascii_control.false in
    rw other c.in-Ok.ensures.written
