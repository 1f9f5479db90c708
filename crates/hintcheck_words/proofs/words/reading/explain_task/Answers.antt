use Rattle.std.proofs.Common.{◌≡◌, ◌∙◌, ◌&&◌, sym, refl, true, false, not, is_some, Bool, codes}
use Rattle.clap.specs.Words.{found_of, rows_of}
use Rattle.hintcheck_words.specs.Requests.{asked, explain_request, flag_in, optional_in}
use Rattle.hintcheck_words.proofs.words.reading.explain_task.Goals.{else-is_given-via-then-is_given+else-not-names_program, else-is_given-via-else-is_given}
use Rattle.hintcheck_words.proofs.words.reading.explain_task.Goals as goal

pub returns-then-not-names_program : goal.returns-then-not-names_program
unfolding explain_request
returns-then-not-names_program c =
    let given : flag_in (rows_of (found_of c.args.values.now)) (codes "JSON") ≡ true = sym c.is_given.ensures ∙ c.if-is_given.true in
    let unnamed : is_some (optional_in (rows_of (found_of c.args.values.now)) (codes "PROGRAM")) ≡ false = cc (c.names_program.ensures, c.if-not-names_program.true) in
    rw (given, unnamed, ← c.profile_or_both.ensures) c.json_task.ensures

-- an object of one program is asked for, or lines are
of_program : (given named : Bool) → named ≡ true → (given && not named) ≡ false
of_program true named is = rw is refl
of_program false named is = refl

in_lines : (given named : Bool) → given ≡ false → (given && not named) ≡ false
in_lines given named is = rw is refl

pub returns : goal.returns
unfolding asked explain_request
returns c =
    let given = flag_in (rows_of (found_of c.args.values.now)) (codes "JSON") in
    let named = is_some (optional_in (rows_of (found_of c.args.values.now)) (codes "PROGRAM")) in
    let other : (given && not named) ≡ false = elim c.else-is_given.branch [
      | else-is_given-via-then-is_given+else-not-names_program w ↦ of_program given named (cc (w.names_program.ensures, w.if-not-names_program.false))
      | else-is_given-via-else-is_given w ↦ in_lines given named (sym c.is_given.ensures ∙ w.if-is_given.false)
    ] in
    rw (other, c.in_ok-text.ensures, c.in_ok-optional_text.ensures, c.in_ok-optional_text-2.ensures, c.explain_options.ensures) refl
