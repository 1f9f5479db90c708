-- The forms of certificate files.
use Rattle.std.specs.Prelude.{ℕ, ◌==◌, ◌≤◌, Option, Some, None, if◌then◌else◌}
use Rattle.tt_cert.specs.declared.form.Form.{Form}
use Rattle.tt_cert.specs.declared.form.Form.TheVariants.{One, Two, Three, Four}

-- the number by which a header names the form
abbrev pub form_number : Form → ℕ
form_number One = 1
form_number Two = 2
form_number Three = 3
form_number Four = 4

-- forms have the numbers 1 to 4
abbrev pub IsFormNumber : ℕ → Type 0
IsFormNumber n = (1 ≤ n) × (n ≤ 4)

-- the form with this number, which is one of 1 to 4
abbrev pub form_numbered : ℕ → Form
form_numbered n = if n == 1 then One
    else if n == 2 then Two
    else if n == 3 then Three
    else Four

-- the form with this number, if there is one
abbrev pub form_of : ℕ → Option Form
form_of n = if n == 1 then Some One
    else if n == 2 then Some Two
    else if n == 3 then Some Three
    else if n == 4 then Some Four
    else None

-- how many contexts a section may have at most, besides the main one
abbrev pub most_contexts : Form → ℕ
most_contexts One = 4095
most_contexts Two = 4095
most_contexts Three = 4095
most_contexts Four = 65534
