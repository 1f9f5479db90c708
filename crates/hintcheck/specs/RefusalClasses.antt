-- The refused programs by the class of their reasons.
use Rattle.std.specs.Prelude.{ℕ, Bool, true, false, codes, List}
use Rattle.std.specs.List.{count_by}
use Rattle.tt_code.specs.Refusals.{class_of}
use Rattle.tt_code.specs.declared.reason.ReasonClass.{ReasonClass}
use Rattle.tt_code.specs.declared.reason.ReasonClass.TheVariants.{PossibleFault, Undecided, LeftOut, Certificate}
use Rattle.hintcheck_report.specs.declared.refused.Refused.{Refused}

-- what a reason of this class tells, in words
abbrev pub class_text : ReasonClass → List ℕ
class_text PossibleFault = codes "possible fault"
class_text Undecided = codes "undecided"
class_text LeftOut = codes "left out"
class_text Certificate = codes "certificate"

-- whether both are the same
abbrev pub is_same : ReasonClass → ReasonClass → Bool
is_same PossibleFault PossibleFault = true
is_same Undecided Undecided = true
is_same LeftOut LeftOut = true
is_same Certificate Certificate = true
is_same one other = false

-- how many programs are refused for a reason of this class
abbrev pub number_of_class : ReasonClass → List Refused → ℕ
number_of_class class rs = count_by (λ r. is_same (class_of r.reason) class) rs
