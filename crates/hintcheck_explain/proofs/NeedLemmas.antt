-- Functions that fit the limits of a font still fit where one of its numbers is raised.
use Rattle.std.proofs.Common.{◌≡◌, ◌≤◌, ℕ, arith, refl}
use Rattle.tt_setting.specs.Settings.{setting_of}
use Rattle.tt_abs.specs.StateFlow.{FunctionsFit}
use Rattle.tt_setting.specs.declared.setting.Setting.{Setting as Subject}
use Rattle.hintcheck_report.specs.Bounds.{cvt_count_with, limits_with}
use Rattle.hintcheck_report.specs.declared.bound.Bound.{Bound}
use Rattle.hintcheck_report.specs.declared.bound.Bound.TheVariants.{StackElements, Storage, FunctionDefs, ControlValues, TwilightPoints, Zones, SizeOfInstructions}

-- the subject where the limit has this number
abbrev pub raised : Subject → Bound → ℕ → Subject
raised x limit number = record x {
  limits = limits_with x.limits limit number;
  cvt = cvt_count_with x.cvt limit number;
}

-- the number isn't below maxFunctionDefs, where it is that one which is raised
abbrev pub IsRaise : Subject → Bound → ℕ → Type 0
IsRaise x limit number = limit ≡ FunctionDefs → x.limits.functions ≤ number

pub still_fits : (x : Subject) (limit : Bound) (number : ℕ) → IsRaise x limit number → FunctionsFit (setting_of x) x.start.now → FunctionsFit (setting_of (raised x limit number)) x.start.now
still_fits x StackElements number raise fits = fits
still_fits x Storage number raise fits = fits
still_fits x ControlValues number raise fits = fits
still_fits x TwilightPoints number raise fits = fits
still_fits x Zones number raise fits = fits
still_fits x SizeOfInstructions number raise fits = fits
still_fits x FunctionDefs number raise fits = λ n body is.
    let fit = fits n body is in
    (let below = fit.0 in let least = raise refl in omega arith, fit.1)
