-- The body of a called function, as the code finds it.
use Rattle.std.specs.Prelude.{ℤ, pos, negsuc, nat_abs, Option}
use Rattle.std.proofs.Common.{◌≡◌, ◌∙◌, ℕ, List, refl, sym, true}
use Rattle.tt_code.specs.Changes.{natural}
use Rattle.tt_code.specs.Control.{body_named}
use Rattle.tt_code.specs.Refusals.{some_or}
use Rattle.tt_code.specs.Settings.{Setting}
use Rattle.tt_code.specs.States.{is_below}
use Rattle.tt_code.specs.declared.reason.Reason.TheVariants as reason
use Rattle.tt_abs.specs.declared.cells.Cell.{Cell}
use Rattle.tt_abs.specs.declared.cells.Cell.TheVariants.{Known}
use Rattle.tt_setting.specs.Entries.{listed}
use Rattle.tt_setting.specs.EntryLaws.{listed-named}
use Rattle.tt_abs.specs.Transfers.{called_cell}

pub called_is : (s : Setting) (functions : List (ℕ × ℕ)) (c : Cell) (z : ℤ) (bound : ℕ) (found : Option ℕ) → c ≡ Known z → bound ≡ s.limits.functions → is_below z bound ≡ true
    → found ≡ listed functions (nat_abs z) → called_cell s functions c ≡ some_or found reason.Function
called_is s functions c (pos n) bound found e f g h =
    let below : is_below (pos n) s.limits.functions ≡ true = rw f at g in
    let named : found ≡ listed functions n = h in
    rw (e, below, named, listed-named functions n) refl
called_is s functions c (negsuc n) bound found e f g h = absurd (cc)

pub named_is : (functions : List (ℕ × ℕ)) (z : ℤ) (bound : ℕ) (found : Option ℕ) → is_below z bound ≡ true → found ≡ listed functions (nat_abs z) → body_named functions (natural z) ≡ found
named_is functions (pos n) bound found g h = sym (h ∙ listed-named functions n)
named_is functions (negsuc n) bound found g h = absurd (cc)
