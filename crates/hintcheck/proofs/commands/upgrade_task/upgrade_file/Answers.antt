use Rattle.std.proofs.Common.{◌≡◌, ℕ, List, [], ◌++◌, Option, Some, None, Result, Ok, Err, IfOk, refl, ap, subst, ◌∙◌}
use Rattle.std.specs.Prelude.{IfSome}
use Rattle.std.specs.Io.KnownBytes.{prepend_known}
use Rattle.hintcheck_certificates.specs.CertificateTexts.{WritesText}
use Rattle.hintcheck_certificates.specs.CheckedFonts.{IsTold, bytes_in}
use Rattle.hintcheck_certificates.specs.Upgrades.{IsUpgradeOf, UpgradesTo}
use Rattle.hintcheck.proofs.commands.upgrade_task.upgrade_file.Goals as goal

-- what holds of the bytes that a source tells holds of those that are known to be in it
of_known : {T E : Type 0} (r : Result T E) (P : List ℕ → T → Type 0) (read known : Option (List ℕ)) → read ≡ known → (IsTold read → IfOk r (P (bytes_in read))) → IfOk r (λ x. IfSome known (λ bytes. P bytes x))
of_known (Err e) P read known same told = tt
of_known (Ok x) P read None same told = tt
of_known (Ok x) P read (Some bytes) same told =
    let R : Option (List ℕ) → Type 0 = λ o. IsTold o → P (bytes_in o) x in
    subst R same told refl

-- nothing is read ahead
none_ahead : (ahead : List ℕ) (left known : Option (List ℕ)) → ahead ≡ [] → left ≡ known → prepend_known ahead left ≡ known
none_ahead ahead None known ea el = el
none_ahead ahead (Some xs) known ea el = ap (λ (a : List ℕ). Some (a ++ xs)) ea ∙ el

pub returns-clause-exact : goal.returns-clause-exact
returns-clause-exact g c =
    of_known c.upgrade_to.result (λ bytes upgraded. UpgradesTo bytes (Ok upgraded.0)) _ (g.F.Read.remaining c.args.old)
    (none_ahead _ _ _ c.in_ok-source.ensures.ahead (rw c.in_ok-source.ensures.source (rw c.new.ensures.inner refl))) c.upgrade_to.ensures.exact

pub returns-clause-written : goal.returns-clause-written
returns-clause-written g c =
    of_known c.upgrade_to.result (λ bytes upgraded. WritesText (g.G.Write.contents c.args.new) (g.G.Write.contents upgraded.1) (IsUpgradeOf bytes)) _ (g.F.Read.remaining c.args.old)
    (none_ahead _ _ _ c.in_ok-source.ensures.ahead (rw c.in_ok-source.ensures.source (rw c.new.ensures.inner refl))) c.upgrade_to.ensures.written
