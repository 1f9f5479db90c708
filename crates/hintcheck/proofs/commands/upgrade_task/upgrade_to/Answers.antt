use Rattle.std.proofs.Common.{◌≡◌, ℕ, List, [], ◌++◌, Option, Some, None, refl, ap, subst, ◌∙◌}
use Rattle.std.specs.Io.KnownBytes.{Appends, Keeps, append_known}
use Rattle.std.proofs.lemmas.List.{append-nil}
use Rattle.hintcheck_certificates.specs.CertificateTexts.{WritesText}
use Rattle.hintcheck.proofs.commands.upgrade_task.upgrade_to.Goals as goal

-- what is appended to a writer that keeps its bytes in another one is appended to that one
appended : (old sunk new : Option (List ℕ)) (text : List ℕ) → Appends old sunk text → Keeps sunk new → Appends old new text
appended None sunk new text a k = tt
appended (Some xs) None new text a k = absurd a
appended (Some xs) (Some ys) None text a k = absurd k
appended (Some xs) (Some ys) (Some zs) text a k = k ∙ a

written_through : (Is : List ℕ → Type 0) (old begun sunk new : Option (List ℕ)) → begun ≡ old → WritesText begun sunk Is → Keeps sunk new → WritesText old new Is
written_through Is old begun sunk new same (text, is, written) keeps =
    let A : Option (List ℕ) → Type 0 = λ o. Appends o sunk text in
    (text, is, appended old sunk new text (subst A same written) keeps)

-- nothing is kept back
none_kept : (held known : Option (List ℕ)) (buffer : List ℕ) → buffer ≡ [] → held ≡ known → append_known held buffer ≡ known
none_kept None known buffer eb eh = eh
none_kept (Some xs) known buffer eb eh = ap (λ (b : List ℕ). Some (xs ++ b)) eb ∙ (ap (λ (l : List ℕ). Some l) (append-nil xs) ∙ eh)

pub returns-clause-written : goal.returns-clause-written
returns-clause-written g c = λ is.
    written_through _ _ _ _ _
    (rw c.new-sink.ensures.inner (none_kept _ _ _ c.in-Ok.ensures.empty (rw c.in-Ok.ensures.inner refl)))
    (c.in_ok-count.ensures.written is)
    (let k = c.in_ok-new.ensures.written in rw c.into_inner.ensures at k)
