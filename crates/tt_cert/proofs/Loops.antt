-- Reading values one after the other, as a loop does.
use Rattle.std.proofs.Common.{◌≡◌, ℕ, suc, ◌-◌, ◌+◌, ◌≤◌, ◌<◌, true, List, [], ◌∷◌, ◌++◌, Option, is_some, Ok, Err, refl, sym, subst, ◌∙◌, arith}
use Rattle.std.proofs.KnownBytes.{Consumes-nil}
use Rattle.tt_stream.specs.Reads.{ConsumesBeginning}
use Rattle.tt_stream.proofs.Beginnings.{consumes_then}
use Rattle.tt_setting.specs.declared.cert_fault.CertFault.{CertFault}
use Rattle.tt_setting.specs.declared.cert_fault.CertFault.TheVariants as fault
use Rattle.tt_cert.specs.Answers.{Fails, Gives, StopsAtEnd, input_at}
use Rattle.tt_cert.specs.Readers.{Answer, Input, list_at}
use Rattle.tt_cert.proofs.Steady.{IsSteady}
use Rattle.tt_cert.proofs.Stops.{Reached, reached_known, reached_more, reached_none, reached_then, stops_next, stops_there}

stops : {A : Type 0} (one : List A → Input → Answer A) (xs : List A) (count k : ℕ) (i : Input) (e : ℕ) → k < count → one xs i ≡ Err e → list_at one xs (count - k) i ≡ Err e
unfolding list_at
stops {A = A} one xs count k i e lt h = let n : count - k ≡ suc (count - (k + 1)) = omega arith in rw (n, h) refl

is_done : {A : Type 0} (one : List A → Input → Answer A) (xs : List A) (count k : ℕ) (i : Input) → count ≤ k → list_at one xs (count - k) i ≡ Ok (xs, i)
unfolding list_at
is_done {A = A} one xs count k i le = let n : count - k ≡ 0 = omega arith in rw n refl

-- what a loop over k of count values keeps
pub record IsReading {A : Type 0} (one : List A → Input → Answer A) (old now : Option (List ℕ)) (start : ℕ) (xs : List A) (count k place : ℕ) (failures failures_now : ℕ) : Type 0 where
  pub reached : is_some old ≡ true → Reached start place old now (list_at one [] count) (list_at one xs (count - k))
  pub beginning : ConsumesBeginning old now
  pub failures_are : failures_now ≡ failures

-- before the first one
pub reads_none : {A : Type 0} (one : List A → Input → Answer A) (old : Option (List ℕ)) (start : ℕ) (xs : List A) (count failures : ℕ) → xs ≡ []
    → IsReading one old old start xs count 0 start failures failures
reads_none {A = A} one old start xs count failures empty =
    let all : count ≡ count - 0 = omega arith in
    subst (λ (l : List A). IsReading one old old start l count 0 start failures failures) (sym empty)
    (record {
      reached = λ known. subst (λ (n : ℕ). Reached start start old old (list_at one [] count) (list_at one [] n)) all (reached_none start old (list_at one [] count) known);
      beginning = record { bytes = []; consumed = Consumes-nil old };
      failures_are = refl;
    })

pub reads_on : {A : Type 0} (one : List A → Input → Answer A) (old now next : Option (List ℕ)) (start : ℕ) (xs ys : List A) (count k place after f g h : ℕ) (x : A) → IsSteady (one xs)
    → IsReading one old now start xs count k place f g → k < count
    → Gives (λ y. y) now next (Ok (x, after)) (one xs (input_at place now)) → ConsumesBeginning now next → h ≡ g → ys ≡ xs ++ x ∷ []
    → IsReading one old next start ys count (k + 1) after f h
reads_on {A = A} one old now next start xs ys count k place after f g h x steady inv lt gives some same pushed = record {
  reached = λ known.
      let r = inv.reached known in
      let n : count - k ≡ suc (count - (k + 1)) = omega arith in
      reached_then start place after old now next (list_at one [] count) (list_at one xs (count - k)) (list_at one ys (count - (k + 1))) r
      (reached_more one xs ys (count - k) (count - (k + 1)) place after now next x steady r.told (gives r.told) n pushed);
  beginning = consumes_then _ _ _ inv.beginning some;
  failures_are = same ∙ inv.failures_are;
}

pub reads_fail : {A : Type 0} (one : List A → Input → Answer A) (old now : Option (List ℕ)) (start : ℕ) (xs : List A) (count k place f g : ℕ) (e : CertFault)
    → IsReading one old now start xs count k place f g → k < count
    → (is_some now ≡ true → Fails e (one xs (input_at place now))) → is_some old ≡ true → Fails e (list_at one [] count (input_at start old))
reads_fail {A = A} one old now start xs count k place f g fault.Read inv lt fails known = tt
reads_fail {A = A} one old now start xs count k place f g fault.Write inv lt fails known = fails (inv.reached known).told
reads_fail {A = A} one old now start xs count k place f g (fault.OutOfMemory error) inv lt fails known = tt
reads_fail {A = A} one old now start xs count k place f g (fault.Form p) inv lt fails known =
    let r = inv.reached known in
    reached_known start place old now (list_at one [] count) (list_at one xs (count - k)) r known ∙ stops one xs count k (input_at place now) p lt (fails r.told)

-- a read failed in the next value
pub reads_stop : {A : Type 0} (one : List A → Input → Answer A) (old now next : Option (List ℕ)) (start : ℕ) (xs : List A) (count k place f g : ℕ) (e : CertFault)
    → IsReading one old now start xs count k place f g → k < count → StopsAtEnd place now next (one xs) e → StopsAtEnd start old next (list_at one [] count) e
reads_stop {A = A} one old now next start xs count k place f g e inv lt stop =
    stops_there start place old now next (list_at one [] count) (list_at one xs (count - k)) e inv.reached
    (stops_next one xs (count - k) (count - (k + 1)) place now next e (omega arith) stop)

pub reads_all : {A : Type 0} (one : List A → Input → Answer A) (old now : Option (List ℕ)) (start : ℕ) (xs : List A) (count k place f g : ℕ)
    → IsReading one old now start xs count k place f g → count ≤ k → is_some old ≡ true → (is_some now ≡ true) × (list_at one [] count (input_at start old) ≡ Ok (xs, input_at place now))
reads_all {A = A} one old now start xs count k place f g inv le known =
    let r = inv.reached known in
    (r.told, reached_known start place old now (list_at one [] count) (list_at one xs (count - k)) r known ∙ is_done one xs count k (input_at place now) le)
