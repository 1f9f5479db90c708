-- What was read before a failed read, step by step.
use Rattle.std.proofs.Common.{◌≡◌, ℕ, zero, suc, ◌+◌, ◌-◌, ◌≤◌, Bool, true, cond, List, [], ◌∷◌, ◌++◌, length, Option, Some, None, is_some, Result, Ok, Err, refl, sym, ap, ◌∙◌, arith, append_assoc}
use Rattle.std.specs.Prelude.{IfErr}
use Rattle.std.proofs.lemmas.List.{length-append}
use Rattle.std.specs.Io.KnownBytes.{Consumes}
use Rattle.std.proofs.KnownBytes.{Consumes-nil, Consumes-trans}
use Rattle.tt_setting.specs.declared.cert_fault.CertFault.{CertFault}
use Rattle.tt_setting.specs.declared.cert_fault.CertFault.TheVariants as fault
use Rattle.tt_cert.specs.Answers.{StopsAtEnd, input_at}
use Rattle.tt_cert.specs.Readers.{Answer, Input, and_then, list_at, made_of, place_after, ruled, ◌>>=◌}
use Rattle.tt_cert.proofs.Codecs.{here}
use Rattle.tt_cert.proofs.Steady.{IsSteady, list_steady, step}

-- some beginning was read, and whatever follows it, what is left is read from there on
pub record HasRead {Y : Type 0} (place at : ℕ) (old now : Option (List ℕ)) (whole left : Input → Answer Y) : Type 0 where
  pub front : List ℕ
  pub consumed : Consumes old now front
  pub further : (n : ℕ) → place_after at n ≡ place_after place (length front + n)
  pub again : (rest : List ℕ) → whole (here place (front ++ rest)) ≡ left (here at rest)

-- the same of a source that tells its bytes
pub record Reached {Y : Type 0} (place at : ℕ) (old now : Option (List ℕ)) (whole left : Input → Answer Y) : Type 0 where
  pub told : is_some now ≡ true
  pub read : HasRead place at old now whole left

pub reached_none : {Y : Type 0} (place : ℕ) (old : Option (List ℕ)) (whole : Input → Answer Y) → is_some old ≡ true → Reached place place old old whole whole
reached_none place old whole told = record {
  told = told;
  read = record { front = []; consumed = Consumes-nil old; further = λ n. omega arith; again = λ rest. refl };
}

pub reached_then : {Y : Type 0} (place mid at : ℕ) (old now next : Option (List ℕ)) (whole more left : Input → Answer Y)
    → Reached place mid old now whole more → Reached mid at now next more left → Reached place at old next whole left
reached_then place mid at old now next whole more left one two =
    let a = one.read in
    let b = two.read in
    record {
      told = two.told;
      read = record {
        front = a.front ++ b.front;
        consumed = Consumes-trans old now next a.front b.front a.consumed b.consumed;
        further = λ n.
            let long : length a.front + (length b.front + n) ≡ length (a.front ++ b.front) + n = omega (arith, length-append a.front b.front) in
            b.further n ∙ a.further (length b.front + n) ∙ ap (place_after place) long;
        again = λ rest. ap (λ (l : List ℕ). whole (here place l)) (append_assoc a.front b.front rest) ∙ a.again (b.front ++ rest) ∙ b.again rest;
      };
    }

pub reached_known : {Y : Type 0} (place at : ℕ) (old now : Option (List ℕ)) (whole left : Input → Answer Y) → Reached place at old now whole left → is_some old ≡ true
    → whole (input_at place old) ≡ left (input_at at now)
reached_known place at None now whole left reached known = absurd cc
reached_known place at (Some xs) None whole left reached known = absurd reached.read.consumed
reached_known place at (Some xs) (Some ys) whole left reached known = ap (λ (l : List ℕ). whole (here place l)) reached.read.consumed ∙ reached.read.again ys

consumed_front : (old now : Option (List ℕ)) (place at : ℕ) (front : List ℕ) → is_some old ≡ true → is_some now ≡ true
    → (input_at place old).bytes ≡ front ++ (input_at at now).bytes → Consumes old now front
consumed_front None now place at front known told parts = tt
consumed_front (Some xs) None place at front known told parts = absurd cc
consumed_front (Some xs) (Some ys) place at front known told parts = parts

-- a value was read
pub reached_step : {A B : Type 0} (first : Input → Answer A) (next : ℕ → A → Input → Answer B) (place at : ℕ) (old now : Option (List ℕ)) (x : A) → IsSteady first
    → is_some old ≡ true → (is_some now ≡ true) × (first (input_at place old) ≡ Ok (x, input_at at now)) → Reached place at old now (step first next) (next place x)
reached_step first next place at old now x steady known was =
    let t = steady.takes (input_at place old) x (input_at at now) was.1 in
    record {
      told = was.0;
      read = record {
        front = t.front;
        consumed = consumed_front old now place at t.front known was.0 t.parts;
        further = t.further;
        again = λ rest. rw (t.again rest) refl;
      };
    }

-- a read failed after that
pub stops_there : {Y : Type 0} (place at : ℕ) (old now next : Option (List ℕ)) (whole left : Input → Answer Y) (e : CertFault)
    → (is_some old ≡ true → Reached place at old now whole left) → StopsAtEnd at now next left e → StopsAtEnd place old next whole e
stops_there place at old now next whole left (fault.Form p) reached stops = tt
stops_there place at old now next whole left (fault.OutOfMemory error) reached stops = tt
stops_there place at old now next whole left fault.Write reached stops = tt
stops_there place at old now next whole left fault.Read reached stops = λ known.
    let r = reached known in
    let a = r.read in
    let s = stops r.told in
    let there : place_after at (length s.front) ≡ place_after place (length (a.front ++ s.front)) =
    a.further (length s.front) ∙ ap (place_after place) (sym (length-append a.front s.front)) in
    record {
      front = a.front ++ s.front;
      consumed = Consumes-trans old now next a.front s.front a.consumed s.consumed;
      refused = a.again s.front ∙ s.refused ∙ ap (λ (p : ℕ). Err p) there;
    }

-- a read failed in the first step
pub stops_in : {A B : Type 0} (first : Input → Answer A) (next : ℕ → A → Input → Answer B) (place : ℕ) (old new : Option (List ℕ)) (e : CertFault)
    → StopsAtEnd place old new first e → StopsAtEnd place old new (step first next) e
stops_in first next place old new (fault.Form p) stops = tt
stops_in first next place old new (fault.OutOfMemory error) stops = tt
stops_in first next place old new fault.Write stops = tt
stops_in first next place old new fault.Read stops = λ known.
    let s = stops known in
    record { front = s.front; consumed = s.consumed; refused = rw s.refused refl }

-- a read failed in a step after the first
pub stops_after : {A B : Type 0} (first : Input → Answer A) (next : ℕ → A → Input → Answer B) (place at : ℕ) (old now new : Option (List ℕ)) (x : A) (e : CertFault) → IsSteady first
    → (is_some old ≡ true → (is_some now ≡ true) × (first (input_at place old) ≡ Ok (x, input_at at now)))
    → StopsAtEnd at now new (next place x) e → StopsAtEnd place old new (step first next) e
stops_after first next place at old now new x e steady was stops =
    stops_there place at old now new (step first next) (next place x) e (λ known. reached_step first next place at old now x steady known (was known)) stops

-- the same of what a last call returns
pub stops_last : {X A B : Type 0} (r : Result X CertFault) (first : Input → Answer A) (next : ℕ → A → Input → Answer B) (place at : ℕ) (old now new : Option (List ℕ)) (x : A) → IsSteady first
    → (is_some old ≡ true → (is_some now ≡ true) × (first (input_at place old) ≡ Ok (x, input_at at now)))
    → IfErr r (StopsAtEnd at now new (next place x)) → IfErr r (StopsAtEnd place old new (step first next))
stops_last (Ok y) first next place at old now new x steady was stops = tt
stops_last (Err e) first next place at old now new x steady was stops = stops_after first next place at old now new x e steady was stops

-- a read failed in the first of two values
pub stops_first : {A B : Type 0} (first : Input → Answer A) (second : A → Input → Answer B) (place : ℕ) (old new : Option (List ℕ)) (e : CertFault)
    → StopsAtEnd place old new first e → StopsAtEnd place old new (and_then first second) e
stops_first {A} {B} first second place old new e stops = stops_in first (λ _ x. step (second x) (λ _ y j. Ok ((x, y), j))) place old new e stops

-- a read failed in the second of two values
pub stops_second : {A B : Type 0} (first : Input → Answer A) (second : A → Input → Answer B) (place at : ℕ) (old now new : Option (List ℕ)) (x : A) (e : CertFault) → IsSteady first
    → (is_some old ≡ true → (is_some now ≡ true) × (first (input_at place old) ≡ Ok (x, input_at at now)))
    → StopsAtEnd at now new (second x) e → StopsAtEnd place old new (and_then first second) e
stops_second {A} {B} first second place at old now new x e steady was stops =
    stops_after first (λ _ x. step (second x) (λ _ y j. Ok ((x, y), j))) place at old now new x e steady was (stops_in (second x) (λ _ y j. Ok ((x, y), j)) at now new e stops)

pub stops_made : {A B : Type 0} (make : A → B) (read : Input → Answer A) (place : ℕ) (old new : Option (List ℕ)) (e : CertFault)
    → StopsAtEnd place old new read e → StopsAtEnd place old new (made_of make read) e
stops_made make read place old new e stops = stops_in read (λ _ x j. Ok (make x, j)) place old new e stops

pub stops_ruled : {A : Type 0} (rule : A → Bool) (read : Input → Answer A) (place : ℕ) (old new : Option (List ℕ)) (e : CertFault)
    → StopsAtEnd place old new read e → StopsAtEnd place old new (ruled rule read) e
stops_ruled rule read place old new e stops = stops_in read (λ p x j. cond (rule x) (Ok (x, j)) (Err p)) place old new e stops

-- one more value of a list was read
pub reached_more : {A : Type 0} (one : List A → Input → Answer A) (xs ys : List A) (n m place at : ℕ) (old now : Option (List ℕ)) (x : A) → IsSteady (one xs) → is_some old ≡ true
    → (is_some now ≡ true) × (one xs (input_at place old) ≡ Ok (x, input_at at now)) → n ≡ suc m → ys ≡ xs ++ x ∷ [] → Reached place at old now (list_at one xs n) (list_at one ys m)
unfolding list_at
reached_more {A = A} one xs ys n m place at old now x steady known was n_is pushed =
    let next : ℕ → A → Input → Answer (List A) = λ _ y. list_at one (xs ++ y ∷ []) m in
    let r : Reached place at old now (step (one xs) next) (list_at one (xs ++ x ∷ []) m) = reached_step (one xs) next place at old now x steady known was in
    rw (n_is, pushed) r

-- a read failed in the next value of a list
pub stops_next : {A : Type 0} (one : List A → Input → Answer A) (xs : List A) (n m place : ℕ) (old new : Option (List ℕ)) (e : CertFault) → n ≡ suc m
    → StopsAtEnd place old new (one xs) e → StopsAtEnd place old new (list_at one xs n) e
unfolding list_at
stops_next {A = A} one xs n m place old new e n_is stops =
    let next : ℕ → A → Input → Answer (List A) = λ _ y. list_at one (xs ++ y ∷ []) m in
    let s : StopsAtEnd place old new (step (one xs) next) e = stops_in (one xs) next place old new e stops in
    rw n_is s

bind_split : {A B C : Type 0} (r : Answer A) (f : A × Input → Answer C) (g : A × Input → Answer B) (h : B × Input → Answer C) → ((x : A × Input) → f x ≡ (g x >>= h))
    → (r >>= f) ≡ ((r >>= g) >>= h)
bind_split (Ok x) f g h same = same x
bind_split (Err p) f g h same = refl

-- a list is read as its first part, and then the rest
pub list_split : {A : Type 0} (one : List A → Input → Answer A) (a b : ℕ) (xs : List A) (i : Input) → list_at one xs (a + b) i ≡ step (list_at one xs a) (λ _ ys. list_at one ys b) i
unfolding list_at
list_split {A = A} one zero b xs i = let e : 0 + b ≡ b = omega arith in rw e refl
list_split {A = A} one (suc a) b xs i =
    let e : suc a + b ≡ suc (a + b) = omega arith in
    rw e (bind_split (one xs i) (λ x. list_at one (xs ++ x.0 ∷ []) (a + b) x.1) (λ x. list_at one (xs ++ x.0 ∷ []) a x.1) (λ y. list_at one y.0 b y.1)
    (λ x. list_split one a b (xs ++ x.0 ∷ []) x.1))

first_part : {A : Type 0} (one : List A → Input → Answer A) (xs : List A) (n a : ℕ) → a ≤ n → (i : Input) → step (list_at one xs a) (λ _ ys. list_at one ys (n - a)) i ≡ list_at one xs n i
first_part one xs n a le i =
    let all : a + (n - a) ≡ n = omega arith in
    sym (list_split one a (n - a) xs i) ∙ ap (λ (k : ℕ). list_at one xs k i) all

stops_same : {Y : Type 0} (place : ℕ) (old new : Option (List ℕ)) (whole other : Input → Answer Y) (e : CertFault) → ((i : Input) → whole i ≡ other i)
    → StopsAtEnd place old new whole e → StopsAtEnd place old new other e
stops_same place old new whole other (fault.Form p) same stops = tt
stops_same place old new whole other (fault.OutOfMemory error) same stops = tt
stops_same place old new whole other fault.Write same stops = tt
stops_same place old new whole other fault.Read same stops = λ known.
    let s = stops known in
    record { front = s.front; consumed = s.consumed; refused = sym (same (input_at place (Some s.front))) ∙ s.refused }

-- a read failed in the first part of a list
pub stops_part : {A : Type 0} (one : List A → Input → Answer A) (xs : List A) (n a place : ℕ) (old new : Option (List ℕ)) (e : CertFault) → a ≤ n
    → StopsAtEnd place old new (list_at one xs a) e → StopsAtEnd place old new (list_at one xs n) e
stops_part one xs n a place old new e le stops =
    stops_same place old new (step (list_at one xs a) (λ _ ys. list_at one ys (n - a))) (list_at one xs n) e (first_part one xs n a le)
    (stops_in (list_at one xs a) (λ _ ys. list_at one ys (n - a)) place old new e stops)

-- the first part of a list was read
pub reached_part : {A : Type 0} (one : List A → Input → Answer A) (xs ys : List A) (n a place at : ℕ) (old now : Option (List ℕ)) → ((before : List A) → IsSteady (one before)) → a ≤ n
    → is_some old ≡ true → (is_some now ≡ true) × (list_at one xs a (input_at place old) ≡ Ok (ys, input_at at now)) → Reached place at old now (list_at one xs n) (list_at one ys (n - a))
reached_part one xs ys n a place at old now each le known was =
    let r = reached_step (list_at one xs a) (λ _ zs. list_at one zs (n - a)) place at old now ys (list_steady one each a xs) known was in
    let h = r.read in
    record {
      told = r.told;
      read = record {
        front = h.front;
        consumed = h.consumed;
        further = h.further;
        again = λ rest. sym (first_part one xs n a le (here place (h.front ++ rest))) ∙ h.again rest;
      };
    }
