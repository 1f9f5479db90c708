-- Readers that look at no byte past what they take.
use Rattle.std.proofs.Common.{◌≡◌, ℕ, zero, suc, ◌+◌, Bool, true, false, cond, List, [], ◌∷◌, ◌++◌, length, Option, Some, None, Ok, Err, refl, sym, ap, subst, ◌∙◌, append_assoc, arith}
use Rattle.std.proofs.lemmas.List.{length-append}
use Rattle.tt_cert.specs.Readers.{Answer, Input, and_then, given, list_at, made_of, place_after, ruled, unit, ◌>>=◌}
use Rattle.tt_cert.proofs.Codecs.{bind_ok, here, ok_is, unit_again, unit_takes}

-- a front of the input was taken, and is taken whatever follows it
pub record TakesOnly {A : Type 0} (read : Input → Answer A) (i : Input) (x : A) (j : Input) : Type 0 where
  pub front : List ℕ
  pub parts : i.bytes ≡ front ++ j.bytes
  pub further : (n : ℕ) → place_after j.place n ≡ place_after i.place (length front + n)
  pub again : (rest : List ℕ) → read (here i.place (front ++ rest)) ≡ Ok (x, here j.place rest)

pub record IsSteady {A : Type 0} (read : Input → Answer A) : Type 0 where
  pub takes : (i : Input) (x : A) (j : Input) → read i ≡ Ok (x, j) → TakesOnly read i x j

pub unit_steady : (n : ℕ) → IsSteady (unit n)
unit_steady n = record {
  takes = λ i u j e.
      let t = unit_takes n i u j e in
      let there : place_after i.place n ≡ j.place = ap (place_after i.place) (sym t.1) ∙ sym t.0.place in
      record {
        front = u;
        parts = t.0.parts;
        further = λ k. omega (arith, t.0.place);
        again = λ rest. unit_again n i.place u rest t.1 ∙ ap (λ (p : ℕ). Ok (u, here p rest)) there;
      };
}

pub done_steady : {A : Type 0} (x : A) → IsSteady (λ i. Ok (x, i))
done_steady {A} x = record {
  takes = λ i y j e.
      subst (λ (p : A × Input). TakesOnly (λ k. Ok (x, k)) i p.0 p.1) (ok_is (x, i) (y, j) e)
      (record { front = []; parts = refl; further = λ n. omega arith; again = λ rest. refl });
}

pub refused_steady : {A : Type 0} (place : ℕ) → IsSteady {A = A} (λ i. Err place)
refused_steady place = record { takes = λ i x j e. absurd cc }

pub given_steady : {A : Type 0} (place : ℕ) (o : Option A) → IsSteady (given place o)
given_steady place None = refused_steady place
given_steady place (Some x) = done_steady x

pub rule_steady : {A : Type 0} (b : Bool) (place : ℕ) (x : A) → IsSteady (λ i. cond b (Ok (x, i)) (Err place))
rule_steady true place x = done_steady x
rule_steady false place x = refused_steady place

-- a reader, and what is read after it
abbrev pub step : {A B : Type 0} → (Input → Answer A) → (ℕ → A → Input → Answer B) → Input → Answer B
step first next i = first i >>= (λ x. next i.place x.0 x.1)

pub step_steady : {A B : Type 0} (first : Input → Answer A) (next : ℕ → A → Input → Answer B) → IsSteady first → ((p : ℕ) (x : A) → IsSteady (next p x)) → IsSteady (step first next)
step_steady {A} {B} first next one two = record {
  takes = λ i x j e.
      let b = bind_ok (first i) (λ a. next i.place a.0 a.1) (x, j) e in
      let t = one.takes i b.0.0 b.0.1 b.1 in
      let s = (two i.place b.0.0).takes b.0.1 x j b.2 in
      record {
        front = t.front ++ s.front;
        parts = t.parts ∙ ap (λ (l : List ℕ). t.front ++ l) s.parts ∙ sym (append_assoc t.front s.front j.bytes);
        further = λ n.
            let long : length t.front + (length s.front + n) ≡ length (t.front ++ s.front) + n = omega (arith, length-append t.front s.front) in
            s.further n ∙ t.further (length s.front + n) ∙ ap (place_after i.place) long;
        again = λ rest. rw (append_assoc t.front s.front rest, t.again (s.front ++ rest)) (s.again rest);
      };
}

pub and_then_steady : {A B : Type 0} (first : Input → Answer A) (second : A → Input → Answer B) → IsSteady first → ((x : A) → IsSteady (second x)) → IsSteady (and_then first second)
and_then_steady {A} {B} first second one two =
    step_steady first (λ _ x. step (second x) (λ _ y j. Ok ((x, y), j))) one (λ _ x. step_steady (second x) (λ _ y j. Ok ((x, y), j)) (two x) (λ _ y. done_steady (x, y)))

pub made_of_steady : {A B : Type 0} (make : A → B) (read : Input → Answer A) → IsSteady read → IsSteady (made_of make read)
made_of_steady make read one = step_steady read (λ _ x j. Ok (make x, j)) one (λ _ x. done_steady (make x))

pub ruled_steady : {A : Type 0} (rule : A → Bool) (read : Input → Answer A) → IsSteady read → IsSteady (ruled rule read)
ruled_steady rule read one = step_steady read (λ p x j. cond (rule x) (Ok (x, j)) (Err p)) one (λ p x. rule_steady (rule x) p x)

pub list_steady : {A : Type 0} (one : List A → Input → Answer A) → ((before : List A) → IsSteady (one before)) → (n : ℕ) (before : List A) → IsSteady (list_at one before n)
unfolding list_at
list_steady {A = A} one each zero before = done_steady before
list_steady {A = A} one each (suc n) before =
    step_steady (one before) (λ _ x. list_at one (before ++ x ∷ []) n) (each before) (λ _ x. list_steady one each n (before ++ x ∷ []))
