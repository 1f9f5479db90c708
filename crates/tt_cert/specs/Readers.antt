-- Reading unit by unit. A unit that is incomplete is refused at the input's end, one that breaks a
-- rule at its own first byte.
use Rattle.std.specs.Prelude.{ℕ, zero, suc, ◌+◌, ◌-◌, ◌^◌, min, Bool, List, [], ◌∷◌, ◌++◌, length, take, drop, Option, Some, None, Result, Ok, Err, nat_lt, if◌then◌else◌}

-- how far reading has come: its place, which stops at the greatest number of 64 bits, and the bytes
-- from there on
pub record Input : Type 0 where
  pub place : ℕ
  pub bytes : List ℕ

abbrev pub place_after : ℕ → ℕ → ℕ
place_after place n = min (place + n) (2 ^ 64 - 1)

-- what reading gives: a value with the input after it, or the place of what is refused
abbrev pub Answer : Type 0 → Type 0
Answer A = Result (A × Input) ℕ

infixl 10 ◌>>=◌
abbrev pub ◌>>=◌ : {A B : Type 0} → Result A ℕ → (A → Result B ℕ) → Result B ℕ
(Ok x) >>= f = f x
(Err e) >>= f = Err e

-- a unit of n bytes
abbrev pub unit : ℕ → Input → Answer (List ℕ)
unit n i = if nat_lt (length i.bytes) n then Err (place_after i.place (length i.bytes))
    else Ok (take n i.bytes, record { place = place_after i.place n; bytes = drop n i.bytes })

-- the value that a unit at this place stands for; if it stands for none, the place is refused
abbrev pub given : {A : Type 0} → ℕ → Option A → Input → Answer A
given place None rest = Err place
given place (Some x) rest = Ok (x, rest)

-- a value, and then another one
abbrev pub and_then : {A B : Type 0} → (Input → Answer A) → (A → Input → Answer B) → Input
    → Answer (A × B)
and_then first second i = do
  x ← first i
  y ← second x.0 x.1
  Ok ((x.0, y.0), y.1)

-- a value that is made of what is read
abbrev pub made_of : {A B : Type 0} → (A → B) → (Input → Answer A) → Input → Answer B
made_of make read i = do
  x ← read i
  Ok (make x.0, x.1)

-- a value that keeps a rule; one that breaks it is refused at its first byte
abbrev pub ruled : {A : Type 0} → (A → Bool) → (Input → Answer A) → Input → Answer A
ruled rule read i = do
  x ← read i
  if rule x.0 then Ok x else Err i.place

-- the values before, and this many more, each of which is read given those before it
unfoldable pub list_at : {A : Type 0} → (List A → Input → Answer A) → List A → ℕ → Input
    → Answer (List A)
list_at one before zero i = Ok (before, i)
list_at one before (suc n) i = do
  x ← one before i
  list_at one (before ++ x.0 ∷ []) n x.1
