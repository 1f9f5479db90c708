-- Readers with the texts of what they read: what is read is spelled so, and what is spelled so is read.
use Rattle.std.proofs.Common.{◌≡◌, ℕ, zero, suc, ◌+◌, ◌^◌, ◌<◌, ◌≤◌, Bool, true, false, cond, ltb, List, [], ◌∷◌, ◌++◌, length, take, drop, Option, Some, None, Result, Ok, Err, refl, sym, ap, subst, ◌∙◌, append_assoc, arith, inl, inr, append-nil}
use Rattle.std.specs.List.{flat_map}
use Rattle.std.proofs.lemmas.Bool.{cases_lt, ltb-false, le-ltb}
use Rattle.std.proofs.lemmas.List.{take_at, drop_at, take-append-drop, length-append, length-take, get_or-drop, get_or-take, get_or_past}
use Rattle.tt_cert.specs.Readers.{Answer, Input, and_then, given, list_at, made_of, place_after, ruled, unit, ◌>>=◌}
use Rattle.tt_cert.specs.Rules.{EachAfter}
use Rattle.tt_cert.specs.Answers.{AreBytes}

pub AreBytes-drop : (n : ℕ) (bytes : List ℕ) → AreBytes bytes → AreBytes (drop n bytes)
AreBytes-drop n bytes h i = rw get_or-drop (h (n + i))

pub AreBytes-take : (n : ℕ) (bytes : List ℕ) → AreBytes bytes → AreBytes (take n bytes)
AreBytes-take n bytes h i = elim (cases_lt i n) [
  | inl lt ↦ rw (get_or-take n bytes i 0 lt) (h i)
  | inr le ↦ rw (get_or_past (take n bytes) i 0 (omega (arith, length-take n bytes))) (omega arith)
]

-- a step that didn't fail
pub bind_ok : {A B : Type 0} (r : Result A ℕ) (f : A → Result B ℕ) (y : B) → (r >>= f) ≡ Ok y → (x : A) × (r ≡ Ok x) × (f x ≡ Ok y)
bind_ok (Ok x) f y e = (x, refl, e)
bind_ok (Err d) f y e = absurd cc

-- a test that was passed
pub guard_ok : {A : Type 0} (b : Bool) (d : ℕ) (x y : Result A ℕ) (z : A) → cond b (Err d) x ≡ Ok z → (b ≡ false) × (x ≡ Ok z)
guard_ok true d x y z e = absurd cc
guard_ok false d x y z e = (refl, e)

pub rule_ok : {A : Type 0} (b : Bool) (d : ℕ) (x : Result A ℕ) (z : A) → cond b x (Err d) ≡ Ok z → (b ≡ true) × (x ≡ Ok z)
rule_ok true d x z e = (refl, e)
rule_ok false d x z e = absurd cc

abbrev done : {A : Type 0} → A → Result A ℕ
done x = Ok x

pub ok_is : {A : Type 0} (x y : A) → done x ≡ done y → x ≡ y
ok_is x y e = cc

pub given_ok : {A : Type 0} (place : ℕ) (o : Option A) (rest : Input) (x : A) (j : Input) → given place o rest ≡ Ok (x, j) → (o ≡ Some x) × (rest ≡ j)
given_ok place None rest x j e = absurd cc
given_ok {A} place (Some y) rest x j e = let s = ok_is (y, rest) (x, j) e in (ap (λ (q : A × Input). Some q.0) s, ap (λ (q : A × Input). q.1) s)

-- what was taken from the front, and what is known of the rest
pub record Takes (i : Input) (front : List ℕ) (j : Input) : Type 0 where
  pub parts : i.bytes ≡ front ++ j.bytes
  pub place : j.place ≡ place_after i.place (length front)

pub Takes-then : (i : Input) (a : List ℕ) (j : Input) (b : List ℕ) (k : Input) → Takes i a j → Takes j b k → Takes i (a ++ b) k
Takes-then i a j b k p q = record {
  parts = p.parts ∙ ap (λ (t : List ℕ). a ++ t) q.parts ∙ sym (append_assoc a b k.bytes);
  place = omega (arith, p.place, q.place, length-append a b);
}

-- an input at a place
abbrev pub here : ℕ → List ℕ → Input
here place bytes = record { place = place; bytes = bytes }

pub unit_takes : (n : ℕ) (i : Input) (u : List ℕ) (j : Input) → unit n i ≡ Ok (u, j) → Takes i u j × (length u ≡ n) × (AreBytes i.bytes → AreBytes u × AreBytes j.bytes)
unit_takes n i u j e =
    let next : Input = here (place_after i.place n) (drop n i.bytes) in
    let g = guard_ok (ltb (length i.bytes) n) (place_after i.place (length i.bytes)) (Ok (take n i.bytes, next)) (Ok (u, j)) (u, j) e in
    let long : n ≤ length i.bytes = ltb-false _ _ g.0 in
    let len : length (take n i.bytes) ≡ n = omega (arith, length-take n i.bytes) in
    let taken : Takes i (take n i.bytes) next = record { parts = sym (take-append-drop n i.bytes); place = omega (arith, len) } in
    subst (λ (p : List ℕ × Input). Takes i p.0 p.1 × (length p.0 ≡ n) × (AreBytes i.bytes → AreBytes p.0 × AreBytes p.1.bytes)) (ok_is (take n i.bytes, next) (u, j) g.1)
    (taken, len, λ fits. (AreBytes-take n i.bytes fits, AreBytes-drop n i.bytes fits))

pub unit_again : (n place : ℕ) (front rest : List ℕ) → length front ≡ n → unit n (here place (front ++ rest)) ≡ Ok (front, here (place_after place n) rest)
unit_again n place front rest len =
    let long : ltb (length (front ++ rest)) n ≡ false = le-ltb _ _ (omega (arith, length-append front rest)) in
    rw (long, take_at front rest n len, drop_at front rest n len) refl

-- a reader, the text of each value, and which values have one
pub record IsCodec {A : Type 0} (read : Input → Answer A) (spell : A → List ℕ) (HasText : A → Type 0) : Type 0 where
  pub takes : (i : Input) (x : A) (j : Input) → read i ≡ Ok (x, j) → AreBytes i.bytes → i.place < 2 ^ 64 → Takes i (spell x) j × HasText x × AreBytes j.bytes
  pub again : (x : A) (place : ℕ) (rest : List ℕ) → HasText x → place < 2 ^ 64
      → read (here place (spell x ++ rest)) ≡ Ok (x, here (place_after place (length (spell x))) rest)

-- the same values have a text
pub codec_of : {A : Type 0} (read : Input → Answer A) (spell : A → List ℕ) (P Q : A → Type 0) → ((x : A) → P x → Q x) → ((x : A) → Q x → P x)
    → IsCodec read spell P → IsCodec read spell Q
codec_of read spell P Q to from codec = record {
  takes = λ i x j e bytes lt. let t = codec.takes i x j e bytes lt in (t.0, to x t.1, t.2);
  again = λ x place rest h lt. codec.again x place rest (from x h) lt;
}

pub and_then_codec : {A B : Type 0} (first : Input → Answer A) (second : A → Input → Answer B) (spell : A → List ℕ) (spell' : B → List ℕ) (P : A → Type 0) (Q : A → B → Type 0)
    → IsCodec first spell P → ((x : A) → IsCodec (second x) spell' (Q x)) → IsCodec (and_then first second) (λ p. spell p.0 ++ spell' p.1) (λ p. P p.0 × Q p.0 p.1)
and_then_codec {A} {B} first second spell spell' P Q one two = record {
  takes = λ i x j e bytes lt.
      let pair_with : A → B × Input → Answer (A × B) = λ a y. Ok ((a, y.0), y.1) in
      let b = bind_ok (first i) (λ a. second a.0 a.1 >>= pair_with a.0) (x, j) e in
      let c = bind_ok (second b.0.0 b.0.1) (pair_with b.0.0) (x, j) b.2 in
      let t = one.takes i b.0.0 b.0.1 b.1 bytes lt in
      let s = (two b.0.0).takes b.0.1 c.0.0 c.0.1 c.1 t.2 (omega (arith, t.0.place)) in
      subst (λ (r : (A × B) × Input). Takes i (spell r.0.0 ++ spell' r.0.1) r.1 × (P r.0.0 × Q r.0.0 r.0.1) × AreBytes r.1.bytes)
      (ok_is ((b.0.0, c.0.0), c.0.1) (x, j) c.2)
      (Takes-then i (spell b.0.0) b.0.1 (spell' c.0.0) c.0.1 t.0 s.0, (t.1, s.1), s.2);
  again = λ x place rest h lt.
      let after = place_after place (length (spell x.0)) in
      let n : place_after after (length (spell' x.1)) ≡ place_after place (length (spell x.0 ++ spell' x.1)) = omega (arith, length-append (spell x.0) (spell' x.1)) in
      rw (append_assoc (spell x.0) (spell' x.1) rest, one.again x.0 place (spell' x.1 ++ rest) h.0 lt, (two x.0).again x.1 after rest h.1 (omega arith), n) refl;
}

-- what is made of a value has the text of that value, where the one can be told from the other
pub made_of_codec : {A B : Type 0} (make : A → B) (unmake : B → A) (read : Input → Answer A) (spell : A → List ℕ) (P : A → Type 0) (Q : B → Type 0)
    → ((a : A) → P a → (unmake (make a) ≡ a) × Q (make a)) → ((b : B) → Q b → (make (unmake b) ≡ b) × P (unmake b)) → IsCodec read spell P
    → IsCodec (made_of make read) (λ b. spell (unmake b)) Q
made_of_codec {A} {B} make unmake read spell P Q back forth codec = record {
  takes = λ i x j e bytes lt.
      let b = bind_ok (read i) (λ a. Ok (make a.0, a.1)) (x, j) e in
      let t = codec.takes i b.0.0 b.0.1 b.1 bytes lt in
      let known = back b.0.0 t.1 in
      subst (λ (r : B × Input). Takes i (spell (unmake r.0)) r.1 × Q r.0 × AreBytes r.1.bytes) (ok_is (make b.0.0, b.0.1) (x, j) b.2)
      (subst (λ (a : A). Takes i (spell a) b.0.1) (sym known.0) t.0, known.1, t.2);
  again = λ x place rest h lt. let known = forth x h in rw (codec.again (unmake x) place rest known.1 lt, known.0) refl;
}

pub ruled_codec : {A : Type 0} (rule : A → Bool) (read : Input → Answer A) (spell : A → List ℕ) (P : A → Type 0) → IsCodec read spell P
    → IsCodec (ruled rule read) spell (λ x. P x × (rule x ≡ true))
ruled_codec {A} rule read spell P codec = record {
  takes = λ i x j e bytes lt.
      let b = bind_ok (read i) (λ a. cond (rule a.0) (Ok a) (Err i.place)) (x, j) e in
      let g = rule_ok (rule b.0.0) i.place (Ok b.0) (x, j) b.2 in
      let t = codec.takes i b.0.0 b.0.1 b.1 bytes lt in
      subst (λ (r : A × Input). Takes i (spell r.0) r.1 × (P r.0 × (rule r.0 ≡ true)) × AreBytes r.1.bytes) (ok_is b.0 (x, j) g.1) (t.0, (t.1, g.0), t.2);
  again = λ x place rest h lt. rw (codec.again x place rest h.0 lt, h.1) refl;
}

-- lists

list_takes : {A : Type 0} (one : List A → Input → Answer A) (spell : A → List ℕ) (P : List A → A → Type 0) → ((before : List A) → IsCodec (one before) spell (P before))
    → (n : ℕ) (before : List A) (i : Input) (all : List A) (j : Input) → list_at one before n i ≡ Ok (all, j) → AreBytes i.bytes → i.place < 2 ^ 64
    → (xs : List A) × (all ≡ before ++ xs) × (length xs ≡ n) × Takes i (flat_map spell xs) j × EachAfter P before xs × AreBytes j.bytes
unfolding list_at
list_takes {A = A} one spell P step zero before i all j e fits lt =
    let s = ok_is (before, i) (all, j) e in
    subst (λ (p : List A × Input). (xs : List A) × (p.0 ≡ before ++ xs) × (length xs ≡ 0) × Takes i (flat_map spell xs) p.1 × EachAfter P before xs × AreBytes p.1.bytes) s
    ([], sym (append-nil before), refl, record { parts = refl; place = omega arith }, tt, fits)
list_takes {A = A} one spell P step (suc n) before i all j e fits lt =
    let b = bind_ok (one before i) (λ x. list_at one (before ++ x.0 ∷ []) n x.1) (all, j) e in
    let x = b.0.0 in
    let k = b.0.1 in
    let s = (step before).takes i x k b.1 fits lt in
    let lt2 : k.place < 2 ^ 64 = omega (arith, s.0.place) in
    let r = list_takes one spell P step n (before ++ x ∷ []) k all j b.2 s.2 lt2 in
    (x ∷ r.0, r.1 ∙ append_assoc before (x ∷ []) r.0, ap suc r.2, Takes-then i (spell x) k (flat_map spell r.0) j s.0 r.3, (s.1, r.4), r.5)

pub list_again : {A : Type 0} (one : List A → Input → Answer A) (spell : A → List ℕ) (P : List A → A → Type 0) → ((before : List A) → IsCodec (one before) spell (P before))
    → (xs before : List A) (place : ℕ) (rest : List ℕ) → EachAfter P before xs → place < 2 ^ 64
    → list_at one before (length xs) (here place (flat_map spell xs ++ rest)) ≡ Ok (before ++ xs, here (place_after place (length (flat_map spell xs))) rest)
unfolding list_at
list_again {A = A} one spell P step [] before place rest h lt =
    let p : place_after place 0 ≡ place = omega arith in rw (append-nil before, p) refl
list_again {A = A} one spell P step (x ∷ xs) before place rest h lt =
    let others : List ℕ = flat_map spell xs in
    let after = place_after place (length (spell x)) in
    let again = list_again one spell P step xs (before ++ x ∷ []) after rest h.1 (omega arith) in
    let p : place_after after (length others) ≡ place_after place (length (spell x ++ others)) = omega (arith, length-append (spell x) others) in
    rw (append_assoc (spell x) others rest, (step before).again x place (others ++ rest) h.0 lt) (again ∙ rw (append_assoc before (x ∷ []) xs, p) refl)

-- a list after the number of its values
pub counted_codec : {A : Type 0} (count : Input → Answer ℕ) (spell_count : ℕ → List ℕ) (CountFits : ℕ → Type 0) (one : List A → Input → Answer A) (spell : A → List ℕ) (P : List A → A → Type 0)
    → IsCodec count spell_count CountFits → ((before : List A) → IsCodec (one before) spell (P before))
    → IsCodec (λ i. count i >>= (λ n. list_at one [] n.0 n.1)) (λ xs. spell_count (length xs) ++ flat_map spell xs) (λ xs. CountFits (length xs) × EachAfter P [] xs)
counted_codec {A} count spell_count CountFits one spell P counts each = record {
  takes = λ i x j e bytes lt.
      let b = bind_ok (count i) (λ n. list_at one [] n.0 n.1) (x, j) e in
      let t = counts.takes i b.0.0 b.0.1 b.1 bytes lt in
      let r = list_takes one spell P each b.0.0 [] b.0.1 x j b.2 t.2 (omega (arith, t.0.place)) in
      let whole = Takes-then i (spell_count b.0.0) b.0.1 (flat_map spell r.0) j t.0 r.3 in
      let same = sym r.1 in
      subst (λ (xs : List A). Takes i (spell_count (length xs) ++ flat_map spell xs) j × (CountFits (length xs) × EachAfter P [] xs) × AreBytes j.bytes) same
      (subst (λ (n : ℕ). Takes i (spell_count n ++ flat_map spell r.0) j × (CountFits n × EachAfter P [] r.0) × AreBytes j.bytes) (sym r.2) (whole, (t.1, r.4), r.5));
  again = λ x place rest h lt.
      let after = place_after place (length (spell_count (length x))) in
      let n : place_after after (length (flat_map spell x)) ≡ place_after place (length (spell_count (length x) ++ flat_map spell x)) =
      omega (arith, length-append (spell_count (length x)) (flat_map spell x)) in
      rw (append_assoc (spell_count (length x)) (flat_map spell x) rest, counts.again (length x) place (flat_map spell x ++ rest) h.0 lt)
      (list_again one spell P each x [] after rest h.1 (omega arith) ∙ rw n refl);
}
