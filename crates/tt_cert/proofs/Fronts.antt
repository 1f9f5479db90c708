-- A value whose text is at the front of what is read ahead.
use Rattle.std.proofs.Common.{◌≡◌, ℕ, ◌-◌, ◌^◌, ◌<◌, ◌≤◌, List, ◌++◌, length, take, drop, Option, Some, None, Ok, refl, sym, ap, subst, ◌∙◌, arith}
use Rattle.std.specs.Io.KnownBytes.{Consumes}
use Rattle.std.specs.Int.{w16, w32, from_be_bytes}
use Rattle.std.proofs.lemmas.List.{length-append, length-take, take-append-drop, take_at}
use Rattle.std.proofs.lemmas.Nat.{be_bytes_2, be_bytes_4}
use Rattle.tt_cert.specs.Answers.{AreBytes, Gives, input_at}
use Rattle.tt_cert.specs.Text.{long, word}
use Rattle.tt_cert.specs.Readers.{Answer, Input, place_after}
use Rattle.tt_cert.proofs.Codecs.{AreBytes-take, IsCodec, here}

-- its text is taken, and it is what is read there
pub front_read : {A : Type 0} (read : Input → Answer A) (spell : A → List ℕ) (HasText : A → Type 0) (old new : Option (List ℕ)) (ahead rest : List ℕ) (x : A) (place after width : ℕ)
    → IsCodec read spell HasText → ahead ≡ spell x ++ rest → HasText x → width ≡ length ahead - length rest → Consumes old new (take width ahead) → place < 2 ^ 64 → after ≡ place_after place width
    → Gives (λ y. y) old new (Ok (x, after)) (read (input_at place old))
front_read read spell HasText None new ahead rest x place after width codec begins fits width_is consumed lt after_is = λ known. absurd cc
front_read read spell HasText (Some xs) None ahead rest x place after width codec begins fits width_is consumed lt after_is = λ known. absurd consumed
front_read {A} read spell HasText (Some xs) (Some ys) ahead rest x place after width codec begins fits width_is consumed lt after_is = λ known.
    let long : length (spell x) ≡ width = omega (arith, width_is, ap length begins, length-append (spell x) rest) in
    let front : take width ahead ≡ spell x = ap (take width) begins ∙ take_at (spell x) rest width long in
    let there : place_after place (length (spell x)) ≡ after = ap (place_after place) long ∙ sym after_is in (
      refl,
      ap (λ (l : List ℕ). read (here place l)) (consumed ∙ ap (λ (l : List ℕ). l ++ ys) front) ∙ codec.again x place ys fits lt
          ∙ ap (λ (p : ℕ). Ok (x, here p ys)) there,
    )

-- bytes of a number
pub word_front : (bytes unit rest : List ℕ) (n : ℕ) → AreBytes bytes → 2 ≤ length bytes → unit ≡ take 2 bytes → rest ≡ drop 2 bytes → n ≡ from_be_bytes w16 unit → bytes ≡ word n ++ rest
word_front bytes unit rest n are two unit_is rest_is n_is =
    let back : word n ≡ unit = be_bytes_2 unit n (omega (arith, ap length unit_is, length-take 2 bytes)) (subst AreBytes (sym unit_is) (AreBytes-take 2 bytes are)) n_is in
    sym (take-append-drop 2 bytes) ∙ ap (λ (l : List ℕ). l ++ drop 2 bytes) (sym unit_is ∙ sym back) ∙ ap (λ (l : List ℕ). word n ++ l) (sym rest_is)

pub long_front : (bytes unit rest : List ℕ) (n : ℕ) → AreBytes bytes → 4 ≤ length bytes → unit ≡ take 4 bytes → rest ≡ drop 4 bytes → n ≡ from_be_bytes w32 unit → bytes ≡ long n ++ rest
long_front bytes unit rest n are four unit_is rest_is n_is =
    let back : long n ≡ unit = be_bytes_4 unit n (omega (arith, ap length unit_is, length-take 4 bytes)) (subst AreBytes (sym unit_is) (AreBytes-take 4 bytes are)) n_is in
    sym (take-append-drop 4 bytes) ∙ ap (λ (l : List ℕ). l ++ drop 4 bytes) (sym unit_is ∙ sym back) ∙ ap (λ (l : List ℕ). long n ++ l) (sym rest_is)
