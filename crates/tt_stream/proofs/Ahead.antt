-- Bytes that are read ahead.
use Rattle.std.proofs.Common.{◌≡◌, ◌≢◌, ℕ, ◌+◌, ◌-◌, ◌≤◌, List, [], ◌∷◌, ◌++◌, Option, Some, None, Result, Ok, slice_range, length, take, drop, sym, ap, ◌∙◌, arith, refl, append_assoc, length-take, drop-drop, take-append-drop, subst, take_at}
use Rattle.std.proofs.lemmas.List.{drop-take, take-take}
use Rattle.std.proofs.Math.Seq.{take-length}
use Rattle.std.specs.Prelude.{IfSome, min}
use Rattle.std.specs.Io.{StartsWith}
use Rattle.std.specs.Io.KnownBytes.{Consumes, IsAtEnd, Keeps, prepend_known}
use Rattle.tt_stream.specs.Reads.{GivesAhead}
use Rattle.tt_stream.specs.declared.ReadFailed.{ReadFailed}

pub slice_range-skip : (xs : List ℕ) (a e n : ℕ) → n ≤ length (slice_range xs a e) → slice_range xs (a + n) e ≡ drop n (slice_range xs a e)
slice_range-skip xs a e n h =
    let within : n ≤ e - a = omega (arith, length-take (e - a) (drop a xs)) in
    let whole : n + (e - (a + n)) ≡ e - a = omega arith in
    ap (take (e - (a + n))) (sym (drop-drop n a xs)) ∙ sym (drop-take n (e - (a + n)) (drop a xs)) ∙ ap (λ k. drop n (take k (drop a xs))) whole

-- so many of the bytes that are kept are taken
pub prepend_known-skipped : (a : Option (List ℕ)) (old new : List ℕ) (n : ℕ) → new ≡ drop n old → Consumes (prepend_known old a) (prepend_known new a) (take n old)
prepend_known-skipped None old new n e = tt
prepend_known-skipped (Some x) old new n e = rw (e, ← append_assoc (take n old) (drop n old) x, take-append-drop n old) refl

pub kept_then : (a b c : Option (List ℕ)) (bytes : List ℕ) → Keeps a b → Consumes b c bytes → Consumes a c bytes
kept_then None b c bytes p q = tt
kept_then (Some x) None c bytes p q = absurd p
kept_then (Some x) (Some y) None bytes p q = absurd q
kept_then (Some x) (Some y) (Some z) bytes p q = sym p ∙ q

pub prepend_known-end : (a : Option (List ℕ)) (bytes : List ℕ) → bytes ≡ [] → IsAtEnd a → IsAtEnd (prepend_known bytes a)
prepend_known-end None bytes none end = tt
prepend_known-end (Some x) bytes none end = ap (λ l. l ++ x) none ∙ end

-- a read where no bytes are ahead
pub gives_any : (r : Result ℕ ReadFailed) (ahead ahead_now buf : List ℕ) → ahead ≡ [] → GivesAhead r ahead ahead_now buf
gives_any r ahead ahead_now buf none = rw none tt

-- a read of bytes of which some are kept before, which is only where none were ahead
pub gives_kept : (ahead filled left buf : List ℕ) (n : ℕ) → (ahead ≢ [] → filled ≡ ahead) → n ≡ min (length buf) (length filled) → take n buf ≡ take n filled
    → left ≡ drop n filled → GivesAhead (Ok n) ahead left buf
gives_kept [] filled left buf n same count front rest = tt
gives_kept (byte ∷ ahead) filled left buf n same count front rest =
    let is = same (λ none. omega (arith, ap length none)) in (
      count ∙ ap (λ l. min (length buf) (length l)) is,
      front ∙ ap (take n) is,
      rest ∙ ap (drop n) is,
    )

-- all bytes are a beginning of them
pub starts_whole : (ahead shown : List ℕ) → shown ≡ ahead → StartsWith ahead shown
starts_whole ahead shown same = subst (StartsWith ahead) (sym same) (take-length ahead)

-- what is left begins with the bytes that are ahead
pub starts_known : (known : Option (List ℕ)) (ahead shown : List ℕ) → shown ≡ ahead → IfSome (prepend_known ahead known) (λ bytes. StartsWith bytes shown)
starts_known None ahead shown same = tt
starts_known (Some rest) ahead shown same = subst (StartsWith (ahead ++ rest)) (sym same) (take_at ahead rest (length ahead) refl)

pub starts_part : (ahead shown : List ℕ) (n : ℕ) → StartsWith ahead shown → n ≤ length shown → take n ahead ≡ take n shown
starts_part ahead shown n starts few = sym (take-take n (length shown) ahead few) ∙ ap (take n) starts
