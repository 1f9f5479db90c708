-- Bytes that are read ahead are skipped by reading them.
use Rattle.std.proofs.Common.{◌≡◌, ℕ, ◌+◌, ◌-◌, ◌<◌, ◌≤◌, List, [], ◌∷◌, ◌++◌, Option, Ok, Err, drop, length, take, sym, ap, subst, ◌∙◌, arith, drop-drop}
use Rattle.std.specs.Io.KnownBytes.{Consumes}
use Rattle.std.proofs.KnownBytes.{Consumes-trans}
use Rattle.std.proofs.lemmas.List.{length-drop, length-take}
use lib.Seq.{take-add}
use Rattle.tt_stream.specs.Reads.{GivesAhead}
use Rattle.tt_stream.specs.declared.ReadFailed.{ReadFailed}

-- what a loop keeps that skips `count` bytes, of which some are left to skip
pub record IsSkipped (old new : Option (List ℕ)) (ahead ahead_now : List ℕ) (failures failures_now count left : ℕ) : Type 0 where
  pub few : left ≤ count
  pub bytes : Consumes old new (take (count - left) ahead)
  pub rest : ahead_now ≡ drop (count - left) ahead
  pub failures_same : failures_now ≡ failures

-- a read doesn't fail where bytes are ahead
pub never_fails : (failed : ReadFailed) (ahead ahead_now buf : List ℕ) → 0 < length ahead → GivesAhead (Err failed) ahead ahead_now buf → ⊥
never_fails failed [] ahead_now buf some gives = omega (arith, some)
never_fails failed (byte ∷ ahead) ahead_now buf some gives = gives

-- how many bytes such a read gives
gives_some : (n : ℕ) (ahead ahead_now buf : List ℕ) → 0 < length ahead → GivesAhead (Ok n) ahead ahead_now buf
    → (n ≤ length buf) × (take n buf ≡ take n ahead) × (ahead_now ≡ drop n ahead)
gives_some n [] ahead_now buf some gives = absurd (never some)
  where
    never : 0 < 0 → ⊥
    never lt = omega (arith, lt)
gives_some n (byte ∷ ahead) ahead_now buf some gives = (omega (arith, gives.0), gives.1, gives.2)

-- a part of a buffer is no longer than it was cut to
pub part_fits : (room left : ℕ) (whole buf : List ℕ) → length buf ≡ length (take room whole) → room ≤ left → length buf ≤ left
part_fits room left whole buf part few = omega (arith, part, length-take room whole)

-- a read takes some more of them
pub skipped_more : (old mid new : Option (List ℕ)) (ahead ahead_then ahead_now buf : List ℕ) (failures failures_then failures_now count left n : ℕ)
    → IsSkipped old mid ahead ahead_then failures failures_then count left → count ≤ length ahead → 0 < left → length buf ≤ left
    → GivesAhead (Ok n) ahead_then ahead_now buf → Consumes mid new (take n buf) → failures_now ≡ failures_then
    → IsSkipped old new ahead ahead_now failures failures_now count (left - n)
skipped_more old mid new ahead ahead_then ahead_now buf failures failures_then failures_now count left n before within some room gives consumed same =
    let long : 0 < length ahead_then = omega (arith, before.few, ap length before.rest, length-drop (count - left) ahead) in
    let given = gives_some n ahead_then ahead_now buf long gives in
    let taken : (count - left) + n ≡ count - (left - n) = omega (arith, before.few, given.0) in
    let bytes : take n buf ≡ take n (drop (count - left) ahead) = given.1 ∙ ap (take n) before.rest in
    record {
      few = omega (arith, before.few);
      bytes = subst (Consumes old new) (ap (λ l. take (count - left) ahead ++ l) bytes ∙ sym (take-add (count - left) n ahead) ∙ ap (λ k. take k ahead) taken)
          (Consumes-trans old mid new (take (count - left) ahead) (take n buf) before.bytes consumed);
      rest = given.2 ∙ ap (drop n) before.rest ∙ drop-drop n (count - left) ahead ∙ ap (λ k. drop k ahead) taken;
      failures_same = same ∙ before.failures_same;
    }
