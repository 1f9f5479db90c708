-- No condition on a face is that memory ran out.
use Rattle.std.specs.Option.{option_map, option_or}
use Rattle.std.proofs.Common.{◌≡◌, ℕ, List, Bool, true, false, Option, None, Some, subst}
use Rattle.tt_collection.specs.declared.fault.CollectionFault.{CollectionFault}
use Rattle.tt_collection.specs.declared.fault.CollectionFault.TheVariants as faults
use Rattle.tt_collection.specs.Headers.{directory_of, face_count}
use Rattle.tt_collection.specs.CollectionFaults.{Condition, IsOutOfMemory, directory_fault, face_fault, first_misfit, unless}

-- the condition's fault isn't that memory ran out
abbrev IsOfBytes : Condition → Type 0
IsOfBytes condition = (fault : CollectionFault) → condition ≡ Some fault → IsOutOfMemory fault → ⊥

none_is : IsOfBytes None
none_is fault e memory = absurd (cc)

some_is : (told : CollectionFault) → (IsOutOfMemory told → ⊥) → IsOfBytes (Some told)
some_is told not_memory fault e memory = let same : fault ≡ told = cc in not_memory (subst IsOutOfMemory same memory)

unless_is : (test : Bool) (told : CollectionFault) → (IsOutOfMemory told → ⊥) → IsOfBytes (unless test told)
unless_is true told not_memory = none_is
unless_is false told not_memory = some_is told not_memory

or_is : (a b : Condition) → IsOfBytes a → IsOfBytes b → IsOfBytes (option_or a b)
or_is None b first second = second
or_is (Some told) b first second = first

misfit_is : (number : ℕ) (o : Option ℕ) → IsOfBytes (option_map (λ i. faults.OffsetTooLarge number i) o)
misfit_is number None = none_is
misfit_is number (Some i) = some_is (faults.OffsetTooLarge number i) (λ h. h)

directory_is : (number : ℕ) (d : List ℕ) → IsOfBytes (directory_fault number d)
unfolding directory_fault
directory_is number d =
    or_is _ _ (unless_is _ (faults.DirectoryOutside number) (λ h. h)) (or_is _ None (misfit_is number (first_misfit d)) none_is)

-- a face's fault isn't that memory ran out
pub face_fault_is_of_bytes : (number : ℕ) (bytes : List ℕ) (fault : CollectionFault) → face_fault number bytes ≡ Some fault → IsOutOfMemory fault → ⊥
unfolding face_fault
face_fault_is_of_bytes number bytes =
    or_is _ _ (unless_is _ (faults.MissingFace number (face_count bytes)) (λ h. h))
    (or_is _ None (directory_is number (directory_of number bytes)) none_is)
