-- No condition on the tables of a file holds because memory ran out.
use Rattle.std.proofs.Common.{◌≡◌, Bool, true, false, ℕ, List, [], ◌∷◌, Option, None, Some, subst, ◌+◌, ◌*◌}
use Rattle.std.specs.List.{AllByRecursion}
use Rattle.std.specs.Option.{option_map}
use Rattle.tt_font.specs.declared.fault.FontFault.{FontFault}
use Rattle.tt_font.specs.declared.fault.FontFault.TheVariants as faults
use Rattle.tt_font.specs.declared.tag.Tag.{Tag}
use Rattle.tt_font.specs.Conditions.{Condition, IsOutOfMemory, directory_fault, ends_before, first, loca_fault, maxp_fault, maxp_is_short, misplaced_entry, missing, no_maxp_version, no_sfnt, optional_table_fault, outside, table_fault, unknown_format, unless}
use Rattle.tt_font.specs.Directory.{record_count}
use Rattle.tt_font.specs.FileFaults.{table_conditions, tables_fault}

abbrev NeverMemory : Condition → Type 0
NeverMemory c = (fault : FontFault) → c ≡ Some fault → IsOutOfMemory fault → ⊥

first_never : (cs : List Condition) → AllByRecursion NeverMemory cs → NeverMemory (first cs)
first_never [] all fault e wants = absurd cc
first_never (None ∷ cs) all fault e wants = first_never cs all.1 fault e wants
first_never (Some f ∷ cs) all fault e wants = all.0 fault e wants

some_never : (f : FontFault) → (IsOutOfMemory f → ⊥) → NeverMemory (Some f)
some_never f other fault e wants =
    let same : fault ≡ f = cc in
    other (subst IsOutOfMemory same wants)

unless_never : (test : Bool) (f : FontFault) → (IsOutOfMemory f → ⊥) → NeverMemory (unless test f)
unless_never true f other fault e wants = absurd cc
unless_never false f other fault e wants = some_never f other fault e wants

entry_never : (o : Option ℕ) → NeverMemory (option_map (λ i. faults.Loca i) o)
entry_never None fault e wants = absurd cc
entry_never (Some i) fault e wants = some_never (faults.Loca i) (λ never. never) fault e wants

directory_never : (bytes : List ℕ) → NeverMemory (directory_fault bytes)
unfolding directory_fault
directory_never bytes = first_never (ends_before 12 bytes ∷ no_sfnt bytes ∷ ends_before (12 + 16 * record_count bytes) bytes ∷ []) (unless_never _ _ (λ wants. wants), (unless_never _ _ (λ wants. wants), (unless_never _ _ (λ wants. wants), tt)))

table_never : (tag : Tag) (least : ℕ) (bytes : List ℕ) → NeverMemory (table_fault tag least bytes)
unfolding table_fault
table_never tag least bytes = first_never (missing tag bytes ∷ outside tag least 0xFFFF_FFFF bytes ∷ []) (unless_never _ _ (λ wants. wants), (unless_never _ _ (λ wants. wants), tt))

optional_never : (tag : Tag) (most : ℕ) (bytes : List ℕ) → NeverMemory (optional_table_fault tag most bytes)
unfolding optional_table_fault
optional_never tag most bytes = unless_never _ _ (λ wants. wants)

maxp_never : (maxp : List ℕ) → NeverMemory (maxp_fault maxp)
unfolding maxp_fault
maxp_never maxp = first_never (maxp_is_short 4 maxp ∷ no_maxp_version maxp ∷ maxp_is_short 32 maxp ∷ []) (unless_never _ _ (λ wants. wants), (unless_never _ _ (λ wants. wants), (unless_never _ _ (λ wants. wants), tt)))

loca_never : (format : ℕ) (loca glyf : List ℕ) (count : ℕ) → NeverMemory (loca_fault format loca glyf count)
unfolding loca_fault
loca_never format loca glyf count = first_never (unknown_format format ∷ option_map (λ i. faults.Loca i) (misplaced_entry format loca glyf (count + 1)) ∷ []) (unless_never _ _ (λ wants. wants), (entry_never _, tt))

pub tables_never : (bytes : List ℕ) → NeverMemory (tables_fault bytes)
unfolding tables_fault
tables_never bytes =
    let never : AllByRecursion NeverMemory (table_conditions bytes) = (
      directory_never _,
      (
        table_never _ _ _,
        (
          maxp_never _,
          (
            table_never _ _ _,
            (
              table_never _ _ _,
              (
                table_never _ _ _,
                (optional_never _ _ _, (optional_never _ _ _, (optional_never _ _ _, (loca_never _ _ _ _, tt)))),
              ),
            ),
          ),
        ),
      ),
    ) in
    first_never (table_conditions bytes) never
